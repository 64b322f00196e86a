-- What of a message the end of a command owes: an EXISTS to any class, an EXPUNGE to class 1 alone; and each is of what waits. Assumes nothing.
use Rattle.std.specs.Prelude.{◌≡◌, refl, List, [], ◌∷◌, Bool, true, false, not, cond, ◌&&◌, ℕ, ◌+◌, eqb, length}
use Rattle.std.proofs.Common.{sym, ◌∙◌, eqb-true}
use Rattle.model.specs.Lists.{anyb}
use Rattle.model.specs.Laws.{tf, and_l, and_r, or-false}
use Rattle.model.specs.Memory.{Memory, selected_box, both_rights, uid_of, expunged, marked}
use Rattle.model.specs.Lines.{Line, expunge}
use Rattle.model.specs.View.{announced, selected_messages, view, unannounced, expunge_lines, flags_line, marked_lines, exists_line, remainder, owed_lines, owed}
use Rattle.model.specs.Fates.{arrival, removal, tells, is_exists, is_removal}
use Rattle.model.specs.Due.{Account, waiting}
use Rattle.model.specs.declared.Message.{Message}
use Rattle.demands.specs.Lasting.Law.{Law}
use Rattle.demands.specs.Ledger.Each.{all_to, all-kept, any_passed, any_fact}
use Rattle.demands.specs.Ledger.Books.{Books, Booked, all_booked, exists_some}
use Rattle.demands.specs.Ledger.Occasions.{any-expunge, owed_parts}

-- no FETCH is an EXISTS or an EXPUNGE; no EXPUNGE is an EXISTS
none-marked : (p : Line → Bool) → ((n : ℕ) (e : Message) → p (flags_line n e) ≡ false) → (n : ℕ) (v : List Message) → anyb p (marked_lines n v) ≡ false
unfolding marked_lines
none-marked p h n [] = refl
none-marked p h n (e ∷ v) = go (marked e) (none-marked p h (n + 1) v)
  where
    go : (c : Bool) → anyb p (marked_lines (n + 1) v) ≡ false → anyb p (cond c (flags_line n e ∷ marked_lines (n + 1) v) (marked_lines (n + 1) v)) ≡ false
    go true ih = rw (h n e) ih
    go false ih = ih

none-expunge : (n : ℕ) (v : List Message) → anyb is_exists (expunge_lines n v) ≡ false
unfolding expunge_lines
none-expunge n [] = refl
none-expunge n (e ∷ v) = go (expunged e) (none-expunge n v) (none-expunge (n + 1) v)
  where
    go : (c : Bool) → anyb is_exists (expunge_lines n v) ≡ false → anyb is_exists (expunge_lines (n + 1) v) ≡ false
        → anyb is_exists (cond c (expunge (record { 0 = n }) e.uid ∷ expunge_lines n v) (expunge_lines (n + 1) v)) ≡ false
    go true x y = x
    go false x y = y

none-exists : (u n : ℕ) (l : List Message) → anyb (is_removal u) (exists_line n l) ≡ false
none-exists u n [] = refl
none-exists u n (e ∷ l) = refl

module _ (m : Memory) (c u : ℕ) where
  -- with both rights an EXISTS, where a message is unannounced
  pub tells_arrival : tells (owed m c) (arrival u) ≡ (both_rights (selected_box m) && anyb (λ (e : Message). true) (unannounced m))
  tells_arrival = go (both_rights (selected_box m))
    where
      gone : (d : Bool) → anyb is_exists (cond d (expunge_lines 1 (view m)) []) ≡ false
      gone true = none-expunge 1 (view m)
      gone false = refl

      go : (r : Bool) → anyb is_exists (cond r (owed_lines m c) []) ≡ (r && anyb (λ (e : Message). true) (unannounced m))
      go true = owed_parts m is_exists c
          ∙ rw (gone (eqb c 1), exists_some (length (remainder m c)) (unannounced m), none-marked is_exists (λ n e. refl) 1 (remainder m c))
          (or-false (anyb (λ (e : Message). true) (unannounced m)))
      go false = refl

  -- to class 1 the EXPUNGE of an expunged message of the view
  pub tells_removal : tells (owed m c) (removal u) ≡ (both_rights (selected_box m) && (eqb c 1 && anyb (λ (e : Message). expunged e && eqb u (uid_of e)) (view m)))
  tells_removal = go (both_rights (selected_box m))
    where
      gone : (d : Bool) → anyb (is_removal u) (cond d (expunge_lines 1 (view m)) []) ≡ (d && anyb (λ (e : Message). expunged e && eqb u (uid_of e)) (view m))
      gone true = any-expunge u 1 (view m)
      gone false = refl

      go : (r : Bool) → anyb (is_removal u) (cond r (owed_lines m c) []) ≡ (r && (eqb c 1 && anyb (λ (e : Message). expunged e && eqb u (uid_of e)) (view m)))
      go true = owed_parts m (is_removal u) c
          ∙ rw (gone (eqb c 1), none-exists u (length (remainder m c)) (unannounced m), none-marked (is_removal u) (λ n e. refl) 1 (remainder m c))
          (or-false (eqb c 1 && anyb (λ (e : Message). expunged e && eqb u (uid_of e)) (view m)))
      go false = refl

  -- ---- in agreement with the account
  module _ (k : Law m) (a : Account) (b : Books m a) where
    pub removal-waits : tells (owed m c) (removal u) ≡ true → waiting a.fates (removal u) ≡ true
    removal-waits h =
        let x = sym tells_removal ∙ h in
        let y = and_r (eqb c 1) _ (and_r (both_rights (selected_box m)) _ x) in
        any_fact _ (λ (e : Message). expunged e && eqb u (uid_of e)) (all_to one (all-kept (announced m) (all_booked m k a b))) y
      where
        one : (e : Message) → Booked m a e → (expunged e && eqb u (uid_of e)) ≡ true → waiting a.fates (removal u) ≡ true
        one e q g = rw (eqb-true u (uid_of e) (and_r (expunged e) _ g)) (q.gone ∙ and_l (expunged e) _ g)

    pub arrival-waits : tells (owed m c) (arrival u) ≡ true → ((v : ℕ) → waiting a.fates (arrival v) ≡ false) → ⊥
    arrival-waits h n =
        let x = and_r (both_rights (selected_box m)) _ (sym tells_arrival ∙ h) in
        any_fact ⊥ (λ (e : Message). not (announced m e)) (all_to one (all_booked m k a b)) (sym (any_passed (λ (e : Message). not (announced m e)) (selected_messages m)) ∙ x)
      where
        one : (e : Message) → Booked m a e → not (announced m e) ≡ true → ⊥
        one e q g = tf (waiting a.fates (arrival (uid_of e))) (q.unseen ∙ g) (n (uid_of e))
