-- Demand 2 over streams, proved of the definitions: Account.Demand2 holds, from any start. Assumes nothing.
use Rattle.std.specs.Prelude.{◌≡◌, refl, List, [], ◌∷◌, ◌++◌, map, Bool, true, false, cond, ℕ, suc, ◌+◌, leb, length}
use Rattle.std.proofs.Common.{sym, ◌∙◌, ap, subst, arith, length-append}
use Rattle.std.proofs.lemmas.List.{length-map}
use Rattle.model.specs.Lists.{anyb}
use Rattle.model.specs.Records.{record_of}
use Rattle.model.specs.Memory.{Memory, held, selected_box, both_rights}
use Rattle.model.specs.Lawful.{queue_ok}
use Rattle.model.specs.Call.{call}
use Rattle.model.specs.Hidden.{Octets, Starts}
use Rattle.model.specs.Fates.{Debt, refused, reported, waits, waits_still, tells}
use Rattle.model.specs.Seen.{apparent, Seen, seen, history, final, setting_of}
use Rattle.model.specs.Due.{Account, opened}
use Rattle.model.specs.Account.{front, settle, own_fate, posted, entered, account, account_of, fate_at, Occasion, at_end, at_set, losses, overflows, Cleared, Rested, Demand2}
use Rattle.demands.specs.Ledger.Settings.{call-setting}
use Rattle.demands.specs.Ledger.Sent.{call_sent}
use Rattle.demands.specs.Ledger.Streams.{Stands, stands_on, opening, call_kept}
use Rattle.demands.specs.Ledger.Silence.{next_fate, same_fate, told_at_end, told_by-front, told_at-set, nothing-waits, none-waiting, no-losses}

-- ---- a stream after a stream
final-append : (m : Memory) (os ps : List Octets) → final m (os ++ ps) ≡ final (final m os) ps
final-append m [] ps = refl
final-append m (o ∷ os) ps = final-append (call m o).after os ps

account-append : (a : Account) (m : Memory) (os ps : List Octets) → account a (history m (os ++ ps)) ≡ account (account a (history m os)) (history (final m os) ps)
account-append a m [] ps = refl
account-append a m (o ∷ os) ps = account-append (entered a (seen m o)) (call m o).after os ps

-- a fate for each call
one_more : (a : Account) (s : Seen) → length (entered a s).fates ≡ length a.fates + 1
unfolding entered
one_more a s = go s.taken
  where
    go : (c : Bool) → length (cond c (posted s.around a s.said s.lines) (record { kept = a.kept; fates = a.fates ++ (refused ∷ []) })).fates ≡ length a.fates + 1
    go true = length-append (map (settle s.around (suc (length a.fates)) s.said s.lines) a.fates) (own_fate s.around a s.said s.lines ∷ [])
        ∙ ap (λ (n : ℕ). n + 1) (length-map a.fates (settle s.around (suc (length a.fates)) s.said s.lines))
    go false = length-append a.fates (refused ∷ [])

a_fate-each : (a : Account) (m : Memory) (os : List Octets) → length (account a (history m os)).fates ≡ length a.fates + length os
a_fate-each a m [] = omega arith
a_fate-each a m (o ∷ os) = let x = a_fate-each (entered a (seen m o)) (call m o).after os in let y = one_more a (seen m o) in omega arith

numbered : (m : Memory) (os : List Octets) → length (account_of m os).fates ≡ length os
numbered m os = let x = a_fate-each opened m os in omega arith

-- each call leaves the queue as long as it was
same_length : (m : Memory) → Stands m opened → (os : List Octets) → length (final m os).queue ≡ length m.queue
same_length m s os = go m opened s os
  where
    go : (x : Memory) (a : Account) → Stands x a → (ps : List Octets) → length (final x ps).queue ≡ length x.queue
    go x a t [] = refl
    go x a t (p ∷ ps) = go (call x p).after (entered a (seen x p)) (stands_on x a t (p ∷ [])) ps ∙ (call_sent x t.law p).wide

-- ---- demand 2
pub demand2 : (m : Memory) → Starts m m → queue_ok (length m.queue) ≡ true → leb (length m.rows) 64 ≡ true → leb (length m.entries) 1024 ≡ true → Demand2 m
demand2 m z q r e = record {
  exact = λ os o. (call_kept (final m os) (stands os).law (account_of m os) (stands os).books o).exact;
  octets = λ os o. ap held (final-append m os (o ∷ [])) ∙ (call_sent (final m os) (stands os).law o).octets;
  queue-length = λ os. same_length m (opening m z q r e) os;
  setting = λ os o. ap setting_of (final-append m os (o ∷ [])) ∙ (call-setting (final m os) o).setting;
  never-silent = λ os. (stands os).heard;
  settles = λ os o k d h. ap (λ (a : Account). fate_at a k) (account-append opened m os (o ∷ [])) ∙ settling os o k d h (seen (final m os) o).taken refl;
  first_occasion = λ os o k d h t b c. ap (λ (a : Account). fate_at a k) (account-append opened m os (o ∷ [])) ∙ (occasion os o t b k d h c ∙ ap (λ (n : ℕ). reported (suc n)) (numbered m os));
  told_in-part = λ os o k d h t c p. ap (λ (a : Account). fate_at a k) (account-append opened m os (o ∷ []))
      ∙ (told_by-front (final m os) (account_of m os) (stands os) o t c p k d h
      ∙ ap (λ (n : ℕ). cond (tells (front (apparent (final m os)) (account_of m os) c) d) (reported (suc n)) (waits d)) (numbered m os));
  no_loss = λ os ps h. ap losses (account-append opened m os ps) ∙ no-losses (account_of m os) (history (final m os) ps) h;
  all_told = rest;
}
  where
    stands : (os : List Octets) → Stands (final m os) (account_of m os)
    stands os = stands_on m opened (opening m z q r e) os

    settling : (os : List Octets) (o : Octets) (k : ℕ) (d : Debt) → fate_at (account_of m os) k ≡ waits d → (c : Bool) → (seen (final m os) o).taken ≡ c
        → fate_at (entered (account_of m os) (seen (final m os) o)) k ≡ cond c (settle (apparent (final m os)) (suc (length os)) (record_of o) (call (final m os) o).lines (waits d)) (waits d)
    settling os o k d h true t = next_fate (account_of m os) (seen (final m os) o) k d t h
        ∙ ap (λ (n : ℕ). settle (apparent (final m os)) (suc n) (record_of o) (call (final m os) o).lines (waits d)) (numbered m os)
    settling os o k d h false t = same_fate (account_of m os) (seen (final m os) o) k d t h

    occasion : (os : List Octets) (o : Octets) → (seen (final m os) o).taken ≡ true → both_rights (selected_box (final m os)) ≡ true → (k : ℕ) (d : Debt) → fate_at (account_of m os) k ≡ waits d
        → Occasion (account_of m os) (seen (final m os) o) d
        → fate_at (entered (account_of m os) (seen (final m os) o)) k ≡ reported (suc (length (account_of m os).fates))
    occasion os o t b k d h (at_end c p l y f) = told_at_end (final m os) (account_of m os) (stands os) o t c p l b f k d y h
    occasion os o t b k d h (at_set x p g y) = told_at-set (final m os) (account_of m os) (stands os) o t x p g y b k d h

    rest : (os ps : List Octets) (o : Octets) → overflows (history (final m os) (ps ++ (o ∷ []))) ≡ false → Cleared (final m (os ++ ps)) o
        → Rested (account_of m os) (account_of m (os ++ (ps ++ (o ∷ []))))
    rest os ps o h c = record {
      waits_none = subst (λ (a : Account). anyb waits_still a.fates ≡ false) (sym whole)
          (none-waiting (entered (account_of m (os ++ ps)) (seen (final m (os ++ ps)) o)).fates
          (nothing-waits (final m (os ++ ps)) (account_of m (os ++ ps)) (stands (os ++ ps)) o c.ending c.rights c.none_left));
      silent_none = (stands (os ++ (ps ++ (o ∷ [])))).heard;
      lost_none = ap losses (account-append opened m os (ps ++ (o ∷ []))) ∙ no-losses (account_of m os) (history (final m os) (ps ++ (o ∷ []))) h;
    }
      where
        assoc : (xs : List Octets) → (xs ++ ps) ++ (o ∷ []) ≡ xs ++ (ps ++ (o ∷ []))
        assoc [] = refl
        assoc (x ∷ xs) = ap (λ (t : List Octets). x ∷ t) (assoc xs)

        whole : account_of m (os ++ (ps ++ (o ∷ []))) ≡ entered (account_of m (os ++ ps)) (seen (final m (os ++ ps)) o)
        whole = sym (ap (account_of m) (assoc os)) ∙ account-append opened m (os ++ ps) (o ∷ [])
