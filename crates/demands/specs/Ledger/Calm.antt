-- What a command end owes is calm: no line of it ends what it does not tell. Assumes nothing.
use Rattle.std.specs.Prelude.{◌≡◌, refl, List, [], ◌∷◌, ◌++◌, Bool, true, false, not, cond, ℕ, ◌+◌, eqb, leb, length}
use Rattle.std.proofs.Common.{◌∙◌, eqb-true}
use Rattle.model.specs.Lists.{filterb}
use Rattle.model.specs.Memory.{Memory, mails, both_rights, selected_box, uid_of, expunged, marked, in_mailbox, by_uid}
use Rattle.model.specs.Lines.{Line, status, found as found_line, answer, list, renamed, exists, expunge as expunge_line, fetch, overflow}
use Rattle.model.specs.View.{announced, selected_messages, view, unannounced, expunge_lines, flags_line, marked_lines, exists_line, remainder, owed}
use Rattle.model.specs.Lawful.{message_ok}
use Rattle.demands.specs.Lasting.Law.{Law}
use Rattle.model.specs.declared.Message.{Message}
use Rattle.demands.specs.Ledger.Each.{All, none, also, all_yes, all_to, all_with, all-kept, all_pass, all_ordered, all_append}
use Rattle.demands.specs.Ledger.Entries.{present, state_of, found}
use Rattle.demands.specs.Ledger.Books.{small_states, two_bits}
use Rattle.demands.specs.Ledger.Effects.{Calm}

-- ---- what a command end owes is calm
record Fact (m : Memory) (e : Message) : Type 0 where
  state : state_of m.session.selected (uid_of e) (mails m) ≡ e.states
  small : leb e.states 2 ≡ true

facts : (m : Memory) → Law m → All (Fact m) (selected_messages m)
facts m k = all_ordered by_uid (all_to (λ e p. p.0 p.1)
    (all_pass (in_mailbox m.session.selected) (all_with one (found m.session.selected (mails m) k.twins) (all_yes message_ok (mails m) k.mail))))
  where
    one : (e : Message) → (in_mailbox m.session.selected e ≡ true
        → (state_of m.session.selected (uid_of e) (mails m) ≡ e.states) × (present m.session.selected (uid_of e) (mails m) ≡ true)) → message_ok e ≡ true
        → in_mailbox m.session.selected e ≡ true → Fact m e
    one e f o h = record { state = (f h).0; small = small_states e o }

not_two : (s : ℕ) → leb s 2 ≡ true → eqb s 1 ≡ true → eqb s 2 ≡ false
not_two s h e = rw (eqb-true s 1 e)

not_one : (s : ℕ) → leb s 2 ≡ true → eqb s 2 ≡ true → eqb s 1 ≡ false
not_one s h e = rw (eqb-true s 2 e)

calm-expunges : (m : Memory) (n : ℕ) {v : List Message} → All (λ (e : Message). Fact m e × (announced m e ≡ true)) v → All (Calm m) (expunge_lines n v)
unfolding expunge_lines
calm-expunges m n none = none
calm-expunges m n (also {x = e} {l = v} p h) = go (expunged e) refl (calm-expunges m n h) (calm-expunges m (n + 1) h)
  where
    go : (c : Bool) → expunged e ≡ c → All (Calm m) (expunge_lines n v) → All (Calm m) (expunge_lines (n + 1) v)
        → All (Calm m) (cond c (expunge_line (record { 0 = n }) e.uid ∷ expunge_lines n v) (expunge_lines (n + 1) v))
    go true g x y = also {x = expunge_line (record { 0 = n }) e.uid} (rw p.0.state (not_two e.states p.0.small ((two_bits e.states p.0.small).0 ∙ g)), p.1) x
    go false g x y = y

calm_marks : (m : Memory) (n : ℕ) {v : List Message} → All (λ (e : Message). Fact m e × (announced m e ≡ true)) v → All (Calm m) (marked_lines n v)
unfolding marked_lines
calm_marks m n none = none
calm_marks m n (also {x = e} {l = v} p h) = go (marked e) refl (calm_marks m (n + 1) h)
  where
    go : (c : Bool) → marked e ≡ c → All (Calm m) (marked_lines (n + 1) v) → All (Calm m) (cond c (flags_line n e ∷ marked_lines (n + 1) v) (marked_lines (n + 1) v))
    go true g x = also {x = flags_line n e} (rw p.0.state (not_one e.states p.0.small ((two_bits e.states p.0.small).1 ∙ g))) x
    go false g x = x

pub calm-exists : (m : Memory) (n : ℕ) (l : List Message) → All (Calm m) (exists_line n l)
calm-exists m n [] = none
calm-exists m n (e ∷ l) = also tt none

pub calm-owed : (m : Memory) → Law m → (c : ℕ) → All (Calm m) (owed m c)
calm-owed m k c = go (both_rights (selected_box m)) (eqb c 1) refl
  where
    seen : All (λ (e : Message). Fact m e × (announced m e ≡ true)) (view m)
    seen = all_pass (announced m) (facts m k)

    rest : (d : Bool) → All (Calm m) (exists_line (length (remainder m c)) (unannounced m) ++ marked_lines 1 (cond d (filterb (λ (e : Message). not (expunged e)) (view m)) (view m)))
    rest true = all_append (calm-exists m (length (remainder m c)) (unannounced m)) (calm_marks m 1 (all-kept (λ (e : Message). not (expunged e)) seen))
    rest false = all_append (calm-exists m (length (remainder m c)) (unannounced m)) (calm_marks m 1 seen)

    go : (b d : Bool) → eqb c 1 ≡ d → All (Calm m) (cond b (cond d (expunge_lines 1 (view m)) [] ++ (exists_line (length (remainder m c)) (unannounced m) ++ marked_lines 1 (remainder m c))) [])
    go true true e = all_append (calm-expunges m 1 seen) (rest (eqb c 1))
    go true false e = rest (eqb c 1)
    go false d e = none

pub calm_same : (m n : Memory) → mails n ≡ mails m → n.session.selected ≡ m.session.selected → n.session.told ≡ m.session.told → (l : Line) → Calm m l → Calm n l
calm_same m n e s t (status a is) h = tt
calm_same m n e s t (list a b) h = tt
calm_same m n e s t (renamed a b c) h = tt
calm_same m n e s t (exists a) h = tt
calm_same m n e s t (expunge_line a v) h = (rw (e, s) h.0, rw t h.1)
calm_same m n e s t (fetch a v is) h = rw (e, s) h
calm_same m n e s t (found_line a b c d) h = tt
calm_same m n e s t overflow h = tt
calm_same m n e s t (answer a b c) h = tt
