-- What the code finds of a record about a message, in the rules' words: its mailbox, its entry, what its end comes to. Assumes nothing.
use Rattle.std.specs.Prelude.{◌≡◌, refl, Bool, true, false, not, ◌||◌, List, ℕ, ◌-◌, ◌*◌, ◌<◌, ◌≤◌, eqb, leb, length, take, get_or, set, Option, Some, None, position, Ok}
use Rattle.std.proofs.Common.{ap, ap₂, sym, ◌∙◌, arith, get_or-take, lt-ltb, le-ltb, leb-true, eqb-true}
use Rattle.model.specs.Laws.{and_l, and_r}
use Rattle.model.specs.Memory.{Memory, mails, no_message, counter_of, is_message, expunged}
use Rattle.model.specs.Refusals.{absent, stale}
use Rattle.model.specs.Rules.{Outcome}
use Rattle.demands.specs.Lasting.Law.{Law}
use Rattle.model.specs.declared.Mailbox.{Mailbox}
use Rattle.model.specs.declared.Message.{Message}
use Rattle.model.specs.declared.Counts.{Counts}
use Rattle.model.specs.declared.Session.{Session}
use Rattle.model.specs.declared.Answer.TheVariants.{Done}
use Rattle.laws.specs.Changing.{used_long}
use Rattle.table_messages.specs.Words.{messages, messages-take, messages-used}
use Rattle.table_messages.specs.Laid.{laid}
use Rattle.table_messages.specs.Found.{stands, first, first_any, first_passes, found_none, found_one}
use Rattle.laws.specs.Room.{Room}
use Rattle.event_message.specs.After.{After, Leaves}
use Rattle.event_message.specs.Accepted.{left}
use Rattle.record_outcome.specs.Coming.{Lends, Placed, Comes, Came, putting}

-- the counts after a record about a message
abbrev pub counts_of : Counts → ℕ → ℕ → Counts
counts_of k n f = record { mailboxes = k.mailboxes; messages = n; filled = f }

-- where a group stands the last 64 octets are free
pub some_free : (q f : ℕ) (s : Session) → Room q f s → (s.groupcount ≡ 0 → ⊥) → f ≤ q - 64
some_free q f s room some = go (eqb s.groupcount 0) refl (and_r (leb f q) (eqb s.groupcount 0 || leb f (q - 64)) room.fill)
  where
    go : (b : Bool) → eqb s.groupcount 0 ≡ b → (b || leb f (q - 64)) ≡ true → f ≤ q - 64
    go true e z = absurd (some (eqb-true s.groupcount 0 e))
    go false e z = leb-true f (q - 64) z

-- an entry that is found is one of those in use
pub found_low : (ws : List ℕ) (n i u : ℕ) {o : Option ℕ} {at : ℕ} → n * 6 ≤ length ws → o ≡ position (stands i u) (messages (take (6 * n) ws)) → o ≡ Some at → at < n
found_low ws n i u {at = at} h f e = rw (messages-used n ws h) at (found_one (stands i u) (messages (take (6 * n) ws)) at (sym f ∙ e)).1

module _ (m : Memory) (ws : List ℕ) (k : Counts) (s : Session) (q : List ℕ) (lent : Lends m ws k s q) where
  -- ---- done: what was left is what the rule says, and the row at a place is another
  module _ (o : Outcome) (a : After) (ws' : List ℕ) (n : ℕ) (q' : List ℕ) (s' : Session) (f : ℕ) (d : o.answer ≡ Done) (l : Leaves a ws ws' n q' s' f) where
    pub comes_put : (r : Came) (p : ℕ) (y : Mailbox) → o.after ≡ left m (set m.rows p y) a → r ≡ Ok (putting p y (counts_of k n f) s') → Comes m o r ws ws' q'
    comes_put r p y e z = rw z (record {
      answer = sym d;
      rows = sym (ap (λ (j : Memory). j.rows) e);
      words = l.words ∙ ap (laid ws) (sym (ap (λ (j : Memory). j.entries) e));
      counts = ap₂ (counts_of k) l.used l.heard.filled ∙ (ap (λ (c : Counts). counts_of c a.used a.heard.filled) (sym lent.counts) ∙ sym (ap (λ (j : Memory). j.counts) e));
      session = l.heard.session ∙ sym (ap (λ (j : Memory). j.session) e);
      queue = l.heard.queue ∙ sym (ap (λ (j : Memory). j.queue) e);
    })

  -- ---- its mailbox's counter beside the record's
  pub is-stale : (i : ℕ) {p : ℕ} {x : Mailbox} (w : Placed m i p x) (c : ℕ) (b : Bool) → leb c (counter_of x) ≡ b → stale m i c ≡ b
  is-stale i w c b e = ap (λ (y : Mailbox). leb c (counter_of y)) (sym w.is) ∙ e

  -- ---- its entry
  module _ (law : Law m) (i u : ℕ) (o : Option ℕ) (found : o ≡ position (stands i u) (messages (take (6 * k.messages) ws))) where
    here : o ≡ position (stands i u) (mails m)
    here = found ∙ (ap (position (stands i u)) (messages-take k.messages ws) ∙ ap₂ (λ (n : ℕ) (l : List Message). position (stands i u) (take n l)) (ap (λ (c : Counts). c.messages) (sym lent.counts)) (sym lent.entries))

    used : length (mails m) ≡ k.messages
    used = used_long m law ∙ ap (λ (c : Counts). c.messages) lent.counts

    pub is-absent : o ≡ None → absent m i u ≡ true
    is-absent e =
        let z = found_none (stands i u) (mails m) (sym here ∙ e) in
        ap not (sym (first_any (stands i u) (mails m)) ∙ le-ltb (first (stands i u) (mails m)) (length (mails m)) (omega (arith, z)))

    module _ (at : ℕ) (e : o ≡ Some at) where
      one : (at ≡ first (stands i u) (mails m)) × (at < length (mails m))
      one = found_one (stands i u) (mails m) at (sym here ∙ e)

      pub is-there : absent m i u ≡ false
      is-there = ap not (sym (first_any (stands i u) (mails m)) ∙ lt-ltb (first (stands i u) (mails m)) (length (mails m)) (rw one.0 at one.1))

      pub is_within : at < k.messages
      is_within = rw used at one.1

      pub is_that : is_message i u (get_or m.entries at no_message) ≡ true
      is_that =
          let g : at < m.counts.messages = rw lent.counts is_within in
          let z : first (stands i u) (mails m) < length (mails m) = rw one.0 at one.1 in
          let y : stands i u (get_or (mails m) at no_message) ≡ true = rw one.0 (first_passes (stands i u) (mails m) z) in
          and_l (is_message i u (get_or m.entries at no_message)) (not (expunged (get_or m.entries at no_message))) (ap (stands i u) (sym (get_or-take m.counts.messages m.entries at no_message g)) ∙ y)
