-- `DL`: what the code leaves is what the rules say of it. Assumes nothing.
use Rattle.std.specs.Prelude.{◌≡◌, refl, Bool, true, false, not, ◌&&◌, List, ℕ, ◌-◌, ◌≤◌, eqb, length, take, Option, Some, None, Ok, Err}
use Rattle.std.proofs.Common.{ap, ap₂, sym, ◌∙◌}
use Rattle.model.specs.Memory.{Memory, boxes, filled, name_of, no_message, refill, is_selected}
use Rattle.model.specs.Records.{delete}
use Rattle.model.specs.Rules.{Outcome, accepted}
use Rattle.model.specs.declared.Mailbox.{Mailbox}
use Rattle.model.specs.declared.Message.{Message}
use Rattle.model.specs.declared.Counts.{Counts}
use Rattle.model.specs.declared.Session.{Session}
use Rattle.model.specs.declared.Refusal.TheVariants.{WrongId, WrongState}
use Rattle.model.specs.declared.Answer.TheVariants.{Done}
use Rattle.demands.specs.Lasting.Law.{Law}
use Rattle.table_messages.specs.Words.{messages}
use Rattle.table_messages.specs.Laid.{laid}
use Rattle.table_sweep.specs.Swept.{kept, kept-deleted}
use Rattle.table_sweep.specs.declared.Sweep.TheVariants.{Deleted}
use Rattle.match_parent.specs.Upper.{StandsFor}
use Rattle.line_put.specs.Heard.{Hears}
use Rattle.event_mailbox.specs.Deleting.{delete_heard}
use Rattle.event_mailbox.specs.Accepted.{staying, left_without, delete-accepted}
use Rattle.record_outcome.specs.Coming.{Lends, Found, Comes, Came, answer_of, rows_after, counts_after, session_after, ladder}
use Rattle.record_outcome.specs.Laws.{comes-refused, not-known, is_known, is_placed, is_row}
use Rattle.record_outcome.specs.declared.Outcome.{Outcome as Left}
use Rattle.record_outcome.specs.declared.Place.{Place}
use Rattle.record_outcome.specs.declared.Change.TheVariants.{Taken}
use Rattle.record_mailbox.specs.Putting.{stands}

-- the code's outcome of it: n messages are left
abbrev pub taking : ℕ → ℕ → Counts → Session → ℕ → Left
taking at n k s f = record {
  counted = None;
  change = Taken at;
  counts = record { mailboxes = k.mailboxes - 1; messages = n; filled = f };
  session = s;
}

-- row x is taken out, its mailbox's messages go, and what is heard of it; y stands for its parent
pub record TakenOut (ws q : List ℕ) (k : Counts) (s : Session) (at : ℕ) (y x : Mailbox) (i g : ℕ) (ws' q' : List ℕ) (r : Left) : Type 0 where
  pub is : r ≡ taking at (length (staying i k.messages (messages ws))) k r.session r.counts.filled
  pub words : ws' ≡ laid ws (refill no_message (messages ws) k.messages (staying i k.messages (messages ws)))
  pub heard : Hears (delete_heard q s k.filled y x g) q' r.session r.counts.filled

pub taken_out : (ws q : List ℕ) (k : Counts) (s : Session) (at : ℕ) (y x : Mailbox) (i g : ℕ) {ws' q' : List ℕ} (n : ℕ) (s' : Session) (f : ℕ)
    → (ws' ≡ laid ws (refill no_message (messages ws) k.messages (kept (Deleted i) (take k.messages (messages ws))))) × (n ≡ length (kept (Deleted i) (take k.messages (messages ws)))) × (n ≤ k.messages)
    → Hears (delete_heard q s k.filled y x g) q' s' f → TakenOut ws q k s at y x i g ws' q' (taking at n k s' f)
taken_out ws q k s at y x i g n s' f w h =
    let e = kept-deleted i (take k.messages (messages ws)) in
    record {
      is = ap (λ (c : ℕ). taking at c k s' f) (w.1 ∙ ap length e);
      words = w.0 ∙ ap (λ (l : List Message). laid ws (refill no_message (messages ws) k.messages l)) e;
      heard = h;
    }

answered : (m : Memory) (i g : ℕ) → (accepted m (delete i g)).answer ≡ Done
unfolding accepted
answered m i g = refl

module _ (m : Memory) (ws : List ℕ) (k : Counts) (s : Session) (q : List ℕ) (lent : Lends m ws k s q) (law : Law m) (i g : ℕ) (r : Came) where
  chosen : (b : Bool) → (not (eqb i 0) && eqb i s.selected) ≡ b → is_selected m i ≡ b
  chosen b d = ap (λ (t : Session). not (eqb i 0) && eqb i t.selected) lent.session ∙ d

  module _ {o : Option Place} (w : Found m i o) where
    pub delete_unknown : o ≡ None → r ≡ Err WrongId → Comes m (ladder m (delete i g)) r ws ws q
    delete_unknown h e = comes-refused m ws k s q lent WrongId (ladder m (delete i g)) r (rw (not-known m i w h)) e

    pub delete-selected : (p : Place) → o ≡ Some p → (not (eqb i 0) && eqb i s.selected) ≡ true → r ≡ Err WrongState → Comes m (ladder m (delete i g)) r ws ws q
    delete-selected p h d e = comes-refused m ws k s q lent WrongState (ladder m (delete i g)) r (rw (is_known m i w h, chosen true d)) e

    pub delete_comes : {ws' q' : List ℕ} (p : Place) (upper : Mailbox) (out : Left) → StandsFor s (boxes m) (name_of p.row) upper → o ≡ Some p → (not (eqb i 0) && eqb i s.selected) ≡ false → TakenOut ws q k s p.at upper p.row i g ws' q' out → r ≡ Ok out → Comes m (ladder m (delete i g)) r ws ws' q'
    delete_comes p upper out st h d y z =
        let b = is_known m i w h in
        let c : m.counts.mailboxes ≡ k.mailboxes = ap (λ (j : Counts). j.mailboxes) lent.counts in
        let u : m.counts.messages ≡ k.messages = ap (λ (j : Counts). j.messages) lent.counts in
        let same : accepted m (delete i g) ≡ ladder m (delete i g) = rw (b, chosen false d) in
        let t : (ladder m (delete i g)).after ≡ left_without m i p.at (delete_heard q s k.filled upper p.row g) =
        ap (λ (j : Outcome). j.after) (sym same)
        ∙ (delete-accepted m law i p.at p.row (is_placed m i w h).at (is_row m i w h law) (ap not b) g upper (stands m ws k s q lent upper (name_of p.row) st)
        ∙ ap (left_without m i p.at) (ap₂ (λ (l : List ℕ) (v : Session). delete_heard l v (filled m) upper p.row g) lent.queue lent.session ∙ ap (λ (j : Counts). delete_heard q s j.filled upper p.row g) lent.counts)) in
        let l : staying i m.counts.messages m.entries ≡ staying i k.messages (messages ws) = ap₂ (staying i) u lent.entries in
        let e : r ≡ Ok (taking p.at (length (staying i k.messages (messages ws))) k out.session out.counts.filled) = z ∙ ap (λ (j : Left). Ok j) y.is in
        record {
          answer = ap answer_of e ∙ (sym (answered m i g) ∙ ap (λ (j : Outcome). j.answer) same);
          rows = ap (λ (j : Came). rows_after j m.counts.mailboxes m.rows) e ∙ sym (ap (λ (j : Memory). j.rows) t);
          words = y.words ∙ ap (laid ws)
              (ap₂ (λ (n : ℕ) (e : List Message). refill no_message e n (staying i k.messages (messages ws))) (sym u) (sym lent.entries)
              ∙ (ap (refill no_message m.entries m.counts.messages) (sym l) ∙ sym (ap (λ (j : Memory). j.entries) t)));
          counts = ap (λ (j : Came). counts_after j m.counts) e
              ∙ (ap₂ (λ (n : ℕ) (e : List Message). record { mailboxes = n - 1; messages = length e; filled = out.counts.filled }) (sym c) (sym l)
              ∙ (ap (λ (f : ℕ). record { mailboxes = m.counts.mailboxes - 1; messages = length (staying i m.counts.messages m.entries); filled = f }) y.heard.filled
              ∙ sym (ap (λ (j : Memory). j.counts) t)));
          session = ap (λ (j : Came). session_after j m.session) z ∙ y.heard.session ∙ sym (ap (λ (j : Memory). j.session) t);
          queue = y.heard.queue ∙ sym (ap (λ (j : Memory). j.queue) t);
        }
