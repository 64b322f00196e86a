-- A row is put: what the code leaves is what the rules say. Assumes nothing.
use Rattle.std.specs.Prelude.{◌≡◌, List, ℕ, length, set, Ok}
use Rattle.std.proofs.Common.{ap, ap₂, sym, ◌∙◌, leb-true}
use Rattle.model.specs.Names.{Name}
use Rattle.model.specs.Memory.{Memory, boxes, filled}
use Rattle.model.specs.Rules.{Outcome}
use Rattle.model.specs.declared.Mailbox.{Mailbox}
use Rattle.model.specs.declared.Counts.{Counts}
use Rattle.model.specs.declared.Session.{Session}
use Rattle.model.specs.declared.Answer.TheVariants.{Done}
use Rattle.demands.specs.Lasting.Law.{Law}
use Rattle.table_mailboxes.specs.Rows.{boxes_long}
use Rattle.table_messages.specs.Laid.{laid, laid_own}
use Rattle.match_parent.specs.Upper.{StandsFor}
use Rattle.line_put.specs.Heard.{After, Leaves}
use Rattle.event_mailbox.specs.Accepted.{left}
use Rattle.record_outcome.specs.Coming.{Lends, Comes, Came, answer_of, rows_after, counts_after, session_after, putting}

module _ (m : Memory) (ws : List ℕ) (k : Counts) (s : Session) (q : List ℕ) (lent : Lends m ws k s q) where
  -- as many mailboxes as the code counts
  pub counted : Law m → length (boxes m) ≡ k.mailboxes
  counted law = boxes_long m (leb-true _ _ law.used) ∙ ap (λ (c : Counts). c.mailboxes) lent.counts

  -- a row that stands for a parent by the code's session
  pub stands : (y : Mailbox) (n : Name) → StandsFor s (boxes m) n y → StandsFor m.session (boxes m) n y
  stands y n st = rw lent.session st

  -- what a record leaves, by queue, session and F before it; n rows are used after it
  pub comes_put : (u o : Outcome) (at n : ℕ) (after : List ℕ → Session → ℕ → After) {row : Mailbox} {q' : List ℕ} {s' : Session} {f : ℕ} (r : Came)
      → u ≡ o → u.answer ≡ Done → u.after ≡ left m at n (after m.queue m.session (filled m)) → Leaves (after q s k.filled) row q' s' f
      → r ≡ Ok (putting at row (record { mailboxes = n; messages = k.messages; filled = f }) s') → Comes m o r ws ws q'
  comes_put u o at n after {row} {q'} {s'} {f} r same done is x e =
      let z : o.after ≡ left m at n (after q s k.filled) =
      ap (λ (j : Outcome). j.after) (sym same)
      ∙ (is ∙ ap (left m at n) (ap₂ (λ (p : List ℕ) (t : Session). after p t (filled m)) lent.queue lent.session ∙ ap (λ (c : Counts). after q s c.filled) lent.counts)) in
      record {
        answer = ap answer_of e ∙ (sym done ∙ ap (λ (j : Outcome). j.answer) same);
        rows = ap (λ (c : Came). rows_after c m.counts.mailboxes m.rows) e ∙ (ap (set m.rows at) x.row ∙ sym (ap (λ (j : Memory). j.rows) z));
        words = laid_own ws ∙ ap (laid ws) (sym lent.entries ∙ sym (ap (λ (j : Memory). j.entries) z));
        counts = ap (λ (c : Came). counts_after c m.counts) e
            ∙ (ap₂ (λ (a b : ℕ). record { mailboxes = n; messages = a; filled = b }) (sym (ap (λ (c : Counts). c.messages) lent.counts)) x.heard.filled
            ∙ sym (ap (λ (j : Memory). j.counts) z));
        session = ap (λ (c : Came). session_after c m.session) e ∙ (x.heard.session ∙ sym (ap (λ (j : Memory). j.session) z));
        queue = x.heard.queue ∙ sym (ap (λ (j : Memory). j.queue) z);
      }
