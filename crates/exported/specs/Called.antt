-- The exported step's contract: the step's, over the memory that a host lends, its answer in numbers. Assumes nothing.
use Rattle.std.specs.Prelude.{◌≡◌, ◌≤◌, List, ℕ, length, Ok, Err}
use Rattle.std.proofs.Common.{ap, sym, ◌∙◌, arith, subst}
use Rattle.model.specs.declared.Mailbox.{Mailbox}
use Rattle.model.specs.declared.Counts.{Counts}
use Rattle.model.specs.declared.Session.{Session}
use Rattle.model.specs.declared.Answer.{Answer}
use Rattle.model.specs.declared.Refusal.{Refusal}
use Rattle.record_outcome.specs.Coming.{Came, answer_of, changed, rows_after, counts_after, session_after}
use Rattle.record_outcome.specs.declared.Outcome.{Outcome}
use Rattle.step.specs.Steps.{Lent, Steps, memory_of}
use Rattle.step.specs.Served.{Stepped, lent_as}
use Rattle.lent_rows.specs.Rows.{loaded, lent_loaded}
use Rattle.lent_answer.specs.declared.Answered.{Answered}
use Rattle.lent_answer.specs.Numbers.{numbers_said}
use Rattle.exported.specs.Kept.{call_rows}

-- a call with octets o on lent memory a answers the numbers r and leaves b
pub record Calls (a : Lent) (o : List ℕ) (r : Answered) (b : Lent) : Type 0 where
  pub answer : Answer
  pub numbers : r ≡ numbers_said answer
  pub steps : Steps a o answer b

-- the parts of the exported step make its contract
module _ (ys : List Mailbox) (ws : List ℕ) (k : Counts) (s : Session) (q o : List ℕ) (ws' q' : List ℕ) (r : Came) where
  -- by what it comes to
  calls_by : {zs : List Mailbox} (d : Answered) → Stepped (loaded ys) (length ys) ws k s q o r ws' q' → (length (rows_after r k.mailboxes ys) ≤ length ys → zs ≡ rows_after r k.mailboxes ys) → d ≡ numbers_said (answer_of r)
      → Calls (lent_as ys ws k s q) o d (lent_as zs ws' (counts_after r k) (session_after r s) q')
  calls_by d step left number =
      let steps = step ys (lent_loaded ys) in
      let many : length (rows_after r k.mailboxes ys) ≡ length ys = ap length steps.table ∙ call_rows (memory_of (lent_as ys ws k s q)) o in
      record {
        answer = answer_of r;
        numbers = number;
        steps = subst (λ (l : List Mailbox). Steps (lent_as ys ws k s q) o (answer_of r) (lent_as l ws' (counts_after r k) (session_after r s) q')) (sym (left (omega arith))) steps;
      }

  -- an outcome, of whose change the rows are left
  pub calls_ok : {zs : List Mailbox} {d : Answered} {out : Outcome} → Stepped (loaded ys) (length ys) ws k s q o r ws' q' → r ≡ Ok out
      → (length (changed out.change k.mailboxes ys) ≤ length ys → zs ≡ changed out.change k.mailboxes ys) → d ≡ numbers_said (answer_of r) → Calls (lent_as ys ws k s q) o d (lent_as zs ws' out.counts out.session q')
  calls_ok {zs} {d} {out} step e left number =
      subst (λ (x : Counts × Session). Calls (lent_as ys ws k s q) o d (lent_as zs ws' x.0 x.1 q')) (ap (λ (z : Came). (counts_after z k, session_after z s)) e)
      (calls_by d step (λ h. left (subst (λ (z : Came). length (rows_after z k.mailboxes ys) ≤ length ys) e h) ∙ sym (ap (λ (z : Came). rows_after z k.mailboxes ys) e)) number)

  -- a refusal: all stays
  pub calls_err : {d : Answered} {why : Refusal} → Stepped (loaded ys) (length ys) ws k s q o r ws' q' → r ≡ Err why → d ≡ numbers_said (answer_of r) → Calls (lent_as ys ws k s q) o d (lent_as ys ws' k s q')
  calls_err {d} step e number =
      subst (λ (x : Counts × Session). Calls (lent_as ys ws k s q) o d (lent_as ys ws' x.0 x.1 q')) (ap (λ (z : Came). (counts_after z k, session_after z s)) e)
      (calls_by d step (λ h. sym (ap (λ (z : Came). rows_after z k.mailboxes ys) e)) number)
