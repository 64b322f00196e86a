-- `put_refusal`: nothing for 0, or the mark, the number and the end of the line.
use Rattle.std.proofs.Common.{◌≡◌, ℕ, ◌∷◌, ◌++◌}
use Rattle.std.proofs.lemmas.Bool.{ne_eqb}
use Rattle.model.specs.Text.{decimal}
use Rattle.model.specs.Lines.{crlf}
use Rattle.model.specs.Pushrun.{refusal_text}
use Rattle.line_put.specs.Writes.{writes_as, ◌then◌}
use Rattle.run_input.proofs.put_refusal.Goals as goal

refusal-text : (n : ℕ) → (n ≡ 0 → ⊥) → (33 ∷ 32 ∷ decimal n) ++ crlf ≡ refusal_text n
refusal-text n h = rw (ne_eqb n 0 h)

pub returns-then-n-ne0-clause-put : goal.returns-then-n-ne0-clause-put
returns-then-n-ne0-clause-put c = writes_as (◌then◌ (◌then◌ c.put.ensures c.put_number.ensures.put) c.put-then-n-ne0.ensures) (refusal-text c.args.n c.if-n-ne0.true)
