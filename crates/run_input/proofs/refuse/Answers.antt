-- `refuse`: what is printed is the front of the line, and that is the refusal.
use Rattle.std.proofs.Common.{◌≡◌, ◌+◌, ℕ, List, ap, ◌∙◌, length, take, drop, take_at, arith}
use Rattle.model.specs.Queue.{written}
use Rattle.model.specs.Pushrun.{refusal_text}
use Rattle.run_input.proofs.refuse.Goals as goal

-- a text at the front is what stands there
written-front : (q t : List ℕ) (r : ℕ) → length t ≡ r → take r (written q 0 t) ≡ t
unfolding written
written-front q t r e = take_at t (drop (0 + length t) q) r e

pub returns-clause-ok : goal.returns-clause-ok
returns-clause-ok g c =
    let put = c.refusal-end.ensures.put in
    let next = put.next in
    let text = ap (take c.refusal-end.result) (put.done (omega arith)) ∙ written-front _ (refusal_text c.args.n) _ (omega arith) in
    rw text at c.print.ensures.ok

pub returns-clause-err : goal.returns-clause-err
returns-clause-err g c =
    let put = c.refusal-end.ensures.put in
    let next = put.next in
    let text = ap (take c.refusal-end.result) (put.done (omega arith)) ∙ written-front _ (refusal_text c.args.n) _ (omega arith) in
    rw text at c.print.ensures.err
