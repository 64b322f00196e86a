-- `step`: what the answer's error left stands behind the name.
use Rattle.std.proofs.Common.{◌++◌, ℕ, List, rules}
use Rattle.std.specs.Prelude.{OnErr}
use Rattle.std.specs.Io.KnownBytes.{Appends}
use Rattle.std.proofs.KnownBytes.{Appends-trans}
use Rattle.std.proofs.lemmas.Result.{on_err_weaker}
use Rattle.run_lawful.proofs.step.Goals as goal

pub returns-in_err-yes : goal.returns-in_err-yes
returns-in_err-yes g c =
    let name = c.in_ok-print_name.ensures in
    let left : OnErr c.from_residual-in_err-yes.result ((x : List ℕ) × Appends (g.W.Write.contents c.print_name.new.writer) (g.W.Write.contents c.answer.new.writer) x) = search rules in
    on_err_weaker c.from_residual-in_err-yes.result (λ q. (name.0 ++ q.0, Appends-trans _ _ _ name.0 q.0 name.1 q.1)) left
