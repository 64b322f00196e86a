-- `all_zero`: the sum of octets is 0 exactly if each is. Assumes nothing.
use Rattle.std.proofs.Common.{rules, ◌≡◌, ◌∙◌, ap}
use Rattle.std.specs.Prelude.{eqb}
use Rattle.std.specs.List.{sum_by}
use Rattle.names.proofs.Laws.{zeros_sum}
use Rattle.names.proofs.all_zero.Goals as goal

pub returns : goal.returns
returns c =
    let e : c.sum.result ≡ sum_by (λ x. x) c.args.s.now = search rules in
    ap (λ n. eqb n 0) e ∙ zeros_sum c.args.s.now
