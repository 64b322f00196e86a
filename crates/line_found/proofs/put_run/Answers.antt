-- `put_run`: both ends, with a colon between, where they differ. Assumes nothing.
use Rattle.std.proofs.Common.{◌≡◌, false, eqb, [], ◌∷◌, rules, tests}
use mathlib.Core.List.{append_assoc}
use Rattle.model.specs.Text.{decimal}
use Rattle.line_put.specs.Writes.{◌then◌, writes_as}
use Rattle.line_found.proofs.put_run.Goals as goal

pub returns-then-ne-clause-put : goal.returns-then-ne-clause-put
returns-then-ne-clause-put c =
    let e : eqb c.args.from.0 c.args.upto.0 ≡ false = search (rules, tests) in
    rw e (writes_as (◌then◌ (◌then◌ c.put_number.ensures.put c.put_byte.ensures) c.put_number-then-ne.ensures.put) (append_assoc (decimal c.args.from.0) (58 ∷ []) (decimal c.args.upto.0)))
