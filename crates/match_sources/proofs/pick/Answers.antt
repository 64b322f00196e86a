-- `pick`: one note more; a bool as an octet notes itself. Assumes nothing.
use mathlib.Core.Path.{◌≡◌, refl, ap, ◌∙◌}
use mathlib.Core.Bool.{Bool, true, false}
use native.Mathlib.Omega.{arith}
use lib.ListN.{get_or}
use Rattle.std.specs.Int.{from_bool}
use Rattle.model.specs.Names.{Name}
use Rattle.table_mailboxes.specs.Columns.{noted}
use Rattle.match_sources.specs.Admitting.{searched_by}
use Rattle.match_sources.specs.Picking.{noted-next}
use Rattle.match_sources.proofs.pick.Goals as goal

noted_byte : (b : Bool) → noted (from_bool b) ≡ b
noted_byte true = refl
noted_byte false = refl

pub loop-k-preserved : goal.loop-k-preserved
loop-k-preserved c =
    let named = λ (n : Name). searched_by c.args.listed.now (get_or c.args.cols.now.attributes c.loop-k.k 0) n c.is_selected-here.result in
    noted-next c.args.listed.now c.args.selected c.args.cols.now.ids c.args.cols.now.attributes c.args.cols.now.lens c.args.cols.now.names c.loop-k.k c.loop-k.picked c.from.result
    c.is_selected-here.result c.loop-k.invariant (omega arith) c.is_selected-here.ensures (rw c.from.ensures (noted_byte c.is_searched.result ∙ c.is_searched.ensures ∙ ap named c.name.ensures))
