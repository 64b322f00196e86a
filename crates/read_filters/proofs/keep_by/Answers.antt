-- A word that stands alone has no names; behind another they are kept.
use mathlib.Core.Path.{sym, ap, ◌∙◌}
use Rattle.std.specs.Prelude.{Some}
use Rattle.read_filters.proofs.Selecting.{keeps_by}
use Rattle.read_filters.proofs.keep_by.Goals as goal

pub returns-in-Named : goal.returns-in-Named
returns-in-Named c =
    record { exact = λ x h e. keeps_by c.args.text.now c.args.at c.args.kept c.keep_named.ensures.exact x (ap Some (sym c.in-Named.is) ∙ e); within = c.keep_named.ensures.within }
