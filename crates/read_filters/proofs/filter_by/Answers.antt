-- A word that stands alone is the whole filter; behind another the names are read.
use mathlib.Core.Path.{sym, ap, ◌∙◌}
use Rattle.std.specs.Prelude.{Some}
use Rattle.read_filters.proofs.Scoping.{by-named}
use Rattle.read_filters.proofs.filter_by.Goals as goal

pub returns-in-Named : goal.returns-in-Named
returns-in-Named c =
    record { exact = λ x h e. by-named c.args.text.now c.args.at c.named_at.ensures.exact x (ap Some (sym c.in-Named.is) ∙ e); within = c.named_at.ensures.within }
