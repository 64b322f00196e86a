-- `settle`: an idle pass leaves all; else those that stay move up, and what was freed is wiped. Assumes nothing.
use mathlib.Core.Path.{sym, ◌∙◌}
use lib.ListN.{take}
use Rattle.table_messages.specs.Words.{messages}
use Rattle.table_sweep.specs.Swept.{kept, settled, unsettled}
use Rattle.table_sweep.proofs.settle.Goals as goal

pub returns-then-is_idle : goal.returns-then-is_idle
returns-then-is_idle c =
    unsettled c.args.sweep c.args.words.now c.args.used c.requires (sym c.is_idle.ensures ∙ c.if-is_idle.true)

pub returns : goal.returns
returns c = (
  settled c.args.words.now _ _ (kept c.args.sweep (take c.args.used (messages c.args.words.now))) c.compact-o.result c.args.used c.compact-o.ensures.1 c.compact-o.ensures.2 c.compact-o.ensures.0 c.wipe.ensures,
  c.compact-o.ensures.1,
  c.compact-o.ensures.2,
)
