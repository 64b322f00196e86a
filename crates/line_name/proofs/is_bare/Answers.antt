-- `is_bare`: the run of atom octets ends before the name does, or takes all of it. Assumes nothing.
use mathlib.Core.Bool.{not}
use mathlib.Core.Path.{ap}
use borrow.Author.Tests.{lt-leb}
use Rattle.model.specs.Octets.{atom_octet}
use Rattle.line_name.specs.Runs.{run_short, run_whole}
use Rattle.line_name.proofs.is_bare.Goals as goal

pub returns-then-run_end-name : goal.returns-then-run_end-name
returns-then-run_end-name c =
    rw (run_whole atom_octet _ c.run_end.result c.run_end.ensures.exact c.if-run_end-name.true) (ap not c.same_word.ensures)

pub returns-else-run_end-name : goal.returns-else-run_end-name
returns-else-run_end-name c =
    rw (run_short atom_octet _ c.run_end.result c.run_end.ensures.exact c.if-run_end-name.false, lt-leb _ _ c.if-run_end-name.false)
