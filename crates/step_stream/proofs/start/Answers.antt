-- `start`: nothing there yet. Assumes nothing.
use mathlib.Core.Path.{refl, ap}
use lib.ListN.{replicate}
use Rattle.model.specs.declared.Mailbox.{Mailbox}
use Rattle.step_stream.proofs.start.Goals as goal

pub returns : goal.returns
returns c = (ap (λ (x : Mailbox). replicate 64 x) c.vacant.ensures, refl, refl, refl)
