-- `text_ok`: the whole is in order exactly if it is from the place on, behind the octet last seen. Assumes nothing.
use Rattle.std.specs.Prelude.{◌≡◌}
use Rattle.names.specs.Once.{text_ok, text_from}
use Rattle.names.proofs.text_ok.Given as goal

abbrev pub invariant-loop-b : goal.invariant-loop-b
invariant-loop-b l = text_ok l.name ≡ text_from l.name l.b-index l.last
