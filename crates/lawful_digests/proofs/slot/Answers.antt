-- `slot`: the upper ten of 32 bits are below 1024. Assumes nothing.
use Rattle.std.proofs.Common.{refl, arith}
use Rattle.lawful_digests.specs.Distinct.{slot_of}
use Rattle.lawful_digests.proofs.slot.Goals as goal

pub returns : goal.returns
unfolding slot_of
returns c = (refl, omega arith)
