-- Zeros name row 0. Assumes nothing.
use Rattle.std.proofs.Common.{refl}
use Rattle.lawful_digests.specs.Distinct.{low_zeros}
use Rattle.lawful_digests.proofs.SlotTable.new.Goals as goal

pub returns : goal.returns
returns c = λ n. (low_zeros 1024 n _ refl, low_zeros 64 n _ refl)
