-- Each turn mixes in one word more of the row.
use Rattle.std.proofs.Common.{refl, arith}
use Rattle.lawful_digests.specs.Digest.{mixed_up, mixed_next}
use Rattle.lawful_digests.proofs.digest_of.Goals as goal

pub loop-i-init : goal.loop-i-init
unfolding mixed_up
loop-i-init c = refl

pub loop-i-preserved : goal.loop-i-preserved
loop-i-preserved c = mixed_next c.args.names.now c.args.k c.loop-i.i c.loop-i.d c.word.result c.mix-d.result (omega arith) c.loop-i.invariant c.word.ensures c.mix-d.ensures
