-- `little`: the loop goes from the highest octet down, and keeps that v is the number of the octets from i on. Assumes nothing.
use mathlib.Core.Path.{◌≡◌}
use native.Mathlib.Omega.{arith}
use Prim.Native.Nat.{◌+◌, ◌-◌, min}
use Rattle.octets.proofs.Weights.{little_none, little-back, little-small}
use Rattle.octets.proofs.numbers.little.Goals as goal

pub loop-i-init : goal.loop-i-init
loop-i-init c =
    (omega arith, omega arith, little_none c.args.b.now c.args.at c.min-w.result)

pub loop-i-preserved : goal.loop-i-preserved
loop-i-preserved c =
    let e = little-back c.args.b.now c.args.at c.min-w.result c.loop-i.i (c.loop-i.i - 1) (omega arith) (omega arith) in
    let small = little-small c.args.b.now (λ k. omega (arith, c.shared_slice_known-1.given k)) (c.min-w.result - (c.loop-i.i - 1)) (c.args.at + (c.loop-i.i - 1)) (omega arith) in (
      omega arith,
      omega (arith, e, c.loop-i.invariant.2, c.from.ensures, c.octet_from.ensures, small),
      omega (arith, e, c.loop-i.invariant.2, c.from.ensures, c.octet_from.ensures),
    )

pub returns : goal.returns
returns c =
    let z : c.min-w.result - c.loop-i.i ≡ min c.args.width 4 = omega arith in
    let y : c.args.at + c.loop-i.i ≡ c.args.at = omega arith in record { exact = rw (z, y) at c.loop-i.invariant.2; below = omega arith }
