-- `put_held`: what the queue holds. Assumes nothing.
use mathlib.Core.List.{List}
use mathlib.Core.Path.{ap, ◌∙◌}
use Prim.Native.Nat.{ℕ}
use lib.ListN.{take}
use Rattle.std.proofs.Common.{arith, length-take}
use Rattle.std.proofs.lemmas.List.{take_min}
use Rattle.line_put.specs.Put.{put_as}
use Rattle.step_stream.proofs.put_held.Goals as goal

pub returns : goal.returns
returns c =
    let l = length-take c.min-n.result c.args.queue.now in
    let e = c.put.ensures.next in
    (put_as c.put.ensures (ap (λ (n : ℕ). take n c.args.queue.now) c.min-n.ensures ∙ take_min c.args.filled c.args.queue.now), omega arith)
