-- A name in a buffer, over plain values. Assumes nothing.
use mathlib.Core.Path.{◌≡◌}
use mathlib.Core.List.{List, []}
use Prim.Native.Nat.{ℕ, ◌≤◌, ◌<◌}
use native.Mathlib.Omega.{arith}
use lib.ListN.{length, take, drop}
use lib.Seq.{take_all, take-append_seam}
use borrow.Author.Tests.{le-leb, lt-leb}
use Rattle.model.specs.Listing.{lend_name}
use Rattle.octets.specs.Values.{fill}

-- the front of a buffer that a value filled is the value
pub front : (out v out' : List ℕ) (r : ℕ) → r ≡ length v → out' ≡ fill out v → r ≤ length out → take r out' ≡ v
front out v out' r e f h =
    let l : length v ≤ length out = omega arith in
    rw (f, e, take_all (length out) v) (take-append_seam v (drop (length v) out))

-- a value that is too long is no name
pub too_long : (v : List ℕ) → 64 < length v → lend_name [] ≡ lend_name v
too_long v h = let l : 1 ≤ length v = omega arith in rw (le-leb 1 (length v), lt-leb (length v) 64)
