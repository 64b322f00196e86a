-- `program_at`: the keys from the first cell on; the definition gives one step more than two for each octet, which is enough. Assumes nothing.
use lib.ListN.{length}
use native.Mathlib.Omega.{arith}
use Prim.Native.Nat.{◌+◌, ◌*◌}
use Rattle.read_keys.proofs.program_at.Goals as goal

pub returns : goal.returns
returns c =
    record {
      within = c.keys_at.ensures.within;
      exact = c.keys_at.ensures.exact (2 * length c.args.text.now + 1) (omega arith);
    }
