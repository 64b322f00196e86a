-- `put_set`: the parts lie behind two cells, and writing these two leaves the parts as they are. Assumes nothing.
use Rattle.read_tests.proofs.Shapes.{put_parts, put_none}
use Rattle.model.specs.Reading.{number_set_at}
use lib.ListN.{length}
use native.Mathlib.Omega.{arith}
use Rattle.read_tests.proofs.put_set.Goals as goal

pub returns-in_err-parts : goal.returns-in_err-parts
unfolding number_set_at
returns-in_err-parts c =
    rw c.from_residual.ensures record {
      within = tt;
      exact = put_none c.args.kind c.args.cells.now c.set_at.new.cells c.set_at.new.cells c.args.n _ (c.in_err-parts.ensures.exact (length c.args.text.now) (omega arith));
    }

pub returns : goal.returns
unfolding number_set_at
returns c =
    let w = c.in_ok-parts.ensures.within in
    record {
      within = ((omega arith, omega arith), omega arith, omega arith);
      exact =
          put_parts c.args.kind c.args.cells.now c.set_at.new.cells c.store.new.cells c.args.n c.in_ok-parts.parts c.in_ok-parts.next _
          (c.in_ok-parts.ensures.exact (length c.args.text.now) (omega arith)) c.store.ensures;
    }
