-- `set_at`: a part, and behind a comma the rest of the set. It ends: the measure is the octets that are left. Assumes nothing.
use Rattle.std.specs.Prelude.{Some, None}
use Rattle.read_tests.proofs.SetLaws.{set_none, set_last, set_more}
use native.Mathlib.Omega.{arith}
use mathlib.Core.Path.{sym, ◌∙◌}
use Prim.Native.Nat.{◌-◌}
use Rattle.read_tests.proofs.sets.+set_at.Goals as goal

pub returns-in_err-part : goal.returns-in_err-part
returns-in_err-part t c =
    rw c.from_residual.ensures record { within = tt; exact = λ m h. set_none c.args.text.now c.args.at c.args.n m c.args.cells.now c.in_err-part.ensures.exact }

pub returns-then-octet_at-ne44 : goal.returns-then-octet_at-ne44
returns-then-octet_at-ne44 t c =
    let w = c.in_ok-part.ensures.within in
    record {
      within = (omega arith, omega arith, omega arith);
      exact =
          λ m h.
          set_last c.args.text.now c.args.at c.args.n m (omega arith) c.in_ok-part.part c.in_ok-part.ensures.exact c.args.cells.now c.store.new.cells c.store.ensures
          (λ e. c.if-octet_at-ne44.true (c.octet_at.ensures ∙ e));
    }

pub returns-in_err-parts : goal.returns-in_err-parts
returns-in_err-parts t c =
    let w = c.in_ok-part.ensures.within in
    rw c.from_residual-in_err-parts.ensures record {
      within = tt;
      exact =
          λ m h.
          set_more c.args.text.now c.args.at c.args.n m (omega arith) c.in_ok-part.part c.in_ok-part.ensures.exact c.args.cells.now c.store.new.cells c.store.ensures
          (sym c.octet_at.ensures ∙ c.if-octet_at-ne44.false) None c.set_at.new.cells (c.in_err-parts.ensures.exact (m - 1) (omega arith));
    }

pub returns : goal.returns
returns t c =
    let w = c.in_ok-part.ensures.within in
    let v = c.in_ok-parts.ensures.within in
    record {
      within = (omega arith, omega arith, omega arith);
      exact =
          λ m h.
          set_more c.args.text.now c.args.at c.args.n m (omega arith) c.in_ok-part.part c.in_ok-part.ensures.exact c.args.cells.now c.store.new.cells c.store.ensures
          (sym c.octet_at.ensures ∙ c.if-octet_at-ne44.false) (Some (c.in_ok-parts.parts, c.in_ok-parts.next)) c.set_at.new.cells
          (c.in_ok-parts.ensures.exact (m - 1) (omega arith));
    }
