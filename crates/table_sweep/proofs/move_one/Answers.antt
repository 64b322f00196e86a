-- `move_one`: an entry goes, or stands where it is as it is, or is put where it moves to. Assumes nothing.
use mathlib.Core.Path.{sym, ◌∙◌}
use native.Mathlib.Omega.{arith}
use Rattle.table_sweep.specs.Swept.{passing-go, passing-rest, passing_stay}
use Rattle.table_sweep.proofs.move_one.Goals as goal

pub returns-then-is_gone : goal.returns-then-is_gone
returns-then-is_gone c =
    record { moved = λ vs h p. passing-go c.args.sweep vs c.args.words.now c.args.i c.args.o p h c.get-e.result c.get-e.ensures (sym c.is_gone.ensures ∙ c.if-is_gone.true) }

pub returns-then-c-e : goal.returns-then-c-e
returns-then-c-e c =
    record {
      moved = λ vs h p. passing-rest c.args.sweep vs c.args.words.now c.args.i c.args.o p h c.get-e.result c.get-e.ensures c.calmed-c.result c.calmed-c.ensures (sym c.is_gone.ensures ∙ c.if-is_gone.false)
          c.if-o-i.true c.if-c-e.true (omega (arith, c.requires.0, c.requires.1));
    }

pub returns : goal.returns
returns c =
    record {
      moved =
          λ vs h p.
          rw c.put.ensures
          (passing_stay c.args.sweep vs c.args.words.now c.args.i c.args.o p h c.get-e.result c.get-e.ensures c.calmed-c.result c.calmed-c.ensures
          (sym c.is_gone.ensures ∙ c.if-is_gone.false) (omega arith));
    }
