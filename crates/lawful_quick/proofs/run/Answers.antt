-- Each turn is a step of the pass, with the row of the entry's slot; where the loop is left nothing changes.
use Rattle.std.proofs.Common.{arith, length-set, rules}
use Rattle.lawful_quick.specs.Passing.{passed_next}
use Rattle.lawful_quick.proofs.run.Goals as goal

pub loop-p-init : goal.loop-p-init
loop-p-init c =
    record { on = search rules; inside = search rules; whole = c.requires.1; long = c.requires.4; kept = λ l nexts w v a o s g. g }

pub bounds-last-k : goal.bounds-last-k
bounds-last-k c =
    let z = c.requires.5 (omega arith) c.slot.result in search rules

pub bounds-cols-k : goal.bounds-cols-k
bounds-cols-k c = let z = c.requires.5 (omega arith) c.slot.result in search rules

pub bounds-cols-k-in-loop-p : goal.bounds-cols-k-in-loop-p
bounds-cols-k-in-loop-p c =
    let z = c.requires.5 (omega arith) c.slot.result in
    search rules

pub returns-then-not-entry_fits : goal.returns-then-not-entry_fits
returns-then-not-entry_fits c = c.loop-p.invariant

pub bounds-last-k-in-loop-p : goal.bounds-last-k-in-loop-p
bounds-last-k-in-loop-p c =
    let z = c.requires.5 (omega arith) c.slot.result in search rules

pub loop-p-preserved : goal.loop-p-preserved
loop-p-preserved c =
    let fits = c.entry_fits.ensures c.if-not-entry_fits.false in
    let z = c.requires.5 (omega arith) c.slot.result in
    record {
      on = omega arith;
      inside = omega arith;
      whole = omega arith;
      long = simp length-set c.loop-p.invariant.long;
      kept = λ l nexts w v a o s g.
          let y = s o c.slot.result in
          passed_next c.args.words.now c.args.cols.now.ids nexts c.args.cols.now.counters l w v a c.args.view.selected c.args.view.told.0
          c.loop-p.p c.loop-p.last c.from-k.result c.loop-p.invariant.whole (omega arith) (omega arith) (omega arith) fits
          (c.loop-p.invariant.kept l nexts w v a o s g);
    }

pub returns : goal.returns
returns c = c.loop-p.invariant
