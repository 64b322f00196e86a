-- `put_set`: the open run and what is left are all that is to be written. Assumes nothing.
use Rattle.std.proofs.Common.{◌≡◌, true, false, eqb, ◌+◌, ◌-◌, length, take, drop, get_or, arith, rules, tests}
use Rattle.line_found.specs.Writing.{set_joined, set-apart, set_end}
use Rattle.line_found.proofs.put_set.Goals.{then-not-follows, else-not-follows}
use Rattle.line_found.proofs.put_set.Goals as goal

pub loop-u-preserved : goal.loop-u-preserved
loop-u-preserved c =
    let xs = take (length c.args.uids.now - 1) (drop 1 c.args.uids.now) in
    elim c.if-not-follows.branch [
      | then-not-follows w ↦
          let e : eqb (get_or xs c.loop-u.u-index 0) (c.loop-u.upto.0 + 1) ≡ false = search (rules, tests) in
          rw (w.w-is, w.from-is, w.upto-is) (record {
            limit = omega arith;
            upper_bound = omega arith;
            put = set-apart c.loop-u.from.0 c.loop-u.upto.0 xs c.loop-u.u-index c.loop-u.invariant.put c.loop-u-test.true e w.put_part.ensures.put;
          })
      | else-not-follows w ↦
          let e : eqb (get_or xs c.loop-u.u-index 0) (c.loop-u.upto.0 + 1) ≡ true = search (rules, tests) in
          rw (w.w-is, w.from-is, w.upto-is) (record {
            limit = omega arith;
            upper_bound = omega arith;
            put = set_joined c.loop-u.from.0 c.loop-u.upto.0 xs c.loop-u.u-index c.loop-u.invariant.put c.loop-u-test.true e;
          })
    ]

pub returns-clause-put : goal.returns-clause-put
returns-clause-put c =
    set_end c.loop-u.from.0 c.loop-u.upto.0 (take (length c.args.uids.now - 1) (drop 1 c.args.uids.now)) c.loop-u.u-index c.loop-u.invariant.put c.loop-u-test.false c.put_run.ensures.put
