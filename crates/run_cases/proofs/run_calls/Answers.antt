-- `run_calls`: what a turn read stood behind what the turns before it read.
use Rattle.std.proofs.Common.{◌++◌, rules}
use Rattle.std.proofs.KnownBytes.{Consumes-trans}
use Rattle.run_cases.proofs.run_calls.Goals as goal

pub returns-in_err-write-in-Ok : goal.returns-in_err-write-in-Ok
returns-in_err-write-in-Ok g c =
    let a = c.loop-i.invariant.4 in
    let b = c.next_turn.ensures in
    (a.0 ++ b.0, Consumes-trans _ _ _ a.0 b.0 a.1 b.1)

pub returns-in_err-write-in-Err : goal.returns-in_err-write-in-Err
returns-in_err-write-in-Err g c =
    let a = c.loop-i.invariant.4 in
    let b = c.next_turn.ensures in
    (a.0 ++ b.0, Consumes-trans _ _ _ a.0 b.0 a.1 b.1)

pub returns-in-Err : goal.returns-in-Err
returns-in-Err g c =
    let a = c.loop-i.invariant.4 in
    let b = c.next_turn.ensures in
    (a.0 ++ b.0, Consumes-trans _ _ _ a.0 b.0 a.1 b.1)

pub returns-after-t : goal.returns-after-t
returns-after-t g c =
    let a = c.loop-i.invariant.4 in
    let b = c.next_turn.ensures in
    (a.0 ++ b.0, Consumes-trans _ _ _ a.0 b.0 a.1 b.1)

pub loop-i-preserved : goal.loop-i-preserved
loop-i-preserved g c =
    let a = c.loop-i.invariant.4 in
    let b = c.next_turn.ensures in
    (search rules, search rules, search rules, search rules, (a.0 ++ b.0, Consumes-trans _ _ _ a.0 b.0 a.1 b.1))
