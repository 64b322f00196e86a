-- `try_case`: what the calls read stood behind what the head read.
use Rattle.std.proofs.Common.{◌++◌, Result, Ok, Err, OnErr}
use Rattle.std.proofs.KnownBytes.{Consumes-trans}
use Rattle.run_cases.proofs.try_case.Goals as goal

on_err : {A E P : Type 0} (r : Result A E) → P → OnErr r P
on_err (Ok x) p = tt
on_err (Err e) p = p

pub returns-in_err-verdict : goal.returns-in_err-verdict
returns-in_err-verdict g c =
    let a = c.print_head.ensures in
    let b = c.run_case.ensures in
    on_err c.from_residual-in_err-verdict.result (a.0 ++ b.0, Consumes-trans _ _ _ a.0 b.0 a.1 b.1)

pub returns-in_err-write-2 : goal.returns-in_err-write-2
returns-in_err-write-2 g c =
    let a = c.print_head.ensures in
    let b = c.run_case.ensures in
    on_err c.from_residual-in_err-write-2.result (a.0 ++ b.0, Consumes-trans _ _ _ a.0 b.0 a.1 b.1)
