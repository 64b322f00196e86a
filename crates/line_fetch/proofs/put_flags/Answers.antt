-- `put_flags`: the five names, each as its bit says. Assumes nothing.
use mathlib.Core.Path.{◌≡◌}
use mathlib.Core.Bool.{Bool, ◌||◌}
use Prim.Native.Nat.{◌/◌, ◌%◌}
use lib.Dec.{eqb}
use borrow.Author.Rules.{rules}
use Rattle.line_put.specs.Writes.{◌then◌, writes_as}
use Rattle.line_fetch.specs.Fetch.{flags_pieces}
use Rattle.line_fetch.proofs.put_flags.Goals as goal

pub returns-clause-put : goal.returns-clause-put
returns-clause-put c =
    let a : Bool = eqb (c.args.flags % 2) 1 in
    let b : Bool = eqb (c.args.flags / 2 % 2) 1 in
    let k : Bool = eqb (c.args.flags / 4 % 2) 1 in
    let d : Bool = eqb (c.args.flags / 8 % 2) 1 in
    let e : c.if-a.ab ≡ (a || b) = search rules in
    let f : c.if-ab.abc ≡ ((a || b) || k) = search rules in
    let g : c.if-abc.put_flag ≡ (((a || b) || k) || d) = search rules in
    writes_as (◌then◌ (◌then◌ (◌then◌ (◌then◌ c.put_flag.ensures.put c.put_flag-2.ensures.put) (rw e at c.put_flag-3.ensures.put)) (rw f at c.put_flag-4.ensures.put)) (rw g at c.put_flag-5.ensures.put)) (flags_pieces c.args.flags)
