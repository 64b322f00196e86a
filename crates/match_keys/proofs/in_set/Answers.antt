-- `in_set`: the part at a place has the number, or the parts behind it are left. Assumes nothing.
use Rattle.std.proofs.Common.{◌≡◌, ◌+◌, ◌*◌, ◌-◌, ◌<◌, ◌≤◌, Bool, arith, ap, length, length-drop, length-take-le, get_or, take, ℕ, List}
use mathlib.Core.Path.{sym, ◌∙◌}
use Rattle.std.proofs.Math.ListN.{drop}
use Rattle.std.proofs.lemmas.List.{get_or-take, get_or-drop}
use Rattle.match_keys.specs.Tests.{set_by, part_holds}
use Rattle.match_keys.specs.Laws.{hit_at, next_at, set_end}
use Rattle.match_keys.proofs.in_set.Goals as goal

-- the part at a place, among the cells from `at` up to `stop`
module _ (cells : List ℕ) (at stop last n k : ℕ) (h : k + 1 < stop - at) (w : stop ≤ length cells) (b : Bool) (q : b ≡ part_holds (get_or cells (at + k) 0) (get_or cells (at + k + 1) 0) last n) where
  part_long : k + 2 ≤ length (take (stop - at) (drop at cells))
  part_long = let d = length-drop at cells in let t = length-take-le (stop - at) (drop at cells) (omega arith) in omega arith

  cell_in : (j : ℕ) → j < stop - at → get_or (take (stop - at) (drop at cells)) j 0 ≡ get_or cells (at + j) 0
  cell_in j g = get_or-take (stop - at) (drop at cells) j 0 g ∙ get_or-drop at cells j 0

  part_is : b ≡ part_holds (get_or (take (stop - at) (drop at cells)) k 0) (get_or (take (stop - at) (drop at cells)) (k + 1) 0) last n
  part_is =
      let e : at + (k + 1) ≡ at + k + 1 = omega arith in
      rw (cell_in k (omega arith), cell_in (k + 1) h, e) q

pub returns-then-in_part : goal.returns-then-in_part
returns-then-in_part c =
    let k = 2 * c.loop-i.i in
    let h : k + 1 < c.args.stop - c.args.at = omega arith in
    hit_at c.args.last c.args.n (take (c.args.stop - c.args.at) (drop c.args.at c.args.cells.now)) k (part_long c.args.cells.now c.args.at c.args.stop c.args.last c.args.n k h c.requires c.in_part.result c.in_part.ensures)
    c.in_part.result (part_is c.args.cells.now c.args.at c.args.stop c.args.last c.args.n k h c.requires c.in_part.result c.in_part.ensures) c.if-in_part.true
    ∙ sym c.loop-i.invariant

pub loop-i-preserved : goal.loop-i-preserved
loop-i-preserved c =
    let k = 2 * c.loop-i.i in
    let h : k + 1 < c.args.stop - c.args.at = omega arith in
    let l = take (c.args.stop - c.args.at) (drop c.args.at c.args.cells.now) in
    c.loop-i.invariant
    ∙ next_at c.args.last c.args.n l k (part_long c.args.cells.now c.args.at c.args.stop c.args.last c.args.n k h c.requires c.in_part.result c.in_part.ensures)
    c.in_part.result (part_is c.args.cells.now c.args.at c.args.stop c.args.last c.args.n k h c.requires c.in_part.result c.in_part.ensures) c.if-in_part.false
    ∙ ap (λ (j : ℕ). set_by c.args.last c.args.n (drop j l)) (omega arith)

pub returns : goal.returns
returns c =
    let l = take (c.args.stop - c.args.at) (drop c.args.at c.args.cells.now) in
    let d = length-drop c.args.at c.args.cells.now in
    let t = length-take-le (c.args.stop - c.args.at) (drop c.args.at c.args.cells.now) (omega arith) in
    let m = length-drop (2 * c.loop-i.i) l in
    set_end c.args.last c.args.n (drop (2 * c.loop-i.i) l) (omega arith) ∙ sym c.loop-i.invariant
