-- The last UID of each row bounds those of its mailbox so far, behind each run and the entry between two; in the end it is below the UIDNEXT.
use Rattle.std.proofs.Common.{◌≡◌, ◌/◌, length, arith, length-set, rules, ltb-true}
use Rattle.table_messages.specs.Words.{messages}
use Rattle.lawful_digests.specs.Distinct.{low_wider}
use Rattle.lawful_quick.specs.Passing.{Below, good_none, going_start, passed_next, gone, all_used}
use Rattle.lawful_quick.proofs.all_fit.Goals as goal

pub run-p-requires : goal.run-p-requires
run-p-requires c = (
  search rules,
  search rules,
  search rules,
  omega arith,
  search rules,
  low_wider c.args.g.now.slots c.args.cols.now.n 64 (omega arith) (let few = c.args.cols.now.few in omega arith) c.requires.0,
)

pub loop-p-init : goal.loop-p-init
loop-p-init c = (
  search rules,
  c.run-p.ensures.inside,
  c.run-p.ensures.whole,
  c.run-p.ensures.long,
  λ l q w v a. c.run-p.ensures.kept l c.args.cols.now.nexts w v a (omega arith) (rw q c.requires.0) (going_start l _ _ _ _ _),
)

pub run-p-requires-in-loop-p : goal.run-p-requires-in-loop-p
run-p-requires-in-loop-p c = (
  omega arith,
  omega arith,
  omega arith,
  omega arith,
  simp length-set c.loop-p.invariant.3,
  low_wider c.args.g.now.slots c.args.cols.now.n 64 (omega arith) (let few = c.args.cols.now.few in omega arith) c.requires.0,
)

pub loop-p-smaller : goal.loop-p-smaller
loop-p-smaller c = omega arith

pub loop-p-preserved : goal.loop-p-preserved
loop-p-preserved c =
    let fits = c.entry_fits.ensures c.if-not-entry_fits.false in (
      c.loop-p.invariant.0,
      c.run-p-in-loop-p.ensures.inside,
      c.run-p-in-loop-p.ensures.whole,
      c.run-p-in-loop-p.ensures.long,
      λ l q w v a.
          c.run-p-in-loop-p.ensures.kept l c.args.cols.now.nexts w v a (omega arith) (rw q c.requires.0)
          (passed_next c.args.words.now c.args.cols.now.ids c.args.cols.now.nexts c.args.cols.now.counters l w v a c.args.view.selected c.args.view.told.0 c.loop-p.p c.loop-p.last c.owner-k.result c.loop-p.invariant.2 (omega arith) (omega arith) (omega arith) fits (c.loop-p.invariant.4 l q w v a)),
    )

pub returns-then-cols-lt1 : goal.returns-then-cols-lt1
returns-then-cols-lt1 c = λ l h w v ok a z.
    let e : 0 ≡ length c.args.words.now / 6 = omega (arith, ltb-true (length c.args.words.now) 6 z) in
    rw (← all_used c.args.words.now 0 e) (good_none l c.args.view.selected c.args.view.told.0)

pub returns : goal.returns
returns c =
    λ l h w v ok a z.
    let below : Below c.loop-p.last c.args.cols.now.nexts (length l) = rw h (c.below.ensures z) in
    let e : c.loop-p.p.at / 6 ≡ length c.args.words.now / 6 = omega arith in
    gone l c.args.cols.now.ids c.args.cols.now.nexts c.args.cols.now.counters w v a c.args.view.selected c.args.view.told.0 c.loop-p.last below ok
    (messages c.args.words.now) c.loop-p.p.flags c.loop-p.p.size c.if-p-gt31.false c.if-p-gt4294967295.false (rw (all_used c.args.words.now (c.loop-p.p.at / 6) e) at (c.loop-p.invariant.4 l h w v a))
