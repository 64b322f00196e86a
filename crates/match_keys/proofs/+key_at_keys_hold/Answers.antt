-- `key_at`, `keys_hold`: keys and lists of keys call each other on ever fewer cells; the loop keeps what the keys from i on still have to decide. Assumes nothing.
use mathlib.Core.Bool.{beq}
use Rattle.std.proofs.Math.Bool.{not}
use Rattle.match_keys.specs.Laws.{as_asked, other, going_start, going_decided, going_next, going_in, going_end, answers_nest}
use mathlib.Core.Path.{sym, ◌∙◌}
use native.Mathlib.Omega.{arith}
use borrow.Author.Rules.{rules}
use Rattle.match_keys.proofs.+key_at_keys_hold.Goals as goal

pub key_at-keys_hold-r-requires : goal.key_at-keys_hold-r-requires
key_at-keys_hold-r-requires t c = (omega arith, omega arith)

pub key_at-returns : goal.key_at-returns
key_at-returns t c =
    answers_nest c.args.cells.now c.args.at c.cell-kind.result c.cell-kind.ensures c.args.stop c.args.facts _ c.if-kind-lt-NOT.false c.behind-after.ensures c.keys_hold-r.result c.keys_hold-r.ensures (as_asked _ c.keys_hold-r.result)

pub keys_hold-loop-i-init : goal.keys_hold-loop-i-init
keys_hold-loop-i-init t c =
    (omega arith, going_start c.args.cells.now c.args.at c.args.stop c.args.any c.args.facts)

pub keys_hold-loop-i-preserved-then-last_nest : goal.keys_hold-loop-i-preserved-then-last_nest
keys_hold-loop-i-preserved-then-last_nest t c =
    let n = c.last_nest.ensures c.if-last_nest.true in (omega arith, going_in c.args.cells.now c.args.at c.args.stop c.args.any c.args.facts c.loop-i.i c.loop-i.some c.loop-i.on c.loop-i.invariant.1 c.loop-i-test.true c.cell-kind.result c.cell-kind.ensures (omega (arith, n.0)) n.1 _ (search (rules, as_asked)))

pub keys_hold-key_at-k-requires : goal.keys_hold-key_at-k-requires
keys_hold-key_at-k-requires t c = (omega arith, (omega arith, omega arith))

pub keys_hold-returns-then-some-k : goal.keys_hold-returns-then-some-k
keys_hold-returns-then-some-k t c =
    going_decided c.args.cells.now c.args.at c.args.stop c.args.any c.args.facts c.loop-i.i c.loop-i.some c.loop-i.on c.loop-i.invariant.1 c.loop-i-test.true c.key_at-k.result c.key_at-k.ensures
    (sym (as_asked c.loop-i.some c.key_at-k.result.holds) ∙ c.if-some-k.true) (beq c.loop-i.on c.loop-i.some) (as_asked c.loop-i.on c.loop-i.some)

pub keys_hold-loop-i-smaller : goal.keys_hold-loop-i-smaller
keys_hold-loop-i-smaller t c = omega arith

pub keys_hold-loop-i-preserved : goal.keys_hold-loop-i-preserved
keys_hold-loop-i-preserved t c =
    (omega arith, going_next c.args.cells.now c.args.at c.args.stop c.args.any c.args.facts c.loop-i.i c.loop-i.some c.loop-i.on c.loop-i.invariant.1 c.loop-i-test.true c.key_at-k.result c.key_at-k.ensures (sym (as_asked c.loop-i.some c.key_at-k.result.holds) ∙ c.if-some-k.false))

pub keys_hold-returns : goal.keys_hold-returns
keys_hold-returns t c =
    going_end c.args.cells.now c.args.at c.args.stop c.args.any c.args.facts c.loop-i.i c.loop-i.some c.loop-i.on c.loop-i.invariant.1 c.loop-i-test.false (not (beq c.loop-i.on c.loop-i.some)) (other c.loop-i.on c.loop-i.some)
