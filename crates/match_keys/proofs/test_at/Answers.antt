-- `test_at`: each kind of key that holds no keys is tested on the facts that the definition of its test names. Assumes nothing.
use Rattle.match_keys.specs.Laws.{as_asked, answers_uids, answers_numbers, answers_kind, answers_bare}
use Rattle.model.specs.Searching.{agrees}
use mathlib.Core.Bool.{beq}
use lib.Dec.{eqb, ltb}
use lib.ListN.{get_or}
use Prim.Native.Nat.{◌+◌}
use mathlib.Core.Path.{refl, ap, ◌∙◌}
use native.Mathlib.Omega.{arith}
use Rattle.match_keys.proofs.test_at.Goals as goal

pub returns-then-kind-eq-UIDS : goal.returns-then-kind-eq-UIDS
returns-then-kind-eq-UIDS c =
    answers_uids c.args.cells.now c.args.at c.cell-kind.result c.cell-kind.ensures c.args.stop c.args.facts c.set_at.result (omega arith) c.if-kind-eq-UIDS.true c.set_at.ensures.0 c.set_at.ensures.1

pub returns-then-kind-eq-NUMBERS : goal.returns-then-kind-eq-NUMBERS
returns-then-kind-eq-NUMBERS c =
    answers_numbers c.args.cells.now c.args.at c.cell-kind.result c.cell-kind.ensures c.args.stop c.args.facts c.set_at-then-kind-eq-NUMBERS.result (omega arith) c.if-kind-eq-NUMBERS.true c.set_at-then-kind-eq-NUMBERS.ensures.0 c.set_at-then-kind-eq-NUMBERS.ensures.1

pub returns-in-2 : goal.returns-in-2
returns-in-2 c =
    answers_kind c.args.cells.now c.args.at c.cell-kind.result c.cell-kind.ensures c.args.stop c.args.facts
    (record { holds = beq (eqb c.cell-on.result 1) c.bit_of.result; after = c.args.at + 3 }) (omega arith) c.requires.0.0 c.cell-x.result c.cell-on.result c.cell-x.ensures
    c.cell-on.ensures 2 c.in-2.is (omega arith) refl (omega arith) (as_asked (eqb c.cell-on.result 1) c.bit_of.result ∙ ap (agrees (eqb c.cell-on.result 1)) c.bit_of.ensures)

pub returns-in-3 : goal.returns-in-3
returns-in-3 c =
    answers_kind c.args.cells.now c.args.at c.cell-kind.result c.cell-kind.ensures c.args.stop c.args.facts
    (record { holds = ltb c.cell-x.result c.args.facts.size; after = c.args.at + 2 }) (omega arith) c.requires.0.0 c.cell-x.result (get_or c.args.cells.now (c.args.at + 2) 0)
    c.cell-x.ensures refl 3 c.in-3.is (omega arith) refl (omega arith) refl

pub returns-in-4 : goal.returns-in-4
returns-in-4 c =
    answers_kind c.args.cells.now c.args.at c.cell-kind.result c.cell-kind.ensures c.args.stop c.args.facts
    (record { holds = ltb c.args.facts.size c.cell-x.result; after = c.args.at + 2 }) (omega arith) c.requires.0.0 c.cell-x.result (get_or c.args.cells.now (c.args.at + 2) 0)
    c.cell-x.ensures refl 4 c.in-4.is (omega arith) refl (omega arith) refl

pub returns-in_default : goal.returns-in_default
returns-in_default c =
    answers_bare c.args.cells.now c.args.at c.cell-kind.result c.cell-kind.ensures c.args.stop c.args.facts
    (record { holds = eqb c.cell-kind.result 1; after = c.args.at + 1 }) (omega arith) c.requires.0.0 (get_or c.args.cells.now (c.args.at + 1) 0) (get_or c.args.cells.now (c.args.at + 2) 0)
    refl refl (λ z. (let y : ⊥ = omega arith in y)) (λ z. (let y : ⊥ = omega arith in y)) (λ z. (let y : ⊥ = omega arith in y)) (λ z. (let y : ⊥ = omega arith in y)) (λ z. (let y : ⊥ = omega arith in y)) refl refl
