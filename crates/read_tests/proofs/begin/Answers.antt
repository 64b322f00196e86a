-- `begin`: a parenthesis, a star or a digit decides by itself; any other key begins with an atom, whose word decides. Assumes nothing.
use borrow.Author.Rules.{rules}
use borrow.Author.Tests.{tests}
use native.Mathlib.Omega.{arith}
use mathlib.Core.Path.{sym, ◌∙◌}
use Rattle.model.specs.Reading.{number_set_at}
use Rattle.model.specs.SearchGrammar.{start_at}
use Rattle.octets.specs.Rows.{in-text}
use Rattle.read_tests.proofs.Shapes.{begun_numbers}
use Rattle.read_tests.proofs.begin.Goals as goal
use Rattle.read_tests.proofs.begin.Goals.{then-b-eq42-via-then-b-eq42, then-b-eq42-via-else-b-eq42+then-in_class}

pub returns-then-b-eq40 : goal.returns-then-b-eq40
unfolding start_at
returns-then-b-eq40 c =
    let i = in-text c.args.text.now c.args.at (sym c.octet_at-b.ensures ∙ c.if-b-eq40.true) (omega arith) in
    record { within = (omega arith, omega arith); exact = search rules }

pub returns-then-b-eq42 : goal.returns-then-b-eq42
unfolding start_at
returns-then-b-eq42 c =
    let e = begun_numbers c.put_set.result c.args.cells.now c.put_set.new.cells c.args.n (number_set_at c.args.text.now c.args.at) c.put_set.ensures.exact in
    elim c.then-b-eq42.branch [
      | then-b-eq42-via-then-b-eq42 w ↦ record { within = c.put_set.ensures.within; exact = search (rules, tests) }
      | then-b-eq42-via-else-b-eq42+then-in_class w ↦ record { within = c.put_set.ensures.within; exact = search (rules, tests) }
    ]
