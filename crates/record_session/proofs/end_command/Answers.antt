-- `end_command`: a command has ended, and what fits of the lines owed is written; nothing is done where none is owed. Assumes nothing.
use borrow.Author.Rules.{rules}
use native.Mathlib.Omega.{arith}
use mathlib.Core.Path.{ap, sym, ◌∙◌}
use borrow.Author.Tests.{not-true}
use Rattle.std.proofs.Common.{Ok}
use Rattle.laws.specs.Room.{sizes}
use Rattle.record_outcome.specs.declared.Outcome.{Outcome}
use Rattle.record_session.specs.Leaving.{end_comes, end-unowed}
use Rattle.record_session.proofs.end_command.Goals as goal

pub returns-then-not-is_owed : goal.returns-then-not-is_owed
returns-then-not-is_owed c =
    λ m lent law is. end-unowed m c.args.words.now c.args.counts c.args.s.now c.args.queue.now lent law c.args.x.now is c.args.class _ c.requires.words (rw (c.from.ensures, c.from-2.ensures) at (sym c.is_owed.ensures ∙ not-true c.is_owed.result c.if-not-is_owed.true-raw)) (ap (λ (j : Outcome). Ok j) c.unmoved.ensures)

pub end_command-closed-requires : goal.end_command-closed-requires
end_command-closed-requires c = let z = sizes _ _ _ c.requires.room in (c.requires.words, c.requires.messages, search rules, omega arith, omega arith, omega arith)

pub returns : goal.returns
returns c =
    λ m lent law is. end_comes m c.args.words.now c.args.counts c.args.s.now c.args.queue.now lent law c.args.x.now is c.args.class _ c.has_rights.result c.has_rights.ensures c.end_command-closed.result c.end_command-closed.ensures (ap (λ (j : Outcome). Ok j) c.unmoved-2.ensures)
