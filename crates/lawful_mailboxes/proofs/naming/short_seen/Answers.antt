-- The first 48 octets are counted, and zero words have zero octets.
use mathlib.Core.Path.{sym, ◌∙◌}
use borrow.Author.Tests.{eqb-true}
use Rattle.lawful_mailboxes.specs.Neighbours.{all_placed, short_placed}
use Rattle.lawful_mailboxes.proofs.naming.short_seen.Goals as goal

pub returns-then-word-eq0 : goal.returns-then-word-eq0
returns-then-word-eq0 c =
    λ z.
    short_placed c.args.octets.now c.args.from
    (all_placed c.args.octets.now c.args.from 48 (sym c.misplaced_from.ensures ∙ c.if-misplaced_from-eq0.true))
    (sym c.word.ensures ∙ c.if-word-eq0.true)
    (sym c.word-then-word-eq0.ensures ∙ eqb-true _ _ z)
