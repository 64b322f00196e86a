-- `flag_now`: the line is said, and the mark ends if it fits. Assumes nothing.
use Rattle.std.proofs.Common.{rules, tests, ◌≡◌}
use Rattle.std.specs.Prelude.{cond}
use Rattle.event_message.specs.Flagged.{told_leaves}
use Rattle.event_flags.proofs.flag_now.Goals as goal
use Rattle.event_flags.proofs.flag_now.Goals.{then-said, else-said}

pub returns : goal.returns
returns c =
    let states : c.if-said.states ≡ cond c.say-said.result.fits 0 c.get-e.result.states = elim c.if-said.branch [ then-said w ↦ search (rules, tests) | else-said w ↦ search (rules, tests) ] in
    told_leaves c.args.words.now _ c.args.used c.args.queue.now c.args.s.now c.args.filled c.args.k c.args.flags c.args.counter c.get-e.result c.changed.result c.if-said.states
    c.get-e.ensures c.changed.ensures c.put.ensures c.requires.0 c.args.n.0 _ c.say-said.result.fits c.say-said.result.end _ _ states c.say-said.ensures c.hear.ensures.0 c.hear.ensures.1
