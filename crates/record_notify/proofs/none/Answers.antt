-- `none`: its tagged line has at most 130 octets, so it is never too large; it fits, or refusal 8 is due. Assumes nothing.
use native.Mathlib.Omega.{arith}
use Rattle.laws.specs.Room.{sizes}
use Rattle.record_notify.specs.NotifyNone.{none_comes}
use Rattle.record_notify.proofs.none.Goals as goal

pub say_reply-said-requires : goal.say_reply-said-requires
say_reply-said-requires c =
    let z = sizes _ _ c.args.s.now c.requires in (omega arith, omega arith)

pub returns : goal.returns
returns c =
    λ m ws lent p e.
    none_comes m ws c.args.counts c.args.s.now c.args.queue.now c.args.text.now lent c.requires p e
    c.say_reply-said.ensures _ c.watched-watched.ensures _ c.outcome.ensures
