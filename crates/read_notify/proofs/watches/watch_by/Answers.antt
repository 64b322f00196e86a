-- `watch_by`: groups that are few enough are the session's. Assumes nothing.
use mathlib.Core.Path.{◌∙◌}
use Rattle.read_notify.proofs.Watching.{watched_few}
use Rattle.read_notify.proofs.watches.watch_by.Goals as goal

pub returns-in-Groups : goal.returns-in-Groups
returns-in-Groups c =
    λ x p k. c.settled.ensures ∙ watched_few x p c.args.session c.in-Groups.g (rw c.in-Groups.is at k) c.if-g-le8.true c.if-g-le16.true
