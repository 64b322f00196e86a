-- Worked examples: what the definitions say of a few lines. Assumes nothing.
use Rattle.std.specs.Prelude.{◌≡◌, refl, Some, None, true, false, get_or}
use Rattle.model.specs.Text.{octets}
use Rattle.model.specs.Lists.{same}
use Rattle.model.specs.Reading.{run_length, unquote, row_at}
use Rattle.model.specs.NotifyGrammar.{scope_of, filter_at, event_of, events_at, group_at, notify_at}
use Rattle.model.specs.Limits.{limits}
use Rattle.model.specs.Memory.{no_group}
use Rattle.model.specs.Attributes.{label_of, attribute_at}
use Rattle.model.specs.declared.Session.{Session}
use Rattle.model.specs.declared.Reply.TheVariants.{Bad as BadReply}
use Rattle.read_notify.specs.Tallies.{reply_by_tally}
use Rattle.read_notify.specs.Readings.{read_notify}
use Rattle.read_notify.specs.Watched.{watched_by}

-- no more notices
nothing : read_notify (notify_at (octets "a NOTIFY none") 9) ≡ Some (None, 13)
unfolding notify_at run_length same
nothing = refl

-- two groups with three names, and STATUS
two_groups : read_notify (notify_at (octets "SET STATUS (subtree (a b) NONE) (mailboxes c (MailboxName))") 0)
    ≡ Some (Some (true, record { groups = 2; names = 3; selected = 0; amiss = false; badevent = false; unsupported = false }), 59)
unfolding notify_at group_at filter_at scope_of events_at event_of run_length unquote row_at same
two_groups = refl

-- MessageNew without MessageExpunge, in a group that asks for an unknown event too
unpaired-group : read_notify (notify_at (octets "SET (selected (MessageNew Foo))") 0)
    ≡ Some (Some (false, record { groups = 1; names = 0; selected = 1; amiss = true; badevent = true; unsupported = false }), 31)
unfolding notify_at group_at filter_at scope_of events_at event_of run_length unquote row_at same
unpaired-group = refl

-- BAD comes before BADEVENT
refused_first : reply_by_tally limits (record { groups = 1; names = 0; selected = 1; amiss = true; badevent = true; unsupported = false }) ≡ BadReply
refused_first = refl

-- one level of a subtree is not for NOTIFY
one_level : read_notify (notify_at (octets "SET (subtree-one a NONE)") 0) ≡ None
unfolding notify_at group_at filter_at scope_of events_at event_of run_length unquote row_at same
one_level = refl

-- the second group of a session: the selected mailbox, MessageNew and MessageExpunge, UID with the first
kept-group : (s : Session) → get_or (watched_by (notify_at (octets "SET (subtree a NONE) (selected (MessageNew (UID) MessageExpunge))") 0) s).groups 1 no_group
    ≡ record { selector = 0; first = 0; count = 0; events = 3; attributes = 1 }
unfolding notify_at group_at filter_at scope_of events_at event_of attribute_at label_of run_length unquote row_at same
kept-group s = refl
