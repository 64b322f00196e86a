-- What a kind of record is about, and whose mailbox it needs. Assumes nothing.
use Rattle.std.specs.Prelude.{◌≡◌, refl, ℕ}
use Rattle.record_read.specs.declared.Kind.{Kind}
use Rattle.record_read.specs.declared.Kind.TheVariants.{Create, Delete, Rename, Subscribe, Grant, Arrive, Expunge, Reflag, Select, Ended, Command, Drained, Unknown}
use Rattle.record_kind.specs.declared.OfMailbox.{OfMailbox}
use Rattle.record_kind.specs.declared.OfMailbox.TheVariants as B
use Rattle.record_kind.specs.declared.OfMessage.{OfMessage}
use Rattle.record_kind.specs.declared.OfMessage.TheVariants as E
use Rattle.record_kind.specs.declared.OfSession.{OfSession}
use Rattle.record_kind.specs.declared.OfSession.TheVariants as O
use Rattle.record_kind.specs.declared.Subject.{Subject}
use Rattle.record_kind.specs.declared.Subject.TheVariants as S

-- ---- kinds by what they are about
abbrev pub subject_of : Kind → Subject
subject_of Create = S.Mailbox B.Create
subject_of Delete = S.Mailbox B.Delete
subject_of Rename = S.Mailbox B.Rename
subject_of Subscribe = S.Mailbox B.Subscribe
subject_of Grant = S.Mailbox B.Grant
subject_of Arrive = S.Message E.Arrive
subject_of Expunge = S.Message E.Expunge
subject_of Reflag = S.Message E.Reflag
subject_of Select = S.Session O.Select
subject_of Ended = S.Session O.Ended
subject_of Command = S.Command
subject_of Drained = S.Session O.Drained
subject_of Unknown = S.Nothing

-- and back
abbrev pub mailbox_kind : OfMailbox → Kind
mailbox_kind B.Create = Create
mailbox_kind B.Delete = Delete
mailbox_kind B.Rename = Rename
mailbox_kind B.Subscribe = Subscribe
mailbox_kind B.Grant = Grant

abbrev pub message_kind : OfMessage → Kind
message_kind E.Arrive = Arrive
message_kind E.Expunge = Expunge
message_kind E.Reflag = Reflag

abbrev pub session_kind : OfSession → Kind
session_kind O.Select = Select
session_kind O.Ended = Ended
session_kind O.Drained = Drained

abbrev pub kind_by : Subject → Kind
kind_by (S.Mailbox k) = mailbox_kind k
kind_by (S.Message k) = message_kind k
kind_by (S.Session k) = session_kind k
kind_by S.Command = Command
kind_by S.Nothing = Unknown

pub kind_is : (k : Kind) → k ≡ kind_by (subject_of k)
kind_is Create = refl
kind_is Delete = refl
kind_is Rename = refl
kind_is Subscribe = refl
kind_is Grant = refl
kind_is Arrive = refl
kind_is Expunge = refl
kind_is Reflag = refl
kind_is Select = refl
kind_is Ended = refl
kind_is Command = refl
kind_is Drained = refl
kind_is Unknown = refl

-- ---- whose mailbox a record needs: that of its id, or the selected one
abbrev pub sought : Kind → ℕ → ℕ → ℕ
sought Create i sel = i
sought Delete i sel = i
sought Rename i sel = i
sought Subscribe i sel = i
sought Grant i sel = i
sought Arrive i sel = i
sought Expunge i sel = i
sought Reflag i sel = i
sought Select i sel = i
sought Ended i sel = sel
sought Command i sel = sel
sought Drained i sel = sel
sought Unknown i sel = i
