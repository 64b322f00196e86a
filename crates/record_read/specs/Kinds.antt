-- The kinds of records as code names them. Assumes nothing: these are definitions.
use Rattle.model.specs.Records.{Kind as RecordKind, MB, DL, RN, SB, RT, ME, XP, FL, SE, CE, CM, DR, unknown}
use Rattle.record_read.specs.declared.Kind.{Kind}
use Rattle.record_read.specs.declared.Kind.TheVariants.{Create, Delete, Rename, Subscribe, Grant, Arrive, Expunge, Reflag, Select, Ended, Command, Drained, Unknown}

-- the mark that a kind has
abbrev pub kind_for : Kind → RecordKind
kind_for Create = MB
kind_for Delete = DL
kind_for Rename = RN
kind_for Subscribe = SB
kind_for Grant = RT
kind_for Arrive = ME
kind_for Expunge = XP
kind_for Reflag = FL
kind_for Select = SE
kind_for Ended = CE
kind_for Command = CM
kind_for Drained = DR
kind_for Unknown = unknown
