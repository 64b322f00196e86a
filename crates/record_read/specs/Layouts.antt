-- The layouts as code has them, and that they are the layouts of the rules. Assumes nothing: these are definitions.
use Rattle.std.specs.Prelude.{◌≡◌, List, map, ◌≤◌, length}
use Rattle.model.specs.Records.{Field as RecordField, id, id_or_none, attributes, quiet, uidvalidity, subscribed, rights, uid, flags, size, class, count, counter, Tail as RecordTail, nothing, name, command, Layout as RecordLayout}
use Rattle.record_read.specs.declared.layouts.Field.{Field}
use Rattle.record_read.specs.declared.layouts.Field.TheVariants.{Id, IdOrNone, Attributes, Quiet, Uidvalidity, Subscribed, Rights, Uid, Flags, Size, Class, Count, Counter}
use Rattle.record_read.specs.declared.layouts.Tail.{Tail}
use Rattle.record_read.specs.declared.layouts.Tail.TheVariants.{Nothing, Name, Command}
use Rattle.record_read.specs.declared.layouts.Layout.{Layout}

-- ---- fields
-- a field as the rules name it
abbrev pub field_for : Field → RecordField
field_for Id = id
field_for IdOrNone = id_or_none
field_for Attributes = attributes
field_for Quiet = quiet
field_for Uidvalidity = uidvalidity
field_for Subscribed = subscribed
field_for Rights = rights
field_for Uid = uid
field_for Flags = flags
field_for Size = size
field_for Class = class
field_for Count = count
field_for Counter = counter

-- the fields of a layout
abbrev pub fields_for : List Field → List RecordField
fields_for fields = map field_for fields

-- ---- what follows them
-- a tail as the rules name it
abbrev pub tail_for : Tail → RecordTail
tail_for Nothing = nothing
tail_for Name = name
tail_for Command = command

-- ---- layouts
-- a layout of code says the fields and the tail of one of the rules
pub record Fits (c : Layout) (l : RecordLayout) : Type 0 where
  pub few : length c.fields.now ≤ 5
  pub fields : fields_for c.fields.now ≡ l.fields
  pub tail : tail_for c.tail ≡ l.tail
