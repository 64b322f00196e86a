-- What the readers of attributes answer. Assumes nothing: these are definitions.
use Rattle.std.specs.Prelude.{Option, Some, None, true, false, ◌||◌, List, ℕ}
use Rattle.model.specs.Lists.{anyb}
use Rattle.model.specs.Requests.{Attribute, uid, flags, size, other_attribute}
use Rattle.model.specs.Requests.{is_uid_attribute, is_flags_attribute, is_size_attribute}
use Rattle.model.specs.Replies.{unsupported_attribute}
use Rattle.model.specs.Reading.{Parsed}
use Rattle.model.specs.Attributes.{Label, plain, body, peek, unlabelled, attribute_at}
use Rattle.octets.specs.Joined.{read_by}
use Rattle.read_attributes.specs.declared.Kind.{Kind}
use Rattle.read_attributes.specs.declared.Kind.TheVariants.{Uid, Flags, Size, Other}
use Rattle.read_attributes.specs.declared.Label.{Label as Word}
use Rattle.read_attributes.specs.declared.Label.TheVariants.{Plain, Body, Peek}
use Rattle.read_attributes.specs.declared.Attributes.{Attributes}

-- an attribute as the code has it
abbrev pub kind_of : Attribute → Kind
kind_of uid = Uid
kind_of flags = Flags
kind_of size = Size
kind_of other_attribute = Other

-- an attribute's word as the code has it
abbrev pub labelled : Label → Option Word
labelled (plain a) = Some (Plain (kind_of a))
labelled body = Some Body
labelled peek = Some Peek
labelled unlabelled = None

-- an attribute that was read, as the code answers it
abbrev pub read_attribute : Parsed Attribute → Option (Kind × ℕ)
read_attribute x = read_by kind_of x

-- which attributes occur in a list
abbrev pub gather : List Attribute → Attributes
gather l = record { uid = anyb is_uid_attribute l; flags = anyb is_flags_attribute l; size = anyb is_size_attribute l; other = anyb unsupported_attribute l }

-- attributes that were read, as the code answers them
abbrev pub read_attributes : Parsed (List Attribute) → Option (Attributes × ℕ)
read_attributes x = read_by gather x

-- one attribute alone
abbrev pub alone : Kind → Attributes
alone Uid = record { uid = true; flags = false; size = false; other = false }
alone Flags = record { uid = false; flags = true; size = false; other = false }
alone Size = record { uid = false; flags = false; size = true; other = false }
alone Other = record { uid = false; flags = false; size = false; other = true }

abbrev pub read_alone : List ℕ → ℕ → Option (Attributes × ℕ)
read_alone s p = read_by (λ a. alone (kind_of a)) (attribute_at s p)

-- two lists of attributes together
abbrev pub both : Attributes → Attributes → Attributes
both a b = record {
  uid = a.uid || b.uid;
  flags = a.flags || b.flags;
  size = a.size || b.size;
  other = a.other || b.other;
}
