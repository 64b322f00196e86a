-- What is read of octets: their fields, and the record as a whole, with what a caller may rely on where it is one.
-- Assumes nothing: these are definitions.
use Rattle.std.specs.Prelude.{◌≡◌, true, false, Option, Some, None, List, [], ◌∷◌, ℕ, suc, ◌+◌, ◌%◌, ◌≤◌, length, take, drop, get_or}
use Rattle.model.specs.Names.{valid}
use Rattle.model.specs.Records.{Field, id, id_or_none, attributes, quiet, uidvalidity, subscribed, rights, uid, flags, size, class, count, counter, Tail, nothing, name, command, layout, widths, values, all_in_range, kind_of, is_record, record_by, record_of}
use Rattle.record_read.specs.Kinds.{kind_for}
use Rattle.record_read.specs.Layouts.{fields_for}
use Rattle.record_read.specs.declared.Kind.{Kind}
use Rattle.record_read.specs.declared.bodies.Fields.{Fields}
use Rattle.record_read.specs.declared.layouts.Field.{Field as CodeField}
use Rattle.record_read.specs.declared.Received.{Received}

-- the fields of a layout, read from the fourth octet on, each in its range: their values stand first
pub record FieldsTaken (o : List ℕ) (fields : List CodeField) (r : Fields) : Type 0 where
  pub ranges : all_in_range (fields_for fields) (drop 4 o) ≡ true
  pub filled : take (length fields) r.values ≡ values (fields_for fields) (drop 4 o)
  pub places : length r.values ≡ 5
  pub ends : r.end ≡ 4 + widths (fields_for fields)

-- or one is out of its range
abbrev pub FieldsRead : List ℕ → List CodeField → Option Fields → Type 0
FieldsRead o fields None = all_in_range (fields_for fields) (drop 4 o) ≡ false
FieldsRead o fields (Some r) = FieldsTaken o fields r

-- the numbers that a field may have
abbrev pub Bounds : Field → ℕ → Type 0
Bounds id v = (1 ≤ v) × (v ≤ 65535)
Bounds id_or_none v = v ≤ 65535
Bounds attributes v = v ≤ 63
Bounds quiet v = v ≤ 1
Bounds uidvalidity v = (1 ≤ v) × (v ≤ 4294967295)
Bounds subscribed v = v ≤ 1
Bounds rights v = (v % 16 ≡ 0) × (v ≤ 48)
Bounds uid v = (1 ≤ v) × (v ≤ 4294967294)
Bounds flags v = v ≤ 31
Bounds size v = v ≤ 4294967295
Bounds class v = v ≤ 1
Bounds count v = v ≤ 4294967295
Bounds counter v = (1 ≤ v) × (v ≤ 9223372036854775807)

-- the values of some fields, the first at place j
abbrev pub Bounded : List Field → ℕ → List ℕ → Type 0
Bounded [] j vs = Unit {0}
Bounded (f ∷ fs) j vs = Bounds f (get_or vs j 0) × Bounded fs (suc j) vs

-- what may follow them
abbrev pub Following : Tail → List ℕ → Type 0
Following nothing t = length t ≡ 0
Following name t = (valid t ≡ true) × (1 ≤ length t) × (length t ≤ 64)
Following command t = length t ≤ 1024

-- the octets are a record of kind k with these values, and its tail begins there; for a kind that is known each part computes
pub record Says (k : Kind) (o vs : List ℕ) (tail : ℕ) : Type 0 where
  pub is : is_record o ≡ true
  pub says : record_of o ≡ record_by (kind_for k) vs (drop tail o)
  pub places : length vs ≡ 5
  pub bounds : Bounded (layout (kind_for k)).fields 0 vs
  pub following : Following (layout (kind_for k)).tail (drop tail o)
  pub within : tail ≤ length o

-- the octets are a record, and r is what they say
pub record Taken (o : List ℕ) (r : Received) : Type 0 where
  pub kind : kind_for r.kind ≡ kind_of o
  pub says : Says r.kind o r.values r.tail

-- r is what the octets say, if they are a record
abbrev pub Reads : List ℕ → Option Received → Type 0
Reads o None = is_record o ≡ false
Reads o (Some r) = Taken o r
