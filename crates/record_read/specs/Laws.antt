-- What a caller knows of a record of a kind: what it says, the range of each value, and what follows the fields. Assumes nothing.
use Rattle.std.specs.Prelude.{◌≡◌, false, None, List, ℕ, ◌≤◌, length, drop}
use Rattle.model.specs.Records.{is_record, record_of, command}
pub use Rattle.record_read.specs.Reading.{Says}
use Rattle.record_read.specs.Reading.{Taken, Reads}
use Rattle.record_read.specs.declared.Kind.{Kind}
use Rattle.record_read.specs.declared.Kind.TheVariants.{Command}
use Rattle.record_read.specs.declared.Received.{Received}

-- octets that are no record
pub read-refused : (o : List ℕ) → Reads o None → is_record o ≡ false
read-refused o h = h

-- a record, by its kind
pub read-says : {o : List ℕ} {r : Received} → Taken o r → (k : Kind) → r.kind ≡ k → Says k o r.values r.tail
read-says h k same = rw same at h.says

-- a command: its line, and how long that is
module _ {o vs : List ℕ} {tail : ℕ} where
  pub command-says : Says Command o vs tail → record_of o ≡ command (drop tail o)
  command-says s = s.says

  pub command_bounds : Says Command o vs tail → length (drop tail o) ≤ 1024
  command_bounds s = s.following
