-- The classes of octets by name, and where a run of a class ends. Assumes nothing: these are definitions.
use Rattle.std.specs.Prelude.{◌≡◌, Bool, List, [], ◌∷◌, ℕ, ◌+◌, ◌-◌, ◌≤◌, length}
use Rattle.model.specs.Octets.{atom_octet, astring_octet, tag_octet, digit, quoted_octet}
use Rattle.model.specs.Attributes.{label_octet}
use Rattle.model.specs.Reading.{end_of}
use Rattle.octets.specs.declared.Class.{Class}
use Rattle.octets.specs.declared.Class.TheVariants.{Atom, Astring, Tag, Digit, Quoted, Label}

abbrev pub in_class : Class → ℕ → Bool
in_class Atom = atom_octet
in_class Astring = astring_octet
in_class Tag = tag_octet
in_class Digit = digit
in_class Quoted = quoted_octet
in_class Label = label_octet

-- a class's bit in the code's table of octets
abbrev pub mask_of : Class → ℕ
mask_of Atom = 1
mask_of Astring = 2
mask_of Tag = 4
mask_of Digit = 8
mask_of Quoted = 16
mask_of Label = 32

-- the code's table: the classes of each octet, a bit a class
unfoldable pub class_table : List ℕ
class_table =
    0 ∷ 16 ∷ 16 ∷ 16 ∷ 16 ∷ 16 ∷ 16 ∷ 16 ∷ 16 ∷ 16 ∷ 0 ∷ 16 ∷ 16 ∷ 0 ∷ 16 ∷ 16 ∷ 16 ∷ 16 ∷ 16 ∷ 16 ∷ 16 ∷ 16 ∷ 16 ∷ 16 ∷ 16 ∷ 16 ∷ 16
    ∷ 16 ∷ 16 ∷ 16 ∷ 16 ∷ 16 ∷ 16 ∷ 23 ∷ 16 ∷ 23 ∷ 23 ∷ 16 ∷ 23 ∷ 23 ∷ 16 ∷ 16 ∷ 16 ∷ 19 ∷ 23 ∷ 23 ∷ 55 ∷ 23 ∷ 63 ∷ 63 ∷ 63 ∷ 63 ∷ 63
    ∷ 63 ∷ 63 ∷ 63 ∷ 63 ∷ 63 ∷ 23 ∷ 23 ∷ 23 ∷ 23 ∷ 23 ∷ 23 ∷ 23 ∷ 55 ∷ 55 ∷ 55 ∷ 55 ∷ 55 ∷ 55 ∷ 55 ∷ 55 ∷ 55 ∷ 55 ∷ 55 ∷ 55 ∷ 55 ∷ 55
    ∷ 55 ∷ 55 ∷ 55 ∷ 55 ∷ 55 ∷ 55 ∷ 55 ∷ 55 ∷ 55 ∷ 55 ∷ 55 ∷ 55 ∷ 23 ∷ 16 ∷ 22 ∷ 23 ∷ 23 ∷ 23 ∷ 55 ∷ 55 ∷ 55 ∷ 55 ∷ 55 ∷ 55 ∷ 55 ∷ 55
    ∷ 55 ∷ 55 ∷ 55 ∷ 55 ∷ 55 ∷ 55 ∷ 55 ∷ 55 ∷ 55 ∷ 55 ∷ 55 ∷ 55 ∷ 55 ∷ 55 ∷ 55 ∷ 55 ∷ 55 ∷ 55 ∷ 16 ∷ 23 ∷ 23 ∷ 23 ∷ 16 ∷ 0 ∷ 0 ∷ 0 ∷ 0
    ∷ 0 ∷ 0 ∷ 0 ∷ 0 ∷ 0 ∷ 0 ∷ 0 ∷ 0 ∷ 0 ∷ 0 ∷ 0 ∷ 0 ∷ 0 ∷ 0 ∷ 0 ∷ 0 ∷ 0 ∷ 0 ∷ 0 ∷ 0 ∷ 0 ∷ 0 ∷ 0 ∷ 0 ∷ 0 ∷ 0 ∷ 0 ∷ 0 ∷ 0 ∷ 0 ∷ 0 ∷ 0 ∷
    0 ∷ 0 ∷ 0 ∷ 0 ∷ 0 ∷ 0 ∷ 0 ∷ 0 ∷ 0 ∷ 0 ∷ 0 ∷ 0 ∷ 0 ∷ 0 ∷ 0 ∷ 0 ∷ 0 ∷ 0 ∷ 0 ∷ 0 ∷ 0 ∷ 0 ∷ 0 ∷ 0 ∷ 0 ∷ 0 ∷ 0 ∷ 0 ∷ 0 ∷ 0 ∷ 0 ∷ 0 ∷ 0
    ∷ 0 ∷ 0 ∷ 0 ∷ 0 ∷ 0 ∷ 0 ∷ 0 ∷ 0 ∷ 0 ∷ 0 ∷ 0 ∷ 0 ∷ 0 ∷ 0 ∷ 0 ∷ 0 ∷ 0 ∷ 0 ∷ 0 ∷ 0 ∷ 0 ∷ 0 ∷ 0 ∷ 0 ∷ 0 ∷ 0 ∷ 0 ∷ 0 ∷ 0 ∷ 0 ∷ 0 ∷ 0 ∷
    0 ∷ 0 ∷ 0 ∷ 0 ∷ 0 ∷ 0 ∷ 0 ∷ 0 ∷ 0 ∷ 0 ∷ 0 ∷ 0 ∷ 0 ∷ 0 ∷ 0 ∷ 0 ∷ 0 ∷ 0 ∷ 0 ∷ 0 ∷ 0 ∷ 0 ∷ 0 ∷ 0 ∷ 0 ∷ 0 ∷ 0 ∷ []

-- r is where the run of a class that begins at `at` ends: not before `at`, and not behind the text unless `at` is
pub record Ends (class : ℕ → Bool) (s : List ℕ) (at r : ℕ) : Type 0 where
  pub exact : r ≡ end_of class s at
  pub from : at ≤ r
  pub within : r ≤ at + (length s - at)
