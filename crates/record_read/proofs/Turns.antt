-- The loop over the fields of a layout: what is read of the fields passed, and of those to come. Assumes nothing.
use mathlib.Core.Path.{◌≡◌, sym, ap, ◌∙◌}
use mathlib.Core.Bool.{Bool, true, false, ◌&&◌, and-true, and_assoc}
use mathlib.Core.List.{List, [], ◌∷◌, ◌++◌, append-nil, append_assoc}
use Prim.Native.Nat.{ℕ, ◌+◌, ◌*◌, ◌≤◌, ◌<◌}
use native.Mathlib.Numerals.{add-one}
use native.Mathlib.Omega.{arith}
use lib.ListN.{length, get_or, take, drop, set, length-set}
use lib.Seq.{drop-cons, drop-drop, drop-length, take-suc-set}
use Rattle.model.specs.Text.{little}
use Rattle.model.specs.Records.{Field, width, widths, values, in_range, all_in_range}
use Rattle.record_read.specs.Layouts.{field_for, fields_for}
use Rattle.record_read.specs.Reading.{FieldsTaken}
use Rattle.record_read.specs.declared.layouts.Field.{Field as CodeField}

-- i fields are passed; what all fields say is what these say, and what the rest says from here on
pub record Passed (o : List ℕ) (fields : List CodeField) (all : Bool) (vs : List ℕ) (end i : ℕ) : Type 0 where
  pub some : i ≤ length fields
  pub low : end ≤ 4 + 8 * i
  pub places : length vs ≡ 5
  pub ranges : all_in_range (fields_for fields) (drop 4 o) ≡ (all && all_in_range (fields_for (drop i fields)) (drop end o))
  pub filled : values (fields_for fields) (drop 4 o) ≡ take i vs ++ values (fields_for (drop i fields)) (drop end o)
  pub ends : 4 + widths (fields_for fields) ≡ end + widths (fields_for (drop i fields))

-- the value that is stored comes behind those before it
taken_more : (vs : List ℕ) (i v : ℕ) → i < length vs → take (i + 1) (set vs i v) ≡ take i vs ++ (v ∷ [])
taken_more vs i v h = rw add-one (take-suc-set vs i v h)

-- one field more: f, of w octets, with the value v
module _ (o : List ℕ) (fields : List CodeField) {all : Bool} {vs : List ℕ} {end i : ℕ} (p : Passed o fields all vs end i) (more : i < length fields) (few : length fields ≤ 5) where
  module _ (d : CodeField) {w v : ℕ} (wide : w ≡ width (field_for (get_or fields i d))) (fits : w ≤ 8) (reads : v ≡ little w (drop end o)) where
    -- this field
    abbrev f : CodeField
    f = get_or fields i d

    -- the fields to come
    rest : List Field
    rest = fields_for (drop (i + 1) fields)

    -- it, and those
    next : fields_for (drop i fields) ≡ field_for f ∷ rest
    unfolding rest
    next = let e : drop i fields ≡ f ∷ drop (i + 1) fields = rw (add-one, drop-cons fields i d) in ap fields_for e

    -- the octets behind it
    behind : drop (width (field_for f)) (drop end o) ≡ drop (end + w) o
    behind = drop-drop (width (field_for f)) end o ∙ ap (λ (n : ℕ). drop (end + n) o) (sym wide)

    -- its value
    value : little (width (field_for f)) (drop end o) ≡ v
    value = ap (λ (n : ℕ). little n (drop end o)) (sym wide) ∙ sym reads

    -- the turn
    pub passed-more : {ok : Bool} → ok ≡ (all && in_range (field_for f) v) → Passed o fields ok (set vs i v) (end + w) (i + 1)
    unfolding rest
    passed-more {ok} e =
        record {
          some = omega arith;
          low = omega arith;
          places = length-set vs i v ∙ p.places;
          ranges =
              p.ranges ∙ ap (λ (fs : List Field). all && all_in_range fs (drop end o)) next
              ∙ ap (λ (n : ℕ). all && (in_range (field_for f) n && all_in_range rest (drop (width (field_for f)) (drop end o)))) value
              ∙ ap (λ (b : List ℕ). all && (in_range (field_for f) v && all_in_range rest b)) behind
              ∙ sym (and_assoc all (in_range (field_for f) v) (all_in_range rest (drop (end + w) o)))
              ∙ ap (λ (t : Bool). t && all_in_range rest (drop (end + w) o)) (sym e);
          filled =
              p.filled ∙ ap (λ (fs : List Field). take i vs ++ values fs (drop end o)) next
              ∙ ap (λ (n : ℕ). take i vs ++ (n ∷ values rest (drop (width (field_for f)) (drop end o)))) value
              ∙ ap (λ (b : List ℕ). take i vs ++ (v ∷ values rest b)) behind
              ∙ sym (append_assoc (take i vs) (v ∷ []) (values rest (drop (end + w) o)))
              ∙ ap (λ (t : List ℕ). t ++ values rest (drop (end + w) o)) (sym (taken_more vs i v (omega (arith, p.places))));
          ends = let e : widths (fields_for (drop i fields)) ≡ width (field_for f) + widths rest = ap widths next in omega (arith, p.ends);
        }

    -- the field is out of its range
    pub passed_out : in_range (field_for f) v ≡ false → all ≡ true → all_in_range (fields_for fields) (drop 4 o) ≡ false
    passed_out e h = (passed-more (sym (ap (λ (t : Bool). t && in_range (field_for f) v) h ∙ e))).ranges

-- all fields are passed
pub passed_all : (o : List ℕ) (fields : List CodeField) {all : Bool} {vs : List ℕ} {end : ℕ} → Passed o fields all vs end (length fields)
    → all ≡ true → FieldsTaken o fields (record { values = vs; end = end })
passed_all o fields {all} {vs} {end} p holds =
    let none : drop (length fields) fields ≡ [] = drop-length fields in
    record {
      ranges = p.ranges ∙ ap (λ (l : List CodeField). all && all_in_range (fields_for l) (drop end o)) none ∙ and-true all ∙ holds;
      filled = sym (p.filled ∙ ap (λ (l : List CodeField). take (length fields) vs ++ values (fields_for l) (drop end o)) none ∙ append-nil (take (length fields) vs));
      places = p.places;
      ends = let e : widths (fields_for (drop (length fields) fields)) ≡ 0 = ap (λ (l : List CodeField). widths (fields_for l)) none in omega (arith, p.ends);
    }
