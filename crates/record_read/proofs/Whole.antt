-- A record as a whole: it is one where its frame, its fields and its tail are in order, and says what its values say. Assumes nothing.
use mathlib.Core.Path.{◌≡◌, refl, sym, ap, ◌∙◌}
use mathlib.Core.Bool.{Bool, true, false, ◌&&◌}
use mathlib.Core.List.{List, [], ◌∷◌}
use Prim.Native.Nat.{ℕ, suc, ◌+◌, ◌-◌, ◌%◌, ◌≤◌, ◌<◌}
use native.Mathlib.Numerals.{add-one}
use native.Mathlib.Omega.{arith}
use lib.Dec.{eqb, leb}
use lib.ListN.{length, get_or, take, drop, length-drop, length-map}
use lib.Seq.{drop-drop, get_or-take, get_or-drop}
use borrow.Author.Tests.{leb-true, leb-false, eqb-true, le-leb, lt-leb}
use Rattle.model.specs.Laws.{and_false}
use Rattle.model.specs.Lists.{allb}
use Rattle.model.specs.Names.{printable, no_part_empty}
use Rattle.model.specs.Text.{little}
use Rattle.model.specs.Records.{Kind, MB, DL, RN, SB, RT, ME, XP, FL, SE, CE, CM, DR, unknown, Field, id, id_or_none, attributes, quiet, uidvalidity, subscribed, rights, uid, flags, size, class, count, counter, Tail, nothing, name, command, layout, width, widths, values, in_range, all_in_range, tail_ok, body_ok, body_of, is_known, framed, kind_of, is_record, record_by, record_of}
use Rattle.record_read.specs.Kinds.{kind_for}
use Rattle.record_read.specs.Layouts.{field_for, fields_for, tail_for, Fits}
use Rattle.record_read.specs.Reading.{FieldsTaken, Bounds, Bounded, Following, Taken}
use Rattle.record_read.specs.declared.Kind.{Kind as CodeKind}
use Rattle.record_read.specs.declared.layouts.Field.{Field as CodeField}
use Rattle.record_read.specs.declared.layouts.Layout.{Layout}
use Rattle.record_read.specs.declared.bodies.Fields.{Fields}

-- ---- tests
-- each of two that hold
both_left : (p q : Bool) → (p && q) ≡ true → p ≡ true
both_left true q e = refl
both_left false q e = e

both_right : (p q : Bool) → (p && q) ≡ true → q ≡ true
both_right true q e = e
both_right false q e = absurd (let z : ◌≡◌ {A = ℕ} 0 1 = cc in omega arith)

-- the tests in the order of the code, and in that of the rules
regroup : (known all frame inside inside' tail : Bool) → (frame ≡ true → inside ≡ inside')
    → ((known && all) && (frame && (inside && tail))) ≡ (known && (frame && (inside' && (all && tail))))
regroup false all frame inside inside' tail h = refl
regroup true false false inside inside' tail h = refl
regroup true true false inside inside' tail h = refl
regroup true true true inside inside' tail h = ap (λ (t : Bool). t && tail) (h refl)
regroup true false true inside true tail h = refl
regroup true false true inside false tail h = refl

-- ---- a field's number, and those of all fields
-- one field
bounds_of : (f : Field) (v : ℕ) → in_range f v ≡ true → Bounds f v
bounds_of id v e = (leb-true 1 v (both_left (leb 1 v) (leb v 65535) e), leb-true v 65535 (both_right (leb 1 v) (leb v 65535) e))
bounds_of id_or_none v e = leb-true v 65535 e
bounds_of attributes v e = leb-true v 63 e
bounds_of quiet v e = leb-true v 1 e
bounds_of uidvalidity v e =
    (leb-true 1 v (both_left (leb 1 v) (leb v 4294967295) e), leb-true v 4294967295 (both_right (leb 1 v) (leb v 4294967295) e))
bounds_of subscribed v e = leb-true v 1 e
bounds_of rights v e = (eqb-true (v % 16) 0 (both_left (eqb (v % 16) 0) (leb v 48) e), leb-true v 48 (both_right (eqb (v % 16) 0) (leb v 48) e))
bounds_of uid v e =
    (leb-true 1 v (both_left (leb 1 v) (leb v 4294967294) e), leb-true v 4294967294 (both_right (leb 1 v) (leb v 4294967294) e))
bounds_of flags v e = leb-true v 31 e
bounds_of size v e = leb-true v 4294967295 e
bounds_of class v e = leb-true v 1 e
bounds_of count v e = leb-true v 4294967295 e
bounds_of counter v e =
    (leb-true 1 v (both_left (leb 1 v) (leb v 9223372036854775807) e), leb-true v 9223372036854775807 (both_right (leb 1 v) (leb v 9223372036854775807) e))

-- the values stand from place j on
bounded-from : (fs : List Field) (b vs xs : List ℕ) (j : ℕ) → drop j vs ≡ xs → take (length fs) xs ≡ values fs b → all_in_range fs b ≡ true → Bounded fs j vs
bounded-from [] b vs xs j d e r = tt
bounded-from (f ∷ fs) b vs [] j d e r = absurd (let z : ◌≡◌ {A = ℕ} 0 1 = cc in omega arith)
bounded-from (f ∷ fs) b vs (x ∷ xs) j d e r =
    let first : x ≡ little (width f) b = cc in
    let others : take (length fs) xs ≡ values fs (drop (width f) b) = cc in
    let here : j + 0 ≡ j = omega arith in
    let at : get_or vs j 0 ≡ x = rw here at (sym (get_or-drop j vs 0 0) ∙ ap (λ (l : List ℕ). get_or l 0 0) d) in
    let behind : drop (suc j) vs ≡ xs = rw add-one at (sym (drop-drop 1 j vs) ∙ ap (drop 1) d) in
    let inside : in_range f (little (width f) b) ≡ true = both_left (in_range f (little (width f) b)) (all_in_range fs (drop (width f) b)) r in (
      bounds_of f (get_or vs j 0) (ap (in_range f) (at ∙ first) ∙ inside),
      bounded-from fs (drop (width f) b) vs xs (suc j) behind others (both_right (in_range f (little (width f) b)) (all_in_range fs (drop (width f) b)) r),
    )

-- ---- what follows the fields
-- a tail in order
following_of : (t : Tail) (l : List ℕ) → tail_ok t l ≡ true → Following t l
following_of nothing l e = eqb-true (length l) 0 e
following_of name l e =
    let sizes : (leb 1 (length l) && leb (length l) 64) ≡ true = both_left (leb 1 (length l) && leb (length l) 64) (allb printable l && no_part_empty false l) e in
    (e, leb-true 1 (length l) (both_left (leb 1 (length l)) (leb (length l) 64) sizes), leb-true (length l) 64 (both_right (leb 1 (length l)) (leb (length l) 64) sizes))
following_of command l e = leb-true (length l) 1024 e

-- ---- a record needs no more values than its layout has fields
-- the first of the values alone
record_first : (k : Kind) (vs t : List ℕ) → record_by k (take (length (layout k).fields) vs) t ≡ record_by k vs t
record_first MB vs t = simp (get_or-take 5 vs 0 0 (omega arith), get_or-take 5 vs 1 0 (omega arith), get_or-take 5 vs 2 0 (omega arith), get_or-take 5 vs 3 0 (omega arith), get_or-take 5 vs 4 0 (omega arith))
record_first DL vs t = simp (get_or-take 2 vs 0 0 (omega arith), get_or-take 2 vs 1 0 (omega arith))
record_first RN vs t = simp (get_or-take 2 vs 0 0 (omega arith), get_or-take 2 vs 1 0 (omega arith))
record_first SB vs t = simp (get_or-take 3 vs 0 0 (omega arith), get_or-take 3 vs 1 0 (omega arith), get_or-take 3 vs 2 0 (omega arith))
record_first RT vs t = simp (get_or-take 2 vs 0 0 (omega arith), get_or-take 2 vs 1 0 (omega arith))
record_first ME vs t = simp (get_or-take 5 vs 0 0 (omega arith), get_or-take 5 vs 1 0 (omega arith), get_or-take 5 vs 2 0 (omega arith), get_or-take 5 vs 3 0 (omega arith), get_or-take 5 vs 4 0 (omega arith))
record_first XP vs t = simp (get_or-take 3 vs 0 0 (omega arith), get_or-take 3 vs 1 0 (omega arith), get_or-take 3 vs 2 0 (omega arith))
record_first FL vs t = simp (get_or-take 4 vs 0 0 (omega arith), get_or-take 4 vs 1 0 (omega arith), get_or-take 4 vs 2 0 (omega arith), get_or-take 4 vs 3 0 (omega arith))
record_first SE vs t = simp (get_or-take 1 vs 0 0 (omega arith))
record_first CE vs t = simp (get_or-take 1 vs 0 0 (omega arith))
record_first CM vs t = refl
record_first DR vs t = simp (get_or-take 1 vs 0 0 (omega arith))
record_first unknown vs t = refl

-- ---- the parts of a record of kind k, as they were read
-- the range test, the values and the end, by the layout of k
record Parts (o : List ℕ) (k : Kind) (all : Bool) (vs : List ℕ) (end : ℕ) : Type 0 where
  ranges : all ≡ all_in_range (layout k).fields (drop 4 o)
  filled : take (length (layout k).fields) vs ≡ values (layout k).fields (drop 4 o)
  ends : end ≡ 4 + widths (layout k).fields

-- from the fields that code has
parts_read : (o : List ℕ) (fields : List CodeField) (k : Kind) {f : Fields} → FieldsTaken o fields f → fields_for fields ≡ (layout k).fields → Parts o k true f.values f.end
parts_read o fields k {f} p e =
    record {
      ranges = sym p.ranges ∙ ap (λ (fs : List Field). all_in_range fs (drop 4 o)) e;
      filled =
          ap (λ (n : ℕ). take n f.values) (ap length (sym e) ∙ length-map fields field_for) ∙ p.filled
          ∙ ap (λ (fs : List Field). values fs (drop 4 o)) e;
      ends = p.ends ∙ ap (λ (fs : List Field). 4 + widths fs) e;
    }

-- the two tests, by the answer of one
inside-test : (n w : ℕ) → 4 ≤ n → (t : Bool) → leb w (n - 4) ≡ t → leb (4 + w) n ≡ leb w (n - 4)
inside-test n w h true e = let z : w ≤ n - 4 = leb-true w (n - 4) e in le-leb (4 + w) n (omega arith) ∙ sym e
inside-test n w h false e = let z : n - 4 < w = leb-false w (n - 4) e in lt-leb (4 + w) n (omega arith) ∙ sym e

-- a place behind the fields lies in the octets where it lies in the body
inside_body : (o : List ℕ) (w : ℕ) → framed o ≡ true → leb (4 + w) (length o) ≡ leb w (length (drop 4 o))
inside_body o w e =
    let long : 4 ≤ length o = leb-true 4 (length o) (both_left (leb 4 (length o)) (eqb (length o) (4 + little 2 (drop 2 o))) e) in
    inside-test (length o) w long (leb w (length o - 4)) refl ∙ ap (leb w) (sym (length-drop 4 o))

module _ (o : List ℕ) (k : Kind) {all : Bool} {vs : List ℕ} {end : ℕ} (p : Parts o k all vs end) where
  -- what follows the fields
  abbrev behind : List ℕ
  behind = drop (widths (layout k).fields) (drop 4 o)

  -- it begins at their end
  behind_end : behind ≡ drop end o
  behind_end = drop-drop (widths (layout k).fields) 4 o ∙ ap (λ (n : ℕ). drop n o) (sym p.ends)

  -- the fields lie in the body
  abbrev inside : Bool
  inside = leb (widths (layout k).fields) (length (drop 4 o))

  -- they are in their ranges
  abbrev ranged : Bool
  ranged = all_in_range (layout k).fields (drop 4 o)

  -- the tests of the code are those of the rules
  parts-tests :
      ((is_known k && all) && (framed o && (leb end (length o) && tail_ok (layout k).tail (drop end o))))
      ≡ (is_known k && (framed o && body_ok (layout k) (body_of o)))
  parts-tests =
      regroup (is_known k) all (framed o) (leb end (length o)) inside (tail_ok (layout k).tail (drop end o))
      (λ e. ap (λ (n : ℕ). leb n (length o)) p.ends ∙ inside_body o (widths (layout k).fields) e)
      ∙ ap (λ (t : Bool). is_known k && (framed o && (inside && (t && tail_ok (layout k).tail (drop end o))))) p.ranges
      ∙ ap (λ (l : List ℕ). is_known k && (framed o && (inside && (ranged && tail_ok (layout k).tail l)))) (sym behind_end)

  -- what they say
  parts-say : record_by k (values (layout k).fields (drop 4 o)) behind ≡ record_by k vs (drop end o)
  parts-say = ap (λ (v : List ℕ). record_by k v behind) (sym p.filled) ∙ ap (record_by k (take (length (layout k).fields) vs)) behind_end ∙ record_first k vs (drop end o)

  -- what holds of a record
  module _ {valid : Bool} (tests : valid ≡ ((is_known k && all) && (framed o && (leb end (length o) && tail_ok (layout k).tail (drop end o))))) (ok : valid ≡ true) where
    -- every test
    all_hold : ((is_known k && all) && (framed o && (leb end (length o) && tail_ok (layout k).tail (drop end o)))) ≡ true
    all_hold = sym tests ∙ ok

    -- the last two
    ending-holds : (leb end (length o) && tail_ok (layout k).tail (drop end o)) ≡ true
    ending-holds =
        both_right (framed o) (leb end (length o) && tail_ok (layout k).tail (drop end o))
        (both_right (is_known k && all) (framed o && (leb end (length o) && tail_ok (layout k).tail (drop end o))) all_hold)

    -- each value in its range
    parts_bounds : Bounded (layout k).fields 0 vs
    parts_bounds =
        bounded-from (layout k).fields (drop 4 o) vs vs 0 refl p.filled
        (sym p.ranges ∙ both_right (is_known k) all (both_left (is_known k && all) (framed o && (leb end (length o) && tail_ok (layout k).tail (drop end o))) all_hold))

    -- the tail in order
    parts_following : Following (layout k).tail (drop end o)
    parts_following = following_of (layout k).tail (drop end o) (both_right (leb end (length o)) (tail_ok (layout k).tail (drop end o)) ending-holds)

    -- its beginning in the octets
    parts_within : end ≤ length o
    parts_within = leb-true end (length o) (both_left (leb end (length o)) (tail_ok (layout k).tail (drop end o)) ending-holds)

-- one of the tests fails
none_of : (a b c : Bool) → (a && (b && (c && false))) ≡ false
none_of a b c = rw (and_false c, and_false b) (and_false a)

-- ---- what was read of octets, from what its parts answered
module _ (k : CodeKind) {l : Layout} (laid : Fits l (layout (kind_for k))) where
  module _ (o : List ℕ) (marked : kind_for k ≡ kind_of o) where
    -- a record, by the layout of the kind
    abbrev by_kind : Kind → Bool
    by_kind x = is_known x && (framed o && body_ok (layout x) (body_of o))

    -- no mark
    pub unknown_none : {known : Bool} → known ≡ is_known (kind_for k) → known ≡ false → is_record o ≡ false
    unknown_none e z = sym (ap by_kind marked) ∙ ap (λ (t : Bool). t && (framed o && body_ok (layout (kind_for k)) (body_of o))) (sym e ∙ z)

    -- a field out of its range
    pub range_none : all_in_range (fields_for l.fields.now) (drop 4 o) ≡ false → is_record o ≡ false
    range_none e =
        let fields = (layout (kind_for k)).fields in
        sym (ap by_kind marked)
        ∙ ap (λ (t : Bool). is_known (kind_for k) && (framed o && (leb (widths fields) (length (drop 4 o)) && (t && tail_ok (layout (kind_for k)).tail (drop (widths fields) (drop 4 o))))))
        (ap (λ (fs : List Field). all_in_range fs (drop 4 o)) (sym laid.fields) ∙ e)
        ∙ none_of (is_known (kind_for k)) (framed o) (leb (widths fields) (length (drop 4 o)))

    -- the fields are in their ranges
    module _ {f : Fields} (read : FieldsTaken o l.fields.now f) {known whole : Bool} (is_known' : known ≡ is_known (kind_for k)) (marks : known ≡ true)
        (ending : whole ≡ (framed o && (leb f.end (length o) && tail_ok (tail_for l.tail) (drop f.end o)))) where
      -- the parts, by the layout of the kind
      parts : Parts o (kind_for k) true f.values f.end
      parts = parts_read o l.fields.now (kind_for k) read laid.fields

      -- the tests together
      tests : whole ≡ ((is_known (kind_for k) && true) && (framed o && (leb f.end (length o) && tail_ok (layout (kind_for k)).tail (drop f.end o))))
      tests =
          ending ∙ ap (λ (t : Tail). framed o && (leb f.end (length o) && tail_ok t (drop f.end o))) laid.tail
          ∙ ap (λ (t : Bool). (t && true) && (framed o && (leb f.end (length o) && tail_ok (layout (kind_for k)).tail (drop f.end o)))) (sym marks ∙ is_known')

      record_is : whole ≡ is_record o
      record_is = tests ∙ parts-tests o (kind_for k) parts ∙ ap by_kind marked

      -- the length or the tail is wrong
      pub ending_none : whole ≡ false → is_record o ≡ false
      ending_none z = sym record_is ∙ z

      -- the answer
      pub octets_read : whole ≡ true → Taken o (record { kind = k; values = f.values; tail = f.end })
      unfolding record_of
      octets_read h =
          record {
            kind = marked;
            says = record {
              is = sym record_is ∙ h;
              says =
                  ap (λ (x : Kind). record_by x (values (layout x).fields (drop 4 o)) (drop (widths (layout x).fields) (drop 4 o))) (sym marked)
                  ∙ parts-say o (kind_for k) parts;
              places = read.places;
              bounds = parts_bounds o (kind_for k) parts tests h;
              following = parts_following o (kind_for k) parts tests h;
              within = parts_within o (kind_for k) parts tests h;
            };
          }
