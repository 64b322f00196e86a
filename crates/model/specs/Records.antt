-- Records: their layouts, their ranges, what each is about, and which octet strings are none (01, Records, 1 to 20 and 23; Duties, 11).
use Rattle.std.specs.Prelude.{List, [], ◌∷◌, Bool, true, false, cond, ◌&&◌, ℕ, ◌+◌, ◌%◌, eqb, leb, length, get_or, drop, take}
use Rattle.model.specs.Lists.{same}
use Rattle.model.specs.Names.{Name, valid, fold}
use Rattle.model.specs.Text.{octets, little}

-- the kinds of records, by their marks (Records, 5 to 18)
pub data Kind : Type 0 where
  MB DL RN SB RT ME XP FL SE CE CM DR unknown : Kind

-- the fields that a layout is made of
pub data Field : Type 0 where
  id id_or_none attributes quiet uidvalidity subscribed rights uid flags size class count counter : Field

-- what follows the fields
pub data Tail : Type 0 where
  nothing name command : Tail

pub record Layout : Type 0 where
  pub fields : List Field
  pub tail : Tail

-- the twelve layouts (Records, 5, 7 to 13 and 15 to 18); a change counter is the last of the fields of four of them (02, 1)
abbrev pub layout : Kind → Layout
layout MB = record { fields = id ∷ attributes ∷ quiet ∷ uidvalidity ∷ counter ∷ []; tail = name }
layout DL = record { fields = id ∷ quiet ∷ []; tail = nothing }
layout RN = record { fields = id ∷ quiet ∷ []; tail = name }
layout SB = record { fields = id ∷ subscribed ∷ quiet ∷ []; tail = nothing }
layout RT = record { fields = id ∷ rights ∷ []; tail = nothing }
layout ME = record { fields = id ∷ uid ∷ flags ∷ size ∷ counter ∷ []; tail = nothing }
layout XP = record { fields = id ∷ uid ∷ counter ∷ []; tail = nothing }
layout FL = record { fields = id ∷ uid ∷ flags ∷ counter ∷ []; tail = nothing }
layout SE = record { fields = id_or_none ∷ []; tail = nothing }
layout CE = record { fields = class ∷ []; tail = nothing }
layout CM = record { fields = []; tail = command }
layout DR = record { fields = count ∷ []; tail = nothing }
layout unknown = record { fields = []; tail = nothing }

-- how many octets a field has (Records, 5 to 18; 02, 1)
abbrev pub width : Field → ℕ
width id = 2
width id_or_none = 2
width attributes = 1
width quiet = 1
width uidvalidity = 4
width subscribed = 1
width rights = 1
width uid = 4
width flags = 1
width size = 4
width class = 1
width count = 4
width counter = 8

-- which values it may have (Records, 3 to 6, 9 to 11 and 14 to 16); a change counter ends below 2^63 (02, 1)
abbrev pub in_range : Field → ℕ → Bool
in_range id v = leb 1 v && leb v 65535
in_range id_or_none v = leb v 65535
in_range attributes v = leb v 63
in_range quiet v = leb v 1
in_range uidvalidity v = leb 1 v && leb v 4294967295
in_range subscribed v = leb v 1
in_range rights v = eqb (v % 16) 0 && leb v 48
in_range uid v = leb 1 v && leb v 4294967294
in_range flags v = leb v 31
in_range size v = leb v 4294967295
in_range class v = leb v 1
in_range count v = leb v 4294967295
in_range counter v = leb 1 v && leb v 9223372036854775807

-- ---- an octet string: two octets of mark, two of length, the body (Records, 1 and 2)
abbrev pub kind_of : List ℕ → Kind
kind_of r =
    cond (same (take 2 r) (octets "MB")) MB
    (cond (same (take 2 r) (octets "DL")) DL
    (cond (same (take 2 r) (octets "RN")) RN
    (cond (same (take 2 r) (octets "SB")) SB
    (cond (same (take 2 r) (octets "RT")) RT
    (cond (same (take 2 r) (octets "ME")) ME
    (cond (same (take 2 r) (octets "XP")) XP
    (cond (same (take 2 r) (octets "FL")) FL
    (cond (same (take 2 r) (octets "SE")) SE
    (cond (same (take 2 r) (octets "CE")) CE
    (cond (same (take 2 r) (octets "CM")) CM
    (cond (same (take 2 r) (octets "DR")) DR unknown)))))))))))

abbrev pub body_of : List ℕ → List ℕ
body_of r = drop 4 r

-- the fields' values, and what follows them
abbrev pub values : List Field → List ℕ → List ℕ
values [] b = []
values (f ∷ fs) b = little (width f) b ∷ values fs (drop (width f) b)

abbrev pub widths : List Field → ℕ
widths [] = 0
widths (f ∷ fs) = width f + widths fs

abbrev pub all_in_range : List Field → List ℕ → Bool
all_in_range [] b = true
all_in_range (f ∷ fs) b = in_range f (little (width f) b) && all_in_range fs (drop (width f) b)

-- is what follows the fields in order (Records, 17 and 19)
abbrev pub tail_ok : Tail → List ℕ → Bool
tail_ok nothing t = eqb (length t) 0
tail_ok name t = valid t
tail_ok command t = leb (length t) 1024

-- is the body one of this layout
abbrev pub body_ok : Layout → List ℕ → Bool
body_ok l b = leb (widths l.fields) (length b) && (all_in_range l.fields b && tail_ok l.tail (drop (widths l.fields) b))

abbrev pub is_known : Kind → Bool
is_known MB = true
is_known DL = true
is_known RN = true
is_known SB = true
is_known RT = true
is_known ME = true
is_known XP = true
is_known FL = true
is_known SE = true
is_known CE = true
is_known CM = true
is_known DR = true
is_known unknown = false

-- the body is as long as the length field says
abbrev pub framed : List ℕ → Bool
framed r = leb 4 (length r) && eqb (length r) (4 + little 2 (drop 2 r))

-- the octet string is a record: its mark is known, its length right, each field in its range, its name valid (Records, 23)
abbrev pub is_record : List ℕ → Bool
is_record r = is_known (kind_of r) && (framed r && body_ok (layout (kind_of r)) (body_of r))

-- ---- what a record says
pub data Record : Type 0 where
  create : (i a q v c : ℕ) → Name → Record
  delete : (i q : ℕ) → Record
  rename : (i q : ℕ) → Name → Record
  subscribe : (i s q : ℕ) → Record
  grant : (i r : ℕ) → Record
  arrive : (i u f z c : ℕ) → Record
  expunge : (i u c : ℕ) → Record
  reflag : (i u f c : ℕ) → Record
  select : (i : ℕ) → Record
  ended : (c : ℕ) → Record
  command : List ℕ → Record
  drained : (n : ℕ) → Record
  record_of_none : Record

-- the values of the fields in their order; 0 where there are fewer
module _ (v : List ℕ) where
  abbrev pub first : ℕ
  first = get_or v 0 0

  abbrev pub second : ℕ
  second = get_or v 1 0

  abbrev pub third : ℕ
  third = get_or v 2 0

  abbrev pub fourth : ℕ
  fourth = get_or v 3 0

  abbrev pub fifth : ℕ
  fifth = get_or v 4 0

-- by its kind, from the values of its fields and what follows them; a name is INBOX where it is so in any case (Records, 20)
abbrev pub record_by : Kind → List ℕ → List ℕ → Record
record_by MB v t = create (first v) (second v) (third v) (fourth v) (fifth v) (fold t)
record_by DL v t = delete (first v) (second v)
record_by RN v t = rename (first v) (second v) (fold t)
record_by SB v t = subscribe (first v) (second v) (third v)
record_by RT v t = grant (first v) (second v)
record_by ME v t = arrive (first v) (second v) (third v) (fourth v) (fifth v)
record_by XP v t = expunge (first v) (second v) (third v)
record_by FL v t = reflag (first v) (second v) (third v) (fourth v)
record_by SE v t = select (first v)
record_by CE v t = ended (first v)
record_by CM v t = command t
record_by DR v t = drained (first v)
record_by unknown v t = record_of_none

abbrev pub fields_of : List ℕ → List Field
fields_of r = (layout (kind_of r)).fields

unfoldable pub record_of : List ℕ → Record
record_of r = record_by (kind_of r) (values (fields_of r) (body_of r)) (drop (widths (fields_of r)) (body_of r))

-- ---- what an octet string is about: the id in the body's first two octets, where the layout begins with an id and the body has them;
-- 0 stands for none (Duties, 11)
abbrev pub is_id : Field → Bool
is_id id = true
is_id id_or_none = true
is_id attributes = false
is_id quiet = false
is_id uidvalidity = false
is_id subscribed = false
is_id rights = false
is_id uid = false
is_id flags = false
is_id size = false
is_id class = false
is_id count = false
is_id counter = false

abbrev pub starts_with_id : List Field → Bool
starts_with_id [] = false
starts_with_id (f ∷ fs) = is_id f

abbrev pub about : List ℕ → ℕ
about r = cond (starts_with_id (fields_of r) && leb 2 (length (body_of r))) (little 2 (body_of r)) 0
