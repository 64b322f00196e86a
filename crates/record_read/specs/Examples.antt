-- Worked examples: what the reader's contract says of a record of each kind, and of octets that are none (01, Records from the host, 1 to 19).
-- Assumes nothing.
use Rattle.std.specs.Prelude.{◌≡◌, refl, true, false, Option, Some, None, List, [], ◌∷◌, ◌++◌, ℕ, drop}
use Rattle.std.proofs.Common.{sym, ◌∙◌}
use Rattle.std.specs.Option.{MatchOption}
use Rattle.model.specs.Laws.{tf}
use Rattle.model.specs.Lists.{same}
use Rattle.model.specs.Text.{octets}
use Rattle.model.specs.Names.{no_part_empty}
use Rattle.model.specs.Records.{Record, create, delete, rename, subscribe, grant, arrive, expunge, reflag, select, ended, command, drained, is_record, record_by, record_of, about}
use Rattle.model.specs.Examples.Stream.{frame, mb, dl, rn, sb, rt, me, xp, fl, se, ce, cm, dr}
use Rattle.record_read.specs.Kinds.{kind_for}
use Rattle.record_read.specs.Reading.{Reads}
use Rattle.record_read.specs.declared.Received.{Received}

-- the octets are a record, and it says x
abbrev Taken : List ℕ → Record → Type 0
Taken o x = (r : Option Received) → Reads o r → MatchOption r ⊥ (λ y. record_by (kind_for y.kind) y.values (drop y.tail o) ≡ x)

-- the octets are no record
abbrev Refused : List ℕ → Type 0
Refused o = (r : Option Received) → Reads o r → r ≡ None

taken : (o : List ℕ) (x : Record) → is_record o ≡ true → record_of o ≡ x → Taken o x
taken o x e f None h = tf (is_record o) e h
taken o x e f (Some y) h = sym h.says.says ∙ f

refused : (o : List ℕ) → is_record o ≡ false → Refused o
refused o e None h = refl
refused o e (Some y) h = tf (is_record o) h.says.is e

-- ---- each kind once
created : Taken (mb 1 0x37 1 7 5 "iNbox") (create 1 55 1 7 5 (octets "INBOX"))
unfolding record_of same no_part_empty
created = taken (mb 1 0x37 1 7 5 "iNbox") (create 1 55 1 7 5 (octets "INBOX")) refl refl

deleted : Taken (dl 65535 0) (delete 65535 0)
unfolding record_of same
deleted = taken (dl 65535 0) (delete 65535 0) refl refl

renamed : Taken (rn 2 1 "Ops/Mains") (rename 2 1 (octets "Ops/Mains"))
unfolding record_of same no_part_empty
renamed = taken (rn 2 1 "Ops/Mains") (rename 2 1 (octets "Ops/Mains")) refl refl

subscribed : Taken (sb 3 1 0) (subscribe 3 1 0)
unfolding record_of same
subscribed = taken (sb 3 1 0) (subscribe 3 1 0) refl refl

granted : Taken (rt 258 48) (grant 258 48)
unfolding record_of same
granted = taken (rt 258 48) (grant 258 48) refl refl

arrived : Taken (me 1 4294967294 31 100 9223372036854775807) (arrive 1 4294967294 31 100 9223372036854775807)
unfolding record_of same
arrived = taken (me 1 4294967294 31 100 9223372036854775807) (arrive 1 4294967294 31 100 9223372036854775807) refl refl

expunged : Taken (xp 1 3 4294967298) (expunge 1 3 4294967298)
unfolding record_of same
expunged = taken (xp 1 3 4294967298) (expunge 1 3 4294967298) refl refl

reflagged : Taken (fl 1 3 8 1) (reflag 1 3 8 1)
unfolding record_of same
reflagged = taken (fl 1 3 8 1) (reflag 1 3 8 1) refl refl

none-selected : Taken (se 0) (select 0)
unfolding record_of same
none-selected = taken (se 0) (select 0) refl refl

class_one : Taken (ce 1) (ended 1)
unfolding record_of same
class_one = taken (ce 1) (ended 1) refl refl

empty-command : Taken (cm "") (command [])
unfolding record_of same
empty-command = taken (cm "") (command []) refl refl

drained_some : Taken (dr 70000) (drained 70000)
unfolding record_of same
drained_some = taken (dr 70000) (drained 70000) refl refl

-- ---- no records
no-octets : Refused []
unfolding same
no-octets = refused [] refl

unknown-mark : Refused (frame "mb" (1 ∷ 0 ∷ []))
unfolding same
unknown-mark = refused (frame "mb" (1 ∷ 0 ∷ [])) refl

-- one octet more than the length field says, and one fewer
octet_over : Refused (dl 1 0 ++ (0 ∷ []))
unfolding same
octet_over = refused (dl 1 0 ++ (0 ∷ [])) refl

octet_short : Refused (octets "DL" ++ (3 ∷ 0 ∷ 1 ∷ 0 ∷ []))
unfolding same
octet_short = refused (octets "DL" ++ (3 ∷ 0 ∷ 1 ∷ 0 ∷ [])) refl

-- a body that is longer than its fields, and one that is shorter
body_over : Refused (frame "SE" (1 ∷ 0 ∷ 0 ∷ []))
unfolding same
body_over = refused (frame "SE" (1 ∷ 0 ∷ 0 ∷ [])) refl

body_short : Refused (frame "XP" (1 ∷ 0 ∷ 3 ∷ 0 ∷ 0 ∷ 0 ∷ 9 ∷ 0 ∷ 0 ∷ 0 ∷ 0 ∷ 0 ∷ 0 ∷ []))
unfolding same
body_short = refused (frame "XP" (1 ∷ 0 ∷ 3 ∷ 0 ∷ 0 ∷ 0 ∷ 9 ∷ 0 ∷ 0 ∷ 0 ∷ 0 ∷ 0 ∷ 0 ∷ [])) refl

-- fields out of their ranges
id_none : Refused (dl 0 0)
unfolding same
id_none = refused (dl 0 0) refl

right-other : Refused (rt 1 8)
unfolding same
right-other = refused (rt 1 8) refl

uid-highest : Refused (xp 1 4294967295 1)
unfolding same
uid-highest = refused (xp 1 4294967295 1) refl

-- a change counter of 0 and of 2^63
counter_none : Refused (fl 1 3 8 0)
unfolding same
counter_none = refused (fl 1 3 8 0) refl

counter_over : Refused (me 1 3 0 0 9223372036854775808)
unfolding same
counter_over = refused (me 1 3 0 0 9223372036854775808) refl

-- the layout without a change counter: an expunge is none, but a create whose name has eight octets and more takes them for one
old-expunge : Refused (frame "XP" (1 ∷ 0 ∷ 3 ∷ 0 ∷ 0 ∷ 0 ∷ []))
unfolding same
old-expunge = refused (frame "XP" (1 ∷ 0 ∷ 3 ∷ 0 ∷ 0 ∷ 0 ∷ [])) refl

old-create : Taken (frame "MB" (1 ∷ 0 ∷ 51 ∷ 1 ∷ 7 ∷ 0 ∷ 0 ∷ 0 ∷ octets "Ops/Mains")) (create 1 51 1 7 7955997200863162447 (octets "s"))
unfolding record_of same no_part_empty
old-create = taken (frame "MB" (1 ∷ 0 ∷ 51 ∷ 1 ∷ 7 ∷ 0 ∷ 0 ∷ 0 ∷ octets "Ops/Mains")) (create 1 51 1 7 7955997200863162447 (octets "s")) refl refl

-- names that are none
name-empty : Refused (mb 1 0 0 7 5 "")
unfolding same no_part_empty
name-empty = refused (mb 1 0 0 7 5 "") refl

part-empty : Refused (rn 1 0 "Ops//Mains")
unfolding same no_part_empty
part-empty = refused (rn 1 0 "Ops//Mains") refl

-- ---- whom octets are about: also a record that is refused, where its body has an id
about-refused : about (octets "XP" ++ (9 ∷ 9 ∷ 2 ∷ 1 ∷ [])) ≡ 258
unfolding same
about-refused = refl

about_none : about (dr 1) ≡ 0
unfolding same
about_none = refl
