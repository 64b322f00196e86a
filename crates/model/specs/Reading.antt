-- Readers: each looks at a whole line from a position on, and gives what stands there and the position behind it, or `bad` (01, Commands, 1 to 4).
-- A position behind the line shows the octet 0, which fits nothing.
use Rattle.std.specs.Prelude.{Bool, true, false, cond, ◌&&◌, ◌||◌, List, [], ◌∷◌, ℕ, zero, suc, ◌+◌, ◌*◌, ◌-◌, eqb, leb, ltb, length, get_or, take, drop}
use Prim.Native.Char.{Char, code}
use Prim.Native.String.{String}
use Rattle.model.specs.Lists.{anyb}
use Rattle.model.specs.Text.{octets, same_word}
use Rattle.model.specs.Octets.{atom_octet, astring_octet, digit, quoted_octet}
use Rattle.model.specs.Requests.{Bound, number, star, Part}

-- what was read and the position behind it, or nothing that fits
pub data Parsed (A : Type 0) : Type 0 where
  bad : Parsed A
  ok : ℕ → A → Parsed A

-- one reader after another
abbrev pub and_then : {A B : Type 0} → Parsed A → (ℕ → A → Parsed B) → Parsed B
and_then bad f = bad
and_then (ok p a) f = f p a

-- ---- octets and words
abbrev pub octet_at : List ℕ → ℕ → ℕ
octet_at s p = get_or s p 0

-- this octet stands there
abbrev pub stands : List ℕ → ℕ → Char → Bool
stands s p c = eqb (octet_at s p) (code c)

-- an octet that must stand there, and what is read behind it
abbrev pub after_by : {A : Type 0} → Bool → ℕ → (ℕ → Parsed A) → Parsed A
after_by true p f = f p
after_by false p f = bad

abbrev pub after : {A : Type 0} → List ℕ → ℕ → Char → (ℕ → Parsed A) → Parsed A
after s p c f = after_by (stands s p c) (p + 1) f

-- how many octets of a class a text begins with
unfoldable pub run_length : (ℕ → Bool) → List ℕ → ℕ
run_length class [] = 0
run_length class (b ∷ l) = let longer = suc (run_length class l) in cond (class b) longer 0

-- where the longest run of a class that begins at p ends
abbrev pub end_of : (ℕ → Bool) → List ℕ → ℕ → ℕ
end_of class s p = p + run_length class (drop p s)

-- the octets from p up to q
abbrev pub piece : List ℕ → ℕ → ℕ → List ℕ
piece s p q = take (q - p) (drop p s)

-- one octet or more of a class, as many as there are
abbrev pub run_at : (ℕ → Bool) → List ℕ → ℕ → Parsed (List ℕ)
run_at class s p = cond (ltb p (end_of class s p)) (ok (end_of class s p) (piece s p (end_of class s p))) bad

-- an atom is as long as it can be (Commands, 2)
abbrev pub atom_at : List ℕ → ℕ → Parsed (List ℕ)
atom_at s p = run_at atom_octet s p

-- a text is this word, in any case of its letters, and one of these words (Commands, 3)
abbrev pub is : List ℕ → String → Bool
is w t = same_word w (octets t)

abbrev pub is_of : List ℕ → List String → Bool
is_of w ts = anyb (λ (t : String). is w t) ts

-- the atom that stands there is this word
abbrev pub word_at : List ℕ → ℕ → String → Bool
word_at s p t = is (piece s p (end_of atom_octet s p)) t

-- ---- numbers
-- the number that digits write behind those of v
unfoldable pub value_from : ℕ → List ℕ → ℕ
value_from v [] = v
value_from v (d ∷ ds) = value_from (v * 10 + (d - 48)) ds

abbrev pub small : ℕ → ℕ → Parsed ℕ
small p v = cond (leb v 4294967295) (ok p v) bad

-- digits, zeros in front too, of a number of at most 32 bits (RFC 3501, number)
unfoldable pub number_at : List ℕ → ℕ → Parsed ℕ
number_at s p = and_then (run_at digit s p) λ q ds. small q (value_from 0 ds)

-- the same, but it begins with no zero (RFC 3501, nz-number)
abbrev pub positive_at : List ℕ → ℕ → Parsed ℕ
positive_at s p = cond (stands s p "0") bad (number_at s p)

-- ---- strings
-- an octet between quotes: the closing quote, a backslash, an octet of the string, or one that may not stand there (Commands, 4)
pub data Quoting : Type 0 where
  closes escapes belongs fails : Quoting

-- after a backslash only a quote or a backslash may stand
abbrev pub quoting : Bool → ℕ → Quoting
quoting true b = cond (eqb b 34 || eqb b 92) belongs fails
quoting false b = cond (eqb b 34) closes (cond (eqb b 92) escapes (cond (quoted_octet b) belongs fails))

abbrev pub unquote_by : Quoting → ℕ → ℕ → (Bool → Parsed (List ℕ)) → Parsed (List ℕ)
unquote_by closes b p rest = ok p []
unquote_by escapes b p rest = rest true
unquote_by belongs b p rest = and_then (rest false) λ q t. ok q (b ∷ t)
unquote_by fails b p rest = bad

-- the string up to its closing quote, without backslashes; l are the octets from p on, `escaped` says that a backslash came before
unfoldable pub unquote : List ℕ → Bool → ℕ → Parsed (List ℕ)
unquote [] escaped p = bad
unquote (b ∷ l) escaped p = unquote_by (quoting escaped b) b (p + 1) λ e. unquote l e (p + 1)

-- a quoted string (RFC 3501, quoted)
abbrev pub quoted_at : List ℕ → ℕ → Parsed (List ℕ)
quoted_at s p = after s p "\"" λ q. unquote (drop q s) false q

-- a quoted string, or else a run of a class
abbrev pub text_at : (ℕ → Bool) → List ℕ → ℕ → Parsed (List ℕ)
text_at class s p = cond (stands s p "\"") (quoted_at s p) (run_at class s p)

-- an argument: an atom that may hold `]`, or a quoted string (Commands, 4)
abbrev pub astring_at : List ℕ → ℕ → Parsed (List ℕ)
astring_at s p = text_at astring_octet s p

-- ---- rows
-- what follows a thing of a row: another one at a position, the end of the row, or something that fits neither
pub data Next : Type 0 where
  another over : ℕ → Next
  neither : Next

abbrev pub row_by : {A : Type 0} → Next → (ℕ → Parsed (List A)) → A → Parsed (List A)
row_by (another p) row a = and_then (row p) λ q l. ok q (a ∷ l)
row_by (over p) row a = ok p (a ∷ [])
row_by neither row a = bad

-- one thing or more, at most n; a row has no more things than its line has octets
unfoldable pub row_at : {A : Type 0} → ℕ → (ℕ → Parsed A) → (ℕ → Next) → ℕ → Parsed (List A)
row_at zero item next p = bad
row_at (suc n) item next p = and_then (item p) λ q a. row_by (next q) (λ r. row_at n item next r) a

-- a row of things with one space between them ends with a parenthesis or with the line
pub data Ending : Type 0 where
  closing line_end : Ending

abbrev pub over_at : Ending → List ℕ → ℕ → Next
over_at closing s p = cond (stands s p ")") (over (p + 1)) neither
over_at line_end s p = cond (eqb p (length s)) (over p) neither

abbrev pub next_at : Ending → List ℕ → ℕ → Next
next_at e s p = cond (stands s p " ") (another (p + 1)) (over_at e s p)

-- things in parentheses
abbrev pub list_at : {A : Type 0} → (ℕ → Parsed A) → List ℕ → ℕ → Parsed (List A)
list_at item s p = after s p "(" λ q. row_at (length s) item (next_at closing s) q

-- ---- sets
-- a number, or a star for the last (RFC 3501, seq-number)
abbrev pub bound_at : List ℕ → ℕ → Parsed Bound
bound_at s p = cond (stands s p "*") (ok (p + 1) star) (and_then (positive_at s p) λ q n. ok q (number n))

abbrev pub part_read : Bool → List ℕ → ℕ → Bound → Parsed Part
part_read true s p a = and_then (bound_at s (p + 1)) λ q b. ok q (record { from = a; upto = b })
part_read false s p a = ok p (record { from = a; upto = a })

-- a part of a set: one of these, or two with a colon between (RFC 3501, seq-range)
abbrev pub part_at : List ℕ → ℕ → Parsed Part
part_at s p = and_then (bound_at s p) λ q a. part_read (stands s q ":") s q a

-- parts with commas between them (RFC 3501, sequence-set)
unfoldable pub number_set_at : List ℕ → ℕ → Parsed (List Part)
number_set_at s p = row_at (length s) (part_at s) (λ q. cond (stands s q ",") (another (q + 1)) (over q)) p

-- ---- dates: nothing of them is kept, and days are not counted (RFC 3501, date)
abbrev pub digits_at : ℕ → ℕ → List ℕ → ℕ → Parsed (Unit {0})
digits_at least most s p =
    let n = run_length digit (drop p s) in
    cond (leb least n && leb n most) (ok (p + n) tt) bad

abbrev pub months : List String
months = "Jan" ∷ "Feb" ∷ "Mar" ∷ "Apr" ∷ "May" ∷ "Jun" ∷ "Jul" ∷ "Aug" ∷ "Sep" ∷ "Oct" ∷ "Nov" ∷ "Dec" ∷ []

abbrev pub month_at : List ℕ → ℕ → Parsed (Unit {0})
month_at s p = cond (is_of (piece s p (p + 3)) months) (ok (p + 3) tt) bad

-- a day of one digit or two, a month by its name, a year of four digits
abbrev pub bare_date_at : List ℕ → ℕ → Parsed (Unit {0})
bare_date_at s p =
    and_then (digits_at 1 2 s p) λ q day. after s q "-" λ m.
    and_then (month_at s m) λ r month. after s r "-" λ y. digits_at 4 4 s y

unfoldable pub date_at : List ℕ → ℕ → Parsed (Unit {0})
date_at s p =
    cond (stands s p "\"")
    (and_then (bare_date_at s (p + 1)) λ q date. after s q "\"" λ r. ok r tt)
    (bare_date_at s p)
