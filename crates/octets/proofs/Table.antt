-- A rule of a table, proved at all of its entries by one test that antt computes, one entry after the other.
-- Assumes nothing.
use mathlib.Core.Path.{◌≡◌, refl, ◌∙◌, subst, sym}
use mathlib.Core.Bool.{Bool, true, false, not}
use mathlib.Core.List.{List, [], ◌∷◌}
use Prim.Native.Nat.{ℕ, zero, suc, ◌+◌, ◌<◌}
use native.Mathlib.Nat.{add-zero, zero-add, add-suc, suc-add, le_of_suc-le-suc, not-suc-le-zero}
use lib.Dec.{T, eqb}
use lib.ListN.{length, get_or}
use lib.Bits.{bit_and}
use Rattle.octets.specs.Classes.{in_class, mask_of}
use Rattle.octets.specs.declared.Class.{Class}
use Rattle.octets.specs.declared.Class.TheVariants.{Atom, Astring, Tag, Digit, Quoted, Label}

abbrev pub both : Bool → Bool → Bool
both true b = b
both false b = false

both_left : (a b : Bool) → T (both a b) → T a
both_left true b t = tt
both_left false b t = t

both_right : (a b : Bool) → T (both a b) → T b
both_right true b t = t
both_right false b t = absurd t

-- the test f passes at each entry of the list and its place, counted from i
abbrev pub every : (ℕ → ℕ → Bool) → ℕ → List ℕ → Bool
every f i [] = true
every f i (x ∷ xs) = both (f i x) (every f (suc i) xs)

from : (f : ℕ → ℕ → Bool) (xs : List ℕ) (i : ℕ) → T (every f i xs) → (k : ℕ) → k < length xs → T (f (i + k) (get_or xs k 0))
from f [] i t k h = absurd (not-suc-le-zero h)
from f (x ∷ xs) i t zero h = subst (λ (m : ℕ). T (f m x)) (sym (add-zero i)) (both_left (f i x) (every f (suc i) xs) t)
from f (x ∷ xs) i t (suc k) h =
    subst (λ (m : ℕ). T (f m (get_or xs k 0))) (suc-add i k ∙ sym (add-suc i k))
    (from f xs (suc i) (both_right (f i x) (every f (suc i) xs) t) k (le_of_suc-le-suc h))

at : (f : ℕ → ℕ → Bool) (xs : List ℕ) → T (every f 0 xs) → (k : ℕ) → k < length xs → T (f k (get_or xs k 0))
at f xs t k h = subst (λ (m : ℕ). T (f m (get_or xs k 0))) (zero-add k) (from f xs 0 t k h)

-- two tests that agree
abbrev pub agree : Bool → Bool → Bool
agree true b = b
agree false b = not b

agreed : (a b : Bool) → T (agree a b) → a ≡ b
agreed true true t = refl
agreed true false t = absurd t
agreed false true t = absurd t
agreed false false t = refl

-- an entry of the table of classes says of each class whether it has the octet
abbrev pub hit : ℕ → Class → Bool
hit x c = not (eqb (bit_and x (mask_of c)) 0)

abbrev pub fits : ℕ → ℕ → Class → Bool
fits k x c = agree (hit x c) (in_class c k)

abbrev pub right : ℕ → ℕ → Bool
right k x = both (fits k x Atom) (both (fits k x Astring) (both (fits k x Tag) (both (fits k x Digit) (both (fits k x Quoted) (fits k x Label)))))

split : (a b c d e f : Bool) → T (both a (both b (both c (both d (both e f))))) → T a × T b × T c × T d × T e × T f
split true true true true true true t = (tt, tt, tt, tt, tt, tt)
split true true true true true false t = absurd t
split true true true true false f t = absurd t
split true true true false e f t = absurd t
split true true false d e f t = absurd t
split true false c d e f t = absurd t
split false b c d e f t = absurd t

all_fit : (k x : ℕ) → T (right k x) → T (fits k x Atom) × T (fits k x Astring) × T (fits k x Tag) × T (fits k x Digit) × T (fits k x Quoted) × T (fits k x Label)
all_fit k x t = split (fits k x Atom) (fits k x Astring) (fits k x Tag) (fits k x Digit) (fits k x Quoted) (fits k x Label) t

said : (k x : ℕ) → T (right k x) → (c : Class) → hit x c ≡ in_class c k
said k x t Atom = agreed (hit x Atom) (in_class Atom k) (all_fit k x t).0
said k x t Astring = agreed (hit x Astring) (in_class Astring k) (all_fit k x t).1
said k x t Tag = agreed (hit x Tag) (in_class Tag k) (all_fit k x t).2
said k x t Digit = agreed (hit x Digit) (in_class Digit k) (all_fit k x t).3
said k x t Quoted = agreed (hit x Quoted) (in_class Quoted k) (all_fit k x t).4
said k x t Label = agreed (hit x Label) (in_class Label k) (all_fit k x t).5

-- what the whole table's test gives at an octet
pub class_at : (table : List ℕ) → T (every right 0 table) → (b : ℕ) → b < length table → (c : Class) → not (eqb (bit_and (get_or table b 0) (mask_of c)) 0) ≡ in_class c b
class_at table t b h c = said b (get_or table b 0) (at right table t b h) c
