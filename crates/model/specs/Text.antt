-- Text as octets: words as they are written here, numbers in decimal, quoted strings, bits, little-endian numbers.
use Rattle.std.specs.Prelude.{Bool, true, false, cond, ◌&&◌, List, [], ◌∷◌, ◌++◌, map, ℕ, zero, suc, ◌+◌, ◌*◌, ◌-◌, ◌/◌, ◌%◌, ltb, leb, eqb}
use Prim.Native.Char.{code}
use Prim.Native.String.{String, [] as none, ◌∷◌ as ◌◂◌}
use Rattle.model.specs.Lists.{same}

-- the octets of a text
abbrev pub octets : String → List ℕ
octets none = []
octets (c ◂ cs) = code c ∷ octets cs

-- a letter in upper case, any other octet as it is
abbrev pub upper : ℕ → ℕ
upper b = cond (leb 97 b && leb b 122) (b - 32) b

-- the same words, whatever the case of their letters
abbrev pub same_word : List ℕ → List ℕ → Bool
same_word a b = same (map upper a) (map upper b)

-- ---- numbers
abbrev pub step : Bool → ℕ → List ℕ → List ℕ
step true n front = (48 + n) ∷ []
step false n front = front ++ ((48 + n % 10) ∷ [])

-- n in decimal, of at most fuel digits
unfoldable pub digits : ℕ → ℕ → List ℕ
digits zero n = []
digits (suc f) n = let front = digits f (n / 10) in step (ltb n 10) n front

-- n in decimal: it has fewer digits than n + 1
unfoldable pub decimal : ℕ → List ℕ
decimal n = digits (suc n) n

-- bit k of n
abbrev pub bit : ℕ → ℕ → Bool
bit zero n = eqb (n % 2) 1
bit (suc k) n = bit k (n / 2)

abbrev pub one : Bool → ℕ
one true = 1
one false = 0

-- the number with these bits, the lowest first
abbrev pub pack : List Bool → ℕ
pack [] = 0
pack (b ∷ bs) = one b + 2 * pack bs

-- the first w octets as a number, the lowest first (Records, 2)
abbrev pub little : ℕ → List ℕ → ℕ
little zero b = 0
little (suc w) [] = 0
little (suc w) (x ∷ b) = x + 256 * little w b

-- ---- quoted strings: a quote and a backslash have a backslash before them (Written, 2)
abbrev pub escape_octet : ℕ → List ℕ
escape_octet b = cond (eqb b 34) (92 ∷ b ∷ []) (cond (eqb b 92) (92 ∷ b ∷ []) (b ∷ []))

unfoldable pub escape : List ℕ → List ℕ
escape [] = []
escape (b ∷ t) = escape_octet b ++ escape t

unfoldable pub quoted : List ℕ → List ℕ
quoted t = (34 ∷ []) ++ escape t ++ (34 ∷ [])
