-- The names of charsets. Assumes nothing.
use Rattle.std.proofs.Common.{◌≡◌, ℕ, ◌-◌, ◌≤◌, ◌<◌, length, Some, None, Bool, true, false, cond, leb, List, map, refl, sym, ap, ◌∙◌, arith}
use Rattle.std.proofs.lemmas.Bool.{lt-leb}
use lib.ListN.{drop, length-map}
use lib.Seq.{take_all, take_at}
use Rattle.model.specs.Text.{octets, upper, same_word}
use Rattle.model.specs.Octets.{atom_octet}
use Rattle.model.specs.Requests.{known, unknown}
use Rattle.model.specs.Reading.{Parsed, bad, ok, and_then, piece, text_at}
use Rattle.model.specs.SearchGrammar.{charset_of, charset_at}
use Rattle.model.specs.Laws.{same_lengths}
use Rattle.octets.specs.Found.{next_of}
use Rattle.octets.specs.Values.{value_of, fill}
use Rattle.read_options.specs.Charsets.{is_known, known_of, read_charset}

-- a name that is longer than those that are known
word_lengths : (a b : List ℕ) → (length a ≡ length b → ⊥) → same_word a b ≡ false
word_lengths a b h = same_lengths (map upper a) (map upper b) (λ e. h (sym (length-map a upper) ∙ e ∙ length-map b upper))

pub name_long : (w : List ℕ) {n : ℕ} → n ≡ length w → 8 < n → leb n 8 ≡ is_known w
name_long w {n} e h = rw (lt-leb n 8 h, word_lengths w (octets "US-ASCII") (λ i. omega arith), word_lengths w (octets "UTF-8") (λ i. omega arith))

-- a charset
known_is : (b : Bool) → b ≡ known_of (cond b known unknown)
known_is true = refl
known_is false = refl

charset_by_lem : (x : Parsed (List ℕ)) {p : ℕ} {k : Bool} → Some p ≡ next_of x → k ≡ is_known (value_of x) → Some (k, p) ≡ read_charset (and_then x (λ q w. ok q (charset_of w)))
charset_by_lem bad h e = cc
charset_by_lem (ok q w) {p} {k} h e = let f : p ≡ q = cc in let g : k ≡ known_of (charset_of w) = e ∙ known_is (is_known w) in rw (f, g)

missing_by : (x : Parsed (List ℕ)) → None ≡ next_of x → None ≡ read_charset (and_then x (λ q w. ok q (charset_of w)))
missing_by bad h = refl
missing_by (ok q w) h = cc

module _ (s : List ℕ) (at : ℕ) where
  pub charset-found : {p : ℕ} {k : Bool} → Some p ≡ next_of (text_at atom_octet s at) → k ≡ is_known (value_of (text_at atom_octet s at)) → Some (k, p) ≡ read_charset (charset_at s at)
  unfolding charset_at
  charset-found h e = charset_by_lem (text_at atom_octet s at) h e

  pub charset_missing : None ≡ next_of (text_at atom_octet s at) → None ≡ read_charset (charset_at s at)
  unfolding charset_at
  charset_missing h = missing_by (text_at atom_octet s at) h

-- a buffer that a name fits
name-filled : (v out : List ℕ) (n : ℕ) → n ≡ length v → n ≤ length out → piece (fill out v) 0 n ≡ v
name-filled v out n e h = let z : n - 0 ≡ n = omega arith in rw (take_all (length out) v (omega arith), z) (take_at v (drop (length v) out) n (sym e))

pub name-known : (v out : List ℕ) {out' : List ℕ} (n : ℕ) {r : Bool} → r ≡ is_known (piece out' 0 n) → out' ≡ fill out v → n ≡ length v → n ≤ length out → r ≡ is_known v
name-known v out n g e l h = g ∙ ap (λ (x : List ℕ). is_known (piece x 0 n)) e ∙ ap is_known (name-filled v out n l h)
