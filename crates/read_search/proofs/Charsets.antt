-- A charset that stands there is known or not. Assumes nothing.
use Rattle.std.proofs.Common.{◌≡◌, ℕ, Bool, true, false, cond, not, List, refl}
use Rattle.model.specs.Octets.{atom_octet}
use Rattle.model.specs.Requests.{Charset, known, unknown}
use Rattle.model.specs.Replies.{unknown_charset}
use Rattle.model.specs.Reading.{Parsed, bad, ok, and_then, text_at}
use Rattle.model.specs.SearchGrammar.{charset_of, charset_at}
use Rattle.read_options.specs.Charsets.{known_of, is_known}

by_test : (b : Bool) → unknown_charset (cond b known unknown) ≡ not (known_of (cond b known unknown))
by_test true = refl
by_test false = refl

by_text : (x : Parsed (List ℕ)) {p : ℕ} {c : Charset} → and_then x (λ q w. ok q (charset_of w)) ≡ ok p c → unknown_charset c ≡ not (known_of c)
by_text bad e = cc
by_text (ok q w) {p} {c} e = let i : charset_of w ≡ c = cc in rw (← i) (by_test (is_known w))

pub charset_known : (s : List ℕ) (at : ℕ) {p : ℕ} {c : Charset} → charset_at s at ≡ ok p c → unknown_charset c ≡ not (known_of c)
unfolding charset_at
charset_known s at e = by_text (text_at atom_octet s at) e
