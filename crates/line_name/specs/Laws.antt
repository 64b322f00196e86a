-- Laws of what is written for a name: bare or in quotes, and how long. Assumes nothing.
use Rattle.std.specs.Prelude.{◌≡◌, refl, Bool, true, false, cond, List, [], ◌∷◌, ◌++◌, ℕ, ◌+◌, ◌*◌, ◌≤◌, eqb, length}
use Rattle.std.proofs.Common.{arith, length-append}
use Rattle.model.specs.Names.{Name}
use Rattle.model.specs.Text.{escape_octet, escape, quoted}
use Rattle.line_name.specs.Bare.{bare, bare_text}

module _ (n : Name) where
  pub text_bare : bare n ≡ true → bare_text n ≡ n
  unfolding bare_text
  text_bare e = rw e

  pub text_quoted : bare n ≡ false → bare_text n ≡ quoted n
  unfolding bare_text
  text_quoted e = rw e

-- how long it is: no shorter than the name, no longer than a backslash before each octet and two quotes make it
abbrev Within : ℕ → List ℕ → ℕ → Type 0
Within least t most = (least ≤ length t) × (length t ≤ most)

escape_length : (t : List ℕ) → Within (length t) (escape t) (2 * length t)
unfolding escape
escape_length [] = (omega arith, omega arith)
escape_length (b ∷ t) =
    let i = escape_length t in
    let o = octet (eqb b 34) (eqb b 92) in
    let l = length-append (escape_octet b) (escape t) in
    (omega arith, omega arith)
  where
    octet : (c d : Bool) → Within 1 (cond c (92 ∷ b ∷ []) (cond d (92 ∷ b ∷ []) (b ∷ []))) 2
    octet true d = (omega arith, omega arith)
    octet false true = (omega arith, omega arith)
    octet false false = (omega arith, omega arith)

pub text_length : (n : Name) → Within (length n) (bare_text n) (2 * length n + 2)
unfolding quoted
text_length n = go (bare n) refl
  where
    go : (c : Bool) → bare n ≡ c → Within (length n) (bare_text n) (2 * length n + 2)
    go true e = rw (text_bare n e) (omega arith, omega arith)
    go false e =
        let i = escape_length n in
        let l = length-append (34 ∷ []) (escape n ++ (34 ∷ [])) in
        let k = length-append (escape n) (34 ∷ []) in
        rw (text_quoted n e) (omega arith, omega arith)
