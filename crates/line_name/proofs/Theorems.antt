-- A mailbox name is written as it is or in quotes, and is read back from either. Assumes nothing.
use Rattle.std.specs.Prelude.{◌≡◌, refl, List, [], ◌∷◌, ◌++◌, Bool, true, false, not, ◌&&◌, ◌||◌, ℕ, suc, ◌+◌, ◌-◌, ◌<◌, eqb, leb, length}
use Rattle.std.proofs.Common.{sym, ◌∙◌, ap, append_assoc, arith, leb-true, lt-ltb, le-leb, ne_eqb, length-append}
use Rattle.std.proofs.Math.Seq.{take-append_seam, drop-append_seam, drop-append-add, get_or-append_seam}
use Rattle.model.specs.Lists.{anyb, allb}
use Rattle.model.specs.Laws.{tf, and_l, and_r}
use Rattle.model.specs.Names.{Name, printable, valid}
use Rattle.model.specs.Octets.{atom_octet, astring_octet, quoted_octet}
use Rattle.model.specs.Text.{octets, same_word, escape_octet, escape, quoted}
use Rattle.model.specs.Reading.{ok, and_then, octet_at, stands, run_length, run_at, unquote, astring_at}
use Rattle.line_name.specs.Laws.{text_bare, text_quoted}
use Rattle.line_name.specs.Bare.{bare, needs_quotes, BareOrQuoted, NameBare, ReadsBack, NameRead}

-- ---- octets
-- an octet of a class is none that the class leaves out
class_apart : (class : ℕ → Bool) (b k : ℕ) → class b ≡ true → class k ≡ false → eqb b k ≡ false
class_apart class b k h f = ne_eqb b k λ e. tf (class k) (rw e at h) f

atom_astring : (b : ℕ) → atom_octet b ≡ true → astring_octet b ≡ true
atom_astring b h = rw h

printable_quoted : (b : ℕ) → printable b ≡ true → quoted_octet b ≡ true
printable_quoted b h =
    let l = leb-true 0x20 b (and_l (leb 0x20 b) _ h) in
    let u = leb-true b 0x7E (and_r (leb 0x20 b) _ h) in
    rw (le-leb 0x01 b (omega arith), le-leb b 0x7F (omega arith), class_apart printable b 13 h refl, class_apart printable b 10 h refl)

atoms_astring : (n : Name) → allb atom_octet n ≡ true → allb astring_octet n ≡ true
atoms_astring [] h = refl
atoms_astring (b ∷ n) h = rw (atom_astring b (and_l (atom_octet b) _ h)) (atoms_astring n (and_r (atom_octet b) _ h))

atoms_unquoted : (n : Name) → allb atom_octet n ≡ true → stands n 0 "\"" ≡ false
atoms_unquoted [] h = refl
atoms_unquoted (b ∷ n) h = class_apart atom_octet b 34 (and_l (atom_octet b) _ h) refl

-- ---- which names are quoted: just those that are not bare
any_not : {A : Type 0} (p : A → Bool) (l : List A) → anyb (λ (x : A). not (p x)) l ≡ not (allb p l)
any_not p [] = refl
any_not p (x ∷ l) = go (p x) (any_not p l)
  where
    go : (b : Bool) → anyb (λ x. not (p x)) l ≡ not (allb p l) → (not b || anyb (λ x. not (p x)) l) ≡ not (b && allb p l)
    go true ih = ih
    go false ih = refl

needs_bare : (n : Name) → needs_quotes n ≡ not (bare n)
needs_bare n = rw (any_not atom_octet n) (go (allb atom_octet n) (same_word n (octets "NIL")))
  where
    go : (a s : Bool) → (not a || s) ≡ not (a && not s)
    go true true = refl
    go true false = refl
    go false s = refl

pub name_bare : NameBare
unfolding quoted
name_bare n = go (bare n) refl
  where
    go : (b : Bool) → bare n ≡ b → BareOrQuoted n
    go true e =
        let t = text_bare n e in
        let q : needs_quotes n ≡ false = rw e at (needs_bare n) in
        record { begins = rw t (atoms_unquoted n (and_l (allb atom_octet n) _ e) ∙ sym q); plain = λ h. t; other = λ h. tf (needs_quotes n) h q }
    go false e =
        let t = text_quoted n e in
        let q : needs_quotes n ≡ true = rw e at (needs_bare n) in
        record { begins = rw t (sym q); plain = λ h. tf (needs_quotes n) q h; other = λ h. t }

-- ---- a run is read to its end, where an octet of another class follows
run_append : (class : ℕ → Bool) (n rest : List ℕ) → allb class n ≡ true → class (octet_at rest 0) ≡ false → run_length class (n ++ rest) ≡ length n
unfolding run_length
run_append class [] [] h f = refl
run_append class [] (b ∷ rest) h f = rw f
run_append class (b ∷ n) rest h f = rw (and_l (class b) _ h) (ap suc (run_append class n rest (and_r (class b) _ h) f))

run_read : (class : ℕ → Bool) (front n rest : List ℕ) → allb class n ≡ true → class (octet_at rest 0) ≡ false → 0 < length n
    → run_at class (front ++ (n ++ rest)) (length front) ≡ ok (length front + length n) n
run_read class front n rest h f some =
    let e : (length front + length n) - length front ≡ length n = omega arith in
    rw (drop-append_seam front (n ++ rest), run_append class n rest h f, lt-ltb (length front) (length front + length n) (omega arith), e, take-append_seam n rest)

-- ---- what is escaped is read to its closing quote, without its backslashes
-- one octet of it
abbrev OctetRead : ℕ → List ℕ → ℕ → Type 0
OctetRead b l p = unquote (escape_octet b ++ l) false p ≡ and_then (unquote l false (p + length (escape_octet b))) λ q t. ok q (b ∷ t)

unquote_octet : (b : ℕ) (l : List ℕ) (p : ℕ) → printable b ≡ true → OctetRead b l p
unfolding unquote
unquote_octet b l p h = go (eqb b 34) refl (eqb b 92) refl
  where
    two : p + 1 + 1 ≡ p + 2
    two = omega arith

    go : (c : Bool) → eqb b 34 ≡ c → (d : Bool) → eqb b 92 ≡ d → OctetRead b l p
    go true e d f = rw (e, e, two)
    go false e true f = rw (e, f, e, f, two)
    go false e false f = rw (e, f, e, f, printable_quoted b h)

unquote_escape : (n rest : List ℕ) (p : ℕ) → allb printable n ≡ true → unquote (escape n ++ (34 ∷ rest)) false p ≡ ok (p + length (escape n) + 1) n
unfolding unquote escape
unquote_escape [] rest p h = let e : p + 1 ≡ p + 0 + 1 = omega arith in rw e
unquote_escape (b ∷ n) rest p h =
    let q = p + length (escape_octet b) in
    let e : q + length (escape n) + 1 ≡ p + length (escape_octet b ++ escape n) + 1 = omega (arith, length-append (escape_octet b) (escape n)) in
    rw (append_assoc (escape_octet b), unquote_octet b (escape n ++ (34 ∷ rest)) p (and_l (printable b) _ h), unquote_escape n rest q (and_r (printable b) _ h), e)

-- ---- a name is read back, from the text t that is written for it
abbrev ReadFrom : (front t rest : List ℕ) → Name → Type 0
ReadFrom front t rest n = astring_at (front ++ (t ++ rest)) (length front) ≡ ok (length front + length t) n

bare_read : (front n rest : List ℕ) → valid n ≡ true → astring_octet (octet_at rest 0) ≡ false → allb atom_octet n ≡ true → ReadFrom front n rest n
bare_read front [] rest v f h = tf false v refl
bare_read front (b ∷ n) rest v f h =
    rw (get_or-append_seam front b (n ++ rest) 0, atoms_unquoted (b ∷ n) h)
    (run_read astring_octet front (b ∷ n) rest (atoms_astring (b ∷ n) h) f (omega arith))

quoted_read : (front n rest : List ℕ) → allb printable n ≡ true → ReadFrom front (quoted n) rest n
unfolding quoted
quoted_read front n rest h =
    let t = escape n ++ (34 ∷ rest) in
    let e : length front + 1 + length (escape n) + 1 ≡ length front + suc (length (escape n ++ (34 ∷ []))) = omega (arith, length-append (escape n) (34 ∷ [])) in
    rw (append_assoc (escape n), get_or-append_seam front 34 t 0, drop-append-add front (34 ∷ t) 1, unquote_escape n rest (length front + 1) h, e)

pub name_read : NameRead
name_read front n rest v f = go (bare n) refl
  where
    go : (b : Bool) → bare n ≡ b → ReadsBack front n rest
    go true e = rw (text_bare n e) (bare_read front n rest v f (and_l (allb atom_octet n) _ e))
    go false e = rw (text_quoted n e) (quoted_read front n rest (and_l (allb printable n) _ (and_r (leb 1 (length n) && leb (length n) 64) _ v)))
