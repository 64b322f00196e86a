-- A buffer whose front is overwritten, one octet at a time, and the value of a string that is read. Assumes nothing.
use mathlib.Core.Path.{◌≡◌, refl, sym, ap, ◌∙◌}
use mathlib.Core.List.{List, [], ◌∷◌, ◌++◌, append_assoc, append-nil}
use mathlib.Core.Bool.{Bool, true, false, cond}
use Prim.Native.Nat.{ℕ, ◌+◌, ◌≤◌, ◌<◌}
use native.Mathlib.Omega.{arith}
use lib.Dec.{eqb, ltb}
use lib.ListN.{length, get_or, drop, set, length-append}
use lib.Seq.{take-nil, drop-nil, sets}
use borrow.Author.Tests.{ltb-false, eqb-true, eqb-false}
use Rattle.model.specs.Reading.{Parsed, bad, ok, and_then, Quoting, closes, escapes, belongs, fails, quoting, unquote_by, unquote, end_of, piece, run_at, quoted_at}
use Rattle.octets.specs.Found.{next_of}
use Rattle.octets.specs.Quotes.{step_of, kept, escaping}
use Rattle.octets.specs.declared.texts.QuoteStep.{QuoteStep}
use Rattle.octets.specs.declared.texts.QuoteStep.TheVariants.{Closes, Wrong, Kept, Escapes}
use Rattle.octets.specs.Values.{value_of, fill}
use Rattle.std.specs.Prelude.{None}
use Rattle.std.specs.Option.{is_some}
use Rattle.octets.proofs.Pieces.{piece_over}
use Rattle.octets.proofs.Strings.{quote_at, quote-goes, quote_fails, quote_begins, quote_none}

pub fill_none : (out : List ℕ) → fill out [] ≡ out
fill_none out = rw (take-nil (length out))

pub fill_one : (out f : List ℕ) (b : ℕ) → set (fill out f) (length f) b ≡ fill out (f ++ (b ∷ []))
fill_one [] f b = rw (drop-nil (length f), drop-nil (length (f ++ (b ∷ []))))
fill_one (x ∷ out) [] b = rw (take-nil (length out))
fill_one (x ∷ out) (y ∷ f) b = ap (λ (l : List ℕ). y ∷ l) (fill_one out f b)

pub fill_more : (out f : List ℕ) (k : QuoteStep) (b : ℕ) → sets (fill out f) (length f) (kept k b) ≡ fill out (f ++ kept k b)
fill_more out f Kept b = fill_one out f b
fill_more out f Closes b = ap (fill out) (sym (append-nil f))
fill_more out f Wrong b = ap (fill out) (sym (append-nil f))
fill_more out f Escapes b = ap (fill out) (sym (append-nil f))

-- the front of a value v is written, n octets of it, and `rest` is left
pub record Copied (v out₀ rest out : List ℕ) (n : ℕ) : Type 0 where
  pub front : List ℕ
  pub all : v ≡ front ++ rest
  pub long : n ≡ length front
  pub is : out ≡ fill out₀ front

pub copied_start : (v rest out : List ℕ) → v ≡ rest → Copied v out rest out 0
copied_start v rest out e = record { front = []; all = e; long = refl; is = sym (fill_none out) }

pub copied-kept : {v out₀ rest out : List ℕ} {n : ℕ} (k : QuoteStep) (b : ℕ) (rest' : List ℕ) → Copied v out₀ rest out n → rest ≡ kept k b ++ rest' → Copied v out₀ rest' (sets out n (kept k b)) (n + length (kept k b))
copied-kept {v} {out₀} {rest} {out} {n} k b rest' c e = record {
  front = c.front ++ kept k b;
  all = rw append_assoc (rw e at c.all);
  long = rw c.long (sym (length-append c.front (kept k b)));
  is = rw (c.is, c.long) (fill_more out₀ c.front k b);
}

copied_all : {v out₀ rest out : List ℕ} {n : ℕ} (c : Copied v out₀ rest out n) → rest ≡ [] → v ≡ c.front
copied_all c e = rw (e, append-nil) at c.all

pub copied_long : {v out₀ rest out : List ℕ} {n : ℕ} → Copied v out₀ rest out n → rest ≡ [] → n ≡ length v
copied_long c e = c.long ∙ sym (ap length (copied_all c e))

pub copied_is : {v out₀ rest out : List ℕ} {n : ℕ} → Copied v out₀ rest out n → rest ≡ [] → out ≡ fill out₀ v
copied_is {v} {out₀} c e = c.is ∙ sym (ap (fill out₀) (copied_all c e))

-- a run that is empty has no octets either
pub run_value : (class : ℕ → Bool) (s : List ℕ) (at q : ℕ) → q ≡ end_of class s at → value_of (run_at class s at) ≡ piece s at q
run_value class s at q e = rw (← e) (go (ltb at q) refl)
  where
    go : (t : Bool) → ltb at q ≡ t → value_of (cond t (ok q (piece s at q)) bad) ≡ piece s at q
    go true h = refl
    go false h = sym (piece_over s at q (ltb-false at q h))

-- nothing was read, and so no value
pub no_value : (x : Parsed (List ℕ)) → is_some (next_of x) ≡ false → value_of x ≡ []
no_value bad e = refl
no_value (ok p v) e = cc

-- what each step gives to the value of a string that is read to its end
value-cons : (b : ℕ) (x : Parsed (List ℕ)) → (next_of (and_then x (λ q t. ok q (b ∷ t))) ≡ None → ⊥) → value_of (and_then x (λ q t. ok q (b ∷ t))) ≡ b ∷ value_of x
value-cons b bad e = absurd (e refl)
value-cons b (ok p v) e = refl

value-goes : (q : Quoting) (b p : ℕ) (rest : Bool → Parsed (List ℕ)) → (step_of q ≡ Closes → ⊥) → (next_of (unquote_by q b p rest) ≡ None → ⊥) → value_of (unquote_by q b p rest) ≡ kept (step_of q) b ++ value_of (rest (escaping (step_of q)))
value-goes closes b p rest n e = absurd (n refl)
value-goes escapes b p rest n e = refl
value-goes belongs b p rest n e = value-cons b (rest false) e
value-goes fails b p rest n e = absurd (e refl)

value_closes : (q : Quoting) (b p : ℕ) (rest : Bool → Parsed (List ℕ)) → step_of q ≡ Closes → value_of (unquote_by q b p rest) ≡ []
value_closes closes b p rest e = refl
value_closes escapes b p rest e = absurd (let z : ◌≡◌ {A = ℕ} 0 1 = cc in omega arith)
value_closes belongs b p rest e = absurd (let z : ◌≡◌ {A = ℕ} 0 1 = cc in omega arith)
value_closes fails b p rest e = absurd (let z : ◌≡◌ {A = ℕ} 0 1 = cc in omega arith)

module _ (s : List ℕ) (p : ℕ) (e : Bool) (h : p < length s) (k : QuoteStep) (is : k ≡ step_of (quoting e (get_or s p 0))) where
  pub string_closes : k ≡ Closes → value_of (unquote (drop p s) e p) ≡ []
  string_closes z = ap value_of (quote_at s p e h) ∙ value_closes (quoting e (get_or s p 0)) _ _ _ (sym is ∙ z)

  pub string-goes : (k ≡ Closes → ⊥) → (next_of (unquote (drop p s) e p) ≡ None → ⊥) → value_of (unquote (drop p s) e p) ≡ kept k (get_or s p 0) ++ value_of (unquote (drop (p + 1) s) (escaping k) (p + 1))
  string-goes n m = rw is (ap value_of (quote_at s p e h) ∙ value-goes (quoting e (get_or s p 0)) _ _ _ (λ z. n (is ∙ z)) (λ z. m (ap next_of (quote_at s p e h) ∙ z)))

  pub string-still : (k ≡ Closes → ⊥) → (next_of (unquote (drop p s) e p) ≡ None → ⊥) → next_of (unquote (drop (p + 1) s) (escaping k) (p + 1)) ≡ None → ⊥
  string-still n m z = m (quote-goes s p e h k is n (λ y. m (quote_fails s p e h k is y)) ∙ z)

pub kept_short : (k : QuoteStep) (b : ℕ) → length (kept k b) ≤ 1
kept_short Kept b = omega arith
kept_short Closes b = omega arith
kept_short Wrong b = omega arith
kept_short Escapes b = omega arith

-- a quoted string that is read begins with a quote
module _ (s : List ℕ) (at : ℕ) (ok : next_of (quoted_at s at) ≡ None → ⊥) where
  pub string_begins : quoted_at s at ≡ unquote (drop (at + 1) s) false (at + 1)
  string_begins = go (eqb (get_or s at 0) 34) refl
    where
      go : (t : Bool) → eqb (get_or s at 0) 34 ≡ t → quoted_at s at ≡ unquote (drop (at + 1) s) false (at + 1)
      go true e = quote_begins s at (eqb-true _ _ e)
      go false e = absurd (ok (sym (quote_none s at (eqb-false _ _ e))))
