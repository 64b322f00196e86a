-- The rows of the lent mailbox table that are searched or laid out. Assumes nothing.
use Rattle.std.specs.Prelude.{◌≡◌, refl, Bool, true, false, cond, List, [], ◌∷◌, ◌++◌, ℕ, suc, ◌-◌, ◌≤◌, min, eqb, leb, ltb, length, take, replicate, Some, None, position}
use Rattle.std.specs.List.{position_or_len}
use Rattle.std.specs.Option.{unwrap_or}
use Rattle.std.proofs.Common.{ap, ap₂, sym, ◌∙◌, arith, length-take, take_all, take_at, take-take, leb-true, leb-false, ltb-false}
use Rattle.std.proofs.lemmas.List.{take_min}
use Rattle.std.proofs.lemmas.List.Sums.{prefix_len-le-length}
use Rattle.std.proofs.lemmas.List.Recursion.{is_position_or_len}
use lib.Pointwise.{pointwise}
use Rattle.model.specs.Lists.{same}
use Rattle.model.specs.Iterating.{same_is_eq}
use Rattle.model.specs.Memory.{no_mailbox, name_of}
use Rattle.model.specs.declared.Mailbox.{Mailbox}
use Rattle.lawful.specs.Lent.{Lent}

-- the first 64 rows, and empty ones behind a shorter table
abbrev pub loaded : List Mailbox → List Mailbox
loaded t = take 64 t ++ replicate (64 - length t) no_mailbox

-- a table is lent as the array has it
pub lent_loaded : (t : List Mailbox) → Lent t (loaded t) (length t)
lent_loaded t = record {
  long = refl;
  read = λ h. sym (ap (λ (l : List Mailbox). take (length t) (l ++ replicate (64 - length t) no_mailbox)) (take_all 64 t h) ∙ take_at t (replicate (64 - length t) no_mailbox) (length t) refl);
}

-- and as its first 64 rows have it
pub lent_first : (rows t : List Mailbox) → Lent t (loaded rows) (length rows) → Lent t (take 64 rows) (length rows)
lent_first rows t w = record {
  long = w.long;
  read = λ h. w.read h ∙ (sym ((lent_loaded rows).read h) ∙ sym (ap (take (length rows)) (take_all 64 rows h) ∙ take_all (length rows) rows (omega arith)));
}

-- ---- the rows in use
pub take_used : (used : ℕ) (t : List Mailbox) → take (min (min used 64) (length t)) t ≡ take used (take 64 t)
take_used used t = take_min (min used 64) t ∙ go (leb used 64) refl
  where
    go : (b : Bool) → leb used 64 ≡ b → take (min used 64) t ≡ take used (take 64 t)
    go true e =
        let h = leb-true used 64 e in
        let w : min used 64 ≡ used = omega arith in
        ap (λ (n : ℕ). take n t) w ∙ sym (take-take used 64 t h)
    go false e =
        let h = leb-false used 64 e in
        let k = length-take 64 t in
        let w : min used 64 ≡ 64 = omega arith in
        ap (λ (n : ℕ). take n t) w ∙ sym (take_all used (take 64 t) (omega arith))

-- ---- the place of the first with a name, or as many as there are
unfoldable pub place_named : List ℕ → List Mailbox → ℕ
place_named n [] = 0
place_named n (x ∷ l) = let rest = place_named n l in cond (same (name_of x) n) 0 (suc rest)

-- as the code asks
abbrev pub is_named : List ℕ → Mailbox → Bool
is_named n x = pointwise eqb (name_of x) n

place_named_is : (n : List ℕ) (l : List Mailbox) → place_named n l ≡ position_or_len (is_named n) l
unfolding place_named
place_named_is n l = is_position_or_len (place_named n) (is_named n) refl (λ x xs. ap₂ (λ (b : Bool) (k : ℕ). cond b 0 k) (sym (same_is_eq (name_of x) n)) (omega arith)) l

pub named_or : (n : List ℕ) (l : List Mailbox) → unwrap_or (position (is_named n) l) (length l) ≡ place_named n l
named_or n l = go (ltb (position_or_len (is_named n) l) (length l)) refl ∙ sym (place_named_is n l)
  where
    go : (b : Bool) → ltb (position_or_len (is_named n) l) (length l) ≡ b → unwrap_or (cond b (Some (position_or_len (is_named n) l)) None) (length l) ≡ position_or_len (is_named n) l
    go true t = refl
    go false t = let y = ltb-false (position_or_len (is_named n) l) (length l) t in let z : position_or_len (is_named n) l ≤ length l = prefix_len-le-length _ l in omega arith
