-- A valid name with a slash is a valid name, a slash and a part without one; its parent's name is that name, INBOX folded (02, 2). Assumes nothing.
use Rattle.std.specs.Prelude.{◌≡◌, refl, Bool, not, ◌&&◌, ℕ, ◌≤◌, eqb, leb, length}
use Rattle.std.proofs.Common.{sym, ◌∙◌, ap, arith, leb-true, le-leb, eqb-true, ne_eqb, length-append}
use mathlib.Core.List.{[], ◌∷◌, ◌++◌}
use Rattle.std.proofs.Math.Bool.{true, false, cond}
use Rattle.model.specs.Lists.{anyb, allb}
use Rattle.model.specs.Laws.{tf, or-false, and_l, and_r, before_last, before_none}
use Rattle.model.specs.Names.{Name, printable, no_part_empty, valid, fold, argument, before_slash, parent_of, has_parent}
use Rattle.model.specs.Parents.{IsParent, ParentThere}
use Rattle.demands.specs.Lasting.NameLaws.{valid_short, fold-valid}

-- ---- a name with a slash is cut at the last
cut : (n : Name) → anyb (eqb 47) n ≡ true → (p : Name) × IsParent p n
cut [] e = tf false e refl
cut (b ∷ n) e = go (anyb (eqb 47) n) refl (cut n)
  where
    go : (c : Bool) → anyb (eqb 47) n ≡ c → (anyb (eqb 47) n ≡ true → (p : Name) × IsParent p n) → (p : Name) × IsParent p (b ∷ n)
    go true f ih =
        let s = (ih f).1 in
        (fold (b ∷ s.above), record { above = b ∷ s.above; part = s.part; is = ap (λ (l : Name). b ∷ l) s.is; last = s.last; named = refl })
    go false f ih =
        let z : 47 ≡ b = eqb-true 47 b (sym (or-false (eqb 47 b)) ∙ (rw f at e)) in
        (fold [], record { above = []; part = n; is = ap (λ (c : ℕ). c ∷ n) (sym z); last = f; named = refl })

-- ---- what stands before a slash of a valid name is valid
module _ (t : Name) where
  all-front : (a : Name) → allb printable (a ++ (47 ∷ t)) ≡ true → allb printable a ≡ true
  all-front [] e = refl
  all-front (b ∷ a) e = rw (and_l (printable b) _ e) (all-front a (and_r (printable b) _ e))

  parts-front : (c : Bool) (a : Name) → no_part_empty c (a ++ (47 ∷ t)) ≡ true → no_part_empty c a ≡ true
  unfolding no_part_empty
  parts-front c [] e = and_l c _ e
  parts-front c (b ∷ a) e = go (eqb b 47) e (parts-front false a) (parts-front true a)
    where
      go : (d : Bool) → cond d (c && no_part_empty false (a ++ (47 ∷ t))) (no_part_empty true (a ++ (47 ∷ t))) ≡ true
          → (no_part_empty false (a ++ (47 ∷ t)) ≡ true → no_part_empty false a ≡ true) → (no_part_empty true (a ++ (47 ∷ t)) ≡ true → no_part_empty true a ≡ true)
          → cond d (c && no_part_empty false a) (no_part_empty true a) ≡ true
      go true f closed longer = rw (and_l c _ f) (closed (and_r c _ f))
      go false f closed longer = longer f

some : (a : Name) → no_part_empty false a ≡ true → 1 ≤ length a
unfolding no_part_empty
some [] e = tf false e refl
some (b ∷ a) e = omega arith

front-valid : (a t : Name) → valid (a ++ (47 ∷ t)) ≡ true → valid a ≡ true
front-valid a t h =
    let n = a ++ (47 ∷ t) in
    let c : (allb printable n && no_part_empty false n) ≡ true = and_r (leb 1 (length n) && leb (length n) 64) _ h in
    let e = parts-front t false a (and_r (allb printable n) _ c) in
    let k = leb-true (length n) 64 (valid_short n h) in
    let l = length-append a (47 ∷ t) in
    rw (le-leb 1 (length a) (some a e), le-leb (length a) 64 (omega arith), all-front t a (and_l (allb printable n) _ c), e)

-- ---- the parent's name
module _ (p n : Name) (i : IsParent p n) (h : valid n ≡ true) where
  above-valid : valid i.above ≡ true
  above-valid = front-valid i.above i.part (sym (ap valid i.is) ∙ h)

  parent-valid : valid p ≡ true
  parent-valid = ap valid i.named ∙ fold-valid i.above above-valid

  pub parent_of_lem : parent_of n ≡ p
  parent_of_lem =
      let f : argument i.above ≡ fold i.above = rw above-valid in
      ap argument (ap before_slash i.is ∙ before_last i.above i.part i.last) ∙ (f ∙ sym i.named)

  pub has-parent : has_parent n ≡ true
  has-parent =
      let k = leb-true 1 (length p) (and_l (leb 1 (length p)) _ (and_l (leb 1 (length p) && leb (length p) 64) _ parent-valid)) in
      ap (λ (q : Name). not (eqb (length q) 0)) parent_of_lem ∙ ap not (ne_eqb (length p) 0 (λ e. omega arith))

no-parent : (n : Name) → anyb (eqb 47) n ≡ false → has_parent n ≡ false
no-parent n e = ap (λ (b : Name). not (eqb (length (argument b)) 0)) (before_none n e)

-- a valid name has one exactly where it has a slash
pub slash-parent : (n : Name) → valid n ≡ true → has_parent n ≡ anyb (eqb 47) n
slash-parent n h = go (anyb (eqb 47) n) refl
  where
    go : (b : Bool) → anyb (eqb 47) n ≡ b → has_parent n ≡ b
    go true e = let c = cut n e in has-parent c.0 n c.1 h
    go false e = no-parent n e

pub there : ParentThere
there n h e = let c = cut n e in (c.0, c.1, parent-valid c.0 n c.1 h)
