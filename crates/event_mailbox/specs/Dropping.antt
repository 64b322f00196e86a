-- A row taken out, as code does it. Assumes nothing.
use Rattle.std.specs.Prelude.{◌≡◌, Bool, not, take, drop}
use Rattle.std.proofs.Math.Path.{refl, ap}
use Rattle.std.proofs.Common.{ap₂, sym, ◌∙◌, length-take-le, take-take, take-add, drop_at as dropped-at, eqb-true, leb-true}
use Rattle.std.proofs.Math.Bool.{true, false}
use mathlib.Core.List.{List, [], ◌∷◌, ◌++◌}
use Prim.Native.Nat.{ℕ, suc, ◌+◌, ◌-◌, ◌<◌, ◌≤◌, max}
use native.Mathlib.Omega.{arith}
use Rattle.std.proofs.Math.Dec.{eqb}
use Rattle.std.proofs.Math.ListN.{length}
use Rattle.std.proofs.Math.Seq.{take-append-add}
use Rattle.std.proofs.lemmas.Bool.{not-true}
use Rattle.model.specs.Laws.{and_l, and_r, or_l, or_r}
use Rattle.model.specs.Lists.{filterb, keep, anyb, apart, same}
use Rattle.model.specs.Memory.{Memory, boxes, name_of, no_mailbox, place, refill, drop_box}
use Rattle.model.specs.Lawful.{clash}
use Rattle.demands.specs.Lasting.Law.{Law}
use Rattle.demands.specs.Lasting.Clash.{eqb_sym}
use Rattle.model.specs.declared.Mailbox.{Mailbox}
use Rattle.table_mailboxes.specs.Rows.{rows_are, boxes_long}
use Rattle.laws.specs.Shift.{without, length_without}
use Rattle.table_mailboxes.specs.Shift.{closed}

-- the only one with its id
module _ (i : ℕ) where
  abbrev stays : Mailbox → Bool
  stays x = not (eqb x.id i)

  others : (x : Mailbox) (l : List Mailbox) → x.id ≡ i → anyb (λ (y : Mailbox). clash x y) l ≡ false → filterb stays l ≡ l
  others x [] e n = refl
  others x (y ∷ l) e n =
      let a = or_l (eqb x.id y.id) (same (name_of x) (name_of y)) (or_l (clash x y) _ n) in
      let b : eqb y.id i ≡ false = eqb_sym y.id i ∙ (ap (λ (j : ℕ). eqb j y.id) (sym e) ∙ a) in
      rw b (ap (λ (t : List Mailbox). y ∷ t) (others x l e (or_r (clash x y) _ n)))

  pub out : (l : List Mailbox) (k : ℕ) → apart clash l ≡ true → k ≡ place i l → k < length l → filterb stays l ≡ without k l
  unfolding place
  out [] k a p h = absurd (let z : ⊥ = omega arith in z)
  out (x ∷ l) k a p h = go (eqb x.id i) refl (λ z. out l (place i l) (and_r (not (anyb (λ (y : Mailbox). clash x y) l)) (apart clash l) a) refl z)
    where
      go : (b : Bool) → eqb x.id i ≡ b → (place i l < length l → filterb stays l ≡ without (place i l) l) → keep (not (eqb x.id i)) x (filterb stays l) ≡ without k (x ∷ l)
      go true e ih =
          let z : k ≡ 0 = p ∙ rw e in
          let r : keep (not (eqb x.id i)) x (filterb stays l) ≡ without 0 (x ∷ l) = rw e (others x l (eqb-true x.id i e) (not-true _ (and_l (not (anyb (λ (y : Mailbox). clash x y) l)) (apart clash l) a))) in
          r ∙ ap (λ (j : ℕ). without j (x ∷ l)) (sym z)
      go false e ih =
          let z : k ≡ suc (place i l) = p ∙ rw e in
          let r : keep (not (eqb x.id i)) x (filterb stays l) ≡ without (suc (place i l)) (x ∷ l) = rw e (ap (λ (t : List Mailbox). x ∷ t) (ih (omega arith))) in
          r ∙ ap (λ (j : ℕ). without j (x ∷ l)) (sym z)

-- the prefix of what is left is what is left of the prefix
without-take : (i n : ℕ) (l : List Mailbox) → i ≤ n → n < length l → take n (without i l) ≡ without i (take (n + 1) l)
without-take i n l h hl =
    let hi : i ≤ length l = omega arith in
    let hs : suc i ≤ length l = omega arith in
    let hn : i ≤ n + 1 = omega arith in
    let f = length-take-le i l hi in
    let e : n ≡ length (take i l) + (n - i) = omega arith in
    let g : n + 1 ≡ suc i + (n - i) = omega arith in
    ap (λ (k : ℕ). take k (without i l)) e
    ∙ take-append-add (take i l) (drop (suc i) l) (n - i)
    ∙ ap (λ (r : List Mailbox). r ++ take (n - i) (drop (suc i) l)) (sym (take-take i (n + 1) l hn))
    ∙ ap (λ (r : List Mailbox). take i (take (n + 1) l) ++ r)
    (sym (ap (λ (k : ℕ). drop (suc i) (take k l)) g
    ∙ ap (λ (r : List Mailbox). drop (suc i) r) (take-add (suc i) (n - i) l)
    ∙ dropped-at (take (suc i) l) (take (n - i) (drop (suc i) l)) (suc i) (length-take-le (suc i) l hs)))

shut : (t : List Mailbox) (n k u : ℕ) → u ≡ n → k < n → n ≤ length t → refill no_mailbox t u (without k (take n t)) ≡ closed k n t
shut t n k u e h w =
    let l = length-take-le n t w in
    let hk : k < length (take n t) = omega arith in
    let s = length_without k (take n t) hk in
    let a : u - length (without k (take n t)) ≡ 1 = omega arith in
    let b : max u (length (without k (take n t))) ≡ n = omega arith in
    let c : n - 1 + 1 ≡ n = omega arith in
    let d : take (n - 1) (without k t) ≡ without k (take n t) = without-take k (n - 1) t (omega arith) (omega arith) ∙ ap (λ (j : ℕ). without k (take j t)) c in
    rw (a, b) (ap (λ (r : List Mailbox). r ++ (no_mailbox ∷ drop n t)) (sym d))

pub drop_at : (m : Memory) → Law m → (i k : ℕ) → k ≡ place i (boxes m) → k < m.counts.mailboxes → drop_box m i ≡ rows_are m (closed k m.counts.mailboxes m.rows) (m.counts.mailboxes - 1)
drop_at m law i k at h =
    let fit : m.counts.mailboxes ≤ length m.rows = leb-true _ _ law.used in
    let n = boxes_long m fit in
    let hk : k < length (boxes m) = omega arith in
    let f = out i (boxes m) k law.apartness at hk in
    let s = length_without k (boxes m) hk in
    let c : length (without k (boxes m)) ≡ m.counts.mailboxes - 1 = omega arith in
    ap₂ (rows_are m) (ap (refill no_mailbox m.rows (length (boxes m))) f ∙ shut m.rows m.counts.mailboxes k (length (boxes m)) n h fit) (ap length f ∙ c)
