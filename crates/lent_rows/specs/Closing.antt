-- A row is taken out of a lent table, of which no more rows may be in use than it has. Assumes nothing.
use Rattle.std.specs.Prelude.{◌≡◌, refl, Bool, true, false, List, [], ◌∷◌, ◌++◌, ℕ, zero, suc, ◌+◌, ◌-◌, ◌<◌, ◌≤◌, min, leb, ltb, length, take, drop, set}
use Rattle.std.specs.List.{copy_within}
use Rattle.std.proofs.Common.{ap, ap₂, sym, ◌∙◌, arith, length-append, length-take, length-drop, take_all, drop_of_length-le, leb-true, leb-false, ltb-true, ltb-false}
use Rattle.model.specs.Memory.{no_mailbox}
use Rattle.model.specs.declared.Mailbox.{Mailbox}
use Rattle.laws.specs.Shift.{without, length_without}
use Rattle.table_mailboxes.specs.Shift.{closed, copied_down, shift_end}

-- the first j are left, whichever is taken out behind them
front_left : (j k : ℕ) (l : List Mailbox) → j ≤ k → take j (without k l) ≡ take j l
front_left zero k l h = refl
front_left (suc j) zero l h = absurd (let z : ⊥ = omega arith in z)
front_left (suc j) (suc k) [] h = refl
front_left (suc j) (suc k) (x ∷ l) h = ap (λ (r : List Mailbox). x ∷ r) (front_left j k l (omega arith))

-- so past the last row in use any place is as good as its own
past : (k n : ℕ) (l : List Mailbox) → closed (min k (n - 1)) n l ≡ closed k n l
past k n l = go (leb k (n - 1)) refl
  where
    go : (b : Bool) → leb k (n - 1) ≡ b → closed (min k (n - 1)) n l ≡ closed k n l
    go true e = let h = leb-true k (n - 1) e in let w : min k (n - 1) ≡ k = omega arith in ap (λ (j : ℕ). closed j n l) w
    go false e =
        let h = leb-false k (n - 1) e in
        let w : min k (n - 1) ≡ n - 1 = omega arith in
        ap (λ (j : ℕ). closed j n l) w
        ∙ ap (λ (r : List Mailbox). r ++ (no_mailbox ∷ drop n l)) (front_left (n - 1) (n - 1) l (omega arith) ∙ sym (front_left (n - 1) k l (omega arith)))

module _ (k used : ℕ) (l : List Mailbox) (fits : length (closed k used l) ≤ length l) where
  long : min (used - 1) (length (without k l)) + 1 + (length l - used) ≤ length l
  long = let a = length-append (take (used - 1) (without k l)) (no_mailbox ∷ drop used l) in let b = length-take (used - 1) (without k l) in let c = length-drop used l in let d = fits in omega arith

  -- where more are in use than there are, the row is one of those that there are
  used_lem : closed k (min used (length l)) l ≡ closed k used l
  used_lem = go (leb used (length l)) refl (ltb k (length l)) refl
    where
      go : (b : Bool) → leb used (length l) ≡ b → (c : Bool) → ltb k (length l) ≡ c → closed k (min used (length l)) l ≡ closed k used l
      go true e c f = let h = leb-true used (length l) e in let w : min used (length l) ≡ used = omega arith in ap (λ (n : ℕ). closed k n l) w
      go false e true f =
          let h = leb-false used (length l) e in
          let i = ltb-true k (length l) f in
          let n = length_without k l i in
          let w : min used (length l) ≡ length l = omega arith in
          ap (λ (n : ℕ). closed k n l) w
          ∙ ap₂ (λ (a b : List Mailbox). a ++ (no_mailbox ∷ b)) (take_all (length l - 1) (without k l) (omega arith) ∙ sym (take_all (used - 1) (without k l) (omega arith)))
          (drop_of_length-le l {i = length l} (omega arith) ∙ sym (drop_of_length-le l {i = used} (omega arith)))
      go false e false f =
          let h = leb-false used (length l) e in
          let i = ltb-false k (length l) f in
          let n : length (without k l) ≡ length l = ap length (ap₂ (λ (a b : List Mailbox). a ++ b) (take_all k l i) (drop_of_length-le l {i = suc k} (omega arith))) ∙ (length-append l [] ∙ omega arith) in
          let g = long in
          absurd (let z : ⊥ = omega arith in z)

  pub taken_out : (n : ℕ) → n ≡ min used (length l) → 0 < n → set (copy_within l (min k (n - 1) + 1) n (min k (n - 1))) (n - 1) no_mailbox ≡ closed k used l
  taken_out n e h =
      ap (λ (r : List Mailbox). set r (n - 1) no_mailbox) (copied_down (min k (n - 1)) n l (omega arith) (omega arith))
      ∙ (shift_end (min k (n - 1)) n (n - 1) l (omega arith) (omega arith) (omega arith)
      ∙ (past k n l
      ∙ (ap (λ (j : ℕ). closed k j l) e
      ∙ used_lem)))
