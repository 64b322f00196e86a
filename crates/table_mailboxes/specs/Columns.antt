-- The mailbox table by columns: a field of every row side by side, and the names in one run, 64 octets a row. Assumes nothing.
use Rattle.std.specs.Prelude.{◌≡◌, refl, Bool, true, false, not, List, ◌++◌, ℕ, zero, suc, ◌+◌, ◌*◌, ◌<◌, ◌≤◌, eqb, ltb, length, take, drop, get_or, set, replicate}
use Rattle.std.proofs.Common.{drop-drop, ap, ap₂, sym, ◌∙◌, append_assoc, arith, length-drop, take-append-drop, get_or-set_same, get_or-set_other, length-take-le, take-take, take_at, drop_at, take_all, eqb-true, ltb-true, ltb-false}
use Rattle.std.proofs.lemmas.List.{take-append-le, drop-append-le}
use Rattle.std.proofs.Math.Seq.{paste}
use Rattle.std.proofs.lemmas.Bool.{eqb-false}
use Rattle.model.specs.Memory.{no_mailbox, name_of, counter_of}
use Rattle.model.specs.declared.Mailbox.{Mailbox}

-- a row that is picked, as code notes it beside the rows
abbrev pub noted : ℕ → Bool
noted b = not (eqb b 0)

-- one field of the rows, side by side
abbrev pub Column : (Mailbox → ℕ) → List Mailbox → List ℕ → Type 0
Column f l c = (k : ℕ) → k < length l → get_or c k 0 ≡ f (get_or l k no_mailbox)

-- the 64 octets of row k
abbrev pub block : List ℕ → ℕ → List ℕ
block names k = take 64 (drop (64 * k) names)

-- the names of the rows, one behind the other
abbrev pub Names : List Mailbox → List ℕ → Type 0
Names l names = (k : ℕ) → k < length l → block names k ≡ (get_or l k no_mailbox).name

-- all columns of the rows; a UIDNEXT behind them is 0
pub record Laid (l : List Mailbox) (ids attributes lens validities nexts counters names : List ℕ) : Type 0 where
  pub id : Column (λ (x : Mailbox). x.id) l ids
  pub attribute : Column (λ (x : Mailbox). x.attributes) l attributes
  pub len : Column (λ (x : Mailbox). x.namelen) l lens
  pub validity : Column (λ (x : Mailbox). x.uidvalidity) l validities
  pub next : Column (λ (x : Mailbox). x.uidnext) l nexts
  pub counter : Column counter_of l counters
  pub name : Names l names
  pub rest : (k : ℕ) → length l ≤ k → get_or nexts k 0 ≡ 0

-- the name that the columns have of row k
abbrev pub name_at : List ℕ → List ℕ → ℕ → List ℕ
name_at lens names k = take (get_or lens k 0) (block names k)

pub name_at_lem : (l : List Mailbox) (lens names : List ℕ) (k : ℕ) → Column (λ (x : Mailbox). x.namelen) l lens → Names l names → k < length l → name_at lens names k ≡ name_of (get_or l k no_mailbox)
name_at_lem l lens names k p q h = ap₂ (λ (n : ℕ) (o : List ℕ). take n o) (p k h) (q k h)

-- a clipped length cuts it off
pub name_cut : (lens names : List ℕ) (k m n : ℕ) → k < 64 → length names ≡ 4096 → n ≡ m → m ≤ 64 → ((o : List ℕ) → length o ≡ 64 → take m o ≡ take (get_or lens k 0) o) → take n (drop (64 * k) names) ≡ name_at lens names k
name_cut lens names k m n h l e w f =
    let d = length-drop (64 * k) names in
    let b : length (block names k) ≡ 64 = length-take-le 64 (drop (64 * k) names) (omega arith) in
    rw (e, ← f (block names k) b) (sym (take-take m 64 (drop (64 * k) names) w))

-- the 64 octets of a name are put in its place
pub name_put : (names name : List ℕ) (k n : ℕ) → k < 64 → length names ≡ 4096 → length name ≡ 64 → n ≡ 64 → take (64 * k) names ++ (name ++ drop n (drop (64 * k) names)) ≡ paste names (64 * k) name 64
name_put names name k n h l w e =
    let z : length name ≤ 64 = omega arith in
    rw (e, drop-drop 64 (64 * k) names, take_all 64 name z) (sym (append_assoc (take (64 * k) names) name (drop (64 * k + 64) names)))

-- ---- how they are filled, a row after the other

-- at most, and not equal: below
pub below_other : (k i : ℕ) → k < i + 1 → (k ≡ i → ⊥) → k < i
below_other k i h ne = pick (ltb k i) refl
  where
    pick : (b : Bool) → ltb k i ≡ b → k < i
    pick true t = ltb-true k i t
    pick false t = absurd (ne (let y = ltb-false k i t in omega arith))

-- a fact of every number below i, and of i, is one of every number below i + 1
pub all_below : (P : ℕ → Type 0) (i : ℕ) → ((k : ℕ) → k < i → P k) → P i → (k : ℕ) → k < i + 1 → P k
all_below P i f p k h = go (eqb k i) refl
  where
    go : (b : Bool) → eqb k i ≡ b → P k
    go true q = rw (eqb-true k i q) p
    go false q = f k (below_other k i h (eqb-false k i q))

-- the column of the first i rows
abbrev pub First : (Mailbox → ℕ) → List Mailbox → ℕ → List ℕ → Type 0
First f rows i c = (k : ℕ) → k < i → get_or c k 0 ≡ f (get_or rows k no_mailbox)

module _ (f : Mailbox → ℕ) (rows : List Mailbox) (c : List ℕ) (i v : ℕ) where
  pub column_next : i < length c → v ≡ f (get_or rows i no_mailbox) → First f rows i c → First f rows (i + 1) (set c i v)
  column_next h e p = all_below (λ (k : ℕ). get_or (set c i v) k 0 ≡ f (get_or rows k no_mailbox)) i
      (λ k q. get_or-set_other c i k v 0 (λ z. (let y : ⊥ = omega arith in y)) ∙ p k q)
      (get_or-set_same c i v 0 h ∙ e)

pub rest_next : (c : List ℕ) (i v : ℕ) → ((k : ℕ) → i ≤ k → get_or c k 0 ≡ 0) → (k : ℕ) → i + 1 ≤ k → get_or (set c i v) k 0 ≡ 0
rest_next c i v p k q = rw (get_or-set_other c i k v 0 (λ e. (let z : ⊥ = omega arith in z))) (p k (omega arith))

pub zero_at : (n k : ℕ) → ◌≡◌ {A = ℕ} (get_or (replicate n 0) k 0) 0
zero_at zero k = refl
zero_at (suc n) zero = refl
zero_at (suc n) (suc k) = zero_at n k

-- a block that lies in front
block-front : (a z : List ℕ) (j : ℕ) → 64 * j + 64 ≤ length a → block (a ++ z) j ≡ block a j
block-front a z j h =
    let d = length-drop (64 * j) a in
    rw (drop-append-le (64 * j) a z (omega arith)) (take-append-le 64 (drop (64 * j) a) z (omega arith))

-- the names of the first i rows
abbrev pub FirstNames : List Mailbox → ℕ → List ℕ → Type 0
FirstNames rows i names = (k : ℕ) → k < i → block names k ≡ (get_or rows k no_mailbox).name

-- the name of row i is put to its place: the ones before it stay
module _ (names name : List ℕ) (i : ℕ) (w : length names ≡ 4096) (l : length name ≡ 64) (h : i < 64) where
  kept_here : block (paste names (64 * i) name 64) i ≡ name
  kept_here =
      ap (λ (t : List ℕ). block t i) (append_assoc (take (64 * i) names) (take 64 name) (drop (64 * i + 64) names))
      ∙ (ap (take 64) (drop_at (take (64 * i) names) (take 64 name ++ drop (64 * i + 64) names) (64 * i) (length-take-le (64 * i) names (omega arith)))
      ∙ (take_at (take 64 name) (drop (64 * i + 64) names) 64 (length-take-le 64 name (omega arith))
      ∙ take_all 64 name (omega arith)))

  kept-before : (k : ℕ) → k < i → block (paste names (64 * i) name 64) k ≡ block names k
  kept-before k q =
      let n = length-take-le (64 * i) names (omega arith) in
      ap (λ (t : List ℕ). block t k) (append_assoc (take (64 * i) names) (take 64 name) (drop (64 * i + 64) names))
      ∙ (block-front (take (64 * i) names) (take 64 name ++ drop (64 * i + 64) names) k (omega arith)
      ∙ (sym (block-front (take (64 * i) names) (drop (64 * i) names) k (omega arith))
      ∙ ap (λ (t : List ℕ). block t k) (take-append-drop (64 * i) names)))

  pub names_next : (rows : List Mailbox) → name ≡ (get_or rows i no_mailbox).name → FirstNames rows i names → FirstNames rows (i + 1) (paste names (64 * i) name 64)
  names_next rows e p = all_below (λ (k : ℕ). block (paste names (64 * i) name 64) k ≡ (get_or rows k no_mailbox).name) i
      (λ k q. kept-before k q ∙ p k q)
      (kept_here ∙ e)
