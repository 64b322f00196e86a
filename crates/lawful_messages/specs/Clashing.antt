-- Rows that share an id or a name, by their columns. Assumes nothing.
use Rattle.std.specs.Prelude.{◌≡◌, refl, Bool, true, false, ◌||◌, List, [], ◌∷◌, ◌++◌, ℕ, ◌*◌, ◌<◌, ◌≤◌, eqb, length, drop, get_or, replicate}
use Rattle.std.proofs.Common.{ap, ap₂, sym, ◌∙◌, arith, length-drop, take-append-drop, length-take-le, ne_eqb, eqb-true, leb-true}
use Rattle.model.specs.Laws.{and_l, and_r, each}
use Rattle.model.specs.Lists.{allb, apart, same}
use Rattle.model.specs.Memory.{no_mailbox, name_of}
use Rattle.model.specs.Lawful.{zeros, mailbox_ok, clash}
use Rattle.model.specs.declared.Mailbox.{Mailbox}
use Rattle.demands.specs.Lasting.NameLaws.{same_true}
use Rattle.lawful_digests.specs.Distinct.{Differ, differ-apart}
use Rattle.lawful_quick.specs.Passing.{all_get}
use Rattle.table_mailboxes.specs.Columns.{Column, Names, name_at, name_at_lem, block}
use Rattle.lawful_mailboxes.specs.Fields.{field_tests}

-- the ids and the names of the rows
pub record Called (l : List Mailbox) (ids lens names : List ℕ) : Type 0 where
  pub id : Column (λ (x : Mailbox). x.id) l ids
  pub len : Column (λ (x : Mailbox). x.namelen) l lens
  pub name : Names l names

-- rows j and k clash
abbrev pub clash_at : List ℕ → List ℕ → List ℕ → ℕ → ℕ → Bool
clash_at ids lens names j k = eqb (get_or ids j 0) (get_or ids k 0) || same (name_at lens names j) (name_at lens names k)

pub clash_at_lem : (l : List Mailbox) (ids lens names : List ℕ) → Called l ids lens names → (j k : ℕ) → j < length l → k < length l → clash_at ids lens names j k ≡ clash (get_or l j no_mailbox) (get_or l k no_mailbox)
clash_at_lem l ids lens names w j k h g =
    ap₂ (λ (a b : Bool). a || b)
    (ap₂ eqb (w.id j h) (w.id k g))
    (ap₂ same (name_at_lem l lens names j w.len w.name h) (name_at_lem l lens names k w.len w.name g))

-- ---- rows whose ids differ, and whose octets have digests that do

-- octets behind a name that are zero are known by how many they are
zeros_are : (l : List ℕ) → zeros l ≡ true → l ≡ replicate (length l) 0
zeros_are [] h = refl
zeros_are (x ∷ l) h = let z = eqb-true 0 x (and_l (eqb 0 x) _ h) in let r = zeros_are l (and_r (eqb 0 x) _ h) in cc

-- two rows with one name have the same octets
octets_same : (x y : Mailbox) → length x.name ≡ 64 → length y.name ≡ 64 → mailbox_ok x ≡ true → mailbox_ok y ≡ true → name_of x ≡ name_of y → x.name ≡ y.name
octets_same x y a b h k e =
    let u = each (field_tests x) h in
    let v = each (field_tests y) k in
    let m = leb-true x.namelen 64 u.1.1.1.1.1.0 in
    let n = leb-true y.namelen 64 v.1.1.1.1.1.0 in
    let p = length-take-le x.namelen x.name (omega arith) in
    let q = length-take-le y.namelen y.name (omega arith) in
    let same-long : x.namelen ≡ y.namelen = sym p ∙ (ap length e ∙ q) in
    let c = length-drop x.namelen x.name in
    let d = length-drop y.namelen y.name in
    let many : length (drop x.namelen x.name) ≡ length (drop y.namelen y.name) = omega arith in
    let r = zeros_are (drop x.namelen x.name) u.1.1.1.1.1.1.1.1.0 in
    let s = zeros_are (drop y.namelen y.name) v.1.1.1.1.1.1.1.1.0 in
    sym (take-append-drop x.namelen x.name)
    ∙ (ap₂ (λ (f g : List ℕ). f ++ g) e (r ∙ (ap (λ (i : ℕ). replicate i 0) many ∙ sym s))
    ∙ take-append-drop y.namelen y.name)

module _ (l : List Mailbox) (ids lens names d : List ℕ) (w : Called l ids lens names) (long : length names ≡ 4096) (few : length l ≤ 64) (ok : allb mailbox_ok l ≡ true) where
  octets_long : (k : ℕ) → k < length l → length (get_or l k no_mailbox).name ≡ 64
  octets_long k h = let c = length-drop (64 * k) names in ap length (sym (w.name k h)) ∙ length-take-le 64 (drop (64 * k) names) (omega arith)

  -- any digest does that is a function of the octets
  pub digests-apart : (digest : List ℕ → ℕ) → ((k : ℕ) → k < length l → get_or d k 0 ≡ digest (block names k)) → Differ ids (length l) → Differ d (length l) → apart clash l ≡ true
  digests-apart digest p a b = differ-apart l λ i j g h.
      let x = get_or l i no_mailbox in
      let y = get_or l j no_mailbox in
      let u = w.id i (omega arith) in
      let v = w.id j h in
      rw (ne_eqb x.id y.id (λ z. a j h i g (cc)))
      (unlike (name_of x) (name_of y) (λ z.
      let s = octets_same x y (octets_long i (omega arith)) (octets_long j h) (all_get l i ok (omega arith)) (all_get l j ok h) z in
      b j h i g (p i (omega arith) ∙ (ap digest (w.name i (omega arith) ∙ (s ∙ sym (w.name j h))) ∙ sym (p j h)))))
    where
      unlike : (a b : List ℕ) → (a ≡ b → ⊥) → same a b ≡ false
      unlike a b h = go (same a b) refl
        where
          go : (c : Bool) → same a b ≡ c → c ≡ false
          go true q = absurd (h (same_true a b q))
          go false q = refl
