-- What a cell says of the set, the test or the key that is coded there. Assumes nothing.
use Rattle.std.specs.Prelude.{◌≡◌, Bool, true, false, cond, ◌&&◌, ◌||◌, ℕ, zero, suc, ◌+◌, ◌-◌, ◌*◌, ◌/◌, ◌%◌, ◌^◌, ◌≤◌, ◌<◌, min, max, eqb, leb, ltb, get_or}
use Rattle.std.proofs.Math.Path.{refl, ap, sym}
use Rattle.std.proofs.Common.{ap₂, subst, ◌∙◌, add-one, div-one, eq-eqb, ne_eqb, le-ltb, ltb-false, length-drop, take, drop-cons, drop-drop}
use Rattle.std.proofs.Math.Bool.{not}
use mathlib.Core.Bool.{beq}
use mathlib.Core.List.{List, [], ◌∷◌, ◌++◌, append_assoc, append-nil}
use native.Mathlib.Omega.{arith}
use Rattle.std.proofs.Math.Nat.{div-div-eq-div-mul, pow-succ', pow-le-pow_right}
use Rattle.std.proofs.lemmas.Bool.{lt-leb, not-true, not-false}
use Rattle.std.proofs.Math.ListN.{length, drop, length-append}
use Rattle.std.proofs.Math.Seq.{take-append_seam, drop-append_seam}
use Rattle.std.proofs.lemmas.List.{take_all, get_or-drop}
use Rattle.model.specs.Text.{bit}
use Rattle.model.specs.Requests.{Bound, number, star, Part, Test, all, unsupported, flagged, larger, smaller, uids, numbers, Key, test, non, either, group, Keys, end, more}
use Rattle.model.specs.Searching.{Candidate, agrees, bound_of, in_part, in_set, passes, holds, holds_all}
use Rattle.read_tests.specs.Table.{bound_number, part_cells, flag_number, test_code}
use Rattle.read_keys.specs.Table.{code, codes}
use Rattle.match_keys.specs.Tests.{candidate, facts_of, ProperBound, ProperParts, Proper, Propers, bound_by, part_holds, set_by, Counted, counted_width, simple_of, width_of, holds_some, folded, TestsSet, TestsTest, TestsKey, TestsKeysOn, TestsAll, Behind, Answers}
use Rattle.match_keys.specs.declared.Probe.{Probe}
use Rattle.match_keys.specs.declared.Facts.{Facts}
use Rattle.match_keys.specs.declared.Outcome.{Outcome}

-- ---- cells
module _ (cells : List ℕ) (at : ℕ) where
  one_at : (x : ℕ) (ys : List ℕ) → drop at cells ≡ x ∷ ys → (get_or cells at 0 ≡ x) × (drop (at + 1) cells ≡ ys)
  one_at x ys e =
      let i : at < length cells = omega (arith, ap length e, length-drop at cells) in
      let d : get_or cells at 0 ∷ drop (suc at) cells ≡ x ∷ ys = sym (drop-cons cells at 0 i) ∙ e in
      ((cc), rw (add-one at) (cc))

-- past what is coded there
past : (cells : List ℕ) (at : ℕ) (xs ys : List ℕ) → drop at cells ≡ xs ++ ys → drop (at + length xs) cells ≡ ys
past cells at xs ys e = sym (drop-drop (length xs) at cells) ∙ ap (drop (length xs)) e ∙ drop-append_seam xs ys

module _ (cells : List ℕ) (at : ℕ) (x y : ℕ) (ys : List ℕ) (e : drop at cells ≡ x ∷ y ∷ ys) where
  first : get_or cells at 0 ≡ x
  first = (one_at cells at x (y ∷ ys) e).0

  second : get_or cells (at + 1) 0 ≡ y
  second = (one_at cells (at + 1) y ys (one_at cells at x (y ∷ ys) e).1).0

  others : drop (at + 2) cells ≡ ys
  others = let z : at + 2 ≡ at + 1 + 1 = omega arith in ap (λ (k : ℕ). drop k cells) z ∙ (one_at cells (at + 1) y ys (one_at cells at x (y ∷ ys) e).1).1

-- ---- sets
bound_same : (last : ℕ) (b : Bound) → ProperBound b → bound_by last (bound_number b) ≡ bound_of last b
bound_same last (number n) h = ap (λ (t : Bool). cond t last n) (ne_eqb n 0 (λ z. (let y : ⊥ = omega arith in y)))
bound_same last star h = refl

part_same : (last n : ℕ) (p : Part) → ProperBound p.from → ProperBound p.upto → part_holds (bound_number p.from) (bound_number p.upto) last n ≡ in_part last n p
part_same last n p h k = ap₂ (λ (a b : ℕ). leb (min a b) n && leb n (max a b)) (bound_same last p.from h) (bound_same last p.upto k)

-- the first part of those that are left, and the others
module _ (last n : ℕ) where
  set_open : (l : List ℕ) → 2 ≤ length l → set_by last n l ≡ (part_holds (get_or l 0 0) (get_or l 1 0) last n || set_by last n (take (length l - 2) (drop 2 l)))
  unfolding set_by
  set_open [] h = absurd (let z : ⊥ = omega arith in z)
  set_open (a ∷ []) h = absurd (let z : ⊥ = omega arith in z)
  set_open (a ∷ b ∷ l) h = ap (λ (x : List ℕ). part_holds a b last n || set_by last n x) (sym (take_all (length (a ∷ b ∷ l) - 2) l (omega arith)))

  module _ (l : List ℕ) (h : 2 ≤ length l) (b : Bool) (q : b ≡ part_holds (get_or l 0 0) (get_or l 1 0) last n) where
    pub set_hit : b ≡ true → true ≡ set_by last n l
    set_hit t = sym (set_open l h ∙ ap (λ (x : Bool). x || set_by last n (take (length l - 2) (drop 2 l))) (sym q ∙ t))

    pub set_next : b ≡ false → set_by last n l ≡ set_by last n (take (length l - 2) (drop 2 l))
    set_next t = set_open l h ∙ ap (λ (x : Bool). x || set_by last n (take (length l - 2) (drop 2 l))) (sym q ∙ t)

  pub set_end : (l : List ℕ) → length l < 2 → false ≡ set_by last n l
  unfolding set_by
  set_end [] h = refl
  set_end (a ∷ []) h = refl
  set_end (a ∷ b ∷ l) h = absurd (let z : ⊥ = omega arith in z)

  -- the cells of a set
  set_is : (ps : List Part) → ProperParts ps → set_by last n (part_cells ps) ≡ in_set last n ps
  unfolding set_by
  set_is [] g = refl
  set_is (p ∷ ps) g = ap₂ (λ (x y : Bool). x || y) (part_same last n p g.0.0 g.0.1) (set_is ps g.1)

  pub tests_set : (cells : List ℕ) (at stop : ℕ) (r : Bool) → r ≡ set_by last n (take (stop - at) (drop at cells)) → TestsSet cells at stop last n r
  tests_set cells at stop r q ps rest e f g =
      let k : stop - at ≡ length (part_cells ps) = omega arith in
      q ∙ ap (λ (x : ℕ). set_by last n (take x (drop at cells))) k
      ∙ ap (λ (x : List ℕ). set_by last n (take (length (part_cells ps)) x)) e
      ∙ ap (set_by last n) (take-append_seam (part_cells ps) rest)
      ∙ set_is ps g

-- the part from a place on, and the parts behind it
module _ (last n : ℕ) (l : List ℕ) (k : ℕ) (h : k + 2 ≤ length l) (b : Bool) (q : b ≡ part_holds (get_or l k 0) (get_or l (k + 1) 0) last n) where
  part_long : 2 ≤ length (drop k l)
  part_long = let c = length-drop k l in omega arith

  part_first : b ≡ part_holds (get_or (drop k l) 0 0) (get_or (drop k l) 1 0) last n
  part_first = q ∙ sym (ap₂ (λ (x y : ℕ). part_holds x y last n) (get_or-drop k l 0 0 ∙ ap (λ (j : ℕ). get_or l j 0) (omega arith)) (get_or-drop k l 1 0))

  pub hit_at : b ≡ true → true ≡ set_by last n (drop k l)
  hit_at t = set_hit last n (drop k l) part_long b part_first t

  pub next_at : b ≡ false → set_by last n (drop k l) ≡ set_by last n (drop (k + 2) l)
  next_at t =
      let c = length-drop k l in
      let d = length-drop 2 (drop k l) in
      set_next last n (drop k l) part_long b part_first t ∙ ap (set_by last n) (take_all (length (drop k l) - 2) (drop 2 (drop k l)) (omega arith) ∙ drop-drop 2 k l)

-- ---- tests
-- what holds is as it is asked for
pub as_asked : (on b : Bool) → beq on b ≡ agrees on b
as_asked true true = refl
as_asked true false = refl
as_asked false true = refl
as_asked false false = refl

-- the other of what is asked for
pub other : (on b : Bool) → not (beq on b) ≡ agrees on (not b)
other true true = refl
other true false = refl
other false true = refl
other false false = refl

pub bit_shifted : (k n : ℕ) → eqb (n / 2 ^ k % 2) 1 ≡ bit k n
bit_shifted zero n = ap (λ (m : ℕ). eqb (m % 2) 1) (div-one n)
bit_shifted (suc k) n = ap (λ (m : ℕ). eqb (m % 2) 1) (ap (λ (d : ℕ). n / d) (pow-succ' 2 k) ∙ sym (div-div-eq-div-mul n 2 (2 ^ k))) ∙ bit_shifted k (n / 2)

bit_past : (k n : ℕ) → n < 2 ^ k → false ≡ bit k n
bit_past zero n h = ap (λ (m : ℕ). eqb (m % 2) 1) (let z : 0 ≡ n = omega arith in z)
bit_past (suc k) n h = bit_past k (n / 2) (let z = pow-succ' 2 k in omega arith)

pub bit_none : (k n : ℕ) → 63 < k → n < 2 ^ 64 → false ≡ bit k n
bit_none k n h f = bit_past k n (let z : 2 ^ 64 ≤ 2 ^ k = pow-le-pow_right {n = 2} (omega arith) {i = 64} {j = k} (omega arith) in omega arith)

module _ (cells : List ℕ) (at stop : ℕ) (p : Probe) (kind : ℕ) (q : kind ≡ get_or cells at 0) where
  head : (x : ℕ) (ys : List ℕ) → drop at cells ≡ x ∷ ys → kind ≡ x
  head x ys e = q ∙ (one_at cells at x ys e).0

  module _ (r : Bool) where
    pub test_uids : kind ≡ 5 → TestsSet cells (at + 2) stop p.lastuid.0 p.message.uid.0 r → TestsTest cells at stop p r
    test_uids h s all rest e f g = let z = head 1 rest e in absurd (omega arith)
    test_uids h s unsupported rest e f g = let z = head 7 rest e in absurd (omega arith)
    test_uids h s (flagged k on) rest e f g = let z = head 2 (k ∷ flag_number on ∷ rest) e in absurd (omega arith)
    test_uids h s (larger n) rest e f g = let z = head 3 (n ∷ rest) e in absurd (omega arith)
    test_uids h s (smaller n) rest e f g = let z = head 4 (n ∷ rest) e in absurd (omega arith)
    test_uids h s (uids ps) rest e f g = s ps rest (others cells at 5 (length ps) (part_cells ps ++ rest) e) (omega arith) g
    test_uids h s (numbers ps) rest e f g = let z = head 6 (length ps ∷ (part_cells ps ++ rest)) e in absurd (omega arith)

    pub test_numbers : kind ≡ 6 → TestsSet cells (at + 2) stop p.lastnumber.0 p.number.0 r → TestsTest cells at stop p r
    test_numbers h s all rest e f g = let z = head 1 rest e in absurd (omega arith)
    test_numbers h s unsupported rest e f g = let z = head 7 rest e in absurd (omega arith)
    test_numbers h s (flagged k on) rest e f g = let z = head 2 (k ∷ flag_number on ∷ rest) e in absurd (omega arith)
    test_numbers h s (larger n) rest e f g = let z = head 3 (n ∷ rest) e in absurd (omega arith)
    test_numbers h s (smaller n) rest e f g = let z = head 4 (n ∷ rest) e in absurd (omega arith)
    test_numbers h s (uids ps) rest e f g = let z = head 5 (length ps ∷ (part_cells ps ++ rest)) e in absurd (omega arith)
    test_numbers h s (numbers ps) rest e f g = s ps rest (others cells at 6 (length ps) (part_cells ps ++ rest) e) (omega arith) g

    module _ (x y : ℕ) (a : x ≡ get_or cells (at + 1) 0) (b : y ≡ get_or cells (at + 2) 0) (s : r ≡ simple_of kind x y p.message.flags p.message.size) where
      by : (k : ℕ) → kind ≡ k → r ≡ simple_of k x y p.message.flags p.message.size
      by k h = s ∙ ap (λ (k : ℕ). simple_of k x y p.message.flags p.message.size) h

      flag : (k : ℕ) (on : Bool) (rest : List ℕ) → drop at cells ≡ 2 ∷ k ∷ flag_number on ∷ rest → r ≡ passes (flagged k on) (candidate p)
      flag k on rest e =
          let u = a ∙ second cells at 2 k (flag_number on ∷ rest) e in
          let v = b ∙ (one_at cells (at + 2) (flag_number on) rest (others cells at 2 k (flag_number on ∷ rest) e)).0 in
          by 2 (head 2 (k ∷ flag_number on ∷ rest) e) ∙ (ap₂ (λ (x y : ℕ). simple_of 2 x y p.message.flags p.message.size) u v ∙ said on)
        where
          said : (on : Bool) → simple_of 2 k (flag_number on) p.message.flags p.message.size ≡ passes (flagged k on) (candidate p)
          said true = refl
          said false = refl

      pub test_simple : (kind ≡ 5 → ⊥) → (kind ≡ 6 → ⊥) → TestsTest cells at stop p r
      test_simple h k all rest e f g = by 1 (head 1 rest e)
      test_simple h k unsupported rest e f g = by 7 (head 7 rest e)
      test_simple h k (flagged j on) rest e f g = flag j on rest e
      test_simple h k (larger n) rest e f g = by 3 (head 3 (n ∷ rest) e) ∙ ap (λ (x : ℕ). ltb x p.message.size) (a ∙ second cells at 3 n rest e)
      test_simple h k (smaller n) rest e f g = by 4 (head 4 (n ∷ rest) e) ∙ ap (λ (x : ℕ). ltb p.message.size x) (a ∙ second cells at 4 n rest e)
      test_simple h k (uids ps) rest e f g = absurd (h (head 5 (length ps ∷ (part_cells ps ++ rest)) e))
      test_simple h k (numbers ps) rest e f g = absurd (k (head 6 (length ps ∷ (part_cells ps ++ rest)) e))

-- ---- how long a key is
parts-length : (ps : List Part) → length (part_cells ps) ≡ 2 * length ps
parts-length [] = refl
parts-length (p ∷ ps) = let h = parts-length ps in omega arith

code_some : (k : Key) → 1 ≤ length (code k)
unfolding code
code_some (test all) = omega arith
code_some (test unsupported) = omega arith
code_some (test (flagged k on)) = omega arith
code_some (test (larger n)) = omega arith
code_some (test (smaller n)) = omega arith
code_some (test (uids ps)) = omega arith
code_some (test (numbers ps)) = omega arith
code_some (non k) = omega arith
code_some (either a b) = omega arith
code_some (group ks) = omega arith

module _ (cells : List ℕ) (at stop kind x left : ℕ) (q : kind ≡ get_or cells at 0) (u : x ≡ get_or cells (at + 1) 0) (l : left ≡ stop - at) (m : at < stop) where
  short : (k : ℕ) (ys : List ℕ) → drop at cells ≡ k ∷ ys → width_of kind x left ≡ width_of k x left
  short k ys e = ap (λ (k : ℕ). width_of k x left) (q ∙ (one_at cells at k ys e).0)

  set-width : (k y : ℕ) (ys : List ℕ) (w : ℕ) → drop at cells ≡ k ∷ y ∷ ys → cond (leb left y) left w ≡ width_of k y left → y < left → width_of kind x left ≡ w
  set-width k y ys w e c h = short k (y ∷ ys) e ∙ (ap (λ (x : ℕ). width_of k x left) (u ∙ second cells at k y ys e) ∙ (sym c ∙ ap (λ (t : Bool). cond t left w) (lt-leb left y h)))

  pub width_is : (k : Key) (rest : List ℕ) → drop at cells ≡ code k ++ rest → at + length (code k) ≤ stop → width_of kind x left ≡ length (code k)
  unfolding code
  width_is (test all) rest e h = short 1 rest e
  width_is (test unsupported) rest e h = short 7 rest e
  width_is (test (flagged k on)) rest e h = short 2 (k ∷ flag_number on ∷ rest) e
  width_is (test (larger n)) rest e h = short 3 (n ∷ rest) e
  width_is (test (smaller n)) rest e h = short 4 (n ∷ rest) e
  width_is (test (uids ps)) rest e h = let z = parts-length ps in set-width 5 (length ps) (part_cells ps ++ rest) (2 + 2 * length ps) e refl (omega arith) ∙ omega arith
  width_is (test (numbers ps)) rest e h = let z = parts-length ps in set-width 6 (length ps) (part_cells ps ++ rest) (2 + 2 * length ps) e refl (omega arith) ∙ omega arith
  width_is (non k) rest e h = set-width 8 (length (code k)) (code k ++ rest) (2 + length (code k)) e refl (omega arith) ∙ omega arith
  width_is (either a b) rest e h = set-width 9 (length (code a ++ code b)) ((code a ++ code b) ++ rest) (2 + length (code a ++ code b)) e refl (omega arith) ∙ omega arith
  width_is (group ks) rest e h = set-width 10 (length (codes ks)) (codes ks ++ rest) (2 + length (codes ks)) e refl (omega arith) ∙ omega arith

  counted : Counted kind → counted_width kind x left ≡ width_of kind x left
  counted h =
      let a = h.0 in
      let e : kind ≡ 2 → ⊥ = λ z. (let c : ⊥ = omega arith in c) in
      let f : kind ≡ 3 → ⊥ = λ z. (let c : ⊥ = omega arith in c) in
      let g : kind ≡ 4 → ⊥ = λ z. (let c : ⊥ = omega arith in c) in
      simp (ne_eqb kind 2 e, ne_eqb kind 3 f, ne_eqb kind 4 g, le-ltb kind 5 (omega arith), ne_eqb kind 7 h.1)

  module _ (w : ℕ) (v : Counted (get_or cells at 0)) (t : w ≡ counted_width kind x left) (some : 1 ≤ w) where
    s : w ≡ width_of kind x left
    s = t ∙ counted (subst Counted (sym q) v)

    pub behind_all : left ≤ w → Behind cells at stop stop
    behind_all h = record { after = m; inside = omega arith; exact = λ k rest e f. let z = s ∙ width_is k rest e f in omega arith }

    pub behind-part : w < left → Behind cells at stop (at + w)
    behind-part h = record { after = omega arith; inside = omega arith; exact = λ k rest e f. let z = s ∙ width_is k rest e f in omega arith }

-- ---- keys
and-true : (b : Bool) → b && true ≡ b
and-true true = refl
and-true false = refl

or-false : (b : Bool) → b || false ≡ b
or-false true = refl
or-false false = refl

-- the first key that decides is the answer, whatever stands behind it
decided : (any h : Bool) (k : Key) (ks : Keys) (c : Candidate) → h ≡ holds k c → agrees any h ≡ true → any ≡ folded any (more k ks) c
unfolding holds holds_some
decided true h k ks c v t = ap (λ (x : Bool). x || holds_some ks c) (sym t ∙ v)
decided false h k ks c v t = ap (λ (x : Bool). x && holds_all ks c) (sym (not-true h t) ∙ v)

-- one that does not decide says nothing of the others
passed : (any h : Bool) (k : Key) (ks : Keys) (c : Candidate) → h ≡ holds k c → agrees any h ≡ false → folded any (more k ks) c ≡ folded any ks c
unfolding holds holds_some
passed true h k ks c v t = ap (λ (x : Bool). x || holds_some ks c) (sym v ∙ t)
passed false h k ks c v t = ap (λ (x : Bool). x && holds_all ks c) (sym v ∙ not-false h t)

none : (any : Bool) (c : Candidate) → not any ≡ folded any end c
unfolding holds holds_some
none true c = refl
none false c = refl

single : (any : Bool) (k : Key) (c : Candidate) → folded any (more k end) c ≡ holds k c
unfolding holds holds_some
single true k c = or-false (holds k c)
single false k c = and-true (holds k c)

turned : (on b x : Bool) → agrees on (agrees b x) ≡ agrees (agrees b on) x
turned true true x = refl
turned true false x = refl
turned false true x = refl
turned false false true = refl
turned false false false = refl

-- the keys that a key holds
pub record Inner (cells : List ℕ) (at kind : ℕ) (k : Key) (rest : List ℕ) : Type 0 where
  pub keys : Keys
  pub is : drop (at + 2) cells ≡ codes keys ++ rest
  pub size : length (code k) ≡ 2 + length (codes keys)
  pub proper : Propers keys
  pub same : (c : Candidate) → holds k c ≡ agrees (not (eqb kind 8)) (folded (eqb kind 9) keys c)

module _ (cells : List ℕ) (at kind : ℕ) (q : kind ≡ get_or cells at 0) where
  is_kind : (x : ℕ) (ys : List ℕ) → drop at cells ≡ x ∷ ys → kind ≡ x
  is_kind x ys e = q ∙ (one_at cells at x ys e).0

  low : (t : Test) (rest : List ℕ) → drop at cells ≡ test_code t ++ rest → kind < 8
  low all rest e = let z = is_kind 1 rest e in omega arith
  low unsupported rest e = let z = is_kind 7 rest e in omega arith
  low (flagged k on) rest e = let z = is_kind 2 (k ∷ flag_number on ∷ rest) e in omega arith
  low (larger n) rest e = let z = is_kind 3 (n ∷ rest) e in omega arith
  low (smaller n) rest e = let z = is_kind 4 (n ∷ rest) e in omega arith
  low (uids ps) rest e = let z = is_kind 5 (length ps ∷ (part_cells ps ++ rest)) e in omega arith
  low (numbers ps) rest e = let z = is_kind 6 (length ps ∷ (part_cells ps ++ rest)) e in omega arith

  inner : 8 ≤ kind → (k : Key) (rest : List ℕ) → drop at cells ≡ code k ++ rest → Proper k → Inner cells at kind k rest
  unfolding code holds holds_some Proper
  inner h (test u) rest e g = let z = low u rest e in absurd (omega arith)
  inner h (non k) rest e g =
      let z = is_kind 8 (length (code k) ∷ (code k ++ rest)) e in
      let n = append-nil (code k) in
      record {
        keys = more k end;
        is = others cells at 8 (length (code k)) (code k ++ rest) e ∙ ap (λ (l : List ℕ). l ++ rest) (sym n);
        size = let l = ap length n in omega arith;
        proper = (g, tt);
        same = λ c. ap not (sym (and-true (holds k c))) ∙ sym (ap (λ (x : ℕ). agrees (not (eqb x 8)) (folded (eqb x 9) (more k end) c)) z);
      }
  inner h (either a b) rest e g =
      let z = is_kind 9 (length (code a ++ code b) ∷ ((code a ++ code b) ++ rest)) e in
      let n = ap (λ (l : List ℕ). code a ++ l) (append-nil (code b)) in
      record {
        keys = more a (more b end);
        is = others cells at 9 (length (code a ++ code b)) ((code a ++ code b) ++ rest) e ∙ ap (λ (l : List ℕ). l ++ rest) (sym n);
        size = let l = ap length n in omega arith;
        proper = (g.0, (g.1, tt));
        same = λ c. ap (λ (x : Bool). holds a c || x) (sym (or-false (holds b c))) ∙ sym (ap (λ (x : ℕ). agrees (not (eqb x 8)) (folded (eqb x 9) (more a (more b end)) c)) z);
      }
  inner h (group ks) rest e g =
      let z = is_kind 10 (length (codes ks) ∷ (codes ks ++ rest)) e in
      record {
        keys = ks;
        is = others cells at 10 (length (codes ks)) (codes ks ++ rest) e;
        size = omega arith;
        proper = g;
        same = λ c. sym (ap (λ (x : ℕ). agrees (not (eqb x 8)) (folded (eqb x 9) ks c)) z);
      }

  module _ (stop : ℕ) (facts : Facts) (o : Outcome) where
    module _ (h : kind < 8) where
      pub key-test : (p : Probe) → TestsTest cells at o.after p o.holds → TestsKey cells at o.after p o.holds
      unfolding code holds Proper
      key-test p t (test u) rest e f g = t u rest e f g
      key-test p t (non k) rest e f g = let z = is_kind 8 (length (code k) ∷ (code k ++ rest)) e in absurd (omega arith)
      key-test p t (either a b) rest e f g = let z = is_kind 9 (length (code a ++ code b) ∷ ((code a ++ code b) ++ rest)) e in absurd (omega arith)
      key-test p t (group ks) rest e f g = let z = is_kind 10 (length (codes ks) ∷ (codes ks ++ rest)) e in absurd (omega arith)

      pub answers_uids : kind ≡ 5 → Behind cells at stop o.after → TestsSet cells (at + 2) o.after facts.lastuid.0 facts.uid.0 o.holds → Answers cells at stop facts o
      answers_uids d b s =
          record {
            after = b.after;
            exact = b.exact;
            tests = λ p w. key-test p (test_uids cells at o.after p kind q o.holds d (subst (λ (f : Facts). TestsSet cells (at + 2) o.after f.lastuid.0 f.uid.0 o.holds) w s));
          }

      pub answers_numbers : kind ≡ 6 → Behind cells at stop o.after → TestsSet cells (at + 2) o.after facts.lastnumber.0 facts.number.0 o.holds → Answers cells at stop facts o
      answers_numbers d b s =
          record {
            after = b.after;
            exact = b.exact;
            tests = λ p w. key-test p (test_numbers cells at o.after p kind q o.holds d (subst (λ (f : Facts). TestsSet cells (at + 2) o.after f.lastnumber.0 f.number.0 o.holds) w s));
          }

      module _ (m : at < stop) (x y : ℕ) (u : x ≡ get_or cells (at + 1) 0) (v : y ≡ get_or cells (at + 2) 0) where
        simple : (kind ≡ 5 → ⊥) → (kind ≡ 6 → ⊥) → o.after ≡ at + width_of kind x (stop - at) → at < o.after → o.holds ≡ simple_of kind x y facts.flags facts.size → Answers cells at stop facts o
        simple i j n a s =
            record {
              after = a;
              exact = λ k rest e f. let z = width_is cells at stop kind x (stop - at) q u refl m k rest e f in omega arith;
              tests = λ p w. key-test p (test_simple cells at o.after p kind q o.holds x y u v (s ∙ ap (λ (f : Facts). simple_of kind x y f.flags f.size) w) i j);
            }

        pub answers_kind : (k : ℕ) → kind ≡ k → k < 5 → o.after ≡ at + width_of k x (stop - at) → at < o.after → o.holds ≡ simple_of k x y facts.flags facts.size → Answers cells at stop facts o
        answers_kind k d i n a s =
            simple (λ z. (let c : ⊥ = omega arith in c)) (λ z. (let c : ⊥ = omega arith in c))
            (n ∙ ap (λ (k : ℕ). at + width_of k x (stop - at)) (sym d)) a
            (s ∙ ap (λ (k : ℕ). simple_of k x y facts.flags facts.size) (sym d))

        pub answers_bare : (kind ≡ 5 → ⊥) → (kind ≡ 6 → ⊥) → (kind ≡ 2 → ⊥) → (kind ≡ 3 → ⊥) → (kind ≡ 4 → ⊥) → o.after ≡ at + 1 → o.holds ≡ eqb kind 1 → Answers cells at stop facts o
        answers_bare i j a b d n s = simple i j (n ∙ ap (λ (w : ℕ). at + w) (simp (ne_eqb kind 2 a, ne_eqb kind 3 b, ne_eqb kind 4 d) (wide (ltb kind 5) refl))) (omega arith) (s ∙ simp (ne_eqb kind 2 a, ne_eqb kind 3 b, ne_eqb kind 4 d) (said (eqb kind 1)))
          where
            wide : (t : Bool) → ltb kind 5 ≡ t → 1 ≡ cond t 1 (cond (eqb kind 7) 1 (counted_width kind x (stop - at)))
            wide true t = refl
            wide false t = sym (ap (λ (c : Bool). cond c 1 (counted_width kind x (stop - at))) (eq-eqb kind 7 (let l = ltb-false kind 5 t in omega arith)))

            said : (t : Bool) → t ≡ cond t true false
            said true = refl
            said false = refl

    pub answers_nest : 8 ≤ kind → Behind cells at stop o.after → (r : Bool) → TestsKeysOn cells (at + 2) o.after (eqb kind 9) facts r → o.holds ≡ agrees (not (eqb kind 8)) r → Answers cells at stop facts o
    answers_nest h b r t s =
        record {
          after = b.after;
          exact = b.exact;
          tests = λ p w k rest e f g. let x = inner h k rest e g in s ∙ (ap (agrees (not (eqb kind 8))) (t p w x.keys rest x.is (let z = x.size in omega arith) x.proper) ∙ sym (x.same (candidate p)));
        }

-- the keys that are left, from cell i on: the whole is what they come to, or, where `on` is false, the other
pub record Left (cells : List ℕ) (i stop : ℕ) (any on : Bool) (p : Probe) (whole : Bool) : Type 0 where
  pub keys : Keys
  pub rest : List ℕ
  pub is : drop i cells ≡ codes keys ++ rest
  pub stops : stop ≡ i + length (codes keys)
  pub proper : Propers keys
  pub same : whole ≡ agrees on (folded any keys (candidate p))

abbrev pub Going : List ℕ → ℕ → ℕ → Bool → Facts → ℕ → Bool → Bool → Type 0
Going cells at stop first facts i any on = (p : Probe) → facts ≡ facts_of p → (ks : Keys) (rest : List ℕ) → drop at cells ≡ codes ks ++ rest → stop ≡ at + length (codes ks) → Propers ks → Left cells i stop any on p (folded first ks (candidate p))

module _ (cells : List ℕ) (at stop : ℕ) (first : Bool) (facts : Facts) where
  pub going_start : Going cells at stop first facts at first true
  going_start p w ks rest e f g = record { keys = ks; rest = rest; is = e; stops = f; proper = g; same = refl }

  module _ (i : ℕ) (any on : Bool) (go : Going cells at stop first facts i any on) where
    module _ (h : i < stop) where
      module _ (o : Outcome) (b : Answers cells i stop facts o) where
        settled : agrees any o.holds ≡ true → (p : Probe) → facts ≡ facts_of p → (whole : Bool) (ks : Keys) (rest : List ℕ) → drop i cells ≡ codes ks ++ rest → stop ≡ i + length (codes ks) → Propers ks → whole ≡ agrees on (folded any ks (candidate p)) → agrees on any ≡ whole
        unfolding code Proper
        settled t p w whole end rest e f g s = absurd (let z : ⊥ = omega arith in z)
        settled t p w whole (more k ks) rest e f g s =
            let d : drop i cells ≡ code k ++ (codes ks ++ rest) = e ∙ append_assoc (code k) (codes ks) rest in
            let l = length-append (code k) (codes ks) in
            let n : o.after ≡ i + length (code k) = b.exact k (codes ks ++ rest) d (omega arith) in
            ap (agrees on) (decided any o.holds k ks (candidate p) (b.tests p w k (codes ks ++ rest) d n g.0) t) ∙ sym s

        pub going_decided : agrees any o.holds ≡ true → (r : Bool) → r ≡ agrees on any → TestsKeysOn cells at stop first facts r
        going_decided t r v p w ks rest e f g = let l = go p w ks rest e f g in v ∙ settled t p w (folded first ks (candidate p)) l.keys l.rest l.is l.stops l.proper l.same

        unsettled : agrees any o.holds ≡ false → (p : Probe) → facts ≡ facts_of p → (whole : Bool) (ks : Keys) (rest : List ℕ) → drop i cells ≡ codes ks ++ rest → stop ≡ i + length (codes ks) → Propers ks → whole ≡ agrees on (folded any ks (candidate p)) → Left cells o.after stop any on p whole
        unfolding code Proper
        unsettled t p w whole end rest e f g s = absurd (let z : ⊥ = omega arith in z)
        unsettled t p w whole (more k ks) rest e f g s =
            let d : drop i cells ≡ code k ++ (codes ks ++ rest) = e ∙ append_assoc (code k) (codes ks) rest in
            let l = length-append (code k) (codes ks) in
            let n : o.after ≡ i + length (code k) = b.exact k (codes ks ++ rest) d (omega arith) in
            record {
              keys = ks;
              rest = rest;
              is = ap (λ (z : ℕ). drop z cells) n ∙ past cells i (code k) (codes ks ++ rest) d;
              stops = omega arith;
              proper = g.1;
              same = s ∙ ap (agrees on) (passed any o.holds k ks (candidate p) (b.tests p w k (codes ks ++ rest) d n g.0) t);
            }

        pub going_next : agrees any o.holds ≡ false → Going cells at stop first facts o.after any on
        going_next t p w ks rest e f g = let l = go p w ks rest e f g in unsettled t p w (folded first ks (candidate p)) l.keys l.rest l.is l.stops l.proper l.same

      module _ (kind : ℕ) (q : kind ≡ get_or cells i 0) (m : 8 ≤ kind) (b : Behind cells i stop stop) where
        into : (p : Probe) (whole : Bool) (ks : Keys) (rest : List ℕ) → drop i cells ≡ codes ks ++ rest → stop ≡ i + length (codes ks) → Propers ks → whole ≡ agrees on (folded any ks (candidate p)) → Left cells (i + 2) stop (eqb kind 9) (agrees (not (eqb kind 8)) on) p whole
        unfolding code Proper
        into p whole end rest e f g s = absurd (let z : ⊥ = omega arith in z)
        into p whole (more k (more j ks)) rest e f g s =
            let d : drop i cells ≡ code k ++ (codes (more j ks) ++ rest) = e ∙ append_assoc (code k) (codes (more j ks)) rest in
            let l = length-append (code k) (codes (more j ks)) in
            let n = b.exact k (codes (more j ks) ++ rest) d (omega arith) in
            let a = length-append (code j) (codes ks) in
            let z = code_some j in
            absurd (let y : ⊥ = omega arith in y)
        into p whole (more k end) rest e f g s =
            let l = append-nil (code k) in
            let x = inner cells i kind q m k rest (e ∙ ap (λ (l : List ℕ). l ++ rest) l) g.0 in
            record {
              keys = x.keys;
              rest = rest;
              is = x.is;
              stops = let a = ap length l in let z = x.size in omega arith;
              proper = x.proper;
              same = s ∙ (ap (agrees on) (single any k (candidate p) ∙ x.same (candidate p)) ∙ turned on (not (eqb kind 8)) (folded (eqb kind 9) x.keys (candidate p)));
            }

        pub going_in : (turn : Bool) → turn ≡ agrees (not (eqb kind 8)) on → Going cells at stop first facts (i + 2) (eqb kind 9) turn
        going_in turn v p w ks rest e f g = let l = go p w ks rest e f g in rw v (into p (folded first ks (candidate p)) l.keys l.rest l.is l.stops l.proper l.same)

    module _ (h : stop ≤ i) where
      last : (p : Probe) (whole : Bool) (ks : Keys) → stop ≡ i + length (codes ks) → whole ≡ agrees on (folded any ks (candidate p)) → agrees on (not any) ≡ whole
      unfolding code
      last p whole end f s = ap (agrees on) (none any (candidate p)) ∙ sym s
      last p whole (more k ks) f s = let l = length-append (code k) (codes ks) in let z = code_some k in absurd (let y : ⊥ = omega arith in y)

      pub going_end : (r : Bool) → r ≡ agrees on (not any) → TestsKeysOn cells at stop first facts r
      going_end r v p w ks rest e f g = let l = go p w ks rest e f g in v ∙ last p (folded first ks (candidate p)) l.keys l.stops l.same

pub all_is : (cells : List ℕ) (p : Probe) (r : Bool) → TestsKeysOn cells 0 (length cells) false (facts_of p) r → TestsAll cells p r
all_is cells p r t ks e g = t p refl ks [] (e ∙ sym (append-nil (codes ks))) (let l = ap length e in omega arith) g
