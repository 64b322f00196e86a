-- A name's octets tested by neighbours: where none of a row's is misplaced, and both ends are right, the name is in order. Assumes nothing.
use Rattle.std.specs.Prelude.{◌≡◌, refl, Bool, true, false, not, cond, ◌&&◌, ◌||◌, List, [], ◌∷◌, ℕ, zero, suc, ◌+◌, ◌-◌, ◌*◌, ◌<◌, ◌≤◌, eqb, leb, ltb, length, take, drop, get_or}
use Rattle.std.proofs.Common.{ap, sym, ◌∙◌, add-one, arith, length-drop, get_or-take, get_or-drop, length-take-le, eq-eqb, ne_eqb, eqb-true, leb-true, ltb-true, ltb-false}
use Rattle.std.proofs.lemmas.Bool.{not-true}
use Rattle.model.specs.Laws.{tf, and_l, and_r}
use Rattle.model.specs.Text.{same_word, upper}
use Rattle.model.specs.Names.{Name, printable, inbox}
use Rattle.model.specs.Lawful.{zeros}
use Rattle.demands.specs.Lasting.NameLaws.{same_true}
use Rattle.names.specs.Once.{text_ok, text_from, text_next, text_past, some-octets}
use Rattle.names.specs.Folding.{folded-other}
use Rattle.table_mailboxes.specs.Walks.{mapped-length}
use Rattle.table_mailboxes.specs.Columns.{block, all_below}
use Rattle.lawful_digests.specs.Digest.{word}
use Rattle.lawful_mailboxes.specs.Fields.{name_by}

-- a zero stands before a zero; an octet of a name before any, but no slash before a slash
abbrev pub placed : ℕ → ℕ → Bool
placed a b = (eqb a 0 && eqb b 0) || (not (eqb a 47 && eqb b 47) && printable a)

unfoldable pub misplaced : ℕ → ℕ → ℕ
misplaced a b = cond (placed a b) 0 1

-- how many of i octets from a place on are misplaced
unfoldable pub misplaced_up : List ℕ → ℕ → ℕ → ℕ
misplaced_up l at zero = 0
misplaced_up l at (suc i) = misplaced_up l at i + misplaced (get_or l (at + i) 0) (get_or l (at + i + 1) 0)

pub misplaced_next : (l : List ℕ) (at i s x : ℕ) → s ≡ misplaced_up l at i → x ≡ misplaced (get_or l (at + i) 0) (get_or l (at + i + 1) 0) → s + x ≡ misplaced_up l at (i + 1)
unfolding misplaced_up
misplaced_next l at i s x e f = rw (add-one, e, f)

none_misplaced : (a b : ℕ) → misplaced a b ≡ 0 → placed a b ≡ true
unfolding misplaced
none_misplaced a b h = go (placed a b) h
  where
    go : (c : Bool) → ◌≡◌ {A = ℕ} (cond c 0 1) 0 → c ≡ true
    go true q = refl
    go false q = absurd (let z : ◌≡◌ {A = ℕ} 1 0 = q in omega arith)

-- the n octets from a place on are placed
abbrev pub Placed : List ℕ → ℕ → ℕ → Type 0
Placed l at n = (i : ℕ) → i < n → placed (get_or l (at + i) 0) (get_or l (at + i + 1) 0) ≡ true

pub all_placed : (l : List ℕ) (at n : ℕ) → misplaced_up l at n ≡ 0 → Placed l at n
unfolding misplaced_up
all_placed l at zero h i a = absurd (omega arith)
all_placed l at (suc n) h i a =
    let e = none_misplaced (get_or l (at + n) 0) (get_or l (at + n + 1) 0) (omega arith) in
    all_below (λ (j : ℕ). placed (get_or l (at + j) 0) (get_or l (at + j + 1) 0) ≡ true) n (all_placed l at n (omega arith)) e i (omega arith)

-- the octets of a word that is zero
word-zero : (l : List ℕ) (at : ℕ) → word l at ≡ 0 → (i : ℕ) → i < 8 → get_or l (at + i) 0 ≡ 0
word-zero l at h zero a = let e : at + 0 ≡ at = omega arith in rw e (omega arith)
word-zero l at h (suc zero) a = omega arith
word-zero l at h (suc (suc zero)) a = omega arith
word-zero l at h (suc (suc (suc zero))) a = omega arith
word-zero l at h (suc (suc (suc (suc zero)))) a = omega arith
word-zero l at h (suc (suc (suc (suc (suc zero))))) a = omega arith
word-zero l at h (suc (suc (suc (suc (suc (suc zero)))))) a = omega arith
word-zero l at h (suc (suc (suc (suc (suc (suc (suc zero))))))) a = omega arith
word-zero l at h (suc (suc (suc (suc (suc (suc (suc (suc i)))))))) a = absurd (omega arith)

-- a row of which 48 octets are placed, where two words of zeros follow
module _ (l : List ℕ) (at : ℕ) (p : Placed l at 48) (v : word l (at + 48) ≡ 0) (w : word l (at + 56) ≡ 0) where
  behind-zero : (i : ℕ) → 48 ≤ i → i < 64 → get_or l (at + i) 0 ≡ 0
  behind-zero i a b = go (ltb i 56) refl
    where
      go : (c : Bool) → ltb i 56 ≡ c → get_or l (at + i) 0 ≡ 0
      go true q = let e : at + i ≡ at + 48 + (i - 48) = omega arith in rw e (word-zero l (at + 48) v (i - 48) (omega (arith, ltb-true i 56 q)))
      go false q = let e : at + i ≡ at + 56 + (i - 56) = omega (arith, ltb-false i 56 q) in rw e (word-zero l (at + 56) w (i - 56) (omega (arith, ltb-false i 56 q)))

  pub short_placed : Placed l at 63
  short_placed i a = go (ltb i 48) refl
    where
      go : (c : Bool) → ltb i 48 ≡ c → placed (get_or l (at + i) 0) (get_or l (at + i + 1) 0) ≡ true
      go true q = p i (ltb-true i 48 q)
      go false q =
          let h = ltb-false i 48 q in
          let e : at + i + 1 ≡ at + suc i = omega arith in
          rw (e, behind-zero i h (omega arith), behind-zero (suc i) (omega arith) (omega arith))

-- the ends of a name of 1 to 63 octets that is not as long as INBOX
pub record Ended (l : List ℕ) (from len : ℕ) : Type 0 where
  pub some : 1 ≤ len
  pub few : len ≤ 63
  pub other : len ≡ 5 → ⊥
  pub first : get_or l from 0 ≡ 47 → ⊥
  pub full : get_or l (from + len - 1) 0 ≡ 0 → ⊥
  pub last : get_or l (from + len - 1) 0 ≡ 47 → ⊥
  pub behind : get_or l (from + len) 0 ≡ 0

after-zero : (a b : ℕ) → placed a b ≡ true → a ≡ 0 → b ≡ 0
after-zero a b h e = go (eqb b 0) refl (rw e at h)
  where
    go : (c : Bool) → eqb b 0 ≡ c → (c || false) ≡ true → b ≡ 0
    go true q r = eqb-true b 0 q
    go false q r = tf false r refl

in_name : (a b : ℕ) → placed a b ≡ true → (a ≡ 0 → ⊥) → (not (eqb a 47 && eqb b 47) && printable a) ≡ true
in_name a b h n = rw (ne_eqb a 0 n) at h

all_at : (l : List ℕ) → ((i : ℕ) → i < length l → get_or l i 0 ≡ 0) → zeros l ≡ true
all_at [] p = refl
all_at (x ∷ l) p = rw (eq-eqb 0 x (sym (p 0 (omega arith)))) (all_at l (λ i h. p (suc i) (omega arith)))

-- the octets o of row k
module _ (l : List ℕ) (k len : ℕ) (w : length l ≡ 4096) (h : k < 64) (e : Ended l (64 * k) len) (q : Placed l (64 * k) 63) where
  abbrev o : Name
  o = block l k

  long : length o ≡ 64
  long = let d = length-drop (64 * k) l in length-take-le 64 (drop (64 * k) l) (omega arith)

  octet : (i j : ℕ) → i < 64 → j ≡ 64 * k + i → get_or o i 0 ≡ get_or l j 0
  octet i j a b = rw (b, get_or-take 64 (drop (64 * k) l) i 0 a, get_or-drop (64 * k) l i 0)

  pair : (i : ℕ) → suc i < 64 → placed (get_or o i 0) (get_or o (suc i) 0) ≡ true
  pair i a = rw (octet i (64 * k + i) (omega arith) refl, octet (suc i) (64 * k + i + 1) a (omega arith)) (q i (omega arith))

  zero_run : (m i : ℕ) → i + m < 64 → get_or o i 0 ≡ 0 → get_or o (i + m) 0 ≡ 0
  zero_run zero i a z = let n : i + 0 ≡ i = omega arith in rw n z
  zero_run (suc m) i a z = let n : i + suc m ≡ suc (i + m) = omega arith in rw n (after-zero _ _ (pair (i + m) (omega arith)) (zero_run m i (omega arith) z))

  not-zero : (i : ℕ) → i < len → get_or o i 0 ≡ 0 → ⊥
  not-zero i a z =
      let f = e.few in
      let n : i + (len - 1 - i) ≡ len - 1 = omega arith in
      let y : get_or o (len - 1) 0 ≡ 0 = rw n at (zero_run (len - 1 - i) i (omega arith) z) in
      e.full (sym (octet (len - 1) (64 * k + len - 1) (omega arith) (omega arith)) ∙ y)

  stands : (i : ℕ) → i < len → (not (eqb (get_or o i 0) 47 && eqb (get_or o (suc i) 0) 47) && printable (get_or o i 0)) ≡ true
  stands i a = let f = e.few in in_name (get_or o i 0) (get_or o (suc i) 0) (pair i (omega arith)) (not-zero i a)

  -- the name
  abbrev n : Name
  n = take len o

  n_long : length n ≡ len
  n_long = let f = e.few in let g = long in length-take-le len o (omega arith)

  n_at : (i : ℕ) → i < len → get_or n i 0 ≡ get_or o i 0
  n_at i a = get_or-take len o i 0 a

  shown : (i : ℕ) → i < len → printable (get_or n i 0) ≡ true
  shown i a = rw (n_at i a) (and_r (not (eqb (get_or o i 0) 47 && eqb (get_or o (suc i) 0) 47)) (printable (get_or o i 0)) (stands i a))

  low : (i : ℕ) → i < len → 32 ≤ get_or n i 0
  low i a = leb-true 32 (get_or n i 0) (and_l (leb 32 (get_or n i 0)) (leb (get_or n i 0) 126) (shown i a))

  high : (i : ℕ) → i < len → get_or n i 0 ≤ 126
  high i a = leb-true (get_or n i 0) 126 (and_r (leb 32 (get_or n i 0)) (leb (get_or n i 0) 126) (shown i a))

  no-empty : (i : ℕ) → suc i < len → (eqb (get_or n (suc i) 0) 47 && eqb (get_or n i 0) 47) ≡ false
  no-empty i a = swapped (eqb (get_or n i 0) 47) (eqb (get_or n (suc i) 0) 47) (rw (n_at i (omega arith), n_at (suc i) a) (not-true (eqb (get_or o i 0) 47 && eqb (get_or o (suc i) 0) 47) (and_l (not (eqb (get_or o i 0) 47 && eqb (get_or o (suc i) 0) 47)) (printable (get_or o i 0)) (stands i (omega arith)))))
    where
      swapped : (x y : Bool) → (x && y) ≡ false → (y && x) ≡ false
      swapped true true z = z
      swapped true false z = refl
      swapped false true z = refl
      swapped false false z = refl

  walk : (m i : ℕ) → suc i + m ≡ len → text_from n (suc i) (get_or n i 0) ≡ true
  walk zero i a =
      let g = n_long in
      let y : get_or n i 0 ≡ 47 → ⊥ = λ z. e.last (sym (n_at i (omega arith) ∙ octet i (64 * k + len - 1) (let f = e.few in omega arith) (omega arith)) ∙ z) in
      text_past n (suc i) (get_or n i 0) (omega arith) ∙ rw (ne_eqb (get_or n i 0) 47 y)
  walk (suc m) i a =
      let g = n_long in
      let r = walk m (suc i) (omega arith) in
      text_next n (suc i) (get_or n i 0) (omega arith) (low (suc i) (omega arith)) (high (suc i) (omega arith)) (no-empty i (omega arith)) ∙ rw add-one r

  text : text_ok n ≡ true
  text =
      let g = n_long in
      let s = e.some in
      let y : get_or n 0 0 ≡ 47 → ⊥ = λ z. e.first (sym (n_at 0 (omega arith) ∙ octet 0 (64 * k) (omega arith) (omega arith)) ∙ z) in
      text_next n 0 47 (omega arith) (low 0 (omega arith)) (high 0 (omega arith)) (rw (ne_eqb (get_or n 0 0) 47 y)) ∙ walk (len - 1) 0 (omega arith)

  not-inbox : same_word n inbox ≡ false
  not-inbox = go (same_word n inbox) refl
    where
      go : (c : Bool) → same_word n inbox ≡ c → c ≡ false
      go true z = absurd (e.other (sym n_long ∙ mapped-length ℕ ℕ upper n 5 (ap length (same_true _ _ z))))
      go false z = refl

  rest : zeros (drop len o) ≡ true
  rest =
      let f = e.few in
      let g = long in
      let d = length-drop len o in
      let z : get_or o len 0 ≡ 0 = octet len (64 * k + len) (omega arith) refl ∙ e.behind in
      all_at (drop len o) (λ i a. get_or-drop len o i 0 ∙ zero_run i len (omega arith) z)

  pub name_placed : name_by len o ≡ true
  name_placed =
      let f = e.few in
      let s = e.some in
      let g = n_long in
      rw (sym (some-octets n (omega arith) (omega arith)) ∙ text, sym (folded-other n not-inbox), rest)
