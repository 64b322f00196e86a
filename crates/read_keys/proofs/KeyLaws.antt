-- Keys by their parts, over plain values: one lemma for each case of the grammar. Assumes nothing.
use mathlib.Core.Path.{◌≡◌, refl, sym, ap, ◌∙◌}
use Rattle.model.specs.Reading.{}
use mathlib.Core.Bool.{Bool, true, false, cond, or-false}
use mathlib.Core.List.{List, ◌∷◌, ◌++◌, append-nil}
use Prim.Native.Nat.{ℕ, zero, suc, ◌+◌, ◌-◌, ◌<◌, max}
use native.Mathlib.Numerals.{sub-one}
use native.Mathlib.Nat.{not-suc-le-zero}
use native.Mathlib.Omega.{arith}
use lib.Dec.{eqb}
use lib.ListN.{length, get_or, length-append}
use lib.Seq.{sets}
use borrow.Author.Tests.{eq-eqb, ne_eqb}
use Rattle.std.specs.Prelude.{Some, None}
use Rattle.model.specs.Requests.{Test, Key, non, either, group, Keys, end, more}
use Rattle.model.specs.Limits.{parts_of, key_count, key_depth, some_test}
use Rattle.model.specs.Replies.{unsupported_test}
use Rattle.model.specs.Reading.{Parsed, bad, ok, and_then, after_by, after, stands, Next, another, over, neither, Ending as Way, closing, line_end, over_at, next_at}
use Rattle.model.specs.SearchGrammar.{Start as Shape, single, negation, alternation, opening, wrong, start_at, key_by, keys_by, key_at, keys_at}
use Rattle.octets.specs.Found.{next_of, space_at}
use Rattle.octets.specs.Stores.{sets-append}
use Rattle.read_tests.specs.Table.{test_code}
use Rattle.read_tests.specs.Begin.{Begun}
use Rattle.read_tests.specs.declared.Start.{Start}
use Rattle.read_tests.specs.declared.Start.TheVariants.{One, Negation, Alternation, Opening}
use Rattle.read_tests.proofs.Cells.{sets_head}
use Rattle.read_keys.specs.Table.{code, codes, parts_most}
use Rattle.read_keys.specs.Keys.{over_of, join, Closed, key_found, found_keys, WroteKey, WroteKeys}
use Rattle.read_keys.specs.declared.Keys.{Keys as Read}

-- ---- one step of the readers

key_open : (s : List ℕ) (at n : ℕ) → 0 < n → key_at n s at ≡ key_by (start_at s at) (λ q. key_at (n - 1) s q) (λ q. keys_at (n - 1) closing s q) s
unfolding key_at
key_open s at zero h = absurd (not-suc-le-zero h)
key_open s at (suc m) h = rw (sub-one (suc m))

keys_open : (e : Way) (s : List ℕ) (at n : ℕ) → 0 < n → keys_at n e s at ≡ and_then (key_at (n - 1) s at) (λ q k. keys_by (next_at e s q) (λ r. keys_at (n - 1) e s r) k)
unfolding key_at
keys_open e s at zero h = absurd (not-suc-le-zero h)
keys_open e s at (suc m) h = rw (sub-one (suc m))

-- ---- how a key begins, from the code's answer

module _ (r : Start) (b b' : List ℕ) (n : ℕ) where
  begun_one : {p u k : ℕ} {y : Bool} (x : Shape) → Begun (Some r) b b' n x → r ≡ One p u y k
      → (t : Test) × (x ≡ single p t) × ((n + length (test_code t) ≡ u) × (unsupported_test t ≡ y) × (length (parts_of t) ≡ k)) × (b' ≡ sets b n (test_code t))
  begun_one (single q t) w e = let f = w.0 in (t, (cc), ((cc), (cc), (cc)), w.1)
  begun_one (negation q) w e = let f = w.0 in absurd (let z : ⊥ = cc in z)
  begun_one (alternation q) w e = let f = w.0 in absurd (let z : ⊥ = cc in z)
  begun_one (opening q) w e = let f = w.0 in absurd (let z : ⊥ = cc in z)
  begun_one wrong w e = absurd (let z : ⊥ = cc in z)

  begun_negation : {p : ℕ} (x : Shape) → Begun (Some r) b b' n x → r ≡ Negation p → (x ≡ negation p) × (b' ≡ b)
  begun_negation (single q t) w e = let f = w.0 in absurd (let z : ⊥ = cc in z)
  begun_negation (negation q) w e = let f = w.0 in ((cc), w.1)
  begun_negation (alternation q) w e = let f = w.0 in absurd (let z : ⊥ = cc in z)
  begun_negation (opening q) w e = let f = w.0 in absurd (let z : ⊥ = cc in z)
  begun_negation wrong w e = absurd (let z : ⊥ = cc in z)

  begun_alternation : {p : ℕ} (x : Shape) → Begun (Some r) b b' n x → r ≡ Alternation p → (x ≡ alternation p) × (b' ≡ b)
  begun_alternation (single q t) w e = let f = w.0 in absurd (let z : ⊥ = cc in z)
  begun_alternation (negation q) w e = let f = w.0 in absurd (let z : ⊥ = cc in z)
  begun_alternation (alternation q) w e = let f = w.0 in ((cc), w.1)
  begun_alternation (opening q) w e = let f = w.0 in absurd (let z : ⊥ = cc in z)
  begun_alternation wrong w e = absurd (let z : ⊥ = cc in z)

  begun-opening : {p : ℕ} (x : Shape) → Begun (Some r) b b' n x → r ≡ Opening p → (x ≡ opening p) × (b' ≡ b)
  begun-opening (single q t) w e = let f = w.0 in absurd (let z : ⊥ = cc in z)
  begun-opening (negation q) w e = let f = w.0 in absurd (let z : ⊥ = cc in z)
  begun-opening (alternation q) w e = let f = w.0 in absurd (let z : ⊥ = cc in z)
  begun-opening (opening q) w e = let f = w.0 in ((cc), w.1)
  begun-opening wrong w e = absurd (let z : ⊥ = cc in z)

begun-wrong : (b b' : List ℕ) (n : ℕ) (x : Shape) → Begun None b b' n x → x ≡ wrong
begun-wrong b b' n (single q t) w = let f = w.0 in absurd (let z : ⊥ = cc in z)
begun-wrong b b' n (negation q) w = let f = w.0 in absurd (let z : ⊥ = cc in z)
begun-wrong b b' n (alternation q) w = let f = w.0 in absurd (let z : ⊥ = cc in z)
begun-wrong b b' n (opening q) w = let f = w.0 in absurd (let z : ⊥ = cc in z)
begun-wrong b b' n wrong w = refl

-- ---- what was read, from the code's answer

module _ (b b' : List ℕ) (n : ℕ) where
  key-found : (r : Read) (x : Parsed Key) → WroteKey (Some r) b b' n x → (p : ℕ) × (a : Key) × (x ≡ ok p a) × (r ≡ key_found n p a) × (b' ≡ sets b n (code a))
  key-found r bad w = absurd (let z : ⊥ = cc in z)
  key-found r (ok p a) w = let f = w.0 in (p, a, refl, (cc), w.1)

  key_missing : (x : Parsed Key) → WroteKey None b b' n x → x ≡ bad
  key_missing bad w = refl
  key_missing (ok q a) w = let f = w.0 in absurd (let z : ⊥ = cc in z)

  keys_missing : (x : Parsed Keys) → WroteKeys None b b' n x → x ≡ bad
  keys_missing bad w = refl
  keys_missing (ok q a) w = let f = w.0 in absurd (let z : ⊥ = cc in z)

-- a space, and what is read behind it
module _ {A : Type 0} (f : ℕ → Parsed A) where
  space_yes : (t : Bool) (p : ℕ) {q : ℕ} → Some q ≡ next_of (after_by t p (λ q. ok q q)) → after_by t p f ≡ f q
  space_yes true p e = ap f (cc)
  space_yes false p e = absurd (let z : ⊥ = cc in z)

  space_no : (t : Bool) (p : ℕ) → None ≡ next_of (after_by t p (λ q. ok q q)) → after_by t p f ≡ bad
  space_no true p e = absurd (let z : ⊥ = cc in z)
  space_no false p e = refl

-- ---- a key that holds others

found_is : {u u' k k' d d' : ℕ} (r : Read) → u ≡ u' → k ≡ k' → d ≡ d' → record r { used = u; keys = k; depth = d } ≡ record r { used = u'; keys = k'; depth = d' }
found_is r e f g = cc

-- kind, how many cells, and these
module _ (kind deeper : ℕ) (b b₁ b₂ : List ℕ) (n : ℕ) (r q : Read) (v : Closed kind deeper n r b₁ b₂ q) where
  close : (xs : List ℕ) → r.used ≡ n + 2 + length xs → b₁ ≡ sets b (n + 2) xs
      → (q ≡ record r { used = n + length (kind ∷ length xs ∷ xs); keys = 1 + r.keys; depth = deeper + r.depth }) × (b₂ ≡ sets b n (kind ∷ length xs ∷ xs))
  close xs e f = (v.answer ∙ found_is r (omega arith) refl refl, sets_head b b₁ b₂ n kind (length xs) xs f (v.cells ∙ rw left))
    where
      left : r.used - (n + 2) ≡ length xs
      left = omega arith

module _ (b b₁ b₂ : List ℕ) (n : ℕ) (r q : Read) where
  wrote-non : (x : Parsed Key) → WroteKey (Some r) b b₁ (n + 2) x → Closed 8 0 n r b₁ b₂ q → WroteKey (Some q) b b₂ n (and_then x (λ p k. ok p (non k)))
  unfolding code key_count key_depth some_test parts_most
  wrote-non bad w v = absurd (let z : ⊥ = cc in z)
  wrote-non (ok p k) w v =
      let f = w.0 in
      let e : r ≡ key_found (n + 2) p k = cc in
      let i = close 8 0 b b₁ b₂ n r q v (code k) (rw e) w.1 in
      (ap (λ (x : Read). Some x) (i.0 ∙ rw e (found_is (key_found n p k) refl refl (omega arith))), i.1)

  wrote-group : (x : Parsed Keys) → WroteKeys (Some r) b b₁ (n + 2) x → Closed 10 1 n r b₁ b₂ q → WroteKey (Some q) b b₂ n (and_then x (λ p ks. ok p (group ks)))
  unfolding code key_count key_depth some_test parts_most
  wrote-group bad w v = absurd (let z : ⊥ = cc in z)
  wrote-group (ok p ks) w v =
      let f = w.0 in
      let e : r ≡ found_keys (n + 2) p ks = cc in
      let i = close 10 1 b b₁ b₂ n r q v (codes ks) (rw e) w.1 in
      (ap (λ (x : Read). Some x) (i.0 ∙ rw e), i.1)

-- two keys one behind the other: the first from n on, the second behind it
module _ (b b₁ b₂ : List ℕ) (n : ℕ) {p : ℕ} (a : Key) (r₁ : Read) (e : r₁ ≡ key_found n p a) (h : b₁ ≡ sets b n (code a)) (r₂ : Read) where
  join_cells : (xs : List ℕ) → b₂ ≡ sets b₁ r₁.used xs → b₂ ≡ sets b n (code a ++ xs)
  join_cells xs w = w ∙ rw (h, e) (sym (sets-append b n (code a) xs))

  wrote-more : (x : Parsed Keys) → WroteKeys (Some r₂) b₁ b₂ r₁.used x → WroteKeys (Some (join r₁ r₂)) b b₂ n (and_then x (λ q ks. ok q (more a ks)))
  unfolding code key_count key_depth some_test parts_most
  wrote-more bad w = absurd (let z : ⊥ = cc in z)
  wrote-more (ok q ks) w =
      let f = w.0 in
      let g : r₂ ≡ found_keys r₁.used q ks = cc in
      (ap (λ (x : Read). Some x) (rw (g, e) (found_is (found_keys n q (more a ks)) (omega (arith, length-append (code a) (codes ks))) refl refl)), join_cells (codes ks) w.1)

-- the second key of an OR, after its first key a
module _ (b b₁ b₂ b₃ : List ℕ) (n : ℕ) (r₁ r₂ q : Read) {p : ℕ} (a : Key) (e : r₁ ≡ key_found (n + 2) p a) (h : b₁ ≡ sets b (n + 2) (code a)) (v : Closed 9 0 n (join r₁ r₂) b₂ b₃ q) where
  wrote-either : (x : Parsed Key) → WroteKey (Some r₂) b₁ b₂ r₁.used x → WroteKey (Some q) b b₃ n (and_then x (λ o k. ok o (either a k)))
  unfolding code key_count key_depth some_test parts_most
  wrote-either bad w = absurd (let z : ⊥ = cc in z)
  wrote-either (ok o k) w =
      let f = w.0 in
      let g : r₂ ≡ key_found r₁.used o k = cc in
      let u : r₂.used ≡ n + 2 + length (code a ++ code k) = rw (g, e) (omega (arith, length-append (code a) (code k))) in
      let i = close 9 0 b b₂ b₃ n (join r₁ r₂) q v (code a ++ code k) u (join_cells b b₁ b₂ (n + 2) a r₁ e h r₂ (code k) w.1) in
      (ap (λ (x : Read). Some x) (i.0 ∙ rw (g, e) (found_is (key_found n o (either a k)) refl (omega arith) (omega arith))), i.1)

max_none : (i : ℕ) → max i 0 ≡ i
max_none i = omega arith

-- the last key of a list
wrote_last : (b b₁ : List ℕ) (n : ℕ) {p : ℕ} (p₁ : ℕ) (r : Read) (a : Key) → r ≡ key_found n p a → b₁ ≡ sets b n (code a)
    → WroteKeys (Some (record r { next = p₁ })) b b₁ n (ok p₁ (more a end))
unfolding code key_count key_depth some_test parts_most
wrote_last b b₁ n p₁ r a e f = (
  ap (λ (x : Read). Some x) (rw (e, append-nil (code a), or-false (some_test unsupported_test a), max_none (parts_most a), max_none (key_depth a))
      (found_is (record (key_found n p₁ a) { next = p₁ }) refl (omega arith) refl)),
  f ∙ rw (append-nil (code a)),
)

-- ---- the cases of `key_at`

module _ (s : List ℕ) (at m : ℕ) where
  pub key-wrong : (b b₁ : List ℕ) (n : ℕ) → Begun None b b₁ n (start_at s at) → WroteKey None b b₁ n (key_at m s at)
  unfolding key_at
  key-wrong b b₁ n w = go m
    where
      go : (k : ℕ) → WroteKey None b b₁ n (key_at k s at)
      go zero = refl
      go (suc k) = rw (begun-wrong b b₁ n (start_at s at) w)

  module _ (h : 0 < m) (r : Start) (b b₀ : List ℕ) (n : ℕ) (w : Begun (Some r) b b₀ n (start_at s at)) where
    key_is : {x : Shape} → start_at s at ≡ x → key_at m s at ≡ key_by x (λ q. key_at (m - 1) s q) (λ q. keys_at (m - 1) closing s q) s
    key_is e = key_open s at m h ∙ ap (λ (x : Shape). key_by x (λ q. key_at (m - 1) s q) (λ q. keys_at (m - 1) closing s q) s) e

    pub key-single : {p u k : ℕ} {y : Bool} → r ≡ One p u y k → WroteKey (Some (record { next = p; used = u; keys = 1; depth = 0; unsupported = y; parts = k })) b b₀ n (key_at m s at)
    unfolding code key_count key_depth some_test parts_most
    key-single {p} {u} {k} {y} e =
        let i = begun_one r b b₀ n (start_at s at) w e in
        rw (key_is i.1) (rw (i.2.0, i.2.1, i.2.2) refl, i.3)

    module _ {p₀ : ℕ} (b₁ : List ℕ) where
      pub non_none : r ≡ Negation p₀ → WroteKey None b₀ b₁ (n + 2) (key_at (m - 1) s p₀) → WroteKey None b b₁ n (key_at m s at)
      non_none e v = rw (key_is (begun_negation r b b₀ n (start_at s at) w e).0, key_missing b₀ b₁ (n + 2) (key_at (m - 1) s p₀) v)

      pub key-non : r ≡ Negation p₀ → (b₂ : List ℕ) (r₁ q : Read) → WroteKey (Some r₁) b₀ b₁ (n + 2) (key_at (m - 1) s p₀) → Closed 8 0 n r₁ b₁ b₂ q
          → WroteKey (Some q) b b₂ n (key_at m s at)
      key-non e b₂ r₁ q v z =
          let i = begun_negation r b b₀ n (start_at s at) w e in
          rw (key_is i.0) (wrote-non b b₁ b₂ n r₁ q (key_at (m - 1) s p₀) (rw i.1 at v) z)

      pub group_none : r ≡ Opening p₀ → WroteKeys None b₀ b₁ (n + 2) (keys_at (m - 1) closing s p₀) → WroteKey None b b₁ n (key_at m s at)
      group_none e v = rw (key_is (begun-opening r b b₀ n (start_at s at) w e).0, keys_missing b₀ b₁ (n + 2) (keys_at (m - 1) closing s p₀) v)

      pub key-group : r ≡ Opening p₀ → (b₂ : List ℕ) (r₁ q : Read) → WroteKeys (Some r₁) b₀ b₁ (n + 2) (keys_at (m - 1) closing s p₀) → Closed 10 1 n r₁ b₁ b₂ q
          → WroteKey (Some q) b b₂ n (key_at m s at)
      key-group e b₂ r₁ q v z =
          let i = begun-opening r b b₀ n (start_at s at) w e in
          rw (key_is i.0) (wrote-group b b₁ b₂ n r₁ q (keys_at (m - 1) closing s p₀) (rw i.1 at v) z)

      module _ (e : r ≡ Alternation p₀) where
        either_is : {x : Parsed Key} → key_at (m - 1) s p₀ ≡ x
            → key_at m s at ≡ and_then x (λ q a. after s q " " (λ t. and_then (key_at (m - 1) s t) (λ o c. ok o (either a c))))
        either_is f =
            key_is (begun_alternation r b b₀ n (start_at s at) w e).0
            ∙ ap (λ (x : Parsed Key). and_then x (λ q a. after s q " " (λ t. and_then (key_at (m - 1) s t) (λ o c. ok o (either a c))))) f

        pub either_none : WroteKey None b₀ b₁ (n + 2) (key_at (m - 1) s p₀) → WroteKey None b b₁ n (key_at m s at)
        either_none v = rw (either_is (key_missing b₀ b₁ (n + 2) (key_at (m - 1) s p₀) v))

        module _ (r₁ : Read) (v : WroteKey (Some r₁) b₀ b₁ (n + 2) (key_at (m - 1) s p₀)) where
          -- after the first key, behind a space
          first : (p : ℕ) × (a : Key)
              × (key_at m s at ≡ after s r₁.next " " (λ t. and_then (key_at (m - 1) s t) (λ o c. ok o (either a c))))
              × (r₁ ≡ key_found (n + 2) p a) × (b₁ ≡ sets b (n + 2) (code a))
          first =
              let i = key-found b₀ b₁ (n + 2) r₁ (key_at (m - 1) s p₀) v in
              let f = λ (z : ℕ). after s z " " (λ t. and_then (key_at (m - 1) s t) (λ o c. ok o (either i.1 c))) in (
                i.0,
                i.1,
                either_is i.2 ∙ ap f (sym (ap (λ (x : Read). x.next) i.3)),
                i.3,
                i.4 ∙ ap (λ (x : List ℕ). sets x (n + 2) (code i.1))
                    (begun_alternation r b b₀ n (start_at s at) w e).1,
              )

          pub either_one : None ≡ space_at s r₁.next → WroteKey None b b₁ n (key_at m s at)
          either_one g = let i = first in rw (i.2, space_no (λ t. and_then (key_at (m - 1) s t) (λ o c. ok o (either i.1 c))) (stands s r₁.next " ") (r₁.next + 1) g)

          module _ {t : ℕ} (g : Some t ≡ space_at s r₁.next) (b₂ : List ℕ) where
            either_is_two : (a : Key) → after s r₁.next " " (λ t. and_then (key_at (m - 1) s t) (λ o c. ok o (either a c))) ≡ and_then (key_at (m - 1) s t) (λ o c. ok o (either a c))
            either_is_two a = space_yes (λ t. and_then (key_at (m - 1) s t) (λ o c. ok o (either a c))) (stands s r₁.next " ") (r₁.next + 1) g

            pub either_half : WroteKey None b₁ b₂ r₁.used (key_at (m - 1) s t) → WroteKey None b b₂ n (key_at m s at)
            either_half z = let i = first in rw (i.2, either_is_two i.1, key_missing b₁ b₂ r₁.used (key_at (m - 1) s t) z)

            pub either_two : (b₃ : List ℕ) (r₂ j q : Read) → WroteKey (Some r₂) b₁ b₂ r₁.used (key_at (m - 1) s t) → j ≡ join r₁ r₂ → Closed 9 0 n j b₂ b₃ q
                → WroteKey (Some q) b b₃ n (key_at m s at)
            either_two b₃ r₂ j q z l c =
                let i = first in
                rw (i.2, either_is_two i.1) (wrote-either b b₁ b₂ b₃ n r₁ r₂ q i.1 i.3 i.4 (rw l at c) (key_at (m - 1) s t) z)

-- ---- the cases of `keys_at`

over_is : {p : ℕ} (x : Next) → Some p ≡ over_of x → x ≡ over p
over_is (another q) e = absurd (let z : ⊥ = cc in z)
over_is (over q) e = cc
over_is neither e = absurd (let z : ⊥ = cc in z)

not_over : (e : Way) (s : List ℕ) (q : ℕ) → None ≡ over_of (over_at e s q) → over_at e s q ≡ neither
not_over closing s q f = go (stands s q ")") f
  where
    go : (t : Bool) → None ≡ over_of (cond t (over (q + 1)) neither) → cond t (over (q + 1)) neither ≡ neither
    go true f = absurd (let z : ⊥ = cc in z)
    go false f = refl
not_over line_end s q f = go (eqb q (length s)) f
  where
    go : (t : Bool) → None ≡ over_of (cond t (over q) neither) → cond t (over q) neither ≡ neither
    go true f = absurd (let z : ⊥ = cc in z)
    go false f = refl

module _ (e : Way) (s : List ℕ) (at m : ℕ) (h : 0 < m) (b b₁ : List ℕ) (n : ℕ) where
  keys_is : {x : Parsed Key} → key_at (m - 1) s at ≡ x → keys_at m e s at ≡ and_then x (λ q k. keys_by (next_at e s q) (λ r. keys_at (m - 1) e s r) k)
  keys_is f = keys_open e s at m h ∙ ap (λ (x : Parsed Key). and_then x (λ q k. keys_by (next_at e s q) (λ r. keys_at (m - 1) e s r) k)) f

  pub keys_none : WroteKey None b b₁ n (key_at (m - 1) s at) → WroteKeys None b b₁ n (keys_at m e s at)
  keys_none v = rw (keys_is (key_missing b b₁ n (key_at (m - 1) s at) v))

  module _ (r₁ : Read) (v : WroteKey (Some r₁) b b₁ n (key_at (m - 1) s at)) where
    rest : (p : ℕ) × (a : Key) × (keys_at m e s at ≡ keys_by (next_at e s r₁.next) (λ r. keys_at (m - 1) e s r) a) × (r₁ ≡ key_found n p a) × (b₁ ≡ sets b n (code a))
    rest =
        let i = key-found b b₁ n r₁ (key_at (m - 1) s at) v in
        let f = λ (z : ℕ). keys_by (next_at e s z) (λ r. keys_at (m - 1) e s r) i.1 in
        (i.0, i.1, keys_is i.2 ∙ ap f (sym (ap (λ (x : Read). x.next) i.3)), i.3, i.4)

    module _ (g : get_or s r₁.next 0 ≡ 32) (b₂ : List ℕ) where
      pub keys_half : WroteKeys None b₁ b₂ r₁.used (keys_at (m - 1) e s (r₁.next + 1)) → WroteKeys None b b₂ n (keys_at m e s at)
      keys_half z = let i = rest in rw (i.2, eq-eqb (get_or s r₁.next 0) 32 g, keys_missing b₁ b₂ r₁.used (keys_at (m - 1) e s (r₁.next + 1)) z)

      pub keys-more : (r₂ j : Read) → WroteKeys (Some r₂) b₁ b₂ r₁.used (keys_at (m - 1) e s (r₁.next + 1)) → j ≡ join r₁ r₂ → WroteKeys (Some j) b b₂ n (keys_at m e s at)
      keys-more r₂ j z l =
          let i = rest in
          rw (i.2, eq-eqb (get_or s r₁.next 0) 32 g, l) (wrote-more b b₁ b₂ n i.1 r₁ i.3 i.4 r₂ (keys_at (m - 1) e s (r₁.next + 1)) z)

    module _ (g : get_or s r₁.next 0 ≡ 32 → ⊥) where
      pub keys-wrong : None ≡ over_of (over_at e s r₁.next) → WroteKeys None b b₁ n (keys_at m e s at)
      keys-wrong f = let i = rest in rw (i.2, ne_eqb (get_or s r₁.next 0) 32 g, not_over e s r₁.next f)

      pub keys_over : {p : ℕ} → Some p ≡ over_of (over_at e s r₁.next) → WroteKeys (Some (record r₁ { next = p })) b b₁ n (keys_at m e s at)
      keys_over {p} f =
          let i = rest in
          rw (i.2, ne_eqb (get_or s r₁.next 0) 32 g, over_is (over_at e s r₁.next) f) (wrote_last b b₁ n p r₁ i.1 i.3 i.4)
