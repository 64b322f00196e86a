-- What a command line that is a search gives to the code: its keys in the cells, its sources in the list. Assumes nothing.
use Rattle.std.specs.Prelude.{◌≡◌, refl, Some, Bool, true, false, cond, List, [], ◌∷◌, ℕ, ◌+◌, ◌≤◌, eqb, ltb, length, take}
use Rattle.std.proofs.Math.Path.{ap, ap₂}
use Rattle.std.proofs.Common.{◌∙◌, subst, arith, ltb-false, length-append}
use Rattle.std.proofs.lemmas.List.Edits.{sets}
use Rattle.model.specs.Requests.{Filter, names_of, Search, Command, search, esearch}
use Rattle.model.specs.Limits.{limits, name_count, too_many_filters, too_many_keys, command_too_large}
use Rattle.model.specs.Reading.{Parsed, bad, ok, and_then, stands, after_by}
use Rattle.model.specs.SearchGrammar.{program_at, search_for, search_at}
use Rattle.model.specs.Commands.{command_by, whole_line}
use Rattle.model.specs.Searching.{or_selected}
use Rattle.model.specs.Laws.{or_l, or_r}
use Rattle.read_keys.specs.Table.{codes}
use Rattle.read_search.specs.Parts.{in_at, return_at, charset_part_at}
use Rattle.read_search.specs.Searched.{Cells, read_search, asked_of}
use Rattle.read_sources.specs.Listing.{all_names, nothing_listed, add_all, kept_sources}
use Rattle.read_search.specs.declared.Asked.{Asked}
use Rattle.match_keys.specs.Read.{read_proper, read_cells}
use Rattle.search_find.specs.Finds.{Held}
use Rattle.match_sources.specs.Admitting.{Few}

-- one reading after another that was read: what the first gave, and that the second was read behind it
pub record Both {A B : Type 0} (x : Parsed A) (f : ℕ → A → Parsed B) (p : ℕ) (b : B) : Type 0 where
  pub middle : ℕ
  pub given : A
  pub first : x ≡ ok middle given
  pub second : f middle given ≡ ok p b

both : {A B : Type 0} (x : Parsed A) (f : ℕ → A → Parsed B) (p : ℕ) (b : B) → and_then x f ≡ ok p b → Both x f p b
both bad f p b e = absurd (let z : ◌≡◌ {A = ℕ} 0 1 = cc in let y : ⊥ = omega arith in y)
both (ok q a) f p b e = record { middle = q; given = a; first = refl; second = e }

-- ---- a search up to the end of the line is one behind its word and a space
module _ (s : List ℕ) (p : ℕ) (q : Search) where
  whole_is : (b : Bool) (r : ℕ) (c : Command) → cond b (ok r c) bad ≡ ok p (search q) → ok r c ≡ ok p (search q)
  whole_is true r c e = e
  whole_is false r c e = absurd (let z : ◌≡◌ {A = ℕ} 0 1 = cc in let y : ⊥ = omega arith in y)

  spaced : (b : Bool) (at r : ℕ) (c : Command) → after_by b (at + 1) (λ t. search_at s t) ≡ ok r c → search_at s (at + 1) ≡ ok r c
  spaced true at r c e = e
  spaced false at r c e = absurd (let z : ◌≡◌ {A = ℕ} 0 1 = cc in let y : ⊥ = omega arith in y)

  pub search-behind : (at : ℕ) → and_then (command_by esearch s at) (λ r c. whole_line s r c) ≡ ok p (search q) → search_at s (at + 1) ≡ ok p (search q)
  search-behind at e =
      let b = both (command_by esearch s at) (λ r c. whole_line s r c) p (search q) e in
      spaced (stands s at " ") at b.middle b.given b.first ∙ whole_is (eqb b.middle (length s)) b.middle b.given b.second

  -- ---- its parts
  pub record Parts (at : ℕ) : Type 0 where
    pub behind : ℕ
    pub sources : in_at s at ≡ ok behind q.sources
    pub from : ℕ
    pub keys : program_at s from ≡ ok p q.keys

  pub parts_of_lem : (at : ℕ) → search_at s at ≡ ok p (search q) → Parts at
  unfolding search_at
  parts_of_lem at e =
      let a = both (in_at s at) (λ i sources. and_then (return_at s i) λ r returns. and_then (charset_part_at s r) λ t charset. and_then (program_at s t) λ z keys. ok z (search (search_for sources returns charset keys))) p (search q) e in
      let b = both (return_at s a.middle) (λ r returns. and_then (charset_part_at s r) λ t charset. and_then (program_at s t) λ z keys. ok z (search (search_for a.given returns charset keys))) p (search q) a.second in
      let d = both (charset_part_at s b.middle) (λ t charset. and_then (program_at s t) λ z keys. ok z (search (search_for a.given b.given charset keys))) p (search q) b.second in
      let k = both (program_at s d.middle) (λ z keys. ok z (search (search_for a.given b.given d.given keys))) p (search q) d.second in
      let w : search_for a.given b.given d.given k.given ≡ q = same k.middle (search_for a.given b.given d.given k.given) k.second in
      let z : k.middle ≡ p = place k.middle (search_for a.given b.given d.given k.given) k.second in
      record {
        behind = a.middle;
        sources = a.first ∙ ap (λ (y : Search). ok a.middle y.sources) w;
        from = d.middle;
        keys = k.first ∙ ap₂ (λ (n : ℕ) (y : Search). ok n y.keys) z w;
      }
    where
      same : (n : ℕ) (y : Search) → ok n (search y) ≡ ok p (search q) → y ≡ q
      same n y h = cc

      place : (n : ℕ) (y : Search) → ok n (search y) ≡ ok p (search q) → n ≡ p
      place n y h = cc

  -- what was read is what it asks
  pub asked_read : (x : Parsed Command) → x ≡ ok p (search q) → (a : Asked) (n : ℕ) → Some (a, n) ≡ read_search x → a ≡ asked_of q
  asked_read x g a n i = ap (λ (z : Asked × ℕ). z.0) (inside (i ∙ ap read_search g))
    where
      inside : {x y : Asked × ℕ} → Some x ≡ Some y → x ≡ y
      inside z = cc

  -- the cells that the reader filled hold its keys, if they had room
  pub held_read : (at : ℕ) → search_at s at ≡ ok p (search q) → (x : Parsed Command) → x ≡ ok p (search q) → (b b' : List ℕ) → Cells b b' x
      → (a : Asked) (n : ℕ) → Some (a, n) ≡ read_search x → a.used ≤ length b → Held (take a.used b') q.keys
  held_read at e x g b b' c a n i w =
      let y : b' ≡ sets b 0 (codes q.keys) = subst (Cells b b') g c in
      let u : a ≡ asked_of q = asked_read x g a n i in
      let v : a.used ≡ 0 + length (codes q.keys) = ap (λ (k : Asked). k.used) u ∙ (let z : length (codes q.keys) ≡ 0 + length (codes q.keys) = omega arith in z) in
      let k = parts_of_lem at e in
      (read_cells b b' q.keys y a.used v w, read_proper s k.from p q.keys k.keys)

  -- the list of its sources is that of the definition
  pub listed_read : (at : ℕ) (e : search_at s at ≡ ok p (search q)) → kept_sources (in_at s at) ≡ Some (add_all nothing_listed (or_selected q.sources), (parts_of_lem at e).behind)
  listed_read at e = ap kept_sources (parts_of_lem at e).sources

-- ---- within the limits there are few sources and names
names-count : (fs : List Filter) → length (all_names fs) ≡ name_count fs
names-count [] = refl
names-count (f ∷ fs) = let a = length-append (names_of f) (all_names fs) in let b = names-count fs in omega arith

few_of : (fs : List Filter) → too_many_filters limits fs ≡ false → Few (or_selected fs)
few_of [] h = record { sources = omega arith; names = omega arith }
few_of (f ∷ fs) h =
    let a = ltb-false 8 (length (f ∷ fs)) (or_l (ltb 8 (length (f ∷ fs))) (ltb 16 (name_count (f ∷ fs))) h) in
    let b = ltb-false 16 (name_count (f ∷ fs)) (or_r (ltb 8 (length (f ∷ fs))) (ltb 16 (name_count (f ∷ fs))) h) in
    let c = names-count (f ∷ fs) in
    record { sources = omega arith; names = omega arith }

pub few_read : (q : Search) → command_too_large limits (search q) ≡ false → Few (or_selected q.sources)
few_read q h = few_of q.sources (or_l (too_many_filters limits q.sources) (too_many_keys limits q.keys) h)
