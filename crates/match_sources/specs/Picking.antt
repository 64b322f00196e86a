-- Which rows are searched, noted by columns, and that these are the definition's. Assumes nothing.
use Rattle.std.specs.Prelude.{◌≡◌, refl, Bool, true, false, not, ◌&&◌, List, ℕ, ◌+◌, ◌-◌, ◌*◌, ◌<◌, ◌≤◌, eqb, leb, length, take, drop, get_or, set}
use Rattle.std.proofs.Common.{ap, ap₂, sym, ◌∙◌, arith, leb-true, leb-false, take-take, get_or-set_same, get_or-set_other}
use Rattle.model.specs.Lists.{anyb}
use Rattle.model.specs.Names.{Name}
use Rattle.model.specs.Requests.{Filter}
use Rattle.model.specs.Memory.{Memory, may_read, no_mailbox}
use Rattle.model.specs.Searching.{admits}
use Rattle.model.specs.declared.Mailbox.{Mailbox}
use Rattle.read_sources.specs.Listing.{nothing_listed, add_all}
use Rattle.read_sources.specs.declared.Listed.{Listed}
use Rattle.match_sources.specs.Admitting.{searched_by, Few, searched_is}
use Rattle.table_mailboxes.specs.Columns.{Column, Names, noted}

-- the mailbox with this id is the selected one
abbrev pub selected_by : ℕ → ℕ → Bool
selected_by s i = not (eqb i 0) && eqb i s

-- the name of row k in the flat names
abbrev pub name_at : List ℕ → ℕ → ℕ → Name
name_at names k len = take len (take 64 (drop (64 * k) names))

-- as code cuts it out: c is the length, within the 64 octets
pub name-part :
    (names : List ℕ) (k len c : ℕ) → c ≤ 64 → take c (take 64 (drop (64 * k) names)) ≡ take len (take 64 (drop (64 * k) names))
    → take (k * 64 + c - k * 64) (drop (k * 64) names) ≡ name_at names k len
name-part names k len c h e =
    let z : k * 64 + c - k * 64 ≡ c = omega arith in
    let y : k * 64 ≡ 64 * k = omega arith in
    ap₂ (λ (n p : ℕ). take n (drop p names)) z y ∙ (sym (take-take c 64 (drop (64 * k) names) h) ∙ e)

-- the first n notes
abbrev pub Noted : Listed → ℕ → List ℕ → List ℕ → List ℕ → List ℕ → ℕ → List ℕ → Type 0
Noted t s ids attributes lens names n picked = (k : ℕ) → k < n → noted (get_or picked k 0) ≡ searched_by t (get_or attributes k 0) (name_at names k (get_or lens k 0)) (selected_by s (get_or ids k 0))

module _ (t : Listed) (s : ℕ) (ids attributes lens names : List ℕ) where
  -- one note more
  pub noted-next :
      (k : ℕ) (picked : List ℕ) (v : ℕ) (here : Bool) → Noted t s ids attributes lens names k picked → k < length picked
      → here ≡ selected_by s (get_or ids k 0) → noted v ≡ searched_by t (get_or attributes k 0) (name_at names k (get_or lens k 0)) here
      → Noted t s ids attributes lens names (k + 1) (set picked k v)
  noted-next k picked v here p w e f j h = go (leb k j) refl
    where
      go : (b : Bool) → leb k j ≡ b → noted (get_or (set picked k v) j 0) ≡ searched_by t (get_or attributes j 0) (name_at names j (get_or lens j 0)) (selected_by s (get_or ids j 0))
      go true q =
          let l = leb-true k j q in
          let z : k ≡ j = omega arith in
          rw (← z) (ap noted (get_or-set_same picked k v 0 w) ∙ (f ∙ ap (searched_by t (get_or attributes k 0) (name_at names k (get_or lens k 0))) e))
      go false q =
          let l = leb-false k j q in
          ap noted (get_or-set_other picked k j v 0 (λ z. (let y : ⊥ = omega arith in y))) ∙ p j l

-- the notes are the answers of a test
abbrev pub Picks : (Mailbox → Bool) → List Mailbox → List ℕ → Type 0
Picks p l picked = (k : ℕ) → k < length l → noted (get_or picked k 0) ≡ p (get_or l k no_mailbox)

-- they are those of the definition
pub picks-searched :
    (fs : List Filter) (few : Few fs) (t : Listed) → t ≡ add_all nothing_listed fs
    → (m : Memory) (l : List Mailbox) (ids attributes lens names picked : List ℕ)
    → Column (λ x. x.id) l ids → Column (λ x. x.attributes) l attributes → Column (λ x. x.namelen) l lens → Names l names
    → Noted t m.session.selected ids attributes lens names (length l) picked
    → Picks (λ (x : Mailbox). may_read x && anyb (admits m x) fs) l picked
picks-searched fs few t e m l ids attributes lens names picked ci ca cl cn p k h =
    let x = get_or l k no_mailbox in
    let s = m.session.selected in
    p k h
    ∙ (ap (λ (u : Listed). searched_by u (get_or attributes k 0) (name_at names k (get_or lens k 0)) (selected_by s (get_or ids k 0))) e
    ∙ (ap₂ (λ (a i : ℕ). searched_by (add_all nothing_listed fs) a (name_at names k (get_or lens k 0)) (selected_by s i)) (ca k h) (ci k h)
    ∙ (ap₂ (λ (c : ℕ) (n : List ℕ). searched_by (add_all nothing_listed fs) x.attributes (take c n) (selected_by s x.id)) (cl k h) (cn k h)
    ∙ searched_is fs few m x)))
