-- What is found in several mailboxes: the UIDs of all in one array, a run for each place of an order of rows. Assumes nothing.
use Rattle.std.specs.Prelude.{◌≡◌, refl, Bool, true, false, not, cond, ◌&&◌, List, [], ◌∷◌, ◌++◌, ℕ, zero, suc, ◌+◌, ◌-◌, ◌%◌, ◌<◌, ◌≤◌, eqb, leb, ltb, length, take, drop, get_or, set}
use Rattle.std.proofs.Common.{ap, ap₂, sym, ◌∙◌, arith, leb-true, leb-false, eqb-true, length-take-le, take-take, get_or-take, drop_at, get_or-set_same, get_or-set_other}
use Rattle.std.proofs.Math.Seq.{take-nil}
use Rattle.std.proofs.lemmas.List.{take-append-le}
use Rattle.model.specs.Memory.{Memory, mails, messages_of, uid_of}
use Rattle.model.specs.View.{view}
use Rattle.model.specs.Requests.{Keys}
use Rattle.model.specs.Searching.{matches, candidates}
use Rattle.model.specs.declared.Mailbox.{Mailbox}
use Rattle.model.specs.declared.Message.{Message}
use Rattle.model.specs.declared.Uid.{Uid}
use Rattle.match_sources.specs.Picking.{selected_by}
use Rattle.search_find.specs.Finds.{uids_of, Held}
use Rattle.model.specs.Laws.{filter-length}
use Rattle.search_find.specs.Searched.{Searched, told}

-- ---- one mailbox, by its id
-- of the selected one what the client was told of, of another all
abbrev pub sought : List Message → ℕ → ℕ → ℕ → List Message
sought es s below id = cond (selected_by s id) (told below (messages_of id es)) (messages_of id es)

-- these are the definition's candidates
pub sought_is : (m : Memory) (x : Mailbox) → sought (mails m) m.session.selected m.session.told x.id ≡ candidates m x
sought_is m x = go (not (eqb x.id 0)) (eqb x.id m.session.selected) refl
  where
    go : (a b : Bool) → eqb x.id m.session.selected ≡ b → cond (a && b) (told m.session.told (messages_of x.id (mails m))) (messages_of x.id (mails m)) ≡ cond (a && b) (view m) (messages_of x.id (mails m))
    go false b e = refl
    go true false e = refl
    go true true e = ap (λ (i : ℕ). told m.session.told (messages_of i (mails m))) (eqb-true x.id m.session.selected e)

pub record RowSearched (es : List Message) (id s below : ℕ) (cells : List ℕ) (uids' : List ℕ) (r : ℕ) : Type 0 where
  pub few : r ≤ length (messages_of id es)
  pub exact : (ks : Keys) → Held cells ks → uids_of (take r uids') ≡ matches ks (sought es s below id)

module _ (es : List Message) (used id s below : ℕ) (cells : List ℕ) (uids' : List ℕ) (r : ℕ) (b : Bool) (e : b ≡ selected_by s id) where
  pub row-viewed : b ≡ true → Searched used (told below (messages_of id es)) cells uids' r → RowSearched es id s below cells uids' r
  row-viewed f x =
      let h = x.short in
      let g = filter-length (λ (d : Message). ltb (uid_of d) below) (messages_of id es) in
      record { few = omega arith; exact = λ ks k. x.exact ks k ∙ ap (λ (t : Bool). matches ks (cond t (told below (messages_of id es)) (messages_of id es))) (sym f ∙ e) }

  pub row_boxed : b ≡ false → Searched used (messages_of id es) cells uids' r → RowSearched es id s below cells uids' r
  row_boxed f x = record { few = x.short; exact = λ ks k. x.exact ks k ∙ ap (λ (t : Bool). matches ks (cond t (told below (messages_of id es)) (messages_of id es))) (sym f ∙ e) }

-- what lies behind does not matter
pub row_longer : (es : List Message) (id s below : ℕ) (cells : List ℕ) (t : List ℕ) (r : ℕ) → RowSearched es id s below cells t r → r ≤ length t → (rest : List ℕ) → RowSearched es id s below cells (t ++ rest) r
row_longer es id s below cells t r x h rest = record { few = x.few; exact = λ ks k. ap uids_of (take-append-le r t rest h) ∙ x.exact ks k }

-- ---- an order of rows
-- the id at place i; a place is a row by its last six bits
abbrev pub id_at : List ℕ → List ℕ → ℕ → ℕ
id_at ids order i = get_or ids (get_or order i 0 % 64) 0

-- how many entries the mailboxes at the first i places have together
unfoldable pub sizes : List Message → List ℕ → List ℕ → ℕ → ℕ
sizes es ids order zero = 0
sizes es ids order (suc i) = length (messages_of (id_at ids order i) es) + sizes es ids order i

sizes_top : (es : List Message) (ids order : List ℕ) (i : ℕ) → 0 < i → sizes es ids order i ≡ length (messages_of (id_at ids order (i - 1)) es) + sizes es ids order (i - 1)
unfolding sizes
sizes_top es ids order zero h = absurd (let z : ⊥ = omega arith in z)
sizes_top es ids order (suc i) h = let z : suc i - 1 ≡ i = omega arith in rw z

-- ---- runs: where each begins, and how many UIDs it has
abbrev pub run_at : List ℕ → List ℕ → List ℕ → ℕ → List Uid
run_at uids starts counts j = uids_of (take (get_or counts j 0) (drop (get_or starts j 0) uids))

-- they lie in the array, from place i on
abbrev pub Bounded : List ℕ → List ℕ → ℕ → ℕ → Type 0
Bounded starts counts i n = (j : ℕ) → i ≤ j → j < n → (get_or starts j 0 + get_or counts j 0 ≤ 2048) × (get_or counts j 0 ≤ 1024)

module _ (es : List Message) (ids order : List ℕ) (n s below : ℕ) (cells : List ℕ) where
  -- they hold what the keys find, from place i on, and end before `total`
  abbrev pub Holding : Keys → List ℕ → List ℕ → List ℕ → ℕ → ℕ → Type 0
  Holding ks uids starts counts i total = (j : ℕ) → i ≤ j → j < n → (get_or starts j 0 + get_or counts j 0 ≤ total) × (run_at uids starts counts j ≡ matches ks (sought es s below (id_at ids order j)))

  -- i places are left; with room for all of their entries nothing is cut off
  pub record Finding (uids starts counts : List ℕ) (i total : ℕ) : Type 0 where
    pub bounded : Bounded starts counts i n
    pub few : total ≤ 2048
    pub exact : (ks : Keys) → Held cells ks → sizes es ids order n ≤ 1024 → (total + sizes es ids order i ≤ 1024) × Holding ks uids starts counts i total

  -- all was found
  pub record Found (uids starts counts : List ℕ) : Type 0 where
    pub bounded : Bounded starts counts 0 n
    pub exact : (ks : Keys) → Held cells ks → sizes es ids order n ≤ 1024 → (j : ℕ) → j < n → run_at uids starts counts j ≡ matches ks (sought es s below (id_at ids order j))

  pub finding_start : (uids starts counts : List ℕ) → Finding uids starts counts n 0
  finding_start uids starts counts = record {
    bounded = λ j h k. absurd (let z : ⊥ = omega arith in z);
    few = omega arith;
    exact = λ ks h w. (omega arith, λ j p q. absurd (let z : ⊥ = omega arith in z));
  }

  pub finding_end : (uids starts counts : List ℕ) (i total : ℕ) → i ≤ 0 → Finding uids starts counts i total → Found uids starts counts
  finding_end uids starts counts i total z f = record {
    bounded = λ j h k. f.bounded j (omega arith) k;
    exact = λ ks h w j k. ((f.exact ks h w).1 j (omega arith) k).1;
  }

-- ---- an order that is cut off where it is no longer in use
sizes_cut : (es : List Message) (ids order : List ℕ) (n k : ℕ) → n ≤ k → sizes es ids (take k order) n ≡ sizes es ids order n
unfolding sizes
sizes_cut es ids order zero k h = refl
sizes_cut es ids order (suc n) k h = ap₂ (λ (j m : ℕ). length (messages_of (get_or ids (j % 64) 0) es) + m) (get_or-take k order n 0 h) (sizes_cut es ids order n k (omega arith))

pub found_rows : (es : List Message) (ids order : List ℕ) (n s below : ℕ) (cells uids starts counts : List ℕ) → n ≤ length order
    → Found es ids (take n order) (length (take n order)) s below cells uids starts counts → Found es ids order n s below cells uids starts counts
found_rows es ids order n s below cells uids starts counts h f =
    let l = length-take-le n order h in
    record {
      bounded = λ j a b. f.bounded j a (omega arith);
      exact = λ ks held w j k.
          f.exact ks held (let z = sizes_cut es ids order n n (omega arith) in rw (l, z) w) j (omega arith)
          ∙ ap (λ (i : ℕ). matches ks (sought es s below (get_or ids (i % 64) 0))) (get_or-take n order j 0 k);
    }

-- ---- a part of a list that was extended behind it
run : (f c : ℕ) (l : List ℕ) → take c (drop f l) ≡ drop f (take (f + c) l)
run zero c l = let e : 0 + c ≡ c = omega arith in rw e
run (suc f) c [] = take-nil c ∙ sym (ap (λ (l : List ℕ). drop (suc f) l) (take-nil (suc f + c)))
run (suc f) c (x ∷ l) = let e : suc f + c ≡ suc (f + c) = omega arith in rw e (run f c l)

part-kept : (l t : List ℕ) (from s c : ℕ) → s + c ≤ from → from ≤ length l → take c (drop s (take from l ++ t)) ≡ take c (drop s l)
part-kept l t from s c h w =
    let z = length-take-le from l w in
    run s c (take from l ++ t)
    ∙ (ap (drop s) (take-append-le (s + c) (take from l) t (omega arith) ∙ take-take (s + c) from l h)
    ∙ sym (run s c l))

part-new : (l t : List ℕ) (from c : ℕ) → from ≤ length l → take c (drop from (take from l ++ t)) ≡ take c t
part-new l t from c w = ap (take c) (drop_at (take from l) t from (length-take-le from l w))

-- ---- one place more
module _ (es : List Message) (ids order : List ℕ) (n s below : ℕ) (cells : List ℕ) (uids starts counts : List ℕ) (i total : ℕ)
    (f : Finding es ids order n s below cells uids starts counts i total) (h : 0 < i) (w : i ≤ n) (ws : n ≤ length starts) (wc : n ≤ length counts)
    (from : ℕ) (low : from ≤ 1024) (room : from ≤ length uids) (same : total ≤ 1024 → from ≡ total)
    (t : List ℕ) (r : ℕ) (few : r ≤ 1024) (x : RowSearched es (id_at ids order (i - 1)) s below cells t r) where
  abbrev starts' : List ℕ
  starts' = set starts (i - 1) from

  abbrev counts' : List ℕ
  counts' = set counts (i - 1) r

  start_here : get_or starts' (i - 1) 0 ≡ from
  start_here = get_or-set_same starts (i - 1) from 0 (omega arith)

  count_here : get_or counts' (i - 1) 0 ≡ r
  count_here = get_or-set_same counts (i - 1) r 0 (omega arith)

  start-above : (j : ℕ) → i ≤ j → get_or starts' j 0 ≡ get_or starts j 0
  start-above j k = get_or-set_other starts (i - 1) j from 0 (λ z. (let y : ⊥ = omega arith in y))

  count-above : (j : ℕ) → i ≤ j → get_or counts' j 0 ≡ get_or counts j 0
  count-above j k = get_or-set_other counts (i - 1) j r 0 (λ z. (let y : ⊥ = omega arith in y))

  bounded_next : Bounded starts' counts' (i - 1) n
  bounded_next j k l = go (leb i j) refl
    where
      go : (b : Bool) → leb i j ≡ b → (get_or starts' j 0 + get_or counts' j 0 ≤ 2048) × (get_or counts' j 0 ≤ 1024)
      go true q =
          let p = leb-true i j q in
          let a = start-above j p in
          let c = count-above j p in
          let d = f.bounded j p l in
          (omega arith, omega arith)
      go false q =
          let p = leb-false i j q in
          let z : j ≡ i - 1 = omega arith in
          let a : get_or starts' j 0 ≡ from = ap (λ (k : ℕ). get_or starts' k 0) z ∙ start_here in
          let c : get_or counts' j 0 ≡ r = ap (λ (k : ℕ). get_or counts' k 0) z ∙ count_here in
          (omega arith, omega arith)

  module _ (ks : Keys) (held : Held cells ks) (fit : sizes es ids order n ≤ 1024) where
    sum_next : from + r + sizes es ids order (i - 1) ≤ 1024
    sum_next =
        let a = (f.exact ks held fit).0 in
        let b = sizes_top es ids order i h in
        let c = x.few in
        let d = same (omega arith) in
        omega arith

    holding_next : Holding es ids order n s below cells ks (take from uids ++ t) starts' counts' (i - 1) (from + r)
    holding_next j k l = go (leb i j) refl
      where
        d : from ≡ total
        d = same (let a = (f.exact ks held fit).0 in omega arith)

        go : (b : Bool) → leb i j ≡ b → (get_or starts' j 0 + get_or counts' j 0 ≤ from + r) × (run_at (take from uids ++ t) starts' counts' j ≡ matches ks (sought es s below (id_at ids order j)))
        go true q =
            let p = leb-true i j q in
            let a = start-above j p in
            let c = count-above j p in
            let e = (f.exact ks held fit).1 j p l in
            let e₀ = e.0 in
            let z = d in
            (omega arith, ap₂ (λ (u v : ℕ). uids_of (take v (drop u (take from uids ++ t)))) a c ∙ (ap uids_of (part-kept uids t from (get_or starts j 0) (get_or counts j 0) (omega arith) room) ∙ e.1))
        go false q =
            let p = leb-false i j q in
            let z : j ≡ i - 1 = omega arith in
            let a : get_or starts' j 0 ≡ from = ap (λ (k : ℕ). get_or starts' k 0) z ∙ start_here in
            let c : get_or counts' j 0 ≡ r = ap (λ (k : ℕ). get_or counts' k 0) z ∙ count_here in
            (omega arith, ap₂ (λ (u v : ℕ). uids_of (take v (drop u (take from uids ++ t)))) a c ∙ (ap uids_of (part-new uids t from r room) ∙ (x.exact ks held ∙ ap (λ (k : ℕ). matches ks (sought es s below (id_at ids order k))) (sym z))))

  pub finding_next : Finding es ids order n s below cells (take from uids ++ t) starts' counts' (i - 1) (from + r)
  finding_next = record { bounded = bounded_next; few = omega arith; exact = λ ks held fit. (sum_next ks held fit, holding_next ks held fit) }
