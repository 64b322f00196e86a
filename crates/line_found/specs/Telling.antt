-- The lines of several mailboxes, one after the other, and that they are the definition's. Assumes nothing.
use Rattle.std.specs.Prelude.{◌≡◌, true, ◌&&◌, take, drop}
use Rattle.std.proofs.Math.Path.{refl, ap₂, sym}
use Rattle.std.proofs.Common.{ap, ◌∙◌, add-one}
use Rattle.std.proofs.lemmas.List.{length-take}
use mathlib.Core.List.{List, [], ◌∷◌, ◌++◌}
use Prim.Native.Nat.{ℕ, zero, suc, ◌+◌, ◌-◌, ◌*◌, ◌%◌, ◌<◌, ◌≤◌}
use native.Mathlib.Omega.{arith}
use Rattle.std.proofs.Math.ListN.{length, get_or}
use Rattle.model.specs.Lists.{anyb, apart, filterb, sorted, concat_map}
use Rattle.model.specs.Lawful.{clash}
use Rattle.model.specs.Lines.{Line, render_all}
use Rattle.model.specs.Names.{Name}
use Rattle.model.specs.Memory.{Memory, boxes, mails, may_read, no_mailbox}
use Rattle.model.specs.Requests.{Search}
use Rattle.model.specs.Searching.{matches, candidates, admits, or_selected, found_line, found_lines}
use Rattle.model.specs.Listing.{by_name}
use Rattle.model.specs.declared.Mailbox.{Mailbox}
use Rattle.model.specs.declared.Uid.{Uid}
use Rattle.model.specs.Rendered.{render-append}
use Rattle.line_put.specs.declared.Writer.{Writer}
use Rattle.line_put.specs.Writes.{Writes, writes_nothing, Goes, goes_on}
use Rattle.table_mailboxes.specs.declared.Columns.{Columns}
use Rattle.table_mailboxes.specs.Columns.{Column, Names, name_at, name_at_lem}
use Rattle.search_find.specs.Finds.{Held}
use Rattle.search_find.specs.Runs.{sought, sought_is, id_at, run_at, Found}
use Rattle.read_options.specs.declared.Returns.{Returns}
use Rattle.read_search.specs.Searched.{returns_for}
use Rattle.line_found.specs.Line.{uids_of, line_text, line_is}
use Rattle.line_found.specs.Room.{sizes_fit}
use Rattle.order_mailboxes.specs.Named.{chosen, Below}

-- a name has at most 64 octets
pub name_short : (lens names : List ℕ) (k : ℕ) → length (name_at lens names k) ≤ 64
name_short lens names k = let a = length-take (get_or lens k 0) (take 64 (drop (64 * k) names)) in let b = length-take 64 (drop (64 * k) names) in omega arith

-- as code says how long a run is
pub run-part : (from n : ℕ) → from + n - from ≡ n
run-part from n = omega arith

-- nothing was found
pub line_none : (tag : List ℕ) (name : Name) (v : ℕ) (w : Returns) (l : List ℕ) → length l ≡ 0 → line_text tag name v w (uids_of l) ≡ []
unfolding line_text
line_none tag name v w [] e = refl
line_none tag name v w (x ∷ l) e = absurd (omega arith)

-- ---- the lines of the places of an order of rows
module _ (tag : List ℕ) (c : Columns) (rows : List ℕ) (w : Returns) (uids starts counts : List ℕ) where
  abbrev pub place_text : ℕ → List ℕ
  place_text i = line_text tag (name_at c.lens c.names (get_or rows i 0 % 64)) (get_or c.validities (get_or rows i 0 % 64) 0) w (run_at uids starts counts i)

  -- of the first n places, the highest first
  unfoldable pub texts : ℕ → List ℕ
  texts zero = []
  texts (suc n) = place_text n ++ texts n

  texts-more : (n : ℕ) → texts (n + 1) ≡ place_text n ++ texts n
  unfolding texts
  texts-more n = rw (add-one n)

  texts_none : texts 0 ≡ []
  unfolding texts
  texts_none = refl

  pub goes_next : {v v' v₁ : Writer} {all : List ℕ} (i : ℕ) → 0 < i → Goes v all v' (texts i) → Writes v' (place_text (i - 1)) v₁ → Goes v all v₁ (texts (i - 1))
  goes_next i h g p = let e : i - 1 + 1 ≡ i = omega arith in goes_on (rw (← e, texts-more (i - 1)) at g) p

  pub goes_end : {v v' : Writer} {all : List ℕ} → v'.limit ≤ length v'.queue.now → Goes v all v' (texts 0) → Writes v all v'
  goes_end {v} {v'} {all} h g = g v' (writes_nothing texts_none h)

-- ---- they are the definition's, where the columns are those of its mailboxes and the runs are what its keys find
module _ (m : Memory) (q : Search) (tag : List ℕ) (l : List Mailbox) (few : length l ≤ 64)
    (c : Columns) (rows : List ℕ) (ci : Column (λ x. x.id) l c.ids) (cl : Column (λ x. x.namelen) l c.lens) (cn : Names l c.names) (cv : Column (λ x. x.uidvalidity) l c.validities)
    (uids starts counts : List ℕ) where
  abbrev line_of : Mailbox → List Line
  line_of x = found_line tag q x (matches q.keys (candidates m x))

  place_is : (i k : ℕ) → get_or rows i 0 % 64 ≡ k → k < length l → run_at uids starts counts i ≡ matches q.keys (sought (mails m) m.session.selected m.session.told (id_at c.ids rows i))
      → place_text tag c rows (returns_for q) uids starts counts i ≡ render_all (line_of (get_or l k no_mailbox))
  place_is i k e h r =
      let x = get_or l k no_mailbox in
      let t : run_at uids starts counts i ≡ matches q.keys (candidates m x) = r ∙ ap (matches q.keys) (ap (λ (j : ℕ). sought (mails m) m.session.selected m.session.told j) (ap (λ (j : ℕ). get_or c.ids j 0) e ∙ ci k h) ∙ sought_is m x) in
      ap₂ (λ (j : ℕ) (us : List Uid). line_text tag (name_at c.lens c.names j) (get_or c.validities j 0) (returns_for q) us) e t
      ∙ (ap₂ (λ (n : Name) (v : ℕ). line_text tag n v (returns_for q) (matches q.keys (candidates m x))) (name_at_lem l c.lens c.names k cl cn h) (cv k h)
      ∙ line_is tag q x (matches q.keys (candidates m x)))

  texts_are : (n : ℕ) → Below rows n (length l) → ((j : ℕ) → j < n → run_at uids starts counts j ≡ matches q.keys (sought (mails m) m.session.selected m.session.told (id_at c.ids rows j)))
      → texts tag c rows (returns_for q) uids starts counts n ≡ render_all (concat_map line_of (chosen l rows n))
  unfolding texts chosen render_all
  texts_are zero b r = refl
  texts_are (suc n) b r =
      let h = b n (omega arith) in
      let k : get_or rows n 0 % 64 < length l = omega arith in
      ap₂ (λ (x y : List ℕ). x ++ y) (place_is n (get_or rows n 0 % 64) refl k (r n (omega arith))) (texts_are n (λ j z. b j (omega arith)) (λ j z. r j (omega arith)))
      ∙ sym (render-append (line_of (get_or l (get_or rows n 0 % 64) no_mailbox)) (concat_map line_of (chosen l rows n)))

  -- the whole answer of a search
  pub lines_are : (n : ℕ) (cells : List ℕ) → boxes m ≡ l → length (mails m) ≤ 1024 → apart clash l ≡ true → Below rows n (length l)
      → chosen l rows n ≡ sorted by_name (filterb (λ (x : Mailbox). may_read x && anyb (admits m x) (or_selected q.sources)) l)
      → Held cells q.keys → Found (mails m) c.ids rows n m.session.selected m.session.told cells uids starts counts
      → texts tag c rows (returns_for q) uids starts counts n ≡ render_all (found_lines m tag q)
  lines_are n cells eb many a b e held f =
      let z = sizes_fit (mails m) l c.ids rows few ci n (λ (x : Mailbox). may_read x && anyb (admits m x) (or_selected q.sources)) b e a in
      texts_are n b (f.exact q.keys held (omega arith))
      ∙ ap (λ (xs : List Mailbox). render_all (concat_map line_of xs)) (e ∙ ap (λ (xs : List Mailbox). sorted by_name (filterb (λ (x : Mailbox). may_read x && anyb (admits m x) (or_selected q.sources)) xs)) (sym eb))
