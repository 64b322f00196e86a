-- The texts of the listing: of one row on plain values, of an order from its top. Assumes nothing.
use Rattle.std.specs.Prelude.{◌≡◌, Bool, true, false, not, cond, ◌&&◌, length, get_or, take, drop, ◌*◌}
use Rattle.std.proofs.lemmas.List.{length-take}
use Rattle.std.proofs.Math.Path.{refl, ap₂, sym}
use Rattle.std.proofs.Common.{ap, ◌∙◌, subst, add-one, arith}
use mathlib.Core.List.{List, [], ◌∷◌, ◌++◌}
use Prim.Native.Nat.{ℕ, zero, suc, ◌+◌, ◌-◌, ◌<◌, ◌≤◌, ◌%◌}
use Rattle.model.specs.Lists.{concat_map, when, sorted, filterb}
use Rattle.model.specs.Lines.{Line, list, status, set_items, no_access, render, render_all}
use Rattle.model.specs.Memory.{Memory, boxes, mails, name_of, no_mailbox, counter_of, may_read, may_list, is_selected, existing}
use Rattle.model.specs.Groups.{asked_of, asks_messages}
use Rattle.model.specs.Listing.{listing_line, listing, concerns, by_name}
use Rattle.model.specs.declared.Mailbox.{Mailbox}
use Rattle.model.specs.declared.Session.{Session}
use Rattle.model.specs.Text.{bit}
use Rattle.model.specs.Rendered.{render-append}
use Rattle.table_mailboxes.specs.Columns.{Column, Names, name_at, name_at_lem}
use Rattle.table_mailboxes.specs.declared.Columns.{Columns}
use Rattle.line_put.specs.declared.Writer.{Writer}
use Rattle.line_put.specs.Writes.{Writes, writes_nothing, Goes, goes_on}
use Rattle.order_mailboxes.specs.Named.{chosen, row_at, Below}
use Rattle.table_mailboxes.specs.Columns.{noted}

-- the line of a row by its attributes, name, UIDNEXT, UIDVALIDITY and counter
abbrev pub line_by : ℕ → List ℕ → ℕ → ℕ → ℕ → ℕ → Bool → List ℕ
line_by a name next validity highest messages on = cond (bit 5 a) (cond on (render (status name (set_items messages next validity highest))) []) (render (list no_access name))

-- the line of a row
abbrev pub line_text : Mailbox → ℕ → Bool → List ℕ
line_text x messages on = line_by x.attributes (name_of x) x.uidnext x.uidvalidity (counter_of x) messages on

append_none : (l : List ℕ) → l ++ [] ≡ l
append_none [] = refl
append_none (x ∷ l) = ap (λ (r : List ℕ). x ∷ r) (append_none l)

-- whether the STATUS of a row is told
abbrev pub tells_status : Memory → Session → Bool → Mailbox → Bool
tells_status m s wanted x = wanted && (not (is_selected m x.id) && asked_of s x asks_messages)

pub line_is : (m : Memory) (s : Session) (wanted : Bool) (x : Mailbox) → line_text x (length (existing x.id (mails m))) (tells_status m s wanted x) ≡ render_all (listing_line m s wanted x)
unfolding render_all
line_is m s wanted x =
    go (may_read x) (tells_status m s wanted x)
    (status (name_of x) (set_items (length (existing x.id (mails m))) x.uidnext x.uidvalidity (counter_of x))) (list no_access (name_of x))
  where
    go : (r b : Bool) (u v : Line) → cond r (cond b (render u) []) (render v) ≡ render_all (cond r (when b u) (v ∷ []))
    go true true u v = sym (append_none (render u))
    go true false u v = refl
    go false b u v = sym (append_none (render v))

-- the counts and the notes are those of f's lines
abbrev pub Tells : (Mailbox → List Line) → List Mailbox → List ℕ → List ℕ → Type 0
Tells f l counts asks = (k : ℕ) → k < length l → line_text (get_or l k no_mailbox) (get_or counts k 0) (noted (get_or asks k 0)) ≡ render_all (f (get_or l k no_mailbox))

-- from the rules: counts of messages that exist, where STATUS is wanted, and whether a STATUS is told
pub tells-listing : (m : Memory) (s : Session) (wanted : Bool) (l : List Mailbox) (counts asks : List ℕ)
    → (wanted ≡ true → (k : ℕ) → k < length l → get_or counts k 0 ≡ length (existing (get_or l k no_mailbox).id (mails m)))
    → ((k : ℕ) → k < length l → noted (get_or asks k 0) ≡ tells_status m s wanted (get_or l k no_mailbox)) → Tells (listing_line m s wanted) l counts asks
tells-listing m s true l counts asks p q k h = ap₂ (λ (c : ℕ) (b : Bool). line_text (get_or l k no_mailbox) c b) (p refl k h) (q k h) ∙ line_is m s true (get_or l k no_mailbox)
tells-listing m s false l counts asks p q k h = ap (λ (b : Bool). line_text (get_or l k no_mailbox) (get_or counts k 0) b) (q k h) ∙ line_is m s false (get_or l k no_mailbox)

-- the columns that lines show
pub record Shown (l : List Mailbox) (c : Columns) : Type 0 where
  pub attribute : Column (λ (x : Mailbox). x.attributes) l c.attributes
  pub len : Column (λ (x : Mailbox). x.namelen) l c.lens
  pub validity : Column (λ (x : Mailbox). x.uidvalidity) l c.validities
  pub next : Column (λ (x : Mailbox). x.uidnext) l c.nexts
  pub counter : Column counter_of l c.counters
  pub name : Names l c.names

-- a name has at most 64 octets
pub name_short : (lens names : List ℕ) (k : ℕ) → length (name_at lens names k) ≤ 64
name_short lens names k = let a = length-take (get_or lens k 0) (take 64 (drop (64 * k) names)) in let b = length-take 64 (drop (64 * k) names) in omega arith

-- the line of row k
abbrev pub line_at : Columns → ℕ → ℕ → Bool → List ℕ
line_at c k messages on = line_by (get_or c.attributes k 0) (name_at c.lens c.names k) (get_or c.nexts k 0) (get_or c.validities k 0) (get_or c.counters k 0) messages on

pub line-at :
    (l : List Mailbox) (c : Columns) → Shown l c
    → (k messages : ℕ) (on : Bool) → k < length l
    → line_at c k messages on ≡ line_text (get_or l k no_mailbox) messages on
line-at l c w k messages on h = rw (w.attribute k h, name_at_lem l c.lens c.names k w.len w.name h, w.next k h, w.validity k h, w.counter k h)

module _ (c : Columns) (at counts asks : List ℕ) where
  -- the line at a place
  abbrev pub place_text : ℕ → List ℕ
  place_text k = line_at c (k % 64) (get_or counts (k % 64) 0) (noted (get_or asks (k % 64) 0))

  -- the lines of the first n places, the highest first
  unfoldable pub texts : ℕ → List ℕ
  texts zero = []
  texts (suc n) = place_text (get_or at n 0) ++ texts n

  pub texts-more : (n : ℕ) → texts (n + 1) ≡ place_text (get_or at n 0) ++ texts n
  unfolding texts
  texts-more n = rw (add-one n)

  pub texts_none : texts 0 ≡ []
  unfolding texts
  texts_none = refl

small : (k m : ℕ) → k < m → m ≤ 64 → k % 64 ≡ k
small k m h w = omega arith

-- they are f's lines
module _ (f : Mailbox → List Line) (l : List Mailbox) (c : Columns) (at counts asks : List ℕ) (w : length l ≤ 64) (v : Shown l c) (t : Tells f l counts asks) where
  place_is : (k : ℕ) → k < length l → place_text c at counts asks k ≡ render_all (f (row_at l k))
  place_is k h =
      subst (λ (j : ℕ). line_at c j (get_or counts j 0) (noted (get_or asks j 0)) ≡ render_all (f (get_or l j no_mailbox))) (sym (small k (length l) h w))
      (line-at l c v k (get_or counts k 0) (noted (get_or asks k 0)) h ∙ t k h)

  pub texts_are : (n : ℕ) → Below at n (length l) → texts c at counts asks n ≡ render_all (concat_map f (chosen l at n))
  unfolding texts chosen render_all
  texts_are zero b = refl
  texts_are (suc n) b =
      ap₂ (λ (a c : List ℕ). a ++ c) (place_is (get_or at n 0) (b n (omega arith))) (texts_are n (λ j h. b j (omega arith)))
      ∙ sym (render-append (f (row_at l (get_or at n 0))) (concat_map f (chosen l at n)))

-- what is still to be written, when i places are left
module _ (c : Columns) (order counts asks : List ℕ) {w w' : Writer} {all : List ℕ} where
  pub goes_next :
      (i : ℕ) {w₁ : Writer} → 0 < i
      → Goes w all w' (texts c order counts asks i)
      → Writes w' (place_text c order counts asks (get_or order (i - 1) 0)) w₁
      → Goes w all w₁ (texts c order counts asks (i - 1))
  goes_next i h g p =
      let e : i - 1 + 1 ≡ i = omega arith in
      goes_on (rw (← e, texts-more c order counts asks (i - 1)) at g) p

  pub goes_end : w'.limit ≤ length w'.queue.now → Goes w all w' (texts c order counts asks 0) → Writes w all w'
  goes_end h g = g w' (writes_nothing (texts_none c order counts asks) h)

-- the listing of the rules
pub listing-is :
    (m : Memory) (s : Session) (wanted : Bool) (order : List ℕ) (r : ℕ)
    → chosen (boxes m) order r ≡ sorted by_name (filterb (λ (x : Mailbox). may_list x && concerns m s x) (boxes m))
    → render_all (concat_map (listing_line m s wanted) (chosen (boxes m) order r)) ≡ render_all (listing m s wanted)
listing-is m s wanted order r c = ap (λ (l : List Mailbox). render_all (concat_map (listing_line m s wanted) l)) c
