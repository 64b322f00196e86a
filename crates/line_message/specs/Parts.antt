-- The lines about a mailbox's messages, one after the other along its entries by UID: EXPUNGE, FETCH of a mark, FETCH of a new message. Assumes nothing.
use Rattle.std.specs.Prelude.{◌≡◌, Bool, true, false, cond, ◌&&◌, ℕ, ◌+◌, ◌-◌, ◌<◌, ◌≤◌, ◌/◌, ◌%◌, ltb, length, get_or}
use Rattle.std.proofs.Math.Path.{refl, ap, ap₂, sym}
use Rattle.std.proofs.Common.{◌∙◌, arith, lt-ltb, le-ltb, eq-eqb, ne_eqb}
use Rattle.std.proofs.Math.Bool.{not}
use mathlib.Core.List.{List, [], ◌∷◌, ◌++◌}
use Rattle.model.specs.Lists.{filterb, keep}
use Rattle.model.specs.Memory.{no_message, uid_of, expunged, marked}
use Rattle.model.specs.Lines.{Item, modseq, expunge, fetch, render, render_all}
use Rattle.model.specs.View.{expunge_lines, marked_lines, new_lines, flags_line, shown_items}
use Rattle.model.specs.declared.Message.{Message}
use Rattle.model.specs.declared.Session.{Session}
use Rattle.line_put.specs.declared.Writer.{Writer}
use Rattle.line_put.specs.Writes.{Writes, writes_none, Goes, goes_on}
use Rattle.order_messages.specs.Chosen.{chosen}
use Rattle.order_messages.specs.Counts.{stays, chosen_top}
use Rattle.line_fetch.specs.declared.Shows.{Shows}
use Rattle.line_message.specs.declared.Part.{Part}
use Rattle.line_message.specs.declared.Part.TheVariants.{Expunged, Marked, New}
use Rattle.line_message.specs.Counts.{count_text, expunge_word, expunge-text}
use Rattle.line_fetch.specs.Fetch.{fetch_text, fetch_line}
use Rattle.line_fetch.specs.Items.{new_text, new-text, shown}

-- what is written for an entry whose place is n, and the place of the next: the client was told of UIDs below `told`
abbrev pub text_of : Part → ℕ → ℕ → Message → List ℕ
text_of Expunged told n e = cond (ltb (uid_of e) told && expunged e) (count_text n expunge_word) []
text_of Marked told n e = cond (stays told true e && marked e) (fetch_text n (uid_of e) e.flags e.counter) []
text_of (New w) told n e = cond (ltb (uid_of e) told) [] (new_text w n e)

abbrev pub next_of : Part → ℕ → ℕ → Message → ℕ
next_of Expunged told n e = cond (stays told true e) (n + 1) n
next_of Marked told n e = cond (stays told true e) (n + 1) n
next_of (New w) told n e = cond (ltb (uid_of e) told) n (n + 1)

unfoldable pub part_text : Part → ℕ → ℕ → List Message → List ℕ
part_text part told n [] = []
part_text part told n (e ∷ l) = text_of part told n e ++ part_text part told (next_of part told n e) l

-- ---- one entry, as the code tests it
module _ (told n : ℕ) (e : Message) where
  pub off-gone : told ≤ uid_of e → text_of Expunged told n e ≡ []
  off-gone h = rw (le-ltb (uid_of e) told h)

  pub off-marked : told ≤ uid_of e → text_of Marked told n e ≡ []
  off-marked h = rw (le-ltb (uid_of e) told h)

  pub gone-marked : e.states % 2 ≡ 1 → text_of Marked told n e ≡ []
  gone-marked k = go (ltb (uid_of e) told)
    where
      go : (b : Bool) → cond ((b && not (expunged e)) && marked e) (fetch_text n (uid_of e) e.flags e.counter) [] ≡ []
      go true = rw (eq-eqb (e.states % 2) 1 k)
      go false = refl

  pub is-marked : uid_of e < told → (e.states % 2 ≡ 1 → ⊥) → e.states / 2 % 2 ≡ 1 → fetch_text n (uid_of e) e.flags e.counter ≡ text_of Marked told n e
  is-marked h k m = rw (lt-ltb (uid_of e) told h, ne_eqb (e.states % 2) 1 k, eq-eqb (e.states / 2 % 2) 1 m)

  pub not-marked : (e.states / 2 % 2 ≡ 1 → ⊥) → text_of Marked told n e ≡ []
  not-marked m = go (stays told true e)
    where
      go : (b : Bool) → cond (b && marked e) (fetch_text n (uid_of e) e.flags e.counter) [] ≡ []
      go true = rw (ne_eqb (e.states / 2 % 2) 1 m)
      go false = refl

  -- the next place is at most one further
  pub next_most : (part : Part) → next_of part told n e ≤ n + 1
  next_most Expunged = most (stays told true e)
    where
      most : (b : Bool) → cond b (n + 1) n ≤ n + 1
      most true = omega arith
      most false = omega arith
  next_most Marked = most (stays told true e)
    where
      most : (b : Bool) → cond b (n + 1) n ≤ n + 1
      most true = omega arith
      most false = omega arith
  next_most (New w) = most (ltb (uid_of e) told)
    where
      most : (b : Bool) → cond b n (n + 1) ≤ n + 1
      most true = omega arith
      most false = omega arith

-- ---- the loop
module _ (part : Part) (told : ℕ) (es : List Message) (order : List ℕ) {w w' : Writer} {all : List ℕ} where
  pub part_next_lem : (j n : ℕ) {w₁ : Writer} (n₁ : ℕ) (e : Message) → 0 < j → Goes w all w' (part_text part told n (chosen es order j))
      → e ≡ get_or es (get_or order (j - 1) 0) no_message → Writes w' (text_of part told n e) w₁ → n₁ ≡ next_of part told n e
      → Goes w all w₁ (part_text part told n₁ (chosen es order (j - 1)))
  unfolding part_text
  part_next_lem j n n₁ e h g x p y =
      let top : part_text part told n (chosen es order j) ≡ text_of part told n e ++ part_text part told n₁ (chosen es order (j - 1)) =
      ap (part_text part told n) (chosen_top es order j h)
      ∙ ap₂ (λ (d : Message) (k : ℕ). text_of part told n d ++ part_text part told k (chosen es order (j - 1))) (sym x) (ap (next_of part told n) (sym x) ∙ sym y) in
      goes_on (rw top at g) p

  pub part_end : (n : ℕ) → w'.limit ≤ length w'.queue.now → Goes w all w' (part_text part told n (chosen es order 0)) → Writes w all w'
  unfolding part_text chosen
  part_end n h g = g w' (writes_none w' h)

-- ---- in the rules' words
module _ (told : ℕ) where
  abbrev known : Message → Bool
  known e = ltb (uid_of e) told

  pub gone-lines : (n : ℕ) (l : List Message) → part_text Expunged told n l ≡ render_all (expunge_lines n (filterb known l))
  unfolding part_text expunge_lines render_all
  gone-lines n [] = refl
  gone-lines n (e ∷ l) = go (known e) (gone-lines n l) (gone-lines (n + 1) l)
    where
      rest : List Message
      rest = filterb known l

      gone : (b : Bool) → part_text Expunged told n l ≡ render_all (expunge_lines n rest) → part_text Expunged told (n + 1) l ≡ render_all (expunge_lines (n + 1) rest)
          → cond b (count_text n expunge_word) [] ++ part_text Expunged told (cond (not b) (n + 1) n) l ≡ render_all (cond b (expunge (record { 0 = n }) e.uid ∷ expunge_lines n rest) (expunge_lines (n + 1) rest))
      gone true x y = ap₂ ◌++◌ (expunge-text n e.uid) x
      gone false x y = y

      go : (a : Bool) → part_text Expunged told n l ≡ render_all (expunge_lines n rest) → part_text Expunged told (n + 1) l ≡ render_all (expunge_lines (n + 1) rest)
          → cond (a && expunged e) (count_text n expunge_word) [] ++ part_text Expunged told (cond (a && not (expunged e)) (n + 1) n) l ≡ render_all (expunge_lines n (keep a e rest))
      go true x y = gone (expunged e) x y
      go false x y = x

  pub marked-lines : (n : ℕ) (l : List Message) → part_text Marked told n l ≡ render_all (marked_lines n (filterb (λ (e : Message). not (expunged e)) (filterb known l)))
  unfolding part_text marked_lines render_all
  marked-lines n [] = refl
  marked-lines n (e ∷ l) = go (known e) (marked-lines n l) (marked-lines (n + 1) l)
    where
      rest : List Message
      rest = filterb known l

      there : List Message
      there = filterb (λ (d : Message). not (expunged d)) rest

      waits : (c : Bool) → part_text Marked told (n + 1) l ≡ render_all (marked_lines (n + 1) there)
          → cond c (fetch_text n (uid_of e) e.flags e.counter) [] ++ part_text Marked told (n + 1) l ≡ render_all (cond c (flags_line n e ∷ marked_lines (n + 1) there) (marked_lines (n + 1) there))
      waits true y = ap₂ ◌++◌ (fetch_line n e) y
      waits false y = y

      live : (b : Bool) → part_text Marked told n l ≡ render_all (marked_lines n there) → part_text Marked told (n + 1) l ≡ render_all (marked_lines (n + 1) there)
          → cond (not b && marked e) (fetch_text n (uid_of e) e.flags e.counter) [] ++ part_text Marked told (cond (not b) (n + 1) n) l ≡ render_all (marked_lines n (keep (not b) e there))
      live true x y = x
      live false x y = waits (marked e) y

      go : (a : Bool) → part_text Marked told n l ≡ render_all (marked_lines n there) → part_text Marked told (n + 1) l ≡ render_all (marked_lines (n + 1) there)
          → cond ((a && not (expunged e)) && marked e) (fetch_text n (uid_of e) e.flags e.counter) [] ++ part_text Marked told (cond (a && not (expunged e)) (n + 1) n) l
          ≡ render_all (marked_lines n (filterb (λ (d : Message). not (expunged d)) (keep a e rest)))
      go true x y = live (expunged e) x y
      go false x y = x

  pub new-lines : (w : Shows) (s : Session) → ((e : Message) → shown w e ≡ shown_items s e) → (n : ℕ) (l : List Message)
      → part_text (New w) told n l ≡ render_all (new_lines s n (filterb (λ (e : Message). not (known e)) l))
  unfolding part_text new_lines render_all
  new-lines w s is n [] = refl
  new-lines w s is n (e ∷ l) = go (known e) (new-lines w s is n l) (new-lines w s is (n + 1) l)
    where
      rest : List Message
      rest = filterb (λ (d : Message). not (known d)) l

      go : (a : Bool) → part_text (New w) told n l ≡ render_all (new_lines s n rest) → part_text (New w) told (n + 1) l ≡ render_all (new_lines s (n + 1) rest)
          → cond a [] (new_text w n e) ++ part_text (New w) told (cond a n (n + 1)) l ≡ render_all (new_lines s n (keep (not a) e rest))
      go true x y = x
      go false x y = ap₂ ◌++◌ (new-text w n e ∙ ap (λ (i : List Item). render (fetch (record { 0 = n }) e.uid (i ++ (modseq e.counter ∷ [])))) (is e)) y
