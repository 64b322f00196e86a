-- All lines that are owed, and all that announce what is new, as texts and in the rules' words. Assumes nothing.
use Rattle.std.specs.Prelude.{◌≡◌, refl, Bool, true, false, not, ◌&&◌, ℕ, ◌+◌, ltb, length}
use Rattle.std.proofs.Math.Path.{ap, ap₂, sym}
use Rattle.std.proofs.Common.{◌∙◌}
use Rattle.std.proofs.Math.Bool.{cond}
use mathlib.Core.List.{List, [], ◌∷◌, ◌++◌, append_assoc, append-nil}
use Rattle.model.specs.Lists.{filterb, keep}
use Rattle.model.specs.Memory.{Memory, uid_of, expunged}
use Rattle.model.specs.Lines.{Line, render_all}
use Rattle.model.specs.View.{view, unannounced, selected_messages, expunge_lines, exists_line, marked_lines, new_lines, owed_lines, announcing, shows_any, shown_items}
use Rattle.model.specs.declared.Message.{Message}
use Rattle.model.specs.Rendered.{render-append}
use Rattle.model.specs.Laws.{and-true}
use Rattle.order_messages.specs.Counts.{stays, fresh}
use Rattle.line_fetch.specs.declared.Shows.{Shows}
use Rattle.line_message.specs.declared.Part.TheVariants.{Expunged, Marked, New}
use Rattle.line_message.specs.Counts.{exists_text, exists_line_lem}
use Rattle.line_fetch.specs.Items.{shown}
use Rattle.line_message.specs.Parts.{part_text, gone-lines, marked-lines, new-lines}

-- what class 1 owes, along a mailbox's entries by UID
unfoldable pub owed_text : ℕ → List Message → List ℕ
owed_text told l = (part_text Expunged told 1 l ++ exists_text (length (filterb (stays told true) l)) (length (filterb (fresh told) l))) ++ part_text Marked told 1 l

-- what announces all that is new
unfoldable pub news_text : ℕ → Shows → List Message → List ℕ
news_text told w l = exists_text (length (filterb (stays told false) l)) (length (filterb (fresh told) l)) ++ cond w.any (part_text (New w) told (length (filterb (stays told false) l) + 1) l) []

-- with the counts as the code has them
pub exists_as : (k n k' n' : ℕ) → k ≡ k' → n ≡ n' → exists_text k n ≡ exists_text k' n'
exists_as k n k' n' e f = ap₂ exists_text e f

module _ (told : ℕ) (w : Shows) (l : List Message) (k n : ℕ) (e : k ≡ length (filterb (stays told false) l)) (f : n ≡ length (filterb (fresh told) l)) where
  pub news_bare : w.any ≡ false → exists_text k n ≡ news_text told w l
  unfolding news_text
  news_bare a = ap₂ exists_text e f ∙ (sym (append-nil (exists_text (length (filterb (stays told false) l)) (length (filterb (fresh told) l)))) ∙ rw a)

  pub news-full : w.any ≡ true → exists_text k n ++ part_text (New w) told (k + 1) l ≡ news_text told w l
  unfolding news_text
  news-full a = rw (a, ← e, ← f)

-- those that the client has, and those of them that exist
has_all : (told : ℕ) (l : List Message) → filterb (stays told false) l ≡ filterb (λ (e : Message). ltb (uid_of e) told) l
has_all told [] = refl
has_all told (e ∷ l) = ap₂ (λ (b : Bool) (t : List Message). keep b e t) (and-true (ltb (uid_of e) told)) (has_all told l)

has_live : (told : ℕ) (l : List Message) → filterb (stays told true) l ≡ filterb (λ (e : Message). not (expunged e)) (filterb (λ (e : Message). ltb (uid_of e) told) l)
has_live told [] = refl
has_live told (e ∷ l) = go (ltb (uid_of e) told) (has_live told l)
  where
    rest : List Message
    rest = filterb (λ (d : Message). ltb (uid_of d) told) l

    go : (a : Bool) → filterb (stays told true) l ≡ filterb (λ (d : Message). not (expunged d)) rest → keep (a && not (expunged e)) e (filterb (stays told true) l) ≡ filterb (λ (d : Message). not (expunged d)) (keep a e rest)
    go true h = ap (keep (not (expunged e)) e) h
    go false h = h

gather : (a b c : List Line) → (render_all a ++ render_all b) ++ render_all c ≡ render_all (a ++ (b ++ c))
gather a b c = append_assoc (render_all a) (render_all b) (render_all c) ∙ sym (render-append a (b ++ c) ∙ ap (λ (x : List ℕ). render_all a ++ x) (render-append b c))

some-lines : (b : Bool) (ls : List Line) → cond b (render_all ls) [] ≡ render_all (cond b ls [])
unfolding render_all
some-lines true ls = refl
some-lines false ls = refl

module _ (m : Memory) where
  abbrev t : ℕ
  t = m.session.told

  abbrev all : List Message
  all = selected_messages m

  abbrev live : List Message
  live = filterb (λ (e : Message). not (expunged e)) (view m)

  pub owed-text : owed_text t all ≡ render_all (owed_lines m 1)
  unfolding owed_text
  owed-text =
      ap₂ ◌++◌
      (ap₂ ◌++◌ (gone-lines t 1 all) (ap (λ (v : List Message). exists_text (length v) (length (unannounced m))) (has_live t all) ∙ exists_line_lem (length live) (unannounced m)))
      (marked-lines t 1 all)
      ∙ gather (expunge_lines 1 (view m)) (exists_line (length live) (unannounced m)) (marked_lines 1 live)

  pub news-text : (w : Shows) → w.any ≡ shows_any m.session → ((e : Message) → shown w e ≡ shown_items m.session e) → news_text t w all ≡ render_all (announcing m)
  unfolding news_text
  news-text w any is =
      ap (λ (v : List Message). exists_text (length v) (length (unannounced m)) ++ cond w.any (part_text (New w) t (length v + 1) all) []) (has_all t all)
      ∙ (ap₂ ◌++◌ (exists_line_lem (length (view m)) (unannounced m))
      (ap₂ (λ (b : Bool) (x : List ℕ). cond b x []) any (new-lines t w m.session is (length (view m) + 1) all) ∙ some-lines (shows_any m.session) (new_lines m.session (length (view m) + 1) (unannounced m)))
      ∙ sym (render-append (exists_line (length (view m)) (unannounced m)) (cond (shows_any m.session) (new_lines m.session (length (view m) + 1) (unannounced m)) [])))
