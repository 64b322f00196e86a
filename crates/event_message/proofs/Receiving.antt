-- `ME` with all that code finds by itself leaves what the rules say. Assumes nothing.
use Rattle.std.specs.Prelude.{◌≡◌, Bool, true, ◌&&◌, List, ℕ, ◌+◌, ◌<◌, ◌≤◌, eqb, length, set}
use Rattle.std.proofs.Math.Path.{ap}
use Rattle.std.proofs.Common.{ap₂, sym, ◌∙◌, eqb-true}
use Rattle.std.proofs.Math.Bool.{not}
use Rattle.model.specs.Laws.{and_r}
use Rattle.model.specs.Memory.{Memory, boxes, filled, place, known, the_mailbox, selected_box, both_rights, is_selected, with_next}
use Rattle.model.specs.Groups.{asked_of, asks_new, selected_asks}
use Rattle.model.specs.View.{new_at_once}
use Rattle.model.specs.Events.{message, arrived}
use Rattle.model.specs.Rules.{event_outcome}
use Rattle.demands.specs.Lasting.Law.{Law}
use Rattle.demands.specs.Isolation.Erase.{box_id}
use Rattle.model.specs.declared.Mailbox.{Mailbox}
use Rattle.table_mailboxes.specs.Rows.{rows_are}
use Rattle.match_groups.specs.Asking.{asks_bit}
use Rattle.event_message.specs.After.{After, arrive_after}
use Rattle.event_message.specs.Accepted.{left}
use Rattle.event_message.proofs.Arriving.{arrive_told}
use Rattle.event_message.specs.Free.{news_free, away_free}
use Rattle.event_message.specs.Deciding.{is_chosen, and_same}
use Rattle.event_message.specs.Shown.{shows_of, any_is, items_are}
use Rattle.event_message.specs.Receiving.{receive_after}

-- what is left, from what was found
each : (f : ℕ → Bool → Bool → After) {n n' : ℕ} {a a' b b' : Bool} → n ≡ n' → a ≡ a' → b ≡ b' → f n a b ≡ f n' a' b'
each f {n} {n'} {a} {a'} {b} {b'} p q r = ap (λ (i : ℕ). f i a b) p ∙ ap₂ (λ (i j : Bool). f n' i j) q r

-- m is lawful memory with other rows: the record's counter is in its mailbox's row already
module _ (b : Memory) (law : Law b) (rs : List Mailbox) (many : ℕ) (fit : many ≤ length rs) (i u f z c k : ℕ) (at : k ≡ place i (boxes (rows_are b rs many))) (h : k < many) (space : b.counts.messages < length b.entries)
    (there : known i (boxes (rows_are b rs many)) ≡ true) (low : is_selected b i ≡ true → b.session.told ≤ u) where
  abbrev m : Memory
  m = rows_are b rs many

  abbrev x : Mailbox
  x = the_mailbox i (boxes m)

  the_id : x.id ≡ i
  the_id = box_id i (boxes m) there

  chosen : is_chosen m.session x ≡ is_selected m i
  chosen = ap (λ (n : ℕ). not (eqb n 0) && eqb n m.session.selected) the_id

  -- the selected mailbox's rights are this one's
  rights : is_selected m i ≡ true → both_rights (selected_box m) ≡ both_rights x
  rights v = ap (λ (n : ℕ). both_rights (the_mailbox n (boxes m))) (sym (eqb-true i m.session.selected (and_r (not (eqb i 0)) (eqb i m.session.selected) v)))

  soon : (is_chosen m.session x && (both_rights x && selected_asks m.session (asks_bit 0))) ≡ (is_selected m i && new_at_once m)
  soon = ap (λ (b : Bool). b && (both_rights x && selected_asks m.session (asks_bit 0))) chosen
      ∙ and_same (is_selected m i) (both_rights x && selected_asks m.session (asks_bit 0)) (new_at_once m) (λ v. ap (λ (b : Bool). b && selected_asks m.session (asks_bit 0)) (sym (rights v)))

  pub receive_told : (event_outcome m (λ (j : Memory). arrived j i u f z c)).after ≡ left m (set m.rows k (with_next x (u + 1))) (receive_after m.entries m.counts.messages m.queue m.session (filled m) x u f z c)
  unfolding receive_after
  receive_told =
      arrive_told m fit law.states i u f z c k at h space (shows_of m.session) (any_is m.session) (items_are m.session) low (news_free m law.fill i) (away_free m law.fill i (with_next x (u + 1)) asks_new)
      ∙ ap (left m (set m.rows k (with_next x (u + 1))))
      (sym (each (λ (n : ℕ) (a b : Bool). arrive_after m.entries m.counts.messages m.queue m.session (filled m) (with_next x (u + 1)) (message n u f z c) a b (shows_of m.session))
      the_id soon (ap (λ (c : Bool). not c && (both_rights x && asked_of m.session x (asks_bit 0))) chosen)))
