-- What NOTIFY SET owes first: its size, and what its lines end beside their octets. Assumes nothing.
use Rattle.std.specs.Prelude.{◌≡◌, refl, Bool, true, false, cond, List, [], ◌∷◌, ℕ, ◌+◌, ◌-◌, ◌≤◌, take}
use Rattle.std.proofs.Common.{ap, ap₂, ◌∙◌, arith, le-leb}
use Rattle.std.proofs.Math.Path.{sym}
use Rattle.std.proofs.Math.ListN.{length}
use Rattle.model.specs.Memory.{Memory, mails, filled, selected_box, both_rights, messages_of, change_mails}
use Rattle.model.specs.Lines.{Line, status, list, renamed, exists, expunge, fetch, found, overflow, answer, render_all}
use Rattle.model.specs.Queue.{written, room, enqueue, effect, effects, shows_flags, unmark}
use Rattle.model.specs.View.{owed, owed_lines, selected_messages}
use Rattle.model.specs.declared.Message.{Message}
use Rattle.model.specs.declared.Counts.{Counts}
use Rattle.model.specs.declared.Session.{Session}
use Rattle.demands.specs.Lasting.Law.{Law}
use Rattle.laws.specs.Fitting.{size}
use Rattle.table_messages.specs.Words.{messages}
use Rattle.line_put.specs.Put.{Put}
use Rattle.line_put.specs.Wrote.{written-length, written_none}
use Rattle.line_message.specs.Whole.{owed_text}
use Rattle.event_session.specs.After.{After, left}
use Rattle.event_session.specs.Ending.{end_after}
use Rattle.event_session.specs.Owed.{owed_said, owed_is-text}
use Rattle.line_answer.specs.Answered.{left_as}
use Rattle.line_answer.specs.Effects.{effects-enqueue}
use Rattle.record_outcome.specs.Coming.{Lends}

-- ---- the size, as it is measured
module _ (m : Memory) (ws : List ℕ) (k : Counts) (s : Session) (q : List ℕ) (lent : Lends m ws k s q) (law : Law m) where
  selected_are : messages_of s.selected (take k.messages (messages ws)) ≡ selected_messages m
  selected_are = sym (
      ap (λ (o : Session). messages_of o.selected (mails m)) lent.session
      ∙ ap₂ (λ (c : Counts) (l : List Message). messages_of s.selected (take c.messages l)) lent.counts lent.entries)

  pub owed_none : both_rights (selected_box m) ≡ false → 0 ≡ length (render_all (owed m 1))
  unfolding render_all
  owed_none r = sym (ap (λ (b : Bool). length (render_all (cond b (owed_lines m 1) []))) r)

  pub owed_measured : both_rights (selected_box m) ≡ true → {l : List Message} {q' : List ℕ} {r : ℕ} → l ≡ messages_of s.selected (take k.messages (messages ws))
      → Put q 0 0 (owed_text s.told l) q' r → r ≡ length (render_all (owed m 1))
  owed_measured r {l} e p =
      let n = p.next in
      let a : owed_text s.told l ≡ render_all (owed m 1) =
      ap₂ (λ (o : Session) (v : List Message). owed_text o.told v) (sym lent.session) (e ∙ selected_are) ∙ owed_is-text m law r in
      let b = ap length a in
      omega arith

-- ---- lines end nothing of the rows, nor of the queue
effect_keeps : (m : Memory) (l : Line) → effect m l ≡ left_as m (effect m l).entries (effect m l).counts.messages (effect m l).session m.queue (filled m)
effect_keeps m (status n is) = refl
effect_keeps m (list k n) = refl
effect_keeps m (renamed k new old) = refl
effect_keeps m (exists n) = refl
effect_keeps m (expunge n u) = refl
effect_keeps m (fetch n u is) = go (shows_flags is)
  where
    unmarked : Memory
    unmarked = change_mails m (unmark m.session.selected u.0)

    go : (b : Bool) → cond b unmarked m ≡ left_as m (cond b unmarked m).entries (cond b unmarked m).counts.messages (cond b unmarked m).session m.queue (filled m)
    go true = refl
    go false = refl
effect_keeps m (found g n v rs) = refl
effect_keeps m overflow = refl
effect_keeps m (answer g v r) = refl

effects-keep : (m : Memory) (ls : List Line) → effects m ls ≡ left_as m (effects m ls).entries (effects m ls).counts.messages (effects m ls).session m.queue (filled m)
unfolding effects
effects-keep m [] = refl
effects-keep m (l ∷ ls) =
    let e : Memory = effects (effect m l) ls in
    effects-keep (effect m l) ls ∙ ap (λ (j : Memory). left_as j e.entries e.counts.messages e.session j.queue (filled j)) (effect_keeps m l)

-- ---- where they fit, they leave what the end of a command leaves
module _ (m : Memory) (law : Law m) where
  abbrev pub ended : After
  ended = end_after m.entries m.counts.messages m.queue m.session (filled m) true (both_rights (selected_box m)) (selected_box m).uidnext

  pub ended_as : (ws : List ℕ) (k : Counts) (s : Session) (q : List ℕ) → Lends m ws k s q → (rights : Bool) (next : ℕ) → rights ≡ both_rights (selected_box m) → next ≡ (selected_box m).uidnext
      → end_after (messages ws) k.messages q s k.filled true rights next ≡ ended
  ended_as ws k s q lent rights next r n =
      ap₂ (λ (es : List Message) (c : Counts). end_after es c.messages q s c.filled true rights next) (sym lent.entries) (sym lent.counts)
      ∙ (ap₂ (λ (l : List ℕ) (o : Session). end_after m.entries m.counts.messages l o (filled m) true rights next) (sym lent.queue) (sym lent.session)
      ∙ ap₂ (λ (b : Bool) (u : ℕ). end_after m.entries m.counts.messages m.queue m.session (filled m) true b u) r n)

  module _ (h : filled m + length (render_all (owed m 1)) ≤ length m.queue - 64) where
    joined : enqueue (effects m (owed m 1)) (render_all (owed m 1)) ≡ left m ended
    joined =
        sym (effects-enqueue m (render_all (owed m 1)) (owed m 1))
        ∙ owed_said m law (le-leb (size (owed m 1)) (room m) (omega arith))

    pub owed-ends : effects m (owed m 1) ≡ left_as m ended.entries ended.used ended.session m.queue (filled m)
    owed-ends =
        effects-keep m (owed m 1)
        ∙ ap (λ (j : Memory). left_as m j.entries j.counts.messages j.session m.queue (filled m)) joined

    text_is : ended.queue ≡ written m.queue (filled m) (render_all (owed m 1))
    text_is = sym (ap (λ (j : Memory). written j.queue (filled j) (render_all (owed m 1))) (sym (effects-keep m (owed m 1))) ∙ ap (λ (j : Memory). j.queue) joined)

    pub owed_puts : Put m.queue (filled m) (length m.queue - 64) (render_all (owed m 1)) ended.queue (filled m + length (render_all (owed m 1)))
    owed_puts = record {
      next = refl;
      within = omega arith;
      done = λ _. text_is;
      kept = λ z. text_is ∙ empty (render_all (owed m 1)) (omega arith);
      same = ap length text_is ∙ written-length m.queue (filled m) (render_all (owed m 1)) (omega arith);
    }
      where
        empty : (t : List ℕ) → length t ≤ 0 → written m.queue (filled m) t ≡ m.queue
        empty [] e = written_none m.queue (filled m)
        empty (x ∷ t) e = absurd (omega arith)
