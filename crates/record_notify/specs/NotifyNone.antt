-- NOTIFY NONE: its tagged line is too large for no queue, so it finds room or is refused by 8. Assumes nothing.
use Rattle.std.specs.Prelude.{◌≡◌, refl, Bool, true, false, not, ℕ, ◌≤◌, length}
use Rattle.std.proofs.Math.Path.{ap}
use Rattle.std.proofs.Common.{ap₂, sym, ◌∙◌, arith, length-append, length-take}
use mathlib.Core.List.{List, ◌++◌, append-nil}
use Rattle.model.specs.Requests.{Command, notify_none, notify}
use Rattle.model.specs.Reading.{Parsed, ok}
use Rattle.model.specs.Commands.{tag_end, tagged, tag_of, command_of}
use Rattle.model.specs.Memory.{Memory, silenced}
use Rattle.model.specs.Lines.{answer, render, render_all, crlf, space, done_text}
use Rattle.model.specs.Answering.{accepted_lines, is_accepted, first_reply, reply, answer_lines}
use Rattle.model.specs.declared.Counts.{Counts}
use Rattle.model.specs.declared.Session.{Session}
use Rattle.model.specs.declared.Reply.TheVariants.{Accepted}
use Rattle.model.specs.Records.{command}
use Rattle.laws.specs.Room.{Room, sizes}
use Rattle.read_notify.specs.Watched.{watched_by}
use Rattle.line_answer.specs.Sizes.{Whole}
use Rattle.line_answer.specs.Tagged.{tag_none, tag_some, tag_short, answer-text}
use Rattle.line_answer.specs.Answered.{left_as, whole_text, no-room_is, text-accepted, none_left}
use Rattle.record_outcome.specs.Coming.{Lends, Comes, Came, ladder}
use Rattle.record_reply.specs.Left.{came_by, of_memory, comes-roomless, comes_left, same-words}
use Rattle.record_reply.specs.Sized.{small-accepted}

-- a tag has at most 32 octets
tag_most : (t : List ℕ) → length (tag_of t) ≤ 32
tag_most t = go (tagged t) refl
  where
    go : (b : Bool) → tagged t ≡ b → length (tag_of t) ≤ 32
    go true e =
        let n = ap length (tag_some t (tag_end t) refl e) in
        let l = length-take (tag_end t) t in
        let w = tag_short t e in
        omega arith
    go false e = let n = ap length (tag_none t e) in omega arith

none_short : (t : List ℕ) → length (render (answer (tag_of t) notify Accepted)) ≤ 130
none_short t =
    let e = ap length (answer-text (tag_of t) notify Accepted) in
    let w = tag_most t in
    let a = length-append ((tag_of t ++ space) ++ done_text notify) crlf in
    let b = length-append (tag_of t ++ space) (done_text notify) in
    let d = length-append (tag_of t) space in
    omega arith

module _ (m : Memory) (ws : List ℕ) (k : Counts) (s : Session) (q t : List ℕ) (lent : Lends m ws k s q) (room : Room (length q) k.filled s) (p : ℕ) (c : command_of t ≡ ok p notify_none) where
  none_first : first_reply m t ≡ Accepted
  none_first = rw c

  none-text : whole_text m t ≡ render (answer (tag_of t) notify Accepted)
  unfolding render_all
  none-text = ap (λ (x : Parsed Command). render_all (accepted_lines m (tag_of t) x)) c ∙ append-nil (render (answer (tag_of t) notify Accepted))

  none-accepted : is_accepted (reply m t) ≡ true
  none-accepted =
      let z = sizes (length q) k.filled s room in
      let l = ap length none-text in
      let n = none_short t in
      let e = ap length lent.queue in
      small-accepted m t none_first (omega arith)

  none_is : render (answer (tag_of t) notify Accepted) ≡ render_all (answer_lines m t)
  none_is = sym none-text ∙ text-accepted m t none-accepted

  pub none_comes : {q' : List ℕ} {b : Bool} {end : ℕ} → Whole q k.filled (render (answer (tag_of t) notify Accepted)) q' b end
      → (s' : Session) → s' ≡ watched_by (command_of t) s → (r : Came) → r ≡ came_by b end k s' → Comes m (ladder m (command t)) r ws ws q'
  none_comes {q'} {b} {end} w s' d r e = go b refl
    where
      go : (f : Bool) → b ≡ f → Comes m (ladder m (command t)) r ws ws q'
      go true f =
          let v = of_memory m ws k s q t lent w in
          let i : s' ≡ silenced s = d ∙ ap (λ (x : Parsed Command). watched_by x s) c in
          comes_left m ws k s q t lent (no-room_is m t none_is v ∙ ap not f) m.entries k.messages s' ws q' end
          (none_left m t none_is v f none-accepted p c
          ∙ (ap₂ (λ (j : Counts) (o : Session). left_as m m.entries j.messages (silenced o) q' end) lent.counts lent.session
          ∙ ap (λ (o : Session). left_as m m.entries k.messages o q' end) (sym i)))
          (same-words m ws k s q t lent) r (e ∙ rw f)
      go false f =
          let o : q' ≡ q = w.queue ∙ rw f in
          rw o (comes-roomless m ws k s q t lent (no-room_is m t none_is (of_memory m ws k s q t lent w) ∙ ap not f) r (e ∙ rw f))
