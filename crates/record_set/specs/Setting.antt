-- An accepted NOTIFY SET: the size of its answer, and what it leaves. Assumes nothing.
use Rattle.std.specs.Prelude.{◌≡◌, refl, Bool, true, None, Ok, ℕ, ◌+◌, ◌-◌, ◌<◌, ◌≤◌, length}
use Rattle.std.proofs.Math.Path.{ap, sym}
use Rattle.std.proofs.Common.{ap₂, ◌∙◌, subst, arith, length-append, le-leb}
use mathlib.Core.List.{List, [], ◌∷◌, ◌++◌, append-nil, append_assoc}
use Rattle.model.specs.Requests.{Command, notify_set, notify, Asked}
use Rattle.model.specs.Reading.{Parsed, ok}
use Rattle.model.specs.Commands.{tag_of, command_of}
use Rattle.model.specs.Memory.{with_view, Memory, filled, selected_box, both_rights}
use Rattle.model.specs.Lines.{Line, answer, render, render_all}
use Rattle.model.specs.View.{owed}
use Rattle.model.specs.Listing.{listing, watching}
use Rattle.model.specs.Answering.{verb, accepted_lines, is_accepted, first_reply, reply, no_room}
use Rattle.model.specs.declared.Counts.{Counts}
use Rattle.model.specs.declared.Session.{Session}
use Rattle.model.specs.declared.Reply.TheVariants.{TooLarge, Accepted}
use Rattle.model.specs.Records.{command}
use Rattle.model.specs.Rendered.{render-append, render_some}
use Rattle.demands.specs.Lasting.Law.{Law}
use Rattle.line_put.specs.Put.{Put, ◌then◌, put_as}
use Rattle.event_session.specs.After.{After}
use Rattle.event_session.specs.Ending.{Leaves, end_after}
use Rattle.event_session.specs.declared.Closed.{Closed}
use Rattle.line_answer.specs.Sizes.{Whole}
use Rattle.line_answer.specs.Answered.{left_as, whole_text, no-room_is, text-accepted, set_left}
use Rattle.table_messages.specs.Words.{messages}
use Rattle.table_mailboxes.specs.declared.Columns.{Columns}
use Rattle.record_outcome.specs.Coming.{Lends, Comes, Came, ladder, calm}
use Rattle.record_reply.specs.Left.{upto, comes_left}
use Rattle.record_reply.specs.Sized.{small-accepted, large_is, roomless_is}
use Rattle.record_set.specs.Listed.{Noted}
use Rattle.record_set.specs.Owing.{ended, ended_as, owed-ends, owed_puts}

-- what follows the owed lines
abbrev pub work_text : Memory → Session → Bool → List ℕ → List ℕ
work_text m s wanted t = render_all (listing m s wanted) ++ render (answer (tag_of t) notify Accepted)

put-from : {q q₁ q₂ x : List ℕ} {at at₁ lim lim₁ r : ℕ} → q ≡ q₁ → at ≡ at₁ → lim ≡ lim₁ → Put q at lim x q₂ r → Put q₁ at₁ lim₁ x q₂ r
put-from a b c p = rw (← a, ← b, ← c) p

module _ (m : Memory) (t : List ℕ) (p : ℕ) (wanted : Bool) (gs : List Asked) (c : command_of t ≡ ok p (notify_set wanted gs)) (first : first_reply m t ≡ Accepted) where
  abbrev O : List ℕ
  O = render_all (owed m 1)

  abbrev W : List ℕ
  W = work_text m (watching m.session gs) wanted t

  pub set-text : O ++ W ≡ whole_text m t
  unfolding render_all
  set-text =
      let l : List Line = listing m (watching m.session gs) wanted in
      let a : Line = answer (tag_of t) notify Accepted in
      sym (
      ap (λ (x : Parsed Command). render_all (accepted_lines m (tag_of t) x)) c
      ∙ (render-append (owed m 1 ++ l) (a ∷ [])
      ∙ (ap₂ ◌++◌ (render-append (owed m 1) l) (append-nil (render a))
      ∙ append_assoc (render_all (owed m 1)) (render_all l) (render a))))

  pub set-size : length (whole_text m t) ≡ length O + length W
  set-size = ap length (sym set-text) ∙ length-append O W

  work_some : 0 < length W
  work_some =
      let a = length-append (render_all (listing m (watching m.session gs) wanted)) (render (answer (tag_of t) notify Accepted)) in
      let b = render_some (answer (tag_of t) notify Accepted) in
      omega arith

  pub set-verb : notify ≡ verb (command_of t)
  set-verb = sym (ap verb c)

  -- ---- too large, or no room
  module _ (a b : ℕ) (o : a ≡ length O) (w : b ≡ length W) where
    pub set_large : length m.queue - 64 < a + b → TooLarge ≡ reply m t
    set_large h = let e = set-size in large_is m t first (omega arith)

    pub set-roomless : a + b ≤ length m.queue - 64 → length m.queue - 64 < filled m + (a + b) → no_room m t ≡ true
    set-roomless h l = let e = set-size in let z = work_some in roomless_is m t first (omega arith) (omega arith)

  -- ---- done
  module _ (law : Law m) (h : filled m + length (whole_text m t) ≤ length m.queue - 64) where
    fit : filled m + length O ≤ length m.queue - 64
    fit = let e = set-size in omega arith

    set-accepted : is_accepted (reply m t) ≡ true
    set-accepted = small-accepted m t first (omega arith)

    set_whole : {q' : List ℕ} {e : ℕ} → Put (ended m law).queue (filled m + length O) (length m.queue - 64) W q' e → Whole m.queue (filled m) (whole_text m t) q' true e
    set_whole x =
        let y = put_as (◌then◌ (owed_puts m law fit) x) set-text in
        let n = y.next in
        record {
          room = sym (le-leb (length (whole_text m t)) (length m.queue - 64 - filled m) (omega arith));
          queue = y.done (omega arith);
          ends = n;
        }

    module _ (ws : List ℕ) (k : Counts) (s : Session) (q : List ℕ) (lent : Lends m ws k s q) where
      pub set_comes : (rights : Bool) (next rest : ℕ) → rights ≡ both_rights (selected_box m) → next ≡ (selected_box m).uidnext
          → {ws' q₁ q₂ : List ℕ} {e at : ℕ} (d : Closed) → Leaves (end_after (messages ws) k.messages q s k.filled true rights next) rest ws ws' q₁ d
          → at ≡ k.filled + length O → Put q₁ at (length q - 64) W q₂ e
          → (s' : Session) → s' ≡ watching d.session gs → (r : Came) → r ≡ Ok (calm None (upto k d.used e) s') → Comes m (ladder m (command t)) r ws ws' q₂
      set_comes rights next rest right uid {ws'} {q₁} {q₂} {e} {at} d x begins y s' sets r is =
          let v : Leaves (ended m law) rest ws ws' q₁ d = subst (λ (a : After). Leaves a rest ws ws' q₁ d) (ended_as m law ws k s q lent rights next right uid) x in
          let z : Put (ended m law).queue (filled m + length O) (length m.queue - 64) W q₂ e =
          put-from v.queue (begins ∙ ap (λ (i : Counts). i.filled + length O) (sym lent.counts)) (ap (λ (l : List ℕ). length l - 64) (sym lent.queue)) y in
          let text = text-accepted m t set-accepted in
          let w = set_whole z in
          let o : s' ≡ watching (ended m law).session gs = sets ∙ ap (λ (x : Session). watching x gs) v.session in
          comes_left m ws k s q t lent (no-room_is m t text w) (ended m law).entries d.used s' ws' q₂ e
          (set_left m t text w refl set-accepted p wanted gs c (ended m law).entries (ended m law).used (ended m law).session (owed-ends m law fit)
          ∙ ap₂ (λ (n : ℕ) (j : Session). left_as m (ended m law).entries n j q₂ e) (sym v.used) (sym o))
          v.words r is

-- the groups of a session that was asked for, in another view
pub asked-view : (s s' v : Session) (gs : List Asked) → s' ≡ watching s gs → with_view s' v.selected v.told ≡ watching v gs
asked-view s s' v gs e = ap (λ (o : Session). with_view o v.selected v.told) e

-- the notes are made for the session that is asked for
pub noted-set : (m : Memory) (ws : List ℕ) (k : Counts) (s : Session) (q : List ℕ) (lent : Lends m ws k s q) (wanted : Bool) (gs : List Asked) (s' : Session) → s' ≡ watching s gs
    → {c : Columns} {listed tally asks : List ℕ} → (s'.selected ≡ s.selected → Noted m s' wanted c listed tally asks)
    → Noted m (watching m.session gs) wanted c listed tally asks
noted-set m ws k s q lent wanted gs s' d {c} {listed} {tally} {asks} f =
    subst (λ (o : Session). Noted m o wanted c listed tally asks)
    (d ∙ ap (λ (o : Session). watching o gs) (sym lent.session)) (f (ap (λ (o : Session). o.selected) d))
