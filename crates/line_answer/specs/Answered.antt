-- The answer to a command as the rules have it, from what was measured and written: the reply, refusal 8, and the memory left. Assumes nothing.
use Rattle.std.specs.Prelude.{◌≡◌, refl, Bool, true, false, not, cond, ◌&&◌, ℕ, ◌+◌, ◌-◌, leb, length}
use Rattle.std.proofs.Math.Path.{ap, sym}
use Rattle.std.proofs.Common.{ap₂, ◌∙◌}
use mathlib.Core.List.{List, [], ◌∷◌, ◌++◌, append-nil}
use Rattle.model.specs.Laws.{tf}
use Rattle.model.specs.Requests.{Command, notify_none, notify_set, search, Asked, Search, notify, esearch}
use Rattle.model.specs.Reading.{Parsed, ok}
use Rattle.model.specs.Commands.{tag_of, command_of}
use Rattle.model.specs.Memory.{Memory, filled, silenced}
use Rattle.model.specs.Lines.{Line, answer, render, render_all}
use Rattle.model.specs.Queue.{written, enqueue, effects, say}
use Rattle.model.specs.View.{owed}
use Rattle.model.specs.Listing.{listing, watching}
use Rattle.model.specs.Searching.{found_lines}
use Rattle.model.specs.Limits.{limits}
use Rattle.model.specs.Answering.{some_selected, verb, accepted_lines, is_accepted, first_reply, reply, answer_lines, session_by, with_asked, answered, no_room}
use Rattle.model.specs.Rules.{accepted}
use Rattle.model.specs.Records.{command}
use Rattle.model.specs.declared.Message.{Message}
use Rattle.model.specs.declared.Session.{Session}
use Rattle.model.specs.declared.Reply.{Reply}
use Rattle.model.specs.declared.Reply.TheVariants.{Bad, BadEvent, Unsupported, BadCharset, TooLarge, Accepted}
use Rattle.model.specs.Rendered.{effects-append}
use Rattle.read_commands.specs.Judging.{word_of, judged_of}
use Rattle.read_commands.specs.declared.Judged.{Judged}
use Rattle.line_answer.specs.Sizes.{Whole}
use Rattle.line_answer.specs.Tagged.{word-verb}
use Rattle.line_answer.specs.Effects.{effects-enqueue, still_both, still_one, still-listing, still-found}

-- memory with other entries, another session, another queue
abbrev pub left_as : Memory → List Message → ℕ → Session → List ℕ → ℕ → Memory
left_as m es used s q f = record {
  rows = m.rows;
  entries = es;
  counts = record { mailboxes = m.counts.mailboxes; messages = used; filled = f };
  session = s;
  queue = q;
}

-- ---- what an accepted command's lines end: those that NOTIFY SET owes, and no others
module _ (m : Memory) (tag : List ℕ) (p : ℕ) where
  none-effects : effects m (accepted_lines m tag (ok p notify_none)) ≡ m
  none-effects = still_one (answer tag notify Accepted) (λ j. refl) m

  set-effects : (wanted : Bool) (gs : List Asked) → effects m (accepted_lines m tag (ok p (notify_set wanted gs))) ≡ effects m (owed m 1)
  set-effects wanted gs =
      let l : List Line = listing m (watching m.session gs) wanted in
      let a : List Line = answer tag notify Accepted ∷ [] in
      effects-append m (owed m 1 ++ l) a
      ∙ (ap (λ (j : Memory). effects j a) (effects-append m (owed m 1) l)
      ∙ (still_one (answer tag notify Accepted) (λ j. refl) (effects (effects m (owed m 1)) l) ∙ still-listing m (watching m.session gs) wanted (effects m (owed m 1))))

  search-effects : (a : Search) → effects m (accepted_lines m tag (ok p (search a))) ≡ m
  search-effects a = still_both (found_lines m tag a) (answer tag esearch Accepted ∷ []) (still-found m tag a) (still_one (answer tag esearch Accepted) (λ j. refl)) m

-- ---- what an accepted command writes, part after part; with the limit 0 it is measured
-- ---- the reply
-- all that the command writes if it is accepted
abbrev pub whole_text : Memory → List ℕ → List ℕ
whole_text m t = render_all (accepted_lines m (tag_of t) (command_of t))

module _ (m : Memory) (t : List ℕ) where
  -- without its size: only an accepted command writes more than a line
  pub reply_first : is_accepted (first_reply m t) ≡ false → reply m t ≡ first_reply m t
  reply_first e = rw e

  -- what the reader of commands answers: whose answer it is, and the reply before sizes
  pub judged-verb : (r : Judged) → r ≡ judged_of limits (some_selected m) (command_of t) → word_of r.verb ≡ verb (command_of t)
  judged-verb r e = ap (λ (j : Judged). word_of j.verb) e ∙ word-verb (verb (command_of t))

  pub judged-reply : (r : Judged) → r ≡ judged_of limits (some_selected m) (command_of t) → r.reply ≡ first_reply m t
  judged-reply r e = ap (λ (j : Judged). j.reply) e

  pub first-accepted : is_accepted (reply m t) ≡ true → first_reply m t ≡ Accepted
  first-accepted h = go (first_reply m t) (not (leb (length (whole_text m t)) (length m.queue - 64))) h
    where
      go : (r : Reply) (b : Bool) → is_accepted (cond (is_accepted r && b) TooLarge r) ≡ true → r ≡ Accepted
      go Bad b e = tf false e refl
      go BadEvent b e = tf false e refl
      go Unsupported b e = tf false e refl
      go BadCharset b e = tf false e refl
      go TooLarge b e = tf false e refl
      go Accepted b e = refl

  -- ---- what is written
  lines-accepted : is_accepted (reply m t) ≡ true → answer_lines m t ≡ accepted_lines m (tag_of t) (command_of t)
  unfolding answer_lines
  lines-accepted h = rw h

  lines-refused : is_accepted (reply m t) ≡ false → answer_lines m t ≡ answer (tag_of t) (verb (command_of t)) (reply m t) ∷ []
  unfolding answer_lines
  lines-refused h = rw h

  pub text-accepted : is_accepted (reply m t) ≡ true → whole_text m t ≡ render_all (answer_lines m t)
  text-accepted h = sym (ap render_all (lines-accepted h))

  pub text-refused : is_accepted (reply m t) ≡ false → render (answer (tag_of t) (verb (command_of t)) (reply m t)) ≡ render_all (answer_lines m t)
  unfolding render_all
  text-refused h = sym (ap render_all (lines-refused h) ∙ append-nil (render (answer (tag_of t) (verb (command_of t)) (reply m t))))

  -- ---- refusal 8 and the memory left, for a text that is the answer's
  module _ {x q : List ℕ} {fits : Bool} {end : ℕ} (is : x ≡ render_all (answer_lines m t)) (w : Whole m.queue (filled m) x q fits end) where
    pub no-room_is : no_room m t ≡ not fits
    no-room_is = ap not (sym (w.room ∙ ap (λ (y : List ℕ). leb (length y) (length m.queue - 64 - filled m)) is))

    module _ (f : fits ≡ true) where
      spoken : (es : List Message) (used : ℕ) (s : Session) → effects m (answer_lines m t) ≡ left_as m es used s m.queue (filled m)
          → say m (answer_lines m t) ≡ left_as m es used s q end
      spoken es used s e =
          let a : written m.queue (filled m) (render_all (answer_lines m t)) ≡ q = sym (w.queue ∙ rw (f, is)) in
          let b : filled m + length (render_all (answer_lines m t)) ≡ end = sym (w.ends ∙ rw (f, is)) in
          effects-enqueue m (render_all (answer_lines m t)) (answer_lines m t)
          ∙ (ap (λ (j : Memory). enqueue j (render_all (answer_lines m t))) e ∙ ap₂ (left_as m es used s) a b)

      -- a command that is not accepted writes its line, and changes nothing else
      pub refused_left : is_accepted (reply m t) ≡ false → (accepted m (command t)).after ≡ left_as m m.entries m.counts.messages m.session q end
      unfolding accepted answered
      refused_left h =
          let e : effects m (answer_lines m t) ≡ m = ap (effects m) (lines-refused h) ∙ still_one (answer (tag_of t) (verb (command_of t)) (reply m t)) (λ j. refl) m in
          rw h (spoken m.entries m.counts.messages m.session e)

      -- one that is accepted ends what its lines end, and a NOTIFY sets the session
      pub accepted_left : is_accepted (reply m t) ≡ true → (es : List Message) (used : ℕ) (s : Session)
          → effects m (accepted_lines m (tag_of t) (command_of t)) ≡ left_as m es used s m.queue (filled m)
          → (accepted m (command t)).after ≡ left_as m es used (session_by (command_of t) s) q end
      unfolding accepted answered
      accepted_left h es used s e =
          rw h (ap (λ (j : Memory). with_asked j (command_of t)) (spoken es used s (ap (effects m) (lines-accepted h) ∙ e)))

      module _ (h : is_accepted (reply m t) ≡ true) (p : ℕ) where
        -- NOTIFY NONE writes its line, and no group stands any more
        pub none_left : command_of t ≡ ok p notify_none → (accepted m (command t)).after ≡ left_as m m.entries m.counts.messages (silenced m.session) q end
        none_left c =
            accepted_left h m.entries m.counts.messages m.session (ap (λ (k : Parsed Command). effects m (accepted_lines m (tag_of t) k)) c ∙ none-effects m (tag_of t) p)
            ∙ ap (λ (k : Parsed Command). left_as m m.entries m.counts.messages (session_by k m.session) q end) c

        -- NOTIFY SET ends what the owed lines end, and its groups stand
        pub set_left : (wanted : Bool) (gs : List Asked) → command_of t ≡ ok p (notify_set wanted gs) → (es : List Message) (used : ℕ) (s : Session)
            → effects m (owed m 1) ≡ left_as m es used s m.queue (filled m) → (accepted m (command t)).after ≡ left_as m es used (watching s gs) q end
        set_left wanted gs c es used s e =
            accepted_left h es used s (ap (λ (k : Parsed Command). effects m (accepted_lines m (tag_of t) k)) c ∙ (set-effects m (tag_of t) p wanted gs ∙ e))
            ∙ ap (λ (k : Parsed Command). left_as m es used (session_by k s) q end) c

        -- ESEARCH writes its lines, and changes nothing else
        pub search_left : (a : Search) → command_of t ≡ ok p (search a) → (accepted m (command t)).after ≡ left_as m m.entries m.counts.messages m.session q end
        search_left a c =
            accepted_left h m.entries m.counts.messages m.session (ap (λ (k : Parsed Command). effects m (accepted_lines m (tag_of t) k)) c ∙ search-effects m (tag_of t) p a)
            ∙ ap (λ (k : Parsed Command). left_as m m.entries m.counts.messages (session_by k m.session) q end) c
