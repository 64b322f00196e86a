-- An accepted command by the size of its whole answer: too large, no room, or done. Assumes nothing.
use Rattle.std.specs.Prelude.{◌≡◌, true, not, List, ℕ, ◌-◌, ◌<◌, ◌≤◌, leb, length}
use Rattle.std.proofs.Common.{ap, sym, ◌∙◌}
use Rattle.std.proofs.lemmas.Bool.{lt-leb}
use Rattle.model.specs.Memory.{Memory, filled}
use Rattle.model.specs.Answering.{is_accepted, first_reply, reply, no_room}
use Rattle.model.specs.declared.Reply.TheVariants.{TooLarge, Accepted}
use Rattle.line_answer.specs.Sizes.{reply-small, reply_large}
use Rattle.line_answer.specs.Answered.{whole_text, text-accepted}

module _ (m : Memory) (t : List ℕ) (first : first_reply m t ≡ Accepted) where
  pub small-accepted : length (whole_text m t) ≤ length m.queue - 64 → is_accepted (reply m t) ≡ true
  small-accepted h = ap is_accepted (sym (reply-small (first_reply m t) (length (whole_text m t)) (length m.queue - 64) (ap is_accepted first) h) ∙ first)

  pub large_is : length m.queue - 64 < length (whole_text m t) → TooLarge ≡ reply m t
  large_is h = reply_large (first_reply m t) (length (whole_text m t)) (length m.queue - 64) (ap is_accepted first) h

  -- it is not too large, and finds no room
  pub roomless_is : length (whole_text m t) ≤ length m.queue - 64 → length m.queue - 64 - filled m < length (whole_text m t) → no_room m t ≡ true
  roomless_is h l =
      ap (λ (x : List ℕ). not (leb (length x) (length m.queue - 64 - filled m))) (sym (text-accepted m t (small-accepted h)))
      ∙ ap not (lt-leb (length (whole_text m t)) (length m.queue - 64 - filled m) l)
