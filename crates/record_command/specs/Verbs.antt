-- A line whose word is ESEARCH and that is accepted is a search. Assumes nothing.
use Rattle.std.specs.Prelude.{◌≡◌, refl, true, false, List, ℕ}
use Rattle.std.proofs.Common.{ap, ◌∙◌}
use Rattle.model.specs.Requests.{esearch, Command, notify_none, notify_set, search, Search}
use Rattle.model.specs.Reading.{Parsed, bad, ok}
use Rattle.model.specs.Commands.{command_of}
use Rattle.model.specs.Limits.{limits}
use Rattle.model.specs.Replies.{reply_of}
use Rattle.model.specs.Memory.{Memory}
use Rattle.model.specs.Answering.{some_selected, verb, is_accepted, first_reply}
use Rattle.model.specs.declared.Reply.TheVariants.{Accepted}
use Rattle.model.specs.Laws.{tf}
use Rattle.read_commands.specs.Judging.{whole_by}
use Rattle.record_command.specs.Worded.{Else, else_esearch}

pub search_are : (m : Memory) (t : List ℕ) (at : ℕ) → whole_by esearch t at ≡ command_of t → first_reply m t ≡ Accepted → (P : Type 0) → ((p : ℕ) (a : Search) → command_of t ≡ ok p (search a) → P) → P
search_are m t at h first P = go (command_of t) (λ e. else_esearch t at (ap verb h ∙ e)) (ap is_accepted first)
  where
    go : (x : Parsed Command) → Else x → is_accepted (reply_of limits (some_selected m) x) ≡ true → ((p : ℕ) (a : Search) → x ≡ ok p (search a) → P) → P
    go bad e f g = tf false f refl
    go (ok q notify_none) e f g = absurd (e refl)
    go (ok q (notify_set status gs)) e f g = absurd (e refl)
    go (ok q (search a)) e f g = g q a refl
