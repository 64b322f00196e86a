-- A command line as the code answers it. Assumes nothing: these are definitions.
use Rattle.std.specs.Prelude.{◌≡◌, Option, Some, None, Bool, List, ℕ}
use Rattle.std.specs.Option.{option_map}
use Rattle.model.specs.Requests.{Verb as Word, notify, esearch, other_verb, Command}
use Rattle.model.specs.Reading.{Parsed, bad, and_then}
use Rattle.model.specs.Commands.{command_by, whole_line, command_of}
use Rattle.model.specs.Replies.{reply_of}
use Rattle.model.specs.Answering.{verb}
use Rattle.model.specs.declared.Limits.{Limits}
use Rattle.model.specs.declared.Reply.{Reply}
use Rattle.model.specs.declared.Reply.TheVariants.{Bad, Accepted}
use Rattle.read_options.specs.Heads.{verb_of}
use Rattle.read_options.specs.declared.Verb.{Verb}
use Rattle.read_options.specs.declared.Verb.TheVariants.{Notify, Esearch, Other}
use Rattle.read_notify.specs.Readings.{asked}
use Rattle.read_notify.specs.declared.Notify.{Notify as Asking}
use Rattle.read_notify.specs.declared.Tally.{Tally}
use Rattle.read_search.specs.declared.Asked.{Asked}
use Rattle.read_notify.specs.Tallies.{reply_by_tally}
use Rattle.read_search.specs.Searched.{read_search, Cells}
use Rattle.read_search.specs.Judged.{reply_by_asked}
use Rattle.read_commands.specs.declared.Judged.{Judged}

abbrev pub answer_of : Verb → Reply → Judged
answer_of v r = record { verb = v; reply = r }

-- whose answer it is and how the command is answered, before anything is done; `has_selected` says whether a mailbox is selected
abbrev pub judged_of : Limits → Bool → Parsed Command → Judged
judged_of l has_selected x = answer_of (verb_of (verb x)) (reply_of l has_selected x)

-- a line that fits no command
abbrev pub unread : Judged
unread = answer_of Other Bad

-- ---- up to the end of the line
abbrev pub whole : List ℕ → Parsed Command → Parsed Command
whole s x = and_then x λ q c. whole_line s q c

-- the command of a word, from the position behind it on
abbrev pub whole_by : Word → List ℕ → ℕ → Parsed Command
whole_by w s p = whole s (command_by w s p)

abbrev pub word_of : Verb → Word
word_of Notify = notify
word_of Esearch = esearch
word_of Other = other_verb

abbrev pub judged_by : Verb → List ℕ → ℕ → Parsed Command
judged_by v s p = whole_by (word_of v) s p

-- ---- how what was read is answered
-- what a NOTIFY asks, and the position behind it
abbrev pub asks : Option (Asking × ℕ) → Option (Option (Bool × Tally) × ℕ)
asks r = option_map (λ (n : Asking × ℕ). (asked n.0, n.1)) r

abbrev pub notified : Limits → Option (Option (Bool × Tally) × ℕ) → Judged
notified l (Some (None, p)) = answer_of Notify Accepted
notified l (Some (Some (status, t), p)) = answer_of Notify (reply_by_tally l t)
notified l None = unread

abbrev pub searched : Limits → Bool → Option (Asked × ℕ) → Judged
searched l has_selected (Some (a, p)) = answer_of Esearch (reply_by_asked l has_selected a)
searched l has_selected None = unread

-- ---- contracts
-- r is the verb of the line and the position behind it, or the line is no command
abbrev pub Heads : List ℕ → Option (Verb × ℕ) → Type 0
Heads s (Some (v, at)) = judged_by v s at ≡ command_of s
Heads s None = bad ≡ command_of s

-- r is the search x, and its keys stand in the cells b' that were b
pub record ReadsSearch (x : Parsed Command) (b b' : List ℕ) (r : Option (Asked × ℕ)) : Type 0 where
  pub exact : r ≡ read_search x
  pub cells : Cells b b' x

-- r is how the command x is answered, and where x is a search, its keys stand in the cells b' that were b
pub record Judges (l : Limits) (has_selected : Bool) (x : Parsed Command) (b b' : List ℕ) (r : Judged) : Type 0 where
  pub exact : r ≡ judged_of l has_selected x
  pub cells : Cells b b' x
