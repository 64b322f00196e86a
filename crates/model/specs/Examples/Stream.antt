-- Records and streams for the examples: a builder for each kind of record, the texts that are written, and all that is computed with
-- (01, Records, 1 to 18; Examples, 10).
use Rattle.std.specs.Prelude.{◌≡◌, List, [], ◌∷◌, ◌++◌, ℕ, zero, suc, ◌/◌, ◌%◌, length}
use Prim.Native.String.{String}
use Rattle.model.specs.Lists.{same, concat_map}
use Rattle.model.specs.Text.{octets, decimal, digits, quoted, escape}
use Rattle.model.specs.Names.{no_part_empty, before_slash, leads, before}
use Rattle.model.specs.Memory.{place}
use Rattle.model.specs.Records.{record_of}
use Rattle.model.specs.Reading.{run_length, value_from, unquote, row_at, number_at, number_set_at, date_at}
use Rattle.model.specs.Attributes.{section_word, section_at, label_of, attribute_at}
use Rattle.model.specs.NotifyGrammar.{scope_of, filter_at, event_of, events_at, group_at, notify_at}
use Rattle.model.specs.SearchGrammar.{keyword_of, start_at, key_at, returns_at, charset_at, search_at}
use Rattle.model.specs.Commands.{tag_of, command_of}
use Rattle.model.specs.Limits.{some_test, key_count, key_depth}
use Rattle.model.specs.Lines.{crlf, runs_text, render, render_all}
use Rattle.model.specs.Queue.{fitting, written, shifted, effects}
use Rattle.model.specs.View.{expunge_lines, marked_lines, new_lines}
use Rattle.model.specs.Events.{tellings, settled}
use Rattle.model.specs.Searching.{holds, matching}
use Rattle.model.specs.Lawful.{lawful}
use Rattle.model.specs.Answering.{answer_lines, answered}
use Rattle.model.specs.Rules.{accepted}
use Rattle.model.specs.Call.{call}
use Rattle.model.specs.Hidden.{Octets}
use Rattle.model.specs.Pushrun.{cut, printed, pushrun}

-- ---- records
-- a mark, the length of the body in two octets, the body
abbrev pub frame : String → List ℕ → Octets
frame mark body = octets mark ++ ((length body % 256) ∷ (length body / 256) ∷ body)

-- a number of w octets, the lowest first
abbrev pub number : ℕ → ℕ → List ℕ
number zero n = []
number (suc w) n = (n % 256) ∷ number w (n / 256)

abbrev pub two : ℕ → List ℕ
two n = number 2 n

abbrev pub four : ℕ → List ℕ
four n = number 4 n

-- create, with attributes, quiet or not, UIDVALIDITY, change counter and name
abbrev pub mb : ℕ → ℕ → ℕ → ℕ → ℕ → String → Octets
mb i a q v c n = frame "MB" (two i ++ (a ∷ q ∷ four v ++ (number 8 c ++ octets n)))

-- delete, rename, subscribe, rights
abbrev pub dl : ℕ → ℕ → Octets
dl i q = frame "DL" (two i ++ (q ∷ []))

abbrev pub rn : ℕ → ℕ → String → Octets
rn i q n = frame "RN" (two i ++ (q ∷ octets n))

abbrev pub sb : ℕ → ℕ → ℕ → Octets
sb i s q = frame "SB" (two i ++ (s ∷ q ∷ []))

abbrev pub rt : ℕ → ℕ → Octets
rt i r = frame "RT" (two i ++ (r ∷ []))

-- a message with its flags and its size, an expunge, a change of flags; each with its change counter
abbrev pub me : ℕ → ℕ → ℕ → ℕ → ℕ → Octets
me i u f z c = frame "ME" (two i ++ (four u ++ (f ∷ four z ++ number 8 c)))

abbrev pub xp : ℕ → ℕ → ℕ → Octets
xp i u c = frame "XP" (two i ++ (four u ++ number 8 c))

abbrev pub fl : ℕ → ℕ → ℕ → ℕ → Octets
fl i u f c = frame "FL" (two i ++ (four u ++ (f ∷ number 8 c)))

-- select, the end of a command, a command, a drain
abbrev pub se : ℕ → Octets
se i = frame "SE" (two i)

abbrev pub ce : ℕ → Octets
ce c = frame "CE" (c ∷ [])

abbrev pub cm : String → Octets
cm t = frame "CM" (octets t)

abbrev pub dr : ℕ → Octets
dr n = frame "DR" (four n)

-- ---- what is written: lines, each with its end
abbrev pub lines : List String → List ℕ
lines ts = concat_map (λ (t : String). octets t ++ crlf) ts

-- what pushrun prints for records one after the other
abbrev pub Prints : List Octets → List String → Type 0
Prints os ts = pushrun (concat_map (λ (o : Octets). o) os) ≡ lines ts

-- all that a command is read with
unfoldable pub reading : Unit {0}
unfolding run_length value_from unquote row_at number_at number_set_at date_at section_word section_at label_of attribute_at scope_of filter_at event_of events_at group_at notify_at keyword_of start_at key_at returns_at charset_at search_at command_of tag_of some_test key_count key_depth
reading = tt

-- all that an example computes with: it says `unfolding computed`
unfoldable pub computed : Unit {0}
unfolding reading cut printed call accepted lawful answer_lines answered tellings settled effects written shifted fitting render_all render runs_text decimal digits quoted escape same no_part_empty before_slash leads before place record_of expunge_lines marked_lines new_lines holds matching
computed = tt
