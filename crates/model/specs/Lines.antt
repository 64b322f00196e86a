-- Every line that is written, as data and as octets (01, Written, 2 to 10 and 22; Commands, 13 to 18; Matches, 6, 10 and 11; Records, 14; 02, 1).
use Rattle.std.specs.Prelude.{List, [], ◌∷◌, ◌++◌, cond, ℕ, ◌+◌, eqb}
use Rattle.model.specs.Lists.{concat_map}
use Rattle.model.specs.Names.{Name}
use Rattle.model.specs.Requests.{Verb, notify, esearch, other_verb}
use Rattle.model.specs.Text.{octets, decimal, quoted, bit}
use Rattle.model.specs.declared.MessageNumber.{MessageNumber}
use Rattle.model.specs.declared.Uid.{Uid}
use Rattle.model.specs.declared.Reply.{Reply}
use Rattle.model.specs.declared.Reply.TheVariants.{Bad, BadEvent, Unsupported, BadCharset, TooLarge, Accepted}

-- the attribute of a LIST line
pub data ListMark : Type 0 where
  plain noselect non_existent no_access subscribed : ListMark

-- what a STATUS line says of a mailbox: how many messages it has, its UIDNEXT, its UIDVALIDITY, its change counter
pub data StatusItem : Type 0 where
  messages next validity highest : ℕ → StatusItem

-- what a FETCH line shows; a message's own change counter stands last
pub data Item : Type 0 where
  uid : Uid → Item
  flags : ℕ → Item
  size : ℕ → Item
  modseq : ℕ → Item

-- what an ESEARCH line returns
pub data Result : Type 0 where
  min max : Uid → Result
  all : List Uid → Result
  count : ℕ → Result

-- a line. EXPUNGE and FETCH hold the UID of their message too: it is not written there, and says what the line is for
pub data Line : Type 0 where
  status : Name → List StatusItem → Line
  list : ListMark → Name → Line
  renamed : ListMark → (new old : Name) → Line
  exists : MessageNumber → Line
  expunge : MessageNumber → Uid → Line
  fetch : MessageNumber → Uid → List Item → Line
  found : (tag : List ℕ) → Name → (validity : ℕ) → List Result → Line
  overflow : Line
  answer : (tag : List ℕ) → Verb → Reply → Line

-- the three lists of a STATUS: of a message that came or went, of changed flags, of NOTIFY SET (Written, 3; Matches, 6; 02, 1)
abbrev pub mail_items : (u k h : ℕ) → List StatusItem
mail_items u k h = next u ∷ messages k ∷ highest h ∷ []

abbrev pub flag_items : (v h : ℕ) → List StatusItem
flag_items v h = validity v ∷ highest h ∷ []

abbrev pub set_items : (k u v h : ℕ) → List StatusItem
set_items k u v h = messages k ∷ next u ∷ validity v ∷ highest h ∷ []

-- ---- as octets; each line has its one CR LF at its end (Examples, 11)
abbrev pub crlf : List ℕ
crlf = 13 ∷ 10 ∷ []

abbrev pub space : List ℕ
space = 32 ∷ []

-- a mailbox name is quoted (Written, 2)
abbrev pub name_text : Name → List ℕ
name_text n = quoted n

abbrev pub mark_text : ListMark → List ℕ
mark_text plain = octets "()"
mark_text noselect = octets "(\\Noselect)"
mark_text non_existent = octets "(\\NonExistent)"
mark_text no_access = octets "(\\NoAccess)"
mark_text subscribed = octets "(\\Subscribed)"

-- texts with a space between them
abbrev pub spaced : List (List ℕ) → List ℕ
spaced [] = []
spaced (t ∷ ts) = t ++ concat_map (λ (u : List ℕ). space ++ u) ts

-- the names of the flags that are set, in the order of their bits (Records, 14)
abbrev pub flag_names : ℕ → List (List ℕ)
flag_names f =
    cond (bit 0 f) (octets "\\Answered" ∷ []) []
    ++ (cond (bit 1 f) (octets "\\Flagged" ∷ []) []
    ++ (cond (bit 2 f) (octets "\\Deleted" ∷ []) []
    ++ (cond (bit 3 f) (octets "\\Seen" ∷ []) []
    ++ cond (bit 4 f) (octets "\\Draft" ∷ []) [])))

abbrev pub status_text : StatusItem → List ℕ
status_text (messages k) = octets "MESSAGES " ++ decimal k
status_text (next u) = octets "UIDNEXT " ++ decimal u
status_text (validity v) = octets "UIDVALIDITY " ++ decimal v
status_text (highest h) = octets "HIGHESTMODSEQ " ++ decimal h

abbrev pub status_texts : List StatusItem → List (List ℕ)
status_texts [] = []
status_texts (i ∷ is) = status_text i ∷ status_texts is

abbrev pub item_text : Item → List ℕ
item_text (uid u) = octets "UID " ++ decimal u.0
item_text (flags f) = octets "FLAGS (" ++ (spaced (flag_names f) ++ octets ")")
item_text (size z) = octets "RFC822.SIZE " ++ decimal z
item_text (modseq c) = octets "MODSEQ (" ++ (decimal c ++ octets ")")

abbrev pub item_texts : List Item → List (List ℕ)
item_texts [] = []
item_texts (i ∷ is) = item_text i ∷ item_texts is

-- UIDs that follow each other by number are written as first and last, with `:` (Matches, 11);
-- the run from `from` to `upto` is open
abbrev pub run_text : ℕ → ℕ → List ℕ
run_text from upto = cond (eqb from upto) (decimal from) (decimal from ++ (octets ":" ++ decimal upto))

unfoldable pub runs_text : ℕ → ℕ → List Uid → List ℕ
runs_text from upto [] = run_text from upto
runs_text from upto (u ∷ us) =
    let longer = runs_text from u.0 us in
    let next = run_text from upto ++ (octets "," ++ runs_text u.0 u.0 us) in
    cond (eqb u.0 (upto + 1)) longer next

abbrev pub set_text : List Uid → List ℕ
set_text [] = []
set_text (u ∷ us) = runs_text u.0 u.0 us

abbrev pub result_text : Result → List ℕ
result_text (min u) = octets " MIN " ++ decimal u.0
result_text (max u) = octets " MAX " ++ decimal u.0
result_text (all us) = octets " ALL " ++ set_text us
result_text (count n) = octets " COUNT " ++ decimal n

-- the six answers to a command (Commands, 13 to 18)
abbrev pub too_large_text : Verb → List ℕ
too_large_text notify = octets "NO [NOTIFICATIONOVERFLOW] too large"
too_large_text esearch = octets "NO [LIMIT] too large"
too_large_text other_verb = []

abbrev pub done_text : Verb → List ℕ
done_text notify = octets "OK NOTIFY done"
done_text esearch = octets "OK ESEARCH done"
done_text other_verb = []

abbrev pub reply_text : Verb → Reply → List ℕ
reply_text v Bad = octets "BAD refused"
reply_text v BadEvent = octets "NO [BADEVENT (MessageNew MessageExpunge FlagChange MailboxName SubscriptionChange)] unsupported"
reply_text v Unsupported = octets "NO unsupported"
reply_text v BadCharset = octets "NO [BADCHARSET (US-ASCII UTF-8)] charset"
reply_text v TooLarge = too_large_text v
reply_text v Accepted = done_text v

-- a line without its end (Written, 3, 5, 8 to 10 and 22; Matches, 6 and 10)
abbrev pub text : Line → List ℕ
text (status n is) = octets "* STATUS " ++ (name_text n ++ (octets " (" ++ (spaced (status_texts is) ++ octets ")")))
text (list k n) = octets "* LIST " ++ (mark_text k ++ (octets " \"/\" " ++ name_text n))
text (renamed k new old) = octets "* LIST " ++ (mark_text k ++ (octets " \"/\" " ++ (name_text new ++ (octets " (\"OLDNAME\" (" ++ (name_text old ++ octets "))")))))
text (exists n) = octets "* " ++ (decimal n.0 ++ octets " EXISTS")
text (expunge n u) = octets "* " ++ (decimal n.0 ++ octets " EXPUNGE")
text (fetch n u is) = octets "* " ++ (decimal n.0 ++ (octets " FETCH (" ++ (spaced (item_texts is) ++ octets ")")))
text (found tag n v rs) = octets "* ESEARCH (TAG \"" ++ (tag ++ (octets "\" MAILBOX " ++ (name_text n ++ (octets " UIDVALIDITY " ++ (decimal v ++ (octets ") UID" ++ concat_map result_text rs))))))
text overflow = octets "* OK [NOTIFICATIONOVERFLOW] stopped"
text (answer tag v r) = tag ++ (space ++ reply_text v r)

unfoldable pub render : Line → List ℕ
render l = text l ++ crlf

-- lines one after the other
unfoldable pub render_all : List Line → List ℕ
render_all [] = []
render_all (l ∷ ls) = render l ++ render_all ls
