-- ESEARCH: keys, sources, what is to be returned, the charset, and the command (01, Commands, 7 to 11; RFC 6237, section 4).
use Rattle.std.specs.Prelude.{Bool, true, false, cond, ◌&&◌, ◌||◌, List, [], ◌∷◌, ℕ, zero, suc, ◌+◌, ◌*◌, eqb, length}
use Prim.Native.String.{String}
use Rattle.model.specs.Lists.{anyb, apart}
use Rattle.model.specs.Octets.{atom_octet, digit}
use Rattle.model.specs.Requests.{Test, all, unsupported, flagged, larger, smaller, uids, numbers, Key, test, non, either, group, Keys, end, more}
use Rattle.model.specs.Requests.{Filter, Charset, none, known, unknown, Search, Command, search}
use Rattle.model.specs.Reading.{Parsed, bad, ok, and_then, octet_at, stands, after, end_of, atom_at, is, is_of, word_at}
use Rattle.model.specs.Reading.{number_at, text_at, astring_at, number_set_at, date_at}
use Rattle.model.specs.Reading.{Next, another, over, neither, Ending, closing, line_end, next_at, list_at}
use Rattle.model.specs.NotifyGrammar.{filter_at}

-- ---- keys by their words
-- a key's word by what stands behind it: nothing, a number, a set, RFC 3501's arguments of a key that is not supported, keys; or it is no key's word
pub data Keyword : Type 0 where
  bare : Test → Keyword
  above below uid_set string keyword date header negated alternatives strange : Keyword

-- each flag has two keys, for set and for not set (Commands, 9); its bit is the one that `ME` gives it (Records, 14)
abbrev pub word_of_flag : List ℕ → Keyword → Keyword
word_of_flag w others =
    cond (is w "ANSWERED") (bare (flagged 0 true))
    (cond (is w "UNANSWERED") (bare (flagged 0 false))
    (cond (is w "FLAGGED") (bare (flagged 1 true))
    (cond (is w "UNFLAGGED") (bare (flagged 1 false))
    (cond (is w "DELETED") (bare (flagged 2 true))
    (cond (is w "UNDELETED") (bare (flagged 2 false))
    (cond (is w "SEEN") (bare (flagged 3 true))
    (cond (is w "UNSEEN") (bare (flagged 3 false))
    (cond (is w "DRAFT") (bare (flagged 4 true))
    (cond (is w "UNDRAFT") (bare (flagged 4 false)) others)))))))))

-- the keys that are read and not supported (Commands, 11)
abbrev pub unsupported_word : List ℕ → Keyword
unsupported_word w =
    cond (is_of w ("NEW" ∷ "OLD" ∷ "RECENT" ∷ [])) (bare unsupported)
    (cond (is_of w ("BCC" ∷ "BODY" ∷ "CC" ∷ "FROM" ∷ "SUBJECT" ∷ "TEXT" ∷ "TO" ∷ [])) string
    (cond (is_of w ("KEYWORD" ∷ "UNKEYWORD" ∷ [])) keyword
    (cond (is_of w ("BEFORE" ∷ "ON" ∷ "SINCE" ∷ "SENTBEFORE" ∷ "SENTON" ∷ "SENTSINCE" ∷ [])) date
    (cond (is w "HEADER") header strange))))

-- all of them (Commands, 9 and 11)
unfoldable pub keyword_of : List ℕ → Keyword
keyword_of w =
    cond (is w "ALL") (bare all)
    (cond (is w "LARGER") above
    (cond (is w "SMALLER") below
    (cond (is w "UID") uid_set
    (cond (is w "NOT") negated
    (cond (is w "OR") alternatives (word_of_flag w (unsupported_word w)))))))

-- ---- how a key begins
-- a key that holds no key, read whole; NOT, OR and a list, with the position of what they hold; or no key
pub data Start : Type 0 where
  single : ℕ → Test → Start
  negation alternation opening : ℕ → Start
  wrong : Start

abbrev pub single_of : Parsed Test → Start
single_of bad = wrong
single_of (ok p t) = single p t

-- an argument that nothing is kept of
abbrev pub argued : {A : Type 0} → Parsed A → Parsed Test
argued x = and_then x λ q argument. ok q unsupported

abbrev pub start_by : Keyword → List ℕ → ℕ → Start
start_by (bare t) s p = single p t
start_by above s p = single_of (after s p " " λ q. and_then (number_at s q) λ r n. ok r (larger n))
start_by below s p = single_of (after s p " " λ q. and_then (number_at s q) λ r n. ok r (smaller n))
start_by uid_set s p = single_of (after s p " " λ q. and_then (number_set_at s q) λ r parts. ok r (uids parts))
start_by string s p = single_of (after s p " " λ q. argued (astring_at s q))
start_by keyword s p = single_of (after s p " " λ q. argued (atom_at s q))
start_by date s p = single_of (after s p " " λ q. argued (date_at s q))
start_by header s p = single_of (after s p " " λ q. and_then (astring_at s q) λ r field. after s r " " λ t. argued (astring_at s t))
start_by negated s p = cond (stands s p " ") (negation (p + 1)) wrong
start_by alternatives s p = cond (stands s p " ") (alternation (p + 1)) wrong
start_by strange s p = wrong

abbrev pub start_of : Parsed (List ℕ) → List ℕ → Start
start_of bad s = wrong
start_of (ok p w) s = start_by (keyword_of w) s p

-- a set of message numbers begins with a digit or a star, a list with a parenthesis, any other key with its word (Commands, 9)
unfoldable pub start_at : List ℕ → ℕ → Start
start_at s p =
    cond (stands s p "(") (opening (p + 1))
    (cond (digit (octet_at s p) || stands s p "*")
    (single_of (and_then (number_set_at s p) λ q parts. ok q (numbers parts)))
    (start_of (atom_at s p) s))

-- ---- keys
-- one key by how it begins; `key` and `list` read what is inside it (Commands, 10)
abbrev pub key_by : Start → (ℕ → Parsed Key) → (ℕ → Parsed Keys) → List ℕ → Parsed Key
key_by (single p t) key list s = ok p (test t)
key_by (negation p) key list s = and_then (key p) λ q k. ok q (non k)
key_by (alternation p) key list s = and_then (key p) λ q a. after s q " " λ r. and_then (key r) λ e b. ok e (either a b)
key_by (opening p) key list s = and_then (list p) λ q ks. ok q (group ks)
key_by wrong key list s = bad

-- what follows a key k of a list
abbrev pub keys_by : Next → (ℕ → Parsed Keys) → Key → Parsed Keys
keys_by (another p) list k = and_then (list p) λ q ks. ok q (more k ks)
keys_by (over p) list k = ok p (more k end)
keys_by neither list k = bad

-- one key, and one key or more with a space between; cut off after n steps, of which two for each octet are enough
unfoldable mutual
  pub key_at : ℕ → List ℕ → ℕ → Parsed Key
  key_at zero s p = bad
  key_at (suc n) s p = key_by (start_at s p) (λ q. key_at n s q) (λ q. keys_at n closing s q) s

  pub keys_at : ℕ → Ending → List ℕ → ℕ → Parsed Keys
  keys_at zero e s p = bad
  keys_at (suc n) e s p = and_then (key_at n s p) λ q k. keys_by (next_at e s q) (λ r. keys_at n e s r) k

-- the command's own keys, to the end of the line
abbrev pub program_at : List ℕ → ℕ → Parsed Keys
program_at s p = keys_at (2 * length s + 1) line_end s p

-- ---- what is to be returned
pub data Return : Type 0 where
  minimum maximum all_of count : Return

abbrev pub return_place : Return → ℕ
return_place minimum = 0
return_place maximum = 1
return_place all_of = 2
return_place count = 3

abbrev pub like : Return → Return → Bool
like a b = eqb (return_place a) (return_place b)

-- the options that are known; another does not fit (Commands, 7)
abbrev pub return_by : List ℕ → ℕ → Parsed Return
return_by w p =
    cond (is w "MIN") (ok p minimum)
    (cond (is w "MAX") (ok p maximum)
    (cond (is w "ALL") (ok p all_of)
    (cond (is w "COUNT") (ok p count) bad)))

abbrev pub return_at : List ℕ → ℕ → Parsed Return
return_at s p = and_then (atom_at s p) λ q w. return_by w q

-- none is written twice (Commands, 7)
abbrev pub once : ℕ → List Return → Parsed (List Return)
once p rs = cond (apart like rs) (ok p rs) bad

-- options in parentheses, which may be empty (RFC 4466, search-return-opts)
unfoldable pub returns_at : List ℕ → ℕ → Parsed (List Return)
returns_at s p =
    cond (stands s p "(" && stands s (p + 1) ")") (ok (p + 2) [])
    (and_then (list_at (return_at s) s p) λ q rs. once q rs)

-- is this option written; without any, ALL counts as written (Commands, 7)
abbrev pub returned : Return → List Return → Bool
returned r rs = anyb (like r) rs

abbrev pub all_returned : List Return → Bool
all_returned [] = true
all_returned (r ∷ rs) = returned all_of (r ∷ rs)

-- ---- the charset
-- an atom or a quoted string; two charsets are known, in any case of their letters (Commands, 7 and 16; RFC 4466, charset)
abbrev pub charset_of : List ℕ → Charset
charset_of w = cond (is_of w ("US-ASCII" ∷ "UTF-8" ∷ [])) known unknown

unfoldable pub charset_at : List ℕ → ℕ → Parsed Charset
charset_at s p = and_then (text_at atom_octet s p) λ q w. ok q (charset_of w)

-- ---- the command
-- a part that may be left out: its word, a space, what it gives, a space; d where it is left out
abbrev pub option_by : {A : Type 0} → Bool → (ℕ → Parsed A) → A → List ℕ → ℕ → Parsed A
option_by true value d s p = after s (end_of atom_octet s p) " " λ q. and_then (value q) λ r a. after s r " " λ e. ok e a
option_by false value d s p = ok p d

abbrev pub option_at : {A : Type 0} → String → (ℕ → Parsed A) → A → List ℕ → ℕ → Parsed A
option_at word value d s p = option_by (word_at s p word) value d s p

-- what is asked, out of its four parts
abbrev pub search_for : List Filter → List Return → Charset → Keys → Search
search_for sources returns charset keys =
    record {
      sources = sources;
      min = returned minimum returns;
      max = returned maximum returns;
      all = all_returned returns;
      count = returned count returns;
      charset = charset;
      keys = keys;
    }

-- behind ESEARCH and a space: sources, what is to be returned, the charset, in this order, and the keys; a source has no options (Commands, 7 and 8)
unfoldable pub search_at : List ℕ → ℕ → Parsed Command
search_at s p =
    and_then (option_at "IN" (list_at (filter_at s) s) [] s p) λ q sources.
    and_then (option_at "RETURN" (returns_at s) [] s q) λ r returns.
    and_then (option_at "CHARSET" (charset_at s) none s r) λ t charset.
    and_then (program_at s t) λ e keys. ok e (search (search_for sources returns charset keys))
