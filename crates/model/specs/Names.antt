-- Mailbox names (01, Records, 19 and 20; Commands, 4; Matches, 1 and 6; 02, 2).
use Rattle.std.specs.Prelude.{Bool, true, false, not, cond, ◌&&◌, ◌||◌, List, [], ◌∷◌, ℕ, ◌+◌, eqb, leb, ltb, length, drop}
use Rattle.model.specs.Lists.{allb, anyb, same}
use Rattle.model.specs.Text.{octets, same_word}

-- a name is a list of octets
abbrev pub Name : Type 0
Name = List ℕ

-- an octet that may stand in a name: 0x20 to 0x7E
abbrev pub printable : ℕ → Bool
printable b = leb 0x20 b && leb b 0x7E

-- no part between `/` is empty; `begun` says whether the part that is being read has an octet
unfoldable pub no_part_empty : Bool → Name → Bool
no_part_empty begun [] = begun
no_part_empty begun (b ∷ n) =
    let closed = begun && no_part_empty false n in
    let longer = no_part_empty true n in
    cond (eqb b 47) closed longer

-- a valid name: 1 to 64 octets that may stand in a name, in parts of one or more (Records, 19)
abbrev pub valid : Name → Bool
valid n = (leb 1 (length n) && leb (length n) 64) && (allb printable n && no_part_empty false n)

-- INBOX in any case is INBOX; a part of a name keeps its octets (Records, 20)
abbrev pub inbox : Name
inbox = octets "INBOX"

abbrev pub fold : Name → Name
fold n = cond (same_word n inbox) inbox n

-- a mailbox argument of a command: the name it gives, or the empty one, which no mailbox has (Commands, 4)
abbrev pub argument : List ℕ → Name
argument a = cond (valid a) (fold a) []

-- the octets before the last `/`; none where there is no `/`
unfoldable pub before_slash : Name → Name
before_slash [] = []
before_slash (b ∷ n) = let rest = b ∷ before_slash n in cond (anyb (eqb 47) n) rest []

-- the direct parent's name, INBOX folded as in an argument; a name without `/` has none, which is the empty one (02, 2)
abbrev pub parent_of : Name → Name
parent_of n = argument (before_slash n)

abbrev pub has_parent : Name → Bool
has_parent n = not (eqb (length (parent_of n)) 0)

-- n begins with top and `/`
unfoldable pub leads : Name → Name → Bool
leads [] [] = false
leads [] (b ∷ n) = eqb b 47
leads (a ∷ top) [] = false
leads (a ∷ top) (b ∷ n) = let rest = leads top n in cond (eqb a b) rest false

-- n lies beneath top; beneath an argument that is no valid name lies nothing (Commands, 4)
abbrev pub beneath : Name → Name → Bool
beneath [] n = false
beneath (a ∷ top) n = leads (a ∷ top) n

-- a subtree is the mailbox named and every mailbox below it (Matches, 1)
abbrev pub subtree : Name → Name → Bool
subtree top n = same top n || beneath top n

-- one level of it is the mailbox named and those directly below it (Matches, 1)
abbrev pub subtree_one : Name → Name → Bool
subtree_one top n = same top n || (beneath top n && not (anyb (eqb 47) (drop (length top + 1) n)))

-- names in octet order: a comes before b, or is b (Matches, 6)
unfoldable pub before : Name → Name → Bool
before [] b = true
before (x ∷ a) [] = false
before (x ∷ a) (y ∷ b) =
    let rest = before a b in
    cond (ltb x y) true (cond (eqb x y) rest false)
