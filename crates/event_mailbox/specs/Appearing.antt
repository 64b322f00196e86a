-- A mailbox appears or goes: who is told of it and of its parent y, the lines, what is heard (02, 2). Assumes nothing.
use Rattle.std.specs.Prelude.{◌≡◌, refl, Bool, true, false, cond, ◌&&◌, ◌||◌, List, [], ◌++◌, ℕ, eqb}
use Rattle.std.proofs.Common.{ap, sym, ◌∙◌}
use Rattle.model.specs.Lists.{when}
use Rattle.model.specs.Memory.{Memory, name_of, both_rights}
use Rattle.model.specs.Groups.{asked_of, asks_name}
use Rattle.model.specs.Lines.{Line, ListMark, list, render_all}
use Rattle.model.specs.Queue.{effects}
use Rattle.model.specs.Events.{loud, parent_mark}
use Rattle.model.specs.declared.Mailbox.{Mailbox}
use Rattle.model.specs.declared.Session.{Session}
use Rattle.match_parent.specs.Upper.{upper_asked, upper_lines}
use Rattle.line_mailbox.specs.Texts.{pair}
use Rattle.line_put.specs.Heard.{Heard, heard}

-- anybody may hear of it: the record is not quiet, and both rights on the mailbox are held
abbrev pub may_hear : Mailbox → ℕ → Bool
may_hear x quiet = eqb quiet 0 && both_rights x

-- somebody is told of the mailbox: a group asks for it
abbrev pub own_told : Session → Mailbox → ℕ → Bool
own_told s x quiet = may_hear x quiet && asked_of s x asks_name

-- of its parent
abbrev pub upper_told : Session → Mailbox → Mailbox → ℕ → Bool
upper_told s y x quiet = may_hear x quiet && upper_asked s y

-- of either
abbrev pub either_told : Session → Mailbox → Mailbox → ℕ → Bool
either_told s y x quiet = own_told s x quiet || upper_told s y x quiet

-- the lines, the mailbox being listed with k
abbrev pub both_lines : Session → Mailbox → Mailbox → ℕ → ListMark → List Line
both_lines s y x quiet k = pair (own_told s x quiet) (list k (name_of x)) (upper_told s y x quiet) (list (parent_mark y) (name_of y))

-- what is heard
abbrev pub both_heard : List ℕ → Session → ℕ → Mailbox → Mailbox → ℕ → ListMark → Heard
both_heard q s at y x quiet k = heard q s at (either_told s y x quiet) (render_all (both_lines s y x quiet k))

-- LIST lines end nothing
pair_ends : (own upper : Bool) (k j : ListMark) (n p : List ℕ) (m : Memory) → effects m (pair own (list k n) upper (list j p)) ≡ m
unfolding effects
pair_ends true true k j n p m = refl
pair_ends true false k j n p m = refl
pair_ends false true k j n p m = refl
pair_ends false false k j n p m = refl

pub both_ends : (s : Session) (y x : Mailbox) (quiet : ℕ) (k : ListMark) (m : Memory) → effects m (both_lines s y x quiet k) ≡ m
both_ends s y x quiet k m = pair_ends (own_told s x quiet) (upper_told s y x quiet) k (parent_mark y) (name_of x) (name_of y) m

-- the rule's lines are these, where y stands for the parent: `above` is what is told of it
pub both-when : (s : Session) (y x : Mailbox) (quiet : ℕ) (k : ListMark) (above : List Line) → upper_lines s y x ≡ above
    → loud quiet (when (both_rights x && asked_of s x asks_name) (list k (name_of x)) ++ above) ≡ cond (either_told s y x quiet) (both_lines s y x quiet k) []
both-when s y x quiet k above e =
    ap (λ (ls : List Line). loud quiet (when (both_rights x && asked_of s x asks_name) (list k (name_of x)) ++ ls)) (sym e)
    ∙ go (eqb quiet 0) (both_rights x) (asked_of s x asks_name) (upper_asked s y)
  where
    go : (a r b c : Bool) → cond a (when (r && b) (list k (name_of x)) ++ when (r && c) (list (parent_mark y) (name_of y))) []
        ≡ cond (((a && r) && b) || ((a && r) && c)) (pair ((a && r) && b) (list k (name_of x)) ((a && r) && c) (list (parent_mark y) (name_of y))) []
    go true true true c = refl
    go true true false true = refl
    go true true false false = refl
    go true false b c = refl
    go false r b c = refl
