-- What a FETCH of a new message shows, by the groups of the session (01, What is written, 10). Assumes nothing.
use Rattle.std.specs.Prelude.{◌≡◌, refl, Bool, not, cond, ◌&&◌, ℕ, ◌-◌, eqb}
use Rattle.model.specs.Lists.{anyb}
use Rattle.model.specs.Text.{bit}
use Rattle.model.specs.Groups.{groups_of, is_selecting}
use Rattle.model.specs.View.{shows_any, shown_items}
use Rattle.model.specs.declared.Group.{Group}
use Rattle.model.specs.declared.Message.{Message}
use Rattle.model.specs.declared.Session.{Session}
use Rattle.line_fetch.specs.declared.Shows.{Shows}
use Rattle.line_fetch.specs.Items.{shown}

-- attributes hold part k: 0 is anything at all, then UID, FLAGS and RFC822.SIZE
abbrev pub part : ℕ → ℕ → Bool
part k a = cond (eqb k 0) (not (eqb a 0)) (bit (k - 1) a)

abbrev pub part_of : ℕ → Group → Bool
part_of k g = is_selecting g.selector && part k g.attributes

abbrev pub shows_of : Session → Shows
shows_of s = record { any = anyb (part_of 0) (groups_of s); uid = anyb (part_of 1) (groups_of s); flags = anyb (part_of 2) (groups_of s); size = anyb (part_of 3) (groups_of s) }

-- in the rules' words
pub any_is : (s : Session) → (shows_of s).any ≡ shows_any s
any_is s = refl

pub items_are : (s : Session) (e : Message) → shown (shows_of s) e ≡ shown_items s e
items_are s e = refl
