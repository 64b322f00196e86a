-- What serving a record of a kind must leave, and what it may rely on of the record's numbers. Assumes nothing.
use Rattle.std.specs.Prelude.{◌≡◌, List, ℕ, get_or, Option}
use Rattle.std.proofs.Common.{ap, sym, ◌∙◌}
use Rattle.model.specs.Records.{layout, record_by}
use Rattle.model.specs.Memory.{Memory, boxes, the_mailbox, selected_box}
use Rattle.model.specs.declared.Counts.{Counts}
use Rattle.model.specs.declared.Session.{Session}
use Rattle.demands.specs.Lasting.Law.{Law}
use Rattle.record_read.specs.Kinds.{kind_for}
use Rattle.record_read.specs.Reading.{Bounded, Following}
use Rattle.record_read.specs.declared.Kind.{Kind}
use Rattle.record_outcome.specs.Coming.{Lends, Found, row_of, Comes, Came, ladder}
use Rattle.record_outcome.specs.Laws.{row_is}
use Rattle.record_outcome.specs.declared.Place.{Place}
use Rattle.record_kind.specs.Subjects.{sought}

-- the numbers v of a record of a kind are in their ranges
abbrev pub InRange : Kind → List ℕ → Type 0
InRange k v = Bounded (layout (kind_for k)).fields 0 v

-- and so is what follows them
abbrev pub Follows : Kind → List ℕ → Type 0
Follows k t = Following (layout (kind_for k)).tail t

-- a record of a kind with numbers v and what follows them, t, comes in lawful memory m, whose words, counts, session and queue those are, to what the rules say:
-- the mailbox that it needs was found as o says
abbrev pub Serves : Memory → Kind → List ℕ → List ℕ → Option Place → List ℕ → Counts → Session → List ℕ → Came → List ℕ → List ℕ → Type 0
Serves m kind v t o ws counts s q z ws' q' =
    Lends m ws counts s q → Law m → Found m (sought kind (get_or v 0 0) s.selected) o → Comes m (ladder m (record_by (kind_for kind) v t)) z ws ws' q'

-- the row of what was sought is the selected one's
pub is-selected : (m : Memory) {ws : List ℕ} {counts : Counts} {s : Session} {q : List ℕ} (o : Option Place) → Lends m ws counts s q → Found m s.selected o → row_of o ≡ selected_box m
is-selected m {s = s} o lends w = row_is m s.selected o w ∙ ap (λ (j : Session). the_mailbox j.selected (boxes m)) (sym lends.session)

-- ---- a kind by its name
module _ {k : Kind} (j : Kind) (e : k ≡ j) (v : List ℕ) where
  pub range_of : InRange k v → InRange j v
  range_of r = rw e at r

  pub follows_of : Follows k v → Follows j v
  follows_of r = rw e at r

  pub serves_of : (t : List ℕ) (o : Option Place) {m : Memory} {ws : List ℕ} {counts : Counts} {s : Session} {q : List ℕ} {z : Came} {ws' q' : List ℕ}
      → Serves m j v t o ws counts s q z ws' q' → Serves m k v t o ws counts s q z ws' q'
  serves_of t o f = rw e f
