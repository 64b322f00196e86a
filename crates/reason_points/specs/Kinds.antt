-- A record's kind by its name: the ranges of its numbers, what follows them, and its points. Assumes nothing.
use Rattle.std.specs.Prelude.{◌≡◌, List, ℕ}
use Rattle.model.specs.Records.{layout, record_by}
use Rattle.model.specs.declared.Mailbox.{Mailbox}
use Rattle.model.specs.declared.Session.{Session}
use Rattle.record_read.specs.Kinds.{kind_for}
use Rattle.record_read.specs.Reading.{Bounded, Following}
use Rattle.record_read.specs.declared.Kind.{Kind}
use Rattle.reason_points.specs.declared.Points.{Points}
use Rattle.reason_points.specs.Showing.{Shows}

module _ (j : Kind) {k : Kind} (e : k ≡ j) where
  pub ranged : (v : List ℕ) → Bounded (layout (kind_for k)).fields 0 v → Bounded (layout (kind_for j)).fields 0 v
  ranged v r = rw e at r

  pub follows : (t : List ℕ) → Following (layout (kind_for k)).tail t → Following (layout (kind_for j)).tail t
  follows t r = rw e at r

  pub told_as : (v t : List ℕ) {s : Session} {l : List Mailbox} {p : Points} → Shows s l p (record_by (kind_for j) v t) → Shows s l p (record_by (kind_for k) v t)
  told_as v t f = rw e f
