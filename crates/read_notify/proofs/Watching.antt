-- The session that a NOTIFY sets, by how it was read, over plain values. Assumes nothing.
use mathlib.Core.Path.{◌≡◌, refl, ap, sym}
use mathlib.Core.Bool.{Bool}
use mathlib.Core.List.{List}
use Prim.Native.Nat.{ℕ, ◌≤◌}
use native.Mathlib.Omega.{arith}
use lib.ListN.{length}
use borrow.Author.Tests.{le-leb}
use Rattle.std.specs.Prelude.{Some, None}
use Rattle.model.specs.Requests.{Asked, Command, notify_none, notify_set, search}
use Rattle.model.specs.Limits.{name_count}
use Rattle.model.specs.Reading.{Parsed, bad, ok}
use Rattle.model.specs.declared.Session.{Session}
use Rattle.read_notify.specs.Tallies.{filters_of, tally_of}
use Rattle.read_notify.specs.Readings.{read_notify, Keeps}
use Rattle.read_notify.specs.Watched.{settle, watched_by}
use Rattle.read_filters.proofs.Pairs.{read-same}
use Rattle.read_notify.specs.declared.Tally.{Tally}
use Rattle.read_notify.specs.declared.Groups.{Groups as Gathered}
use Rattle.read_notify.specs.declared.Notify.TheVariants.{Groups}

pub watched_unread : (x : Parsed Command) (y : Session) → Keeps x None → y ≡ watched_by x y
watched_unread bad y k = refl
watched_unread (ok p notify_none) y k = let h = k.exact in cc
watched_unread (ok p (notify_set status gs)) y k = let h = k.exact in cc
watched_unread (ok p (search q)) y k = refl

-- ---- groups that were read
module _ (x : Parsed Command) (p : ℕ) (y : Session) (g : Gathered) (k : Keeps x (Some (Groups g, p))) where
  found : (gs : List Asked) × (q : ℕ) × (x ≡ ok q (notify_set g.status gs)) × (tally_of gs ≡ g.tally)
  found = go x k.exact
    where
      go : (z : Parsed Command) → Some (Some (g.status, g.tally), p) ≡ read_notify z → (gs : List Asked) × (q : ℕ) × (z ≡ ok q (notify_set g.status gs)) × (tally_of gs ≡ g.tally)
      go bad h = cc
      go (ok q notify_none) h = let z : ⊥ = cc ((read-same h).0) in absurd z
      go (ok q (notify_set status gs)) h =
          let e = (read-same h).0 in
          let z : ◌≡◌ {A = Bool × Tally} (g.status, g.tally) (status, tally_of gs) = cc in
          (gs, q, rw (ap (λ (x : Bool × Tally). x.0) z), sym (ap (λ (x : Bool × Tally). x.1) z))
      go (ok q (search r)) h = cc

  pub watched_few : g.tally.groups ≤ 8 → g.tally.names ≤ 16 → settle y g.watch g.kept ≡ watched_by x y
  watched_few a b =
      let n = ap (λ (u : Tally). u.groups) found.3 in
      let m = ap (λ (u : Tally). u.names) found.3 in
      let c : length found.0 ≤ 8 = omega arith in
      let d : name_count (filters_of found.0) ≤ 16 = omega arith in
      rw (found.2, le-leb (length found.0) 8 c, le-leb (name_count (filters_of found.0)) 16 d) (k.keeps found.1 g.status found.0 found.2 c d y)
