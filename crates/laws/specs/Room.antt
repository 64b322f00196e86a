-- Where a line may go: a queue past its last 64 octets has no group beside it, so whoever is told finds them free (01, refusal 1). Assumes nothing.
use Rattle.std.specs.Prelude.{◌≡◌, refl, Bool, true, false, ◌||◌, map, ℕ, ◌+◌, ◌-◌, ◌≤◌, eqb, leb, length, take}
use Rattle.std.proofs.Common.{ap, arith, eqb-true, leb-true, leb-false, le-leb}
use Rattle.std.proofs.lemmas.Bool.{lt-leb}
use Rattle.model.specs.Laws.{and_l, and_r, tf}
use Rattle.model.specs.Lists.{anyb}
use Rattle.model.specs.Names.{Name}
use Rattle.model.specs.Memory.{Memory, filled}
use Rattle.model.specs.Groups.{group_of, groups_of, asked}
use Rattle.model.specs.Lawful.{queue_ok, filled_ok}
use Rattle.demands.specs.Lasting.Law.{Law}
use Rattle.model.specs.declared.Group.{Group}
use Rattle.model.specs.declared.Session.{Session}

-- room below the last 64 octets, counted from the front or from what is filled
pub room_same : (f a b : ℕ) → f ≤ b → leb (f + a) b ≡ leb a (b - f)
room_same f a b h = go (leb a (b - f)) refl
  where
    go : (c : Bool) → leb a (b - f) ≡ c → leb (f + a) b ≡ c
    go true q = let z = leb-true a (b - f) q in le-leb (f + a) b (omega arith)
    go false q = let z = leb-false a (b - f) q in lt-leb (f + a) b (omega arith)

-- a queue of q octets, f of them filled, beside a session: the sizes of lawful memory
pub record Room (q f : ℕ) (s : Session) : Type 0 where
  pub size : queue_ok q ≡ true
  pub fill : filled_ok q f s ≡ true

pub law-room : (m : Memory) → Law m → Room (length m.queue) (filled m) m.session
law-room m law = record { size = law.size; fill = law.fill }

-- the same in numbers
pub record Sizes (q f : ℕ) : Type 0 where
  pub low : 1024 ≤ q
  pub high : q ≤ 65536
  pub filled : f ≤ q

module _ (q f : ℕ) (s : Session) (room : Room q f s) where
  pub sizes : Sizes q f
  sizes = record {
    low = leb-true _ _ (and_l (leb 1024 q) (leb q 65536) room.size);
    high = leb-true _ _ (and_r (leb 1024 q) (leb q 65536) room.size);
    filled = leb-true _ _ (and_l (leb f q) (eqb s.groupcount 0 || leb f (q - 64)) room.fill);
  }

  -- a group asks
  pub group_free : (p : Group → Bool) → anyb p (groups_of s) ≡ true → f ≤ q - 64
  group_free p h = go (eqb s.groupcount 0) refl (and_r (leb f q) (eqb s.groupcount 0 || leb f (q - 64)) room.fill)
    where
      go : (b : Bool) → eqb s.groupcount 0 ≡ b → (b || leb f (q - 64)) ≡ true → f ≤ q - 64
      go true e x =
          let z = eqb-true s.groupcount 0 e in
          let none : anyb p (groups_of s) ≡ false = ap (λ (n : ℕ). anyb p (map group_of (take n s.groups))) z in
          leb-true _ _ (tf (anyb p (groups_of s)) h none)
      go false e x = leb-true _ _ x

  pub asked_free : (n : Name) (a : ℕ) (asks : Group → Bool) → asked s n a asks ≡ true → f ≤ q - 64
  asked_free n a asks h = group_free _ h
