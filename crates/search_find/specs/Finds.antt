-- What a search of one mailbox finds, as code keeps it: UIDs as numbers, one after the other. Assumes nothing: these are definitions.
use Rattle.std.specs.Prelude.{◌≡◌, Bool, not, cond, ◌&&◌, List, map, ℕ, ◌+◌, ◌≤◌, ltb, length, take, set}
use Rattle.model.specs.Lists.{filterb}
use Rattle.model.specs.Memory.{uid_of, expunged}
use Rattle.model.specs.Requests.{Keys}
use Rattle.model.specs.Searching.{holds_all, matches}
use Rattle.model.specs.declared.Message.{Message}
use Rattle.model.specs.declared.Uid.{Uid}
use Rattle.read_keys.specs.Table.{codes}
use Rattle.match_keys.specs.Tests.{candidate, Propers}
use Rattle.match_keys.specs.declared.Probe.{Probe}
use Rattle.order_messages.specs.Chosen.{chosen}

abbrev pub uids_of : List ℕ → List Uid
uids_of l = map (λ (u : ℕ). record { 0 = u }) l

-- the keys are those that the cells hold
abbrev pub Held : List ℕ → Keys → Type 0
Held cells ks = (cells ≡ codes ks) × Propers ks

abbrev pub Hits : List ℕ → Probe → Bool → Type 0
Hits cells p r = (ks : Keys) → Held cells ks → r ≡ (not (expunged p.message) && holds_all ks (candidate p))

-- x is put at r, where it is wanted
pub record Pushed (l : List ℕ) (r x : ℕ) (on : Bool) (l' : List ℕ) (r' : ℕ) : Type 0 where
  pub list : l' ≡ cond on (set l r x) l
  pub next : r' ≡ cond on (r + 1) r
  pub long : length l' ≡ length l
  pub most : r' ≤ r + 1

pub record Finds (es : List Message) (order : List ℕ) (n : ℕ) (cells : List ℕ) (uids uids' : List ℕ) (r : ℕ) : Type 0 where
  pub few : r ≤ n
  pub long : length uids' ≡ length uids
  pub exact : (ks : Keys) → Held cells ks → uids_of (take r uids') ≡ matches ks (chosen es order n)

pub record Keeps (es : List Message) (order : List ℕ) (n told : ℕ) (view view' : List ℕ) (r : ℕ) : Type 0 where
  pub few : r ≤ n
  pub long : length view' ≡ length view
  pub exact : chosen es view' r ≡ filterb (λ (e : Message). ltb (uid_of e) told) (chosen es order n)
