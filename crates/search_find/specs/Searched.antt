-- What the search of one mailbox finds, and that it is the definition's. Assumes nothing.
use Rattle.std.specs.Prelude.{◌≡◌, List, ℕ, ◌≤◌, ltb, length, take}
use Rattle.std.proofs.Common.{ap, ◌∙◌, arith, length-take-le}
use Rattle.model.specs.Lists.{filterb}
use Rattle.model.specs.Memory.{uid_of, messages_of}
use Rattle.model.specs.Requests.{Keys}
use Rattle.model.specs.Searching.{matches}
use Rattle.model.specs.declared.Message.{Message}
use Rattle.order_messages.specs.Chosen.{chosen, chosen-take}
use Rattle.order_messages.specs.Counts.{chosen-length, order_short}
use Rattle.search_find.specs.Finds.{uids_of, Held, Finds, Keeps}

abbrev pub told : ℕ → List Message → List Message
told below l = filterb (λ (e : Message). ltb (uid_of e) below) l

pub record Searched (used : ℕ) (l : List Message) (cells : List ℕ) (uids' : List ℕ) (r : ℕ) : Type 0 where
  pub few : r ≤ used
  pub short : r ≤ length l
  pub exact : (ks : Keys) → Held cells ks → uids_of (take r uids') ≡ matches ks l

-- ---- along an order of all entries of a mailbox, and along those of them in the view
module _ (es : List Message) (id : ℕ) (order : List ℕ) (n : ℕ) (e : chosen es order n ≡ messages_of id es) where
  pub box-searched : (cells : List ℕ) (uids uids' : List ℕ) (r : ℕ) → Finds es order n cells uids uids' r → Searched (length es) (messages_of id es) cells uids' r
  box-searched cells uids uids' r f =
      let a = order_short es es order n id e in
      let b = f.few in
      let g = chosen-length es order n in
      let h = ap length e in
      record { few = omega arith; short = omega arith; exact = λ ks h. f.exact ks h ∙ ap (matches ks) e }

  pub view-searched : (below : ℕ) (view₀ view' : List ℕ) (v : ℕ) → Keeps es order n below view₀ view' v → (cells : List ℕ) (uids uids' : List ℕ) (r : ℕ) → Finds es view' v cells uids uids' r
      → Searched (length es) (told below (messages_of id es)) cells uids' r
  view-searched below view₀ view' v k cells uids uids' r f =
      let a = order_short es es order n id e in
      let b = f.few in
      let c = k.few in
      let g = chosen-length es view' v in
      let h = ap length (k.exact ∙ ap (told below) e) in
      record { few = omega arith; short = omega arith; exact = λ ks h. f.exact ks h ∙ ap (matches ks) (k.exact ∙ ap (told below) e) }

-- the same along the places that are in use, cut off
pub found_cut : (es : List Message) (at : List ℕ) (n : ℕ) (cells uids uids' : List ℕ) (r : ℕ) → n ≤ length at → Finds es (take n at) (length (take n at)) cells uids uids' r → Finds es at n cells uids uids' r
found_cut es at n cells uids uids' r h f =
    let a = length-take-le n at h in
    let b = f.few in
    record { few = omega arith; long = f.long; exact = λ ks k. f.exact ks k ∙ ap (matches ks) (chosen-take es at n h) }

pub kept_cut : (es : List Message) (at : List ℕ) (n told : ℕ) (view view' : List ℕ) (r : ℕ) → n ≤ length at → Keeps es (take n at) (length (take n at)) told view view' r → Keeps es at n told view view' r
kept_cut es at n t view view' r h k =
    let a = length-take-le n at h in
    let b = k.few in
    record { few = omega arith; long = k.long; exact = k.exact ∙ ap (told t) (chosen-take es at n h) }
