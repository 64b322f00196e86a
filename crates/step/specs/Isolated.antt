-- Demand 3 at the code follows from demand 3 of the rules, since every call of a run is the rules' call. Assumes nothing.
use Rattle.std.specs.Prelude.{◌≡◌, refl, List, [], ◌∷◌, map, Bool, true, false, not, ◌&&◌, ◌||◌, ℕ, eqb}
use Rattle.std.proofs.Common.{ap, ap₂, sym, ◌∙◌}
use Rattle.std.proofs.Math.ListN.{get_elem?}
use Rattle.model.specs.Lists.{filterb, anyb, keep}
use Rattle.model.specs.Records.{about}
use Rattle.model.specs.Memory.{Memory}
use Rattle.model.specs.Hidden.{Octets, Called, calls, holds_right, hidden, without, remaining, excepted, observed, Starts}
use Rattle.demands.specs.Theorems.{isolated}
use Rattle.step.specs.Steps.{Lent, memory_of, after_is}
use Rattle.step.specs.Runs.{Made, Runs, holds, hidden_in, others, Freely, shows, Begins, Alike}

-- a call as the rules have it
abbrev called : Made → Called
called c = record { octets = c.octets; answer = c.answer; after = memory_of c.after }

abbrev octets_of : Made → Octets
octets_of c = c.octets

-- a run is the rules' calls of its octets
run-calls : (a : Lent) (cs : List Made) → Runs a cs → map called cs ≡ calls (memory_of a) (map octets_of cs)
run-calls a [] r = refl
run-calls a (c ∷ cs) r =
    let e = after_is a c.octets c.answer c.after r.0 in
    ap₂ (λ (x : Called) (l : List Called). x ∷ l) (rw (r.0.answer, e)) (run-calls c.after cs r.1 ∙ ap (λ (m : Memory). calls m (map octets_of cs)) e)

module _ {A B : Type 0} (f : A → B) where
  any-map : (p : B → Bool) (l : List A) → anyb p (map f l) ≡ anyb (λ (x : A). p (f x)) l
  any-map p [] = refl
  any-map p (x ∷ l) = ap (λ (b : Bool). p (f x) || b) (any-map p l)

  filter_map : (p : B → Bool) (q : A → Bool) → ((x : A) → p (f x) ≡ q x) → (l : List A) → filterb p (map f l) ≡ map f (filterb q l)
  filter_map p q h [] = refl
  filter_map p q h (x ∷ l) = go (q x) (h x) (filter_map p q h l)
    where
      go : (b : Bool) → p (f x) ≡ b → filterb p (map f l) ≡ map f (filterb q l) → keep (p (f x)) (f x) (filterb p (map f l)) ≡ map f (keep b x (filterb q l))
      go true e r = rw e (ap (λ (m : List B). f x ∷ m) r)
      go false e r = rw e r

map-map : {A B C : Type 0} (f : A → B) (g : B → C) (l : List A) → map g (map f l) ≡ map (λ (x : A). g (f x)) l
map-map f g [] = refl
map-map {C = C} f g (x ∷ l) = ap (λ (m : List C). g (f x) ∷ m) (map-map f g l)

module _ (a b : Lent) (start : Begins a b) (cs ds : List Made) (run : Runs a cs) (run' : Runs b ds) where
  abbrev m : Memory
  m = memory_of a

  abbrev n : Memory
  n = memory_of b

  abbrev os : List Octets
  os = map octets_of cs

  abbrev os' : List Octets
  os' = map octets_of ds

  abbrev H : ℕ → Bool
  H = hidden m n os os'

  abbrev K : ℕ → Bool
  K = hidden_in a b cs ds

  ever_same : (x : Lent) (l : List Made) → Runs x l → (i : ℕ) → anyb (λ (c : Called). holds_right i c.after) (calls (memory_of x) (map octets_of l)) ≡ anyb (λ (c : Made). holds i c.after) l
  ever_same x l r i =
      ap (anyb (λ (c : Called). holds_right i c.after)) (sym (run-calls x l r)) ∙ any-map called (λ (c : Called). holds_right i c.after) l

  same-hidden : (i : ℕ) → H i ≡ K i
  same-hidden i =
      ap₂ (λ (p q : Bool). not (eqb i 0) && (not (holds i a || p) && not (holds i b || q))) (ever_same a cs run i) (ever_same b ds run' i)

  same-octets : (l : List Made) → without H (map octets_of l) ≡ map octets_of (others K l)
  same-octets l = filter_map octets_of (λ (o : Octets). not (H (about o))) (λ (c : Made). not (K (about c.octets))) (λ c. ap not (same-hidden (about c.octets))) l

  same_others : (x : Lent) (l : List Made) → Runs x l → remaining H (calls (memory_of x) (map octets_of l)) ≡ map called (others K l)
  same_others x l r =
      ap (remaining H) (sym (run-calls x l r))
      ∙ filter_map called (λ (c : Called). not (H (about c.octets))) (λ (c : Made). not (K (about c.octets))) (λ c. ap not (same-hidden (about c.octets))) l

  same_free : (x : Lent) (l : List Made) → Runs x l → Freely (others K l) → anyb (λ (c : Called). excepted c.answer) (remaining H (calls (memory_of x) (map octets_of l))) ≡ false
  same_free x l r e =
      ap (anyb (λ (c : Called). excepted c.answer)) (same_others x l r) ∙ (any-map called (λ (c : Called). excepted c.answer) (others K l) ∙ e)

  same_shown : (x : Lent) (l : List Made) → Runs x l → map observed (remaining H (calls (memory_of x) (map octets_of l))) ≡ map shows (others K l)
  same_shown x l r = ap (map observed) (same_others x l r) ∙ map-map called observed (others K l)

  starts : Starts m n
  starts = record {
    counts = start.counts;
    counts' = start.counts';
    session = start.session;
    session' = start.session';
    queue = start.queue;
    rows = start.table;
    entries = start.entries;
  }

  pub shown_alike : map octets_of (others K cs) ≡ map octets_of (others K ds) → Freely (others K cs) → Freely (others K ds)
      → (k : ℕ) → get_elem? (map shows (others K cs)) k ≡ get_elem? (map shows (others K ds)) k
  shown_alike e f g k =
      ap (λ (l : List (ℕ × List ℕ × List ℕ)). get_elem? l k) (sym (same_shown a cs run))
      ∙ (isolated m n starts os os' (same-octets cs ∙ (e ∙ sym (same-octets ds))) (same_free a cs run f) (same_free b ds run' g) k
      ∙ ap (λ (l : List (ℕ × List ℕ × List ℕ)). get_elem? l k) (same_shown b ds run'))

-- the theorem
pub alike : Alike
alike a b start cs ds run run' e f g k = shown_alike a b start cs ds run run' e f g k
