-- Demand 3 of the exported step's runs, through its contract alone: each is a run of the step, its answers in numbers. Assumes nothing.
use Rattle.std.specs.Prelude.{◌≡◌, refl, List, [], ◌∷◌, map, Bool, true, false, not, ◌&&◌, ◌||◌, ℕ, zero, suc, eqb, length, get_or}
use Rattle.std.proofs.Common.{ap, ap₂, sym, ◌∙◌, subst}
use Rattle.std.proofs.Math.Option.{Option, none, some}
use Rattle.std.proofs.Math.ListN.{get_elem?}
use Rattle.model.specs.Lists.{anyb, keep}
use Rattle.model.specs.Records.{about}
use Rattle.model.specs.Hidden.{excepted}
use Rattle.step.specs.Steps.{Lent}
use Rattle.step.specs.Runs.{Made, Runs, holds, hidden_in, others, Freely, shows}
use Rattle.step.specs.Isolated.{alike}
use Rattle.lent_answer.specs.declared.Answered.{Answered}
use Rattle.exported.specs.Hosts.{Hosted, HostRuns, octets_of, hidden_of, besides, Unrefused, shown, HostsAlike}

-- ---- the run of the step behind a host's
abbrev all_made : (a : Lent) (cs : List Hosted) → HostRuns a cs → List Made
all_made a [] r = []
all_made a (c ∷ cs) r = record { octets = c.octets; answer = r.0.answer; after = c.after } ∷ all_made c.after cs r.1

made_runs : (a : Lent) (cs : List Hosted) (r : HostRuns a cs) → Runs a (all_made a cs r)
made_runs a [] r = tt
made_runs a (c ∷ cs) r = (r.0.steps, made_runs c.after cs r.1)

-- the same ids hold a right
made_holds : (i : ℕ) (a : Lent) (cs : List Hosted) (r : HostRuns a cs) → anyb (λ (c : Made). holds i c.after) (all_made a cs r) ≡ anyb (λ (c : Hosted). holds i c.after) cs
made_holds i a [] r = refl
made_holds i a (c ∷ cs) r = ap (λ (b : Bool). holds i c.after || b) (made_holds i c.after cs r.1)

-- what a call shows, in numbers
abbrev in_numbers : ℕ × List ℕ × List ℕ → Answered × List ℕ
in_numbers x = (record { refusal = x.0; counted = length x.1; count = get_or x.1 0 0 }, x.2)

-- one is kept on both sides, or on neither
module _ {A B C : Type 0} (f : A → C) (g : B → C) where
  keep_same : (b : Bool) (x : A) (y : B) (l : List A) (k : List B) → f x ≡ g y → map f l ≡ map g k → map f (keep b x l) ≡ map g (keep b y k)
  keep_same true x y l k e h = ap₂ (λ (z : C) (m : List C). z ∷ m) e h
  keep_same false x y l k e h = h

module _ {A B : Type 0} (p : A → Bool) (q : B → Bool) where
  keep_any : (b : Bool) (x : A) (y : B) (l : List A) (k : List B) → p x ≡ q y → anyb p l ≡ anyb q k → anyb p (keep b x l) ≡ anyb q (keep b y k)
  keep_any true x y l k e h = ap₂ (λ (z w : Bool). z || w) e h
  keep_any false x y l k e h = h

-- the calls that remain
module _ (H : ℕ → Bool) where
  same-octets : (a : Lent) (cs : List Hosted) (r : HostRuns a cs) → map (λ (c : Made). c.octets) (others H (all_made a cs r)) ≡ octets_of (besides H cs)
  same-octets a [] r = refl
  same-octets a (c ∷ cs) r = keep_same (λ (c : Made). c.octets) (λ (c : Hosted). c.octets) (not (H (about c.octets))) _ c _ _ refl (same-octets c.after cs r.1)

  same-refused : (a : Lent) (cs : List Hosted) (r : HostRuns a cs) → anyb (λ (c : Made). excepted c.answer) (others H (all_made a cs r)) ≡ anyb (λ (c : Hosted). eqb c.answer.refusal 4 || eqb c.answer.refusal 7) (besides H cs)
  same-refused a [] r = refl
  same-refused a (c ∷ cs) r = keep_any (λ (c : Made). excepted c.answer) (λ (c : Hosted). eqb c.answer.refusal 4 || eqb c.answer.refusal 7) (not (H (about c.octets))) _ c _ _
      (sym (ap (λ (d : Answered). eqb d.refusal 4 || eqb d.refusal 7) r.0.numbers)) (same-refused c.after cs r.1)

  same_shown : (a : Lent) (cs : List Hosted) (r : HostRuns a cs) → map (λ (c : Made). in_numbers (shows c)) (others H (all_made a cs r)) ≡ map shown (besides H cs)
  same_shown a [] r = refl
  same_shown a (c ∷ cs) r = keep_same (λ (c : Made). in_numbers (shows c)) shown (not (H (about c.octets))) _ c _ _
      (sym (ap (λ (d : Answered). (d, (shown c).1)) r.0.numbers)) (same_shown c.after cs r.1)

-- an element of a list that is mapped
module _ {A B C : Type 0} (f : A → B) (g : B → C) where
  abbrev mapped : Option B → Option C
  mapped none = none
  mapped (some x) = some (g x)

  at-mapped : (l : List A) (k : ℕ) → get_elem? (map (λ (x : A). g (f x)) l) k ≡ mapped (get_elem? (map f l) k)
  at-mapped [] k = refl
  at-mapped (x ∷ l) zero = refl
  at-mapped (x ∷ l) (suc k) = at-mapped l k

module _ (a b : Lent) (cs ds : List Hosted) (r : HostRuns a cs) (s : HostRuns b ds) where
  abbrev H : ℕ → Bool
  H = hidden_in a b (all_made a cs r) (all_made b ds s)

  same-hidden : H ≡ hidden_of a b cs ds
  same-hidden j i = ap₂ (λ (p q : Bool). not (eqb i 0) && (not (holds i a || p) && not (holds i b || q))) (made_holds i a cs r) (made_holds i b ds s) j

-- the theorem
pub hosts_alike : HostsAlike
hosts_alike a b start cs ds r s e p q k = at (hidden_of a b cs ds) (same-hidden a b cs ds r s) e p q
  where
    at : (K : ℕ → Bool) → H a b cs ds r s ≡ K → octets_of (besides K cs) ≡ octets_of (besides K ds) → Unrefused (besides K cs) → Unrefused (besides K ds)
        → get_elem? (map shown (besides K cs)) k ≡ get_elem? (map shown (besides K ds)) k
    at K h e p q =
        ap (λ (l : List (Answered × List ℕ)). get_elem? l k) (sym (same_shown K a cs r))
        ∙ (at-mapped shows in_numbers (others K (all_made a cs r)) k
        ∙ (ap (mapped shows in_numbers) (subst (λ (J : ℕ → Bool). get_elem? (map shows (others J (all_made a cs r))) k ≡ get_elem? (map shows (others J (all_made b ds s))) k) h
        (alike a b start (all_made a cs r) (all_made b ds s) (made_runs a cs r) (made_runs b ds s)
        (subst (λ (J : ℕ → Bool). map (λ (c : Made). c.octets) (others J (all_made a cs r)) ≡ map (λ (c : Made). c.octets) (others J (all_made b ds s))) (sym h) (same-octets K a cs r ∙ (e ∙ sym (same-octets K b ds s))))
        (subst (λ (J : ℕ → Bool). Freely (others J (all_made a cs r))) (sym h) (same-refused K a cs r ∙ p))
        (subst (λ (J : ℕ → Bool). Freely (others J (all_made b ds s))) (sym h) (same-refused K b ds s ∙ q)) k))
        ∙ (sym (at-mapped shows in_numbers (others K (all_made b ds s)) k)
        ∙ ap (λ (l : List (Answered × List ℕ)). get_elem? l k) (same_shown K b ds s))))
