-- The reason at a place of a stream, a record at a time. Assumes nothing.
use Rattle.std.specs.Prelude.{◌≡◌, refl, Bool, true, false, cond, ◌&&◌, List, [], ◌∷◌, ℕ, zero, suc, ◌+◌, ◌-◌, ◌≤◌, leb, length, take, drop, get_or}
use Rattle.std.proofs.Common.{ap, ap₂, sym, ◌∙◌, arith, leb-true, leb-false, le-leb, length-drop, drop-drop}
use Rattle.std.proofs.lemmas.Bool.{lt-leb}
use Rattle.model.specs.Memory.{Memory}
use Rattle.model.specs.Call.{call}
use Rattle.model.specs.Hidden.{Octets}
use Rattle.model.specs.Seen.{final}
use Rattle.model.specs.Pushrun.{cut, records_of}
use Rattle.model.specs.Reasons.{reason, reason_at}
use Rattle.model.specs.declared.Answer.{Answer}
use Rattle.model.specs.declared.Reason.{Reason}
use Rattle.model.specs.declared.Reason.TheVariants.{NoRecord}
use Rattle.step_stream.specs.Cutting.{first_size, Cuts, records_first}
use Rattle.step_stream.specs.Printing.{Serves}

-- ---- no record, the first, a later one
at_none : (m : Memory) (k : ℕ) → reason_at m [] k ≡ NoRecord
at_none m k = go (leb 1 k) refl
  where
    go : (b : Bool) → leb 1 k ≡ b → cond (b && leb k 0) (reason (final m (take (k - 1) [])) (get_or [] (k - 1) [])) NoRecord ≡ NoRecord
    go true e = let h = leb-true 1 k e in rw (lt-leb k 0 (omega arith))
    go false e = refl

at_first : (m : Memory) (o : Octets) (os : List Octets) → reason_at m (o ∷ os) 1 ≡ reason m o
at_first m o os = rw (le-leb 1 (length (o ∷ os)) (omega arith))

at_next : (m : Memory) (o : Octets) (os : List Octets) (k : ℕ) → 2 ≤ k → reason_at m (o ∷ os) k ≡ reason_at (call m o).after os (k - 1)
at_next m o os zero h = absurd (let z : ⊥ = omega arith in z)
at_next m o os (suc zero) h = absurd (let z : ⊥ = omega arith in z)
at_next m o os (suc (suc j)) h =
    let a : suc (suc j) - 1 ≡ suc j = omega arith in
    let b : suc j - 1 ≡ j = omega arith in
    rw (a, b, le-leb 1 (suc (suc j)) (omega arith), le-leb 1 (suc j) (omega arith), shorter (suc j) (length os))
  where
    shorter : (i n : ℕ) → leb (suc i) (suc n) ≡ leb i n
    shorter i n = go (leb i n) refl
      where
        go : (b : Bool) → leb i n ≡ b → leb (suc i) (suc n) ≡ b
        go true e = let z = leb-true i n e in le-leb (suc i) (suc n) (omega arith)
        go false e = let z = leb-false i n e in lt-leb (suc i) (suc n) (omega arith)

records_none : (s : List ℕ) → length s ≤ 0 → records_of s ≡ []
unfolding cut
records_none [] h = refl
records_none (x ∷ s) h = absurd (let z : ⊥ = omega arith in z)

-- ---- a walk up to the place
-- where it stands: the reason is that of the rest of the stream at the place that is left
pub record Reaching (stream : List ℕ) (place : ℕ) (m₀ m : Memory) (i left : ℕ) : Type 0 where
  pub whole : reason_at m₀ (records_of stream) place ≡ reason_at m (records_of (drop i stream)) left
  pub some : 1 ≤ left
  pub within : i ≤ length stream

pub reaching_start : (stream : List ℕ) (place : ℕ) (m₀ m : Memory) → m₀ ≡ m → 1 ≤ place → Reaching stream place m₀ m 0 place
reaching_start stream place m₀ m e h = record { whole = ap (λ (x : Memory). reason_at x (records_of stream) place) e; some = h; within = omega arith }

module _ {stream : List ℕ} {place : ℕ} {m₀ m : Memory} {i left : ℕ} (g : Reaching stream place m₀ m i left) where
  module _ {n : ℕ} (y : Cuts stream i n) where
    -- the record that stands there, and the rest
    first_rest : records_of (drop i stream) ≡ take (i + n - i) (drop i stream) ∷ records_of (drop (i + n) stream)
    first_rest =
        let d = length-drop i stream in
        let a = y.some in
        let b = y.within in
        let c : i + n - i ≡ n = omega arith in
        records_first (drop i stream) (omega arith)
        ∙ ap₂ (λ (o : List ℕ) (r : List ℕ). o ∷ records_of r)
        (ap (λ (j : ℕ). take j (drop i stream)) (sym (c ∙ y.is)))
        (drop-drop (first_size (drop i stream)) i stream ∙ ap (λ (j : ℕ). drop (i + j) stream) (sym y.is))

    pub reaching_next : {m₁ : Memory} {a : Answer} → Serves m (take (i + n - i) (drop i stream)) a m₁ → (left ≡ 1 → ⊥) → Reaching stream place m₀ m₁ (i + n) (left - 1)
    reaching_next {m₁} z h =
        let s = g.some in
        let o = take (i + n - i) (drop i stream) in
        let w = y.within in
        record {
          whole = g.whole ∙ (ap (λ (os : List Octets). reason_at m os left) first_rest ∙ (at_next m o (records_of (drop (i + n) stream)) left (later left s h) ∙ ap (λ (x : Memory). reason_at x (records_of (drop (i + n) stream)) (left - 1)) (sym z.after)));
          some = let l = later left s h in omega arith;
          within = omega arith;
        }
      where
        later : (k : ℕ) → 1 ≤ k → (k ≡ 1 → ⊥) → 2 ≤ k
        later zero a b = absurd (let z : ⊥ = omega arith in z)
        later (suc zero) a b = absurd (b refl)
        later (suc (suc k)) a b = omega arith

    pub reaching_here : {r : Reason} → r ≡ reason m (take (i + n - i) (drop i stream)) → left ≡ 1 → r ≡ reason_at m₀ (records_of stream) place
    reaching_here e h = e ∙ sym (g.whole ∙ (ap₂ (λ (os : List Octets) (k : ℕ). reason_at m os k) first_rest h ∙ at_first m (take (i + n - i) (drop i stream)) (records_of (drop (i + n) stream))))

  pub reaching_end : length stream ≤ i → NoRecord ≡ reason_at m₀ (records_of stream) place
  reaching_end h =
      let d = length-drop i stream in
      sym (g.whole ∙ (ap (λ (os : List Octets). reason_at m os left) (records_none (drop i stream) (omega arith)) ∙ at_none m left))
