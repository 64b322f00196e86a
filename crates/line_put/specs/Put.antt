-- A write up to a limit: where it ends; written, if it ends within the limit; nothing changed, if the limit is at or before its start. Assumes nothing.
use Rattle.std.specs.Prelude.{◌≡◌, refl, List, [], ◌∷◌, ◌++◌, ℕ, ◌+◌, ◌≤◌, ◌<◌, length}
use Rattle.std.proofs.Common.{ap, sym, ◌∙◌, subst, add-zero, arith, length-append}
use Rattle.model.specs.Queue.{written}
use Rattle.line_put.specs.Wrote.{Wrote, written-length, written_none, written_then}

pub record Put (q : List ℕ) (at lim : ℕ) (t : List ℕ) (q' : List ℕ) (r : ℕ) : Type 0 where
  pub next : r ≡ at + length t
  pub within : lim ≤ length q
  pub done : r ≤ lim → q' ≡ written q at t
  pub kept : lim ≤ at → q' ≡ q
  pub same : length q' ≡ length q

-- it ends past the limit, and nothing is written
pub put_past : (q : List ℕ) (at lim : ℕ) (t : List ℕ) (r : ℕ) → lim ≤ length q → r ≡ at + length t → lim < r → Put q at lim t q r
put_past q at lim t r w e h = record { next = e; within = w; done = λ z. absurd (omega arith); kept = λ _. refl; same = refl }

-- it ends within the limit, and is written
pub put_wrote : {q q' t : List ℕ} {at r : ℕ} (lim : ℕ) → lim ≤ length q → r ≤ lim → Wrote q at t q' r → Put q at lim t q' r
put_wrote {q} {q'} {t} {at} {r} lim w h x =
    let n = x.next in
    let i = x.within in
    record {
      next = n;
      within = w;
      done = λ _. x.is;
      kept = λ k. x.is ∙ none q at t (omega arith);
      same = ap length x.is ∙ written-length q at t (omega arith);
    }
  where
    none : (q : List ℕ) (at : ℕ) (t : List ℕ) → length t ≤ 0 → written q at t ≡ q
    none q at [] h = written_none q at
    none q at (x ∷ t) h = absurd (omega arith)

pub put_none : (q : List ℕ) (at lim : ℕ) → lim ≤ length q → Put q at lim [] q at
put_none q at lim w = record { next = sym (add-zero at); within = w; done = λ _. sym (written_none q at); kept = λ _. refl; same = refl }

-- one after the other
pub ◌then◌ : {q q' q'' t u : List ℕ} {at lim m r : ℕ} → Put q at lim t q' m → Put q' m lim u q'' r → Put q at lim (t ++ u) q'' r
◌then◌ {q} {q'} {q''} {t} {u} {at} {lim} {m} {r} a b =
    let l = length-append t u in
    let n₁ = a.next in
    let n₂ = b.next in
    let s₁ = a.same in
    let s₂ = b.same in
    let w = a.within in
    record {
      next = omega arith;
      within = w;
      done = λ h. b.done h ∙ ap (λ (z : List ℕ). written z m u) (a.done (omega arith)) ∙ ap (λ n. written (written q at t) n u) n₁ ∙ written_then q at t u (omega arith);
      kept = λ h. b.kept (omega arith) ∙ a.kept h;
      same = omega arith;
    }

-- the same text, said another way
pub put_as : {q q' t u : List ℕ} {at lim r : ℕ} → Put q at lim t q' r → t ≡ u → Put q at lim u q' r
put_as {q} {q'} {t} {u} {at} {lim} {r} w e = subst (λ (s : List ℕ). Put q at lim s q' r) e w

-- all that is to be written from at on; q' and o are what it came to, and the rest is left
abbrev pub Goes : List ℕ → ℕ → ℕ → List ℕ → List ℕ → ℕ → List ℕ → Type 0
Goes q at lim all q' o rest = (q'' : List ℕ) (r : ℕ) → Put q' o lim rest q'' r → Put q at lim all q'' r

pub goes_on : {q all q' q₁ t rest : List ℕ} {at lim o o₁ : ℕ} → Goes q at lim all q' o (t ++ rest) → Put q' o lim t q₁ o₁ → Goes q at lim all q₁ o₁ rest
goes_on g p q'' r z = g q'' r (◌then◌ p z)
