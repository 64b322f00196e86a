-- A row of options, joined option by option, and what it is to return. Assumes nothing.
use Rattle.std.proofs.Common.{◌≡◌, ℕ, ◌+◌, length, get_or, Option, Some, None, Bool, true, false, ◌||◌, cond, List, [], ◌∷◌, refl, sym, ap, ◌∙◌, arith, eq-eqb, ne_eqb}
use Rattle.model.specs.Lists.{apart}
use Rattle.model.specs.Reading.{Parsed, bad, ok, and_then, row_at, closing, next_at}
use Rattle.model.specs.SearchGrammar.{Return, minimum, maximum, all_of, count, like, once, return_at, returns_at}
use Rattle.octets.specs.Joined.{ReadsOne, ReadsJoined, joined_row, Full, full_row}
use Rattle.read_options.specs.Returning.{row_of, row_one, read_row, read_alone, join_rows, returns_of, read_returns}
use Rattle.read_options.specs.declared.Row.{Row}
use Rattle.read_options.specs.declared.Returns.{Returns}

or_none : (b : Bool) → (b || false) ≡ b
or_none true = refl
or_none false = refl

alone-gathers : (r : Return) → row_one r ≡ row_of (r ∷ [])
alone-gathers minimum = refl
alone-gathers maximum = refl
alone-gathers all_of = refl
alone-gathers count = refl

join-gathers : (r : Return) (rs : List Return) → join_rows (row_one r) (row_of rs) ≡ row_of (r ∷ rs)
join-gathers minimum rs = simp or_none
join-gathers maximum rs = simp or_none
join-gathers all_of rs = simp or_none
join-gathers count rs = refl

-- what the code makes of a row
abbrev judge : Option (Row × ℕ) → Option (Returns × ℕ)
judge (Some (r, p)) = cond r.once (Some (r.returns, p)) None
judge None = None

judge-once : (p : ℕ) (a : Return) (rs : List Return) (b : Bool) → cond b (Some (returns_of (a ∷ rs), p)) None ≡ read_returns (cond b (ok p (a ∷ rs)) bad)
judge-once p a rs true = refl
judge-once p a rs false = refl

judge_row : (x : Parsed (List Return)) → Full x → judge (read_row x) ≡ read_returns (and_then x (λ q rs. once q rs))
judge_row bad h = refl
judge_row (ok p []) h = cc
judge_row (ok p (a ∷ rs)) h = judge-once p a rs (apart like (a ∷ rs))

module _ (s : List ℕ) (at : ℕ) (e : get_or s at 0 ≡ 40) (f : get_or s (at + 1) 0 ≡ 41 → ⊥) where
  row_judged : {x : Option (Row × ℕ)} → ReadsJoined s (read_alone s) join_rows (at + 1) x → judge x ≡ read_returns (returns_at s at)
  unfolding returns_at
  row_judged h =
      rw (eq-eqb (get_or s at 0) 40 e, ne_eqb (get_or s (at + 1) 0) 41 f, h.exact (length s) (omega arith), joined_row row_one row_of join_rows alone-gathers join-gathers (return_at s) (next_at closing s) (length s) (at + 1))
      (judge_row (row_at (length s) (return_at s) (next_at closing s) (at + 1)) (full_row (return_at s) (next_at closing s) (length s) (at + 1)))

  pub judged_none : ReadsJoined s (read_alone s) join_rows (at + 1) None → ReadsOne s at (read_returns (returns_at s at)) None
  judged_none h = record { exact = row_judged h; within = tt }

  module _ {r : Row} {p : ℕ} (h : ReadsJoined s (read_alone s) join_rows (at + 1) (Some (r, p))) where
    pub judged_once : r.once ≡ true → ReadsOne s at (read_returns (returns_at s at)) (Some (r.returns, p))
    judged_once g = let w = h.within in record { exact = sym (ap (λ b. cond b (Some (r.returns, p)) None) g) ∙ row_judged h; within = (omega arith, omega arith) }

    pub judged_twice : r.once ≡ false → ReadsOne s at (read_returns (returns_at s at)) None
    judged_twice g = record { exact = sym (ap (λ b. cond b (Some (r.returns, p)) None) g) ∙ row_judged h; within = tt }
