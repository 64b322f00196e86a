-- Lines that are offered one after the other: each is written if those before it were and it fits, else it is counted. Assumes nothing.
use Rattle.std.specs.Prelude.{◌≡◌, Bool, cond, ◌&&◌, ℕ, ◌+◌, ◌<◌, ◌≤◌, eqb, ltb}
use Rattle.std.proofs.Math.Path.{ap, sym}
use Rattle.std.proofs.Common.{ap₂, ◌∙◌, arith}
use Rattle.std.proofs.Math.Bool.{true, false}
use mathlib.Core.List.{List, [], ◌∷◌}
use Rattle.std.proofs.Math.Dec.{leb}
use Rattle.std.proofs.Math.ListN.{length}
use borrow.Author.Tests.{le-leb, lt-leb}
use Rattle.model.specs.Memory.{uid_of, expunged, marked}
use Rattle.model.specs.Queue.{written}
use Rattle.model.specs.declared.Message.{Message}
use Rattle.model.specs.Laws.{and_false}
use Rattle.line_put.specs.Put.{Put}
use Rattle.line_fetch.specs.Fetch.{fetch_text}
use Rattle.line_message.specs.Counts.{count_text, expunge_word, exists_word}

-- the queue and where it ends, whether all fitted so far, how many did not, the next place, one more than the UID of the last line written
pub record State : Type 0 where
  pub queue : List ℕ
  pub end : ℕ
  pub whole : Bool
  pub rest : ℕ
  pub next : ℕ
  pub bound : ℕ

abbrev pub goes : ℕ → List ℕ → State → Bool
goes lim t s = s.whole && leb (s.end + length t) lim

-- a text that stands for message u is offered
unfoldable pub say : ℕ → List ℕ → ℕ → State → State
say lim t u s = record {
  queue = cond (goes lim t s) (written s.queue s.end t) s.queue;
  end = cond (goes lim t s) (s.end + length t) s.end;
  whole = goes lim t s;
  rest = cond (goes lim t s) s.rest (s.rest + 1);
  next = s.next;
  bound = cond (goes lim t s) (u + 1) s.bound;
}

unfoldable pub more : State → State
more s = record { queue = s.queue; end = s.end; whole = s.whole; rest = s.rest; next = s.next + 1; bound = s.bound }

-- a part begins: places from 1, nothing of it is written
unfoldable pub part : State → State
part s = record { queue = s.queue; end = s.end; whole = s.whole; rest = s.rest; next = 1; bound = 0 }

abbrev pub start : List ℕ → ℕ → State
start q at = record { queue = q; end = at; whole = true; rest = 0; next = 1; bound = 0 }

-- ---- the three parts, on the mailbox's entries by UID
abbrev pub step_e : ℕ → ℕ → Message → State → State
step_e told lim e s = cond (ltb (uid_of e) told) (cond (expunged e) (say lim (count_text s.next expunge_word) (uid_of e) s) (more s)) s

unfoldable pub run_e : ℕ → ℕ → List Message → State → State
run_e told lim [] s = s
run_e told lim (e ∷ l) s = run_e told lim l (step_e told lim e s)

abbrev pub step_m : ℕ → Bool → ℕ → Message → State → State
step_m told skip lim e s = cond (ltb (uid_of e) told) (cond (skip && expunged e) s (more (cond (marked e) (say lim (fetch_text s.next (uid_of e) e.flags e.counter) (uid_of e) s) s))) s

unfoldable pub run_m : ℕ → Bool → ℕ → List Message → State → State
run_m told skip lim [] s = s
run_m told skip lim (e ∷ l) s = run_m told skip lim l (step_m told skip lim e s)

unfoldable pub say_exists : ℕ → ℕ → ℕ → State → State
say_exists lim k n s = cond (eqb n 0) s (say lim (count_text (k + n) exists_word) 0 s)

abbrev pub first_part : ℕ → Bool → ℕ → List Message → State → State
first_part told c lim l s = cond c (run_e told lim l s) s

-- ---- as the code does it
module _ (q q₁ : List ℕ) (lim u : ℕ) (t : List ℕ) (s : State) (e : ℕ) (b : s.queue ≡ q) (a : Put q s.end 0 t q₁ e) where
  same_queue : q₁ ≡ q
  same_queue = a.kept (omega arith)

  -- it does not fit
  pub say_over : lim < e → record { queue = q₁; end = s.end; whole = false; rest = s.rest + 1; next = s.next; bound = s.bound } ≡ say lim t u s
  unfolding say
  say_over h =
      let n = a.next in
      let z : leb (s.end + length t) lim ≡ false = lt-leb (s.end + length t) lim (omega arith) in
      rw (z, and_false s.whole) (ap (λ (l : List ℕ). record { queue = l; end = s.end; whole = false; rest = s.rest + 1; next = s.next; bound = s.bound }) (same_queue ∙ sym b))

  pub say-fits : (q₂ : List ℕ) (f : ℕ) → s.whole ≡ true → Put q₁ s.end lim t q₂ f → e ≤ lim → record { queue = q₂; end = f; whole = s.whole; rest = s.rest; next = s.next; bound = u + 1 } ≡ say lim t u s
  unfolding say
  say-fits q₂ f o p h =
      let n = a.next in
      let k = p.next in
      let z : leb (s.end + length t) lim ≡ true = le-leb (s.end + length t) lim (omega arith) in
      rw (o, z) (ap₂ (λ (l : List ℕ) (i : ℕ). record { queue = l; end = i; whole = true; rest = s.rest; next = s.next; bound = u + 1 }) (p.done (omega arith) ∙ ap (λ (l : List ℕ). written l s.end t) (same_queue ∙ sym b)) k)

pub say_shut : (lim u : ℕ) (t : List ℕ) (s : State) → s.whole ≡ false → record { queue = s.queue; end = s.end; whole = false; rest = s.rest + 1; next = s.next; bound = s.bound } ≡ say lim t u s
unfolding say
say_shut lim u t s o = rw o
