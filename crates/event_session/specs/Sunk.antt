-- Lines offered one after the other are as many as fit. Assumes nothing.
use Rattle.std.proofs.Math.Path.{◌≡◌, refl, ap, ap₂, sym}
use Rattle.std.proofs.Common.{◌∙◌, add-zero, take_all}
use Rattle.std.specs.Prelude.{Bool, ◌&&◌, ℕ, ◌+◌, ◌-◌, ◌<◌, ◌≤◌}
use Rattle.std.proofs.Math.Bool.{true, false, cond}
use mathlib.Core.List.{List, [], ◌∷◌, ◌++◌, append-nil}
use native.Mathlib.Omega.{arith}
use Rattle.std.proofs.Math.Dec.{leb, leb-zero}
use Rattle.std.proofs.Math.ListN.{length, take, length-append}
use Rattle.std.proofs.Math.Seq.{take-append-le, take-nil}
use borrow.Author.Tests.{leb-true, leb-false, le-leb, lt-leb}
use Rattle.model.specs.Laws.{tf}
use Rattle.model.specs.Lines.{Line, render, render_all}
use Rattle.model.specs.Queue.{written, fitting}
use Rattle.model.specs.Rendered.{render-append, render_some}
use Rattle.laws.specs.Fitting.{size, fitting-append}
use Rattle.line_put.specs.Wrote.{written_none, written_then}
use Rattle.event_view.specs.Saying.{State, goes, say, more, part, start}

-- one more than the last of a list of UIDs, 0 where there is none
unfoldable pub top_of : ℕ → List ℕ → ℕ
top_of b [] = b
top_of b (u ∷ us) = top_of (u + 1) us

top-snoc : (b : ℕ) (us : List ℕ) (u : ℕ) → top_of b (us ++ (u ∷ [])) ≡ u + 1
unfolding top_of
top-snoc b [] u = refl
top-snoc b (v ∷ us) u = top-snoc (v + 1) us u

render_one : (l : Line) → render_all (l ∷ []) ≡ render l
unfolding render_all
render_one l = append-nil (render l)

pub fitting_all : (free : ℕ) (ls : List Line) → leb (size ls) free ≡ true → fitting free ls ≡ ls
unfolding fitting
fitting_all free ls h = ap (fitting free) (sym (append-nil ls)) ∙ (fitting-append free ls [] ∙ (rw h (append-nil ls)))

size-snoc : (ls : List Line) (l : Line) → size (ls ++ (l ∷ [])) ≡ size ls + length (render l)
size-snoc ls l = ap length (render-append ls (l ∷ []) ∙ ap (λ (t : List ℕ). render_all ls ++ t) (render_one l)) ∙ length-append (render_all ls) (render l)

fitting_one : (free : ℕ) (l : Line) → fitting free (l ∷ []) ≡ cond (leb (length (render l)) free) (l ∷ []) []
unfolding fitting
fitting_one free l = refl

-- room counted from the front or from what is filled
room_same : (f a b : ℕ) → 0 < a → leb (f + a) b ≡ leb a (b - f)
room_same f a b h = go (leb a (b - f)) refl
  where
    go : (c : Bool) → leb a (b - f) ≡ c → leb (f + a) b ≡ c
    go true q = let z = leb-true a (b - f) q in le-leb (f + a) b (omega arith)
    go false q = let z = leb-false a (b - f) q in lt-leb (f + a) b (omega arith)

module _ (q : List ℕ) (at lim : ℕ) where
  abbrev free : ℕ
  free = lim - at

  -- the lines ls were offered; the last part of them, behind the first `skip`, is of the messages us
  pub record Sunk (skip : ℕ) (ls : List Line) (us : List ℕ) (s : State) : Type 0 where
    pub queue : s.queue ≡ written q at (render_all (fitting free ls))
    pub ends : s.end ≡ at + size (fitting free ls)
    pub whole : s.whole ≡ leb (size ls) free
    pub counts : s.rest + length (fitting free ls) ≡ length ls
    pub long : length ls ≡ skip + length us
    pub bound : s.bound ≡ top_of 0 (take (length (fitting free ls) - skip) us)

  pub sunk_start : Sunk 0 [] [] (start q at)
  unfolding fitting render_all top_of
  sunk_start = record {
    queue = sym (written_none q at);
    ends = sym (add-zero at);
    whole = sym (leb-zero free);
    counts = refl;
    long = refl;
    bound = refl;
  }

  pub sunk-part : (skip : ℕ) (ls : List Line) (us : List ℕ) (s : State) → Sunk skip ls us s → Sunk (length ls) ls [] (part s)
  unfolding part top_of
  sunk-part skip ls us s x = record {
    queue = x.queue;
    ends = x.ends;
    whole = x.whole;
    counts = x.counts;
    long = sym (add-zero (length ls));
    bound = sym (ap (top_of 0) (take-nil (length (fitting free ls) - length ls)));
  }

  pub sunk-more : (skip : ℕ) (ls : List Line) (us : List ℕ) (s : State) → Sunk skip ls us s → Sunk skip ls us (more s)
  unfolding more
  sunk-more skip ls us s x = record { queue = x.queue; ends = x.ends; whole = x.whole; counts = x.counts; long = x.long; bound = x.bound }

  module _ (wide : lim ≤ length q) (skip : ℕ) (ls : List Line) (us : List ℕ) (s : State) (x : Sunk skip ls us s) (l : Line) (u : ℕ) where
    all : List Line
    all = ls ++ (l ∷ [])

    all_long : length all ≡ length ls + 1
    unfolding all
    all_long = length-append ls (l ∷ [])

    us_long : length (us ++ (u ∷ [])) ≡ length us + 1
    us_long = length-append us (u ∷ [])

    -- it fits
    fits : leb (size ls) free ≡ true → leb (length (render l)) (free - size ls) ≡ true → fitting free all ≡ all
    unfolding all
    fits a b = fitting-append free ls (l ∷ []) ∙ rw (a, fitting_one (free - size ls) l, b)

    -- it does not
    misses : (leb (size ls) free && leb (length (render l)) (free - size ls)) ≡ false → fitting free all ≡ fitting free ls
    unfolding all
    misses c = fitting-append free ls (l ∷ []) ∙ go (leb (size ls) free) refl (leb (length (render l)) (free - size ls)) refl c
      where
        go : (a : Bool) → leb (size ls) free ≡ a → (b : Bool) → leb (length (render l)) (free - size ls) ≡ b → (a && b) ≡ false → cond a (ls ++ fitting (free - size ls) (l ∷ [])) (fitting free ls) ≡ fitting free ls
        go true e true f c = tf true refl c
        go true e false f c = ap (λ (t : List Line). ls ++ t) (fitting_one (free - size ls) l ∙ rw f) ∙ (append-nil ls ∙ sym (fitting_all free ls e))
        go false e b f c = refl

    whole_is : leb (size all) free ≡ (leb (size ls) free && leb (length (render l)) (free - size ls))
    unfolding all
    whole_is = ap (λ (n : ℕ). leb n free) (size-snoc ls l) ∙ go (leb (size ls) free) refl (leb (length (render l)) (free - size ls)) refl
      where
        go : (a : Bool) → leb (size ls) free ≡ a → (b : Bool) → leb (length (render l)) (free - size ls) ≡ b → leb (size ls + length (render l)) free ≡ (a && b)
        go true e true f = let y = leb-true (size ls) free e in let z = leb-true (length (render l)) (free - size ls) f in le-leb (size ls + length (render l)) free (omega arith)
        go true e false f = let y = leb-true (size ls) free e in let z = leb-false (length (render l)) (free - size ls) f in lt-leb (size ls + length (render l)) free (omega arith)
        go false e b f = let y = leb-false (size ls) free e in lt-leb (size ls + length (render l)) free (omega arith)

    -- what the code tests
    goes_is : (a : Bool) → leb (size ls) free ≡ a → (a && leb (s.end + length (render l)) lim) ≡ (a && leb (length (render l)) (free - size ls))
    goes_is false e = refl
    goes_is true e =
        let n = x.ends in
        let f = ap size (fitting_all free ls e) in
        let o = render_some l in
        let d : lim - s.end ≡ free - size ls = omega arith in
        room_same s.end (length (render l)) lim o ∙ ap (λ (k : ℕ). leb (length (render l)) k) d

    test : goes lim (render l) s ≡ leb (size all) free
    test = ap (λ (b : Bool). b && leb (s.end + length (render l)) lim) x.whole ∙ (goes_is (leb (size ls) free) refl ∙ sym whole_is)

    pub sunk-say : Sunk skip (ls ++ (l ∷ [])) (us ++ (u ∷ [])) (say lim (render l) u s)
    unfolding say all
    sunk-say = rw test (go (leb (size (ls ++ (l ∷ []))) free) refl (leb (size ls) free) refl (leb (length (render l)) (free - size ls)) refl whole_is)
      where
        go : (g : Bool) → leb (size (ls ++ (l ∷ []))) free ≡ g → (a : Bool) → leb (size ls) free ≡ a → (b : Bool) → leb (length (render l)) (free - size ls) ≡ b → leb (size (ls ++ (l ∷ []))) free ≡ (a && b)
            → Sunk skip (ls ++ (l ∷ [])) (us ++ (u ∷ [])) (record {
              queue = cond g (written s.queue s.end (render l)) s.queue;
              end = cond g (s.end + length (render l)) s.end;
              whole = g;
              rest = cond g s.rest (s.rest + 1);
              next = s.next;
              bound = cond g (u + 1) s.bound;
            })
        go true g true a true b w =
            let f = fits a b in
            let k = fitting_all free ls a in
            let n = x.ends in
            let z = size-snoc ls l in
            let y = leb-true (size (ls ++ (l ∷ []))) free g in
            let o = render_some l in
            let i = ap size k in
            let j = ap length k in
            let c = x.counts in
            let d = x.long in
            let m = all_long in
            let p = us_long in
            let fl = ap length f in
            record {
              queue = ap₂ (λ (t : List ℕ) (e : ℕ). written t e (render l)) (x.queue ∙ ap (λ (t : List Line). written q at (render_all t)) k) (n ∙ ap (λ (e : ℕ). at + e) i)
                  ∙ (written_then q at (render_all ls) (render l) (omega arith)
                  ∙ ap (written q at) (sym (ap render_all f ∙ (render-append ls (l ∷ []) ∙ ap (λ (t : List ℕ). render_all ls ++ t) (render_one l)))));
              ends = let e = ap size f in omega arith;
              whole = sym g;
              counts = omega arith;
              long = omega arith;
              bound = sym (ap (top_of 0) (take_all (length (fitting free (ls ++ (l ∷ []))) - skip) (us ++ (u ∷ [])) (omega arith)) ∙ top-snoc 0 us u);
            }
        go true g true a false b w = absurd (let z : ◌≡◌ {A = ℕ} 0 1 = ap (λ (b : Bool). cond b 1 0) (sym (sym g ∙ w)) in let n : ⊥ = omega arith in n)
        go true g false a b e w = absurd (let z : ◌≡◌ {A = ℕ} 0 1 = ap (λ (b : Bool). cond b 1 0) (sym (sym g ∙ w)) in let n : ⊥ = omega arith in n)
        go false g a e b h w =
            let f = misses (ap₂ (λ (c d : Bool). c && d) e h ∙ (sym w ∙ g)) in
            let c = x.counts in
            let d = x.long in
            let m = all_long in
            let p = us_long in
            let fl = ap length f in
            record {
              queue = x.queue ∙ ap (λ (t : List Line). written q at (render_all t)) (sym f);
              ends = x.ends ∙ ap (λ (t : List Line). at + size t) (sym f);
              whole = sym g;
              counts = omega arith;
              long = omega arith;
              bound = x.bound ∙ ap (top_of 0) (sym (ap (λ (n : ℕ). take (n - skip) (us ++ (u ∷ []))) fl ∙ take-append-le (length (fitting free ls) - skip) us (u ∷ []) (omega arith)));
            }
