-- The lines of the three parts, as the rule has them. Assumes nothing.
use Rattle.std.specs.Prelude.{◌≡◌, Bool, not, cond, ◌&&◌, ℕ, ◌+◌, ◌≤◌, ltb}
use Rattle.std.proofs.Math.Path.{refl, ap}
use Rattle.std.proofs.Common.{◌∙◌, ne_eqb}
use Rattle.std.proofs.Math.Bool.{true, false}
use mathlib.Core.List.{List, [], ◌∷◌, ◌++◌, map, append_assoc, append-nil}
use native.Mathlib.Omega.{arith}
use Rattle.std.proofs.Math.ListN.{length}
use Rattle.model.specs.Lists.{filterb, keep}
use Rattle.model.specs.Memory.{uid_of, expunged, marked}
use Rattle.model.specs.Lines.{Line, exists, expunge, render}
use Rattle.model.specs.View.{expunge_lines, marked_lines, flags_line, exists_line}
use Rattle.model.specs.declared.Message.{Message}
use Rattle.line_fetch.specs.Fetch.{fetch_text, fetch_line}
use Rattle.line_message.specs.Counts.{count_text, expunge_word, exists_word, expunge-text, exists-text}
use Rattle.event_view.specs.Saying.{State, say, more, run_e, run_m, say_exists}
use Rattle.event_session.specs.Sunk.{Sunk, sunk-more, sunk-say}

abbrev pub seen : ℕ → Message → Bool
seen told e = ltb (uid_of e) told

abbrev pub view_of : ℕ → List Message → List Message
view_of told l = filterb (seen told) l

-- those that a class 1 leaves
abbrev pub stayers : Bool → List Message → List Message
stayers skip v = cond skip (filterb (λ (e : Message). not (expunged e)) v) v

abbrev pub uids : List Message → List ℕ
uids l = map uid_of l

-- EXISTS stands for no message
abbrev pub zeros : List Message → List ℕ
zeros [] = []
zeros (e ∷ l) = 0 ∷ []

say_next : (lim : ℕ) (t : List ℕ) (u : ℕ) (s : State) → (say lim t u s).next ≡ s.next
unfolding say
say_next lim t u s = refl

more_next : (s : State) → (more s).next ≡ s.next + 1
unfolding more
more_next s = refl

-- a text said another way
as-text : (q : List ℕ) (at lim skip : ℕ) (ls : List Line) (us : List ℕ) (a b : List ℕ) (u : ℕ) (s : State) → a ≡ b → Sunk q at lim skip ls us (say lim b u s) → Sunk q at lim skip ls us (say lim a u s)
as-text q at lim skip ls us a b u s e x = rw e x

module _ (q : List ℕ) (at lim : ℕ) (wide : lim ≤ length q) (told skip : ℕ) where
  -- ---- EXPUNGE
  module _ (e : Message) (l : List Message) (n : ℕ) where
    abbrev lines_e : Bool → Bool → List Line
    lines_e a b = cond a (cond b (expunge (record { 0 = n }) e.uid ∷ expunge_lines n (view_of told l)) (expunge_lines (n + 1) (view_of told l))) (expunge_lines n (view_of told l))

    abbrev us_e : Bool → Bool → List ℕ
    us_e a b = cond a (uids (keep b e (filterb expunged (view_of told l)))) (uids (filterb expunged (view_of told l)))

    lines_e_is : (a : Bool) → expunge_lines n (keep a e (view_of told l)) ≡ lines_e a (expunged e)
    unfolding expunge_lines
    lines_e_is true = refl
    lines_e_is false = refl

    us_e_is : (a : Bool) → uids (filterb expunged (keep a e (view_of told l))) ≡ us_e a (expunged e)
    us_e_is true = refl
    us_e_is false = refl

  pub run_e_sunk : (l : List Message) (ls : List Line) (us : List ℕ) (s : State) (n : ℕ) → s.next ≡ n → Sunk q at lim skip ls us s
      → Sunk q at lim skip (ls ++ expunge_lines n (view_of told l)) (us ++ uids (filterb expunged (view_of told l))) (run_e told lim l s)
  unfolding run_e expunge_lines
  run_e_sunk [] ls us s n k x = rw (append-nil ls, append-nil us) x
  run_e_sunk (e ∷ l) ls us s n k x = rw (lines_e_is e l n (ltb (uid_of e) told), us_e_is e l n (ltb (uid_of e) told)) (here (λ ls us s n k x. run_e_sunk l ls us s n k x) (ltb (uid_of e) told) (expunged e))
    where
      here : ((ls : List Line) (us : List ℕ) (s : State) (n : ℕ) → s.next ≡ n → Sunk q at lim skip ls us s
          → Sunk q at lim skip (ls ++ expunge_lines n (view_of told l)) (us ++ uids (filterb expunged (view_of told l))) (run_e told lim l s)) → (a b : Bool)
          → Sunk q at lim skip (ls ++ lines_e e l n a b) (us ++ us_e e l n a b)
          (run_e told lim l (cond a (cond b (say lim (count_text s.next expunge_word) (uid_of e) s) (more s)) s))
      here again true true =
          let y = sunk-say q at lim wide skip ls us s x (expunge (record { 0 = n }) e.uid) (uid_of e) in
          let z = as-text q at lim skip (ls ++ (expunge (record { 0 = n }) e.uid ∷ [])) (us ++ (uid_of e ∷ [])) (count_text s.next expunge_word) (render (expunge (record { 0 = n }) e.uid)) (uid_of e) s (ap (λ (i : ℕ). count_text i expunge_word) k ∙ expunge-text n e.uid) y in
          let w = again (ls ++ (expunge (record { 0 = n }) e.uid ∷ [])) (us ++ (uid_of e ∷ [])) (say lim (count_text s.next expunge_word) (uid_of e) s) n (say_next lim (count_text s.next expunge_word) (uid_of e) s ∙ k) z in
          rw (append_assoc ls (expunge (record { 0 = n }) e.uid ∷ []) (expunge_lines n (view_of told l)), append_assoc us (uid_of e ∷ []) (uids (filterb expunged (view_of told l)))) at w
      here again true false = again ls us (more s) (n + 1) (more_next s ∙ ap (λ (i : ℕ). i + 1) k) (sunk-more q at lim skip ls us s x)
      here again false b = again ls us s n k x

  -- ---- FETCH
  module _ (skips : Bool) (e : Message) (l : List Message) (n : ℕ) where
    abbrev rest : List Message
    rest = stayers skips (view_of told l)

    abbrev lines_m : Bool → Bool → Bool → List Line
    lines_m a b c = cond a (cond b (marked_lines n rest) (cond c (flags_line n e ∷ marked_lines (n + 1) rest) (marked_lines (n + 1) rest))) (marked_lines n rest)

    abbrev us_m : Bool → Bool → Bool → List ℕ
    us_m a b c = cond a (cond b (uids (filterb marked rest)) (uids (keep c e (filterb marked rest)))) (uids (filterb marked rest))

  lines_m_is : (skips : Bool) (e : Message) (l : List Message) (n : ℕ) (a b : Bool) → expunged e ≡ b → marked_lines n (stayers skips (keep a e (view_of told l))) ≡ lines_m skips e l n a (skips && expunged e) (marked e)
  unfolding marked_lines
  lines_m_is true e l n true true h = rw h
  lines_m_is true e l n true false h = rw h
  lines_m_is true e l n false b h = refl
  lines_m_is false e l n true b h = refl
  lines_m_is false e l n false b h = refl

  us_m_is : (skips : Bool) (e : Message) (l : List Message) (n : ℕ) (a b : Bool) → expunged e ≡ b → uids (filterb marked (stayers skips (keep a e (view_of told l)))) ≡ us_m skips e l n a (skips && expunged e) (marked e)
  us_m_is true e l n true true h = rw h
  us_m_is true e l n true false h = rw h
  us_m_is true e l n false b h = refl
  us_m_is false e l n true b h = refl
  us_m_is false e l n false b h = refl

  pub run_m_sunk : (skips : Bool) (l : List Message) (ls : List Line) (us : List ℕ) (s : State) (n : ℕ) → s.next ≡ n → Sunk q at lim skip ls us s
      → Sunk q at lim skip (ls ++ marked_lines n (stayers skips (view_of told l))) (us ++ uids (filterb marked (stayers skips (view_of told l)))) (run_m told skips lim l s)
  unfolding run_m marked_lines
  run_m_sunk true [] ls us s n k x = rw (append-nil ls, append-nil us) x
  run_m_sunk false [] ls us s n k x = rw (append-nil ls, append-nil us) x
  run_m_sunk skips (e ∷ l) ls us s n k x = rw (lines_m_is skips e l n (ltb (uid_of e) told) (expunged e) refl, us_m_is skips e l n (ltb (uid_of e) told) (expunged e) refl) (here (λ ls us s n k x. run_m_sunk skips l ls us s n k x) (ltb (uid_of e) told) (skips && expunged e) (marked e))
    where
      here : ((ls : List Line) (us : List ℕ) (s : State) (n : ℕ) → s.next ≡ n → Sunk q at lim skip ls us s
          → Sunk q at lim skip (ls ++ marked_lines n (stayers skips (view_of told l))) (us ++ uids (filterb marked (stayers skips (view_of told l))))
          (run_m told skips lim l s)) → (a b c : Bool)
          → Sunk q at lim skip (ls ++ lines_m skips e l n a b c) (us ++ us_m skips e l n a b c)
          (run_m told skips lim l (cond a (cond b s (more (cond c (say lim (fetch_text s.next (uid_of e) e.flags e.counter) (uid_of e) s) s))) s))
      here again true true c = again ls us s n k x
      here again true false true =
          let y = sunk-say q at lim wide skip ls us s x (flags_line n e) (uid_of e) in
          let z = as-text q at lim skip (ls ++ (flags_line n e ∷ [])) (us ++ (uid_of e ∷ [])) (fetch_text s.next (uid_of e) e.flags e.counter) (render (flags_line n e)) (uid_of e) s (ap (λ (i : ℕ). fetch_text i (uid_of e) e.flags e.counter) k ∙ fetch_line n e) y in
          let v = sunk-more q at lim skip (ls ++ (flags_line n e ∷ [])) (us ++ (uid_of e ∷ [])) (say lim (fetch_text s.next (uid_of e) e.flags e.counter) (uid_of e) s) z in
          let w = again (ls ++ (flags_line n e ∷ [])) (us ++ (uid_of e ∷ [])) (more (say lim (fetch_text s.next (uid_of e) e.flags e.counter) (uid_of e) s))
          (n + 1) (more_next (say lim (fetch_text s.next (uid_of e) e.flags e.counter) (uid_of e) s)
          ∙ ap (λ (i : ℕ). i + 1) (say_next lim (fetch_text s.next (uid_of e) e.flags e.counter) (uid_of e) s ∙ k)) v in
          rw (append_assoc ls (flags_line n e ∷ []) (marked_lines (n + 1) (stayers skips (view_of told l))), append_assoc us (uid_of e ∷ []) (uids (filterb marked (stayers skips (view_of told l))))) at w
      here again true false false = again ls us (more s) (n + 1) (more_next s ∙ ap (λ (i : ℕ). i + 1) k) (sunk-more q at lim skip ls us s x)
      here again false b c = again ls us s n k x

  -- ---- EXISTS: it stands for no message, and its bound is 1
  pub exists_sunk : (k f : ℕ) (l : List Message) → f ≡ length l → (ls : List Line) (us : List ℕ) (s : State) → Sunk q at lim skip ls us s
      → Sunk q at lim skip (ls ++ exists_line k l) (us ++ zeros l) (say_exists lim k f s)
  unfolding say_exists
  exists_sunk k f [] h ls us s x = rw (h, append-nil ls, append-nil us) x
  exists_sunk k f (e ∷ l) h ls us s x =
      let y = sunk-say q at lim wide skip ls us s x (exists (record { 0 = k + length (e ∷ l) })) 0 in
      rw (ne_eqb f 0 (λ z. (let n : ⊥ = omega arith in n))) (as-text q at lim skip (ls ++ exists_line k (e ∷ l)) (us ++ (0 ∷ [])) (count_text (k + f) exists_word) (render (exists (record { 0 = k + length (e ∷ l) }))) 0 s (ap (λ (i : ℕ). count_text (k + i) exists_word) h ∙ exists-text (k + length (e ∷ l))) y)
