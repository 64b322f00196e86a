-- The pieces of the line are the line. Assumes nothing.
use Rattle.std.specs.Prelude.{◌≡◌, refl, Bool, true, false, ℕ, ◌+◌, ◌-◌, ◌<◌, ◌≤◌, eqb, length, drop, get_or}
use Rattle.std.proofs.Math.Path.{ap}
use Rattle.std.proofs.Common.{ap₂, sym, ◌∙◌, add-one, arith, drop_of_length-le, drop-cons}
use Rattle.std.proofs.Math.Bool.{cond}
use mathlib.Core.List.{List, [], ◌∷◌, ◌++◌, append_assoc, append-nil}
use Rattle.std.proofs.lemmas.List.{length-map}
use Rattle.model.specs.Lists.{concat_map, last_or}
use Rattle.model.specs.Text.{octets, decimal, quoted}
use Rattle.model.specs.Lines.{Result, min, max, all as all_of, count, crlf, run_text, runs_text, set_text, result_text, render}
use Rattle.model.specs.declared.Uid.{Uid}
use Rattle.line_put.specs.declared.Writer.{Writer}
use Rattle.line_put.specs.Writes.{Writes, writes_as, Goes, goes_on}
use Rattle.read_options.specs.declared.Returns.{Returns}
use Rattle.line_found.specs.Line.{uids_of, tag_text, box_text, results_of, results_text, line_text}

-- ---- ALL: the run from `from` to `upto` is open, and of the UIDs behind it i were passed
module _ (from upto : ℕ) (xs : List ℕ) (i : ℕ) {w w' : Writer} {all : List ℕ} (g : Goes w all w' (runs_text from upto (uids_of (drop i xs)))) where
  module _ (h : i < length xs) where
    step : (t : Bool) → eqb (get_or xs i 0) (upto + 1) ≡ t
        → runs_text from upto (uids_of (drop i xs)) ≡ cond t (runs_text from (get_or xs i 0) (uids_of (drop (i + 1) xs))) (run_text from upto ++ (octets "," ++ runs_text (get_or xs i 0) (get_or xs i 0) (uids_of (drop (i + 1) xs))))
    unfolding runs_text
    step t f =
        ap (λ (l : List ℕ). runs_text from upto (uids_of l)) (drop-cons xs i 0 h)
        ∙ rw (add-one i, f)

    pub set_joined : eqb (get_or xs i 0) (upto + 1) ≡ true → Goes w all w' (runs_text from (get_or xs i 0) (uids_of (drop (i + 1) xs)))
    set_joined f = rw (step true f) at g

    pub set-apart : eqb (get_or xs i 0) (upto + 1) ≡ false → {w₁ : Writer} → Writes w' (run_text from upto ++ (44 ∷ [])) w₁ → Goes w all w₁ (runs_text (get_or xs i 0) (get_or xs i 0) (uids_of (drop (i + 1) xs)))
    set-apart f p = goes_on (rw (step false f, ← append_assoc) at g) p

  pub set_end : length xs ≤ i → {w₁ : Writer} → Writes w' (run_text from upto) w₁ → Writes w all w₁
  unfolding runs_text
  set_end h {w₁} p = g w₁ (writes_as p (ap (λ (l : List ℕ). runs_text from upto (uids_of l)) (sym (drop_of_length-le xs {i = i} h))))

-- the first is one
pub set_begins : (xs : List ℕ) → 1 ≤ length xs → set_text (uids_of xs) ≡ runs_text (get_or xs 0 0) (get_or xs 0 0) (uids_of (drop 1 xs))
set_begins [] h = absurd (omega arith)
set_begins (x ∷ xs) h = refl

-- ---- the results
of_both : (a b : List Result) → concat_map result_text (a ++ b) ≡ concat_map result_text a ++ concat_map result_text b
of_both [] b = refl
of_both (x ∷ a) b = ap (λ (l : List ℕ). result_text x ++ l) (of_both a b) ∙ sym (append_assoc (result_text x) (concat_map result_text a) (concat_map result_text b))

of_one : (b : Bool) (x : Result) → concat_map result_text (cond b (x ∷ []) []) ≡ cond b (result_text x) []
of_one true x = append-nil (result_text x)
of_one false x = refl

left : (a b c d : List ℕ) → ((a ++ b) ++ c) ++ d ≡ a ++ (b ++ (c ++ d))
left a b c d = simp append_assoc

four : (w : Returns) (u : Uid) (us : List Uid)
    → ((cond w.min (result_text (min u)) [] ++ cond w.max (result_text (max (last_or u us))) []) ++ cond w.all (result_text (all_of (u ∷ us))) []) ++ cond w.count (result_text (count (length (u ∷ us)))) [] ≡ concat_map result_text (results_of w u us)
four w u us =
    let a : List Result = cond w.min (min u ∷ []) [] in
    let b : List Result = cond w.max (max (last_or u us) ∷ []) [] in
    let c : List Result = cond w.all (all_of (u ∷ us) ∷ []) [] in
    let d : List Result = cond w.count (count (length (u ∷ us)) ∷ []) [] in
    left (cond w.min (result_text (min u)) []) (cond w.max (result_text (max (last_or u us))) []) (cond w.all (result_text (all_of (u ∷ us))) []) (cond w.count (result_text (count (length (u ∷ us)))) [])
    ∙ sym (of_both a (b ++ (c ++ d))
    ∙ ap₂ (λ (x y : List ℕ). x ++ y) (of_one w.min (min u)) (of_both b (c ++ d)
    ∙ ap₂ (λ (x y : List ℕ). x ++ y) (of_one w.max (max (last_or u us))) (of_both c d
    ∙ ap₂ (λ (x y : List ℕ). x ++ y) (of_one w.all (all_of (u ∷ us))) (of_one w.count (count (length (u ∷ us)))))))

last-uid : (x : ℕ) (xs : List ℕ) → get_or (x ∷ xs) (length xs) 0 ≡ (last_or (record { 0 = x }) (uids_of xs)).0
last-uid x [] = refl
last-uid x (y ∷ xs) = last-uid y xs

abbrev pub pieces : Returns → List ℕ → List ℕ
pieces w us = ((cond w.min (octets " MIN " ++ decimal (get_or us 0 0)) [] ++ cond w.max (octets " MAX " ++ decimal (get_or us (length us - 1) 0)) []) ++ cond w.all (octets " ALL " ++ set_text (uids_of us)) []) ++ cond w.count (octets " COUNT " ++ decimal (length us)) []

pub pieces_are : (w : Returns) (us : List ℕ) → 1 ≤ length us → pieces w us ≡ results_text w (uids_of us)
unfolding results_text
pieces_are w [] h = absurd (let z : ⊥ = omega arith in z)
pieces_are w (x ∷ xs) h =
    let e : get_or (x ∷ xs) (length (x ∷ xs) - 1) 0 ≡ (last_or (record { 0 = x }) (uids_of xs)).0 = ap (λ (j : ℕ). get_or (x ∷ xs) j 0) (let z : length (x ∷ xs) - 1 ≡ length xs = omega arith in z) ∙ last-uid x xs in
    let f : length (x ∷ xs) ≡ length (uids_of (x ∷ xs)) = sym (length-map (x ∷ xs) (λ (u : ℕ). record { 0 = u })) in
    ap₂ (λ (z m : ℕ). ((cond w.min (octets " MIN " ++ decimal x) [] ++ cond w.max (octets " MAX " ++ decimal z) []) ++ cond w.all (octets " ALL " ++ set_text (uids_of (x ∷ xs))) []) ++ cond w.count (octets " COUNT " ++ decimal m) []) e f
    ∙ four w (record { 0 = x }) (uids_of xs)

-- ---- the line
whole : (a t b q c v d r e : List ℕ) → ((((a ++ t) ++ b) ++ (((q ++ c) ++ v) ++ d)) ++ r) ++ e ≡ (a ++ (t ++ (b ++ (q ++ (c ++ (v ++ (d ++ r))))))) ++ e
whole a t b q c v d r e = simp append_assoc

pub line_pieces : (tag name : List ℕ) (v : ℕ) (w : Returns) (us : List ℕ) → 1 ≤ length us → ((tag_text tag ++ box_text name v) ++ results_text w (uids_of us)) ++ (13 ∷ 10 ∷ []) ≡ line_text tag name v w (uids_of us)
unfolding tag_text box_text results_text line_text render
line_pieces tag name v w [] h = absurd (let z : ⊥ = omega arith in z)
line_pieces tag name v w (x ∷ xs) h =
    whole (octets "* ESEARCH (TAG \"") tag (octets "\" MAILBOX ") (quoted name) (octets " UIDVALIDITY ") (decimal v) (octets ") UID") (concat_map result_text (results_of w (record { 0 = x }) (uids_of xs))) crlf
