-- The lines of a search and its tagged line, as code writes them one after the other. Assumes nothing.
use Rattle.std.specs.Prelude.{◌≡◌, refl, false, ℕ, zero, suc, ◌%◌, take, get_or, ◌+◌, ◌-◌, ◌<◌, ◌≤◌, length}
use Rattle.std.proofs.Math.Path.{ap, ap₂}
use Rattle.std.proofs.Common.{sym, ◌∙◌, arith, length-append, get_or-take}
use mathlib.Core.List.{List, [], ◌∷◌, ◌++◌, append-nil}
use Rattle.model.specs.Requests.{esearch, Command, Search, search}
use Rattle.model.specs.Reading.{Parsed, ok}
use Rattle.model.specs.Commands.{tag_of, command_of}
use Rattle.model.specs.Limits.{limits, command_too_large}
use Rattle.model.specs.Lines.{Line, answer, render, render_all}
use Rattle.model.specs.Memory.{Memory}
use Rattle.model.specs.Searching.{found_lines}
use Rattle.model.specs.Answering.{accepted_lines}
use Rattle.model.specs.declared.Reply.TheVariants.{Accepted}
use Rattle.model.specs.Rendered.{render-append, render_some}
use Rattle.line_put.specs.Put.{Put, put_past}
use Rattle.search_find.specs.Runs.{Bounded, run_at}
use Rattle.read_options.specs.declared.Returns.{Returns}
use Rattle.table_mailboxes.specs.declared.Columns.{Columns}
use Rattle.table_mailboxes.specs.Columns.{name_at}
use Rattle.line_found.specs.Line.{line_text}
use Rattle.line_found.specs.Telling.{texts}
use Rattle.line_answer.specs.Answered.{whole_text}
use Rattle.search_hits.specs.Headed.{tag_by, tag_is}
use Rattle.search_hits.specs.Finding.{Searches, dated, Gathers}
use Rattle.search_hits.specs.declared.Hits.{Hits}

-- n rows, and the runs of what was found in them, all inside their arrays
pub record Runs (rows uids starts counts : List ℕ) (n : ℕ) : Type 0 where
  pub few : n ≤ 64
  pub in_rows : n ≤ length rows
  pub in-starts : n ≤ length starts
  pub in-counts : n ≤ length counts
  pub room : 2048 ≤ length uids
  pub bounded : Bounded starts counts 0 n

abbrev pub lines_by : List ℕ → Columns → List ℕ → List ℕ → List ℕ → List ℕ → Hits → List ℕ
lines_by text c rows uids starts counts h = texts (tag_by text) c rows h.wanted uids starts counts h.rows

abbrev pub tagged_line : List ℕ → List ℕ
tagged_line text = render (answer (tag_of text) esearch Accepted)

-- all that a search writes
abbrev pub whole_by : List ℕ → Columns → List ℕ → List ℕ → List ℕ → List ℕ → Hits → List ℕ
whole_by text c rows uids starts counts h = lines_by text c rows uids starts counts h ++ tagged_line text

-- it has octets
pub whole_some : (t : List ℕ) (l : Line) → 0 < length (t ++ render l)
whole_some t l = let z = render_some l in let w = length-append t (render l) in omega arith

-- ---- measured part by part, from one place
pub measured_both : {q q₁ q₂ t : List ℕ} {at a b : ℕ} (l : Line) → Put q at 0 t q₁ a → Put q₁ at 0 (render l) q₂ b → Put q at 0 (t ++ render l) q₂ (a + (b - at))
measured_both {q} {q₁} {q₂} {t} {at} {a} {b} l x y =
    let z = render_some l in
    let n = x.next in
    let k = y.next in
    let w = length-append t (render l) in
    let e : q₂ ≡ q = y.kept (omega arith) ∙ x.kept (omega arith) in
    rw e (put_past q at 0 (t ++ render l) (a + (b - at)) (omega arith) (omega arith) (omega arith))

-- ---- an order that is cut off where it is no longer in use
pub texts_cut : (tag : List ℕ) (c : Columns) (rows : List ℕ) (w : Returns) (uids starts counts : List ℕ) (n k : ℕ) → n ≤ k → texts tag c (take k rows) w uids starts counts n ≡ texts tag c rows w uids starts counts n
unfolding texts
texts_cut tag c rows w uids starts counts zero k h = refl
texts_cut tag c rows w uids starts counts (suc n) k h =
    ap₂ (λ (j : ℕ) (t : List ℕ). line_text tag (name_at c.lens c.names (j % 64)) (get_or c.validities (j % 64) 0) w (run_at uids starts counts n) ++ t) (get_or-take k rows n 0 h) (texts_cut tag c rows w uids starts counts n k (omega arith))

-- ---- they are those of the rule
module _ (text words : List ℕ) (s told : ℕ) (c : Columns) (rows uids starts counts : List ℕ) (h : Hits)
    (g : Gathers text words s told c rows uids starts counts h)
    (m : Memory) (validities nexts counters : List ℕ) (is : Searches m words s told c validities nexts counters)
    (p : ℕ) (q : Search) (e : command_of text ≡ ok p (search q)) (small : command_too_large limits (search q) ≡ false) where
  pub lines-found : lines_by text (dated c validities) rows uids starts counts h ≡ render_all (found_lines m (tag_of text) q)
  lines-found = g.exact m validities nexts counters is p q e small (tag_by text) ∙ ap (λ (t : List ℕ). render_all (found_lines m t q)) (tag_is text p (search q) e)

  pub whole_is : whole_by text (dated c validities) rows uids starts counts h ≡ whole_text m text
  unfolding render_all
  whole_is =
      let l : Line = answer (tag_of text) esearch Accepted in
      ap₂ (λ (a b : List ℕ). a ++ b) lines-found (sym (append-nil (render l)))
      ∙ (sym (render-append (found_lines m (tag_of text) q) (l ∷ []))
      ∙ ap (λ (x : Parsed Command). render_all (accepted_lines m (tag_of text) x)) (sym e))
