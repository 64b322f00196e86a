-- The line of what was found, as it is written piece by piece. Assumes nothing.
use Rattle.std.specs.Prelude.{◌≡◌, refl, cond, List, [], ◌∷◌, ◌++◌, map, ℕ, length}
use Rattle.std.proofs.Common.{sym, append-nil}
use Rattle.model.specs.Lists.{concat_map, last_or}
use Rattle.model.specs.Text.{octets, decimal, quoted}
use Rattle.model.specs.Names.{Name}
use Rattle.model.specs.Memory.{name_of}
use Rattle.model.specs.Requests.{Search}
use Rattle.model.specs.Lines.{found, Result, min, max, all as all_of, count, result_text, render, render_all}
use Rattle.model.specs.Searching.{results, found_line}
use Rattle.model.specs.declared.Mailbox.{Mailbox}
use Rattle.model.specs.declared.Uid.{Uid}
use Rattle.read_options.specs.declared.Returns.{Returns}
use Rattle.read_search.specs.Searched.{returns_for}

abbrev pub uids_of : List ℕ → List Uid
uids_of l = map (λ (u : ℕ). record { 0 = u }) l

-- ---- pieces
unfoldable pub tag_text : List ℕ → List ℕ
tag_text tag = (octets "* ESEARCH (TAG \"" ++ tag) ++ octets "\" MAILBOX "

unfoldable pub box_text : List ℕ → ℕ → List ℕ
box_text name v = ((quoted name ++ octets " UIDVALIDITY ") ++ decimal v) ++ octets ") UID"

-- what was asked for, as the definition has it
abbrev pub results_of : Returns → Uid → List Uid → List Result
results_of w u us =
    cond w.min (min u ∷ []) []
    ++ (cond w.max (max (last_or u us) ∷ []) []
    ++ (cond w.all (all_of (u ∷ us) ∷ []) []
    ++ cond w.count (count (length (u ∷ us)) ∷ []) []))

unfoldable pub results_text : Returns → List Uid → List ℕ
results_text w [] = []
results_text w (u ∷ us) = concat_map result_text (results_of w u us)

unfoldable pub line_text : List ℕ → Name → ℕ → Returns → List Uid → List ℕ
line_text tag n v w [] = []
line_text tag n v w (u ∷ us) = render (found tag n v (results_of w u us))

-- it is the line of the definition
pub line_is : (tag : List ℕ) (q : Search) (x : Mailbox) (us : List Uid) → line_text tag (name_of x) x.uidvalidity (returns_for q) us ≡ render_all (found_line tag q x us)
unfolding line_text render_all
line_is tag q x [] = refl
line_is tag q x (u ∷ us) = sym (append-nil (render (found tag (name_of x) x.uidvalidity (results q u us))))
