-- The lines that count: `* n EXISTS` and `* n EXPUNGE`. Assumes nothing.
use Rattle.std.specs.Prelude.{◌≡◌, refl, cond, List, [], ◌∷◌, ◌++◌, ℕ, ◌+◌, eqb, length}
use Rattle.std.proofs.Common.{sym, ◌∙◌, append_assoc, append-nil, arith, ne_eqb}
use Rattle.model.specs.Text.{octets, decimal}
use Rattle.model.specs.Lines.{exists, expunge, render, render_all, crlf}
use Rattle.model.specs.View.{exists_line}
use Rattle.model.specs.declared.Message.{Message}
use Rattle.model.specs.declared.Uid.{Uid}

abbrev pub expunge_word : List ℕ
expunge_word = octets " EXPUNGE" ++ crlf

abbrev pub exists_word : List ℕ
exists_word = octets " EXISTS" ++ crlf

-- `* n` and a word
unfoldable pub count_text : ℕ → List ℕ → List ℕ
count_text n w = (octets "* " ++ decimal n) ++ w

regroup : (a b c d : List ℕ) → (a ++ b) ++ (c ++ d) ≡ (a ++ (b ++ c)) ++ d
regroup a b c d = simp append_assoc

pub expunge-text : (n : ℕ) (u : Uid) → count_text n expunge_word ≡ render (expunge (record { 0 = n }) u)
unfolding count_text render
expunge-text n u = regroup (octets "* ") (decimal n) (octets " EXPUNGE") crlf

pub exists-text : (n : ℕ) → count_text n exists_word ≡ render (exists (record { 0 = n }))
unfolding count_text render
exists-text n = regroup (octets "* ") (decimal n) (octets " EXISTS") crlf

-- EXISTS, where n messages are new to the client, which has k others
abbrev pub exists_text : ℕ → ℕ → List ℕ
exists_text k n = cond (eqb n 0) [] (count_text (k + n) exists_word)

pub exists_some : (k n : ℕ) → (n ≡ 0 → ⊥) → count_text (k + n) exists_word ≡ exists_text k n
exists_some k n e = rw (ne_eqb n 0 e)

pub exists_line_lem : (k : ℕ) (l : List Message) → exists_text k (length l) ≡ render_all (exists_line k l)
unfolding render_all
exists_line_lem k [] = refl
exists_line_lem k (e ∷ l) = sym (exists_some k (length (e ∷ l)) (λ z. (let y : ⊥ = omega arith in y))) ∙ (exists-text (k + length (e ∷ l)) ∙ sym (append-nil (render (exists (record { 0 = k + length (e ∷ l) })))))
