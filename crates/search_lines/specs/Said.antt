-- What is written of a search's answer, by its size: all of it, or that it is too large. Assumes nothing.
use Rattle.std.specs.Prelude.{◌≡◌, Bool, true, false, cond, List, ℕ, ◌-◌, ◌<◌, ◌≤◌, length}
use Rattle.std.proofs.Common.{ap, sym, ◌∙◌}
use Rattle.model.specs.Requests.{esearch}
use Rattle.model.specs.Commands.{tag_of}
use Rattle.model.specs.Lines.{answer, render}
use Rattle.model.specs.Answering.{is_accepted}
use Rattle.model.specs.declared.Reply.{Reply}
use Rattle.model.specs.declared.Reply.TheVariants.{Accepted}
use Rattle.line_put.specs.Put.{Put}
use Rattle.line_answer.specs.Sizes.{reply_by, Whole, measured, measured-length, whole-fits, whole_not}

-- what is written of an answer w: all of it, or else the line that it is too large
abbrev pub answer_by : List ℕ → List ℕ → ℕ → List ℕ
answer_by text w most = cond (is_accepted (reply_by Accepted (length w) most)) w (render (answer (tag_of text) esearch (reply_by Accepted (length w) most)))

-- rung by rung
module _ (text w : List ℕ) (most : ℕ) (r : Reply) (e : r ≡ reply_by Accepted (length w) most) where
  pub answer_whole : is_accepted r ≡ true → w ≡ answer_by text w most
  answer_whole h = sym (ap (λ (b : Bool). cond b w (render (answer (tag_of text) esearch (reply_by Accepted (length w) most)))) (sym (ap is_accepted e) ∙ h))

  pub answer_large : is_accepted r ≡ false → render (answer (tag_of text) esearch r) ≡ answer_by text w most
  answer_large h =
      ap (λ (x : Reply). render (answer (tag_of text) esearch x)) e
      ∙ sym (ap (λ (b : Bool). cond b w (render (answer (tag_of text) esearch (reply_by Accepted (length w) most)))) (sym (ap is_accepted e) ∙ h))

-- ---- by what was measured with the limit 0
module _ {q q₁ w : List ℕ} {at e : ℕ} (text : List ℕ) (a : Put q at 0 w q₁ e) (r : Reply) (is : r ≡ reply_by Accepted (e - at) (length q - 64)) where
  reply_same : r ≡ reply_by Accepted (length w) (length q - 64)
  reply_same = is ∙ ap (λ (n : ℕ). reply_by Accepted n (length q - 64)) (measured-length a)

  pub said_large : is_accepted r ≡ false → {q₂ : List ℕ} {fits : Bool} {end : ℕ} → Whole q₁ at (render (answer (tag_of text) esearch r)) q₂ fits end
      → Whole q at (answer_by text w (length q - 64)) q₂ fits end
  said_large h x = rw (measured a, answer_large text w (length q - 64) r reply_same h) at x

  pub said_whole : is_accepted r ≡ true → {q₂ : List ℕ} {lim z : ℕ} → Put q₁ at lim w q₂ z → lim ≡ length q - 64 → e ≤ lim → Whole q at (answer_by text w (length q - 64)) q₂ true z
  said_whole h x l k = rw (← answer_whole text w (length q - 64) r reply_same h) (whole-fits a x l k)

  pub said_not : is_accepted r ≡ true → {lim : ℕ} → 0 < length w → lim ≡ length q - 64 → lim < e → Whole q at (answer_by text w (length q - 64)) q₁ false at
  said_not h z l k = rw (← answer_whole text w (length q - 64) r reply_same h) (whole_not a z l k)
