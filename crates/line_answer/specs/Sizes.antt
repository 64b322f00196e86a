-- Sizes of an answer: too large for the queue, and an answer that is written whole or not at all (01, Commands, line 5; refusal 8). Assumes nothing.
use Rattle.std.specs.Prelude.{◌≡◌, refl, Bool, true, false, not, cond, ◌&&◌, List, ℕ, ◌+◌, ◌-◌, ◌<◌, ◌≤◌, leb, length}
use Rattle.std.proofs.Common.{ap, sym, ◌∙◌, arith, le-leb}
use Rattle.std.proofs.lemmas.Bool.{lt-leb}
use Rattle.model.specs.Queue.{written}
use Rattle.model.specs.Answering.{is_accepted}
use Rattle.model.specs.declared.Reply.{Reply}
use Rattle.model.specs.declared.Reply.TheVariants.{TooLarge}
use Rattle.line_put.specs.Put.{Put}

-- the reply, where the accepted answer has n octets and at most `most` may be written
abbrev pub reply_by : Reply → ℕ → ℕ → Reply
reply_by first n most = cond (is_accepted first && not (leb n most)) TooLarge first

-- rung by rung
module _ (first : Reply) (n most : ℕ) where
  pub reply-small : is_accepted first ≡ true → n ≤ most → first ≡ reply_by first n most
  reply-small e h = rw (e, le-leb n most h)

  pub reply_large : is_accepted first ≡ true → most < n → TooLarge ≡ reply_by first n most
  reply_large e h = rw (e, lt-leb n most h)

-- the text t was written to q at `at` below the last 64 octets, if there was room, and else nothing was
pub record Whole (q : List ℕ) (at : ℕ) (t : List ℕ) (q' : List ℕ) (fits : Bool) (end : ℕ) : Type 0 where
  pub room : fits ≡ leb (length t) (length q - 64 - at)
  pub queue : q' ≡ cond fits (written q at t) q
  pub ends : end ≡ cond fits (at + length t) at

-- it was measured first, with the limit 0
module _ {q q₁ t : List ℕ} {at e : ℕ} (a : Put q at 0 t q₁ e) where
  pub measured : q₁ ≡ q
  measured = a.kept (omega arith)

  pub measured-length : e - at ≡ length t
  measured-length = let n = a.next in omega arith

  pub whole-fits : {q₂ : List ℕ} {lim r : ℕ} → Put q₁ at lim t q₂ r → lim ≡ length q - 64 → e ≤ lim → Whole q at t q₂ true r
  whole-fits b l h =
      let n = a.next in
      let k = b.next in
      record {
        room = sym (le-leb (length t) (length q - 64 - at) (omega arith));
        queue = b.done (omega arith) ∙ ap (λ (x : List ℕ). written x at t) measured;
        ends = k;
      }

  pub whole_not : {lim : ℕ} → 0 < length t → lim ≡ length q - 64 → lim < e → Whole q at t q₁ false at
  whole_not z l h =
      let n = a.next in
      record { room = sym (lt-leb (length t) (length q - 64 - at) (omega arith)); queue = measured; ends = refl }
