-- Laws of lines as octets, and of what writing them ends. Assumes nothing.
use Rattle.std.specs.Prelude.{◌≡◌, refl, List, [], ◌∷◌, ◌++◌, ℕ, ◌<◌, length}
use Rattle.std.proofs.Common.{◌∙◌, sym, ap, append_assoc, arith, length-append}
use Rattle.model.specs.Lines.{Line, text, render, render_all, crlf}
use Rattle.model.specs.Memory.{Memory}
use Rattle.model.specs.Queue.{effect, effects}

-- a line has octets, its CR LF at least
pub render_some : (l : Line) → 0 < length (render l)
unfolding render
render_some l = let z = length-append (text l) crlf in omega arith

pub render-append : (a b : List Line) → render_all (a ++ b) ≡ render_all a ++ render_all b
unfolding render_all
render-append [] b = refl
render-append (l ∷ a) b = ap (λ (t : List ℕ). render l ++ t) (render-append a b) ∙ sym (append_assoc (render l) (render_all a) (render_all b))

pub effects-append : (m : Memory) (a b : List Line) → effects m (a ++ b) ≡ effects (effects m a) b
unfolding effects
effects-append m [] b = refl
effects-append m (l ∷ a) b = effects-append (effect m l) a b
