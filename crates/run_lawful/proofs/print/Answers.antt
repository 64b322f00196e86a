-- `print`: what one write took stands behind what the writes before it took.
use Rattle.std.proofs.Common.{rules, arith, ◌≡◌, ◌-◌, ℕ, List, length, take, drop, sym, subst, take_all, length-drop}
use Rattle.std.specs.Io.KnownBytes.{Appends}
use Rattle.std.proofs.KnownBytes.{Appends-trans}
use lib.Seq.{take-add}
use Rattle.run_lawful.proofs.print.Goals as goal

all-rest : (a : ℕ) (xs : List ℕ) → take (length xs - a) (drop a xs) ≡ drop a xs
all-rest a xs = let l = length-drop a xs in take_all (length xs - a) (drop a xs) (omega arith)

pub loop-done-preserved : goal.loop-done-preserved
loop-done-preserved g c =
    let done = c.loop-done.done in
    let n = c.in_ok-done.field-0 in
    let text = c.args.text.now in
    let more = subst (λ (l : List ℕ). Appends (g.W.Write.contents c.loop-done.writer) (g.W.Write.contents c.write_once.new.writer) (take n l)) (all-rest done text) c.in_ok-done.ensures.bytes in
    (search rules, subst (Appends _ _) (sym (take-add done n text)) (Appends-trans _ _ _ _ _ c.loop-done.invariant.1 more))
