-- `parts_at`: each case is one step of the definition of a row. Assumes nothing.
use Rattle.std.proofs.Common.{sym, ◌∙◌}
use Rattle.read_sections.proofs.Parts.{parts_none, parts_over, parts_another, part_letter, part_over}
use Rattle.read_sections.proofs.+parts_at.Goals.{else-octet_at-eq46-via-then-octet_at-eq46+else-in_class, else-octet_at-eq46-via-else-octet_at-eq46}
use Rattle.read_sections.proofs.+parts_at.Goals as goal

pub returns-in_err-next : goal.returns-in_err-next
returns-in_err-next t c = rw c.from_residual.ensures (parts_none _ _ c.in_err-next.ensures.exact)

pub returns-then-in_class : goal.returns-then-in_class
returns-then-in_class t c =
    parts_another _ _ c.in_ok-next.ensures.exact c.in_ok-next.ensures.within (sym c.octet_at.ensures ∙ c.if-octet_at-eq46.true)
    (sym (rw c.octet_at-then-octet_at-eq46.ensures at c.in_class.ensures) ∙ c.if-in_class.true) _ c.parts_at.ensures

pub returns : goal.returns
returns t c =
    parts_over _ _ c.in_ok-next.ensures.exact c.in_ok-next.ensures.within
    (elim c.else-octet_at-eq46.branch [
      | else-octet_at-eq46-via-then-octet_at-eq46+else-in_class w ↦
          part_letter _ _ (sym c.octet_at.ensures ∙ w.if-octet_at-eq46.true)
          (sym (rw w.octet_at-then-octet_at-eq46.ensures at w.in_class.ensures) ∙ w.if-in_class.false)
      | else-octet_at-eq46-via-else-octet_at-eq46 w ↦ part_over _ _ (λ e. w.if-octet_at-eq46.false (c.octet_at.ensures ∙ e))
    ])
