-- `set_at`: by the word STATUS. Assumes nothing.
use mathlib.Core.Path.{sym, ◌∙◌}
use Prim.Native.Nat.{◌+◌}
use native.Mathlib.Omega.{arith}
use Rattle.read_notify.proofs.Grouping.{set-status, keeps_as, keeps-later}
use Rattle.octets.specs.Rows.{in-text}
use Rattle.read_notify.proofs.watches.set_at.Goals as goal

pub returns : goal.returns
returns c =
    let space = sym c.octet_at.ensures ∙ c.if-octet_at-ne32.false in
    let i = in-text c.args.text.now c.run_end-end.result space (omega arith) in
    let from = c.run_end-end.ensures.from in
    keeps_as (set-status c.args.text.now c.args.at c.run_end-end.ensures.exact (sym c.is_word.ensures ∙ c.if-not-is_word.false) space)
    (keeps-later c.args.text.now c.args.at (c.run_end-end.result + 1) c.gather-2.result (omega arith) (omega arith) c.gather-2.ensures)
