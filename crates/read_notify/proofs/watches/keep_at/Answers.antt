-- `keep_at`: behind SET and a space the groups are read. Assumes nothing.
use mathlib.Core.Path.{sym, ◌∙◌}
use Prim.Native.Nat.{◌+◌}
use native.Mathlib.Omega.{arith}
use Rattle.read_notify.proofs.Grouping.{notify-set, keeps_as, keeps-later}
use Rattle.octets.specs.Rows.{in-text}
use Rattle.read_notify.proofs.watches.keep_at.Goals as goal

pub returns : goal.returns
returns c =
    let space = sym c.octet_at.ensures ∙ c.if-octet_at-ne32.false in
    let i = in-text c.args.text.now c.run_end-end.result space (omega arith) in
    let from = c.run_end-end.ensures.from in
    keeps_as (notify-set c.args.text.now c.args.at c.run_end-end.ensures.exact (sym c.is_word.ensures ∙ c.if-is_word.false) (sym c.is_word-2.ensures ∙ c.if-not-is_word.false) space)
    (keeps-later c.args.text.now c.args.at (c.run_end-end.result + 1) c.set_at.result (omega arith) (omega arith) c.set_at.ensures)
