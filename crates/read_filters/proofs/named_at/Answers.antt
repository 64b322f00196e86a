-- `named_at`: behind a space stand the names, of which there is at least one. Assumes nothing.
use mathlib.Core.Path.{sym, ◌∙◌}
use native.Mathlib.Omega.{arith}
use Rattle.read_filters.proofs.Scoping.{named_is}
use Rattle.read_filters.proofs.named_at.Goals as goal

pub returns : goal.returns
returns c =
    let names = c.in_ok-names.ensures in
    let space = sym c.octet_at.ensures ∙ c.if-octet_at-ne32.false in
    let w = names.within in
    record {
      exact = λ f b. named_is c.args.text.now c.args.at c.args.scope f b space names.exact (omega arith);
      within = omega arith;
    }
