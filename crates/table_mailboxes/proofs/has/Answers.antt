-- `has`: the bit by a shift; none lies behind the eighth. Assumes nothing.
use Rattle.std.proofs.Common.{ap, ◌∙◌, ◌<◌, ℕ, ◌/◌, ◌^◌, eqb, arith}
use borrow.Author.Tests.{le-ltb}
use Rattle.std.proofs.lemmas.Nat.{and_mask}
use Rattle.table_mailboxes.specs.Bits.{bit_shift, bit_none}
use Rattle.table_mailboxes.proofs.has.Goals as goal

pub returns-then-k-lt8 : goal.returns-then-k-lt8
returns-then-k-lt8 c = ap (λ (n : ℕ). eqb n 1) (and_mask (c.args.bits / 2 ^ c.args.k) 1) ∙ bit_shift c.args.k c.args.bits

pub returns-else-k-lt8 : goal.returns-else-k-lt8
returns-else-k-lt8 c =
    let low : c.args.bits < 256 = omega arith in le-ltb c.args.k 8 c.if-k-lt8.false ∙ bit_none c.args.k c.args.bits c.if-k-lt8.false low
