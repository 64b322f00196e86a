-- The row's octets are placed: all of them are counted, or the first 48, before zeros.
use mathlib.Core.Path.{◌≡◌, sym, ◌∙◌}
use Prim.Native.Nat.{◌*◌}
use lib.ListN.{length}
use borrow.Author.Tests.{eqb-true}
use Rattle.lawful_mailboxes.specs.Neighbours.{all_placed, name_placed}
use borrow.Author.Rules.{rules}
use Rattle.lawful_mailboxes.proofs.naming.name_seen.Goals as goal

pub returns-then-len-gt47 : goal.returns-then-len-gt47
returns-then-len-gt47 c =
    let long : length c.args.names.now ≡ 4096 = search rules in
    let ended = c.ends_ok.ensures c.if-not-ends_ok.false in
    λ z. name_placed c.args.names.now c.args.k c.args.len long c.requires ended (all_placed c.args.names.now (64 * c.args.k) 63 (sym c.misplaced_from.ensures ∙ eqb-true _ _ z))

pub returns-else-len-gt47 : goal.returns-else-len-gt47
returns-else-len-gt47 c =
    let long : length c.args.names.now ≡ 4096 = search rules in
    let ended = c.ends_ok.ensures c.if-not-ends_ok.false in
    λ z. name_placed c.args.names.now c.args.k c.args.len long c.requires ended (c.short_seen.ensures z)
