-- `is_hit`: an expunged message matches nothing; any other by its keys. Assumes nothing.
use Rattle.std.proofs.Common.{◌≡◌, true, rules, tests, ap, ◌∙◌, not}
use Rattle.search_find.specs.Laws.{hit_not, hit_by_lem}
use Rattle.search_find.proofs.is_hit.Goals as goal

pub returns-then-not-is_expunged : goal.returns-then-not-is_expunged
returns-then-not-is_expunged c = hit_by_lem c.args.cells.now c.args.p (search (rules, tests)) c.all_hold.result c.all_hold.ensures

pub returns-else-not-is_expunged : goal.returns-else-not-is_expunged
returns-else-not-is_expunged c ks h =
    let e : c.is_expunged.result ≡ true = search (rules, tests) in
    ap not e ∙ hit_not c.args.cells.now c.args.p (search (rules, tests)) ks h
