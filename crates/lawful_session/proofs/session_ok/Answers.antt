-- `session_ok`: each test is one conjunct of the definition, tried in its order; the first that fails decides. Assumes nothing.
use Rattle.std.proofs.Common.{◌≡◌, ◌||◌, true, eqb, leb, length, drop, ◌-◌, arith, rules}
use mathlib.Core.Path.{sym, ◌∙◌}
use borrow.Author.Tests.{le-leb}
use Rattle.model.specs.Laws.{all_hold}
use Rattle.model.specs.Lists.{allb}
use Rattle.model.specs.Lawful.{groups_ok, used_groups, lent_name_count, blank_group}
use Rattle.lawful_session.specs.Tests.{group_tests, session_tests, no_at, many-selected, few-selected, names_last, rest_is}
use Rattle.table_mailboxes.specs.Walks.{mapped-length}
use Rattle.lawful_session.proofs.session_ok.Goals as goal
use Rattle.lawful_session.proofs.session_ok.Goals.{then-s-ne0, else-s-ne0, then-not-groups_ok-via-then-not-groups_ok, then-not-groups_ok-via-else-not-groups_ok+then-selected_count-gt1}

pub returns-then-not-groups_ok : goal.returns-then-not-groups_ok
returns-then-not-groups_ok c = elim c.then-not-groups_ok.branch [
  | then-not-groups_ok-via-then-not-groups_ok w ↦ no_at (session_tests c.args.s.now) 3 (rw (← c.from-n.ensures) (sym c.groups_ok.ensures ∙ w.if-not-groups_ok.true))
  | then-not-groups_ok-via-else-not-groups_ok+then-selected_count-gt1 w ↦
      no_at (session_tests c.args.s.now) 4 (many-selected c.args.s.now w.selected_count.result (rw (← c.from-n.ensures) w.selected_count.ensures) w.if-selected_count-gt1.true)
]

pub returns : goal.returns
returns c =
    let flag = le-leb c.args.s.now.notified 1 c.if-s-gt1.false in
    let count = le-leb c.args.s.now.groupcount 8 c.if-s-gt8.false in
    let set : (eqb c.args.s.now.groupcount 0 || eqb c.args.s.now.notified 1) ≡ true = elim c.if-s-ne0.branch [ then-s-ne0 w ↦ search rules | else-s-ne0 w ↦ search rules ] in
    let groups : groups_ok 0 (used_groups c.args.s.now) ≡ true = rw (← c.from-n.ensures) (sym c.groups_ok.ensures ∙ c.if-not-groups_ok.false) in
    let selected = few-selected c.args.s.now c.selected_count.result (rw (← c.from-n.ensures) c.selected_count.ensures) c.if-selected_count-gt1.false in
    let many : c.name_count-many.result ≡ lent_name_count (used_groups c.args.s.now) = rw (← c.from-n.ensures) c.name_count-many.ensures in
    let names : leb (lent_name_count (used_groups c.args.s.now)) 16 ≡ true = rw (← many) (le-leb c.name_count-many.result 16 c.if-many-gt16.false) in
    let n : c.from-n.result ≡ c.args.s.now.groupcount = c.from-n.ensures in
    let long : length c.args.s.now.groups ≡ 8 = search (rules, mapped-length) in
    let short : length c.args.s.now.names ≡ 16 = search (rules, mapped-length) in
    let blank : allb blank_group (drop c.args.s.now.groupcount c.args.s.now.groups) ≡ true = rw (← n, ← rest_is c.args.s.now.groups c.from-n.result (8 - c.from-n.result) (omega arith)) (sym c.blank_groups.ensures ∙ c.if-not-blank_groups.false) in
    let behind = rest_is c.args.s.now.names c.name_count-many.result (16 - c.name_count-many.result) (omega arith) in
    c.names_fit.ensures ∙ rw behind (names_last c.args.s.now c.name_count-many.result many (all_hold (group_tests c.args.s.now) (flag, (count, (set, (groups, (selected, (names, tt))))))) blank)
