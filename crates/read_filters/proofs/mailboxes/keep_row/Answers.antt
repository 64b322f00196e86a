-- `keep_row`: the names that are kept grow by one at each turn; what is left of the row says the same behind them. Assumes nothing.
use mathlib.Core.Path.{sym, ap, ◌∙◌}
use native.Mathlib.Omega.{arith}
use Rattle.read_filters.specs.Keeping.{with_one}
use Rattle.read_filters.specs.declared.Kept.{Kept}
use Rattle.read_filters.proofs.Storing.{goes_start, goes_none, goes-wrong, goes_last, goes_on}
use Rattle.octets.specs.Rows.{in-text}
use Rattle.read_filters.proofs.mailboxes.keep_row.Goals as goal

pub loop-q-init : goal.loop-q-init
loop-q-init c = goes_start c.args.text.now c.args.at c.args.kept c.requires

pub returns-in_err-q : goal.returns-in_err-q
returns-in_err-q c =
    rw c.from_residual.ensures record {
      exact = λ n h. goes_none c.args.text.now c.args.at c.args.kept c.loop-q.more c.loop-q.p c.loop-q.invariant c.in_err-q.ensures.exact n h;
      within = tt;
    }

pub keep_one-more-requires : goal.keep_one-more-requires
keep_one-more-requires c = let w = c.in_ok-q.ensures.within in omega (arith, c.loop-q.invariant.few)

pub returns-in-41 : goal.returns-in-41
returns-in-41 c =
    let w = c.in_ok-q.ensures.within in
    let b = sym c.octet_at.ensures ∙ c.in-41.is in
    let i = in-text c.args.text.now c.in_ok-q.q b (omega arith) in
    record {
      exact = λ n h. goes_last c.args.text.now c.args.at c.args.kept c.loop-q.more c.loop-q.p c.loop-q.invariant
          c.in_ok-q.ensures.exact c.keep_one-more.result
          (c.keep_one-more.ensures ∙ ap (with_one c.loop-q.more) c.name_at.ensures) b n h;
      within = (
        omega (arith, c.loop-q.invariant.from),
        omega arith,
        omega (arith, c.loop-q.invariant.few, ap (λ (m : Kept). m.count) c.keep_one-more.ensures),
      );
    }

pub returns-in_default : goal.returns-in_default
returns-in_default c =
    record {
      exact = λ n h. goes-wrong c.args.text.now c.args.at c.args.kept c.loop-q.more c.loop-q.p c.loop-q.invariant
          c.in_ok-q.ensures.exact (λ e. omega arith) (λ e. omega arith) n h;
      within = tt;
    }

pub loop-q-preserved : goal.loop-q-preserved
loop-q-preserved c =
    let w = c.in_ok-q.ensures.within in
    goes_on c.args.text.now c.args.at c.args.kept c.loop-q.more c.loop-q.p c.loop-q.invariant
    c.in_ok-q.ensures.exact c.keep_one-more.result
    (c.keep_one-more.ensures ∙ ap (with_one c.loop-q.more) c.name_at.ensures) (omega arith)
    (sym c.octet_at.ensures ∙ c.in-32.is)
