-- `names_row`: what it reads of a row is right for every fuel above the octets left, which fall at each call. Assumes nothing.
use native.Mathlib.Omega.{arith}
use mathlib.Core.Path.{sym, ◌∙◌}
use Prim.Native.Nat.{◌-◌}
use Rattle.read_filters.proofs.Rows.{row_none, row_more, row_last, row-wrong}
use Rattle.octets.specs.Rows.{in-text}
use Rattle.read_filters.proofs.mailboxes.+names_row.Goals as goal

pub returns-in_err-p : goal.returns-in_err-p
returns-in_err-p t c =
    rw c.from_residual.ensures record { exact = λ n h. row_none c.args.text.now c.args.at n (omega arith) c.in_err-p.ensures.exact; within = tt }

pub returns-in_err-others-in-32 : goal.returns-in_err-others-in-32
returns-in_err-others-in-32 t c =
    let w = c.in_ok-p.ensures.within in
    let b = sym c.octet_at.ensures ∙ c.in-32.is in
    let i = in-text c.args.text.now c.in_ok-p.p b (omega arith) in
    rw c.from_residual-in_err-others-in-32.ensures record {
      exact = λ n h. row_more c.args.text.now c.args.at n (omega arith) c.in_ok-p.ensures.exact b (c.in_err-others-in-32.ensures.exact (n - 1) (omega arith));
      within = tt;
    }

pub returns-in_ok-others-in-32 : goal.returns-in_ok-others-in-32
returns-in_ok-others-in-32 t c =
    let w = c.in_ok-p.ensures.within in
    let b = sym c.octet_at.ensures ∙ c.in-32.is in
    let i = in-text c.args.text.now c.in_ok-p.p b (omega arith) in
    record {
      exact = λ n h. row_more c.args.text.now c.args.at n (omega arith) c.in_ok-p.ensures.exact b (c.in_ok-others-in-32.ensures.exact (n - 1) (omega arith));
      within = omega (arith, c.in_ok-others-in-32.ensures.within);
    }

pub returns-in-41 : goal.returns-in-41
returns-in-41 t c =
    let w = c.in_ok-p.ensures.within in
    let b = sym c.octet_at.ensures ∙ c.in-41.is in
    let i = in-text c.args.text.now c.in_ok-p.p b (omega arith) in
    record { exact = λ n h. row_last c.args.text.now c.args.at n (omega arith) c.in_ok-p.ensures.exact b; within = omega arith }

pub returns-in_default : goal.returns-in_default
returns-in_default t c =
    record { exact = λ n h. row-wrong c.args.text.now c.args.at n (omega arith) c.in_ok-p.ensures.exact (λ e. omega arith) (λ e. omega arith); within = tt }
