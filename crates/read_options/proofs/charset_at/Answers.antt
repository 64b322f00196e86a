-- `charset_at`: the string that was read is the charset. Assumes nothing.
use Rattle.read_options.proofs.Naming.{charset-found, charset_missing}
use Rattle.read_options.proofs.charset_at.Goals as goal

pub returns-in_err-end : goal.returns-in_err-end
returns-in_err-end c = rw c.from_residual.ensures record { exact = charset_missing c.args.text.now c.args.at c.in_err-end.ensures.exact; within = tt }

pub returns : goal.returns
returns c = record { exact = charset-found c.args.text.now c.args.at c.in_ok-end.ensures.exact c.is_known.ensures; within = c.in_ok-end.ensures.within }
