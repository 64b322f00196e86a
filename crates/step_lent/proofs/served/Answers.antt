-- `served`: the columns that were laid out are those of the rows that the host lends. Assumes nothing.
use lib.ListN.{length, take}
use Rattle.model.specs.declared.Mailbox.{Mailbox}
use Rattle.lent_rows.specs.Rows.{lent_loaded, lent_first}
use Rattle.step.specs.Served.{Seen}
use Rattle.step_lent.proofs.served.Goals as goal

pub decide-requires : goal.decide-requires
decide-requires c =
    let rows = c.args.rows.now in
    (take 64 rows, record { lends = (rows, lent_first rows rows (lent_loaded rows)); stands = c.lay.ensures })

pub returns : goal.returns
returns c =
    let rows = c.args.rows.now in
    λ t w. c.decide.ensures (take 64 rows) (record { lends = (rows, lent_first rows rows (lent_loaded rows)); stands = c.lay.ensures }) t (lent_first rows t w)
