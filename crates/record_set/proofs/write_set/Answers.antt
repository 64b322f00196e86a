-- `write_set`: a command of class 1 ends, and the listing and the tagged line are put behind what it owed; the groups that are asked for go into the view that it left. Assumes nothing.
use Rattle.std.proofs.Common.{ap, ◌∙◌, arith, length, Ok}
use Rattle.model.specs.Memory.{both_rights}
use Rattle.model.specs.Listing.{watching}
use Rattle.model.specs.declared.Counts.{Counts}
use Rattle.model.specs.declared.Mailbox.{Mailbox}
use Rattle.record_set.specs.Setting.{set_comes, asked-view}
use Rattle.record_set.proofs.write_set.Goals as goal

pub returns : goal.returns
returns c =
    λ m p wanted gs lent law sel is first asks noted begins fits.
    set_comes m c.args.work.now.text.now p wanted gs is first law
    (let x = ap length lent.queue in let y = ap (λ (k : Counts). k.filled) lent.counts in omega arith)
    c.args.words.now c.args.counts c.args.s.now c.args.queue.now lent c.has_rights.result c.args.x.now.uidnext _ (c.has_rights.ensures ∙ ap both_rights sel) (ap (λ (x : Mailbox). x.uidnext) sel)
    c.end_command-left.result c.end_command-left.ensures begins
    (c.put_work-end.ensures.0 m (watching m.session gs) wanted noted) _
    (asked-view c.args.s.now c.args.asked.now c.end_command-left.result.session gs asks) _ (ap Ok c.unmoved.ensures)
