-- `count`: without a state, the mailbox's entries are those that exist. Assumes nothing.
use Rattle.std.proofs.Common.{◌∙◌, sym}
use Rattle.table_messages.specs.Words.{messages}
use Rattle.table_messages.specs.Counted.{existing-count}
use Rattle.table_messages.proofs.count.Goals as goal

pub returns-then-t-eq0 : goal.returns-then-t-eq0
returns-then-t-eq0 c = c.tally_all-t.ensures c.if-t-eq0.true ∙ sym (existing-count c.args.mailbox (messages c.args.words.now))

pub returns-else-t-eq0 : goal.returns-else-t-eq0
returns-else-t-eq0 c = c.count_each.ensures ∙ sym (existing-count c.args.mailbox (messages c.args.words.now))
