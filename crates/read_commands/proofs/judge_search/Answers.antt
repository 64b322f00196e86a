-- `judge_search`: what was read is answered as the command is. Assumes nothing.
use Rattle.std.proofs.Common.{ap, ◌∙◌}
use Rattle.read_commands.specs.Judging.{searched}
use Rattle.read_commands.proofs.Wholes.{search_is}
use Rattle.read_commands.proofs.judge_search.Goals as goal

pub returns : goal.returns
returns c =
    record {
      exact = c.search_reply.ensures ∙ ap (searched c.args.l c.args.selected) c.search_at.ensures.exact ∙ search_is c.args.l c.args.selected c.args.text.now c.args.at;
      cells = c.search_at.ensures.cells;
    }
