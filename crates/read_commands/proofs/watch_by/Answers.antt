-- `watch_by`: no other command than NOTIFY sets a session. Assumes nothing.
use Rattle.read_commands.proofs.Wholes.{left_watched}
use Rattle.read_commands.proofs.watch_by.Goals as goal

pub returns-in-Esearch : goal.returns-in-Esearch
returns-in-Esearch c = left_watched c.args.session c.args.text.now c.args.at c.in-Esearch.is
