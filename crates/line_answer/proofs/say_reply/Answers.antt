-- `say_reply`: it is written, if it leaves the last 64 octets free, or nothing is. Assumes nothing.
use native.Mathlib.Omega.{arith}
use Rattle.model.specs.Commands.{tag_of}
use Rattle.model.specs.Lines.{answer}
use Rattle.model.specs.Rendered.{render_some}
use Rattle.read_commands.specs.Judging.{word_of}
use Rattle.line_answer.specs.Sizes.{whole-fits, whole_not}
use mathlib.Core.Path.{refl}
use Rattle.line_answer.proofs.say_reply.Goals as goal

pub returns-then-end-limit : goal.returns-then-end-limit
returns-then-end-limit c = whole-fits c.write-end.ensures c.write-end-then-end-limit.ensures (omega arith) (omega arith)

pub returns : goal.returns
returns c = whole_not c.write-end.ensures (render_some (answer (tag_of c.args.text.now) (word_of c.args.verb) c.args.reply)) refl (omega arith)
