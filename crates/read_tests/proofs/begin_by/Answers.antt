-- `begin_by`: what stands behind a word that is not supported says where the key ends, and nothing of it is kept. Assumes nothing.
use borrow.Author.Rules.{rules}
use Rattle.read_tests.proofs.begin_by.Goals as goal

pub returns-in_ok-argument_at-in-Unsupported : goal.returns-in_ok-argument_at-in-Unsupported
returns-in_ok-argument_at-in-Unsupported c = record { within = search rules; exact = search rules }
