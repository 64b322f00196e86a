-- `misplaced_from`: the loop keeps that the sum counts the misplaced pairs before i. Assumes nothing.
use Rattle.std.proofs.Common.{◌≡◌, ◌≤◌}
use Rattle.lawful_mailboxes.specs.Neighbours.{misplaced_up}
use Rattle.lawful_mailboxes.proofs.naming.misplaced_from.Given as goal

abbrev pub invariant-loop-i : goal.invariant-loop-i
invariant-loop-i l = (l.sum ≤ l.i) × (l.sum ≡ misplaced_up l.octets l.at l.i)
