-- Each turn mixes in one word more of the row.
use Rattle.std.proofs.Common.{◌≡◌}
use Rattle.table_mailboxes.specs.Columns.{block}
use Rattle.lawful_digests.specs.Digest.{mixed_up}
use Rattle.lawful_digests.proofs.digest_of.Given as goal

abbrev pub invariant-loop-i : goal.invariant-loop-i
invariant-loop-i l = l.d ≡ mixed_up (block l.names l.k) l.i
