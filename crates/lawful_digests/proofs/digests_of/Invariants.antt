-- `digests_of`: the loop keeps that each row before i has its digest. Assumes nothing.
use Rattle.std.proofs.Common.{◌≡◌, ℕ, ◌<◌, length, get_or}
use Rattle.table_mailboxes.specs.Columns.{block}
use Rattle.lawful_digests.specs.Digest.{digest}
use Rattle.lawful_digests.proofs.digests_of.Given as goal

abbrev pub invariant-loop-i : goal.invariant-loop-i
invariant-loop-i l = (length l.digests ≡ 64) × ((k : ℕ) → k < l.i → get_or l.digests k 0 ≡ digest (block l.names k))
