-- `kept`: the name, and what is left of 64 zeros. Assumes nothing.
use Rattle.std.proofs.lemmas.List.{drop-replicate}
use Rattle.names.proofs.kept.Goals as goal

pub returns : goal.returns
returns c = simp (c.copy_from_slice.ensures.after, drop-replicate)
