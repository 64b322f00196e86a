-- A name as it is kept. Assumes nothing.
use Rattle.std.specs.Prelude.{Bool, ◌&&◌, ℕ, length, take, drop}
use Rattle.model.specs.Lists.{same}
use Rattle.model.specs.Names.{Name, valid, fold}
use Rattle.model.specs.Memory.{stored}
use Rattle.model.specs.Lawful.{zeros}
use Rattle.model.specs.declared.LentName.{LentName}

-- its length, and its octets at the front of 64
abbrev pub kept_name : Name → LentName
kept_name n = record { len = length n; octets = stored n }

-- of octets the first are the name: it is valid and folded, and the octets behind it are zero
abbrev pub name_by : ℕ → Name → Bool
name_by len o = valid (take len o) && (same (fold (take len o)) (take len o) && zeros (drop len o))
