-- The value is read into 64 octets; one that is longer is no name, and any other is at their front.
use mathlib.Core.Path.{ap, ◌∙◌}
use native.Mathlib.Omega.{arith}
use Prim.Native.Nat.{◌<◌}
use lib.ListN.{length, replicate}
use Rattle.model.specs.Reading.{astring_at}
use Rattle.model.specs.Listing.{lend_name}
use Rattle.octets.specs.Values.{value_of}
use Rattle.read_filters.proofs.Places.{front, too_long}
use Rattle.read_filters.proofs.mailboxes.name_at.Goals as goal

pub returns-then-len-gt64 : goal.returns-then-len-gt64
returns-then-len-gt64 c =
    let l : 64 < length (value_of (astring_at c.args.text.now c.args.at)) = omega (arith, c.value_of-len.ensures.long) in c.stored.ensures ∙ too_long (value_of (astring_at c.args.text.now c.args.at)) l

pub returns : goal.returns
returns c =
    c.stored-2.ensures ∙ ap lend_name (front (replicate 64 0) (value_of (astring_at c.args.text.now c.args.at)) c.value_of-len.new.out c.value_of-len.result c.value_of-len.ensures.long c.value_of-len.ensures.is (omega arith))
