-- `put_listing`: the lines of an order that is the listing's. Assumes nothing.
use Rattle.model.specs.Memory.{boxes}
use Rattle.model.specs.Listing.{listing_line}
use Rattle.line_put.specs.Writes.{writes_as}
use Rattle.line_listing.specs.Telling.{listing-is}
use lib.ListN.{length}
use Rattle.line_listing.proofs.put_listing.Goals as goal

pub returns-clause-put : goal.returns-clause-put
returns-clause-put c = λ m s wanted h v o t. writes_as (c.put_lines.ensures.put (listing_line m s wanted) (boxes m) h v o.low t) (listing-is m s wanted _ (length c.args.order.now) o.order)
