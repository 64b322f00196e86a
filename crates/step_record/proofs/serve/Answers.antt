-- `serve`: what was found has the id that the record's kind needs, in every memory with these columns. Assumes nothing.
use Rattle.step_record.proofs.serve.Goals as goal

pub returns : goal.returns
returns c =
    λ m lends law len stands. c.dispatch.ensures m lends law len (rw (← c.sought_id-id.ensures) (c.found-place.ensures m stands)) stands.laid
