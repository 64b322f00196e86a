-- `put_news`: EXISTS, and behind it a FETCH of each that is new, where one is asked. Assumes nothing.
use Rattle.line_put.specs.Writes.{◌then◌, writes_as}
use Rattle.line_message.specs.Whole.{news_bare, news-full}
use Rattle.line_message.proofs.put_news.Goals as goal

pub returns-then-shows-clause-put : goal.returns-then-shows-clause-put
returns-then-shows-clause-put c =
    writes_as (◌then◌ c.put_exists.ensures.put c.put_part.ensures.put)
    (news-full c.args.told.0 c.args.shows _ _ _ c.staying-has.ensures.0 c.unseen-new.ensures.0 c.if-shows.true)

pub returns-else-shows-clause-put : goal.returns-else-shows-clause-put
returns-else-shows-clause-put c = writes_as c.put_exists.ensures.put (news_bare c.args.told.0 c.args.shows _ _ _ c.staying-has.ensures.0 c.unseen-new.ensures.0 c.if-shows.false)
