-- `put_search` meets its contract: each kind of search by its law. Assumes nothing.
use Rattle.state_words.proofs.Paths.{one_put, two_put}
use Rattle.state_words.proofs.put_search.Goals as goal

pub returns-in-One : goal.returns-in-One
returns-in-One c = one_put _ c.in-One.is c.save-own.ensures c.put.ensures c.put_from.ensures c.put_from-in-One.ensures

pub returns-in-Two : goal.returns-in-Two
returns-in-Two c = two_put _ c.in-Two.is c.save-own-in-Two.ensures c.put-in-Two.ensures c.put_from-in-Two.ensures
