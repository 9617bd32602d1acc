-- `save` meets its contract: the parts one after another. Assumes nothing.
use Rattle.state_words.proofs.Paths.{saved-all}
use Rattle.state_words.proofs.save.Goals as goal

pub returns : goal.returns
returns c =
    saved-all _ _ c.objective_words-objective.ensures c.progress_words-position.ensures c.order_words-order.ensures c.put_from.ensures
    c.put_from-2.ensures c.put_from-3.ensures c.put_search.ensures
