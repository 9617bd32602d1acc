-- `keep` meets its contract. Assumes nothing.
use Rattle.population.proofs.AnswersPaths.{keeps}
use Rattle.population.proofs.answers.keep.Goals as goal

pub returns : goal.returns
returns c =
    keeps _ _ _ _ _ _ _ _ _ c.rows_of-rows.ensures c.key_of-key.ensures c.block-trial.ensures c.terms_of-terms.ensures c.insert-kept.ensures
    c.cached_rows.ensures
