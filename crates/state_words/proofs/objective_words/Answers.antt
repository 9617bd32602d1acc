-- `objective_words` meets its contract: each exit by its law. Assumes nothing.
use Rattle.state_words.specs.SessionWords.{flag}
use Rattle.state_words.proofs.Paths.{bit_is, objective_own, objective_override}
use Rattle.state_words.proofs.objective_words.Goals as goal

pub returns-in-None : goal.returns-in-None
unfolding flag
returns-in-None c =
    objective_own _ _ (bit_is _ c.from-awaits_word.ensures) c.to_word-theta0.ensures c.to_word-theta1.ensures
    c.to_word-omega.ensures c.in-None.is

pub returns-in-Some : goal.returns-in-Some
unfolding flag
returns-in-Some c =
    objective_override _ _ (bit_is _ c.from-awaits_word.ensures) c.to_word-theta0.ensures
    c.to_word-theta1.ensures c.to_word-omega.ensures c.in-Some.is c.to_word.ensures
