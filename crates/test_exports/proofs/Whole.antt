-- The ways through the exported functions that take lent observations: what their calls answered, put together, is the definition.
use Rattle.std.proofs.Common.{◌≡◌, ℕ, ◌-◌, List, take, drop, ap, ◌∙◌}
use Rattle.likelihood.specs.declared.population_focei.Observation.{Observation}
use Rattle.subject.specs.Subject.{Evaluating, evaluating, add_observations, finish, Evaluation}
use Rattle.test_exports.specs.Evaluations.{Answered, answered, evaluated, beginning, told, evaluate_from, evaluate}
use Rattle.test_exports.specs.declared.evaluations.Begun.{Begun}
use Rattle.test_exports.specs.declared.evaluations.Question.{Question}

pub as_defined : (observations : List Observation) (question : Question) (reply work out : List ℕ) (b : Begun) (e : Evaluation) (work' : List ℕ) (r : ℕ) (out' : List ℕ)
    → b ≡ beginning question reply
    → evaluating e work' ≡ add_observations b.trial reply (take (b.to - b.from) (drop b.from observations)) (evaluating b.evaluation work)
    → answered r out' ≡ told (finish e) out
    → evaluated r work' out' ≡ evaluate observations question reply work out
unfolding evaluate evaluate_from
as_defined observations question reply work out b e work' r out' begins adds tells =
    ap (λ (t : Answered). evaluated t.number work' t.out) tells
    ∙ ap (λ (x : Evaluating). evaluated (told (finish x.evaluation) out).number x.work (told (finish x.evaluation) out).out) adds
    ∙ ap (λ (y : Begun). evaluate_from observations y reply work out) begins
