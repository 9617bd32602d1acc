-- What the exported evaluations answer and write.
use Rattle.std.specs.Prelude.{ℕ, ◌-◌, List, length, take, drop, slice_set, to_bits, Float, Err, Ok}
use Rattle.std.specs.Float.{binary64}
use Rattle.float64.specs.Answer.{Answer, through}
use Rattle.matrix.specs.Matrix.{pair, at}
use Rattle.matrix.specs.declared.Pair.{Pair}
use Rattle.likelihood.specs.declared.population_focei.Observation.{Observation}
use Rattle.subject.specs.Observations.{Verdict, verdict, first_check, check_observations, Check}
use Rattle.subject.specs.Observations.Verdict.{passes, fails, fails_at}
use Rattle.subject.specs.Subject.{additive_sd, begin, next, evaluating, add_observations, finish, Evaluation}
use Rattle.subject.specs.declared.Sums.{Sums}
use Rattle.test_exports.specs.declared.evaluations.Question.{Question}
use Rattle.test_exports.specs.declared.evaluations.Begun.{Begun}
use Rattle.subject.specs.declared.EvaluationError.TheVariants.{Refused, RefusedAt}

-- ---- individual values

unfoldable pub pair_of : List Float → Pair
pair_of floats = record { first = at floats 0; second = at floats 1 }

unfoldable pub floats_of : Answer Pair → Answer (List Float)
floats_of values = through (λ p. pair p.first p.second) values

-- ---- an answer with the words that it wrote

pub record Answered : Type 0 where
  pub number : ℕ
  pub out : List ℕ

abbrev pub answered : ℕ → List ℕ → Answered
answered number out = record { number = number; out = out }

-- and the work words
pub record Evaluated : Type 0 where
  pub number : ℕ
  pub work : List ℕ
  pub out : List ℕ

abbrev pub evaluated : ℕ → List ℕ → List ℕ → Evaluated
evaluated number work out = record { number = number; work = work; out = out }

-- ---- a subject's evaluation

unfoldable pub beginning : Question → List ℕ → Begun
beginning q reply = record {
  from = q.from;
  to = q.to;
  evaluation = begin reply q.width q.effects q.output_budget;
  trial = record {
    individual = record { first = q.individual; second = q.individual_2 };
    additive_sd = additive_sd q.has_additive q.additive;
    width = q.width;
    effects = q.effects;
    block = q.block;
  };
}

unfoldable pub sums_written : Sums → List ℕ → List ℕ
sums_written sums out =
    let put : List ℕ → ℕ → Float → List ℕ = λ w i x. slice_set w i (to_bits binary64 x) in
    put (put (put (put
    (put (put (put out 0 sums.nll) 1 sums.score.first) 2 sums.score.second)
    3 sums.information.m00) 4 sums.information.m01) 5 sums.information.m10) 6 sums.information.m11

-- 0 and the sums' words; or the number, and in word 7 one more than the observation's number, 0 where it is of none
unfoldable pub told : Evaluation → List ℕ → Answered
told (Ok sums) out = answered 0 (sums_written sums out)
told (Err (Refused number)) out = answered number (slice_set out 7 0)
told (Err (RefusedAt number observation)) out = answered number (slice_set out 7 (next observation))

-- from the observations of the subject
unfoldable pub evaluate_from : List Observation → Begun → List ℕ → List ℕ → List ℕ → Evaluated
evaluate_from observations b reply work out =
    let x = add_observations b.trial reply (take (b.to - b.from) (drop b.from observations)) (evaluating b.evaluation work) in
    let t = told (finish x.evaluation) out in
    evaluated t.number x.work t.out

unfoldable pub evaluate : List Observation → Question → List ℕ → List ℕ → List ℕ → Evaluated
evaluate observations question reply work out = evaluate_from observations (beginning question reply) reply work out

-- ---- the check of every observation

-- 0; or its number, and where it carries a place the place's words
abbrev pub told_verdict : Verdict → List ℕ → Answered
told_verdict passes out = answered 0 out
told_verdict (fails number) out = answered number out
told_verdict (fails_at number place) out = answered number (slice_set (slice_set out 0 place.subject) 1 place.observation)

unfoldable pub told_check : Check → List ℕ → Answered
told_check check out = told_verdict (verdict check) out

unfoldable pub check_all : List Observation → ℕ → List ℕ → List ℕ → Answered
check_all observations width counts out =
    told_check (check_observations width counts (take (length observations - 0) (drop 0 observations)) first_check) out
