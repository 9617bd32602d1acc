-- What is claimed of a subject's evaluation, whatever the reply, the observations and the work words.
use Rattle.std.specs.Prelude.{◌≡◌, ℕ, ◌+◌, ◌*◌, ◌^◌, ◌<◌, ◌≤◌, false, ◌⊎◌, List, [], ◌∷◌, length, ◌==◌, slice_index, Err, Ok}
use Rattle.float64.specs.Pick.{pick}
use Rattle.cache.specs.Cache.{row_words}
use Rattle.likelihood.specs.declared.population_focei.Observation.{Observation}
use Rattle.subject.specs.Subject.{Evaluating, evaluating, begin, add_observations, has_nonfinite_sum, finish}
use Rattle.subject.specs.declared.Trial.{Trial}
use Rattle.subject.specs.declared.Sums.{Sums}
use Rattle.subject.specs.declared.EvaluationError.TheVariants.{Refused, RefusedAt}

-- the whole of it: begun, its observations added one after the other
abbrev pub evaluated : Trial → ℕ → List ℕ → List Observation → List ℕ → Evaluating
evaluated trial budget reply observations work =
    add_observations trial reply observations (evaluating (begin reply trial.width trial.effects budget) work)

-- the rows of a reply, for one observation after the other: prediction, time and side (0 pre, 1 post) of its row
unfoldable pub reply_rows : ℕ → ℕ → List ℕ → List Observation → List ℕ
reply_rows width effects reply [] = []
reply_rows width effects reply (o ∷ os) =
    let at = o.row * (2 + width * (1 + effects)) in
    slice_index reply (at + 2 + o.output) ∷ slice_index reply at ∷ pick (slice_index reply (at + 1) == 0) 0 1
    ∷ reply_rows width effects reply os

pub record Evaluates (trial : Trial) (budget : ℕ) (reply : List ℕ) (observations : List Observation) (work : List ℕ) : Type 0 where
  -- the sums that it ends with are finite
  pub sums : (s : Sums) → finish (evaluated trial budget reply observations work).evaluation ≡ Ok s → has_nonfinite_sum s ≡ false
  -- or it ends with 8, 9 or 12, without an observation
  pub numbers : (n : ℕ) → finish (evaluated trial budget reply observations work).evaluation ≡ Err (Refused n)
      → (n ≡ 8) ⊎ ((n ≡ 9) ⊎ (n ≡ 12))
  -- or with 10, 11 or 12 at one of the observations
  pub places : (n i : ℕ) → finish (evaluated trial budget reply observations work).evaluation ≡ Err (RefusedAt n i)
      → ((n ≡ 10) ⊎ ((n ≡ 11) ⊎ (n ≡ 12))) × (i < length observations)
  -- where it comes to its end, the trial block has the reply's rows
  pub rows : (s : Sums) → finish (evaluated trial budget reply observations work).evaluation ≡ Ok s
      → trial.block + row_words * length observations ≤ length work → (j : ℕ) → j < row_words * length observations
      → slice_index (evaluated trial budget reply observations work).work (trial.block + j)
      ≡ slice_index (reply_rows trial.width trial.effects reply observations) j
  -- and of the work words only those of the trial block have changed
  pub around : (j : ℕ) → (j < trial.block) ⊎ (trial.block + row_words * length observations ≤ j)
      → slice_index (evaluated trial budget reply observations work).work j ≡ slice_index work j

abbrev pub EveryEvaluation : Type 0
EveryEvaluation = (trial : Trial) (budget : ℕ) (reply : List ℕ) (observations : List Observation) (work : List ℕ)
    → length observations < 2 ^ 64 → Evaluates trial budget reply observations work
