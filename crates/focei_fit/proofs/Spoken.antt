-- The program's text is never empty: it begins with an `O` line or is an `R` line. Assumes nothing.
use Rattle.std.specs.Prelude.{Err, Ok, Result}
use mathlib.Core.List.{List}
use Prim.Native.Nat.{ℕ, ◌<◌}
use native.Mathlib.Omega.{arith}
use lib.Ieee.{Float}
use lib.ListN.{length}
use Rattle.float64.specs.Answer.{Answer, given, refused}
use Rattle.search.specs.declared.Place.{Place}
use Rattle.search.specs.declared.Place.TheVariants.{Nowhere}
use Rattle.search.specs.declared.Step.{Step}
use Rattle.search.specs.declared.Step.TheVariants.{Asked, Finished, Refused}
use Rattle.search.specs.declared.Tally.{Tally}
use Rattle.session.specs.Calls.{Setting, shrinkage}
use Rattle.session.specs.declared.State.{State}
use Rattle.focei_records.specs.Records.{cohort}
use Rattle.focei_text.specs.Report.{line, objective_line, finished, refusal_line}
use Rattle.focei_fit.specs.Output.{ended, end_of, when_opened, fitted, lent, when_records, output}
use Rattle.focei_fit.specs.Claim.{NotEmpty}
use Rattle.search.specs.declared.Refusal.{Refusal}

-- ---- the first line has its letter
refusal : (number : ℕ) (place : Place) → 0 < length (refusal_line number place)
unfolding refusal_line line
refusal number place = omega arith

end : (x : Float) (n : ℕ) (y : Float) (counts results : List ℕ) → 0 < length (finished x n y counts results)
unfolding finished objective_line line
end x n y counts results = omega arith

-- ---- from the end back to the beginning
at_end : (counts : List ℕ) (state : State) (tally : Tally) (results : List ℕ) (step : Step) → 0 < length (ended counts state tally results step)
unfolding ended
at_end counts state tally results (Asked eta individual) = refusal 19 Nowhere
at_end counts state tally results (Finished x) = end x tally.calls.0 (shrinkage state (length counts)) counts results
at_end counts state tally results (Refused why) = refusal why.number why.place

opened : (input counts observations results : List ℕ) (s : Setting) (o : Result State Refusal) → 0 < length (when_opened input counts observations results s o)
unfolding when_opened end_of
opened input counts observations results s (Ok state) = at_end _ _ _ _ _
opened input counts observations results s (Err e) = refusal e.number e.place

of_records : (input : List ℕ) (c : Answer ℕ) → 0 < length (when_records input c)
unfolding when_records lent fitted
of_records input (given n) = opened input _ _ _ _ _
of_records input (refused number) = refusal number Nowhere

pub spoken : NotEmpty
unfolding output
spoken input = of_records input (cohort input)
