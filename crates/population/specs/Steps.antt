-- Where a step begins; and a request that no kept evaluation answers, for the contracts of the code's own parts.
use Rattle.std.specs.Prelude.{ℕ, List, length, Option}
use Rattle.float64.specs.Pick.{pick}
use Rattle.words.specs.Words.{zeros}
use Rattle.cache.specs.Cache.{Cache}
use Rattle.search.specs.Subjects as B
use Rattle.search.specs.declared.Tally.{Tally}
use Rattle.search.specs.declared.Fit.{Fit}
use Rattle.search.specs.declared.Progress.{Progress}
use Rattle.search.specs.declared.Place.TheVariants.{Subject}
use Rattle.population.specs.Kept.{words}
use Rattle.population.specs.Population.{rows_of, Ended, ended, at_mode, is_over, Whole, whole}
use Rattle.population.specs.Through.{taken}
use Rattle.population.specs.declared.kept_points.Evaluated.{Evaluated}
use Rattle.std.specs.declared.ops.ControlFlow.TheVariants.{Break}
use Rattle.mode.specs.declared.Request.{Request}
use Rattle.matrix.specs.declared.Pair.{Pair}
use Rattle.mode.specs.declared.Request.TheVariants as Wants

-- what is in hand is taken first
abbrev pub whole_from : Fit → List ℕ → Option Evaluated → Progress → Tally → Cache → List ℕ → List ℕ → List ℕ → Whole words
whole_from fit counts hand progress tally kept work warm results =
    let t = taken fit (rows_of counts progress.subject) hand progress work in
    whole t.value tally kept t.work warm results

unfoldable pub unkept : Fit → List ℕ → Progress → Tally → List ℕ → List ℕ → List ℕ → Request Pair → Ended
unkept fit counts progress tally work warm results (Wants.Point eta) = ended (Break (B.ask fit progress tally eta)) work warm results
unkept fit counts progress tally work warm results Wants.Mode = at_mode fit counts progress tally work warm results
unkept fit counts progress tally work warm results (Wants.Refused number) =
    ended (Break (B.refused_by progress tally (B.refusal number (Subject progress.subject)))) work warm results

-- where the turn ends the objective the work words are cleared
unfoldable pub cleared : Ended → Ended
cleared e = ended e.turned (pick (is_over e.turned) (zeros (length e.work)) e.work) e.warm e.results
