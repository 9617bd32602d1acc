-- A reply is kept: the part of `receive` (Population) that does not touch the search.
use Rattle.std.specs.Prelude.{ℕ, List}
use Rattle.matrix.specs.declared.Pair.{Pair}
use Rattle.subject.specs.declared.Sums.{Sums}
use Rattle.work.specs.Work.{block}
use Rattle.cache.specs.Cache.{Cache, insert}
use Rattle.search.specs.Subjects as B
use Rattle.search.specs.declared.Tally.{Tally}
use Rattle.search.specs.declared.Fit.{Fit}
use Rattle.population.specs.Kept.{cache_of, order_rows}
use Rattle.population.specs.Population.{rows_of}
use Rattle.population.specs.declared.answers.Kept.{Kept}

-- the kept evaluations, and the tally with their rows
pub record KeptWith : Type 0 where
  pub kept : Cache
  pub tally : Tally

unfoldable pub keep : Fit → List ℕ → ℕ → Tally → Pair → Sums → Cache → List ℕ → KeptWith
keep fit counts subject tally eta sums kept work =
    let rows = rows_of counts subject in
    let after = insert kept.words fit.k kept.order (B.key_of fit subject eta) (B.terms_of sums) rows work (block rows 3) in
    record { kept = after; tally = record { calls = tally.calls; cached_rows = record { 0 = order_rows after.order } } }

abbrev pub kept_with : Kept → List ℕ → KeptWith
kept_with r cache = record { kept = cache_of cache r.order; tally = r.tally }
