-- The way through the code, over plain variables. Assumes nothing.
use Rattle.std.proofs.Common.{◌≡◌, ℕ, List, ap, ◌∙◌}
use Rattle.matrix.specs.declared.Pair.{Pair}
use Rattle.subject.specs.declared.Sums.{Sums}
use Rattle.work.specs.Work.{block}
use Rattle.cache.specs.Cache.{Cache, insert, after}
use Rattle.cache.specs.declared.CacheKey.{CacheKey}
use Rattle.cache.specs.declared.CacheOrder.{CacheOrder}
use Rattle.cache.specs.declared.CachedTerms.{CachedTerms}
use Rattle.search.specs.Subjects as B
use Rattle.search.specs.declared.Tally.{Tally}
use Rattle.search.specs.declared.Fit.{Fit}
use Rattle.population.specs.Kept.{cache_of, order_rows}
use Rattle.population.specs.Population.{rows_of}
use Rattle.population.specs.Answers.{kept_with, keep}

-- o and c are the kept evaluations afterwards, n their rows
pub keeps : (fit : Fit) (counts : List ℕ) (subject : ℕ) (tally : Tally) (eta : Pair) (sums : Sums) (cache : List ℕ) (order : CacheOrder) (work : List ℕ) {rows from n : ℕ} {key : CacheKey}
    {terms : CachedTerms} {o : CacheOrder} {c : List ℕ} → rows ≡ rows_of counts subject → key ≡ B.key_of fit subject eta → from ≡ block rows 3 → terms ≡ B.terms_of sums → after o c ≡ insert cache
    fit.k order key terms rows work from → n ≡ order_rows o → kept_with (record { order = o; tally = record { calls = tally.calls; cached_rows = record { 0 = n } } }) c ≡ keep fit counts subject
    tally eta sums (cache_of cache order) work
unfolding keep
keeps fit counts subject tally eta sums cache order work er ek ef et ei en =
    let k = ei ∙ (λ i. insert cache fit.k order (ek i) (et i) (er i) work ((ef ∙ ap (λ (m : ℕ). block m 3) er) i)) in
    let m = en ∙ ap (λ (x : Cache). order_rows x.order) k in
    λ i. record { kept = k i; tally = record { calls = tally.calls; cached_rows = record { 0 = m i } } }
