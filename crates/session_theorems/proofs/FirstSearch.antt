-- What holds of a search that has asked nothing holds of a subject's first one, whatever the number of effects. Assumes nothing.
use Prim.Native.Nat.{ℕ}
use lib.Dec.{eqb}
use Rattle.float64.specs.Pick.{both}
use Rattle.mode.specs.Rules.{start}
use Rattle.mode.specs.declared.population_focei.Search.{Search}
use Rattle.mode_2d.specs.Rules as R2
use Rattle.mode_2d.specs.declared.population_focei_2d.Search2.{Search2}
use Rattle.search.specs.Subjects.{one_of, two_of, first_search}
use Rattle.search.specs.declared.SubjectSearch.{SubjectSearch}

pub first_one : (P : Search → Type 0) (effects : ℕ) → P start → P (one_of (first_search effects))
unfolding first_search
first_one P effects h = both (λ (x : SubjectSearch). P (one_of x)) (eqb effects 2) h h

pub first_two : (P : Search2 → Type 0) (effects : ℕ) → P R2.start → P (two_of (first_search effects))
unfolding first_search
first_two P effects h = both (λ (x : SubjectSearch). P (two_of x)) (eqb effects 2) h h
