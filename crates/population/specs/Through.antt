-- The way of a search through kept evaluations: as long as the point that it wants is kept, it goes on with what is kept of it.
use Rattle.std.specs.Prelude.{◌≡◌, ◌≢◌, ℕ, zero, suc, Bool, true, List, ◌==◌, None, Option, Some}
use Rattle.float64.specs.Pick.{pick}
use Rattle.matrix.specs.declared.Pair.{Pair}
use Rattle.subject.specs.declared.Sums.{Sums}
use Rattle.mode.specs.Rules.{advance}
use Rattle.mode.specs.declared.population_focei.Settings.{Settings}
use Rattle.mode.specs.declared.population_focei.Search.{Search}
use Rattle.mode_2d.specs.Rules as R2
use Rattle.mode_2d.specs.declared.population_focei_2d.Settings2.{Settings2}
use Rattle.mode_2d.specs.declared.population_focei_2d.Search2.{Search2}
use Rattle.work.specs.Work.{block, move_rows}
use Rattle.cache.specs.Cache.{Cache, find, terms_of, copied}
use Rattle.search.specs.Subjects as B
use Rattle.search.specs.declared.Fit.{Fit}
use Rattle.search.specs.declared.Progress.{Progress}
use Rattle.search.specs.declared.SubjectSearch.{SubjectSearch}
use Rattle.search.specs.declared.SubjectSearch.TheVariants.{One, Two}
use Rattle.population.specs.Population.{Worked, worked, take}
use Rattle.population.specs.declared.kept_points.Reached.{Reached}
use Rattle.population.specs.declared.kept_points.Evaluated.{Evaluated}
use Rattle.mode.specs.declared.Request.{Request}
use Rattle.mode.specs.declared.Request.TheVariants as Wants

-- ---- what is kept

-- a point that is wanted and kept, with its slot
pub data KeptPoint : Type 0 where
  kept_in : Pair → ℕ → KeptPoint
  not_kept : KeptPoint

abbrev pub kept_at : Pair → Option ℕ → KeptPoint
kept_at eta (Some slot) = kept_in eta slot
kept_at eta None = not_kept

abbrev pub found_at : Fit → ℕ → Cache → Pair → Option ℕ
found_at fit subject kept eta = find kept.words fit.k kept.order (B.key_of fit subject eta)

unfoldable pub kept_point : Fit → ℕ → Cache → Request Pair → KeptPoint
kept_point fit subject kept (Wants.Point eta) = kept_at eta (found_at fit subject kept eta)
kept_point fit subject kept Wants.Mode = not_kept
kept_point fit subject kept (Wants.Refused number) = not_kept

-- its sums, and the work words with its rows in the trial block
unfoldable pub recalled : ℕ → ℕ → ℕ → List ℕ → List ℕ → Worked Sums
recalled k slot rows cache work = worked (B.sums_of (terms_of cache k slot)) (copied cache k slot rows work (block rows 3))

-- ---- what is in hand is taken; with nothing in hand no reply is awaited any more

-- the search as one with so many effects
unfoldable pub as_with : ℕ → SubjectSearch → SubjectSearch
as_with effects x = pick (effects == 2) (Two (B.two_of x)) (One (B.one_of x))

unfoldable pub taken : Fit → ℕ → Option Evaluated → Progress → List ℕ → Worked Progress
taken fit rows None progress work = worked (B.with_search progress (as_with fit.effects progress.search)) work
taken fit rows (Some e) progress work = take fit rows progress e.eta e.sums work

-- the same, of the search alone
unfoldable pub taken1 : Fit → Settings → ℕ → Option Evaluated → Search → List ℕ → Worked Search
taken1 fit s rows None x work = worked x work
taken1 fit s rows (Some e) x work =
    let c = B.conditional1 fit e.eta e.sums in
    worked (advance s x c) (move_rows rows (B.sources1 x c) work)

unfoldable pub taken2 : Settings2 → ℕ → Option Evaluated → Search2 → List ℕ → Worked Search2
taken2 s rows None x work = worked x work
taken2 s rows (Some e) x work =
    let c = B.conditional2 e.eta e.sums in
    let after = R2.advance s x c in
    worked after (move_rows rows (B.sources2 s x after c) work)

-- ---- the way

-- no request is left, or no point is wanted
unfoldable pub is_over : ℕ → Request Pair → Bool
is_over n (Wants.Point eta) = n == 0
is_over n Wants.Mode = true
is_over n (Wants.Refused number) = true

-- what is found of a point, unless it is over
unfoldable pub found_unless : Bool → Fit → ℕ → Cache → Pair → Option ℕ
found_unless over fit subject kept eta = pick over None (found_at fit subject kept eta)

-- the point that is wanted; zero where none is
unfoldable pub eta_of : Request Pair → Pair
eta_of (Wants.Point eta) = eta
eta_of Wants.Mode = R2.of R2.nought R2.nought
eta_of (Wants.Refused number) = R2.of R2.nought R2.nought

abbrev pub reached : Fit → Progress → ℕ → Reached
reached fit progress left = record { progress = progress; left = left; wanted = B.wanted_by fit progress }

-- a kept point is gone on with
unfoldable pub passed : Fit → ℕ → Cache → ℕ → Progress → List ℕ → (Progress → List ℕ → Worked Reached) → KeptPoint → Worked Reached
passed fit rows kept left progress work go (kept_in eta slot) =
    let r = recalled fit.k slot rows kept.words work in
    let t = take fit rows progress eta r.value r.work in
    go t.value t.work
passed fit rows kept left progress work go not_kept = worked (reached fit progress left) work

-- through at most n kept evaluations
unfoldable pub through : Fit → ℕ → Cache → ℕ → Progress → List ℕ → Worked Reached
through fit rows kept zero progress work = worked (reached fit progress zero) work
through fit rows kept (suc n) progress work =
    passed fit rows kept (suc n) progress work (λ p w. through fit rows kept n p w)
    (kept_point fit progress.subject kept (B.wanted_by fit progress))

-- with what is in hand first
unfoldable pub through_from : Fit → ℕ → Cache → ℕ → Option Evaluated → Progress → List ℕ → Worked Reached
through_from fit rows kept n hand progress work =
    let t = taken fit rows hand progress work in
    through fit rows kept n t.value t.work

-- ---- a search of either kind alone

-- searches X by settings S take what is in hand, and want, what they do as the objective's
pub record Alike (S X : Type 0) (is_of : S → Fit → Progress → Type 0) (own : SubjectSearch → X)
    (among : X → SubjectSearch) (alone : S → Fit → ℕ → Option Evaluated → X → List ℕ → Worked X) (wants : S → X → Request Pair)
    : Type 0 where
  pub takes : (s : S) (fit : Fit) (p : Progress) → is_of s fit p → (rows : ℕ) (hand : Option Evaluated) (x : X) (work : List ℕ)
      → let t = alone s fit rows hand x work in
      worked (B.with_search p (among t.value)) t.work ≡ taken fit rows hand (B.with_search p (among x)) work
  pub wants_so : (s : S) (fit : Fit) (p : Progress) → is_of s fit p → (x : X) → wants s x ≡ B.wanted_by fit (B.with_search p (among x))
  pub begins : (s : S) (fit : Fit) (p : Progress) → is_of s fit p → (rows : ℕ) (hand : Option Evaluated) (work : List ℕ)
      → taken fit rows hand (B.with_search p (among (own p.search))) work ≡ taken fit rows hand p work

abbrev pub IsOne : Settings → Fit → Progress → Type 0
IsOne s fit progress = (fit.effects ≢ 2) × (s ≡ B.settings fit progress)

abbrev pub IsTwo : Settings2 → Fit → Progress → Type 0
IsTwo s fit progress = (fit.effects ≡ 2) × (s ≡ B.settings2 fit progress)
