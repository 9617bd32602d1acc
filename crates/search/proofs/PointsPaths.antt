-- The ways through the code: one law for each, over plain variables. Assumes nothing.
use mathlib.Core.Path.{◌≡◌, ap, ◌∙◌}
use borrow.Author.Tests.{eq-eqb, ne_eqb}
use Rattle.float64.specs.Pick.{yes, no}
use Rattle.matrix.specs.declared.Pair.{Pair}
use Rattle.mode.specs.Rules.{advance}
use Rattle.mode.specs.declared.population_focei.Settings.{Settings}
use Rattle.mode.specs.declared.population_focei.Conditional.{Conditional}
use Rattle.mode.specs.declared.population_focei.Search.{Search}
use Rattle.mode_2d.specs.Rules as R2
use Rattle.mode_2d.specs.declared.population_focei_2d.Settings2.{Settings2}
use Rattle.mode_2d.specs.declared.population_focei_2d.Conditional2.{Conditional2}
use Rattle.mode_2d.specs.declared.population_focei_2d.Search2.{Search2}
use Rattle.work.specs.declared.Sources.{Sources}
use Rattle.subject.specs.declared.Sums.{Sums}
use Rattle.search.specs.declared.Fit.{Fit}
use Rattle.search.specs.declared.Progress.{Progress}
use Rattle.search.specs.declared.SubjectSearch.TheVariants.{One, Two}
use Rattle.search.specs.Subjects.{settings, settings2, one_of, two_of, wanted1, wanted2, wanted_by, conditional1, conditional2, sources1}
use Rattle.search.specs.Subjects.{sources2, with_search, advance1, advance2, advance_by}
use Rattle.mode.specs.declared.Request.{Request}

-- z is what is wanted, x the search
module _ (fit : Fit) (progress : Progress) {z : Request Pair} where
  pub wanted_two : {s : Settings2} {x : Search2} → fit.effects ≡ 2 → s ≡ settings2 fit progress → x ≡ two_of progress.search → z ≡ wanted2 s x → z ≡ wanted_by fit progress
  unfolding wanted_by
  wanted_two h es ex q = yes _ (eq-eqb _ _ h) (q ∙ (λ i. wanted2 (es i) (ex i)))

  pub wanted_one : {s : Settings} {x : Search} → (fit.effects ≡ 2 → ⊥) → s ≡ settings fit progress → x ≡ one_of progress.search → z ≡ wanted1 s x → z ≡ wanted_by fit progress
  unfolding wanted_by
  wanted_one h es ex q = no _ (ne_eqb _ _ h) (q ∙ (λ i. wanted1 (es i) (ex i)))

-- ---- the search with an evaluated point; after is the search afterwards, p the progress, w the sources
module _ (fit : Fit) (progress : Progress) (eta : Pair) (sums : Sums) {p : Progress} {w : Sources} where
  pub advance_two : {s : Settings2} {c : Conditional2} {after : Search2} → let x = two_of progress.search in fit.effects ≡ 2 → s ≡ settings2 fit progress → c ≡ conditional2 eta sums → after ≡
      R2.advance s x c → p ≡ with_search progress (Two after) → w ≡ sources2 s x after c → record { progress = p; sources = w } ≡ advance_by fit progress eta sums
  unfolding advance_by advance2
  advance_two {s} {c} h es ec ea ep ew =
      let x = two_of progress.search in
      yes _ (eq-eqb _ _ h)
      ((λ i. record { progress = (ep ∙ ap (λ (y : Search2). with_search progress (Two y)) ea) i; sources = (ew ∙ ap (λ (y : Search2). sources2 s x y c) ea) i })
      ∙ (λ i. advance2 (es i) progress (ec i)))

  pub advance_one : {s : Settings} {c : Conditional} {after : Search} → let x = one_of progress.search in (fit.effects ≡ 2 → ⊥) → s ≡ settings fit progress → c ≡ conditional1 fit eta sums → after ≡
      advance s x c → p ≡ with_search progress (One after) → w ≡ sources1 x c → record { progress = p; sources = w } ≡ advance_by fit progress eta sums
  unfolding advance_by advance1
  advance_one {s} {c} h es ec ea ep ew =
      no _ (ne_eqb _ _ h)
      ((λ i. record { progress = (ep ∙ ap (λ (y : Search). with_search progress (One y)) ea) i; sources = ew i }) ∙ (λ i. advance1 (es i) progress (ec i)))
