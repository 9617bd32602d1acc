-- The ways through the code: one law for each, over plain variables. Assumes nothing.
use Rattle.std.specs.Prelude.{Err, Ok}
use Rattle.std.proofs.Common.{◌≡◌, ℕ, ◌<◌, ◌≤◌, Bool, true, false, List, get_or, sym, refl, ap, ◌∙◌, subst, le-ltb, lt-ltb}
use Rattle.float64.specs.Pick.{yes, no, yes_of, no_of}
use Rattle.likelihood.specs.declared.population_focei.Observation.{Observation}
use Rattle.subject.specs.declared.Position.{Position}
use Rattle.subject.specs.Subject.{next}
use Rattle.subject.specs.Observations.{is_sound, next_place, check_at, check_observation, Check}

-- ---- the place after this one; n and m are the numbers after its observation's and its subject's
module _ (place : Position) (count : ℕ) {n : ℕ} (e : n ≡ next place.observation) where
  pub same_subject : n < count → record { subject = place.subject; observation = n } ≡ next_place place count
  unfolding next_place
  same_subject h = yes _ (lt-ltb _ _ (subst (λ (x : ℕ). x < count) e h)) (λ i. record { subject = place.subject; observation = e i })

  pub next_subject_lem : {m : ℕ} → count ≤ n → m ≡ next place.subject → record { subject = m; observation = 0 } ≡ next_place place count
  unfolding next_place
  next_subject_lem h q = no _ (le-ltb _ _ (subst (λ (x : ℕ). count ≤ x) e h)) (λ i. record { subject = q i; observation = 0 })

-- ---- the check; b is what `is_sound` answered, count what was read, after the place afterwards
module _ (width : ℕ) (counts : List ℕ) (observation : Observation) where
  module _ (place : Position) {b : Bool} (e : b ≡ is_sound observation width) where
    pub sound_at : {count : ℕ} {after : Position} → b ≡ true → count ≡ get_or counts place.subject 0 → after ≡ next_place place count → Ok after ≡ check_at width counts observation place
    unfolding check_at
    sound_at t p q = yes_of _ e t (ap Ok (q ∙ ap (next_place place) p))

    pub unsound_at : b ≡ false → Err place ≡ check_at width counts observation place
    unfolding check_at
    unsound_at t = no_of _ e t refl

  module _ {x : Check} where
    pub after_sound : {place : Position} {z : Check} → x ≡ Ok place → z ≡ check_at width counts observation place → z ≡ check_observation width counts observation x
    unfolding check_observation
    after_sound t q = q ∙ ap (check_observation width counts observation) (sym t)

    pub after_unsound : {place : Position} → x ≡ Err place → Err place ≡ check_observation width counts observation x
    unfolding check_observation
    after_unsound t = ap (check_observation width counts observation) (sym t)
