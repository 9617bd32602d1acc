-- What observations in words are, one after the other: a law for each way through the code. Assumes nothing.
use mathlib.Core.Path.{◌≡◌, refl, sym, ap, ◌∙◌}
use mathlib.Core.List.{List}
use native.Mathlib.Nat.{not-suc-le-zero, le_of_suc-le-suc}
use native.Mathlib.Omega.{arith}
use Prim.Native.Nat.{ℕ, zero, suc, ◌+◌, ◌*◌, ◌/◌, ◌<◌, ◌≤◌}
use lib.ListN.{length, get_or, get_or-eq_default}
use lib.Ieee.{Float}
use Rattle.float64.specs.Arithmetic.{word}
use Rattle.likelihood.specs.declared.population_focei.Observation.{Observation}
use Rattle.subject.specs.Observations.{no_observation, observation_at}
use Rattle.program_calls.specs.Recorded.{observation_in, observations_from, observations_of}

-- ---- one observation

-- x to z are the words that were read, or the floats that they stand for
module _ (w : List ℕ) (i : ℕ) where
  pub beyond_words : length w ≤ i → record { output = 0; row = 0; value = word 0; additive = word 0; proportional = word 0 } ≡ observation_in w i
  unfolding observation_in
  beyond_words l =
      let output : get_or w (5 * i) 0 ≡ 0 = get_or-eq_default w 0 (omega arith) in
      let row : get_or w (5 * i + 1) 0 ≡ 0 = get_or-eq_default w 0 (omega arith) in
      let value : get_or w (5 * i + 2) 0 ≡ 0 = get_or-eq_default w 0 (omega arith) in
      let additive : get_or w (5 * i + 3) 0 ≡ 0 = get_or-eq_default w 0 (omega arith) in
      let proportional : get_or w (5 * i + 4) 0 ≡ 0 = get_or-eq_default w 0 (omega arith) in
      λ d. record { output = sym output d; row = sym row d; value = word (sym value d); additive = word (sym additive d); proportional = word (sym proportional d) }

  pub read_words : {a b x y : ℕ} {value additive proportional : Float} → x ≡ get_or w (5 * i) 0 → a ≡ x → y ≡ get_or w (5 * i + 1) 0 → b ≡ y
      → value ≡ word (get_or w (5 * i + 2) 0) → additive ≡ word (get_or w (5 * i + 3) 0) → proportional ≡ word (get_or w (5 * i + 4) 0)
      → record { output = a; row = b; value = value; additive = additive; proportional = proportional } ≡ observation_in w i
  unfolding observation_in
  read_words ex ea ey eb ev es ep = λ d. record { output = (ea ∙ ex) d; row = (eb ∙ ey) d; value = ev d; additive = es d; proportional = ep d }

-- ---- all of them

module _ (w : List ℕ) where
  length_from : (n i : ℕ) → length (observations_from n i w) ≡ n
  unfolding observations_from
  length_from zero i = refl
  length_from (suc n) i = ap suc (length_from n (i + 1))

  -- their number
  pub counted : length w / 5 ≡ length (observations_of w)
  unfolding observations_of
  counted = sym (length_from (length w / 5) 0)

  at_from : (n i k : ℕ) (d : Observation) → k < n → observation_in w (i + k) ≡ get_or (observations_from n i w) k d
  unfolding observations_from
  at_from zero i k d h = absurd (not-suc-le-zero h)
  at_from (suc n) i zero d h = ap (observation_in w) (omega arith)
  at_from (suc n) i (suc k) d h = ap (observation_in w) (omega arith) ∙ at_from n (i + 1) k d (le_of_suc-le-suc h)

  -- each of them
  pub stands_at : {o : Observation} (i : ℕ) → o ≡ observation_in w i → i < length (observations_of w) → o ≡ observation_at (observations_of w) i
  unfolding observations_of
  stands_at i e h =
      let within : i < length w / 5 = omega (arith, h, length_from (length w / 5) 0) in
      let from_0 : i ≡ 0 + i = omega arith in
      e ∙ ap (observation_in w) from_0 ∙ at_from (length w / 5) 0 i no_observation within
