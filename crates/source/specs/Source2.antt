-- `mode_from_seed` and `mode` of population_focei_2d.rs, to be held beside them line by line. `inverse_positive`, `product` and `dot` are
-- matrix's.
use Rattle.std.specs.Prelude.{Bool, true, ◌&&◌, ◌||◌, List, [], ◌∷◌, ℕ, ◌-◌, ◌*◌, ◌^◌, Float, Option, None, Some}
use Rattle.std.specs.Float.Ieee.{lt, le, eq, neg}
use Rattle.float64.specs.Arithmetic.{◌+ᶠ◌, ◌-ᶠ◌, ◌*ᶠ◌, word, half as one_half}
use Rattle.float64.specs.Float64.{abs, max, clamp}
use Rattle.matrix.specs.Matrix.{pair, at, array_of, product, dot, Inverse, inverse_positive}
use Rattle.matrix.specs.declared.Pair.{Pair}
use Rattle.mode_2d.specs.declared.population_focei_2d.Settings2.{Settings2}
use Rattle.mode_2d.specs.declared.population_focei_2d.Conditional2.{Conditional2}
use Rattle.source.specs.Run.{Run, done, ask, stop, ◌>>=◌, ◌>>◌, when◌then◌else◌, err, next, break, for, each}

-- ---- a point is a pair of floats; as an array it is a list
abbrev pub of : Float → Float → Pair
of x y = record { first = x; second = y }

abbrev pub vector : Pair → List Float
vector p = pair p.first p.second

abbrev pub precision : Settings2 → List (List Float)
precision s = array_of s.precision

-- ---- Option: ok_or, is_none_or, unwrap
abbrev pub ok_or : {P C : Type 0} → Inverse → ℕ → Run P C (List (List Float))
ok_or (Inverse.some inverse det) n = done inverse
ok_or Inverse.none n = stop n

abbrev pub is_none_or : {A : Type 0} → Option A → (A → Bool) → Bool
is_none_or None p = true
is_none_or (Some a) p = p a

abbrev pub nowhere : Conditional2
nowhere = record {
  eta = of (word 0) (word 0);
  nll = word 0;
  score = of (word 0) (word 0);
  information = record { m00 = word 0; m01 = word 0; m10 = word 0; m11 = word 0 };
}

-- of a best candidate, which there is after six starts
abbrev pub unwrap : Option Conditional2 → Conditional2
unwrap None = nowhere
unwrap (Some a) = a

-- ---- its literals
abbrev pub «1e-3» : Float
«1e-3» = word 0x3f50_624d_d2f1_a9fc

abbrev pub «1e-4» : Float
«1e-4» = word 0x3f1a_36e2_eb1c_432d

abbrev pub «1e-5» : Float
«1e-5» = word 0x3ee4_f8b5_88e3_68f1

abbrev pub «1e-6» : Float
«1e-6» = word 0x3eb0_c6f7_a0b5_ed8d

-- 2f64.powi(-reduction): the float of that exponent
abbrev pub scale_of : ℕ → Float
scale_of reduction = word ((1023 - reduction) * 2 ^ 52)

-- ---- fn joint, fn subject, fn mode_from_seed
abbrev pub joint : Settings2 → Conditional2 → Float
joint s conditional =
    conditional.nll +ᶠ one_half *ᶠ dot (vector conditional.eta) (product (precision s) (vector conditional.eta))

abbrev pub subject : Pair → Run Pair Conditional2 Conditional2
subject eta = ask eta done

unfoldable pub mode_from_seed : Settings2 → Pair → Run Pair Conditional2 Conditional2
mode_from_seed s initial = do
  current ← subject initial
  let limit = s.eta_bound
  current ← for 48 current λ i current. do
    let prior_score = product (precision s) (vector current.eta)
    let score = pair (current.score.first +ᶠ at prior_score 0) (current.score.second +ᶠ at prior_score 1)
    when le (max (abs (at score 0)) (abs (at score 1))) «1e-5» then done (break current) else (do
      let information = pair
          (pair (s.precision.m00 +ᶠ current.information.m00) (s.precision.m01 +ᶠ current.information.m01))
          (pair (s.precision.m10 +ᶠ current.information.m10) (s.precision.m11 +ᶠ current.information.m11))
      inverse ← ok_or (inverse_positive information) 16
      let direction = product inverse score
      let joint_current = joint s current
      accepted ← for 22 None λ reduction accepted. do
        let scale = scale_of reduction
        let trial_eta = of (clamp (current.eta.first -ᶠ scale *ᶠ at direction 0) (neg limit) limit)
            (clamp (current.eta.second -ᶠ scale *ᶠ at direction 1) (neg limit) limit)
        when eq trial_eta.first current.eta.first && eq trial_eta.second current.eta.second then done (next accepted) else (do
          let decrease = dot score (pair (current.eta.first -ᶠ trial_eta.first) (current.eta.second -ᶠ trial_eta.second))
          when le decrease (word 0) then done (next accepted) else (do
            trial ← subject trial_eta
            when le (joint s trial) (joint_current -ᶠ «1e-4» *ᶠ decrease) then done (break (Some trial)) else done (next accepted)))
      elim accepted [ Some trial ↦ done (next trial) | None ↦ done (break current) ])
  let prior_score = product (precision s) (vector current.eta)
  let norm = max (abs (current.score.first +ᶠ at prior_score 0)) (abs (current.score.second +ᶠ at prior_score 1))
  let edge = limit -ᶠ «1e-6»
  err (lt «1e-3» norm || (le edge (abs current.eta.first) || le edge (abs current.eta.second))) 13
  done current

-- ---- fn mode: the mode, and the population's point
unfoldable pub mode : Settings2 → Run Pair Conditional2 (Conditional2 × Conditional2)
mode s = do
  let zero = of (word 0) (word 0)
  population ← subject zero
  let half = one_half *ᶠ s.eta_bound
  let starts = s.warm ∷ zero ∷ of half (word 0) ∷ of (neg half) (word 0) ∷ of (word 0) half ∷ of (word 0) (neg half) ∷ []
  best ← each starts None λ start (best : Option Conditional2). do
    candidate ← mode_from_seed s start
    elim best [
      | Some previous ↦ err (lt «1e-3»
          (max (abs (candidate.eta.first -ᶠ previous.eta.first)) (abs (candidate.eta.second -ᶠ previous.eta.second)))) 14
      | None ↦ done tt
    ]
    done (next (when is_none_or best (λ value. lt (joint s candidate) (joint s value)) then Some candidate else best))
  done (unwrap best, population)
