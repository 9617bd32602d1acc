-- The claim is not empty: a history of 18 points that comes to a mode, one that is refused with 13 and one with 14, computed. Assumes nothing.
use mathlib.Core.Path.{◌≡◌, refl}
use mathlib.Core.Bool.{not}
use mathlib.Core.List.{List, [], ◌∷◌, ◌++◌}
use Prim.Native.Nat.{ℕ, zero, suc, ◌+◌}
use lib.Dec.{T, ltb, eqb}
use lib.Ieee.{Float, of_bits, of_int, add, sub, mul, div, neg, lt, le, fits, is_nan}
use Rattle.float64.specs.Arithmetic.{◌-ᶠ◌, word, one}
use Rattle.float64.specs.Float64.{abs, clamp}
use Rattle.float64.specs.Pick.{pick}
use Rattle.mode.specs.declared.population_focei.Settings.{Settings}
use Rattle.mode.specs.declared.population_focei.Conditional.{Conditional}
use Rattle.mode.specs.Rules.{nought, loosest, grid_point, secant_point, settled, is_above, is_under, is_closer, request_at, request, advance_at, screened, first_score, fell, first_stage, entered, chosen}
use Rattle.mode.specs.Rules.{tried, start}
use Rattle.mode_theorems.specs.Histories.{led_from, Answered}
use Rattle.mode_theorems.specs.History.{Domain, Answers, Follows, after}
use Rattle.mode.specs.declared.Request.TheVariants.{Point, Mode, Refused}

-- eta_bound 4, omega 1, the loosest tolerance, no warm start inside
abbrev settings : Settings
settings = record { eta_bound = word 0x4010_0000_0000_0000; omega = one; tolerance = loosest; warm = nought }

abbrev evaluated : Float → Float → Conditional
evaluated eta score = record { eta = eta; nll = nought; score = score; information = nought }

-- n grid points from the i-th on, with the scores of a rule
unfoldable pub grid_by : (ℕ → Float) → ℕ → ℕ → List Conditional
grid_by score zero i = []
grid_by score (suc n) i = evaluated (grid_point (word 0x4010_0000_0000_0000) i) (score i) ∷ grid_by score n (i + 1)

pub domain : Domain settings
unfolding of_bits fits le
domain = record { fits_bound = tt; bound_low = tt; bound_high = tt; omega_low = tt; omega_high = tt; tolerance_low = tt; tolerance_high = tt; fits_warm = tt }

-- the point that is asked for, evaluated
ok : {c : Conditional} → T (not (is_nan c.eta)) → T (not (is_nan c.score)) → Answers (Point c.eta) c
ok n k = record { asked = refl; eta_number = n; score_number = k }

-- ---- score eta - 0.25: the cell is 0 to 0.5, and the secant step meets 0.25
abbrev quarter : Float
quarter = word 0x3fd0_0000_0000_0000

abbrev to_mode : List Conditional
to_mode = grid_by (λ i. grid_point (word 0x4010_0000_0000_0000) i -ᶠ quarter) 17 0 ++ (evaluated quarter nought ∷ [])

pub mode-follows : Follows settings to_mode
unfolding grid_by Answered led_from grid_point secant_point settled is_above is_under is_closer request_at advance_at screened first_score fell first_stage entered chosen tried start pick abs clamp of_bits of_int
    add sub mul div neg lt le is_nan
mode-follows = (
  ok tt tt,
  (
    ok tt tt,
    (
      ok tt tt,
      (
        ok tt tt,
        (
          ok tt tt,
          (
            ok tt tt,
            (
              ok tt tt,
              (
                ok tt tt,
                (
                  ok tt tt,
                  (ok tt tt, (ok tt tt, (ok tt tt, (ok tt tt, (ok tt tt, (ok tt tt, (ok tt tt, (ok tt tt, (ok tt tt, tt))))))))),
                ),
              ),
            ),
          ),
        ),
      ),
    ),
  ),
)

pub mode-reached : request settings (after settings to_mode) ≡ Mode
unfolding grid_by Answered led_from grid_point secant_point settled is_above is_under is_closer request_at advance_at screened first_score fell first_stage entered chosen tried start pick abs clamp of_bits of_int
    add sub mul div neg lt le is_nan
mode-reached = refl

pub mode_is : (after settings to_mode).best.eta ≡ quarter
unfolding grid_by Answered led_from grid_point secant_point settled is_above is_under is_closer request_at advance_at screened first_score fell first_stage entered chosen tried start pick abs clamp of_bits of_int
    add sub mul div neg lt le is_nan
mode_is = refl

-- ---- a score of 1 everywhere: 13
abbrev to_bound : List Conditional
to_bound = grid_by (λ i. one) 17 0

pub bound_follows : Follows settings to_bound
unfolding grid_by Answered led_from grid_point secant_point settled is_above is_under is_closer request_at advance_at screened first_score fell first_stage entered chosen tried start pick abs clamp of_bits of_int
    add sub mul div neg lt le is_nan
bound_follows = (
  ok tt tt,
  (
    ok tt tt,
    (
      ok tt tt,
      (
        ok tt tt,
        (
          ok tt tt,
          (
            ok tt tt,
            (
              ok tt tt,
              (
                ok tt tt,
                (
                  ok tt tt,
                  (ok tt tt, (ok tt tt, (ok tt tt, (ok tt tt, (ok tt tt, (ok tt tt, (ok tt tt, (ok tt tt, tt)))))))),
                ),
              ),
            ),
          ),
        ),
      ),
    ),
  ),
)

pub bound_refused : request settings (after settings to_bound) ≡ Refused 13
unfolding grid_by Answered led_from grid_point secant_point settled is_above is_under is_closer request_at advance_at screened first_score fell first_stage entered chosen tried start pick abs clamp of_bits of_int
    add sub mul div neg lt le is_nan
bound_refused = refl

-- ---- -1, then 1, but -1 once more at the 12th point: 14
abbrev rising : ℕ → Float
rising i = pick (ltb i 8) (neg one) (pick (eqb i 11) (neg one) one)

abbrev to_several : List Conditional
to_several = grid_by rising 17 0

pub several_follows : Follows settings to_several
unfolding grid_by Answered led_from grid_point secant_point settled is_above is_under is_closer request_at advance_at screened first_score fell first_stage entered chosen tried start pick abs clamp of_bits of_int
    add sub mul div neg lt le is_nan
several_follows = (
  ok tt tt,
  (
    ok tt tt,
    (
      ok tt tt,
      (
        ok tt tt,
        (
          ok tt tt,
          (
            ok tt tt,
            (
              ok tt tt,
              (
                ok tt tt,
                (
                  ok tt tt,
                  (ok tt tt, (ok tt tt, (ok tt tt, (ok tt tt, (ok tt tt, (ok tt tt, (ok tt tt, (ok tt tt, tt)))))))),
                ),
              ),
            ),
          ),
        ),
      ),
    ),
  ),
)

pub several_refused : request settings (after settings to_several) ≡ Refused 14
unfolding grid_by Answered led_from grid_point secant_point settled is_above is_under is_closer request_at advance_at screened first_score fell first_stage entered chosen tried start pick abs clamp of_bits of_int
    add sub mul div neg lt le is_nan
several_refused = refl
