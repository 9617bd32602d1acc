-- Histories of the two-effect rules that come to a mode, to 13, to 14 and to 16, computed: so the claim is not empty. Assumes nothing.
use mathlib.Core.Path.{◌≡◌, refl}
use mathlib.Core.List.{List, [], ◌∷◌}
use lib.Dec.{T}
use lib.Ieee.{Float, of_bits, round, sum, is_nan, lt, le, eq, neg, add, sub, mul, div}
use lib.Ieee.Scale.{finite}
use Rattle.float64.specs.Arithmetic.{word, one, two}
use Rattle.float64.specs.Float64.{abs, max, clamp}
use Rattle.float64.specs.Pick.{pick}
use Rattle.matrix.specs.Matrix.{pair, sum as matrixSum, determinant, product, dot, inverse, has_nonfinite_entry, inverse_positive}
use Rattle.matrix.specs.declared.Pair.{Pair}
use Rattle.mode_2d.specs.declared.population_focei_2d.Settings2.{Settings2}
use Rattle.mode_2d.specs.declared.population_focei_2d.Conditional2.{Conditional2}
use Rattle.mode_2d.specs.Rules.{nought, of, max_abs, is_same, prior_score, joint, penalised_score, norm, curvature, step_by, scale, reduced, trial_point, decrease, is_passed_over, next_reduction, is_taken}
use Rattle.mode_2d.specs.Rules.{start_point, is_unresolved, is_far, better, between, trying, finish, try_from, descend_by, descend, begin_round, take, leave, request_at, request, advance_at, start}
use Rattle.mode_theorems.specs.Histories.{led_from, Answered}
use Rattle.mode_theorems.specs.History2.{Accepted, Answers, Follows, after}
use Rattle.mode.specs.declared.Request.{Request}
use Rattle.mode.specs.declared.Request.TheVariants.{Point, Mode, Refused}

abbrev four : Float
four = word 0x4010_0000_0000_0000

abbrev eight : Float
eight = word 0x4020_0000_0000_0000

-- eta_bound 4, omega and so the precision the identity
abbrev pub settings : Pair → Settings2
settings warm = record { eta_bound = four; precision = record { m00 = one; m01 = neg nought; m10 = neg nought; m11 = one }; warm = warm }

abbrev omega : List (List Float)
omega = pair (pair one nought) (pair nought one)

pub accepted : (warm : Pair) → Accepted omega (settings warm)
unfolding of_bits le eq round sum neg add sub mul div pick inverse_positive has_nonfinite_entry determinant inverse
accepted warm = record { low0 = tt; high0 = tt; low1 = tt; high1 = tt; symmetric = tt; det = one; inverse = refl }

-- the score and the first entry of the information at a point; all else is 0
abbrev point : Pair → Pair → Float → Conditional2
point eta score m00 = record { eta = eta; nll = nought; score = score; information = record { m00 = m00; m01 = nought; m10 = nought; m11 = nought } }

abbrev origin : Pair
origin = of nought nought

abbrev flat : Pair → Conditional2
flat eta = point eta origin nought

abbrev reach : Float
reach = word 0x4030_0000_0000_0000

-- the point that is asked for, evaluated
ok : {c : Conditional2} → T (le (neg reach) c.eta.first) → T (le c.eta.first reach) → T (le (neg reach) c.eta.second) → T (le c.eta.second reach) → T (finite c.nll) → Answers
    (Point c.eta) c
ok l h m i n = record { asked = refl; within0 = record { low = l; high = h }; within1 = record { low = m; high = i }; nll_finite = n }

-- with this warm start the history h follows the rules, and q is asked after it
pub record Comes (warm : Pair) (h : List Conditional2) (q : Request Pair) : Type 0 where
  pub follows : Follows (settings warm) h
  pub asks : request (settings warm) (after (settings warm) h) ≡ q

-- ---- with nll, score and information 0 everywhere each start comes to 0 in one step
abbrev to_mode_lem : List Conditional2
to_mode_lem =
    flat origin ∷ flat origin ∷ flat origin
    ∷ flat (of two nought) ∷ flat origin ∷ flat (of (neg two) nought) ∷ flat origin
    ∷ flat (of nought two) ∷ flat origin ∷ flat (of nought (neg two)) ∷ flat origin ∷ []

pub comes_to_mode : Comes origin to_mode_lem Mode
unfolding of_bits round sum is_nan lt le eq neg add sub mul div abs max clamp pick matrixSum determinant product dot inverse has_nonfinite_entry inverse_positive max_abs is_same prior_score joint penalised_score norm
    curvature step_by scale reduced trial_point decrease is_passed_over next_reduction is_taken start_point is_unresolved is_far better between trying finish try_from descend_by descend begin_round take leave
    request_at advance_at start led_from Answered
comes_to_mode = record {
  follows = (
    ok tt tt tt tt tt,
    (
      ok tt tt tt tt tt,
      (
        ok tt tt tt tt tt,
        (
          ok tt tt tt tt tt,
          (ok tt tt tt tt tt, (ok tt tt tt tt tt, (ok tt tt tt tt tt, (ok tt tt tt tt tt, (ok tt tt tt tt tt, (ok tt tt tt tt tt, (ok tt tt tt tt tt, tt))))))),
        ),
      ),
    ),
  );
  asks = refl;
}

-- ---- the warm start at the bound, and a score that leads beyond it: every trial is the start itself, and 13
abbrev to_bound_lem : List Conditional2
to_bound_lem = flat origin ∷ point (of four nought) (of (neg eight) nought) nought ∷ []

pub comes_to_13 : Comes (of four nought) to_bound_lem (Refused 13)
unfolding of_bits round sum is_nan lt le eq neg add sub mul div abs max clamp pick matrixSum determinant product dot inverse has_nonfinite_entry inverse_positive max_abs is_same prior_score joint penalised_score norm
    curvature step_by scale reduced trial_point decrease is_passed_over next_reduction is_taken start_point is_unresolved is_far better between trying finish try_from descend_by descend begin_round take leave
    request_at advance_at start led_from Answered
comes_to_13 = record { follows = (ok tt tt tt tt tt, (ok tt tt tt tt tt, tt)); asks = refl }

-- ---- the warm start is a candidate, and so is zero: 14
abbrev to_two : List Conditional2
to_two = flat origin ∷ point (of two nought) (of (neg two) nought) nought ∷ flat origin ∷ []

pub comes_to_14 : Comes (of two nought) to_two (Refused 14)
unfolding of_bits round sum is_nan lt le eq neg add sub mul div abs max clamp pick matrixSum determinant product dot inverse has_nonfinite_entry inverse_positive max_abs is_same prior_score joint penalised_score norm
    curvature step_by scale reduced trial_point decrease is_passed_over next_reduction is_taken start_point is_unresolved is_far better between trying finish try_from descend_by descend begin_round take leave
    request_at advance_at start led_from Answered
comes_to_14 = record { follows = (ok tt tt tt tt tt, (ok tt tt tt tt tt, (ok tt tt tt tt tt, tt))); asks = refl }

-- ---- an information that undoes the precision: 16
abbrev to_flat : List Conditional2
to_flat = flat origin ∷ point origin (of one nought) (neg one) ∷ []

pub comes_to_16 : Comes origin to_flat (Refused 16)
unfolding of_bits round sum is_nan lt le eq neg add sub mul div abs max clamp pick matrixSum determinant product dot inverse has_nonfinite_entry inverse_positive max_abs is_same prior_score joint penalised_score norm
    curvature step_by scale reduced trial_point decrease is_passed_over next_reduction is_taken start_point is_unresolved is_far better between trying finish try_from descend_by descend begin_round take leave
    request_at advance_at start led_from Answered
comes_to_16 = record { follows = (ok tt tt tt tt tt, (ok tt tt tt tt tt, tt)); asks = refl }
