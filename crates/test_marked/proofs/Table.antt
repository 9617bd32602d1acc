-- The table of document 01's marked facts, computed. Assumes nothing.
use mathlib.Core.Path.{◌≡◌, refl}
use mathlib.Core.Bool.{Bool}
use mathlib.Core.List.{List}
use lib.Ieee.{Float, nan, inf, fin, binary64, of_bits, add, mul}
use Rattle.float64.specs.Pick.{pick}
use Rattle.likelihood.specs.Terms.{variance}
use Rattle.float64.specs.Answer.{refused}
use Rattle.likelihood.specs.RowTerms.{row_terms}
use Rattle.likelihood.specs.Row2.{row_variance}
use Rattle.test_exports.specs.Leaves.{observation_of}
use Rattle.test_marked.specs.Marked.{Marked, zero}
use Rattle.test_marked.proofs.Computed.{everything}
use Rattle.test_marked.proofs.Played.{session_found, session_13, session_16}
use Rattle.test_marked.proofs.Printed.{printed, printed_far, printed_empty, printed_bound_16, printed_bound_next, printed_16, printed_17, with_its_own}

-- a NaN swallows what is added to it
nan_added : (x : Float) → add binary64 x nan ≡ nan
unfolding add
nan_added nan = refl
nan_added (inf s) = refl
nan_added (fin s m e) = refl

infinite_variance : (additive : Float) (s : Bool) → variance additive zero (inf s) ≡ nan
unfolding of_bits mul
infinite_variance additive s = nan_added (mul binary64 additive additive)

infinite_row : (value additive f-eta : Float) (s : Bool) → row_terms (observation_of value additive zero) (inf s) f-eta additive ≡ refused 11
unfolding row_terms pick observation_of
infinite_row value additive f-eta s = rw (infinite_variance additive s)

infinite_row_2 : (value additive : Float) (f-eta : List Float) (s : Bool) → row_variance (observation_of value additive zero) (inf s) f-eta ≡ refused 11
unfolding row_variance pick observation_of
infinite_row_2 value additive f-eta s = rw (infinite_variance additive s)

pub marked : Marked
unfolding everything observation_of row_variance
marked =
    record {
      additive_row = refl;
      proportional_row = refl;
      no_variance = λ value f-eta. refl;
      infinite_prediction = infinite_row;
      no_variance_2 = λ value f-eta. refl;
      infinite_prediction_2 = infinite_row_2;
      inverse = refl;
      singular = refl;
      exp_zero = refl;
      log_one = refl;
      grid_first = refl;
      grid_middle = refl;
      grid_last = refl;
      tolerance_loose = refl;
      tolerance_tight = refl;
      bound_16 = λ most. refl;
      bound_next = λ most. refl;
      printed = printed;
      printed_far = printed_far;
      printed_empty = printed_empty;
      own_settings = refl;
      with_its_own = with_its_own;
      printed_bound_16 = printed_bound_16;
      printed_bound_next = printed_bound_next;
      printed_16 = printed_16;
      printed_17 = printed_17;
      session_found = session_found;
      session_13 = session_13;
      session_16 = session_16;
    }
