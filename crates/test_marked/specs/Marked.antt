-- Document 01's marked facts, its program's printed examples, and worked sessions with two effects, as one table. The proof is
-- proofs/Table.antt. src/main.rt holds the code of the leaves to it; the code of the program is `output`, by the contract of
-- `focei_fit::focei`, and the exported calls of a session are `setup_over` and `call_over`, by the contracts of `curlewstand_calls`.
use Rattle.std.specs.Prelude.{◌≡◌, Bool, List, [], ◌∷◌, ℕ, Float, Err, Ok}
use Rattle.std.specs.Float.{inf}
use Rattle.float64.specs.Arithmetic.{word, half, one, two}
use Rattle.libm.specs.Log.{log}
use Rattle.libm.specs.Exp.{exp}
use Rattle.matrix.specs.Matrix.{pair, inverse_positive, some, none}
use Rattle.float64.specs.Answer.{given, refused}
use Rattle.likelihood.specs.RowTerms.{row_terms}
use Rattle.likelihood.specs.Row2.{row_variance}
use Rattle.mode.specs.Rules.{grid_point, eta_tolerance}
use Rattle.test_exports.specs.Leaves.{observation_of}
use Rattle.setup.specs.Admission.{checks}
use Rattle.subject.specs.Observations.{first_check}
use Rattle.focei_fit.specs.Output.{settings, output}
use Rattle.test_marked.specs.Examples.{bytes, settings_with, output_with, example, example_text, far, room}
use Rattle.test_marked.specs.Session2.{session, first_value, steep, asked, to_mode, found, to_bound, refused_after}
use Rattle.setup.specs.declared.AdmissionError.TheVariants.{Refused}

abbrev pub zero : Float
zero = word 0

abbrev pub three : Float
three = word 0x4008_0000_0000_0000

abbrev pub four : Float
four = word 0x4010_0000_0000_0000

pub record Marked : Type 0 where
  -- value 3, f 1, f_eta 2, a 1, p 0: score -4, information 4
  pub additive_row :
      row_terms (observation_of three one zero) one two one
      ≡ given (record { nll = word 0x4007_59fc_7219_2fad; score = word 0xc010_0000_0000_0000; information = four })
  -- value 4, f 2, f_eta 1, a 0, p 1: score -0.5, information 0.75
  pub proportional_row :
      row_terms (observation_of four zero one) two one zero
      ≡ given (record { nll = word 0x4000_e58d_31d7_be29; score = word 0xbfe0_0000_0000_0000; information = word 0x3fe8_0000_0000_0000 })
  -- p 1, a 0, f 0: 11, whatever the value and f_eta
  pub no_variance : (value f_eta : Float) → row_terms (observation_of value zero one) zero f_eta zero ≡ refused 11
  -- p 0, f infinite: 11, whatever the value, a and f_eta
  pub infinite_prediction :
      (value additive f_eta : Float) (s : Bool) → row_terms (observation_of value additive zero) (inf s) f_eta additive ≡ refused 11
  -- the same with two effects, whatever the sensitivities
  pub no_variance_2 : (value : Float) (f_eta : List Float) → row_variance (observation_of value zero one) zero f_eta ≡ refused 11
  pub infinite_prediction_2 :
      (value additive : Float) (f_eta : List Float) (s : Bool)
      → row_variance (observation_of value additive zero) (inf s) f_eta ≡ refused 11
  -- the inverse of (2,0;0,4): (0.5,-0;-0,0.25), det 8
  pub inverse :
      inverse_positive (pair (pair two zero) (pair zero four))
      ≡ some (pair (pair half (word 0x8000_0000_0000_0000)) (pair (word 0x8000_0000_0000_0000) (word 0x3fd0_0000_0000_0000)))
      (word 0x4020_0000_0000_0000)
  -- (1,1;1,1): none
  pub singular : inverse_positive (pair (pair one one) (pair one one)) ≡ none
  pub exp_zero : exp zero ≡ one
  pub log_one : log one ≡ zero
  -- the grid for 4 at 0, 8, 16: -4, 0, 4
  pub grid_first : grid_point four 0 ≡ word 0xc010_0000_0000_0000
  pub grid_middle : grid_point four 8 ≡ zero
  pub grid_last : grid_point four 16 ≡ four
  -- the tolerance from 1e-3: 1e-8; from 1e-9: 1e-12
  pub tolerance_loose : eta_tolerance (word 0x3f50_624d_d2f1_a9fc) ≡ word 0x3e45_798e_e230_8c3a
  pub tolerance_tight : eta_tolerance (word 0x3e11_2e0b_e826_d695) ≡ word 0x3d71_9799_812d_ea11
  -- eta_bound 16 passes, the next float gets 3; whatever max_evaluations is
  pub bound_16 : (most : ℕ) → checks (settings_with (word 0x4030_0000_0000_0000) most) (1 ∷ []) room first_check ≡ Ok tt
  pub bound_next : (most : ℕ) → checks (settings_with (word 0x4030_0000_0000_0001) most) (1 ∷ []) room first_check ≡ Err (Refused 3)
  -- what the program prints of the example
  pub printed : output example ≡ example_text
  -- value 1000, additive 1, proportional 0, base 0, slope 1
  pub printed_far : output far ≡ bytes "R 13 0 -\n"
  pub printed_empty : output [] ≡ bytes "R 1 - -\n"
  -- with the program's own setup `output_with` is the program's output, whatever it reads
  pub own_settings : settings_with four 10000 ≡ settings
  pub with_its_own : (input : List ℕ) → output_with settings input ≡ output input
  -- the example with eta_bound 16 and the next float
  pub printed_bound_16 : output_with (settings_with (word 0x4030_0000_0000_0000) 10000) example ≡ example_text
  pub printed_bound_next : output_with (settings_with (word 0x4030_0000_0000_0001) 10000) example ≡ bytes "R 3 - -\n"
  -- max_evaluations 16 in the example gets 6, 17 passes
  pub printed_16 : output_with (settings_with four 16) example ≡ bytes "R 6 0 -\n"
  pub printed_17 : output_with (settings_with four 17) example ≡ example_text
  -- a session with two effects and eta_bound 2 finds its mode after 25 evaluations: its questions, objective, tally, and work, warm and
  -- result words; the same objective again, with that mode for its warm start, has it from kept evaluations alone
  pub session_found : session two first_value 2 ≡ found to_mode ∷ found [] ∷ []
  -- with eta_bound 1 it gets 13 after 4 evaluations
  pub session_13 : session one first_value 1 ≡ refused_after 13 4 to_bound ∷ []
  -- with sensitivities of 2^24 for both effects the curvature at zero has no inverse: 16
  pub session_16 : session two steep 1 ≡ refused_after 16 1 (asked 0 0 0x3ff0_0000_0000_0000 0x3ff0_0000_0000_0000 ∷ []) ∷ []
