-- A host's sessions with two effects, worked: setup, one objective or the same again, and a simulator's reply to each question.
--
-- One subject has one observation: value 3, additive 1/2, proportional 0. Theta is (1, 1), omega (1, 1/2; 1/2, 1), and K and
-- max_evaluations are 25.
use Rattle.std.specs.Prelude.{List, [], ◌∷◌, ℕ, zero, suc, eqb, Float, get_or, None}
use Rattle.float64.specs.Arithmetic.{word, half, one}
use Rattle.float64.specs.Pick.{pick}
use Rattle.likelihood.specs.declared.population_focei.Observation.{Observation}
use Rattle.words.specs.Words.{zeros}
use Rattle.setup.specs.declared.Setup.{Setup}
use Rattle.setup.specs.declared.Parameters.{Parameters}
use Rattle.session.specs.Session.{Call, objective, reply, no_tally}
use Rattle.host_calls.specs.Hosting.{Out, setup_over, call_over}
use Rattle.state_words.specs.SessionWords.{state_size}

-- ---- what the host gives, but for eta_bound and the simulator

unfoldable pub setup_with : Float → Setup
setup_with eta_bound = record {
  effects = 2;
  omega00 = one;
  omega01 = half;
  omega10 = half;
  omega11 = one;
  eta_bound = eta_bound;
  gradient_tolerance = word 0x3f1a_36e2_eb1c_432d;
  width = 1;
  k = 25;
  additive_sd = None;
  output_budget = 3;
  max_evaluations = 25;
}

unfoldable pub parameters : Parameters
parameters = record { theta = record { first = one; second = one }; omega = one; additive_sd = None }

unfoldable pub observations : List Observation
observations = record { output = 0; row = 0; value = word 0x4008_0000_0000_0000; additive = half; proportional = word 0 } ∷ []

-- ---- simulators: from the words of both individual values to a row at time 0, pre

-- the first individual value, with derivatives 1 and 0, so that the second eta moves by omega alone
unfoldable pub first_value : ℕ → ℕ → List ℕ
first_value individual second = 0 ∷ 0 ∷ individual ∷ 0x3ff0_0000_0000_0000 ∷ 0 ∷ []

-- always 0, with derivatives 2^24 and 2^24
unfoldable pub steep : ℕ → ℕ → List ℕ
steep individual second = 0 ∷ 0 ∷ 0 ∷ 0x4170_0000_0000_0000 ∷ 0x4170_0000_0000_0000 ∷ []

-- ---- what the host sees of an objective: its questions in order, its end, and what its last call left

pub record Seen : Type 0 where
  pub questions : List (List ℕ)
  pub end : List ℕ
  pub evaluations : ℕ
  pub cached_rows : ℕ
  pub work : List ℕ
  pub warm : List ℕ
  pub results : List ℕ

-- the questions, and all that the last call left
pub record Played : Type 0 where
  pub questions : List (List ℕ)
  pub last : Out

unfoldable pub seen : Played → Seen
seen p =
    let o = p.last in
    record {
      questions = p.questions;
      end = o.told.answer;
      evaluations = o.told.done.tally.calls.0;
      cached_rows = o.told.done.tally.cached_rows.0;
      work = o.work;
      warm = o.warm;
      results = o.results;
    }

-- ---- the calls

module _ (eta_bound : Float) (simulator : ℕ → ℕ → List ℕ) where
  -- setup, lent zeros: `state_size` words for the state, 5 for an answer, 24 K for kept evaluations, 12 work words, 2 warm words, 5 results
  unfoldable pub opened : Out
  opened =
      setup_over (setup_with eta_bound) (1 ∷ []) observations no_tally (zeros state_size) (zeros 5) (zeros 600) (zeros 12) (zeros 2)
      (zeros 5)

  -- a call, lent what the one before left
  unfoldable pub after : Out → Call → Out
  after o c =
      call_over (setup_with eta_bound) (1 ∷ []) observations o.told.done.tally o.told.state o.told.answer
      o.cache o.work o.warm o.results c

  -- a question begins with 0, and has the individual values in its last two words: it is replied to, at most so many times
  unfoldable pub replies : ℕ → Out → Played
  replies zero o = record { questions = []; last = o }
  replies (suc left) o =
      let answer = o.told.answer in
      pick (eqb (get_or answer 0 0) 0)
      (let rest = replies left (after o (reply (simulator (get_or answer 3 0) (get_or answer 4 0)))) in
      record { questions = answer ∷ rest.questions; last = rest.last })
      (record { questions = []; last = o })

  -- so many objectives, one after the other
  unfoldable pub objectives : ℕ → Out → List Seen
  objectives zero o = []
  objectives (suc n) o = let p = replies 100 (after o (objective parameters)) in seen p ∷ objectives n p.last

  unfoldable pub session : ℕ → List Seen
  session n = objectives n opened

-- ---- an answer's words

-- a question: eta, second eta, and both individual values
abbrev pub asked : ℕ → ℕ → ℕ → ℕ → List ℕ
asked eta second_eta individual second = 0 ∷ eta ∷ second_eta ∷ individual ∷ second ∷ []

abbrev pub finished : ℕ → List ℕ
finished value = 1 ∷ value ∷ 0 ∷ 0 ∷ 0 ∷ []

-- a refusal with document 01's number, at subject 0
abbrev pub refused_with : ℕ → List ℕ
refused_with number = 2 ∷ number ∷ 1 ∷ 0 ∷ 0 ∷ []

-- ---- with `first_value` and eta_bound 2 the mode is (1.0675448747341263, 0.5337724373670631), had from the start (1, 0)

unfoldable pub to_mode : List (List ℕ)
to_mode =
    -- zero; it is the warm start too
    asked 0 0 0x3ff0_0000_0000_0000 0x3ff0_0000_0000_0000
    -- from there: the trial (1.6, 0.8) is not taken, its half (0.8, 0.4) is, and so are five more; the start zero goes the same way
    -- through kept evaluations
    ∷ asked 0x3ff9_9999_9999_999a 0x3fe9_9999_9999_999a 0x4013_cfe7_bb5b_37ec 0x4001_cde8_66fe_46e9
    ∷ asked 0x3fe9_9999_9999_999a 0x3fd9_9999_9999_999a 0x4001_cde8_66fe_46e9 0x3ff7_de83_92fb_bfe0
    ∷ asked 0x3ff1_7c38_9080_90b7 0x3fe1_7c38_9080_90b7 0x4007_dc8f_6530_f014 0x3ffb_a1fd_42ea_2ff5
    ∷ asked 0x3ff1_18fc_9d59_c002 0x3fe1_18fc_9d59_c002 0x4007_4a58_865c_f8f8 0x3ffb_4cd0_abc4_eff3
    ∷ asked 0x3ff1_14cc_6478_6371 0x3fe1_14cc_6478_6371 0x4007_4440_8a9c_bb9a 0x3ffb_493e_29ca_4193
    ∷ asked 0x3ff1_14ab_03d0_2d44 0x3fe1_14ab_03d0_2d44 0x4007_4410_017c_1f20 0x3ffb_4921_b3e5_d50d
    ∷ asked 0x3ff1_14a9_fdcc_b727 0x3fe1_14a9_fdcc_b727 0x4007_440e_847c_9cb4 0x3ffb_4920_d47c_211d
    -- the start (1, 0)
    ∷ asked 0x3ff0_0000_0000_0000 0 0x4005_bf0a_8b14_576a 0x3ff0_0000_0000_0000
    ∷ asked 0x3ff1_148f_e52f_b2ec 0x3fe1_148f_e52f_b2ec 0x4007_43e8_9239_8fbc 0x3ffb_490a_941d_cc2b
    ∷ asked 0x3ff1_14a9_2916_7020 0x3fe1_14a9_2916_7020 0x4007_440d_4f2d_d6f3 0x3ffb_4920_1f1c_3d7e
    ∷ asked 0x3ff1_14a9_ef3f_ed86 0x3fe1_14a9_ef3f_ed86 0x4007_440e_6f54_5759 0x3ffb_4920_c814_16e7
    -- the start (-1, 0): a trial is cut to the bound, 2, and not taken
    ∷ asked 0xbff0_0000_0000_0000 0 0x3fd7_8b56_362c_ef38 0x3ff0_0000_0000_0000
    ∷ asked 0x4000_0000_0000_0000 0x3ff1_4b19_b064_022e 0x401d_8e64_b8d4_ddae 0x4007_93bd_e287_bdc9
    ∷ asked 0x3fe2_9633_60c8_045e 0x3fe1_4b19_b064_022e 0x3ffc_99b9_8edd_7895 0x3ffb_77b3_0b3f_01fa
    ∷ asked 0x3ff2_af26_bc0c_24f8 0x3fe2_af26_bc0c_24f8 0x4009_b7e2_ff93_6aa0 0x3ffc_b00f_0ece_8bd6
    ∷ asked 0x3ff1_32fa_9a92_71ce 0x3fe1_32fa_9a92_71ce 0x4007_704d_34f3_371d 0x3ffb_6306_620b_6e7c
    ∷ asked 0x3ff1_15b1_2073_06fa 0x3fe1_15b1_2073_06fa 0x4007_458d_31d8_50ec 0x3ffb_4a01_36a7_fdbd
    ∷ asked 0x3ff1_14b2_0dd5_f01c 0x3fe1_14b2_0dd5_f01c 0x4007_441a_3dd8_4ac8 0x3ffb_4927_b471_a180
    ∷ asked 0x3ff1_14aa_3509_74e9 0x3fe1_14aa_3509_74e9 0x4007_440e_d4ce_e24a 0x3ffb_4921_0395_9c9e
    -- the start (0, 1): its first trial, (1.6, 0.8), is a kept one and not taken, and the last four are kept ones
    ∷ asked 0 0x3ff0_0000_0000_0000 0x3ff0_0000_0000_0000 0x4005_bf0a_8b14_576a
    ∷ asked 0x3fe9_9999_9999_999a 0x3fec_cccc_cccc_cccd 0x4001_cde8_66fe_46e9 0x4003_ad44_655c_78bc
    ∷ asked 0x3ff1_7c38_9080_90b7 0x3fe1_7c38_9080_90b8 0x4007_dc8f_6530_f014 0x3ffb_a1fd_42ea_2ff6
    -- the start (0, -1): likewise, and the last five are kept ones
    ∷ asked 0 0xbff0_0000_0000_0000 0x3ff0_0000_0000_0000 0x3fd7_8b56_362c_ef38
    ∷ asked 0x3fe9_9999_9999_999a 0xbfb9_9999_9999_9998 0x4001_cde8_66fe_46e9 0x3fec_f46d_99d5_2b3b
    ∷ []

-- the objective is 3.337558322383676; then the mode, its negative log likelihood, and the predictions at eta zero and at the mode
unfoldable pub found : List (List ℕ) → Seen
found questions = record {
  questions = questions;
  end = finished 0x400a_b351_c719_0b4a;
  evaluations = 25;
  cached_rows = 25;
  work = zeros 12;
  warm = 0x3ff1_14a9_ef3f_ed86 ∷ 0x3fe1_14a9_ef3f_ed86 ∷ [];
  results = 0x3ff1_14a9_ef3f_ed86 ∷ 0x3fe1_14a9_ef3f_ed86 ∷ 0x3fcf_0ea6_5adc_0878 ∷ 0x3ff0_0000_0000_0000 ∷ 0x4007_440e_6f54_5759 ∷ [];
}

-- ---- refusals, which leave the warm and result words as they were

unfoldable pub refused_after : ℕ → ℕ → List (List ℕ) → Seen
refused_after number evaluations questions = record {
  questions = questions;
  end = refused_with number;
  evaluations = evaluations;
  cached_rows = evaluations;
  work = zeros 12;
  warm = zeros 2;
  results = zeros 5;
}

-- with `first_value` and eta_bound 1 each trial is cut to the bound
unfoldable pub to_bound : List (List ℕ)
to_bound =
    asked 0 0 0x3ff0_0000_0000_0000 0x3ff0_0000_0000_0000
    ∷ asked 0x3ff0_0000_0000_0000 0x3fe9_9999_9999_999a 0x4005_bf0a_8b14_576a 0x4001_cde8_66fe_46e9
    ∷ asked 0x3ff0_0000_0000_0000 0x3fe1_148f_e52f_b2ed 0x4005_bf0a_8b14_576a 0x3ffb_490a_941d_cc2c
    ∷ asked 0x3ff0_0000_0000_0000 0x3fe1_148f_e52f_b2ec 0x4005_bf0a_8b14_576a 0x3ffb_490a_941d_cc2b
    ∷ []
