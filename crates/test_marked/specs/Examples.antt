-- Document 01's examples of its program: what is read and what is printed, also with another eta_bound or max_evaluations.
use Rattle.std.specs.Prelude.{List, [], ◌∷◌, ◌++◌, ℕ, zero, suc, ◌/◌, ◌%◌, Float, replicate, Err, Ok, Result}
use Prim.Native.Char.{code}
use Prim.Native.String.{String}
use Prim.Native.String as Text
use Rattle.float64.specs.Answer.{Answer, given, refused}
use Rattle.matrix.specs.declared.Pair.{Pair}
use Rattle.setup.specs.declared.Setup.{Setup}
use Rattle.setup.specs.declared.Lent.{Lent}
use Rattle.search.specs.declared.Place.TheVariants.{Nowhere}
use Rattle.search.specs.declared.Step.{Step}
use Rattle.machine.specs.Machine.{Ran}
use Rattle.population.specs.Kept.{words}
use Rattle.population.specs.Population.{rows_of}
use Rattle.session.specs.Session.{Held, objective, reply as rows, no_tally}
use Rattle.session.specs.Calls.{held_of, Setting}
use Rattle.program_calls.specs.Recorded.{call_of, open_of}
use Rattle.focei_records.specs.Records.{cohort, counts, observations, reply}
use Rattle.focei_text.specs.Report.{refusal_line}
use Rattle.focei_fit.specs.Output.{most_evaluations, settings, first_parameters, when_asked, end_of}
use Rattle.session.specs.declared.State.{State}
use Rattle.search.specs.declared.Refusal.{Refusal}

-- ---- bytes

-- a text's characters by their codes
unfoldable pub bytes : String → List ℕ
bytes Text.[] = []
bytes (Text.◌∷◌ c rest) = code c ∷ bytes rest

-- so many bytes of a number, the lowest first
unfoldable pub little : ℕ → ℕ → List ℕ
little zero w = []
little (suc left) w = w % 256 ∷ little left (w / 256)

-- a record: subject, reserved word 0, then the bits of value, additive, proportional, base and slope
unfoldable pub record_of : ℕ → ℕ → ℕ → ℕ → ℕ → ℕ → List ℕ
record_of subject value additive proportional base slope =
    little 4 subject ++ little 4 0 ++ little 8 value ++ little 8 additive ++ little 8 proportional ++ little 8 base ++ little 8 slope

-- ---- the program with another setup: `output` of the crate focei_fit, whose setup is `settings`

module _ (setup : Setup) (input : List ℕ) where
  module _ (counts observations : List ℕ) where
    -- the simulator's rows for a question
    unfoldable pub replied : Held words → Pair → Ran (Held words) Step
    replied h individual =
        let at = h.whole.progress in
        call_of setup counts observations (rows (reply input at.first (rows_of counts at.subject) individual.first)) h

    unfoldable pub play : ℕ → Ran (Held words) Step → Ran (Held words) Step
    play zero r = r
    play (suc left) r = when_asked (λ individual. play left (replied r.state individual)) r r.answer

    unfoldable pub when_opened : List ℕ → Setting → Result State Refusal → List ℕ
    when_opened results s (Ok state) =
        end_of counts
        (play most_evaluations
        (call_of setup counts observations (objective first_parameters)
        (held_of state s.begun.tally s.cache s.work s.warm results)))
    when_opened results s (Err e) = refusal_line e.number e.place

    unfoldable pub fitted : List ℕ → List ℕ → List ℕ → List ℕ → List ℕ
    fitted cache work warm results =
        let s = open_of setup counts observations no_tally cache work warm results in
        when_opened results s s.begun.opening

  unfoldable pub when_records : Answer ℕ → List ℕ
  when_records (given n) =
      fitted (counts input n) (observations input) (replicate 1536 0) (replicate 3072 0) (replicate 256 0) (replicate 1280 0)
  when_records (refused number) = refusal_line number Nowhere

  unfoldable pub output_with : List ℕ
  output_with = when_records (cohort input)

-- the program's setup with another eta_bound and max_evaluations
unfoldable pub settings_with : Float → ℕ → Setup
settings_with eta_bound most = record {
  effects = settings.effects;
  omega00 = settings.omega00;
  omega01 = settings.omega01;
  omega10 = settings.omega10;
  omega11 = settings.omega11;
  eta_bound = eta_bound;
  gradient_tolerance = settings.gradient_tolerance;
  width = settings.width;
  k = settings.k;
  additive_sd = settings.additive_sd;
  output_budget = settings.output_budget;
  max_evaluations = most;
}

-- ---- the examples

-- one record 0, 0, then 0, 1, 0, 0, 0
unfoldable pub example : List ℕ
example = record_of 0 0 0x3ff0_0000_0000_0000 0 0 0

unfoldable pub example_text : List ℕ
example_text = bytes "O 0000000000000000 17\nS 0 0000000000000000\nF 0 0 0000000000000000 0000000000000000\nH 3ff0000000000000\n"

-- value 1000, additive 1, proportional 0, base 0, slope 1
unfoldable pub far : List ℕ
far = record_of 0 0x408f_4000_0000_0000 0x3ff0_0000_0000_0000 0 0 0x3ff0_0000_0000_0000

-- the program's words, as they are lent for one observation
abbrev pub room : Lent
room = record { observations = 1; work = 3072; cache = 1536; warm = 256; results = 1280 }
