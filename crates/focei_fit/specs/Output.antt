-- Document 01's program: from the bytes of its records to the bytes that it prints.
use Rattle.std.specs.Prelude.{List, ◌++◌, ℕ, zero, suc, ◌+◌, ◌*◌, length, drop, replicate, Err, None, Ok, Result}
use Rattle.float64.specs.Answer.{Answer, given, refused}
use Rattle.float64.specs.Arithmetic.{word, one}
use Rattle.words.specs.Written.{Written, written}
use Rattle.matrix.specs.declared.Pair.{Pair}
use Rattle.setup.specs.declared.Setup.{Setup}
use Rattle.setup.specs.declared.Parameters.{Parameters}
use Rattle.search.specs.declared.Tally.{Tally}
use Rattle.search.specs.declared.Place.TheVariants.{Nowhere}
use Rattle.search.specs.declared.Step.{Step}
use Rattle.search.specs.declared.Step.TheVariants.{Asked, Finished, Refused}
use Rattle.machine.specs.Machine.{Ran}
use Rattle.population.specs.Kept.{words}
use Rattle.population.specs.Population.{rows_of}
use Rattle.session.specs.Session.{Held, objective, reply as rows, no_tally}
use Rattle.session.specs.Calls.{held_of, state_of, Setting, shrinkage}
use Rattle.session.specs.declared.State.{State}
use Rattle.program_calls.specs.Recorded.{call_of, open_of}
use Rattle.focei_records.specs.Records.{record_bytes, most_records, cohort, counts, observations, reply}
use Rattle.focei_text.specs.Report.{finished, refusal_line}
use Rattle.search.specs.declared.Refusal.{Refusal}

-- the evaluations of a session, and as many answers: each question raises them
abbrev pub most_evaluations : ℕ
most_evaluations = 10000

-- omega 1, eta_bound 4, tolerance 1e-4, 10,000 evaluations, K 64, output budget 10,000, width 1, one effect
unfoldable pub settings : Setup
settings = record {
  effects = 1;
  omega00 = one;
  omega01 = word 0;
  omega10 = word 0;
  omega11 = word 0;
  eta_bound = word 0x4010_0000_0000_0000;
  gradient_tolerance = word 0x3f1a_36e2_eb1c_432d;
  width = 1;
  k = 64;
  additive_sd = None;
  output_budget = 10000;
  max_evaluations = most_evaluations;
}

-- theta 1
unfoldable pub first_parameters : Parameters
first_parameters = record { theta = record { first = one; second = word 0 }; omega = one; additive_sd = None }

-- ---- a session of these records, whose counts and observations are in words

-- the objective begins
unfoldable pub begun : List ℕ → List ℕ → Held words → Ran (Held words) Step
begun counts observations h = call_of settings counts observations (objective first_parameters) h

unfoldable pub when_asked : (Pair → Ran (Held words) Step) → Ran (Held words) Step → Step → Ran (Held words) Step
when_asked go r (Asked eta individual) = go individual
when_asked go r (Finished x) = r
when_asked go r (Refused why) = r

module _ (input counts observations : List ℕ) where
  -- a question is answered with the simulator's rows of the subject that is searched
  unfoldable pub replied : Held words → Pair → Ran (Held words) Step
  replied h individual =
      let at = h.whole.progress in
      call_of settings counts observations (rows (reply input at.first (rows_of counts at.subject) individual.first)) h

  -- question and answer, at most so many times
  unfoldable pub play : ℕ → Ran (Held words) Step → Ran (Held words) Step
  play zero r = r
  play (suc left) r = when_asked (λ individual. play left (replied r.state individual)) r r.answer

-- ---- what is printed

-- of the end; a question that is left after the last answer would be printed as 19, but there is none (focei_theorems/specs/Claim.antt)
unfoldable pub ended : List ℕ → State → Tally → List ℕ → Step → List ℕ
ended counts state tally results (Asked eta individual) = refusal_line 19 Nowhere
ended counts state tally results (Finished x) = finished x tally.calls.0 (shrinkage state (length counts)) counts results
ended counts state tally results (Refused why) = refusal_line why.number why.place

unfoldable pub end_of : List ℕ → Ran (Held words) Step → List ℕ
end_of counts r = ended counts (state_of r.state) r.state.whole.tally r.state.whole.results r.answer

unfoldable pub when_opened : List ℕ → List ℕ → List ℕ → List ℕ → Setting → Result State Refusal → List ℕ
when_opened input counts observations results s (Ok state) =
    end_of counts
    (play input counts observations most_evaluations
    (begun counts observations (held_of state s.begun.tally s.cache s.work s.warm results)))
when_opened input counts observations results s (Err e) = refusal_line e.number e.place

-- with the session's words as they are lent to setup
unfoldable pub fitted : List ℕ → List ℕ → List ℕ → List ℕ → List ℕ → List ℕ → List ℕ → List ℕ
fitted input counts observations cache work warm results =
    let s = open_of settings counts observations no_tally cache work warm results in
    when_opened input counts observations results s s.begun.opening

-- 24 K words for the kept evaluations; 12 work words, a warm start and five results for each of 256 records
unfoldable pub lent : List ℕ → ℕ → List ℕ
lent input subjects =
    fitted input (counts input subjects) (observations input) (replicate 1536 0) (replicate 3072 0) (replicate 256 0) (replicate 1280 0)

unfoldable pub when_records : List ℕ → Answer ℕ → List ℕ
when_records input (given n) = lent input n
when_records input (refused number) = refusal_line number Nowhere

unfoldable pub output : List ℕ → List ℕ
output input = when_records input (cohort input)

-- ---- what is read and written

-- the bytes that are read: 256 records, and one byte more, so that longer input is seen to be too long
abbrev pub input_bytes : ℕ
input_bytes = most_records * record_bytes + 1

-- the text whole at the front of what is lent for it, the rest as it was; and its length
unfoldable pub printed : List ℕ → List ℕ → Written ℕ
printed input out = let text = output input in written (length text) (text ++ drop (length text) out)
