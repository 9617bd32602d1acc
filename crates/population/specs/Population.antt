-- A step of an objective, over any store of kept evaluations S.
use Rattle.std.specs.Prelude.{ℕ, ◌+◌, ◌*◌, ◌%◌, ◌^◌, Bool, false, List, length, ◌==◌, nat_lt, slice_index, slice_index_or, slice_set}
use Rattle.std.specs.Prelude.{to_bits, Option, None, Some}
use Rattle.std.specs.Float.{binary64}
use Rattle.float64.specs.Arithmetic.{◌+ᶠ◌, ◌*ᶠ◌, word}
use Rattle.float64.specs.Pick.{pick}
use Rattle.float64.specs.Answer.{Answer, given, refused}
use Rattle.matrix.specs.declared.Pair.{Pair}
use Rattle.subject.specs.declared.Sums.{Sums}
use Rattle.words.specs.Words.{zeros}
use Rattle.work.specs.Work.{most_rows, block, move_rows, is_same_grid, result_written, fitted_written}
use Rattle.machine.specs.Machine.{Moved, on, halt, Ran}
use Rattle.search.specs.Subjects as B
use Rattle.search.specs.declared.Tally.{Tally}
use Rattle.search.specs.declared.Fit.{Fit}
use Rattle.search.specs.declared.Progress.{Progress}
use Rattle.search.specs.declared.Place.TheVariants.{Nowhere, Subject}
use Rattle.search.specs.declared.Step.{Step}
use Rattle.search.specs.declared.Step.TheVariants.{Refused}
use Rattle.search.specs.declared.Halted.{Halted}
use Rattle.search.specs.declared.Mode.{Mode}
use Rattle.cache.specs.Cache.{Cache}
use Rattle.population.specs.Kept.{Recalled, Store, words}
use Rattle.std.specs.declared.ops.ControlFlow.{ControlFlow}
use Rattle.std.specs.declared.ops.ControlFlow.TheVariants.{Break, Continue}
use Rattle.mode.specs.declared.Request.{Request}
use Rattle.mode.specs.declared.Request.TheVariants as Wants

-- ---- lent words

-- a subject's number of observations, at most 100,000: more are refused by check 1
unfoldable pub rows_of : List ℕ → ℕ → ℕ
rows_of counts subject = let n = slice_index_or counts subject 0 in pick (nat_lt n most_rows) n most_rows

-- the warm starts: a word for each subject, or two with two effects
unfoldable pub warm_of : List ℕ → ℕ → ℕ → Pair
warm_of warm effects subject =
    pick (effects == 2) (record { first = word (slice_index warm (2 * subject)); second = word (slice_index warm (2 * subject + 1)) })
    (record { first = word (slice_index warm subject); second = word 0 })

unfoldable pub warm_stored : ℕ → ℕ → Pair → List ℕ → List ℕ
warm_stored effects subject eta warm =
    pick (effects == 2)
    (slice_set (slice_set warm (2 * subject) (to_bits binary64 eta.first)) (2 * subject + 1) (to_bits binary64 eta.second))
    (slice_set warm subject (to_bits binary64 eta.first))

-- ---- a point

-- something with the work words
pub record Worked (X : Type 0) : Type 0 where
  pub value : X
  pub work : List ℕ

abbrev pub worked : {X : Type 0} → X → List ℕ → Worked X
worked x work = record { value = x; work = work }

-- an evaluated point: the search goes on, and the rows of the trial block go where it has them
unfoldable pub take : Fit → ℕ → Progress → Pair → Sums → List ℕ → Worked Progress
take fit rows progress eta sums work =
    let after = B.advance_by fit progress eta sums in
    worked after.progress (move_rows rows after.sources work)

-- a turn goes on, without an evaluation, or breaks off with an answer
abbrev pub Turned : Type 0
Turned = ControlFlow Halted Progress

-- a kept evaluation answers, or the point is asked for
unfoldable pub answered : Fit → ℕ → Progress → Tally → Pair → List ℕ → Option Recalled → Worked Turned
answered fit rows progress tally eta work (Some r) =
    let t = take fit rows progress eta (B.sums_of r.terms) r.work in
    worked (Continue t.value) t.work
answered fit rows progress tally eta work None = worked (Break (B.ask fit progress tally eta)) work

unfoldable pub at_point : (S : Store) → Fit → List ℕ → Progress → Tally → Pair → S.Kept → List ℕ → Worked Turned
at_point S fit counts progress tally eta kept work =
    let rows = rows_of counts progress.subject in
    answered fit rows progress tally eta work (S.recall kept fit.k (B.key_of fit progress.subject eta) rows work (block rows 3))

-- ---- a mode

-- the number after n, as a word holds it
abbrev pub raised : ℕ → ℕ → ℕ
raised n by = (n + by) % 2 ^ 64

-- it is added to the objective; then the next subject, or the end
unfoldable pub next_subject : Fit → List ℕ → Progress → Tally → Mode → ℕ → List ℕ → List ℕ → Worked Turned
next_subject fit counts progress tally mode rows warm work =
    let ofv = progress.ofv +ᶠ mode.term in
    let squares = progress.eta_squares +ᶠ mode.eta.first *ᶠ mode.eta.first in
    let subject = raised progress.subject 1 in
    pick (nat_lt subject (length counts))
    (worked
    (Continue (B.begin_subject fit.effects subject (raised progress.first rows) (warm_of warm fit.effects subject) ofv squares))
    (zeros (length work)))
    (worked (Break (B.objective_of progress tally ofv squares)) work)

-- a turn with all that it may write
pub record Ended : Type 0 where
  pub turned : Turned
  pub work : List ℕ
  pub warm : List ℕ
  pub results : List ℕ

abbrev pub ended : Turned → List ℕ → List ℕ → List ℕ → Ended
ended t work warm results = record { turned = t; work = work; warm = warm; results = results }

-- 16, the warm start, 17, the results
abbrev pub closing_with : Fit → List ℕ → Progress → Tally → ℕ → List ℕ → List ℕ → List ℕ → Answer Mode → Ended
closing_with fit counts progress tally rows work warm results (refused number) =
    ended (Break (B.refused_by progress tally (B.refusal number (Subject progress.subject)))) work warm results
closing_with fit counts progress tally rows work warm results (given mode) =
    let stored = warm_stored fit.effects progress.subject mode.eta warm in
    let next = next_subject fit counts progress tally mode rows stored work in
    let fitted = fitted_written (length counts) progress.first work rows
    (result_written progress.subject mode.eta mode.nll results) in
    pick (is_same_grid work rows) (ended next.value next.work stored fitted)
    (ended (Break (B.refused_by progress tally (B.refusal 17 (Subject progress.subject)))) work stored results)

unfoldable pub closing : Fit → List ℕ → Progress → Tally → ℕ → List ℕ → List ℕ → List ℕ → Option Mode → Ended
closing fit counts progress tally rows work warm results c =
    closing_with fit counts progress tally rows work warm results (B.mode_answer c)

unfoldable pub at_mode : Fit → List ℕ → Progress → Tally → List ℕ → List ℕ → List ℕ → Ended
at_mode fit counts progress tally work warm results =
    let rows = rows_of counts progress.subject in
    closing fit counts progress tally rows work warm results (B.closed_by fit progress rows)

-- ---- a turn

unfoldable pub served_by : (S : Store) → Fit → List ℕ → Progress → Tally → S.Kept → List ℕ → List ℕ → List ℕ → Request Pair → Ended
served_by S fit counts progress tally kept work warm results (Wants.Point eta) =
    let p = at_point S fit counts progress tally eta kept work in
    ended p.value p.work warm results
served_by S fit counts progress tally kept work warm results Wants.Mode = at_mode fit counts progress tally work warm results
served_by S fit counts progress tally kept work warm results (Wants.Refused number) =
    ended (Break (B.refused_by progress tally (B.refusal number (Subject progress.subject)))) work warm results

unfoldable pub served : (S : Store) → Fit → List ℕ → Progress → Tally → S.Kept → List ℕ → List ℕ → List ℕ → Ended
served S fit counts progress tally kept work warm results =
    served_by S fit counts progress tally kept work warm results (B.wanted_by fit progress)

-- where the turn ends the objective the work words are cleared
unfoldable pub is_over : Turned → Bool
is_over (Continue progress) = false
is_over (Break halted) = B.is_over halted.step

unfoldable pub turned : (S : Store) → Fit → List ℕ → Progress → Tally → S.Kept → List ℕ → List ℕ → List ℕ → Ended
turned S fit counts progress tally kept work warm results =
    let e = served S fit counts progress tally kept work warm results in
    ended e.turned (pick (is_over e.turned) (zeros (length e.work)) e.work) e.warm e.results

-- ---- the loop

-- all that a step takes and gives
pub record Whole (S : Store) : Type 0 where
  pub progress : Progress
  pub tally : Tally
  pub kept : S.Kept
  pub work : List ℕ
  pub warm : List ℕ
  pub results : List ℕ

abbrev pub whole_of : (S : Store) → Progress → Tally → S.Kept → List ℕ → List ℕ → List ℕ → Whole S
whole_of S progress tally kept work warm results = record {
  progress = progress;
  tally = tally;
  kept = kept;
  work = work;
  warm = warm;
  results = results;
}

unfoldable pub moved : (S : Store) → Tally → S.Kept → List ℕ → List ℕ → List ℕ → Turned → Moved (Whole S) Step
moved S tally kept work warm results (Continue progress) = on (whole_of S progress tally kept work warm results)
moved S tally kept work warm results (Break h) = halt h.step (whole_of S h.progress h.tally kept work warm results)

unfoldable pub turn : (S : Store) → Fit → List ℕ → Whole S → Moved (Whole S) Step
turn S fit counts w =
    let e = turned S fit counts w.progress w.tally w.kept w.work w.warm w.results in
    moved S w.tally w.kept e.work e.warm e.results e.turned

-- the answer where the requests are used up, which no session comes to
abbrev pub spent : Step
spent = Refused (B.refusal 19 Nowhere)

-- the words, as the code has them
abbrev pub whole : Progress → Tally → Cache → List ℕ → List ℕ → List ℕ → Whole words
whole progress tally kept work warm results = whole_of words progress tally kept work warm results

abbrev pub ran : Halted → Cache → List ℕ → List ℕ → List ℕ → Ran (Whole words) Step
ran h kept work warm results = record { answer = h.step; state = whole h.progress h.tally kept work warm results }

-- ---- a reply

-- the evaluation is kept, then the search goes on with it
pub record Receipt (S : Store) : Type 0 where
  pub progress : Progress
  pub tally : Tally
  pub kept : S.Kept
  pub work : List ℕ

unfoldable pub receive : (S : Store) → Fit → List ℕ → Progress → Tally → Pair → Sums → S.Kept → List ℕ → Receipt S
receive S fit counts progress tally eta sums kept work =
    let rows = rows_of counts progress.subject in
    let after = S.keep kept fit.k (B.key_of fit progress.subject eta) (B.terms_of sums) rows work (block rows 3) in
    let t = take fit rows progress eta sums work in
    record {
      progress = t.value;
      tally = record { calls = tally.calls; cached_rows = record { 0 = S.rows after } };
      kept = after;
      work = t.work;
    }
