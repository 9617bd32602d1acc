-- What is asked for and what is kept, in every session: a question has the individual values of the objective's own theta, and a reply's
-- evaluation is kept under its point, without the prior.
use Rattle.std.specs.Prelude.{◌≡◌, List, [], ℕ, ◌≤◌, eqb, get_or, take, drop, Err, Float, None, Ok, Option, Some}
use Rattle.std.specs.Float.{binary64}
use Rattle.std.specs.Float.Ieee.{to_bits}
use Rattle.float64.specs.Arithmetic.{◌*ᶠ◌}
use Rattle.float64.specs.Pick.{pick}
use Rattle.libm.specs.Exp.{exp}
use Rattle.matrix.specs.declared.Pair.{Pair}
use Rattle.likelihood.specs.declared.population_focei.Observation.{Observation}
use Rattle.cache.specs.Kept.{Entry, Evaluated, cached_rows, appended, Stands}
use Rattle.subject.specs.Claim.{reply_rows}
use Rattle.subject.specs.Subject.{finish, Evaluation}
use Rattle.subject.specs.declared.Sums.{Sums}
use Rattle.setup.specs.declared.Setup.{Setup}
use Rattle.setup.specs.declared.Lent.{Lent}
use Rattle.search.specs.Subjects.{fit_of}
use Rattle.search.specs.declared.Step.TheVariants.{Asked}
use Rattle.machine.specs.Machine.{Machine, call, set, Act, run}
use Rattle.population.specs.Kept.{words}
use Rattle.session.specs.Session.{Held, Call, objective, reply, failure, evaluated, session, opened}
use Rattle.session_theorems.specs.LetIn.{wanted_point}
use Rattle.session_theorems.specs.Setup.{Granted}
use Rattle.subject.specs.declared.EvaluationError.TheVariants as E

-- the words of an optional override: whether there is one, and which
abbrev pub has_override : Option Float → ℕ
has_override None = 0
has_override (Some additive) = 1

abbrev pub override : Option Float → ℕ
override None = 0
override (Some additive) = to_bits binary64 additive

module _ (setup : Setup) (counts : List ℕ) (observations : List Observation) where
  abbrev pub M : Machine
  M = session words setup counts observations

  -- the words of the kept evaluations stand for this list, the oldest first
  abbrev pub Keeping : Held words → List Entry → Type 0
  Keeping h l = Stands h.whole.kept.words setup.k h.whole.kept.order l

  -- with two effects this word, else that
  abbrev pub second : ℕ → ℕ → ℕ
  second two one = pick (eqb setup.effects 2) two one

  -- document 01's key: subject, bits of theta, of eta, and with one effect of the optional override. The terms are the bits of the sums
  -- that the reply came to, which have no prior.
  abbrev pub kept_of : List ℕ → Held words → Sums → Evaluated
  kept_of said h sums =
      let p = h.whole.progress in
      let theta = h.parameters.theta in
      let eta = wanted_point setup counts observations h in
      let sd = h.parameters.additive_sd in
      record {
        key = record {
          subject = p.subject;
          theta0 = to_bits binary64 theta.first;
          theta1 = second (to_bits binary64 theta.second) 0;
          eta0 = to_bits binary64 eta.first;
          eta1 = second (to_bits binary64 eta.second) 0;
          has_additive = second 0 (has_override sd);
          additive = second 0 (override sd);
        };
        terms = record {
          nll = to_bits binary64 sums.nll;
          score0 = to_bits binary64 sums.score.first;
          score1 = to_bits binary64 sums.score.second;
          i00 = to_bits binary64 sums.information.m00;
          i01 = to_bits binary64 sums.information.m01;
          i10 = to_bits binary64 sums.information.m10;
          i11 = to_bits binary64 sums.information.m11;
        };
        n = get_or counts p.subject 0;
        rows = reply_rows setup.width setup.effects said (take (get_or counts p.subject 0) (drop p.first observations));
        from = 0;
      }

  -- how the evaluation of a reply ends
  abbrev pub end_of : List ℕ → Held words → Evaluation
  end_of said h =
      let end = evaluated words setup counts observations (fit_of setup h.parameters) said h.whole.progress h.whole.work in
      finish end.evaluation

  -- one that comes to its end is kept; one that is refused is not
  abbrev pub with_reply : List ℕ → Held words → List Entry → Evaluation → List Entry
  with_reply said h l (Ok sums) = appended setup.k l (kept_of said h sums)
  with_reply said h l (Err (E.Refused number)) = l
  with_reply said h l (Err (E.RefusedAt number n)) = l

  -- the list after a call
  abbrev pub kept_by : Call → Held words → List Entry → List Entry
  kept_by (objective parameters) h l = l
  kept_by (reply said) h l = pick h.whole.progress.awaits (with_reply said h l (end_of said h)) l
  kept_by failure h l = l

  pub record Evaluates (h : Held words) : Type 0 where
    -- after one call more the words stand for the list with its reply, if it was awaited
    pub keeps : (c : Call) (l : List Entry) → Keeping h l → Keeping (call M c h).state (kept_by c h l)
    -- what the host sets between calls alters none of them
    pub sets : (warm : List ℕ) (l : List Entry) → Keeping h l → Keeping (set M warm h) l
    -- the tally's kept rows are those of the list, and at most K
    pub rows : (l : List Entry) → Keeping h l → h.whole.tally.cached_rows.0 ≡ cached_rows l
    pub few : h.whole.tally.cached_rows.0 ≤ setup.k
    -- a question's individual values: theta · exp(eta)
    pub asks : (c : Call) (eta individual : Pair) → (call M c h).answer ≡ Asked eta individual
        → let theta = (call M c h).state.parameters.theta in
        (individual.first ≡ theta.first *ᶠ exp eta.first)
        × (setup.effects ≡ 2 → individual.second ≡ theta.second *ᶠ exp eta.second)

-- in the session that an accepted setup opened: at first nothing is kept, and after any list of calls the above holds
abbrev pub EveryEvaluation : Type 0
EveryEvaluation = (setup : Setup) (counts : List ℕ) (observations : List Observation) (lent : Lent) (results : List ℕ)
    → Granted setup counts observations lent results
    → let begun = opened words setup counts lent results in
    Keeping setup counts observations begun []
    × ((acts : List (Act (M setup counts observations)))
    → Evaluates setup counts observations (run (M setup counts observations) begun acts))
