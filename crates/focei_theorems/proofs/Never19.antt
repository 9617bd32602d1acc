-- The program never prints 19: its session's calls keep to the rules, and then none gets 19. Assumes nothing.
use Rattle.std.specs.Prelude.{Err, Ok}
use mathlib.Core.Path.{◌≡◌, refl, ap, subst, ◌∙◌}
use mathlib.Core.List.{List, [], ◌∷◌, ◌++◌}
use Prim.Native.Nat.{ℕ, zero, suc, ◌+◌, ◌≤◌, ◌<◌}
use native.Mathlib.Omega.{arith}
use lib.Ieee.{of_bits, fits}
use lib.ListN.{length}
use Rattle.float64.specs.Answer.{Answer, given, refused}
use Rattle.float64.specs.Pick.{both}
use Rattle.matrix.specs.declared.Pair.{Pair}
use Rattle.likelihood.specs.declared.population_focei.Observation.{Observation}
use Rattle.setup.specs.Admission.{checks, Admission}
use Rattle.setup.specs.declared.Lent.{Lent}
use Rattle.search.specs.Subjects.{begin_subject, refusal}
use Rattle.search.specs.declared.Place.{Place}
use Rattle.search.specs.declared.Place.TheVariants.{Nowhere}
use Rattle.search.specs.declared.Step.{Step}
use Rattle.search.specs.declared.Step.TheVariants.{Asked, Finished, Refused}
use Rattle.search.specs.declared.Tally.{Tally}
use Rattle.machine.specs.Machine.{Machine, call, Act, calls, sets, set, run}
use Rattle.population.specs.Kept.{words}
use Rattle.session.specs.Calls.{lent_by, opening, opened_by}
use Rattle.session.specs.Session.{Held, Call, objective, reply as rows, no_tally, all_checked, session, opened}
use Rattle.session.specs.declared.State.{State}
use Rattle.session_theorems.specs.LetIn.{Ruled, LetIn}
use Rattle.session_theorems.specs.Setup.{Granted}
use Rattle.session_theorems.proofs.Entered.{Judged, counts_judged}
use Rattle.session_theorems.proofs.LetIn.{NumberOther, checks_other, let_in}
use Rattle.session_theorems.proofs.Plain.{Not19}
use Rattle.program_calls.specs.Recorded.{observations_of, call_of}
use Rattle.focei_records.specs.Records.{cohort_from, cohort}
use Rattle.focei_text.specs.Report.{refusal_line}
use Rattle.focei_fit.specs.Output.{most_evaluations, settings, first_parameters, begun, play, ended, end_of, when_opened, fitted, lent, when_records, output}
use Rattle.focei_theorems.specs.Claim.{Never19}
use Rattle.focei_theorems.proofs.Lines.{number_read, finished_other}
use Rattle.focei_theorems.proofs.Questions.{few_numbers, asks, refuses, ends}
use Rattle.setup.specs.declared.AdmissionError.TheVariants as A

-- ---- a session with one call more
module _ (M : Machine) where
  run_more : (s : M.State) (acts : List (Act M)) (c : M.Call) → run M s (acts ++ (calls c ∷ [])) ≡ (call M c (run M s acts)).state
  unfolding run
  run_more s [] c = refl
  run_more s (calls d ∷ acts) c = run_more (call M d s).state acts c
  run_more s (sets w ∷ acts) c = run_more (set M w s) acts c

-- ---- an answer that is printed otherwise
unfoldable Other : Step → Type 0
Other (Asked eta individual) = Unit
Other (Finished x) = Unit
Other (Refused why) = Not19 why.number × (why.number ≤ 19)

other_line : (number : ℕ) (place place' : Place) → Not19 number → number < 100 → refusal_line number place ≡ refusal_line 19 place' → ⊥
other_line number place place' other few e = other (number_read number 19 place place' few (omega arith) (omega arith) e)

other_text : (counts : List ℕ) (state : State) (tally : Tally) (results : List ℕ) (place' : Place) (a : Step)
    → ((eta individual : Pair) → a ≡ Asked eta individual → ⊥) → Other a → ended counts state tally results a ≡ refusal_line 19 place' → ⊥
unfolding Other ended
other_text counts state tally results place' (Asked eta individual) none other e = none eta individual refl
other_text counts state tally results place' (Finished x) none other e = finished_other _ _ _ _ _ 19 place' e
other_text counts state tally results place' (Refused why) none other e =
    let few = other.1 in other_line why.number why.place place' other.0 (omega (arith, few)) e

-- ---- the program's session: each call is accepted
module _ (input counts observations : List ℕ) (lent : Lent) (results : List ℕ) (granted : Granted settings counts (observations_of observations) lent results) where
  abbrev M : Machine
  M = session words settings counts (observations_of observations)

  abbrev s₀ : Held words
  s₀ = opened words settings counts lent results

  -- a call that keeps to the rules, somewhere in the session
  record Keeps (c : Call) (h : Held words) : Type 0 where
    acts : List (Act M)
    here : run M s₀ acts ≡ h
    ruled : Ruled settings counts (observations_of observations) c h

  again : (c : Call) (h : Held words) → Keeps c h → (eta individual : Pair) → (call_of settings counts observations c h).answer ≡ Asked eta individual
      → (said : List ℕ) → Keeps (rows said) (call_of settings counts observations c h).state
  again c h k eta individual e said = record {
    acts = k.acts ++ (calls c ∷ []);
    here = run_more M s₀ k.acts c ∙ ap (λ (g : Held words). (call M c g).state) k.here;
    ruled = (asks counts observations c h eta individual e).0;
  }

  answers : (c : Call) (h : Held words) → Keeps c h → Other (call_of settings counts observations c h).answer
  unfolding Other
  answers c h k = by (call_of settings counts observations c h).answer refl
    where
      let_in_here : LetIn settings counts (observations_of observations) h
      let_in_here = subst (LetIn settings counts (observations_of observations)) k.here (let_in settings counts (observations_of observations) lent results granted k.acts)

      by : (a : Step) → (call_of settings counts observations c h).answer ≡ a → Other a
      by (Asked eta individual) e = tt
      by (Finished x) e = tt
      by (Refused why) e = (
        λ z. let_in_here.never19 c k.ruled why.place (e ∙ ap (λ (n : ℕ). Refused (refusal n why.place)) z),
        refuses counts observations c h why.number why.place e,
      )

  first : Keeps (objective first_parameters) s₀
  unfolding run begin_subject
  first = record { acts = []; here = refl; ruled = refl }

  session_other : (place : Place) → end_of counts (play input counts observations most_evaluations (begun counts observations s₀)) ≡ refusal_line 19 place → ⊥
  unfolding end_of begun
  session_other place =
      let last = ends input counts observations Keeps Other again answers most_evaluations (objective first_parameters) s₀ first (omega arith) in
      other_text counts _ _ _ place _ last.0 last.1

-- ---- from setup on
module _ (input counts observations cache work warm results : List ℕ) (place : Place) where
  abbrev os : List Observation
  os = observations_of observations

  abbrev words_lent : Lent
  words_lent = lent_by (length os) (length cache) (length work) (length warm) (length results)

  abbrev admission : Admission
  admission = checks settings counts words_lent (all_checked settings counts os)

  grants : admission ≡ Ok tt → Granted settings counts os words_lent results
  unfolding settings of_bits fits
  grants e = record { bound = tt; limit = omega arith; many = refl; long = refl; passes = e }

  -- for what 1 to 5 say
  abbrev text : Admission → List ℕ
  text a = let s = opening settings counts words_lent no_tally cache work warm results a in when_opened input counts observations results s s.begun.opening

  admitted_other : (a : Admission) → admission ≡ a → NumberOther a → Judged (length counts) a → text a ≡ refusal_line 19 place → ⊥
  unfolding opening when_opened NumberOther Judged
  admitted_other (Ok tt) e other j q = session_other input counts observations words_lent results (grants e) place q
  admitted_other (Err (A.Refused n)) e other j q = let few = few_numbers n j.0 in other_line n Nowhere place other (omega (arith, few)) q
  admitted_other (Err (A.Unsound at)) e other j q = other_line 4 _ place (λ z. omega (arith, z)) (omega arith) q

  fitted_other : fitted input counts observations cache work warm results ≡ refusal_line 19 place → ⊥
  unfolding fitted opened_by checks
  fitted_other = admitted_other admission refl (checks_other _ _ _ _ _) (counts_judged _ _ _ _ _)

-- ---- the records are refused with 20 and no other number
unfoldable Twenty : Answer ℕ → Type 0
Twenty (given n) = Unit
Twenty (refused number) = number ≡ 20

twenty_from : (left : ℕ) (input : List ℕ) (i s : ℕ) → Twenty (cohort_from left input i s)
unfolding Twenty cohort_from
twenty_from zero input i s = tt
twenty_from (suc left) input i s =
    both Twenty _ (both Twenty _ (twenty_from left input (i + 1) (s + 1)) (both Twenty _ (twenty_from left input (i + 1) s) refl)) refl

twenty : (input : List ℕ) → Twenty (cohort input)
unfolding Twenty cohort
twenty input = both Twenty _ (both Twenty _ refl (twenty_from _ input 0 0)) refl

records_other : (input : List ℕ) (place : Place) (c : Answer ℕ) → Twenty c → when_records input c ≡ refusal_line 19 place → ⊥
unfolding Twenty when_records lent
records_other input place (given n) e = fitted_other input _ _ _ _ _ _ place
records_other input place (refused number) e = other_line number Nowhere place (λ z. omega (arith, e, z)) (omega (arith, e))

pub never_19 : Never19
unfolding output
never_19 input place = records_other input place (cohort input) (twenty input)
