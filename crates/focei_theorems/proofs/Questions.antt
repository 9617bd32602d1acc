-- A question raises the evaluations, so that as many answers as there are evaluations leave none. Assumes nothing.
use mathlib.Core.Path.{◌≡◌, refl, sym, subst, ◌∙◌}
use mathlib.Core.Bool.{true}
use mathlib.Core.List.{List}
use mathlib.Core.Logic.{inl, inr}
use Prim.Native.Nat.{ℕ, zero, suc, ◌+◌, ◌≤◌, ◌<◌}
use native.Mathlib.Omega.{arith}
use lib.ListN.{length}
use Rattle.matrix.specs.declared.Pair.{Pair}
use Rattle.search.specs.Subjects.{refusal}
use Rattle.search.specs.declared.Place.{Place}
use Rattle.search.specs.declared.Refusal.{Refusal}
use Rattle.search.specs.declared.Step.{Step}
use Rattle.search.specs.declared.Step.TheVariants.{Asked, Finished, Refused}
use Rattle.machine.specs.Machine.{Ran, call}
use Rattle.population.specs.Kept.{words}
use Rattle.population.specs.Population.{rows_of}
use Rattle.session.specs.Session.{Held, Call, objective, reply as rows}
use Rattle.session_theorems.specs.Refusals.{AltersNothing}
use Rattle.session_theorems.proofs.Endings.{Says}
use Rattle.session_theorems.proofs.Entered.{OfSearch, Ending, endings, Done, done, enters}
use Rattle.program_calls.specs.Recorded.{observations_of, call_of}
use Rattle.focei_records.specs.Records.{reply}
use Rattle.focei_fit.specs.Output.{most_evaluations, settings, first_parameters, begun, when_asked, replied, play}
use Rattle.focei_theorems.specs.Claim.{Suffices}

abbrev pub evaluations : Held words → ℕ
evaluations h = h.whole.tally.calls.0

-- the numbers that leave all as it was are 19 at most
pub few_numbers : (n : ℕ) → AltersNothing n → n ≤ 19
few_numbers n (inl l) = let high = l.1 in omega (arith, high)
few_numbers n (inr e) = omega (arith, e)

-- ---- one call, whatever is held
module _ (counts observations : List ℕ) (c : Call) (h : Held words) where
  abbrev gives : Ran (Held words) Step
  gives = call_of settings counts observations c h

  comes_to : Done settings counts h gives.answer gives.state
  unfolding call
  comes_to = done settings counts h _ (enters settings counts h (observations_of observations) c)

  -- what is known of an answer of this call that does not leave all as it was
  abbrev says : Step → Type 0
  says a =
      let most = settings.max_evaluations in
      let n = evaluations h in
      Says OfSearch (Ending most n) settings counts (length h.whole.work) n settings.k (endings most n) a gives.state.whole.progress.awaits (evaluations gives.state)

  -- a question: a reply is awaited, and it is one more evaluation, for which there was room
  pub asks : (eta individual : Pair) → gives.answer ≡ Asked eta individual
      → (gives.state.whole.progress.awaits ≡ true) × (evaluations gives.state ≡ suc (evaluations h)) × (evaluations h < most_evaluations)
  unfolding Says settings
  asks eta individual e = by comes_to
    where
      by : Done settings counts h gives.answer gives.state
          → (gives.state.whole.progress.awaits ≡ true) × (evaluations gives.state ≡ suc (evaluations h)) × (evaluations h < most_evaluations)
      by (inl k) = let never = sym k.answer ∙ e in absurd (let z : ◌≡◌ {A = ℕ} 0 1 = cc in omega arith)
      by (inr g) = subst says e g.says

  -- a refusal's number is 19 at most
  pub refuses : (number : ℕ) (place : Place) → gives.answer ≡ Refused (refusal number place) → number ≤ 19
  unfolding Says
  refuses number place e = by comes_to
    where
      by : Done settings counts h gives.answer gives.state → number ≤ 19
      by (inl k) = let both = sym k.answer ∙ e in let same : refusal k.number k.place ≡ refusal number place = cc in subst (λ (why : Refusal). why.number ≤ 19) same (few_numbers k.number k.unaltering)
      by (inr g) = let r : says (Refused (refusal number place)) = subst says e g.says in let high = r.1.number.1 in omega (arith, high)

-- ---- question and answer to the end: Q is what is known of a call when it is made, and G what is known of its answer then
module _ (input counts observations : List ℕ) (Q : Call → Held words → Type 0) (G : Step → Type 0)
    (again : (c : Call) (h : Held words) → Q c h → (eta individual : Pair) → (call_of settings counts observations c h).answer ≡ Asked eta individual
    → (said : List ℕ) → Q (rows said) (call_of settings counts observations c h).state)
    (end : (c : Call) (h : Held words) → Q c h → G (call_of settings counts observations c h).answer) where
  -- an answer that is no question
  abbrev Ended : Step → Type 0
  Ended a = ((eta individual : Pair) → a ≡ Asked eta individual → ⊥) × G a

  abbrev Ends : ℕ → Type 0
  Ends n = (c : Call) (h : Held words) → Q c h → most_evaluations ≤ evaluations h + n → Ended (play input counts observations n (call_of settings counts observations c h)).answer

  one_more : (n : ℕ) → Ends n → Ends (suc n)
  unfolding play when_asked replied
  one_more n later c h q l = by r.answer refl
    where
      r : Ran (Held words) Step
      r = call_of settings counts observations c h

      by : (a : Step) → r.answer ≡ a → Ended (when_asked (λ individual. play input counts observations n (replied input counts observations r.state individual)) r a).answer
      by (Asked eta individual) e =
          let risen = (asks counts observations c h eta individual e).1 in
          let at = r.state.whole.progress in
          let said = reply input at.first (rows_of counts at.subject) individual.first in
          later (rows said) r.state (again c h q eta individual e said) (omega (arith, risen, l))
      by (Finished x) e = (λ eta individual f. let never = sym e ∙ f in let z : ◌≡◌ {A = ℕ} 0 1 = cc in omega arith, end c h q)
      by (Refused why) e = (λ eta individual f. let never = sym e ∙ f in let z : ◌≡◌ {A = ℕ} 0 1 = cc in omega arith, end c h q)

  pub ends : (n : ℕ) → Ends n
  unfolding play
  ends zero c h q l = (λ eta individual e. let room = (asks counts observations c h eta individual e).2 in omega (arith, room, l), end c h q)
  ends (suc n) c h q l = one_more n (ends n) c h q l

pub suffices : Suffices
unfolding begun
suffices input counts observations h n l =
    (ends input counts observations (λ c h. Unit) (λ a. Unit) (λ c h q eta individual e said. tt) (λ c h q. tt) n (objective first_parameters) h tt (omega (arith, l))).0
