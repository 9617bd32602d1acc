-- The loop over the requests with what the searches have in common at hand: where that is the objective's own, it is the machine's, and so
-- is the second part of a reply. Assumes nothing.
use Rattle.std.specs.Prelude.{Err, Ok}
use mathlib.Core.Path.{◌≡◌, refl, sym, ap, ◌∙◌}
use mathlib.Core.List.{List}
use Prim.Native.Nat.{ℕ, zero, suc}
use Rattle.matrix.specs.declared.Pair.{Pair}
use Rattle.subject.specs.Subject.{finish, Evaluation}
use Rattle.setup.specs.declared.Lent.{Lent}
use Rattle.setup.specs.declared.Parameters.{Parameters}
use Rattle.setup.specs.declared.Setup.{Setup}
use Rattle.search.specs.Subjects.{fit_of}
use Rattle.search.specs.declared.Fit.{Fit}
use Rattle.search.specs.declared.Step.{Step}
use Rattle.search.specs.declared.Tally.{Tally}
use Rattle.machine.specs.Machine.{Moved, on, halt, Ran, ran, onward, loop}
use Rattle.population.specs.Kept.{words}
use Rattle.population.specs.Population.{Whole, turn, spent}
use Rattle.session.specs.Calls.{run, run_in, entered, entered_in, awaited_for, admit_awaited, finish_reply}
use Rattle.session.specs.Session.{Held, held, fuel, when_admitted, over, replied, held_by, turn_held}
use Rattle.session.specs.declared.Awaited.{Awaited}
use Rattle.session.specs.declared.State.{State}
use Rattle.subject.specs.declared.EvaluationError.TheVariants as E
use Rattle.setup.specs.declared.AdmissionError.TheVariants as A
use Rattle.subject.specs.Observations.{Check}
use Rattle.setup.specs.Admission.{Admission}
use Rattle.mode.specs.declared.Request.{Request}
use Rattle.mode.specs.declared.Request.TheVariants as Wants

-- ---- the run: the machine's loop is the step's, with the parameters held
module _ (parameters : Parameters) where
  held_ran : Ran (Whole words) Step → Ran (Held words) Step
  held_ran r = ran r.answer (held words parameters r.state)

  onward_held : (m : Moved (Whole words) Step) (f : Whole words → Ran (Whole words) Step) (g : Held words → Ran (Held words) Step) → ((w : Whole words) → g (held words parameters w) ≡ held_ran (f w))
      → onward (held_by words parameters m) g ≡ held_ran (onward m f)
  unfolding onward held_by held_ran
  onward_held (on w) f g h = h w
  onward_held (halt a w) f g h = refl

module _ (setup : Setup) (counts : List ℕ) (parameters : Parameters) where
  held_loop : (n : ℕ) (w : Whole words) → loop (turn_held words setup counts) spent n (held words parameters w) ≡ held_ran parameters (loop (turn words (fit_of setup parameters) counts) spent n w)
  unfolding loop turn_held held_ran
  held_loop zero w = refl
  held_loop (suc n) w = onward_held parameters (turn words (fit_of setup parameters) counts w) _ _ (held_loop n)

  pub run_held : (w : Whole words) → run setup counts (held words parameters w) ≡ run_in (fit_of setup parameters) counts (held words parameters w)
  unfolding held_ran
  run_held w = held_loop fuel w

-- ---- a reply
module _ (setup : Setup) (counts : List ℕ) where
  entered_own : (eta : Pair) (h : Held words) (w : List ℕ) (x : Evaluation) (a : Admission) → let m = when_admitted words h (replied words counts (fit_of setup h.parameters) eta h w x) a in
      entered_in (fit_of setup h.parameters) counts m ≡ entered setup counts m
  unfolding when_admitted replied over onward
  entered_own eta h w (Ok sums) (Ok tt) = sym (run_held setup counts h.parameters _)
  entered_own eta h w (Err (E.Refused number)) (Ok tt) = refl
  entered_own eta h w (Err (E.RefusedAt number n)) (Ok tt) = refl
  entered_own eta h w x (Err (A.Refused number)) = refl
  entered_own eta h w x (Err (A.Unsound at)) = refl

  pub own_finish : (a : Awaited) (e : Evaluation) (h : Held words) → a.fit ≡ fit_of setup h.parameters → finish_reply counts a e h ≡ entered setup counts
      (when_admitted words h (replied words counts (fit_of setup h.parameters) a.eta h h.whole.work (finish e)) a.admission)
  unfolding finish_reply
  own_finish a e h q =
      ap (λ (f : Fit). entered_in f counts (when_admitted words h (replied words counts f a.eta h h.whole.work (finish e)) a.admission)) q
      ∙ entered_own a.eta h h.whole.work (finish e) a.admission

  fit_for : (fit : Fit) (a : Admission) (w : Request Pair) → (awaited_for fit a w).fit ≡ fit
  unfolding awaited_for
  fit_for fit a (Wants.Point eta) = refl
  fit_for fit a Wants.Mode = refl
  fit_for fit a (Wants.Refused n) = refl

  pub awaited_fit : (lent : Lent) (check : Check) (state : State) (tally : Tally) → (admit_awaited setup counts lent check state tally).fit ≡ fit_of setup state.parameters
  unfolding admit_awaited
  awaited_fit lent check state tally = fit_for _ _ _
