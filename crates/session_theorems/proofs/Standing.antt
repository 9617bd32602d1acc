-- What stays true of a session's state from call to call: `Standing`. Assumes nothing.
use Rattle.std.specs.Prelude.{Option, None}
use mathlib.Core.Path.{◌≡◌, refl, sym, subst, ◌∙◌}
use mathlib.Core.Bool.{true, false}
use mathlib.Core.List.{List}
use Prim.Native.Nat.{ℕ, suc, ◌*◌, ◌≤◌, ◌<◌}
use native.Mathlib.Omega.{arith}
use lib.Dec.{T}
use lib.ListN.{length}
use Rattle.float64.specs.Pick.{both}
use Rattle.matrix.specs.declared.Pair.{Pair}
use Rattle.likelihood.specs.declared.population_focei.Observation.{Observation}
use Rattle.subject.specs.declared.Sums.{Sums}
use Rattle.work.specs.Work.{block}
use Rattle.setup.specs.Admission.{is_no_omega, is_no_shape, with_parameters}
use Rattle.setup.specs.declared.Setup.{Setup}
use Rattle.search.specs.Subjects as B
use Rattle.search.specs.declared.Advanced.{Advanced}
use Rattle.search.specs.declared.Tally.{Tally}
use Rattle.search.specs.declared.Fit.{Fit}
use Rattle.search.specs.declared.Progress.{Progress}
use Rattle.population.specs.Kept.{Recalled, Store}
use Rattle.population.specs.Population.{rows_of, whole_of}
use Rattle.session.specs.Session.{Held, held}
use Rattle.session_theorems.specs.Inner.{Inner, fit_at}
use Rattle.session_theorems.proofs.Fitting.{FitsBoth}
use Rattle.session_theorems.proofs.Lengths.{AsLong}
use Rattle.session_theorems.proofs.Points.{Passed}
use Rattle.session_theorems.proofs.Searches.{Suits}
use Rattle.session_theorems.proofs.Stores.{Trusted}
use Rattle.mode.specs.declared.Request.TheVariants as Wants

-- ---- a search that goes on stays with its subject
pub record Alike (p q : Progress) : Type 0 where
  pub subject : q.subject ≡ p.subject
  pub first : q.first ≡ p.first
  pub warm : q.warm ≡ p.warm
  pub idle : q.awaits ≡ false

pub advanced_alike : (fit : Fit) (p : Progress) (eta : Pair) (sums : Sums) → Alike p (B.advance_by fit p eta sums).progress
unfolding B.advance_by B.advance1 B.advance2 B.with_search
advanced_alike fit p eta sums =
    both (λ (a : Advanced). Alike p a.progress) _ (record { subject = refl; first = refl; warm = refl; idle = refl }) (record { subject = refl; first = refl; warm = refl; idle = refl })

module _ (S : Store) (setup : Setup) (counts : List ℕ) (observations : List Observation) (I : Inner) (Q : Suits I setup.effects) (U : Trusted S setup.k) where
  -- what is kept for a point
  abbrev pub recall_of : Held S → Pair → Option Recalled
  recall_of h eta =
      let p = h.whole.progress in
      let rows = rows_of counts p.subject in
      S.recall h.whole.kept (fit_at S setup counts observations I h).k (B.key_of (fit_at S setup counts observations I h) p.subject eta) rows h.whole.work (block rows 3)

  -- a reply is awaited: for a point that passed 7 and is not kept
  pub record Waiting (h : Held S) (n : ℕ) : Type 0 where
    pub eta : Pair
    pub wants : B.wanted_by (fit_at S setup counts observations I h) h.whole.progress ≡ Wants.Point eta
    pub passed : Passed eta setup.effects
    pub missing : recall_of h eta ≡ None
    pub fewer : suc n ≤ h.whole.tally.calls.0

  pub record Standing (h : Held S) : Type 0 where
    pub subject : h.whole.progress.subject < length counts
    -- four blocks of any subject's rows are lent
    pub roomy : (i : ℕ) → i < length counts → 12 * rows_of counts i ≤ length h.whole.work
    pub limit : h.whole.tally.calls.0 ≤ setup.max_evaluations
    -- the objective's parameters passed the checks
    pub omega_in : is_no_omega (with_parameters setup h.parameters) ≡ false
    pub shape_in : is_no_shape (with_parameters setup h.parameters) ≡ false
    pub warm_fits : FitsBoth h.whole.progress.warm
    pub pointed : Q.Pointed h.whole.progress
    -- at most `count` evaluations were kept, each of them counted before
    pub count : ℕ
    pub trust : U.Holds count h.whole.kept
    pub few : count ≤ h.whole.tally.calls.0
    pub waiting : h.whole.progress.awaits ≡ true → Waiting h count

  -- an idle state with the same kept evaluations, whose search may be another
  pub still : (h : Held S) → Standing h → (p : Progress) (tally : Tally) (work warm results : List ℕ) → p.subject < length counts → p.awaits ≡ false → FitsBoth p.warm → Q.Pointed p
      → h.whole.tally.calls.0 ≤ tally.calls.0 → tally.calls.0 ≤ setup.max_evaluations → AsLong h.whole.work work → Standing
      (held S h.parameters (whole_of S p tally h.whole.kept work warm results))
  still h s p tally work warm results inside idle fit pointed more most long = record {
    subject = inside;
    roomy = λ i l. subst (λ (n : ℕ). 12 * rows_of counts i ≤ n) (sym long) (s.roomy i l);
    limit = most;
    omega_in = s.omega_in;
    shape_in = s.shape_in;
    warm_fits = fit;
    pointed = pointed;
    count = s.count;
    trust = s.trust;
    few = omega (arith, s.few, more);
    waiting = λ e. absurd (subst T (sym e ∙ idle) tt);
  }
