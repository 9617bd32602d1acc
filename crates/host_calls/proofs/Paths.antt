-- The ways through the code: one law for each, over plain variables. Assumes nothing.
use Rattle.std.specs.Prelude.{None, Option, Some}
use mathlib.Core.Path.{◌≡◌, sym, ap, ◌∙◌}
use mathlib.Core.List.{List}
use Prim.Native.Nat.{ℕ, ◌≤◌, ◌<◌, ◌^◌}
use native.Mathlib.Nat.{mod-eq_of_lt}
use borrow.Author.Tests.{lt-ltb, le-ltb}
use lib.Dec.{T}
use lib.ListN.{length}
use lib.Ieee.{Float, binary64, fits, to_bits}
use lib.Ieee.Bits.{of_bits-to_bits}
use Rattle.float64.specs.Answer.{Answer, given, refused}
use Rattle.float64.specs.Arithmetic.{word}
use Rattle.float64.specs.Pick.{yes, no}
use Rattle.subject.specs.Subject.{additive_sd, Evaluation}
use Rattle.setup.specs.declared.Parameters.{Parameters}
use Rattle.setup.specs.declared.Setup.{Setup}
use Rattle.search.specs.declared.Place.TheVariants as At
use Rattle.search.specs.declared.Step.{Step}
use Rattle.search.specs.declared.Tally.{Tally}
use Rattle.machine.specs.Machine.{Ran}
use Rattle.population.specs.Kept.{words}
use Rattle.session.specs.Calls.{held_of, called, entered, Setting, begun_with, opened_by, finish_reply}
use Rattle.session.specs.Session.{Held, enter_objective, enter_failure}
use Rattle.session.specs.declared.Awaited.{Awaited}
use Rattle.session.specs.declared.Begun.{Begun}
use Rattle.session.specs.declared.Called.{Called}
use Rattle.session.specs.declared.State.{State}
use Rattle.state_words.specs.SessionWords as W
use Rattle.host_calls.specs.Hosting.{setup_of, parameters_of, setup_from, setup_bits, parameters_from, parameter_bits, place_words, answered}
use Rattle.host_calls.specs.Hosting.{told_as, told, no_state, opened, Out, out_of, out, did, unknown, with_state, open_with, objective_with, failure_with, finish_with}
use Rattle.host_calls.specs.declared.Done.{Done}
use Rattle.host_calls.specs.declared.SessionParameters.{SessionParameters}
use Rattle.host_calls.specs.declared.SessionSetup.{SessionSetup}
use Rattle.subject.specs.Observations.{Check}

-- ---- what a host gives; a is what `additive_sd` answered
pub setup_made : (s : SessionSetup) {a : Option Float} → a ≡ additive_sd s.has_additive s.additive
    → record {
      effects = s.effects;
      omega00 = s.omega_00;
      omega01 = s.omega_01;
      omega10 = s.omega_10;
      omega11 = s.omega_11;
      eta_bound = s.eta_bound;
      gradient_tolerance = s.gradient_tolerance;
      width = s.width;
      k = s.k;
      additive_sd = a;
      output_budget = s.output_budget;
      max_evaluations = s.max_evaluations;
    }
    ≡ setup_of s
unfolding setup_of
setup_made s e =
    λ i. record {
      effects = s.effects;
      omega00 = s.omega_00;
      omega01 = s.omega_01;
      omega10 = s.omega_10;
      omega11 = s.omega_11;
      eta_bound = s.eta_bound;
      gradient_tolerance = s.gradient_tolerance;
      width = s.width;
      k = s.k;
      additive_sd = e i;
      output_budget = s.output_budget;
      max_evaluations = s.max_evaluations;
    }

pub parameters_made : (p : SessionParameters) {a : Option Float} → a ≡ additive_sd p.has_additive p.additive
    → record { theta = record { first = p.theta; second = p.theta_2 }; omega = p.omega; additive_sd = a } ≡ parameters_of p
unfolding parameters_of
parameters_made p e = λ i. record { theta = record { first = p.theta; second = p.theta_2 }; omega = p.omega; additive_sd = e i }

-- ---- and as it stands in memory: every value of the code is a float of the format, and a u32 is below 2^32
abbrev pub Fits : Float → Type 0
Fits x = T (fits binary64 x)

back : (x : Float) → Fits x → x ≡ word (to_bits binary64 x)
back x f = sym (of_bits-to_bits binary64 x f)

pub record FitsSetup (s : SessionSetup) : Type 0 where
  pub o00 : Fits s.omega_00
  pub o01 : Fits s.omega_01
  pub o10 : Fits s.omega_10
  pub o11 : Fits s.omega_11
  pub bound : Fits s.eta_bound
  pub tolerance : Fits s.gradient_tolerance
  pub additive : Fits s.additive
  pub most : s.max_evaluations < 2 ^ 32

pub setup_handed : (s : SessionSetup) → FitsSetup s → setup_of s ≡ setup_from (setup_bits s)
unfolding setup_of setup_from setup_bits
setup_handed s f = λ i. record {
  effects = s.effects;
  omega00 = back s.omega_00 f.o00 i;
  omega01 = back s.omega_01 f.o01 i;
  omega10 = back s.omega_10 f.o10 i;
  omega11 = back s.omega_11 f.o11 i;
  eta_bound = back s.eta_bound f.bound i;
  gradient_tolerance = back s.gradient_tolerance f.tolerance i;
  width = s.width;
  k = s.k;
  additive_sd = additive_sd s.has_additive (back s.additive f.additive i);
  output_budget = s.output_budget;
  max_evaluations = sym (mod-eq_of_lt f.most) i;
}

pub parameters_handed : (p : SessionParameters) → Fits p.theta → Fits p.theta_2 → Fits p.omega → Fits p.additive → parameters_of p ≡ parameters_from (parameter_bits p)
unfolding parameters_of parameters_from parameter_bits
parameters_handed p a b c d = λ i. record {
  theta = record { first = back p.theta a i; second = back p.theta_2 b i };
  omega = back p.omega c i;
  additive_sd = additive_sd p.has_additive (back p.additive d i);
}

-- ---- words that are no state; r and w are what `no_state` answered and wrote
pub unknown_out : (tally : Tally) (state answer cache work warm results : List ℕ) {r : Done} {w : List ℕ} → (r ≡ no_state tally) × (w ≡ answered (place_words 19 At.Nowhere) answer) → out r state w cache
    work warm results ≡ unknown tally state answer cache work warm results
unknown_out tally state answer cache work warm results (er, ew) = λ i. out (er i) state (ew i) cache work warm results

module _ (setup : Setup) (counts : List ℕ) (n : ℕ) (check : Check) (tally : Tally) (state answer cache work warm results : List ℕ) where
  pub open_unknown : {r : Done} {w : List ℕ} → length state < W.state_size → (r ≡ no_state tally) × (w ≡ answered (place_words 19 At.Nowhere) answer) → out r state w cache work warm results ≡ open_with
      setup counts n check tally state answer cache work warm results
  unfolding open_with
  open_unknown l q = yes _ (lt-ltb _ _ l) (unknown_out tally state answer cache work warm results q)

  pub open_settled : {own : Setup} {r : Done} {s w c k m : List ℕ} {b : Begun} → W.state_size ≤ length state → own ≡ setup → begun_with b c k m ≡ opened_by own counts n check tally cache work warm
      results → told_as r s w ≡ opened b state answer
      → out r s w c k m results ≡ open_with setup counts n check tally state answer cache work warm results
  unfolding open_with
  open_settled {c = c} {k = k} {m = m} l eo eb et =
      no _ (le-ltb _ _ l)
      ((λ i. out_of (et i) c k m results) ∙ ap (λ (x : Setting). out_of (opened x.begun state answer) x.cache x.work x.warm results)
      (eb ∙ ap (λ (o : Setup). opened_by o counts n check tally cache work warm results) eo))

-- ---- what the session did, told of the state that was lent
pub did_told : (state answer : List ℕ) {c : Called} {r : Done} {s w cache work warm results : List ℕ} {z : Ran (Held words) Step} → called c cache work warm results ≡ z → told_as r s w ≡ told c state
    answer → out r s w cache work warm results ≡ did z state answer
did_told state answer {cache = cache} {work = work} {warm = warm} {results = results} ec et = (λ i. out_of (et i) cache work warm results) ∙ ap (λ (x : Ran (Held words) Step). did x state answer) ec

-- ---- what is made of the state of some words, x being what `load` answered of them
module _ (state : List ℕ) {x : Option State} (e : W.answer x ≡ W.loaded_state state) where
  pub of_given : {X : Type 0} (f : Answer State → X) {s : State} {z : X} → x ≡ Some s → z ≡ f (given s) → z ≡ f (W.loaded_state state)
  unfolding W.answer
  of_given f t q = q ∙ ap f (sym (ap W.answer t) ∙ e)

  pub of_none : {X : Type 0} (f : Answer State → X) {z : X} → x ≡ None → z ≡ f (refused 19) → z ≡ f (W.loaded_state state)
  unfolding W.answer
  of_none f t q = q ∙ ap f (sym (ap W.answer t) ∙ e)

  pub with_given : (f : State → Out) (other : Out) {s : State} {z : Out} → x ≡ Some s → z ≡ f s → z ≡ with_state f other (W.loaded_state state)
  unfolding with_state
  with_given f other t q = of_given (with_state f other) t q

  pub with_none : (f : State → Out) (other : Out) {z : Out} → x ≡ None → z ≡ other → z ≡ with_state f other (W.loaded_state state)
  unfolding with_state
  with_none f other t q = of_none (with_state f other) t q

-- ---- the calls; x is what `load` answered, own and p the setup and the parameters as the code has made them
module _ (setup : Setup) (counts : List ℕ) (n : ℕ) (check : Check) (tally : Tally) (state answer cache work warm results : List ℕ) where
  abbrev none : Out
  none = unknown tally state answer cache work warm results

  begins : Parameters → Setup → Parameters → State → Out
  begins parameters o p s = did (entered o counts (enter_objective words o counts n check p (held_of s tally cache work warm results))) state answer

  pub objective_given : {x : Option State} → W.answer x ≡ W.loaded_state state → (parameters : Parameters) {s : State} {own : Setup} {p : Parameters} {c : Called} {r : Done} {t w k m q : List ℕ} → x ≡
      Some s → own ≡ setup → p ≡ parameters
      → called c cache k m q ≡ entered own counts (enter_objective words own counts n check p (held_of s tally cache work warm results)) → told_as r t w ≡ told c state answer → out r t w cache k m q ≡
      objective_with setup counts n check tally state answer cache work warm results parameters
  unfolding objective_with begins
  objective_given ex parameters {s} tx eo ep ec et =
      with_given state ex (begins parameters setup parameters) none tx (did_told state answer ec et ∙ (λ i. begins parameters (eo i) (ep i) s))

  pub objective_none : {x : Option State} → W.answer x ≡ W.loaded_state state → (parameters : Parameters) {r : Done} {w : List ℕ} → x ≡ None → (r ≡ no_state tally) ×
      (w ≡ answered (place_words 19 At.Nowhere) answer) → out r state w cache work warm results ≡ objective_with setup counts n check tally state answer cache work warm results parameters
  unfolding objective_with begins
  objective_none ex parameters tx q = with_none state ex (begins parameters setup parameters) none tx (unknown_out tally state answer cache work warm results q)

  fails : Setup → State → Out
  fails o s = did (entered o counts (enter_failure words o counts n check (held_of s tally cache work warm results))) state answer

  pub failure_given : {x : Option State} → W.answer x ≡ W.loaded_state state → {s : State} {own : Setup} {c : Called} {r : Done} {t w k : List ℕ} → x ≡ Some s → own ≡ setup → called c cache k warm
      results ≡ entered own counts (enter_failure words own counts n check (held_of s tally cache work warm results)) → told_as r t w ≡ told c state answer
      → out r t w cache k warm results ≡ failure_with setup counts n check tally state answer cache work warm results
  unfolding failure_with fails
  failure_given ex {s} tx eo ec et = with_given state ex (fails setup) none tx (did_told state answer ec et ∙ (λ i. fails (eo i) s))

  pub failure_none : {x : Option State} → W.answer x ≡ W.loaded_state state → {r : Done} {w : List ℕ} → x ≡ None → (r ≡ no_state tally) × (w ≡ answered (place_words 19 At.Nowhere) answer) → out r state w
      cache work warm results ≡ failure_with setup counts n check tally state answer cache work warm results
  unfolding failure_with fails
  failure_none ex tx q = with_none state ex (fails setup) none tx (unknown_out tally state answer cache work warm results q)

-- the second part of a reply
module _ (counts : List ℕ) (a : Awaited) (e : Evaluation) (tally : Tally) (state answer cache work warm results : List ℕ) where
  finishes : State → Out
  finishes s = did (finish_reply counts a e (held_of s tally cache work warm results)) state answer

  pub finish_given : {x : Option State} → W.answer x ≡ W.loaded_state state → {s : State} {c : Called} {r : Done} {t w j k m q : List ℕ} → x ≡ Some s → called c j k m q ≡ finish_reply counts a e
      (held_of s tally cache work warm results) → told_as r t w ≡ told c state answer
      → out r t w j k m q ≡ finish_with counts a e tally state answer cache work warm results
  unfolding finish_with finishes
  finish_given ex tx ec et = with_given state ex finishes (unknown tally state answer cache work warm results) tx (did_told state answer ec et)

  pub finish_none : {x : Option State} → W.answer x ≡ W.loaded_state state → {r : Done} {w : List ℕ} → x ≡ None → (r ≡ no_state tally) × (w ≡ answered (place_words 19 At.Nowhere) answer) → out r state w
      cache work warm results ≡ finish_with counts a e tally state answer cache work warm results
  unfolding finish_with finishes
  finish_none ex tx q = with_none state ex finishes (unknown tally state answer cache work warm results) tx (unknown_out tally state answer cache work warm results q)
