-- What document 01's program prints, computed; and the program with another setup is the same program. Assumes nothing.
use Rattle.std.specs.Prelude.{Err, Ok, Result}
use mathlib.Core.Path.{◌≡◌, refl, ap}
use mathlib.Core.List.{List, []}
use Prim.Native.Nat.{ℕ, zero, suc}
use Rattle.float64.specs.Answer.{Answer, given, refused}
use Rattle.float64.specs.Arithmetic.{word}
use Rattle.search.specs.declared.Step.{Step}
use Rattle.machine.specs.Machine.{Ran}
use Rattle.population.specs.Kept.{words}
use Rattle.session.specs.Session.{Held}
use Rattle.session.specs.Calls.{Setting}
use Rattle.focei_records.specs.Records.{cohort, counts, observations}
use Rattle.focei_fit.specs.Output as O
use Rattle.test_marked.specs.Examples as X
use Rattle.test_marked.specs.Marked.{four}
use Rattle.test_marked.proofs.Computed.{everything}
use Rattle.session.specs.declared.State.{State}
use Rattle.search.specs.declared.Refusal.{Refusal}

-- ---- each run by itself: together they take more memory

pub printed : O.output X.example ≡ X.example_text
unfolding everything
printed = refl

pub printed_far : O.output X.far ≡ X.bytes "R 13 0 -\n"
unfolding everything
printed_far = refl

pub printed_empty : O.output [] ≡ X.bytes "R 1 - -\n"
unfolding everything
printed_empty = refl

pub printed_bound_16 : X.output_with (X.settings_with (word 0x4030_0000_0000_0000) 10000) X.example ≡ X.example_text
unfolding everything
printed_bound_16 = refl

pub printed_bound_next : X.output_with (X.settings_with (word 0x4030_0000_0000_0001) 10000) X.example ≡ X.bytes "R 3 - -\n"
unfolding everything
printed_bound_next = refl

pub printed_16 : X.output_with (X.settings_with four 16) X.example ≡ X.bytes "R 6 0 -\n"
unfolding everything
printed_16 = refl

pub printed_17 : X.output_with (X.settings_with four 17) X.example ≡ X.example_text
unfolding everything
printed_17 = refl

-- ---- another setup

module _ (input : List ℕ) where
  module _ (counts observations : List ℕ) where
    plays : (left : ℕ) (r : Ran (Held words) Step) → X.play O.settings input counts observations left r ≡ O.play input counts observations left r
    unfolding X.play X.replied O.play O.replied
    plays zero r = refl
    plays (suc left) r = λ i. O.when_asked (λ individual. plays left (O.replied input counts observations r.state individual) i) r r.answer

    opens : (results : List ℕ) (s : Setting) (o : Result State Refusal) → X.when_opened O.settings input counts observations results s o ≡ O.when_opened input counts observations results s o
    unfolding X.when_opened O.when_opened O.begun
    opens results s (Ok state) = ap (O.end_of counts) (plays O.most_evaluations _)
    opens results s (Err e) = refl

  records : (c : Answer ℕ) → X.when_records O.settings input c ≡ O.when_records input c
  unfolding X.when_records X.fitted O.when_records O.lent O.fitted
  records (given n) = opens (counts input n) (observations input) _ _ _
  records (refused number) = refl

  pub with_its_own : X.output_with O.settings input ≡ O.output input
  unfolding X.output_with O.output
  with_its_own = records (cohort input)
