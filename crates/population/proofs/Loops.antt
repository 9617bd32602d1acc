-- The ways through the labelled loop of a machine: one law for each. Assumes nothing.
use Rattle.std.proofs.Common.{◌≡◌, ℕ, zero, suc, ◌-◌, refl, sub-one}
use Rattle.machine.specs.Machine.{Moved, on, halt, ran, onward, loop}

-- n turns are left
module _ {State Answer : Type 0} (turn : State → Moved State Answer) (spent : Answer) (s : State) where
  pub loop_spent : (n : ℕ) → n ≡ 0 → ran spent s ≡ loop turn spent n s
  unfolding loop
  loop_spent n e = rw e

  one_turn : {m : Moved State Answer} (n : ℕ) → m ≡ turn s → (n ≡ 0 → ⊥) → onward m (λ t. loop turn spent (n - 1) t) ≡ loop turn spent n s
  unfolding loop
  one_turn zero e h = absurd (h refl)
  one_turn (suc n) e h = rw (sub-one, e)

  pub loop_on : {t : State} (n : ℕ) → on t ≡ turn s → (n ≡ 0 → ⊥) → loop turn spent (n - 1) t ≡ loop turn spent n s
  unfolding onward
  loop_on n e h = one_turn n e h

  pub loop_halt : {a : Answer} {t : State} (n : ℕ) → halt a t ≡ turn s → (n ≡ 0 → ⊥) → ran a t ≡ loop turn spent n s
  unfolding onward
  loop_halt n e h = one_turn n e h
