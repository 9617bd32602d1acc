-- The six starts; the source's `mode` of two effects and the rules say the same. Assumes nothing.
use Rattle.std.specs.Prelude.{Option, None, Some}
use mathlib.Core.Path.{◌≡◌, refl, sym, ap, ◌∙◌, subst}
use mathlib.Core.Logic.{◌⊎◌, inl, inr}
use mathlib.Core.Bool.{Bool, true, false}
use mathlib.Core.List.{List, [], ◌∷◌}
use Prim.Native.Nat.{ℕ, zero, suc, ◌+◌, ◌≤◌}
use native.Mathlib.Omega.{arith}
use lib.ListN.{get_or}
use lib.Dec.{ltb, lit≤}
use lib.Ieee.{lt}
use borrow.Author.Tests.{lt-ltb, le-ltb, ne_eqb, eq-eqb}
use Rattle.float64.specs.Arithmetic.{◌-ᶠ◌, word}
use Rattle.float64.specs.Float64.{abs, max}
use Rattle.float64.specs.Pick.{pick, pick_yes, pick_no}
use Rattle.matrix.specs.declared.Pair.{Pair}
use Rattle.mode_2d.specs.declared.population_focei_2d.Settings2.{Settings2}
use Rattle.mode_2d.specs.declared.population_focei_2d.Conditional2.{Conditional2}
use Rattle.mode_2d.specs.declared.population_focei_2d.Stage2.TheVariants.{Start, Found, Halted}
use Rattle.mode_2d.specs.declared.population_focei_2d.Search2.{Search2}
use Rattle.mode_2d.specs.Rules as R
use Rattle.mode_theorems.specs.Histories.{led_from, Answered}
use Rattle.mode_theorems.specs.History2.{after, FollowsFrom}
use Rattle.source.specs.Run.{Run, done, stop, ◌>>=◌, ◌>>◌, err, Flow, next, turn, each, asks, found}
use Rattle.source.specs.Source2.{of, is_none_or, nowhere, unwrap, joint, subject, mode_from_seed, mode}
use Rattle.source.specs.Claim2.{told_by, told, TwoEffects}
use Rattle.source.proofs.Tells.{push, or_not, led_push, AllFine, Tells, says, trodden}
use Rattle.source.proofs.Rounds2.{Tree, Fine, Ok, At, at_to, at_push, at_says, unresolved, unresolved_is, resolve, begins}
use Rattle.mode.specs.declared.Request.TheVariants.{Point, Mode, Refused}

abbrev is_far : Conditional2 → Conditional2 → Bool
is_far c previous = lt (word 0x3f50_624d_d2f1_a9fc) (max (abs (c.eta.first -ᶠ previous.eta.first)) (abs (c.eta.second -ᶠ previous.eta.second)))

abbrev better : Settings2 → Option Conditional2 → Conditional2 → Option Conditional2
better s best c = pick (is_none_or best (λ value. lt (joint s c) (joint s value))) (Some c) best

abbrev judge : Settings2 → Option Conditional2 → Conditional2 → Run Pair Conditional2 (Flow (Option Conditional2))
judge s best c = ◌>>◌ (elim best [ Some previous ↦ err (is_far c previous) 14 | None ↦ done tt ]) (done (next (better s best c)))

abbrev seed_body : Settings2 → Pair → Option Conditional2 → Run Pair Conditional2 (Flow (Option Conditional2))
seed_body s start best = mode_from_seed s start >>= judge s best

abbrev fin : Conditional2 → Option Conditional2 → Tree
fin p best = done (unwrap best, p)

seeds_from : Settings2 → ℕ → ℕ → List Pair
seeds_from s k zero = []
seeds_from s k (suc n) = R.start_point s k ∷ seeds_from s (k + 1) n

mode_is : (s : Settings2) → mode s ≡ (subject (of (word 0) (word 0)) >>= λ p. (each (seeds_from s 0 6) None (seed_body s) >>= fin p))
unfolding mode seeds_from R.start_point pick
mode_is s = refl

-- ---- between two starts: n are left
abbrev seed_state : ℕ → ℕ → Conditional2 → Conditional2 → Search2
seed_state k zero c best = R.between Found 6 c best
seed_state k (suc n) c best = R.between Start k c best

Best : ℕ → Conditional2 → Option Conditional2 → Type 0
Best k best o = ((k ≡ 0) × (o ≡ None)) ⊎ ((1 ≤ k) × (o ≡ Some best))

-- the machine's best after the candidate c
stay : (s : Settings2) (k n : ℕ) (c b : Conditional2) → k + suc n ≡ 6 → pick (ltb k 5) (R.between Start (k + 1) c b) (R.between Found 6 c b) ≡ seed_state (k + 1) n c b
stay s k zero c b e = pick_no _ _ _ (le-ltb k 5 (omega arith))
stay s k (suc n) c b e = pick_yes _ _ _ (lt-ltb k 5 (omega arith))

first_best : (s : Settings2) (k : ℕ) (c best : Conditional2) → k ≡ 0 → R.better s k c best ≡ c
unfolding R.better
first_best s k c best e = pick_yes _ _ _ (eq-eqb k 0 e)

later_best : (s : Settings2) (k : ℕ) (c best : Conditional2) → 1 ≤ k → R.better s k c best ≡ pick (lt (joint s c) (joint s best)) c best
unfolding R.better R.joint R.prior_score
later_best s k c best e = pick_no _ _ _ (ne_eqb k 0 (apart k e))
  where
    apart : (k : ℕ) → 1 ≤ k → k ≡ 0 → ⊥
    apart k a b = omega arith

first_near : (k : ℕ) (c best : Conditional2) → k ≡ 0 → R.is_far k c best ≡ false
unfolding R.is_far
first_near k c best e = pick_yes _ _ _ (eq-eqb k 0 e)

later_far : (k : ℕ) (c best : Conditional2) → 1 ≤ k → R.is_far k c best ≡ is_far c best
unfolding R.is_far R.max_abs
later_far k c best e = pick_no _ _ _ (ne_eqb k 0 (apart k e))
  where
    apart : (k : ℕ) → 1 ≤ k → k ≡ 0 → ⊥
    apart k a b = omega arith

some_pick : (b : Bool) (c d : Conditional2) → pick b (Some c) (Some d) ≡ Some (pick b c d)
unfolding pick
some_pick true c d = refl
some_pick false c d = refl

module _ (s : Settings2) (p : Conditional2) where
  refusal : (k n : ℕ) (c best : Conditional2) → R.request s (R.between (Halted n) k c best) ≡ Refused n
  unfolding R.request_at R.between
  refusal k n c best = refl

  -- a candidate
  module _ (k n : ℕ) (e : k + suc n ≡ 6) (others : Option Conditional2 → Run Pair Conditional2 (Option Conditional2)) (best : Conditional2)
      (goes : (c b : Conditional2) (g : List Conditional2) → At s g (seed_state (k + 1) n c b) p → Ok s (others (Some b) >>= fin p) g) where
    -- it passes 13
    judged : (o : Option Conditional2) → Best k best o → (c : Conditional2) (g : List Conditional2) → R.is_unresolved s c ≡ false → At s g (R.finish s k c best) p
        → Ok s (judge s o c >>= turn others >>= fin p) g
    unfolding Best ◌>>=◌ turn Tells told_by R.finish
    judged o (inl (z, q)) c g u a =
        subst (λ v. Ok s (judge s v c >>= turn others >>= fin p) g) (sym q)
        (subst (λ v. Ok s (others v >>= fin p) g) (sym (pick_yes true (Some c) None refl))
        (goes c c g (at_to s a (pick_no _ _ _ u ∙ pick_no _ _ _ (first_near k c best z) ∙ stay s k n c (R.better s k c best) e ∙ ap (seed_state (k + 1) n c) (first_best s k c best z)))))
    judged o (inr (z, q)) c g u a =
        subst (λ v. Ok s (judge s v c >>= turn others >>= fin p) g) (sym q)
        (elim (or_not (is_far c best)) [
          | inl f ↦ subst (λ v. Ok s (◌>>◌ v (done (next (better s (Some best) c))) >>= turn others >>= fin p) g) (sym (pick_yes (is_far c best) (stop 14) (done tt) f))
              (at_says s (at_to s a (pick_no _ _ _ u ∙ pick_yes _ _ _ (later_far k c best z ∙ f))) (refusal k 14 c best))
          | inr f ↦ subst (λ v. Ok s (◌>>◌ v (done (next (better s (Some best) c))) >>= turn others >>= fin p) g) (sym (pick_no (is_far c best) (stop 14) (done tt) f))
              (subst (λ v. Ok s (others v >>= fin p) g) (sym (some_pick (lt (joint s c) (joint s best)) c best))
              (goes c (pick (lt (joint s c) (joint s best)) c best) g
              (at_to s a (pick_no _ _ _ u ∙ pick_no _ _ _ (later_far k c best z ∙ f) ∙ stay s k n c (R.better s k c best) e ∙ ap (seed_state (k + 1) n c) (later_best s k c best z)))))
        ])

    over : (o : Option Conditional2) → Best k best o → (c : Conditional2) (g : List Conditional2) → At s g (R.finish s k c best) p → Ok s (resolve s c >>= judge s o >>= turn others >>= fin p) g
    unfolding ◌>>=◌ Tells told_by R.finish
    over o b c g a =
        elim (or_not (unresolved s c)) [
          | inl u ↦ subst (λ v. Ok s (◌>>◌ v (done c) >>= judge s o >>= turn others >>= fin p) g) (sym (pick_yes (unresolved s c) (stop 13) (done tt) u))
              (at_says s (at_to s a (pick_yes _ _ _ (unresolved_is s c ∙ u))) (refusal k 13 c best))
          | inr u ↦ subst (λ v. Ok s (◌>>◌ v (done c) >>= judge s o >>= turn others >>= fin p) g) (sym (pick_no (unresolved s c) (stop 13) (done tt) u)) (judged o b c g (unresolved_is s c ∙ u) a)
        ]

  point_s : (k : ℕ) (c best : Conditional2) → R.request s (R.between Start k c best) ≡ Point (R.start_point s k)
  unfolding R.request_at R.between
  point_s k c best = refl

  next_s : (k : ℕ) (c best d : Conditional2) → R.advance s (R.between Start k c best) d ≡ R.begin_round s k 0 d best
  unfolding R.advance_at R.between
  next_s k c best d = refl

  found_s : (c best : Conditional2) → R.request s (R.between Found 6 c best) ≡ Mode
  unfolding R.request_at R.between
  found_s c best = refl

  best_s : (c best : Conditional2) → (R.between Found 6 c best).best ≡ best
  unfolding R.between
  best_s c best = refl

  unwrapped : (k : ℕ) (best : Conditional2) (o : Option Conditional2) → Best k best o → k + 0 ≡ 6 → unwrap o ≡ best
  unfolding Best
  unwrapped k best o (inl (z, q)) e = absurd (omega arith)
  unwrapped k best o (inr (z, q)) e = ap unwrap q

  seeds : (n k : ℕ) (c best : Conditional2) (o : Option Conditional2) (g : List Conditional2) → k + n ≡ 6 → Best k best o → At s g (seed_state k n c best) p
      → Ok s (each (seeds_from s k n) o (seed_body s) >>= fin p) g
  unfolding each seeds_from ◌>>=◌ mode_from_seed Tells told_by
  seeds zero k c best o g e b a = at_says s a (found_s c best) ∙ ap (λ v. found (v, p)) (best_s c best ∙ sym (unwrapped k best o b e))
  seeds (suc n) k c best o g e b a =
      let others : Option Conditional2 → Run Pair Conditional2 (Option Conditional2) = λ y. each (seeds_from s (k + 1) n) y (seed_body s) in (
        at_says s a (point_s k c best),
        λ d f. begins s p best k (judge s o) others (fin p) (over k n e others best (λ c b g a. seeds n (k + 1) c b (Some b) g (omega arith) (more k b) a) o b) 47 0 d (push g d) refl
            (at_push s d a (next_s k c best d)),
      )
    where
      more : (k : ℕ) (b : Conditional2) → Best (k + 1) b (Some b)
      more k b = unfold Best in inr (omega arith, refl)

pub tells : (s : Settings2) → Ok s (mode s) []
unfolding ◌>>=◌ Tells told_by mode seeds_from R.start_point pick led_from R.start R.request_at R.advance_at R.between
tells s = (refl, λ c f. seeds s c 6 0 c c None (c ∷ []) refl (unfold Best in inl (refl, refl)) (record { leads = refl; first = refl; long = lit≤ tt }))

-- ---- a history of the rules is a path of the run
asked_said : (s : Settings2) (g : List Conditional2) (p : Pair) → R.request s (after s g) ≡ Point p → told s g ≡ asks p
unfolding told_by
asked_said s g p e = ap (λ q. told_by q ((after s g).best, get_or g 0 nowhere)) e

abbrev Steps : Settings2 → List Conditional2 → List Conditional2 → Type 0
Steps s g h = FollowsFrom s (after s g) h

steps : (s : Settings2) (g : List Conditional2) (c : Conditional2) (h : List Conditional2) → Steps s g (c ∷ h) → (told s g ≡ asks c.eta) × Steps s (push g c) h
unfolding Answered
steps s g c h w = (asked_said s g c.eta w.0.asked, subst (λ x. FollowsFrom s x h) (sym (led_push (R.advance s) R.start g c)) w.1)

every : (g h : List Conditional2) → AllFine Fine g h
unfolding AllFine
every g [] = tt
every g (c ∷ h) = (tt, every (push g c) h)

pub two_effects : TwoEffects
unfolding led_from
two_effects s h = record {
  same = λ q. says Fine (λ m. m) (told s) (mode s) [] h (tells s) (every [] h) q;
  path = λ w. trodden Fine (λ m. m) (told s) (λ c. c.eta) (Steps s) (steps s) (mode s) [] h (tells s) (every [] h) w;
}
