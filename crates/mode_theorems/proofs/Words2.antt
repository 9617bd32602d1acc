-- The rules' words are the claim's: each test and point of the two-effect rules is document 01's term, as Terms2 writes it out. Assumes nothing.
use mathlib.Core.Path.{◌≡◌, refl, sym, ap, ◌∙◌, subst}
use mathlib.Core.Logic.{◌⊎◌, inl, inr}
use mathlib.Core.Bool.{Bool, true, false, not, ◌||◌, true≢false}
use mathlib.Core.List.{List, [], ◌∷◌}
use Prim.Native.Nat.{ℕ, zero, suc, ◌+◌, ◌<◌}
use native.Mathlib.Omega.{arith}
use lib.Dec.{T, eqb}
use lib.Ieee.{Float, lt, le}
use borrow.Author.Tests.{ne_eqb}
use Rattle.float64.specs.Arithmetic.{◌-ᶠ◌, ◌*ᶠ◌, word}
use Rattle.float64.specs.Float64.{abs}
use Rattle.float64.specs.Pick.{pick, pick_no}
use Rattle.float64.proofs.Order.{of_true}
use Rattle.matrix.specs.Matrix.{sum, none, product, dot, inverse_positive}
use Rattle.matrix.specs.declared.Pair.{Pair}
use Rattle.mode_2d.specs.declared.population_focei_2d.Settings2.{Settings2}
use Rattle.mode_2d.specs.declared.population_focei_2d.Conditional2.{Conditional2}
use Rattle.mode_2d.specs.declared.population_focei_2d.Search2.{Search2}
use Rattle.mode_2d.specs.Rules as R
use Rattle.mode_theorems.specs.Terms2.{start_points, prior0, prior1, joint, norm, resolution, edge, IsUnresolved, Resolved, distance, IsFar, better, IsFlat}

-- ---- the starts: n of the rules', from the k-th on
unfoldable pub start_points_from : Settings2 → ℕ → ℕ → List Pair
start_points_from s zero k = []
start_points_from s (suc n) k = R.start_point s k ∷ start_points_from s n (k + 1)

pub starts_are : (s : Settings2) → start_points_from s 6 0 ≡ start_points s
unfolding start_points_from R.start_point start_points pick
starts_are s = refl

-- ---- a point with the prior
pub joint_is : (s : Settings2) (c : Conditional2) → R.joint s c ≡ joint s c
unfolding R.joint R.prior_score dot product joint prior0 prior1
joint_is s c = refl

norm_is : (s : Settings2) (c : Conditional2) → R.norm s c ≡ norm s c
unfolding R.norm R.max_abs R.penalised_score R.prior_score product norm prior0 prior1
norm_is s c = refl

pub taken_is : (s : Settings2) (x : Search2) (c : Conditional2) → R.is_taken s x c ≡ le (joint s c) (joint s x.current -ᶠ word 0x3f1a_36e2_eb1c_432d *ᶠ x.decrease)
unfolding R.is_taken
taken_is s x c =
    ap (λ (v : Float). le v (R.joint s x.current -ᶠ word 0x3f1a_36e2_eb1c_432d *ᶠ x.decrease)) (joint_is s c)
    ∙ ap (λ (v : Float). le (joint s c) (v -ᶠ word 0x3f1a_36e2_eb1c_432d *ᶠ x.decrease)) (joint_is s x.current)

-- ---- candidates
abbrev beyond : Settings2 → Float → Bool
beyond s eta = le (edge s) (abs eta)

unresolved_by : (s : Settings2) (c : Conditional2) → R.is_unresolved s c ≡ (lt resolution (norm s c) || (beyond s c.eta.first || beyond s c.eta.second))
unfolding R.is_unresolved edge pick
unresolved_by s c =
    go (lt resolution (R.norm s c)) (beyond s c.eta.first) (beyond s c.eta.second)
    ∙ ap (λ (v : Float). lt resolution v || (beyond s c.eta.first || beyond s c.eta.second)) (norm_is s c)
  where
    go : (t u v : Bool) → pick t true (pick u true v) ≡ (t || (u || v))
    go true u v = refl
    go false true v = refl
    go false false v = refl

pub unresolved_is : (s : Settings2) (c : Conditional2) → R.is_unresolved s c ≡ true → IsUnresolved s c
unresolved_is s c e = go (lt resolution (norm s c)) (beyond s c.eta.first) (beyond s c.eta.second) (sym (unresolved_by s c) ∙ e)
  where
    go : (t u v : Bool) → (t || (u || v)) ≡ true → T t ⊎ (T u ⊎ T v)
    go true u v e = inl tt
    go false true v e = inr (inl tt)
    go false false v e = inr (inr (of_true v e))

pub resolved_is : (s : Settings2) (c : Conditional2) → R.is_unresolved s c ≡ false → Resolved s c
resolved_is s c e =
    let w = go (lt resolution (norm s c)) (beyond s c.eta.first) (beyond s c.eta.second) (sym (unresolved_by s c) ∙ e) in
    record { small = w.0; inside0 = w.1; inside1 = w.2 }
  where
    go : (t u v : Bool) → (t || (u || v)) ≡ false → T (not t) × T (not u) × T (not v)
    go true u v e = absurd (true≢false e)
    go false true v e = absurd (true≢false e)
    go false false v e = (tt, tt, subst (λ (b : Bool). T (not b)) (sym e) tt)

far_by : (k : ℕ) (c b : Conditional2) → R.is_far k c b ≡ pick (eqb k 0) false (lt resolution (distance c b))
unfolding R.is_far R.max_abs distance
far_by k c b = refl

-- a far candidate is not the first
pub far_is : (k : ℕ) (c b : Conditional2) → R.is_far k c b ≡ true → IsFar c b
unfolding pick
far_is k c b e = go (eqb k 0) (lt resolution (distance c b)) (sym (far_by k c b) ∙ e)
  where
    go : (t u : Bool) → pick t false u ≡ true → T u
    go true u e = absurd (true≢false (sym e))
    go false true e = tt
    go false false e = absurd (true≢false (sym e))

later : (k : ℕ) → 0 < k → eqb k 0 ≡ false
later k h = ne_eqb k 0 (λ e. omega (arith, h, e))

pub near_is : (k : ℕ) (c b : Conditional2) → 0 < k → R.is_far k c b ≡ false → IsFar c b → ⊥
near_is k c b h e w = subst T (sym (far_by k c b ∙ pick_no (eqb k 0) _ _ (later k h)) ∙ e) w

pub better_by : (s : Settings2) (k : ℕ) (c b : Conditional2) → R.better s k c b ≡ pick (eqb k 0) c (better s c b)
unfolding R.better better
better_by s k c b = ap (λ (v : Float). pick (eqb k 0) c (pick (lt v (R.joint s b)) c b)) (joint_is s c) ∙ ap (λ (v : Float). pick (eqb k 0) c (pick (lt (joint s c) v) c b)) (joint_is s b)

pub better_is : (s : Settings2) (k : ℕ) (c b : Conditional2) → 0 < k → R.better s k c b ≡ better s c b
better_is s k c b h = better_by s k c b ∙ pick_no (eqb k 0) _ _ (later k h)

-- ---- a round
pub flat_is : (s : Settings2) (c : Conditional2) → inverse_positive (R.curvature s.precision c.information) ≡ none → IsFlat s c
unfolding R.curvature sum
flat_is s c e = e
