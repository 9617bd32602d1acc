-- joint is a number at every point of a history, where the entries of the precision are within 2^101. Assumes nothing.
use lib.Dec.{T}
use lib.Ieee.{Float, binary64, of_bits, le, neg, fits}
use lib.Ieee.Fits.{add-fits}
use Rattle.float64.specs.Arithmetic.{◌+ᶠ◌, ◌*ᶠ◌, word, half, edge}
use Rattle.float64.proofs.Order.{num?}
use Rattle.float64.proofs.Powers.{InPower, within_finite, add_within, mul_within, finite_add_num}
use Rattle.mode_2d.specs.declared.population_focei_2d.Settings2.{Settings2}
use Rattle.mode_2d.specs.declared.population_focei_2d.Conditional2.{Conditional2}
use Rattle.mode_theorems.specs.Terms2.{prior0, prior1, joint}
use Rattle.mode_theorems.specs.History2.{Within, Answers}
use Rattle.mode_theorems.specs.Claim2.{Bounded}
use Rattle.mode.specs.declared.Request.{Request}
use Rattle.matrix.specs.declared.Pair.{Pair}

pub in_16 : (x : Float) → Within edge x → InPower 4 x
unfolding of_bits neg
in_16 x w = record { low = w.low; high = w.high }

in_2¹⁰¹ : (x : Float) → Within (word 0x4640_0000_0000_0000) x → InPower 101 x
unfolding of_bits neg
in_2¹⁰¹ x w = record { low = w.low; high = w.high }

-- one row of the precision times eta
row : (a b e g : Float) → InPower 101 a → InPower 101 b → InPower 4 e → InPower 4 g → InPower 106 (a *ᶠ e +ᶠ b *ᶠ g)
unfolding fits
row a b e g wa wb we wg =
    add_within 105 (a *ᶠ e) (b *ᶠ g) (record { high = tt; low = tt }) (mul_within 101 4 a e (record { high = tt; low = tt }) wa we) (mul_within 101 4 b g (record { high = tt; low = tt }) wb wg)

half_in : InPower 0 half
unfolding le of_bits
half_in = record { low = tt; high = tt }

penalty : (e g v w : Float) → InPower 4 e → InPower 4 g → InPower 106 v → InPower 106 w → InPower 111 (half *ᶠ (e *ᶠ v +ᶠ g *ᶠ w))
unfolding fits
penalty e g v w we wg wv ww =
    mul_within 0 111 half (e *ᶠ v +ᶠ g *ᶠ w) (record { high = tt; low = tt }) half_in
    (add_within 110 (e *ᶠ v) (g *ᶠ w) (record { high = tt; low = tt }) (mul_within 4 106 e v (record { high = tt; low = tt }) we wv) (mul_within 4 106 g w (record { high = tt; low = tt }) wg ww))

pub joint_num : (s : Settings2) → Bounded s → (q : Request Pair) (c : Conditional2) → Answers q c → T (num? (joint s c))
unfolding joint prior0 prior1
joint_num s d q c a =
    let v = in_16 c.eta.first a.within0 in
    let w = in_16 c.eta.second a.within1 in
    let x = row s.precision.m00 s.precision.m01 c.eta.first c.eta.second (in_2¹⁰¹ s.precision.m00 d.within00) (in_2¹⁰¹ s.precision.m01 d.within01) v w in
    let y = row s.precision.m10 s.precision.m11 c.eta.first c.eta.second (in_2¹⁰¹ s.precision.m10 d.within10) (in_2¹⁰¹ s.precision.m11 d.within11) v w in
    finite_add_num c.nll _ a.nll_finite (within_finite 111 _ (penalty c.eta.first c.eta.second _ _ v w x y))

pub joint_fits : (s : Settings2) (c : Conditional2) → T (fits binary64 (joint s c))
unfolding joint
joint_fits s c = add-fits binary64 c.nll _
