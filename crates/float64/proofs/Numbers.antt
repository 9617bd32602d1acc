-- Which results are numbers: a difference and a product of finite values, and no NaN among them. Assumes nothing.
use Prim.Native.Nat.{ℕ, ◌+◌, ◌*◌, ◌<◌}
use native.Mathlib.Nat as N
use native.Mathlib.Omega.{arith}
use mathlib.Core.Bool.{true, false, not}
use lib.Dec.{T, lt→ltb}
use lib.Ieee.{Float, nan, inf, fin, Format, up, down, lt, neg, add, sub, mul, is_nan}
use lib.Ieee.Fits.{down_pos}
use lib.Ieee.Positive.{den_pos, positive, first_pos}
use lib.Ieee.Scale.{finite}
use Rattle.float64.proofs.Order.{num?, lt→cross, zero⁺}
use Rattle.float64.proofs.Rounding.{add_rounded, mul_rounded}
use Rattle.float64.proofs.Monotone.{rounded_num}

-- ---- above 0
pos_lemma : (n u e : ℕ) → 0 * e + 0 * 1 < n * u * 1 + 0 * e → 0 < n * u
pos_lemma n u e h = omega arith

neg_lemma : (n e : ℕ) → 0 * e + n * 1 < 0 * 1 + 0 * e → ⊥
neg_lemma n e h = omega arith

pub positive_of : (y : Float) → T (finite y) → T (lt zero⁺ y) → T (positive y)
positive_of nan p h = absurd p
positive_of (inf s) p h = absurd p
positive_of (fin true n d) p h = absurd (neg_lemma (n * up d) (down d) (lt→cross zero⁺ (fin true n d) tt tt h))
positive_of (fin false n d) p h = lt→ltb 0 n (first_pos n (up d) (pos_lemma n (up d) (down d) (lt→cross zero⁺ (fin false n d) tt tt h)))

-- ---- a number less a number is a number, where the first is finite; and a product of finite numbers is one
pub fin_sub_num : (f : Format) (x y : Float) → T (finite x) → T (num? y) → T (num? (sub f x y))
unfolding sub
fin_sub_num f nan y p q = absurd p
fin_sub_num f (inf s) y p q = absurd p
fin_sub_num f (fin s m e) nan p q = absurd (unfold is_nan in q)
fin_sub_num f (fin s m e) (inf t) p q = unfold is_nan in tt
fin_sub_num f (fin s m e) (fin t n d) p q = rounded_num f (add f (fin s m e) (neg (fin t n d))) _ _ _ (N.mul-pos (down_pos e) (down_pos d)) (add_rounded f (fin s m e) (fin (not t) n d) tt tt)

pub fin_mul_num : (f : Format) (x y : Float) → T (finite x) → T (finite y) → T (num? (mul f x y))
fin_mul_num f x y p q = rounded_num f (mul f x y) _ _ _ (N.mul-pos (den_pos x) (den_pos y)) (mul_rounded f x y p q)
