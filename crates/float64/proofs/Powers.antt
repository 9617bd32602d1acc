-- Values between powers of two: what is from -2^k to 2^k, and what is 2^-(k+1) at least; where sums, products and quotients of such values lie. Assumes nothing.
use mathlib.Core.Path.{◌≡◌, refl, sym, ap, ◌∙◌, subst}
use mathlib.Core.Bool.{Bool, true, false, cond}
use Prim.Native.Nat.{ℕ, zero, suc, ◌+◌, ◌*◌, ◌^◌, ◌≤◌, ◌<◌}
use native.Mathlib.Nat.{mul-le-mul_right, mul-pos, zero-lt-suc}
use native.Mathlib.Omega.{arith}
use lib.Dec.{T, eqb, eqb→eq}
use lib.Pow.{pow-add}
use lib.IntN.{pos, negsuc}
use lib.Ieee.{Float, nan, inf, fin, binary64, up, down, level, unlike, round, lt, le, eq, neg, add, sub, mul, div, fits}
use lib.Ieee.Fits.{up_pos, down_pos, and_l, and_r}
use lib.Ieee.Positive.{den, den_pos}
use lib.Ieee.Scale.{finite}
use Rattle.float64.proofs.Order.{P, M, P_mul, M_mul, plus, less, Cross, le→cross, cross→le, num?, zero⁺, neg_plus, neg_less, neg_den, neg_anti, or_r, between_finite}
use Rattle.float64.proofs.Rounding.{Rounded, rounded_le_value, value_le_rounded, add_rounded, mul_rounded}
use Rattle.float64.proofs.Monotone.{rounded_num}

abbrev pub power : ℕ → Float
power k = fin false 1 (pos k)

-- from -2^k to 2^k
pub record InPower (k : ℕ) (x : Float) : Type 0 where
  pub low : T (le (fin true 1 (pos k)) x)
  pub high : T (le x (power k))

pub within_finite : (k : ℕ) (x : Float) → InPower k x → T (finite x)
within_finite k x w = between_finite (fin true 1 (pos k)) x (power k) tt tt w.low w.high

-- ---- the size of a value as one linear fact
one_sign : (s : Bool) (a A d : ℕ) → P s a * 1 + 0 * d ≤ 1 * A * d + M s a * 1 → 0 * d + M s a * 1 ≤ P s a * 1 + 1 * A * d → P s a + M s a ≤ A * d
one_sign false a A d h k = omega (arith, h)
one_sign true a A d h k = omega (arith, k)

pub size_of : (k : ℕ) (x : Float) → InPower k x → plus x + less x ≤ 2 ^ k * den x
size_of k nan w = absurd (within_finite k nan w)
size_of k (inf s) w = absurd (within_finite k (inf s) w)
size_of k (fin s m e) w = one_sign s (m * up e) (2 ^ k) (down e) (le→cross (fin s m e) (power k) tt tt w.high) (le→cross (fin true 1 (pos k)) (fin s m e) tt tt w.low)

-- 2^k is a value of the format
pub record Caps (k : ℕ) : Type 0 where
  pub high : T (fits binary64 (power k))
  pub low : T (fits binary64 (fin true 1 (pos k)))

up_lemma : (p u c A : ℕ) → p ≤ A * c → p * 1 + 0 * c ≤ 1 * A * c + u * 1
up_lemma p u c A h = omega (arith, h)

down_lemma : (p u c A : ℕ) → u ≤ A * c → 0 * c + u * 1 ≤ p * 1 + 1 * A * c
down_lemma p u c A h = omega (arith, h)

pub rounded_within : (k : ℕ) (x : Float) (p u c : ℕ) → Caps k → 0 < c → Rounded binary64 x p u c → p ≤ 2 ^ k * c → u ≤ 2 ^ k * c → InPower k x
rounded_within k x p u c f C i h g = record {
  low = value_le_rounded binary64 (fin true 1 (pos k)) x p u c C i f.low tt (down_lemma p u c (2 ^ k) g);
  high = rounded_le_value binary64 x (power k) p u c C i f.high tt (up_lemma p u c (2 ^ k) h);
}

sums : (p u d q v e A : ℕ) → p + u ≤ A * d → q + v ≤ A * e → (p * e + q * d ≤ A * 2 * (d * e)) × (u * e + v * d ≤ A * 2 * (d * e))
sums p u d q v e A h k =
    let x = mul-le-mul_right e h in
    let y = mul-le-mul_right d k in
    (omega (arith, x, y), omega (arith, x, y))

products : (p u d q v e A B : ℕ) → p + u ≤ A * d → q + v ≤ B * e → (p * q + u * v ≤ A * B * (d * e)) × (p * v + u * q ≤ A * B * (d * e))
products p u d q v e A B h k =
    let x : (p + u) * (q + v) ≤ A * d * (q + v) = mul-le-mul_right (q + v) h in
    let y : (q + v) * (A * d) ≤ B * e * (A * d) = mul-le-mul_right (A * d) k in
    (omega (arith, x, y), omega (arith, x, y))

pub add_within : (k : ℕ) (x y : Float) → Caps (k + 1) → InPower k x → InPower k y → InPower (k + 1) (add binary64 x y)
add_within k x y f v w =
    let h = sums (plus x) (less x) (den x) (plus y) (less y) (den y) (2 ^ k) (size_of k x v) (size_of k y w) in
    let e : 2 ^ k * 2 ≡ 2 ^ (k + 1) = sym (pow-add 2 k 1) in
    rounded_within (k + 1) (add binary64 x y) (plus x * den y + plus y * den x) (less x * den y + less y * den x) (den x * den y) f (mul-pos (den_pos x) (den_pos y))
    (add_rounded binary64 x y (within_finite k x v) (within_finite k y w))
    (subst (λ (z : ℕ). plus x * den y + plus y * den x ≤ z * (den x * den y)) e h.0) (subst (λ (z : ℕ). less x * den y + less y * den x ≤ z * (den x * den y)) e h.1)

pub mul_within : (j k : ℕ) (x y : Float) → Caps (j + k) → InPower j x → InPower k y → InPower (j + k) (mul binary64 x y)
mul_within j k x y f v w =
    let h = products (plus x) (less x) (den x) (plus y) (less y) (den y) (2 ^ j) (2 ^ k) (size_of j x v) (size_of k y w) in
    let e : 2 ^ j * 2 ^ k ≡ 2 ^ (j + k) = sym (pow-add 2 j k) in
    rounded_within (j + k) (mul binary64 x y) (plus x * plus y + less x * less y) (plus x * less y + less x * plus y) (den x * den y) f (mul-pos (den_pos x) (den_pos y))
    (mul_rounded binary64 x y (within_finite j x v) (within_finite k y w))
    (subst (λ (z : ℕ). plus x * plus y + less x * less y ≤ z * (den x * den y)) e h.0) (subst (λ (z : ℕ). plus x * less y + less x * plus y ≤ z * (den x * den y)) e h.1)

pub finite_add_num : (x y : Float) → T (finite x) → T (finite y) → T (num? (add binary64 x y))
finite_add_num x y p q =
    rounded_num binary64 (add binary64 x y) (plus x * den y + plus y * den x) (less x * den y + less y * den x) (den x * den y) (mul-pos (den_pos x) (den_pos y)) (add_rounded binary64 x y p q)

-- ---- values of 2^-(k+1) at least
pub record Least (k : ℕ) (x : Float) : Type 0 where
  pub is_finite : T (finite x)
  pub low : T (le (fin false 1 (negsuc k)) x)

least_sign : (s : Bool) (a D d : ℕ) → 0 < d → 1 * 1 * d + M s a * D ≤ P s a * D + 0 * d → (d ≤ P s a * D) × (M s a ≡ 0)
least_sign false a D d z h = (omega (arith, h), refl)
least_sign true a D d z h = absurd (omega (arith, h, z))

least_of : (k : ℕ) (x : Float) → Least k x → (den x ≤ plus x * 2 ^ suc k) × (less x ≡ 0)
least_of k nan w = absurd w.is_finite
least_of k (inf s) w = absurd w.is_finite
least_of k (fin s m e) w = least_sign s (m * up e) (2 ^ suc k) (down e) (down_pos e) (le→cross (fin false 1 (negsuc k)) (fin s m e) tt tt w.low)

least_lemma : (p u d q v e D E : ℕ) → d ≤ p * D → u ≡ 0 → e ≤ q * E → v ≡ 0 → 1 * 1 * (d * e) + (p * v + u * q) * (D * E) ≤ (p * q + u * v) * (D * E) + 0 * (d * e)
least_lemma p u d q v e D E h a k b =
    let x : d * e ≤ p * D * e = mul-le-mul_right e h in
    let y : e * (p * D) ≤ q * E * (p * D) = mul-le-mul_right (p * D) k in
    omega (arith, x, y, ap (λ (z : ℕ). p * z * (D * E)) b, ap (λ (z : ℕ). z * q * (D * E)) a, ap (λ (z : ℕ). z * v * (D * E)) a)

same : (j k : ℕ) → suc j + k ≡ suc (j + k)
same j k = omega arith

pub mul_low : (j k : ℕ) (x y : Float) → T (fits binary64 (fin false 1 (negsuc (j + suc k)))) → Least j x → Least k y → T (le (fin false 1 (negsuc (j + suc k))) (mul binary64 x y))
mul_low j k x y f v w =
    let a = least_of j x v in
    let b = least_of k y w in
    let e : 2 ^ suc j * 2 ^ suc k ≡ 2 ^ suc (j + suc k) = sym (pow-add 2 (suc j) (suc k)) ∙ ap (λ (z : ℕ). 2 ^ z) (same j (suc k)) in
    value_le_rounded binary64 (fin false 1 (negsuc (j + suc k))) (mul binary64 x y) (plus x * plus y + less x * less y) (plus x * less y + less x * plus y) (den x * den y)
    (mul-pos (den_pos x) (den_pos y)) (mul_rounded binary64 x y v.is_finite w.is_finite) f tt
    (subst (λ (z : ℕ). 1 * 1 * (den x * den y) + (plus x * less y + less x * plus y) * z ≤ (plus x * plus y + less x * less y) * z + 0 * (den x * den y)) e
    (least_lemma (plus x) (less x) (den x) (plus y) (less y) (den y) (2 ^ suc j) (2 ^ suc k) a.0 a.1 b.0 b.1))

-- ---- values of 2^k at least, and of -2^k at most
big_sign : (s : Bool) (a A d : ℕ) → 1 * A * d + M s a * 1 ≤ P s a * 1 + 0 * d → (A * d ≤ P s a) × (M s a ≡ 0)
big_sign false a A d h = (omega (arith, h), refl)
big_sign true a A d h = (omega (arith, h), omega (arith, h))

deep_sign : (s : Bool) (a A d : ℕ) → P s a * 1 + 1 * A * d ≤ 0 * d + M s a * 1 → (A * d ≤ M s a) × (P s a ≡ 0)
deep_sign false a A d h = (omega (arith, h), omega (arith, h))
deep_sign true a A d h = (omega (arith, h), refl)

big_of : (k : ℕ) (x : Float) → T (finite x) → T (le (power k) x) → (2 ^ k * den x ≤ plus x) × (less x ≡ 0)
big_of k nan p h = absurd p
big_of k (inf s) p h = absurd p
big_of k (fin s m e) p h = big_sign s (m * up e) (2 ^ k) (down e) (le→cross (power k) (fin s m e) tt tt h)

deep_of : (k : ℕ) (x : Float) → T (finite x) → T (le x (fin true 1 (pos k))) → (2 ^ k * den x ≤ less x) × (plus x ≡ 0)
deep_of k nan p h = absurd p
deep_of k (inf s) p h = absurd p
deep_of k (fin s m e) p h = deep_sign s (m * up e) (2 ^ k) (down e) (le→cross (fin s m e) (fin true 1 (pos k)) tt tt h)

big_lemma : (p u d q v e A : ℕ) → A * d ≤ p → u ≡ 0 → A * e ≤ q → v ≡ 0 → 1 * (A * A) * (d * e) + (p * v + u * q) * 1 ≤ (p * q + u * v) * 1 + 0 * (d * e)
big_lemma p u d q v e A h a k b =
    let x : A * d * (A * e) ≤ p * (A * e) = mul-le-mul_right (A * e) h in
    let y : A * e * p ≤ q * p = mul-le-mul_right p k in
    omega (arith, x, y, ap (λ (z : ℕ). p * z) b, ap (λ (z : ℕ). z * q) a, ap (λ (z : ℕ). z * v) a)

swap : (p u q v X c : ℕ) → X + (u * q + p * v) * 1 ≤ (u * v + p * q) * 1 + c → X + (p * v + u * q) * 1 ≤ (p * q + u * v) * 1 + c
swap p u q v X c h = omega (arith, h)

square_low : (k : ℕ) (x y : Float) → T (fits binary64 (power (k + k))) → T (finite x) → T (finite y)
    → 1 * (2 ^ k * 2 ^ k) * (den x * den y) + (plus x * less y + less x * plus y) * 1 ≤ (plus x * plus y + less x * less y) * 1 + 0 * (den x * den y) → T (le (power (k + k)) (mul binary64 x y))
square_low k x y f p q h =
    value_le_rounded binary64 (power (k + k)) (mul binary64 x y) (plus x * plus y + less x * less y) (plus x * less y + less x * plus y) (den x * den y) (mul-pos (den_pos x) (den_pos y))
    (mul_rounded binary64 x y p q) f tt
    (subst (λ (z : ℕ). 1 * z * (den x * den y) + (plus x * less y + less x * plus y) * 1 ≤ (plus x * plus y + less x * less y) * 1 + 0 * (den x * den y)) (sym (pow-add 2 k k)) h)

pub big_mul : (k : ℕ) (x y : Float) → T (fits binary64 (power (k + k))) → T (finite x) → T (finite y) → T (le (power k) x) → T (le (power k) y) → T (le (power (k + k)) (mul binary64 x y))
big_mul k x y f p q h g =
    let a = big_of k x p h in
    let b = big_of k y q g in
    square_low k x y f p q (big_lemma (plus x) (less x) (den x) (plus y) (less y) (den y) (2 ^ k) a.0 a.1 b.0 b.1)

pub deep_mul : (k : ℕ) (x y : Float) → T (fits binary64 (power (k + k))) → T (finite x) → T (finite y) → T (le x (fin true 1 (pos k))) → T (le y (fin true 1 (pos k))) → T
    (le (power (k + k)) (mul binary64 x y))
deep_mul k x y f p q h g =
    let a = deep_of k x p h in
    let b = deep_of k y q g in
    square_low k x y f p q (swap (plus x) (less x) (plus y) (less y) _ _ (big_lemma (less x) (plus x) (den x) (less y) (plus y) (den y) (2 ^ k) a.0 a.1 b.0 b.1))

-- ---- a difference above 0
sub_rounded : (x y : Float) → T (finite x) → T (finite (neg y)) → Rounded binary64 (sub binary64 x y) (plus x * den y + less y * den x) (less x * den y + plus y * den x) (den x * den y)
unfolding sub
sub_rounded x y p q =
    subst (λ (z : ℕ). Rounded binary64 (add binary64 x (neg y)) (plus x * z + less y * den x) (less x * z + plus y * den x) (den x * z)) (neg_den y)
    (subst (λ (z : ℕ). Rounded binary64 (add binary64 x (neg y)) (plus x * den (neg y) + z * den x) (less x * den (neg y) + plus y * den x) (den x * den (neg y))) (neg_plus y)
    (subst (λ (z : ℕ). Rounded binary64 (add binary64 x (neg y)) (plus x * den (neg y) + plus (neg y) * den x) (less x * den (neg y) + z * den x) (den x * den (neg y))) (neg_less y)
    (add_rounded binary64 x (neg y) p q)))

neg_finite : (y : Float) → T (finite y) → T (finite (neg y))
unfolding neg
neg_finite nan p = p
neg_finite (inf s) p = p
neg_finite (fin s m e) p = tt

pub nonpos : (x y : Float) → T (finite x) → T (finite y) → T (le x y) → T (le (sub binary64 x y) zero⁺)
nonpos x y p q h =
    rounded_le_value binary64 (sub binary64 x y) zero⁺ (plus x * den y + less y * den x) (less x * den y + plus y * den x) (den x * den y) (mul-pos (den_pos x) (den_pos y))
    (sub_rounded x y p (neg_finite y q)) (unfold fits in tt) tt
    (go (plus x * den y + less y * den x) (less x * den y + plus y * den x) (den x * den y) (flip (le→cross x y p q h)))
  where
    flip : Cross x y → plus x * den y + less y * den x ≤ less x * den y + plus y * den x
    flip c = omega (arith, c)

    go : (p u c : ℕ) → p ≤ u → p * 1 + 0 * c ≤ 0 * c + u * 1
    go p u c h = omega (arith, h)

pub sub_finite_r : (x y : Float) → T (finite x) → T (finite (sub binary64 x y)) → T (finite y)
unfolding sub add neg
sub_finite_r nan y p q = absurd p
sub_finite_r (inf s) y p q = absurd p
sub_finite_r (fin s m e) nan p q = q
sub_finite_r (fin s m e) (inf t) p q = q
sub_finite_r (fin s m e) (fin t n d) p q = tt

-- ---- a quotient
quot : (X A E Y N W : ℕ) → X ≤ A * E → Y ≤ N * W → X * Y ≤ A * W * (N * E)
quot X A E Y N W h k =
    let x : X * Y ≤ A * E * Y = mul-le-mul_right Y h in
    let y : Y * (A * E) ≤ N * W * (A * E) = mul-le-mul_right (A * E) k in
    omega (arith, x, y)

signs : (s : Bool) (a A d : ℕ) → P s a + M s a ≤ A * d → a ≤ A * d
signs false a A d h = omega (arith, h)
signs true a A d h = omega (arith, h)

P_le : (s : Bool) (a : ℕ) → P s a ≤ a
P_le false a = omega arith
P_le true a = omega arith

M_le : (s : Bool) (a : ℕ) → M s a ≤ a
M_le false a = omega arith
M_le true a = omega arith

pub div_within : (j k : ℕ) (x y : Float) → Caps (j + suc k) → InPower j x → Least k y → InPower (j + suc k) (div binary64 x y)
unfolding div
div_within j k nan y f v w = absurd (within_finite j nan v)
div_within j k (inf s) y f v w = absurd (within_finite j (inf s) v)
div_within j k (fin s m e) nan f v w = absurd w.is_finite
div_within j k (fin s m e) (inf t) f v w = absurd w.is_finite
div_within j k (fin s m e) (fin true n d) f v w = absurd (none (n * up d) (2 ^ suc k) (down d) (down_pos d) (least_of k (fin true n d) w).0)
  where
    none : (a D c : ℕ) → 0 < c → c ≤ 0 * D → ⊥
    none a D c z h = omega (arith, z, h)
div_within j k (fin s m e) (fin false zero d) f v w = absurd (none (up d) (2 ^ suc k) (down d) (down_pos d) (least_of k (fin false zero d) w).0)
  where
    none : (u D c : ℕ) → 0 < c → c ≤ 0 * u * D → ⊥
    none u D c z h = omega (arith, z, h)
div_within j k (fin s m e) (fin false (suc n) d) f v w =
    let a = m * up e * down d in
    let c = suc n * up d * down e in
    let h : a ≤ 2 ^ j * 2 ^ suc k * c = quot (m * up e) (2 ^ j) (down e) (down d) (suc n * up d) (2 ^ suc k) (signs s (m * up e) (2 ^ j) (down e) (size_of j (fin s m e) v))
    (least_of k (fin false (suc n) d) w).0 in
    let g : a ≤ 2 ^ (j + suc k) * c = subst (λ (z : ℕ). a ≤ z * c) (sym (pow-add 2 j (suc k))) h in
    subst (λ (b : Bool). InPower (j + suc k) (cond b (cond (eqb m 0) nan (inf (unlike s false))) (round binary64 (unlike s false) a c))) (sym (lib.Dec.eqb-suc-zero n))
    (rounded_within (j + suc k) (round binary64 (unlike s false) a c) (P (unlike s false) a) (M (unlike s false) a) c f (mul-pos (mul-pos (zero-lt-suc n) (up_pos d)) (down_pos e))
    (record { sign = unlike s false; size = a; made = refl; value = refl })
    (to (P (unlike s false) a) a (2 ^ (j + suc k) * c) (P_le (unlike s false) a) g) (to (M (unlike s false) a) a (2 ^ (j + suc k) * c) (M_le (unlike s false) a) g))
  where
    to : (x y z : ℕ) → x ≤ y → y ≤ z → x ≤ z
    to x y z h k = omega arith

pub eq_le : (x y : Float) → T (eq x y) → T (le x y)
unfolding le
eq_le x y h = or_r (lt x y) (eq x y) h

level→ : (s : Bool) (a : ℕ) (t : Bool) (b : ℕ) → T (level s a t b) → P s a + M t b ≡ P t b + M s a
level→ false a false b h = omega (arith, eqb→eq a b (and_l (eqb a b) true h))
level→ false a true b h = omega (arith, eqb→eq a b (and_l (eqb a b) (eqb a 0) h), eqb→eq a 0 (and_r (eqb a b) (eqb a 0) h))
level→ true a false b h = omega (arith, eqb→eq a b (and_l (eqb a b) (eqb a 0) h), eqb→eq a 0 (and_r (eqb a b) (eqb a 0) h))
level→ true a true b h = omega (arith, eqb→eq a b (and_l (eqb a b) true h))

pub eq_ge : (x y : Float) → T (finite x) → T (finite y) → T (eq x y) → T (le y x)
unfolding eq
eq_ge nan y p q h = absurd p
eq_ge (inf s) y p q h = absurd p
eq_ge (fin s m e) nan p q h = absurd q
eq_ge (fin s m e) (inf t) p q h = absurd q
eq_ge (fin s m e) (fin t n d) p q h =
    cross→le (fin t n d) (fin s m e) tt tt
    (omega (arith, level→ s (m * up e * down d) t (n * up d * down e) h, P_mul s (m * up e) (down d), P_mul t (n * up d) (down e), M_mul s (m * up e) (down d), M_mul t (n * up d) (down e)))

pub neg_within : (k : ℕ) (x : Float) → InPower k x → InPower k (neg x)
neg_within k x w = record { low = unfold neg in neg_anti x (power k) w.high; high = unfold neg in neg_anti (fin true 1 (pos k)) x w.low }
