-- Sums, differences and products with a positive factor keep the order, infinities included. A value of the format less something that is not
-- negative is no larger. Assumes nothing.
use mathlib.Core.Path.{◌≡◌, refl, sym, ap, subst}
use Prim.Native.Nat.{ℕ, zero, suc, ◌+◌, ◌*◌, ◌≤◌, ◌<◌}
use native.Mathlib.Nat.{mul-le-mul_right, mul-pos}
use native.Mathlib.Omega.{arith}
use mathlib.Core.Logic.{◌⊎◌, inl, inr}
use mathlib.Core.Bool.{Bool, true, false, cond}
use lib.IntN.{ℤ}
use lib.Dec.{T, ltb}
use lib.Ieee.{Float, nan, inf, fin, Format, up, down, lt, le, neg, add, sub, mul, is_nan, fits}
use lib.Ieee.Positive.{den, den_pos, positive}
use lib.Ieee.Scale.{finite}
use Rattle.float64.proofs.Order.{plus, less, Cross, le→cross, num?, LeBy, bottom, top, both, le→by, bottom_le, le_top, le_num_l, le_num_r, le_trans, le_refl_num, lt→le, neg_anti, zero⁺}
use Rattle.float64.proofs.Rounding.{Rounded, rounded_le, rounded_le_value, value_le_rounded, add_rounded, mul_rounded}

pub rounded_num : (f : Format) (x : Float) (p u c : ℕ) → 0 < c → Rounded f x p u c → T (num? x)
rounded_num f x p u c C i = le_num_l x x (rounded_le f x x p u c p u c C C i i (omega arith))

-- ---- sums
spread : (p r a b c d : ℕ) → (p * c + r * a) * (b * d) ≡ p * b * (c * d) + r * d * (a * b)
spread p r a b c d = omega arith

spread' : (p r a b c d : ℕ) → (p * d + r * b) * (a * c) ≡ p * a * (c * d) + r * c * (a * b)
spread' p r a b c d = omega arith

-- (p - u) / a ≤ (q - v) / b and (r - w) / c ≤ (g - k) / d
sum_cross : (p u a q v b r w c g k d : ℕ) → p * b + v * a ≤ q * a + u * b → r * d + k * c ≤ g * c + w * d
    → (p * c + r * a) * (b * d) + (v * d + k * b) * (a * c) ≤ (q * d + g * b) * (a * c) + (u * c + w * a) * (b * d)
sum_cross p u a q v b r w c g k d h j =
    let x : p * b * (c * d) + v * a * (c * d) ≤ q * a * (c * d) + u * b * (c * d) = omega (arith, mul-le-mul_right (c * d) h) in
    let y : r * d * (a * b) + k * c * (a * b) ≤ g * c * (a * b) + w * d * (a * b) = omega (arith, mul-le-mul_right (a * b) j) in
    omega (arith, x, y, spread p r a b c d, spread u w a b c d, spread' v k a b c d, spread' q g a b c d)

pub add_keeps : (f : Format) (x x' y y' : Float) → T (finite x) → T (finite x') → T (finite y) → T (finite y') → Cross x x' → Cross y y' → T (le (add f x y) (add f x' y'))
add_keeps f x x' y y' p p' q q' h k =
    rounded_le f (add f x y) (add f x' y') (plus x * den y + plus y * den x) (less x * den y + less y * den x) (den x * den y) (plus x' * den y' + plus y' * den x')
    (less x' * den y' + less y' * den x') (den x' * den y')
    (mul-pos (den_pos x) (den_pos y)) (mul-pos (den_pos x') (den_pos y')) (add_rounded f x y p q) (add_rounded f x' y' p' q')
    (sum_cross (plus x) (less x) (den x) (plus x') (less x') (den x') (plus y) (less y) (den y) (plus y') (less y') (den y') h k)

inf_add : (f : Format) (s : Bool) (y : Float) → T (num? (add f (inf s) y)) → add f (inf s) y ≡ inf s
unfolding add is_nan
inf_add f s nan h = absurd h
inf_add f true (inf true) h = refl
inf_add f true (inf false) h = absurd h
inf_add f false (inf true) h = absurd h
inf_add f false (inf false) h = refl
inf_add f s (fin t n d) h = refl

fin_add_inf : (f : Format) (s : Bool) (m : ℕ) (e : ℤ) (t : Bool) → add f (fin s m e) (inf t) ≡ inf t
unfolding add
fin_add_inf f s m e t = refl

add_by : (f : Format) (x x' y y' : Float) → LeBy x x' → LeBy y y' → T (num? (add f x y)) → T (num? (add f x' y')) → T (le (add f x y) (add f x' y'))
add_by f x x' y y' (bottom v h) k p q = subst (λ (z : Float). T (le z (add f v y'))) (sym (inf_add f true y p)) (bottom_le (add f v y') q)
add_by f x x' y y' (top v h) k p q = subst (λ (z : Float). T (le (add f v y) z)) (sym (inf_add f false y' q)) (le_top (add f v y) p)
add_by f x x' y y' (both s m e t n d h) (bottom v k) p q = subst (λ (z : Float). T (le z (add f (fin t n d) v))) (sym (fin_add_inf f s m e true)) (bottom_le (add f (fin t n d) v) q)
add_by f x x' y y' (both s m e t n d h) (top v k) p q = subst (λ (z : Float). T (le (add f (fin s m e) v) z)) (sym (fin_add_inf f t n d false)) (le_top (add f (fin s m e) v) p)
add_by f x x' y y' (both s m e t n d h) (both s' m' e' t' n' d' k) p q = add_keeps f (fin s m e) (fin t n d) (fin s' m' e') (fin t' n' d') tt tt tt tt h k

pub add_mono : (f : Format) (x x' y y' : Float) → T (le x x') → T (le y y') → T (num? (add f x y)) → T (num? (add f x' y')) → T (le (add f x y) (add f x' y'))
add_mono f x x' y y' h k p q = add_by f x x' y y' (le→by x x' h) (le→by y y' k) p q

pub sub_mono : (f : Format) (x x' y y' : Float) → T (le x x') → T (le y' y) → T (num? (sub f x y)) → T (num? (sub f x' y')) → T (le (sub f x y) (sub f x' y'))
unfolding sub
sub_mono f x x' y y' h k p q = add_mono f x x' (neg y) (neg y') h (neg_anti y' y k) p q

-- ---- x ≤ x + d for 0 ≤ d, and x + d ≤ x for d ≤ 0, where x is a value of the format
grow : (p u a r w c : ℕ) → 0 * c + w * 1 ≤ r * 1 + 0 * c → p * (a * c) + (u * c + w * a) * a ≤ (p * c + r * a) * a + u * (a * c)
grow p u a r w c h = omega (arith, mul-le-mul_right (a * a) h)

shrink : (p u a r w c : ℕ) → r * 1 + 0 * c ≤ 0 * c + w * 1 → (p * c + r * a) * a + u * (a * c) ≤ p * (a * c) + (u * c + w * a) * a
shrink p u a r w c h = omega (arith, mul-le-mul_right (a * a) h)

pub add_ge : (f : Format) (x d : Float) → T (fits f x) → T (le zero⁺ d) → T (num? (add f x d)) → T (le x (add f x d))
add_ge f nan d p h q = absurd (unfold add is_nan in q)
add_ge f (inf s) d p h q = subst (λ (z : Float). T (le (inf s) z)) (sym (inf_add f s d q)) (le_refl_num (inf s) (unfold is_nan in tt))
add_ge f (fin s m e) nan p h q = absurd (unfold le in h)
add_ge f (fin s m e) (inf true) p h q = absurd (unfold le in h)
add_ge f (fin s m e) (inf false) p h q = subst (λ (z : Float). T (le (fin s m e) z)) (sym (fin_add_inf f s m e false)) (le_top (fin s m e) (unfold is_nan in tt))
add_ge f (fin s m e) (fin t n d) p h q =
    let x = fin s m e in
    let y = fin t n d in
    value_le_rounded f x (add f x y) (plus x * den y + plus y * den x) (less x * den y + less y * den x) (den x * den y) (mul-pos (den_pos x) (den_pos y)) (add_rounded f x y tt tt) p tt
    (grow (plus x) (less x) (den x) (plus y) (less y) (den y) (le→cross zero⁺ y tt tt h))

pub add_le : (f : Format) (x d : Float) → T (fits f x) → T (le d zero⁺) → T (num? (add f x d)) → T (le (add f x d) x)
add_le f nan d p h q = absurd (unfold add is_nan in q)
add_le f (inf s) d p h q = subst (λ (z : Float). T (le z (inf s))) (sym (inf_add f s d q)) (le_refl_num (inf s) (unfold is_nan in tt))
add_le f (fin s m e) nan p h q = absurd (unfold le in h)
add_le f (fin s m e) (inf false) p h q = absurd (unfold le in h)
add_le f (fin s m e) (inf true) p h q = subst (λ (z : Float). T (le z (fin s m e))) (sym (fin_add_inf f s m e true)) (bottom_le (fin s m e) (unfold is_nan in tt))
add_le f (fin s m e) (fin t n d) p h q =
    let x = fin s m e in
    let y = fin t n d in
    rounded_le_value f (add f x y) x (plus x * den y + plus y * den x) (less x * den y + less y * den x) (den x * den y) (mul-pos (den_pos x) (den_pos y)) (add_rounded f x y tt tt) p tt
    (shrink (plus x) (less x) (den x) (plus y) (less y) (den y) (le→cross y zero⁺ tt tt h))

neg_zero : T (le (neg zero⁺) zero⁺)
unfolding neg le
neg_zero = tt

pub sub_le : (f : Format) (x d : Float) → T (fits f x) → T (le zero⁺ d) → T (num? (sub f x d)) → T (le (sub f x d) x)
unfolding sub
sub_le f x d p h q = add_le f x (neg d) p (le_trans (neg d) (neg zero⁺) zero⁺ (neg_anti zero⁺ d h) neg_zero) q

-- ---- a product with a positive finite factor on the left
mul_cross : (g c p u a q v b : ℕ) → p * b + v * a ≤ q * a + u * b → (g * p + 0 * u) * (c * b) + (g * v + 0 * q) * (c * a) ≤ (g * q + 0 * v) * (c * a) + (g * u + 0 * p) * (c * b)
mul_cross g c p u a q v b h = omega (arith, mul-le-mul_right (g * c) h)

pos_mul_inf : (f : Format) (n : ℕ) (d : ℤ) (s : Bool) → T (ltb 0 n) → mul f (fin false n d) (inf s) ≡ inf s
unfolding mul
pos_mul_inf f zero d s h = absurd h
pos_mul_inf f (suc n) d true h = ap (λ (b : Bool). cond b nan (inf true)) (lib.Dec.eqb-suc-zero n)
pos_mul_inf f (suc n) d false h = ap (λ (b : Bool). cond b nan (inf false)) (lib.Dec.eqb-suc-zero n)

fin_mul_fin : (f : Format) (s : Bool) (m : ℕ) (e : ℤ) (t : Bool) (n : ℕ) (d : ℤ) → T (num? (mul f (fin s m e) (fin t n d)))
fin_mul_fin f s m e t n d =
    let x = fin s m e in
    let y = fin t n d in
    rounded_num f (mul f x y) (plus x * plus y + less x * less y) (plus x * less y + less x * plus y) (den x * den y) (mul-pos (den_pos x) (den_pos y)) (mul_rounded f x y tt tt)

pub pos_mul_num : (f : Format) (k x : Float) → T (positive k) → T (num? x) → T (num? (mul f k x))
unfolding is_nan
pos_mul_num f nan x p q = absurd p
pos_mul_num f (inf s) x p q = absurd p
pos_mul_num f (fin true n d) x p q = absurd p
pos_mul_num f (fin false n d) nan p q = absurd q
pos_mul_num f (fin false n d) (inf s) p q = subst (λ (z : Float). T (num? z)) (sym (pos_mul_inf f n d s p)) tt
pos_mul_num f (fin false n d) (fin s m e) p q = fin_mul_fin f false n d s m e

mul_by : (f : Format) (n : ℕ) (d : ℤ) (x y : Float) → T (ltb 0 n) → LeBy x y → T (le (mul f (fin false n d) x) (mul f (fin false n d) y))
mul_by f n d x y p (bottom v h) = subst (λ (z : Float). T (le z (mul f (fin false n d) v))) (sym (pos_mul_inf f n d true p)) (bottom_le (mul f (fin false n d) v) (pos_mul_num f (fin false n d) v p h))
mul_by f n d x y p (top v h) = subst (λ (z : Float). T (le (mul f (fin false n d) v) z)) (sym (pos_mul_inf f n d false p)) (le_top (mul f (fin false n d) v) (pos_mul_num f (fin false n d) v p h))
mul_by f n d x y p (both s m e t o c h) =
    let k = fin false n d in
    let v = fin s m e in
    let w = fin t o c in
    rounded_le f (mul f k v) (mul f k w) (plus k * plus v + less k * less v) (plus k * less v + less k * plus v) (den k * den v) (plus k * plus w + less k * less w) (plus k * less w + less k * plus w)
    (den k * den w)
    (mul-pos (den_pos k) (den_pos v)) (mul-pos (den_pos k) (den_pos w)) (mul_rounded f k v tt tt) (mul_rounded f k w tt tt)
    (mul_cross (n * up d) (down d) (plus v) (less v) (den v) (plus w) (less w) (den w) h)

pub mul_mono : (f : Format) (k x y : Float) → T (positive k) → T (le x y) → T (le (mul f k x) (mul f k y))
mul_mono f nan x y p h = absurd p
mul_mono f (inf s) x y p h = absurd p
mul_mono f (fin true n d) x y p h = absurd p
mul_mono f (fin false n d) x y p h = mul_by f n d x y p (le→by x y h)

pub mul_nonneg : (f : Format) (k x : Float) → T (positive k) → T (le zero⁺ x) → T (le zero⁺ (mul f k x))
mul_nonneg f nan x p h = absurd p
mul_nonneg f (inf s) x p h = absurd p
mul_nonneg f (fin true n d) x p h = absurd p
mul_nonneg f (fin false n d) x p h =
    let k = fin false n d in
    le_trans zero⁺ (mul f k zero⁺) (mul f k x)
    (value_le_rounded f zero⁺ (mul f k zero⁺) (plus k * plus zero⁺ + less k * less zero⁺) (plus k * less zero⁺ + less k * plus zero⁺) (den k * den zero⁺) (mul-pos (den_pos k) (den_pos zero⁺))
    (mul_rounded f k zero⁺ tt tt) (unfold fits in tt) tt (omega arith))
    (mul_mono f k zero⁺ x p h)

-- ---- what is at most c - k * d is at most c, where d is above 0 or a NaN
nan_mul : (f : Format) (k d : Float) → T (positive k) → T (is_nan d) → T (is_nan (mul f k d))
unfolding is_nan mul
nan_mul f nan d p h = absurd p
nan_mul f (inf s) d p h = absurd p
nan_mul f (fin s n e) nan p h = tt
nan_mul f (fin s n e) (inf t) p h = absurd h
nan_mul f (fin s n e) (fin t o c) p h = absurd h

nan_sub : (f : Format) (x d : Float) → T (num? (sub f x d)) → T (is_nan d) → ⊥
unfolding is_nan sub add
nan_sub f nan d p h = p
nan_sub f (inf s) nan p h = p
nan_sub f (inf s) (inf t) p h = h
nan_sub f (inf s) (fin t o c) p h = h
nan_sub f (fin s n e) nan p h = p
nan_sub f (fin s n e) (inf t) p h = h
nan_sub f (fin s n e) (fin t o c) p h = h

pub descent : (f : Format) (k t c d : Float) → T (positive k) → T (fits f c) → T (lt zero⁺ d) ⊎ T (is_nan d) → T (le t (sub f c (mul f k d))) → T (le t c)
descent f k t c d p q (inl u) h = le_trans t (sub f c (mul f k d)) c h (sub_le f c (mul f k d) q (mul_nonneg f k d p (lt→le zero⁺ d u)) (le_num_r t (sub f c (mul f k d)) h))
descent f k t c d p q (inr u) h = absurd (nan_sub f c (mul f k d) (le_num_r t (sub f c (mul f k d)) h) (nan_mul f k d p u))
