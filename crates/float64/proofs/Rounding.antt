-- `round` keeps the order of signed fractions, the sign goes through it, and a value of the format stays as it is. A sum and a product are each a signed
-- fraction, rounded. Assumes nothing.
use mathlib.Core.Path.{◌≡◌, refl, sym, ap, ◌∙◌, subst}
use Prim.Native.Nat.{ℕ, zero, suc, ◌+◌, ◌-◌, ◌*◌, ◌%◌, ◌^◌, ◌≤◌, ◌<◌, zero-le}
use native.Mathlib.Nat.{le_of_mul-le-mul_right, mul-le-mul_right, mul-lt-mul_of_pos_right, mul_comm, mul_assoc, mul-one, lt_of_lt_of_le, le_of_eq, add-sub_of_le}
use native.Mathlib.Nat as N
use native.Mathlib.Omega.{arith}
use mathlib.Core.Bool.{Bool, true, false, not, ◌&&◌, cond}
use lib.IntN.{ℤ, pos, negsuc}
use lib.Dec.{T, leb, ltb, eqb, leb→le, ltb→lt, nltb→le}
use lib.Pow.{pow-add, pow_pos}
use lib.Ieee.{Float, nan, inf, fin, Format, prec, emax, low, up, down, odd, units, round, le, neg, sum, add, mul, fits}
use lib.Ieee.Fits.{down_pos, and_l, and_r, round_is}
use lib.Ieee.Exact.{HasValue, round_exact}
use lib.Ieee.Order.{drop, kept, round_mono}
use lib.Ieee.Positive.{den}
use lib.Ieee.Scale.{finite}
use Rattle.float64.proofs.Order.{P, M, P_mul, M_mul, plus, less, cross→le, le_trans, neg_anti}

-- ±a / c ≤ ±b / d
abbrev pub SignedLe : Bool → ℕ → ℕ → Bool → ℕ → ℕ → Type 0
SignedLe s a c t b d = P s a * d + M t b * c ≤ P t b * c + M s a * d

-- ---- a value by any signed fraction that it equals
pub value_finite : (x : Float) (s : Bool) (a c : ℕ) → HasValue x s a c → T (finite x)
value_finite nan s a c h = h
value_finite (inf t) s a c h = h
value_finite (fin t m e) s a c h = tt

value_P : (s : Bool) (n c a d : ℕ) → n * c ≡ a * d → P s n * c ≡ P s a * d
value_P false n c a d h = h
value_P true n c a d h = omega arith

value_M : (s : Bool) (n c a d : ℕ) → n * c ≡ a * d → M s n * c ≡ M s a * d
value_M false n c a d h = omega arith
value_M true n c a d h = h

pub value_plus : (x : Float) (s : Bool) (a c : ℕ) → HasValue x s a c → plus x * c ≡ P s a * den x
value_plus nan s a c h = absurd h
value_plus (inf t) s a c h = absurd h
value_plus (fin t m e) s a c h = subst (λ (z : Bool). P t (m * up e) * c ≡ P z a * down e) h.0 (value_P t (m * up e) c a (down e) h.1)

pub value_less : (x : Float) (s : Bool) (a c : ℕ) → HasValue x s a c → less x * c ≡ M s a * den x
value_less nan s a c h = absurd h
value_less (inf t) s a c h = absurd h
value_less (fin t m e) s a c h = subst (λ (z : Bool). M t (m * up e) * c ≡ M z a * down e) h.0 (value_M t (m * up e) c a (down e) h.1)

-- from S / c, written (S - U) / c, to (p - u) / dx, of the same value: on the left of an order, and on its right
carry_l : (p u dx S U c R W d : ℕ) → 0 < c → p * c ≡ S * dx → u * c ≡ U * dx → S * d + W * c ≤ R * c + U * d → p * d + W * dx ≤ R * dx + u * d
carry_l p u dx S U c R W d C a b h = le_of_mul-le-mul_right {k = c} (omega (arith, mul-le-mul_right dx h, ap (λ (z : ℕ). z * d) a, ap (λ (z : ℕ). z * d) b)) C

carry_r : (p u dx q v dy R W d : ℕ) → 0 < d → q * d ≡ R * dy → v * d ≡ W * dy → p * d + W * dx ≤ R * dx + u * d → p * dy + v * dx ≤ q * dx + u * dy
carry_r p u dx q v dy R W d D a b h = le_of_mul-le-mul_right {k = d} (omega (arith, mul-le-mul_right dy h, ap (λ (z : ℕ). z * dx) a, ap (λ (z : ℕ). z * dx) b)) D

pub carry : (p u dx q v dy S U c R W d : ℕ) → 0 < c → 0 < d → p * c ≡ S * dx → u * c ≡ U * dx → q * d ≡ R * dy → v * d ≡ W * dy → S * d + W * c ≤ R * c + U * d → p * dy + v * dx ≤ q * dx + u * dy
carry p u dx q v dy S U c R W d C D a b g k h = carry_r p u dx q v dy R W d D g k (carry_l p u dx S U c R W d C a b h)

pub le_of_signed : (x y : Float) (s : Bool) (a c : ℕ) (t : Bool) (b d : ℕ) → 0 < c → 0 < d → HasValue x s a c → HasValue y t b d → SignedLe s a c t b d → T (le x y)
le_of_signed x y s a c t b d C D p q h =
    cross→le x y (value_finite x s a c p) (value_finite y t b d q)
    (carry (plus x) (less x) (den x) (plus y) (less y) (den y) (P s a) (M s a) c (P t b) (M t b) d C D (value_plus x s a c p) (value_less x s a c p) (value_plus y t b d q) (value_less y t b d q) h)

-- ---- the sign goes through `round`
odd_neg : (d q k l : ℕ) → odd d true q k l ≡ neg (odd d false q k l)
unfolding odd neg
odd_neg d zero k l = refl
odd_neg d (suc q) k l = refl

units_neg : (f : Format) (q k : ℕ) → units f true q k ≡ neg (units f false q k)
unfolding units
units_neg f q k = go (ltb (q * 2 ^ k) (2 ^ (low f + suc (emax f))))
  where
    go : (b : Bool) → cond b (odd (suc (prec f)) true q k (low f)) (inf true) ≡ neg (cond b (odd (suc (prec f)) false q k (low f)) (inf false))
    go true = odd_neg (suc (prec f)) q k (low f)
    go false = unfold neg in refl

pub round_neg : (f : Format) (a c : ℕ) → round f true a c ≡ neg (round f false a c)
round_neg f a c =
    round_is f true a c ∙ units_neg f (kept (prec f) (a * 2 ^ low f) c) (drop (prec f) (a * 2 ^ low f) c) ∙ ap neg (sym (round_is f false a c))

-- ---- `round` of zero
pow_big : (k : ℕ) → 0 * 2 ^ 0 < 2 ^ k
pow_big k = pow_pos k

pub round_zero : (f : Format) (s : Bool) (c : ℕ) → 0 < c → HasValue (round f s 0 c) s 0 c
round_zero f s c C = round_exact f s 0 c 0 0 C (pow_pos (prec f)) (pow_big (low f + suc (emax f))) (omega arith)

-- ---- `round` keeps the order
is_zero : (s t : ℕ) (a c : ℕ) → 0 < c → a * c + s ≤ 0 + t → t ≡ 0 → a ≡ 0
is_zero s t a c C h z = N.eq_of_mul-eq-mul_right c C a 0 (omega arith)

up_zero : (f : Format) (a c : ℕ) → 0 < c → T (le (round f false 0 1) (round f false a c))
up_zero f a c C = round_mono f 0 1 a c (pow_pos 0) C (omega arith)

pub round_keeps : (f : Format) (s : Bool) (a c : ℕ) (t : Bool) (b d : ℕ) → 0 < c → 0 < d → SignedLe s a c t b d → T (le (round f s a c) (round f t b d))
round_keeps f false a c false b d C D h = round_mono f a c b d C D (omega arith)
round_keeps f false a c true b d C D h =
    let za : a ≡ 0 = is_zero (b * c) (0 * c + 0 * d) a d D (omega arith) (omega arith) in
    let zb : b ≡ 0 = is_zero (a * d) (0 * c + 0 * d) b c C (omega arith) (omega arith) in
    subst (λ (z : ℕ). T (le (round f false z c) (round f true b d))) (sym za)
    (subst (λ (z : ℕ). T (le (round f false 0 c) (round f true z d))) (sym zb)
    (le_of_signed (round f false 0 c) (round f true 0 d) false 0 c true 0 d C D (round_zero f false c C) (round_zero f true d D) (omega arith)))
round_keeps f true a c false b d C D h =
    let lo : T (le (round f true a c) (round f true 0 1)) =
    subst (λ (z : Float). T (le z (round f true 0 1))) (sym (round_neg f a c)) (subst (λ (z : Float). T (le (neg (round f false a c)) z)) (sym (round_neg f 0 1))
    (neg_anti (round f false 0 1) (round f false a c) (up_zero f a c C))) in
    let mid : T (le (round f true 0 1) (round f false 0 1)) = le_of_signed (round f true 0 1) (round f false 0 1) true 0 1 false 0 1 (pow_pos 0) (pow_pos 0) (round_zero f true 1 (pow_pos 0))
    (round_zero f false 1 (pow_pos 0)) zero-le in
    le_trans (round f true a c) (round f true 0 1) (round f false b d) lo (le_trans (round f true 0 1) (round f false 0 1) (round f false b d) mid (up_zero f b d D))
round_keeps f true a c true b d C D h =
    subst (λ (z : Float). T (le z (round f true b d))) (sym (round_neg f a c)) (subst (λ (z : Float). T (le (neg (round f false a c)) z)) (sym (round_neg f b d))
    (neg_anti (round f false b d) (round f false a c) (round_mono f b d a c D C (omega arith))))

-- ---- `Rounded f x p u c`: x is (p - u) / c, rounded
pub record Rounded (f : Format) (x : Float) (p u c : ℕ) : Type 0 where
  pub sign : Bool
  pub size : ℕ
  pub made : x ≡ round f sign size c
  pub value : P sign size + u ≡ p + M sign size

rounded_cross : (S U p u c R W q v d : ℕ) → S + u ≡ p + U → R + v ≡ q + W → p * d + v * c ≤ q * c + u * d → S * d + W * c ≤ R * c + U * d
rounded_cross S U p u c R W q v d a b h = omega (arith, ap (λ (z : ℕ). z * d) a, ap (λ (z : ℕ). z * c) b)

pub rounded_le : (f : Format) (x y : Float) (p u c q v d : ℕ) → 0 < c → 0 < d → Rounded f x p u c → Rounded f y q v d → p * d + v * c ≤ q * c + u * d → T (le x y)
rounded_le f x y p u c q v d C D i j h =
    subst (λ (z : Float). T (le z y)) (sym i.made)
    (subst (λ (z : Float). T (le (round f i.sign i.size c) z)) (sym j.made)
    (round_keeps f i.sign i.size c j.sign j.size d C D
    (rounded_cross (P i.sign i.size) (M i.sign i.size) p u c (P j.sign j.size) (M j.sign j.size) q v d i.value j.value h)))

-- ---- a value of the format, rounded, is itself
pow_back : (i j : ℕ) → 2 ^ i ≤ 2 ^ j → i ≤ j
pow_back i j h = go (leb i j) (leb→le i j) (lib.Dec.nleb→lt i j)
  where
    go : (b : Bool) → (T b → i ≤ j) → (T (not b) → j < i) → i ≤ j
    go true a b = a tt
    go false a b = absurd (N.not-le_of_lt (lib.Pow.pow-lt (b tt)) h)

own_pos : (f : Format) (s : Bool) (m k : ℕ) → m < 2 ^ prec f → m * 2 ^ k < 2 ^ suc (emax f) * 1 → HasValue (round f s (m * 2 ^ k) 1) s (m * 2 ^ k) 1
own_pos f s m k a b =
    let l = low f in
    let e : m * 2 ^ (k + l) ≡ m * 2 ^ k * 2 ^ l = ap (λ (z : ℕ). m * z) (pow-add 2 k l) ∙ sym (mul_assoc m (2 ^ k) (2 ^ l)) in
    round_exact f s (m * 2 ^ k) 1 m (k + l) (pow_pos 0) a
    (subst (λ (z : ℕ). z < 2 ^ (l + suc (emax f))) (sym e) (lt_of_lt_of_le (mul-lt-mul_of_pos_right b (pow_pos l))
    (le_of_eq (ap (λ (z : ℕ). z * 2 ^ l) (mul-one (2 ^ suc (emax f))) ∙ mul_comm (2 ^ suc (emax f)) (2 ^ l) ∙ sym (pow-add 2 l (suc (emax f)))))))
    (sym (mul-one (m * 2 ^ (k + l)) ∙ e))

own_neg : (f : Format) (s : Bool) (m k : ℕ) → m < 2 ^ prec f → 2 ^ suc k ≤ 2 ^ low f → m * 1 < 2 ^ suc (emax f) * 2 ^ suc k → HasValue (round f s (m * 1) (2 ^ suc k)) s (m * 1) (2 ^ suc k)
own_neg f s m k a g b =
    let l = low f in
    let j = l - suc k in
    let e : 2 ^ suc k * 2 ^ j ≡ 2 ^ l = sym (pow-add 2 (suc k) j) ∙ ap (λ (z : ℕ). 2 ^ z) (add-sub_of_le (pow_back (suc k) l g)) in
    round_exact f s (m * 1) (2 ^ suc k) m j (pow_pos (suc k)) a
    (lt_of_lt_of_le (subst (λ (z : ℕ). z * 2 ^ j < 2 ^ suc (emax f) * 2 ^ suc k * 2 ^ j) (mul-one m) (mul-lt-mul_of_pos_right b (pow_pos j)))
    (le_of_eq (mul_assoc (2 ^ suc (emax f)) (2 ^ suc k) (2 ^ j) ∙ ap (λ (z : ℕ). 2 ^ suc (emax f) * z) e ∙ mul_comm (2 ^ suc (emax f)) (2 ^ l) ∙ sym (pow-add 2 l (suc (emax f))))))
    (ap (λ (z : ℕ). z * 2 ^ l) (mul-one m) ∙ ap (λ (z : ℕ). m * z) (sym e) ∙ ap (λ (z : ℕ). m * z) (mul_comm (2 ^ suc k) (2 ^ j)) ∙ sym (mul_assoc m (2 ^ j) (2 ^ suc k)))

pub round_own : (f : Format) (s : Bool) (m : ℕ) (e : ℤ) → T (fits f (fin s m e)) → HasValue (round f s (m * up e) (down e)) s (m * up e) (down e)
unfolding fits
round_own f s zero e h = subst (λ (z : ℕ). HasValue (round f s z (down e)) s z (down e)) (sym (N.zero-mul (up e))) (round_zero f s (down e) (down_pos e))
round_own f s (suc m) (pos k) h =
    let a : Bool = eqb (suc m % 2) 1 in
    let b : Bool = ltb (suc m) (2 ^ prec f) in
    let c : Bool = leb 1 (2 ^ low f) in
    let d : Bool = ltb (suc m * 2 ^ k) (2 ^ suc (emax f) * 1) in
    own_pos f s (suc m) k (ltb→lt (suc m) (2 ^ prec f) (and_r a b (and_l (a && b) c (and_l (a && b && c) d h)))) (ltb→lt (suc m * 2 ^ k) (2 ^ suc (emax f) * 1) (and_r (a && b && c) d h))
round_own f s (suc m) (negsuc k) h =
    let a : Bool = eqb (suc m % 2) 1 in
    let b : Bool = ltb (suc m) (2 ^ prec f) in
    let c : Bool = leb (2 ^ suc k) (2 ^ low f) in
    let d : Bool = ltb (suc m * 1) (2 ^ suc (emax f) * 2 ^ suc k) in
    own_neg f s (suc m) k (ltb→lt (suc m) (2 ^ prec f) (and_r a b (and_l (a && b) c (and_l (a && b && c) d h)))) (leb→le (2 ^ suc k) (2 ^ low f) (and_r (a && b) c (and_l (a && b && c) d h)))
    (ltb→lt (suc m * 1) (2 ^ suc (emax f) * 2 ^ suc k) (and_r (a && b && c) d h))

pub rounded_le_value : (f : Format) (x y : Float) (p u c : ℕ) → 0 < c → Rounded f x p u c → T (fits f y) → T (finite y) → p * den y + less y * c ≤ plus y * c + u * den y → T (le x y)
rounded_le_value f x nan p u c C i h fy k = absurd fy
rounded_le_value f x (inf t) p u c C i h fy k = absurd fy
rounded_le_value f x (fin t n d) p u c C i h fy k =
    let r = round f t (n * up d) (down d) in
    le_trans x r (fin t n d)
    (rounded_le f x r p u c (P t (n * up d)) (M t (n * up d)) (down d) C (down_pos d) i (record { sign = t; size = n * up d; made = refl; value = refl }) k)
    (le_of_signed r (fin t n d) t (n * up d) (down d) t (n * up d) (down d) (down_pos d) (down_pos d) (round_own f t n d h) (refl, refl) (omega arith))

pub value_le_rounded : (f : Format) (y x : Float) (p u c : ℕ) → 0 < c → Rounded f x p u c → T (fits f y) → T (finite y) → plus y * c + u * den y ≤ p * den y + less y * c → T (le y x)
value_le_rounded f nan x p u c C i h fy k = absurd fy
value_le_rounded f (inf t) x p u c C i h fy k = absurd fy
value_le_rounded f (fin t n d) x p u c C i h fy k =
    let r = round f t (n * up d) (down d) in
    le_trans (fin t n d) r x
    (le_of_signed (fin t n d) r t (n * up d) (down d) t (n * up d) (down d) (down_pos d) (down_pos d) (refl, refl) (round_own f t n d h) (omega arith))
    (rounded_le f r x (P t (n * up d)) (M t (n * up d)) (down d) p u c (down_pos d) C (record { sign = t; size = n * up d; made = refl; value = refl }) i k)

-- ---- a sum, and a product
sum_rounded : (f : Format) (s : Bool) (a : ℕ) (t : Bool) (b c : ℕ) → Rounded f (sum f s a t b c) (P s a + P t b) (M s a + M t b) c
unfolding sum
sum_rounded f false a false b c = record { sign = false; size = a + b; made = refl; value = refl }
sum_rounded f true a true b c = record { sign = true; size = a + b; made = refl; value = refl }
sum_rounded f false a true b c = go (ltb a b) (ltb→lt a b) (nltb→le a b)
  where
    go : (z : Bool) → (T z → a < b) → (T (not z) → b ≤ a) → Rounded f (cond z (round f true (b - a) c) (round f false (a - b) c)) (a + 0) (0 + b) c
    go true h k = let g = h tt in record { sign = true; size = b - a; made = refl; value = omega arith }
    go false h k = let g = k tt in record { sign = false; size = a - b; made = refl; value = omega arith }
sum_rounded f true a false b c = go (ltb a b) (ltb→lt a b) (nltb→le a b) (ltb b a) (ltb→lt b a) (nltb→le b a)
  where
    go : (z : Bool) → (T z → a < b) → (T (not z) → b ≤ a) → (w : Bool) → (T w → b < a) → (T (not w) → a ≤ b) → Rounded f (cond z (round f false (b - a) c) (round f w (a - b) c)) (0 + b) (a + 0) c
    go true h k w i j = let g = h tt in record { sign = false; size = b - a; made = refl; value = omega arith }
    go false h k true i j = let g = i tt in record { sign = true; size = a - b; made = refl; value = omega arith }
    go false h k false i j = let g = k tt in let g' = j tt in record { sign = false; size = a - b; made = refl; value = omega arith }

pub add_rounded : (f : Format) (x y : Float) → T (finite x) → T (finite y) → Rounded f (add f x y) (plus x * den y + plus y * den x) (less x * den y + less y * den x) (den x * den y)
unfolding add
add_rounded f nan y p q = absurd p
add_rounded f (inf s) y p q = absurd p
add_rounded f (fin s m e) nan p q = absurd q
add_rounded f (fin s m e) (inf t) p q = absurd q
add_rounded f (fin s m e) (fin t n d) p q =
    let i = sum_rounded f s (m * up e * down d) t (n * up d * down e) (down e * down d) in
    record {
      sign = i.sign;
      size = i.size;
      made = i.made;
      value = omega (
        arith,
        i.value,
        P_mul s (m * up e) (down d),
        P_mul t (n * up d) (down e),
        M_mul s (m * up e) (down d),
        M_mul t (n * up d)
            (down e),
      );
    }

pub mul_rounded : (f : Format) (x y : Float) → T (finite x) → T (finite y) → Rounded f (mul f x y) (plus x * plus y + less x * less y) (plus x * less y + less x * plus y) (den x * den y)
unfolding mul
mul_rounded f nan y p q = absurd p
mul_rounded f (inf s) y p q = absurd p
mul_rounded f (fin s m e) nan p q = absurd q
mul_rounded f (fin s m e) (inf t) p q = absurd q
mul_rounded f (fin false m e) (fin false n d) p q = record { sign = false; size = m * up e * (n * up d); made = refl; value = omega arith }
mul_rounded f (fin false m e) (fin true n d) p q = record { sign = true; size = m * up e * (n * up d); made = refl; value = omega arith }
mul_rounded f (fin true m e) (fin false n d) p q = record { sign = true; size = m * up e * (n * up d); made = refl; value = omega arith }
mul_rounded f (fin true m e) (fin true n d) p q = record { sign = false; size = m * up e * (n * up d); made = refl; value = omega arith }
