-- A finite value of a format as a whole number of the format's smallest values, p - u of them, and how far `round` moves a fraction in these units. Assumes nothing.
use mathlib.Core.Path.{◌≡◌, refl, sym, ap, ◌∙◌, subst}
use Prim.Native.Nat.{ℕ, zero, suc, ◌+◌, ◌-◌, ◌*◌, ◌/◌, ◌%◌, ◌^◌, ◌≤◌, ◌<◌, compare, Ordering}
use native.Mathlib.Nat.{le_of_mul-le-mul_right, mul-le-mul_right, mul-pos, le_of_eq, mul_comm, mul_assoc, mul-one, lt_of_lt_of_le, add-sub_of_le, div-add-mod', le-div_iff_mul-le}
use native.Mathlib.Nat as N
use native.Mathlib.Omega.{arith}
use mathlib.Core.Bool.{Bool, true, false, not, ◌&&◌}
use lib.IntN.{ℤ, pos, negsuc}
use lib.Dec.{T, leb, ltb, eqb, eqb→eq, leb→le, ltb→lt, nleb→lt, is_le, compare_is_eq}
use lib.Pow.{pow-add, pow_pos, pow_mono, pow-lt}
use lib.Ieee.{Float, nan, inf, fin, Format, prec, emax, low, up, down, size, nearest, round, le, neg, add, sub, mul, fits}
use lib.Ieee.Fits.{down_pos, two, two-le_pos, and_l, and_r}
use lib.Ieee.Digits.{size-lt, size_reaches}
use lib.Ieee.Exact.{HasValue, round_exact}
use lib.Ieee.Nearest.{closest, nearest-ge}
use lib.Ieee.Order.{drop, kept}
use lib.Ieee.Positive.{den, den_pos}
use lib.Ieee.Scale.{finite, round_same, grid, overflow, round_val, round_under}
use Rattle.float64.proofs.Order.{P, M, plus, less, le→cross, cross→le, neg_neg, neg_plus, neg_less, neg_den}
use Rattle.float64.proofs.Rounding.{Rounded, add_rounded, mul_rounded, round_neg, value_plus, value_less, value_finite}

-- how many of the smallest values are 1
abbrev pub L : Format → ℕ
L f = 2 ^ low f

pub L_pos : (f : Format) → 0 < L f
L_pos f = pow_pos (low f)

-- x is finite and is (p - u) / L
pub record Units (f : Format) (x : Float) (p u : ℕ) : Type 0 where
  pub is_finite : T (finite x)
  pub value : plus x * L f + u * den x ≡ p * den x + less x * L f

le_lemma : (A B dx C D dy p u q v K : ℕ) → 0 < K → A * K + u * dx ≡ p * dx + B * K → C * K + v * dy ≡ q * dy + D * K → p + v ≤ q + u → A * dy + D * dx ≤ C * dx + B * dy
le_lemma A B dx C D dy p u q v K pos-K a b h =
    le_of_mul-le-mul_right {k = K} (omega (arith, mul-le-mul_right (dx * dy) h, ap (λ (z : ℕ). z * dy) a, ap (λ (z : ℕ). z * dx) b)) pos-K

pub units_le : (f : Format) (x y : Float) (p u q v : ℕ) → Units f x p u → Units f y q v → p + v ≤ q + u → T (le x y)
units_le f x y p u q v i j h = cross→le x y i.is_finite j.is_finite (le_lemma (plus x) (less x) (den x) (plus y) (less y) (den y) p u q v (L f) (L_pos f) i.value j.value h)

le_lemma' : (A B dx C D dy p u q v K : ℕ) → 0 < dx * dy → A * K + u * dx ≡ p * dx + B * K → C * K + v * dy ≡ q * dy + D * K → A * dy + D * dx ≤ C * dx + B * dy → p + v ≤ q + u
le_lemma' A B dx C D dy p u q v K Q a b h =
    le_of_mul-le-mul_right {k = dx * dy} (omega (arith, mul-le-mul_right K h, ap (λ (z : ℕ). z * dy) a, ap (λ (z : ℕ). z * dx) b)) Q

pub units_of_le : (f : Format) (x y : Float) (p u q v : ℕ) → Units f x p u → Units f y q v → T (le x y) → p + v ≤ q + u
units_of_le f x y p u q v i j h = le_lemma' (plus x) (less x) (den x) (plus y) (less y) (den y) p u q v (L f) (mul-pos (den_pos x) (den_pos y)) i.value j.value
    (le→cross x y i.is_finite j.is_finite h)

-- ---- the same rounded value from an equal fraction: (A - B) / c ≡ (q - v) / d
re_pos : (A B c q v d m : ℕ) → 0 < c → m + B ≡ A + 0 → A * d + v * c ≡ q * c + B * d → v ≤ q
re_pos A B c q v d m C a h = le_of_mul-le-mul_right {k = c} (omega (arith, ap (λ (z : ℕ). z * d) a)) C

re_pos_eq : (A B c q v d m n : ℕ) → m + B ≡ A + 0 → n + v ≡ q → A * d + v * c ≡ q * c + B * d → m * d ≡ n * c
re_pos_eq A B c q v d m n a b h = omega (arith, ap (λ (z : ℕ). z * d) a, ap (λ (z : ℕ). z * c) b)

re_neg : (A B c q v d m : ℕ) → 0 < c → 0 + B ≡ A + m → A * d + v * c ≡ q * c + B * d → q ≤ v
re_neg A B c q v d m C a h = le_of_mul-le-mul_right {k = c} (omega (arith, ap (λ (z : ℕ). z * d) a)) C

re_neg_eq : (A B c q v d m n : ℕ) → 0 + B ≡ A + m → n + q ≡ v → A * d + v * c ≡ q * c + B * d → m * d ≡ n * c
re_neg_eq A B c q v d m n a b h = omega (arith, ap (λ (z : ℕ). z * d) a, ap (λ (z : ℕ). z * c) b)

pub rounded_rescale : (f : Format) (x : Float) (A B c q v d : ℕ) → 0 < c → 0 < d → Rounded f x A B c → A * d + v * c ≡ q * c + B * d → Rounded f x q v d
rounded_rescale f x A B c q v d C D i h = go i.sign i.size i.made i.value
  where
    go : (s : Bool) (m : ℕ) → x ≡ round f s m c → P s m + B ≡ A + M s m → Rounded f x q v d
    go false m e a =
        let g : v ≤ q = re_pos A B c q v d m C a h in
        let n : q - v + v ≡ q = omega arith in
        record { sign = false; size = q - v; made = e ∙ round_same f false m c (q - v) d C D (re_pos_eq A B c q v d m (q - v) a n h); value = omega arith }
    go true m e a =
        let g : q ≤ v = re_neg A B c q v d m C a h in
        let n : v - q + q ≡ v = omega arith in
        record { sign = true; size = v - q; made = e ∙ round_same f true m c (v - q) d C D (re_neg_eq A B c q v d m (v - q) a n h); value = omega arith }

-- ---- a sum, in units
sum_units : (A B dx C D dy p u q v K : ℕ) → A * K + u * dx ≡ p * dx + B * K → C * K + v * dy ≡ q * dy + D * K
    → (A * dy + C * dx) * K + (u + v) * (dx * dy) ≡ (p + q) * (dx * dy) + (B * dy + D * dx) * K
sum_units A B dx C D dy p u q v K a b = omega (arith, ap (λ (z : ℕ). z * dy) a, ap (λ (z : ℕ). z * dx) b)

pub add_units : (f : Format) (x y : Float) (p u q v : ℕ) → Units f x p u → Units f y q v → Rounded f (add f x y) (p + q) (u + v) (L f)
add_units f x y p u q v i j =
    rounded_rescale f (add f x y) (plus x * den y + plus y * den x) (less x * den y + less y * den x) (den x * den y) (p + q) (u + v) (L f)
    (mul-pos (den_pos x) (den_pos y)) (L_pos f) (add_rounded f x y i.is_finite j.is_finite)
    (sum_units (plus x) (less x) (den x) (plus y) (less y) (den y) p u q v (L f) i.value j.value)

neg_finite : (x : Float) → T (finite x) → T (finite (neg x))
unfolding neg
neg_finite nan h = h
neg_finite (inf s) h = h
neg_finite (fin s m e) h = tt

pub neg_units : (f : Format) (x : Float) (p u : ℕ) → Units f x p u → Units f (neg x) u p
neg_units f x p u i = record { is_finite = neg_finite x i.is_finite; value = rw (neg_plus x, neg_less x, neg_den x) (omega (arith, i.value)) }

pub sub_units : (f : Format) (x y : Float) (p u q v : ℕ) → Units f x p u → Units f y q v → Rounded f (sub f x y) (p + v) (u + q) (L f)
unfolding sub
sub_units f x y p u q v i j = add_units f x (neg y) p u v q i (neg_units f y q v j)

-- ---- a product with a factor g / c that is not negative
mul_lemma : (g c A B d p u K : ℕ) → A * K + u * d ≡ p * d + B * K → (g * A + 0 * B) * (c * K) + g * u * (c * d) ≡ g * p * (c * d) + (g * B + 0 * A) * (c * K)
mul_lemma g c A B d p u K h = omega (arith, ap (λ (z : ℕ). z * (g * c)) h)

pub mul_units : (f : Format) (n : ℕ) (e : ℤ) (x : Float) (p u : ℕ) → Units f x p u → Rounded f (mul f (fin false n e) x) (n * up e * p) (n * up e * u) (down e * L f)
mul_units f n e x p u i =
    let k = fin false n e in
    rounded_rescale f (mul f k x) (plus k * plus x + less k * less x) (plus k * less x + less k * plus x) (den k * den x) (n * up e * p) (n * up e * u) (down e * L f)
    (mul-pos (den_pos k) (den_pos x)) (mul-pos (down_pos e) (L_pos f)) (mul_rounded f k x tt i.is_finite)
    (mul_lemma (n * up e) (down e) (plus x) (less x) (den x) p u (L f) i.value)

-- ---- which whole numbers of units a format has: q * 2 ^ j below the overflow
pub record Rep (f : Format) (n : ℕ) : Type 0 where
  pub q : ℕ
  pub j : ℕ
  pub small : q < 2 ^ prec f
  pub eqn : n ≡ q * 2 ^ j
  pub under : n < overflow f

pub rep_exact : (f : Format) (s : Bool) (n : ℕ) → Rep f n → HasValue (round f s n (L f)) s n (L f)
rep_exact f s n r = round_exact f s n (L f) r.q r.j (L_pos f) r.small (subst (λ (z : ℕ). z < overflow f) r.eqn r.under) (ap (λ (z : ℕ). z * 2 ^ low f) r.eqn)

pub rep_double : (f : Format) (n : ℕ) → Rep f n → n * 2 < overflow f → Rep f (n * 2)
rep_double f n r h =
    record { q = r.q; j = suc r.j; small = r.small; eqn = ap (λ (z : ℕ). z * 2) r.eqn ∙ mul_assoc r.q (2 ^ r.j) 2 ∙ ap (λ (z : ℕ). r.q * z) (sym (N.pow-suc 2 r.j)); under = h }

pub units_of_value : (f : Format) (x : Float) (s : Bool) (n : ℕ) → HasValue x s n (L f) → Units f x (P s n) (M s n)
units_of_value f x s n h = record { is_finite = value_finite x s n (L f) h; value = omega (arith, value_plus x s n (L f) h, value_less x s n (L f) h) }

-- ---- a finite value of the format is a number of units that the format has
pub record Has (f : Format) (m : ℕ) (e : ℤ) : Type 0 where
  pub count : ℕ
  pub rep : Rep f count
  pub same : m * up e * L f ≡ count * down e

pow_back : (i j : ℕ) → 2 ^ i ≤ 2 ^ j → i ≤ j
pow_back i j h = go (leb i j) (leb→le i j) (nleb→lt i j)
  where
    go : (b : Bool) → (T b → i ≤ j) → (T (not b) → j < i) → i ≤ j
    go true a b = a tt
    go false a b = absurd (N.not-le_of_lt (pow-lt (b tt)) h)

has_pos : (f : Format) (m k : ℕ) → m < 2 ^ prec f → m * 2 ^ k < 2 ^ suc (emax f) * 1 → Has f m (pos k)
has_pos f m k a b =
    let l = low f in
    let e : m * 2 ^ (k + l) ≡ m * 2 ^ k * 2 ^ l = ap (λ (z : ℕ). m * z) (pow-add 2 k l) ∙ sym (mul_assoc m (2 ^ k) (2 ^ l)) in
    record {
      count = m * 2 ^ (k + l);
      rep = record {
        q = m;
        j = k + l;
        small = a;
        eqn = refl;
        under = subst (λ (z : ℕ). z < 2 ^ (l + suc (emax f))) (sym e)
            (lt_of_lt_of_le (N.mul-lt-mul_of_pos_right b (pow_pos l)) (le_of_eq (ap (λ (z : ℕ). z * 2 ^ l) (mul-one (2 ^ suc (emax f))) ∙ mul_comm (2 ^ suc (emax f)) (2 ^ l) ∙ sym
            (pow-add 2 l (suc (emax f))))));
      };
      same = sym (mul-one (m * 2 ^ (k + l)) ∙ e);
    }

has_neg : (f : Format) (m k : ℕ) → m < 2 ^ prec f → 2 ^ suc k ≤ 2 ^ low f → m * 1 < 2 ^ suc (emax f) * 2 ^ suc k → Has f m (negsuc k)
has_neg f m k a g b =
    let l = low f in
    let j = l - suc k in
    let e : 2 ^ suc k * 2 ^ j ≡ 2 ^ l = sym (pow-add 2 (suc k) j) ∙ ap (λ (z : ℕ). 2 ^ z) (add-sub_of_le (pow_back (suc k) l g)) in
    record {
      count = m * 2 ^ j;
      rep = record {
        q = m;
        j = j;
        small = a;
        eqn = refl;
        under = lt_of_lt_of_le (subst (λ (z : ℕ). z * 2 ^ j < 2 ^ suc (emax f) * 2 ^ suc k * 2 ^ j) (mul-one m) (N.mul-lt-mul_of_pos_right b (pow_pos j)))
            (le_of_eq (mul_assoc (2 ^ suc (emax f)) (2 ^ suc k) (2 ^ j) ∙ ap (λ (z : ℕ). 2 ^ suc (emax f) * z) e ∙ mul_comm (2 ^ suc (emax f)) (2 ^ l) ∙ sym (pow-add 2 l (suc (emax f)))));
      };
      same = ap (λ (z : ℕ). z * 2 ^ l) (mul-one m) ∙ ap (λ (z : ℕ). m * z) (sym e) ∙ ap (λ (z : ℕ). m * z) (mul_comm (2 ^ suc k) (2 ^ j)) ∙ sym (mul_assoc m (2 ^ j) (2 ^ suc k));
    }

pub has : (f : Format) (s : Bool) (m : ℕ) (e : ℤ) → T (fits f (fin s m e)) → Has f m e
unfolding fits
has f s zero e h = record { count = 0; rep = record { q = 0; j = 0; small = pow_pos (prec f); eqn = refl; under = pow_pos (low f + suc (emax f)) }; same = omega arith }
has f s (suc m) (pos k) h =
    let a : Bool = eqb (suc m % 2) 1 in
    let b : Bool = ltb (suc m) (2 ^ prec f) in
    let c : Bool = leb 1 (2 ^ low f) in
    let d : Bool = ltb (suc m * 2 ^ k) (2 ^ suc (emax f) * 1) in
    has_pos f (suc m) k (ltb→lt (suc m) (2 ^ prec f) (and_r a b (and_l (a && b) c (and_l (a && b && c) d h)))) (ltb→lt (suc m * 2 ^ k) (2 ^ suc (emax f) * 1) (and_r (a && b && c) d h))
has f s (suc m) (negsuc k) h =
    let a : Bool = eqb (suc m % 2) 1 in
    let b : Bool = ltb (suc m) (2 ^ prec f) in
    let c : Bool = leb (2 ^ suc k) (2 ^ low f) in
    let d : Bool = ltb (suc m * 1) (2 ^ suc (emax f) * 2 ^ suc k) in
    has_neg f (suc m) k (ltb→lt (suc m) (2 ^ prec f) (and_r a b (and_l (a && b) c (and_l (a && b && c) d h)))) (leb→le (2 ^ suc k) (2 ^ low f) (and_r (a && b) c (and_l (a && b && c) d h)))
    (ltb→lt (suc m * 1) (2 ^ suc (emax f) * 2 ^ suc k) (and_r (a && b && c) d h))

-- the value of x: its sign and its number of units
pub record Value (f : Format) (x : Float) : Type 0 where
  pub sign : Bool
  pub count : ℕ
  pub rep : Rep f count
  pub units : Units f x (P sign count) (M sign count)

pub value_of : (f : Format) (x : Float) → T (fits f x) → T (finite x) → Value f x
value_of f nan h k = absurd k
value_of f (inf s) h k = absurd k
value_of f (fin s m e) h k = let z = has f s m e h in record { sign = s; count = z.count; rep = z.rep; units = units_of_value f (fin s m e) s z.count (refl, z.same) }

-- ---- what an operation made, in units
pub rounded_grid : (f : Format) (x : Float) (p u c : ℕ) → (i : Rounded f x p u c) → T (finite x) → Units f x (P i.sign (grid f i.size c)) (M i.sign (grid f i.size c))
rounded_grid f x p u c i h = go i.sign i.size i.made
  where
    plain : (m : ℕ) → T (finite (round f false m c)) → Units f (round f false m c) (grid f m c) 0
    plain m k = units_of_value f (round f false m c) false (grid f m c) (round_val f m c (round_under f m c k))

    un_neg : (y : Float) → T (finite (neg y)) → T (finite y)
    un_neg y k = subst (λ (z : Float). T (finite z)) (neg_neg y) (neg_finite (neg y) k)

    go : (s : Bool) (m : ℕ) → x ≡ round f s m c → Units f x (P s (grid f m c)) (M s (grid f m c))
    go false m e = subst (λ (z : Float). Units f z (grid f m c) 0) (sym e) (plain m (subst (λ (z : Float). T (finite z)) e h))
    go true m e = subst (λ (z : Float). Units f z 0 (grid f m c)) (sym (e ∙ round_neg f m c)) (neg_units f (round f false m c) (grid f m c) 0
        (plain m (un_neg (round f false m c) (subst (λ (z : Float). T (finite z)) (e ∙ round_neg f m c) h))))

-- ---- how far rounding moves: half a step either way
abbrev Cmp : Ordering → ℕ → ℕ → Type 0
Cmp Ordering.lt a b = a < b
Cmp Ordering.eq a b = a ≡ b
Cmp Ordering.gt a b = b < a

cmp : (a b : ℕ) → Cmp (compare a b) a b
cmp a b = go (compare a b) (leb→le a b) (nleb→lt a b) (eqb→eq a b) (λ (e : a ≡ b). subst (λ (x : ℕ). T (eqb a x)) e (lib.Dec.eqb_refl a))
  where
    go : (o : Ordering) → (T (is_le o) → a ≤ b) → (T (not (is_le o)) → b < a) → (T (compare_is_eq o) → a ≡ b) → (a ≡ b → T (compare_is_eq o)) → Cmp o a b
    go Ordering.lt h k e n = lib.Arith.lt_of_le-ne (h tt) n
    go Ordering.eq h k e n = e tt
    go Ordering.gt h k e n = k tt

tie_up : (w : ℕ) → w + w % 2 ≤ suc w
tie_up w = omega arith

near_up : (w r u n : ℕ) (o : Ordering) → Cmp o (r * 2) u → w * u + r ≡ n → nearest w o * u * 2 ≤ n * 2 + u
near_up w r u n Ordering.lt c e = omega arith
near_up w r u n Ordering.eq c e = N.le_trans (mul-le-mul_right 2 (mul-le-mul_right u (tie_up w))) (omega arith)
near_up w r u n Ordering.gt c e = omega arith

near_down : (w r u n : ℕ) (o : Ordering) → Cmp o (r * 2) u → r < u → w * u + r ≡ n → n * 2 ≤ nearest w o * u * 2 + u
near_down w r u n Ordering.lt c l e = omega arith
near_down w r u n Ordering.eq c l e = omega (arith, mul-le-mul_right u (nearest-ge w Ordering.eq))
near_down w r u n Ordering.gt c l e = omega arith

pub closest_up : (n u : ℕ) → closest n u * u * 2 ≤ n * 2 + u
closest_up n u = near_up (n / u) (n % u) u n (compare (n % u * 2) u) (cmp (n % u * 2) u) (div-add-mod' n u)

-- ---- the same of `grid`
-- the step: the distance of neighbours, times the denominator
abbrev pub step : Format → ℕ → ℕ → ℕ
step f a c = c * 2 ^ drop (prec f) (a * L f) c

turn : (q k c : ℕ) → q * 2 ^ k * c ≡ q * (c * 2 ^ k)
turn q k c = mul_assoc q (2 ^ k) c ∙ ap (λ (z : ℕ). q * z) (mul_comm (2 ^ k) c)

pub grid_up : (f : Format) (a c : ℕ) → grid f a c * c * 2 ≤ a * L f * 2 + step f a c
grid_up f a c = subst (λ (z : ℕ). z * 2 ≤ a * L f * 2 + step f a c) (sym (turn (kept (prec f) (a * L f) c) (drop (prec f) (a * L f) c) c)) (closest_up (a * L f) (step f a c))

-- and no more than the fraction, from one unit on
pred_lt : (z p : ℕ) → 0 < p → 0 < z → z - p < z
pred_lt z p P Z = omega arith

size_pos : (n : ℕ) → 1 ≤ n → 0 < size n
size_pos n h = go (ltb 0 (size n)) (ltb→lt 0 (size n)) (lib.Dec.nltb→le 0 (size n))
  where
    go : (b : Bool) → (T b → 0 < size n) → (T (not b) → size n ≤ 0) → 0 < size n
    go true a b = a tt
    go false a b = absurd (N.not-le_of_lt (lt_of_lt_of_le (size-lt n) (pow_mono (b tt))) h)

pub step_under : (f : Format) (a c : ℕ) → 0 < c → c ≤ a * L f → step f a c ≤ a * L f
step_under f a c C h =
    let n = a * L f / c in
    let one : 1 ≤ n = (le-div_iff_mul-le C).1 (N.le_trans (le_of_eq (N.one-mul c)) h) in
    N.le_trans (le_of_eq (mul_comm c (2 ^ drop (prec f) (a * L f) c)))
    ((le-div_iff_mul-le C).0 (size_reaches n (size n - prec f) (pred_lt (size n) (prec f) (two-le_pos (prec f) (two f)) (size_pos n one))))

pub grid_twice : (f : Format) (a c : ℕ) → 0 < c → c ≤ a * L f → grid f a c * c ≤ a * L f * 2
grid_twice f a c C h = omega (arith, grid_up f a c, step_under f a c C h)
