-- The order of all floats: `le` is transitive, total away from `nan`, `lt` is its strict part, and negation turns it round.
-- A finite value x is the signed fraction (plus x - less x) / den x, where one of plus x and less x is 0, so that an order between
-- two is one linear fact on natural numbers. Assumes nothing.
use mathlib.Core.Path.{◌≡◌, refl, sym, subst}
use mathlib.Core.Logic.{◌⊎◌, inl, inr}
use Prim.Native.Nat.{ℕ, ◌+◌, ◌*◌, ◌≤◌, ◌<◌}
use native.Mathlib.Nat.{le_of_mul-le-mul_right, mul-le-mul_right, eq-or-lt_of_le}
use native.Mathlib.Omega.{arith}
use mathlib.Core.Bool.{Bool, true, false, not, ◌||◌}
use lib.IntN.{ℤ}
use lib.Dec.{T, eqb, eqb→eq, ltb→lt, lt→ltb, T_not}
use lib.Ieee.{Float, nan, inf, fin, up, down, below, level, lt, eq, le, neg, is_nan}
use lib.Ieee.Fits.{down_pos, and_l, and_r, and_i, eq→eqb}
use lib.Ieee.Positive.{den}
use lib.Ieee.Scale.{finite}
use Rattle.float64.specs.Float64.{abs}

-- ---- a signed number ±a as P s a - M s a
abbrev pub P : Bool → ℕ → ℕ
P false a = a
P true a = 0

abbrev pub M : Bool → ℕ → ℕ
M false a = 0
M true a = a

pub P_mul : (s : Bool) (a d : ℕ) → P s (a * d) ≡ P s a * d
P_mul false a d = refl
P_mul true a d = omega arith

pub M_mul : (s : Bool) (a d : ℕ) → M s (a * d) ≡ M s a * d
M_mul false a d = omega arith
M_mul true a d = refl

-- ---- Bool
pub or_l : (a b : Bool) → T a → T (a || b)
or_l true b t = tt
or_l false b t = absurd t

pub or_r : (a b : Bool) → T b → T (a || b)
or_r true b t = tt
or_r false b t = t

pub or_split : (a b : Bool) → T (a || b) → T a ⊎ T b
or_split true b t = inl tt
or_split false b t = inr t

-- ---- ±a < ±b and ±a ≤ ±b as linear facts
below→ : (s : Bool) (a : ℕ) (t : Bool) (b : ℕ) → T (below s a t b) → P s a + M t b < P t b + M s a
below→ false a false b h = omega (arith, ltb→lt a b h)
below→ false a true b h = absurd h
below→ true a false b h = omega (arith, ltb→lt 0 (a + b) h)
below→ true a true b h = omega (arith, ltb→lt b a h)

→below : (s : Bool) (a : ℕ) (t : Bool) (b : ℕ) → P s a + M t b < P t b + M s a → T (below s a t b)
→below false a false b h = lt→ltb a b (omega arith)
→below false a true b h = absurd (omega arith)
→below true a false b h = lt→ltb 0 (a + b) (omega arith)
→below true a true b h = lt→ltb b a (omega arith)

level→ : (s : Bool) (a : ℕ) (t : Bool) (b : ℕ) → T (level s a t b) → P s a + M t b ≡ P t b + M s a
level→ false a false b h = omega (arith, eqb→eq a b (and_l (eqb a b) true h))
level→ false a true b h = omega (arith, eqb→eq a b (and_l (eqb a b) (eqb a 0) h), eqb→eq a 0 (and_r (eqb a b) (eqb a 0) h))
level→ true a false b h = omega (arith, eqb→eq a b (and_l (eqb a b) (eqb a 0) h), eqb→eq a 0 (and_r (eqb a b) (eqb a 0) h))
level→ true a true b h = omega (arith, eqb→eq a b (and_l (eqb a b) true h))

→level : (s : Bool) (a : ℕ) (t : Bool) (b : ℕ) → P s a + M t b ≡ P t b + M s a → T (level s a t b)
→level false a false b h = and_i (eqb a b) true (eq→eqb {a = a} {b = b} (omega arith)) tt
→level false a true b h = and_i (eqb a b) (eqb a 0) (eq→eqb {a = a} {b = b} (omega arith)) (eq→eqb {a = a} {b = 0} (omega arith))
→level true a false b h = and_i (eqb a b) (eqb a 0) (eq→eqb {a = a} {b = b} (omega arith)) (eq→eqb {a = a} {b = 0} (omega arith))
→level true a true b h = and_i (eqb a b) true (eq→eqb {a = a} {b = b} (omega arith)) tt

-- ---- a finite value as a signed fraction
abbrev pub plus : Float → ℕ
plus nan = 0
plus (inf s) = 0
plus (fin s m e) = P s (m * up e)

abbrev pub less : Float → ℕ
less nan = 0
less (inf s) = 0
less (fin s m e) = M s (m * up e)

abbrev pub Cross : Float → Float → Type 0
Cross x y = plus x * den y + less y * den x ≤ plus y * den x + less x * den y

abbrev pub Cross< : Float → Float → Type 0
Cross< x y = plus x * den y + less y * den x < plus y * den x + less x * den y

pub lt→cross : (x y : Float) → T (finite x) → T (finite y) → T (lt x y) → Cross< x y
unfolding lt
lt→cross nan y p q h = absurd p
lt→cross (inf s) y p q h = absurd p
lt→cross (fin s m e) nan p q h = absurd q
lt→cross (fin s m e) (inf t) p q h = absurd q
lt→cross (fin s m e) (fin t n d) p q h =
    omega (arith, below→ s (m * up e * down d) t (n * up d * down e) h, P_mul s (m * up e) (down d), P_mul t (n * up d) (down e), M_mul s (m * up e) (down d), M_mul t (n * up d) (down e))

pub cross→lt : (x y : Float) → T (finite x) → T (finite y) → Cross< x y → T (lt x y)
unfolding lt
cross→lt nan y p q h = absurd p
cross→lt (inf s) y p q h = absurd p
cross→lt (fin s m e) nan p q h = absurd q
cross→lt (fin s m e) (inf t) p q h = absurd q
cross→lt (fin s m e) (fin t n d) p q h =
    →below s (m * up e * down d) t (n * up d * down e) (omega (arith, h, P_mul s (m * up e) (down d), P_mul t (n * up d) (down e), M_mul s (m * up e) (down d), M_mul t (n * up d) (down e)))

pub le→cross : (x y : Float) → T (finite x) → T (finite y) → T (le x y) → Cross x y
unfolding le
le→cross nan y p q h = absurd p
le→cross (inf s) y p q h = absurd p
le→cross (fin s m e) nan p q h = absurd q
le→cross (fin s m e) (inf t) p q h = absurd q
le→cross (fin s m e) (fin t n d) p q h =
    let a = m * up e * down d in
    let b = n * up d * down e in
    elim (or_split (below s a t b) (level s a t b) h) [
      | inl u ↦ omega (arith, below→ s a t b u, P_mul s (m * up e) (down d), P_mul t (n * up d) (down e), M_mul s (m * up e) (down d), M_mul t (n * up d) (down e))
      | inr u ↦ omega (arith, level→ s a t b u, P_mul s (m * up e) (down d), P_mul t (n * up d) (down e), M_mul s (m * up e) (down d), M_mul t (n * up d) (down e))
    ]

pub cross→le : (x y : Float) → T (finite x) → T (finite y) → Cross x y → T (le x y)
unfolding le
cross→le nan y p q h = absurd p
cross→le (inf s) y p q h = absurd p
cross→le (fin s m e) nan p q h = absurd q
cross→le (fin s m e) (inf t) p q h = absurd q
cross→le (fin s m e) (fin t n d) p q h =
    let a = m * up e * down d in
    let b = n * up d * down e in
    let k : P s a + M t b ≤ P t b + M s a = omega (arith, P_mul s (m * up e) (down d), P_mul t (n * up d) (down e), M_mul s (m * up e) (down d), M_mul t (n * up d) (down e)) in
    elim (eq-or-lt_of_le k) [
      | inl u ↦ or_r (below s a t b) (level s a t b) (→level s a t b u)
      | inr u ↦ or_l (below s a t b) (level s a t b) (→below s a t b u)
    ]

-- ---- not a NaN
abbrev pub num? : Float → Bool
num? x = not (is_nan x)

pub finite_num : (x : Float) → T (finite x) → T (num? x)
unfolding is_nan
finite_num nan h = absurd h
finite_num (inf s) h = absurd h
finite_num (fin s m e) h = tt

-- ---- x ≤ y, by the three ways in which it can hold
pub data LeBy : Float → Float → Type 0 where
  bottom : (y : Float) → T (num? y) → LeBy (inf true) y
  top : (x : Float) → T (num? x) → LeBy x (inf false)
  both : (s : Bool) (m : ℕ) (e : ℤ) (t : Bool) (n : ℕ) (d : ℤ) → Cross (fin s m e) (fin t n d) → LeBy (fin s m e) (fin t n d)

pub le→by : (x y : Float) → T (le x y) → LeBy x y
unfolding le is_nan
le→by nan y h = absurd h
le→by (inf true) nan h = absurd h
le→by (inf true) (inf t) h = bottom (inf t) tt
le→by (inf true) (fin t n d) h = bottom (fin t n d) tt
le→by (inf false) nan h = absurd h
le→by (inf false) (inf true) h = absurd h
le→by (inf false) (inf false) h = top (inf false) tt
le→by (inf false) (fin t n d) h = absurd h
le→by (fin s m e) nan h = absurd h
le→by (fin s m e) (inf true) h = absurd h
le→by (fin s m e) (inf false) h = top (fin s m e) tt
le→by (fin s m e) (fin t n d) h = both s m e t n d (le→cross (fin s m e) (fin t n d) tt tt h)

pub bottom_le : (y : Float) → T (num? y) → T (le (inf true) y)
unfolding le is_nan
bottom_le nan h = absurd h
bottom_le (inf true) h = tt
bottom_le (inf false) h = tt
bottom_le (fin t n d) h = tt

pub le_top : (x : Float) → T (num? x) → T (le x (inf false))
unfolding le is_nan
le_top nan h = absurd h
le_top (inf true) h = tt
le_top (inf false) h = tt
le_top (fin t n d) h = tt

pub by→le : (x y : Float) → LeBy x y → T (le x y)
by→le x y (bottom v h) = bottom_le v h
by→le x y (top v h) = le_top v h
by→le x y (both s m e t n d h) = cross→le (fin s m e) (fin t n d) tt tt h

pub le_num_l : (x y : Float) → T (le x y) → T (num? x)
unfolding le is_nan
le_num_l nan y h = absurd h
le_num_l (inf s) y h = tt
le_num_l (fin s m e) y h = tt

pub le_num_r : (x y : Float) → T (le x y) → T (num? y)
unfolding le is_nan
le_num_r nan y h = absurd h
le_num_r (inf s) nan h = absurd h
le_num_r (inf s) (inf t) h = tt
le_num_r (inf s) (fin t n d) h = tt
le_num_r (fin s m e) nan h = absurd h
le_num_r (fin s m e) (inf t) h = tt
le_num_r (fin s m e) (fin t n d) h = tt

-- ---- transitivity
-- (p - u) / a ≤ (q - v) / b ≤ (r - w) / c
pub chain : (p u a q v b r w c : ℕ) → 0 < b → p * b + v * a ≤ q * a + u * b → q * c + w * b ≤ r * b + v * c → p * c + w * a ≤ r * a + u * c
chain p u a q v b r w c B h k = le_of_mul-le-mul_right {k = b} (omega (arith, mul-le-mul_right c h, mul-le-mul_right a k)) B

trans_by : (x y z : Float) → LeBy x y → LeBy y z → LeBy x z
trans_by x y z (bottom v h) k = bottom z (le_num_r v z (by→le v z k))
trans_by x y z (top v h) k = go z k
  where
    go : (z : Float) → LeBy (inf false) z → LeBy v z
    go z (top w j) = top v h
trans_by x y z (both s m e t n d h) k = go z k
  where
    go : (z : Float) → LeBy (fin t n d) z → LeBy (fin s m e) z
    go z (top w j) = top (fin s m e) (finite_num (fin s m e) tt)
    go z (both _ _ _ u o c j) = both s m e u o c (chain (P s (m * up e)) (M s (m * up e)) (down e) (P t (n * up d)) (M t (n * up d)) (down d) (P u (o * up c)) (M u (o * up c)) (down c) (down_pos d) h
        j)

pub le_trans : (x y z : Float) → T (le x y) → T (le y z) → T (le x z)
le_trans x y z h k = by→le x z (trans_by x y z (le→by x y h) (le→by y z k))

-- ---- reflexivity, totality, and `lt` as the strict part
pub le_refl_num : (x : Float) → T (num? x) → T (le x x)
unfolding is_nan
le_refl_num nan h = absurd h
le_refl_num (inf true) h = bottom_le (inf true) (unfold is_nan in tt)
le_refl_num (inf false) h = le_top (inf false) (unfold is_nan in tt)
le_refl_num (fin s m e) h = cross→le (fin s m e) (fin s m e) tt tt (omega arith)

pub lt→le : (x y : Float) → T (lt x y) → T (le x y)
unfolding le
lt→le x y h = or_l (lt x y) (eq x y) h

-- the order fails one way: it holds the other way
pub total : (x y : Float) → T (num? x) → T (num? y) → T (not (lt x y)) → T (le y x)
unfolding is_nan le
total nan y p q h = absurd p
total (inf s) nan p q h = absurd q
total (inf true) (inf true) p q h = tt
total (inf true) (inf false) p q h = absurd h
total (inf false) (inf true) p q h = tt
total (inf false) (inf false) p q h = tt
total (inf true) (fin t n d) p q h = absurd h
total (inf false) (fin t n d) p q h = tt
total (fin s m e) nan p q h = absurd q
total (fin s m e) (inf true) p q h = tt
total (fin s m e) (inf false) p q h = absurd h
total (fin s m e) (fin t n d) p q h =
    cross→le (fin t n d) (fin s m e) tt tt (le_of_not (λ (k : Cross< (fin s m e) (fin t n d)). T_not (lt (fin s m e) (fin t n d)) h (cross→lt (fin s m e) (fin t n d) tt tt k)))
  where
    le_of_not : (Cross< (fin s m e) (fin t n d) → ⊥) → Cross (fin t n d) (fin s m e)
    le_of_not k = omega arith

-- and it does not hold both ways
pub le_not_lt : (x y : Float) → T (le x y) → T (lt y x) → ⊥
unfolding le
le_not_lt nan y h k = absurd h
le_not_lt (inf s) nan h k = absurd h
le_not_lt (inf true) (inf true) h k = absurd k
le_not_lt (inf true) (inf false) h k = absurd k
le_not_lt (inf false) (inf true) h k = absurd h
le_not_lt (inf false) (inf false) h k = absurd k
le_not_lt (inf true) (fin t n d) h k = absurd k
le_not_lt (inf false) (fin t n d) h k = absurd h
le_not_lt (fin s m e) nan h k = absurd h
le_not_lt (fin s m e) (inf true) h k = absurd h
le_not_lt (fin s m e) (inf false) h k = absurd k
le_not_lt (fin s m e) (fin t n d) h k = clash (le→cross (fin s m e) (fin t n d) tt tt h) (lt→cross (fin t n d) (fin s m e) tt tt k)
  where
    clash : Cross (fin s m e) (fin t n d) → Cross< (fin t n d) (fin s m e) → ⊥
    clash a b = omega arith

by_cases : (b : Bool) → T b ⊎ T (not b)
by_cases true = inl tt
by_cases false = inr tt

pub lt_or_ge : (x y : Float) → T (num? x) → T (num? y) → T (lt x y) ⊎ T (le y x)
lt_or_ge x y p q = elim (by_cases (lt x y)) [ inl h ↦ inl h | inr h ↦ inr (total x y p q h) ]

pub le_or_gt : (x y : Float) → T (num? x) → T (num? y) → T (le x y) ⊎ T (lt y x)
le_or_gt x y p q = elim (by_cases (lt y x)) [ inl h ↦ inr h | inr h ↦ inl (total y x q p h) ]

pub lt_le_trans : (x y z : Float) → T (lt x y) → T (le y z) → T (lt x z)
lt_le_trans x y z h k = elim (lt_or_ge x z (le_num_l x y (lt→le x y h)) (le_num_r y z k)) [ inl g ↦ g | inr g ↦ absurd (le_not_lt y x (le_trans y z x k g) h) ]

pub le_lt_trans : (x y z : Float) → T (le x y) → T (lt y z) → T (lt x z)
le_lt_trans x y z h k = elim (lt_or_ge x z (le_num_l x y h) (le_num_r y z (lt→le y z k))) [ inl g ↦ g | inr g ↦ absurd (le_not_lt z y (le_trans z x y g h) k) ]

-- ---- negation turns the order round
pub neg_num : (x : Float) → T (num? x) → T (num? (neg x))
unfolding is_nan neg
neg_num nan h = absurd h
neg_num (inf s) h = tt
neg_num (fin s m e) h = tt

flip_P : (s : Bool) (a : ℕ) → P (not s) a ≡ M s a
flip_P true a = refl
flip_P false a = refl

flip_M : (s : Bool) (a : ℕ) → M (not s) a ≡ P s a
flip_M true a = refl
flip_M false a = refl

pub neg_plus : (x : Float) → plus (neg x) ≡ less x
unfolding neg
neg_plus nan = refl
neg_plus (inf s) = refl
neg_plus (fin s m e) = flip_P s (m * up e)

pub neg_less : (x : Float) → less (neg x) ≡ plus x
unfolding neg
neg_less nan = refl
neg_less (inf s) = refl
neg_less (fin s m e) = flip_M s (m * up e)

pub neg_den : (x : Float) → den (neg x) ≡ den x
unfolding neg
neg_den nan = refl
neg_den (inf s) = refl
neg_den (fin s m e) = refl

neg_by : (x y : Float) → LeBy x y → T (le (neg y) (neg x))
unfolding neg
neg_by x y (bottom v h) = le_top (neg v) (neg_num v h)
neg_by x y (top v h) = bottom_le (neg v) (neg_num v h)
neg_by x y (both s m e t n d h) =
    cross→le (fin (not t) n d) (fin (not s) m e) tt tt (swap (P s (m * up e)) (M s (m * up e)) (P (not s) (m * up e)) (M (not s) (m * up e)) (P t (n * up d)) (M t (n * up d)) (P (not t) (n * up d))
    (M (not t) (n * up d)) (flip_P s (m * up e)) (flip_M s (m * up e)) (flip_P t (n * up d)) (flip_M t (n * up d)) h)
  where
    swap : (p u p' u' q v q' v' : ℕ) → p' ≡ u → u' ≡ p → q' ≡ v → v' ≡ q → p * down d + v * down e ≤ q * down e + u * down d → q' * down e + u' * down d ≤ p' * down d + v' * down e
    swap p u p' u' q v q' v' a b c g h = rw (a, b, c, g) (omega arith)

pub neg_anti : (x y : Float) → T (le x y) → T (le (neg y) (neg x))
neg_anti x y h = neg_by x y (le→by x y h)

pub neg_neg : (x : Float) → neg (neg x) ≡ x
unfolding neg
neg_neg nan = refl
neg_neg (inf true) = refl
neg_neg (inf false) = refl
neg_neg (fin true m e) = refl
neg_neg (fin false m e) = refl

-- ---- the absolute value: the sign cleared
abbrev pub zero⁺ : Float
zero⁺ = fin false 0 (lib.IntN.pos 0)

pub abs_num : (x : Float) → T (num? x) → T (num? (abs x))
unfolding is_nan abs
abs_num nan h = absurd h
abs_num (inf s) h = tt
abs_num (fin s m e) h = tt

-- ---- a comparison that came out true, as a test of the code leaves it; and one that cannot hold
pub of_true : (b : Bool) → b ≡ true → T b
of_true b e = subst (λ (z : Bool). T z) (sym e) tt

pub of_none : (b : Bool) → (T b → ⊥) → b ≡ false
of_none true h = absurd (h tt)
of_none false h = refl

-- ---- what lies between two finite values is finite
top_not_under : (hi : Float) → T (finite hi) → T (le (inf false) hi) → ⊥
unfolding le
top_not_under nan q k = q
top_not_under (inf t) q k = q
top_not_under (fin t n d) q k = k

between_by : (lo x hi : Float) → LeBy lo x → T (finite lo) → T (finite hi) → T (le x hi) → T (finite x)
between_by lo x hi (bottom y h) p q k = absurd p
between_by lo x hi (top y h) p q k = absurd (top_not_under hi q k)
between_by lo x hi (both s m e t n d h) p q k = tt

pub between_finite : (lo x hi : Float) → T (finite lo) → T (finite hi) → T (le lo x) → T (le x hi) → T (finite x)
between_finite lo x hi p q h k = between_by lo x hi (le→by lo x h) p q k
