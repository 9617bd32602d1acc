-- The middle of the one-effect grid, -L + L·8/8, is 0: the product and the quotient are exact, and a number less itself is +0. Assumes nothing.
use mathlib.Core.Path.{◌≡◌, refl, sym, ap, ◌∙◌, subst}
use mathlib.Core.Bool.{Bool, true, false, ◌&&◌, cond, true≢false}
use Prim.Native.Nat.{ℕ, ◌-◌, ◌*◌, ◌≤◌, ◌<◌}
use native.Mathlib.Nat.{eq_of_mul-eq-mul_right, mul-pos, lt_irrefl}
use native.Mathlib.Omega.{arith}
use lib.Dec.{T, ltb, ltb→lt, lit<}
use lib.IntN.{pos, negsuc}
use lib.Ieee.{Float, nan, inf, fin, Format, binary64, of_bits, up, down, round, sum, of_int, le, neg, add, mul, div, fits}
use lib.Ieee.Exact.{HasValue}
use lib.Ieee.Fits.{down_pos}
use lib.Ieee.Positive.{positive, between, values_of_le}
use lib.Ieee.Scale.{overflow, round_same}
use Rattle.float64.specs.Arithmetic.{word, edge}
use Rattle.float64.proofs.Order.{of_none}
use Rattle.float64.proofs.Bracket64.{edge as top}
use Rattle.float64.proofs.Units.{L, L_pos, Rep, rep_exact, rep_double, has}
use Rattle.mode.specs.Rules.{grid_point}

abbrev eight : Float
eight = fin false 1 (pos 3)

abbrev thousandth : Float
thousandth = fin false 1 (negsuc 9)

-- ---- a fraction that is a number of units which the format has, rounded, is that many units
exact : (f : Format) (a c n : ℕ) → 0 < c → Rep f n → a * L f ≡ n * c → HasValue (round f false a c) false n (L f)
exact f a c n C r h = subst (λ (x : Float). HasValue x false n (L f)) (sym (round_same f false a c n (L f) C (L_pos f) h)) (rep_exact f false n r)

-- ---- 8 times n units, and an eighth of 8·n units
times : (a c n K : ℕ) → a * K ≡ n * c → a * (1 * 8) * K ≡ n * 2 * 2 * 2 * (c * 1)
times a c n K h = omega (arith, ap (λ (z : ℕ). z * 8) h)

parts : (a c n K : ℕ) → a * K ≡ n * 2 * 2 * 2 * c → a * 1 * K ≡ n * (1 * 8 * c)
parts a c n K h = omega arith

mul_eight : (f : Format) (x : Float) (n : ℕ) → Rep f (n * 2 * 2 * 2) → HasValue x false n (L f) → HasValue (mul f x eight) false (n * 2 * 2 * 2) (L f)
unfolding mul
mul_eight f nan n r h = absurd h
mul_eight f (inf s) n r h = absurd h
mul_eight f (fin true m e) n r h = absurd (true≢false h.0)
mul_eight f (fin false m e) n r h = exact f (m * up e * (1 * 8)) (down e * 1) (n * 2 * 2 * 2) (mul-pos (down_pos e) (lit< tt)) r (times (m * up e) (down e) n (L f) h.1)

div_eight : (f : Format) (x : Float) (n : ℕ) → Rep f n → HasValue x false (n * 2 * 2 * 2) (L f) → HasValue (div f x eight) false n (L f)
unfolding div
div_eight f nan n r h = absurd h
div_eight f (inf s) n r h = absurd h
div_eight f (fin true m e) n r h = absurd (true≢false h.0)
div_eight f (fin false m e) n r h = exact f (m * up e * 1) (1 * 8 * down e) n (mul-pos (lit< tt) (down_pos e)) r (parts (m * up e) (down e) n (L f) h.1)

-- ---- a number of units less as many is +0
level : (a c b d n K : ℕ) → 0 < K → a * K ≡ n * c → b * K ≡ n * d → a * d ≡ b * c
level a c b d n K k g h = eq_of_mul-eq-mul_right K k (a * d) (b * c) (omega (arith, ap (λ (z : ℕ). z * d) g, ap (λ (z : ℕ). z * c) h))

alike : (f : Format) (a c : ℕ) → 0 < c → sum f true a false a c ≡ round f false 0 1
unfolding sum
alike f a c C =
    ap (λ (t : Bool). cond t (round f false (a - a) c) (round f (true && t) (a - a) c)) (of_none (ltb a a) (λ (h : T (ltb a a)). lt_irrefl a (ltb→lt a a h)))
    ∙ round_same f false (a - a) c 0 1 C (lit< tt) (none a c)
  where
    none : (a c : ℕ) → (a - a) * 1 ≡ 0 * c
    none a c = omega arith

less_itself : (f : Format) (x y : Float) (n : ℕ) → HasValue x false n (L f) → HasValue y false n (L f) → add f (neg x) y ≡ round f false 0 1
unfolding add neg
less_itself f nan y n g h = absurd g
less_itself f (inf s) y n g h = absurd g
less_itself f (fin s m e) nan n g h = absurd h
less_itself f (fin s m e) (inf t) n g h = absurd h
less_itself f (fin true m e) (fin t k d) n g h = absurd (true≢false g.0)
less_itself f (fin false m e) (fin true k d) n g h = absurd (true≢false h.0)
less_itself f (fin false m e) (fin false k d) n g h =
    let a = m * up e * down d in
    let c = down e * down d in
    let same : a ≡ k * up d * down e = level (m * up e) (down e) (k * up d) (down d) n (L f) (L_pos f) g.1 h.1 in
    subst (λ (z : ℕ). sum f true a false z c ≡ round f false 0 1) same (alike f a c (mul-pos (down_pos e) (down_pos d)))

-- ---- a limit from 2^-10 to 16 is a number of units of which the format has 8 times as many
doubled : (n o : ℕ) → n * 8 < o → (n * 2 < o) × (n * 2 * 2 < o) × (n * 2 * 2 * 2 < o)
doubled n o h = (omega arith, omega arith, omega arith)

rep_eight : (f : Format) (n : ℕ) → Rep f n → n * 8 < overflow f → Rep f (n * 2 * 2 * 2)
rep_eight f n r h =
    let b = doubled n (overflow f) h in
    rep_double f (n * 2 * 2) (rep_double f (n * 2) (rep_double f n r b.0) b.1) b.2

room : (n K o : ℕ) → n * 1 ≤ 16 * K → 16 * K * 8 < o → n * 8 < o
room n K o h k = omega arith

middle : (x : Float) → T (fits binary64 x) → T (positive x) → T (le x top) → add binary64 (neg x) (div binary64 (mul binary64 x eight) eight) ≡ round binary64 false 0 1
middle nan f p h = absurd p
middle (inf s) f p h = absurd p
middle (fin true m e) f p h = absurd p
middle (fin false m e) f p h =
    let x = fin false m e in
    let v = has binary64 false m e f in
    let n = v.count in
    let own : HasValue x false n (L binary64) = (refl, v.same) in
    let under : n * 8 < overflow binary64 = room n (L binary64) (overflow binary64) (values_of_le x top n (L binary64) 16 1 p tt own (refl, refl) h) (lit< tt) in
    let y = mul binary64 x eight in
    less_itself binary64 x (div binary64 y eight) n own (div_eight binary64 y n v.rep (mul_eight binary64 x n (rep_eight binary64 n v.rep under) own))

-- ---- the ninth of the 17 points, for every limit from 2^-10 to 16
pub middle_zero : (limit : Float) → T (fits binary64 limit) → T (le (word 0x3f50_0000_0000_0000) limit) → T (le limit edge) → grid_point limit 8 ≡ word 0
unfolding grid_point of_bits of_int
middle_zero limit f low high = middle limit f (between thousandth limit edge tt tt low high) high
