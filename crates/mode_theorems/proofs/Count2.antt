-- A search with two effects asks for at most 6,343 points. Assumes nothing.
use mathlib.Core.Path.{◌≡◌, sym, subst}
use mathlib.Core.Bool.{Bool, true, false}
use mathlib.Core.List.{List}
use Prim.Native.Nat.{ℕ, zero, suc, ◌+◌, ◌-◌, ◌*◌, ◌≤◌, ◌<◌}
use native.Mathlib.Omega.{arith}
use lib.ListN.{length}
use lib.Dec.{T, ltb, lit≤, lit<}
use lib.Ieee.{Float, le}
use borrow.Author.Tests.{ltb-true}
use Rattle.float64.specs.Arithmetic.{word}
use Rattle.float64.specs.Pick.{cases}
use Rattle.matrix.specs.Matrix.{Inverse, some, none, inverse_positive}
use Rattle.matrix.specs.declared.Pair.{Pair}
use Rattle.mode_2d.specs.declared.population_focei_2d.Settings2.{Settings2}
use Rattle.mode_2d.specs.declared.population_focei_2d.Conditional2.{Conditional2}
use Rattle.mode_2d.specs.declared.population_focei_2d.NewtonStep.{NewtonStep}
use Rattle.mode_2d.specs.declared.population_focei_2d.Stage2.{Stage2}
use Rattle.mode_2d.specs.declared.population_focei_2d.Stage2.TheVariants.{Zero, Start, Trial, Found, Halted}
use Rattle.mode_2d.specs.declared.population_focei_2d.Search2.{Search2}
use Rattle.mode_2d.specs.Rules.{request_at, request, advance_at, advance, between, trying, finish, try_from, descend_by, descend, begin_round, take, leave, next_reduction, trial_point, is_passed_over}
use Rattle.mode_2d.specs.Rules.{is_unresolved, is_far, better, norm, curvature, step_by, is_taken, start}
use Rattle.mode_theorems.specs.History2.{Answers, Follows, after, asks}
use Rattle.mode_theorems.proofs.Ceiling.{Fewer, at_most}
use Rattle.mode.specs.declared.Request.{Request}
use Rattle.mode.specs.declared.Request.TheVariants.{Point, Mode, Refused}

-- ---- requests apart
abbrev pub is_mode : Request Pair → Bool
is_mode (Point p) = false
is_mode Mode = true
is_mode (Refused n) = false

abbrev pub is_point : Request Pair → Bool
is_point (Point p) = true
is_point Mode = false
is_point (Refused n) = false

abbrev pub point_of : Pair → Request Pair → Pair
point_of d (Point p) = p
point_of d Mode = d
point_of d (Refused n) = d

pub mode-true : (q : Request Pair) → q ≡ Mode → T (is_mode q)
mode-true q e = subst (λ (z : Request Pair). T (is_mode z)) (sym e) tt

pub point_true : (q : Request Pair) (p : Pair) → q ≡ Point p → T (is_point q)
point_true q p e = subst (λ (z : Request Pair). T (is_point z)) (sym e) tt

-- ---- the reductions
pub reduction_ge : (l : Float) (step : NewtonStep) (n j : ℕ) → j ≤ next_reduction l step n j
unfolding next_reduction
reduction_ge l step zero j = omega arith
reduction_ge l step (suc n) j = let h = reduction_ge l step n (j + 1) in cases (λ (i : ℕ). j ≤ i) (is_passed_over l step j) {x = next_reduction l step n (j + 1)} {y = j} (λ _. on h) (λ _. omega arith)
  where
    on : {i : ℕ} → j + 1 ≤ i → j ≤ i
    on h = omega arith

-- ---- from this search on at most n more are asked
pub record InTrial (k r j n : ℕ) : Type 0 where
  pub left : 6341 ≤ n + j + r * 22 + k * 1057
  pub reduction : j < 22
  pub round : r < 48
  pub seed : k < 6

abbrev Room : Stage2 → ℕ → ℕ → ℕ → ℕ → Type 0
Room Zero k r j n = 6343 ≤ n
Room Start k r j n = (6342 ≤ k * 1057 + n) × (k < 6)
Room Trial k r j n = InTrial k r j n
Room Found k r j n = Unit
Room (Halted i) k r j n = Unit

abbrev RoomOf : ℕ → Search2 → Type 0
RoomOf n x = Room x.stage x.seed x.round x.reduction n

-- the rounds of a start are over, and five starts at most are left
finish_room : (s : Settings2) (k : ℕ) (c b : Conditional2) (n : ℕ) → 5285 ≤ k * 1057 + n → RoomOf n (finish s k c b)
unfolding finish between
finish_room s k c b n h =
    cases (RoomOf n) (is_unresolved s c) {x = between (Halted 13) k c b} (λ _. tt)
    (λ _. cases (RoomOf n) (is_far k c b) {x = between (Halted 14) k c b} (λ _. tt)
    (λ _. cases (RoomOf n) (ltb k 5) {x = between Start (k + 1) c (better s k c b)} {y = between Found 6 c (better s k c b)} (λ e. on k (ltb-true k 5 e) h) (λ _. tt)))
  where
    on : (k : ℕ) → k < 5 → 5285 ≤ k * 1057 + n → (6342 ≤ (k + 1) * 1057 + n) × (k + 1 < 6)
    on k e h = (omega arith, omega arith)

module _ (s : Settings2) (k r j : ℕ) (c b : Conditional2) (n : ℕ) (K : k < 6) (R : r < 48) (J : j < 22) (h : 6341 ≤ n + j + r * 22 + k * 1057) where
  last_room : RoomOf n (finish s k c b)
  last_room = finish_room s k c b n (last k r j n R J h)
    where
      last : (k r j n : ℕ) → r < 48 → j < 22 → 6341 ≤ n + j + r * 22 + k * 1057 → 5285 ≤ k * 1057 + n
      last k r j n a b h = omega arith

  try_room : (step : NewtonStep) → RoomOf n (try_from s k r j c b step)
  unfolding try_from trying
  try_room step =
      let i = next_reduction s.eta_bound step (22 - j) j in
      cases (RoomOf n) (ltb i 22) {x = trying k r i c b step (trial_point s.eta_bound step i)} {y = finish s k c b}
      (λ e. record { left = later k r j i n (reduction_ge s.eta_bound step (22 - j) j) h; reduction = ltb-true i 22 e; round = R; seed = K })
      (λ _. last_room)
    where
      later : (k r j i n : ℕ) → j ≤ i → 6341 ≤ n + j + r * 22 + k * 1057 → 6341 ≤ n + i + r * 22 + k * 1057
      later k r j i n a h = omega arith

  descend_room : RoomOf n (descend s k r j c b)
  unfolding descend descend_by between
  descend_room = go (inverse_positive (curvature s.precision c.information))
    where
      go : (i : Inverse) → RoomOf n (descend_by i s k r j c b)
      go none = tt
      go (some inverse det) = try_room (step_by s c inverse)

round_room : (s : Settings2) (k r : ℕ) (c b : Conditional2) (n : ℕ) → k < 6 → r < 48 → 6341 ≤ n + 0 + r * 22 + k * 1057 → RoomOf n (begin_round s k r c b)
unfolding begin_round
round_room s k r c b n K R h =
    cases (RoomOf n) (le (norm s c) (word 0x3ee4_f8b5_88e3_68f1)) {x = finish s k c b} {y = descend s k r 0 c b} (λ _. last_room s k r 0 c b n K R (lit< tt) h)
    (λ _. descend_room s k r 0 c b n K R (lit< tt) h)

-- ---- one more is asked
room_now : (st : Stage2) (s : Settings2) (x : Search2) (n : ℕ) → Room st x.seed x.round x.reduction n → asks (request_at st s x) ≤ n
unfolding request_at asks
room_now Zero s x n r = omega arith
room_now Start s x n r = go x.seed n r.0 r.1
  where
    go : (k n : ℕ) → 6342 ≤ k * 1057 + n → k < 6 → 1 ≤ n
    go k n a b = omega arith
room_now Trial s x n r = go x.seed x.round x.reduction n r.left r.reduction r.round r.seed
  where
    go : (k r j n : ℕ) → 6341 ≤ n + j + r * 22 + k * 1057 → j < 22 → r < 48 → k < 6 → 1 ≤ n
    go k r j n a b c d = omega arith
room_now Found s x n r = omega arith
room_now (Halted i) s x n r = omega arith

-- a trial is taken, or not
module _ (s : Settings2) (x : Search2) (c : Conditional2) (n : ℕ) (w : InTrial x.seed x.round x.reduction n) where
  -- five starts at most are left
  over : 5285 ≤ x.seed * 1057 + (n - 1)
  over = go x.seed x.round x.reduction n w.left w.reduction w.round
    where
      go : (k r j n : ℕ) → 6341 ≤ n + j + r * 22 + k * 1057 → j < 22 → r < 48 → 5285 ≤ k * 1057 + (n - 1)
      go k r j n a b c = omega arith

  take_room : RoomOf (n - 1) (take s x c)
  unfolding take
  take_room =
      cases (RoomOf (n - 1)) (ltb x.round 47) {x = begin_round s x.seed (x.round + 1) c x.best} {y = finish s x.seed c x.best}
      (λ e. let g = go x.seed x.round x.reduction n w.left w.reduction (ltb-true x.round 47 e) in round_room s x.seed (x.round + 1) c x.best (n - 1) w.seed g.1 g.0)
      (λ _. finish_room s x.seed c x.best (n - 1) over)
    where
      go : (k r j n : ℕ) → 6341 ≤ n + j + r * 22 + k * 1057 → j < 22 → r < 47 → (6341 ≤ n - 1 + 0 + (r + 1) * 22 + k * 1057) × (r + 1 < 48)
      go k r j n a b c = (omega arith, omega arith)

  leave_room : RoomOf (n - 1) (leave s x)
  unfolding leave
  leave_room =
      cases (RoomOf (n - 1)) (ltb x.reduction 21) {x = descend s x.seed x.round (x.reduction + 1) x.current x.best} {y = finish s x.seed x.current x.best}
      (λ e. let g = go x.seed x.round x.reduction n w.left (ltb-true x.reduction 21 e) in descend_room s x.seed x.round (x.reduction + 1) x.current x.best (n - 1) w.seed
      w.round g.1 g.0)
      (λ _. finish_room s x.seed x.current x.best (n - 1) over)
    where
      go : (k r j n : ℕ) → 6341 ≤ n + j + r * 22 + k * 1057 → j < 21 → (6341 ≤ n - 1 + (j + 1) + r * 22 + k * 1057) × (j + 1 < 22)
      go k r j n a b = (omega arith, omega arith)

room_step : (st : Stage2) (s : Settings2) (x : Search2) (c : Conditional2) (n : ℕ) → Room st x.seed x.round x.reduction n → T (is_point (request_at st s x)) → RoomOf (n - 1)
    (advance_at st s x c)
unfolding request_at advance_at between
room_step Zero s x c n r h = (omega arith, lit< tt)
room_step Start s x c n r h = round_room s x.seed 0 c x.best (n - 1) r.1 (lit< tt) (go x.seed n r.0)
  where
    go : (k n : ℕ) → 6342 ≤ k * 1057 + n → 6341 ≤ n - 1 + 0 + 0 * 22 + k * 1057
    go k n h = omega arith
room_step Trial s x c n r h = cases (RoomOf (n - 1)) (is_taken s x c) {x = take s x c} {y = leave s x} (λ _. take_room s x c n r) (λ _. leave_room s x c n r)
room_step Found s x c n r h = absurd h
room_step (Halted i) s x c n r h = absurd h

point_asks : (q : Request Pair) → T (is_point q) → 1 ≤ asks q
unfolding asks
point_asks (Point p) h = lit≤ tt
point_asks Mode h = absurd h
point_asks (Refused n) h = absurd h

room_next : (s : Settings2) (n : ℕ) (x : Search2) (c : Conditional2) → RoomOf n x → Answers (request s x) c → Fewer RoomOf n (advance s x c)
room_next s n x c r a =
    let p = point_true (request s x) c.eta a.asked in
    (go (point_asks (request s x) p) (room_now x.stage s x n r), room_step x.stage s x c n r p)
  where
    go : {k : ℕ} → 1 ≤ k → k ≤ n → 1 ≤ n
    go a b = omega arith

pub at_most_6343 : (s : Settings2) (h : List Conditional2) → Follows s h → length h + asks (request s (after s h)) ≤ 6343
unfolding start between
at_most_6343 s h f = at_most Answers (request s) (advance s) asks RoomOf (λ n x r. room_now x.stage s x n r) (room_next s) h start 6343 (lit≤ tt) f
