-- A search asks for at most 82 points, and one that is refused with 15 has tried every point past the grid. Assumes nothing.
use Rattle.std.specs.Prelude.{Float}
use mathlib.Core.Path.{◌≡◌, refl, sym, ap, ◌∙◌, subst}
use mathlib.Core.Bool.{Bool, true, false, not}
use mathlib.Core.List.{List, [], ◌∷◌}
use Prim.Native.Nat.{ℕ, suc, ◌+◌, ◌-◌, ◌≤◌, ◌<◌}
use native.Mathlib.Omega.{arith}
use lib.ListN.{length}
use lib.Dec.{T, T_not, ltb, lit≤}
use lib.Ieee.{le}
use borrow.Author.Tests.{ltb-true, ltb-false}
use Rattle.float64.specs.Pick.{pick, cases}
use Rattle.mode.specs.declared.population_focei.Settings.{Settings}
use Rattle.mode.specs.declared.population_focei.Conditional.{Conditional}
use Rattle.mode.specs.declared.population_focei.Stage.{Stage}
use Rattle.mode.specs.declared.population_focei.Stage.TheVariants.{Grid, Warm, Secant, Halving}
use Rattle.mode.specs.declared.population_focei.Search.{Search}
use Rattle.mode.specs.Rules.{nought, request_at, request, advance_at, advance, tried, screened, chosen, entered, first_stage, start, secant_point, midpoint, grid_point, settled, is_above, is_under}
use Rattle.mode_theorems.specs.Histories.{led_from, Answered}
use Rattle.mode_theorems.specs.Terms.{warm_trials}
use Rattle.mode_theorems.specs.History.{Answers, FollowsFrom, Follows, after_from, after, asks}
use Rattle.mode_theorems.proofs.Ceiling.{Fewer, at_most}
use Rattle.mode_theorems.proofs.Words.{cell_in, warm_is}
use Rattle.mode_theorems.proofs.Trials.{is_point, point_true}
use Rattle.mode.specs.declared.Request.{Request}
use Rattle.mode.specs.declared.Request.TheVariants.{Point, Mode, Refused}

-- at this stage and count at most n more are asked
abbrev pub Room : Stage → ℕ → ℕ → Type 0
Room Grid i n = (82 ≤ i + n) × (i ≤ 17)
Room Warm i n = 65 ≤ n
Room Secant i n = (64 ≤ i + n) × (i ≤ 15)
Room Halving i n = 48 ≤ i + n

abbrev pub RoomOf : ℕ → Search → Type 0
RoomOf n x = Room x.stage x.count n

-- ---- which requests are points
pick_point : (t : Bool) (q r : Request Float) → T (not (is_point r)) → T (is_point (pick t q r)) → t ≡ true
unfolding pick
pick_point true q r n h = refl
pick_point false q r n h = absurd (T_not (is_point r) n h)

no_point : (t : Bool) (q r : Request Float) → T (not (is_point q)) → T (not (is_point r)) → T (not (is_point (pick t q r)))
unfolding pick
no_point true q r a b = a
no_point false q r a b = b

past_mode : (t : Bool) (q : Request Float) → T (is_point (pick t Mode q)) → T (is_point q)
unfolding pick
past_mode true q h = absurd h
past_mode false q h = h

pub on_grid_lem : (s : Settings) (x : Search) → T (is_point (request_at Grid s x)) → x.count < 17
unfolding request_at
on_grid_lem s x h =
    ltb-true x.count 17
    (pick_point (ltb x.count 17) (Point (grid_point s.eta_bound x.count)) (pick (le nought x.first) (Refused 13) (pick (is_under x.latest) (Refused 13) (Refused 14)))
    (no_point (le nought x.first) (Refused 13) (pick (is_under x.latest) (Refused 13) (Refused 14)) tt (no_point (is_under x.latest) (Refused 13) (Refused 14) tt tt)) h)

in_halving : (s : Settings) (x : Search) → T (is_point (request_at Halving s x)) → x.count < 48
unfolding request_at
in_halving s x h =
    ltb-true x.count 48
    (pick_point (ltb x.count 48) (Point (midpoint x.left x.right)) (Refused 15) tt (past_mode (settled s x.best x.left x.right)
    (pick (ltb x.count 48) (Point (midpoint x.left x.right)) (Refused 15)) h))

past : (i n : ℕ) → i < n → n ≤ i → ⊥
past i n h k = omega arith

-- ---- one more is asked
pub room_pos : (st : Stage) (s : Settings) (x : Search) (n : ℕ) → Room st x.count n → T (is_point (request_at st s x)) → 1 ≤ n
room_pos Grid s x n r h = omega arith
room_pos Warm s x n r h = omega arith
room_pos Secant s x n r h = omega arith
room_pos Halving s x n r h = let k = in_halving s x h in omega arith

entered_room : (t u : Bool) (n : ℕ) → 65 ≤ n → Room (pick t (pick u Warm Secant) Secant) 0 n
unfolding pick
entered_room true true n h = h
entered_room true false n h = omega arith
entered_room false u n h = omega arith

pub room_step : (st : Stage) (s : Settings) (x : Search) (c : Conditional) (n : ℕ) → Room st x.count n → T (is_point (request_at st s x)) → RoomOf (n - 1) (advance_at st s x c)
unfolding advance_at tried screened entered chosen first_stage
room_step Grid s x c n r h =
    let k = on_grid_lem s x h in
    let y = screened x c in
    let ry : RoomOf (n - 1) y = omega arith in
    let P = RoomOf (n - 1) in
    cases P (ltb x.count 17)
    (λ _. cases P (ltb y.count 17) (λ _. ry)
    (λ e. cases P (le nought y.first) (λ _. ry)
    (λ _. cases P (is_under y.latest) (λ _. ry)
    (λ _. cases P y.fall (λ _. ry)
    (λ _. cases P (is_above y.right) (λ _. entered_room _ _ (n - 1) (last x.count n r.0 k (ltb-false (x.count + 1) 17 e)))
    (λ _. ry))))))
    (λ e. absurd (past x.count 17 k (ltb-false x.count 17 e)))
  where
    last : (i n : ℕ) → 82 ≤ i + n → i < 17 → 17 ≤ i + 1 → 65 ≤ n - 1
    last i n a b e = omega arith
room_step Warm s x c n r h = omega arith
room_step Secant s x c n r h =
    cases (RoomOf (n - 1)) (ltb x.count 15)
    (λ e. let k = ltb-true x.count 15 e in (omega arith, omega arith)) (λ e. omega arith)
room_step Halving s x c n r h =
    let k = in_halving s x h in
    cases (RoomOf (n - 1)) (ltb x.count 48)
    (λ _. omega arith) (λ e. absurd (past x.count 48 k (ltb-false x.count 48 e)))

asks_none : (q : Request Float) (n : ℕ) → (T (is_point q) → 1 ≤ n) → asks q ≤ n
unfolding asks
asks_none (Point p) n h = h tt
asks_none Mode n h = omega arith
asks_none (Refused k) n h = omega arith

room_next : (s : Settings) (n : ℕ) (x : Search) (c : Conditional) → RoomOf n x → Answers (request s x) c → Fewer RoomOf n (advance s x c)
room_next s n x c r a =
    let p = point_true (request s x) c.eta a.asked in
    (room_pos x.stage s x n r p, room_step x.stage s x c n r p)

-- no more than 82 are asked, the one that is awaited counted
pub at_most_82 : (s : Settings) (h : List Conditional) → Follows s h → length h + asks (request s (after s h)) ≤ 82
unfolding start
at_most_82 s h f = at_most Answers (request s) (advance s) asks RoomOf (λ n x r. asks_none (request s x) n (room_pos x.stage s x n r)) (room_next s) h start 82 (lit≤ tt, lit≤ tt) f

-- ---- 15: every trial was made
-- past the grid this many points are left
abbrev left : Stage → ℕ → ℕ
left Grid i = 0
left Warm i = 65
left Secant i = 64 - i
left Halving i = 48 - i

abbrev PastGrid : Stage → ℕ → Type 0
PastGrid Grid i = ⊥
PastGrid Warm i = Unit
PastGrid Secant i = i ≤ 15
PastGrid Halving i = i ≤ 48

abbrev Past : Search → Type 0
Past x = PastGrid x.stage x.count

abbrev left_of : Search → ℕ
left_of x = left x.stage x.count

abbrev is_unsettled : Request Float → Bool
is_unsettled (Point p) = false
is_unsettled Mode = false
is_unsettled (Refused n) = true

none_left : (st : Stage) (s : Settings) (x : Search) → PastGrid st x.count → T (is_unsettled (request_at st s x)) → left st x.count ≡ 0
unfolding request_at pick
none_left Grid s x r h = absurd r
none_left Warm s x r h = absurd h
none_left Secant s x r h = absurd (go (settled s x.best x.left x.right) h)
  where
    go : (t : Bool) → T (is_unsettled (pick t Mode (Point (secant_point x.left x.right)))) → ⊥
    go true h = h
    go false h = h
none_left Halving s x r h = let k = ltb-false x.count 48 (go (settled s x.best x.left x.right) (ltb x.count 48) h) in omega arith
  where
    go : (t u : Bool) → T (is_unsettled (pick t Mode (pick u (Point (midpoint x.left x.right)) (Refused 15)))) → u ≡ false
    go true u h = absurd h
    go false true h = absurd h
    go false false h = refl

-- one more is tried
abbrev OneLess : ℕ → Search → Type 0
OneLess n y = Past y × (n ≡ suc (left_of y))

one_less : (st : Stage) (s : Settings) (x : Search) (c : Conditional) → PastGrid st x.count → T (is_point (request_at st s x)) → OneLess (left st x.count) (advance_at st s x c)
unfolding advance_at tried
one_less Grid s x c r h = absurd r
one_less Warm s x c r h = (lit≤ tt, refl)
one_less Secant s x c r h =
    cases (OneLess (64 - x.count)) (ltb x.count 15)
    (λ e. let k = ltb-true x.count 15 e in (omega arith, omega arith)) (λ e. let k = ltb-false x.count 15 e in (lit≤ tt, omega arith))
one_less Halving s x c r h =
    let k = in_halving s x h in
    cases (OneLess (48 - x.count)) (ltb x.count 48)
    (λ _. (omega arith, omega arith)) (λ e. absurd (past x.count 48 k (ltb-false x.count 48 e)))

spent : (s : Settings) (h : List Conditional) (x : Search) → Past x → FollowsFrom s x h → T (is_unsettled (request s (after_from s x h))) → length h ≡ left_of x
unfolding Answered led_from
spent s [] x r f q = sym (none_left x.stage s x r q)
spent s (c ∷ h) x r f q =
    let w = one_less x.stage s x c r (point_true (request s x) c.eta f.0.asked) in
    ap suc (spent s h (advance s x c) w.0 f.1 q) ∙ sym w.1

pub all_tried_lem : (s : Settings) (h : List Conditional) (y : Search) → FollowsFrom s (entered s y) h → request s (after_from s (entered s y) h) ≡ Refused 15 → length h ≡ warm_trials s (cell_in y) + 16 + 48
unfolding entered
all_tried_lem s h y f q =
    spent s h (entered s y) (warm_is (λ st n. PastGrid st 0) s (cell_in y) tt (lit≤ tt)) f (subst (λ (r : Request Float). T (is_unsettled r)) (sym q) tt)
    ∙ warm_is (λ st n. left st 0 ≡ n + 16 + 48) s (cell_in y) refl refl
