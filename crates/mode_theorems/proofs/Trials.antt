-- The stages after the grid: what holds of a bracket with its best point is kept by each trial. Assumes nothing.
use mathlib.Core.Path.{◌≡◌, refl, sym, ap, subst}
use mathlib.Core.Logic.{◌⊎◌, inl, inr}
use mathlib.Core.Bool.{Bool, true, false, not, true≢false}
use mathlib.Core.List.Memᴰ
use mathlib.Core.List.{List, [], ◌∷◌, Memᴰ}
use Prim.Native.Nat.{ℕ, ◌+◌, ◌*◌, ◌≤◌}
use native.Mathlib.Omega.{arith}
use lib.Dec.{T, T_not, ltb, eqb, lit<}
use lib.Ieee.{Float, nan, binary64, lt, le, sub, is_nan, fits, mul, div, of_bits}
use lib.Ieee.Fits.{add-fits, sub-fits, mul-fits}
use lib.Ieee.Scale.{finite}
use Rattle.float64.specs.Pick.{pick, both}
use Rattle.float64.specs.Float64.{abs}
use Rattle.float64.proofs.Order.{between_finite, P, M, num?, zero⁺, abs_num, finite_num, le_trans, le_refl_num, lt→le, le_num_r, lt_or_ge, total, le_not_lt, le_or_gt, le_lt_trans}
use Rattle.float64.proofs.Units.{Units, Value, value_of, units_of_le, sub_units}
use Rattle.float64.proofs.Bracket.{once, rounded_le_units, clamp_num, clamp_fits}
use Rattle.float64.proofs.Bracket64.{edge, minus_edge, eps, width, lo, hi, Bracket, half_ge, half_le, clamped_ge, clamped_le}
use Rattle.float64.proofs.Numbers.{fin_sub_num}
use Rattle.mode.specs.declared.population_focei.Settings.{Settings}
use Rattle.mode.specs.declared.population_focei.Conditional.{Conditional}
use Rattle.mode.specs.declared.population_focei.Stage.{Stage}
use Rattle.mode.specs.declared.population_focei.Stage.TheVariants.{Grid, Warm, Secant, Halving}
use Rattle.mode.specs.declared.population_focei.Search.{Search}
use Rattle.mode.specs.Rules.{nought, request_at, request, advance_at, advance, tried, secant_point, midpoint, settled, is_above, is_under, is_closer}
use Rattle.mode_theorems.specs.Histories.{led_from, Answered}
use Rattle.mode_theorems.specs.Terms.{Cell, narrowed, bracket_from, InBracket}
use Rattle.mode_theorems.specs.History.{Domain, Answers, FollowsFrom, after_from}
use Rattle.mode_theorems.proofs.Words.{cell_in, narrowed_is}
use Rattle.mode.specs.declared.Request.{Request}
use Rattle.mode.specs.declared.Request.TheVariants.{Point, Mode, Refused}

-- ---- requests apart
abbrev pub is_mode : Request Float → Bool
is_mode (Point p) = false
is_mode Mode = true
is_mode (Refused n) = false

-- a mode, or 15: what is told past the grid
abbrev pub is_end : Request Float → Bool
is_end (Point p) = false
is_end Mode = true
is_end (Refused n) = eqb n 15

abbrev pub is_point : Request Float → Bool
is_point (Point p) = true
is_point Mode = false
is_point (Refused n) = false

abbrev pub point_of : Request Float → Float
point_of (Point p) = p
point_of Mode = nan
point_of (Refused n) = nan

pub mode-end : (q : Request Float) → q ≡ Mode → T (is_end q)
mode-end q e = subst (λ (z : Request Float). T (is_end z)) (sym e) tt

pub unsettled_end : (q : Request Float) → q ≡ Refused 15 → T (is_end q)
unsettled_end q e = subst (λ (z : Request Float). T (is_end z)) (sym e) tt

pub point_true : (q : Request Float) (p : Float) → q ≡ Point p → T (is_point q)
point_true q p e = subst (λ (z : Request Float). T (is_point z)) (sym e) tt

-- ---- floats
pub nought_num : T (num? nought)
unfolding of_bits is_nan
nought_num = tt

pub eps_low : (s : Settings) → Domain s → T (le eps s.tolerance)
unfolding of_bits
eps_low s d = d.tolerance_low

zero_units : Units binary64 zero⁺ 0 0
zero_units = record { is_finite = tt; value = refl }

back_lemma : (pl ul pr ur : ℕ) → pr + ul ≤ pl + ur → pr + ul + 0 * 1 ≤ 0 * 1 + (ur + pl)
back_lemma pl ul pr ur h = omega arith

-- where the ends are not in order, the width is not above 0
back_width : (l r : Float) → Value binary64 l → Value binary64 r → T (le r l) → T (le (width l r) zero⁺)
back_width l r i j h =
    let pl = P i.sign i.count in
    let ul = M i.sign i.count in
    let pr = P j.sign j.count in
    let ur = M j.sign j.count in
    rounded_le_units binary64 (width l r) zero⁺ (pr + ul) (ur + pl) 1 0 0 (lit< tt) (unfold fits in tt) zero_units
    (once binary64 (width l r) (pr + ul) (ur + pl) (sub_units binary64 r l pr ur pl ul j.units i.units))
    (back_lemma pl ul pr ur (units_of_le binary64 r l pr ur pl ul j.units i.units h))

pub order_of_width : (l r : Float) → T (fits binary64 l) → T (finite l) → T (fits binary64 r) → T (finite r) → T (lt eps (width l r)) → T (lt l r)
order_of_width l r fl nl fr nr w =
    elim (lt_or_ge l r (finite_num l nl) (finite_num r nr)) [
      | inl g ↦ g
      | inr g ↦ absurd (le_not_lt (width l r) eps (le_trans (width l r) zero⁺ eps (back_width l r (value_of binary64 l fl nl) (value_of binary64 r fr nr) g) (unfold le in tt)) w)
    ]

-- ---- a bracket with its best point, in the cell from a to z
pub record Good (a z : Float) (l r b : Conditional) : Type 0 where
  pub fits_l : T (fits binary64 l.eta)
  pub fits_r : T (fits binary64 r.eta)
  pub low : T (le minus_edge a)
  pub cell_l : T (le a l.eta)
  pub order : T (le l.eta r.eta)
  pub cell_r : T (le r.eta z)
  pub high : T (le z edge)
  pub num_l : T (num? l.score)
  pub num_r : T (num? r.score)
  pub num_b : T (num? b.score)
  pub best_l : T (le (abs b.score) (abs l.score))
  pub best_r : T (le (abs b.score) (abs r.score))
  pub in_l : T (le a b.eta)
  pub in_r : T (le b.eta z)
  pub sign_l : T (is_under l)
  pub sign_r : T (is_above r)

-- a point between its ends
pub record Inside (l r c : Conditional) : Type 0 where
  pub fits_c : T (fits binary64 c.eta)
  pub above_l : T (le l.eta c.eta)
  pub below_r : T (le c.eta r.eta)
  pub num_c : T (num? c.score)

-- the better of two, and what it is better than
pub better_l : (b c : Conditional) → T (num? b.score) → T (le (abs (pick (is_closer c b) c b).score) (abs b.score))
unfolding is_closer pick
better_l b c p = go (lt (abs c.score) (abs b.score)) (lt→le (abs c.score) (abs b.score))
  where
    go : (t : Bool) → (T t → T (le (abs c.score) (abs b.score))) → T (le (abs (pick t c b).score) (abs b.score))
    go true h = h tt
    go false h = le_refl_num (abs b.score) (abs_num b.score p)

pub better_r : (b c : Conditional) → T (num? b.score) → T (num? c.score) → T (le (abs (pick (is_closer c b) c b).score) (abs c.score))
unfolding is_closer pick
better_r b c p q = go (lt (abs c.score) (abs b.score)) (total (abs c.score) (abs b.score) (abs_num c.score q) (abs_num b.score p))
  where
    go : (t : Bool) → (T (not t) → T (le (abs b.score) (abs c.score))) → T (le (abs (pick t c b).score) (abs c.score))
    go true h = le_refl_num (abs c.score) (abs_num c.score q)
    go false h = h tt

not_above_lem : (c : Conditional) → T (num? c.score) → T (not (is_above c)) → T (is_under c)
unfolding is_above is_under
not_above_lem c n h = total nought c.score nought_num n h

pub keep : (a z : Float) (l r b c : Conditional) → Good a z l r b → Inside l r c → Good a z (pick (is_above c) l c) (pick (is_above c) c r) (pick (is_closer c b) c b)
unfolding pick
keep a z l r b c g i = go (is_above c) (λ (h : T (is_above c)). h) (not_above_lem c i.num_c)
  where
    b' : Conditional
    b' = pick (is_closer c b) c b

    to_b : T (le (abs b'.score) (abs b.score))
    to_b = better_l b c g.num_b

    to_c : T (le (abs b'.score) (abs c.score))
    to_c = better_r b c g.num_b i.num_c

    to_l : T (le (abs b'.score) (abs l.score))
    to_l = le_trans (abs b'.score) (abs b.score) (abs l.score) to_b g.best_l

    to_r : T (le (abs b'.score) (abs r.score))
    to_r = le_trans (abs b'.score) (abs b.score) (abs r.score) to_b g.best_r

    num : T (num? b'.score)
    num = both (λ (k : Conditional). T (num? k.score)) (is_closer c b) i.num_c g.num_b

    a_c : T (le a c.eta)
    a_c = le_trans a l.eta c.eta g.cell_l i.above_l

    c_z : T (le c.eta z)
    c_z = le_trans c.eta r.eta z i.below_r g.cell_r

    in_a : T (le a b'.eta)
    in_a = both (λ (k : Conditional). T (le a k.eta)) (is_closer c b) a_c g.in_l

    in_z : T (le b'.eta z)
    in_z = both (λ (k : Conditional). T (le k.eta z)) (is_closer c b) c_z g.in_r

    go : (t : Bool) → (T t → T (is_above c)) → (T (not t) → T (is_under c)) → Good a z (pick t l c) (pick t c r) (pick (is_closer c b) c b)
    go true up down = record {
      fits_l = g.fits_l;
      fits_r = i.fits_c;
      low = g.low;
      cell_l = g.cell_l;
      order = i.above_l;
      cell_r = c_z;
      high = g.high;
      num_l = g.num_l;
      num_r = i.num_c;
      num_b = num;
      best_l =
          to_l;
      best_r = to_c;
      in_l = in_a;
      in_r = in_z;
      sign_l = g.sign_l;
      sign_r = up tt;
    }
    go false up down = record {
      fits_l = i.fits_c;
      fits_r = g.fits_r;
      low = g.low;
      cell_l = a_c;
      order = i.below_r;
      cell_r = g.cell_r;
      high = g.high;
      num_l = i.num_c;
      num_r = g.num_r;
      num_b = num;
      best_l =
          to_c;
      best_r = to_r;
      in_l = in_a;
      in_r = in_z;
      sign_l = down tt;
      sign_r = g.sign_r;
    }

-- ---- the points that are asked for lie between the ends
not_wide : (t u : Bool) → pick t true u ≡ false → T (not t)
unfolding pick
not_wide true u e = absurd (true≢false e)
not_wide false u e = tt

module _ (s : Settings) (d : Domain s) (a z : Float) where
  module _ (l r b : Conditional) (g : Good a z l r b) where
    low_l : T (le minus_edge l.eta)
    low_l = le_trans minus_edge a l.eta g.low g.cell_l

    high_r : T (le r.eta edge)
    high_r = le_trans r.eta z edge g.cell_r g.high

    pub finite_l : T (finite l.eta)
    finite_l = between_finite minus_edge l.eta edge tt tt low_l (le_trans l.eta r.eta edge g.order high_r)

    pub finite_r : T (finite r.eta)
    finite_r = between_finite minus_edge r.eta edge tt tt (le_trans minus_edge l.eta r.eta low_l g.order) high_r

    module _ (no : settled s b l r ≡ false) where
      pub wide : T (lt eps (width l.eta r.eta))
      unfolding settled
      wide =
          elim (le_or_gt (width l.eta r.eta) s.tolerance (fin_sub_num binary64 r.eta l.eta finite_r (finite_num l.eta finite_l)) (le_num_r eps s.tolerance (eps_low s d))) [
            | inl h ↦ absurd (T_not (le (width l.eta r.eta) s.tolerance) (not_wide _ _ no) h)
            | inr h ↦ le_lt_trans eps s.tolerance (width l.eta r.eta) (eps_low s d) h
          ]

      pub bracket : Bracket l.eta r.eta
      bracket = record { fits_l = g.fits_l; fits_r = g.fits_r; low = low_l; order = order_of_width l.eta r.eta g.fits_l finite_l g.fits_r finite_r wide; high = high_r }

      pub in_middle : (c : Conditional) → midpoint l r ≡ c.eta → T (num? c.score) → Inside l r c
      unfolding midpoint of_bits
      in_middle c e n =
          record {
            fits_c = subst (λ (y : Float). T (fits binary64 y)) e (mul-fits binary64 _ _);
            above_l = subst (λ (y : Float). T (le l.eta y)) e (half_ge l.eta r.eta bracket);
            below_r = subst (λ (y : Float). T (le y r.eta)) e (half_le l.eta r.eta bracket);
            num_c = n;
          }

      pub in_secant : (c : Conditional) → secant_point l r ≡ c.eta → T (num? c.eta) → T (num? c.score) → Inside l r c
      unfolding secant_point of_bits
      in_secant c e k n =
          let w = width l.eta r.eta in
          let x = sub binary64 l.eta (div binary64 (mul binary64 l.score w) (sub binary64 r.score l.score)) in
          let low = lo l.eta r.eta in
          let high = hi l.eta r.eta in
          let number : T (num? x) = clamp_num x low high (subst (λ (y : Float). T (num? y)) (sym e) k) in
          record {
            fits_c = subst (λ (y : Float). T (fits binary64 y)) e (clamp_fits binary64 x low high (sub-fits binary64 _ _) (add-fits binary64 _ _) (sub-fits binary64 _ _));
            above_l = subst (λ (y : Float). T (le l.eta y)) e (clamped_ge l.eta r.eta bracket wide x number);
            below_r = subst (λ (y : Float). T (le y r.eta)) e (clamped_le l.eta r.eta bracket wide x number);
            num_c = n;
          }

-- ---- the stages after the warm start
abbrev pub later : Stage → Bool
later Grid = false
later Warm = false
later Secant = true
later Halving = true

pub point_pick : (t : Bool) (q : Request Float) (e : Float) → pick t Mode q ≡ Point e → (t ≡ false) × (q ≡ Point e)
unfolding pick
point_pick true q e h = absurd (point_true Mode e h)
point_pick false q e h = (refl, h)

pub point_left : (t : Bool) (p e : Float) (n : ℕ) → pick t (Point p) (Refused n) ≡ Point e → (t ≡ true) × (p ≡ e)
unfolding pick
point_left true p e n h = (refl, ap point_of h)
point_left false p e n h = absurd (point_true (Refused n) e h)

-- at the end the best is settled where a mode is told
end_secant : (t : Bool) (p : Float) → T (is_end (pick t Mode (Point p))) → t ≡ is_mode (pick t Mode (Point p))
unfolding pick
end_secant true p h = refl
end_secant false p h = absurd h

end_halving : (t u : Bool) (p : Float) → T (is_end (pick t Mode (pick u (Point p) (Refused 15)))) → t ≡ is_mode (pick t Mode (pick u (Point p) (Refused 15)))
unfolding pick
end_halving true u p h = refl
end_halving false true p h = absurd h
end_halving false false p h = refl

end_settled : (st : Stage) → T (later st) → (s : Settings) (x : Search) → T (is_end (request_at st s x)) → settled s x.best x.left x.right ≡ is_mode (request_at st s x)
unfolding request_at
end_settled Grid p s x h = absurd p
end_settled Warm p s x h = absurd p
end_settled Secant p s x h = end_secant (settled s x.best x.left x.right) (secant_point x.left x.right) h
end_settled Halving p s x h = end_halving (settled s x.best x.left x.right) (ltb x.count 48) (midpoint x.left x.right) h

asked_inside : (st : Stage) → T (later st) → (s : Settings) (d : Domain s) (a z : Float) (x : Search) (c : Conditional) → Good a z x.left x.right x.best → Answers (request_at st s x) c →
    Inside x.left x.right c
unfolding request_at
asked_inside Grid p s d a z x c g w = absurd p
asked_inside Warm p s d a z x c g w = absurd p
asked_inside Secant p s d a z x c g w =
    let q = point_pick (settled s x.best x.left x.right) (Point (secant_point x.left x.right)) c.eta w.asked in
    in_secant s d a z x.left x.right x.best g q.0 c (ap point_of q.1) w.eta_number w.score_number
asked_inside Halving p s d a z x c g w =
    let q = point_pick (settled s x.best x.left x.right) (pick (ltb x.count 48) (Point (midpoint x.left x.right)) (Refused 15)) c.eta w.asked in
    let e = point_left (ltb x.count 48) (midpoint x.left x.right) c.eta 15 q.1 in
    in_middle s d a z x.left x.right x.best g q.0 c e.1 w.score_number

pub record Tried (x : Search) (c : Conditional) (y : Search) : Type 0 where
  pub stage : Stage
  pub count : ℕ
  pub is_later : T (later stage)
  pub same : y ≡ tried stage count x c

pub tried_at : (st : Stage) → T (later st) → (s : Settings) (x : Search) (c : Conditional) → Answers (request_at st s x) c → Tried x c (advance_at st s x c)
unfolding advance_at request_at
tried_at Grid p s x c w = absurd p
tried_at Warm p s x c w = absurd p
tried_at Secant p s x c w = go (ltb x.count 15)
  where
    go : (t : Bool) → Tried x c (pick t (tried Secant (x.count + 1) x c) (tried Halving 0 x c))
    go true = record { stage = Secant; count = x.count + 1; is_later = tt; same = unfold pick in refl }
    go false = record { stage = Halving; count = 0; is_later = tt; same = unfold pick in refl }
tried_at Halving p s x c w =
    let q = point_pick (settled s x.best x.left x.right) (pick (ltb x.count 48) (Point (midpoint x.left x.right)) (Refused 15)) c.eta w.asked in
    let e = point_left (ltb x.count 48) (midpoint x.left x.right) c.eta 15 q.1 in
    go (ltb x.count 48) e.0
  where
    go : (t : Bool) → t ≡ true → Tried x c (pick t (tried Halving (x.count + 1) x c) x)
    go true e = record { stage = Halving; count = x.count + 1; is_later = tt; same = unfold pick in refl }
    go false e = absurd (true≢false (sym e))

-- ---- the trials to the end: from a bracket k with its best point b, over the points h, to the search e
pub record Ends (s : Settings) (a z : Float) (k : Cell) (b : Conditional) (h : List Conditional) (e : Search) : Type 0 where
  pub in_left : T (le a e.best.eta)
  pub in_right : T (le e.best.eta z)
  pub below : T (le (abs e.best.score) (abs b.score))
  pub least_left : T (le (abs e.best.score) (abs k.left.score))
  pub least_right : T (le (abs e.best.score) (abs k.right.score))
  pub least : (c : Conditional) → Memᴰ c h → T (le (abs e.best.score) (abs c.score))
  pub is_settled : settled s e.best (bracket_from k h).left (bracket_from k h).right ≡ is_mode (request s e)
  pub best_left : T (le (abs e.best.score) (abs (bracket_from k h).left.score))
  pub best_right : T (le (abs e.best.score) (abs (bracket_from k h).right.score))
  pub bracket_low : T (le a (bracket_from k h).left.eta)
  pub bracket_order : T (le (bracket_from k h).left.eta (bracket_from k h).right.eta)
  pub bracket_high : T (le (bracket_from k h).right.eta z)
  pub left_under : T (is_under (bracket_from k h).left)
  pub right_above : T (is_above (bracket_from k h).right)
  pub source : (e.best ≡ b) ⊎ Memᴰ e.best h
  pub in_bracket : InBracket k h

source_step : (t : Bool) (c b m : Conditional) (h : List Conditional) → (m ≡ pick t c b) ⊎ Memᴰ m h → (m ≡ b) ⊎ Memᴰ m (c ∷ h)
unfolding pick
source_step t c b m h (inr k) = inr (Memᴰ.tail k)
source_step true c b m h (inl e) = inr (Memᴰ.head e)
source_step false c b m h (inl e) = inl e

-- one point earlier: c was tried
pub ends_step : (s : Settings) (a z : Float) (stage : Stage) (count : ℕ) (x : Search) (c : Conditional) (h : List Conditional) (e : Search)
    → Good a z x.left x.right x.best → Inside x.left x.right c → Ends s a z (cell_in (tried stage count x c)) (tried stage count x c).best h e → Ends s a z (cell_in x) x.best (c ∷ h)
    e
unfolding bracket_from InBracket
ends_step s a z stage count x c h e g i w =
    let b = pick (is_closer c x.best) c x.best in
    let v : Ends s a z (narrowed (cell_in x) c) b h e = subst (λ (k : Cell). Ends s a z k b h e) (narrowed_is stage count x c) (unfold tried in w) in
    let m = abs e.best.score in
    let below : T (le m (abs x.best.score)) = le_trans m (abs b.score) (abs x.best.score) v.below (better_l x.best c g.num_b) in
    record {
      below = below;
      least_left = le_trans m (abs x.best.score) (abs x.left.score) below g.best_l;
      least_right = le_trans m (abs x.best.score) (abs x.right.score) below g.best_r;
      least = λ d p. elim (Memᴰ.cases_cons p) [
        | inl q ↦ subst (λ (y : Conditional). T (le m (abs y.score))) (sym q) (le_trans m (abs b.score) (abs c.score) v.below (better_r x.best c g.num_b i.num_c))
        | inr q ↦ v.least d q
      ];
      in_bracket = (i.above_l, i.below_r, v.in_bracket);
      in_left = v.in_left;
      in_right = v.in_right;
      is_settled = v.is_settled;
      best_left = v.best_left;
      best_right = v.best_right;
      bracket_low = v.bracket_low;
      bracket_order = v.bracket_order;
      bracket_high = v.bracket_high;
      left_under = v.left_under;
      right_above = v.right_above;
      source = source_step (is_closer c x.best) c x.best e.best h v.source;
    }

pub trials : (s : Settings) (d : Domain s) (a z : Float) (h : List Conditional) (x : Search) → T (later x.stage) → Good a z x.left x.right x.best → FollowsFrom s x h → T
    (is_end (request s (after_from s x h)))
    → Ends s a z (cell_in x) x.best h (after_from s x h)
unfolding Answered led_from bracket_from tried InBracket
trials s d a z [] x p g f m = record {
  below = le_refl_num (abs x.best.score) (abs_num x.best.score g.num_b);
  least_left = g.best_l;
  least_right = g.best_r;
  least = λ d p. absurd (Memᴰ.not-nil p);
  in_bracket = tt;
  in_left = g.in_l;
  in_right = g.in_r;
  is_settled = end_settled x.stage p s x m;
  best_left = g.best_l;
  best_right = g.best_r;
  bracket_low = g.cell_l;
  bracket_order = g.order;
  bracket_high = g.cell_r;
  left_under = g.sign_l;
  right_above = g.sign_r;
  source = inl refl;
}
trials s d a z (c ∷ h) x p g f m =
    let y = advance s x c in
    let t = tried_at x.stage p s x c f.0 in
    let i = asked_inside x.stage p s d a z x c g f.0 in
    let g' : Good a z y.left y.right y.best = subst (λ (v : Search). Good a z v.left v.right v.best) (sym t.same) (keep a z x.left x.right x.best c g i) in
    let e : Ends s a z (cell_in y) y.best h (after_from s y h) = trials s d a z h y (subst (λ (v : Search). T (later v.stage)) (sym t.same) t.is_later) g' f.1 m in
    ends_step s a z t.stage t.count x c h (after_from s y h) g i (subst (λ (v : Search). Ends s a z (cell_in v) v.best h (after_from s y h)) t.same e)
