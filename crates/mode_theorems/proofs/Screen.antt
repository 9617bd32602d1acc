-- The grid: a search that comes to its mode has screened 17 points, with one upward cell. Assumes nothing.
use mathlib.Core.Path.{◌≡◌, refl, sym, ap, ◌∙◌, subst}
use mathlib.Core.Logic.{◌⊎◌, inl, inr}
use mathlib.Core.Bool.{Bool, true, false, not, true≢false}
use mathlib.Core.List.{List, [], ◌∷◌}
use Prim.Native.Nat.{ℕ, zero, suc, ◌+◌, ◌≤◌, ◌<◌}
use native.Mathlib.Omega.{arith}
use lib.ListN.{take, drop, length}
use lib.Dec.{T, T_not, ltb, eqb}
use lib.Ieee.{Float, binary64, lt, le, fits}
use borrow.Author.Tests.{lt-ltb, le-ltb, ne_eqb}
use Rattle.float64.specs.Pick.{pick, both, pick_yes, pick_no, pick_same}
use Rattle.float64.proofs.Order.{num?, le_refl_num, lt→le, le_num_l, le_num_r, le_not_lt, le_or_gt, of_true}
use Rattle.float64.proofs.Bracket64.{edge, minus_edge}
use Rattle.mode.specs.declared.population_focei.Settings.{Settings}
use Rattle.mode.specs.declared.population_focei.Conditional.{Conditional}
use Rattle.mode.specs.declared.population_focei.Stage.{Stage}
use Rattle.mode.specs.declared.population_focei.Stage.TheVariants.{Grid, Warm, Secant}
use Rattle.mode.specs.declared.population_focei.Search.{Search}
use Rattle.mode.specs.Rules.{nought, request_at, request, advance_at, advance, tried, screened, chosen, entered, first_score, fell, first_stage, grid_point, is_above, is_under, is_closer}
use Rattle.mode_theorems.specs.Histories.{led_from, Answered}
use Rattle.mode_theorems.specs.Terms.{etas, grid_from, Cell, neighbours_from, filter, is_upward, is_fall, warm_trials}
use Rattle.mode_theorems.specs.History.{Domain, Answers, FollowsFrom, after_from}
use Rattle.mode_theorems.proofs.Words.{cell, cell_in, grid_next, upward_is, fall_is, and_no, and_yes, filter_no, filter_yes, last_from}
use Rattle.mode_theorems.proofs.Trials.{nought_num, is_end, point_of, point_true, Good, Inside, better_l, better_r, keep, later, Ends, ends_step, trials}
use Rattle.mode_theorems.proofs.Count.{on_grid_lem, all_tried_lem}
use Rattle.mode_theorems.proofs.Grid.{grid_fits, grid_mono, grid_low, grid_high}
use Rattle.mode.specs.declared.Request.{Request}
use Rattle.mode.specs.declared.Request.TheVariants.{Point, Refused}

-- ---- small things
pub true_of : (b : Bool) → T b → b ≡ true
true_of true h = refl
true_of false h = absurd h

false_of : (b : Bool) → (T b → ⊥) → b ≡ false
false_of true h = absurd (h tt)
false_of false h = refl

pub or_not : (b : Bool) → (b ≡ true) ⊎ (b ≡ false)
or_not true = inl refl
or_not false = inr refl

-- a score that is a number is above 0, or 0 or below
pub side : (c : Conditional) → T (num? c.score) → ((is_above c ≡ true) × (is_under c ≡ false)) ⊎ ((is_above c ≡ false) × (is_under c ≡ true))
unfolding is_above is_under
side c n =
    elim (le_or_gt c.score nought n nought_num) [
      | inl h ↦ inr (false_of (lt nought c.score) (le_not_lt c.score nought h), true_of (le c.score nought) h)
      | inr h ↦ inl (true_of (lt nought c.score) h, false_of (le c.score nought) (λ (k : T (le c.score nought)). le_not_lt c.score nought k h))
    ]

-- ---- the warm start and the trials
warm_trials_lem : (s : Settings) (d : Domain s) (a z : Float) (h : List Conditional) (x : Search) → x.stage ≡ Warm → T (lt x.left.eta s.warm) → T (lt s.warm x.right.eta) → Good a z
    x.left x.right x.best → FollowsFrom s x h
    → T (is_end (request s (after_from s x h))) → Ends s a z (cell_in x) x.best h (after_from s x h)
unfolding Answered led_from request_at advance_at tried
warm_trials_lem s d a z [] x e p q g f m = absurd (subst (λ (t : Stage). T (is_end (request_at t s x))) e m)
warm_trials_lem s d a z (c ∷ h) x e p q g f m =
    let y = advance s x c in
    let same : y ≡ tried Secant 0 x c = ap (λ (t : Stage). advance_at t s x c) e in
    let w : s.warm ≡ c.eta = ap point_of (subst (λ (t : Stage). request_at t s x ≡ Point c.eta) e f.0.asked) in
    let i : Inside x.left x.right c = record {
      fits_c = subst (λ (v : Float). T (fits binary64 v)) w d.fits_warm;
      above_l = lt→le x.left.eta c.eta (subst (λ (v : Float). T (lt x.left.eta v)) w p);
      below_r = lt→le c.eta x.right.eta (subst (λ (v : Float). T (lt v x.right.eta)) w q);
      num_c = f.0.score_number;
    } in
    let g' : Good a z y.left y.right y.best = subst (λ (v : Search). Good a z v.left v.right v.best) (sym same) (keep a z x.left x.right x.best c g i) in
    let r : Ends s a z (cell_in y) y.best h (after_from s y h) = trials s d a z h y (subst (λ (v : Search). T (later v.stage)) (sym same) tt) g' f.1 m in
    ends_step s a z Secant 0 x c h (after_from s y h) g i (subst (λ (v : Search). Ends s a z (cell_in v) v.best h (after_from s y h)) same r)

-- the end of smaller absolute score, the right one at a tie
abbrev pub nearer : Cell → Conditional
nearer k = pick (is_closer k.left k.right) k.left k.right

unfoldable pub GoodCell : Cell → Type 0
GoodCell k = Good k.left.eta k.right.eta k.left k.right (nearer k)

-- its right end is above 0
rises : (k : Cell) → GoodCell k → is_above k.right ≡ true
unfolding GoodCell
rises k g = true_of (is_above k.right) g.sign_r

pub warm_stage : (t u : Bool) → t ≡ true → u ≡ true → pick t (pick u Warm Secant) Secant ≡ Warm
unfolding pick
warm_stage true true e f = refl
warm_stage true false e f = absurd (true≢false (sym f))
warm_stage false u e f = absurd (true≢false (sym e))

later_l : (t u : Bool) → t ≡ false → T (later (pick t (pick u Warm Secant) Secant))
unfolding pick
later_l true u e = absurd (true≢false e)
later_l false u e = tt

later_r : (t u : Bool) → u ≡ false → T (later (pick t (pick u Warm Secant) Secant))
unfolding pick
later_r true true e = absurd (true≢false e)
later_r true false e = tt
later_r false u e = tt

entry : (s : Settings) (d : Domain s) (h : List Conditional) (y : Search) → GoodCell (cell_in y) → FollowsFrom s (entered s y) h → T (is_end (request s (after_from s (entered s y) h)))
    → Ends s y.left.eta y.right.eta (cell_in y) (nearer (cell_in y)) h (after_from s (entered s y) h)
unfolding entered first_stage GoodCell
entry s d h y g f m =
    let l = y.left.eta in
    let r = y.right.eta in
    elim (or_not (lt l s.warm)) [
      | inr a ↦ trials s d l r h (entered s y) (later_l _ _ a) g f m
      | inl a ↦ elim (or_not (lt s.warm r)) [
        | inr b ↦ trials s d l r h (entered s y) (later_r _ _ b) g f m
        | inl b ↦ warm_trials_lem s d l r h (entered s y) (warm_stage _ _ a b) (of_true (lt l s.warm) a) (of_true (lt s.warm r) b) g f m
      ]
    ]

-- ---- on the grid no mode is told
no_mode : (t : Bool) (q r : Request Float) → T (not (is_end q)) → T (not (is_end r)) → T (not (is_end (pick t q r)))
unfolding pick
no_mode true q r a b = a
no_mode false q r a b = b

pub grid_no_mode : (s : Settings) (x : Search) → x.stage ≡ Grid → T (is_end (request s x)) → ⊥
unfolding request_at
grid_no_mode s x e m =
    T_not (is_end (request_at Grid s x))
    (no_mode (ltb x.count 17) (Point (grid_point s.eta_bound x.count)) (pick (le nought x.first) (Refused 13) (pick (is_under x.latest) (Refused 13) (Refused 14))) tt
    (no_mode (le nought x.first) (Refused 13) (pick (is_under x.latest) (Refused 13) (Refused 14)) tt (no_mode (is_under x.latest) (Refused 13) (Refused 14) tt tt)))
    (subst (λ (t : Stage). T (is_end (request_at t s x))) e m)

-- what is asked on the grid
pub grid_asked : (s : Settings) (x : Search) (c : Conditional) → x.stage ≡ Grid → Answers (request s x) c → (x.count < 17) × (c.eta ≡ grid_point s.eta_bound x.count)
unfolding request_at
grid_asked s x c e w =
    let a : request_at Grid s x ≡ Point c.eta = subst (λ (t : Stage). request_at t s x ≡ Point c.eta) e w.asked in
    let k = on_grid_lem s x (point_true (request_at Grid s x) c.eta a) in
    let p = pick_yes (ltb x.count 17) (Point (grid_point s.eta_bound x.count)) (pick (le nought x.first) (Refused 13) (pick (is_under x.latest) (Refused 13) (Refused 14)))
    (lt-ltb x.count 17 k) in
    (k, ap point_of (sym a ∙ p))

-- ---- the next search on the grid
pub next : (s : Settings) (x : Search) (c : Conditional) → x.stage ≡ Grid → x.count < 17 → advance s x c ≡ chosen s (screened x c)
unfolding advance_at
next s x c e k = ap (λ (t : Stage). advance_at t s x c) e ∙ pick_yes (ltb x.count 17) (chosen s (screened x c)) x (lt-ltb x.count 17 k)

pub stays : (s : Settings) (y : Search) → y.count < 17 → chosen s y ≡ y
unfolding chosen
stays s y h = pick_yes (ltb y.count 17) y _ (lt-ltb y.count 17 h)

pub stays_under : (s : Settings) (y : Search) → is_under y.latest ≡ true → chosen s y ≡ y
unfolding chosen
stays_under s y h = pick_same (ltb y.count 17) y _ (pick_same (le nought y.first) y _ (pick_yes (is_under y.latest) y _ h))

-- 13 by the first point, or 14
unfoldable pub Bad : Search → Type 0
Bad y = (le nought y.first ≡ true) ⊎ (y.fall ≡ true)

pub stays_bad : (s : Settings) (y : Search) → Bad y → chosen s y ≡ y
unfolding chosen Bad
stays_bad s y (inl h) = pick_same (ltb y.count 17) y _ (pick_yes (le nought y.first) y _ h)
stays_bad s y (inr h) = pick_same (ltb y.count 17) y _ (pick_same (le nought y.first) y _ (pick_same (is_under y.latest) y _ (pick_yes y.fall y _ h)))

pub enters : (s : Settings) (y : Search) → 17 ≤ y.count → le nought y.first ≡ false → is_under y.latest ≡ false → y.fall ≡ false → is_above y.right ≡ true → chosen s y ≡ entered s y
unfolding chosen
enters s y a b c e f =
    pick_no (ltb y.count 17) y _ (le-ltb y.count 17 a)
    ∙ pick_no (le nought y.first) y _ b
    ∙ pick_no (is_under y.latest) y _ c
    ∙ pick_no y.fall y _ e
    ∙ pick_yes (is_above y.right) (entered s y) y f

pub keeps_first : (x : Search) (c : Conditional) → 1 ≤ x.count → (screened x c).first ≡ x.first
unfolding screened first_score
keeps_first x c h = pick_no (eqb x.count 0) c.score x.first (ne_eqb x.count 0 (not_zero x.count h))
  where
    not_zero : (n : ℕ) → 1 ≤ n → n ≡ 0 → ⊥
    not_zero n h e = omega arith

pub keeps_bad : (x : Search) (c : Conditional) → 1 ≤ x.count → Bad x → Bad (screened x c)
unfolding Bad screened fell
keeps_bad x c h (inl e) = inl (ap (λ (v : Float). le nought v) (keeps_first x c h) ∙ e)
keeps_bad x c h (inr e) = inr (fell (is_above x.latest) (is_under c) x.fall e)
  where
    fell : (t u f : Bool) → f ≡ true → pick t (pick u true f) f ≡ true
    fell t u f e = elim (or_not t) [
      | inl a ↦ pick_yes t _ _ a ∙ elim (or_not u) [ inl b ↦ pick_yes u true f b | inr b ↦ pick_no u true f b ∙ e ]
      | inr a ↦ pick_no t _ _ a ∙ e
    ]

-- ---- a search that is bound for 13 or 14 never tells a mode
pub doomed : (s : Settings) (h : List Conditional) (x : Search) → x.stage ≡ Grid → 1 ≤ x.count → Bad x → FollowsFrom s x h → T (is_end (request s (after_from s x h))) → ⊥
unfolding Answered led_from
doomed s [] x e n b f m = grid_no_mode s x e m
doomed s (c ∷ h) x e n b f m =
    let b' : Bad (screened x c) = keeps_bad x c n b in
    let q : advance s x c ≡ screened x c = next s x c e (grid_asked s x c e f.0).0 ∙ stays_bad s (screened x c) b' in
    doomed s h (advance s x c) (subst (λ (v : Search). v.stage ≡ Grid) (sym q) (on x c)) (subst (λ (v : Search). 1 ≤ v.count) (sym q) (more x c)) (subst Bad (sym q) b') f.1 m
  where
    on : (x : Search) (c : Conditional) → (screened x c).stage ≡ Grid
    on x c = unfold screened in refl

    more : (x : Search) (c : Conditional) → 1 ≤ (screened x c).count
    more x c = unfold screened in omega arith

-- and so one that is on the grid with all points evaluated
stuck : (s : Settings) (h : List Conditional) (x : Search) → x.stage ≡ Grid → 17 ≤ x.count → FollowsFrom s x h → T (is_end (request s (after_from s x h))) → ⊥
unfolding Answered led_from
stuck s [] x e n f m = grid_no_mode s x e m
stuck s (c ∷ h) x e n f m = let k = (grid_asked s x c e f.0).0 in omega arith

-- ---- what is left of the grid: n points from the i-th on, after the point a, with the upward cells ks and no fall; then the trials from the cell k, to the search e
pub record Rest (s : Settings) (n i : ℕ) (a : Conditional) (ks : List Cell) (k : Cell) (h : List Conditional) (e : Search) : Type 0 where
  pub grid : etas (take n h) ≡ grid_from s.eta_bound n i
  pub rising : filter is_upward (neighbours_from a (take n h)) ≡ ks
  pub no_fall : filter is_fall (neighbours_from a (take n h)) ≡ []
  pub last_above : is_above (last_from a (take n h)) ≡ true
  pub ends : Ends s k.left.eta k.right.eta k (nearer k) (drop n h) e
  pub all_tried : request s e ≡ Refused 15 → length (drop n h) ≡ warm_trials s k + 16 + 48

-- the latest point lies above 0, and the cell is met
pub record Above (n : ℕ) (x : Search) : Type 0 where
  pub on_grid : x.stage ≡ Grid
  pub number : x.count + n ≡ 17
  pub some : 1 ≤ x.count
  pub first_below : le nought x.first ≡ false
  pub no_fall : x.fall ≡ false
  pub not_under : is_under x.latest ≡ false
  pub is_above : is_above x.latest ≡ true
  pub good : GoodCell (cell_in x)

-- the latest point lies at 0 or below, and no cell is met
pub record Below (s : Settings) (n : ℕ) (x : Search) : Type 0 where
  pub on_grid : x.stage ≡ Grid
  pub number : x.count + n ≡ 17
  pub j : ℕ
  pub before : j + 1 ≡ x.count
  pub first_below : le nought x.first ≡ false
  pub no_fall : x.fall ≡ false
  pub is_under : is_under x.latest ≡ true
  pub not_above : is_above x.latest ≡ false
  pub at : x.latest.eta ≡ grid_point s.eta_bound j
  pub score_number : T (num? x.latest.score)

-- two cells with equal ends
cell_eq : (l r l' r' : Conditional) → l ≡ l' → r ≡ r' → ◌≡◌ {A = Cell} (record { left = l; right = r }) (record { left = l'; right = r' })
cell_eq l r l' r' p q = ap (λ (v : Conditional). record { left = v; right = r }) p ∙ ap (λ (v : Conditional). record { left = l'; right = v }) q

-- ---- one more point above 0
pub above_cell : (x : Search) (c : Conditional) → is_under x.latest ≡ false → cell_in (screened x c) ≡ cell_in x
unfolding screened
above_cell x c e =
    let p : pick (is_under x.latest) (pick (is_above c) x.latest x.left) x.left ≡ x.left = pick_no (is_under x.latest) _ x.left e in
    let q : pick (is_under x.latest) (pick (is_above c) c x.right) x.right ≡ x.right = pick_no (is_under x.latest) _ x.right e in
    cell_eq _ _ _ _ p q

pub met_cell : (x : Search) (c : Conditional) → is_under x.latest ≡ true → is_above c ≡ true → cell_in (screened x c) ≡ record { left = x.latest; right = c }
unfolding screened
met_cell x c e a =
    let p : pick (is_under x.latest) (pick (is_above c) x.latest x.left) x.left ≡ x.latest = pick_yes (is_under x.latest) _ x.left e ∙ pick_yes (is_above c) x.latest x.left a in
    let q : pick (is_under x.latest) (pick (is_above c) c x.right) x.right ≡ c = pick_yes (is_under x.latest) _ x.right e ∙ pick_yes (is_above c) c x.right a in
    cell_eq _ _ _ _ p q

-- no fall where c lies above 0, or the latest point does not
no_fall_c : (x : Search) (c : Conditional) → x.fall ≡ false → is_under c ≡ false → (screened x c).fall ≡ false
unfolding screened fell
no_fall_c x c e u =
    elim (or_not (is_above x.latest)) [
      | inl a ↦ pick_yes (is_above x.latest) _ _ a ∙ pick_no (is_under c) true x.fall u ∙ e
      | inr a ↦ pick_no (is_above x.latest) _ _ a ∙ e
    ]

pub no_fall_l : (x : Search) (c : Conditional) → x.fall ≡ false → is_above x.latest ≡ false → (screened x c).fall ≡ false
unfolding screened fell
no_fall_l x c e a = pick_no (is_above x.latest) _ _ a ∙ e

falls : (x : Search) (c : Conditional) → is_above x.latest ≡ true → is_under c ≡ true → (screened x c).fall ≡ true
unfolding screened fell
falls x c a u = pick_yes (is_above x.latest) _ _ a ∙ pick_yes (is_under c) true x.fall u

pub bad_falls : (x : Search) (c : Conditional) → is_above x.latest ≡ true → is_under c ≡ true → Bad (screened x c)
unfolding Bad
bad_falls x c a u = inr (falls x c a u)

-- ---- what is left, one point earlier
module _ (s : Settings) (n i : ℕ) (a c : Conditional) (k : Cell) (h : List Conditional) (e : Search)
    (asked : c.eta ≡ grid_point s.eta_bound i) (falls : (is_above a ≡ false) ⊎ (is_under c ≡ false)) where
  -- the cell from a to c is `ks`: none, or itself
  earlier : (ks ls : List Cell) → filter is_upward (cell a c ∷ neighbours_from c (take n h)) ≡ ls → Rest s n (i + 1) c ks k h e → Rest s (suc n) i a ls k (c ∷ h) e
  unfolding etas neighbours_from last_from
  earlier ks ls u r = record {
    grid = ap (λ (v : Float). v ∷ etas (take n h)) asked ∙ ap (λ (l : List Float). grid_point s.eta_bound i ∷ l) r.grid ∙ grid_next s.eta_bound n i;
    rising = u;
    no_fall = filter_no is_fall (cell a c) _ (fall_is a c ∙ and_no _ _ falls) ∙ r.no_fall;
    last_above = r.last_above;
    ends = r.ends;
    all_tried = r.all_tried;
  }

  rest_on : (ks : List Cell) → (is_under a ≡ false) ⊎ (is_above c ≡ false) → Rest s n (i + 1) c ks k h e → Rest s (suc n) i a ks k (c ∷ h) e
  rest_on ks o r = earlier ks ks (filter_no is_upward (cell a c) _ (upward_is a c ∙ and_no _ _ o) ∙ r.rising) r

  rest_met : is_under a ≡ true → is_above c ≡ true → Rest s n (i + 1) c [] k h e → Rest s (suc n) i a (cell a c ∷ []) k (c ∷ h) e
  rest_met u v r = earlier [] (cell a c ∷ []) (filter_yes is_upward (cell a c) _ (upward_is a c ∙ and_yes _ _ u v) ∙ ap (λ (l : List Cell). cell a c ∷ l) r.rising) r

-- the search enters its trials
finish : (s : Settings) (d : Domain s) (h : List Conditional) (y z : Search) → z ≡ entered s y → GoodCell (cell_in y) → FollowsFrom s z h → T (is_end (request s (after_from s z h)))
    → Ends s y.left.eta y.right.eta (cell_in y) (nearer (cell_in y)) h (after_from s z h)
finish s d h y z e g =
    subst (λ (v : Search). FollowsFrom s v h → T (is_end (request s (after_from s v h))) → Ends s y.left.eta y.right.eta (cell_in y) (nearer (cell_in y)) h (after_from s v h)) (sym e)
    (λ (f : FollowsFrom s (entered s y) h) (m : T (is_end (request s (after_from s (entered s y) h)))). entry s d h y g f m)

finish_tried : (s : Settings) (h : List Conditional) (y z : Search) → z ≡ entered s y → FollowsFrom s z h → request s (after_from s z h) ≡ Refused 15 → length h ≡ warm_trials s (cell_in y) + 16 + 48
finish_tried s h y z e = subst (λ (v : Search). FollowsFrom s v h → request s (after_from s v h) ≡ Refused 15 → length h ≡ warm_trials s (cell_in y) + 16 + 48) (sym e) (all_tried_lem s h y)

-- ---- one more point keeps what holds above 0
pub above_next : (n : ℕ) (x : Search) (c : Conditional) → Above (suc n) x → is_above c ≡ true → is_under c ≡ false → Above n (screened x c)
above_next n x c a p u = record {
  on_grid = unfold screened in refl;
  number = unfold screened in let k = a.number in omega arith;
  some = unfold screened in omega arith;
  first_below = ap (λ (v : Float). le nought v) (keeps_first x c a.some) ∙ a.first_below;
  no_fall = no_fall_c x c a.no_fall u;
  not_under = unfold screened in u;
  is_above = unfold screened in p;
  good = subst GoodCell (sym (above_cell x c a.not_under)) a.good;
}

-- the first point above 0 makes the cell
new_cell : (s : Settings) (d : Domain s) (j i : ℕ) (l r : Conditional) → j ≤ i → i ≤ 16 → l.eta ≡ grid_point s.eta_bound j → r.eta ≡ grid_point s.eta_bound i → T (num? l.score) → T
    (num? r.score) → T (is_under l) → T (is_above r) → GoodCell (record { left = l; right = r })
unfolding GoodCell
new_cell s d j i l r h k p q nl nr ul ar =
    let low : T (le minus_edge l.eta) = subst (λ (v : Float). T (le minus_edge v)) (sym p) (grid_low s d j (omega arith)) in
    let high : T (le r.eta edge) = subst (λ (v : Float). T (le v edge)) (sym q) (grid_high s d i k) in
    let order : T (le l.eta r.eta) = subst (λ (v : Float). T (le v r.eta)) (sym p) (subst (λ (v : Float). T (le (grid_point s.eta_bound j) v)) (sym q) (grid_mono s d j i h k)) in
    let ll = le_refl_num l.eta (le_num_r minus_edge l.eta low) in
    let rr = le_refl_num r.eta (le_num_l r.eta edge high) in
    record {
      fits_l = subst (λ (v : Float). T (fits binary64 v)) (sym p) (grid_fits s d j);
      fits_r = subst (λ (v : Float). T (fits binary64 v)) (sym q) (grid_fits s d i);
      low = low;
      cell_l = ll;
      order = order;
      cell_r = rr;
      high = high;
      num_l = nl;
      num_r = nr;
      num_b = both (λ (v : Conditional). T (num? v.score)) (is_closer l r) nl nr;
      best_l = better_r r l nr nl;
      best_r = better_l r l nr;
      in_l = both (λ (v : Conditional). T (le l.eta v.eta)) (is_closer l r) ll order;
      in_r = both (λ (v : Conditional). T (le v.eta r.eta)) (is_closer l r) order rr;
      sign_l = ul;
      sign_r = ar;
    }

pub above_first : (s : Settings) (d : Domain s) (n : ℕ) (x : Search) (c : Conditional) → Below s (suc n) x → c.eta ≡ grid_point s.eta_bound x.count → T (num? c.score) → is_above c ≡ true →
    is_under c ≡ false → Above n (screened x c)
above_first s d n x c b e q p u =
    let k = b.number in
    let i = b.before in
    record {
      on_grid = unfold screened in refl;
      number = unfold screened in omega arith;
      some = unfold screened in omega arith;
      first_below = ap (λ (v : Float). le nought v) (keeps_first x c (omega arith)) ∙ b.first_below;
      no_fall = no_fall_c x c b.no_fall u;
      not_under = unfold screened in u;
      is_above = unfold screened in p;
      good = subst GoodCell (sym (met_cell x c b.is_under p)) (new_cell s d b.j x.count x.latest c (omega arith) (omega arith) b.at e b.score_number q
          (of_true (is_under x.latest) b.is_under) (of_true (is_above c) p));
    }

pub below_next : (s : Settings) (n : ℕ) (x : Search) (c : Conditional) → Below s (suc n) x → c.eta ≡ grid_point s.eta_bound x.count → T (num? c.score) → is_above c ≡ false → is_under c ≡ true
    → Below s n (screened x c)
below_next s n x c b e q p u =
    let k = b.number in
    let i = b.before in
    record {
      on_grid = unfold screened in refl;
      number = unfold screened in omega arith;
      j = x.count;
      before = unfold screened in refl;
      first_below = ap (λ (v : Float). le nought v) (keeps_first x c (omega arith)) ∙ b.first_below;
      no_fall = no_fall_l x c b.no_fall b.not_above;
      is_under = unfold screened in u;
      not_above = unfold screened in p;
      at = unfold screened in e;
      score_number = unfold screened in q;
    }

-- ---- to the end: once the cell is met, no other is
onward : (s : Settings) (d : Domain s) (n : ℕ) (h : List Conditional) (y z : Search) → Above n y → z ≡ chosen s y → FollowsFrom s z h → T (is_end (request s (after_from s z h)))
    → Rest s n y.count y.latest [] (cell_in y) h (after_from s z h)
unfolding Answered led_from screened
onward s d zero h y z a e f m =
    let k = a.number in
    let q : z ≡ entered s y = e ∙ enters s y (omega arith) a.first_below a.not_under a.no_fall (rises (cell_in y) a.good) in
    record {
      grid = unfold etas grid_from in refl;
      rising = unfold neighbours_from filter in refl;
      no_fall = unfold neighbours_from filter in refl;
      last_above = unfold last_from in a.is_above;
      ends = finish s d h y z q a.good f m;
      all_tried = finish_tried s h y z q f;
    }
onward s d (suc n) [] y z a e f m =
    let k = a.number in
    let q : z ≡ y = e ∙ stays s y (omega arith) in
    absurd (grid_no_mode s z (subst (λ (v : Search). v.stage ≡ Grid) (sym q) a.on_grid) m)
onward s d (suc n) (c ∷ h) y z a e f m =
    let k = a.number in
    let q : z ≡ y = e ∙ stays s y (omega arith) in
    let b : Above (suc n) z = subst (λ (v : Search). Above (suc n) v) (sym q) a in
    let w = grid_asked s z c b.on_grid f.0 in
    elim (side c f.0.score_number) [
      | inl p ↦
          let r : Rest s n (z.count + 1) c [] (cell_in (screened z c)) h (after_from s (advance s z c) h) =
          onward s d n h (screened z c) (advance s z c) (above_next n z c b p.0 p.1) (next s z c b.on_grid w.0) f.1 m in
          let r' = subst (λ (v : Cell). Rest s n (z.count + 1) c [] v h (after_from s (advance s z c) h)) (above_cell z c b.not_under) r in
          subst (λ (v : Search). Rest s (suc n) v.count v.latest [] (cell_in v) (c ∷ h) (after_from s (advance s z c) h)) q
          (rest_on s n z.count z.latest c (cell_in z) h (after_from s (advance s z c) h) w.1 (inr p.1) [] (inl b.not_under) r')
      | inr p ↦
          let bad : Bad (screened z c) = bad_falls z c b.is_above p.1 in
          let g : advance s z c ≡ screened z c = next s z c b.on_grid w.0 ∙ stays_bad s (screened z c) bad in
          absurd (doomed s h (advance s z c) (subst (λ (v : Search). v.stage ≡ Grid) (sym g) refl) (subst (λ (v : Search). 1 ≤ v.count) (sym g) (omega arith)) (subst Bad (sym g) bad) f.1 m)
    ]

-- until the cell is met
pub climbing : (s : Settings) (d : Domain s) (n : ℕ) (h : List Conditional) (x : Search) → Below s n x → FollowsFrom s x h → T (is_end (request s (after_from s x h)))
    → (k : Cell) × Rest s n x.count x.latest (k ∷ []) k h (after_from s x h)
unfolding Answered led_from screened
climbing s d zero h x b f m = let k = b.number in absurd (stuck s h x b.on_grid (omega arith) f m)
climbing s d (suc n) [] x b f m = absurd (grid_no_mode s x b.on_grid m)
climbing s d (suc n) (c ∷ h) x b f m =
    let w = grid_asked s x c b.on_grid f.0 in
    let y = advance s x c in
    let z = after_from s y h in
    elim (side c f.0.score_number) [
      | inl p ↦
          let r : Rest s n (x.count + 1) c [] (cell_in (screened x c)) h z =
          onward s d n h (screened x c) y (above_first s d n x c b w.1 f.0.score_number p.0 p.1) (next s x c b.on_grid w.0) f.1 m in
          let r' = subst (λ (v : Cell). Rest s n (x.count + 1) c [] v h z) (met_cell x c b.is_under p.0) r in
          (cell x.latest c, rest_met s n x.count x.latest c (cell x.latest c) h z w.1 (inl b.not_above) b.is_under p.0 r')
      | inr p ↦
          let g : y ≡ screened x c = next s x c b.on_grid w.0 ∙ stays_under s (screened x c) p.1 in
          let r = climbing s d n h y (subst (λ (v : Search). Below s n v) (sym g) (below_next s n x c b w.1 f.0.score_number p.0 p.1)) f.1 m in
          let r' : Rest s n (x.count + 1) c (r.0 ∷ []) r.0 h z = subst (λ (v : Search). Rest s n v.count v.latest (r.0 ∷ []) r.0 h z) g r.1 in
          (r.0, rest_on s n x.count x.latest c r.0 h z w.1 (inl b.not_above) (r.0 ∷ []) (inr p.0) r')
    ]
