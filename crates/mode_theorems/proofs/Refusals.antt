-- What 13 and 14 say of the history: the whole grid was asked, and nothing more. There is no number but these and 15. Assumes nothing.
use mathlib.Core.Path.{◌≡◌, refl, sym, ap, ◌∙◌, subst}
use mathlib.Core.Logic.{◌⊎◌, inl, inr}
use mathlib.Core.Bool.{Bool, true, false, not, true≢false}
use mathlib.Core.List.{List, [], ◌∷◌, Memᴰ}
use Prim.Native.Nat.{ℕ, zero, suc, ◌+◌, ◌≤◌, ◌<◌}
use native.Mathlib.Omega.{arith}
use lib.Dec.{T, T_not, ltb, eqb, lit<, lit≤}
use lib.Ieee.{Float, of_bits, lt, le}
use borrow.Author.Tests.{lt-ltb, le-ltb}
use Rattle.float64.specs.Pick.{pick, both, pick_yes, pick_no}
use Rattle.mode.specs.declared.population_focei.Settings.{Settings}
use Rattle.mode.specs.declared.population_focei.Conditional.{Conditional}
use Rattle.mode.specs.declared.population_focei.Stage.{Stage}
use Rattle.mode.specs.declared.population_focei.Stage.TheVariants.{Grid, Warm, Secant, Halving}
use Rattle.mode.specs.declared.population_focei.Search.{Search}
use Rattle.mode.specs.Rules.{nought, request_at, request, advance_at, advance, screened, fell, first_score, first_stage, entered, chosen, tried, start, grid_point, settled, is_above, is_under}
use Rattle.mode_theorems.specs.Histories.{led_from, Answered}
use Rattle.mode_theorems.specs.Terms.{etas, grid_from, score_at, Cell, neighbours_from, neighbours, filter, is_fall}
use Rattle.mode_theorems.specs.History.{FollowsFrom, Follows, after_from, after}
use Rattle.mode_theorems.specs.Claim.{AtBound, Several}
use Rattle.float64.proofs.Order.{num?, lt→le, of_true}
use Rattle.mode_theorems.proofs.Words.{cell, grid_next, under_is, fall_is, and_yes, filter_yes, last_from, last_is, grid_length, over}
use Rattle.mode_theorems.proofs.Trials.{nought_num, is_mode, is_point}
use Rattle.mode_theorems.proofs.Screen.{next, grid_asked, keeps_first, side, or_not, true_of}
use Rattle.mode.specs.declared.Request.{Request}
use Rattle.mode.specs.declared.Request.TheVariants.{Point, Mode, Refused}

-- ---- 13 or 14
abbrev is_screen : Request Float → Bool
is_screen (Point p) = false
is_screen Mode = false
is_screen (Refused n) = not (eqb n 15)

-- once past the grid, neither is told
abbrev past_grid : Stage → Bool
past_grid Grid = false
past_grid Warm = true
past_grid Secant = true
past_grid Halving = true

past_no_screen : (st : Stage) (s : Settings) (x : Search) → T (past_grid st) → T (not (is_screen (request_at st s x)))
unfolding request_at
past_no_screen Grid s x p = absurd p
past_no_screen Warm s x p = tt
past_no_screen Secant s x p = both (λ (q : Request Float). T (not (is_screen q))) _ tt tt
past_no_screen Halving s x p = both (λ (q : Request Float). T (not (is_screen q))) _ tt (both (λ (q : Request Float). T (not (is_screen q))) _ tt tt)

past_stays : (st : Stage) (s : Settings) (x : Search) (c : Conditional) → st ≡ x.stage → T (past_grid st) → T (past_grid (advance_at st s x c).stage)
unfolding advance_at tried
past_stays Grid s x c e p = absurd p
past_stays Warm s x c e p = tt
past_stays Secant s x c e p = both (λ (y : Search). T (past_grid y.stage)) _ tt tt
past_stays Halving s x c e p = both (λ (y : Search). T (past_grid y.stage)) _ tt (subst (λ (t : Stage). T (past_grid t)) e tt)

past : (s : Settings) (h : List Conditional) (x : Search) → T (past_grid x.stage) → T (is_screen (request s (after_from s x h))) → ⊥
unfolding led_from
past s [] x p q = T_not (is_screen (request s x)) (past_no_screen x.stage s x p) q
past s (c ∷ h) x p q = past s h (advance s x c) (past_stays x.stage s x c refl p) q

entered_past : (s : Settings) (y : Search) → T (past_grid (entered s y).stage)
unfolding entered first_stage
entered_past s y = both (λ (t : Stage). T (past_grid t)) _ (both (λ (t : Stage). T (past_grid t)) _ tt tt) tt

-- ---- why a search with all 17 points stays on the grid
Why : Search → Type 0
Why y = (le nought y.first ≡ true) ⊎ (is_under y.latest ≡ true) ⊎ (y.fall ≡ true) ⊎ (is_above y.right ≡ false)

chosen_cases : (s : Settings) (y : Search) → ((chosen s y ≡ y) × (17 ≤ y.count → Why y)) ⊎ (chosen s y ≡ entered s y)
unfolding chosen Why pick
chosen_cases s y = go (ltb y.count 17) (le nought y.first) (is_under y.latest) y.fall (is_above y.right) refl refl refl refl refl
  where
    full : (i : ℕ) → 17 ≤ i → ltb i 17 ≡ true → ⊥
    full i h e = true≢false (sym e ∙ le-ltb i 17 h)

    go : (a b c d r : Bool) → ltb y.count 17 ≡ a → le nought y.first ≡ b → is_under y.latest ≡ c → y.fall ≡ d → is_above y.right ≡ r →
        ((pick a y (pick b y (pick c y (pick d y (pick r (entered s y) y)))) ≡ y)
        × (17 ≤ y.count → (le nought y.first ≡ true) ⊎ (is_under y.latest ≡ true) ⊎ (y.fall ≡ true) ⊎ (is_above y.right ≡ false)))
        ⊎ (pick a y (pick b y (pick c y (pick d y (pick r (entered s y) y)))) ≡ entered s y)
    go true b c d r p q u t v = inl (refl, λ h. absurd (full y.count h p))
    go false true c d r p q u t v = inl (refl, λ h. inl q)
    go false false true d r p q u t v = inl (refl, λ h. inr (inl u))
    go false false false true r p q u t v = inl (refl, λ h. inr (inr (inl t)))
    go false false false false false p q u t v = inl (refl, λ h. inr (inr (inr v)))
    go false false false false true p q u t v = inr refl

-- where the scores are numbers, a latest point above 0 has a cell before it, or the first point was above 0 too
Rose : Search → Type 0
Rose x = (is_under x.latest ≡ true) ⊎ (is_above x.right ≡ true) ⊎ (le nought x.first ≡ true)

rose_step : (x : Search) (c : Conditional) → 1 ≤ x.count → T (num? c.score) → Rose x → Rose (screened x c)
unfolding Rose screened
rose_step x c k n r =
    elim (side c n) [
      | inr p ↦ inl p.1
      | inl p ↦ elim (or_not (is_under x.latest)) [
        | inl u ↦ inr (inl (ap is_above (pick_yes (is_under x.latest) _ x.right u ∙ pick_yes (is_above c) c x.right p.0) ∙ p.0))
        | inr u ↦
            let same = pick_no (is_under x.latest) (pick (is_above c) c x.right) x.right u in
            elim r [
              | inl q ↦ absurd (true≢false (sym q ∙ u))
              | inr q ↦ elim q [
                | inl v ↦ inr (inl (ap is_above same ∙ v))
                | inr v ↦ inr (inr (ap (λ (z : Float). le nought z) (keeps_first x c k) ∙ v))
              ]
            ]
      ]
    ]

-- between two neighbours the score falls from above 0 to 0 or below
unfoldable falls_from : Conditional → List Conditional → Bool
falls_from a [] = false
falls_from a (b ∷ t) = pick (is_above a) (pick (is_under b) true (falls_from b t)) (falls_from b t)

unfoldable falls_in : List Conditional → Bool
falls_in [] = false
falls_in (a ∷ t) = falls_from a t

-- such a fall is one of the claim's
Fall : List Cell → Type 0
Fall l = (k : Cell) × Memᴰ k (filter is_fall l)

fall_from : (a : Conditional) (t : List Conditional) → T (falls_from a t) → Fall (neighbours_from a t)
unfolding falls_from neighbours_from Fall filter pick
fall_from a [] h = absurd h
fall_from a (b ∷ t) h = go (is_above a) (is_under b) refl refl (fall_from b t) h
  where
    later : Fall (neighbours_from b t) → Fall (cell a b ∷ neighbours_from b t)
    later w = (w.0, both (λ (l : List Cell). Memᴰ w.0 l) (is_fall (cell a b)) (Memᴰ.tail w.1) w.1)

    go : (p q : Bool) → is_above a ≡ p → is_under b ≡ q → (T (falls_from b t) → Fall (neighbours_from b t))
        → T (pick p (pick q true (falls_from b t)) (falls_from b t)) → Fall (cell a b ∷ neighbours_from b t)
    go true true u v f h =
        let e = filter_yes is_fall (cell a b) (neighbours_from b t) (fall_is a b ∙ and_yes _ _ u v) in
        (cell a b, subst (λ (l : List Cell). Memᴰ (cell a b) l) (sym e) (Memᴰ.head refl))
    go true false u v f h = later (f h)
    go false q u v f h = later (f h)

fall_in : (h : List Conditional) → T (falls_in h) → Fall (neighbours h)
unfolding falls_in neighbours
fall_in [] h = absurd h
fall_in (a ∷ t) h = fall_from a t h

-- ---- the rest of the grid, from a search x that has some points of it: n more points, to y
record Run (s : Settings) (n : ℕ) (x : Search) (h : List Conditional) (y : Search) : Type 0 where
  pub grid : etas h ≡ grid_from s.eta_bound n x.count
  pub stage : y.stage ≡ Grid
  pub full : 17 ≤ y.count
  pub first : y.first ≡ x.first
  pub latest : y.latest ≡ last_from x.latest h
  pub fall : y.fall ≡ pick (falls_from x.latest h) true x.fall
  pub why : Why y
  pub rose : Rose y
  pub latest_number : T (num? y.latest.score)

fall_step : (a u f g : Bool) → pick f true (pick a (pick u true g) g) ≡ pick (pick a (pick u true f) f) true g
unfolding pick
fall_step true true true g = refl
fall_step true true false g = refl
fall_step true false true g = refl
fall_step true false false g = refl
fall_step false u true g = refl
fall_step false u false g = refl

run_step : (s : Settings) (n : ℕ) (x : Search) (c : Conditional) (h : List Conditional) (y : Search) → 1 ≤ x.count → c.eta ≡ grid_point s.eta_bound x.count → Run s n (screened x c) h y → Run
    s (suc n) x (c ∷ h) y
unfolding etas last_from falls_from screened fell
run_step s n x c h y k e r =
    record {
      grid = ap (λ (v : Float). v ∷ etas h) e ∙ ap (λ (l : List Float). grid_point s.eta_bound x.count ∷ l) r.grid ∙ grid_next s.eta_bound n x.count;
      stage = r.stage;
      full = r.full;
      first = r.first ∙ keeps_first x c k;
      latest = r.latest;
      fall = r.fall ∙ fall_step (is_above x.latest) (is_under c) (falls_from c h) x.fall;
      why = r.why;
      rose = r.rose;
      latest_number = r.latest_number;
    }

grid_not_screen : (s : Settings) (x : Search) → x.stage ≡ Grid → x.count < 17 → T (is_screen (request s x)) → ⊥
unfolding request_at
grid_not_screen s x e k q =
    subst (λ (r : Request Float). T (is_screen r)) (ap (λ (t : Stage). request_at t s x) e ∙ pick_yes (ltb x.count 17) _ _ (lt-ltb x.count 17 k)) q

run : (s : Settings) (n : ℕ) (h : List Conditional) (x : Search) → x.stage ≡ Grid → 1 ≤ x.count → x.count + n ≡ 17 → (17 ≤ x.count → Why x) → Rose x
    → T (num? x.latest.score) → FollowsFrom s x h → T (is_screen (request s (after_from s x h))) → Run s n x h (after_from s x h)
unfolding Answered led_from etas grid_from last_from falls_from pick
run s zero [] x e k i w o l f q = record { rose = o; latest_number = l; grid = refl; stage = e; full = omega arith; first = refl; latest = refl; fall = refl; why = w (omega arith) }
run s zero (c ∷ h) x e k i w o l f q = let j = (grid_asked s x c e f.0).0 in absurd (omega arith)
run s (suc n) [] x e k i w o l f q = absurd (grid_not_screen s x e (omega arith) q)
run s (suc n) (c ∷ h) x e k i w o l f q =
    let a = grid_asked s x c e f.0 in
    let y = screened x c in
    elim (chosen_cases s y) [
      | inl p ↦
          let g : advance s x c ≡ y = next s x c e a.0 ∙ p.0 in
          let f' : FollowsFrom s y h = subst (λ (v : Search). FollowsFrom s v h) g f.1 in
          let q' : T (is_screen (request s (after_from s y h))) = subst (λ (v : Search). T (is_screen (request s (after_from s v h)))) g q in
          let r = run s n h y (on x c) (more x c) (count x c n i) p.1 (rose_step x c k f.0.score_number o) (latest x c f.0.score_number) f' q' in
          run_step s n x c h (after_from s (advance s x c) h) k a.1 (subst (λ (v : Search). Run s n y h (after_from s v h)) (sym g) r)
      | inr p ↦
          let g : advance s x c ≡ entered s y = next s x c e a.0 ∙ p in
          absurd (past s h (advance s x c) (subst (λ (v : Search). T (past_grid v.stage)) (sym g) (entered_past s y)) q)
    ]
  where
    on : (x : Search) (c : Conditional) → (screened x c).stage ≡ Grid
    on x c = unfold screened in refl

    more : (x : Search) (c : Conditional) → 1 ≤ (screened x c).count
    more x c = unfold screened in omega arith

    latest : (x : Search) (c : Conditional) → T (num? c.score) → T (num? (screened x c).latest.score)
    latest x c h = unfold screened in h

    count : (x : Search) (c : Conditional) (n : ℕ) → x.count + suc n ≡ 17 → (screened x c).count + n ≡ 17
    count x c n i = unfold screened in omega arith

-- ---- the whole grid
record Whole (s : Settings) (h : List Conditional) (y : Search) : Type 0 where
  pub grid : etas h ≡ grid_from s.eta_bound 17 0
  pub stage : y.stage ≡ Grid
  pub full : 17 ≤ y.count
  pub first : y.first ≡ score_at h 0
  pub first_number : T (num? y.first)
  pub latest : y.latest.score ≡ score_at h 16
  pub latest_number : T (num? y.latest.score)
  pub fall : y.fall ≡ falls_in h
  pub why : Why y
  pub rose : Rose y

pick_true : (b : Bool) → pick b true false ≡ b
unfolding pick
pick_true true = refl
pick_true false = refl

whole_of : (s : Settings) (c : Conditional) (h : List Conditional) (y : Search) → c.eta ≡ grid_point s.eta_bound 0 → T (num? c.score) → Run s 16 (screened start c) h y → Whole s (c ∷ h) y
unfolding etas score_at falls_in screened fell first_score start is_above pick of_bits lt
whole_of s c h y e n r =
    record {
      grid = ap (λ (v : Float). v ∷ etas h) e ∙ ap (λ (l : List Float). grid_point s.eta_bound 0 ∷ l) r.grid ∙ grid_next s.eta_bound 16 0;
      stage = r.stage;
      full = r.full;
      first = r.first;
      first_number = subst (λ (v : Float). T (num? v)) (sym r.first) n;
      latest = ap (λ (v : Conditional). v.score) r.latest ∙ last_is c h ∙ ap (λ (i : ℕ). score_at (c ∷ h) i) (grid_length s.eta_bound 16 1 h r.grid);
      latest_number = r.latest_number;
      fall = r.fall ∙ pick_true (falls_from c h);
      why = r.why;
      rose = r.rose;
    }

rose_first : (c : Conditional) → T (num? c.score) → Rose (screened start c)
unfolding Rose screened first_score start pick
rose_first c n =
    elim (side c n) [
      | inr p ↦ inl p.1
      | inl p ↦ inr (inr (true_of (le nought c.score) (above_le c (of_true (is_above c) p.0))))
    ]
  where
    above_le : (c : Conditional) → T (is_above c) → T (le nought c.score)
    above_le c h = lt→le nought c.score (unfold is_above in h)

whole : (s : Settings) (h : List Conditional) → Follows s h → T (is_screen (request s (after s h))) → Whole s h (after s h)
unfolding Answered led_from
whole s [] f q = absurd (grid_not_screen s start (unfold start in refl) (unfold start in lit< tt) q)
whole s (c ∷ h) f q =
    let e : start.stage ≡ Grid = unfold start in refl in
    let a = grid_asked s start c e f.0 in
    let y = screened start c in
    elim (chosen_cases s y) [
      | inl p ↦
          let g : advance s start c ≡ y = next s start c e a.0 ∙ p.0 in
          let f' : FollowsFrom s y h = subst (λ (v : Search). FollowsFrom s v h) g f.1 in
          let q' : T (is_screen (request s (after_from s y h))) = subst (λ (v : Search). T (is_screen (request s (after_from s v h)))) g q in
          let number : T (num? y.latest.score) = unfold screened in f.0.score_number in
          let r = run s 16 h y (unfold screened in refl) (unfold screened start in lit≤ tt) (unfold screened start in refl) p.1 (rose_first c f.0.score_number) number f' q' in
          whole_of s c h (after_from s (advance s start c) h) (a.1 ∙ (unfold start in refl)) f.0.score_number (subst (λ (v : Search). Run s 16 y h (after_from s v h)) (sym g) r)
      | inr p ↦
          let g : advance s start c ≡ entered s y = next s start c e a.0 ∙ p in
          absurd (past s h (advance s start c) (subst (λ (v : Search). T (past_grid v.stage)) (sym g) (entered_past s y)) q)
    ]

-- ---- what is told at its end
told : (s : Settings) (y : Search) (r : Request Float) → y.stage ≡ Grid → 17 ≤ y.count → request s y ≡ r → pick (le nought y.first) (Refused 13) (pick (is_under y.latest) (Refused 13) (Refused 14)) ≡
    r
unfolding request_at
told s y r e k q = sym (ap (λ (t : Stage). request_at t s y) e ∙ pick_no (ltb y.count 17) _ _ (le-ltb y.count 17 k)) ∙ q

number_of : Request Float → ℕ
number_of (Point p) = 0
number_of Mode = 0
number_of (Refused n) = n

apart : {X : Type 0} → ◌≡◌ {A = Request Float} (Refused 13) (Refused 14) → X
unfolding number_of
apart e = let n : ◌≡◌ {A = ℕ} 13 14 = ap number_of e in absurd (omega arith)

by_13 : (a b : Bool) → ◌≡◌ {A = Request Float} (pick a (Refused 13) (pick b (Refused 13) (Refused 14))) (Refused 13) → T a ⊎ T b
unfolding pick
by_13 true b e = inl tt
by_13 false true e = inr tt
by_13 false false e = apart (sym e)

by_14 : (a b : Bool) → ◌≡◌ {A = Request Float} (pick a (Refused 13) (pick b (Refused 13) (Refused 14))) (Refused 14) → T (not a) × T (not b)
unfolding pick
by_14 true b e = apart e
by_14 false true e = apart e
by_14 false false e = (tt, tt)

screen : (q : Request Float) (n : ℕ) → T (not (eqb n 15)) → q ≡ Refused n → T (is_screen q)
screen q n k e = subst (λ (r : Request Float). T (is_screen r)) (sym e) k

pub at_bound : (s : Settings) (h : List Conditional) → Follows s h → request s (after s h) ≡ Refused 13 → AtBound s h
at_bound s h f e =
    let w = whole s h f (screen (request s (after s h)) 13 tt e) in
    let t = by_13 _ _ (told s (after s h) (Refused 13) w.stage w.full e) in
    record {
      is_grid = w.grid;
      ends = elim t [
        | inl p ↦ inl (subst (λ (v : Float). T (le nought v)) w.first p)
        | inr p ↦ inr (subst (λ (v : Float). T (le v nought)) w.latest (subst T (under_is (after s h).latest) p))
      ];
    }

-- a grid with good ends has a cell
no_rise : (y : Search) → is_above y.right ≡ false → Rose y → T (not (le nought y.first)) → T (not (is_under y.latest)) → ⊥
unfolding Rose
no_rise y v (inl p) a b = T_not (is_under y.latest) b (subst T (sym p) tt)
no_rise y v (inr (inl p)) a b = true≢false (sym p ∙ v)
no_rise y v (inr (inr p)) a b = T_not (le nought y.first) a (subst T (sym p) tt)

-- a test that fails
not_so : (b : Bool) → T (not b) → b ≡ false
not_so true h = absurd h
not_so false h = refl

pub several : (s : Settings) (h : List Conditional) → Follows s h → request s (after s h) ≡ Refused 14 → Several s h
unfolding Why Fall
several s h f e =
    let y = after s h in
    let w = whole s h f (screen (request s y) 14 tt e) in
    let t = by_14 _ _ (told s y (Refused 14) w.stage w.full e) in
    let fell : T y.fall = elim w.why [
      | inl p ↦ absurd (T_not (le nought y.first) t.0 (subst T (sym p) tt))
      | inr p ↦ elim p [
        | inl q ↦ absurd (T_not (is_under y.latest) t.1 (subst T (sym q) tt))
        | inr q ↦ elim q [ inl v ↦ subst T (sym v) tt | inr v ↦ absurd (no_rise y v w.rose t.0 t.1) ]
      ]
    ] in
    let k = fall_in h (subst T w.fall fell) in
    record {
      is_grid = w.grid;
      first_below = subst (λ (v : Float). T (lt v nought)) w.first (over nought y.first nought_num w.first_number (not_so _ t.0));
      last_above = subst (λ (v : Float). T (lt nought v)) w.latest (over y.latest.score nought w.latest_number nought_num (sym (under_is y.latest) ∙ not_so _ t.1));
      fall = k.0;
      is_fall = k.1;
    }

-- ---- no other number
abbrev Numbered : ℕ → Request Float → Type 0
Numbered n q = q ≡ Refused n → (n ≡ 13) ⊎ ((n ≡ 14) ⊎ (n ≡ 15))

point_none : (n : ℕ) (p : Float) → Numbered n (Point p)
point_none n p e = absurd (true≢false (ap is_point e))

mode_none : (n : ℕ) → Numbered n Mode
mode_none n e = absurd (true≢false (ap is_mode e))

numbered : (n k : ℕ) → ◌≡◌ {A = Request Float} (Refused k) (Refused n) → n ≡ k
unfolding number_of
numbered n k e = sym (ap number_of e)

numbers_at : (st : Stage) (s : Settings) (x : Search) (n : ℕ) → Numbered n (request_at st s x)
unfolding request_at
numbers_at Grid s x n =
    both (Numbered n) (ltb x.count 17) (point_none n _)
    (both (Numbered n) (le nought x.first) (λ e. inl (numbered n 13 e)) (both (Numbered n) (is_under x.latest) (λ e. inl (numbered n 13 e)) (λ e. inr (inl (numbered n 14 e)))))
numbers_at Warm s x n = point_none n s.warm
numbers_at Secant s x n = both (Numbered n) (settled s x.best x.left x.right) (mode_none n) (point_none n _)
numbers_at Halving s x n = both (Numbered n) (settled s x.best x.left x.right) (mode_none n) (both (Numbered n) (ltb x.count 48) (point_none n _) (λ e. inr (inr (numbered n 15 e))))

pub numbers : (s : Settings) (x : Search) (n : ℕ) → Numbered n (request s x)
numbers s x n = numbers_at x.stage s x n
