-- The rows that a search carries from block to block are those of its trials: block 0 has the rows at eta zero, block 1 those of the best point, and with two effects block 2 those of the current one.
-- Assumes nothing.
use mathlib.Core.Path.{◌≡◌, refl, sym, ap, subst, ◌∙◌}
use mathlib.Core.Bool.{Bool, true, false}
use mathlib.Core.List.Memᴰ
use mathlib.Core.List.{List, [], ◌∷◌, ◌++◌, Memᴰ}
use mathlib.Core.Logic.{◌⊎◌, inl, inr, ⊎_elim}
use Prim.Native.Nat.{ℕ, zero, suc, ◌+◌, ◌≤◌, ◌<◌}
use native.Mathlib.Omega.{arith}
use borrow.Author.Tests.{lt-ltb, le-ltb, ltb-true, eqb-true, eqb-false, eq-eqb, ne_eqb}
use lib.Dec.{T, ltb, eqb}
use lib.ListN.{length, length-append}
use lib.Ieee.{Float, of_bits, lt, le}
use Rattle.float64.specs.Pick.{pick, both, cases, pick_yes, pick_no}
use Rattle.float64.proofs.Order.{lt→le}
use Rattle.matrix.specs.Matrix.{Inverse, some, none, inverse_positive}
use Rattle.matrix.specs.declared.Pair.{Pair}
use Rattle.mode.specs.Rules as R1
use Rattle.mode.specs.Rules.{nought, is_above, is_under, is_closer}
use Rattle.mode.specs.declared.population_focei.Settings.{Settings}
use Rattle.mode.specs.declared.population_focei.Conditional.{Conditional}
use Rattle.mode.specs.declared.population_focei.Stage.{Stage}
use Rattle.mode.specs.declared.population_focei.Stage.TheVariants.{Grid, Warm, Secant, Halving}
use Rattle.mode.specs.declared.population_focei.Search.{Search}
use Rattle.mode_2d.specs.Rules as R2
use Rattle.mode_2d.specs.declared.population_focei_2d.Settings2.{Settings2}
use Rattle.mode_2d.specs.declared.population_focei_2d.Conditional2.{Conditional2}
use Rattle.mode_2d.specs.declared.population_focei_2d.NewtonStep.{NewtonStep}
use Rattle.mode_2d.specs.declared.population_focei_2d.Stage2.{Stage2}
use Rattle.mode_2d.specs.declared.population_focei_2d.Stage2.TheVariants as S2
use Rattle.mode_2d.specs.declared.population_focei_2d.Search2.{Search2}
use Rattle.work.specs.declared.Sources.{Sources}
use Rattle.search.specs.Subjects as B
use Rattle.machine.specs.Rules.{Rules, Trial}
use Rattle.session_theorems.specs.Inner.{rules1, rules2}
use Rattle.session_theorems.specs.Shown.{Nth}
use Rattle.session_theorems.proofs.Blocks.{From, stays, later, from_most}
use Rattle.session_theorems.proofs.Plain.{split}
use Rattle.mode.specs.declared.Request.TheVariants as Asks

-- ---- trials and their rows
module _ (R : Rules) where
  -- one of the trials is of this point and has these rows
  pub record Has (ts : List (Trial R)) (c : R.Conditional) (rows : List ℕ) : Type 0 where
    pub trial : Trial R
    pub tried : Memᴰ trial ts
    pub point_is : trial.point ≡ c
    pub rows_are : trial.rows ≡ rows

  -- the n-th is of a point of which Z holds, and has these rows
  pub record NthHas (Z : R.Conditional → Type 0) (n : ℕ) (ts : List (Trial R)) (rows : List ℕ) : Type 0 where
    pub trial : Trial R
    pub nth : Nth n ts trial
    pub holds : Z trial.point
    pub rows_are : trial.rows ≡ rows

  has_more : {ts : List (Trial R)} {c : R.Conditional} {rows : List ℕ} (t : Trial R) → Has ts c rows → Has (ts ++ (t ∷ [])) c rows
  has_more t h = record { trial = h.trial; tried = Memᴰ.append_left (t ∷ []) h.tried; point_is = h.point_is; rows_are = h.rows_are }

  has_last : (ts : List (Trial R)) (t : Trial R) (c : R.Conditional) (rows : List ℕ) → t.point ≡ c → t.rows ≡ rows → Has (ts ++ (t ∷ [])) c rows
  has_last ts t c rows p r = record { trial = t; tried = Memᴰ.append_right ts (Memᴰ.head refl); point_is = p; rows_are = r }

  has_pick : (ts : List (Trial R)) (z : Bool) {p q : R.Conditional} (rows : ℕ → List ℕ) (i j : ℕ) → (z ≡ true → Has ts p (rows i)) → (z ≡ false → Has ts q (rows j)) → Has ts (pick z p q)
      (rows (pick z i j))
  unfolding pick
  has_pick ts true rows i j f g = f refl
  has_pick ts false rows i j f g = g refl

  nth_more : (n : ℕ) (ts : List (Trial R)) (t z : Trial R) → Nth n ts z → Nth n (ts ++ (t ∷ [])) z
  unfolding Nth
  nth_more n [] t z h = absurd h
  nth_more zero (u ∷ ts) t z h = h
  nth_more (suc n) (u ∷ ts) t z h = nth_more n ts t z h

  nth_last : (n : ℕ) (ts : List (Trial R)) (t : Trial R) → length ts ≡ n → Nth n (ts ++ (t ∷ [])) t
  unfolding Nth
  nth_last zero [] t e = refl
  nth_last (suc n) [] t e = absurd (omega (arith, e))
  nth_last zero (u ∷ ts) t e = absurd (omega (arith, e))
  nth_last (suc n) (u ∷ ts) t e = nth_last n ts t (omega (arith, e))

  nth_has_more : {Z : R.Conditional → Type 0} {n : ℕ} {ts : List (Trial R)} {rows : List ℕ} (t : Trial R) → NthHas Z n ts rows → NthHas Z n (ts ++ (t ∷ [])) rows
  nth_has_more {Z} {n} {ts} t h = record { trial = h.trial; nth = nth_more n ts t h.trial h.nth; holds = h.holds; rows_are = h.rows_are }

  pub nth_so : {Z Y : R.Conditional → Type 0} {n : ℕ} {ts : List (Trial R)} {rows : List ℕ} → NthHas Z n ts rows → ((c : R.Conditional) → Z c → Y c) → NthHas Y n ts rows
  nth_so h f = record { trial = h.trial; nth = h.nth; holds = f h.trial.point h.holds; rows_are = h.rows_are }

-- ---- one effect
abbrev pub Trial1 : Type 0
Trial1 = Trial rules1

abbrev pub closest : Conditional → Conditional → Conditional
closest left right = pick (is_closer left right) left right

-- the middle of the grid
abbrev pub Middle : Settings → Conditional → Type 0
Middle s c = c.eta ≡ R1.grid_point s.eta_bound 8

-- the rows of the blocks are given by their numbers
pub record OnGrid (s : Settings) (ts : List Trial1) (x : Search) (rows : ℕ → List ℕ) : Type 0 where
  pub count : length ts ≡ x.count
  pub begun : x.count ≡ 0 → x ≡ R1.start
  pub zero : 8 < x.count → NthHas rules1 (Middle s) 8 ts (rows 0)
  pub latest : 0 < x.count → Has rules1 ts x.latest (rows 2)
  -- a first score above 0 gets 13
  pub best : is_above x.right ≡ true → (lt nought x.first ≡ true) ⊎ Has rules1 ts (closest x.left x.right) (rows 1)

pub record Past (s : Settings) (ts : List Trial1) (x : Search) (rows : ℕ → List ℕ) : Type 0 where
  pub zero : NthHas rules1 (Middle s) 8 ts (rows 0)
  pub best : Has rules1 ts x.best (rows 1)

abbrev pub CarriedAt : Stage → Settings → List Trial1 → Search → (ℕ → List ℕ) → Type 0
CarriedAt Grid s ts x rows = OnGrid s ts x rows
CarriedAt Warm s ts x rows = Past s ts x rows
CarriedAt Secant s ts x rows = Past s ts x rows
CarriedAt Halving s ts x rows = Past s ts x rows

abbrev pub Carried1 : Settings → List Trial1 → Search → (ℕ → List ℕ) → Type 0
Carried1 s ts x rows = CarriedAt x.stage s ts x rows

-- nothing rises before the first point
no_cell : is_above (R1.start).right ≡ true → ⊥
unfolding R1.start is_above lt of_bits
no_cell e = subst T (sym e) tt

pub begun1 : (s : Settings) (rows : ℕ → List ℕ) → Carried1 s [] R1.start rows
unfolding R1.start
begun1 s rows = record {
  count = refl;
  begun = λ e. refl;
  zero = λ l. absurd (omega (arith, l));
  latest = λ l. absurd (omega (arith, l));
  best = λ e. absurd (no_cell e);
}

-- only the first three blocks matter
pub record SameBlocks (rows other : ℕ → List ℕ) : Type 0 where
  pub zero : other 0 ≡ rows 0
  pub best : other 1 ≡ rows 1
  pub latest : other 2 ≡ rows 2

past_same : (s : Settings) (ts : List Trial1) (x : Search) (rows other : ℕ → List ℕ) → SameBlocks rows other → Past s ts x rows → Past s ts x other
past_same s ts x rows other b h = record { zero = subst (NthHas rules1 (Middle s) 8 ts) (sym b.zero) h.zero; best = subst (Has rules1 ts x.best) (sym b.best) h.best }

same_at : (st : Stage) (s : Settings) (ts : List Trial1) (x : Search) (rows other : ℕ → List ℕ) → SameBlocks rows other → CarriedAt st s ts x rows → CarriedAt st s ts x other
same_at Grid s ts x rows other b h = record {
  count = h.count;
  begun = h.begun;
  zero = λ l. subst (NthHas rules1 (Middle s) 8 ts) (sym b.zero) (h.zero l);
  latest = λ l. subst (Has rules1 ts x.latest) (sym b.latest) (h.latest l);
  best = λ e. subst (λ (r : List ℕ). (lt nought x.first ≡ true) ⊎ Has rules1 ts (closest x.left x.right) r) (sym b.best) (h.best e);
}
same_at Warm s ts x rows other b h = past_same s ts x rows other b h
same_at Secant s ts x rows other b h = past_same s ts x rows other b h
same_at Halving s ts x rows other b h = past_same s ts x rows other b h

pub same1 : (s : Settings) (ts : List Trial1) (x : Search) (rows other : ℕ → List ℕ) → SameBlocks rows other → Carried1 s ts x rows → Carried1 s ts x other
same1 s ts x rows other b h = same_at x.stage s ts x rows other b h

-- where the rows go
pub record Moves (s : Sources) (rows after : ℕ → List ℕ) : Type 0 where
  pub zero : after 0 ≡ rows s.population
  pub best : after 1 ≡ rows s.best
  pub latest : after 2 ≡ rows s.latest

-- the sources are the block itself or a later one
pub record Movable (s : Sources) : Type 0 where
  pub zero : From 0 s.population
  pub best : From 1 s.best
  pub latest : From 2 s.latest

from3 : (to : ℕ) → to < 3 → From to 3
from3 to l = later l (omega arith)

sources_at_lem : (st : Stage) (x : Search) (c : Conditional) → Movable (B.sources_at st x c)
unfolding B.sources_at B.grid_sources B.bracket_sources
sources_at_lem Grid x c = record {
  zero = both (From 0) _ (from3 0 (omega arith)) stays;
  best = both (From 1) _ (both (From 1) _ (both (From 1) _ (later {from = 2} (omega arith) (omega arith)) (from3 1 (omega arith))) stays) stays;
  latest = from3 2 (omega arith);
}
sources_at_lem Warm x c = record { zero = stays; best = both (From 1) _ (from3 1 (omega arith)) stays; latest = stays }
sources_at_lem Secant x c = record { zero = stays; best = both (From 1) _ (from3 1 (omega arith)) stays; latest = stays }
sources_at_lem Halving x c = record { zero = stays; best = both (From 1) _ (from3 1 (omega arith)) stays; latest = stays }

pub movable1 : (x : Search) (c : Conditional) → Movable (B.sources1 x c)
unfolding B.sources1
movable1 x c = sources_at_lem x.stage x c

-- ---- one evaluation more
module _ (s : Settings) (ts : List Trial1) (x : Search) (rows after : ℕ → List ℕ) (t : Trial1) (own : t.rows ≡ rows 3) where
  abbrev c : Conditional
  c = t.point

  abbrev us : List Trial1
  us = ts ++ (t ∷ [])

  newest : (c' : Conditional) → t.point ≡ c' → Has rules1 us c' (rows 3)
  newest c' e = has_last rules1 ts t c' (rows 3) e own

  -- on the grid
  module _ (m : Moves (B.grid_sources x c) rows after) (at-grid : c.eta ≡ R1.grid_point s.eta_bound x.count) (h : OnGrid s ts x rows) where
    grid_zero : 8 < x.count + 1 → NthHas rules1 (Middle s) 8 us (after 0)
    unfolding B.grid_sources
    grid_zero l = subst (NthHas rules1 (Middle s) 8 us) (sym m.zero) (cases (λ (k : ℕ). NthHas rules1 (Middle s) 8 us (rows k)) (eqb x.count 8)
        (λ e. record { trial = t; nth = nth_last rules1 8 ts t (h.count ∙ eqb-true _ _ e); holds = at-grid ∙ ap (R1.grid_point s.eta_bound) (eqb-true _ _ e); rows_are = own })
        (λ e. nth_has_more rules1 t (h.zero (let d = eqb-false x.count 8 e in omega (arith, l, d)))))

    abbrev u : Bool
    u = is_under x.latest

    abbrev a : Bool
    a = is_above c

    abbrev first : Float
    first = R1.first_score x c

    abbrev Rises : Conditional → Conditional → ℕ → Type 0
    Rises left right k = is_above right ≡ true → (lt nought first ≡ true) ⊎ Has rules1 us (closest left right) (rows k)

    -- the cell from the latest point to this one
    rises : a ≡ true → Rises x.latest c (pick (is_closer x.latest c) 2 3)
    rises e q = ⊎_elim
        (λ (l : x.count < 1). inl (subst (λ (f : Float). lt nought f ≡ true) (sym (first_is l)) (unfold is_above in e)))
        (λ (l : 1 ≤ x.count). inr (has_pick rules1 us (is_closer x.latest c) rows 2 3 (λ _. has_more rules1 t (h.latest l)) (λ _. newest c refl)))
        (split x.count 1)
      where
        first_is : x.count < 1 → first ≡ c.score
        first_is l = unfold R1.first_score in pick_yes _ _ _ (eq-eqb x.count 0 (omega (arith, l)))

    -- the cell from before
    rested : Rises x.left x.right 1
    rested q = ⊎_elim
        (λ (l : x.count < 1). absurd (nothing_yet (h.begun (omega (arith, l)))))
        (λ (l : 1 ≤ x.count). ⊎_elim (λ (f : lt nought x.first ≡ true). inl (subst (λ (v : Float). lt nought v ≡ true) (sym (first_is l)) f))
        (λ (f : Has rules1 ts (closest x.left x.right) (rows 1)). inr (has_more rules1 t f)) (h.best q))
        (split x.count 1)
      where
        nothing_yet : x ≡ R1.start → ⊥
        nothing_yet e = no_cell (subst (λ (y : Search). is_above y.right ≡ true) e q)

        first_is : 1 ≤ x.count → first ≡ x.first
        first_is l = unfold R1.first_score in pick_no _ _ _ (ne_eqb x.count 0 (λ e. omega (arith, e, l)))

    by_tests : (v w : Bool) → (v ≡ true → w ≡ true → Rises x.latest c (pick (is_closer x.latest c) 2 3))
        → Rises (pick v (pick w x.latest x.left) x.left) (pick v (pick w c x.right) x.right) (pick v (pick w (pick (is_closer x.latest c) 2 3) 1) 1)
    unfolding pick
    by_tests true true f = f refl refl
    by_tests true false f = rested
    by_tests false w f = rested

    on_grid_lem : OnGrid s us (R1.screened x c) after
    unfolding R1.screened B.grid_sources
    on_grid_lem = record {
      count = simp length-append (let l = h.count in omega (arith, l));
      begun = λ e. absurd (omega (arith, e));
      zero = grid_zero;
      latest = λ l. subst (Has rules1 us c) (sym m.latest) (newest c refl);
      best = λ q. subst (λ (r : List ℕ). (lt nought first ≡ true) ⊎ Has rules1 us (closest (R1.screened x c).left (R1.screened x c).right) r) (sym m.best) (by_tests u a (λ e f. rises f) q);
    }

  -- the cell is entered
  enters : (y : Search) → y.stage ≡ Grid → (17 ≤ y.count) → le nought y.first ≡ false → is_above y.right ≡ true → OnGrid s us y after → CarriedAt
      (R1.first_stage s y.left y.right) s us (R1.entered s y) after
  unfolding R1.first_stage R1.entered
  enters y g l n r o =
      let p : Past s us (R1.entered s y) after = record {
        zero = o.zero (omega (arith, l));
        best = ⊎_elim (λ (f : lt nought y.first ≡ true). absurd (subst T n (lt→le nought y.first (subst T (sym f) tt))))
            (λ (f : Has rules1 us (closest y.left y.right) (after 1)). f) (o.best r);
      } in
      both (λ (st : Stage). CarriedAt st s us (R1.entered s y) after) _ (both (λ (st : Stage). CarriedAt st s us (R1.entered s y) after) _ p p) p

  chooses : (y : Search) → y.stage ≡ Grid → OnGrid s us y after → Carried1 s us (R1.chosen s y) after
  unfolding R1.chosen
  chooses y g o =
      let here : Carried1 s us y after = subst (λ (st : Stage). CarriedAt st s us y after) (sym g) o in
      cases (λ (z : Search). Carried1 s us z after) (ltb y.count 17) (λ _. here)
      (λ l. cases (λ (z : Search). Carried1 s us z after) (le nought y.first) (λ _. here)
      (λ n. both (λ (z : Search). Carried1 s us z after) (is_under y.latest) here
      (both (λ (z : Search). Carried1 s us z after) y.fall here
      (cases (λ (z : Search). Carried1 s us z after) (is_above y.right) (λ r. unfold R1.entered in enters y g (ltb_no _ _ l) n r o) (λ _. here)))))
    where
      ltb_no : (i j : ℕ) → ltb i j ≡ false → j ≤ i
      ltb_no i j e = ⊎_elim (λ (l : i < j). absurd (subst T (sym (lt-ltb i j l) ∙ e) tt)) (λ (l : j ≤ i). l) (split i j)

  -- within the bracket
  tries : Moves (B.bracket_sources x c) rows after → Past s ts x rows → (st : Stage) (n : ℕ) → Past s us (R1.tried st n x c) after
  unfolding R1.tried B.bracket_sources
  tries m h st n = record {
    zero = subst (NthHas rules1 (Middle s) 8 us) (sym m.zero) (nth_has_more rules1 t h.zero);
    best = subst (Has rules1 us _) (sym m.best) (has_pick rules1 us (is_closer c x.best) rows 3 1 (λ _. newest c refl) (λ _. has_more rules1 t h.best));
  }

  asked_on : (st : Stage) (p : Float) → c.eta ≡ p → R1.request_at st s x ≡ Asks.Point p → Moves (B.sources_at st x c) rows after → CarriedAt st s ts x rows → Carried1 s us (R1.advance_at st s x c) after
  unfolding R1.request_at R1.advance_at B.sources_at R1.tried
  asked_on Grid p e q m h = cases (λ (z : Search). Carried1 s us z after) (ltb x.count 17)
      (λ l. chooses (R1.screened x c) (unfold R1.screened in refl) (on_grid_lem m (e ∙ same_point (sym (pick_yes (ltb x.count 17) (Asks.Point (R1.grid_point s.eta_bound x.count)) _ l) ∙ q)) h))
      (λ l. absurd (no_point (sym (pick_no (ltb x.count 17) (Asks.Point (R1.grid_point s.eta_bound x.count)) _ l) ∙ q)))
    where
      same_point : Asks.Point (R1.grid_point s.eta_bound x.count) ≡ Asks.Point p → p ≡ R1.grid_point s.eta_bound x.count
      same_point e = cc

      no_point : pick (le nought x.first) (Asks.Refused 13) (pick (is_under x.latest) (Asks.Refused 13) (Asks.Refused 14)) ≡ Asks.Point p → ⊥
      no_point = both (λ (r : _). r ≡ Asks.Point p → ⊥) _ (λ e. let z : ◌≡◌ {A = ℕ} 0 1 = cc in omega arith)
          (both (λ (r : _). r ≡ Asks.Point p → ⊥) _ (λ e. let z : ◌≡◌ {A = ℕ} 0 1 = cc in omega arith) (λ e. let z : ◌≡◌ {A = ℕ} 0 1 = cc in omega arith))
  asked_on Warm p e q m h = tries m h Secant 0
  asked_on Secant p e q m h = both (λ (z : Search). Carried1 s us z after) (ltb x.count 15) (tries m h Secant (x.count + 1)) (tries m h Halving 0)
  asked_on Halving p e q m h = cases (λ (z : Search). Carried1 s us z after) (ltb x.count 48) (λ _. tries m h Halving (x.count + 1)) (λ l. absurd (no_point l))
    where
      no_point : ltb x.count 48 ≡ false → ⊥
      no_point l = both (λ (r : _). r ≡ Asks.Point p → ⊥) _ (λ e. let z : ◌≡◌ {A = ℕ} 0 1 = cc in omega arith) (λ e. let z : ◌≡◌ {A = ℕ} 0 1 = cc in omega arith)
          (ap (λ (r : _). pick (R1.settled s x.best x.left x.right) Asks.Mode r) (sym (pick_no (ltb x.count 48) (Asks.Point (R1.midpoint x.left x.right)) (Asks.Refused 15) l)) ∙ q)

  pub step1 : (p : Float) → c.eta ≡ p → R1.request s x ≡ Asks.Point p → Moves (B.sources1 x c) rows after → Carried1 s ts x rows → Carried1 s us (R1.advance s x c) after
  unfolding B.sources1
  step1 p e q m h = asked_on x.stage p e q m h

-- ---- a mode
ends_at : (st : Stage) (s : Settings) (ts : List Trial1) (x : Search) (rows : ℕ → List ℕ) → R1.request_at st s x ≡ Asks.Mode → CarriedAt st s ts x rows → Past s ts x rows
unfolding R1.request_at
ends_at Grid s ts x rows q h = absurd (both (λ (r : _). r ≡ Asks.Mode → ⊥) _ (λ e. let z : ◌≡◌ {A = ℕ} 0 1 = cc in omega arith)
    (both (λ (r : _). r ≡ Asks.Mode → ⊥) _ (λ e. let z : ◌≡◌ {A = ℕ} 0 1 = cc in omega arith)
    (both (λ (r : _). r ≡ Asks.Mode → ⊥) _ (λ e. let z : ◌≡◌ {A = ℕ} 0 1 = cc in omega arith) (λ e. let z : ◌≡◌ {A = ℕ} 0 1 = cc in omega arith))) q)
ends_at Warm s ts x rows q h = h
ends_at Secant s ts x rows q h = h
ends_at Halving s ts x rows q h = h

pub end1 : (s : Settings) (ts : List Trial1) (x : Search) (rows : ℕ → List ℕ) → R1.request s x ≡ Asks.Mode → Carried1 s ts x rows → NthHas rules1 (Middle s) 8 ts (rows 0) × Has rules1 ts
    x.best (rows 1)
end1 s ts x rows q h = let p = ends_at x.stage s ts x rows q h in (p.zero, p.best)

-- ---- two effects
abbrev pub Trial2 : Type 0
Trial2 = Trial rules2

-- eta zero
abbrev pub Nowhere : Conditional2 → Type 0
Nowhere c = c.eta ≡ R2.of R2.nought R2.nought

-- with the rows of the blocks 0, 1 and 2; a start's candidate is the best so far from the first on
pub record Between2 (ts : List Trial2) (x : Search2) (zero-rows best_rows : List ℕ) : Type 0 where
  pub seed : x.seed < 6
  pub zero : NthHas rules2 Nowhere 0 ts zero-rows
  pub best : (x.seed ≡ 0) ⊎ Has rules2 ts x.best best_rows

pub record Found2 (ts : List Trial2) (x : Search2) (zero-rows best_rows : List ℕ) : Type 0 where
  pub zero : NthHas rules2 Nowhere 0 ts zero-rows
  pub best : Has rules2 ts x.best best_rows

abbrev pub CarriedAt2 : Stage2 → List Trial2 → Search2 → List ℕ → List ℕ → List ℕ → Type 0
CarriedAt2 S2.Zero ts x z b r = ts ≡ []
CarriedAt2 S2.Start ts x z b r = Between2 ts x z b
CarriedAt2 S2.Trial ts x z b r = Between2 ts x z b × Has rules2 ts x.current r
CarriedAt2 S2.Found ts x z b r = Found2 ts x z b
CarriedAt2 (S2.Halted n) ts x z b r = Unit

abbrev pub Carried2 : List Trial2 → Search2 → (ℕ → List ℕ) → Type 0
Carried2 ts x rows = CarriedAt2 x.stage ts x (rows 0) (rows 1) (rows 2)

pub begun2 : (rows : ℕ → List ℕ) → Carried2 [] R2.start rows
unfolding R2.start R2.between
begun2 rows = refl

pub same2 : (ts : List Trial2) (x : Search2) (rows other : ℕ → List ℕ) → SameBlocks rows other → Carried2 ts x rows → Carried2 ts x other
same2 ts x rows other s h =
    subst (λ (r : List ℕ). CarriedAt2 x.stage ts x (other 0) (other 1) r) (sym s.latest)
    (subst (λ (b : List ℕ). CarriedAt2 x.stage ts x (other 0) b (rows 2)) (sym s.best) (subst (λ (z : List ℕ). CarriedAt2 x.stage ts x z (rows 1) (rows 2)) (sym s.zero) h))

current_from : (st : Stage2) (s : Settings2) (x : Search2) (c : Conditional2) → From 2 (B.current_at st s x c)
unfolding B.current_at
current_from S2.Zero s x c = stays
current_from S2.Start s x c = from3 2 (omega arith)
current_from S2.Trial s x c = both (From 2) _ (from3 2 (omega arith)) stays
current_from S2.Found s x c = stays
current_from (S2.Halted n) s x c = stays

zero_from : (st : Stage2) → From 0 (B.population_at st)
unfolding B.population_at
zero_from S2.Zero = from3 0 (omega arith)
zero_from S2.Start = stays
zero_from S2.Trial = stays
zero_from S2.Found = stays
zero_from (S2.Halted n) = stays

pub movable2 : (s : Settings2) (x y : Search2) (c : Conditional2) → Movable (B.sources2 s x y c)
unfolding B.sources2 B.current_source B.population_source
movable2 s x y c =
    let f = current_from x.stage s x c in
    let g = from_most (omega arith) f in
    record { zero = zero_from x.stage; best = both (From 1) _ (later (let l = g.0 in omega (arith, l)) g.1) stays; latest = f }

-- ---- the rounds of a start, at the candidate c with its rows r
module _ (s : Settings2) (x : Search2) (ts : List Trial2) (z r old : List ℕ) (c : Conditional2) (seed-in : x.seed < 6) (at_zero : NthHas rules2 Nowhere 0 ts z) (has : Has rules2 ts c r)
    (had : (x.seed ≡ 0) ⊎ Has rules2 ts x.best old) where
  -- what the search y carries, where its best block has the candidate's rows if that is the new best
  abbrev Next : Search2 → Type 0
  Next y = CarriedAt2 y.stage ts y z (pick (B.is_new_best s x y) r old) r

  abbrev closer : Conditional2
  closer = R2.better s x.seed c x.best

  by_better : (e l : Bool) → (e ≡ false → Has rules2 ts x.best old) → Has rules2 ts (pick e c (pick l c x.best)) (pick (pick e true l) r old)
  unfolding pick
  by_better true l f = has
  by_better false true f = has
  by_better false false f = f refl

  had_best : eqb x.seed 0 ≡ false → Has rules2 ts x.best old
  had_best e = ⊎_elim (λ (q : x.seed ≡ 0). absurd (eqb-false x.seed 0 e q)) (λ (h : Has rules2 ts x.best old). h) had

  -- the next start, or the mode: the best of the candidates so far
  passes : (st : Stage2) (next : ℕ) → x.seed < next → Has rules2 ts closer (pick (B.is_new_best s x (R2.between st next c closer)) r old)
  unfolding R2.better B.is_new_best R2.between
  passes st next l =
      subst (λ (t : Bool). Has rules2 ts closer (pick t r old)) (sym (pick_yes _ _ false (lt-ltb x.seed next l)))
      (by_better (eqb x.seed 0) (lt (R2.joint s c) (R2.joint s x.best)) had_best)

  finishes : Next (R2.finish s x.seed c x.best)
  unfolding R2.finish
  finishes =
      both Next _ (unfold R2.between in tt)
      (both Next _ (unfold R2.between in tt)
      (cases Next (ltb x.seed 5)
      (λ e. let l = ltb-true x.seed 5 e in let h = passes S2.Start (x.seed + 1) (omega arith) in unfold R2.between in record { seed = omega (arith, l); zero = at_zero; best = inr h })
      (λ e. let h = passes S2.Found 6 seed-in in unfold R2.between in record { zero = at_zero; best = h })))

  trying : (round reduction : ℕ) (step : NewtonStep) (trial : Pair) → Next (R2.trying x.seed round reduction c x.best step trial)
  unfolding R2.trying B.is_new_best
  trying round reduction step trial =
      subst (λ (t : Bool). Between2 ts (R2.trying x.seed round reduction c x.best step trial) z (pick t r old) × Has rules2 ts c r)
      (sym (pick_no _ _ false (le-ltb x.seed x.seed (omega arith))))
      (unfold pick in (record { seed = seed-in; zero = at_zero; best = had }, has))

  tries_next : (round from : ℕ) (step : NewtonStep) → Next (R2.try_from s x.seed round from c x.best step)
  unfolding R2.try_from
  tries_next round from step = both Next _ (trying round _ step _) finishes

  descends_by : (i : Inverse) (round from : ℕ) → Next (R2.descend_by i s x.seed round from c x.best)
  unfolding R2.descend_by R2.between
  descends_by none round from = tt
  descends_by (some inverse det) round from = tries_next round from (R2.step_by s c inverse)

  descends : (round from : ℕ) → Next (R2.descend s x.seed round from c x.best)
  unfolding R2.descend
  descends round from = descends_by (inverse_positive (R2.curvature s.precision c.information)) round from

  rounds : (round : ℕ) → Next (R2.begin_round s x.seed round c x.best)
  unfolding R2.begin_round
  rounds round = both Next _ finishes (descends round 0)

-- ---- one evaluation more
picked : (t : Bool) (rows : ℕ → List ℕ) (i j : ℕ) → rows (pick t i j) ≡ pick t (rows i) (rows j)
unfolding pick
picked true rows i j = refl
picked false rows i j = refl

module _ (s : Settings2) (ts : List Trial2) (x : Search2) (rows : ℕ → List ℕ) (t : Trial2) (own : t.rows ≡ rows 3) where
  abbrev c2 : Conditional2
  c2 = t.point

  abbrev us2 : List Trial2
  us2 = ts ++ (t ∷ [])

  newest2 : Has rules2 us2 c2 (rows 3)
  newest2 = has_last rules2 ts t c2 (rows 3) refl own

  had_more : (x.seed ≡ 0) ⊎ Has rules2 ts x.best (rows 1) → (x.seed ≡ 0) ⊎ Has rules2 us2 x.best (rows 1)
  had_more (inl e) = inl e
  had_more (inr h) = inr (has_more rules2 t h)

  -- what the search y carries, the rows of its current point in the block of number k before the move
  abbrev Goes : Search2 → ℕ → Type 0
  Goes y k = CarriedAt2 y.stage us2 y (rows 0) (pick (B.is_new_best s x y) (rows k) (rows 1)) (rows k)

  module _ (h : Between2 ts x (rows 0) (rows 1)) where
    is_taken_lem : Goes (R2.take s x c2) 3
    unfolding R2.take
    is_taken_lem =
        let zero_more = nth_has_more rules2 t h.zero in
        both (λ (y : Search2). Goes y 3) (ltb x.round 47) (rounds s x us2 (rows 0) (rows 3) (rows 1) c2 h.seed zero_more newest2 (had_more h.best) (x.round + 1))
        (finishes s x us2 (rows 0) (rows 3) (rows 1) c2 h.seed zero_more newest2 (had_more h.best))

    is_left_lem : Has rules2 ts x.current (rows 2) → Goes (R2.leave s x) 2
    unfolding R2.leave
    is_left_lem q =
        let zero_more = nth_has_more rules2 t h.zero in
        let more = has_more rules2 t q in
        both (λ (y : Search2). Goes y 2) (ltb x.reduction 21)
        (descends s x us2 (rows 0) (rows 2) (rows 1) x.current h.seed zero_more more (had_more h.best) x.round (x.reduction + 1))
        (finishes s x us2 (rows 0) (rows 2) (rows 1) x.current h.seed zero_more more (had_more h.best))

    tried : Has rules2 ts x.current (rows 2) → (v : Bool) → Goes (pick v (R2.take s x c2) (R2.leave s x)) (pick v 3 2)
    unfolding pick
    tried q true = is_taken_lem
    tried q false = is_left_lem q

  -- by the stage: block 0 gets the rows of number z, block 2 those of number k
  asked_on2 : (st : Stage2) (p : Pair) → c2.eta ≡ p → R2.request_at st s x ≡ Asks.Point p → CarriedAt2 st ts x (rows 0) (rows 1) (rows 2)
      → let y = R2.advance_at st s x c2 in let k = B.current_at st s x c2 in CarriedAt2 y.stage us2 y (rows (B.population_at st)) (pick (B.is_new_best s x y) (rows k) (rows 1)) (rows k)
  unfolding R2.request_at R2.advance_at B.population_at B.current_at
  asked_on2 S2.Zero p e q h = unfold R2.between in record {
    seed = omega arith;
    zero = record { trial = t; nth = subst (λ (l : List Trial2). Nth 0 (l ++ (t ∷ [])) t) (sym h) (unfold Nth in refl); holds = e ∙ (let z : p ≡ R2.of R2.nought R2.nought = cc in z); rows_are = own };
    best = inl refl;
  }
  asked_on2 S2.Start p e q h = rounds s x us2 (rows 0) (rows 3) (rows 1) c2 h.seed (nth_has_more rules2 t h.zero) newest2 (had_more h.best) 0
  asked_on2 S2.Trial p e q h = tried h.0 h.1 (R2.is_taken s x c2)
  asked_on2 S2.Found p e q h = absurd (let z : ◌≡◌ {A = ℕ} 0 1 = cc in omega arith)
  asked_on2 (S2.Halted n) p e q h = absurd (let z : ◌≡◌ {A = ℕ} 0 1 = cc in omega arith)

  pub step2 : (after : ℕ → List ℕ) (p : Pair) → c2.eta ≡ p → R2.request s x ≡ Asks.Point p → Moves (B.sources2 s x (R2.advance s x c2) c2) rows after → Carried2 ts x rows → Carried2 us2
      (R2.advance s x c2) after
  unfolding B.sources2 B.current_source B.population_source
  step2 after p is q m h =
      let y = R2.advance s x c2 in
      let k = B.current_at x.stage s x c2 in
      let e : after 1 ≡ pick (B.is_new_best s x y) (rows k) (rows 1) = m.best ∙ picked (B.is_new_best s x y) rows k 1 in
      subst (λ (v : List ℕ). CarriedAt2 y.stage us2 y (after 0) (after 1) v) (sym m.latest)
      (subst (λ (v : List ℕ). CarriedAt2 y.stage us2 y (after 0) v (rows k)) (sym e)
      (subst (λ (v : List ℕ). CarriedAt2 y.stage us2 y v (pick (B.is_new_best s x y) (rows k) (rows 1)) (rows k)) (sym m.zero) (asked_on2 x.stage p is q h)))

-- ---- a mode
ends_at2 : (st : Stage2) (s : Settings2) (ts : List Trial2) (x : Search2) (rows : ℕ → List ℕ) → R2.request_at st s x ≡ Asks.Mode → CarriedAt2 st ts x (rows 0) (rows 1) (rows 2) → Found2 ts x
    (rows 0) (rows 1)
unfolding R2.request_at
ends_at2 S2.Zero s ts x rows q h = absurd (let z : ◌≡◌ {A = ℕ} 0 1 = cc in omega arith)
ends_at2 S2.Start s ts x rows q h = absurd (let z : ◌≡◌ {A = ℕ} 0 1 = cc in omega arith)
ends_at2 S2.Trial s ts x rows q h = absurd (let z : ◌≡◌ {A = ℕ} 0 1 = cc in omega arith)
ends_at2 S2.Found s ts x rows q h = h
ends_at2 (S2.Halted n) s ts x rows q h = absurd (let z : ◌≡◌ {A = ℕ} 0 1 = cc in omega arith)

pub end2 : (s : Settings2) (ts : List Trial2) (x : Search2) (rows : ℕ → List ℕ) → R2.request s x ≡ Asks.Mode → Carried2 ts x rows → NthHas rules2 Nowhere 0 ts (rows 0) × Has rules2 ts
    x.best (rows 1)
end2 s ts x rows q h = let p = ends_at2 x.stage s ts x rows q h in (p.zero, p.best)
