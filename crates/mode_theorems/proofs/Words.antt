-- The rules' words are the claim's: each test and point of the one-effect rules is document 01's term, as Terms writes it out. Assumes nothing.
use mathlib.Core.Path.{◌≡◌, refl, sym, ap, ◌∙◌, subst}
use mathlib.Core.Logic.{◌⊎◌, inl, inr}
use mathlib.Core.Bool.{Bool, true, false, ◌&&◌, ◌||◌, true≢false}
use mathlib.Core.List.Memᴰ
use mathlib.Core.List.{List, [], ◌∷◌, Memᴰ}
use Prim.Native.Nat.{ℕ, zero, suc, ◌+◌}
use lib.ListN.{length}
use lib.Dec.{T}
use lib.Ieee.{Float, lt, le}
use Rattle.float64.specs.Arithmetic.{◌+ᶠ◌, ◌-ᶠ◌, ◌/ᶠ◌, word, one}
use Rattle.float64.specs.Float64.{abs}
use Rattle.float64.specs.Pick.{pick, pick_yes, pick_no}
use Rattle.float64.proofs.Order.{num?, le_or_gt}
use Rattle.mode.specs.declared.population_focei.Settings.{Settings}
use Rattle.mode.specs.declared.population_focei.Conditional.{Conditional}
use Rattle.mode.specs.declared.population_focei.Stage.{Stage}
use Rattle.mode.specs.declared.population_focei.Stage.TheVariants.{Warm, Secant}
use Rattle.mode.specs.declared.population_focei.Search.{Search}
use Rattle.mode.specs.Rules.{grid_point, is_above, is_under, settled, first_stage, tried}
use Rattle.mode_theorems.specs.Terms.{etas, grid_from, score_at, Cell, filter, is_upward, is_fall, narrowed, Settled, warm_trials}

abbrev pub cell : Conditional → Conditional → Cell
cell left right = record { left = left; right = right }

abbrev pub cell_in : Search → Cell
cell_in x = cell x.left x.right

-- the points asked for on the grid
pub grid_next : (limit : Float) (n i : ℕ) → grid_point limit i ∷ grid_from limit n (i + 1) ≡ grid_from limit (suc n) i
unfolding grid_from grid_point
grid_next limit n i = refl

-- scores
pub under_is : (c : Conditional) → is_under c ≡ le c.score (word 0)
unfolding is_under
under_is c = refl

pub above_is : (c : Conditional) → is_above c ≡ lt (word 0) c.score
unfolding is_above
above_is c = refl

pub upward_is : (a b : Conditional) → is_upward (cell a b) ≡ (is_under a && is_above b)
unfolding is_upward is_under is_above
upward_is a b = refl

pub fall_is : (a b : Conditional) → is_fall (cell a b) ≡ (is_above a && is_under b)
unfolding is_fall is_under is_above
fall_is a b = refl

-- the bracket
pub narrowed_is : (stage : Stage) (count : ℕ) (x : Search) (c : Conditional) → cell_in (tried stage count x c) ≡ narrowed (cell_in x) c
unfolding tried narrowed is_above pick
narrowed_is stage count x c = go (lt (word 0) c.score)
  where
    go : (t : Bool) → cell (pick t x.left c) (pick t c x.right) ≡ pick t (cell x.left c) (cell c x.right)
    go true = refl
    go false = refl

-- settled, by the bracket and by the value
narrow : Settings → Cell → Bool
narrow s k = le (k.right.eta -ᶠ k.left.eta) s.tolerance

level : Settings → Conditional → Bool
level s c = le (abs c.score /ᶠ (one /ᶠ s.omega +ᶠ c.information)) s.tolerance

settled_by : (s : Settings) (k : Cell) (c : Conditional) → settled s c k.left k.right ≡ (narrow s k || level s c)
unfolding settled narrow level pick
settled_by s k c = either (narrow s k) (level s c)
  where
    either : (t u : Bool) → pick t true u ≡ (t || u)
    either true u = refl
    either false u = refl

pub settled_is : (s : Settings) (k : Cell) (c : Conditional) → settled s c k.left k.right ≡ true → Settled s k c
unfolding narrow level
settled_is s k c e = go (narrow s k) (level s c) (sym (settled_by s k c) ∙ e)
  where
    go : (t u : Bool) → (t || u) ≡ true → T t ⊎ T u
    go true u e = inl tt
    go false true e = inr tt
    go false false e = absurd (true≢false (sym e))

pub settled_not : (s : Settings) (k : Cell) (c : Conditional) → settled s c k.left k.right ≡ false → Settled s k c → ⊥
unfolding narrow level
settled_not s k c e = go (narrow s k) (level s c) (sym (settled_by s k c) ∙ e)
  where
    go : (t u : Bool) → (t || u) ≡ false → T t ⊎ T u → ⊥
    go true u e w = true≢false e
    go false true e w = true≢false e
    go false false e (inl w) = w
    go false false e (inr w) = w

-- the warm start
pub warm_is : (P : Stage → ℕ → Type 0) (s : Settings) (k : Cell) → P Warm 1 → P Secant 0 → P (first_stage s k.left k.right) (warm_trials s k)
unfolding first_stage warm_trials pick
warm_is P s k p q = go (lt k.left.eta s.warm) (lt s.warm k.right.eta)
  where
    go : (t u : Bool) → P (pick t (pick u Warm Secant) Secant) (pick (t && u) 1 0)
    go true true = p
    go true false = q
    go false u = q

-- ---- lists
pub and_no : (t u : Bool) → (t ≡ false) ⊎ (u ≡ false) → (t && u) ≡ false
and_no true u (inl e) = absurd (true≢false e)
and_no true u (inr e) = e
and_no false u e = refl

pub and_yes : (t u : Bool) → t ≡ true → u ≡ true → (t && u) ≡ true
and_yes true u e f = f
and_yes false u e f = e

pub filter_no : (test : Cell → Bool) (k : Cell) (l : List Cell) → test k ≡ false → filter test (k ∷ l) ≡ filter test l
unfolding filter
filter_no test k l e = pick_no (test k) _ _ e

pub filter_yes : (test : Cell → Bool) (k : Cell) (l : List Cell) → test k ≡ true → filter test (k ∷ l) ≡ k ∷ filter test l
unfolding filter
filter_yes test k l e = pick_yes (test k) _ _ e

pub filter_in : (test : Cell → Bool) (k : Cell) (l : List Cell) → Memᴰ k (filter test l) → Memᴰ k l
unfolding filter pick
filter_in test k [] p = p
filter_in test k (c ∷ l) p = go (test c) (filter_in test k l) p
  where
    go : (t : Bool) → (Memᴰ k (filter test l) → Memᴰ k l) → Memᴰ k (pick t (c ∷ filter test l) (filter test l)) → Memᴰ k (c ∷ l)
    go true f p = elim (Memᴰ.cases_cons p) [ inl e ↦ Memᴰ.head e | inr q ↦ Memᴰ.tail (f q) ]
    go false f p = Memᴰ.tail (f p)

-- the last of a point and those after it
unfoldable pub last_from : Conditional → List Conditional → Conditional
last_from a [] = a
last_from a (b ∷ t) = last_from b t

pub last_is : (a : Conditional) (t : List Conditional) → (last_from a t).score ≡ score_at (a ∷ t) (length t)
unfolding last_from score_at
last_is a [] = refl
last_is a (b ∷ t) = last_is b t

pub grid_length : (limit : Float) (n i : ℕ) (h : List Conditional) → etas h ≡ grid_from limit n i → length h ≡ n
unfolding etas grid_from
grid_length limit n i h e = sym (length_etas h) ∙ ap (λ (l : List Float). length l) e ∙ length_grid n i
  where
    length_etas : (h : List Conditional) → length (etas h) ≡ length h
    length_etas [] = refl
    length_etas (c ∷ h) = ap suc (length_etas h)

    length_grid : (n i : ℕ) → length (grid_from limit n i) ≡ n
    length_grid zero i = refl
    length_grid (suc n) i = ap suc (length_grid n (i + 1))

-- ---- numbers
pub over : (x y : Float) → T (num? x) → T (num? y) → le x y ≡ false → T (lt y x)
over x y p q e = elim (le_or_gt x y p q) [ inl h ↦ absurd (subst T e h) | inr h ↦ h ]
