-- The grid. Assumes nothing.
use mathlib.Core.Path.{◌≡◌, refl, sym, ap, ap₂, ◌∙◌, subst}
use mathlib.Core.Logic.{◌⊎◌, inl, inr}
use mathlib.Core.Bool.{Bool, true, false, not, ◌&&◌, ◌||◌, true≢false}
use mathlib.Core.List.{List, [], ◌∷◌}
use Prim.Native.Nat.{ℕ, zero, suc, ◌+◌, ◌≤◌, ◌<◌}
use native.Mathlib.Omega.{arith}
use lib.ListN.{length, get_or-append}
use lib.Dec.{T, ltb, eqb}
use lib.IntN.{pos}
use lib.Ieee.{Float, binary64, of_bits, of_int, lt, le, neg, is_nan}
use borrow.Author.Tests.{lt-ltb, le-ltb, eqb-true, eqb-false}
use Rattle.float64.specs.Arithmetic.{◌+ᶠ◌, ◌*ᶠ◌, ◌/ᶠ◌, word}
use Rattle.float64.specs.Float64.{abs}
use Rattle.float64.specs.Pick.{pick, pick_yes, pick_no}
use Rattle.float64.proofs.Order.{num?, lt→le, of_true}
use Rattle.mode.specs.declared.population_focei.Settings.{Settings}
use Rattle.mode.specs.declared.population_focei.Conditional as C
use Rattle.mode.specs.declared.population_focei.Stage.TheVariants.{Grid}
use Rattle.mode.specs.declared.population_focei.Search.{Search}
use Rattle.mode.specs.Rules as R
use Rattle.mode_theorems.specs.Histories.{led_from}
use Rattle.search.specs.Subjects.{sources1, sources_at, grid_sources}
use Rattle.mode_theorems.proofs.Screen.{side, true_of, next, stays, stays_under, Bad, stays_bad, keeps_first}
use Rattle.mode_theorems.proofs.Screen as S
use Rattle.source.specs.Run.{Run, done, ask, stop, ◌>>=◌, ◌>>◌, when◌then◌else◌, err, Flow, turn, rounds, for, refused}
use Rattle.source.specs.Run as Runs
use Rattle.source.specs.Source.{Conditional, at, nowhere, Pair, windows_from, windows, filter, any, first_of, mode}
use Rattle.source.specs.Claim.{bare, from, moved, State, step, begin, led, told_by, told}
use Rattle.source.proofs.Tells.{push, or_not, led_push, length_push, Tells}
use Rattle.source.proofs.Bracket.{Tree, warmed, in_stage, bare_pick, state_eq, at_says, Ok, enters}
use Rattle.mode.specs.declared.Request.{Request}
use Rattle.mode.specs.declared.Request.TheVariants.{Point, Refused}

-- ---- lists with one more at their end
last_from : Conditional → List Conditional → Conditional
last_from a [] = a
last_from a (b ∷ t) = last_from b t

last_push : (a : Conditional) (t : List Conditional) (c : Conditional) → last_from a (push t c) ≡ c
unfolding last_from
last_push a [] c = refl
last_push a (b ∷ t) c = last_push b t c

last_at : (a : Conditional) (t : List Conditional) → at (a ∷ t) (length t) ≡ last_from a t
unfolding last_from
last_at a [] = refl
last_at a (b ∷ t) = last_at b t

at_last : (t : List Conditional) (c : Conditional) → at (push t c) (length t) ≡ c
at_last [] c = refl
at_last (b ∷ t) c = at_last t c

windows_push : (a : Conditional) (t : List Conditional) (c : Conditional) → windows_from a (push t c) ≡ push (windows_from a t) (last_from a t, c)
unfolding last_from windows_from
windows_push a [] c = refl
windows_push a (b ∷ t) c = ap (λ l. (a, b) ∷ l) (windows_push b t c)

any_push : {A : Type 0} (p : A → Bool) (l : List A) (a : A) → any p (push l a) ≡ (any p l || p a)
unfolding any
any_push p [] a = or_false (p a)
  where
    or_false : (b : Bool) → (b || false) ≡ (false || b)
    or_false true = refl
    or_false false = refl
any_push p (b ∷ l) a = go (p b) (any_push p l a)
  where
    go : (t : Bool) → any p (push l a) ≡ (any p l || p a) → (t || any p (push l a)) ≡ (t || any p l || p a)
    go true e = refl
    go false e = e

filter_yes : {A : Type 0} (p : A → Bool) (l : List A) (a : A) → p a ≡ true → filter p (push l a) ≡ push (filter p l) a
unfolding filter
filter_yes p [] a e = pick_yes (p a) _ _ e
filter_yes p (b ∷ l) a e = go (p b) (filter_yes p l a e)
  where
    go : (t : Bool) → filter p (push l a) ≡ push (filter p l) a → pick t (b ∷ filter p (push l a)) (filter p (push l a)) ≡ push (pick t (b ∷ filter p l) (filter p l)) a
    go true e = unfold pick in ap (λ l. b ∷ l) e
    go false e = unfold pick in e

filter_no : {A : Type 0} (p : A → Bool) (l : List A) (a : A) → p a ≡ false → filter p (push l a) ≡ filter p l
unfolding filter
filter_no p [] a e = pick_no (p a) _ _ e
filter_no p (b ∷ l) a e = ap (λ v. pick (p b) (b ∷ v) v) (filter_no p l a e)

-- ---- the source's cells
abbrev rising : Pair → Bool
rising pair = le pair.0.score (word 0) && lt (word 0) pair.1.score

abbrev falling : Pair → Bool
falling pair = lt (word 0) pair.0.score && le pair.1.score (word 0)

-- one cell, which is the search's; the best block has the rows of its closer end
record One (x : State) (l : List Pair) : Type 0 where
  pub left : Conditional
  pub right : Conditional
  pub single : l ≡ (left, right) ∷ []
  pub is_left : x.search.left ≡ bare left
  pub is_right : x.search.right ≡ bare right
  pub rises : R.is_above (bare right) ≡ true
  pub rows : x.blocks.best ≡ (pick (lt (abs left.score) (abs right.score)) left right).rows

-- no cell yet, or one
Cells : State → List Pair → Type 0
Cells x l =
    ((R.is_under x.search.latest ≡ true) × (R.is_above x.search.latest ≡ false) × (l ≡ []))
    ⊎ ((R.is_under x.search.latest ≡ false) × (R.is_above x.search.latest ≡ true) × One x l)

-- the search x has screened a and then t
record Screened (a : Conditional) (t : List Conditional) (x : State) : Type 0 where
  pub stage : x.search.stage ≡ Grid
  pub count : x.search.count ≡ length t + 1
  pub first : x.search.first ≡ a.score
  pub latest : x.search.latest ≡ bare (last_from a t)
  pub latest_rows : x.blocks.latest ≡ (last_from a t).rows
  pub population : 9 ≤ length t + 1 → x.blocks.population ≡ (at (a ∷ t) 8).rows
  pub fall : x.search.fall ≡ any falling (windows_from a t)
  pub cells : le R.nought x.search.first ≡ false → x.search.fall ≡ false → Cells x (filter rising (windows_from a t))

fell_is : (x : Search) (z c : Conditional) → x.latest ≡ bare z → R.fell x (bare c) ≡ (x.fall || falling (z, c))
unfolding R.fell R.is_above R.is_under pick
fell_is x z c e = ap (λ v. pick (lt (word 0) v.score) (pick (le c.score (word 0)) true x.fall) x.fall) e ∙ go x.fall (lt (word 0) z.score) (le c.score (word 0))
  where
    go : (f a u : Bool) → pick a (pick u true f) f ≡ (f || (a && u))
    go true true true = refl
    go true true false = refl
    go true false u = refl
    go false true true = refl
    go false true false = refl
    go false false u = refl

or_l : (a b : Bool) → (a || b) ≡ false → a ≡ false
or_l true b e = absurd (true≢false e)
or_l false b e = refl

both_true : (a b : Bool) → a ≡ true → b ≡ true → (a && b) ≡ true
both_true true b e f = f
both_true false b e f = absurd (true≢false (sym e))

and_l : (a b : Bool) → a ≡ false → (a && b) ≡ false
and_l true b e = absurd (true≢false e)
and_l false b e = refl

and_r : (a b : Bool) → b ≡ false → (a && b) ≡ false
and_r true b e = e
and_r false b e = refl

or_r : (a b : Bool) → b ≡ true → (a || b) ≡ true
or_r true b e = refl
or_r false b e = e

abbrev single : Conditional → Conditional → List Pair
single l r = (l, r) ∷ []

-- the search and the rows with one more grid point
abbrev screened : State → Conditional → State
screened x c = record { search = R.screened x.search (bare c); blocks = moved (grid_sources x.search (bare c)) c.rows x.blocks }

rows_best : (x : State) (c : Conditional) (u a : Bool) → R.is_under x.search.latest ≡ u → R.is_above (bare c) ≡ a
    → (screened x c).blocks.best ≡ pick u (pick a (pick (R.is_closer x.search.latest (bare c)) x.blocks.latest c.rows) x.blocks.best) x.blocks.best
unfolding grid_sources
rows_best x c u a e f =
    ap₂ (λ v w. from (pick v (pick w (pick (R.is_closer x.search.latest (bare c)) 2 3) 1) 1) c.rows x.blocks) e f ∙ go u a (R.is_closer x.search.latest (bare c))
  where
    go : (u a t : Bool) → from (pick u (pick a (pick t 2 3) 1) 1) c.rows x.blocks ≡ pick u (pick a (pick t x.blocks.latest c.rows) x.blocks.best) x.blocks.best
    go true true true = unfold from pick in refl
    go true true false = unfold from pick in refl
    go true false t = unfold from pick in refl
    go false a t = unfold from pick in refl

closer : (z c : Conditional) (y : C.Conditional) (r : List ℕ) → y ≡ bare z → r ≡ z.rows → pick (R.is_closer y (bare c)) r c.rows ≡ (pick (lt (abs z.score) (abs c.score)) z c).rows
unfolding R.is_closer
closer z c y r e q = ap₂ (λ v w. pick (lt (abs v.score) (abs c.score)) w c.rows) e q ∙ go (lt (abs z.score) (abs c.score))
  where
    go : (t : Bool) → pick t z.rows c.rows ≡ (pick t z c).rows
    go true = unfold pick in refl
    go false = unfold pick in refl

-- one more pair, of the latest point z and c
module _ (x : State) (z c : Conditional) (e : x.search.latest ≡ bare z) (q : x.blocks.latest ≡ z.rows) where
  under_z : R.is_under x.search.latest ≡ le z.score (word 0)
  unfolding R.is_under
  under_z = ap (λ v. le v.score (word 0)) e

  above_z : R.is_above x.search.latest ≡ lt (word 0) z.score
  unfolding R.is_above
  above_z = ap (λ v. lt (word 0) v.score) e

  met : (l : List Pair) → filter rising l ≡ [] → R.is_under x.search.latest ≡ true → R.is_above (bare c) ≡ true → One (screened x c) (filter rising (push l (z, c)))
  unfolding R.screened R.is_above
  met l n u a =
      record {
        left = z;
        right = c;
        single = filter_yes rising l (z, c) (both_true _ _ (sym under_z ∙ u) a) ∙ ap (λ v. push v (z, c)) n;
        is_left = pick_yes _ _ _ u ∙ pick_yes _ _ _ a ∙ e;
        is_right = pick_yes _ _ _ u ∙ pick_yes _ _ _ a;
        rises = a;
        rows = rows_best x c true true u a ∙ pick_yes true _ _ refl ∙ pick_yes true _ _ refl ∙ closer z c x.search.latest x.blocks.latest e q;
      }

  kept : (l : List Pair) → One x (filter rising l) → R.is_under x.search.latest ≡ false → One (screened x c) (filter rising (push l (z, c)))
  unfolding R.screened
  kept l o u =
      record {
        left = o.left;
        right = o.right;
        single = filter_no rising l (z, c) (and_l _ _ (sym under_z ∙ u)) ∙ o.single;
        is_left = pick_no _ _ _ u ∙ o.is_left;
        is_right = pick_no _ _ _ u ∙ o.is_right;
        rises = o.rises;
        rows = rows_best x c false (R.is_above (bare c)) u refl ∙ pick_no false _ _ refl ∙ o.rows;
      }

  cells_step : (l : List Pair) → T (num? c.score) → R.fell x.search (bare c) ≡ false → Cells x (filter rising l) → Cells (screened x c) (filter rising (push l (z, c)))
  unfolding Cells R.screened R.is_above R.is_under
  cells_step l n f (inl (u, b, o)) =
      elim (side (bare c) n) [
        | inl k ↦ inr (k.1, k.0, met l o u k.0)
        | inr k ↦ inl (k.1, k.0, filter_no rising l (z, c) (and_r (le z.score (word 0)) _ k.0) ∙ o)
      ]
  cells_step l n f (inr (u, b, o)) =
      elim (side (bare c) n) [
        | inl k ↦ inr (k.1, k.0, kept l o u)
        | inr k ↦ absurd (true≢false (sym (fell_is x.search z c e ∙ or_r x.search.fall _ (both_true _ _ (sym above_z ∙ b) k.1)) ∙ f))
      ]

some : (k n : ℕ) → k ≡ n + 1 → 1 ≤ k
some k n e = omega arith

population_step : (a : Conditional) (t : List Conditional) (x : State) (c : Conditional) → Screened a t x → 9 ≤ length (push t c) + 1 → (screened x c).blocks.population ≡ (at (a ∷ push t c) 8).rows
unfolding grid_sources
population_step a t x c i h =
    elim (or_not (eqb x.search.count 8)) [
      | inl e ↦ ap (λ v. from (pick v 3 0) c.rows x.blocks) e ∙ (unfold pick from in ap (λ v. v.rows) (sym (ninth (eqb-true x.search.count 8 e))))
      | inr e ↦ ap (λ v. from (pick v 3 0) c.rows x.blocks) e
          ∙ (unfold pick from in i.population (more x.search.count (length t) (length (push t c)) i.count (length_push t c) (eqb-false x.search.count 8 e) h)
          ∙ ap (λ v. v.rows) (sym (get_or-append t (c ∷ []) nowhere 7 (less x.search.count (length t) (length (push t c)) i.count (length_push t c) (eqb-false x.search.count 8 e) h))))
    ]
  where
    seven : (k n : ℕ) → k ≡ n + 1 → k ≡ 8 → n ≡ 7
    seven k n e f = omega arith

    ninth : x.search.count ≡ 8 → at (push t c) 7 ≡ c
    ninth e = subst (λ n. at (push t c) n ≡ c) (seven x.search.count (length t) i.count e) (at_last t c)

    more : (k n m : ℕ) → k ≡ n + 1 → m ≡ n + 1 → (k ≡ 8 → ⊥) → 9 ≤ m + 1 → 9 ≤ n + 1
    more k n m e f g h = omega arith

    less : (k n m : ℕ) → k ≡ n + 1 → m ≡ n + 1 → (k ≡ 8 → ⊥) → 9 ≤ m + 1 → 7 < n
    less k n m e f g h = omega arith

screened_step : (a : Conditional) (t : List Conditional) (x : State) (c : Conditional) → T (num? c.score) → Screened a t x → Screened a (push t c) (screened x c)
unfolding R.screened
screened_step a t x c n i =
    let z = last_from a t in
    let pushed : windows_from a (push t c) ≡ push (windows_from a t) (z, c) = windows_push a t c in
    let one : x.search.first ≡ (R.screened x.search (bare c)).first = sym (keeps_first x.search (bare c) (some x.search.count (length t) i.count)) in
    let fell : R.fell x.search (bare c) ≡ (x.search.fall || falling (z, c)) = fell_is x.search z c i.latest in
    record {
      stage = refl;
      count = ap (λ v. v + 1) (i.count ∙ sym (length_push t c));
      first = sym one ∙ i.first;
      latest = ap bare (sym (last_push a t c));
      latest_rows = (unfold grid_sources from pick in ap (λ v. v.rows) (sym (last_push a t c)));
      population = population_step a t x c i;
      fall = fell ∙ ap (λ v. v || falling (z, c)) i.fall ∙ sym (any_push falling (windows_from a t) (z, c)) ∙ ap (any falling) (sym pushed);
      cells =
          λ p q. subst (λ v. Cells (screened x c) (filter rising v)) (sym pushed)
          (cells_step x z c i.latest i.latest_rows (windows_from a t) n q (i.cells (ap (le R.nought) one ∙ p) (or_l _ _ (sym fell ∙ q))));
    }

screened_first : (c : Conditional) → T (num? c.score) → Screened c [] (screened begin c)
unfolding R.screened R.start R.first_score R.fell R.is_above any windows_from filter last_from Cells pick of_bits lt grid_sources from
screened_first c n =
    record {
      stage = refl;
      count = refl;
      first = refl;
      latest = refl;
      latest_rows = refl;
      population = λ h. absurd (apart h);
      fall = refl;
      cells = λ p q. elim (side (bare c) n) [
        | inl k ↦ absurd (true≢false (sym (true_of (le R.nought c.score) (lt→le R.nought c.score (of_true (lt R.nought c.score) k.0))) ∙ p))
        | inr k ↦ inl (k.1, k.0, refl)
      ];
    }
  where
    apart : 9 ≤ 1 → ⊥
    apart h = omega arith

-- ---- the rest of the source's run
abbrev grid_body : Settings → ℕ → List Conditional → Run Float Conditional (Flow (List Conditional))
grid_body s point grid = ask (neg s.eta_bound +ᶠ s.eta_bound *ᶠ of_int binary64 (pos point) /ᶠ word 0x4020_0000_0000_0000) done >>= λ value. done (Runs.next (push grid value))

abbrev starting : Settings → List ℕ → Pair → Tree
starting s p e = warmed s p (e.0, e.1, pick (lt (abs e.0.score) (abs e.1.score)) e.0 e.1)

abbrev choosing : Settings → List ℕ → List Pair → Bool → Tree
choosing s p upward falls = err (not (eqb (length upward) 1) || falls) 14 >> starting s p (first_of upward)

abbrev testing : Settings → List Conditional → Tree
testing s grid = err (le (word 0) (at grid 0).score || le (at grid 16).score (word 0)) 13 >> choosing s (at grid 8).rows (filter rising (windows grid)) (any falling (windows grid))

mode_is : (s : Settings) → mode s ≡ (for 17 [] (grid_body s) >>= testing s)
unfolding mode
mode_is s = refl

unfoldable pub Fine : List Conditional → Conditional → Type 0
Fine g c = length g < 17 → T (not (is_nan c.score))

module _ (s : Settings) where
  -- a test of the source
  refuses : (b : Bool) (n : ℕ) (r : Tree) (g : List Conditional) → b ≡ true → told s g ≡ refused n → Ok s Fine (err b n >> r) g
  unfolding Tells ◌>>=◌
  refuses b n r g e t = subst (λ v. Ok s Fine (v >>= λ u. r) g) (sym (pick_yes b (stop n) (done tt) e)) t

  passes : (b : Bool) (n : ℕ) (r : Tree) (g : List Conditional) → b ≡ false → Ok s Fine r g → Ok s Fine (err b n >> r) g
  unfolding Tells ◌>>=◌
  passes b n r g e t = subst (λ v. Ok s Fine (v >>= λ u. r) g) (sym (pick_no b (stop n) (done tt) e)) t

  told_at : (g : List Conditional) (y : State) (q : Request Float) → led s g ≡ y → R.request s y.search ≡ q → told s g ≡ told_by q (y.search.best, y.blocks.best, y.blocks.population)
  told_at g y q l e = at_says s Fine {g = g} {x = y} (record { leads = l }) e

  abbrev chose : State → State
  chose x = record { search = R.chosen s x.search; blocks = x.blocks }

  -- what the rules say with all 17 points
  full : (x : Search) → x.stage ≡ Grid → x.count ≡ 17 → R.request s x ≡ pick (le R.nought x.first) (Refused 13) (pick (R.is_under x.latest) (Refused 13) (Refused 14))
  unfolding R.request_at
  full x e k = ap (λ v. R.request_at v s x) e ∙ pick_no _ _ _ (le-ltb x.count 17 (omega arith))

  -- the search in its cell
  entering : (x : State) (l : List Pair) (o : One x l) (p : List ℕ) → x.blocks.population ≡ p → let best = pick (lt (abs o.left.score) (abs o.right.score)) o.left o.right in
      ◌≡◌ {A = State} (record { search = R.entered s x.search; blocks = x.blocks })
      (in_stage x.search x.blocks.latest p (R.first_stage s (bare o.left) (bare o.right)) 0 (o.left, o.right, best))
  unfolding R.entered R.is_closer
  entering x l o p e =
      state_eq (at_cell o.is_left o.is_right ∙ (λ k. record {
        stage = R.first_stage s (bare o.left) (bare o.right);
        count = 0;
        first = x.search.first;
        latest = x.search.latest;
        fall = x.search.fall;
        left = bare o.left;
        right = bare o.right;
        best = bare_pick (lt (abs o.left.score) (abs o.right.score)) o.left o.right k;
      })) (λ k. record { population = e k; best = o.rows k; latest = x.blocks.latest })
    where
      cell : C.Conditional → C.Conditional → Search
      cell l r = record {
        stage = R.first_stage s l r;
        count = 0;
        first = x.search.first;
        latest = x.search.latest;
        fall = x.search.fall;
        left = l;
        right = r;
        best = pick (lt (abs l.score) (abs r.score)) l r;
      }

      at_cell : {l m r n : C.Conditional} → l ≡ m → r ≡ n → cell l r ≡ cell m n
      at_cell e f = ap₂ cell e f

  -- the last point is evaluated
  module _ (a : Conditional) (t : List Conditional) (x : State) (i : Screened a t x) (e : length t ≡ 16) (l : led s (a ∷ t) ≡ chose x) where
    abbrev g : List Conditional
    g = a ∷ t

    abbrev y : Search
    y = x.search

    count : y.count ≡ 17
    count = i.count ∙ ap (λ v. v + 1) e

    first : le (word 0) (at g 0).score ≡ le R.nought y.first
    first = ap (le (word 0)) (sym i.first)

    latest : le (at g 16).score (word 0) ≡ R.is_under y.latest
    unfolding R.is_under
    latest = ap (λ v. le v.score (word 0)) (subst (λ n. at g n ≡ last_from a t) e (last_at a t)) ∙ ap (λ v. le v.score (word 0)) (sym i.latest)

    fall : any falling (windows g) ≡ y.fall
    unfolding windows
    fall = sym i.fall

    bad : Bad y → chose x ≡ x
    bad b = state_eq (stays_bad s y b) refl

    abbrev rest : Tree
    rest = choosing s (at g 8).rows (filter rising (windows g)) (any falling (windows g))

    abbrev onward : Tree
    onward = starting s (at g 8).rows (first_of (filter rising (windows g)))

    single_cell : (l : List Pair) (o : One x l) → y.fall ≡ false → led s g ≡ record { search = R.entered s y; blocks = x.blocks }
        → Ok s Fine (choosing s (at g 8).rows l (any falling (windows g))) g
    single_cell l o f c =
        passes _ 14 _ g (ap₂ (λ v w. not (eqb (length v) 1) || w) o.single (fall ∙ f))
        (subst (λ v. Ok s Fine (starting s (at g 8).rows (first_of v)) g) (sym o.single)
        (enters s Fine (at g 8).rows x.blocks.latest y _ g (record { leads = c ∙ entering x l o (at g 8).rows (i.population (omega arith)) })))

    tested : Ok s Fine (testing s g) g
    unfolding Bad told_by Cells windows
    tested =
        elim (or_not (le R.nought y.first)) [
          | inl p ↦ refuses _ 13 rest g (ap (λ v. v || le (at g 16).score (word 0)) (first ∙ p)) (told_at g x (Refused 13) (l ∙ bad (inl p)) (full y i.stage count ∙ pick_yes _ _ _ p))
          | inr p ↦ elim (or_not (R.is_under y.latest)) [
            | inl u ↦ refuses _ 13 rest g (or_r (le (word 0) (at g 0).score) _ (latest ∙ u))
                (told_at g x (Refused 13) (l ∙ state_eq (stays_under s y u) refl) (full y i.stage count ∙ pick_no _ _ _ p ∙ pick_yes _ _ _ u))
            | inr u ↦ passes _ 13 rest g (ap₂ (λ v w. v || w) (first ∙ p) (latest ∙ u)) (elim (or_not y.fall) [
              | inl f ↦ refuses _ 14 onward g (or_r (not (eqb (length (filter rising (windows g))) 1)) _ (fall ∙ f))
                  (told_at g x (Refused 14) (l ∙ bad (inr f)) (full y i.stage count ∙ pick_no _ _ _ p ∙ pick_no _ _ _ u))
              | inr f ↦ elim (i.cells p f) [
                | inl k ↦ absurd (true≢false (sym k.0 ∙ u))
                | inr k ↦ single_cell (filter rising (windows g)) k.2 f (l ∙ state_eq (S.enters s y (omega arith) p u f (ap R.is_above k.2.is_right ∙ k.2.rises)) refl)
              ]
            ])
          ]
        ]

  point : (x : Search) (i : ℕ) → x.stage ≡ Grid → x.count ≡ i → i < 17 → R.request s x ≡ Point (R.grid_point s.eta_bound i)
  unfolding R.request_at
  point x i e k h =
      ap (λ v. R.request_at v s x) e
      ∙ ap (λ v. pick (ltb v 17) (Point (R.grid_point s.eta_bound v)) (pick (le R.nought x.first) (Refused 13) (pick (R.is_under x.latest) (Refused 13) (Refused 14)))) k
      ∙ pick_yes _ _ _ (lt-ltb i 17 h)

  -- one more grid point
  stepped : (x : State) (c : Conditional) → x.search.stage ≡ Grid → x.search.count < 17 → step s x c ≡ chose (screened x c)
  unfolding sources1 sources_at
  stepped x c e k = state_eq (next s x.search (bare c) e k) (ap (λ v. moved (sources_at v x.search (bare c)) c.rows x.blocks) e)

  screens : (n i : ℕ) (a : Conditional) (t : List Conditional) (x : State) → Screened a t x → i ≡ length t + 1 → i + n ≡ 17 → led s (a ∷ t) ≡ chose x
      → Ok s Fine (rounds (grid_body s) i n (a ∷ t) >>= testing s) (a ∷ t)
  unfolding rounds ◌>>=◌ turn Tells Fine told_by R.grid_point
  screens zero i a t x v e k l = tested a t x v (omega arith) l
  screens (suc n) i a t x v e k l =
      let c = v.count in
      let w : led s (a ∷ t) ≡ x = l ∙ state_eq (stays s x.search (omega arith)) refl in (
        told_at (a ∷ t) x _ w (point x.search i v.stage (c ∙ sym e) (omega arith)),
        λ c f. screens n (i + 1) a (push t c) (screened x c) (screened_step a t x c (f (omega arith)) v) (ap (λ v. v + 1) (e ∙ sym (length_push t c))) (omega arith)
            (led_push (step s) begin (a ∷ t) c ∙ ap (λ v. step s v c) w ∙ stepped x c v.stage (omega arith)),
      )

  pub tells : Ok s Fine (mode s) []
  unfolding rounds ◌>>=◌ turn Tells Fine told_by R.grid_point led_from mode
  tells = (
    told_at [] begin _ refl (point R.start 0 (unfold R.start in refl) (unfold R.start in refl) (omega arith)),
    λ c f. screens 16 1 c [] (screened begin c) (screened_first c (f (omega arith))) refl refl (stepped begin c (unfold R.start in refl) (unfold R.start in omega arith)),
  )
