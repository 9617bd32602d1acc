-- How many points a search may still ask for, from any position that 19 lets pass and whatever its floats, and which numbers it may end with. Assumes nothing.
use mathlib.Core.Path.{◌≡◌, refl, sym, ◌∙◌}
use mathlib.Core.Bool.{Bool, true, false}
use mathlib.Core.List.{List}
use Prim.Native.Nat.{ℕ, ◌+◌, ◌-◌, ◌*◌, ◌≤◌, ◌<◌}
use native.Mathlib.Omega.{arith}
use borrow.Author.Tests.{ltb-true}
use lib.Dec.{T, ltb, eqb, lit<}
use lib.Ieee.{Float, le}
use lib.ListN.{length}
use Rattle.float64.specs.Arithmetic.{word}
use Rattle.float64.specs.Pick.{pick, both, cases, pick_yes, pick_no}
use Rattle.matrix.specs.Matrix.{Inverse, some, none, inverse_positive}
use Rattle.matrix.specs.declared.Pair.{Pair}
use Rattle.mode.specs.Rules.{request_at, request, advance, start}
use Rattle.mode.specs.declared.population_focei.Conditional.{Conditional}
use Rattle.mode.specs.declared.population_focei.Search.{Search}
use Rattle.mode.specs.declared.population_focei.Settings.{Settings}
use Rattle.mode.specs.declared.population_focei.Stage.{Stage}
use Rattle.mode.specs.declared.population_focei.Stage.TheVariants.{Grid, Warm, Secant, Halving}
use Rattle.mode_2d.specs.Rules as R2
use Rattle.mode_2d.specs.declared.population_focei_2d.Conditional2.{Conditional2}
use Rattle.mode_2d.specs.declared.population_focei_2d.NewtonStep.{NewtonStep}
use Rattle.mode_2d.specs.declared.population_focei_2d.Search2.{Search2}
use Rattle.mode_2d.specs.declared.population_focei_2d.Settings2.{Settings2}
use Rattle.mode_2d.specs.declared.population_focei_2d.Stage2.{Stage2}
use Rattle.mode_2d.specs.declared.population_focei_2d.Stage2.TheVariants.{Zero, Start, Trial, Found, Halted}
use Rattle.mode_theorems.proofs.Count.{Room, RoomOf, room_pos, room_step}
use Rattle.mode_theorems.proofs.Count2.{reduction_ge}
use Rattle.mode_theorems.proofs.Trials.{is_point}
use Rattle.subject.specs.declared.Sums.{Sums}
use Rattle.search.specs.Subjects as B
use Rattle.search.specs.declared.Fit.{Fit}
use Rattle.search.specs.declared.Progress.{Progress}
use Rattle.population.specs.Population.{rows_of}
use Rattle.session.specs.Session.{count_within, search_within, search_within2, is_placed}
use Rattle.setup.proofs.Bounds.{not_first}
use Rattle.session_theorems.proofs.FirstSearch.{first_one, first_two}
use Rattle.session_theorems.proofs.Plain.{false_not_true, only_first}
use Rattle.mode.specs.declared.Request.{Request}
use Rattle.mode.specs.declared.Request.TheVariants as Asks

-- ---- what a search wants: for a point one of the m that are left goes, and A holds then; N is asked of a refusal's number
unfoldable pub Goes : ℕ → Type 0 → Request Pair → Type 0
Goes m A (Asks.Point eta) = (1 ≤ m) × A
Goes m A Asks.Mode = Unit
Goes m A (Asks.Refused n) = Unit

unfoldable pub Numbered : (ℕ → Type 0) → Request Pair → Type 0
Numbered N (Asks.Point eta) = Unit
Numbered N Asks.Mode = Unit
Numbered N (Asks.Refused n) = N n

goes_map : {A C : Type 0} (m : ℕ) → (A → C) → (v : Request Pair) → Goes m A v → Goes m C v
unfolding Goes
goes_map m f (Asks.Point eta) g = (g.0, f g.1)
goes_map m f Asks.Mode g = tt
goes_map m f (Asks.Refused n) g = tt

-- ---- one effect
one_within : (st : Stage) (i : ℕ) → count_within st i ≡ true → Room st i 6343
unfolding count_within
one_within Grid i e = let l : i < 18 = ltb-true _ _ e in (omega arith, omega arith)
one_within Warm i e = omega arith
one_within Secant i e = let l : i < 16 = ltb-true _ _ e in (omega arith, omega arith)
one_within Halving i e = omega arith

goes1 : (s : Settings) (x : Search) (m : ℕ) → RoomOf m x → Goes m ((c : Conditional) → RoomOf (m - 1) (advance s x c)) (B.wants1 (request s x))
goes1 s x m r = by (request s x) (λ p. (room_pos x.stage s x m r p, λ c. room_step x.stage s x c m r p))
  where
    by : {A : Type 0} (q : Request Float) → (T (is_point q) → (1 ≤ m) × A) → Goes m A (B.wants1 q)
    by (Asks.Point eta) f = unfold Goes in f tt
    by Asks.Mode f = unfold Goes in tt
    by (Asks.Refused n) f = unfold Goes in tt

module _ (N : ℕ → Type 0) (known : (n : ℕ) → 13 ≤ n → n ≤ 16 → N n) where
  abbrev Known : Request Float → Type 0
  Known q = Numbered N (B.wants1 q)

  numbered1 : (st : Stage) (s : Settings) (x : Search) → Numbered N (B.wants1 (request_at st s x))
  unfolding request_at Numbered
  numbered1 Grid s x = both Known _ tt (both Known _ (known 13 (omega arith) (omega arith)) (both Known _ (known 13 (omega arith) (omega arith)) (known 14 (omega arith) (omega arith))))
  numbered1 Warm s x = tt
  numbered1 Secant s x = both Known _ tt tt
  numbered1 Halving s x = both Known _ tt (both Known _ tt (known 15 (omega arith) (omega arith)))

-- ---- two effects, from any seed, round and reduction: at most n more are asked
record InTrial (k r j n : ℕ) : Type 0 where
  left : 22 - j + (47 - r) * 22 + (5 - k) * 1057 ≤ n
  reduction : j < 22
  round : r < 48

abbrev Room2 : Stage2 → ℕ → ℕ → ℕ → ℕ → Type 0
Room2 Zero k r j n = 6343 ≤ n
Room2 Start k r j n = 1057 + (5 - k) * 1057 ≤ n
Room2 Trial k r j n = InTrial k r j n
Room2 Found k r j n = Unit
Room2 (Halted i) k r j n = Unit

abbrev RoomOf2 : ℕ → Search2 → Type 0
RoomOf2 n x = Room2 x.stage x.seed x.round x.reduction n

two_within : (st : Stage2) (k r j : ℕ) → r < 48 → j < 22 → Room2 st k r j 6343
two_within Zero k r j a b = omega arith
two_within Start k r j a b = omega arith
two_within Trial k r j a b = record { left = omega arith; reduction = b; round = a }
two_within Found k r j a b = tt
two_within (Halted i) k r j a b = tt

-- what 19 asks of the search: with two effects where the test holds
pub StandsBy : Bool → ℕ → Progress → Type 0
StandsBy true m p = RoomOf2 m (B.two_of p.search)
StandsBy false m p = RoomOf m (B.one_of p.search)

module _ (N : ℕ → Type 0) (known : (n : ℕ) → 13 ≤ n → n ≤ 16 → N n) where
  abbrev Ended : Stage2 → Type 0
  Ended Zero = Unit
  Ended Start = Unit
  Ended Trial = Unit
  Ended Found = Unit
  Ended (Halted i) = N i

  abbrev Left2 : ℕ → Search2 → Type 0
  Left2 n x = RoomOf2 n x × Ended x.stage

  -- the rounds of a start are over
  finish_left : (s : Settings2) (k : ℕ) (c b : Conditional2) (n : ℕ) → (5 - k) * 1057 ≤ n → Left2 n (R2.finish s k c b)
  unfolding R2.finish R2.between
  finish_left s k c b n h =
      cases (Left2 n) (R2.is_unresolved s c) {x = R2.between (Halted 13) k c b} (λ _. (tt, known 13 (omega arith) (omega arith)))
      (λ _. cases (Left2 n) (R2.is_far k c b) {x = R2.between (Halted 14) k c b} (λ _. (tt, known 14 (omega arith) (omega arith)))
      (λ _. cases (Left2 n) (ltb k 5) {x = R2.between Start (k + 1) c (R2.better s k c b)} {y = R2.between Found 6 c (R2.better s k c b)}
      (λ e. (let l : k < 5 = ltb-true k 5 e in omega arith, tt)) (λ _. (tt, tt))))

  module _ (s : Settings2) (k r j : ℕ) (c b : Conditional2) (n : ℕ) (R : r < 48) (h : 22 - j + (47 - r) * 22 + (5 - k) * 1057 ≤ n) where
    try_left : (step : NewtonStep) → Left2 n (R2.try_from s k r j c b step)
    unfolding R2.try_from R2.trying
    try_left step =
        let i = R2.next_reduction s.eta_bound step (22 - j) j in
        cases (Left2 n) (ltb i 22) {x = R2.trying k r i c b step (R2.trial_point s.eta_bound step i)} {y = R2.finish s k c b}
        (λ e. (record { left = later i (reduction_ge s.eta_bound step (22 - j) j); reduction = ltb-true i 22 e; round = R }, tt))
        (λ _. finish_left s k c b n (omega arith))
      where
        later : (i : ℕ) → j ≤ i → 22 - i + (47 - r) * 22 + (5 - k) * 1057 ≤ n
        later i a = omega arith

    descend_left : Left2 n (R2.descend s k r j c b)
    unfolding R2.descend R2.descend_by R2.between
    descend_left = go (inverse_positive (R2.curvature s.precision c.information))
      where
        go : (i : Inverse) → Left2 n (R2.descend_by i s k r j c b)
        go none = (tt, known 16 (omega arith) (omega arith))
        go (some inverse det) = try_left (R2.step_by s c inverse)

  round_left : (s : Settings2) (k r : ℕ) (c b : Conditional2) (n : ℕ) → r < 48 → 22 + (47 - r) * 22 + (5 - k) * 1057 ≤ n → Left2 n (R2.begin_round s k r c b)
  unfolding R2.begin_round
  round_left s k r c b n R h =
      cases (Left2 n) (le (R2.norm s c) (word 0x3ee4_f8b5_88e3_68f1)) {x = R2.finish s k c b} {y = R2.descend s k r 0 c b} (λ _. finish_left s k c b n (omega arith))
      (λ _. descend_left s k r 0 c b n R (omega arith))

  -- a trial is taken, or not
  module _ (s : Settings2) (x : Search2) (c : Conditional2) (n : ℕ) (w : InTrial x.seed x.round x.reduction n) where
    over : (5 - x.seed) * 1057 ≤ n - 1
    over = go x.seed x.round x.reduction w.left w.reduction
      where
        go : (k r j : ℕ) → 22 - j + (47 - r) * 22 + (5 - k) * 1057 ≤ n → j < 22 → (5 - k) * 1057 ≤ n - 1
        go k r j a b = omega arith

    take_left : Left2 (n - 1) (R2.take s x c)
    unfolding R2.take
    take_left =
        cases (Left2 (n - 1)) (ltb x.round 47) {x = R2.begin_round s x.seed (x.round + 1) c x.best} {y = R2.finish s x.seed c x.best}
        (λ e. let g = go x.seed x.round x.reduction w.left w.reduction (ltb-true x.round 47 e) in round_left s x.seed (x.round + 1) c x.best (n - 1) g.1 g.0)
        (λ _. finish_left s x.seed c x.best (n - 1) over)
      where
        go : (k r j : ℕ) → 22 - j + (47 - r) * 22 + (5 - k) * 1057 ≤ n → j < 22 → r < 47 → (22 + (47 - (r + 1)) * 22 + (5 - k) * 1057 ≤ n - 1) × (r + 1 < 48)
        go k r j a b c = (omega arith, omega arith)

    leave_left : Left2 (n - 1) (R2.leave s x)
    unfolding R2.leave
    leave_left =
        cases (Left2 (n - 1)) (ltb x.reduction 21) {x = R2.descend s x.seed x.round (x.reduction + 1) x.current x.best} {y = R2.finish s x.seed x.current x.best}
        (λ e. descend_left s x.seed x.round (x.reduction + 1) x.current x.best (n - 1) w.round (go x.seed x.round x.reduction w.left (ltb-true x.reduction 21 e)))
        (λ _. finish_left s x.seed x.current x.best (n - 1) over)
      where
        go : (k r j : ℕ) → 22 - j + (47 - r) * 22 + (5 - k) * 1057 ≤ n → j < 21 → 22 - (j + 1) + (47 - r) * 22 + (5 - k) * 1057 ≤ n - 1
        go k r j a b = omega arith

  goes_at : (st : Stage2) (s : Settings2) (x : Search2) (m : ℕ) → Room2 st x.seed x.round x.reduction m
      → Goes m ((c : Conditional2) → Left2 (m - 1) (R2.advance_at st s x c)) (B.wants2 (R2.request_at st s x))
  unfolding Goes R2.request_at R2.advance_at R2.between
  goes_at Zero s x m r = (omega arith, λ c. (omega arith, tt))
  goes_at Start s x m r = (go x.seed r, λ c. round_left s x.seed 0 c x.best (m - 1) (lit< tt) (on x.seed r))
    where
      go : (k : ℕ) → 1057 + (5 - k) * 1057 ≤ m → 1 ≤ m
      go k h = omega arith

      on : (k : ℕ) → 1057 + (5 - k) * 1057 ≤ m → 22 + (47 - 0) * 22 + (5 - k) * 1057 ≤ m - 1
      on k h = omega arith
  goes_at Trial s x m r = (
    go x.seed x.round x.reduction r.left r.reduction,
    λ c. cases (Left2 (m - 1)) (R2.is_taken s x c) {x = R2.take s x c} {y = R2.leave s x} (λ _. take_left s x c m r) (λ _. leave_left s x c m r),
  )
    where
      go : (k r j : ℕ) → 22 - j + (47 - r) * 22 + (5 - k) * 1057 ≤ m → j < 22 → 1 ≤ m
      go k r j a b = omega arith
  goes_at Found s x m r = tt
  goes_at (Halted i) s x m r = tt

  numbered2 : (st : Stage2) (s : Settings2) (x : Search2) → Ended st → Numbered N (B.wants2 (R2.request_at st s x))
  unfolding Numbered R2.request_at
  numbered2 Zero s x h = tt
  numbered2 Start s x h = tt
  numbered2 Trial s x h = tt
  numbered2 Found s x h = tt
  numbered2 (Halted i) s x h = h

  -- ---- either: with two effects where the test holds
  pub LeftBy : Bool → ℕ → Progress → Type 0
  LeftBy true m p = Left2 m (B.two_of p.search)
  LeftBy false m p = RoomOf m (B.one_of p.search)

  pub stands : (b : Bool) (m : ℕ) (p : Progress) → LeftBy b m p → StandsBy b m p
  unfolding StandsBy LeftBy
  stands true m p l = l.0
  stands false m p l = l

  -- where any number will do
  pub lifts : ((n : ℕ) → N n) → (b : Bool) (m : ℕ) (p : Progress) → StandsBy b m p → LeftBy b m p
  unfolding StandsBy LeftBy
  lifts any true m p l = (l, at (B.two_of p.search).stage)
    where
      at : (st : Stage2) → Ended st
      at Zero = tt
      at Start = tt
      at Trial = tt
      at Found = tt
      at (Halted i) = any i
  lifts any false m p l = l

  pub points : (fit : Fit) (p : Progress) (m : ℕ) → StandsBy (eqb fit.effects 2) m p
      → Goes m ((eta : Pair) (sums : Sums) → LeftBy (eqb fit.effects 2) (m - 1) (B.advance_by fit p eta sums).progress) (B.wanted_by fit p)
  unfolding StandsBy LeftBy B.wanted_by B.advance_by pick B.advance1 B.advance2 B.with_search B.wanted1 B.wanted2
  points fit p m r = go (eqb fit.effects 2) r
    where
      go : (b : Bool) → StandsBy b m p
          → Goes m ((eta : Pair) (sums : Sums)
          → LeftBy b (m - 1) (pick b (B.advance2 (B.settings2 fit p) p (B.conditional2 eta sums)) (B.advance1 (B.settings fit p) p (B.conditional1 fit eta sums))).progress)
          (pick b (B.wanted2 (B.settings2 fit p) (B.two_of p.search)) (B.wanted1 (B.settings fit p) (B.one_of p.search)))
      go true r = goes_map m (λ f eta sums. f (B.conditional2 eta sums)) _ (goes_at (B.two_of p.search).stage (B.settings2 fit p) (B.two_of p.search) m r)
      go false r = goes_map m (λ f eta sums. f (B.conditional1 fit eta sums)) _ (goes1 (B.settings fit p) (B.one_of p.search) m r)

  pub refusals : (fit : Fit) (p : Progress) (m : ℕ) → LeftBy (eqb fit.effects 2) m p → Numbered N (B.wanted_by fit p)
  unfolding LeftBy B.wanted_by B.wanted1 B.wanted2 pick
  refusals fit p m l = go (eqb fit.effects 2) l
    where
      go : (b : Bool) → LeftBy b m p → Numbered N (pick b (B.wants2 (R2.request (B.settings2 fit p) (B.two_of p.search))) (B.wants1 (request (B.settings fit p) (B.one_of p.search))))
      go true l = numbered2 (B.two_of p.search).stage (B.settings2 fit p) (B.two_of p.search) l.1
      go false l = numbered1 N known (B.one_of p.search).stage (B.settings fit p) (B.one_of p.search)

  -- a search that has asked nothing
  pub begins : (b : Bool) (effects subject first : ℕ) (warm : Pair) (ofv squares : Float) → LeftBy b 6343 (B.begin_subject effects subject first warm ofv squares)
  unfolding LeftBy B.begin_subject start R2.start R2.between
  begins true effects subject first warm ofv squares = first_two (Left2 6343) effects (omega arith, tt)
  begins false effects subject first warm ofv squares = first_one (RoomOf 6343) effects (omega arith, omega arith)

  -- one that 19 lets pass, among the subjects
  pub placed : (effects : ℕ) (counts : List ℕ) (n : ℕ) (p : Progress) → is_placed effects counts n p ≡ true → (p.subject < length counts) × StandsBy (eqb effects 2) 6343 p
  unfolding StandsBy is_placed search_within search_within2
  placed effects counts n p e =
      let inside = only_first (ltb p.subject (length counts)) _ e in
      let search = (not_first (ltb n (p.first + rows_of counts p.subject)) _ false_not_true inside.1).1 in
      (ltb-true _ _ inside.0, by (eqb effects 2) search)
    where
      by : (b : Bool) → pick b (search_within2 (B.two_of p.search)) (search_within (B.one_of p.search)) ≡ true → StandsBy b 6343 p
      by true e =
          let seed = only_first _ _ (sym (pick_yes true _ _ refl) ∙ e) in
          let round = only_first _ _ seed.1 in
          two_within (B.two_of p.search).stage _ _ _ (ltb-true _ _ round.0) (ltb-true _ _ round.1)
      by false e = one_within (B.one_of p.search).stage _ (sym (pick_no false _ _ refl) ∙ e)
