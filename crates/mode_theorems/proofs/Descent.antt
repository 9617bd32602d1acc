-- A trial that is taken never raises joint, and what is to come of a search ends below where it stands. Assumes nothing.
use mathlib.Core.Path.{◌≡◌, refl, sym, ap, ◌∙◌, subst}
use mathlib.Core.Logic.{◌⊎◌, inl, inr}
use mathlib.Core.Bool.{Bool, true, false, not, true≢false}
use mathlib.Core.List.{List, [], ◌∷◌, ◌++◌, Memᴰ}
use Prim.Native.Nat.{ℕ, zero, suc, ◌+◌, ◌-◌, ◌≤◌, ◌<◌}
use native.Mathlib.Omega.{arith}
use lib.ListN.{length}
use lib.Dec.{T, ltb, eqb, eqb→eq, lt→ltb, ltb→lt}
use lib.Ieee.{Float, binary64, of_bits, lt, le, is_nan}
use lib.Ieee.Positive.{positive}
use borrow.Author.Tests.{ltb-true, ltb-false}
use Rattle.float64.specs.Arithmetic.{word}
use Rattle.float64.specs.Pick.{pick, both, cases}
use Rattle.float64.proofs.Order.{num?, le_trans, le_refl_num, lt→le, total, le_or_gt, of_true}
use Rattle.float64.proofs.Monotone.{descent}
use Rattle.matrix.specs.Matrix.{Inverse, some, none, inverse_positive}
use Rattle.mode_2d.specs.declared.population_focei_2d.Settings2.{Settings2}
use Rattle.mode_2d.specs.declared.population_focei_2d.Conditional2.{Conditional2}
use Rattle.mode_2d.specs.declared.population_focei_2d.NewtonStep.{NewtonStep}
use Rattle.mode_2d.specs.declared.population_focei_2d.Stage2.{Stage2}
use Rattle.mode_2d.specs.declared.population_focei_2d.Stage2.TheVariants.{Zero, Start, Trial, Found, Halted}
use Rattle.mode_2d.specs.declared.population_focei_2d.Search2.{Search2}
use Rattle.mode_2d.specs.Rules.{nought, between, trying, finish, try_from, descend_by, descend, begin_round, take, leave, next_reduction, trial_point, decrease, is_same, is_passed_over, is_unresolved, is_far}
use Rattle.mode_2d.specs.Rules.{better, norm, curvature, step_by, is_taken}
use Rattle.mode_theorems.specs.Terms2 as W
use Rattle.mode_theorems.specs.Terms2.{etas, joint, NoHigher}
use Rattle.mode_theorems.specs.History2.{with_candidate}
use Rattle.mode_theorems.specs.Claim2.{EachNoHigher, Runs, Divided}
use Rattle.mode_theorems.proofs.Words2.{start_points_from, taken_is, better_by}
use Rattle.mode_theorems.proofs.Joint.{joint_fits}

-- ---- a taken trial
above_or_nan : (x : Float) → le x nought ≡ false → T (lt nought x) ⊎ T (is_nan x)
above_or_nan x e = go (is_nan x) (λ (h : T (num? x)). le_or_gt x nought h (unfold of_bits is_nan in tt))
  where
    over : T (le x nought) ⊎ T (lt nought x) → T (lt nought x)
    over (inl h) = absurd (subst T e h)
    over (inr h) = h

    go : (t : Bool) → (T (not t) → T (le x nought) ⊎ T (lt nought x)) → T (lt nought x) ⊎ T t
    go true g = inr tt
    go false g = inl (over (g tt))

rate_positive : T (positive (word 0x3f1a_36e2_eb1c_432d))
unfolding of_bits
rate_positive = tt

pub taken_no_higher : (s : Settings2) (x : Search2) (c : Conditional2) → le x.decrease nought ≡ false → is_taken s x c ≡ true → NoHigher s c x.current
unfolding of_bits
taken_no_higher s x c p q =
    descent binary64 (word 0x3f1a_36e2_eb1c_432d) (joint s c) (joint s x.current) x.decrease rate_positive (joint_fits s x.current)
    (above_or_nan x.decrease p) (of_true _ (sym (taken_is s x c) ∙ q))

-- ---- the trial that is asked for is not passed over
not_passed : (l : Float) (step : NewtonStep) (j : ℕ) → is_passed_over l step j ≡ false → le (decrease step (trial_point l step j)) nought ≡ false
unfolding is_passed_over pick
not_passed l step j e = go (is_same (trial_point l step j) step.eta) _ e
  where
    go : (t u : Bool) → pick t true u ≡ false → u ≡ false
    go true u e = absurd (true≢false e)
    go false u e = e

reduction_stops : (l : Float) (step : NewtonStep) (n j : ℕ) → next_reduction l step n j < n + j → is_passed_over l step (next_reduction l step n j) ≡ false
unfolding next_reduction pick
reduction_stops l step zero j h = absurd (omega (arith, h))
reduction_stops l step (suc n) j h = go (is_passed_over l step j) refl (λ i. reduction_stops l step n (j + 1) i) h
  where
    on : (i n j : ℕ) → i < suc n + j → i < n + (j + 1)
    on i n j h = omega arith

    go : (t : Bool) → is_passed_over l step j ≡ t → (next_reduction l step n (j + 1) < n + (j + 1) → is_passed_over l step (next_reduction l step n (j + 1)) ≡ false)
        → pick t (next_reduction l step n (j + 1)) j < suc n + j → is_passed_over l step (pick t (next_reduction l step n (j + 1)) j) ≡ false
    go true e f h = f (on (next_reduction l step n (j + 1)) n j h)
    go false e f h = e

-- ---- the better of two
better_than_new : (s : Settings2) (k : ℕ) (c b : Conditional2) → T (num? (joint s c)) → T (num? (joint s b)) → NoHigher s (better s k c b) c
unfolding W.better pick
better_than_new s k c b p q = subst (λ (z : Conditional2). NoHigher s z c) (sym (better_by s k c b)) (go (eqb k 0) (lt (joint s c) (joint s b)) (total (joint s c) (joint s b) p q))
  where
    go : (t u : Bool) → (T (not u) → T (le (joint s b) (joint s c))) → T (le (joint s (pick t c (pick u c b))) (joint s c))
    go true u h = le_refl_num (joint s c) p
    go false true h = le_refl_num (joint s c) p
    go false false h = h tt

better_than_old : (s : Settings2) (k : ℕ) (c b : Conditional2) → 0 < k → T (num? (joint s b)) → NoHigher s (better s k c b) b
unfolding W.better pick
better_than_old s k c b z q =
    subst (λ (z : Conditional2). NoHigher s z b) (sym (better_by s k c b))
    (go (eqb k 0) (lt (joint s c) (joint s b)) (λ (h : T (eqb k 0)). none (eqb→eq k 0 h)) (lt→le (joint s c) (joint s b)))
  where
    none : k ≡ 0 → ⊥
    none e = omega (arith, z, e)

    go : (t u : Bool) → (T t → ⊥) → (T u → T (le (joint s c) (joint s b))) → T (le (joint s (pick t c (pick u c b))) (joint s b))
    go true u n h = absurd (n tt)
    go false true n h = h tt
    go false false n h = le_refl_num (joint s b) q

-- what holds of both holds of the better
better_has : (P : Conditional2 → Type 0) (s : Settings2) (k : ℕ) (c b : Conditional2) → P c → P b → P (better s k c b)
unfolding better
better_has P s k c b p q = both P (eqb k 0) p (both P _ p q)

-- ---- what holds of a search on its way
pub record OnTrial (s : Settings2) (x : Search2) : Type 0 where
  pub current : T (num? (joint s x.current))
  pub best : T (num? (joint s x.best))
  pub falls : le x.decrease nought ≡ false
  pub seed : x.seed < 6

-- why a search was refused
abbrev pub Why : Settings2 → Search2 → ℕ → Type 0
Why s x n =
    ((n ≡ 13) × (is_unresolved s x.current ≡ true)) ⊎ (((n ≡ 14) × (is_far x.seed x.current x.best ≡ true)) ⊎ ((n ≡ 16) × (inverse_positive (curvature s.precision x.current.information) ≡ none)))

abbrev pub Way : Stage2 → Settings2 → Search2 → Type 0
Way Zero s x = x.seed ≡ 0
Way Start s x = T (num? (joint s x.best)) × (x.seed < 6)
Way Trial s x = OnTrial s x
Way Found s x = Unit
Way (Halted n) s x = Why s x n

abbrev pub OnWay : Settings2 → Search2 → Type 0
OnWay s x = Way x.stage s x

module _ (s : Settings2) (k : ℕ) (c b : Conditional2) (K : k < 6) (p : T (num? (joint s c))) (q : T (num? (joint s b))) where
  finish_way : OnWay s (finish s k c b)
  unfolding finish between
  finish_way =
      cases (OnWay s) (is_unresolved s c) {x = between (Halted 13) k c b} (λ e. inl (refl, e))
      (λ _. cases (OnWay s) (is_far k c b) {x = between (Halted 14) k c b} (λ e. inr (inl (refl, e)))
      (λ _. cases (OnWay s) (ltb k 5) {x = between Start (k + 1) c (better s k c b)} {y = between Found 6 c (better s k c b)}
      (λ e. (better_has (λ (z : Conditional2). T (num? (joint s z))) s k c b p q, next k (ltb-true k 5 e))) (λ _. tt)))
    where
      next : (k : ℕ) → k < 5 → k + 1 < 6
      next k h = omega arith

  try_way : (r j : ℕ) (step : NewtonStep) → OnWay s (try_from s k r j c b step)
  unfolding try_from trying
  try_way r j step =
      let l = s.eta_bound in
      let i = next_reduction l step (22 - j) j in
      cases (OnWay s) (ltb i 22) {x = trying k r i c b step (trial_point l step i)} {y = finish s k c b}
      (λ e. record { current = p; best = q; falls = not_passed l step i (reduction_stops l step (22 - j) j (upto i j (ltb-true i 22 e))); seed = K }) (λ _. finish_way)
    where
      upto : (i j : ℕ) → i < 22 → i < 22 - j + j
      upto i j h = omega arith

  descend_way : (r j : ℕ) → OnWay s (descend s k r j c b)
  unfolding descend descend_by between
  descend_way r j = go (inverse_positive (curvature s.precision c.information)) refl
    where
      go : (i : Inverse) → inverse_positive (curvature s.precision c.information) ≡ i → OnWay s (descend_by i s k r j c b)
      go none e = inr (inr (refl, e))
      go (some inverse det) e = try_way r j (step_by s c inverse)

  pub round_way : (r : ℕ) → OnWay s (begin_round s k r c b)
  unfolding begin_round
  round_way r = cases (OnWay s) (le (norm s c) (word 0x3ee4_f8b5_88e3_68f1)) {x = finish s k c b} {y = descend s k r 0 c b} (λ _. finish_way) (λ _. descend_way r 0)

module _ (s : Settings2) (x : Search2) (i : OnTrial s x) where
  pub take_way : (c : Conditional2) → T (num? (joint s c)) → OnWay s (take s x c)
  unfolding take
  take_way c n =
      cases (OnWay s) (ltb x.round 47) {x = begin_round s x.seed (x.round + 1) c x.best} {y = finish s x.seed c x.best}
      (λ _. round_way s x.seed c x.best i.seed n i.best (x.round + 1)) (λ _. finish_way s x.seed c x.best i.seed n i.best)

  pub leave_way : OnWay s (leave s x)
  unfolding leave
  leave_way =
      cases (OnWay s) (ltb x.reduction 21) {x = descend s x.seed x.round (x.reduction + 1) x.current x.best} {y = finish s x.seed x.current x.best}
      (λ _. descend_way s x.seed x.current x.best i.seed i.current i.best x.round (x.reduction + 1))
      (λ _. finish_way s x.seed x.current x.best i.seed i.current i.best)

-- ---- each candidate, the k-th first, passes 13, and 14 against the best so far, b; and the best of all is m
unfoldable pub Passes : Settings2 → ℕ → Conditional2 → List Conditional2 → Conditional2 → Type 0
Passes s k b [] m = m ≡ b
Passes s k b (c ∷ q) m = (is_unresolved s c ≡ false) × ((is_far k c b ≡ false) × Passes s (k + 1) (better s k c b) q m)

-- ---- what is to come from a search on: m the mode, l the starts, q the candidates, h the history. n starts are left, from the i-th on.
pub record Rest (s : Settings2) (k : ℕ) (b m : Conditional2) (l q : List Conditional2) (n i : ℕ) : Type 0 where
  pub points : etas l ≡ start_points_from s n i
  pub best : 0 < k → NoHigher s m b
  pub pass : Passes s k b q m
  pub total : length q ≡ 6 - k

-- the rest of a run that stands at c, and the runs after it: its candidate is c, or is tried in h
pub record InRun (c : Conditional2) (l q h : List Conditional2) : Type 0 where
  pub candidate : Conditional2
  pub others : List Conditional2
  pub trials : List Conditional2
  pub rest : List Conditional2
  pub is_first : q ≡ candidate ∷ others
  pub split : h ≡ trials ++ rest
  pub member : (candidate ≡ c) ⊎ Memᴰ candidate trials
  pub runs : Runs l others rest

-- it is over at c
run_over : (c : Conditional2) (l q h : List Conditional2) → Runs l q h → InRun c l (c ∷ q) h
run_over c l q h r = record { candidate = c; others = q; trials = []; rest = h; is_first = refl; split = refl; member = inl refl; runs = r }

-- one point earlier, at o: then c was tried, and the run stood at a
run_on : (a o c : Conditional2) (l q h : List Conditional2) → (a ≡ c) ⊎ (a ≡ o) → InRun a l q h → InRun o l q (c ∷ h)
run_on a o c l q h w r = record {
  candidate = r.candidate;
  others = r.others;
  trials = c ∷ r.trials;
  rest = r.rest;
  is_first = r.is_first;
  split = ap (λ (z : List Conditional2). c ∷ z) r.split;
  member = elim r.member [
    | inl e ↦ elim w [ inl f ↦ inr (Memᴰ.head (e ∙ f)) | inr f ↦ inl (e ∙ f) ]
    | inr p ↦ inr (Memᴰ.tail p)
  ];
  runs = r.runs;
}

-- the whole run, from its start c on
pub run_whole : (c : Conditional2) (l q h : List Conditional2) → InRun c l q h → Runs (c ∷ l) q (c ∷ h)
unfolding Runs
run_whole c l q h r =
    subst (λ (z : List Conditional2). Runs (c ∷ l) z (c ∷ h)) (sym r.is_first)
    (r.trials, (r.rest, (ap (λ (z : List Conditional2). c ∷ z) r.split, (elim r.member [ inl e ↦ Memᴰ.head e | inr p ↦ Memᴰ.tail p ], r.runs))))

pub record Begin (s : Settings2) (m : Conditional2) (l q h : List Conditional2) : Type 0 where
  pub held : Conditional2
  pub rest : Rest s 0 held m l q 6 0
  pub each : EachNoHigher s q l
  pub divided : Divided l q h

pub record AtStart (s : Settings2) (k : ℕ) (b m : Conditional2) (l q h : List Conditional2) : Type 0 where
  pub rest : Rest s k b m l q (6 - k) k
  pub each : EachNoHigher s q l
  pub runs : Runs l q h

-- the first candidate to come is that of the rounds that stand at c
pub record InRound (s : Settings2) (k : ℕ) (c b m : Conditional2) (l q h : List Conditional2) : Type 0 where
  pub rest : Rest s k b m l q (5 - k) (k + 1)
  pub current : NoHigher s m c
  pub each : EachNoHigher s q (c ∷ l)
  pub run : InRun c l q h

pub record Done (b m : Conditional2) (l q h : List Conditional2) : Type 0 where
  pub starts : l ≡ []
  pub candidates : q ≡ []
  pub mode : m ≡ b
  pub over : h ≡ []

abbrev pub Ahead : Stage2 → Settings2 → Search2 → Conditional2 → List Conditional2 → List Conditional2 → List Conditional2 → Type 0
Ahead Zero s x m l q h = Begin s m l q h
Ahead Start s x m l q h = AtStart s x.seed x.best m l q h
Ahead Trial s x m l q h = InRound s x.seed x.current x.best m l q h
Ahead Found s x m l q h = Done x.best m l q h
Ahead (Halted n) s x m l q h = ⊥

abbrev pub AheadOf : Settings2 → Search2 → Conditional2 → List Conditional2 → List Conditional2 → List Conditional2 → Type 0
AheadOf s x m l q h = Ahead x.stage s x m l q h

-- ---- a candidate is read where the seed has risen
risen : (k i : ℕ) → k < i → ltb k i ≡ true
risen k i h = go (ltb k i) (lt→ltb k i h)
  where
    go : (t : Bool) → T t → t ≡ true
    go true h = refl
    go false h = absurd h

stayed : (k : ℕ) → ltb k k ≡ false
stayed k = go (ltb k k) (λ (h : T (ltb k k)). no_lt (ltb→lt k k h))
  where
    no_lt : k < k → ⊥
    no_lt h = omega arith

    go : (t : Bool) → (T t → ⊥) → t ≡ false
    go true h = absurd (h tt)
    go false h = refl

pick_first : (k i : ℕ) (a d : List Conditional2) → k < i → pick (ltb k i) a d ≡ a
unfolding pick
pick_first k i a d h = ap (λ (t : Bool). pick t a d) (risen k i h)

pick_second : (k : ℕ) (a d : List Conditional2) → pick (ltb k k) a d ≡ d
unfolding pick
pick_second k a d = ap (λ (t : Bool). pick t a d) (stayed k)

module _ (s : Settings2) (k : ℕ) (c b m : Conditional2) (l q hs : List Conditional2) (K : k < 6) (pc : T (num? (joint s c))) (pb : T (num? (joint s b))) where
  abbrev pub Back : Search2 → Type 0
  Back y = AheadOf s y m l q hs → InRound s k c b m l (with_candidate k y q) hs

  halts : (n : ℕ) → Back (between (Halted n) k c b)
  unfolding between
  halts n g = absurd g

  to_start : k < 5 → is_unresolved s c ≡ false → is_far k c b ≡ false → Back (between Start (k + 1) c (better s k c b))
  unfolding between Passes EachNoHigher
  to_start h e f g =
      subst (λ (z : List Conditional2). InRound s k c b m l z hs) (sym (pick_first k (k + 1) (c ∷ q) q (up k)))
      (record {
        rest = record {
          points = subst (λ (z : ℕ). etas l ≡ start_points_from s z (k + 1)) (fewer k) g.rest.points;
          best = λ z. le_trans (joint s m) (joint s (better s k c b)) (joint s b) (g.rest.best (after k)) (better_than_old s k c b z pb);
          pass = (e, (f, g.rest.pass));
          total = count k (length q) K g.rest.total;
        };
        current = le_trans (joint s m) (joint s (better s k c b)) (joint s c) (g.rest.best (after k)) (better_than_new s k c b pc pb);
        each = (le_refl_num (joint s c) pc, g.each);
        run = run_over c l q hs g.runs;
      })
    where
      up : (k : ℕ) → k < k + 1
      up k = omega arith

      fewer : (k : ℕ) → 6 - (k + 1) ≡ 5 - k
      fewer k = omega arith

      after : (k : ℕ) → 0 < k + 1
      after k = omega arith

      count : (k n : ℕ) → k < 6 → n ≡ 6 - (k + 1) → suc n ≡ 6 - k
      count k n a e = omega arith

  to_mode_lem : 5 ≤ k → is_unresolved s c ≡ false → is_far k c b ≡ false → Back (between Found 6 c (better s k c b))
  unfolding between Passes EachNoHigher Runs start_points_from etas
  to_mode_lem h e f g =
      subst (λ (z : List Conditional2). InRound s k c b m l z hs) (sym (pick_first k 6 (c ∷ q) q K ∙ ap (λ (z : List Conditional2). c ∷ z) g.candidates))
      (subst (λ (z : Conditional2). InRound s k c b z l (c ∷ []) hs) (sym g.mode)
      (subst (λ (z : List Conditional2). InRound s k c b (better s k c b) z (c ∷ []) hs) (sym g.starts)
      (record {
        rest = record {
          points = ap (λ (z : ℕ). start_points_from s z (k + 1)) (none k h);
          best = λ z. better_than_old s k c b z pb;
          pass = (e, (f, refl));
          total = one k K h;
        };
        current = better_than_new s k c b pc pb;
        each = (le_refl_num (joint s c) pc, tt);
        run = run_over c [] [] hs g.over;
      })))
    where
      none : (k : ℕ) → 5 ≤ k → 0 ≡ 5 - k
      none k a = omega arith

      one : (k : ℕ) → k < 6 → 5 ≤ k → 1 ≡ 6 - k
      one k a e = omega arith

  finish_back : Back (finish s k c b)
  unfolding finish
  finish_back =
      cases Back (is_unresolved s c) {x = between (Halted 13) k c b} (λ _. halts 13)
      (λ e. cases Back (is_far k c b) {x = between (Halted 14) k c b} (λ _. halts 14)
      (λ f. cases Back (ltb k 5) {x = between Start (k + 1) c (better s k c b)} {y = between Found 6 c (better s k c b)} (λ h. to_start (ltb-true k 5 h) e f) (λ h. to_mode_lem (ltb-false k 5 h) e f)))

  try_back : (r j : ℕ) (step : NewtonStep) → Back (try_from s k r j c b step)
  unfolding try_from trying
  try_back r j step =
      let i = next_reduction s.eta_bound step (22 - j) j in
      cases Back (ltb i 22) {x = trying k r i c b step (trial_point s.eta_bound step i)} {y = finish s k c b}
      (λ _. λ g. subst (λ (z : List Conditional2). InRound s k c b m l z hs) (sym (pick_second k (c ∷ q) q)) g) (λ _. finish_back)

  pub descend_back : (r j : ℕ) → Back (descend s k r j c b)
  unfolding descend descend_by
  descend_back r j = go (inverse_positive (curvature s.precision c.information))
    where
      go : (i : Inverse) → Back (descend_by i s k r j c b)
      go none = halts 16
      go (some inverse det) = try_back r j (step_by s c inverse)

  pub round_back : (r : ℕ) → Back (begin_round s k r c b)
  unfolding begin_round
  round_back r = cases Back (le (norm s c) (word 0x3ee4_f8b5_88e3_68f1)) {x = finish s k c b} {y = descend s k r 0 c b} (λ _. finish_back) (λ _. descend_back r 0)

module _ (s : Settings2) (x : Search2) (m : Conditional2) (l q hs : List Conditional2) (i : OnTrial s x) (c : Conditional2) where
  -- c was tried
  abbrev Tried : Search2 → Type 0
  Tried y = AheadOf s y m l q hs → InRound s x.seed x.current x.best m l (with_candidate x.seed y q) (c ∷ hs)

  -- no higher than the current point, it takes its place
  lower : (r : List Conditional2) → NoHigher s c x.current → InRound s x.seed c x.best m l r hs → InRound s x.seed x.current x.best m l r (c ∷ hs)
  unfolding EachNoHigher
  lower [] h g = absurd g.each
  lower (d ∷ r) h g = record {
    rest = g.rest;
    current = le_trans (joint s m) (joint s c) (joint s x.current) g.current h;
    each = (le_trans (joint s d) (joint s c) (joint s x.current) g.each.0 h, g.each.1);
    run = run_on c x.current c l (d ∷ r) hs (inl refl) g.run;
  }

  pub take_back : T (num? (joint s c)) → NoHigher s c x.current → Tried (take s x c)
  unfolding take
  take_back n h =
      cases Tried (ltb x.round 47) {x = begin_round s x.seed (x.round + 1) c x.best} {y = finish s x.seed c x.best}
      (λ _. λ g. lower _ h (round_back s x.seed c x.best m l q hs i.seed n i.best (x.round + 1) g))
      (λ _. λ g. lower _ h (finish_back s x.seed c x.best m l q hs i.seed n i.best g))

  -- or the current point stays
  stay : (r : List Conditional2) → InRound s x.seed x.current x.best m l r hs → InRound s x.seed x.current x.best m l r (c ∷ hs)
  stay r g = record { rest = g.rest; current = g.current; each = g.each; run = run_on x.current x.current c l r hs (inr refl) g.run }

  pub leave_back : Tried (leave s x)
  unfolding leave
  leave_back =
      cases Tried (ltb x.reduction 21) {x = descend s x.seed x.round (x.reduction + 1) x.current x.best} {y = finish s x.seed x.current x.best}
      (λ _. λ g. stay _ (descend_back s x.seed x.current x.best m l q hs i.seed i.current i.best x.round (x.reduction + 1) g))
      (λ _. λ g. stay _ (finish_back s x.seed x.current x.best m l q hs i.seed i.current i.best g))

-- ---- where the points of a search come from: its current point is c, and its best c or b
pub record Of (c b : Conditional2) (y : Search2) : Type 0 where
  pub current : y.current ≡ c
  pub best : (y.best ≡ c) ⊎ (y.best ≡ b)

module _ (s : Settings2) (k : ℕ) (c b : Conditional2) where
  kept : (stage : Stage2) → Of c b (between stage k c b)
  unfolding between
  kept stage = record { current = refl; best = inr refl }

  improved : (stage : Stage2) (i : ℕ) → Of c b (between stage i c (better s k c b))
  unfolding between
  improved stage i = record { current = refl; best = better_has (λ (z : Conditional2). (z ≡ c) ⊎ (z ≡ b)) s k c b (inl refl) (inr refl) }

  finish_of : Of c b (finish s k c b)
  unfolding finish
  finish_of =
      cases (Of c b) (is_unresolved s c) {x = between (Halted 13) k c b} (λ _. kept (Halted 13))
      (λ _. cases (Of c b) (is_far k c b) {x = between (Halted 14) k c b} (λ _. kept (Halted 14))
      (λ _. cases (Of c b) (ltb k 5) {x = between Start (k + 1) c (better s k c b)} {y = between Found 6 c (better s k c b)} (λ _. improved Start (k + 1)) (λ _. improved Found 6)))

  descend_of : (r j : ℕ) → Of c b (descend s k r j c b)
  unfolding descend descend_by try_from trying
  descend_of r j = go (inverse_positive (curvature s.precision c.information))
    where
      go : (i : Inverse) → Of c b (descend_by i s k r j c b)
      go none = kept (Halted 16)
      go (some inverse det) =
          let step = step_by s c inverse in
          let i = next_reduction s.eta_bound step (22 - j) j in
          cases (Of c b) (ltb i 22) {x = trying k r i c b step (trial_point s.eta_bound step i)} {y = finish s k c b} (λ _. record { current = refl; best = inr refl }) (λ _. finish_of)

  pub round_of : (r : ℕ) → Of c b (begin_round s k r c b)
  unfolding begin_round
  round_of r = cases (Of c b) (le (norm s c) (word 0x3ee4_f8b5_88e3_68f1)) {x = finish s k c b} {y = descend s k r 0 c b} (λ _. finish_of) (λ _. descend_of r 0)

pub take_of : (s : Settings2) (x : Search2) (c : Conditional2) → Of c x.best (take s x c)
unfolding take
take_of s x c =
    cases (Of c x.best) (ltb x.round 47) {x = begin_round s x.seed (x.round + 1) c x.best} {y = finish s x.seed c x.best} (λ _. round_of s x.seed c x.best (x.round + 1))
    (λ _. finish_of s x.seed c x.best)

pub leave_of : (s : Settings2) (x : Search2) → Of x.current x.best (leave s x)
unfolding leave
leave_of s x =
    cases (Of x.current x.best) (ltb x.reduction 21) {x = descend s x.seed x.round (x.reduction + 1) x.current x.best} {y = finish s x.seed x.current x.best}
    (λ _. descend_of s x.seed x.current x.best x.round (x.reduction + 1)) (λ _. finish_of s x.seed x.current x.best)
