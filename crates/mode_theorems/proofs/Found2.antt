-- The theorem of the two-effect search, `two_search`: over every history of the rules. Assumes nothing.
use mathlib.Core.Path.{◌≡◌, refl, sym, ap, ◌∙◌, subst}
use mathlib.Core.Logic.{◌⊎◌, inl, inr}
use mathlib.Core.Bool.{Bool, true, false, true≢false}
use mathlib.Core.List.Memᴰ
use mathlib.Core.List.{List, [], ◌∷◌, Memᴰ}
use Prim.Native.Nat.{ℕ, suc, ◌+◌, ◌-◌, ◌<◌}
use native.Mathlib.Omega.{arith}
use lib.ListN.{length}
use lib.Dec.{T, ltb, lit<}
use lib.Ieee.{lt}
use Rattle.float64.specs.Pick.{pick, cases}
use Rattle.float64.proofs.Order.{num?}
use Rattle.matrix.specs.declared.Pair.{Pair}
use Rattle.mode_2d.specs.declared.population_focei_2d.Settings2.{Settings2}
use Rattle.mode_2d.specs.declared.population_focei_2d.Conditional2.{Conditional2}
use Rattle.mode_2d.specs.declared.population_focei_2d.Stage2.{Stage2}
use Rattle.mode_2d.specs.declared.population_focei_2d.Stage2.TheVariants.{Zero, Start, Trial, Found, Halted}
use Rattle.mode_2d.specs.declared.population_focei_2d.Search2.{Search2}
use Rattle.mode_2d.specs.Rules.{request_at, request, advance_at, advance, between, begin_round, take, leave, start_point, better, is_taken, start}
use Rattle.mode_theorems.specs.Histories.{led_from, Answered}
use Rattle.mode_theorems.specs.Terms2 as W
use Rattle.mode_theorems.specs.Terms2.{etas, joint, NoHigher}
use Rattle.mode_theorems.specs.History2.{FollowsFrom, Follows, after_from, after, is_start, starts_from, with_candidate, candidates_from, candidates}
use Rattle.mode_theorems.specs.Claim2.{Divided, PassAfter, Pass, Found2, Unresolved, Several, NoInverse, TwoSearch, Bounded}
use Rattle.mode_theorems.proofs.Words2.{start_points_from, starts_are, resolved_is, unresolved_is, far_is, near_is, better_is, flat_is}
use Rattle.mode_theorems.proofs.Count2.{is_mode, mode-true, is_point, point_true, point_of, at_most_6343}
use Rattle.mode_theorems.proofs.Joint.{joint_num}
use Rattle.mode_theorems.proofs.Precision.{precision_bound}
use Rattle.mode_theorems.proofs.Descent.{taken_no_higher, Passes, run_whole, Why, Way, OnWay, round_way, take_way, leave_way, Begin, AtStart, InRound, Ahead, AheadOf, round_back, take_back}
use Rattle.mode_theorems.proofs.Descent.{leave_back, Of, round_of, take_of, leave_of}
use Rattle.mode.specs.declared.Request.{Request}
use Rattle.mode.specs.declared.Request.TheVariants.{Point, Mode, Refused}

-- ---- forward: what holds on the way is kept
way_step : (st : Stage2) (s : Settings2) (x : Search2) (c : Conditional2) → Way st s x → T (num? (joint s c)) → T (is_point (request_at st s x)) → OnWay s (advance_at st s x c)
unfolding request_at advance_at between
way_step Zero s x c i n h = (n, lit< tt)
way_step Start s x c i n h = round_way s x.seed c x.best i.1 n i.0 0
way_step Trial s x c i n h = cases (OnWay s) (is_taken s x c) {x = take s x c} {y = leave s x} (λ _. take_way s x i c n) (λ _. leave_way s x i)
way_step Found s x c i n h = absurd h
way_step (Halted k) s x c i n h = absurd h

ways : (s : Settings2) → Bounded s → (h : List Conditional2) (x : Search2) → OnWay s x → FollowsFrom s x h → OnWay s (after_from s x h)
unfolding Answered led_from
ways s d [] x i f = i
ways s d (c ∷ h) x i f = ways s d h (advance s x c) (way_step x.stage s x c i (joint_num s d (request s x) c f.0) (point_true (request s x) c.eta f.0.asked)) f.1

-- ---- backward: what is to come from the next search on is to come from this one on
add_start : (s : Settings2) (k : ℕ) (c b m : Conditional2) (l q h : List Conditional2) → k < 6 → start_point s k ≡ c.eta → InRound s k c b m l q h → AtStart s k b m (c ∷ l) q (c ∷ h)
unfolding etas start_points_from
add_start s k c b m l q h K e g = record {
  rest = record {
    points = ap (λ (z : Pair). z ∷ etas l) (sym e) ∙ ap (λ (z : List Pair). start_point s k ∷ z) g.rest.points ∙ ap (λ (n : ℕ). start_points_from s n k) (more k K);
    best = g.rest.best;
    pass = g.rest.pass;
    total = g.rest.total;
  };
  each = g.each;
  runs = run_whole c l q h g.run;
}
  where
    more : (k : ℕ) → k < 6 → suc (5 - k) ≡ 6 - k
    more k h = omega arith

-- the mode's joint is at most that at the point, where the point is a start's
abbrev Came : Stage2 → Settings2 → Conditional2 → Conditional2 → Type 0
Came Zero s c m = Unit
Came Start s c m = NoHigher s m c
Came Trial s c m = Unit
Came Found s c m = Unit
Came (Halted n) s c m = Unit

abbrev Step : Stage2 → Settings2 → Search2 → Conditional2 → Conditional2 → List Conditional2 → List Conditional2 → List Conditional2 → Search2 → Type 0
Step st s x c m l q h y = AheadOf s y m l q h → Ahead st s x m (pick (is_start st) (c ∷ l) l) (with_candidate x.seed y q) (c ∷ h) × Came st s c m

ahead_step : (st : Stage2) (s : Settings2) (x : Search2) (c m : Conditional2) (l q h : List Conditional2) → Way st s x → T (num? (joint s c)) → request_at st s x ≡ Point c.eta
    → Step st s x c m l q h (advance_at st s x c)
unfolding request_at advance_at pick between Divided
ahead_step Zero s x c m l q h i n e = λ g.
    let w : Begin s m l q (c ∷ h) = record { held = c; rest = g.rest; each = g.each; divided = (sym (ap (point_of c.eta) e), g.runs) } in
    (subst (λ (k : ℕ). Begin s m l (pick (ltb k 0) (c ∷ q) q) (c ∷ h)) (sym i) w, tt)
ahead_step Start s x c m l q h i n e = λ g.
    let w = round_back s x.seed c x.best m l q h i.1 n i.0 0 g in
    (add_start s x.seed c x.best m l (with_candidate x.seed (begin_round s x.seed 0 c x.best) q) h i.1 (ap (point_of c.eta) e) w, w.current)
ahead_step Trial s x c m l q h i n e =
    cases (Step Trial s x c m l q h) (is_taken s x c) {x = take s x c} {y = leave s x}
    (λ t. λ g. (take_back s x m l q h i c n (taken_no_higher s x c i.falls t) g, tt)) (λ _. λ g. (leave_back s x m l q h i c g, tt))
ahead_step Found s x c m l q h i n e = absurd (point_true Mode c.eta e)
ahead_step (Halted k) s x c m l q h i n e = absurd (point_true (Refused k) c.eta e)

-- ---- where a point of the last search comes from
Source : Conditional2 → Conditional2 → Conditional2 → List Conditional2 → Type 0
Source c b m h = (m ≡ c) ⊎ ((m ≡ b) ⊎ Memᴰ m h)

-- the point c is new
new_point : (c b o m : Conditional2) (y : Search2) (h : List Conditional2) → Of c b y → Source y.current y.best m h → Source o b m (c ∷ h)
unfolding Source
new_point c b o m y h w (inl e) = inr (inr (Memᴰ.head (e ∙ w.current)))
new_point c b o m y h w (inr (inl e)) = go w.best
  where
    go : (y.best ≡ c) ⊎ (y.best ≡ b) → (m ≡ o) ⊎ ((m ≡ b) ⊎ Memᴰ m (c ∷ h))
    go (inl f) = inr (inr (Memᴰ.head (e ∙ f)))
    go (inr f) = inr (inl (e ∙ f))
new_point c b o m y h w (inr (inr p)) = inr (inr (Memᴰ.tail p))

-- the current point o stays
old_point : (c b o m : Conditional2) (y : Search2) (h : List Conditional2) → Of o b y → Source y.current y.best m h → Source o b m (c ∷ h)
unfolding Source
old_point c b o m y h w (inl e) = inl (e ∙ w.current)
old_point c b o m y h w (inr (inl e)) = go w.best
  where
    go : (y.best ≡ o) ⊎ (y.best ≡ b) → (m ≡ o) ⊎ ((m ≡ b) ⊎ Memᴰ m (c ∷ h))
    go (inl f) = inl (e ∙ f)
    go (inr f) = inr (inl (e ∙ f))
old_point c b o m y h w (inr (inr p)) = inr (inr (Memᴰ.tail p))

first_point : (c m : Conditional2) (h : List Conditional2) → Source c c m h → Memᴰ m (c ∷ h)
unfolding Source
first_point c m h (inl e) = Memᴰ.head e
first_point c m h (inr (inl e)) = Memᴰ.head e
first_point c m h (inr (inr p)) = Memᴰ.tail p

abbrev Sources : Search2 → Conditional2 → List Conditional2 → Type 0
Sources x m h = Source x.current x.best m h

source_step : (st : Stage2) (s : Settings2) (x : Search2) (c m : Conditional2) (h : List Conditional2) → T (is_point (request_at st s x)) → Sources (advance_at st s x c) m h → Sources x m (c ∷ h)
unfolding request_at advance_at between
source_step Zero s x c m h p = λ w. unfold Source in inr (inr (first_point c m h w))
source_step Start s x c m h p = λ w. new_point c x.best x.current m (begin_round s x.seed 0 c x.best) h (round_of s x.seed c x.best 0) w
source_step Trial s x c m h p =
    cases (λ (y : Search2). Sources y m h → Sources x m (c ∷ h)) (is_taken s x c) {x = take s x c} {y = leave s x} (λ _. new_point c x.best x.current m (take s x c) h (take_of s x c))
    (λ _. old_point c x.best x.current m (leave s x) h (leave_of s x))
source_step Found s x c m h p = λ w. absurd p
source_step (Halted k) s x c m h p = λ w. absurd p

sources : (s : Settings2) (h : List Conditional2) (x : Search2) (m : Conditional2) → FollowsFrom s x h → Sources (after_from s x h) m [] → Sources x m h
unfolding Answered led_from
sources s [] x m f w = w
sources s (c ∷ h) x m f w = source_step x.stage s x c m h (point_true (request s x) c.eta f.0.asked) (sources s h (advance s x c) m f.1 w)

-- what a search that has ended holds are points of its history
member : (s : Settings2) (h : List Conditional2) (m : Conditional2) → is_point (request s (after s h)) ≡ false → Follows s h → Sources (after s h) m [] → Memᴰ m h
unfolding start Answered led_from request_at advance_at between
member s [] m z f w = absurd (true≢false z)
member s (c ∷ h) m z f w = first_point c m h (sources s h (between Start 0 c c) m f.1 w)

-- ---- to the end
record Ends (s : Settings2) (x : Search2) (h : List Conditional2) (m : Conditional2) : Type 0 where
  pub ahead : AheadOf s x m (starts_from s x h) (candidates_from s x h) h
  pub lowest : (t : Conditional2) → Memᴰ t (starts_from s x h) → NoHigher s m t

at_end : (st : Stage2) (s : Settings2) (x : Search2) → T (is_mode (request_at st s x)) → Ahead st s x x.best [] [] []
unfolding request_at
at_end Zero s x h = absurd h
at_end Start s x h = absurd h
at_end Trial s x h = absurd h
at_end Found s x h = record { starts = refl; candidates = refl; mode = refl; over = refl }
at_end (Halted n) s x h = absurd h

lowest_step : (st : Stage2) (s : Settings2) (c m : Conditional2) (l : List Conditional2) → Came st s c m → ((t : Conditional2) → Memᴰ t l → NoHigher s m t) → (t : Conditional2) → Memᴰ t
    (pick (is_start st) (c ∷ l) l) → NoHigher s m t
unfolding pick
lowest_step Zero s c m l g f = f
lowest_step Start s c m l g f = λ t p. go t (Memᴰ.cases_cons p)
  where
    go : (t : Conditional2) → (t ≡ c) ⊎ Memᴰ t l → NoHigher s m t
    go t (inl e) = subst (λ (z : Conditional2). NoHigher s m z) (sym e) g
    go t (inr p) = f t p
lowest_step Trial s c m l g f = f
lowest_step Found s c m l g f = f
lowest_step (Halted n) s c m l g f = f

ends : (s : Settings2) → Bounded s → (h : List Conditional2) (x : Search2) → OnWay s x → FollowsFrom s x h → T (is_mode (request s (after_from s x h))) → Ends s x h (after_from s x h).best
unfolding Answered led_from starts_from candidates_from
ends s d [] x i f w = record { ahead = at_end x.stage s x w; lowest = λ t p. absurd (Memᴰ.not-nil p) }
ends s d (c ∷ h) x i f w =
    let y = advance s x c in
    let m = (after_from s y h).best in
    let n = joint_num s d (request s x) c f.0 in
    let e = ends s d h y (way_step x.stage s x c i n (point_true (request s x) c.eta f.0.asked)) f.1 w in
    let g = ahead_step x.stage s x c m (starts_from s y h) (candidates_from s y h) h i n f.0.asked e.ahead in
    record { ahead = g.0; lowest = lowest_step x.stage s c m (starts_from s y h) g.1 e.lowest }

-- ---- the theorem
-- in the claim's words: the first candidate is compared with nothing
pass_after : (s : Settings2) (k : ℕ) (b m : Conditional2) (q : List Conditional2) → 0 < k → Passes s k b q m → PassAfter s b q m
unfolding Passes PassAfter
pass_after s k b m [] h p = p
pass_after s k b m (c ∷ q) h p =
    let r : Passes s (k + 1) (W.better s c b) q m = subst (λ (z : Conditional2). Passes s (k + 1) z q m) (better_is s k c b h) p.1.1 in
    (resolved_is s c p.0, (near_is k c b h p.1.0, pass_after s (k + 1) (W.better s c b) m q (omega arith) r))

pass_all : (s : Settings2) (b m : Conditional2) (q : List Conditional2) → length q ≡ 6 → Passes s 0 b q m → Pass s q m
unfolding Passes Pass better pick
pass_all s b m [] e p = absurd (omega (arith, e))
pass_all s b m (c ∷ q) e p = (resolved_is s c p.0, pass_after s 1 c m q (lit< tt) p.1.1)

-- the best is one of the candidates
best_after : (s : Settings2) (b m : Conditional2) (q : List Conditional2) → PassAfter s b q m → (m ≡ b) ⊎ Memᴰ m q
unfolding PassAfter W.better pick
best_after s b m [] p = inl p
best_after s b m (c ∷ q) p = go (lt (joint s c) (joint s b)) (best_after s (W.better s c b) m q p.1.1)
  where
    go : (t : Bool) → (m ≡ pick t c b) ⊎ Memᴰ m q → (m ≡ b) ⊎ Memᴰ m (c ∷ q)
    go true (inl e) = inr (Memᴰ.head e)
    go false (inl e) = inl e
    go t (inr h) = inr (Memᴰ.tail h)

best_in : (s : Settings2) (m : Conditional2) (q : List Conditional2) → Pass s q m → Memᴰ m q
unfolding Pass
best_in s m [] p = absurd p
best_in s m (c ∷ q) p = elim (best_after s c m q p.1) [ inl e ↦ Memᴰ.head e | inr h ↦ Memᴰ.tail h ]

number : Request Pair → ℕ
number (Point p) = 0
number Mode = 0
number (Refused n) = n

why_at : (st : Stage2) (s : Settings2) (x : Search2) (n : ℕ) → Way st s x → request_at st s x ≡ Refused n → Why s x n
unfolding request_at number
why_at Zero s x n w e = absurd (true≢false (ap is_point e))
why_at Start s x n w e = absurd (true≢false (ap is_point e))
why_at Trial s x n w e = absurd (true≢false (ap is_point e))
why_at Found s x n w e = absurd (true≢false (ap is_mode e))
why_at (Halted k) s x n w e = subst (Why s x) (ap number e) w

module _ (s : Settings2) (d : Bounded s) (h : List Conditional2) (f : Follows s h) where
  on_way : OnWay s (after s h)
  unfolding start between
  on_way = ways s d h start refl f

  current_member : is_point (request s (after s h)) ≡ false → Memᴰ (after s h).current h
  unfolding Source
  current_member e = member s h (after s h).current e f (inl refl)

  best_member : is_point (request s (after s h)) ≡ false → Memᴰ (after s h).best h
  unfolding Source
  best_member e = member s h (after s h).best e f (inr (inl refl))

  found2 : request s (after s h) ≡ Mode → Found2 s h (after s h).best
  unfolding start between
  found2 w =
      let e = ends s d h start refl f (mode-true (request s (after s h)) w) in
      let g = e.ahead.rest in
      let p : Pass s (candidates s h) (after s h).best = pass_all s e.ahead.held (after s h).best (candidates s h) g.total g.pass in
      record {
        is_starts = g.points ∙ starts_are s;
        six = g.total;
        divided = e.ahead.divided;
        pass = p;
        member = best_in s (after s h).best (candidates s h) p;
        lowest = e.lowest;
        each = e.ahead.each;
      }

  -- why the search was refused
  why : (n : ℕ) → request s (after s h) ≡ Refused n → Why s (after s h) n
  why n e = why_at (after s h).stage s (after s h) n on_way e

  found_unresolved : (e : request s (after s h) ≡ Refused 13) → Unresolved s h
  found_unresolved e =
      elim (why 13 e) [
        | inl w ↦ record { candidate = (after s h).current; member = current_member (ap is_point e); is_so = unresolved_is s (after s h).current w.1 }
        | inr (inl w) ↦ absurd (omega (arith, w.0))
        | inr (inr w) ↦ absurd (omega (arith, w.0))
      ]

  found_several : request s (after s h) ≡ Refused 14 → Several h
  found_several e =
      elim (why 14 e) [
        | inl w ↦ absurd (omega (arith, w.0))
        | inr (inl w) ↦ record {
          candidate = (after s h).current;
          best = (after s h).best;
          members = (current_member (ap is_point e), best_member (ap is_point e));
          is_so = far_is (after s h).seed (after s h).current (after s h).best w.1;
        }
        | inr (inr w) ↦ absurd (omega (arith, w.0))
      ]

  found_flat : request s (after s h) ≡ Refused 16 → NoInverse s h
  found_flat e =
      elim (why 16 e) [
        | inl w ↦ absurd (omega (arith, w.0))
        | inr (inl w) ↦ absurd (omega (arith, w.0))
        | inr (inr w) ↦ record { point = (after s h).current; member = current_member (ap is_point e); is_so = flat_is s (after s h).current w.1 }
      ]

  found_number : (n : ℕ) → request s (after s h) ≡ Refused n → (n ≡ 13) ⊎ ((n ≡ 14) ⊎ (n ≡ 16))
  found_number n e =
      elim (why n e) [
        | inl w ↦ inl w.0
        | inr (inl w) ↦ inr (inl w.0)
        | inr (inr w) ↦ inr (inr w.0)
      ]

pub two_search : TwoSearch
two_search omega s o h f =
    let d = precision_bound omega s o in
    record {
      at_most = at_most_6343 s h f;
      found = found2 s d h f;
      unresolved = found_unresolved s d h f;
      several = found_several s d h f;
      no_inverse = found_flat s d h f;
      numbers = found_number s d h f;
    }
