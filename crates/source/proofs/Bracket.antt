-- The stages after the grid. Assumes nothing.
use mathlib.Core.Path.{◌≡◌, refl, sym, ap, ◌∙◌, subst}
use mathlib.Core.Logic.{inl, inr}
use mathlib.Core.Bool.{Bool, true, false, not, ◌&&◌, ◌||◌}
use mathlib.Core.List.{List}
use Prim.Native.Nat.{ℕ, zero, suc, ◌+◌, ◌≤◌, ◌<◌}
use native.Mathlib.Omega.{arith}
use lib.Ieee.{Float, lt, le}
use borrow.Author.Tests.{lt-ltb, le-ltb}
use Rattle.float64.specs.Arithmetic.{◌+ᶠ◌, ◌-ᶠ◌, ◌*ᶠ◌, ◌/ᶠ◌, word, half, one}
use Rattle.float64.specs.Float64.{abs, clamp}
use Rattle.float64.specs.Pick.{pick, pick_yes, pick_no}
use Rattle.mode.specs.declared.population_focei.Settings.{Settings}
use Rattle.mode.specs.declared.population_focei.Stage.{Stage}
use Rattle.mode.specs.declared.population_focei.Stage.TheVariants.{Warm, Secant, Halving}
use Rattle.mode.specs.declared.population_focei.Search.{Search}
use Rattle.mode.specs.Rules as R
use Rattle.search.specs.Subjects.{sources1, sources_at, bracket_sources}
use Rattle.source.specs.Run.{Run, done, ask, stop, ◌>>=◌, ◌>>◌, err, Flow, next, break, turn, rounds, for, asks, found, refused}
use Rattle.source.specs.Source.{Conditional, «1e-1», Bracket, narrow}
use Rattle.source.specs.Claim.{bare, Blocks, from, moved, State, step, begin, led, told_by, told_at, told, view}
use Rattle.source.proofs.Tells.{push, or_not, or_pick, led_push, Tells}
use Rattle.mode.specs.declared.Request.{Request}
use Rattle.mode.specs.declared.Request.TheVariants.{Point, Mode, Refused}

-- ---- the source's tests and points
abbrev pub settled_at : Settings → Bracket → Bool
settled_at s b = le (b.1.eta -ᶠ b.0.eta) s.tolerance || le (abs b.2.score /ᶠ (one /ᶠ s.omega +ᶠ b.2.information)) s.tolerance

pub settled_is : (s : Settings) (b : Bracket) → R.settled s (bare b.2) (bare b.0) (bare b.1) ≡ settled_at s b
unfolding R.settled
settled_is s b = sym (or_pick _ _)

-- ---- the rest of the source's run, from the last test back
abbrev pub Tree : Type 0
Tree = Run Float Conditional (Conditional × List ℕ)

abbrev pub last : Settings → List ℕ → Bracket → Tree
last s p b = err (not (settled_at s b)) 15 >> done (b.2, p)

abbrev pub halving_body : Settings → ℕ → Bracket → Run Float Conditional (Flow Bracket)
halving_body s i b = pick (settled_at s b) (done (break b)) (ask (half *ᶠ (b.0.eta +ᶠ b.1.eta)) done >>= λ trial. done (next (narrow b.0 b.1 b.2 trial)))

abbrev pub halve : Settings → List ℕ → Bracket → Tree
halve s p b = pick (settled_at s b) (done b) (for 48 b (halving_body s)) >>= last s p

abbrev pub secant_eta : Bracket → Float
secant_eta b =
    let width = b.1.eta -ᶠ b.0.eta in
    clamp (b.0.eta -ᶠ b.0.score *ᶠ width /ᶠ (b.1.score -ᶠ b.0.score)) (b.0.eta +ᶠ «1e-1» *ᶠ width) (b.1.eta -ᶠ «1e-1» *ᶠ width)

abbrev pub secant_body : Settings → ℕ → Bracket → Run Float Conditional (Flow Bracket)
secant_body s i b = pick (settled_at s b) (done (break b)) (ask (secant_eta b) done >>= λ trial. done (next (narrow b.0 b.1 b.2 trial)))

abbrev pub secant : Settings → List ℕ → Bracket → Tree
secant s p b = for 16 b (secant_body s) >>= halve s p

abbrev pub warmed : Settings → List ℕ → Bracket → Tree
warmed s p b =
    pick (lt b.0.eta s.warm && lt s.warm b.1.eta) (ask s.warm done >>= λ trial. done (narrow b.0 b.1 b.2 trial)) (done b)
    >>= secant s p

-- ---- the rules' search in the bracket b
abbrev pub in_stage : Search → List ℕ → List ℕ → Stage → ℕ → Bracket → State
in_stage y l p stage count b =
    record {
      search = record { stage = stage; count = count; first = y.first; latest = y.latest; fall = y.fall; left = bare b.0; right = bare b.1; best = bare b.2 };
      blocks = record { population = p; best = b.2.rows; latest = l };
    }

pub bare_pick : (t : Bool) (a b : Conditional) → pick t (bare a) (bare b) ≡ bare (pick t a b)
unfolding pick
bare_pick true a b = refl
bare_pick false a b = refl

-- the rows of the best
best_rows : (t : Bool) (c b : Conditional) (p l : List ℕ) → from (pick t 3 1) c.rows (record { population = p; best = b.rows; latest = l }) ≡ (pick t c b).rows
unfolding pick from
best_rows true c b p l = refl
best_rows false c b p l = refl

tried_state : (y : Search) (l p : List ℕ) (t u : Stage) (i j : ℕ) (b : Bracket) (c : Conditional) → let x = in_stage y l p t i b in
    R.tried u j x.search (bare c) ≡ (in_stage y l p u j (narrow b.0 b.1 b.2 c)).search
unfolding R.tried R.is_above R.is_closer
tried_state y l p t u i j b c = λ k. record {
  stage = u;
  count = j;
  first = y.first;
  latest = y.latest;
  fall = y.fall;
  left = bare_pick (lt (word 0) c.score) b.0 c k;
  right = bare_pick (lt (word 0) c.score) c b.1 k;
  best = bare_pick (lt (abs c.score) (abs b.2.score)) c b.2 k;
}

pub state_eq : {a c : Search} {b d : Blocks} → a ≡ c → b ≡ d → ◌≡◌ {A = State} (record { search = a; blocks = b }) (record { search = c; blocks = d })
state_eq e f = λ k. record { search = e k; blocks = f k }

-- a point tried after the grid
stepped : (s : Settings) (y : Search) (l p : List ℕ) (t u : Stage) (i j : ℕ) (b : Bracket) (c : Conditional) → let x = in_stage y l p t i b in
    R.advance s x.search (bare c) ≡ R.tried u j x.search (bare c) → sources_at t x.search (bare c) ≡ bracket_sources x.search (bare c)
    → step s x c ≡ in_stage y l p u j (narrow b.0 b.1 b.2 c)
unfolding sources1 bracket_sources R.is_closer from pick
stepped s y l p t u i j b c a e =
    let x = in_stage y l p t i b in
    state_eq (a ∙ tried_state y l p t u i j b c) (ap (λ o. moved o c.rows x.blocks) e ∙ (λ k. record {
      population = p;
      best = best_rows (lt (abs c.score) (abs b.2.score)) c b.2 p l k;
      latest = l;
    }))

module _ (s : Settings) (Fine : List Conditional → Conditional → Type 0) where
  -- the history g leads to x
  pub record At (g : List Conditional) (x : State) : Type 0 where
    pub leads : led s g ≡ x

  pub at_push : {g : List Conditional} {x y : State} (c : Conditional) → At g x → step s x c ≡ y → At (push g c) y
  at_push {g = g} c a e = record { leads = led_push (step s) begin g c ∙ ap (λ v. step s v c) a.leads ∙ e }

  pub at_says : {g : List Conditional} {x : State} {q : Request Float} → At g x → R.request s x.search ≡ q → told s g ≡ told_by q (x.search.best, x.blocks.best, x.blocks.population)
  at_says {x = x} a e = ap (told_at s) a.leads ∙ ap (λ v. told_by v (x.search.best, x.blocks.best, x.blocks.population)) e

  abbrev pub Ok : Tree → List Conditional → Type 0
  Ok r g = Tells Fine view (told s) r g

  module _ (p l : List ℕ) (y : Search) where
    -- settled: every loop is left, and the mode is told
    ends : (b : Bracket) (g : List Conditional) → settled_at s b ≡ true → told s g ≡ found (view (b.2, p)) → Ok (last s p b) g
    unfolding Tells ◌>>=◌
    ends b g e t =
        subst (λ v. Ok (pick v (stop 15) (done tt) >>= λ u. done (b.2, p)) g) (sym (ap not e))
        (subst (λ v. Ok (v >>= λ u. done (b.2, p)) g) (sym (pick_no false (stop 15) (done tt) refl)) t)

    fails : (b : Bracket) (g : List Conditional) → settled_at s b ≡ false → told s g ≡ refused 15 → Ok (last s p b) g
    unfolding Tells ◌>>=◌
    fails b g e t =
        subst (λ v. Ok (pick v (stop 15) (done tt) >>= λ u. done (b.2, p)) g) (sym (ap not e))
        (subst (λ v. Ok (v >>= λ u. done (b.2, p)) g) (sym (pick_yes true (stop 15) (done tt) refl)) t)

    -- a loop's round: left where settled, and else one more point is asked
    leaves : (b : Bracket) (g : List Conditional) (q : Float) (more : Bracket → Run Float Conditional Bracket) (after : Bracket → Tree) → settled_at s b ≡ true → Ok (after b) g
        → Ok (pick (settled_at s b) (done (break b)) (ask q done >>= λ trial. done (next (narrow b.0 b.1 b.2 trial))) >>= turn more >>= after) g
    unfolding Tells ◌>>=◌ turn
    leaves b g q more after e t = subst (λ v. Ok (v >>= turn more >>= after) g) (sym (pick_yes (settled_at s b) _ _ e)) t

    goes : (b : Bracket) (g : List Conditional) (q : Float) (more : Bracket → Run Float Conditional Bracket) (after : Bracket → Tree) → settled_at s b ≡ false → told s g ≡ asks q
        → ((c : Conditional) → Fine g c → Ok (more (narrow b.0 b.1 b.2 c) >>= after) (push g c))
        → Ok (pick (settled_at s b) (done (break b)) (ask q done >>= λ trial. done (next (narrow b.0 b.1 b.2 trial))) >>= turn more >>= after) g
    unfolding Tells ◌>>=◌ turn
    goes b g q more after e t k = subst (λ v. Ok (v >>= turn more >>= after) g) (sym (pick_no (settled_at s b) _ _ e)) (t, k)

    mode_h : (i : ℕ) (b : Bracket) → settled_at s b ≡ true → R.request s (in_stage y l p Halving i b).search ≡ Mode
    unfolding R.request_at
    mode_h i b e = pick_yes _ _ _ (settled_is s b ∙ e)

    none_h : (i : ℕ) (b : Bracket) → settled_at s b ≡ false → 48 ≤ i → R.request s (in_stage y l p Halving i b).search ≡ Refused 15
    unfolding R.request_at
    none_h i b e k = pick_no _ _ _ (settled_is s b ∙ e) ∙ pick_no _ _ _ (le-ltb i 48 k)

    point_h : (i : ℕ) (b : Bracket) → settled_at s b ≡ false → i < 48 → R.request s (in_stage y l p Halving i b).search ≡ Point (half *ᶠ (b.0.eta +ᶠ b.1.eta))
    unfolding R.request_at R.midpoint
    point_h i b e k = pick_no _ _ _ (settled_is s b ∙ e) ∙ pick_yes _ _ _ (lt-ltb i 48 k)

    next_h : (i : ℕ) (b : Bracket) (c : Conditional) → i < 48 → step s (in_stage y l p Halving i b) c ≡ in_stage y l p Halving (i + 1) (narrow b.0 b.1 b.2 c)
    unfolding R.advance_at sources_at
    next_h i b c k = stepped s y l p Halving Halving i (i + 1) b c (pick_yes _ _ _ (lt-ltb i 48 k)) refl

    halving : (n i : ℕ) (b : Bracket) (g : List Conditional) → i + n ≡ 48 → At g (in_stage y l p Halving i b) → Ok (rounds (halving_body s) i n b >>= last s p) g
    unfolding rounds told_by ◌>>=◌
    halving zero i b g e a =
        elim (or_not (settled_at s b)) [
          | inl t ↦ ends b g t (at_says a (mode_h i b t))
          | inr t ↦ fails b g t (at_says a (none_h i b t (omega arith)))
        ]
    halving (suc n) i b g e a =
        let more : Bracket → Run Float Conditional Bracket = λ b. rounds (halving_body s) (i + 1) n b in
        elim (or_not (settled_at s b)) [
          | inl t ↦ leaves b g _ more (last s p) t (ends b g t (at_says a (mode_h i b t)))
          | inr t ↦ goes b g _ more (last s p) t (at_says a (point_h i b t (omega arith)))
              (λ c f. halving n (i + 1) (narrow b.0 b.1 b.2 c) (push g c) (omega arith) (at_push c a (next_h i b c (omega arith))))
        ]

    -- ---- the secant steps
    halve_ends : (b : Bracket) (g : List Conditional) → settled_at s b ≡ true → told s g ≡ found (view (b.2, p)) → Ok (halve s p b) g
    unfolding ◌>>=◌
    halve_ends b g e t = subst (λ v. Ok (v >>= last s p) g) (sym (pick_yes (settled_at s b) _ _ e)) (ends b g e t)

    halves : (b : Bracket) (g : List Conditional) → At g (in_stage y l p Halving 0 b) → Ok (halve s p b) g
    unfolding ◌>>=◌ told_by
    halves b g a =
        elim (or_not (settled_at s b)) [
          | inl t ↦ halve_ends b g t (at_says a (mode_h 0 b t))
          | inr t ↦ subst (λ v. Ok (v >>= last s p) g) (sym (pick_no (settled_at s b) _ _ t)) (halving 48 0 b g refl a)
        ]

    mode_s : (i : ℕ) (b : Bracket) → settled_at s b ≡ true → R.request s (in_stage y l p Secant i b).search ≡ Mode
    unfolding R.request_at
    mode_s i b e = pick_yes _ _ _ (settled_is s b ∙ e)

    point_s : (i : ℕ) (b : Bracket) → settled_at s b ≡ false → R.request s (in_stage y l p Secant i b).search ≡ Point (secant_eta b)
    unfolding R.request_at R.secant_point
    point_s i b e = pick_no _ _ _ (settled_is s b ∙ e)

    next_s : (i : ℕ) (b : Bracket) (c : Conditional) → i < 15 → step s (in_stage y l p Secant i b) c ≡ in_stage y l p Secant (i + 1) (narrow b.0 b.1 b.2 c)
    unfolding R.advance_at sources_at
    next_s i b c k = stepped s y l p Secant Secant i (i + 1) b c (pick_yes _ _ _ (lt-ltb i 15 k)) refl

    last_s : (i : ℕ) (b : Bracket) (c : Conditional) → 15 ≤ i → step s (in_stage y l p Secant i b) c ≡ in_stage y l p Halving 0 (narrow b.0 b.1 b.2 c)
    unfolding R.advance_at sources_at
    last_s i b c k = stepped s y l p Secant Halving i 0 b c (pick_no _ _ _ (le-ltb i 15 k)) refl

    secants : (n i : ℕ) (b : Bracket) (g : List Conditional) → i + n ≡ 15 → At g (in_stage y l p Secant i b) → Ok (rounds (secant_body s) i (suc n) b >>= halve s p) g
    unfolding rounds told_by ◌>>=◌
    secants zero i b g e a =
        let more : Bracket → Run Float Conditional Bracket = λ b. rounds (secant_body s) (i + 1) zero b in
        elim (or_not (settled_at s b)) [
          | inl t ↦ leaves b g _ more (halve s p) t (halve_ends b g t (at_says a (mode_s i b t)))
          | inr t ↦ goes b g _ more (halve s p) t (at_says a (point_s i b t)) (λ c f. halves (narrow b.0 b.1 b.2 c) (push g c) (at_push c a (last_s i b c (omega arith))))
        ]
    secants (suc n) i b g e a =
        let more : Bracket → Run Float Conditional Bracket = λ b. rounds (secant_body s) (i + 1) (suc n) b in
        elim (or_not (settled_at s b)) [
          | inl t ↦ leaves b g _ more (halve s p) t (halve_ends b g t (at_says a (mode_s i b t)))
          | inr t ↦ goes b g _ more (halve s p) t (at_says a (point_s i b t))
              (λ c f. secants n (i + 1) (narrow b.0 b.1 b.2 c) (push g c) (omega arith) (at_push c a (next_s i b c (omega arith))))
        ]

    -- ---- the warm start
    point_w : (b : Bracket) → R.request s (in_stage y l p Warm 0 b).search ≡ Point s.warm
    unfolding R.request_at
    point_w b = refl

    next_w : (b : Bracket) (c : Conditional) → step s (in_stage y l p Warm 0 b) c ≡ in_stage y l p Secant 0 (narrow b.0 b.1 b.2 c)
    unfolding R.advance_at sources_at
    next_w b c = stepped s y l p Warm Secant 0 0 b c refl refl

    pub enters : (b : Bracket) (g : List Conditional) → At g (in_stage y l p (R.first_stage s (bare b.0) (bare b.1)) 0 b) → Ok (warmed s p b) g
    unfolding ◌>>=◌ told_by R.first_stage Tells pick
    enters b g a = go (lt b.0.eta s.warm) (lt s.warm b.1.eta) a
      where
        go : (t u : Bool) → At g (in_stage y l p (pick t (pick u Warm Secant) Secant) 0 b)
            → Ok (pick (t && u) (ask s.warm done >>= λ trial. done (narrow b.0 b.1 b.2 trial)) (done b) >>= secant s p) g
        go true true a = (at_says a (point_w b), λ c f. secants 15 0 (narrow b.0 b.1 b.2 c) (push g c) refl (at_push c a (next_w b c)))
        go true false a = secants 15 0 b g refl a
        go false u a = secants 15 0 b g refl a
