-- The rounds of one start. Assumes nothing.
use Rattle.std.specs.Prelude.{Option, None, Some}
use mathlib.Core.Path.{◌≡◌, refl, sym, ap, ◌∙◌, subst}
use mathlib.Core.Logic.{inl, inr}
use mathlib.Core.Bool.{Bool, true, false, ◌&&◌, ◌||◌, true≢false}
use mathlib.Core.List.{List, [], ◌∷◌}
use Prim.Native.Nat.{ℕ, zero, suc, ◌+◌, ◌-◌, ◌≤◌, ◌<◌}
use native.Mathlib.Omega.{arith}
use lib.ListN.{length, get_or, get_or-append}
use lib.Dec.{ltb}
use lib.Ieee.{Float, lt, le, eq, neg}
use borrow.Author.Tests.{lt-ltb, le-ltb}
use Rattle.float64.specs.Arithmetic.{◌+ᶠ◌, ◌-ᶠ◌, ◌*ᶠ◌, word}
use Rattle.float64.specs.Float64.{abs, max, clamp}
use Rattle.float64.specs.Pick.{pick, pick_yes, pick_no}
use Rattle.matrix.specs.Matrix.{pair, product, dot, Inverse, inverse_positive}
use Rattle.matrix.specs.Matrix as M
use Rattle.matrix.specs.declared.Pair.{Pair}
use Rattle.mode_2d.specs.declared.population_focei_2d.Settings2.{Settings2}
use Rattle.mode_2d.specs.declared.population_focei_2d.Conditional2.{Conditional2}
use Rattle.mode_2d.specs.declared.population_focei_2d.NewtonStep.{NewtonStep}
use Rattle.mode_2d.specs.declared.population_focei_2d.Stage2.TheVariants.{Halted}
use Rattle.mode_2d.specs.declared.population_focei_2d.Search2.{Search2}
use Rattle.mode_2d.specs.Rules as R
use Rattle.mode_theorems.specs.History2.{after}
use Rattle.source.specs.Run.{Run, done, ◌>>=◌, ◌>>◌, err, Flow, next, break, turn, rounds, for, asks}
use Rattle.source.specs.Source2.{of, vector, precision, ok_or, nowhere, scale_of, joint, subject, mode_from_seed}
use Rattle.source.specs.Claim2.{told_by, told}
use Rattle.source.proofs.Tells.{push, or_not, and_pick, or_pick, led_push, length_push, Tells}
use Rattle.mode.specs.declared.Request.{Request}
use Rattle.mode.specs.declared.Request.TheVariants.{Point, Refused}

abbrev pub Tree : Type 0
Tree = Run Pair Conditional2 (Conditional2 × Conditional2)

abbrev pub Fine : List Conditional2 → Conditional2 → Type 0
Fine g c = Unit {0}

-- ---- the source's lines, from the inside out
abbrev pub score_of : Settings2 → Conditional2 → List Float
score_of s c = pair (c.score.first +ᶠ M.at (product (precision s) (vector c.eta)) 0) (c.score.second +ᶠ M.at (product (precision s) (vector c.eta)) 1)

abbrev small : Settings2 → Conditional2 → Bool
small s c = le (max (abs (M.at (score_of s c) 0)) (abs (M.at (score_of s c) 1))) (word 0x3ee4_f8b5_88e3_68f1)

abbrev information : Settings2 → Conditional2 → List (List Float)
information s c =
    pair (pair (s.precision.m00 +ᶠ c.information.m00) (s.precision.m01 +ᶠ c.information.m01))
    (pair (s.precision.m10 +ᶠ c.information.m10) (s.precision.m11 +ᶠ c.information.m11))

abbrev trial_eta : Settings2 → Conditional2 → List Float → ℕ → Pair
trial_eta s c direction reduction =
    of (clamp (c.eta.first -ᶠ scale_of reduction *ᶠ M.at direction 0) (neg s.eta_bound) s.eta_bound)
    (clamp (c.eta.second -ᶠ scale_of reduction *ᶠ M.at direction 1) (neg s.eta_bound) s.eta_bound)

abbrev equal : Pair → Pair → Bool
equal a b = eq a.first b.first && eq a.second b.second

abbrev fall_of : Settings2 → Conditional2 → Pair → Float
fall_of s c t = dot (score_of s c) (pair (c.eta.first -ᶠ t.first) (c.eta.second -ᶠ t.second))

abbrev takes : Settings2 → Conditional2 → Pair → Conditional2 → Bool
takes s c t d = le (joint s d) (joint s c -ᶠ word 0x3f1a_36e2_eb1c_432d *ᶠ fall_of s c t)

abbrev try_it : Settings2 → Conditional2 → Pair → Option Conditional2 → Run Pair Conditional2 (Flow (Option Conditional2))
try_it s c t accepted =
    pick (equal t c.eta) (done (next accepted))
    (pick (le (fall_of s c t) (word 0)) (done (next accepted))
    (subject t >>= λ trial. pick (takes s c t trial) (done (break (Some trial))) (done (next accepted))))

abbrev reduce_body : Settings2 → Conditional2 → List (List Float) → ℕ → Option Conditional2 → Run Pair Conditional2 (Flow (Option Conditional2))
reduce_body s c inverse reduction accepted = try_it s c (trial_eta s c (product inverse (score_of s c)) reduction) accepted

abbrev onwards : Conditional2 → Option Conditional2 → Run Pair Conditional2 (Flow Conditional2)
onwards c accepted = elim accepted [ Some trial ↦ done (next trial) | None ↦ done (break c) ]

abbrev pub round_body : Settings2 → ℕ → Conditional2 → Run Pair Conditional2 (Flow Conditional2)
round_body s i c =
    pick (small s c) (done (break c))
    (ok_or (inverse_positive (information s c)) 16 >>= λ inverse. for 22 None (reduce_body s c inverse) >>= onwards c)

abbrev edge : Settings2 → Float
edge s = s.eta_bound -ᶠ word 0x3eb0_c6f7_a0b5_ed8d

abbrev pub unresolved : Settings2 → Conditional2 → Bool
unresolved s c = lt (word 0x3f50_624d_d2f1_a9fc) (max (abs (M.at (score_of s c) 0)) (abs (M.at (score_of s c) 1))) || (le (edge s) (abs c.eta.first) || le (edge s) (abs c.eta.second))

abbrev pub resolve : Settings2 → Conditional2 → Run Pair Conditional2 Conditional2
resolve s c = err (unresolved s c) 13 >> done c

seed_is : (s : Settings2) (initial : Pair) → mode_from_seed s initial ≡ (subject initial >>= λ c. (for 48 c (round_body s) >>= resolve s))
unfolding mode_from_seed
seed_is s initial = refl

-- ---- the rules' tests are the source's
small_is : (s : Settings2) (c : Conditional2) → le (R.norm s c) (word 0x3ee4_f8b5_88e3_68f1) ≡ small s c
unfolding R.norm R.max_abs R.penalised_score R.prior_score
small_is s c = refl

curvature_is : (s : Settings2) (c : Conditional2) → R.curvature s.precision c.information ≡ information s c
unfolding R.curvature M.sum
curvature_is s c = refl

pub unresolved_is : (s : Settings2) (c : Conditional2) → R.is_unresolved s c ≡ unresolved s c
unfolding R.is_unresolved R.norm R.max_abs R.penalised_score R.prior_score
unresolved_is s c = sym (or_pick _ _ ∙ ap (λ v. pick (lt (word 0x3f50_624d_d2f1_a9fc) (max (abs (M.at (score_of s c) 0)) (abs (M.at (score_of s c) 1)))) true v) (or_pick _ _))

trial_is : (s : Settings2) (c : Conditional2) (inverse : List (List Float)) (i : ℕ) → R.trial_point s.eta_bound (R.step_by s c inverse) i ≡ trial_eta s c (product inverse (score_of s c)) i
unfolding R.trial_point R.step_by R.reduced R.scale R.penalised_score R.prior_score
trial_is s c inverse i = refl

passed_is : (s : Settings2) (c : Conditional2) (inverse : List (List Float)) (i : ℕ) →
    let t = trial_eta s c (product inverse (score_of s c)) i in
    R.is_passed_over s.eta_bound (R.step_by s c inverse) i ≡ pick (equal t c.eta) true (le (fall_of s c t) (word 0))
unfolding R.is_passed_over R.is_same R.decrease R.trial_point R.step_by R.reduced R.scale R.penalised_score R.prior_score
passed_is s c inverse i =
    let t = trial_eta s c (product inverse (score_of s c)) i in
    ap (λ v. pick v true (le (fall_of s c t) (word 0))) (sym (and_pick _ _))

taken_is : (s : Settings2) (seed round i : ℕ) (c best : Conditional2) (inverse : List (List Float)) (d : Conditional2) →
    let t = trial_eta s c (product inverse (score_of s c)) i in
    R.is_taken s (R.trying seed round i c best (R.step_by s c inverse) t) d ≡ takes s c t d
unfolding R.is_taken R.trying R.decrease R.joint R.step_by R.penalised_score R.prior_score
taken_is s seed round i c best inverse d = refl

-- ---- histories
module _ (s : Settings2) where
  abbrev pub Ok : Tree → List Conditional2 → Type 0
  Ok r g = Tells Fine (λ m. m) (told s) r g

  -- the history g leads to x, and has the population's point p
  pub record At (g : List Conditional2) (x : Search2) (p : Conditional2) : Type 0 where
    pub leads : after s g ≡ x
    pub first : get_or g 0 nowhere ≡ p
    pub long : 1 ≤ length g

  pub at_to : {g : List Conditional2} {x y : Search2} {p : Conditional2} → At g x p → x ≡ y → At g y p
  at_to a e = record { leads = a.leads ∙ e; first = a.first; long = a.long }

  pub at_push : {g : List Conditional2} {x y : Search2} {p : Conditional2} (c : Conditional2) → At g x p → R.advance s x c ≡ y → At (push g c) y p
  at_push {g = g} c a e =
      record {
        leads = led_push (R.advance s) R.start g c ∙ ap (λ v. R.advance s v c) a.leads ∙ e;
        first = get_or-append g (c ∷ []) nowhere 0 a.long ∙ a.first;
        long = subst (λ n. 1 ≤ n) (sym (length_push g c)) (more (length g) a.long);
      }
    where
      more : (n : ℕ) → 1 ≤ n → 1 ≤ n + 1
      more n h = omega arith

  pub at_says : {g : List Conditional2} {x : Search2} {p : Conditional2} {q : Request Pair} → At g x p → R.request s x ≡ q → told s g ≡ told_by q (x.best, p)
  at_says {g = g} {x = x} {p = p} a e =
      ap (λ v. told_by (R.request s v) (v.best, get_or g 0 nowhere)) a.leads ∙ ap (λ v. told_by (R.request s x) (x.best, v)) a.first ∙ ap (λ v. told_by v (x.best, p)) e

  -- ---- one start
  module _ (p best : Conditional2) (seed : ℕ)
      (judge : Conditional2 → Run Pair Conditional2 (Flow (Option Conditional2))) (others : Option Conditional2 → Run Pair Conditional2 (Option Conditional2)) (fin : Option Conditional2 → Tree)
      (over : (c : Conditional2) (g : List Conditional2) → At g (R.finish s seed c best) p → Ok (resolve s c >>= judge >>= turn others >>= fin) g) where
    abbrev out : Run Pair Conditional2 Conditional2 → Tree
    out r = r >>= resolve s >>= judge >>= turn others >>= fin

    -- the reductions of a round
    module _ (round : ℕ) (c : Conditional2) (inverse : List (List Float)) (det : Float) (inverts : inverse_positive (R.curvature s.precision c.information) ≡ Inverse.some inverse det)
        (more : Conditional2 → Run Pair Conditional2 Conditional2)
        (goes : (d : Conditional2) (g : List Conditional2) → At g (pick (ltb round 47) (R.begin_round s seed (round + 1) d best) (R.finish s seed d best)) p → Ok (out (more d)) g) where
      abbrev step : NewtonStep
      step = R.step_by s c inverse

      abbrev eta : ℕ → Pair
      eta i = trial_eta s c (product inverse (score_of s c)) i

      abbrev try_to : ℕ → Search2
      try_to i = pick (ltb i 22) (R.trying seed round i c best step (R.trial_point s.eta_bound step i)) (R.finish s seed c best)

      abbrev try_at : ℕ → ℕ → Search2
      try_at m i = try_to (R.next_reduction s.eta_bound step m i)

      over_pass : (m i : ℕ) → R.is_passed_over s.eta_bound step i ≡ true → try_at (suc m) i ≡ try_at m (i + 1)
      unfolding R.next_reduction
      over_pass m i e = ap try_to (pick_yes _ _ _ e)

      over_try : (m i : ℕ) → i < 22 → R.is_passed_over s.eta_bound step i ≡ false → try_at (suc m) i ≡ R.trying seed round i c best step (eta i)
      unfolding R.next_reduction
      over_try m i k e = ap try_to (pick_no _ _ _ e) ∙ pick_yes _ _ _ (lt-ltb i 22 k) ∙ ap (R.trying seed round i c best step) (trial_is s c inverse i)

      none_left : (i : ℕ) → i + 0 ≡ 22 → try_at 0 i ≡ R.finish s seed c best
      unfolding R.next_reduction
      none_left i e = pick_no _ _ _ (le-ltb i 22 (omega arith))

      -- a trial that is not taken
      left_on : (m i : ℕ) → i + suc m ≡ 22 → R.leave s (R.trying seed round i c best step (eta i)) ≡ try_at m (i + 1)
      unfolding R.leave R.trying R.descend
      left_on zero i e = pick_no _ _ _ (le-ltb i 21 (omega arith)) ∙ sym (none_left (i + 1) (omega arith))
      left_on (suc m) i e =
          pick_yes _ _ _ (lt-ltb i 21 (omega arith))
          ∙ ap (λ v. R.descend_by v s seed round (i + 1) c best) inverts
          ∙ (unfold R.descend_by R.try_from in ap (λ n. try_at n (i + 1)) (rest i m e))
        where
          rest : (i m : ℕ) → i + suc (suc m) ≡ 22 → 22 - (i + 1) ≡ suc m
          rest i m e = omega arith

      abbrev within : Run Pair Conditional2 (Option Conditional2) → Tree
      within r = out (r >>= onwards c >>= turn more)

      -- a trial that is asked for, and what it makes of the search
      point_t : (i : ℕ) → R.request s (R.trying seed round i c best step (eta i)) ≡ Point (eta i)
      unfolding R.request_at R.trying
      point_t i = refl

      next_yes : (i : ℕ) (d : Conditional2) → takes s c (eta i) d ≡ true
          → R.advance s (R.trying seed round i c best step (eta i)) d ≡ pick (ltb round 47) (R.begin_round s seed (round + 1) d best) (R.finish s seed d best)
      unfolding R.advance_at R.trying R.take
      next_yes i d e = pick_yes _ _ _ (taken_is s seed round i c best inverse d ∙ e)

      next_no : (m i : ℕ) (d : Conditional2) → i + suc m ≡ 22 → takes s c (eta i) d ≡ false → R.advance s (R.trying seed round i c best step (eta i)) d ≡ try_at m (i + 1)
      unfolding R.advance_at R.trying
      next_no m i d k e = pick_no _ _ _ (taken_is s seed round i c best inverse d ∙ e) ∙ left_on m i k

      skips : (t : Pair) (again : Option Conditional2 → Run Pair Conditional2 (Option Conditional2)) (g : List Conditional2) → pick (equal t c.eta) true (le (fall_of s c t) (word 0)) ≡ true
          → Ok (within (again None)) g → Ok (within (try_it s c t None >>= turn again)) g
      unfolding ◌>>=◌ turn pick
      skips t again g e h = go (equal t c.eta) (le (fall_of s c t) (word 0)) e
        where
          go : (a b : Bool) → pick a true b ≡ true
              → Ok (within (pick a (done (next None)) (pick b (done (next None)) (subject t >>= λ trial. pick (takes s c t trial) (done (break (Some trial))) (done (next None)))) >>=
              turn again)) g
          go true b e = h
          go false true e = h
          go false false e = absurd (true≢false (sym e))

      tries : (t : Pair) (again : Option Conditional2 → Run Pair Conditional2 (Option Conditional2)) (g : List Conditional2) → pick (equal t c.eta) true (le (fall_of s c t) (word 0)) ≡ false
          → told s g ≡ asks t → ((d : Conditional2) → takes s c t d ≡ true → Ok (out (more d)) (push g d)) → ((d : Conditional2) → takes s c t d ≡ false → Ok (within (again None)) (push g d))
          → Ok (within (try_it s c t None >>= turn again)) g
      unfolding ◌>>=◌ turn pick Tells
      tries t again g e q y n = go (equal t c.eta) (le (fall_of s c t) (word 0)) e
        where
          one : (d : Conditional2) (b : Bool) → takes s c t d ≡ b → Ok (within (pick b (done (break (Some d))) (done (next None)) >>= turn again)) (push g d)
          one d true k = y d k
          one d false k = n d k

          go : (a b : Bool) → pick a true b ≡ false
              → Ok (within (pick a (done (next None)) (pick b (done (next None)) (subject t >>= λ trial. pick (takes s c t trial) (done (break (Some trial))) (done (next None)))) >>=
              turn again)) g
          go true b e = absurd (true≢false e)
          go false true e = absurd (true≢false e)
          go false false e = (q, λ d f. one d (takes s c t d) refl)

      pub reduces : (m i : ℕ) (g : List Conditional2) → i + m ≡ 22 → At g (try_at m i) p → Ok (within (rounds (reduce_body s c inverse) i m None)) g
      unfolding rounds ◌>>=◌ turn told_by
      reduces zero i g e a = over c g (at_to a (none_left i e))
      reduces (suc m) i g e a =
          let again : Option Conditional2 → Run Pair Conditional2 (Option Conditional2) = λ y. rounds (reduce_body s c inverse) (i + 1) m y in
          elim (or_not (R.is_passed_over s.eta_bound step i)) [
            | inl k ↦ skips (eta i) again g (sym (passed_is s c inverse i) ∙ k) (reduces m (i + 1) g (omega arith) (at_to a (over_pass m i k)))
            | inr k ↦
                let b = at_to a (over_try m i (omega arith) k) in
                tries (eta i) again g (sym (passed_is s c inverse i) ∙ k) (at_says b (point_t i)) (λ d t. goes d (push g d) (at_push d b (next_yes i d t)))
                (λ d t. reduces m (i + 1) (push g d) (omega arith) (at_push d b (next_no m i d e t)))
          ]

    -- a round
    halts : (c : Conditional2) (round : ℕ) → inverse_positive (R.curvature s.precision c.information) ≡ Inverse.none → R.descend s seed round 0 c best ≡ R.between (Halted 16) seed c best
    unfolding R.descend R.descend_by
    halts c round e = ap (λ v. R.descend_by v s seed round 0 c best) e

    refusal : (n : ℕ) (c : Conditional2) → R.request s (R.between (Halted n) seed c best) ≡ Refused n
    unfolding R.request_at R.between
    refusal n c = refl

    along : (round : ℕ) (c : Conditional2) (inverse : List (List Float)) (det : Float) → inverse_positive (R.curvature s.precision c.information) ≡ Inverse.some inverse det
        → let i = R.next_reduction s.eta_bound (R.step_by s c inverse) 22 0 in
        R.descend s seed round 0 c best ≡ pick (ltb i 22) (R.trying seed round i c best (R.step_by s c inverse) (R.trial_point s.eta_bound (R.step_by s c inverse) i)) (R.finish s seed c best)
    unfolding R.descend R.descend_by R.try_from
    along round c inverse det e = ap (λ v. R.descend_by v s seed round 0 c best) e

    module _ (round : ℕ) (more : Conditional2 → Run Pair Conditional2 Conditional2)
        (goes : (d : Conditional2) (g : List Conditional2) → At g (pick (ltb round 47) (R.begin_round s seed (round + 1) d best) (R.finish s seed d best)) p → Ok (out (more d)) g) where
      descends : (c : Conditional2) (g : List Conditional2) (v : Inverse) → inverse_positive (R.curvature s.precision c.information) ≡ v → At g (R.descend s seed round 0 c best) p
          → Ok (out (ok_or v 16 >>= (λ inverse. for 22 None (reduce_body s c inverse) >>= onwards c) >>= turn more)) g
      unfolding ◌>>=◌ Tells told_by
      descends c g Inverse.none e a = at_says (at_to a (halts c round e)) (refusal 16 c)
      descends c g (Inverse.some inverse det) e a = reduces round c inverse det e more goes 22 0 g refl (at_to a (along round c inverse det e))

      one_round : (c : Conditional2) (g : List Conditional2) → At g (R.begin_round s seed round c best) p → Ok (out (round_body s round c >>= turn more)) g
      unfolding ◌>>=◌ turn R.begin_round
      one_round c g a =
          elim (or_not (small s c)) [
            | inl k ↦ subst (λ v. Ok (out (v >>= turn more)) g) (sym (pick_yes (small s c) _ _ k)) (over c g (at_to a (pick_yes _ _ _ (small_is s c ∙ k))))
            | inr k ↦ subst (λ v. Ok (out (v >>= turn more)) g) (sym (pick_no (small s c) _ _ k))
                (descends c g (inverse_positive (information s c)) (ap inverse_positive (curvature_is s c)) (at_to a (pick_no _ _ _ (small_is s c ∙ k))))
          ]

    -- n rounds after this one
    pub begins : (n round : ℕ) (c : Conditional2) (g : List Conditional2) → round + n ≡ 47 → At g (R.begin_round s seed round c best) p → Ok (out (rounds (round_body s) round (suc n) c)) g
    unfolding rounds ◌>>=◌
    begins zero round c g e a = one_round round (λ y. rounds (round_body s) (round + 1) zero y) (λ d h b. over d h (at_to b (pick_no _ _ _ (le-ltb round 47 (omega arith))))) c g a
    begins (suc n) round c g e a = one_round round (λ y. rounds (round_body s) (round + 1) (suc n) y)
        (λ d h b. begins n (round + 1) d h (omega arith) (at_to b (pick_yes _ _ _ (lt-ltb round 47 (omega arith))))) c g a
