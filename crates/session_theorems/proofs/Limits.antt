-- A search stays within the limits that 19 holds a state's search to, whatever evaluations it is given, and the number that it ends with is below 19. Assumes nothing.
use Rattle.std.specs.Prelude.{Float}
use mathlib.Core.Path.{◌≡◌, refl, ◌∙◌}
use mathlib.Core.Bool.{true}
use mathlib.Core.Logic.{◌⊎◌, inl, inr}
use Prim.Native.Nat.{ℕ, ◌+◌, ◌<◌}
use native.Mathlib.Omega.{arith}
use borrow.Author.Tests.{ltb-true, lt-ltb}
use lib.Dec.{ltb}
use Rattle.float64.specs.Pick.{both, cases, pick_yes}
use Rattle.matrix.specs.Matrix.{Inverse, some, none}
use Rattle.matrix.specs.declared.Pair.{Pair}
use Rattle.mode.specs.Rules.{request_at, screened, first_stage, entered, chosen, tried, advance_at, advance, start}
use Rattle.mode.specs.declared.population_focei.Settings.{Settings}
use Rattle.mode.specs.declared.population_focei.Conditional.{Conditional}
use Rattle.mode.specs.declared.population_focei.Stage.{Stage}
use Rattle.mode.specs.declared.population_focei.Stage.TheVariants.{Grid, Warm, Secant, Halving}
use Rattle.mode.specs.declared.population_focei.Search.{Search}
use Rattle.mode_2d.specs.Rules as R2
use Rattle.mode_2d.specs.declared.population_focei_2d.Settings2.{Settings2}
use Rattle.mode_2d.specs.declared.population_focei_2d.Conditional2.{Conditional2}
use Rattle.mode_2d.specs.declared.population_focei_2d.NewtonStep.{NewtonStep}
use Rattle.mode_2d.specs.declared.population_focei_2d.Stage2.{Stage2}
use Rattle.mode_2d.specs.declared.population_focei_2d.Stage2.TheVariants.{Zero, Start, Trial, Found, Halted}
use Rattle.mode_2d.specs.declared.population_focei_2d.Search2.{Search2}
use Rattle.search.specs.Subjects as B
use Rattle.search.specs.declared.Fit.{Fit}
use Rattle.search.specs.declared.Progress.{Progress}
use Rattle.session.specs.Session.{count_within, search_within, search_within2}
use Rattle.session_theorems.proofs.Plain.{Not19, before_19, one_not_19}
use Rattle.mode.specs.declared.Request.{Request}
use Rattle.mode.specs.declared.Request.TheVariants as Wants

-- ---- one effect
abbrev pub Within : Search → Type 0
Within x = search_within x ≡ true

pub start_within : Within start
unfolding search_within count_within start
start_within = refl

tried_within : (stage : Stage) (n : ℕ) (x : Search) (c : Conditional) → count_within stage n ≡ true → Within (tried stage n x c)
unfolding search_within tried
tried_within stage n x c e = e

entered_within : (s : Settings) (x : Search) → Within (entered s x)
unfolding search_within entered first_stage
entered_within s x = both (λ (stage : Stage). count_within stage 0 ≡ true) _ (both (λ (stage : Stage). count_within stage 0 ≡ true) _ warm secant) secant
  where
    warm : count_within Warm 0 ≡ true
    warm = unfold count_within in refl

    secant : count_within Secant 0 ≡ true
    secant = unfold count_within in refl

screened_within : (x : Search) (c : Conditional) → x.count < 17 → Within (screened x c)
unfolding search_within count_within screened
screened_within x c l = lt-ltb (x.count + 1) 18 (omega arith)

chosen_within : (s : Settings) (x : Search) → Within x → Within (chosen s x)
unfolding chosen
chosen_within s x w = both Within _ w (both Within _ w (both Within _ w (both Within _ w (both Within _ (entered_within s x) w))))

advance_at_lem : (stage : Stage) (s : Settings) (x : Search) (c : Conditional) → Within x → Within (advance_at stage s x c)
unfolding advance_at count_within
advance_at_lem Grid s x c w = cases Within (ltb x.count 17) (λ t. chosen_within s _ (screened_within x c (ltb-true _ _ t))) (λ t. w)
advance_at_lem Warm s x c w = tried_within Secant 0 x c refl
advance_at_lem Secant s x c w = cases Within (ltb x.count 15) (λ t. let l : x.count < 15 = ltb-true _ _ t in tried_within Secant (x.count + 1) x c (lt-ltb (x.count + 1) 16 (omega arith)))
    (λ t. tried_within Halving 0 x c refl)
advance_at_lem Halving s x c w = cases Within (ltb x.count 48) (λ t. let l : x.count < 48 = ltb-true _ _ t in tried_within Halving (x.count + 1) x c (lt-ltb (x.count + 1) 49 (omega arith))) (λ t. w)

pub advance_within : (s : Settings) (x : Search) (c : Conditional) → Within x → Within (advance s x c)
advance_within s x c w = advance_at_lem x.stage s x c w

-- ---- two effects
unfoldable pub Numbered : Stage2 → Type 0
Numbered Zero = Unit
Numbered Start = Unit
Numbered Trial = Unit
Numbered Found = Unit
Numbered (Halted n) = (n ≡ 13) ⊎ ((n ≡ 14) ⊎ (n ≡ 16))

pub record Within2 (x : Search2) : Type 0 where
  pub seed : x.seed < 7
  pub round : x.round < 48
  pub reduction : x.reduction < 22
  pub number : Numbered x.stage

pub within2_true : (x : Search2) → Within2 x → search_within2 x ≡ true
unfolding search_within2
within2_true x w = pick_yes _ _ _ (lt-ltb _ _ w.seed) ∙ pick_yes _ _ _ (lt-ltb _ _ w.round) ∙ lt-ltb _ _ w.reduction

between_within : (stage : Stage2) (seed : ℕ) (current best : Conditional2) → seed < 7 → Numbered stage → Within2 (R2.between stage seed current best)
unfolding R2.between
between_within stage seed current best l n = record { seed = l; round = omega arith; reduction = omega arith; number = n }

pub start_within2 : Within2 R2.start
unfolding R2.start Numbered
start_within2 = between_within Zero 0 _ _ (omega arith) tt

module _ (s : Settings2) (seed : ℕ) (few : seed < 7) where
  finish_within : (c best : Conditional2) → Within2 (R2.finish s seed c best)
  unfolding R2.finish Numbered
  finish_within c best =
      both Within2 _ (between_within (Halted 13) seed c best few (inl refl))
      (both Within2 _ (between_within (Halted 14) seed c best few (inr (inl refl)))
      (cases Within2 (ltb seed 5) (λ t. let l : seed < 5 = ltb-true _ _ t in between_within Start (seed + 1) c _ (omega arith) tt) (λ t. between_within Found 6 c _ (omega arith) tt)))

  trying_within : (round reduction : ℕ) → round < 48 → reduction < 22 → (c best : Conditional2) (step : NewtonStep) (trial : Pair) → Within2 (R2.trying seed round reduction c best step trial)
  unfolding R2.trying Numbered
  trying_within round reduction l m c best step trial = record { seed = few; round = l; reduction = m; number = tt }

  try_within : (round from : ℕ) → round < 48 → (c best : Conditional2) (step : NewtonStep) → Within2 (R2.try_from s seed round from c best step)
  unfolding R2.try_from
  try_within round from l c best step = cases Within2 _ (λ t. trying_within round _ l (ltb-true _ _ t) c best step _) (λ t. finish_within c best)

  descend_by_lem : (i : Inverse) (round from : ℕ) → round < 48 → (c best : Conditional2) → Within2 (R2.descend_by i s seed round from c best)
  unfolding R2.descend_by Numbered
  descend_by_lem none round from l c best = between_within (Halted 16) seed c best few (inr (inr refl))
  descend_by_lem (some inverse det) round from l c best = try_within round from l c best _

  descend_within : (round from : ℕ) → round < 48 → (c best : Conditional2) → Within2 (R2.descend s seed round from c best)
  unfolding R2.descend
  descend_within round from l c best = descend_by_lem _ round from l c best

  round_within : (round : ℕ) → round < 48 → (c best : Conditional2) → Within2 (R2.begin_round s seed round c best)
  unfolding R2.begin_round
  round_within round l c best = both Within2 _ (finish_within c best) (descend_within round 0 l c best)

advance_at2 : (stage : Stage2) (s : Settings2) (x : Search2) (c : Conditional2) → Within2 x → Within2 (R2.advance_at stage s x c)
unfolding R2.advance_at R2.take R2.leave Numbered
advance_at2 Zero s x c w = between_within Start 0 c c (omega arith) tt
advance_at2 Start s x c w = round_within s x.seed w.seed 0 (omega arith) c x.best
advance_at2 Trial s x c w =
    both Within2 _
    (cases Within2 (ltb x.round 47) (λ t. let l : x.round < 47 = ltb-true _ _ t in round_within s x.seed w.seed (x.round + 1) (omega arith) c x.best)
    (λ t. finish_within s x.seed w.seed c x.best))
    (both Within2 _ (descend_within s x.seed w.seed x.round (x.reduction + 1) w.round x.current x.best) (finish_within s x.seed w.seed x.current x.best))
advance_at2 Found s x c w = w
advance_at2 (Halted n) s x c w = w

pub advance_within2 : (s : Settings2) (x : Search2) (c : Conditional2) → Within2 x → Within2 (R2.advance s x c)
advance_within2 s x c w = advance_at2 x.stage s x c w

-- ---- what a search wants: a refusal's number is not 19
unfoldable pub Other : Request Pair → Type 0
Other (Wants.Point eta) = Unit
Other Wants.Mode = Unit
Other (Wants.Refused n) = Not19 n

abbrev Other1 : Request Float → Type 0
Other1 q = Other (B.wants1 q)

other1 : (stage : Stage) (s : Settings) (x : Search) → Other1 (request_at stage s x)
unfolding request_at Other
other1 Grid s x = both Other1 _ tt (both Other1 _ (before_19 (omega arith)) (both Other1 _ (before_19 (omega arith)) (before_19 (omega arith))))
other1 Warm s x = tt
other1 Secant s x = both Other1 _ tt tt
other1 Halving s x = both Other1 _ tt (both Other1 _ tt (before_19 (omega arith)))

other2 : (stage : Stage2) (s : Settings2) (x : Search2) → Numbered stage → Other (B.wants2 (R2.request_at stage s x))
unfolding R2.request_at Numbered Other
other2 Zero s x n = tt
other2 Start s x n = tt
other2 Trial s x n = tt
other2 Found s x n = tt
other2 (Halted number) s x n = one_not_19 number 13 14 16 n (before_19 (omega arith)) (before_19 (omega arith)) (before_19 (omega arith))

pub wanted_other : (fit : Fit) (p : Progress) → Within2 (B.two_of p.search) → Other (B.wanted_by fit p)
unfolding B.wanted_by B.wanted1 B.wanted2
wanted_other fit p w = both Other _ (other2 _ _ (B.two_of p.search) w.number) (other1 _ _ (B.one_of p.search))
