-- `mode` of population_focei.rs, to be held beside it line by line. An evaluation is `evaluate`'s value: the prior's eta / omega is added
-- to its score.
use Rattle.std.specs.Prelude.{Bool, false, not, ◌&&◌, ◌||◌, List, [], ◌∷◌, ◌++◌, ℕ, length, get_or, eqb, pos, Float}
use Rattle.std.specs.Float.{binary64}
use Rattle.std.specs.Float.Ieee.{of_int, lt, le, neg}
use Rattle.float64.specs.Arithmetic.{◌+ᶠ◌, ◌-ᶠ◌, ◌*ᶠ◌, ◌/ᶠ◌, word, half, one}
use Rattle.float64.specs.Float64.{abs, clamp}
use Rattle.mode.specs.declared.population_focei.Settings.{Settings}
use Rattle.source.specs.Run.{Run, done, ask, ◌>>=◌, ◌>>◌, when◌then◌else◌, err, next, break, for}

-- struct Conditional; its rows as words: prediction, time and side of each
pub record Conditional : Type 0 where
  pub eta : Float
  pub nll : Float
  pub score : Float
  pub information : Float
  pub rows : List ℕ

-- ---- vectors: push, an index, windows(2), filter, any
abbrev pub nowhere : Conditional
nowhere = record { eta = word 0; nll = word 0; score = word 0; information = word 0; rows = [] }

abbrev pub push : {A : Type 0} → List A → A → List A
push l a = l ++ (a ∷ [])

abbrev pub at : List Conditional → ℕ → Conditional
at l i = get_or l i nowhere

abbrev pub Pair : Type 0
Pair = Conditional × Conditional

unfoldable pub windows_from : Conditional → List Conditional → List Pair
windows_from a [] = []
windows_from a (b ∷ t) = (a, b) ∷ windows_from b t

unfoldable pub windows : List Conditional → List Pair
windows [] = []
windows (a ∷ t) = windows_from a t

unfoldable pub filter : {A : Type 0} → (A → Bool) → List A → List A
filter p [] = []
filter p (a ∷ t) = when p a then a ∷ filter p t else filter p t

unfoldable pub any : {A : Type 0} → (A → Bool) → List A → Bool
any p [] = false
any p (a ∷ t) = p a || any p t

abbrev pub first_of : List Pair → Pair
first_of l = get_or l 0 (nowhere, nowhere)

-- ---- its literals: 0.1 and 8.
abbrev pub «1e-1» : Float
«1e-1» = word 0x3fb9_9999_9999_999a

abbrev pub eight : Float
eight = word 0x4020_0000_0000_0000

-- left, right and best
abbrev pub Bracket : Type 0
Bracket = Conditional × Conditional × Conditional

-- if trial.score > 0. { right = trial } else { left = trial }; if trial.score.abs() < best.score.abs() { best = trial }
abbrev pub narrow : Conditional → Conditional → Conditional → Conditional → Bracket
narrow left right best trial = (
  when lt (word 0) trial.score then left else trial,
  when lt (word 0) trial.score then trial else right,
  when lt (abs trial.score) (abs best.score) then trial else best,
)

-- ---- the search: the mode, and the population's rows
unfoldable pub mode : Settings → Run Float Conditional (Conditional × List ℕ)
mode s = do
  let omega = s.omega
  let limit = s.eta_bound
  let evaluate : Float → Run Float Conditional Conditional = λ eta. ask eta done
  grid ← for 17 [] λ point grid. do
    let eta = neg limit +ᶠ limit *ᶠ of_int binary64 (pos point) /ᶠ eight
    value ← evaluate eta
    done (next (push grid value))
  let population_rows = (at grid 8).rows
  err (le (word 0) (at grid 0).score || le (at grid 16).score (word 0)) 13
  let upward = filter (λ pair. le pair.0.score (word 0) && lt (word 0) pair.1.score) (windows grid)
  err (not (eqb (length upward) 1) || any (λ pair. lt (word 0) pair.0.score && le pair.1.score (word 0)) (windows grid)) 14
  let left = (first_of upward).0
  let right = (first_of upward).1
  let best = when lt (abs left.score) (abs right.score) then left else right
  let tolerance = s.tolerance
  let settled : Conditional → Float → Bool = λ value width.
      le width tolerance || le (abs value.score /ᶠ (one /ᶠ omega +ᶠ value.information)) tolerance
  let warm = s.warm
  (left, right, best) ← when lt left.eta warm && lt warm right.eta then (do
    trial ← evaluate warm
    done (narrow left right best trial))
      else done (left, right, best)
  (left, right, best) ← for 16 (left, right, best) λ i (left, right, best).
      when settled best (right.eta -ᶠ left.eta) then done (break (left, right, best)) else (do
        let width = right.eta -ᶠ left.eta
        let eta = clamp (left.eta -ᶠ left.score *ᶠ width /ᶠ (right.score -ᶠ left.score))
            (left.eta +ᶠ «1e-1» *ᶠ width) (right.eta -ᶠ «1e-1» *ᶠ width)
        trial ← evaluate eta
        done (next (narrow left right best trial)))
  (left, right, best) ← when settled best (right.eta -ᶠ left.eta) then done (left, right, best) else
      for 48 (left, right, best) λ i (left, right, best).
      when settled best (right.eta -ᶠ left.eta) then done (break (left, right, best)) else (do
        trial ← evaluate (half *ᶠ (left.eta +ᶠ right.eta))
        done (next (narrow left right best trial)))
  err (not (settled best (right.eta -ᶠ left.eta))) 15
  done (best, population_rows)
