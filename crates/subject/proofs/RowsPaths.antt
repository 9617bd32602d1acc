-- The ways through the code: one law for each, over plain variables. Assumes nothing.
use Rattle.std.specs.Prelude.{Err, None, Ok, Option, Some, unwrap_or, ok_or}
use Rattle.std.proofs.Common.{◌≡◌, ℕ, ◌+◌, ◌*◌, ◌/◌, ◌<◌, ◌≤◌, ltb, List, length, get_or, set, sym, refl, ap, ◌∙◌, subst, le_trans, mul-le-mul_right, mul-le-mul_left, div-mul-le_self, arith, ltb-true, le-ltb, lt-ltb, eq-eqb, ne_eqb}
use lib.Seq.{set_out}
use lib.Ieee.{Float}
use Rattle.float64.specs.Arithmetic.{word}
use Rattle.float64.specs.Pick.{yes, no, cases}
use Rattle.matrix.specs.Matrix.{pair}
use Rattle.subject.proofs.Paths.{missing_of}
use Rattle.cache.specs.Cache.{row_words}
use Rattle.likelihood.specs.declared.population_focei.Observation.{Observation}
use Rattle.subject.specs.declared.Trial.{Trial}
use Rattle.subject.specs.declared.Sums.{Sums}
use Rattle.subject.specs.declared.PredictionRow.{PredictionRow}
use Rattle.subject.specs.Reply.{row_length, rows, row_at, column, side, prediction_row, written}
use Rattle.subject.specs.Subject.{additive_of, add_row, add_row2, f_eta, add_row_at, Evaluating, evaluating, add_at, add_to, add_after, add_observation, Evaluation}
use Rattle.subject.specs.declared.EvaluationError.{EvaluationError}
use Rattle.subject.specs.declared.EvaluationError.TheVariants.{RefusedAt}

-- ---- the words of a reply
-- within a row, no block begins further on than the second effect's
pub last_block : (width block : ℕ) → block < 3 → width * block ≤ width * 2
last_block width block h = mul-le-mul_left width (let x : block ≤ 2 = omega arith in x)

-- of n words: a row begins within them
pub row_within : (n words row : ℕ) → row < n / words → row * words ≤ n
row_within n words row h = le_trans (mul-le-mul_right words (let x : row ≤ n / words = omega arith in x)) (div-mul-le_self n words)

-- a missing row is at no word
never : {at : ℕ} {X : Type 0} → None ≡ Some at → X
never q = absurd (let z : ◌≡◌ {A = ℕ} 0 1 = cc in omega arith)

-- a row's place; words is its length
module _ (reply : List ℕ) (width effects output row : ℕ) where
  pub no_such_output : width ≤ output → None ≡ row_at reply width effects output row
  unfolding row_at
  no_such_output h = no _ (le-ltb _ _ h) refl

  module _ {words : ℕ} (h : output < width) (e : words ≡ row_length width effects) where
    pub no_such_row : length reply / words ≤ row → None ≡ row_at reply width effects output row
    unfolding row_at
    no_such_row l = yes _ (lt-ltb _ _ h) (no _ (le-ltb _ _ (subst (λ (w : ℕ). length reply / w ≤ row) e l)) refl)

    pub row_there : row < length reply / words → Some (row * words) ≡ row_at reply width effects output row
    unfolding row_at
    row_there l = yes _ (lt-ltb _ _ h) (yes _ (lt-ltb _ _ (subst (λ (w : ℕ). row < length reply / w) e l)) (λ i. Some (row * e i)))

  -- r is what `row_at` answered
  pub row_says : {r : Option ℕ} {at : ℕ} → r ≡ row_at reply width effects output row → r ≡ Some at → (at ≤ length reply) × (output < width)
  unfolding row_at
  row_says {at = at} e t =
      let Says : Option ℕ → Type 0 = λ z. z ≡ Some at → (at ≤ length reply) × (output < width) in
      cases Says (ltb output width)
      (λ h. cases Says (ltb row (rows reply width effects)) (λ l q. (
        let z : row * row_length width effects ≡ at = cc in subst (λ (n : ℕ). n ≤ length reply) z (row_within _ _ _ (ltb-true _ _ l)),
        ltb-true _ _ h,
      )) (λ l q. never q))
      (λ h q. never q) (sym e ∙ t)

-- what is kept of a row; s is the side's word
module _ (reply : List ℕ) (at width output : ℕ) {prediction time s : ℕ} (ep : prediction ≡ column reply at width 0 output) (et : time ≡ get_or reply at 0) (es : s ≡ get_or reply (at + 1) 0) where
  kept : {n : ℕ} → n ≡ side s → record { prediction = prediction; time = time; side = n } ≡ prediction_row reply at width output
  unfolding prediction_row
  kept q = λ i. record { prediction = ep i; time = et i; side = (q ∙ ap side es) i }

  pub pre_kept : s ≡ 0 → record { prediction = prediction; time = time; side = 0 } ≡ prediction_row reply at width output
  unfolding side
  pre_kept h = kept (yes _ (eq-eqb _ _ h) refl)

  pub post_kept : (s ≡ 0 → ⊥) → record { prediction = prediction; time = time; side = 1 } ≡ prediction_row reply at width output
  unfolding side
  post_kept h = kept (no _ (ne_eqb _ _ h) refl)

-- a row is written; w1 to w3 are the words after each store
module _ (block observation : ℕ) (row : PredictionRow) (work : List ℕ) where
  pub nothing_written : length work ≤ block + row_words * observation → work ≡ written block observation row work
  unfolding written
  nothing_written h =
      let at = block + row_words * observation in
      sym (ap (λ (w : List ℕ). set (set w (at + 1) row.time) (at + 2) row.side) (set_out work at row.prediction h)
      ∙ ap (λ (w : List ℕ). set w (at + 2) row.side) (set_out work (at + 1) row.time (omega arith))
      ∙ set_out work (at + 2) row.side (omega arith))

  pub row_written : {w1 w2 w3 : List ℕ} → let at = block + row_words * observation in w1 ≡ set work at row.prediction → w2 ≡ set w1 (at + 1) row.time → w3 ≡ set w2 (at + 2) row.side → w3 ≡
      written block observation row work
  unfolding written
  row_written e1 e2 e3 =
      let at = block + row_words * observation in
      e3 ∙ ap (λ (w : List ℕ). set w (at + 2) row.side) (e2 ∙ ap (λ (w : List ℕ). set w (at + 1) row.time) e1)

-- the additive deviation of a row: the one that overrides all, or the observation's own
pub own_or : (additive_sd : Option Float) (observation : Observation) → unwrap_or additive_sd observation.additive ≡ additive_of additive_sd observation
unfolding additive_of
own_or None observation = refl
own_or (Some additive) observation = refl

-- ---- the row at `at`; w is the prediction's word, f the prediction, g and g2 its derivatives by the first and the second eta
module _ (sums : Sums) (observation : Observation) (trial : Trial) (reply : List ℕ) (at : ℕ) {w : ℕ} {f g : Float} (ew : w ≡ column reply at trial.width 0 observation.output) (ef : f ≡ word w)
    (eg : g ≡ f_eta reply at trial.width 1 observation.output trial.individual.first) where
  prediction_is : f ≡ word (column reply at trial.width 0 observation.output)
  prediction_is = ef ∙ ap (λ (x : ℕ). word x) ew

  pub one_effect : {additive : Float} {z : Evaluation} → (trial.effects ≡ 2 → ⊥) → additive ≡ additive_of trial.additive_sd observation → z ≡ add_row sums observation f g additive → z ≡ add_row_at
      sums observation trial reply at
  unfolding add_row_at
  one_effect h ea q = no _ (ne_eqb _ _ h) (q ∙ (λ i. add_row sums observation (prediction_is i) (eg i) (ea i)))

  pub two_effects : {g2 : Float} {z : Evaluation} → trial.effects ≡ 2 → g2 ≡ f_eta reply at trial.width 2 observation.output trial.individual.second → z ≡ add_row2 sums observation f
      (pair g g2) → z ≡ add_row_at sums observation trial reply at
  unfolding add_row_at
  two_effects h e2 q = yes _ (eq-eqb _ _ h) (q ∙ (λ i. add_row2 sums observation (prediction_is i) (pair (eg i) (e2 i))))

-- ---- an observation, where the sums so far are given; r is what `row_at` answered, w the words afterwards
module _ (sums : Sums) (observation : Observation) (trial : Trial) (reply work : List ℕ) {r : Option ℕ} (e : r ≡ row_at reply trial.width trial.effects observation.output observation.row)
  where
    looked_up : {variant : Option ℕ} {z : Evaluating} → r ≡ variant → z ≡ add_at sums observation trial reply work variant → z ≡ add_to sums observation trial reply work
    unfolding add_to
    looked_up t q = q ∙ ap (add_at sums observation trial reply work) (sym t ∙ e)

    pub row_missing : {error : EvaluationError} → ok_or r (RefusedAt 10 sums.observation) ≡ Err error → evaluating (Err error) work ≡ add_to sums observation trial reply work
    unfolding add_at
    row_missing w = let m = missing_of r w in ap (λ (x : EvaluationError). evaluating (Err x) work) (sym m.1) ∙ looked_up m.0 refl

    pub row_taken : {at : ℕ} {row : PredictionRow} {w : List ℕ} {z : Evaluation} → r ≡ Some at → row ≡ prediction_row reply at trial.width observation.output → w ≡ written trial.block
        sums.observation row work → z ≡ add_row_at sums observation trial reply at → evaluating z w ≡ add_to sums observation trial reply work
    unfolding add_at
    row_taken t p q a = looked_up t (λ i. evaluating (a i) ((q ∙ ap (λ (x : PredictionRow). written trial.block sums.observation x work) p) i))

-- ---- an observation after an evaluation x
module _ (trial : Trial) (reply : List ℕ) (observation : Observation) {x : Evaluation} (work : List ℕ) where
  came : {variant : Evaluation} {z : Evaluating} → x ≡ variant → z ≡ add_after trial reply observation work variant → z ≡ add_observation trial reply observation (evaluating x work)
  unfolding add_observation
  came t q = q ∙ ap (add_after trial reply observation work) (sym t)

  pub after_running : {sums : Sums} {z : Evaluating} → x ≡ Ok sums → z ≡ add_to sums observation trial reply work → z ≡ add_observation trial reply observation (evaluating x work)
  unfolding add_after
  after_running t q = came t q

  pub after_refused : {error : EvaluationError} → x ≡ Err error → evaluating (Err error) work ≡ add_observation trial reply observation (evaluating x work)
  unfolding add_after
  after_refused t = came t refl
