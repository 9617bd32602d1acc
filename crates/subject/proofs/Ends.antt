-- How a subject's evaluation ends, and that it writes to its trial block alone (specs/Claim.antt). Assumes nothing.
use Rattle.std.specs.Prelude.{Err, None, Ok, Option, Some}
use Rattle.std.proofs.Common.{◌≡◌, ℕ, zero, suc, ◌+◌, ◌*◌, ◌^◌, ◌<◌, ◌≤◌, false, eqb, ◌⊎◌, List, [], ◌∷◌, length, get_or, set, sym, refl, ap, ◌∙◌, subst, inl, inr, ⊎_elim, mod-eq_of_lt, arith, length-set, get_or-set_other, get_or-set_same}
use lib.Ieee.{Float}
use Rattle.float64.specs.Answer.{Answer, given, refused, through}
use Rattle.float64.specs.Pick.{pick, both, cases}
use Rattle.cache.specs.Cache.{row_words}
use Rattle.likelihood.specs.Row2.{row_variance}
use Rattle.likelihood.specs.RowTerms.{row_terms, finite_terms}
use Rattle.likelihood.specs.declared.population_focei.Observation.{Observation}
use Rattle.subject.specs.Claim.{reply_rows, EveryEvaluation}
use Rattle.subject.specs.Reply.{row_length, row_at, column, side, prediction_row, written}
use Rattle.subject.specs.Subject.{next, begin, at_observation, with_terms, add_row, with_row, add_row2, add_row_at, Evaluating, evaluating, add_at, add_to, add_after, add_observation, add_observations, Evaluation}
use Rattle.subject.specs.Subject.{has_nonfinite_sum, finish}
use Rattle.subject.specs.declared.Trial.{Trial}
use Rattle.subject.specs.declared.Sums.{Sums}
use Rattle.subject.specs.declared.PredictionRow.{PredictionRow}
use Rattle.subject.specs.declared.EvaluationError.{EvaluationError}
use Rattle.subject.specs.declared.EvaluationError.TheVariants.{Refused, RefusedAt}

-- ---- the numbers
abbrev Row : ℕ → Type 0
Row n = (n ≡ 10) ⊎ ((n ≡ 11) ⊎ (n ≡ 12))

-- what an answer about a row may be refused with
unfoldable ByRow : {X : Type 0} → Answer X → Type 0
ByRow (given x) = Unit
ByRow (refused n) = Row n

eleven : (X : Type 0) → ByRow {X = X} (refused 11)
unfolding ByRow
eleven X = inr (inl refl)

twelve : (X : Type 0) → ByRow {X = X} (refused 12)
unfolding ByRow
twelve X = inr (inr refl)

fine : {X : Type 0} (x : X) → ByRow (given x)
unfolding ByRow
fine x = tt

one_effect : (o : Observation) (f f-eta a : Float) → ByRow (row_terms o f f-eta a)
unfolding row_terms finite_terms
one_effect o f f-eta a = both ByRow _ (eleven _) (both ByRow _ (eleven _) (both ByRow _ (eleven _) (both ByRow _ (twelve _) (both ByRow _ (twelve _) (both ByRow _ (twelve _) (fine _))))))

two_effects : (o : Observation) (f : Float) (f-eta : List Float) → ByRow (row_variance o f f-eta)
unfolding row_variance
two_effects o f f-eta = both ByRow _ (eleven _) (both ByRow _ (eleven _) (both ByRow _ (eleven _) (both ByRow _ (eleven _) (both ByRow _ (eleven _) (fine _)))))

-- ---- an evaluation after k observations
unfoldable Good : ℕ → Evaluation → Type 0
Good k (Ok s) = s.observation ≡ k
Good k (Err (Refused n)) = (n ≡ 8) ⊎ (n ≡ 9)
Good k (Err (RefusedAt n i)) = Row n × (i < k)

begun_good : (reply : List ℕ) (width effects budget : ℕ) → Good 0 (begin reply width effects budget)
unfolding begin Good
begun_good reply width effects budget = both (Good 0) _ (both (Good 0) _ (inr refl) refl) (inl refl)

next_is : (k : ℕ) → k + 1 < 2 ^ 64 → next k ≡ k + 1
next_is k l = mod-eq_of_lt l

module _ (k : ℕ) (small : k + 1 < 2 ^ 64) (sums : Sums) (at : sums.observation ≡ k) where
  -- the sums with a row are at the next observation
  answered : {X : Type 0} (f : X → Sums) → ((x : X) → (f x).observation ≡ next sums.observation) → (a : Answer X) → ByRow a → Good (k + 1) (at_observation sums.observation (through f a))
  unfolding ByRow through at_observation Good
  answered f raised (given x) h = raised x ∙ ap next at ∙ next_is k small
  answered f raised (refused n) h = (h, omega (arith, at))

  row_good : (o : Observation) (trial : Trial) (reply : List ℕ) (p : ℕ) → Good (k + 1) (add_row_at sums o trial reply p)
  unfolding add_row_at add_row add_row2 with_terms with_row
  row_good o trial reply p = both (Good (k + 1)) _ (answered _ (λ x. refl) _ (two_effects _ _ _)) (answered _ (λ x. refl) _ (one_effect _ _ _ _))

  missing_good : Good (k + 1) (Err (RefusedAt 10 sums.observation))
  unfolding Good
  missing_good = (inl refl, omega (arith, at))

-- ---- the work words: those of the rows from k up to n alone are written
abbrev Outside : ℕ → ℕ → ℕ → ℕ → Type 0
Outside block k n j = (j < block + row_words * k) ⊎ (block + row_words * n ≤ j)

apart : (block k n j i : ℕ) → k < n → i < 3 → Outside block k n j → j ≡ block + row_words * k + i → ⊥
apart block k n j i l m o e = ⊎_elim (λ (a : j < block + row_words * k). omega arith) (λ (b : block + row_words * n ≤ j). omega arith) o

written_around : (block k n j : ℕ) (row : PredictionRow) (work : List ℕ) → k < n → Outside block k n j → get_or (written block k row work) j 0 ≡ get_or work j 0
unfolding written
written_around block k n j row work l o =
    let at = block + row_words * k in
    let one = set work at row.prediction in
    let two = set one (at + 1) row.time in
    get_or-set_other two (at + 2) j row.side 0 (apart block k n j 2 l (omega arith) o)
    ∙ get_or-set_other one (at + 1) j row.time 0 (apart block k n j 1 l (omega arith) o)
    ∙ get_or-set_other work at j row.prediction 0 (λ (e : j ≡ block + row_words * k). apart block k n j 0 l (omega arith) o (omega arith))

written_length : (block k : ℕ) (row : PredictionRow) (work : List ℕ) → length (written block k row work) ≡ length work
unfolding written
written_length block k row work = simp length-set

-- the three words of a row
module _ (block k : ℕ) (row : PredictionRow) (work : List ℕ) (room : block + row_words * k + 3 ≤ length work) where
  abbrev place : ℕ
  place = block + row_words * k

  abbrev first : List ℕ
  first = set work place row.prediction

  abbrev second : List ℕ
  second = set first (place + 1) row.time

  first_length : length first ≡ length work
  first_length = length-set work place row.prediction

  second_length : length second ≡ length work
  second_length = length-set first (place + 1) row.time ∙ first_length

  has_prediction : get_or (written block k row work) place 0 ≡ row.prediction
  unfolding written
  has_prediction =
      get_or-set_other second (place + 2) place row.side 0 (λ e. omega (arith, e)) ∙ get_or-set_other first (place + 1) place row.time 0 (λ e. omega (arith, e))
      ∙ get_or-set_same work place row.prediction 0 (omega (arith, room))

  has_time : get_or (written block k row work) (place + 1) 0 ≡ row.time
  unfolding written
  has_time = get_or-set_other second (place + 2) (place + 1) row.side 0 (λ e. omega (arith, e)) ∙ get_or-set_same first (place + 1) row.time 0 (omega (arith, room, first_length))

  has_side : get_or (written block k row work) (place + 2) 0 ≡ row.side
  unfolding written
  has_side = get_or-set_same second (place + 2) row.side 0 (omega (arith, room, second_length))

module _ (trial : Trial) (reply : List ℕ) (n : ℕ) (few : n < 2 ^ 64) where
  -- after the observations from k on, of n
  record After (k m : ℕ) (x y : Evaluating) : Type 0 where
    good : Good m y.evaluation
    same : (j : ℕ) → Outside trial.block k n j → get_or y.work j 0 ≡ get_or x.work j 0
    long : length y.work ≡ length x.work

  module _ (k : ℕ) (below : k < n) (o : Observation) (work : List ℕ) where
    running : (sums : Sums) → sums.observation ≡ k → (r : Option ℕ) → After k (k + 1) (evaluating (Ok sums) work) (add_at sums o trial reply work r)
    unfolding add_at
    running sums at (Some p) = record {
      good = row_good k (omega arith) sums at o trial reply p;
      same = λ j out. ap (λ (i : ℕ). get_or (written trial.block i (prediction_row reply p trial.width o.output) work) j 0) at ∙ written_around trial.block k n j _ work below out;
      long = written_length trial.block sums.observation _ work;
    }
    running sums at None = record { good = missing_good k (omega arith) sums at; same = λ j out. refl; long = refl }

    one_more : (e : Evaluation) → Good k e → After k (k + 1) (evaluating e work) (add_observation trial reply o (evaluating e work))
    unfolding add_observation add_after add_to Good
    one_more (Ok sums) at = running sums at _
    one_more (Err (Refused m)) h = record { good = h; same = λ j out. refl; long = refl }
    one_more (Err (RefusedAt m i)) h = record { good = (h.0, omega (arith, h.1)); same = λ j out. refl; long = refl }

  all : (k : ℕ) (os : List Observation) (x : Evaluating) → Good k x.evaluation → k + length os ≡ n → After k n x (add_observations trial reply os x)
  all k [] x h e = record { good = subst (λ (m : ℕ). Good m x.evaluation) (omega arith) h; same = λ j out. refl; long = refl }
  all k (o ∷ os) x h e =
      let a = one_more k (omega arith) o x.work x.evaluation h in
      let b = all (k + 1) os (add_observation trial reply o x) a.good (omega arith) in
      record {
        good = b.good;
        same = λ j out. b.same j (⊎_elim (λ (l : j < trial.block + row_words * k). inl (omega arith)) (λ (l : trial.block + row_words * n ≤ j). inr l) out) ∙ a.same j out;
        long = b.long ∙ a.long;
      }

  -- ---- where it comes to its end, each observation has its row
  abbrev Ends : List Observation → Evaluating → Type 0
  Ends os x = (s : Sums) × ((add_observations trial reply os x).evaluation ≡ Ok s)

  -- what is refused once stays refused
  not_refused : (os : List Observation) (error : EvaluationError) (work : List ℕ) → Ends os (evaluating (Err error) work) → ⊥
  unfolding add_observation add_after
  not_refused [] error work e = let q = e.1 in let z : ◌≡◌ {A = ℕ} 0 1 = cc in omega arith
  not_refused (o ∷ os) error work e = not_refused os error work e

  abbrev Rows : ℕ → List Observation → List ℕ → Type 0
  Rows k os work = (j : ℕ) → j < row_words * length os → get_or work (trial.block + row_words * k + j) 0 ≡ get_or (reply_rows trial.width trial.effects reply os) j 0

  -- the row of an observation, and then those of the rest
  with_row_lem : (k : ℕ) (o : Observation) (os : List Observation) (p : ℕ) (work : List ℕ) → p ≡ o.row * row_length trial.width trial.effects
      → get_or work (trial.block + row_words * k) 0 ≡ (prediction_row reply p trial.width o.output).prediction
      → get_or work (trial.block + row_words * k + 1) 0 ≡ (prediction_row reply p trial.width o.output).time
      → get_or work (trial.block + row_words * k + 2) 0 ≡ (prediction_row reply p trial.width o.output).side → Rows (k + 1) os work → Rows k (o ∷ os) work
  unfolding reply_rows prediction_row column side
  with_row_lem k o os p work e a b c f zero l =
      let i : trial.block + row_words * k + 0 ≡ trial.block + row_words * k = omega arith in
      let q : p + 2 + trial.width * 0 + o.output ≡ o.row * (2 + trial.width * (1 + trial.effects)) + 2 + o.output = omega (arith, e) in
      ap (λ (m : ℕ). get_or work m 0) i ∙ a ∙ ap (λ (m : ℕ). get_or reply m 0) q
  with_row_lem k o os p work e a b c f (suc zero) l = b ∙ ap (λ (m : ℕ). get_or reply m 0) e
  with_row_lem k o os p work e a b c f (suc (suc zero)) l = c ∙ ap (λ (m : ℕ). pick (eqb (get_or reply (m + 1) 0) 0) 0 1) e
  with_row_lem k o os p work e a b c f (suc (suc (suc j))) l =
      let i : trial.block + row_words * k + suc (suc (suc j)) ≡ trial.block + row_words * (k + 1) + j = omega arith in
      ap (λ (m : ℕ). get_or work m 0) i ∙ f j (omega (arith, l))

  row_is : (width effects output row p : ℕ) → row_at reply width effects output row ≡ Some p → p ≡ row * row_length width effects
  unfolding row_at
  row_is width effects output row p = both Only _ (both Only _ word missing) missing
    where
      Only : Option ℕ → Type 0
      Only r = r ≡ Some p → p ≡ row * row_length width effects

      word : Only (Some (row * row_length width effects))
      word e = cc

      missing : Only None
      missing e = let z : ◌≡◌ {A = ℕ} 0 1 = cc in absurd (omega arith)

  abbrev HasRows : ℕ → List Observation → Type 0
  HasRows k os = (e : Evaluation) (work : List ℕ) → Good k e → k + length os ≡ n → trial.block + row_words * n ≤ length work → Ends os (evaluating e work)
      → Rows k os (add_observations trial reply os (evaluating e work)).work

  with_one : (k : ℕ) (o : Observation) (os : List Observation) → HasRows (k + 1) os → (sums : Sums) (work : List ℕ) → sums.observation ≡ k → k + length (o ∷ os) ≡ n → trial.block + row_words * n ≤
      length work
      → (r : Option ℕ) → ((p : ℕ) → r ≡ Some p → p ≡ o.row * row_length trial.width trial.effects) → Ends os (add_at sums o trial reply work r) → Rows k (o ∷ os)
      (add_observations trial reply os (add_at sums o trial reply work r)).work
  unfolding add_at
  with_one k o os rest sums work at e room None is r = absurd (not_refused os (RefusedAt 10 sums.observation) work r)
  with_one k o os rest sums work at e room (Some p) is r =
      let row = prediction_row reply p trial.width o.output in
      let v = written trial.block sums.observation row work in
      let same_place : v ≡ written trial.block k row work = ap (λ (i : ℕ). written trial.block i row work) at in
      let good = row_good k (omega (arith, e, few)) sums at o trial reply p in
      let a = all (k + 1) os (evaluating (add_row_at sums o trial reply p) v) good (omega (arith, e)) in
      let end = (add_observations trial reply os (evaluating (add_row_at sums o trial reply p) v)).work in
      let fits : trial.block + row_words * k + 3 ≤ length work = omega (arith, e, room) in
      let stays : (j : ℕ) → j < trial.block + row_words * (k + 1) → get_or end j 0 ≡ get_or (written trial.block k row work) j 0 = λ j l. a.same j (inl l) ∙ ap (λ (w : List ℕ). get_or w j 0) same_place
      in
      with_row_lem k o os p end (is p refl) (stays (trial.block + row_words * k) (omega arith) ∙ has_prediction trial.block k row work fits)
      (stays (trial.block + row_words * k + 1) (omega arith) ∙ has_time trial.block k row work fits) (stays (trial.block + row_words * k + 2) (omega arith) ∙ has_side trial.block k row work
      fits)
      (rest (add_row_at sums o trial reply p) v good (omega (arith, e)) (subst (λ (m : ℕ). trial.block + row_words * n ≤ m) (sym (written_length trial.block sums.observation row work)) room) r)

  has_rows : (k : ℕ) (os : List Observation) → HasRows k os
  unfolding Good add_observation add_after add_to
  has_rows k [] e work g s room r = λ j l. absurd (omega (arith, l))
  has_rows k (o ∷ os) (Ok sums) work g s room r =
      with_one k o os (has_rows (k + 1) os) sums work g s room (row_at reply trial.width trial.effects o.output o.row)
      (λ p q. row_is trial.width trial.effects o.output o.row p q) r
  has_rows k (o ∷ os) (Err error) work g s room r = absurd (not_refused (o ∷ os) error work r)

-- ---- the end
pub finite_sums : (e : Evaluation) (s : Sums) → finish e ≡ Ok s → has_nonfinite_sum s ≡ false
unfolding finish
finite_sums (Ok t) s q = cases (λ (z : Evaluation). z ≡ Ok s → has_nonfinite_sum s ≡ false) (has_nonfinite_sum t) (λ h w. cc) (λ h w. cc) q
finite_sums (Err error) s q = cc

still_running : (e : Evaluation) (s : Sums) → finish e ≡ Ok s → (t : Sums) × (e ≡ Ok t)
unfolding finish
still_running (Ok t) s q = (t, refl)
still_running (Err error) s q = let z : ◌≡◌ {A = ℕ} 0 1 = cc in absurd (omega arith)

plain_numbers : (k : ℕ) (e : Evaluation) (n : ℕ) → Good k e → finish e ≡ Err (Refused n) → (n ≡ 8) ⊎ ((n ≡ 9) ⊎ (n ≡ 12))
unfolding finish Good
plain_numbers k (Ok t) n g q = cases (λ (z : Evaluation). z ≡ Err (Refused n) → (n ≡ 8) ⊎ ((n ≡ 9) ⊎ (n ≡ 12))) (has_nonfinite_sum t) (λ h w. inr (inr cc))
    (λ h w. let z : ◌≡◌ {A = ℕ} 0 1 = cc in absurd (omega arith)) q
plain_numbers k (Err (Refused m)) n g q = ⊎_elim (λ (h : m ≡ 8). inl cc) (λ (h : m ≡ 9). inr (inl cc)) g
plain_numbers k (Err (RefusedAt m i)) n g q = let z : ◌≡◌ {A = ℕ} 0 1 = cc in absurd (omega arith)

row_numbers : (k : ℕ) (e : Evaluation) (n i : ℕ) → Good k e → finish e ≡ Err (RefusedAt n i) → Row n × (i < k)
unfolding finish Good
row_numbers k (Ok t) n i g q = cases (λ (z : Evaluation). z ≡ Err (RefusedAt n i) → Row n × (i < k)) (has_nonfinite_sum t) (λ h w. let z : ◌≡◌ {A = ℕ} 0 1 = cc in absurd (omega arith))
    (λ h w. let z : ◌≡◌ {A = ℕ} 0 1 = cc in absurd (omega arith)) q
row_numbers k (Err (Refused m)) n i g q = let z : ◌≡◌ {A = ℕ} 0 1 = cc in absurd (omega arith)
row_numbers k (Err (RefusedAt m j)) n i g q = let a : m ≡ n = cc in let b : j ≡ i = cc in (subst Row a g.0, subst (λ (t : ℕ). t < k) b g.1)

pub evaluates : EveryEvaluation
evaluates trial budget reply observations work few =
    let begun = begin reply trial.width trial.effects budget in
    let good = begun_good reply trial.width trial.effects budget in
    let a = all trial reply (length observations) few 0 observations (evaluating begun work) good (omega arith) in
    record {
      sums = λ s q. finite_sums _ s q;
      numbers = λ n q. plain_numbers _ _ n a.good q;
      places = λ n i q. row_numbers _ _ n i a.good q;
      rows = λ s q room j l. ap (λ (m : ℕ). get_or (add_observations trial reply observations (evaluating begun work)).work (m + j) 0)
          (let i : trial.block ≡ trial.block + row_words * 0 = omega arith in i)
          ∙ has_rows trial reply (length observations) few 0 observations begun work good (omega arith) room (still_running _ s q) j l;
      around = λ j out. a.same j (⊎_elim (λ (m : j < trial.block). inl (omega arith)) (λ (m : trial.block + row_words * length observations ≤ j). inr m) out);
    }
