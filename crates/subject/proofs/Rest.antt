-- What is left of the part of a list that a loop goes through, from place i up to e, and what the loop makes of it. Assumes nothing.
use Rattle.std.specs.Prelude.{Err, Ok}
use Rattle.std.proofs.Common.{◌≡◌, ℕ, zero, suc, ◌+◌, ◌-◌, ◌<◌, ◌≤◌, List, [], ◌∷◌, length, take, drop, get_or, refl, sym, ap, ◌∙◌, arith}
use Rattle.std.proofs.Math.Seq.{drop-cons}
use Rattle.words.specs.Words.{smaller}
use Rattle.words.proofs.Runs.{len_part, one_more}
use Rattle.likelihood.specs.declared.population_focei.Observation.{Observation}
use Rattle.subject.specs.Observations.{no_observation, observation_at, check_observation, check_observations, Check}
use Rattle.subject.specs.Subject.{Evaluation, Evaluating, evaluating, add_after, add_observation, add_observations}
use Rattle.subject.specs.declared.EvaluationError.{EvaluationError}
use Rattle.subject.specs.declared.Sums.{Sums}
use Rattle.subject.specs.declared.Trial.{Trial}

module _ {A : Type 0} where
  as_many : (j : ℕ) (l : List A) → take (length (take j l)) l ≡ take j l
  as_many zero l = refl
  as_many (suc j) [] = refl
  as_many (suc j) (x ∷ l) = ap (λ (r : List A). x ∷ r) (as_many j l)

  -- up to `t`, or up to the end of the list, of n elements, where that comes first
  pub part : (l : List A) (f t : ℕ) {n e : ℕ} → n ≡ length l → e ≡ smaller t n → take (e - f) (drop f l) ≡ take (t - f) (drop f l)
  part l f t en ee =
      ap (λ (m : ℕ). take m (drop f l)) (ap (λ (m : ℕ). m - f) (ee ∙ ap (smaller t) en) ∙ sym (len_part l f t)) ∙ as_many (t - f) (drop f l)

  pub part_end : (l : List A) (t : ℕ) {n e : ℕ} → n ≡ length l → e ≡ smaller t n → e ≤ length l
  part_end l t en ee = omega (arith, en, ee)

  one_first : (d : A) (l : List A) (i e : ℕ) → i < e → e ≤ length l → take (e - i) (drop i l) ≡ get_or l i d ∷ take (e - (i + 1)) (drop (i + 1) l)
  one_first d l i e h b =
      let n : e - i ≡ suc (e - (i + 1)) = omega arith in
      ap (λ (m : ℕ). take m (drop i l)) n ∙ ap (take (suc (e - (i + 1)))) (drop-cons l i d (omega arith))
      ∙ ap (λ (m : ℕ). get_or l i d ∷ take (e - (i + 1)) (drop m l)) (sym (one_more i))

  pub none_left : (l : List A) (i e : ℕ) → e ≤ i → take (e - i) (drop i l) ≡ []
  none_left l i e h = let n : e - i ≡ 0 = omega arith in ap (λ (m : ℕ). take m (drop i l)) n

pub adds_next : (trial : Trial) (reply : List ℕ) (os : List Observation) (i e : ℕ) {o : Observation} (x : Evaluating) {y : Evaluating} → i < e → e ≤ length os
    → o ≡ observation_at os i → y ≡ add_observation trial reply o x
    → add_observations trial reply (take (e - (i + 1)) (drop (i + 1) os)) y ≡ add_observations trial reply (take (e - i) (drop i os)) x
adds_next trial reply os i e x h b at q =
    ap (add_observations trial reply (take (e - (i + 1)) (drop (i + 1) os))) (q ∙ ap (λ (z : Observation). add_observation trial reply z x) at)
    ∙ sym (ap (λ (l : List Observation). add_observations trial reply l x) (one_first no_observation os i e h b))

-- after a refusal nothing is added, however many are left
none_added : (trial : Trial) (reply : List ℕ) (os : List Observation) (error : EvaluationError) (work : List ℕ)
    → add_observations trial reply os (evaluating (Err error) work) ≡ evaluating (Err error) work
unfolding add_observation add_after
none_added trial reply [] error work = refl
none_added trial reply (o ∷ os) error work = none_added trial reply os error work

pub all_refused : (trial : Trial) (reply : List ℕ) (os : List Observation) {x : Evaluation} (work : List ℕ) {error : EvaluationError} → x ≡ Err error
    → evaluating (Err error) work ≡ add_observations trial reply os (evaluating x work)
all_refused trial reply os work {error = error} t =
    sym (none_added trial reply os error work) ∙ ap (λ (x : Evaluation). add_observations trial reply os (evaluating x work)) (sym t)

-- a turn from the sums of those before: y is what the observation at i makes of them, w the work words afterwards
module _ (trial : Trial) (reply : List ℕ) (os : List Observation) (i e : ℕ) (sums : Sums) (work w : List ℕ) {o : Observation} {y : Evaluation} (h : i < e) (b : e ≤ length os)
    (at : o ≡ observation_at os i) (q : evaluating y w ≡ add_observation trial reply o (evaluating (Ok sums) work)) where
  abbrev left : Evaluation → Evaluating
  left x = add_observations trial reply (take (e - (i + 1)) (drop (i + 1) os)) (evaluating x w)

  abbrev made : Evaluating
  made = add_observations trial reply (take (e - i) (drop i os)) (evaluating (Ok sums) work)

  pub turn_adds : {z : Evaluation} → y ≡ z → left z ≡ made
  turn_adds t = adds_next trial reply os i e (evaluating (Ok sums) work) h b at (ap (λ (x : Evaluation). evaluating x w) (sym t) ∙ q)

  pub turn_refused : {error : EvaluationError} → y ≡ Err error → evaluating (Err error) w ≡ made
  turn_refused t = all_refused trial reply (take (e - (i + 1)) (drop (i + 1) os)) w t ∙ turn_adds refl

pub checks_next : (width : ℕ) (counts : List ℕ) (os : List Observation) (i e : ℕ) {o : Observation} (x : Check) {y : Check} → i < e → e ≤ length os
    → o ≡ observation_at os i → y ≡ check_observation width counts o x
    → check_observations width counts (take (e - (i + 1)) (drop (i + 1) os)) y ≡ check_observations width counts (take (e - i) (drop i os)) x
checks_next width counts os i e x h b at q =
    ap (check_observations width counts (take (e - (i + 1)) (drop (i + 1) os))) (q ∙ ap (λ (z : Observation). check_observation width counts z x) at)
    ∙ sym (ap (λ (l : List Observation). check_observations width counts l x) (one_first no_observation os i e h b))
