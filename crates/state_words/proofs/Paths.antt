-- The ways through the code: one law for each, over plain variables. Assumes nothing.
use Rattle.std.specs.Prelude.{None, Option, Some}
use mathlib.Core.Path.{◌≡◌, refl, sym, ap, ◌∙◌}
use mathlib.Core.Bool.{Bool, true, false}
use mir.Val.{bool_byte as from_bool}
use mathlib.Core.List.{List, [], ◌∷◌, ◌++◌}
use Prim.Native.Nat.{ℕ, zero, suc, ◌+◌, ◌-◌, ◌≤◌, ◌<◌}
use native.Mathlib.Nat.{not-suc-le-zero, le_of_suc-le-suc, add-zero}
use native.Mathlib.Omega.{arith}
use borrow.Author.Tests.{eq-eqb, ne_eqb}
use lib.ListN.{get_or, set, length, length-drop, take, drop, drop_of_length-le}
use lib.Seq.{take_all, sets, sets-eq}
use Rattle.float64.specs.Answer.{Answer, given, refused, through}
use Rattle.float64.specs.Pick.{pick, yes, no}
use Rattle.mode.specs.declared.population_focei.Search.{Search}
use Rattle.mode_2d.specs.declared.population_focei_2d.Search2.{Search2}
use Rattle.state_words.specs.SearchWords as one
use Rattle.state_words.specs.SearchWords2 as two
use Rattle.setup.specs.declared.Parameters.{Parameters}
use Rattle.search.specs.Subjects.{has_additive, additive_word}
use Rattle.search.specs.declared.SubjectSearch.{SubjectSearch}
use Rattle.search.specs.declared.SubjectSearch.TheVariants.{One, Two}
use Rattle.session.specs.declared.State.{State}
use Rattle.state_words.specs.SessionWords.{at, bits, flag, state_at, loaded_search, with_search, answer, objective_words, progress_words, order_words, search_words, state_words, put_from}
use Rattle.state_words.specs.SessionWords.{saved_state}

-- ---- load: r is what the words of the search came to
module _ (words : List ℕ) where
  pub no_search : (at words 18 ≡ 1 → ⊥) → (at words 18 ≡ 2 → ⊥) → answer None ≡ with_search words
  unfolding answer through with_search loaded_search
  no_search n m =
      let q : refused 19 ≡ loaded_search (at words 18) (drop 19 words) = no _ (ne_eqb _ _ n) (no _ (ne_eqb _ _ m) refl) in
      ap (through (state_at words)) q

  -- the words from 19 on, as they are lent
  abbrev lent : List ℕ
  lent = take (length words - 19) (drop 19 words)

  searched : {x : Answer SubjectSearch} {z : Answer State} → x ≡ loaded_search (at words 18) lent → z ≡ through (state_at words) x → z ≡ with_search words
  unfolding with_search
  searched p q =
      let all = take_all (length words - 19) (drop 19 words) (omega (arith, length-drop 19 words)) in
      q ∙ ap (through (state_at words)) (p ∙ ap (loaded_search (at words 18)) all)

  module _ {r : Option Search} (h : at words 18 ≡ 1) (a : one.answer r ≡ one.loaded lent) where
    as_one : {v : Option Search} → r ≡ v → through One (one.answer v) ≡ loaded_search (at words 18) lent
    unfolding loaded_search
    as_one t = yes _ (eq-eqb _ _ h) (ap (through One) (ap one.answer (sym t) ∙ a))

    pub one_given : {x : Search} {s : State} → r ≡ Some x → s ≡ state_at words (One x) → answer (Some s) ≡ with_search words
    unfolding answer through one.answer
    one_given t p = searched (as_one t) (ap {B = Answer State} (λ (s : State). given s) p)

    pub one_none : {v : Option State} → r ≡ None → v ≡ None → answer v ≡ with_search words
    unfolding answer through one.answer
    one_none t e = ap answer e ∙ searched (as_one t) refl

  module _ {r : Option Search2} (n : at words 18 ≡ 1 → ⊥) (h : at words 18 ≡ 2) (a : two.answer r ≡ two.loaded lent) where
    as_two : {v : Option Search2} → r ≡ v → through Two (two.answer v) ≡ loaded_search (at words 18) lent
    unfolding loaded_search
    as_two t = no _ (ne_eqb _ _ n) (yes _ (eq-eqb _ _ h) (ap (through Two) (ap two.answer (sym t) ∙ a)))

    pub two_given : {x : Search2} {s : State} → r ≡ Some x → s ≡ state_at words (Two x) → answer (Some s) ≡ with_search words
    unfolding answer through two.answer
    two_given t p = searched (as_two t) (ap {B = Answer State} (λ (s : State). given s) p)

    pub two_none : {v : Option State} → r ≡ None → v ≡ None → answer v ≡ with_search words
    unfolding answer through two.answer
    two_none t e = ap answer e ∙ searched (as_two t) refl

-- ---- a bool's word
pub bit_is : (b : Bool) {n : ℕ} → n ≡ from_bool b → n ≡ pick b 1 0
unfolding pick
bit_is true e = e
bit_is false e = e

-- ---- the words before the progress's own, with no override and with one
module _ (awaits : Bool) (p : Parameters) {f t u o : ℕ} (ef : f ≡ flag awaits) (et : t ≡ bits p.theta.first) (eu : u ≡ bits p.theta.second) (eo : o ≡ bits p.omega) where
  pub objective_own : p.additive_sd ≡ None → f ∷ t ∷ u ∷ o ∷ 0 ∷ 0 ∷ [] ≡ objective_words awaits p
  unfolding objective_words
  objective_own q = let q' = sym q in λ d. ef d ∷ et d ∷ eu d ∷ eo d ∷ has_additive (q' d) ∷ additive_word (q' d) ∷ []

  pub objective_override : {sd : _} {w : ℕ} → p.additive_sd ≡ Some sd → w ≡ bits sd → f ∷ t ∷ u ∷ o ∷ 1 ∷ w ∷ [] ≡ objective_words awaits p
  unfolding objective_words
  objective_override q ew =
      let q' = sym q in
      ap (λ (x : ℕ). f ∷ t ∷ u ∷ o ∷ 1 ∷ x ∷ []) ew ∙ (λ d. ef d ∷ et d ∷ eu d ∷ eo d ∷ has_additive (q' d) ∷ additive_word (q' d) ∷ [])

-- ---- the loop of put_from
drop_step : (l : List ℕ) (i : ℕ) → i < length l → drop i l ≡ get_or l i 0 ∷ drop (suc i) l
drop_step [] i h = absurd (not-suc-le-zero h)
drop_step (x ∷ l) zero h = refl
drop_step (x ∷ l) (suc i) h = drop_step l i (le_of_suc-le-suc h)

module _ (from : ℕ) (values words : List ℕ) (i : ℕ) where
  pub put_end : length values ≤ i → words ≡ put_from (from + i) (drop i values) words
  unfolding put_from
  put_end h = ap (λ (l : List ℕ). put_from (from + i) l words) (sym (drop_of_length-le values h))

  pub put_step : {words' : List ℕ} → i < length values → words' ≡ set words (from + i) (get_or values i 0) → put_from (from + (i + 1)) (drop (i + 1) values) words' ≡ put_from (from + i) (drop i values)
      words
  unfolding put_from
  put_step h r =
      let p : from + (i + 1) ≡ from + i + 1 = omega arith in
      let q : i + 1 ≡ suc i = omega arith in
      (λ d. put_from (p d) (drop (q d) values) (r d)) ∙ ap (λ (l : List ℕ). put_from (from + i) l words) (sym (drop_step values i h))

-- a copy of all of them, where they have a place
put_sets : (i : ℕ) (values words : List ℕ) → put_from i values words ≡ sets words i values
unfolding put_from
put_sets i [] words = refl
put_sets i (x ∷ values) words =
    let e : i + 1 ≡ suc i = omega arith in
    ap (λ (n : ℕ). put_from n values (set words i x)) e ∙ put_sets (suc i) values (set words i x)

pub put_copied : (from : ℕ) (values words : List ℕ) → from + length values ≤ length words
    → take from words ++ values ++ drop (from + length values) words ≡ put_from from values words
put_copied from values words h = sym (put_sets from values words ∙ sets-eq values words from h)

-- ---- save: the parts one after another are the whole
put_append : (i : ℕ) (a b w : List ℕ) → put_from i (a ++ b) w ≡ put_from (i + length a) b (put_from i a w)
unfolding put_from
put_append i [] b w = ap (λ (n : ℕ). put_from n b w) (sym (add-zero i))
put_append i (x ∷ a) b w =
    let e : i + 1 + length a ≡ i + suc (length a) = omega arith in
    put_append (i + 1) a b (set w i x) ∙ ap (λ (n : ℕ). put_from n b (put_from (i + 1) a (set w i x))) e

then : (n : ℕ) (a b w : List ℕ) → length a ≡ n → put_from 0 (a ++ b) w ≡ put_from n b (put_from 0 a w)
then n a b w e = let z : 0 + length a ≡ n = omega (arith, e) in put_append 0 a b w ∙ ap (λ (m : ℕ). put_from m b (put_from 0 a w)) z

-- the words up to each part, as many as stand before it
module _ (s : State) where
  abbrev pub up_to6 : List ℕ
  up_to6 = objective_words s.progress.awaits s.parameters

  abbrev pub up_to14 : List ℕ
  up_to14 = up_to6 ++ progress_words s.progress

  abbrev pub up_to18 : List ℕ
  up_to18 = up_to14 ++ order_words s.order

  six : length up_to6 ≡ 6
  unfolding objective_words
  six = refl

  fourteen : length up_to14 ≡ 14
  unfolding objective_words progress_words
  fourteen = refl

  pub eighteen : length up_to18 ≡ 18
  unfolding objective_words progress_words order_words
  eighteen = refl

  whole :
      (w : List ℕ) → saved_state s w
      ≡ put_from 18 (search_words s.progress.search)
      (put_from 14 (order_words s.order)
      (put_from 6 (progress_words s.progress)
      (put_from 0 up_to6 w)))
  unfolding saved_state state_words
  whole w =
      then 18 up_to18 (search_words s.progress.search) w eighteen
      ∙ ap (λ (l : List ℕ). put_from 18 (search_words s.progress.search) l)
      (then 14 up_to14 (order_words s.order) w fourteen
      ∙ ap (λ (l : List ℕ). put_from 14 (order_words s.order) l) (then 6 up_to6 (progress_words s.progress) w six))

pub saved-all :
    (s : State) (w : List ℕ) {o p r w1 w2 w3 w4 : List ℕ} →
    o ≡ objective_words s.progress.awaits s.parameters → p ≡ progress_words s.progress → r ≡ order_words s.order →
    w1 ≡ put_from 0 o w → w2 ≡ put_from 6 p w1 → w3 ≡ put_from 14 r w2 → w4 ≡ put_from 18 (search_words s.progress.search) w3 →
    w4 ≡ saved_state s w
saved-all s w eo ep er e1 e2 e3 e4 =
    let f1 = e1 ∙ (λ d. put_from 0 (eo d) w) in
    let f2 = e2 ∙ (λ d. put_from 6 (ep d) (f1 d)) in
    let f3 = e3 ∙ (λ d. put_from 14 (er d) (f2 d)) in
    e4 ∙ ap (put_from 18 (search_words s.progress.search)) f3 ∙ sym (whole s w)

-- the search's own: y is what it was saved as
module _ {x : SubjectSearch} (w : List ℕ) {y w1 w2 : List ℕ} where
  pub one_put : {z : Search} {w3 : List ℕ} → x ≡ One z → y ≡ one.saved z → w1 ≡ set w 18 1 → w2 ≡ put_from 19 y w1 → w3 ≡ put_from 39 (0 ∷ 0 ∷ 0 ∷ 0 ∷ 0 ∷ []) w2 → w3 ≡ put_from 18 (search_words x) w
  unfolding search_words put_from one.saved one.words_of
  one_put {z} t ey e1 e2 e3 =
      e3 ∙ ap (put_from 39 (0 ∷ 0 ∷ 0 ∷ 0 ∷ 0 ∷ [])) (e2 ∙ (λ d. put_from 19 (ey d) (e1 d)))
      ∙ sym (put_append 19 (one.saved z) (0 ∷ 0 ∷ 0 ∷ 0 ∷ 0 ∷ []) (set w 18 1))
      ∙ ap (λ (s : SubjectSearch). put_from 18 (search_words s) w) (sym t)

  pub two_put : {z : Search2} → x ≡ Two z → y ≡ two.saved z → w1 ≡ set w 18 2 → w2 ≡ put_from 19 y w1 → w2 ≡ put_from 18 (search_words x) w
  unfolding search_words put_from
  two_put t ey e1 e2 = e2 ∙ (λ d. put_from 19 (ey d) (e1 d)) ∙ ap (λ (s : SubjectSearch). put_from 18 (search_words s) w) (sym t)
