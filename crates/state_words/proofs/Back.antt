-- What was saved is there: where as many words are lent as a state has, the first of them are the state's and those beyond stay (`saved_first`), and loading them gives the state back
-- (`back`). Floats must be binary64's own, which a state's are, and counts a u32's. Assumes nothing.
use Rattle.std.specs.Prelude.{None, Option, Some}
use mathlib.Core.Path.{◌≡◌, refl, sym, ap, ◌∙◌}
use mathlib.Core.Bool.{Bool, true, false}
use mathlib.Core.List.{List, [], ◌∷◌, ◌++◌}
use Prim.Native.Nat.{ℕ, suc, ◌+◌, ◌-◌, ◌≤◌}
use native.Mathlib.Nat.{not-suc-le-zero, le_of_suc-le-suc}
use native.Mathlib.Omega.{arith}
use borrow.Author.Tests.{le-ltb, ne_eqb}
use lib.Dec.{T, ltb, eqb}
use lib.ListN.{set, length, length-append, drop}
use lib.Ieee.{Float, binary64, fits}
use lib.Ieee.Bits.{of_bits-to_bits}
use Rattle.float64.specs.Answer.{Answer, given, through}
use Rattle.float64.specs.Arithmetic.{word}
use Rattle.float64.specs.Pick.{pick, no}
use Rattle.matrix.specs.declared.Matrix.{Matrix}
use Rattle.matrix.specs.declared.Pair.{Pair}
use Rattle.mode.specs.declared.population_focei.Conditional.{Conditional}
use Rattle.mode.specs.declared.population_focei.Stage.{Stage}
use Rattle.mode.specs.declared.population_focei.Stage.TheVariants.{Grid, Warm, Secant, Halving}
use Rattle.mode.specs.declared.population_focei.Search.{Search}
use Rattle.mode_2d.specs.declared.population_focei_2d.Conditional2.{Conditional2}
use Rattle.mode_2d.specs.declared.population_focei_2d.Stage2.{Stage2}
use Rattle.mode_2d.specs.declared.population_focei_2d.Stage2.TheVariants.{Zero, Start, Trial, Found, Halted}
use Rattle.mode_2d.specs.declared.population_focei_2d.Search2.{Search2}
use Rattle.state_words.specs.SearchWords as one
use Rattle.state_words.specs.SearchWords2 as two
use Rattle.search.specs.Subjects.{one_of, two_of, has_additive, additive_word}
use Rattle.search.specs.declared.SubjectSearch.{SubjectSearch}
use Rattle.search.specs.declared.SubjectSearch.TheVariants.{One, Two}
use Rattle.session.specs.declared.State.{State}
use Rattle.state_words.specs.SessionWords.{state_size, bits, flag, state_words, put_from, saved_state, objective_words, progress_words, order_words, search_words, at}
use Rattle.state_words.specs.SessionWords.{additive_at, parameters_at, progress_at, order_at, state_at, loaded_search, with_search, loaded_state}
use Rattle.state_words.proofs.Paths.{up_to18, eighteen}

-- ---- where the words go
shift : (i : ℕ) (l : List ℕ) (x : ℕ) (w : List ℕ) → put_from (suc i) l (x ∷ w) ≡ x ∷ put_from i l w
unfolding put_from
shift i [] x w = refl
shift i (y ∷ l) x w =
    let e : suc i + 1 ≡ suc (i + 1) = omega arith in
    ap (λ (n : ℕ). put_from n l (x ∷ set w i y)) e ∙ shift (i + 1) l x (set w i y)

first : (l w : List ℕ) → length l ≤ length w → put_from 0 l w ≡ l ++ drop (length l) w
unfolding put_from
first [] w h = refl
first (x ∷ l) [] h = absurd (not-suc-le-zero h)
first (x ∷ l) (y ∷ w) h = shift 0 l x w ∙ ap (λ (r : List ℕ). x ∷ r) (first l w (le_of_suc-le-suc h))

search_length : (x : SubjectSearch) → length (search_words x) ≡ 26
unfolding search_words one.saved one.words_of two.saved two.words_of
search_length (One x) = refl
search_length (Two x) = refl

state_length : (s : State) → length (state_words s) ≡ state_size
unfolding state_words
state_length s = omega (arith, length-append (up_to18 s) (search_words s.progress.search), eighteen s, search_length s.progress.search)

pub saved_first : (s : State) (w : List ℕ) → state_size ≤ length w → saved_state s w ≡ state_words s ++ drop state_size w
unfolding saved_state
saved_first s w h =
    first (state_words s) w (omega (arith, h, state_length s)) ∙ ap (λ (n : ℕ). state_words s ++ drop n w) (state_length s)

-- ---- a search
abbrev pub Fits : Float → Type 0
Fits x = T (fits binary64 x)

pub record FitsPoint (c : Conditional) : Type 0 where
  pub eta : Fits c.eta
  pub nll : Fits c.nll
  pub score : Fits c.score
  pub information : Fits c.information

pub record FitsSearch (x : Search) : Type 0 where
  pub count : x.count ≤ 4294967295
  pub first : Fits x.first
  pub latest : FitsPoint x.latest
  pub left : FitsPoint x.left
  pub right : FitsPoint x.right
  pub best : FitsPoint x.best

float_back : (x : Float) → Fits x → word (bits x) ≡ x
float_back x h = of_bits-to_bits binary64 x h

point_back : (c : Conditional) → FitsPoint c → one.point_of (word (bits c.eta)) (word (bits c.nll)) (word (bits c.score)) (word (bits c.information)) ≡ c
point_back c f =
    let e = float_back _ f.eta in
    let n = float_back _ f.nll in
    let s = float_back _ f.score in
    let i = float_back _ f.information in
    λ d. one.point_of (e d) (n d) (s d) (i d)

stage_back : (s : Stage) → one.stage_of (one.stage_word s) ≡ s
unfolding one.stage_of one.stage_word pick
stage_back Grid = refl
stage_back Warm = refl
stage_back Secant = refl
stage_back Halving = refl

stage_low : (s : Stage) → ltb 3 (one.stage_word s) ≡ false
unfolding one.stage_word
stage_low Grid = refl
stage_low Warm = refl
stage_low Secant = refl
stage_low Halving = refl

fall_back : (b : Bool) → eqb (one.fall_word b) 1 ≡ b
unfolding one.fall_word pick
fall_back true = refl
fall_back false = refl

fall_low : (b : Bool) → ltb 1 (one.fall_word b) ≡ false
unfolding one.fall_word pick
fall_low true = refl
fall_low false = refl

search_of_lem : (x : Search) (rest : List ℕ) → FitsSearch x → one.search_of (one.saved x ++ rest) ≡ x
unfolding one.search_of one.conditional_at one.saved one.words_of
search_of_lem x rest f =
    let s = stage_back x.stage in
    let i = float_back _ f.first in
    let a = point_back _ f.latest in
    let b = fall_back x.fall in
    let l = point_back _ f.left in
    let r = point_back _ f.right in
    let m = point_back _ f.best in
    λ d. record { stage = s d; count = x.count; first = i d; latest = a d; fall = b d; left = l d; right = r d; best = m d }

search_back : (x : Search) (rest : List ℕ) → FitsSearch x → one.loaded (one.saved x ++ rest) ≡ given x
unfolding one.loaded one.loaded_lent one.saved one.words_of
search_back x rest f =
    let long : one.search_size ≤ length (one.saved x ++ rest) = let l = length-append (one.saved x) rest in omega arith in
    sym
    (no _ (le-ltb _ _ long)
    (no _ (stage_low x.stage)
    (no _ (le-ltb _ _ f.count)
    (no _ (fall_low x.fall)
    (ap {B = Answer Search} (λ (y : Search). given y) (sym (search_of_lem x rest f)))))))

-- ---- a search with two effects
pub record FitsPair (p : Pair) : Type 0 where
  pub first : Fits p.first
  pub second : Fits p.second

pub record FitsMatrix (m : Matrix) : Type 0 where
  pub m00 : Fits m.m00
  pub m01 : Fits m.m01
  pub m10 : Fits m.m10
  pub m11 : Fits m.m11

pub record FitsPoint2 (c : Conditional2) : Type 0 where
  pub eta : FitsPair c.eta
  pub nll : Fits c.nll
  pub score : FitsPair c.score
  pub information : FitsMatrix c.information

pub record FitsSearch2 (x : Search2) : Type 0 where
  pub stage : two.is_no_stage (two.stage_word x.stage) ≡ false
  pub seed : x.seed ≤ two.largest
  pub round : x.round ≤ two.largest
  pub reduction : x.reduction ≤ two.largest
  pub current : FitsPoint2 x.current
  pub trial : FitsPair x.trial
  pub decrease : Fits x.decrease
  pub best : FitsPoint2 x.best

abbrev pair_of : ℕ → ℕ → Pair
pair_of a b = record { first = word a; second = word b }

pair_back : (p : Pair) → FitsPair p → pair_of (bits p.first) (bits p.second) ≡ p
pair_back p f =
    let a = float_back _ f.first in
    let b = float_back _ f.second in
    λ d. record { first = a d; second = b d }

abbrev matrix_of : ℕ → ℕ → ℕ → ℕ → Matrix
matrix_of a b c d = record { m00 = word a; m01 = word b; m10 = word c; m11 = word d }

matrix_back : (m : Matrix) → FitsMatrix m → matrix_of (bits m.m00) (bits m.m01) (bits m.m10) (bits m.m11) ≡ m
matrix_back m f =
    let p = float_back _ f.m00 in
    let q = float_back _ f.m01 in
    let r = float_back _ f.m10 in
    let t = float_back _ f.m11 in
    λ d. record { m00 = p d; m01 = q d; m10 = r d; m11 = t d }

point2-back :
    (c : Conditional2) → FitsPoint2 c →
    record {
      eta = pair_of (bits c.eta.first) (bits c.eta.second);
      nll = word (bits c.nll);
      score = pair_of (bits c.score.first) (bits c.score.second);
      information =
          matrix_of (bits c.information.m00) (bits c.information.m01) (bits c.information.m10) (bits c.information.m11);
    } ≡ c
point2-back c f =
    let e = pair_back _ f.eta in
    let n = float_back _ f.nll in
    let s = pair_back _ f.score in
    let i = matrix_back _ f.information in
    λ d. record { eta = e d; nll = n d; score = s d; information = i d }

halted_back : (n m : ℕ) → m ≡ 4 + n → two.stage_of m ≡ Halted n
unfolding two.stage_of
halted_back n m e =
    let z : m - 4 ≡ n = omega (arith, e) in
    sym
    (no _ (ne_eqb m 0 (λ q. omega (arith, e, q)))
    (no _ (ne_eqb m 1 (λ q. omega (arith, e, q)))
    (no _ (ne_eqb m 2 (λ q. omega (arith, e, q)))
    (no _ (ne_eqb m 3 (λ q. omega (arith, e, q)))
    (ap Halted (sym z))))))

stage2_back : (s : Stage2) → two.stage_of (two.stage_word s) ≡ s
unfolding two.stage_of two.stage_word pick
stage2_back Zero = refl
stage2_back Start = refl
stage2_back Trial = refl
stage2_back Found = refl
stage2_back (Halted n) = halted_back n (4 + n) refl

search2_of : (x : Search2) (rest : List ℕ) → FitsSearch2 x → two.search_of (two.saved x ++ rest) ≡ x
unfolding two.search_of two.conditional_at two.pair_at two.saved two.words_of
search2_of x rest f =
    let s = stage2_back x.stage in
    let c = point2-back _ f.current in
    let t = pair_back _ f.trial in
    let e = float_back _ f.decrease in
    let b = point2-back _ f.best in
    λ d. record { stage = s d; seed = x.seed; round = x.round; reduction = x.reduction; current = c d; trial = t d; decrease = e d; best = b d }

search2_back : (x : Search2) (rest : List ℕ) → FitsSearch2 x → two.loaded (two.saved x ++ rest) ≡ given x
unfolding two.loaded two.loaded_lent two.saved two.words_of
search2_back x rest f =
    let long : two.search_size ≤ length (two.saved x ++ rest) = let l = length-append (two.saved x) rest in omega arith in
    sym
    (no _ (le-ltb _ _ long)
    (no _ f.stage
    (no _ (le-ltb _ _ f.seed)
    (no _ (le-ltb _ _ f.round)
    (no _ (le-ltb _ _ f.reduction)
    (ap {B = Answer Search2} (λ (y : Search2). given y) (sym (search2_of x rest f))))))))

-- ---- a state
unfoldable pub FitsAdditive : Option Float → Type 0
FitsAdditive None = Unit
FitsAdditive (Some x) = Fits x

pub record FitsState (s : State) : Type 0 where
  pub theta : FitsPair s.parameters.theta
  pub omega_fits : Fits s.parameters.omega
  pub additive : FitsAdditive s.parameters.additive_sd
  pub individual : FitsPair s.progress.individual
  pub warm : FitsPair s.progress.warm
  pub ofv : Fits s.progress.ofv
  pub squares : Fits s.progress.eta_squares
  pub one : FitsSearch (one_of s.progress.search)
  pub two : FitsSearch2 (two_of s.progress.search)

additive_back : (a : Option Float) → FitsAdditive a → pick (eqb (has_additive a) 1) (Some (word (additive_word a))) None ≡ a
unfolding pick FitsAdditive
additive_back None f = refl
additive_back (Some x) f = ap Some (float_back x f)

additive_low : (a : Option Float) → ltb 1 (has_additive a) ≡ false
additive_low None = refl
additive_low (Some x) = refl

flag_back : (b : Bool) → eqb (flag b) 1 ≡ b
unfolding flag pick
flag_back true = refl
flag_back false = refl

flag_low : (b : Bool) → ltb 1 (flag b) ≡ false
unfolding flag pick
flag_low true = refl
flag_low false = refl

module _ (s : State) (rest : List ℕ) where
  abbrev words : List ℕ
  words = state_words s ++ rest

  zeroth : at words 0 ≡ flag s.progress.awaits
  unfolding state_words objective_words
  zeroth = refl

  fourth : at words 4 ≡ has_additive s.parameters.additive_sd
  unfolding state_words objective_words
  fourth = refl

  -- the search, at its place behind the other words
  subject_back : (x : SubjectSearch) → FitsSearch (one_of x) → FitsSearch2 (two_of x)
      → let w = up_to18 s ++ search_words x ++ rest in loaded_search (at w 18) (drop 19 w) ≡ given x
  unfolding loaded_search objective_words progress_words order_words search_words one.saved one.words_of two.saved two.words_of pick through
  subject_back (One x) f g = ap (through One) (search_back x (0 ∷ 0 ∷ 0 ∷ 0 ∷ 0 ∷ rest) f)
  subject_back (Two x) f g = ap (through Two) (search2_back x rest g)

  long : state_size ≤ length words
  long = omega (arith, length-append (state_words s) rest, state_length s)

  state_of_lem : FitsState s → state_at words s.progress.search ≡ s
  unfolding state_at parameters_at progress_at order_at two.pair_at additive_at state_words objective_words progress_words order_words
  state_of_lem f =
      let t = pair_back _ f.theta in
      let o = float_back _ f.omega_fits in
      let a = additive_back _ f.additive in
      let b = flag_back s.progress.awaits in
      let i = pair_back _ f.individual in
      let w = pair_back _ f.warm in
      let v = float_back _ f.ofv in
      let q = float_back _ f.squares in
      λ d.
      record {
        parameters = record { theta = t d; omega = o d; additive_sd = a d };
        progress =
            record {
              awaits = b d;
              individual = i d;
              subject = s.progress.subject;
              first = s.progress.first;
              warm = w d;
              search = s.progress.search;
              ofv = v d;
              eta_squares = q d;
            };
        order = s.order;
      }

  searched : FitsState s → with_search words ≡ given s
  unfolding with_search state_words through
  searched f = ap (through (state_at words)) (subject_back s.progress.search f.one f.two) ∙ ap {B = Answer State} (λ (x : State). given x) (state_of_lem f)

  words_back : FitsState s → loaded_state words ≡ given s
  unfolding loaded_state
  words_back f =
      sym
      (no _ (le-ltb _ _ long)
      (no _ (ap (ltb 1) zeroth ∙ flag_low s.progress.awaits)
      (no _ (ap (ltb 1) fourth ∙ additive_low s.parameters.additive_sd)
      (sym (searched f)))))

pub back : (s : State) (w : List ℕ) → state_size ≤ length w → FitsState s → loaded_state (saved_state s w) ≡ given s
back s w h f = ap loaded_state (saved_first s w h) ∙ words_back s (drop state_size w) f
