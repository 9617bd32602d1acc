-- The ways through the code: one law for each, over plain variables. Assumes nothing.
use mathlib.Core.Path.{◌≡◌, refl, ap, ◌∙◌}
use mathlib.Core.Bool.{Bool, true, false}
use mathlib.Core.List.{List}
use Prim.Native.Nat.{ℕ, suc, ◌+◌, ◌-◌, ◌*◌, ◌≤◌, ◌<◌}
use native.Mathlib.Nat.{mul-le-mul}
use native.Mathlib.Omega.{arith}
use borrow.Author.Tests.{eq-eqb, ne_eqb}
use lib.Dec.{eqb}
use lib.ListN.{get_or, set}
use lib.Ieee.{Float, eq}
use Rattle.float64.specs.Arithmetic.{word}
use Rattle.float64.specs.Pick.{yes, no, yes_of, no_of}
use Rattle.cache.specs.Cache.{row_words}
use Rattle.work.specs.declared.Sources.{Sources}
use Rattle.words.specs.Words.{smaller}
use Rattle.work.specs.Work.{most_rows, rows_length, block, copy_words, copy_block, move_rows, is_same_row, same_from, is_same_grid}

-- ---- what is left of n turns after i
pub none_left : (n i : ℕ) → n ≤ i → 0 ≡ n - i
none_left n i h = omega arith

pub one_more : (n i : ℕ) → i < n → suc (n - (i + 1)) ≡ n - i
one_more n i h = omega arith

-- ---- where a block begins
pub block_fits : {n k : ℕ} → n ≤ 300000 → k ≤ 3 → n * k ≤ 900000
block_fits {n} {k} h j = let m : n * k ≤ 300000 * 3 = mul-le-mul h j in omega arith

pub block_begins : {n k : ℕ} (rows number : ℕ) → n ≡ rows_length rows → k ≡ smaller number 3 → n * k ≡ block rows number
unfolding block
block_begins rows number e f = λ i. e i * f i

pub block_low : {b : ℕ} (rows number : ℕ) → b ≡ block rows number → b ≤ 900000
unfolding block
block_low rows number e =
    let m = block_fits {n = rows_length rows} {k = smaller number 3} (omega arith) (omega arith) in
    omega arith

-- ---- n words copied, at word i of them
module _ (n from to i : ℕ) (w : List ℕ) where
  pub copy_end : n ≤ i → w ≡ copy_words (n - i) (from + i) (to + i) w
  unfolding copy_words
  copy_end h = ap (λ (m : ℕ). copy_words m (from + i) (to + i) w) (none_left n i h)

  -- r is the word that was read
  pub copy_step : {r : ℕ} {w' : List ℕ} → i < n → r ≡ get_or w (from + i) 0 → w' ≡ set w (to + i) r → copy_words (n - (i + 1)) (from + (i + 1)) (to + (i + 1)) w' ≡ copy_words (n - i) (from + i) (to + i) w
  unfolding copy_words
  copy_step h e q =
      let f : from + (i + 1) ≡ from + i + 1 = omega arith in
      let t : to + (i + 1) ≡ to + i + 1 = omega arith in
      (λ d. copy_words (n - (i + 1)) (f d) (t d) ((q ∙ ap (set w (to + i)) e) d)) ∙ ap (λ (m : ℕ). copy_words m (from + i) (to + i) w) (one_more n i h)

-- ---- a block copied
module _ (rows from to : ℕ) (w : List ℕ) where
  pub stays : from ≡ to → w ≡ copy_block rows from to w
  unfolding copy_block
  stays e = yes _ (eq-eqb _ _ e) refl

  pub copies : {n a b : ℕ} {w' : List ℕ} → (from ≡ to → ⊥) → n ≡ rows_length rows → a ≡ block rows from → b ≡ block rows to → w' ≡ copy_words n a b w → w' ≡ copy_block rows from to w
  unfolding copy_block
  copies d e f g q = no _ (ne_eqb _ _ d) (q ∙ (λ i. copy_words (e i) (f i) (g i) w))

pub moves : {w₁ w₂ w₃ : List ℕ} (rows : ℕ) (s : Sources) (w : List ℕ) → w₁ ≡ copy_block rows s.population 0 w → w₂ ≡ copy_block rows s.best 1 w₁ → w₃ ≡ copy_block rows s.latest 2 w₂ → w₃ ≡
    move_rows rows s w
unfolding move_rows
moves rows s w e f g = g ∙ ap (copy_block rows s.latest 2) (f ∙ ap (copy_block rows s.best 1) e)

-- ---- two rows; r and s are their times' words, x and y their times
module _ (w : List ℕ) (a b : ℕ) {r s : ℕ} {x y : Float} (er : r ≡ get_or w (a + 1) 0) (ex : x ≡ word r) (es : s ≡ get_or w (b + 1) 0) (ey : y ≡ word s) where
  times : eq x y ≡ eq (word (get_or w (a + 1) 0)) (word (get_or w (b + 1) 0))
  times = λ i. eq ((ex ∙ ap word er) i) ((ey ∙ ap word es) i)

  -- p and q are their sides
  pub same_time : {p q : ℕ} → eq x y ≡ true → p ≡ get_or w (a + 2) 0 → q ≡ get_or w (b + 2) 0 → eqb p q ≡ is_same_row w a b
  unfolding is_same_row
  same_time t f g = yes_of _ times t (λ i. eqb (f i) (g i))

  pub other_time : eq x y ≡ false → false ≡ is_same_row w a b
  unfolding is_same_row
  other_time t = no_of _ times t refl

-- ---- n rows compared, at row i; p and b are where the two blocks begin, same is what `is_same_row` answered
module _ (w : List ℕ) (rows n i : ℕ) where
  pub rows_end : n ≤ i → true ≡ same_from (n - i) w rows i
  unfolding same_from
  rows_end h = ap (λ (m : ℕ). same_from m w rows i) (none_left n i h)

  module _ {p b : ℕ} {same : Bool} (h : i < n) (ep : p ≡ block rows 0) (eb : b ≡ block rows 1) (e : same ≡ is_same_row w (p + row_words * i) (b + row_words * i)) where
    here : same ≡ is_same_row w (block rows 0 + row_words * i) (block rows 1 + row_words * i)
    here = e ∙ (λ d. is_same_row w (ep d + row_words * i) (eb d + row_words * i))

    pub rows_step : same ≡ true → same_from (n - (i + 1)) w rows (i + 1) ≡ same_from (n - i) w rows i
    unfolding same_from
    rows_step t = yes_of _ here t refl ∙ ap (λ (m : ℕ). same_from m w rows i) (one_more n i h)

    pub rows_differ : same ≡ false → false ≡ same_from (n - i) w rows i
    unfolding same_from
    rows_differ t = no_of _ here t refl ∙ ap (λ (m : ℕ). same_from m w rows i) (one_more n i h)

pub grid : {n : ℕ} {r : Bool} (w : List ℕ) (rows : ℕ) → n ≡ smaller rows most_rows → r ≡ same_from n w rows 0 → r ≡ is_same_grid w rows
unfolding is_same_grid
grid w rows e q = q ∙ ap (λ (m : ℕ). same_from m w rows 0) e
