-- What a step writes keeps the number of words that are lent. Assumes nothing.
use Rattle.std.specs.Prelude.{None, Option, Some}
use mathlib.Core.Path.{◌≡◌, refl, ap, ◌∙◌}
use mathlib.Core.List.{List}
use Prim.Native.Nat.{ℕ, zero, suc, ◌+◌, ◌*◌}
use native.Mathlib.Omega.{arith}
use lib.Dec.{ltb, eqb}
use lib.ListN.{get_or, set, length, length-set}
use lib.Ieee.{Float}
use Rattle.float64.specs.Pick.{both}
use Rattle.matrix.specs.declared.Pair.{Pair}
use Rattle.cache.specs.Cache.{row_words, rows_from, is_room, copied, copy_from, rows_to, first_of}
use Rattle.words.specs.Words.{zeros}
use Rattle.work.specs.Work.{rows_length, block, copy_words, copy_block, move_rows, result_written, fitted_row, fitted_from, fitted_written}
use Rattle.work.specs.declared.Sources.{Sources}
use Rattle.population.specs.Kept.{Recalled, recall_at}
use Rattle.population.specs.Population.{warm_stored}

-- as many words as there were
abbrev pub AsLong : List ℕ → List ℕ → Type 0
AsLong work after = length after ≡ length work

pub zeros_length : (n : ℕ) → length (zeros n) ≡ n
unfolding zeros
zeros_length zero = refl
zeros_length (suc n) = ap suc (zeros_length n)

copy_words_length : (n from to : ℕ) (work : List ℕ) → AsLong work (copy_words n from to work)
unfolding copy_words
copy_words_length zero from to work = refl
copy_words_length (suc n) from to work = copy_words_length n (from + 1) (to + 1) (set work to (get_or work from 0)) ∙ length-set work to (get_or work from 0)

copy_block_length : (rows from to : ℕ) (work : List ℕ) → AsLong work (copy_block rows from to work)
unfolding copy_block
copy_block_length rows from to work = both (AsLong work) (eqb from to) refl (copy_words_length (rows_length rows) (block rows from) (block rows to) work)

pub move_rows_length : (rows : ℕ) (sources : Sources) (work : List ℕ) → AsLong work (move_rows rows sources work)
unfolding move_rows
move_rows_length rows s work =
    let one = copy_block rows s.population 0 work in
    let two = copy_block rows s.best 1 one in
    copy_block_length rows s.latest 2 two ∙ copy_block_length rows s.best 1 one ∙ copy_block_length rows s.population 0 work

copy_from_length : (n : ℕ) (w : List ℕ) (k x : ℕ) (out : List ℕ) (to i : ℕ) → AsLong out (copy_from n w k x out to i)
unfolding copy_from
copy_from_length zero w k x out to i = refl
copy_from_length (suc n) w k x out to i = copy_from_length n w k x _ to (i + 1) ∙ length-set out (to + i) _

pub copied_length : (w : List ℕ) (k slot n : ℕ) (out : List ℕ) (to : ℕ) → AsLong out (copied w k slot n out to)
unfolding copied rows_to
copied_length w k slot n out to =
    both (AsLong out) (is_room k) (both (AsLong out) (ltb k n) refl (both (AsLong out) (ltb (length w) ((rows_from + row_words) * k)) refl
    (both (AsLong out) (ltb (length out) (to + row_words * n)) refl (copy_from_length (row_words * n) w k (row_words * first_of w k slot) out to 0)))) refl

pub recalled_length : (w : List ℕ) (k rows : ℕ) (work : List ℕ) (to : ℕ) (f : Option ℕ) (r : Recalled) → recall_at w k rows work to f ≡ Some r → AsLong work r.work
unfolding recall_at
recalled_length w k rows work to (Some slot) r q = let v : r.work ≡ copied w k slot rows work to = cc in ap length v ∙ copied_length w k slot rows work to
recalled_length w k rows work to None r q = absurd (let z : ◌≡◌ {A = ℕ} 0 1 = cc in omega arith)

-- ---- a mode's warm start and results
pub warm_stored_length : (effects subject : ℕ) (eta : Pair) (warm : List ℕ) → AsLong warm (warm_stored effects subject eta warm)
unfolding warm_stored
warm_stored_length effects subject eta warm = both (AsLong warm) _ (simp length-set) (simp length-set)

fitted_from_length : (n at : ℕ) (work : List ℕ) (rows i : ℕ) (results : List ℕ) → AsLong results (fitted_from n at work rows i results)
unfolding fitted_from fitted_row
fitted_from_length zero at work rows i results = refl
fitted_from_length (suc n) at work rows i results = fitted_from_length n at work rows (i + 1) _ ∙ simp length-set

pub results_length : (subjects first : ℕ) (work : List ℕ) (rows subject : ℕ) (eta : Pair) (nll : Float) (results : List ℕ)
    → AsLong results (fitted_written subjects first work rows (result_written subject eta nll results))
unfolding fitted_written result_written
results_length subjects first work rows subject eta nll results = fitted_from_length _ _ work rows 0 _ ∙ simp length-set
