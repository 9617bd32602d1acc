-- The work words, four blocks of a subject's rows, and the results. Beyond 4,096 subjects and 100,000 rows, which no session has, the
-- largest numbers stand in.
use Rattle.std.specs.Prelude.{Bool, true, false, List, ℕ, zero, suc, ◌+◌, ◌*◌, eqb, get_or, set, Float}
use Rattle.std.specs.Float.{binary64}
use Rattle.std.specs.Float.Ieee.{to_bits, eq}
use Rattle.float64.specs.Arithmetic.{word}
use Rattle.float64.specs.Pick.{pick}
use Rattle.matrix.specs.declared.Pair.{Pair}
use Rattle.cache.specs.Cache.{row_words}
use Rattle.work.specs.declared.Sources.{Sources}
use Rattle.words.specs.Words.{smaller}

abbrev pub most_subjects : ℕ
most_subjects = 4096

abbrev pub most_rows : ℕ
most_rows = 100000

-- the blocks of rows in the work words, and so the work words of an observation; the results' words of a subject and of an observation
abbrev pub blocks : ℕ
blocks = 4

abbrev pub work_words : ℕ
work_words = blocks * row_words

abbrev pub result_words : ℕ
result_words = 3

abbrev pub fitted_words : ℕ
fitted_words = 2

-- ---- the blocks: 0 the rows at eta zero, 1 the best point's, 2 the latest's, 3 the trial's

abbrev pub rows_length : ℕ → ℕ
rows_length rows = row_words * smaller rows most_rows

unfoldable pub block : ℕ → ℕ → ℕ
block rows number = rows_length rows * smaller number 3

-- n words from `from` on copied to those from `to` on, one after the other
unfoldable pub copy_words : ℕ → ℕ → ℕ → List ℕ → List ℕ
copy_words zero from to work = work
copy_words (suc n) from to work = copy_words n (from + 1) (to + 1) (set work to (get_or work from 0))

unfoldable pub copy_block : ℕ → ℕ → ℕ → List ℕ → List ℕ
copy_block rows from to work = pick (eqb from to) work (copy_words (rows_length rows) (block rows from) (block rows to) work)

unfoldable pub move_rows : ℕ → Sources → List ℕ → List ℕ
move_rows rows sources work =
    copy_block rows sources.latest 2 (copy_block rows sources.best 1 (copy_block rows sources.population 0 work))

-- ---- check 17

-- the rows at words a and b have the same time, as floats, and the same side
unfoldable pub is_same_row : List ℕ → ℕ → ℕ → Bool
is_same_row work a b =
    pick (eq (word (get_or work (a + 1) 0)) (word (get_or work (b + 1) 0))) (eqb (get_or work (a + 2) 0) (get_or work (b + 2) 0)) false

-- n rows from the i-th on
unfoldable pub same_from : ℕ → List ℕ → ℕ → ℕ → Bool
same_from zero work rows i = true
same_from (suc n) work rows i =
    pick (is_same_row work (block rows 0 + row_words * i) (block rows 1 + row_words * i)) (same_from n work rows (i + 1)) false

unfoldable pub is_same_grid : List ℕ → ℕ → Bool
is_same_grid work rows = same_from (smaller rows most_rows) work rows 0

-- ---- the results: for all subjects eta, second eta and nll, then for all observations the predictions at eta zero and at the mode

unfoldable pub result_written : ℕ → Pair → Float → List ℕ → List ℕ
result_written subject eta nll results =
    let at = result_words * subject in
    set (set (set results at (to_bits binary64 eta.first)) (at + 1) (to_bits binary64 eta.second)) (at + 2) (to_bits binary64 nll)

unfoldable pub fitted_at : ℕ → ℕ → ℕ
fitted_at subjects first = result_words * smaller subjects most_subjects + fitted_words * smaller first most_rows

unfoldable pub fitted_row : ℕ → List ℕ → ℕ → ℕ → List ℕ → List ℕ
fitted_row at work rows i results =
    set (set results (at + fitted_words * i) (get_or work (block rows 0 + row_words * i) 0)) (at + fitted_words * i + 1)
    (get_or work (block rows 1 + row_words * i) 0)

-- n rows from the i-th on
unfoldable pub fitted_from : ℕ → ℕ → List ℕ → ℕ → ℕ → List ℕ → List ℕ
fitted_from zero at work rows i results = results
fitted_from (suc n) at work rows i results = fitted_from n at work rows (i + 1) (fitted_row at work rows i results)

unfoldable pub fitted_written : ℕ → ℕ → List ℕ → ℕ → List ℕ → List ℕ
fitted_written subjects first work rows results = fitted_from (smaller rows most_rows) (fitted_at subjects first) work rows 0 results
