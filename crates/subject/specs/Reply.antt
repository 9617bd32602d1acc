-- The words of a reply: whole rows, each of time, side, `width` values and `width` derivatives for each effect.
use Rattle.std.specs.Prelude.{ℕ, ◌+◌, ◌*◌, ◌/◌, List, length, ◌==◌, nat_lt, slice_index, slice_set, None, Option, Some}
use Rattle.cache.specs.Cache.{row_words}
use Rattle.float64.specs.Pick.{pick}
use Rattle.subject.specs.declared.PredictionRow.{PredictionRow}

abbrev pub output_values : ℕ → ℕ → ℕ
output_values width effects = width * (1 + effects)

abbrev pub row_length : ℕ → ℕ → ℕ
row_length width effects = 2 + output_values width effects

-- the number of rows
abbrev pub rows : List ℕ → ℕ → ℕ → ℕ
rows reply width effects = length reply / row_length width effects

-- where a row begins that has this output
unfoldable pub row_at : List ℕ → ℕ → ℕ → ℕ → ℕ → Option ℕ
row_at reply width effects output row =
    pick (nat_lt output width)
    (pick (nat_lt row (rows reply width effects)) (Some (row * row_length width effects)) None)
    None

-- of the row at `at`: the value of this output (block 0), or its derivative by the first or the second effect (block 1 or 2)
unfoldable pub column : List ℕ → ℕ → ℕ → ℕ → ℕ → ℕ
column reply at width block output = slice_index reply (at + 2 + width * block + output)

-- a side: 0 pre, 1 post
unfoldable pub side : ℕ → ℕ
side w = pick (w == 0) 0 1

unfoldable pub prediction_row : List ℕ → ℕ → ℕ → ℕ → PredictionRow
prediction_row reply at width output = record {
  prediction = column reply at width 0 output;
  time = slice_index reply at;
  side = side (slice_index reply (at + 1));
}

-- the work words with the row of an observation in the block of rows that begins at word `block`
unfoldable pub written : ℕ → ℕ → PredictionRow → List ℕ → List ℕ
written block observation row work =
    let at = block + row_words * observation in
    slice_set (slice_set (slice_set work at row.prediction) (at + 1) row.time) (at + 2) row.side
