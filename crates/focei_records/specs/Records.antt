-- Document 01's records: 48 bytes, no header, little-endian: subject and reserved word of 32 bits, then value, additive, proportional,
-- base, slope.
use Rattle.std.specs.Prelude.{List, [], ◌∷◌, ◌++◌, ℕ, zero, suc, ◌+◌, ◌*◌, ◌/◌, ◌%◌, eqb, ltb, Float, get_or, length, Option, Some, None}
use Rattle.std.specs.Float.{binary64}
use Rattle.std.specs.Float.Ieee.{to_bits}
use Rattle.float64.specs.Answer.{Answer, given, refused}
use Rattle.float64.specs.Arithmetic.{◌+ᶠ◌, ◌*ᶠ◌, word}
use Rattle.float64.specs.Pick.{pick}

-- the bytes of a record, and the most records that the program takes
abbrev pub record_bytes : ℕ
record_bytes = 48

abbrev pub most_records : ℕ
most_records = 256

-- ---- the fields of record i

abbrev pub half_at : List ℕ → ℕ → ℕ
half_at input at = get_or input at 0 + 256 * get_or input (at + 1) 0 + 65536 * (get_or input (at + 2) 0 + 256 * get_or input (at + 3) 0)

abbrev pub word_at : List ℕ → ℕ → ℕ
word_at input at = half_at input at + 4294967296 * half_at input (at + 4)

abbrev pub records : List ℕ → ℕ
records input = length input / record_bytes

unfoldable pub subject_at : List ℕ → ℕ → ℕ
subject_at input i = half_at input (record_bytes * i)

unfoldable pub reserved_at : List ℕ → ℕ → ℕ
reserved_at input i = half_at input (record_bytes * i + 4)

-- 0 value, 1 additive, 2 proportional, 3 base, 4 slope
unfoldable pub float_at : List ℕ → ℕ → ℕ → ℕ
float_at input i field = word_at input (record_bytes * i + 8 + 8 * field)

-- ---- 20: whole records, at most 256, reserved word 0, subjects from 0 rising by 0 or 1

-- no number of subjects, but 20
abbrev pub no_cohort : Answer ℕ
no_cohort = refused 20

-- what each case of the code's answer says
unfoldable pub answer : Option ℕ → Answer ℕ
answer (Some n) = given n
answer None = no_cohort

-- the records from i on, with so many subjects before them
unfoldable pub cohort_from : ℕ → List ℕ → ℕ → ℕ → Answer ℕ
cohort_from zero input i subjects = given subjects
cohort_from (suc left) input i subjects =
    pick (eqb (reserved_at input i) 0)
    (pick (eqb (subject_at input i) subjects) (cohort_from left input (i + 1) (subjects + 1))
    (pick (eqb (subject_at input i + 1) subjects) (cohort_from left input (i + 1) subjects)
    no_cohort))
    no_cohort

-- how many subjects the records have
unfoldable pub cohort : List ℕ → Answer ℕ
cohort input =
    pick (eqb (length input % record_bytes) 0)
    (pick (ltb most_records (records input)) no_cohort (cohort_from (records input) input 0 0))
    no_cohort

-- ---- the counts and the observations

-- how many records of a subject there are among so many from i on
unfoldable pub count_from : ℕ → List ℕ → ℕ → ℕ → ℕ
count_from zero input i subject = 0
count_from (suc left) input i subject = pick (eqb (subject_at input i) subject) 1 0 + count_from left input (i + 1) subject

-- of each subject from one on
unfoldable pub counts_from : ℕ → List ℕ → ℕ → List ℕ
counts_from zero input subject = []
counts_from (suc left) input subject = count_from (records input) input 0 subject ∷ counts_from left input (subject + 1)

unfoldable pub counts : List ℕ → ℕ → List ℕ
counts input subjects = counts_from subjects input 0

-- output 0; its row, which is its own position within the subject; value, additive, proportional
unfoldable pub observation_at : List ℕ → ℕ → List ℕ
observation_at input i = 0 ∷ count_from i input 0 (subject_at input i) ∷ float_at input i 0 ∷ float_at input i 1 ∷ float_at input i 2 ∷ []

unfoldable pub observations_from : ℕ → List ℕ → ℕ → List ℕ
observations_from zero input i = []
observations_from (suc left) input i = observation_at input i ++ observations_from left input (i + 1)

unfoldable pub observations : List ℕ → List ℕ
observations input = observations_from (records input) input 0

-- ---- the simulator: base + slope times the individual value, derivative slope; time 0, pre

unfoldable pub row_at : List ℕ → Float → ℕ → List ℕ
row_at input individual i =
    let base = word (float_at input i 3) in
    let slope = word (float_at input i 4) in
    0 ∷ 0 ∷ to_bits binary64 (base +ᶠ slope *ᶠ individual) ∷ to_bits binary64 slope ∷ []

-- the rows of so many records from i on, as far as there are records
unfoldable pub replied_from : ℕ → List ℕ → Float → ℕ → List ℕ
replied_from zero input individual i = []
replied_from (suc left) input individual i =
    pick (ltb i (records input)) (row_at input individual i ++ replied_from left input individual (i + 1)) []

unfoldable pub reply : List ℕ → ℕ → ℕ → Float → List ℕ
reply input first rows individual = replied_from rows input individual first
