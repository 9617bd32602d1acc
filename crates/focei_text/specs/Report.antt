-- The lines of document 01's program. A line is a letter and its fields, each after a space. Floats are 16 hexadecimal digits.
use Rattle.std.specs.Prelude.{List, [], ◌∷◌, ◌++◌, ℕ, zero, suc, ◌+◌, ◌*◌, ltb, Float, get_or, length}
use Rattle.std.specs.Float.{binary64}
use Rattle.std.specs.Float.Ieee.{to_bits}
use Rattle.float64.specs.Pick.{pick}
use Rattle.work.specs.Work.{most_subjects, result_words, fitted_words}
use Rattle.search.specs.declared.Place.{Place}
use Rattle.search.specs.declared.Place.TheVariants.{Nowhere, Subject, Observation}
use Rattle.population.specs.Population.{rows_of}
use Rattle.focei_text.specs.declared.Field.{Field}
use Rattle.focei_text.specs.declared.Field.TheVariants.{Word, Number, Missing}
use Rattle.focei_text.specs.Writing.{decimal, hexadecimal}

-- a space before each field, and a newline
unfoldable pub fields : List (List ℕ) → List ℕ
fields [] = 10 ∷ []
fields (f ∷ fs) = (32 ∷ f) ++ fields fs

unfoldable pub line : ℕ → List (List ℕ) → List ℕ
line letter fs = letter ∷ fields fs

-- a hyphen
abbrev pub none : List ℕ
none = 45 ∷ []

-- what is written of a field of the code's
unfoldable pub shown : Field → List ℕ
shown (Word w) = hexadecimal w
shown (Number n) = decimal n
shown Missing = none

-- ---- R: number, subject, observation

unfoldable pub subject_field : Place → List ℕ
subject_field Nowhere = none
subject_field (Subject s) = decimal s
subject_field (Observation s n) = decimal s

unfoldable pub observation_field : Place → List ℕ
observation_field Nowhere = none
observation_field (Subject s) = none
observation_field (Observation s n) = decimal n

unfoldable pub refusal_line : ℕ → Place → List ℕ
refusal_line number place = line 82 (decimal number ∷ subject_field place ∷ observation_field place ∷ [])

-- ---- O, S, F, H

unfoldable pub objective_line : Float → ℕ → List ℕ
objective_line objective evaluations = line 79 (hexadecimal (to_bits binary64 objective) ∷ decimal evaluations ∷ [])

unfoldable pub subject_line : ℕ → ℕ → List ℕ
subject_line subject eta = line 83 (decimal subject ∷ hexadecimal eta ∷ [])

unfoldable pub fitted_line : ℕ → ℕ → ℕ → ℕ → List ℕ
fitted_line subject observation population individual =
    line 70 (decimal subject ∷ decimal observation ∷ hexadecimal population ∷ hexadecimal individual ∷ [])

unfoldable pub shrinkage_line : Float → List ℕ
shrinkage_line shrinkage = line 72 (hexadecimal (to_bits binary64 shrinkage) ∷ [])

-- ---- the results: for all subjects eta, second eta and nll, then for all observations the predictions at eta zero and at the mode

-- so many subjects from one on
unfoldable pub subject_lines : ℕ → ℕ → List ℕ → List ℕ
subject_lines zero subject results = []
subject_lines (suc left) subject results =
    subject_line subject (get_or results (result_words * subject) 0) ++ subject_lines left (subject + 1) results

-- so many observations of a subject from one on, whose predictions stand from a word on
unfoldable pub fitted_lines : ℕ → ℕ → ℕ → ℕ → List ℕ → List ℕ
fitted_lines zero subject n at results = []
fitted_lines (suc left) subject n at results =
    fitted_line subject n (get_or results at 0) (get_or results (at + 1) 0) ++ fitted_lines left subject (n + 1) (at + fitted_words) results

-- those of so many subjects
unfoldable pub all_fitted : ℕ → ℕ → ℕ → List ℕ → List ℕ → List ℕ
all_fitted zero subject at counts results = []
all_fitted (suc left) subject at counts results =
    fitted_lines (rows_of counts subject) subject 0 at results
    ++ all_fitted left (subject + 1) (at + fitted_words * rows_of counts subject) counts results

-- at most the domain's largest number
unfoldable pub subjects_of : List ℕ → ℕ
subjects_of counts = pick (ltb (length counts) most_subjects) (length counts) most_subjects

unfoldable pub finished : Float → ℕ → Float → List ℕ → List ℕ → List ℕ
finished objective evaluations shrinkage counts results =
    let n = subjects_of counts in
    objective_line objective evaluations ++ subject_lines n 0 results
    ++ all_fitted n 0 (result_words * n) counts results ++ shrinkage_line shrinkage
