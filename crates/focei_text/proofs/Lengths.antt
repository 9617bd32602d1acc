-- How long the lines are, for every caller. Assumes nothing.
use mathlib.Core.Path.{◌≡◌, refl, ap}
use mathlib.Core.List.{List, [], ◌∷◌, ◌++◌}
use Prim.Native.Nat.{ℕ, zero, suc, ◌+◌, ◌*◌, ◌/◌, ◌%◌, ◌≤◌}
use native.Mathlib.Omega.{arith}
use borrow.Author.Tests.{ltb-false}
use lib.Dec.{ltb}
use lib.Ieee.{Float, binary64, to_bits}
use lib.ListN.{get_or, length, length-append}
use Rattle.float64.specs.Pick.{cases}
use Rattle.work.specs.Work.{most_rows, most_subjects}
use Rattle.population.specs.Population.{rows_of}
use Rattle.search.specs.declared.Place.{Place}
use Rattle.search.specs.declared.Place.TheVariants.{Nowhere, Subject, Observation}
use Rattle.focei_text.specs.Writing.{hex_from, hexadecimal, digits, decimal}
use Rattle.focei_text.specs.Report.{fields, line, subject_field, observation_field, refusal_line, objective_line, subject_line, fitted_line, shrinkage_line, subject_lines, fitted_lines, all_fitted}
use Rattle.focei_text.specs.Report.{subjects_of, finished}

-- ---- numbers
hex_from_lem : (left w : ℕ) → length (hex_from left w) ≡ left
unfolding hex_from
hex_from_lem zero w = refl
hex_from_lem (suc left) w = ap suc (hex_from_lem left (w % 0x1000_0000_0000_0000 * 16))

hex_length : (w : ℕ) → length (hexadecimal w) ≡ 16
unfolding hexadecimal
hex_length w = hex_from_lem 16 w

few_digits : (most n : ℕ) → length (digits most n) ≤ most
unfolding digits
few_digits zero n = omega arith
few_digits (suc most) n =
    cases (λ (l : List ℕ). length l ≤ suc most) (ltb n 10)
    (λ _. omega arith)
    (λ _. let before = few_digits most (n / 10) in simp length-append (omega arith))

decimal_length : (n : ℕ) → length (decimal n) ≤ 20
unfolding decimal
decimal_length n = few_digits 20 n

-- ---- lines
fields_end : length (fields []) ≡ 1
unfolding fields
fields_end = refl

fields_more : (f : List ℕ) (fs : List (List ℕ)) → length (fields (f ∷ fs)) ≡ 1 + length f + length (fields fs)
unfolding fields
fields_more f fs = let both = length-append (32 ∷ f) (fields fs) in omega arith

line_length : (x : ℕ) (fs : List (List ℕ)) → length (line x fs) ≡ 1 + length (fields fs)
unfolding line
line_length x fs = omega arith

place_fields : (place : Place) → (length (subject_field place) ≤ 20) × (length (observation_field place) ≤ 20)
unfolding subject_field observation_field
place_fields Nowhere = (omega arith, omega arith)
place_fields (Subject s) = let a = decimal_length s in (omega arith, omega arith)
place_fields (Observation s n) = let a = decimal_length s in let b = decimal_length n in (omega arith, omega arith)

pub refusal_length : (number : ℕ) (place : Place) → length (refusal_line number place) ≤ 65
unfolding refusal_line
refusal_length number place =
    let n = decimal_length number in
    let p = place_fields place in
    let s = p.0 in
    let o = p.1 in
    let l = line_length 82 (decimal number ∷ subject_field place ∷ observation_field place ∷ []) in
    let a = fields_more (decimal number) (subject_field place ∷ observation_field place ∷ []) in
    let b = fields_more (subject_field place) (observation_field place ∷ []) in
    let c = fields_more (observation_field place) [] in
    let d = fields_end in
    omega arith

objective_length : (x : Float) (n : ℕ) → length (objective_line x n) ≤ 40
unfolding objective_line
objective_length x n =
    let w = hexadecimal (to_bits binary64 x) in
    let hw = hex_length (to_bits binary64 x) in
    let dn = decimal_length n in
    let l = line_length 79 (w ∷ decimal n ∷ []) in
    let a = fields_more w (decimal n ∷ []) in
    let b = fields_more (decimal n) [] in
    let d = fields_end in
    omega arith

subject_length : (s eta : ℕ) → length (subject_line s eta) ≤ 40
unfolding subject_line
subject_length s eta =
    let ds = decimal_length s in
    let he = hex_length eta in
    let l = line_length 83 (decimal s ∷ hexadecimal eta ∷ []) in
    let a = fields_more (decimal s) (hexadecimal eta ∷ []) in
    let b = fields_more (hexadecimal eta) [] in
    let d = fields_end in
    omega arith

fitted_length : (s n x y : ℕ) → length (fitted_line s n x y) ≤ 78
unfolding fitted_line
fitted_length s n x y =
    let ds = decimal_length s in
    let dn = decimal_length n in
    let hx = hex_length x in
    let hy = hex_length y in
    let l = line_length 70 (decimal s ∷ decimal n ∷ hexadecimal x ∷ hexadecimal y ∷ []) in
    let a = fields_more (decimal s) (decimal n ∷ hexadecimal x ∷ hexadecimal y ∷ []) in
    let b = fields_more (decimal n) (hexadecimal x ∷ hexadecimal y ∷ []) in
    let c = fields_more (hexadecimal x) (hexadecimal y ∷ []) in
    let e = fields_more (hexadecimal y) [] in
    let d = fields_end in
    omega arith

shrinkage_length : (x : Float) → length (shrinkage_line x) ≤ 19
unfolding shrinkage_line
shrinkage_length x =
    let w = hexadecimal (to_bits binary64 x) in
    let hw = hex_length (to_bits binary64 x) in
    let l = line_length 72 (w ∷ []) in
    let a = fields_more w [] in
    let d = fields_end in
    omega arith

-- ---- all of them
subjects_length : (left s : ℕ) (results : List ℕ) → length (subject_lines left s results) ≤ 40 * left
unfolding subject_lines
subjects_length zero s results = omega arith
subjects_length (suc left) s results =
    let here = subject_length s (get_or results (3 * s) 0) in
    let later = subjects_length left (s + 1) results in
    let both = length-append (subject_line s (get_or results (3 * s) 0)) (subject_lines left (s + 1) results) in
    omega arith

rows_length_lem : (left s n at : ℕ) (results : List ℕ) → length (fitted_lines left s n at results) ≤ 78 * left
unfolding fitted_lines
rows_length_lem zero s n at results = omega arith
rows_length_lem (suc left) s n at results =
    let here = fitted_length s n (get_or results at 0) (get_or results (at + 1) 0) in
    let later = rows_length_lem left s (n + 1) (at + 2) results in
    let both = length-append (fitted_line s n (get_or results at 0) (get_or results (at + 1) 0)) (fitted_lines left s (n + 1) (at + 2) results) in
    omega arith

-- the rows of so many subjects from s on
unfoldable pub rows_from : ℕ → ℕ → List ℕ → ℕ
rows_from zero s counts = 0
rows_from (suc left) s counts = rows_of counts s + rows_from left (s + 1) counts

all_length : (left s at : ℕ) (counts results : List ℕ) → length (all_fitted left s at counts results) ≤ 78 * rows_from left s counts
unfolding all_fitted rows_from
all_length zero s at counts results = omega arith
all_length (suc left) s at counts results =
    let here = rows_length_lem (rows_of counts s) s 0 at results in
    let later = all_length left (s + 1) (at + 2 * rows_of counts s) counts results in
    let both = length-append (fitted_lines (rows_of counts s) s 0 at results) (all_fitted left (s + 1) (at + 2 * rows_of counts s) counts results) in
    omega arith

pub few_subjects : (counts : List ℕ) → subjects_of counts ≤ length counts
unfolding subjects_of
few_subjects counts =
    cases (λ (k : ℕ). k ≤ length counts) (ltb (length counts) most_subjects)
    (λ _. omega arith)
    (λ q. let many : most_subjects ≤ length counts = ltb-false _ _ q in many)

pub finished_length : (x : Float) (n : ℕ) (y : Float) (counts results : List ℕ) → length (finished x n y counts results) ≤ 59 + 40 * subjects_of counts + 78 * rows_from (subjects_of counts) 0 counts
unfolding finished
finished_length x n y counts results =
    let m = subjects_of counts in
    let o = objective_length x n in
    let s = subjects_length m 0 results in
    let f = all_length m 0 (3 * m) counts results in
    let h = shrinkage_length y in
    let a = length-append (objective_line x n) (subject_lines m 0 results) in
    let b = length-append (objective_line x n ++ subject_lines m 0 results) (all_fitted m 0 (3 * m) counts results) in
    let c = length-append (objective_line x n ++ subject_lines m 0 results ++ all_fitted m 0 (3 * m) counts results) (shrinkage_line y) in
    omega arith

pub rows_at_most : (counts : List ℕ) (s : ℕ) → rows_of counts s ≤ get_or counts s 0
unfolding rows_of
rows_at_most counts s =
    cases (λ (k : ℕ). k ≤ get_or counts s 0) (ltb (get_or counts s 0) most_rows)
    (λ _. omega arith)
    (λ q. let many : most_rows ≤ get_or counts s 0 = ltb-false _ _ q in many)
