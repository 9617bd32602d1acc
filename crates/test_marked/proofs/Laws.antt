-- The word of what a leaf wrote, where the leaf's answer is known. Assumes nothing.
use mathlib.Core.Path.{◌≡◌, refl, ap, ◌∙◌}
use mathlib.Core.List.{List, [], ◌∷◌}
use Prim.Native.Nat.{ℕ, ◌<◌}
use native.Mathlib.Omega.{arith}
use borrow.Author.Tests.{le-ltb, lt-ltb}
use lib.ListN.{get_or}
use lib.Ieee.{Float, nan, binary64, to_bits}
use Rattle.matrix.specs.Matrix.{Inverse, entry}
use Rattle.float64.specs.Answer.{Answer, through}
use Rattle.likelihood.specs.declared.population_focei.RowTerms.{RowTerms}
use Rattle.float64.specs.Pick.{pick}
use Rattle.mode.specs.Rules.{grid_point, request_at}
use Rattle.mode.specs.declared.population_focei.Settings.{Settings}
use Rattle.state_words.specs.SearchWords.{stage_of, search_of, loaded_lent, loaded}
use Rattle.test_exports.specs.Leaves.{terms_or, inverse_or}
use Rattle.test_exports.specs.Mode.{requested, point_or}

pub term_word : (i : ℕ) (written old : List Float) (a b : Answer RowTerms) → written ≡ terms_or old a → a ≡ b → to_bits binary64 (get_or written i nan) ≡ to_bits binary64 (get_or (terms_or old b) i nan)
term_word i written old a b e f = ap (λ (l : List Float). to_bits binary64 (get_or l i nan)) (e ∙ ap (terms_or old) f)

pub entry_word : (i j : ℕ) (written old : List (List Float)) (a b : Inverse) → written ≡ inverse_or old a → a ≡ b → to_bits binary64 (entry written i j) ≡ to_bits binary64 (entry (inverse_or old b) i j)
entry_word i j written old a b e f = ap (λ (l : List (List Float)). to_bits binary64 (entry l i j)) (e ∙ ap (inverse_or old) f)

-- ---- a search of the grid, by its words
pub grid_words : (s : Settings) (old : Float) (count : ℕ) → count < 17
    → point_or old (requested s (0 ∷ count ∷ 0 ∷ 0 ∷ 0 ∷ 0 ∷ 0 ∷ 0 ∷ 0 ∷ 0 ∷ 0 ∷ 0 ∷ 0 ∷ 0 ∷ 0 ∷ 0 ∷ 0 ∷ 0 ∷ 0 ∷ 0 ∷ [])) ≡ grid_point s.eta_bound count
unfolding point_or requested through loaded loaded_lent search_of request_at stage_of pick
grid_words s old count h = rw (le-ltb 4294967295 count (omega arith), lt-ltb count 17 h) refl
