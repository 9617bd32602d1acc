-- The smaller of two numbers, and words that are all 0.
use Rattle.std.specs.Prelude.{List, [], ◌∷◌, ℕ, zero, suc, ◌-◌}

abbrev pub smaller : ℕ → ℕ → ℕ
smaller a b = b - (b - a)

unfoldable pub zeros : ℕ → List ℕ
zeros zero = []
zeros (suc n) = 0 ∷ zeros n
