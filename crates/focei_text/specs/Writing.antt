-- The digits of numbers, as bytes.
use Rattle.std.specs.Prelude.{List, [], ◌∷◌, ◌++◌, ℕ, zero, suc, ◌+◌, ◌*◌, ◌/◌, ◌%◌, ltb}
use Rattle.float64.specs.Pick.{pick}

-- 0 to 9, a to f
unfoldable pub glyph : ℕ → ℕ
glyph digit = pick (ltb digit 10) (48 + digit) (87 + digit)

-- so many digits of a word of sixteen, the topmost first
unfoldable pub hex_from : ℕ → ℕ → List ℕ
hex_from zero w = []
hex_from (suc left) w = glyph (w / 0x1000_0000_0000_0000) ∷ hex_from left (w % 0x1000_0000_0000_0000 * 16)

unfoldable pub hexadecimal : ℕ → List ℕ
hexadecimal w = hex_from 16 w

-- at most so many digits of a number
unfoldable pub digits : ℕ → ℕ → List ℕ
digits zero n = []
digits (suc most) n = pick (ltb n 10) (glyph n ∷ []) (digits most (n / 10) ++ (glyph (n % 10) ∷ []))

unfoldable pub decimal : ℕ → List ℕ
decimal n = digits 20 n
