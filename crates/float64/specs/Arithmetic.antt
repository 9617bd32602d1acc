-- Rust's operators on f64, as a definition writes them: each is lib.Ieee's operation at binary64, rounded once. `word w` is the float
-- whose bits are w.
use Rattle.std.specs.Prelude.{ℕ, Float}
use Rattle.std.specs.Float.{binary64}
use Rattle.std.specs.Float.Ieee.{of_bits, add, sub, mul, div}

infixl 6 ◌+ᶠ◌ ◌-ᶠ◌
infixl 7 ◌*ᶠ◌ ◌/ᶠ◌
abbrev pub ◌+ᶠ◌ : Float → Float → Float
x +ᶠ y = add binary64 x y

abbrev pub ◌-ᶠ◌ : Float → Float → Float
x -ᶠ y = sub binary64 x y

abbrev pub ◌*ᶠ◌ : Float → Float → Float
x *ᶠ y = mul binary64 x y

abbrev pub ◌/ᶠ◌ : Float → Float → Float
x /ᶠ y = div binary64 x y

abbrev pub word : ℕ → Float
word w = of_bits binary64 w

-- the literals that several definitions use
abbrev pub half : Float
half = word 0x3fe0_0000_0000_0000

abbrev pub one : Float
one = word 0x3ff0_0000_0000_0000

abbrev pub two : Float
two = word 0x4000_0000_0000_0000

-- document 01's largest eta_bound, where `exp` ends too
abbrev pub edge : Float
edge = word 0x4030_0000_0000_0000
