-- The operations of Rust's f64 that lib.Ieee lacks.
use Rattle.std.specs.Prelude.{Bool, false, not, Float}
use Rattle.std.specs.Float.{nan, inf, fin}
use Rattle.std.specs.Float.Ieee.{is_nan, lt}
use Rattle.std.specs.Float.Ieee.Scale.{finite}
use Rattle.float64.specs.Pick.{pick}

-- a NaN or an infinity
abbrev pub nonfinite : Float → Bool
nonfinite x = not (finite x)

-- the sign cleared
unfoldable pub abs : Float → Float
abs nan = nan
abs (inf s) = inf false
abs (fin s m e) = fin false m e

-- the larger one; where one is a NaN, the other. Of two zeros of unlike sign, for which Rust leaves the choice open, the first.
unfoldable pub max : Float → Float → Float
max a b = pick (is_nan a) b (pick (lt a b) b a)

-- low below low, high above high, x elsewhere. Rust's panics where not low ≤ high; this one answers by the same tests.
unfoldable pub clamp : Float → Float → Float → Float
clamp x low high = pick (lt x low) low (pick (lt high x) high x)
