-- The worked sessions with two effects, computed, each by itself. Assumes nothing.
use mathlib.Core.Path.{◌≡◌, refl}
use mathlib.Core.List.{[], ◌∷◌}
use Rattle.float64.specs.Arithmetic.{one, two}
use Rattle.test_marked.specs.Session2.{session, first_value, steep, asked, to_mode, found, to_bound, refused_after}
use Rattle.test_marked.proofs.Computed.{worked}

pub session_found : session two first_value 2 ≡ found to_mode ∷ found [] ∷ []
unfolding worked
session_found = refl

pub session_13 : session one first_value 1 ≡ refused_after 13 4 to_bound ∷ []
unfolding worked
session_13 = refl

pub session_16 : session two steep 1 ≡ refused_after 16 1 (asked 0 0 0x3ff0_0000_0000_0000 0x3ff0_0000_0000_0000 ∷ []) ∷ []
unfolding worked
session_16 = refl
