-- A history is the list of the evaluated points that a search was given, in their order. Here it is of any rules: `request` says what
-- a search asks, `advance` what an evaluated point makes of it, and `Answers` which points answer what was asked.
use Rattle.std.specs.Prelude.{List, [], ◌∷◌}

-- the search that a history leads to, from the search x
unfoldable pub led_from : {X C : Type 0} → (X → C → X) → X → List C → X
led_from advance x [] = x
led_from advance x (c ∷ h) = led_from advance (advance x c) h

-- each point answers what the search asked
unfoldable pub Answered : {X C Q : Type 0} → (Q → C → Type 0) → (X → Q) → (X → C → X) → X → List C → Type 0
Answered Answers request advance x [] = Unit
Answered Answers request advance x (c ∷ h) = Answers (request x) c × Answered Answers request advance (advance x c) h
