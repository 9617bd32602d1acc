-- What is claimed of one search with two effects, over every history of its rules.
use Rattle.std.specs.Prelude.{◌≡◌, ◌⊎◌, ℕ, ◌+◌, ◌*◌, ◌≤◌, length, Float}
use mathlib.Core.List.{List, [], ◌∷◌, ◌++◌, Memᴰ}
use Rattle.float64.specs.Arithmetic.{word}
use Rattle.mode_2d.specs.declared.population_focei_2d.Settings2.{Settings2}
use Rattle.mode_2d.specs.declared.population_focei_2d.Conditional2.{Conditional2}
use Rattle.mode_2d.specs.Rules.{request}
use Rattle.mode_theorems.specs.Terms2.{etas, point, start_points, NoHigher, IsUnresolved, Resolved, IsFar, better, IsFlat}
use Rattle.mode_theorems.specs.History2.{Within, Accepted, Follows, after, asks, starts, candidates}
use Rattle.mode.specs.declared.Request.TheVariants.{Mode, Refused}

-- the most evaluations that a search asks for: zero, and from each of six starts the start and 48 rounds of 22 trials
abbrev pub ceiling : ℕ
ceiling = 1 + 6 * (1 + 48 * 22)

-- each candidate's joint is at most that at its own start
unfoldable pub EachNoHigher : Settings2 → List Conditional2 → List Conditional2 → Type 0
EachNoHigher s [] [] = Unit
EachNoHigher s [] (t ∷ l) = ⊥
EachNoHigher s (c ∷ q) [] = ⊥
EachNoHigher s (c ∷ q) (t ∷ l) = NoHigher s c t × EachNoHigher s q l

-- a history h divides into runs, one for each start of l and candidate of q: a run begins with its start, and its candidate is one of
-- its points
unfoldable pub Runs : List Conditional2 → List Conditional2 → List Conditional2 → Type 0
Runs [] [] h = h ≡ []
Runs [] (c ∷ q) h = ⊥
Runs (t ∷ l) [] h = ⊥
Runs (t ∷ l) (c ∷ q) h =
    (trials : List Conditional2) × ((rest : List Conditional2) × ((h ≡ t ∷ trials ++ rest) × (Memᴰ c (t ∷ trials) × Runs l q rest)))

-- and before them zero is evaluated
unfoldable pub Divided : List Conditional2 → List Conditional2 → List Conditional2 → Type 0
Divided l q [] = ⊥
Divided l q (z ∷ h) = (z.eta ≡ point (word 0) (word 0)) × Runs l q h

-- the candidates after the first, each against the best so far, b: it passes 13, and 14, and the best of all is m, the earlier at ties
unfoldable pub PassAfter : Settings2 → Conditional2 → List Conditional2 → Conditional2 → Type 0
PassAfter s b [] m = m ≡ b
PassAfter s b (c ∷ q) m = Resolved s c × ((IsFar c b → ⊥) × PassAfter s (better s c b) q m)

-- the first is compared with nothing
unfoldable pub Pass : Settings2 → List Conditional2 → Conditional2 → Type 0
Pass s [] m = ⊥
Pass s (c ∷ q) m = Resolved s c × PassAfter s c q m

-- the mode m of a history h
pub record Found2 (s : Settings2) (h : List Conditional2) (m : Conditional2) : Type 0 where
  -- document 01's six starts were tried, and came to six candidates
  pub is_starts : etas (starts s h) ≡ start_points s
  pub six : length (candidates s h) ≡ 6
  -- the history is zero and six runs, with these starts and candidates
  pub divided : Divided (starts s h) (candidates s h) h
  -- the candidates passed 13 and 14 in their order, and the mode is the best of them
  pub pass : Pass s (candidates s h) m
  pub member : Memᴰ m (candidates s h)
  -- its joint is at most that at each of the six starts
  pub lowest : (t : Conditional2) → Memᴰ t (starts s h) → NoHigher s m t
  -- and each candidate's is at most that at its own start
  pub each : EachNoHigher s (candidates s h) (starts s h)

-- ---- refused
-- 13: a candidate is unresolved
pub record Unresolved (s : Settings2) (h : List Conditional2) : Type 0 where
  pub candidate : Conditional2
  pub member : Memᴰ candidate h
  pub is_so : IsUnresolved s candidate

-- 14: a candidate that is not the first is far from the best so far
pub record Several (h : List Conditional2) : Type 0 where
  pub candidate : Conditional2
  pub best : Conditional2
  pub members : Memᴰ candidate h × Memᴰ best h
  pub is_so : IsFar candidate best

-- 16: at a point of a round precision + information has no inverse
pub record NoInverse (s : Settings2) (h : List Conditional2) : Type 0 where
  pub point : Conditional2
  pub member : Memᴰ point h
  pub is_so : IsFlat s point

-- what holds of every history h that follows the rules
pub record Searched2 (s : Settings2) (h : List Conditional2) : Type 0 where
  -- no more points are asked than the ceiling, the one that is awaited counted
  pub at_most : length h + asks (request s (after s h)) ≤ ceiling
  pub found : request s (after s h) ≡ Mode → Found2 s h (after s h).best
  pub unresolved : request s (after s h) ≡ Refused 13 → Unresolved s h
  pub several : request s (after s h) ≡ Refused 14 → Several h
  pub no_inverse : request s (after s h) ≡ Refused 16 → NoInverse s h
  -- there is no other number
  pub numbers : (n : ℕ) → request s (after s h) ≡ Refused n → (n ≡ 13) ⊎ ((n ≡ 14) ⊎ (n ≡ 16))

abbrev pub TwoSearch : Type 0
TwoSearch = (omega : List (List Float)) (s : Settings2) → Accepted omega s → (h : List Conditional2) → Follows s h → Searched2 s h

-- the bound on the precision: entries from -2^101 to 2^101
pub record Bounded (s : Settings2) : Type 0 where
  pub within00 : Within (word 0x4640_0000_0000_0000) s.precision.m00
  pub within01 : Within (word 0x4640_0000_0000_0000) s.precision.m01
  pub within10 : Within (word 0x4640_0000_0000_0000) s.precision.m10
  pub within11 : Within (word 0x4640_0000_0000_0000) s.precision.m11

abbrev pub PrecisionBound : Type 0
PrecisionBound = (omega : List (List Float)) (s : Settings2) → Accepted omega s → Bounded s
