-- A search as a session sees it: rules, and what is claimed of every history of them.
use Rattle.std.specs.Prelude.{◌≡◌, List, [], ◌∷◌, ℕ, ◌<◌, length}
use Rattle.mode_theorems.specs.Histories.{led_from, Answered}

-- what a search wants next: a point, to end in its mode, or to end in a refusal
pub data Wanted (Point : Type 0) : Type 0 where
  point : Point → Wanted Point
  mode : Wanted Point
  refusal : ℕ → Wanted Point

pub record Rules : Type 1 where
  pub Settings : Type 0
  pub Search : Type 0
  pub Request : Type 0
  pub Point : Type 0
  -- an evaluated point
  pub Conditional : Type 0
  pub start : Search
  pub request : Settings → Search → Request
  pub advance : Settings → Search → Conditional → Search
  -- what a request wants, and the mode where it wants that
  pub wants : Request → Wanted Point
  pub best : Search → Conditional
  -- an evaluated point that answers a request
  pub Answers : Request → Conditional → Type 0

module _ (R : Rules) where
  -- an evaluation that a search was given: the evaluated point, and the words of its rows
  pub record Trial : Type 0 where
    pub point : R.Conditional
    pub rows : List ℕ

  unfoldable pub points : List Trial → List R.Conditional
  points [] = []
  points (t ∷ ts) = t.point ∷ points ts

  -- the search that a history leads to, what it wants, and that the history follows the rules
  abbrev pub after : R.Settings → List R.Conditional → R.Search
  after st h = led_from (R.advance st) R.start h

  abbrev pub wanted : R.Settings → R.Search → Wanted R.Point
  wanted st x = R.wants (R.request st x)

  abbrev pub Follows : R.Settings → List R.Conditional → Type 0
  Follows st h = Answered R.Answers (R.request st) (R.advance st) R.start h

  -- what is claimed of a search: its domain, the most that it asks, what its mode is, and what a refusal of its rules means
  pub record Claims : Type 1 where
    pub Domain : R.Settings → Type 0
    pub ceiling : ℕ
    pub Good : R.Settings → List R.Conditional → R.Conditional → Type 0
    pub Means : R.Settings → List R.Conditional → ℕ → Type 0

  -- and proved of its histories, with no session in it
  pub record Proved (K : Claims) : Type 0 where
    pub few : (st : R.Settings) (h : List R.Conditional) (p : R.Point) → K.Domain st → Follows st h
        → wanted st (after st h) ≡ point p → length h < K.ceiling
    pub good : (st : R.Settings) (h : List R.Conditional) → K.Domain st → Follows st h → wanted st (after st h) ≡ mode
        → K.Good st h (R.best (after st h))
    pub means : (st : R.Settings) (h : List R.Conditional) (n : ℕ) → K.Domain st → Follows st h
        → wanted st (after st h) ≡ refusal n → K.Means st h n
