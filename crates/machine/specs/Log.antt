-- The log of a session, entry by entry, and the searches that are read from it. No code computes it.
use Rattle.std.specs.Prelude.{◌≡◌, ◌⊎◌, List, [], ◌∷◌, ◌++◌, ℕ, zero, suc, ◌+◌, ◌≤◌, length}
use Rattle.machine.specs.Rules.{Rules, Trial, points, point, after, wanted, Follows, Claims}

pub data Event (Settings Point Conditional Trial : Type 0) : Type 0 where
  -- a subject's search begins: the subject, its settings, the tally's evaluations
  Began : ℕ → Settings → ℕ → Event Settings Point Conditional Trial
  -- it asks for an evaluation
  Ask : Point → Event Settings Point Conditional Trial
  -- nothing is kept for it and check 6 passes: the tally's evaluations, now one more
  Count : ℕ → Event Settings Point Conditional Trial
  -- a kept evaluation or a reply answers it
  Got : Trial → Event Settings Point Conditional Trial
  -- the search ends in a mode
  Mode : Conditional → Event Settings Point Conditional Trial
  -- a refusal ends the objective
  Refused : ℕ → Event Settings Point Conditional Trial

-- how a search ended
pub data End (Conditional : Type 0) : Type 0 where
  not_yet : End Conditional
  in_mode : Conditional → End Conditional
  in_refusal : ℕ → End Conditional

-- the numbers of an evaluation that is refused
abbrev pub OfEvaluation : ℕ → Type 0
OfEvaluation n = (6 ≤ n) × (n ≤ 12)

-- 16 to 18 refuse after the mode
abbrev pub stop : {C : Type 0} → ℕ → End C → End C
stop n not_yet = in_refusal n
stop n (in_mode m) = in_mode m
stop n (in_refusal k) = in_refusal k

pub data Every {A : Type 0} (P : A → Type 0) : List A → Type 0 where
  none : Every P []
  more : {x : A} {xs : List A} → P x → Every P xs → Every P (x ∷ xs)

module _ (R : Rules) where
  abbrev pub Entry : Type 0
  Entry = Event R.Settings R.Point R.Conditional (Trial R)

  -- one search of a session
  pub record Searched : Type 0 where
    pub subject : ℕ
    pub settings : R.Settings
    -- the evaluations that it was given, in their order
    pub trials : List (Trial R)
    -- how many it asked for
    pub asked : ℕ
    -- the tally's evaluations when it began, and as it left them
    pub from : ℕ
    pub to : ℕ
    pub end : End R.Conditional

  -- its history: the evaluated points alone
  abbrev pub history : Searched → List R.Conditional
  history x = points R x.trials

  -- the same search, with what an entry of the log may change
  abbrev pub told_as : Searched → List (Trial R) → ℕ → ℕ → End R.Conditional → Searched
  told_as x trials asked to end =
      record { subject = x.subject; settings = x.settings; trials = trials; asked = asked; from = x.from; to = to; end = end }

  -- what an entry says of the search under way
  abbrev pub told : Searched → Entry → Searched
  told x (Began i st n) = x
  told x (Ask p) = told_as x x.trials (suc x.asked) x.to x.end
  told x (Count n) = told_as x x.trials x.asked n x.end
  told x (Got t) = told_as x (x.trials ++ (t ∷ [])) x.asked x.to x.end
  told x (Mode m) = told_as x x.trials x.asked x.to (in_mode m)
  told x (Refused n) = told_as x x.trials x.asked x.to (stop n x.end)

  abbrev pub begun : ℕ → R.Settings → ℕ → Searched
  begun i st n = record { subject = i; settings = st; trials = []; asked = 0; from = n; to = n; end = not_yet }

  -- the searches, the newest first
  abbrev pub latest : Entry → List Searched → List Searched
  latest e [] = []
  latest e (x ∷ xs) = told x e ∷ xs

  abbrev pub note : List Searched → Entry → List Searched
  note xs (Began i st n) = begun i st n ∷ xs
  note xs (Ask p) = latest (Ask p) xs
  note xs (Count n) = latest (Count n) xs
  note xs (Got t) = latest (Got t) xs
  note xs (Mode m) = latest (Mode m) xs
  note xs (Refused n) = latest (Refused n) xs

  unfoldable pub read : List Searched → List Entry → List Searched
  read xs [] = xs
  read xs (e ∷ es) = read (note xs e) es

  abbrev pub searches : List Entry → List Searched
  searches log = read [] log

  -- how often the log counts an evaluation
  unfoldable pub counts : List Entry → ℕ
  counts [] = 0
  counts (Began i st n ∷ es) = counts es
  counts (Ask p ∷ es) = counts es
  counts (Count n ∷ es) = suc (counts es)
  counts (Got t ∷ es) = counts es
  counts (Mode m ∷ es) = counts es
  counts (Refused n ∷ es) = counts es

  -- the latest n searches are those of the subjects 0 to n - 1, each with its mode
  unfoldable pub Through : ℕ → List Searched → Type 0
  Through zero xs = Unit {0}
  Through (suc n) [] = ⊥
  Through (suc n) (x ∷ xs) = (x.subject ≡ n) × ((m : R.Conditional) × (x.end ≡ in_mode m)) × Through n xs

  -- n evaluations in the tally: the newest search left it at n, each began at what the one before left, the first at 0
  unfoldable pub Chain : ℕ → List Searched → Type 0
  Chain n [] = n ≡ 0
  Chain n (x ∷ xs) = (x.to ≡ n) × Chain x.from xs

  abbrev pub Ended : Searched → Type 0
  Ended x = x.end ≡ not_yet → ⊥

  -- the newest search waits for an evaluation that its rules ask, and the others have ended
  abbrev pub Waits : List Searched → Type 0
  Waits [] = ⊥
  Waits (x ∷ xs) =
      (x.end ≡ not_yet) × (x.asked ≡ suc (length (history x)))
      × ((p : R.Point) × (wanted R x.settings (after R x.settings (history x)) ≡ point p)) × Every Ended xs

  -- what demand 3 says of one search, however it ends
  module _ (K : Claims R) where
    pub record Holds (x : Searched) : Type 0 where
      -- its settings are in the domain, and each of its evaluations answers what the rules asked
      pub domain : K.Domain x.settings
      pub follows : Follows R x.settings (history x)
      pub answered : length (history x) ≤ x.asked
      -- it asks no more than the ceiling, and raises the tally by no more than it asks
      pub few : x.asked ≤ K.ceiling
      pub raised : x.to ≤ x.from + x.asked
      -- its mode is what is claimed of one
      pub good : (m : R.Conditional) → x.end ≡ in_mode m → K.Good x.settings (history x) m
      -- a refusal that ends it is one of an evaluation, or it is the rules' own and means what is claimed of that
      pub refused : (n : ℕ) → x.end ≡ in_refusal n → OfEvaluation n ⊎ K.Means x.settings (history x) n
