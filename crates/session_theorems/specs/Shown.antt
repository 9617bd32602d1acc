-- What the lent words show of the log, in every session: a search's settings are those of the call that began its objective, with the warm
-- start that the words held then; a mode stands in the warm starts and in the results, with the predictions of its own trial and of the one
-- at eta zero; the objective is the sum over the modes, and shrinkage is of the sum of their squares.
use Rattle.std.specs.Prelude.{◌≡◌, true, ◌⊎◌, ℕ, zero, suc, ◌+◌, ◌*◌, ◌<◌, T, pos, length, get_or, Float}
use mathlib.Core.List.{List, [], ◌∷◌, ◌++◌, Memᴰ}
use Rattle.std.specs.Float.{binary64}
use Rattle.std.specs.Float.Ieee.{to_bits, of_int, eq, le}
use Rattle.float64.specs.Arithmetic.{◌+ᶠ◌, ◌-ᶠ◌, ◌*ᶠ◌, ◌/ᶠ◌, word, one, two}
use Rattle.float64.specs.Float64.{clamp, nonfinite}
use Rattle.float64.specs.Pick.{pick}
use Rattle.libm.specs.Log.{log as ln}
use Rattle.matrix.specs.Matrix.{pair, matrix_of, determinant, Inverse, some, none, inverse_positive}
use Rattle.likelihood.specs.Terms.{log2pi}
use Rattle.likelihood.specs.declared.population_focei.Observation.{Observation}
use Rattle.cache.specs.Cache.{row_words}
use Rattle.mode_theorems.specs.Terms2.{IsFlat}
use Rattle.setup.specs.declared.Setup.{Setup}
use Rattle.setup.specs.declared.Parameters.{Parameters}
use Rattle.setup.specs.declared.Lent.{Lent}
use Rattle.search.specs.declared.Step.{Step}
use Rattle.search.specs.declared.Step.TheVariants as Answer
use Rattle.machine.specs.Log.{Entry, Every, Searched, in_mode, searches}
use Rattle.machine.specs.Log.Event.{Began, Ask, Count, Got, Mode, Refused}
use Rattle.machine.specs.Machine.{Machine, Outcome, call, Act, calls, sets, set, run}
use Rattle.machine.specs.Observed.{Meaning, asked, finished, refused, View, call_log, log}
use Rattle.machine.specs.Rules.{Rules, Trial}
use Rattle.population.specs.Kept.{words}
use Rattle.session.specs.Calls.{state_of, shrinkage}
use Rattle.session.specs.Session.{Held, Call, objective, reply, failure, opened, session}
use Rattle.session.specs.declared.State.{State}
use Rattle.session_theorems.specs.Inner.{Inner, inner1, inner2, view}
use Rattle.session_theorems.specs.Setup.{Granted}
use Rattle.work.specs.Work.{result_words, fitted_words}

-- ---- of any machine

module _ (R : Rules) (M : Machine) (Y : View R M) where
  -- how the lent words are read
  pub record Words : Type 1 where
    -- the settings of a subject's search, by the call that began the objective and the state that it found
    pub Settles : M.Call → M.State → ℕ → R.Settings → Type 0
    -- the state is of the objective that this call began
    pub Runs : M.Call → M.State → Type 0
    -- the objective: before the first subject
    pub Value : Type 0
    pub nothing : Value
    -- a search's mode stands in the words; and what a refusal with this number means and leaves of it there, where the objective with this
    -- mode would be that
    pub Stands : Searched R → R.Conditional → M.State → Type 0
    pub Remains : ℕ → Searched R → R.Conditional → Value → M.State → Type 0
    -- the objective with one mode more, and the answer and the state that give it
    pub with_mode : Searched R → R.Conditional → Value → Value
    pub Gives : M.Answer → M.State → Value → Type 0

  -- an objective: the call that begins it, and the state that this found
  pub record Objective : Type 0 where
    pub call : M.Call
    pub state : M.State

  -- the one under way: of the calls that found no reply awaited, the latest
  abbrev pub newer : Objective → M.Call → M.State → Objective
  newer o c s = pick (M.awaits s) o (record { call = c; state = s })

  unfoldable pub under_way : Objective → M.State → List (Act M) → Objective
  under_way o s [] = o
  under_way o s (calls c ∷ acts) = under_way (newer o c s) (call M c s).state acts
  under_way o s (sets w ∷ acts) = under_way o (set M w s) acts

  -- a refusal that alters nothing, and logs nothing
  pub record Unaltered (s : M.State) (r : Outcome M) (l : List (Entry R)) : Type 0 where
    pub number : ℕ
    pub means : Y.means r.answer ≡ refused number
    pub same : r.state ≡ s
    pub silent : l ≡ []

  module _ (W : Words) where
    abbrev pub Settled : Objective → Entry R → Type 0
    Settled o (Began i st n) = W.Settles o.call o.state i st
    Settled o (Ask p) = Unit
    Settled o (Count n) = Unit
    Settled o (Got t) = Unit
    Settled o (Mode m) = Unit
    Settled o (Refused n) = Unit

    -- the latest n searches are those of the subjects 0 to n - 1, each with its mode, and this stands in the words
    unfoldable pub Stood : M.State → ℕ → List (Searched R) → Type 0
    Stood t zero xs = Unit {0}
    Stood t (suc n) [] = ⊥
    Stood t (suc n) (x ∷ xs) = (x.subject ≡ n) × ((m : R.Conditional) × (x.end ≡ in_mode m) × W.Stands x m t) × Stood t n xs

    -- the sum over the modes of the latest n searches, in the order of the subjects
    unfoldable pub Adds : ℕ → List (Searched R) → W.Value → Type 0
    Adds zero xs v = v ≡ W.nothing
    Adds (suc n) [] v = ⊥
    Adds (suc n) (x ∷ xs) v = (m : R.Conditional) × (x.end ≡ in_mode m) × ((u : W.Value) × Adds n xs u × (v ≡ W.with_mode x m u))

    -- what an answer leaves: after the last subject, all modes, and the answer gives their sum; else the modes of the subjects before the
    -- newest search's, and what a refusal leaves of its own
    abbrev pub Left : M.Answer → Meaning R.Point → M.State → List (Searched R) → Type 0
    Left a finished t xs = Stood t Y.subjects xs × ((v : W.Value) × W.Gives a t v × Adds Y.subjects xs v)
    Left a (asked p) t [] = ⊥
    Left a (asked p) t (x ∷ xs) = Stood t x.subject xs
    Left a (refused n) t [] = ⊥
    Left a (refused n) t (x ∷ xs) =
        Stood t x.subject xs
        × ((m : R.Conditional) → x.end ≡ in_mode m → (v : W.Value) × Adds (suc x.subject) (x ∷ xs) v × W.Remains n x m v t)

    -- one call more, after any list of calls; `o` stands for the one under way before the first of them, and does not matter
    pub record Shown (o : Objective) (s₀ : M.State) (acts : List (Act M)) : Type 0 where
      -- each search that it begins has the settings of its objective
      pub settles : (c : M.Call) → Every (Settled (newer (under_way o s₀ acts) c (run M s₀ acts))) (call_log R M Y c (run M s₀ acts))
      -- while a reply is awaited, the state is of the objective under way
      pub runs : M.awaits (run M s₀ acts) ≡ true → W.Runs (under_way o s₀ acts).call (run M s₀ acts)
      -- a call is refused and alters nothing, or it leaves the modes in the words
      pub leaves : (c : M.Call) → let r = call M c (run M s₀ acts) in
          let l = call_log R M Y c (run M s₀ acts) in
          Unaltered (run M s₀ acts) r l ⊎ Left r.answer (Y.means r.answer) r.state (searches R (log R M Y s₀ acts ++ l))

-- ---- of a session, with one effect and with two

-- the n-th of a list, the first being number 0
unfoldable pub Nth : {A : Type 0} → ℕ → List A → A → Type 0
Nth n [] x = ⊥
Nth zero (y ∷ ys) x = y ≡ x
Nth (suc n) (y ∷ ys) x = Nth n ys x

-- the observations of the subjects before one
unfoldable pub before : List ℕ → ℕ → ℕ
before counts zero = 0
before counts (suc i) = before counts i + get_or counts i 0

-- what is summed over the modes: the objective, and the squares of eta, of which shrinkage is made
pub record Summed : Type 0 where
  pub objective : Float
  pub squares : Float

-- what a host reads
pub record Reads (I : Inner) : Type 1 where
  -- the settings of a subject's search: of the setup, of its objective's parameters, and its warm start in the warm words
  pub settings : Setup → Parameters → List ℕ → ℕ → I.rules.Settings
  -- a mode's words: eta, second eta, nll
  pub first : I.rules.Conditional → ℕ
  pub second : I.rules.Conditional → ℕ
  pub nll : I.rules.Conditional → ℕ
  -- and that it stands in the warm words
  pub Warm : ℕ → I.rules.Conditional → List ℕ → Type 0
  -- the place among a search's trials of the one at eta zero, and that it is there
  pub zero_at : ℕ
  pub Zero : I.rules.Conditional → Type 0
  -- 16: the curvature at it is not positive
  pub Flat : I.rules.Settings → I.rules.Conditional → Type 0
  -- what a mode adds to the objective, of a subject with n observations
  pub term : Setup → I.rules.Settings → ℕ → I.rules.Conditional → Float
  -- the square of its eta; and what a state tells of n subjects' sum of them
  pub square : I.rules.Conditional → Float
  pub Shrinks : State → ℕ → Float → Type 0

abbrev pub reads1 : Reads inner1
reads1 = record {
  settings = λ setup parameters warm i. record {
    eta_bound = setup.eta_bound;
    omega = parameters.omega;
    -- gradient_tolerance · 1e-4, clamped to 1e-12..1e-8
    tolerance =
        clamp (setup.gradient_tolerance *ᶠ word 0x3f1a_36e2_eb1c_432d) (word 0x3d71_9799_812d_ea11) (word 0x3e45_798e_e230_8c3a);
    warm = word (get_or warm i 0);
  };
  first = λ m. to_bits binary64 m.eta;
  second = λ m. 0;
  nll = λ m. to_bits binary64 m.nll;
  Warm = λ i m warm. get_or warm i 0 ≡ to_bits binary64 m.eta;
  -- the ninth point of the grid
  zero_at = 8;
  Zero = λ c. c.eta ≡ word 0;
  -- 1 / omega + information is not finite, or at most 0
  Flat = λ s m. let curvature = one /ᶠ s.omega +ᶠ m.information in T (nonfinite curvature) ⊎ T (le curvature (word 0));
  -- 2 nll - n log 2π + eta² / omega + log (omega (1 / omega + information))
  term = λ setup s n m.
      two *ᶠ m.nll -ᶠ of_int binary64 (pos n) *ᶠ log2pi +ᶠ m.eta *ᶠ m.eta /ᶠ s.omega
      +ᶠ ln (s.omega *ᶠ (one /ᶠ s.omega +ᶠ m.information));
  square = λ m. m.eta *ᶠ m.eta;
  -- document 01's shrinkage: 1 - ((sum of eta²) / n) / omega
  Shrinks = λ state n squares. shrinkage state n ≡ one -ᶠ squares /ᶠ of_int binary64 (pos n) /ᶠ state.parameters.omega;
}

abbrev pub omega_of : Setup → List (List Float)
omega_of setup = pair (pair setup.omega00 setup.omega01) (pair setup.omega10 setup.omega11)

-- the inverse of the setup's omega, which check 2 has found to exist
abbrev pub precision : Inverse → List (List Float)
precision (some m det) = m
precision none = pair (pair (word 0) (word 0)) (pair (word 0) (word 0))

abbrev pub precision_of : Setup → List (List Float)
precision_of setup = precision (inverse_positive (omega_of setup))

abbrev pub reads2 : Reads inner2
reads2 = record {
  settings = λ setup parameters warm i. record {
    eta_bound = setup.eta_bound;
    precision = matrix_of (precision_of setup);
    warm = record { first = word (get_or warm (2 * i) 0); second = word (get_or warm (2 * i + 1) 0) };
  };
  first = λ m. to_bits binary64 m.eta.first;
  second = λ m. to_bits binary64 m.eta.second;
  nll = λ m. to_bits binary64 m.nll;
  Warm = λ i m warm.
      (get_or warm (2 * i) 0 ≡ to_bits binary64 m.eta.first) × (get_or warm (2 * i + 1) 0 ≡ to_bits binary64 m.eta.second);
  -- the first point
  zero_at = 0;
  Zero = λ c. c.eta ≡ record { first = word 0; second = word 0 };
  -- precision + information has no inverse
  Flat = IsFlat;
  -- 2 nll - n log 2π + eta · (precision eta) + log (det omega · det (precision + information))
  term = λ setup s n m.
      let x = m.eta.first in
      let y = m.eta.second in
      let p = s.precision in
      let i = m.information in
      let quadratic = x *ᶠ (p.m00 *ᶠ x +ᶠ p.m01 *ᶠ y) +ᶠ y *ᶠ (p.m10 *ᶠ x +ᶠ p.m11 *ᶠ y) in
      let det = (p.m00 +ᶠ i.m00) *ᶠ (p.m11 +ᶠ i.m11) -ᶠ (p.m01 +ᶠ i.m01) *ᶠ (p.m10 +ᶠ i.m10) in
      two *ᶠ m.nll -ᶠ of_int binary64 (pos n) *ᶠ log2pi +ᶠ quadratic +ᶠ ln (determinant (omega_of setup) *ᶠ det);
  -- there is no shrinkage with two effects
  square = λ m. m.eta.first *ᶠ m.eta.first;
  Shrinks = λ state n squares. Unit;
}

module _ (setup : Setup) (counts : List ℕ) (observations : List Observation) (I : Inner) (L : Reads I) where
  -- by the objective's own parameters, and the subject's warm start; only an objective begins searches
  abbrev pub SettledBy : Call → Held words → ℕ → I.rules.Settings → Type 0
  SettledBy (objective parameters) h i st = st ≡ L.settings setup parameters h.whole.warm i
  SettledBy (reply said) h i st = ⊥
  SettledBy failure h i st = ⊥

  -- and by these the points are asked and the replies evaluated
  abbrev pub RunBy : Call → Held words → Type 0
  RunBy (objective parameters) h = h.parameters ≡ parameters
  RunBy (reply said) h = ⊥
  RunBy failure h = ⊥

  -- three words of the results for each subject
  pub record Result (i : ℕ) (m : I.rules.Conditional) (results : List ℕ) : Type 0 where
    pub first : get_or results (result_words * i) 0 ≡ L.first m
    pub second : get_or results (result_words * i + 1) 0 ≡ L.second m
    pub nll : get_or results (result_words * i + 2) 0 ≡ L.nll m

  -- the trial at eta zero, and the one that became the mode
  pub record Trials (x : Searched I.rules) (m : I.rules.Conditional) : Type 0 where
    pub zero : Trial I.rules
    pub mode : Trial I.rules
    pub at_zero : Nth L.zero_at x.trials zero
    pub is_zero : L.Zero zero.point
    pub tried : Memᴰ mode x.trials
    pub is : mode.point ≡ m

  abbrev pub prediction : Trial I.rules → ℕ → ℕ
  prediction t k = get_or t.rows (row_words * k) 0

  -- times as floats, and sides
  abbrev pub SameRow : Trial I.rules → Trial I.rules → ℕ → Type 0
  SameRow t u k =
      T (eq (word (get_or t.rows (row_words * k + 1) 0)) (word (get_or u.rows (row_words * k + 1) 0)))
      × (get_or t.rows (row_words * k + 2) 0 ≡ get_or u.rows (row_words * k + 2) 0)

  -- of each observation of the subject: after the three words of all subjects, two for each observation before
  abbrev pub SameRows : (x : Searched I.rules) (m : I.rules.Conditional) → Trials x m → Type 0
  SameRows x m b = (k : ℕ) → k < get_or counts x.subject 0 → SameRow b.zero b.mode k

  pub record Fitted (x : Searched I.rules) (m : I.rules.Conditional) (b : Trials x m) (results : List ℕ) : Type 0 where
    pub population : (k : ℕ) → k < get_or counts x.subject 0
        → get_or results (result_words * length counts + fitted_words * (before counts x.subject + k)) 0 ≡ prediction b.zero k
    pub individual : (k : ℕ) → k < get_or counts x.subject 0
        → get_or results (result_words * length counts + fitted_words * (before counts x.subject + k) + 1) 0 ≡ prediction b.mode k

  -- past 17: the warm start, the result, the predictions at eta zero and at the mode, whose times and sides are the same
  pub record InWords (x : Searched I.rules) (m : I.rules.Conditional) (h : Held words) : Type 0 where
    pub warm : L.Warm x.subject m h.whole.warm
    pub result : Result x.subject m h.whole.results
    pub both : Trials x m
    pub same : SameRows x m both
    pub fitted : Fitted x m both h.whole.results

  -- 17: only the warm start is there, and some time or side is another
  pub record Apart (x : Searched I.rules) (m : I.rules.Conditional) (h : Held words) : Type 0 where
    pub warm : L.Warm x.subject m h.whole.warm
    pub both : Trials x m
    pub other : SameRows x m both → ⊥

  abbrev pub GivenBy : Step → Held words → Summed → Type 0
  GivenBy (Answer.Asked eta individual) h v = ⊥
  GivenBy (Answer.Finished ofv) h v = (ofv ≡ v.objective) × L.Shrinks (state_of h) (length counts) v.squares
  GivenBy (Answer.Refused why) h v = ⊥

  -- 16 is of the curvature, and leaves no mode; 17 is of the rows, and leaves the warm start; 18 is of the objective, and leaves all of it
  abbrev pub showing : Words I.rules (session words setup counts observations) (view words setup counts observations I)
  showing = record {
    Settles = SettledBy;
    Runs = RunBy;
    Stands = InWords;
    Remains = λ n x m v h.
        ((n ≡ 16) × L.Flat x.settings m) ⊎ (((n ≡ 17) × Apart x m h) ⊎ ((n ≡ 18) × InWords x m h × T (nonfinite v.objective)));
    Value = Summed;
    nothing = record { objective = word 0; squares = word 0 };
    with_mode = λ x m v. record {
      objective = v.objective +ᶠ L.term setup x.settings (get_or counts x.subject 0) m;
      squares = v.squares +ᶠ L.square m;
    };
    Gives = GivenBy;
  }

  abbrev pub Shows : Type 0
  Shows = (lent : Lent) (results : List ℕ) → Granted setup counts observations lent results
      → (o : Objective I.rules (session words setup counts observations) (view words setup counts observations I))
      → (acts : List (Act (session words setup counts observations)))
      → Shown I.rules (session words setup counts observations) (view words setup counts observations I) showing o
      (opened words setup counts lent results) acts

abbrev pub EveryWord : Type 0
EveryWord = (setup : Setup) (counts : List ℕ) (observations : List Observation)
    → (setup.effects ≡ 1 → Shows setup counts observations inner1 reads1)
    × (setup.effects ≡ 2 → Shows setup counts observations inner2 reads2)
