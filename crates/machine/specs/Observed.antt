-- How a machine's states are read as searches, and what an observer of a session logs.
use Rattle.std.specs.Prelude.{Bool, true, false, List, [], ◌∷◌, ◌++◌, ℕ, zero, suc, ltb}
use Rattle.float64.specs.Pick.{pick}
use Rattle.machine.specs.Log.{Entry}
use Rattle.machine.specs.Log.Event.{Began, Ask, Count, Got, Mode, Refused}
use Rattle.machine.specs.Machine.{Moved, on, halt, Machine, Move, call, Act, calls, sets, set}
use Rattle.machine.specs.Rules.{Rules, Trial, Wanted, point, mode, refusal, wanted}

-- what an answer says
pub data Meaning (Point : Type 0) : Type 0 where
  asked : Point → Meaning Point
  finished : Meaning Point
  refused : ℕ → Meaning Point

unfoldable pub goes_on : {State Answer E : Type 0} → Moved State Answer → (State → List E) → List E
goes_on (on s) k = k s
goes_on (halt a s) k = []

module _ (R : Rules) (M : Machine) where
  -- how a state is read as a search of these rules
  pub record View : Type 1 where
    pub means : M.Answer → Meaning R.Point
    pub subjects : ℕ
    pub subject : M.State → ℕ
    pub settings : M.State → R.Settings
    pub search : M.State → R.Search
    -- the tally's, and its limit
    pub evaluations : M.State → ℕ
    pub limit : ℕ
    -- the kept evaluation at a point, and that of a reply: looked at only where the search goes on with it
    pub kept : M.State → R.Point → Trial R
    pub given : M.Call → M.State → Trial R

  module _ (Y : View) where
    abbrev pub wanted_at : M.State → Wanted R.Point
    wanted_at s = wanted R (Y.settings s) (Y.search s)

    -- a count, where the tally rose
    abbrev pub raise : ℕ → ℕ → List (Entry R)
    raise m n = pick (ltb m n) (Count n ∷ []) []

    abbrev pub begin : M.State → Entry R
    begin t = Began (Y.subject t) (Y.settings t) (Y.evaluations t)

    abbrev pub ending : Meaning R.Point → List (Entry R)
    ending (asked p) = []
    ending finished = []
    ending (refused n) = Refused n ∷ []

    -- a turn, by what the search wanted
    abbrev pub entries : Wanted R.Point → M.State → Move M → List (Entry R)
    entries (point p) s (on t) = Ask p ∷ Got (Y.kept s p) ∷ []
    entries (point p) s (halt a t) = Ask p ∷ (raise (Y.evaluations s) (Y.evaluations t) ++ ending (Y.means a))
    entries mode s (on t) = Mode (R.best (Y.search s)) ∷ begin t ∷ []
    entries mode s (halt a t) = Mode (R.best (Y.search s)) ∷ ending (Y.means a)
    entries (refusal n) s (on t) = Refused n ∷ []
    entries (refusal n) s (halt a t) = Refused n ∷ []

    unfoldable pub turn_log : M.State → Move M → List (Entry R)
    turn_log s m = entries (wanted_at s) s m

    -- an entry: a reply if one was awaited, else a new objective; a refusal that leaves a reply awaited is not logged
    abbrev pub entry : Bool → M.Call → M.State → Move M → List (Entry R)
    entry true c s (on t) = Got (Y.given c s) ∷ []
    entry false c s (on t) = begin t ∷ []
    entry true c s (halt a t) = pick (M.awaits t) [] (ending (Y.means a))
    entry false c s (halt a t) = []

    unfoldable pub enter_log : M.Call → M.State → Move M → List (Entry R)
    enter_log c s m = entry (M.awaits s) c s m

    unfoldable pub loop_log : ℕ → M.State → List (Entry R)
    loop_log zero s = []
    loop_log (suc n) s = turn_log s (M.turn s) ++ goes_on (M.turn s) (λ t. loop_log n t)

    unfoldable pub call_log : M.Call → M.State → List (Entry R)
    call_log c s = enter_log c s (M.enter c s) ++ goes_on (M.enter c s) (λ t. loop_log M.fuel t)

    unfoldable pub log : M.State → List (Act M) → List (Entry R)
    log s [] = []
    log s (calls c ∷ acts) = call_log c s ++ log (call M c s).state acts
    log s (sets w ∷ acts) = log (set M w s) acts
