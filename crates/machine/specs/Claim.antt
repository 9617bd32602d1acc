-- Demand 3: what is claimed of a session, of the whole list of its calls, whatever it is.
use Rattle.std.specs.Prelude.{◌≡◌, true, false, List, [], ◌∷◌, ◌++◌, ◌≤◌}
use Rattle.machine.specs.Log.{Entry, Every, searches, counts, Through, Chain, Ended, Waits, Holds}
use Rattle.machine.specs.Log.Event.{Ask, Count}
use Rattle.machine.specs.Machine.{Machine, call, Act, run}
use Rattle.machine.specs.Observed.{asked, finished, View, call_log, log}
use Rattle.machine.specs.Rules.{Rules, Claims}

module _ (R : Rules) (K : Claims R) (M : Machine) (Y : View R M) where
  pub record Demand3 (s₀ : M.State) (acts : List (Act M)) : Type 0 where
    -- every search in the log, whether it ends in a mode, in a refusal or not at all
    pub each : Every (Holds R K) (searches R (log R M Y s₀ acts))
    -- the tally is what these searches raised it to, one after the other; the log counts as many evaluations; and it is never above its
    -- limit
    pub chain : Chain R (Y.evaluations (run M s₀ acts)) (searches R (log R M Y s₀ acts))
    pub tally : Y.evaluations (run M s₀ acts) ≡ counts R (log R M Y s₀ acts)
    pub limited : Y.evaluations (run M s₀ acts) ≤ Y.limit
    -- between two calls: if no reply is awaited every search has ended; else all but the newest, and that one waits for what it asked
    pub idle : M.awaits (run M s₀ acts) ≡ false → Every (Ended R) (searches R (log R M Y s₀ acts))
    pub waits : M.awaits (run M s₀ acts) ≡ true → Waits R (searches R (log R M Y s₀ acts))
    -- one call more that asks: the log ends in that question
    pub asks : (c : M.Call) (p : R.Point) → let r = call M c (run M s₀ acts) in
        Y.means r.answer ≡ asked p
        → (es : List (Entry R)) × (call_log R M Y c (run M s₀ acts) ≡ es ++ (Ask p ∷ Count (Y.evaluations r.state) ∷ []))
    -- one call more that finishes: the latest searches are those of all the subjects in order, each with its mode
    pub finishes : (c : M.Call) → let r = call M c (run M s₀ acts) in
        Y.means r.answer ≡ finished → Through R Y.subjects (searches R (log R M Y s₀ acts ++ call_log R M Y c (run M s₀ acts)))
