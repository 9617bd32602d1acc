-- A machine that runs sessions: a call enters it, and it turns until it has an answer. A session is any list of calls, with what the host
-- sets between them.
use Rattle.std.specs.Prelude.{Bool, List, [], ◌∷◌, ℕ, zero, suc}
use Rattle.float64.specs.Pick.{pick}

-- what an entry or a turn does: it goes on, or halts with an answer
pub data Moved (State Answer : Type 0) : Type 0 where
  on : State → Moved State Answer
  halt : Answer → State → Moved State Answer

pub record Ran (State Answer : Type 0) : Type 0 where
  pub answer : Answer
  pub state : State

abbrev pub ran : {State Answer : Type 0} → Answer → State → Ran State Answer
ran a s = record { answer = a; state = s }

module _ {State Answer : Type 0} where
  unfoldable pub onward : Moved State Answer → (State → Ran State Answer) → Ran State Answer
  onward (on s) k = k s
  onward (halt a s) k = ran a s

  -- the labelled loop over the remaining requests: at most n turns, and the answer after that
  unfoldable pub loop : (State → Moved State Answer) → Answer → ℕ → State → Ran State Answer
  loop turn spent zero s = ran spent s
  loop turn spent (suc n) s = onward (turn s) (λ t. loop turn spent n t)

pub record Machine : Type 1 where
  -- all that a call takes and gives: the state by value, the tally and the lent words
  pub State : Type 0
  pub Answer : Type 0
  -- one request of a search
  pub turn : State → Moved State Answer
  -- how many requests a call may make, and the answer after that, which no session comes to
  pub fuel : ℕ
  pub spent : Answer
  -- new objective, reply, failure
  pub Call : Type 0
  pub enter : Call → State → Moved State Answer
  -- is a reply awaited?
  pub awaits : State → Bool
  -- what the host sets between objectives
  pub Host : Type 0
  pub write : Host → State → State

module _ (M : Machine) where
  abbrev pub Outcome : Type 0
  Outcome = Ran M.State M.Answer

  abbrev pub Move : Type 0
  Move = Moved M.State M.Answer

  abbrev pub requests : M.State → Outcome
  requests t = loop M.turn M.spent M.fuel t

  unfoldable pub call : M.Call → M.State → Outcome
  call c s = onward (M.enter c s) (λ t. requests t)

  pub data Act : Type 0 where
    calls : M.Call → Act
    sets : M.Host → Act

  -- the host sets nothing while a reply is awaited
  unfoldable pub set : M.Host → M.State → M.State
  set w s = pick (M.awaits s) s (M.write w s)

  -- a session: any list of calls, and of what the host sets between them
  unfoldable pub run : M.State → List Act → M.State
  run s [] = s
  run s (calls c ∷ acts) = run (call c s).state acts
  run s (sets w ∷ acts) = run (set w s) acts
