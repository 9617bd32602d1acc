-- What a machine's turns, entries and settings keep holds wherever a session of it stands. Assumes nothing.
use mathlib.Core.List.{List, [], ◌∷◌}
use Prim.Native.Nat.{ℕ, zero, suc}
use Rattle.float64.specs.Pick.{both}
use Rattle.machine.specs.Lawful.{Turn, Enters}
use Rattle.machine.specs.Lawful.Enters.{same, begins, replied, failed}
use Rattle.machine.specs.Lawful.Turn.{hit, short, wild, miss, next, barred, last, fails}
use Rattle.machine.specs.Machine.{Moved, on, halt, Ran, onward, loop, Machine, Move, call, Act, calls, sets, set, run}
use Rattle.machine.specs.Observed.{View}
use Rattle.machine.specs.Rules.{Rules, Claims}

-- where an entry or a turn leaves the machine
unfoldable pub After : {State Answer : Type 0} → (State → Type 0) → Moved State Answer → Type 0
After P (on s) = P s
After P (halt a s) = P s

-- what it answers, where it halts
unfoldable pub Says : {State Answer : Type 0} → (Answer → Type 0) → Moved State Answer → Type 0
Says G (on s) = Unit
Says G (halt a s) = G a

pub after_both : {State Answer : Type 0} (P Q : State → Type 0) (m : Moved State Answer) → After P m → After Q m → After (λ (s : State). P s × Q s) m
unfolding After
after_both P Q (on s) p q = (p, q)
after_both P Q (halt a s) p q = (p, q)

-- ---- what is lawful is sound afterwards
module _ (R : Rules) (K : Claims R) (M : Machine) (Y : View R M) (Sound : M.State → Type 0) where
  pub after_turn : (s : M.State) {m : Move M} → Turn R K M Y Sound s m → After Sound m
  unfolding After
  after_turn s (hit e r v) = v.kept.sound
  after_turn s (short e m n o) = o.sound
  after_turn s (wild e m n o) = o.sound
  after_turn s (miss e m q f t n) = q.sound
  after_turn s (next e b) = b.sound
  after_turn s (barred e m o) = o.sound
  after_turn s (last e m j o) = o.sound
  after_turn s (fails e m o) = o.sound

  pub after_entry : (c : M.Call) (s : M.State) {m : Move M} → Sound s → Enters R K M Y Sound c s m → After Sound m
  unfolding After
  after_entry c s h (same e) = h
  after_entry c s h (begins i b) = b.sound
  after_entry c s h (replied t r v) = v.kept.sound
  after_entry c s h (failed t e n o) = o.sound

-- ---- a call, a session
pub onward_keeps : {State Answer : Type 0} (P : State → Type 0) (m : Moved State Answer) (k : State → Ran State Answer) → After P m → ((s : State) → P s → P (k s).state) → P (onward m k).state
unfolding After onward
onward_keeps P (on s) k p f = f s p
onward_keeps P (halt a s) k p f = p

pub loop_keeps : {State Answer : Type 0} (P : State → Type 0) (turn : State → Moved State Answer) (spent : Answer) → ((s : State) → P s → After P (turn s)) → (n : ℕ) (s : State) → P s → P
    (loop turn spent n s).state
unfolding loop
loop_keeps P turn spent keeps zero s p = p
loop_keeps P turn spent keeps (suc n) s p = onward_keeps P (turn s) _ (keeps s p) (loop_keeps P turn spent keeps n)

module _ (M : Machine) (P : M.State → Type 0) (turns : (s : M.State) → P s → After P (M.turn s)) (enters : (c : M.Call) (s : M.State) → P s → After P (M.enter c s))
    (writes : (w : M.Host) (s : M.State) → P s → P (M.write w s)) where
  call_keeps : (c : M.Call) (s : M.State) → P s → P (call M c s).state
  unfolding call
  call_keeps c s p = onward_keeps P (M.enter c s) _ (enters c s p) (loop_keeps P M.turn M.spent turns M.fuel)

  set_keeps : (w : M.Host) (s : M.State) → P s → P (set M w s)
  unfolding set
  set_keeps w s p = both P (M.awaits s) p (writes w s p)

  pub run_keeps : (acts : List (Act M)) (s : M.State) → P s → P (run M s acts)
  unfolding run
  run_keeps [] s p = p
  run_keeps (calls c ∷ acts) s p = run_keeps acts _ (call_keeps c s p)
  run_keeps (sets w ∷ acts) s p = run_keeps acts _ (set_keeps w s p)
