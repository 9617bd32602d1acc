-- A call's requests are never used up: its answer is that of its entry or of one of its turns, whatever would stand behind the last of them. For any machine that shows `Lawful`. Assumes nothing.
use mathlib.Core.Path.{◌≡◌, refl, sym, ap, subst, ◌∙◌}
use mathlib.Core.Bool.{Bool, true, false}
use mathlib.Core.List.{List, [], ◌∷◌, ◌++◌, append-nil}
use mathlib.Core.Logic.{◌⊎◌, inl, inr, ⊎_elim}
use Prim.Native.Nat.{ℕ, zero, suc, ◌<◌}
use native.Mathlib.Omega.{arith}
use lib.ListN.{length, length-append}
use Rattle.machine.specs.Lawful.{Turn, Enters, Lawful}
use Rattle.machine.specs.Lawful.Enters.{same, begins, replied, failed}
use Rattle.machine.specs.Lawful.Turn.{hit, short, wild, miss, next, barred, last, fails}
use Rattle.machine.specs.Log.{not_yet, Every, more, Searched, history, told, begun, read, searches, Ended, Waits}
use Rattle.machine.specs.Log.Event.{Ask, Got}
use Rattle.machine.specs.Machine.{Machine, Outcome, Move, requests, onward, loop, call, Act, calls, sets, set, run}
use Rattle.machine.specs.Observed.{goes_on, View, turn_log, enter_log, loop_log, call_log, log}
use Rattle.machine.specs.Rules.{Rules, Trial, points, Claims, Proved}
use Rattle.machine.proofs.Session.{points_more, read_append, demand3}
use Rattle.session_theorems.proofs.Always.{After, Says, after_turn, after_entry, run_keeps}

-- the newest search goes on, and each of its questions has an answer
module _ (R : Rules) where
  abbrev Goes : Searched R → Type 0
  Goes x = (x.end ≡ not_yet) × (x.asked ≡ length (history R x))

  Newest : List (Searched R) → Type 0
  Newest [] = ⊥
  Newest (x ∷ xs) = Goes x

  goes_got : (x : Searched R) (c : Trial R) → x.end ≡ not_yet → x.asked ≡ suc (length (history R x)) → Goes (told R x (Got c))
  goes_got x c e a = (e, a ∙ sym (ap length (points_more R x.trials c) ∙ simp length-append (omega arith)))

  -- then it neither has ended nor waits
  not_between : (xs : List (Searched R)) → Newest xs → (Every (Ended R) xs) ⊎ (Waits R xs) → ⊥
  unfolding Newest
  not_between [] n w = n
  not_between (x ∷ xs) n (inl (more f e)) = f n.0
  not_between (x ∷ xs) n (inr w) = let a = n.1 in let b = w.1 in omega (arith, a, b)

module _ (R : Rules) (K : Claims R) (P : Proved R K) (M : Machine) (Y : View R M) (Sound : M.State → Type 0) (W : Lawful R K M Y Sound)
    (inside : (s : M.State) → Sound s → Y.subject s < Y.subjects) (E : M.State → Type 0) (keeps : (s : M.State) → E s → After E (M.turn s)) (G : M.Answer → Type 0)
    (says : (s : M.State) → E s → Says G (M.turn s)) where
  module _ (k : M.State → Outcome M) (l : M.State → List _) (go : (t : M.State) (x : Searched R) (xs : List (Searched R)) → Sound t → E t → Goes R x → G (k t).answer ⊎ Newest R
      (read R (x ∷ xs) (l t)))
      (s : M.State) (x : Searched R) (xs : List (Searched R)) (g : Goes R x) where
    turned : {m : Move M} → Turn R K M Y Sound s m → After E m → Says G m → G (onward m k).answer ⊎ Newest R (read R (x ∷ xs) (turn_log R M Y s m ++ goes_on m l))
    unfolding After Says points read onward goes_on turn_log
    turned (hit {p} {t} e h a) i w = rw e (go t _ xs a.kept.sound i (goes_got R (told R x (Ask p)) _ g.0 (ap suc g.1)))
    turned (short e m n o) i w = inl w
    turned (wild e m n o) i w = inl w
    turned (miss e m q f t n) i w = inl w
    turned (next {t} e b) i w = rw e (go t _ _ b.sound i (refl, refl))
    turned (barred e m o) i w = inl w
    turned (last e m j o) i w = inl w
    turned (fails e m o) i w = inl w

  loops : (n : ℕ) (t : M.State) (x : Searched R) (xs : List (Searched R)) → Sound t → E t → Goes R x → G (loop M.turn M.spent n t).answer ⊎ Newest R (read R (x ∷ xs) (loop_log R M Y n t))
  unfolding loop loop_log read Newest
  loops zero t x xs so i g = inr g
  loops (suc n) t x xs so i g = turned (λ u. loop M.turn M.spent n u) (λ u. loop_log R M Y n u) (loops n) t x xs g (W.turns t so (inside t so)) (keeps t i) (says t i)

  replies : (c : Trial R) (t : M.State) (xs : List (Searched R)) → Waits R xs → Sound t → E t → G (requests M t).answer ⊎ Newest R (read R xs (Got c ∷ loop_log R M Y M.fuel t))
  unfolding read
  replies c t [] w so i = absurd w
  replies c t (x ∷ xs) w so i = loops M.fuel t _ xs so i (goes_got R x c w.0 w.1)

  -- ---- a call, after the searches xs
  module _ (c : M.Call) (s : M.State) (xs : List (Searched R)) (waits : M.awaits s ≡ true → Waits R xs) where
    entered : {m : Move M} → Enters R K M Y Sound c s m → After E m → Says G m → (Newest R (read R xs (enter_log R M Y c s m ++ goes_on m (λ t. loop_log R M Y M.fuel t))) → ⊥) → G
        (onward m (λ t. requests M t)).answer
    unfolding After Says points onward goes_on enter_log read
    entered (same e) i w never = w
    entered (begins {t} e b) i w never = ⊎_elim (λ g. g) (λ n. absurd (never (rw e n))) (loops M.fuel t (begun R (Y.subject t) (Y.settings t) (Y.evaluations t)) xs b.sound i (refl, refl))
    entered (replied {t} e h a) i w never = ⊎_elim (λ g. g) (λ n. absurd (never (rw e n))) (replies (Y.given c s) t xs (waits e) a.kept.sound i)
    entered (failed e m n o) i w never = w

  -- ---- one call more
  abbrev one_more : List (Act M) → M.Call → List (Act M)
  one_more acts c = acts ++ (calls c ∷ [])

  log_more : (acts : List (Act M)) (c : M.Call) (s : M.State) (xs : List (Searched R)) → read R xs (log R M Y s (one_more acts c)) ≡ read R (read R xs (log R M Y s acts))
      (call_log R M Y c (run M s acts))
  unfolding run log read
  log_more [] c s xs = ap (read R xs) (append-nil (call_log R M Y c s))
  log_more (calls d ∷ acts) c s xs =
      read_append R xs (call_log R M Y d s) _ ∙ log_more acts c (call M d s).state (read R xs (call_log R M Y d s))
      ∙ ap (λ (ys : List (Searched R)). read R ys (call_log R M Y c (run M (call M d s).state acts))) (sym (read_append R xs (call_log R M Y d s) _))
  log_more (sets w ∷ acts) c s xs = log_more acts c (set M w s) xs

  -- after a call every search has ended, or the newest waits
  between : (s : M.State) (xs : List (Searched R)) → (M.awaits s ≡ false → Every (Ended R) xs) → (M.awaits s ≡ true → Waits R xs) → (Every (Ended R) xs) ⊎ (Waits R xs)
  between s xs e w = by (M.awaits s) refl
    where
      by : (b : Bool) → M.awaits s ≡ b → (Every (Ended R) xs) ⊎ (Waits R xs)
      by true q = inr (w q)
      by false q = inl (e q)

  -- whatever is true of every answer of an entry or a turn is true of a call's
  pub answers : (s₀ : M.State) → Sound s₀ → M.awaits s₀ ≡ false → Y.evaluations s₀ ≡ 0 → (acts : List (Act M)) (c : M.Call) → After E (M.enter c (run M s₀ acts)) → Says G
      (M.enter c (run M s₀ acts)) → G (call M c (run M s₀ acts)).answer
  unfolding call call_log
  answers s₀ so idle none_yet acts c i w =
      let s = run M s₀ acts in
      let sound : Sound s = run_keeps M Sound (λ t h. after_turn R K M Y Sound t (W.turns t h (inside t h))) (λ d t h. after_entry R K M Y Sound d t h (W.enters d t h)) W.writes_sound acts s₀ so
      in
      let before = demand3 R K P M Y Sound W s₀ so idle none_yet acts in
      let after = demand3 R K P M Y Sound W s₀ so idle none_yet (one_more acts c) in
      let more = between (run M s₀ (one_more acts c)) _ after.idle after.waits in
      entered c s (searches R (log R M Y s₀ acts)) before.waits (W.enters c s sound) i w (λ n. not_between R _ (subst (Newest R) (sym (log_more acts c s₀ [])) n) more)
