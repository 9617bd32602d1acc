-- What a machine has to show of its turns and entries: the law of each way through. `Sound` is its own invariant.
use Rattle.std.specs.Prelude.{◌≡◌, true, false, ℕ, suc, ◌*◌, ◌≤◌, ◌<◌}
use Rattle.machine.specs.Log.{OfEvaluation}
use Rattle.machine.specs.Machine.{on, halt, Machine, Move}
use Rattle.machine.specs.Observed.{asked, finished, refused, View, wanted_at}
use Rattle.machine.specs.Rules.{Rules, point, mode, refusal, Claims}

module _ (R : Rules) (K : Claims R) (M : Machine) (Y : View R M) (Sound : M.State → Type 0) where
  -- the same search
  pub record Kept (s t : M.State) : Type 0 where
    pub sound : Sound t
    pub subject : Y.subject t ≡ Y.subject s
    pub settings : Y.settings t ≡ Y.settings s

  -- the same search, with one evaluation more
  pub record Advances (s : M.State) (c : R.Conditional) (t : M.State) : Type 0 where
    pub kept : Kept s t
    pub search : Y.search t ≡ R.advance (Y.settings s) (Y.search s) c
    pub tally : Y.evaluations t ≡ Y.evaluations s

  -- the objective is over
  pub record Over (n : ℕ) (t : M.State) : Type 0 where
    pub sound : Sound t
    pub idle : M.awaits t ≡ false
    pub tally : Y.evaluations t ≡ n

  -- a search begins
  pub record Begins (s : M.State) (i : ℕ) (t : M.State) : Type 0 where
    pub sound : Sound t
    pub domain : K.Domain (Y.settings t)
    pub subject : Y.subject t ≡ i
    pub within : i < Y.subjects
    pub search : Y.search t ≡ R.start
    pub tally : Y.evaluations t ≡ Y.evaluations s

  -- a turn: a kept evaluation; check 6; check 7; a question; then the mode with the next subject, with 16 to 18, with the end; then 13 to
  -- 15, or a round's 16
  pub data Turn (s : M.State) : Move M → Type 0 where
    hit : {p : R.Point} {t : M.State} → wanted_at R M Y s ≡ point p
        → R.Answers (R.request (Y.settings s) (Y.search s)) (Y.kept s p).point → Advances s (Y.kept s p).point t → Turn s (on t)
    short : {p : R.Point} {a : M.Answer} {t : M.State} {n : ℕ} → wanted_at R M Y s ≡ point p → Y.means a ≡ refused n
        → OfEvaluation n → Over (Y.evaluations s) t → Turn s (halt a t)
    wild : {p : R.Point} {a : M.Answer} {t : M.State} {n : ℕ} → wanted_at R M Y s ≡ point p → Y.means a ≡ refused n → OfEvaluation n
        → Over (suc (Y.evaluations s)) t → Turn s (halt a t)
    miss : {p : R.Point} {a : M.Answer} {t : M.State} → wanted_at R M Y s ≡ point p → Y.means a ≡ asked p → Kept s t
        → Y.search t ≡ Y.search s → M.awaits t ≡ true → Y.evaluations t ≡ suc (Y.evaluations s) → Turn s (halt a t)
    next : {t : M.State} → wanted_at R M Y s ≡ mode → Begins s (suc (Y.subject s)) t → Turn s (on t)
    barred : {a : M.Answer} {t : M.State} {n : ℕ} → wanted_at R M Y s ≡ mode → Y.means a ≡ refused n → Over (Y.evaluations s) t
        → Turn s (halt a t)
    last : {a : M.Answer} {t : M.State} → wanted_at R M Y s ≡ mode → Y.means a ≡ finished → suc (Y.subject s) ≡ Y.subjects
        → Over (Y.evaluations s) t → Turn s (halt a t)
    fails : {a : M.Answer} {t : M.State} {n : ℕ} → wanted_at R M Y s ≡ refusal n → Y.means a ≡ refused n → Over (Y.evaluations s) t
        → Turn s (halt a t)

  -- an entry: 19 and 1 to 5, which give back the same state; a new objective; a reply; 8 to 12
  pub data Enters (c : M.Call) (s : M.State) : Move M → Type 0 where
    same : {a : M.Answer} {n : ℕ} → Y.means a ≡ refused n → Enters c s (halt a s)
    begins : {t : M.State} → M.awaits s ≡ false → Begins s 0 t → Enters c s (on t)
    replied : {t : M.State} → M.awaits s ≡ true → R.Answers (R.request (Y.settings s) (Y.search s)) (Y.given c s).point
        → Advances s (Y.given c s).point t → Enters c s (on t)
    failed : {a : M.Answer} {t : M.State} {n : ℕ} → M.awaits s ≡ true → Y.means a ≡ refused n → OfEvaluation n
        → Over (Y.evaluations s) t → Enters c s (halt a t)

  pub record Lawful : Type 0 where
    pub turns : (s : M.State) → Sound s → Y.subject s < Y.subjects → Turn s (M.turn s)
    pub enters : (c : M.Call) (s : M.State) → Sound s → Enters c s (M.enter c s)
    -- the requests that a call may make are enough for all the subjects
    pub enough : Y.subjects * suc K.ceiling ≤ M.fuel
    pub limited : (s : M.State) → Sound s → Y.evaluations s ≤ Y.limit
    pub writes_sound : (w : M.Host) (s : M.State) → Sound s → Sound (M.write w s)
    pub writes_awaits : (w : M.Host) (s : M.State) → M.awaits (M.write w s) ≡ M.awaits s
    pub writes_tally : (w : M.Host) (s : M.State) → Y.evaluations (M.write w s) ≡ Y.evaluations s
