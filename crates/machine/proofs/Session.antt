-- Demand 3 over any rules and any machine that shows `Lawful`: `demand3`, one theorem over every list of a session's calls. Assumes nothing.
use mathlib.Core.Path.{◌≡◌, refl, sym, ap, ap₂, subst, ◌∙◌}
use mathlib.Core.Logic.{◌⊎◌, inl, inr, ⊎_elim}
use mathlib.Core.List.{List, [], ◌∷◌, ◌++◌, append_assoc}
use mathlib.Core.Bool.{Bool, true, false}
use Prim.Native.Nat.{ℕ, zero, suc, ◌+◌, ◌-◌, ◌*◌, ◌≤◌, ◌<◌}
use native.Mathlib.Nat.{suc-mul, mul-le-mul_right, le_trans}
use native.Mathlib.Omega.{arith}
use lib.ListN.{length}
use borrow.Author.Tests.{lt-ltb, le-ltb}
use Rattle.float64.specs.Pick.{pick, yes, no, cases}
use Rattle.mode_theorems.specs.Histories.{led_from, Answered}
use Rattle.machine.specs.Claim.{Demand3}
use Rattle.machine.specs.Lawful.{Kept, Advances, Over, Begins, Turn, Enters, Lawful}
use Rattle.machine.specs.Lawful.Enters.{same, begins, replied, failed}
use Rattle.machine.specs.Lawful.Turn.{hit, short, wild, miss, next, barred, last, fails}
use Rattle.machine.specs.Log.{Entry, End, not_yet, in_mode, in_refusal, stop, Every, none, more, Searched, history, OfEvaluation, told, begun, latest, note, read, counts, Through}
use Rattle.machine.specs.Log.{Chain, Ended, Waits, Holds}
use Rattle.machine.specs.Log.Event.{Began, Ask, Count, Got, Mode, Refused}
use Rattle.machine.specs.Machine.{halt, Machine, Outcome, Move, requests, onward, loop, call, Act, calls, sets, set, run}
use Rattle.machine.specs.Observed.{asked, finished, refused, goes_on, View, wanted_at, raise, turn_log, enter_log, loop_log, call_log, log}
use Rattle.machine.specs.Rules.{Rules, Trial, points, Wanted, point, mode, refusal, after, wanted, Follows, Claims, Proved}

-- ---- a history with one evaluation more
module _ {X C Q : Type 0} (Answers : Q → C → Type 0) (request : X → Q) (advance : X → C → X) where
  led_more : (x : X) (h : List C) (c : C) → led_from advance x (h ++ (c ∷ [])) ≡ advance (led_from advance x h) c
  unfolding led_from
  led_more x [] c = refl
  led_more x (d ∷ h) c = led_more (advance x d) h c

  answered_more : (x : X) (h : List C) (c : C) → Answered Answers request advance x h → Answers (request (led_from advance x h)) c → Answered Answers request advance x (h ++ (c ∷ []))
  unfolding led_from Answered
  answered_more x [] c f a = (a, tt)
  answered_more x (d ∷ h) c f a = (f.0, answered_more (advance x d) h c f.1 a)

length_more : {C : Type 0} (h : List C) (c : C) → length (h ++ (c ∷ [])) ≡ suc (length h)
length_more [] c = refl
length_more (d ∷ h) c = ap suc (length_more h c)

pub points_more : (R : Rules) (ts : List (Trial R)) (t : Trial R) → points R (ts ++ (t ∷ [])) ≡ points R ts ++ (t.point ∷ [])
unfolding points
points_more R [] t = refl
points_more R (u ∷ ts) t = ap (λ (h : List R.Conditional). u.point ∷ h) (points_more R ts t)

-- ---- reading a log in two parts
module _ (R : Rules) where
  pub read_append : (xs : List (Searched R)) (es fs : List (Entry R)) → read R xs (es ++ fs) ≡ read R (read R xs es) fs
  unfolding read
  read_append xs [] fs = refl
  read_append xs (e ∷ es) fs = read_append (note R xs e) es fs

  counts_append : (es fs : List (Entry R)) → counts R (es ++ fs) ≡ counts R es + counts R fs
  unfolding counts
  counts_append [] fs = omega arith
  counts_append (Began i st n ∷ es) fs = counts_append es fs
  counts_append (Ask p ∷ es) fs = counts_append es fs
  counts_append (Count n ∷ es) fs = omega (arith, counts_append es fs)
  counts_append (Got c ∷ es) fs = counts_append es fs
  counts_append (Mode m ∷ es) fs = counts_append es fs
  counts_append (Refused n ∷ es) fs = counts_append es fs

stop_mode : {C : Type 0} {m : C} (n : ℕ) (e : End C) → stop n e ≡ in_mode m → e ≡ in_mode m
stop_mode n not_yet q = let z : ◌≡◌ {A = ℕ} 0 1 = cc in absurd (omega arith)
stop_mode n (in_mode k) q = q
stop_mode n (in_refusal k) q = q

stop_refusal : {C : Type 0} {k : ℕ} (n : ℕ) (e : End C) → stop n e ≡ in_refusal k → ((e ≡ not_yet) × (n ≡ k)) ⊎ (e ≡ in_refusal k)
stop_refusal n not_yet q = inl (refl, cc)
stop_refusal n (in_mode m) q = inr q
stop_refusal n (in_refusal k) q = inr q

stop_ended : {C : Type 0} (n : ℕ) (e : End C) → stop n e ≡ not_yet → ⊥
stop_ended n not_yet q = let z : ◌≡◌ {A = ℕ} 0 1 = cc in absurd (omega arith)
stop_ended n (in_mode k) q = let z : ◌≡◌ {A = ℕ} 0 1 = cc in absurd (omega arith)
stop_ended n (in_refusal k) q = let z : ◌≡◌ {A = ℕ} 0 1 = cc in absurd (omega arith)

module _ (R : Rules) (K : Claims R) (P : Proved R K) (M : Machine) (Y : View R M) (Sound : M.State → Type 0) (W : Lawful R K M Y Sound) where
  -- the requests that remain of the objective, at most
  abbrev remaining : M.State → ℕ
  remaining s = (Y.subjects - Y.subject s) * suc K.ceiling

  -- the search x is the one that the state s is at; it has asked k more than it was given
  record Current (k : ℕ) (s : M.State) (x : Searched R) (xs : List (Searched R)) : Type 0 where
    number : x.subject ≡ Y.subject s
    within : Y.subject s < Y.subjects
    earlier : Through R (Y.subject s) xs
    same : x.settings ≡ Y.settings s
    at : Y.search s ≡ after R x.settings (history R x)
    asked : x.asked ≡ k + length (history R x)
    running : x.end ≡ not_yet
    tally : x.to ≡ Y.evaluations s
    chain : Chain R x.from xs
    past : Every (Ended R) xs

  abbrev Awaiting : M.State → List (Searched R) → Type 0
  Awaiting s [] = ⊥
  Awaiting s (x ∷ xs) = Current 1 s x xs × ((p : R.Point) × (wanted_at R M Y s ≡ point p))

  -- THE INVARIANT, between two calls, with the searches of the log so far
  record Between (s : M.State) (xs : List (Searched R)) : Type 0 where
    sound : Sound s
    all : Every (Holds R K) xs
    chain : Chain R (Y.evaluations s) xs
    awaiting : M.awaits s ≡ true → Awaiting s xs
    idle : M.awaits s ≡ false → Every (Ended R) xs

  -- what a call or a loop leaves, that began with n evaluations and the searches xs
  record After (n : ℕ) (xs : List (Searched R)) (r : Outcome M) (l : List (Entry R)) : Type 0 where
    between : Between r.state (read R xs l)
    tally : Y.evaluations r.state ≡ n + counts R l
    through : Y.means r.answer ≡ finished → Through R Y.subjects (read R xs l)
    question : (p : R.Point) → Y.means r.answer ≡ asked p → (es : List (Entry R)) × (l ≡ es ++ (Ask p ∷ Count (Y.evaluations r.state) ∷ []))

  -- ---- one entry of the log more
  module _ (s : M.State) (x : Searched R) (xs : List (Searched R)) (hx : Holds R K x) where
    module _ (k : ℕ) (u : Current k s x xs) where
      -- the rules ask of the history what the state's search asks
      asked_there : R.request (Y.settings s) (Y.search s) ≡ R.request x.settings (after R x.settings (history R x))
      asked_there = ap₂ R.request (sym u.same) u.at

      meets : {q : Wanted R.Point} → wanted_at R M Y s ≡ q → wanted R x.settings (after R x.settings (history R x)) ≡ q
      meets e = ap R.wants (sym asked_there) ∙ e

      in_a_mode : wanted_at R M Y s ≡ mode → Holds R K (told R x (Mode (R.best (Y.search s))))
      in_a_mode e = record {
        domain = hx.domain;
        follows = hx.follows;
        answered = hx.answered;
        few = hx.few;
        raised = hx.raised;
        good = λ m q. subst (K.Good x.settings (history R x)) (ap R.best (sym u.at) ∙ cc) (P.good x.settings (history R x) hx.domain hx.follows (meets e));
        refused = λ n q. let z : ◌≡◌ {A = ℕ} 0 1 = cc in absurd (omega arith);
      }

      says : {n : ℕ} → wanted_at R M Y s ≡ refusal n → K.Means x.settings (history R x) n
      says e = P.means x.settings (history R x) _ hx.domain hx.follows (meets e)

    abbrev Why : ℕ → Type 0
    Why n = x.end ≡ not_yet → OfEvaluation n ⊎ K.Means x.settings (history R x) n

    ends : (n : ℕ) → Why n → Holds R K (told R x (Refused n))
    ends n why = record {
      domain = hx.domain;
      follows = hx.follows;
      answered = hx.answered;
      few = hx.few;
      raised = hx.raised;
      good = λ m q. hx.good m (stop_mode n x.end q);
      refused = λ k q. ⊎_elim (λ (r : (x.end ≡ not_yet) × (n ≡ k)). subst (λ (j : ℕ). OfEvaluation j ⊎ K.Means x.settings (history R x) j) r.1 (why r.0))
          (λ (r : x.end ≡ in_refusal k). hx.refused k r) (stop_refusal n x.end q);
    }

    asks : (p : R.Point) → Current 0 s x xs → wanted_at R M Y s ≡ point p → Holds R K (told R x (Ask p))
    asks p u e = record {
      domain = hx.domain;
      follows = hx.follows;
      answered = omega (arith, hx.answered);
      few = omega (arith, u.asked, P.few x.settings (history R x) p hx.domain hx.follows (meets 0 u e));
      raised = omega (arith, hx.raised);
      good = hx.good;
      refused = hx.refused;
    }

    asking : (p : R.Point) → Current 0 s x xs → Current 1 s (told R x (Ask p)) xs
    asking p u = record {
      number = u.number;
      within = u.within;
      earlier = u.earlier;
      same = u.same;
      at = u.at;
      asked = omega (arith, u.asked);
      running = u.running;
      tally = u.tally;
      chain = u.chain;
      past = u.past;
    }

    -- the history with it
    longer : (c : Trial R) → length (points R (x.trials ++ (c ∷ []))) ≡ suc (length (history R x))
    longer c = ap length (points_more R x.trials c) ∙ length_more (history R x) c.point

    gets : (c : Trial R) → Current 1 s x xs → R.Answers (R.request (Y.settings s) (Y.search s)) c.point → Holds R K (told R x (Got c))
    gets c u t = record {
      domain = hx.domain;
      follows = subst (Follows R x.settings) (sym (points_more R x.trials c))
          (answered_more R.Answers (R.request x.settings) (R.advance x.settings) R.start (history R x) c.point hx.follows
          (subst (λ (q : R.Request). R.Answers q c.point) (asked_there 1 u) t));
      answered = omega (arith, u.asked, longer c);
      few = hx.few;
      raised = hx.raised;
      good = λ m q. let r = u.running in let z : ◌≡◌ {A = ℕ} 0 1 = cc in absurd (omega arith);
      refused = λ n q. let r = u.running in let z : ◌≡◌ {A = ℕ} 0 1 = cc in absurd (omega arith);
    }

    got : (c : Trial R) (t : M.State) → Current 1 s x xs → Advances R K M Y Sound s c.point t → Current 0 t (told R x (Got c)) xs
    got c t u a = record {
      number = u.number ∙ sym a.kept.subject;
      within = subst (λ (i : ℕ). i < Y.subjects) (sym a.kept.subject) u.within;
      earlier = subst (λ (i : ℕ). Through R i xs) (sym a.kept.subject) u.earlier;
      same = u.same ∙ sym a.kept.settings;
      at = a.search ∙ ap₂ (λ (st : R.Settings) (z : R.Search). R.advance st z c.point) (sym u.same) u.at
          ∙ sym (led_more R.Answers (R.request x.settings) (R.advance x.settings) R.start (history R x) c.point) ∙ ap (after R x.settings) (sym (points_more R x.trials c));
      asked = omega (arith, u.asked, longer c);
      running = u.running;
      tally = u.tally ∙ sym a.tally;
      chain = u.chain;
      past = u.past;
    }

    counted : (p : R.Point) (n : ℕ) → Current 0 s x xs → wanted_at R M Y s ≡ point p → n ≡ suc (Y.evaluations s) → Holds R K (told R (told R x (Ask p)) (Count n))
    counted p n u e v = let a = asks p u e in record {
      domain = hx.domain;
      follows = hx.follows;
      answered = a.answered;
      few = a.few;
      raised = omega (arith, hx.raised, u.tally);
      good = hx.good;
      refused = hx.refused;
    }

    counting : (p : R.Point) (t : M.State) → Current 0 s x xs → Kept R K M Y Sound s t → Y.search t ≡ Y.search s → Current 1 t (told R (told R x (Ask p)) (Count (Y.evaluations t))) xs
    counting p t u k e = record {
      number = u.number ∙ sym k.subject;
      within = subst (λ (i : ℕ). i < Y.subjects) (sym k.subject) u.within;
      earlier = subst (λ (i : ℕ). Through R i xs) (sym k.subject) u.earlier;
      same = u.same ∙ sym k.settings;
      at = e ∙ u.at;
      asked = omega (arith, u.asked);
      running = u.running;
      tally = refl;
      chain = u.chain;
      past = u.past;
    }

    passed : (m : R.Conditional) → Current 0 s x xs → Through R (suc (Y.subject s)) (told R x (Mode m) ∷ xs)
    unfolding Through
    passed m u = (u.number, (m, refl), u.earlier)

  -- a search that has just begun
  fresh : (s t : M.State) (i : ℕ) (xs : List (Searched R)) → Begins R K M Y Sound s i t → Through R i xs → Chain R (Y.evaluations s) xs → Every (Ended R) xs → Current 0 t
      (begun R (Y.subject t) (Y.settings t) (Y.evaluations t)) xs
  unfolding led_from points
  fresh s t i xs b h c d = record {
    number = refl;
    within = subst (λ (j : ℕ). j < Y.subjects) (sym b.subject) b.within;
    earlier = subst (λ (j : ℕ). Through R j xs) (sym b.subject) h;
    same = refl;
    at = b.search;
    asked = refl;
    running = refl;
    tally = refl;
    chain = subst (λ (j : ℕ). Chain R j xs) (sym b.tally) c;
    past = d;
  }

  fresh_holds : (i : ℕ) (st : R.Settings) (n : ℕ) → K.Domain st → Holds R K (begun R i st n)
  unfolding Answered points
  fresh_holds i st n d = record {
    domain = d;
    follows = tt;
    answered = omega arith;
    few = omega arith;
    raised = omega arith;
    good = λ m q. let z : ◌≡◌ {A = ℕ} 0 1 = cc in absurd (omega arith);
    refused = λ n q. let z : ◌≡◌ {A = ℕ} 0 1 = cc in absurd (omega arith);
  }

  -- ---- a turn and the rest of the loop
  module _ (v : ℕ) (xs : List (Searched R)) where
    ahead : (n : ℕ) (es fs : List (Entry R)) (r : Outcome M) → n ≡ v + counts R es → After n (read R xs es) r fs → After v xs r (es ++ fs)
    ahead n es fs r e a = record {
      between = rw (read_append R xs es fs) a.between;
      tally = omega (arith, a.tally, counts_append R es fs);
      through = λ q. rw (read_append R xs es fs) (a.through q);
      question = λ p q. (es ++ (a.question p q).0, ap (λ (l : List (Entry R)). es ++ l) (a.question p q).1 ∙ sym (append_assoc es (a.question p q).0 _));
    }

    over : (a : M.Answer) (t : M.State) (n k : ℕ) (es : List (Entry R)) → Y.means a ≡ refused n → Over R K M Y Sound k t → k ≡ v + counts R es → Every (Holds R K) (read R xs es) → Chain R k
        (read R xs es) → Every (Ended R) (read R xs es) → After v xs (record { answer = a; state = t }) es
    over a t n k es w o e h c d = record {
      between = record {
        sound = o.sound;
        all = h;
        chain = subst (λ (j : ℕ). Chain R j (read R xs es)) (sym o.tally) c;
        awaiting = λ q. let i = o.idle in let z : ◌≡◌ {A = ℕ} 0 1 = cc in absurd
            (omega arith);
        idle = λ q. d;
      };
      tally = o.tally ∙ e;
      through = λ q. let z : ◌≡◌ {A = ℕ} 0 1 = cc in absurd (omega arith);
      question = λ p q. let z : ◌≡◌ {A = ℕ} 0 1 = cc in absurd (omega arith);
    }

  raise_no : (m n : ℕ) → n ≡ m → [] ≡ raise R M Y m n
  raise_no m n e = no _ (le-ltb m n (omega arith)) refl

  raise_one : (m n : ℕ) → n ≡ suc m → (Count n ∷ []) ≡ raise R M Y m n
  raise_one m n e = yes _ (lt-ltb m n (omega arith)) refl

  abbrev Goes : ℕ → (M.State → Outcome M) → (M.State → List (Entry R)) → Type 0
  Goes n k l = (t : M.State) (x : Searched R) (xs : List (Searched R)) → Sound t → Holds R K x → Every (Holds R K) xs → Current 0 t x xs → remaining t ≤ n + x.asked → After (Y.evaluations t)
      (x ∷ xs) (k t) (l t)

  -- the next subject needs one search less
  less : (i j n a : ℕ) → i < Y.subjects → j ≡ suc i → a ≤ K.ceiling → (Y.subjects - i) * suc K.ceiling ≤ suc n + a → (Y.subjects - j) * suc K.ceiling ≤ n + 0
  less i j n a h e q f =
      let g : Y.subjects - i ≡ suc (Y.subjects - j) = omega arith in
      omega (arith, rw (g, suc-mul) at f)

  -- and there are requests for all of them
  enough : (s : M.State) → remaining s ≤ M.fuel
  enough s = le_trans (mul-le-mul_right (suc K.ceiling) (omega arith)) W.enough

  module _ (n : ℕ) (k : M.State → Outcome M) (l : M.State → List (Entry R)) (go : Goes n k l) (s : M.State) (x : Searched R) (xs : List (Searched R))
      (hx : Holds R K x) (hs : Every (Holds R K) xs) (u : Current 0 s x xs) (f : remaining s ≤ suc n + x.asked) where
    turned : {m : Move M} → Turn R K M Y Sound s m → After (Y.evaluations s) (x ∷ xs) (onward m k) (turn_log R M Y s m ++ goes_on m l)
    unfolding read counts onward goes_on turn_log Chain
    turned (hit {p} {t} e h a) = rw e (ahead _ _ _ (Ask p ∷ Got (Y.kept s p) ∷ []) (l t) (k t) (omega (arith, a.tally)) (go t _ xs a.kept.sound
        (gets s _ xs (asks s x xs hx p u e) (Y.kept s p) (asking s x xs hx p u) h) hs (got s _ xs (asks s x xs hx p u e) (Y.kept s p) t (asking s x xs hx p u) a)
        (rw a.kept.subject (omega (arith, f)))))
    turned (short {p} {a} {t} {n} e w b o) = rw (e, w, ← (raise_no (Y.evaluations s) (Y.evaluations t) o.tally))
        (over _ _ a t n _ (Ask p ∷ Refused n ∷ []) w o (omega arith) (more (ends s _ xs (asks s x xs hx p u e) n (λ r. inl b)) hs) (u.tally, u.chain) (more (stop_ended n x.end) u.past))
    turned (wild {p} {a} {t} {n} e w b o) = rw (e, w, ← (raise_one (Y.evaluations s) (Y.evaluations t) o.tally))
        (over _ _ a t n _ (Ask p ∷ Count (Y.evaluations t) ∷ Refused n ∷ []) w o (omega arith) (more (ends s _ xs (counted s x xs hx p (Y.evaluations t) u e o.tally) n (λ r. inl b)) hs)
        (o.tally, u.chain) (more (stop_ended n x.end) u.past))
    turned (miss {p} {a} {t} e w j g aw v) = rw (e, w, ← (raise_one (Y.evaluations s) (Y.evaluations t) v)) (record {
      between = record {
        sound = j.sound;
        all = more (counted s x xs hx p (Y.evaluations t) u e v) hs;
        chain = (refl, u.chain);
        awaiting = λ q.
            (counting s x xs hx p t u j g, (p, ap₂ (wanted R) j.settings g ∙ e));
        idle = λ q. let z : ◌≡◌ {A = ℕ} 0 1 = cc in absurd (omega arith);
      };
      tally = omega (arith, v);
      through = λ q. let z : ◌≡◌ {A = ℕ} 0 1 = cc in absurd (omega arith);
      question = λ p' q. ([], cc);
    })
    turned (next {t} e b) = let m = R.best (Y.search s) in rw e (ahead _ _ _ (Mode m ∷ Began (Y.subject t) (Y.settings t) (Y.evaluations t) ∷ []) (l t) (k t) (omega (arith, b.tally))
        (go t _ _ b.sound
        (fresh_holds _ _ _ b.domain) (more (in_a_mode s x xs hx 0 u e) hs) (fresh s t _ _ b (passed s x xs hx m u) (u.tally, u.chain) (more (stop_ended 0 (in_mode m)) u.past))
        (less _ _ n _ u.within b.subject hx.few f)))
    turned (barred {a} {t} {n} e w o) = let m = R.best (Y.search s) in rw (e, w) (over _ _ a t n _ (Mode m ∷ Refused n ∷ []) w o (omega arith)
        (more (ends s _ xs (in_a_mode s x xs hx 0 u e) n (λ r. let z : ◌≡◌ {A = ℕ} 0 1 = cc in absurd (omega arith))) hs) (u.tally, u.chain) (more (stop_ended n (in_mode m)) u.past))
    turned (last {a} {t} e w j o) = let m = R.best (Y.search s) in rw (e, w) (record {
      between = record {
        sound = o.sound;
        all = more (in_a_mode s x xs hx 0 u e) hs;
        chain = (u.tally ∙ sym o.tally, u.chain);
        awaiting = λ q. let i = o.idle in let z : ◌≡◌ {A = ℕ} 0 1 = cc in
            absurd (omega arith);
        idle = λ q. more (stop_ended 0 (in_mode m)) u.past;
      };
      tally = omega (arith, o.tally);
      through = λ q. subst (λ (i : ℕ). Through R i (told R x (Mode m) ∷ xs)) j (passed s x xs hx m u);
      question = λ p q. let z : ◌≡◌ {A = ℕ} 0 1 = cc in absurd (omega arith);
    })
    turned (fails {a} {t} {n} e w o) = rw e (over _ _ a t n _ (Refused n ∷ []) w o (omega arith) (more (ends s x xs hx n (λ r. inr (says s x xs hx 0 u e))) hs) (u.tally, u.chain)
        (more (stop_ended n x.end) u.past))

  -- the loop: it never runs out of requests
  loops : (n : ℕ) → Goes n (λ t. loop M.turn M.spent n t) (λ t. loop_log R M Y n t)
  unfolding loop loop_log
  loops zero s x xs so hx hs u f = absurd (
      let g : Y.subjects - Y.subject s ≡ suc (Y.subjects - suc (Y.subject s)) = omega (arith, u.within) in
      omega (arith, rw (g, suc-mul) at f, hx.few))
  loops (suc n) s x xs so hx hs u f = turned n (λ t. loop M.turn M.spent n t) (λ t. loop_log R M Y n t) (loops n) s x xs hx hs u f (W.turns s so u.within)

  -- ---- a call
  ends_latest : (n : ℕ) → OfEvaluation n → (s : M.State) (xs : List (Searched R)) → Every (Holds R K) xs → Every (Holds R K) (latest R (Refused n) xs)
  ends_latest n b s [] none = none
  ends_latest n b s (x ∷ xs) (more hx hs) = more (ends s x xs hx n (λ r. inl b)) hs

  ended_latest : (n : ℕ) (s : M.State) (xs : List (Searched R)) → Awaiting s xs → Every (Ended R) (latest R (Refused n) xs)
  ended_latest n s [] w = absurd w
  ended_latest n s (x ∷ xs) w = more (stop_ended n x.end) w.0.past

  chain_latest : (n i : ℕ) (xs : List (Searched R)) → Chain R i xs → Chain R i (latest R (Refused n) xs)
  unfolding Chain
  chain_latest n i [] h = h
  chain_latest n i (x ∷ xs) h = h

  module _ (s t : M.State) (c : Trial R) (answers : R.Answers (R.request (Y.settings s) (Y.search s)) c.point) (a : Advances R K M Y Sound s c.point t) where
    replies : (xs : List (Searched R)) → Every (Holds R K) xs → Awaiting s xs → After (Y.evaluations t) (read R xs (Got c ∷ [])) (requests M t) (loop_log R M Y M.fuel t)
    unfolding read
    replies [] h w = absurd w
    replies (x ∷ xs) (more hx hs) (u, (p, e)) = loops _ t _ xs a.kept.sound (gets s x xs hx c u answers) hs (got s x xs hx c t u a) (omega (arith, enough t))

  module _ (s : M.State) (xs : List (Searched R)) (b : Between s xs) where
    -- a refused call writes nothing
    silent : (c : M.Call) (a : M.Answer) (w : Bool) → M.awaits s ≡ w → enter_log R M Y c s (halt a s) ≡ []
    unfolding enter_log
    silent c a true e = rw e (sym (yes _ e refl))
    silent c a false e = rw e

    ended : (t : M.State) (n : ℕ) → M.awaits t ≡ false → ◌≡◌ {A = List (Entry R)} (Refused n ∷ []) (pick (M.awaits t) [] (Refused n ∷ []))
    ended t n e = no _ e refl

    entered : (c : M.Call) {m : Move M} → Enters R K M Y Sound c s m → After (Y.evaluations s) xs (onward m (λ t. requests M t))
        (enter_log R M Y c s m ++ goes_on m (λ t. loop_log R M Y M.fuel t))
    unfolding onward goes_on read counts Through
    entered c (same {a} {n} w) = rw (silent c a (M.awaits s) refl) (record {
      between = b;
      tally = omega arith;
      through = λ q. let z : ◌≡◌ {A = ℕ} 0 1 = cc in absurd (omega arith);
      question = λ p q. let z : ◌≡◌ {A = ℕ} 0 1 = cc in absurd (omega arith);
    })
    entered c (begins {t} w h) = unfold enter_log in rw w (ahead _ _ _ (Began (Y.subject t) (Y.settings t) (Y.evaluations t) ∷ []) _ _ (omega (arith, h.tally))
        (loops _ t _ xs h.sound (fresh_holds _ _ _ h.domain) b.all (fresh s t _ xs h tt b.chain (b.idle w)) (omega (arith, enough t))))
    entered c (replied {t} w h a) = unfold enter_log in rw w (ahead _ _ _ (Got (Y.given c s) ∷ []) _ _ (omega (arith, a.tally)) (replies s t _ h a xs b.all (b.awaiting w)))
    entered c (failed {a} {t} {n} w e r o) = unfold enter_log in rw (w, e, ← (ended t n o.idle)) (over _ _ a t n _ (Refused n ∷ []) e o (omega arith) (ends_latest n r s xs b.all)
        (chain_latest n _ xs b.chain) (ended_latest n s xs (b.awaiting w)))

    called : (c : M.Call) → After (Y.evaluations s) xs (call M c s) (call_log R M Y c s)
    unfolding call call_log
    called c = entered c (W.enters c s b.sound)

  -- ---- any list of calls
  record Whole (n : ℕ) (xs : List (Searched R)) (t : M.State) (l : List (Entry R)) : Type 0 where
    between : Between t (read R xs l)
    tally : Y.evaluations t ≡ n + counts R l

  set_between : (w : M.Host) (s : M.State) (xs : List (Searched R)) → Between s xs → Between (set M w s) xs
  unfolding set
  set_between w s xs b = cases (λ (t : M.State). Between t xs) (M.awaits s) (λ e. b) (λ e. record {
    sound = W.writes_sound w s b.sound;
    all = b.all;
    chain = rw (W.writes_tally w s) b.chain;
    awaiting = λ q. let i = W.writes_awaits w s in let z : ◌≡◌ {A = ℕ} 0 1 = cc in absurd (omega arith);
    idle = λ q. b.idle e;
  })

  set_tally : (w : M.Host) (s : M.State) → Y.evaluations (set M w s) ≡ Y.evaluations s
  unfolding set
  set_tally w s = cases (λ (t : M.State). Y.evaluations t ≡ Y.evaluations s) (M.awaits s) (λ e. refl) (λ e. W.writes_tally w s)

  runs : (s : M.State) (acts : List (Act M)) (xs : List (Searched R)) → Between s xs → Whole (Y.evaluations s) xs (run M s acts) (log R M Y s acts)
  unfolding run log read counts
  runs s [] xs b = record { between = b; tally = omega arith }
  runs s (calls c ∷ acts) xs b =
      let a = called s xs b c in
      let r = runs (call M c s).state acts (read R xs (call_log R M Y c s)) a.between in
      record {
        between = rw (read_append R xs (call_log R M Y c s) (log R M Y (call M c s).state acts)) r.between;
        tally = omega (arith, a.tally, r.tally, counts_append R (call_log R M Y c s) (log R M Y (call M c s).state acts));
      }
  runs s (sets w ∷ acts) xs b = rw (set_tally w s) at (runs (set M w s) acts xs (set_between w s xs b))

  waiting : (s : M.State) (xs : List (Searched R)) → Every (Holds R K) xs → Awaiting s xs → Waits R xs
  waiting s [] h w = w
  waiting s (x ∷ xs) (more hx hs) (u, (p, e)) = (u.running, omega (arith, u.asked), (p, meets s x xs hx 1 u e), u.past)

  -- ---- the theorem
  pub demand3 : (s₀ : M.State) → Sound s₀ → M.awaits s₀ ≡ false → Y.evaluations s₀ ≡ 0 → (acts : List (Act M)) → Demand3 R K M Y s₀ acts
  unfolding Chain
  demand3 s₀ so i z acts =
      let w = runs s₀ acts [] (record { sound = so; all = none; chain = z; awaiting = λ q. let n : ◌≡◌ {A = ℕ} 0 1 = cc in absurd (omega arith); idle = λ q. none }) in
      record {
        each = w.between.all;
        chain = w.between.chain;
        tally = omega (arith, w.tally);
        limited = W.limited _ w.between.sound;
        idle = w.between.idle;
        waits = λ q. waiting _ _ w.between.all (w.between.awaiting q);
        asks = λ c p q. (called _ _ w.between c).question p q;
        finishes = λ c q. rw (read_append R [] (log R M Y s₀ acts) (call_log R M Y c (run M s₀ acts))) ((called _ _ w.between c).through q);
      }
