-- What the lent words show of the log (specs/Shown.antt), over any machine that shows `Lawful` and keeps its words by the laws of `Keeps`. Assumes nothing.
use mathlib.Core.Path.{◌≡◌, refl, sym, subst, ◌∙◌}
use mathlib.Core.Bool.{Bool, true, false}
use mathlib.Core.List.{List, [], ◌∷◌, ◌++◌}
use mathlib.Core.Logic.{◌⊎◌, inl, inr}
use Prim.Native.Nat.{ℕ, zero, suc, ◌≤◌, ◌<◌}
use native.Mathlib.Omega.{arith}
use Rattle.float64.specs.Pick.{pick, yes, no, both, cases, pick_yes, pick_no}
use Rattle.machine.specs.Lawful.{Turn, Enters, Lawful}
use Rattle.machine.specs.Lawful.Enters.{same, begins, replied, failed}
use Rattle.machine.specs.Lawful.Turn.{hit, short, wild, miss, next, barred, last, fails}
use Rattle.machine.specs.Log.{Entry, End, not_yet, in_mode, in_refusal, stop, Every, none, more, Searched, told, begun, read, searches}
use Rattle.machine.specs.Log.Event.{Began, Ask, Count, Got, Mode, Refused}
use Rattle.machine.specs.Machine.{on, halt, Machine, Outcome, Move, requests, onward, loop, call, Act, calls, sets, set, run}
use Rattle.machine.specs.Observed.{asked, finished, refused, goes_on, View, wanted_at, raise, turn_log, enter_log, loop_log, call_log, log}
use Rattle.machine.specs.Rules.{Rules, Trial, point, mode, Claims}
use Rattle.machine.proofs.Session.{read_append}
use Rattle.session_theorems.specs.Shown.{Words, Objective, newer, under_way, Unaltered, Settled, Stood, Adds, Left, Shown}
use Rattle.session_theorems.proofs.Always.{After}

no_mode : {C : Type 0} {m : C} (n : ℕ) (e : End C) → e ≡ not_yet → stop n e ≡ in_mode m → ⊥
no_mode n not_yet e q = let z : ◌≡◌ {A = ℕ} 0 1 = cc in omega arith
no_mode n (in_mode k) e q = let z : ◌≡◌ {A = ℕ} 0 1 = cc in omega arith
no_mode n (in_refusal k) e q = let z : ◌≡◌ {A = ℕ} 0 1 = cc in omega arith

module _ (R : Rules) (K : Claims R) (M : Machine) (Y : View R M) (Sound : M.State → Type 0) (W : Lawful R K M Y Sound) (X : Words R M Y) where
  -- the settings that a subject's search would have if it began here; the objective so far; and that a state carries the rows of a search's trials
  module _ (here : M.State → ℕ → R.Settings) (value : M.State → X.Value) (Carries : List (Trial R) → M.State → Type 0) where
    -- the modes of the subjects before stand as they stood, and the warm starts of those after
    pub record Keeps (s t : M.State) : Type 0 where
      pub before : (x : Searched R) (m : R.Conditional) → x.subject < Y.subject s → X.Stands x m s → X.Stands x m t
      pub behind : (i : ℕ) → Y.subject s < i → here t i ≡ here s i
      pub runs : (c : M.Call) → X.Runs c s → X.Runs c t

    -- the search x is the one that the state is at
    pub record Of (x : Searched R) (s : M.State) : Type 0 where
      pub number : x.subject ≡ Y.subject s
      pub settings : x.settings ≡ Y.settings s
      pub carries : Carries x.trials s

    -- an objective begins
    unfoldable pub Opens : M.Call → M.State → Move M → Type 0
    Opens c s (on t) = X.Settles c s 0 (Y.settings t) × ((i : ℕ) → 0 < i → X.Settles c s i (here t i)) × X.Runs c t × Carries [] t × (value t ≡ X.nothing)
    Opens c s (halt a t) = Unit {0}

    -- an evaluation, or a question
    unfoldable pub Carried : M.State → Trial R → Move M → Type 0
    Carried s u (on t) = (value t ≡ value s) × ((ts : List (Trial R)) → Carries ts s → Carries (ts ++ (u ∷ [])) t)
    Carried s u (halt a t) = M.awaits t ≡ true → (value t ≡ value s) × ((ts : List (Trial R)) → Carries ts s → Carries ts t)

    -- a mode
    abbrev pub mode_of : M.State → R.Conditional
    mode_of s = R.best (Y.search s)

    unfoldable pub Closes : M.State → Move M → Type 0
    Closes s (on t) = ((x : Searched R) → Of x s → X.Stands x (mode_of s) t × (value t ≡ X.with_mode x (mode_of s) (value s))) × (Y.settings t ≡ here s (suc (Y.subject s))) × Carries [] t
    Closes s (halt a t) =
        (Y.means a ≡ finished → (x : Searched R) → Of x s → X.Stands x (mode_of s) t × X.Gives a t (X.with_mode x (mode_of s) (value s)))
        × ((n : ℕ) → Y.means a ≡ refused n → (x : Searched R) → Of x s → X.Remains n x (mode_of s) (X.with_mode x (mode_of s) (value s)) t)

    pub record Wordly (E : M.State → Type 0) : Type 0 where
      pub sound : (s : M.State) → E s → Sound s
      pub inside : (s : M.State) → E s → Y.subject s < Y.subjects
      pub turns_hold : (s : M.State) → E s → After E (M.turn s)
      pub enters_hold : (c : M.Call) (s : M.State) → E s → After E (M.enter c s)
      pub writes_hold : (w : M.Host) (s : M.State) → E s → E (M.write w s)
      pub turns_keep : (s : M.State) → E s → After (Keeps s) (M.turn s)
      pub enters_keep : (c : M.Call) (s : M.State) → E s → M.awaits s ≡ true → After (Keeps s) (M.enter c s)
      pub turns_carry : (s : M.State) → E s → (p : R.Point) → wanted_at R M Y s ≡ point p → Carried s (Y.kept s p) (M.turn s)
      pub enters_carry : (c : M.Call) (s : M.State) → E s → M.awaits s ≡ true → Carried s (Y.given c s) (M.enter c s)
      pub enters_open : (c : M.Call) (s : M.State) → E s → M.awaits s ≡ false → Opens c s (M.enter c s)
      pub turns_close : (s : M.State) → E s → wanted_at R M Y s ≡ mode → Closes s (M.turn s)
      pub spent : (n : ℕ) × (Y.means M.spent ≡ refused n)

    module _ (E : M.State → Type 0) (F : Wordly E) where
      stood_on : (s t : M.State) → Keeps s t → (n : ℕ) → n ≤ Y.subject s → (xs : List (Searched R)) → Stood R M Y X s n xs → Stood R M Y X t n xs
      unfolding Stood
      stood_on s t k zero l xs h = tt
      stood_on s t k (suc n) l [] h = h
      stood_on s t k (suc n) l (x ∷ xs) h = (
        h.0,
        (h.1.0, h.1.1, k.before x h.1.0 (subst (λ (i : ℕ). i < Y.subject s) (sym h.0) l) h.1.2),
        stood_on s t k n
            (omega (arith, l)) xs h.2,
      )

      -- the search x is the one that the state s is at, in the objective o
      record Now (o : Objective R M Y) (s : M.State) (x : Searched R) (xs : List (Searched R)) : Type 0 where
        is : Of x s
        running : x.end ≡ not_yet
        earlier : Stood R M Y X s (Y.subject s) xs
        adds : Adds R M Y X (Y.subject s) xs (value s)
        later : (i : ℕ) → Y.subject s < i → X.Settles o.call o.state i (here s i)
        runs : X.Runs o.call s

      abbrev Waiting : Objective R M Y → M.State → List (Searched R) → Type 0
      Waiting o s [] = ⊥
      Waiting o s (x ∷ xs) = Now o s x xs

      -- what a loop leaves, after the searches xs
      record Done (o : Objective R M Y) (xs : List (Searched R)) (r : Outcome M) (l : List (Entry R)) : Type 0 where
        holds : E r.state
        settles : Every (Settled R M Y X o) l
        leaves : Left R M Y X r.answer (Y.means r.answer) r.state (read R xs l)
        waits : M.awaits r.state ≡ true → Waiting o r.state (read R xs l)

      abbrev Goes : (M.State → Outcome M) → (M.State → List (Entry R)) → Type 0
      Goes k l = (o : Objective R M Y) (t : M.State) (x : Searched R) (xs : List (Searched R)) → E t → Now o t x xs → Done o (x ∷ xs) (k t) (l t)

      never : {A : Type 0} {b : Bool} → b ≡ false → b ≡ true → A
      never e q = absurd (let z : ◌≡◌ {A = ℕ} 0 1 = cc in omega arith)

      -- the same search, after an entry of the log
      now_on : (o : Objective R M Y) (s t : M.State) (x y : Searched R) (xs : List (Searched R)) → Keeps s t → Y.subject t ≡ Y.subject s → value t ≡ value s → Of y t → y.end ≡ x.end
          → Now o s x xs → Now o t y xs
      now_on o s t x y xs k e v i b u = record {
        is = i;
        running = b ∙ u.running;
        earlier = subst (λ (n : ℕ). Stood R M Y X t n xs) (sym e) (stood_on s t k (Y.subject s) (omega arith) xs u.earlier);
        adds = subst (λ (n : ℕ). Adds R M Y X n xs (value t)) (sym e) (subst (Adds R M Y X (Y.subject s) xs) (sym v) u.adds);
        later = λ i l. let j : Y.subject s < i = subst (λ (n : ℕ). n < i) e l in subst (X.Settles o.call o.state i) (sym (k.behind i j)) (u.later i j);
        runs = k.runs o.call u.runs;
      }

      -- it has got one evaluation more
      got : (s t : M.State) (x : Searched R) (d : Trial R) → Y.subject t ≡ Y.subject s → Y.settings t ≡ Y.settings s → Carried s d (on t) → Of x s → Of (told R x (Got d)) t
      unfolding Carried
      got s t x d e f c i = record { number = i.number ∙ sym e; settings = i.settings ∙ sym f; carries = c.1 x.trials i.carries }

      -- a refusal before the mode
      refuses : (o : Objective R M Y) (s t : M.State) (a : M.Answer) (x y : Searched R) (xs : List (Searched R)) (n : ℕ) → Keeps s t → y.subject ≡ x.subject → y.end ≡ stop n x.end
          → Now o s x xs → Left R M Y X a (refused n) t (y ∷ xs)
      refuses o s t a x y xs n k e b u =
          (subst (λ (i : ℕ). Stood R M Y X t i xs) (sym (e ∙ u.is.number)) (stood_on s t k (Y.subject s) (omega arith) xs u.earlier), λ m q. absurd (no_mode n x.end u.running (sym b ∙ q)))

      -- ---- a turn and the rest of the loop
      module _ (k : M.State → Outcome M) (l : M.State → List (Entry R)) (go : Goes k l) (o : Objective R M Y) (s : M.State) (x : Searched R) (xs : List (Searched R)) (u : Now o s x xs) where
        abbrev m₀ : R.Conditional
        m₀ = mode_of s

        -- the search with its mode
        abbrev done : Searched R
        done = told R x (Mode m₀)

        is_done : Of done s
        is_done = record { number = u.is.number; settings = u.is.settings; carries = u.is.carries }

        closed : (t : M.State) → Keeps s t → X.Stands done m₀ t → Stood R M Y X t (suc (Y.subject s)) (done ∷ xs)
        unfolding Stood
        closed t kept v = (u.is.number, (m₀, refl, v), stood_on s t kept (Y.subject s) (omega arith) xs u.earlier)

        added : (v : X.Value) → v ≡ X.with_mode done m₀ (value s) → Adds R M Y X (suc (Y.subject s)) (done ∷ xs) v
        unfolding Adds
        added v e = (m₀, refl, (value s, u.adds, e))

        remained : (n : ℕ) (a : M.Answer) (t : M.State) → Keeps s t → ((y : Searched R) → Of y s → X.Remains n y m₀ (X.with_mode y m₀ (value s)) t)
            → Left R M Y X a (refused n) t (told R done (Refused n) ∷ xs)
        unfolding Adds
        remained n a t kept v =
            let y = told R done (Refused n) in (
              subst (λ (i : ℕ). Stood R M Y X t i xs) (sym u.is.number) (stood_on s t kept (Y.subject s) (omega arith) xs u.earlier),
              λ m q. (
                X.with_mode y m₀ (value s),
                (m₀, refl, (value s, subst (λ (i : ℕ). Adds R M Y X i xs (value s)) (sym u.is.number) u.adds, refl)),
                (let same : m₀ ≡ m = cc in
                    subst (λ (c : R.Conditional). X.Remains n y c (X.with_mode y m₀ (value s)) t) same
                    (v y (record { number = u.is.number; settings = u.is.settings; carries = u.is.carries }))),
              ),
            )

        -- a question, counted or not
        asks : (p : R.Point) (a : M.Answer) (t : M.State) → E t → Y.means a ≡ asked p → Keeps s t → Y.subject t ≡ Y.subject s → Y.settings t ≡ Y.settings s → M.awaits t ≡ true
            → Carried s (Y.kept s p) (halt a t)
            → Done o (x ∷ xs) (record { answer = a; state = t }) (Ask p ∷ ((raise R M Y (Y.evaluations s) (Y.evaluations t) ++ []) ++ []))
        unfolding read Carried
        asks p a t h w kept e f aw c =
            let z = c aw in
            let i : Of x t = record { number = u.is.number ∙ sym e; settings = u.is.settings ∙ sym f; carries = z.1 x.trials u.is.carries } in
            both (λ (c : List (Entry R)). Done o (x ∷ xs) (record { answer = a; state = t }) (Ask p ∷ ((c ++ []) ++ []))) _
            (let v = now_on o s t x (told R (told R x (Ask p)) (Count (Y.evaluations t))) xs kept e z.0 (record { number = i.number; settings = i.settings; carries = i.carries }) refl u in
            record { holds = h; settles = more tt (more tt none); leaves = rw w (subst (λ (i : ℕ). Stood R M Y X t i xs) (sym v.is.number) v.earlier); waits = λ q. v })
            (let v = now_on o s t x (told R x (Ask p)) xs kept e z.0 (record { number = i.number; settings = i.settings; carries = i.carries }) refl u in
            record { holds = h; settles = more tt none; leaves = rw w (subst (λ (i : ℕ). Stood R M Y X t i xs) (sym v.is.number) v.earlier); waits = λ q. v })

        barely : (p : R.Point) (a : M.Answer) (t : M.State) (n : ℕ) → E t → Y.means a ≡ refused n → Keeps s t → M.awaits t ≡ false
            → Done o (x ∷ xs) (record { answer = a; state = t }) (Ask p ∷ ((raise R M Y (Y.evaluations s) (Y.evaluations t) ++ (Refused n ∷ [])) ++ []))
        unfolding read
        barely p a t n h w kept idle = both (λ (c : List (Entry R)). Done o (x ∷ xs) (record { answer = a; state = t }) (Ask p ∷ ((c ++ (Refused n ∷ [])) ++ []))) _
            (record {
              holds = h;
              settles = more tt (more tt (more tt none));
              leaves = rw w
                  (refuses o s t a x (told R (told R (told R x (Ask p)) (Count (Y.evaluations t))) (Refused n)) xs n kept refl refl u);
              waits = λ q. never idle q;
            })
            (record { holds = h; settles = more tt (more tt none); leaves = rw w (refuses o s t a x (told R (told R x (Ask p)) (Refused n)) xs n kept refl refl u); waits = λ q. never idle q })

        turned : {m : Move M} → Turn R K M Y Sound s m → After E m → After (Keeps s) m → ((p : R.Point) → wanted_at R M Y s ≡ point p → Carried s (Y.kept s p) m) →
            (wanted_at R M Y s ≡ mode → Closes s m)
            → Done o (x ∷ xs) (onward m k) (turn_log R M Y s m ++ goes_on m l)
        unfolding After Carried Closes read onward goes_on turn_log
        turned (hit {p} {t} e h a) i kept c z =
            let b = c p e in
            let f = a.kept.subject in
            let v = now_on o s t x (told R (told R x (Ask p)) (Got (Y.kept s p))) xs kept f b.0
            (got s t (told R x (Ask p)) (Y.kept s p) f a.kept.settings b (record { number = u.is.number; settings = u.is.settings; carries = u.is.carries })) refl u in
            let d = go o t (told R (told R x (Ask p)) (Got (Y.kept s p))) xs i v in
            rw e (record { holds = d.holds; settles = more tt (more tt d.settles); leaves = d.leaves; waits = d.waits })
        turned (short {p} {a} {t} {n} e w b v) i kept c z = rw (e, w) (barely p a t n i w kept v.idle)
        turned (wild {p} {a} {t} {n} e w b v) i kept c z = rw (e, w) (barely p a t n i w kept v.idle)
        turned (miss {p} {a} {t} e w j g aw v) i kept c z = rw (e, w) (asks p a t i w kept j.subject j.settings aw (c p e))
        turned (next {t} e b) i kept c z =
            let q = z e in
            let r = q.0 done is_done in
            let v : Now o t (begun R (Y.subject t) (Y.settings t) (Y.evaluations t)) (done ∷ xs) = record {
              is = record { number = refl; settings = refl; carries = q.2 };
              running = refl;
              earlier = subst (λ (n : ℕ). Stood R M Y X t n (done ∷ xs)) (sym b.subject) (closed t kept r.0);
              adds = subst (λ (n : ℕ). Adds R M Y X n (done ∷ xs) (value t)) (sym b.subject) (added (value t) r.1);
              later = λ n z. let y : Y.subject s < n = (let f = b.subject in omega (arith, z, f)) in subst (X.Settles o.call o.state n) (sym (kept.behind n y)) (u.later n y);
              runs = kept.runs o.call u.runs;
            } in
            let d = go o t _ _ i v in
            rw e (record {
              holds = d.holds;
              settles = more tt (more (subst (λ (n : ℕ). X.Settles o.call o.state n (Y.settings t)) (sym b.subject)
                  (subst (X.Settles o.call o.state (suc (Y.subject s))) (sym q.1) (u.later (suc (Y.subject s)) (omega arith)))) d.settles);
              leaves = d.leaves;
              waits = d.waits;
            })
        turned (barred {a} {t} {n} e w v) i kept c z = rw (e, w)
            (record { holds = i; settles = more tt (more tt none); leaves = rw w (remained n a t kept ((z e).1 n w)); waits = λ q. never v.idle q })
        turned (last {a} {t} e w j v) i kept c z =
            let r = (z e).0 w done is_done in
            rw (e, w) (record {
              holds = i;
              settles = more tt none;
              leaves = rw w (
                subst (λ (n : ℕ). Stood R M Y X t n (done ∷ xs)) j (closed t kept r.0),
                (X.with_mode done m₀ (value s), r.1, subst (λ (n : ℕ). Adds R M Y X n (done ∷ xs) (X.with_mode done m₀ (value s))) j (added _ refl)),
              );
              waits = λ q. never v.idle q;
            })
        turned (fails {a} {t} {n} e w v) i kept c z = rw e
            (record { holds = i; settles = more tt none; leaves = rw w (refuses o s t a x (told R x (Refused n)) xs n kept refl refl u); waits = λ q. never v.idle q })

      loops : (n : ℕ) → Goes (λ t. loop M.turn M.spent n t) (λ t. loop_log R M Y n t)
      unfolding loop loop_log read
      loops zero o s x xs h u = record {
        holds = h;
        settles = none;
        leaves = rw F.spent.1 (subst (λ (i : ℕ). Stood R M Y X s i xs) (sym u.is.number) u.earlier, λ m q. let r = u.running in let z : ◌≡◌ {A = ℕ} 0 1 = cc in absurd (omega arith));
        waits = λ q. u;
      }
      loops (suc n) o s x xs h u = turned (λ t. loop M.turn M.spent n t) (λ t. loop_log R M Y n t) (loops n) o s x xs u (W.turns s (F.sound s h) (F.inside s h)) (F.turns_hold s h)
          (F.turns_keep s h) (F.turns_carry s h) (F.turns_close s h)

      -- ---- a call
      record Called (o : Objective R M Y) (s : M.State) (xs : List (Searched R)) (r : Outcome M) (l : List (Entry R)) : Type 0 where
        holds : E r.state
        settles : Every (Settled R M Y X o) l
        leaves : Unaltered R M Y s r l ⊎ Left R M Y X r.answer (Y.means r.answer) r.state (read R xs l)
        waits : M.awaits r.state ≡ true → Waiting o r.state (read R xs l)

      module _ (c : M.Call) (s : M.State) (h : E s) (o now : Objective R M Y) (old : M.awaits s ≡ true → now ≡ o) (new : M.awaits s ≡ false → now ≡ record { call = c; state = s }) where
        silent : (a : M.Answer) (w : Bool) → M.awaits s ≡ w → enter_log R M Y c s (halt a s) ≡ []
        unfolding enter_log
        silent a true e = rw e (sym (yes _ e refl))
        silent a false e = rw e

        ended : (t : M.State) (n : ℕ) → M.awaits t ≡ false → ◌≡◌ {A = List (Entry R)} (Refused n ∷ []) (pick (M.awaits t) [] (Refused n ∷ []))
        ended t n e = no _ e refl

        replies : (t : M.State) (d : Trial R) (xs : List (Searched R)) → E t → Keeps s t → Y.subject t ≡ Y.subject s → Y.settings t ≡ Y.settings s → Carried s d (on t) → Waiting now s xs
            → Called now s xs (requests M t) (Got d ∷ loop_log R M Y M.fuel t)
        unfolding read Carried
        replies t d [] i kept e f b w = absurd w
        replies t d (x ∷ xs) i kept e f b w =
            let r = loops M.fuel now t (told R x (Got d)) xs i (now_on now s t x _ xs kept e b.0 (got s t x d e f b w.is) refl w) in
            record { holds = r.holds; settles = more tt r.settles; leaves = inr r.leaves; waits = r.waits }

        starts : (t : M.State) (xs : List (Searched R)) → M.awaits s ≡ false → Y.subject t ≡ 0 → E t → Opens c s (on t)
            → Called now s xs (requests M t) (Began (Y.subject t) (Y.settings t) (Y.evaluations t) ∷ loop_log R M Y M.fuel t)
        unfolding Opens Stood Adds read
        starts t xs w e i q =
            let u : Now now t (begun R (Y.subject t) (Y.settings t) (Y.evaluations t)) xs = record {
              is = record { number = refl; settings = refl; carries = q.3 };
              running = refl;
              earlier = subst (λ (j : ℕ). Stood R M Y X t j xs) (sym e) tt;
              adds = subst (λ (j : ℕ). Adds R M Y X j xs (value t)) (sym e) q.4;
              later = λ j z. subst (λ (g : Objective R M Y). X.Settles g.call g.state j (here t j)) (sym (new w)) (q.1 j (omega (arith, z, e)));
              runs = subst (λ (g : Objective R M Y). X.Runs g.call t) (sym (new w)) q.2;
            } in
            let r = loops M.fuel now t _ xs i u in
            record {
              holds = r.holds;
              settles = more (subst (λ (j : ℕ). X.Settles now.call now.state j (Y.settings t)) (sym e)
                  (subst (λ (g : Objective R M Y). X.Settles g.call g.state 0 (Y.settings t)) (sym (new w)) q.0)) r.settles;
              leaves = inr r.leaves;
              waits = r.waits;
            }

        ends : (a : M.Answer) (t : M.State) (j : ℕ) (xs : List (Searched R)) → E t → Y.means a ≡ refused j → Keeps s t → M.awaits t ≡ false → Waiting now s xs → Called now s xs
            (record { answer = a; state = t }) (Refused j ∷ [])
        unfolding read
        ends a t j [] i w kept idle v = absurd v
        ends a t j (x ∷ xs) i w kept idle v = record {
          holds = i;
          settles = more tt none;
          leaves = inr
              (rw w (refuses now s t a x (told R x (Refused j)) xs j kept refl refl v));
          waits = λ q. never idle q;
        }

        entered : {m : Move M} (xs : List (Searched R)) → (M.awaits s ≡ true → Waiting o s xs) → Enters R K M Y Sound c s m → After E m → (M.awaits s ≡ true → After (Keeps s) m)
            → (M.awaits s ≡ true → Carried s (Y.given c s) m) → (M.awaits s ≡ false → Opens c s m)
            → Called now s xs (onward m (λ t. requests M t)) (enter_log R M Y c s m ++ goes_on m (λ t. loop_log R M Y M.fuel t))
        unfolding After onward goes_on
        entered xs v (same {a} {n} w) i kept got-it opens = rw (silent a (M.awaits s) refl) (record {
          holds = i;
          settles = none;
          leaves = inl (record { number = n; means = w; same = refl; silent = refl });
          waits = λ q. unfold read in subst (λ (b : Objective R M Y). Waiting b s xs) (sym (old q)) (v q);
        })
        entered xs v (begins {t} w b) i kept got-it opens = unfold enter_log in rw w (starts t xs w b.subject i (opens w))
        entered xs v (replied {t} w g a) i kept got-it opens = unfold enter_log in rw w
            (replies t (Y.given c s) xs i (kept w) a.kept.subject a.kept.settings (got-it w) (subst (λ (b : Objective R M Y). Waiting b s xs) (sym (old w)) (v w)))
        entered xs v (failed {a} {t} {n} w e b f) i kept got-it opens = unfold enter_log in rw (w, e, ← (ended t n f.idle))
            (ends a t n xs i e (kept w) f.idle (subst (λ (b : Objective R M Y). Waiting b s xs) (sym (old w)) (v w)))

      called : (c : M.Call) (s : M.State) (o : Objective R M Y) (xs : List (Searched R)) → E s → (M.awaits s ≡ true → Waiting o s xs) → Called (newer R M Y o c s) s xs (call M c s)
          (call_log R M Y c s)
      unfolding call call_log
      called c s o xs h v = entered c s h o (newer R M Y o c s) (λ q. pick_yes _ _ _ q) (λ q. pick_no _ _ _ q) xs v (W.enters c s (F.sound s h)) (F.enters_hold c s h)
          (F.enters_keep c s h) (F.enters_carry c s h) (F.enters_open c s h)

      -- ---- any list of calls
      record Between (o : Objective R M Y) (s : M.State) (xs : List (Searched R)) : Type 0 where
        holds : E s
        waits : M.awaits s ≡ true → Waiting o s xs

      set_between : (w : M.Host) (o : Objective R M Y) (s : M.State) (xs : List (Searched R)) → Between o s xs → Between o (set M w s) xs
      unfolding set
      set_between w o s xs b = cases (λ (t : M.State). Between o t xs) (M.awaits s) (λ e. b)
          (λ e. record { holds = F.writes_hold w s b.holds; waits = λ q. never e (sym (W.writes_awaits w s) ∙ q) })

      runs : (s : M.State) (acts : List (Act M)) (o : Objective R M Y) (xs : List (Searched R)) → Between o s xs → Between (under_way R M Y o s acts) (run M s acts) (read R xs (log R M Y s acts))
      unfolding run log read under_way
      runs s [] o xs b = b
      runs s (calls c ∷ acts) o xs b =
          let a = called c s o xs b.holds b.waits in
          rw (read_append R xs (call_log R M Y c s) (log R M Y (call M c s).state acts)) (runs (call M c s).state acts (newer R M Y o c s) _ (record { holds = a.holds; waits = a.waits }))
      runs s (sets w ∷ acts) o xs b = runs (set M w s) acts o xs (set_between w o s xs b)

      runs_now : (o : Objective R M Y) (s : M.State) (xs : List (Searched R)) → Waiting o s xs → X.Runs o.call s
      runs_now o s [] w = absurd w
      runs_now o s (x ∷ xs) w = w.runs

      pub shown : (s₀ : M.State) → E s₀ → M.awaits s₀ ≡ false → (o : Objective R M Y) (acts : List (Act M)) → Shown R M Y X o s₀ acts
      shown s₀ h i o acts =
          let b = runs s₀ acts o [] (record { holds = h; waits = λ q. never i q }) in
          let a : (c : M.Call) → Called (newer R M Y (under_way R M Y o s₀ acts) c (run M s₀ acts)) (run M s₀ acts) _ (call M c (run M s₀ acts)) _ = λ c. called c (run M s₀ acts)
          (under_way R M Y o s₀ acts) (searches R (log R M Y s₀ acts)) b.holds b.waits in
          record {
            settles = λ c. (a c).settles;
            runs = λ q. runs_now (under_way R M Y o s₀ acts) (run M s₀ acts) (searches R (log R M Y s₀ acts)) (b.waits q);
            leaves = λ c. rw (read_append R [] (log R M Y s₀ acts) (call_log R M Y c (run M s₀ acts))) (a c).leaves;
          }
