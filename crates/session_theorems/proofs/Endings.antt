-- From any state that a call lets in, the requests are never used up, and what a call answers after them: its number, what it leaves of the tally's evaluations and of the work words, and whether a
-- reply is awaited. Assumes nothing.
use Rattle.std.specs.Prelude.{None, Option, Some}
use mathlib.Core.Path.{◌≡◌, refl, sym, ap, subst, ◌∙◌}
use mathlib.Core.Bool.{Bool, true, false}
use mathlib.Core.List.{List}
use Prim.Native.Nat.{ℕ, zero, suc, ◌+◌, ◌-◌, ◌*◌, ◌≤◌, ◌<◌}
use native.Mathlib.Nat.{mod-eq_of_lt, not-suc-le-zero, le_of_suc-le-suc}
use native.Mathlib.Omega.{arith}
use borrow.Author.Tests.{ltb-true, ltb-false}
use lib.Dec.{ltb, eqb}
use lib.Ieee.{Float}
use lib.ListN.{length}
use Rattle.float64.specs.Answer.{Answer, given, refused}
use Rattle.float64.specs.Float64.{nonfinite}
use Rattle.float64.specs.Pick.{pick, both, cases, pick_yes}
use Rattle.matrix.specs.declared.Pair.{Pair}
use Rattle.subject.specs.Subject.{individual_values}
use Rattle.subject.specs.declared.Sums.{Sums}
use Rattle.words.specs.Words.{zeros}
use Rattle.work.specs.Work.{block, is_same_grid}
use Rattle.setup.specs.declared.Setup.{Setup}
use Rattle.search.specs.Subjects as B
use Rattle.search.specs.declared.Fit.{Fit}
use Rattle.search.specs.declared.Halted.{Halted}
use Rattle.search.specs.declared.Mode.{Mode}
use Rattle.search.specs.declared.Place.{Place}
use Rattle.search.specs.declared.Place.TheVariants as At
use Rattle.search.specs.declared.Progress.{Progress}
use Rattle.search.specs.declared.Step.{Step}
use Rattle.search.specs.declared.Step.TheVariants as Answers
use Rattle.search.proofs.Fits.{fit_effects, fit_most}
use Rattle.machine.specs.Machine.{Moved, on, halt, Ran, onward, loop}
use Rattle.population.specs.Kept.{Recalled, words}
use Rattle.population.specs.Population.{rows_of, take, answered, at_point, Worked, next_subject, raised, Ended, ended, closing, at_mode, served_by, served, is_over, turned, Whole, moved, turn, spent, Turned}
use Rattle.session.specs.Session.{Held, held_by, turn_held, fuel}
use Rattle.session_theorems.proofs.Lengths.{zeros_length, move_rows_length, recalled_length}
use Rattle.session_theorems.proofs.Remaining.{Goes, Numbered, LeftBy, stands, points, refusals, begins}
use Rattle.session_theorems.proofs.Standing.{advanced_alike}
use Rattle.std.specs.declared.ops.ControlFlow.TheVariants.{Break, Continue}
use Rattle.mode.specs.declared.Request.{Request}
use Rattle.mode.specs.declared.Request.TheVariants as Wants

-- ---- any loop: `Going n` says that at most n turns are left, this one counted, and `Answered` is what every turn that halts gives
module _ {State Answer : Type 0} (turn : State → Moved State Answer) (Going : ℕ → State → Type 0) (Answered : Answer → State → Type 0) where
  unfoldable Moves : ℕ → Moved State Answer → Type 0
  Moves n (on t) = Going n t
  Moves n (halt a t) = Answered a t

  module _ (now : (s : State) → Going 0 s → ⊥) (turns : (n : ℕ) (s : State) → Going (suc n) s → Moves n (turn s)) (spent : Answer) where
    answers : (n : ℕ) (k : State → Ran State Answer) → ((t : State) → Going n t → Answered (k t).answer (k t).state) → (m : Moved State Answer) → Moves n m
        → Answered (onward m k).answer (onward m k).state
    unfolding Moves onward
    answers n k f (on t) g = f t g
    answers n k f (halt a t) g = g

    halts : (n : ℕ) (s : State) → Going n s → Answered (loop turn spent n s).answer (loop turn spent n s).state
    unfolding loop
    halts zero s g = absurd (now s g)
    halts (suc n) s g = answers n _ (halts n) (turn s) (turns n s g)

    -- more turns, with another answer after the last, are the same
    same : (n : ℕ) (k l : State → Ran State Answer) → ((t : State) → Going n t → k t ≡ l t) → (m : Moved State Answer) → Moves n m → onward m k ≡ onward m l
    unfolding Moves onward
    same n k l f (on t) g = f t g
    same n k l f (halt a t) g = refl

    unspent : (other : Answer) (n k : ℕ) (s : State) → Going n s → n ≤ k → loop turn other k s ≡ loop turn spent n s
    unfolding loop
    unspent other zero k s g h = absurd (now s g)
    unspent other (suc n) zero s g h = absurd (not-suc-le-zero h)
    unspent other (suc n) (suc k) s g h = same n _ _ (λ t u. unspent other n k t u (le_of_suc-le-suc h)) (turn s) (turns n s g)

-- ---- what a turn refuses with: N is the numbers that a search ends with, and `Refuses` what is said of a number, its place and the tally's evaluations then. There are c of them before the
-- call, and `most` is their limit.
pub record Tells (N : ℕ → Type 0) (Refuses : ℕ → Place → ℕ → Type 0) (most c : ℕ) : Type 0 where
  -- 13 to 16 are such numbers, and a search ends with no other
  pub known : (n : ℕ) → 13 ≤ n → n ≤ 16 → N n
  pub ended : (n i : ℕ) → N n → Refuses n (At.Subject i) c
  -- 6, 7, then 16 and 17 of a mode, and 18
  pub limit : (i : ℕ) → most ≤ c → Refuses 6 (At.Subject i) c
  pub wild : (i : ℕ) → c < most → Refuses 7 (At.Subject i) (suc c)
  pub mode : (n i : ℕ) → 16 ≤ n → n ≤ 17 → Refuses n (At.Subject i) c
  pub total : Refuses 18 At.Nowhere c

-- ---- a call with L work words lent, c evaluations in the tally, and at most R kept rows
module _ (N : ℕ → Type 0) (Refuses : ℕ → Place → ℕ → Type 0) (setup : Setup) (counts : List ℕ) (L c R : ℕ) (tells : Tells N Refuses setup.max_evaluations c) where
  abbrev most : ℕ
  most = setup.max_evaluations

  abbrev two : Bool
  two = eqb setup.effects 2

  abbrev Left : Bool → ℕ → Progress → Type 0
  Left = LeftBy N tells.known

  -- an answer, whether a reply is awaited then, and the tally's evaluations
  unfoldable pub Says : Step → Bool → ℕ → Type 0
  Says (Answers.Asked eta individual) awaits calls = (awaits ≡ true) × (calls ≡ suc c) × (c < most)
  Says (Answers.Finished ofv) awaits calls = (awaits ≡ false) × (calls ≡ c)
  Says (Answers.Refused why) awaits calls = (awaits ≡ false) × Refuses why.number why.place calls

  pub record Answered (a : Step) (t : Held words) : Type 0 where
    pub says : Says a t.whole.progress.awaits t.whole.tally.calls.0
    pub zeroed : B.is_over a ≡ true → t.whole.work ≡ zeros L
    pub rows : t.whole.tally.cached_rows.0 ≤ R

  -- the search has at most `left` points to ask for, and every subject after it 6,343 and its end
  pub record Ahead (n : ℕ) (p : Progress) : Type 0 where
    pub subject : p.subject < length counts
    pub left : ℕ
    pub search : Left two left p
    pub enough : left + (length counts - p.subject) * 6344 ≤ n + 6343

  pub record Going (n : ℕ) (h : Held words) : Type 0 where
    pub ahead : Ahead n h.whole.progress
    pub work : length h.whole.work ≡ L
    pub calls : h.whole.tally.calls.0 ≡ c
    pub rows : h.whole.tally.cached_rows.0 ≤ R

  one_left : (h : Held words) → Going 0 h → ⊥
  one_left h g = go g.ahead.left h.whole.progress.subject (length counts) g.ahead.subject g.ahead.enough
    where
      go : (m i k : ℕ) → i < k → m + (k - i) * 6344 ≤ 0 + 6343 → ⊥
      go m i k a b = omega arith

  -- ---- a turn
  module _ (few : length counts ≤ 4096) (n : ℕ) (h : Held words) (g : Going (suc n) h) where
    abbrev w : Whole words
    w = h.whole

    abbrev p : Progress
    p = w.progress

    abbrev fit : Fit
    fit = B.fit_of setup h.parameters

    abbrev rows : ℕ
    rows = rows_of counts p.subject

    abbrev a : Ahead (suc n) p
    a = g.ahead

    -- the fit's effects are the setup's
    fitted : Left (eqb fit.effects 2) a.left p
    fitted = subst (λ (k : ℕ). Left (eqb k 2) a.left p) (sym (fit_effects setup h.parameters)) a.search

    TurnsTo : Turned → Type 0
    TurnsTo (Continue q) = Ahead n q
    TurnsTo (Break x) = Says x.step x.progress.awaits x.tally.calls.0 × (x.tally.cached_rows.0 ≤ R)

    record Ends (e : Ended) : Type 0 where
      turned : TurnsTo e.turned
      work : length e.work ≡ L

    closes : (t : Turned) (work warm results : List ℕ) → TurnsTo t → length work ≡ L
        → Moves (turn_held words setup counts) Going Answered n
        (held_by words h.parameters (moved words w.tally w.kept (pick (is_over t) (zeros (length work)) work) warm results t))
    unfolding Moves held_by moved is_over TurnsTo pick
    closes (Continue q) work warm results t l = record { ahead = t; work = l; calls = g.calls; rows = g.rows }
    closes (Break x) work warm results t l = record { says = t.0; zeroed = λ e. pick_yes _ _ _ e ∙ ap zeros l; rows = t.1 }

    -- a refusal that leaves the tally
    refuses : (number : ℕ) (place : Place) → Refuses number place c → TurnsTo (Break (B.refused_by p w.tally (B.refusal number place)))
    unfolding TurnsTo Says B.refused_by B.idle B.with_search
    refuses number place r = ((refl, subst (Refuses number place) (sym g.calls) r), g.rows)

    refused_ends : (number : ℕ) (place : Place) (warm results : List ℕ) → Refuses number place c → Ends (ended (Break (B.refused_by p w.tally (B.refusal number place))) w.work warm results)
    refused_ends number place warm results r = record { turned = refuses number place r; work = g.work }

    -- ---- a point
    counts_up : (B.counted w.tally).calls.0 ≡ suc c
    unfolding B.counted
    counts_up = let e = g.calls in omega (arith, e)

    rows_stay : (B.counted w.tally).cached_rows.0 ≤ R
    unfolding B.counted
    rows_stay = g.rows

    Seven : Answer Pair → Type 0
    Seven (given v) = Unit
    Seven (refused k) = k ≡ 7

    values : (theta eta : Pair) (effects : ℕ) → Seven (individual_values theta eta effects)
    unfolding Seven individual_values
    values theta eta effects = both Seven _ refl (both Seven _ (both Seven _ refl tt) tt)

    asks_for : c < most → (eta : Pair) (v : Answer Pair) → Seven v → TurnsTo (Break (B.ask_for p (B.counted w.tally) eta v))
    unfolding TurnsTo Says Seven B.ask_for B.awaiting B.refused_by B.idle B.with_search
    asks_for l eta (given v) s = ((refl, counts_up, l), rows_stay)
    asks_for l eta (refused k) s =
        let at = At.Subject p.subject in
        ((refl, subst (Refuses k at) (sym counts_up) (subst (λ (i : ℕ). Refuses i at (suc c)) (sym s) (tells.wild p.subject l))), rows_stay)

    asks : (eta : Pair) → TurnsTo (Break (B.ask fit p w.tally eta))
    unfolding B.ask
    asks eta =
        let e = g.calls in
        let m = fit_most setup h.parameters in
        cases (λ (x : Halted). TurnsTo (Break x)) (ltb w.tally.calls.0 fit.max_evaluations)
        (λ t. let l : w.tally.calls.0 < fit.max_evaluations = ltb-true _ _ t in asks_for (omega (arith, e, m, l)) eta _ (values _ eta _))
        (λ f. let l : fit.max_evaluations ≤ w.tally.calls.0 = ltb-false _ _ f in refuses 6 _ (tells.limit _ (omega (arith, e, m, l))))

    -- with any evaluation of a point that is wanted, one less is left
    abbrev Fewer : Type 0
    Fewer = (eta : Pair) (sums : Sums) → Left (eqb fit.effects 2) (a.left - 1) (B.advance_by fit p eta sums).progress

    advances : (eta : Pair) → Goes a.left Fewer (Wants.Point eta) → (sums : Sums) → Ahead n (B.advance_by fit p eta sums).progress
    unfolding Goes
    advances eta s sums =
        let e = (advanced_alike fit p eta sums).subject in
        record {
          subject = subst (λ (i : ℕ). i < length counts) (sym e) a.subject;
          left = a.left - 1;
          search = subst (λ (k : ℕ). Left (eqb k 2) (a.left - 1) (B.advance_by fit p eta sums).progress) (fit_effects setup h.parameters) (s.1 eta sums);
          enough = subst (λ (i : ℕ). a.left - 1 + (length counts - i) * 6344 ≤ n + 6343) (sym e) (go a.left (length counts - p.subject) s.0 a.enough);
        }
      where
        go : (m k : ℕ) → 1 ≤ m → m + k * 6344 ≤ suc n + 6343 → m - 1 + k * 6344 ≤ n + 6343
        go m k x y = omega arith

    by_recall : (eta : Pair) → ((sums : Sums) → Ahead n (B.advance_by fit p eta sums).progress) → (o : Option Recalled)
        → ((r : Recalled) → o ≡ Some r → length r.work ≡ length w.work)
        → Ends (ended (answered fit rows p w.tally eta w.work o).value (answered fit rows p w.tally eta w.work o).work w.warm w.results)
    unfolding answered take TurnsTo
    by_recall eta s (Some r) f = record { turned = s (B.sums_of r.terms); work = move_rows_length rows _ r.work ∙ f r refl ∙ g.work }
    by_recall eta s None f = record { turned = asks eta; work = g.work }

    -- ---- a mode
    abbrev subject : ℕ
    subject = raised p.subject 1

    raised_is : subject ≡ suc p.subject
    raised_is = mod-eq_of_lt (omega (arith, a.subject, few)) ∙ omega arith

    next : (m : Mode) (warm results : List ℕ)
        → Ends (ended (next_subject fit counts p w.tally m rows warm w.work).value (next_subject fit counts p w.tally m rows warm w.work).work warm results)
    unfolding next_subject TurnsTo
    next m warm results =
        cases (λ (x : Worked Turned). Ends (ended x.value x.work warm results)) (ltb subject (length counts))
        (λ t. record { turned = begun (ltb-true _ _ t) _ _ _ _; work = zeros_length _ ∙ g.work }) (λ f. record { turned = finishes _ _; work = g.work })
      where
        begun : subject < length counts → (first : ℕ) (warmth : Pair) (ofv squares : Float) → Ahead n (B.begin_subject fit.effects subject first warmth ofv squares)
        begun l first warmth ofv squares = unfold B.begin_subject in record {
          subject = l;
          left = 6343;
          search = begins N tells.known two fit.effects subject first warmth ofv squares;
          enough = subst (λ (i : ℕ). 6343 + (length counts - i) * 6344 ≤ n + 6343) (sym raised_is) (go a.left (length counts) p.subject a.subject a.enough);
        }
          where
            go : (m k i : ℕ) → i < k → m + (k - i) * 6344 ≤ suc n + 6343 → 6343 + (k - suc i) * 6344 ≤ n + 6343
            go m k i x y = omega arith

        finishes : (ofv squares : Float) → TurnsTo (Break (B.objective_of p w.tally ofv squares))
        finishes ofv squares =
            unfold B.objective_of in both (λ (x : Halted). TurnsTo (Break x)) (nonfinite ofv) (refuses 18 _ tells.total)
            (unfold TurnsTo Says B.finished in ((refl, g.calls), g.rows))

    closed : (k : Option Mode) → Ends (closing fit counts p w.tally rows w.work w.warm w.results k)
    unfolding closing
    closed None = refused_ends 16 _ _ _ (tells.mode 16 _ (omega arith) (omega arith))
    closed (Some m) = both Ends (is_same_grid w.work rows) (next m _ _) (refused_ends 17 _ _ _ (tells.mode 17 _ (omega arith) (omega arith)))

    -- ---- every request
    serves : (v : Request Pair) → Goes a.left Fewer v → Numbered N v
        → Ends (served_by words fit counts p w.tally w.kept w.work w.warm w.results v)
    unfolding served_by at_point at_mode Numbered
    serves (Wants.Point eta) s i = by_recall eta (advances eta s) _ (λ r q. recalled_length _ _ rows w.work (block rows 3) _ r q)
    serves Wants.Mode s i = closed (B.closed_by fit p rows)
    serves (Wants.Refused k) s i = refused_ends k _ _ _ (tells.ended k _ i)

    turns : Moves (turn_held words setup counts) Going Answered n (turn_held words setup counts h)
    unfolding turn_held turn turned served
    turns =
        let e = serves (B.wanted_by fit p) (points N tells.known fit p a.left (stands N tells.known _ a.left p fitted)) (refusals N tells.known fit p a.left fitted) in
        let x = served_by words fit counts p w.tally w.kept w.work w.warm w.results (B.wanted_by fit p) in
        closes x.turned x.work x.warm x.results e.turned e.work

  -- ---- a call's requests: they come to an answer, and more of them would change nothing
  module _ (few : length counts ≤ 4096) (t : Held words) (g : Going fuel t) where
    pub comes_to : Answered (loop (turn_held words setup counts) spent fuel t).answer (loop (turn_held words setup counts) spent fuel t).state
    comes_to = halts (turn_held words setup counts) Going Answered one_left (turns few) spent fuel t g

    pub never_spent : (other : Step) (more : ℕ) → loop (turn_held words setup counts) other (fuel + more) t ≡ loop (turn_held words setup counts) spent fuel t
    never_spent other more = unspent (turn_held words setup counts) Going Answered one_left (turns few) spent other fuel (fuel + more) t g (omega arith)
