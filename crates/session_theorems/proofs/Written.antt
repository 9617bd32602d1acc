-- What the lent words show of the log in every session, `every_word` (specs/Shown.antt): a turn writes a mode where the host reads it, the rows of its trials with it, and an objective begins with its
-- own parameters and warm starts. Assumes nothing.
use Rattle.std.specs.Prelude.{Err, None, Ok, Option, Some}
use mathlib.Core.Path.{◌≡◌, refl, sym, ap, subst, ◌∙◌}
use mathlib.Core.Bool.{true, false}
use mathlib.Core.List.{List, [], ◌∷◌, ◌++◌}
use mathlib.Core.Logic.{◌⊎◌, inl, inr}
use Prim.Native.Nat.{ℕ, suc, ◌+◌, ◌-◌, ◌*◌, ◌≤◌, ◌<◌}
use native.Mathlib.Nat.{mod-eq_of_lt, mul-le-mul_left, le_trans}
use native.Mathlib.Omega.{arith}
use lib.Dec.{T, ltb}
use lib.ListN.{get_or, length, take, drop, length-drop}
use lib.Seq.{length-take-le}
use lib.Ieee.{Float, eq}
use Rattle.float64.specs.Answer.{Answer, given, refused}
use Rattle.float64.specs.Arithmetic.{◌+ᶠ◌, ◌*ᶠ◌, word}
use Rattle.float64.specs.Float64.{nonfinite}
use Rattle.float64.specs.Pick.{pick, both, cases}
use Rattle.matrix.specs.declared.Pair.{Pair}
use Rattle.likelihood.specs.declared.population_focei.Observation.{Observation}
use Rattle.subject.specs.Claim.{Evaluates}
use Rattle.subject.specs.Subject.{Evaluating, finish, Evaluation}
use Rattle.subject.specs.declared.Sums.{Sums}
use Rattle.subject.specs.declared.Trial as Eval
use Rattle.subject.proofs.Ends.{evaluates}
use Rattle.cache.specs.Cache.{find, row_words}
use Rattle.cache.specs.Claim.{Room}
use Rattle.cache.specs.Kept.{words_from}
use Rattle.words.specs.Words.{zeros}
use Rattle.work.specs.Work.{rows_length, block, move_rows, is_same_grid, result_written, fitted_written}
use Rattle.work.specs.declared.Sources.{Sources}
use Rattle.setup.specs.declared.Setup.{Setup}
use Rattle.setup.specs.declared.Parameters.{Parameters}
use Rattle.setup.specs.declared.Lent.{Lent}
use Rattle.setup.proofs.Bounds.{shape_low}
use Rattle.search.specs.Subjects as B
use Rattle.search.specs.declared.Advanced.{Advanced}
use Rattle.search.specs.declared.Fit.{Fit}
use Rattle.search.specs.declared.Halted.{Halted}
use Rattle.search.specs.declared.Mode.{Mode}
use Rattle.search.specs.declared.Place.{Place}
use Rattle.search.specs.declared.Place.TheVariants as At
use Rattle.search.specs.declared.Progress.{Progress}
use Rattle.search.specs.declared.Step.{Step}
use Rattle.session.specs.declared.State.{State}
use Rattle.search.specs.declared.Tally.{Tally}
use Rattle.search.proofs.Fits.{fit_effects}
use Rattle.machine.specs.Log.{Searched}
use Rattle.machine.specs.Machine.{Moved, on, Machine, Act}
use Rattle.machine.specs.Observed.{View, wanted_at}
use Rattle.machine.specs.Rules.{Trial, point, mode}
use Rattle.population.specs.Kept.{Recalled, words}
use Rattle.population.specs.Population.{rows_of, warm_of, warm_stored, take as takes, answered, Worked, next_subject, raised, Ended, ended, closing, at_mode, at_point, served_by, served, is_over, turned, Turned}
use Rattle.population.specs.Population.{Whole, whole_of, moved, turn, receive}
use Rattle.session.specs.Session as N
use Rattle.session.specs.Session.{Held, held, Call, objective, reply, failure, session}
use Rattle.session_theorems.specs.Inner.{Inner, inner1, inner2, recalled_sums, recalled_work, recalled, running_sums, point_wanted, view}
use Rattle.session_theorems.specs.Shown.{Words, Objective, before, Summed, Reads, reads1, reads2, RunBy, Result, Trials, SameRow, SameRows, Fitted, InWords, Apart, showing, Shown, Shows, EveryWord}
use Rattle.session_theorems.proofs.Accepted.{Accepts, rows_within, accepts}
use Rattle.session_theorems.proofs.Always.{After, after_turn, after_entry, after_both}
use Rattle.session_theorems.proofs.Blocks.{words_at, words_are, rows_in, before_trial, moved_zero, moved_best, moved_latest, recalled_behind}
use Rattle.session_theorems.proofs.Entries.{block_end, enters}
use Rattle.session_theorems.proofs.Evaluated.{work_length, reply_length}
use Rattle.session_theorems.proofs.Fitting.{Fits}
use Rattle.session_theorems.proofs.Lengths.{AsLong, recalled_length}
use Rattle.session_theorems.proofs.ModeWords.{OfMode, Tells, tells1, tells2}
use Rattle.session_theorems.proofs.Placed.{before_later, all_before, rows_exact, Going, turns_going, enters_going, sets_going, opens_going}
use Rattle.session_theorems.proofs.Results.{Predicted, SameAt, result_kept, first_written, second_written, nll_written, fitted_written_lem, grid_same, grid_other}
use Rattle.session_theorems.proofs.Searches.{Suits, suits1, suits2, wants_of}
use Rattle.session_theorems.proofs.Session.{sets, lawful, opens_standing, some_room}
use Rattle.session_theorems.proofs.Standing.{Standing, advanced_alike}
use Rattle.session_theorems.proofs.Stores.{Trusted, words_trusted}
use Rattle.session_theorems.proofs.Trials.{Has, NthHas, SameBlocks}
use Rattle.session_theorems.proofs.Turns.{turns}
use Rattle.session_theorems.proofs.Words.{Keeps, Of, Opens, Carried, Closes, shown}
use Rattle.std.specs.declared.ops.ControlFlow.TheVariants.{Break, Continue}
use Rattle.subject.specs.declared.EvaluationError.TheVariants as E
use Rattle.setup.specs.declared.AdmissionError.TheVariants as A
use Rattle.setup.specs.Admission.{Admission}
use Rattle.mode.specs.declared.Request.{Request}
use Rattle.mode.specs.declared.Request.TheVariants as Wants

-- the sums so far
abbrev value_of : Progress → Summed
value_of p = record { objective = p.ofv; squares = p.eta_squares }

-- and with one mode more
abbrev with_mode : Progress → Mode → Summed
with_mode p m = record { objective = p.ofv +ᶠ m.term; squares = p.eta_squares +ᶠ m.eta.first *ᶠ m.eta.first }

-- an evaluated point leaves them as they are
same_value : (fit : Fit) (p : Progress) (eta : Pair) (sums : Sums) → value_of (B.advance_by fit p eta sums).progress ≡ value_of p
unfolding B.advance_by B.advance1 B.advance2 B.with_search
same_value fit p eta sums = both (λ (a : Advanced). value_of a.progress ≡ value_of p) _ refl refl

module _ (setup : Setup) (counts : List ℕ) (observations : List Observation) (I : Inner) (Q : Suits I setup.effects) (L : Reads I) (X : Tells I L setup.effects)
    (bound : Fits setup.eta_bound)
    (limit : setup.max_evaluations < 4294967296) (lent : Lent) (r₀ : List ℕ)
    (there : length observations ≡ lent.observations) (long : length r₀ ≡ lent.results) (a : Accepts setup counts lent) (room : Room setup.k) where
  abbrev U : Trusted words setup.k
  U = words_trusted setup.k room.some room.most

  abbrev M : Machine
  M = session words setup counts observations

  abbrev Y : View I.rules M
  Y = view words setup counts observations I

  abbrev Stands : Held words → Type 0
  Stands = Standing words setup counts observations I Q U

  abbrev Goes : Held words → Type 0
  Goes = Going setup counts observations lent a

  -- the settings of a subject's search, if it began here
  abbrev here : Held words → ℕ → I.rules.Settings
  here h i = L.settings setup h.parameters h.whole.warm i

  -- the sums so far, and the rows of the trials in the blocks of the work words
  abbrev value : Held words → Summed
  value h = value_of h.whole.progress

  abbrev Carries : List (Trial I.rules) → Held words → Type 0
  Carries ts h = X.Carried (Y.settings h) ts (I.search_of h.whole.progress) (rows_in (rows_of counts h.whole.progress.subject) h.whole.work)

  abbrev shows : Words I.rules M Y
  shows = showing setup counts observations I L

  abbrev Kept : Held words → Held words → Type 0
  Kept = Keeps I.rules I.claims M Y Stands (lawful words setup counts observations I Q U bound limit lent r₀ a) shows here value Carries

  abbrev Ends : Held words → Moved (Held words) Step → Type 0
  Ends = Closes I.rules I.claims M Y Stands (lawful words setup counts observations I Q U bound limit lent r₀ a) shows here value Carries

  abbrev Begins : Call → Held words → Moved (Held words) Step → Type 0
  Begins = Opens I.rules I.claims M Y Stands (lawful words setup counts observations I Q U bound limit lent r₀ a) shows here value Carries

  abbrev Got : Held words → Trial I.rules → Moved (Held words) Step → Type 0
  Got = Carried I.rules I.claims M Y Stands (lawful words setup counts observations I Q U bound limit lent r₀ a) shows here value Carries

  abbrev At_search : Searched I.rules → Held words → Type 0
  At_search = Of I.rules I.claims M Y Stands (lawful words setup counts observations I Q U bound limit lent r₀ a) shows here value Carries

  abbrev In : Searched I.rules → I.rules.Conditional → Held words → Type 0
  In = InWords setup counts observations I L

  abbrev Results : ℕ → I.rules.Conditional → List ℕ → Type 0
  Results = Result setup counts observations I L

  same_parameters : (c : Call) (h t : Held words) → t.parameters ≡ h.parameters → RunBy setup counts observations I L c h → RunBy setup counts observations I L c t
  same_parameters (objective parameters) h t e o = e ∙ o
  same_parameters (reply said) h t e o = o
  same_parameters failure h t e o = o

  module _ (h : Held words) (s : Stands h) (g : Goes h) where
    abbrev w : Whole words
    w = h.whole

    abbrev p : Progress
    p = w.progress

    abbrev j : ℕ
    j = p.subject

    abbrev fit : Fit
    fit = B.fit_of setup h.parameters

    abbrev rows : ℕ
    rows = rows_of counts j

    effects_are : fit.effects ≡ setup.effects
    effects_are = fit_effects setup h.parameters

    domain : I.claims.Domain (I.settings_of fit p)
    domain = Q.domain setup h.parameters p refl bound s.omega_in s.shape_in s.warm_fits

    first_is : p.first ≡ before counts j
    first_is = g.place.first

    rows_are : rows ≡ get_or counts j 0
    rows_are = rows_exact a j s.subject

    small : rows ≤ 100000
    small = (rows_within a j s.subject).1

    few : p.first ≤ 100000
    few = let e = first_is in let m = all_before a j s.subject in omega (arith, e, m, a.all)

    -- what is written, beside the subject's own words
    record Writes (warm results : List ℕ) : Type 0 where
      others : (i : ℕ) → (i ≡ j → ⊥) → L.settings setup h.parameters warm i ≡ L.settings setup h.parameters w.warm i
      stays : (i : ℕ) → (i ≡ j → ⊥) → (b : I.rules.Conditional) → L.Warm i b w.warm → L.Warm i b warm
      kept : (x : ℕ) → (x < 3 * j) ⊎ ((3 * length counts ≤ x) × (x < 3 * length counts + 2 * before counts j)) → get_or results x 0 ≡ get_or w.results x 0

    nothing : Writes w.warm w.results
    nothing = record { others = λ i d. refl; stays = λ i d b q. q; kept = λ x o. refl }

    still_in : (warm results : List ℕ) → Writes warm results → (q : Progress) (tally : Tally) (kept : words.Kept) (work : List ℕ) (x : Searched I.rules) (m : I.rules.Conditional)
        → x.subject < j → In x m h
        → In x m (held words h.parameters (whole_of words q tally kept work warm results))
    still_in warm results v q tally kept work x m l o =
        let i = x.subject in
        let c : (y : ℕ) → y < 3 * j → get_or results y 0 ≡ get_or w.results y 0 = λ y z. v.kept y (inl z) in
        let f : (k : ℕ) → k < get_or counts i 0 → (y : ℕ) → 3 * length counts + 2 * (before counts i + k) ≤ y → y < 3 * length counts + 2 * (before counts i + k) + 2 → get_or results y 0 ≡ get_or
        w.results y 0 =
        λ k z y u t. v.kept y (inr (omega (arith, u), let e = before_later counts i j l in omega (arith, z, t, e))) in
        record {
          warm = v.stays i (λ e. omega (arith, e, l)) m o.warm;
          result = record {
            first = c (3 * i) (omega (arith, l)) ∙ o.result.first;
            second = c (3 * i + 1) (omega (arith, l)) ∙ o.result.second;
            nll = c (3 * i + 2) (omega (arith, l))
                ∙ o.result.nll;
          };
          both = o.both;
          same = o.same;
          fitted = record { population = λ k z. f k z _ (omega arith) (omega arith) ∙ o.fitted.population k z; individual = λ k z. f k z _ (omega arith) (omega arith) ∙ o.fitted.individual k z };
        }

    keeps : (q : Progress) (tally : Tally) (kept : words.Kept) (work warm results : List ℕ) → Writes warm results → Kept h (held words h.parameters (whole_of words q tally kept work warm results))
    keeps q tally kept work warm results v = record {
      before = λ x m l o. still_in warm results v q tally kept work x m l o;
      behind = λ i l. v.others i (λ e. omega (arith, e, l));
      runs = λ c o. same_parameters c _ _ refl o;
    }

    abbrev close_turn : Ended → Moved (Held words) Step
    close_turn e = N.held_by words h.parameters (moved words w.tally w.kept (pick (is_over e.turned) (zeros (length e.work)) e.work) e.warm e.results e.turned)

    keeps_turn : (t : Turned) (work warm results : List ℕ) → Writes warm results → After (Kept h) (N.held_by words h.parameters (moved words w.tally w.kept work warm results t))
    unfolding After N.held_by moved
    keeps_turn (Continue q) work warm results v = keeps q w.tally w.kept work warm results v
    keeps_turn (Break x) work warm results v = keeps x.progress x.tally w.kept work warm results v

    -- ---- the mode's words
    module _ (m : Mode) (o : OfMode I L m (I.rules.best (I.search_of p))) where
      abbrev stored : List ℕ
      stored = warm_stored fit.effects j m.eta w.warm

      abbrev written : List ℕ
      written = fitted_written (length counts) p.first w.work rows (result_written j m.eta m.nll w.results)

      warm_other : (i : ℕ) → (i ≡ j → ⊥) → L.settings setup h.parameters stored i ≡ L.settings setup h.parameters w.warm i
      warm_other i d = ap (λ (n : ℕ). L.settings setup h.parameters (warm_stored n j m.eta w.warm) i) effects_are ∙ X.others setup h.parameters i j d m.eta w.warm

      warm_stays : (i : ℕ) → (i ≡ j → ⊥) → (b : I.rules.Conditional) → L.Warm i b w.warm → L.Warm i b stored
      warm_stays i d b q = subst (λ (n : ℕ). L.Warm i b (warm_stored n j m.eta w.warm)) (sym effects_are) (X.stays i j d m.eta w.warm b q)

      warm_in : L.Warm j (I.rules.best (I.search_of p)) stored
      warm_in = subst (λ (n : ℕ). L.Warm j (I.rules.best (I.search_of p)) (warm_stored n j m.eta w.warm)) (sym effects_are)
          (X.stores j m _ w.warm o (le_trans (mul-le-mul_left setup.effects s.subject) (subst (λ (n : ℕ). setup.effects * length counts ≤ n) (sym g.warm) a.warm_lent)))

      lent_results : 3 * length counts + 2 * (p.first + rows) ≤ length w.results
      lent_results =
          let e = first_is in let r = rows_are in let m = all_before a j s.subject in
          subst (λ (n : ℕ). 3 * length counts + 2 * (p.first + rows) ≤ n) (sym g.results) (omega (arith, e, r, m, a.results_lent))

      result_in : Results j (I.rules.best (I.search_of p)) written
      result_in = record {
        first = first_written (length counts) p.first w.work rows a.most few small j m.eta m.nll w.results s.subject lent_results ∙ o.first;
        second = second_written (length counts) p.first w.work rows a.most few small j m.eta m.nll w.results s.subject lent_results ∙ o.second;
        nll = nll_written (length counts) p.first w.work rows a.most few small j m.eta m.nll w.results s.subject lent_results ∙ o.nll;
      }

      result_stays : (x : ℕ) → (x < 3 * j) ⊎ ((3 * length counts ≤ x) × (x < 3 * length counts + 2 * before counts j)) → get_or written x 0 ≡ get_or w.results x 0
      result_stays x (inl l) = result_kept (length counts) p.first w.work rows a.most few small j m.eta m.nll w.results x (let q = s.subject in omega (arith, l, q)) (inl l)
      result_stays x (inr l) =
          let e = first_is in let q = s.subject in let y = l.0 in let z = l.1 in
          result_kept (length counts) p.first w.work rows a.most few small j m.eta m.nll w.results x (omega (arith, z, e)) (inr (omega (arith, y, q)))

      writes_warm : Writes stored w.results
      writes_warm = record { others = warm_other; stays = warm_stays; kept = λ x l. refl }

      writes_all : Writes stored written
      writes_all = record { others = warm_other; stays = warm_stays; kept = result_stays }

      -- ---- its trials
      module _ (wants : B.wanted_by fit p ≡ Wants.Mode) (x : Searched I.rules) (i : At_search x h) where
        abbrev best : I.rules.Conditional
        best = I.rules.best (I.search_of p)

        found : NthHas I.rules L.Zero L.zero_at x.trials (rows_in rows w.work 0) × Has I.rules x.trials best (rows_in rows w.work 1)
        found = X.ends fit p effects_are domain wants x.trials (rows_in rows w.work) i.carries

        abbrev trials : Trials setup counts observations I L x best
        trials = record { zero = found.0.trial; mode = found.1.trial; at_zero = found.0.nth; is_zero = found.0.holds; tried = found.1.tried; is = found.1.point_is }

        count_is : get_or counts x.subject 0 ≡ rows
        count_is = ap (λ (n : ℕ). get_or counts n 0) i.number ∙ sym rows_are

        -- a word of the rows, as it stands in a block
        word_of : (b : ℕ) (v : List ℕ) → v ≡ rows_in rows w.work b → (k d : ℕ) → k < rows → d < 3 → get_or v (row_words * k + d) 0 ≡ get_or w.work (block rows b + row_words * k + d) 0
        word_of b v e k d l z =
            let n : 100000 - (100000 - rows) ≡ rows = omega (arith, small) in
            ap (λ (u : List ℕ). get_or u (row_words * k + d) 0) e ∙ words_at (rows_length rows) (block rows b) w.work (row_words * k + d) (omega (arith, l, z, n))
            ∙ ap (λ (y : ℕ). get_or w.work y 0) (let q : block rows b + (row_words * k + d) ≡ block rows b + row_words * k + d = omega arith in q)

        first_of : (b : ℕ) (v : List ℕ) → v ≡ rows_in rows w.work b → (k : ℕ) → k < rows → get_or v (row_words * k) 0 ≡ get_or w.work (block rows b + row_words * k) 0
        first_of b v e k l =
            ap (λ (y : ℕ). get_or v y 0) (let q : row_words * k ≡ row_words * k + 0 = omega arith in q) ∙ word_of b v e k 0 l (omega arith)
            ∙ ap (λ (y : ℕ). get_or w.work y 0) (let q : block rows b + row_words * k + 0 ≡ block rows b + row_words * k = omega arith in q)

        -- the rows of the two trials are those that the blocks have
        abbrev zeros_are : found.0.trial.rows ≡ rows_in rows w.work 0
        zeros_are = found.0.rows_are

        abbrev modes_are : found.1.trial.rows ≡ rows_in rows w.work 1
        modes_are = found.1.rows_are

        row_same : (k : ℕ) → k < rows → SameAt w.work rows k → SameRow setup counts observations I L trials.zero trials.mode k
        row_same k l q = (
          subst (λ (n : ℕ). T (eq (word n) (word (get_or trials.mode.rows (row_words * k + 1) 0)))) (sym (word_of 0 _ zeros_are k 1 l (omega arith)))
              (subst (λ (n : ℕ). T (eq (word (get_or w.work (block rows 0 + row_words * k + 1) 0)) (word n))) (sym (word_of 1 _ modes_are k 1 l (omega arith))) q.0),
          word_of 0 _ zeros_are k 2 l (omega arith) ∙ q.1 ∙ sym (word_of 1 _ modes_are k 2 l (omega arith)),
        )

        row_so : (k : ℕ) → k < rows → SameRow setup counts observations I L trials.zero trials.mode k → SameAt w.work rows k
        row_so k l q = (
          subst (λ (n : ℕ). T (eq (word n) (word (get_or w.work (block rows 1 + row_words * k + 1) 0)))) (word_of 0 _ zeros_are k 1 l (omega arith))
              (subst (λ (n : ℕ). T (eq (word (get_or trials.zero.rows (row_words * k + 1) 0)) (word n))) (word_of 1 _ modes_are k 1 l (omega arith)) q.0),
          sym (word_of 0 _ zeros_are k 2 l (omega arith)) ∙ q.1 ∙ word_of 1 _ modes_are k 2 l (omega arith),
        )

        inside : {k : ℕ} → k < get_or counts x.subject 0 → k < rows
        inside {k} l = subst (λ (n : ℕ). k < n) count_is l

        rows_same : is_same_grid w.work rows ≡ true → SameRows setup counts observations I L x best trials
        rows_same e = λ k l. row_same k (inside l) (grid_same w.work rows small e k (inside l))

        rows_other : is_same_grid w.work rows ≡ false → SameRows setup counts observations I L x best trials → ⊥
        rows_other e f = grid_other w.work rows small e (λ k l. row_so k l (f k (subst (λ (n : ℕ). k < n) (sym count_is) l)))

        place_is : (k : ℕ) → 3 * length counts + 2 * (before counts x.subject + k) ≡ 3 * length counts + 2 * p.first + 2 * k
        place_is k = let e : before counts x.subject ≡ p.first = ap (before counts) i.number ∙ sym first_is in omega (arith, e)

        predicted : (k : ℕ) → k < rows → Predicted (3 * length counts + 2 * p.first) w.work rows k written
        predicted k l = fitted_written_lem (length counts) p.first w.work rows a.most few small j m.eta m.nll w.results s.subject lent_results k l

        fits : Fitted setup counts observations I L x best trials written
        fits = record {
          population = λ k l. ap (λ (n : ℕ). get_or written n 0) (place_is k) ∙ (predicted k (inside l)).population ∙ sym (first_of 0 _ zeros_are k (inside l));
          individual = λ k l. ap (λ (n : ℕ). get_or written (n + 1) 0) (place_is k) ∙ (predicted k (inside l)).individual ∙ sym (first_of 1 _ modes_are k (inside l));
        }

        at_own : (P : ℕ → Type 0) → P j → P x.subject
        at_own P q = subst P (sym i.number) q

        in_words : (q : Progress) (tally : Tally) (work : List ℕ) → is_same_grid w.work rows ≡ true → In x best (held words h.parameters (whole_of words q tally w.kept work stored written))
        in_words q tally work e = record {
          warm = at_own (λ (n : ℕ). L.Warm n best stored) warm_in;
          result = at_own (λ (n : ℕ). Results n best written) result_in;
          both = trials;
          same = rows_same e;
          fitted = fits;
        }

        apart : (q : Progress) (tally : Tally) (work : List ℕ) → is_same_grid w.work rows ≡ false → Apart setup counts observations I L x best
            (held words h.parameters (whole_of words q tally w.kept work stored w.results))
        apart q tally work e = record { warm = at_own (λ (n : ℕ). L.Warm n best stored) warm_in; both = trials; other = rows_other e }

        -- its part of the sums
        adds_up : B.closed_by fit p rows ≡ Some m → with_mode p m ≡ shows.with_mode x best (value_of p)
        adds_up q =
            let st = i.settings in
            let squares = ap (λ (v : Float). p.eta_squares +ᶠ v) o.square in
            let sum = ap (λ (v : Float). p.ofv +ᶠ v) (X.adds setup h.parameters p rows m refl s.omega_in q
            ∙ ap (λ (n : ℕ). L.term setup (I.settings_of fit p) n best) (sym count_is) ∙ ap (λ (v : I.rules.Settings). L.term setup v (get_or counts x.subject 0) best) (sym st)) in
            λ d. record { objective = sum d; squares = squares d }

        -- and what is given of them at the end, where the objective stands at q
        gives_sums : B.closed_by fit p rows ≡ Some m → (q : Progress) → q.eta_squares ≡ (with_mode p m).squares
            → ((with_mode p m).objective ≡ (shows.with_mode x best (value_of p)).objective)
            × L.Shrinks (record { parameters = h.parameters; progress = q; order = w.kept.order }) (length counts) (shows.with_mode x best (value_of p)).squares
        gives_sums c q e =
            let v = adds_up c in
            let state : State = record { parameters = h.parameters; progress = q; order = w.kept.order } in
            (ap (λ (v : Summed). v.objective) v, subst (λ (n : Float). L.Shrinks state (length counts) n) (e ∙ ap (λ (v : Summed). v.squares) v) (X.shrinks state (length counts)))

    -- ---- what a request writes
    by_closed : (c : Option Mode) → B.closed_by fit p rows ≡ c → let e = closing fit counts p w.tally rows w.work w.warm w.results c in Writes e.warm e.results
    unfolding closing
    by_closed None q = nothing
    by_closed (Some m) q =
        let o = X.modes fit p rows m effects_are q in
        both (λ (e : Ended). Writes e.warm e.results) (is_same_grid w.work rows) (writes_all m o) (writes_warm m o)

    by_wanted : (v : Request Pair) → let e = served_by words fit counts p w.tally w.kept w.work w.warm w.results v in Writes e.warm e.results
    unfolding served_by at_mode
    by_wanted (Wants.Point eta) = nothing
    by_wanted Wants.Mode = by_closed (B.closed_by fit p rows) refl
    by_wanted (Wants.Refused n) = nothing

    turns_keep : After (Kept h) (N.turn_held words setup counts h)
    unfolding N.turn_held turn turned served
    turns_keep = keeps_turn _ _ _ _ (by_wanted (B.wanted_by fit p))

    -- ---- a mode
    refuses : (n : ℕ) (place : Place) (work warm results : List ℕ)
        → (let q = B.refused_by p w.tally (B.refusal n place) in (k : ℕ) → k ≡ n → (x : Searched I.rules) → At_search x h
        → shows.Remains k x (I.rules.best (I.search_of p)) (shows.with_mode x (I.rules.best (I.search_of p)) (value_of p)) (held words h.parameters
        (whole_of words q.progress q.tally w.kept (pick (B.is_over q.step) (zeros (length work)) work) warm results)))
        → Ends h (close_turn (ended (Break (B.refused_by p w.tally (B.refusal n place))) work warm results))
    unfolding Closes N.held_by moved is_over B.refused_by
    refuses n place work warm results f = (λ e. absurd (let z : ◌≡◌ {A = ℕ} 0 1 = cc in omega arith), λ k e x i. f k (let q : k ≡ n = cc in q) x i)

    -- a search that has just begun carries nothing yet
    nothing_carried : (st : I.rules.Settings) (effects subject first : ℕ) (warm : Pair) (ofv squares : Float) (rows : ℕ → List ℕ) → X.Carried st []
        (I.search_of (B.begin_subject effects subject first warm ofv squares)) rows
    nothing_carried st effects subject first warm ofv squares rows =
        subst (λ (x : I.rules.Search). X.Carried st [] x rows) (sym (Q.starts effects subject first warm ofv squares)) (X.begun st rows)

    module _ (m : Mode) (o : OfMode I L m (I.rules.best (I.search_of p))) (wants : B.wanted_by fit p ≡ Wants.Mode) (positive : B.closed_by fit p rows ≡ Some m) where
      abbrev next : ℕ
      next = raised j 1

      next_is : next ≡ suc j
      next_is = mod-eq_of_lt (let l = s.subject in let k = a.most in omega (arith, l, k)) ∙ omega arith

      abbrev sum : Float
      sum = (with_mode p m).objective

      abbrev squares : Float
      squares = (with_mode p m).squares

      module _ (same : is_same_grid w.work rows ≡ true) where
        begins : (first : ℕ) (work : List ℕ) → Ends h
            (close_turn (ended (Continue (B.begin_subject fit.effects next first (warm_of (stored m o) fit.effects next) sum squares)) work (stored m o) (written m o)))
        unfolding Closes N.held_by moved is_over pick B.begin_subject
        begins first work = (
          λ x i. (in_words m o wants x i _ _ _ same, adds_up m o wants x i positive),
          X.starts setup h.parameters (B.begin_subject fit.effects next first (warm_of (stored m o) fit.effects next) sum squares) (stored m o) next refl
              (ap (λ (n : ℕ). warm_of (stored m o) n next) effects_are)
              ∙ ap (L.settings setup h.parameters (stored m o)) next_is ∙ warm_other m o (suc j) (λ e. omega (arith, e)),
          nothing_carried _ fit.effects next first (warm_of (stored m o) fit.effects next) sum squares _,
        )

        finishes : Ends h (close_turn (ended (Break (B.objective_of p w.tally sum squares)) w.work (stored m o) (written m o)))
        unfolding B.objective_of B.finished
        finishes = cases (λ (x : Halted). Ends h (close_turn (ended (Break x) w.work (stored m o) (written m o)))) (nonfinite sum)
            (λ t. refuses 18 At.Nowhere w.work (stored m o) (written m o)
            (λ k e x i. inr (inr (e, in_words m o wants x i _ _ _ same, subst (λ (v : Summed). T (nonfinite v.objective)) (adds_up m o wants x i positive) (subst T (sym t) tt)))))
            (λ t. unfold Closes N.held_by moved is_over in (λ e x i. (in_words m o wants x i _ _ _ same, gives_sums m o wants x i positive (B.finished p sum squares) refl), λ k e. absurd (let z : ◌≡◌ {A = ℕ} 0 1 = cc in omega arith)))

        next_or_end : Ends h (close_turn (ended (next_subject fit counts p w.tally m rows (stored m o) w.work).value
            (next_subject fit counts p w.tally m rows (stored m o) w.work).work (stored m o) (written m o)))
        unfolding next_subject
        next_or_end = both (λ (x : Worked Turned). Ends h (close_turn (ended x.value x.work (stored m o) (written m o)))) (ltb next (length counts))
            (begins _ (zeros (length w.work))) finishes

    mode_ends : B.wanted_by fit p ≡ Wants.Mode → (c : Option Mode) → B.closed_by fit p rows ≡ c → Ends h (close_turn (closing fit counts p w.tally rows w.work w.warm w.results c))
    unfolding closing
    mode_ends wants None q = refuses 16 (At.Subject p.subject) w.work w.warm w.results
        (λ k e x i. inl (e, subst (λ (st : I.rules.Settings). L.Flat st (I.rules.best (I.search_of p))) (sym i.settings) (X.flat fit p rows effects_are q)))
    mode_ends wants (Some m) q =
        let o = X.modes fit p rows m effects_are q in
        cases (λ (x : Ended). Ends h (close_turn x)) (is_same_grid w.work rows) (next_or_end m o wants q)
        (λ e. refuses 17 (At.Subject p.subject) w.work (stored m o) w.results (λ k r x i. inr (inl (r, apart m o wants x i _ _ _ e))))

    turn_ends : (v : Request Pair) → B.wanted_by fit p ≡ v → wants_of I v ≡ mode → Ends h (close_turn (served_by words fit counts p w.tally w.kept w.work w.warm w.results v))
    unfolding served_by at_mode
    turn_ends (Wants.Point eta) q e = absurd (let z : ◌≡◌ {A = ℕ} 0 1 = cc in omega arith)
    turn_ends Wants.Mode q e = mode_ends q (B.closed_by fit p rows) refl
    turn_ends (Wants.Refused n) q e = absurd (let z : ◌≡◌ {A = ℕ} 0 1 = cc in omega arith)

    turns_end : wanted_at I.rules M Y h ≡ mode → Ends h (N.turn_held words setup counts h)
    unfolding N.turn_held turn turned served
    turns_end e = turn_ends (B.wanted_by fit p) refl (Q.wants fit p effects_are ∙ e)

    -- ---- the rows of a trial
    len_is : rows_length rows ≡ row_words * rows
    len_is = let e : 100000 - (100000 - rows) ≡ rows = omega (arith, small) in omega (arith, e)

    roomy : rows_length rows * 4 ≤ length w.work
    roomy = let e = len_is in let l = s.roomy j s.subject in omega (arith, e, l)

    -- where only the trial block is written, the search with that trial carries its rows
    module _ (eta : Pair) (sums : Sums) (wants : B.wanted_by fit p ≡ Wants.Point eta) (work : List ℕ) (Long-as : AsLong w.work work)
        (untouched : (i : ℕ) → i < block rows 3 → get_or work i 0 ≡ get_or w.work i 0)
        (t : Trial I.rules) (is : t.point ≡ I.conditional_of fit eta sums) (own : t.rows ≡ rows_in rows work 3) where
      abbrev moves : Sources
      moves = (B.advance_by fit p eta sums).sources

      abbrev then : Progress
      then = (B.advance_by fit p eta sums).progress

      carried : (ts : List (Trial I.rules)) → Carries ts h → X.Carried (I.settings_of fit then) (ts ++ (t ∷ [])) (I.search_of then)
          (rows_in (rows_of counts then.subject) (move_rows rows moves work))
      carried ts c =
          let f = X.movable fit p eta sums effects_are in
          let l : rows_length rows * 4 ≤ length work = subst (λ (n : ℕ). rows_length rows * 4 ≤ n) (sym Long-as) roomy in
          let n : SameBlocks (rows_in rows w.work) (rows_in rows work) = record {
            zero = before_trial rows 0 w.work work (omega arith) untouched;
            best = before_trial rows 1 w.work work
                (omega arith) untouched;
            latest = before_trial rows 2 w.work work (omega arith) untouched;
          } in
          let d = X.steps fit p eta sums effects_are wants ts (rows_in rows work) (rows_in rows (move_rows rows moves work)) t is own (record {
            zero = moved_zero rows moves work l f.zero f.best f.latest;
            best = moved_best rows moves work l f.zero f.best f.latest;
            latest = moved_latest rows moves work l f.zero f.best f.latest;
          }) (X.same (I.settings_of fit p) ts (I.search_of p) (rows_in rows w.work) (rows_in rows work) n c) in
          let e = advanced_alike fit p eta sums in
          subst (λ (st : I.rules.Settings). X.Carried st (ts ++ (t ∷ [])) (I.search_of then) (rows_in (rows_of counts then.subject) (move_rows rows moves work)))
          (sym (Q.settings fit p then e.warm))
          (subst (λ (i : ℕ). X.Carried (I.settings_of fit p) (ts ++ (t ∷ [])) (I.search_of then) (rows_in (rows_of counts i) (move_rows rows moves work))) (sym e.subject) d)

      goes_on_carries : Got h t (close_turn (ended (Continue then) (move_rows rows moves work) w.warm w.results))
      unfolding Carried N.held_by moved is_over pick
      goes_on_carries = (same_value fit p eta sums, λ ts c. carried ts c)

    -- a question leaves all as it is
    asked_carries : (eta : Pair) (v : Answer Pair) → Got h (Y.kept h (I.point_of eta)) (close_turn (ended (Break (B.ask_for p (B.counted w.tally) eta v)) w.work w.warm w.results))
    unfolding Carried N.held_by moved is_over pick B.ask_for B.refused_by B.is_over B.idle B.with_search B.awaiting
    asked_carries eta (given v) t = (
      refl,
      λ ts c. subst (λ (st : I.rules.Settings). X.Carried st ts (I.search_of (B.awaiting p v)) (rows_in rows w.work))
          (sym (Q.settings fit p (B.awaiting p v) refl))
          (subst (λ (x : I.rules.Search). X.Carried (I.settings_of fit p) ts x (rows_in rows w.work)) (sym (Q.waits p v)) c),
    )
    asked_carries eta (refused n) t = absurd (subst T (sym t) tt)

    short_carries : (eta : Pair) → Got h (Y.kept h (I.point_of eta)) (close_turn (ended (Break (B.refused_by p w.tally (B.refusal 6 (At.Subject p.subject)))) w.work w.warm w.results))
    unfolding Carried N.held_by moved is_over pick B.refused_by B.is_over B.idle B.with_search
    short_carries eta t = absurd (subst T (sym t) tt)

    abbrev recalled_at : Pair → Option Recalled
    recalled_at eta = recalled words setup counts observations I h eta

    by_recall : (eta : Pair) → B.wanted_by fit p ≡ Wants.Point eta → (v : Option Recalled) → recalled_at eta ≡ v
        → Got h (Y.kept h (I.point_of eta)) (close_turn (ended (answered fit rows p w.tally eta w.work v).value (answered fit rows p w.tally eta w.work v).work w.warm w.results))
    unfolding answered takes
    by_recall eta wants None q = unfold B.ask in both (λ (x : Halted). Got h (Y.kept h (I.point_of eta)) (close_turn (ended (Break x) w.work w.warm w.results))) _
        (asked_carries eta _) (short_carries eta)
    by_recall eta wants (Some r) q =
        let same_point : recalled_at (I.pair_of (I.point_of eta)) ≡ Some r = ap recalled_at (Q.pairs fit p eta effects_are wants) ∙ q in
        let is : (Y.kept h (I.point_of eta)).point ≡ I.conditional_of fit eta (B.sums_of r.terms) = ap (λ (x : Pair). I.conditional_of fit x (recalled_sums (recalled_at x)))
        (Q.pairs fit p eta effects_are wants) ∙ ap (λ (u : Option Recalled). I.conditional_of fit eta (recalled_sums u)) q in
        let own : (Y.kept h (I.point_of eta)).rows ≡ rows_in rows r.work 3 = ap (λ (u : Option Recalled). words_from (row_words * rows) (recalled_work u) (block rows 3)) same_point ∙ ap
        (λ (n : ℕ). words_from n r.work (block rows 3)) (sym len_is) in
        let f = find w.kept.words fit.k w.kept.order (B.key_of fit j eta) in
        goes_on_carries eta (B.sums_of r.terms) wants r.work (recalled_length w.kept.words fit.k rows w.work (block rows 3) f r q)
        (recalled_behind w.kept.words fit.k rows w.work (block rows 3) f r q) (Y.kept h (I.point_of eta)) is own

    turn_carries : (v : Request Pair) → B.wanted_by fit p ≡ v → (y : I.rules.Point) → wants_of I v ≡ point y → Got h (Y.kept h y)
        (close_turn (served_by words fit counts p w.tally w.kept w.work w.warm w.results v))
    unfolding served_by at_point
    turn_carries (Wants.Point eta) q y e =
        let v = answered fit rows p w.tally eta w.work (recalled_at eta) in
        subst (λ (z : I.rules.Point). Got h (Y.kept h z) (close_turn (ended v.value v.work w.warm w.results))) (let z : I.point_of eta ≡ y = cc in z)
        (by_recall eta q (recalled_at eta) refl)
    turn_carries Wants.Mode q y e = absurd (let z : ◌≡◌ {A = ℕ} 0 1 = cc in omega arith)
    turn_carries (Wants.Refused n) q y e = absurd (let z : ◌≡◌ {A = ℕ} 0 1 = cc in omega arith)

    turns_carry : (y : I.rules.Point) → wanted_at I.rules M Y h ≡ point y → Got h (Y.kept h y) (N.turn_held words setup counts h)
    unfolding N.turn_held turn turned served
    turns_carry y e = turn_carries (B.wanted_by fit p) refl y (Q.wants fit p effects_are ∙ e)

    -- ---- entries
    same_kept : Kept h h
    same_kept = record { before = λ i b l o. o; behind = λ i l. refl; runs = λ c o. o }

    unaltered_kept : (number : ℕ) (place : Place) → After (Kept h) (N.unaltered words number place h)
    unfolding After
    unaltered_kept number place = same_kept

    when_admitted_lem : (go : Moved (Held words) Step) (v : Admission) → After (Kept h) go → After (Kept h) (N.when_admitted words h go v)
    unfolding N.when_admitted
    when_admitted_lem go (Ok tt) f = f
    when_admitted_lem go (Err (A.Refused n)) f = unaltered_kept n _
    when_admitted_lem go (Err (A.Unsound place)) f = unaltered_kept 4 _

    over_kept : (number : ℕ) (place : Place) → After (Kept h) (N.over words number place h)
    unfolding After N.over
    over_kept number place = keeps _ _ _ _ _ _ nothing

    replied_kept : (eta : Pair) (work : List ℕ) (e : Evaluation) → After (Kept h) (N.replied words counts fit eta h work e)
    unfolding After N.replied
    replied_kept eta work (Ok sums) = keeps _ _ _ _ _ _ nothing
    replied_kept eta work (Err (E.Refused n)) = over_kept n _
    replied_kept eta work (Err (E.RefusedAt n i)) = over_kept n _

    at_wanted_lem : (n : ℕ) (go : Pair → Moved (Held words) Step) → ((eta : Pair) → After (Kept h) (go eta)) → (v : Request Pair) → After (Kept h)
        (N.at_wanted words setup counts n (N.all_checked setup counts observations) h go v)
    unfolding N.at_wanted
    at_wanted_lem n go f (Wants.Point eta) = when_admitted_lem (go eta) _ (f eta)
    at_wanted_lem n go f Wants.Mode = unaltered_kept 19 _
    at_wanted_lem n go f (Wants.Refused number) = unaltered_kept 19 _

    when_awaited_lem : (n : ℕ) (go : Pair → Moved (Held words) Step) → ((eta : Pair) → After (Kept h) (go eta)) → After (Kept h)
        (N.when_awaited words setup counts n (N.all_checked setup counts observations) h go)
    unfolding N.when_awaited
    when_awaited_lem n go f = both (After (Kept h)) _ (both (After (Kept h)) _ (at_wanted_lem n go f _) (unaltered_kept 19 _)) (unaltered_kept 19 _)

    enters_keep : (c : Call) → p.awaits ≡ true → After (Kept h) (N.enter words setup counts observations c h)
    unfolding N.enter N.enter_reply N.enter_failure N.enter_objective N.answered
    enters_keep (objective parameters) t = cases (After (Kept h)) p.awaits (λ e. unaltered_kept 19 At.Nowhere) (λ e. absurd (subst T (sym t ∙ e) tt))
    enters_keep (reply said) t = when_awaited_lem _ _ (λ eta. replied_kept eta _ _)
    enters_keep failure t = when_awaited_lem _ _ (λ eta. over_kept 8 _)

    -- ---- a reply's rows
    unaltered_carries : (u : Trial I.rules) (number : ℕ) (place : Place) → Got h u (N.unaltered words number place h)
    unfolding Carried
    unaltered_carries u number place t = (refl, λ ts c. c)

    admitted_carries : (u : Trial I.rules) (go : Moved (Held words) Step) (v : Admission) → Got h u go → Got h u (N.when_admitted words h go v)
    unfolding N.when_admitted
    admitted_carries u go (Ok tt) f = f
    admitted_carries u go (Err (A.Refused n)) f = unaltered_carries u n _
    admitted_carries u go (Err (A.Unsound place)) f = unaltered_carries u 4 _

    over_carries : (u : Trial I.rules) (number : ℕ) (place : Place) → Got h u (N.over words number place h)
    unfolding Carried N.over B.idle B.with_search
    over_carries u number place t = absurd (subst T (sym t) tt)

    wanted_carries : (u : Trial I.rules) (n : ℕ) (go : Pair → Moved (Held words) Step) (v : Request Pair) → ((eta : Pair) → v ≡ Wants.Point eta → Got h u (go eta)) → Got h u
        (N.at_wanted words setup counts n (N.all_checked setup counts observations) h go v)
    unfolding N.at_wanted
    wanted_carries u n go (Wants.Point eta) f = admitted_carries u (go eta) _ (f eta refl)
    wanted_carries u n go Wants.Mode f = unaltered_carries u 19 _
    wanted_carries u n go (Wants.Refused number) f = unaltered_carries u 19 _

    awaited_carries : (u : Trial I.rules) (n : ℕ) (go : Pair → Moved (Held words) Step) → ((eta : Pair) → B.wanted_by fit p ≡ Wants.Point eta → Got h u (go eta)) → Got h u
        (N.when_awaited words setup counts n (N.all_checked setup counts observations) h go)
    unfolding N.when_awaited
    awaited_carries u n go f = both (Got h u) _ (both (Got h u) _ (wanted_carries u n go (B.wanted_by fit p) f) (unaltered_carries u 19 _)) (unaltered_carries u 19 _)

    module _ (said : List ℕ) (eta : Pair) (wants : B.wanted_by fit p ≡ Wants.Point eta) where
      abbrev lists : List Observation
      lists = take rows (drop p.first observations)

      abbrev trial : Eval.Trial
      trial = N.trial_of words setup counts fit p

      abbrev end : Evaluating
      end = N.evaluated words setup counts observations fit said p w.work

      -- all of the subject's observations are lent
      all_there : length lists ≡ rows
      all_there =
          let e = first_is in let r = rows_are in let m = all_before a j s.subject in let n = there in
          length-take-le rows (drop p.first observations) (let d = length-drop p.first observations in omega (arith, d, e, r, m, n))

      ends : Evaluates trial setup.output_budget said lists w.work
      ends = evaluates trial setup.output_budget said lists w.work (let n = all_there in omega (arith, n, small))

      block_there : block rows 3 + row_words * length lists ≤ length w.work
      block_there = let b = block_end rows small in let n = all_there in let l = s.roomy j s.subject in omega (arith, b, n, l)

      replied_carries : (x : Evaluation) → finish end.evaluation ≡ x → Got h (Y.given (reply said) h) (N.replied words counts fit eta h end.work x)
      unfolding Carried N.replied receive takes
      replied_carries (Ok sums) d =
          let t = Y.given (reply said) h in
          let is : t.point ≡ I.conditional_of fit eta sums = ap (λ (x : Request Pair). I.conditional_of fit (point_wanted x) (running_sums (finish end.evaluation))) wants ∙ ap
          (λ (x : Evaluation). I.conditional_of fit eta (running_sums x)) d in
          let own : t.rows ≡ rows_in rows end.work 3 = sym (words_are (rows_length rows) (block rows 3) end.work t.rows
          (reply_length setup.width setup.effects said lists ∙ ap (λ (n : ℕ). row_words * n) all_there ∙ sym len_is)
          (λ i l. ends.rows sums d block_there i (let e = len_is in let n = all_there in omega (arith, l, e, n)))) in (
            same_value fit p eta sums,
            λ ts c. carried eta sums wants end.work (work_length trial said setup.width setup.effects setup.output_budget lists w.work) (λ i l. ends.around i (inl l)) t is own ts c,
          )
      replied_carries (Err (E.Refused n)) d = over_carries _ n _
      replied_carries (Err (E.RefusedAt n i)) d = over_carries _ n _

    enters_carry : (c : Call) → p.awaits ≡ true → Got h (Y.given c h) (N.enter words setup counts observations c h)
    unfolding N.enter N.enter_reply N.enter_failure N.enter_objective N.answered
    enters_carry (objective parameters) t = cases (Got h (Y.given (objective parameters) h)) p.awaits (λ e. unaltered_carries _ 19 At.Nowhere) (λ e. absurd (subst T (sym t ∙ e) tt))
    enters_carry (reply said) t = awaited_carries _ _ _ (λ eta q. replied_carries said eta q (finish (end said eta q).evaluation) refl)
    enters_carry failure t = awaited_carries _ _ _ (λ eta q. over_carries _ 8 _)

    -- an objective, with its own parameters
    unaltered_opens : (c : Call) (number : ℕ) (place : Place) → Begins c h (N.unaltered words number place h)
    unfolding Opens
    unaltered_opens c number place = tt

    begun_opens : (parameters : Parameters) → Begins (objective parameters) h (on (N.begun words setup counts parameters w))
    unfolding Opens N.begun B.begin_subject
    begun_opens parameters =
        (X.starts setup parameters _ w.warm 0 refl refl, λ i l. refl, refl, nothing_carried _ setup.effects 0 0 (warm_of w.warm setup.effects 0) (word 0) (word 0) _, refl)

    admitted_opens : (parameters : Parameters) (v : Admission) → Begins (objective parameters) h (N.when_admitted words h (on (N.begun words setup counts parameters w)) v)
    unfolding N.when_admitted
    admitted_opens parameters (Ok tt) = begun_opens parameters
    admitted_opens parameters (Err (A.Refused n)) = unaltered_opens _ n _
    admitted_opens parameters (Err (A.Unsound place)) = unaltered_opens _ 4 _

    none_awaited : (c : Call) (n : ℕ) (go : Pair → Moved (Held words) Step) → p.awaits ≡ false → Begins c h (N.when_awaited words setup counts n (N.all_checked setup counts observations) h go)
    unfolding N.when_awaited
    none_awaited c n go t = cases (Begins c h) p.awaits (λ e. absurd (subst T (sym e ∙ t) tt)) (λ e. unaltered_opens c 19 At.Nowhere)

    enters_open : (c : Call) → p.awaits ≡ false → Begins c h (N.enter words setup counts observations c h)
    unfolding N.enter N.enter_reply N.enter_failure N.enter_objective
    enters_open (objective parameters) t =
        both (Begins (objective parameters) h) p.awaits (unaltered_opens _ 19 At.Nowhere) (both (Begins (objective parameters) h) _ (admitted_opens parameters _) (unaltered_opens _ 19 At.Nowhere))
    enters_open (reply said) t = none_awaited _ _ _ t
    enters_open failure t = none_awaited _ _ _ t

  holds : (o : Objective I.rules M Y) (acts : List (Act M)) → Shown I.rules M Y shows o (N.opened words setup counts lent r₀) acts
  unfolding B.begin_subject
  holds o acts = shown I.rules I.claims M Y Stands (lawful words setup counts observations I Q U bound limit lent r₀ a) shows here value Carries (λ (h : Held words). Stands h × Goes h) (record {
    sound = λ h e. e.0;
    inside = λ h e. e.0.subject;
    turns_hold = λ h e. after_both Stands Goes _ (after_turn I.rules I.claims M Y Stands h (turns words setup counts observations I Q U bound a.most h e.0))
        (turns_going setup counts observations lent a h e.1);
    enters_hold = λ c h e. after_both Stands Goes _ (after_entry I.rules I.claims M Y Stands c h e.0
        (enters words setup counts observations I Q U bound (omega (arith, limit)) a.some (rows_within a) c h e.0))
        (enters_going setup counts observations lent a h e.1 c);
    writes_hold = λ warm h e. (sets words setup counts observations I Q U bound limit lent r₀ a warm h e.0, sets_going setup counts observations lent a h e.1 warm);
    turns_keep = λ h e. turns_keep h e.0 e.1;
    enters_keep = λ c h e. enters_keep h e.0 e.1 c;
    turns_carry = λ h e. turns_carry h e.0 e.1;
    enters_carry = λ c h e. enters_carry h e.0 e.1 c;
    enters_open = λ c h e. enters_open h e.0 e.1 c;
    turns_close = λ h e. turns_end h e.0 e.1;
    spent = (19, refl);
  }) (N.opened words setup counts lent r₀) (opens_standing words setup counts observations I Q U bound limit lent r₀ a, opens_going setup counts observations lent a r₀ long) refl o acts

for_words : (setup : Setup) (counts : List ℕ) (observations : List Observation) (I : Inner) (L : Reads I) → Suits I setup.effects → Tells I L setup.effects → Shows setup counts observations I L
for_words setup counts observations I L Q X lent results b o acts =
    let a = accepts setup counts lent (N.all_checked setup counts observations) b.passes in
    holds setup counts observations I Q L X b.bound b.limit lent results b.many b.long a (record {
      some = some_room setup a.shape_in;
      most = shape_low {b = false} setup
          (sym a.shape_in) refl;
    }) o acts

pub every_word : EveryWord
every_word setup counts observations = (
  λ e. for_words setup counts observations inner1 reads1 (subst (Suits inner1) (sym e) suits1) (subst (Tells inner1 reads1) (sym e) tells1),
  λ e. for_words setup counts observations inner2 reads2 (subst (Suits inner2) (sym e) suits2) (subst (Tells inner2 reads2) (sym e) tells2),
)
