-- What is asked for and what is kept, in every session: `every_evaluation` (specs/Evaluations.antt). Assumes nothing.
use Rattle.std.specs.Prelude.{Err, Float, None, Ok, Option, Some}
use mathlib.Core.Path.{◌≡◌, refl, sym, ap, subst, ◌∙◌}
use mathlib.Core.Bool.{Bool, true, false}
use mathlib.Core.List.{List, [], ◌∷◌, ◌++◌}
use mathlib.Core.Logic.{⊎_elim}
use Prim.Native.Nat.{ℕ, ◌+◌, ◌-◌, ◌*◌, ◌≤◌, ◌<◌}
use native.Mathlib.Omega.{arith}
use borrow.Author.Tests.{ltb-true, ltb-false}
use lib.Dec.{ltb, eqb}
use lib.ListN.{get_or, length, take, drop, length-drop}
use lib.Seq.{length-take-le}
use lib.Ieee.{binary64, to_bits}
use Rattle.float64.specs.Pick.{pick, cases, pick_yes, pick_no}
use Rattle.matrix.specs.declared.Pair.{Pair}
use Rattle.likelihood.specs.declared.population_focei.Observation.{Observation}
use Rattle.cache.specs.Cache.{Cache, half, row_words}
use Rattle.cache.specs.Claim.{Room}
use Rattle.cache.specs.Kept.{Entry, Evaluated, entry_for, cached_rows, drop_to, appended, lookup, words_from, Stands}
use Rattle.cache.proofs.Run.{refinement}
use Rattle.subject.specs.Claim.{Evaluates as Ends, reply_rows}
use Rattle.subject.specs.Subject.{Evaluating, finish, Evaluation}
use Rattle.subject.specs.declared.Sums.{Sums}
use Rattle.subject.specs.declared.Trial.{Trial}
use Rattle.subject.proofs.Ends.{evaluates}
use Rattle.work.specs.Work.{block}
use Rattle.setup.specs.declared.Setup.{Setup}
use Rattle.setup.proofs.Bounds.{shape_low}
use Rattle.setup.specs.declared.Lent.{Lent}
use Rattle.search.specs.Subjects as B
use Rattle.search.specs.declared.Fit.{Fit}
use Rattle.search.specs.declared.Progress.{Progress}
use Rattle.search.specs.declared.Step.TheVariants as Answers
use Rattle.search.proofs.Fits.{fit_effects, fit_k}
use Rattle.machine.specs.Machine.{call, set, Act, run}
use Rattle.population.specs.Kept.{words, order_rows}
use Rattle.population.specs.Population.{rows_of, receive, take as takes}
use Rattle.session.specs.Session as N
use Rattle.session.specs.Session.{Held, Call, objective, reply, failure}
use Rattle.session_theorems.specs.Inner.{Inner, inner1, inner2, point_wanted}
use Rattle.session_theorems.specs.LetIn.{LetIn, wanted_point}
use Rattle.session_theorems.specs.Evaluations.{has_override, override, M, Keeping, kept_of, with_reply, kept_by, Evaluates, EveryEvaluation}
use Rattle.session_theorems.proofs.Accepted.{Accepts, rows_within, accepts}
use Rattle.session_theorems.proofs.Blocks.{words_same}
use Rattle.session_theorems.proofs.Entries.{block_end}
use Rattle.session_theorems.proofs.Evaluated.{work_length}
use Rattle.session_theorems.proofs.LetIn.{both_hold, let_in}
use Rattle.session_theorems.proofs.Placed.{rows_exact, Going, observations_lent}
use Rattle.session_theorems.proofs.Searches.{Suits, suits1, suits2}
use Rattle.session_theorems.proofs.Session.{some_room}
use Rattle.session_theorems.proofs.Standing.{Standing}
use Rattle.session_theorems.proofs.Stores.{words_trusted, kept_few, kept_rows_lem, not_found, cleared_words}
use Rattle.session_theorems.proofs.Asked.{fit_given, Values, Good, Leaves, Left, over, objectives, failures, unawaited, called}
use Rattle.subject.specs.declared.EvaluationError.TheVariants as E

-- ---- an awaited reply
module _ (setup : Setup) (counts : List ℕ) (observations : List Observation) (I : Inner) (Q : Suits I setup.effects) (lent : Lent) (many : length observations ≡ lent.observations)
    (limit : setup.max_evaluations < 4294967296)
    (a : Accepts setup counts lent) (room : Room setup.k) (h : Held words) (s : Standing words setup counts observations I Q (words_trusted setup.k room.some room.most) h)
    (g : Going setup counts observations lent a h)
    (let_in : LetIn setup counts observations h) (waits : h.whole.progress.awaits ≡ true) (said : List ℕ) where
  abbrev p : Progress
  p = h.whole.progress

  abbrev fit : Fit
  fit = B.fit_of setup h.parameters

  abbrev rows : ℕ
  rows = rows_of counts p.subject

  abbrev eta : Pair
  eta = wanted_point setup counts observations h

  rows_are : rows ≡ get_or counts p.subject 0
  rows_are = rows_exact a p.subject s.subject

  small : rows ≤ 100000
  small = (rows_within a p.subject s.subject).1

  same_eta : (s.waiting waits).eta ≡ eta
  same_eta = sym (ap point_wanted (s.waiting waits).wants)

  abbrev lists : List Observation
  lists = take rows (drop p.first observations)

  all_there : length lists ≡ rows
  all_there = length-take-le rows (drop p.first observations)
      (let d = length-drop p.first observations in let l = observations_lent setup counts observations lent a lent.observations a.largest a.adds h g in omega (arith, d, l, many))

  abbrev end : Evaluating
  end = N.evaluated words setup counts observations fit said p h.whole.work

  abbrev trial : Trial
  trial = N.trial_of words setup counts fit p

  ended : Ends trial setup.output_budget said lists h.whole.work
  ended = evaluates trial setup.output_budget said lists h.whole.work (let n = all_there in omega (arith, n, small))

  block_there : block rows 3 + row_words * rows ≤ length h.whole.work
  block_there = let b = block_end rows small in let l = s.roomy p.subject s.subject in omega (arith, b, l)

  -- ---- what is kept of it
  module _ (sums : Sums) (d : finish end.evaluation ≡ Ok sums) where
    abbrev kept_as : Evaluated
    kept_as = record { key = B.key_of fit p.subject eta; terms = B.terms_of sums; n = rows; rows = end.work; from = block rows 3 }

    abbrev told_as_lem : Evaluated
    told_as_lem = kept_of setup counts observations said h sums

    has_same : (sd : Option Float) → B.has_additive sd ≡ has_override sd
    has_same None = refl
    has_same (Some x) = refl

    word_same : (sd : Option Float) → B.additive_word sd ≡ override sd
    word_same None = refl
    word_same (Some x) = refl

    by_effects : (t : Bool) → eqb setup.effects 2 ≡ t → pick t (B.key2 fit p.subject eta) (B.key1 fit p.subject eta) ≡ told_as_lem.key
    unfolding B.key1 B.key2
    by_effects true q =
        let e = (fit_given setup h.parameters).theta in
        let one = pick_yes (eqb setup.effects 2) (to_bits binary64 h.parameters.theta.second) 0 q in
        let two = pick_yes (eqb setup.effects 2) (to_bits binary64 eta.second) 0 q in
        let three = pick_yes (eqb setup.effects 2) 0 (has_override h.parameters.additive_sd) q in
        let four = pick_yes (eqb setup.effects 2) 0 (override h.parameters.additive_sd) q in
        pick_yes true _ _ refl ∙ cc
    by_effects false q =
        let e = (fit_given setup h.parameters).theta in
        let f = (fit_given setup h.parameters).additive in
        let one = pick_no (eqb setup.effects 2) (to_bits binary64 h.parameters.theta.second) 0 q in
        let two = pick_no (eqb setup.effects 2) (to_bits binary64 eta.second) 0 q in
        let three = pick_no (eqb setup.effects 2) 0 (has_override h.parameters.additive_sd) q in
        let four = pick_no (eqb setup.effects 2) 0 (override h.parameters.additive_sd) q in
        let five = has_same fit.additive_sd in
        let six = word_same fit.additive_sd in
        pick_no false _ _ refl ∙ cc

    key_same : kept_as.key ≡ told_as_lem.key
    unfolding B.key_of
    key_same = ap (λ (n : ℕ). pick (eqb n 2) (B.key2 fit p.subject eta) (B.key1 fit p.subject eta)) (fit_effects setup h.parameters) ∙ by_effects (eqb setup.effects 2) refl

    -- its rows are the reply's
    rows_same : words_from (row_words * rows) end.work (block rows 3) ≡ words_from (row_words * rows) (reply_rows setup.width setup.effects said lists) 0
    rows_same = words_same (row_words * rows) (block rows 3) 0 end.work (reply_rows setup.width setup.effects said lists)
        (λ i l. ended.rows sums d (let n = all_there in let b = block_there in omega (arith, n, b)) i (let n = all_there in omega (arith, l, n)) ∙ ap
        (λ (j : ℕ). get_or (reply_rows setup.width setup.effects said lists) j 0)
        (let e : i ≡ 0 + i = omega arith in e))

    entry_same : entry_for kept_as ≡ entry_for told_as_lem
    unfolding B.terms_of
    entry_same =
        (λ i. record { key = key_same i; terms = B.terms_of sums; n = rows; rows = rows_same i })
        ∙ ap (λ (n : ℕ). record {
          key = told_as_lem.key;
          terms = B.terms_of sums;
          n = n;
          rows = words_from (row_words * n)
              (reply_rows setup.width setup.effects said (take n (drop p.first observations))) 0;
        }) rows_are

    module _ (l : List Entry) (st : Keeping setup counts observations h l) where
      abbrev next : Cache
      next = words.keep h.whole.kept setup.k (B.key_of fit p.subject eta) (B.terms_of sums) rows end.work (block rows 3)

      missing : lookup (B.key_of fit p.subject eta) l ≡ None
      missing = not_found setup.k room.some room.most h.whole.kept l st (B.key_of fit p.subject eta) rows h.whole.work (block rows 3) _ refl
          (subst (λ (x : Pair). words.recall h.whole.kept setup.k (B.key_of fit p.subject x) rows h.whole.work (block rows 3) ≡ None) same_eta
          (subst (λ (k : ℕ). words.recall h.whole.kept k (B.key_of fit p.subject (s.waiting waits).eta) rows h.whole.work (block rows 3) ≡ None) (fit_k setup h.parameters)
          (s.waiting waits).missing))

      few : h.whole.kept.order.next < half
      few = let n = kept_few setup.k room.some room.most s.count h.whole.kept s.trust in let m = (s.waiting waits).fewer in let o = s.limit in omega (arith, n, m, o, limit)

      appends : Stands next.words setup.k next.order (appended setup.k l told_as_lem)
      unfolding appended
      appends = cases (λ (v : List Entry). Stands next.words setup.k next.order v) (ltb setup.k (get_or counts p.subject 0))
          (λ t. let big : setup.k < rows = let q = ltb-true setup.k (get_or counts p.subject 0) t in let r = rows_are in omega (arith, q, r) in
          subst (λ (c : Cache). Stands c.words setup.k c.order l) (sym (refinement.passes h.whole.kept.words setup.k h.whole.kept.order kept_as big)) st)
          (λ t. let low : rows ≤ setup.k = let q = ltb-false setup.k (get_or counts p.subject 0) t in let r = rows_are in omega (arith, q, r) in
          subst (λ (n : ℕ). Stands next.words setup.k next.order (drop_to (setup.k - n) l ++ (entry_for told_as_lem ∷ []))) rows_are
          (subst (λ (x : Entry). Stands next.words setup.k next.order (drop_to (setup.k - rows) l ++ (x ∷ []))) entry_same
          (refinement.keeps h.whole.kept.words setup.k h.whole.kept.order l st kept_as
          (record { some_row = (rows_within a p.subject s.subject).0; all_rows = lent_there }) low few missing)))
        where
          lent_there : block rows 3 + row_words * rows ≤ length end.work
          lent_there = subst (λ (n : ℕ). block rows 3 + row_words * rows ≤ n) (sym (work_length trial said setup.width setup.effects setup.output_budget lists h.whole.work)) block_there

  -- ---- the entry
  abbrev Kept_with : Evaluation → Cache → Type 0
  Kept_with e c = (l : List Entry) → Keeping setup counts observations h l → Stands c.words setup.k c.order (with_reply setup counts observations said h l e)

  by_end : (e : Evaluation) → finish end.evaluation ≡ e → (c : Cache) × Kept_with e c × Leaves setup counts observations c (N.replied words counts fit eta h end.work e)
  unfolding N.replied receive takes Leaves
  by_end (Ok sums) d = (
    next_of,
    λ l st. subst (λ (k : ℕ). Stands (keep k).words setup.k (keep k).order (with_reply setup counts observations said h l (Ok sums))) (sym (fit_k setup h.parameters))
        (appends sums d l st),
    refl,
  )
    where
      keep : ℕ → Cache
      keep k = words.keep h.whole.kept k (B.key_of fit p.subject eta) (B.terms_of sums) rows end.work (block rows 3)

      next_of : Cache
      next_of = keep fit.k
  by_end (Err (E.Refused n)) d = (h.whole.kept, λ l st. st, over setup counts observations h n _)
  by_end (Err (E.RefusedAt n i)) d = (h.whole.kept, λ l st. st, over setup counts observations h n _)

  record Replied : Type 0 where
    keeps : (l : List Entry) → Keeping setup counts observations h l
        → Keeping setup counts observations (call (M setup counts observations) (reply said) h).state (with_reply setup counts observations said h l (finish end.evaluation))
    good : Good setup counts observations (call (M setup counts observations) (reply said) h).state (call (M setup counts observations) (reply said) h).answer

  replied : Replied
  unfolding N.enter N.answered Left
  replied =
      let b = by_end (finish end.evaluation) refl in
      let r = called setup counts observations (reply said) h b.0 (subst (Leaves setup counts observations b.0) (sym (let_in.replies waits said)) b.2) in
      record {
        keeps = λ l st. subst (λ (c : Cache). Stands c.words setup.k c.order (with_reply setup counts observations said h l (finish end.evaluation))) (sym r.0) (b.1 l st);
        good = r.1;
      }

-- ---- wherever a session stands
module _ (setup : Setup) (counts : List ℕ) (observations : List Observation) (I : Inner) (Q : Suits I setup.effects) (lent : Lent) (many : length observations ≡ lent.observations)
    (limit : setup.max_evaluations < 4294967296)
    (a : Accepts setup counts lent) (room : Room setup.k) (h : Held words) (s : Standing words setup counts observations I Q (words_trusted setup.k room.some room.most) h)
    (g : Going setup counts observations lent a h)
    (let_in : LetIn setup counts observations h) where
  record Both (c : Call) : Type 0 where
    keeps : (l : List Entry) → Keeping setup counts observations h l → Keeping setup counts observations (call (M setup counts observations) c h).state (kept_by setup counts observations c h l)
    good : Good setup counts observations (call (M setup counts observations) c h).state (call (M setup counts observations) c h).answer

  unchanged : (c : Call) → Leaves setup counts observations h.whole.kept (N.enter words setup counts observations c h) → ((l : List Entry) → kept_by setup counts observations c h l ≡ l) → Both c
  unfolding Left
  unchanged c e same =
      let r = called setup counts observations c h h.whole.kept e in
      record {
        keeps = λ l st. subst (Keeping setup counts observations (call (M setup counts observations) c h).state) (sym (same l))
            (subst (λ (k : Cache). Stands k.words setup.k k.order l) (sym r.0) st);
        good = r.1;
      }

  every : (c : Call) → Both c
  every (objective parameters) = unchanged (objective parameters) (objectives setup counts observations h parameters) (λ l. refl)
  every failure = unchanged failure (failures setup counts observations h) (λ l. refl)
  every (reply said) = by h.whole.progress.awaits refl
    where
      by : (t : Bool) → h.whole.progress.awaits ≡ t → Both (reply said)
      by false e = unchanged (reply said) (unawaited setup counts observations h said e) (λ l. pick_no _ _ _ e)
      by true e =
          let r = replied setup counts observations I Q lent many limit a room h s g let_in e said in
          record {
            keeps = λ l st. subst (Keeping setup counts observations (call (M setup counts observations) (reply said) h).state) (sym (pick_yes _ _ _ e)) (r.keeps l st);
            good = r.good;
          }

  asks_of : (c : Call) (eta v : Pair) → (call (M setup counts observations) c h).answer ≡ Answers.Asked eta v → Values (call (M setup counts observations) c h).state.parameters.theta eta
      setup.effects v
  unfolding Good
  asks_of c point v e = subst (Good setup counts observations (call (M setup counts observations) c h).state) e (every c).good

  set_keeps : (warm : List ℕ) (l : List Entry) → Keeping setup counts observations h l → Keeping setup counts observations (set (M setup counts observations) warm h) l
  unfolding set N.set_warm
  set_keeps warm l st = cases (λ (g : Held words). Keeping setup counts observations g l) h.whole.progress.awaits (λ e. st)
      (λ e. cases (λ (g : Held words). Keeping setup counts observations g l) (eqb (length warm) (length h.whole.warm)) (λ e. st) (λ e. st))

  rows_kept : (l : List Entry) → Keeping setup counts observations h l → h.whole.tally.cached_rows.0 ≡ cached_rows l
  unfolding order_rows
  rows_kept l st = g.rows ∙ (let e = refinement.rows h.whole.kept.words setup.k h.whole.kept.order l st in omega (arith, e))

  rows_few : h.whole.tally.cached_rows.0 ≤ setup.k
  rows_few = let e = g.rows in let l = kept_rows_lem setup.k room.some room.most s.count h.whole.kept s.trust in omega (arith, e, l)

  evaluates_so : Evaluates setup counts observations h
  evaluates_so = record {
    keeps = λ c l st. (every c).keeps l st;
    sets = set_keeps;
    rows = rows_kept;
    few = rows_few;
    asks = λ c eta v e. let x = asks_of c eta v e in (x.first, x.second);
  }

pub every_evaluation : EveryEvaluation
every_evaluation setup counts observations lent results given =
    let a = accepts setup counts lent (N.all_checked setup counts observations) given.passes in
    let room : Room setup.k = record { some = some_room setup a.shape_in; most = shape_low {b = false} setup (sym a.shape_in) refl } in
    let over : (I : Inner) → Suits I setup.effects → (acts : List (Act (M setup counts observations)))
    → Evaluates setup counts observations (run (M setup counts observations) (N.opened words setup counts lent results) acts) =
    λ I Q acts.
    let b = both_hold setup counts observations I Q given.bound given.limit lent results given.many given.long given.passes a room acts in
    evaluates_so setup counts observations I Q lent given.many given.limit a room _ b.0 b.1
    (let_in setup counts observations lent results given acts) in (
      cleared_words setup.k room.some room.most lent.cache a.cache_lent,
      ⊎_elim
          (λ (one : setup.effects ≡ 1). over inner1 (subst (Suits inner1) (sym one) suits1))
          (λ (two : setup.effects ≡ 2). over inner2 (subst (Suits inner2) (sym two) suits2))
          a.effects,
    )
