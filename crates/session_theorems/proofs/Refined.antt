-- A session over the cache's words and one over the list that they stand for go alike, `over_the_list` (specs/Refined.antt). Assumes nothing.
use Rattle.std.specs.Prelude.{Err, None, Ok, Option, Some}
use mathlib.Core.Path.{◌≡◌, refl, sym, ap, ap₂, subst, ◌∙◌}
use mathlib.Core.Bool.{Bool, true, false}
use mathlib.Core.List.{List, [], ◌∷◌, ◌++◌}
use mathlib.Core.Logic.{⊎_elim}
use Prim.Native.Nat.{ℕ, zero, suc, ◌+◌, ◌-◌, ◌*◌, ◌≤◌, ◌<◌}
use native.Mathlib.Omega.{arith}
use borrow.Author.Tests.{lt-ltb, le-ltb}
use lib.Dec.{T, ltb}
use lib.ListN.{length, take, drop}
use Rattle.float64.specs.Pick.{pick, cases, pick_yes, pick_no, both as both_of}
use Rattle.matrix.specs.declared.Pair.{Pair}
use Rattle.likelihood.specs.declared.population_focei.Observation.{Observation}
use Rattle.subject.specs.Subject.{Evaluating, finish, Evaluation}
use Rattle.subject.specs.declared.Sums.{Sums}
use Rattle.words.specs.Words.{zeros}
use Rattle.work.specs.Work.{block, move_rows}
use Rattle.cache.specs.Cache.{Cache, half, row_words, find, same_key}
use Rattle.cache.specs.Claim.{Room}
use Rattle.cache.specs.Kept.{Entry, lookup, cached_rows, drop_to, appended, Evaluated, Lent as LentRows, entry_for, entry_of, found_entry, Stands}
use Rattle.cache.specs.declared.CacheKey.{CacheKey}
use Rattle.cache.specs.declared.CachedTerms.{CachedTerms}
use Rattle.cache.proofs.Run.{refinement}
use Rattle.cache.proofs.Walked.{same_true}
use Rattle.setup.specs.Admission.{is_short, roomy, admitted, checks_of, checks, count_observations, with_parameters, Admission}
use Rattle.setup.specs.declared.Setup.{Setup}
use Rattle.setup.specs.declared.Parameters.{Parameters}
use Rattle.setup.specs.declared.Lent.{Lent}
use Rattle.search.specs.Subjects as B
use Rattle.search.specs.declared.Fit.{Fit}
use Rattle.search.specs.declared.Tally.{Tally}
use Rattle.search.specs.declared.Progress.{Progress}
use Rattle.search.specs.declared.Step.{Step}
use Rattle.search.specs.declared.Place.{Place}
use Rattle.search.proofs.Fits.{fit_k}
use Rattle.machine.specs.Log.{Every, none as no-entry, more}
use Rattle.machine.specs.Machine.{Moved, on, halt, Ran, onward, loop, Machine, call, run, set}
use Rattle.machine.specs.Observed.{View}
use Rattle.population.specs.Kept.{Recalled, words, entries, recall_at, recall_entry, order_rows}
use Rattle.population.specs.Population.{rows_of, take as takes, answered, at_point, Ended, ended, is_over, served_by, served, turned, moved, turn, spent, receive, whole_of, Turned}
use Rattle.session.specs.Session as N
use Rattle.session.specs.Session.{Held, held, Call, objective, reply, failure, session}
use Rattle.session_theorems.specs.Refined.{Deed, does, warms, acts_of, Alike, alike, SameAnswers, OverTheList}
use Rattle.session_theorems.proofs.Copies.{same_copy}
use Rattle.session_theorems.proofs.Plain.{split}
use Rattle.session_theorems.specs.Inner.{Inner, inner1, inner2, view}
use Rattle.session_theorems.proofs.Accepted.{Accepts, rows_within, accepts}
use Rattle.session_theorems.proofs.Always.{After, after_turn, after_entry}
use Rattle.session_theorems.proofs.Entries.{block_end, enters}
use Rattle.session_theorems.proofs.Evaluated.{work_length}
use Rattle.session_theorems.proofs.Fitting.{Fits}
use Rattle.session_theorems.proofs.Searches.{Suits, suits1, suits2}
use Rattle.session_theorems.proofs.Session.{sets, opens_standing, some_room}
use Rattle.setup.proofs.Bounds.{shape_low}
use Rattle.session_theorems.proofs.Standing.{Standing, Waiting}
use Rattle.session_theorems.proofs.Stores.{every_append, every_drop, Trusted, words_trusted, kept_few, not_found, cleared_words}
use Rattle.session_theorems.proofs.Turns.{turns}
use Rattle.std.specs.declared.ops.ControlFlow.TheVariants.{Break, Continue}
use Rattle.subject.specs.declared.EvaluationError.TheVariants as E
use Rattle.setup.specs.declared.AdmissionError.TheVariants as A
use Rattle.subject.specs.Observations.{Check}
use Rattle.setup.specs.declared.Counts.{Counts}
use Rattle.mode.specs.declared.Request.{Request}
use Rattle.mode.specs.declared.Request.TheVariants as Wants

-- ---- one key, one entry
entry_of_lem : (P : Entry → Type 0) (key : CacheKey) (l : List Entry) (x : Entry) → Every P l → lookup key l ≡ Some x → P x × (x.key ≡ key)
unfolding lookup
entry_of_lem P key [] x h e = absurd (let z : ◌≡◌ {A = ℕ} 0 1 = cc in omega arith)
entry_of_lem P key (y ∷ l) x (more p h) q =
    cases (λ (o : Option Entry). o ≡ Some x → P x × (x.key ≡ key)) (same_key y.key key)
    (λ t e. let d : y ≡ x = cc in subst (λ (z : Entry). P z × (z.key ≡ key)) d (p, same_true _ _ t))
    (λ t e. entry_of_lem P key l x h e) q

subject_of : (fit : Fit) (subject : ℕ) (eta : Pair) → (B.key_of fit subject eta).subject ≡ subject
unfolding B.key_of B.key1 B.key2
subject_of fit subject eta = both_of (λ (k : CacheKey). k.subject ≡ subject) _ refl refl

-- ---- the checks do not tell one store from the other, where the words are enough
module _ (setup : Setup) (lent lent' : Lent) (w : lent.work ≡ lent'.work) (v : lent.warm ≡ lent'.warm) (r : lent.results ≡ lent'.results) (o : lent.observations ≡ lent'.observations)
    (c : 24 * setup.k ≤ lent.cache) (c' : 24 * setup.k ≤ lent'.cache) where
  short_same : (subjects total largest : ℕ) → is_short setup subjects total largest lent ≡ is_short setup subjects total largest lent'
  unfolding is_short
  short_same subjects total largest =
      let a : ltb lent.cache (24 * setup.k) ≡ ltb lent'.cache (24 * setup.k) = le-ltb _ _ c ∙ sym (le-ltb _ _ c') in
      cc

  roomy_same : (subjects total largest : ℕ) (k : Check) → roomy setup subjects total largest lent k ≡ roomy setup subjects total largest lent' k
  unfolding roomy
  roomy_same subjects total largest (Err place) = refl
  roomy_same subjects total largest (Ok place) = ap (λ (b : Bool). pick b (Err (A.Refused 5)) (Ok tt)) (short_same subjects total largest)

  admitted_same : (subjects total largest : ℕ) (k : Check) → admitted setup subjects total largest lent k ≡ admitted setup subjects total largest lent' k
  unfolding admitted
  admitted_same subjects total largest k = let a = roomy_same subjects total largest k in cc

  checks_of_same : (subjects : ℕ) (k : Check) (n : Option Counts) → checks_of setup subjects lent k n ≡ checks_of setup subjects lent' k n
  unfolding checks_of
  checks_of_same subjects k (Some n) = let a = admitted_same subjects n.total n.largest k in cc
  checks_of_same subjects k None = refl

  pub checks_same : (counts : List ℕ) (k : Check) → checks setup counts lent k ≡ checks setup counts lent' k
  unfolding checks
  checks_same counts k = checks_of_same (length counts) k (count_observations counts)

-- ---- an entry has its subject's rows, and they were few enough to keep
module _ (k : ℕ) (counts : List ℕ) where
  abbrev OwnRows : Entry → Type 0
  OwnRows x = (x.n ≡ rows_of counts x.key.subject) × (x.n ≤ k)

  record Linked (h : Held words) (g : Held entries) : Type 0 where
    is : Alike k h g
    own : Every OwnRows g.whole.kept

  data Both : Moved (Held words) Step → Moved (Held entries) Step → Type 0 where
    both_on : {h : Held words} {g : Held entries} → Linked h g → Both (on h) (on g)
    both_halt : {a : Step} {h : Held words} {g : Held entries} → Linked h g → Both (halt a h) (halt a g)

  pick_both : (b : Bool) {x y : Moved (Held words) Step} {x' y' : Moved (Held entries) Step} → Both x x' → Both y y' → Both (pick b x y) (pick b x' y')
  unfolding pick
  pick_both true p q = p
  pick_both false p q = q

  pick_alike : {b b' : Bool} → b ≡ b' → {x y : Moved (Held words) Step} {x' y' : Moved (Held entries) Step} → Both x x' → Both y y' → Both (pick b x y) (pick b' x' y')
  pick_alike {b = b} e {x} {y} {x'} {y'} p q = subst (λ (t : Bool). Both (pick b x y) (pick t x' y')) e (pick_both b p q)

  pick_when : (b : Bool) {x y : Moved (Held words) Step} {x' y' : Moved (Held entries) Step} → (b ≡ true → Both x x') → Both y y' → Both (pick b x y) (pick b x' y')
  unfolding pick
  pick_when true p q = p refl
  pick_when false p q = q

  -- what is kept for a point is the same
  module _ (room : Room k) (c : Cache) (l : List Entry) (st : Stands c.words k c.order l) (own : Every OwnRows l) where
    recall_by : (key : CacheKey) (rows : ℕ) (work : List ℕ) (to : ℕ) → rows ≡ rows_of counts key.subject → to + row_words * rows ≤ length work → (f : Option ℕ) → find c.words k c.order key ≡ f
        → recall_at c.words k rows work to f ≡ recall_entry rows work to (lookup key l)
    unfolding recall_at found_entry recall_entry
    recall_by key rows work to r lent (Some slot) e =
        let x = entry_of c.words k slot in
        let g : lookup key l ≡ Some x = sym (refinement.finds c.words k c.order l st key) ∙ ap (found_entry c.words k) e in
        let o = entry_of_lem OwnRows key l x own g in
        let n : x.n ≡ rows = o.0.0 ∙ ap (λ (q : CacheKey). rows_of counts q.subject) o.1 ∙ sym r in
        let m = o.0.1 in
        let t = refinement.reads_terms c.words k slot room in
        let v = same_copy c.words k slot rows work to room st.good.long (omega (arith, n, m)) lent (omega (arith, n)) in
        ap₂ (λ (a : CachedTerms) (b : List ℕ). Some (record { terms = a; work = b })) t v ∙ ap (recall_entry rows work to) (sym g)
    recall_by key rows work to r lent None e = ap (recall_entry rows work to) (ap (found_entry c.words k) (sym e) ∙ refinement.finds c.words k c.order l st key)

    recall_same : (key : CacheKey) (rows : ℕ) (work : List ℕ) (to : ℕ) → rows ≡ rows_of counts key.subject → to + row_words * rows ≤ length work → words.recall c k key rows work to ≡ entries.recall
        l k key rows work to
    recall_same key rows work to r lent = recall_by key rows work to r lent (find c.words k c.order key) refl

    -- and what is kept of an evaluation
    keep_same : (key : CacheKey) (terms : CachedTerms) (rows : ℕ) (work : List ℕ) (from : ℕ) → rows ≡ rows_of counts key.subject → 1 ≤ rows → from + row_words * rows ≤ length work → c.order.next <
        half → lookup key l ≡ None
        → let d = words.keep c k key terms rows work from in let m = entries.keep l k key terms rows work from in (Stands d.words k d.order m × Every OwnRows m) ×
        (words.rows d ≡ entries.rows m)
    unfolding appended order_rows
    keep_same key terms rows work from r one lent low absent =
        let x : Evaluated = record { key = key; terms = terms; n = rows; rows = work; from = from } in
        let d = words.keep c k key terms rows work from in
        let lone : LentRows x = record { some_row = one; all_rows = lent } in
        ⊎_elim
        (λ (big : k < rows).
        let p = refinement.passes c.words k c.order x big in
        let m = pick_yes (ltb k rows) l (drop_to (k - rows) l ++ (entry_for x ∷ [])) (lt-ltb k rows big) in
        let s : Stands d.words k d.order l = subst (λ (z : Cache). Stands z.words k z.order l) (sym p) st in
        let n = refinement.rows d.words k d.order l s in (
          (subst (Stands d.words k d.order) (sym m) s, subst (Every OwnRows) (sym m) own),
          (let z : d.order.next_row - d.order.first_row ≡ cached_rows l = omega (arith, n) in z) ∙ ap
              cached_rows (sym m),
        ))
        (λ (small : rows ≤ k).
        let m = pick_no (ltb k rows) l (drop_to (k - rows) l ++ (entry_for x ∷ [])) (le-ltb k rows small) in
        let s = refinement.keeps c.words k c.order l st x lone small low absent in
        let n = refinement.rows d.words k d.order (drop_to (k - rows) l ++ (entry_for x ∷ [])) s in (
          (subst (Stands d.words k d.order) (sym m) s, subst (Every OwnRows) (sym m) (every_append OwnRows (drop_to (k - rows) l) (entry_for x) (every_drop OwnRows (k - rows) l own) (r, small))),
          (let z : d.order.next_row - d.order.first_row ≡ cached_rows (drop_to (k - rows) l ++ (entry_for x ∷ [])) = omega (arith, n) in z) ∙ ap cached_rows (sym m),
        ))
        (split k rows)

module _ (setup : Setup) (counts : List ℕ) (observations : List Observation) (I : Inner) (Q : Suits I setup.effects) (bound : Fits setup.eta_bound)
    (limit : setup.max_evaluations < 4294967296)
    (lent : Lent) (a : Accepts setup counts lent) (room : Room setup.k) where
  abbrev U : Trusted words setup.k
  U = words_trusted setup.k room.some room.most

  abbrev M : Machine
  M = session words setup counts observations

  abbrev Y : View I.rules M
  Y = view words setup counts observations I

  abbrev Standing' : Held words → Type 0
  Standing' = Standing words setup counts observations I Q U

  abbrev Link : Held words → Held entries → Type 0
  Link = Linked setup.k counts

  abbrev Pair' : Moved (Held words) Step → Moved (Held entries) Step → Type 0
  Pair' = Both setup.k counts

  module _ (parameters : Parameters) (p : Progress) (tally : Tally) (c : Cache) (l : List Entry) (work warm results : List ℕ) (st : Stands c.words setup.k c.order l)
      (own : Every (OwnRows setup.k counts) l) where
    abbrev h : Held words
    h = held words parameters (whole_of words p tally c work warm results)

    abbrev g : Held entries
    g = held entries parameters (whole_of entries p tally l work warm results)

    abbrev fit : Fit
    fit = B.fit_of setup parameters

    abbrev rows : ℕ
    rows = rows_of counts p.subject

    link : (q : Progress) (n : Tally) (x y z : List ℕ) → Link (held words parameters (whole_of words q n c x y z)) (held entries parameters (whole_of entries q n l x y z))
    link q n x y z = record { is = alike parameters q n c l x y z st; own = own }

    module _ (s : Standing' h) where
      lent_rows : block rows 3 + row_words * rows ≤ length work
      lent_rows = subst (λ (n : ℕ). n ≤ length work) (sym (block_end rows (rows_within a p.subject s.subject).1)) (s.roomy p.subject s.subject)

      recalls : (eta : Pair) → words.recall c fit.k (B.key_of fit p.subject eta) rows work (block rows 3) ≡ entries.recall l fit.k (B.key_of fit p.subject eta) rows work (block rows 3)
      recalls eta = subst (λ (k : ℕ). words.recall c k (B.key_of fit p.subject eta) rows work (block rows 3) ≡ entries.recall l k (B.key_of fit p.subject eta) rows work (block rows 3))
          (sym (fit_k setup parameters))
          (recall_same setup.k counts room c l st own (B.key_of fit p.subject eta) rows work (block rows 3) (ap (rows_of counts) (sym (subject_of fit p.subject eta))) lent_rows)

      served_by_lem : (v : Request Pair) → served_by words fit counts p tally c work warm results v ≡ served_by entries fit counts p tally l work warm results v
      unfolding served_by at_point
      served_by_lem (Wants.Point eta) = ap (λ (o : Option Recalled). let x = answered fit rows p tally eta work o in ended x.value x.work warm results) (recalls eta)
      served_by_lem Wants.Mode = refl
      served_by_lem (Wants.Refused n) = refl

      moves : (t : Turned) (x y z : List ℕ) → Pair' (N.held_by words parameters (moved words tally c x y z t)) (N.held_by entries parameters (moved entries tally l x y z t))
      unfolding N.held_by moved
      moves (Continue q) x y z = both_on (link q tally x y z)
      moves (Break x') x y z = both_halt (link x'.progress x'.tally x y z)

      turn_both : Pair' (N.turn_held words setup counts h) (N.turn_held entries setup counts g)
      unfolding N.turn_held turn turned served
      turn_both =
          let v = B.wanted_by fit p in
          subst (λ (e : Ended). Pair' (N.held_by words parameters (moved words tally c (pick (is_over (served_by words fit counts p tally c work warm results v).turned)
          (zeros (length (served_by words fit counts p tally c work warm results v).work)) (served_by words fit counts p tally c work warm results v).work)
          (served_by words fit counts p tally c work warm results v).warm (served_by words fit counts p tally c work warm results v).results
          (served_by words fit counts p tally c work warm results v).turned))
          (N.held_by entries parameters (moved entries tally l (pick (is_over e.turned) (zeros (length e.work)) e.work) e.warm e.results e.turned)))
          (served_by_lem v) (moves _ _ _ _)

      -- ---- entries
      same_rows : words.rows c ≡ entries.rows l
      unfolding order_rows
      same_rows = let n = refinement.rows c.words setup.k c.order l st in omega (arith, n)

      stands_alike : N.standing words setup counts (length observations) h.whole ≡ N.standing entries setup counts (length observations) g.whole
      stands_alike = ap (λ (r : ℕ). N.is_standing setup counts (length observations) tally r p) same_rows

      unaltered : (number : ℕ) (place : Place) → Pair' (N.unaltered words number place h) (N.unaltered entries number place g)
      unaltered number place = both_halt (link p tally work warm results)

      admits : (q : Parameters) → N.admitted words setup counts (length observations) (N.all_checked setup counts observations) q h.whole ≡ N.admitted entries setup counts (length observations)
          (N.all_checked setup counts observations) q g.whole
      unfolding N.admitted with_parameters
      admits q = checks_same (with_parameters setup q) (N.lent_of words setup (length observations) h.whole) (N.lent_of entries setup (length observations) g.whole) refl refl refl refl
          st.good.long (omega arith) counts _

      when_admitted_lem : (x : Moved (Held words) Step) (y : Moved (Held entries) Step) → Pair' x y → (m : Admission) → Pair' (N.when_admitted words h x m)
          (N.when_admitted entries g y m)
      unfolding N.when_admitted
      when_admitted_lem x y b (Ok tt) = b
      when_admitted_lem x y b (Err (A.Refused n)) = unaltered n _
      when_admitted_lem x y b (Err (A.Unsound place)) = unaltered 4 _

      over : (number : ℕ) (place : Place) → Pair' (N.over words number place h) (N.over entries number place g)
      unfolding N.over
      over number place = both_halt (link (B.idle p) tally (zeros (length work)) warm results)

      admitted_both : (q : Parameters) (x : Moved (Held words) Step) (y : Moved (Held entries) Step) → Pair' x y
          → Pair' (N.when_admitted words h x (N.admitted words setup counts (length observations) (N.all_checked setup counts observations) q h.whole))
          (N.when_admitted entries g y (N.admitted entries setup counts (length observations) (N.all_checked setup counts observations) q g.whole))
      admitted_both q x y b = subst (λ (m : Admission). Pair' (N.when_admitted words h x (N.admitted words setup counts (length observations) (N.all_checked setup counts observations) q
          h.whole)) (N.when_admitted entries g y m)) (admits q) (when_admitted_lem x y b _)

      objective_both : (q : Parameters) → Pair' (N.enter_objective words setup counts (length observations) (N.all_checked setup counts observations) q h)
          (N.enter_objective entries setup counts (length observations) (N.all_checked setup counts observations) q g)
      unfolding N.enter_objective N.begun
      objective_both q =
          pick_both setup.k counts p.awaits (unaltered 19 _)
          (pick_alike setup.k counts stands_alike (admitted_both q _ _ (both_on (record { is = alike q _ tally c l work warm results st; own = own }))) (unaltered 19 _))

      at_wanted_lem : (x : Pair → Moved (Held words) Step) (y : Pair → Moved (Held entries) Step) (v : Request Pair) → ((eta : Pair) → v ≡ Wants.Point eta → Pair' (x eta) (y eta)) → Pair'
          (N.at_wanted words setup counts (length observations) (N.all_checked setup counts observations) h x v) (N.at_wanted entries setup counts (length observations)
          (N.all_checked setup counts observations) g y v)
      unfolding N.at_wanted
      at_wanted_lem x y (Wants.Point eta) f = admitted_both parameters (x eta) (y eta) (f eta refl)
      at_wanted_lem x y Wants.Mode f = unaltered 19 _
      at_wanted_lem x y (Wants.Refused n) f = unaltered 19 _

      when_awaited_lem : (x : Pair → Moved (Held words) Step) (y : Pair → Moved (Held entries) Step) → (p.awaits ≡ true → (eta : Pair) → B.wanted_by fit p ≡ Wants.Point eta → Pair' (x eta) (y eta))
          → Pair' (N.when_awaited words setup counts (length observations) (N.all_checked setup counts observations) h x)
          (N.when_awaited entries setup counts (length observations) (N.all_checked setup counts observations) g y)
      unfolding N.when_awaited
      when_awaited_lem x y f =
          pick_when setup.k counts p.awaits (λ t. pick_alike setup.k counts stands_alike (at_wanted_lem x y (B.wanted_by fit p) (f t)) (unaltered 19 _)) (unaltered 19 _)

      -- a reply
      module _ (said : List ℕ) (t : p.awaits ≡ true) (eta : Pair) (e : B.wanted_by fit p ≡ Wants.Point eta) where
        abbrev ended' : Evaluating
        ended' = N.evaluated words setup counts observations fit said p work

        waits : Waiting words setup counts observations I Q U h s.count
        waits = s.waiting t

        same_eta : waits.eta ≡ eta
        same_eta = let b = waits.wants in cc

        absent : lookup (B.key_of fit p.subject eta) l ≡ None
        absent =
            let m : words.recall c setup.k (B.key_of fit p.subject eta) rows work (block rows 3) ≡ None =
            subst (λ (k : ℕ). words.recall c k (B.key_of fit p.subject eta) rows work (block rows 3) ≡ None) (fit_k setup parameters)
            (subst (λ (x : Pair). words.recall c fit.k (B.key_of fit p.subject x) rows work (block rows 3) ≡ None) same_eta waits.missing) in
            not_found setup.k room.some room.most c l st (B.key_of fit p.subject eta) rows work (block rows 3) _ refl m

        low : c.order.next < half
        low = let b = kept_few setup.k room.some room.most s.count c s.trust in let f = waits.fewer in omega (arith, b, f, s.limit, limit)

        long : length ended'.work ≡ length work
        long = work_length (N.trial_of words setup counts fit p) said setup.width setup.effects setup.output_budget (take rows (drop p.first observations)) work

        abbrev tally_of : ℕ → Tally
        tally_of n = record { calls = tally.calls; cached_rows = record { 0 = n } }

        abbrev d_w : ℕ → Sums → Cache
        d_w k sums = words.keep c k (B.key_of fit p.subject eta) (B.terms_of sums) rows ended'.work (block rows 3)

        abbrev d_e : ℕ → Sums → List Entry
        d_e k sums = entries.keep l k (B.key_of fit p.subject eta) (B.terms_of sums) rows ended'.work (block rows 3)

        kept_link : (sums : Sums) (q : Progress) (x y z : List ℕ)
            → Link (held words parameters (whole_of words q (tally_of (words.rows (d_w setup.k sums))) (d_w setup.k sums) x y z))
            (held entries parameters (whole_of entries q (tally_of (entries.rows (d_e setup.k sums))) (d_e setup.k sums) x y z))
        kept_link sums q x y z =
            let k = keep_same setup.k counts room c l st own (B.key_of fit p.subject eta) (B.terms_of sums) rows ended'.work (block rows 3)
            (ap (rows_of counts) (sym (subject_of fit p.subject eta))) (rows_within a p.subject s.subject).0
            (subst (λ (n : ℕ). block rows 3 + row_words * rows ≤ n) (sym long) lent_rows) low absent in
            record {
              is = subst (λ (n : ℕ). Alike setup.k (held words parameters (whole_of words q (tally_of (words.rows (d_w setup.k sums))) (d_w setup.k sums) x y z))
                  (held entries parameters (whole_of entries q (tally_of n) (d_e setup.k sums) x y z)))
                  k.1 (alike parameters q (tally_of (words.rows (d_w setup.k sums))) (d_w setup.k sums) (d_e setup.k sums) x y z k.0.0);
              own = k.0.1;
            }

        received : (sums : Sums) → Pair' (N.replied words counts fit eta h ended'.work (Ok sums)) (N.replied entries counts fit eta g ended'.work (Ok sums))
        unfolding N.replied receive takes
        received sums =
            let q = (B.advance_by fit p eta sums).progress in
            let x = move_rows rows (B.advance_by fit p eta sums).sources ended'.work in
            both_on (subst (λ (k : ℕ). Link (held words parameters (whole_of words q (tally_of (words.rows (d_w k sums))) (d_w k sums) x warm results))
            (held entries parameters (whole_of entries q (tally_of (entries.rows (d_e k sums))) (d_e k sums) x warm results)))
            (sym (fit_k setup parameters)) (kept_link sums q x warm results))

        by_end : (x : Evaluation) → Pair' (N.replied words counts fit eta h ended'.work x) (N.replied entries counts fit eta g ended'.work x)
        by_end (Ok sums) = received sums
        by_end (Err (E.Refused n)) = unfold N.replied in over n _
        by_end (Err (E.RefusedAt n i)) = unfold N.replied in over n _

        answer_both : Pair' (N.answered words setup counts observations said eta h) (N.answered entries setup counts observations said eta g)
        unfolding N.answered
        answer_both = by_end (finish ended'.evaluation)

      enter_both : (x : Call) → Pair' (N.enter words setup counts observations x h) (N.enter entries setup counts observations x g)
      unfolding N.enter N.enter_reply N.enter_failure
      enter_both (objective q) = objective_both q
      enter_both (reply said) = when_awaited_lem _ _ (λ t eta e. answer_both said t eta e)
      enter_both failure = when_awaited_lem _ _ (λ t eta e. over 8 _)

  -- ---- turns, a call, a session
  record BothRan (r : Ran (Held words) Step) (q : Ran (Held entries) Step) : Type 0 where
    answer : r.answer ≡ q.answer
    linked : Link r.state q.state
    stands : Standing' r.state

  turn_of : (h : Held words) (g : Held entries) → Standing' h → Link h g → Pair' (N.turn_held words setup counts h) (N.turn_held entries setup counts g)
  turn_of h g s i = by_alike h g i.is i.own s
    where
      by_alike : (h : Held words) (g : Held entries) → Alike setup.k h g → Every (OwnRows setup.k counts) g.whole.kept → Standing' h → Pair' (N.turn_held words setup counts h)
          (N.turn_held entries setup counts g)
      by_alike h g (alike parameters p tally c l work warm results st) own s = turn_both parameters p tally c l work warm results st own s

  enter_of : (x : Call) (h : Held words) (g : Held entries) → Standing' h → Link h g → Pair' (N.enter words setup counts observations x h) (N.enter entries setup counts observations x g)
  enter_of x h g s i = by_alike h g i.is i.own s
    where
      by_alike : (h : Held words) (g : Held entries) → Alike setup.k h g → Every (OwnRows setup.k counts) g.whole.kept → Standing' h → Pair' (N.enter words setup counts observations x h)
          (N.enter entries setup counts observations x g)
      by_alike h g (alike parameters p tally c l work warm results st) own s = enter_both parameters p tally c l work warm results st own s x

  onward_both : {m : Moved (Held words) Step} {n : Moved (Held entries) Step} (f : Held words → Ran (Held words) Step) (f' : Held entries → Ran (Held entries) Step) → Pair' m n → After Standing' m
      → ((h : Held words) (g : Held entries) → Standing' h → Link h g → BothRan (f h) (f' g)) → BothRan (onward m f) (onward n f')
  unfolding onward After
  onward_both f f' (both_on {h} {g} i) s k = k h g s i
  onward_both f f' (both_halt i) s k = record { answer = refl; linked = i; stands = s }

  loop_both : (n : ℕ) (h : Held words) (g : Held entries) → Standing' h → Link h g → BothRan (loop (N.turn_held words setup counts) spent n h) (loop (N.turn_held entries setup counts) spent n g)
  unfolding loop
  loop_both zero h g s i = record { answer = refl; linked = i; stands = s }
  loop_both (suc n) h g s i = onward_both _ _ (turn_of h g s i) (after_turn I.rules I.claims M Y Standing' h (turns words setup counts observations I Q U bound a.most h s)) (loop_both n)

  call_both : (x : Call) (h : Held words) (g : Held entries) → Standing' h → Link h g → BothRan (call (session words setup counts observations) x h)
      (call (session entries setup counts observations) x g)
  unfolding call
  call_both x h g s i = onward_both _ _ (enter_of x h g s i) (after_entry I.rules I.claims M Y Standing' x h s
      (enters words setup counts observations I Q U bound (omega (arith, limit)) a.some (rows_within a) x h s)) (loop_both (N.fuel))

  -- the host sets the warm starts
  set_both : (warm : List ℕ) (h : Held words) (g : Held entries) → Link h g → Link (N.set_warm words setup counts warm h) (N.set_warm entries setup counts warm g)
  set_both warm h g i = by_alike h g i.is i.own
    where
      pick_link : (b : Bool) {x y : Held words} {x' y' : Held entries} → Link x x' → Link y y' → Link (pick b x y) (pick b x' y')
      pick_link b {x} {y} {x'} {y'} p q = by_cases b
        where
          by_cases : (b : Bool) → Link (pick b x y) (pick b x' y')
          by_cases true = unfold pick in p
          by_cases false = unfold pick in q

      by_alike : (h : Held words) (g : Held entries) → Alike setup.k h g → Every (OwnRows setup.k counts) g.whole.kept → Link (N.set_warm words setup counts warm h)
          (N.set_warm entries setup counts warm g)
      by_alike h g (alike parameters p tally c l work old results st) own = unfold N.set_warm in
          pick_link _ (record { is = alike parameters p tally c l work warm results st; own = own }) (record { is = alike parameters p tally c l work old results st; own = own })

  -- nothing is set while a reply is awaited
  sets_both : (results warm : List ℕ) (h : Held words) (g : Held entries) → Standing' h → Link h g
      → Standing' (set (session words setup counts observations) warm h) × Link (set (session words setup counts observations) warm h) (set (session entries setup counts observations) warm g)
  unfolding set
  sets_both results warm h g s i = by_awaits h.whole.progress.awaits g.whole.progress.awaits (alike_awaits h g i.is)
    where
      alike_awaits : (h : Held words) (g : Held entries) → Alike setup.k h g → h.whole.progress.awaits ≡ g.whole.progress.awaits
      alike_awaits h g (alike parameters p tally c l work old results st) = refl

      by_awaits : (b d : Bool) → b ≡ d → Standing' (pick b h (N.set_warm words setup counts warm h)) × Link (pick b h (N.set_warm words setup counts warm h))
          (pick d g (N.set_warm entries setup counts warm g))
      by_awaits true true e = unfold pick in (s, i)
      by_awaits false false e = unfold pick in (sets words setup counts observations I Q U bound limit lent results a warm h s, set_both warm h g i)
      by_awaits true false e = absurd (subst T e tt)
      by_awaits false true e = absurd (subst T (sym e) tt)

  run_both : (results : List ℕ) (deeds : List Deed) (h : Held words) (g : Held entries) → Standing' h → Link h g
      → Standing' (run (session words setup counts observations) h (acts_of words setup counts observations deeds))
      × Link (run (session words setup counts observations) h (acts_of words setup counts observations deeds)) (run (session entries setup counts observations) g
      (acts_of entries setup counts observations deeds))
  unfolding run
  run_both results [] h g s i = (s, i)
  run_both results (does x ∷ ds) h g s i = let b = call_both x h g s i in run_both results ds _ _ b.stands b.linked
  run_both results (warms warm ∷ ds) h g s i = let b = sets_both results warm h g s i in run_both results ds _ _ b.0 b.1

  opened_link : (results : List ℕ) → Link (N.opened words setup counts lent results) (N.opened entries setup counts lent results)
  opened_link results = record {
    is = alike _ _ _ _ [] _ _ results (cleared_words setup.k room.some room.most lent.cache a.cache_lent);
    own = no-entry;
  }

  holds_over : (results : List ℕ) (deeds : List Deed) → SameAnswers setup counts observations lent results deeds
  holds_over results deeds =
      let b = run_both results deeds _ _ (opens_standing words setup counts observations I Q U bound limit lent results a) (opened_link results) in
      record { stays = b.1.is; answers = λ x. (call_both x _ _ b.0 b.1).answer }

pub over_the_list : OverTheList
over_the_list setup counts observations effects bound limit lent results e deeds =
    let a = accepts setup counts lent (N.all_checked setup counts observations) e in
    let room : Room setup.k = record { some = some_room setup a.shape_in; most = shape_low {b = false} setup (sym a.shape_in) refl } in
    ⊎_elim (λ (one : setup.effects ≡ 1). holds_over setup counts observations inner1 (subst (Suits inner1) (sym one) suits1) bound limit lent a room results deeds)
    (λ (two : setup.effects ≡ 2). holds_over setup counts observations inner2 (subst (Suits inner2) (sym two) suits2) bound limit lent a room results deeds)
    effects
