-- What is claimed of one search, of one effect: over every history of the rules. Assumes nothing.
use mathlib.Core.Path.{◌≡◌, refl, sym, ap, ◌∙◌, subst}
use mathlib.Core.Logic.{◌⊎◌, inl, inr}
use mathlib.Core.Bool.{Bool, true, false, true≢false}
use mathlib.Core.List.Memᴰ
use mathlib.Core.List.{List, [], ◌∷◌, Memᴰ}
use Prim.Native.Nat.{ℕ, ◌+◌, ◌≤◌}
use lib.ListN.{take, drop, length, take-append-drop}
use lib.Dec.{T, lit≤}
use lib.Ieee.{Float, of_bits, lt, le}
use Rattle.float64.specs.Pick.{pick}
use Rattle.float64.proofs.Order.{lt→le, of_true}
use Rattle.mode.specs.declared.population_focei.Settings.{Settings}
use Rattle.mode.specs.declared.population_focei.Conditional.{Conditional}
use Rattle.mode.specs.declared.population_focei.Stage.TheVariants.{Grid}
use Rattle.mode.specs.declared.population_focei.Search.{Search}
use Rattle.mode.specs.Rules.{nought, request, advance, screened, first_score, fell, start, grid_point, settled, is_above, is_under, is_closer}
use Rattle.mode_theorems.specs.Histories.{led_from, Answered}
use Rattle.mode_theorems.specs.Terms.{etas, score_at, Cell, neighbours_from, neighbours, is_upward, upward, warm_trials}
use Rattle.mode_theorems.specs.History.{Domain, Answers, Follows, after_from, after}
use Rattle.mode_theorems.specs.Claim.{grid, trials, final_bracket, Screened, Best, Found, Unsettled, OneSearch}
use Rattle.mode_theorems.proofs.Words.{grid_next, under_is, above_is, settled_is, settled_not, filter_in, last_from, last_is, grid_length, over}
use Rattle.mode_theorems.proofs.Trials.{nought_num, is_mode, is_end, mode-end, unsettled_end}
use Rattle.mode_theorems.proofs.Count.{at_most_82}
use Rattle.mode_theorems.proofs.Refusals.{at_bound, several, numbers}
use Rattle.mode_theorems.proofs.Screen.{or_not, true_of, side, grid_no_mode, grid_asked, next, stays_bad, stays_under, Bad, doomed, Below, climbing, Rest, nearer}
use Rattle.mode.specs.declared.Request.TheVariants.{Mode, Refused}

-- ---- the ends of a cell are points of the list
EndsIn : Cell → List Conditional → Type 0
EndsIn k l = Memᴰ k.left l × Memᴰ k.right l

ends_in : (k : Cell) (a : Conditional) (t : List Conditional) → Memᴰ k (neighbours_from a t) → EndsIn k (a ∷ t)
unfolding neighbours_from EndsIn
ends_in k a [] p = absurd (Memᴰ.not-nil p)
ends_in k a (b ∷ t) p =
    elim (Memᴰ.cases_cons p) [
      | inl e ↦ (Memᴰ.head (ap (λ (v : Cell). v.left) e), Memᴰ.tail (Memᴰ.head (ap (λ (v : Cell). v.right) e)))
      | inr q ↦ let r = ends_in k b t q in (Memᴰ.tail r.0, Memᴰ.tail r.1)
    ]

in_take : (m : Conditional) (n : ℕ) (h : List Conditional) → Memᴰ m (take n h) → Memᴰ m h
in_take m n h p = subst (λ (l : List Conditional). Memᴰ m l) (take-append-drop n h) (Memᴰ.append_left (drop n h) p)

in_drop : (m : Conditional) (n : ℕ) (h : List Conditional) → Memᴰ m (drop n h) → Memᴰ m h
in_drop m n h p = subst (λ (l : List Conditional). Memᴰ m l) (take-append-drop n h) (Memᴰ.append_right (take n h) p)

nearer_in : (k : Cell) (m : Conditional) (l : List Conditional) → m ≡ nearer k → EndsIn k l → Memᴰ m l
unfolding EndsIn pick
nearer_in k m l e p = go (is_closer k.left k.right) e
  where
    go : (t : Bool) → m ≡ pick t k.left k.right → Memᴰ m l
    go true e = Memᴰ.cast e p.0
    go false e = Memᴰ.cast e p.1

member : (k : Cell) (m : Conditional) (n : ℕ) (h : List Conditional) → upward (take n h) ≡ k ∷ [] → (m ≡ nearer k) ⊎ Memᴰ m (drop n h) → Memᴰ m h
unfolding neighbours
member k m n h e (inr p) = in_drop m n h p
member k m n h e (inl p) = in_take m n h (nearer_in k m (take n h) p (go (take n h) (filter_in is_upward k _ (subst (λ (v : List Cell). Memᴰ k v) (sym e) (Memᴰ.head refl)))))
  where
    go : (l : List Conditional) → Memᴰ k (neighbours l) → EndsIn k l
    go [] p = absurd (Memᴰ.not-nil p)
    go (a ∷ t) p = ends_in k a t p

-- ---- the first point
pub first_below : (s : Settings) (c : Conditional) → Answers (request s start) c → le nought c.score ≡ false → Below s 16 (screened start c) × (is_under c ≡ true)
unfolding screened first_score fell start pick is_above lt of_bits
first_below s c w e =
    elim (side c w.score_number) [
      | inl p ↦ absurd (true≢false (sym (true_of (le nought c.score) (lt→le nought c.score (of_true (lt nought c.score) p.0))) ∙ e))
      | inr p ↦ (
        record {
          on_grid = refl;
          number = refl;
          j = 0;
          before = refl;
          first_below = e;
          no_fall = refl;
          is_under = p.1;
          not_above = p.0;
          at = (grid_asked s start c refl w).1;
          score_number = w.score_number;
        },
        p.1,
      )
    ]

pub first_bad : (c : Conditional) → le nought c.score ≡ true → Bad (screened start c)
unfolding Bad screened first_score start pick
first_bad c e = inl e

-- ---- past the grid: what holds at a mode and at 15
record Past (s : Settings) (h : List Conditional) (e : Search) : Type 0 where
  pub cell : Cell
  pub screened : Screened s (grid h) cell
  pub best : Best cell h e.best
  pub is_settled : settled s e.best (final_bracket cell h).left (final_bracket cell h).right ≡ is_mode (request s e)
  pub all_tried : request s e ≡ Refused 15 → length (trials h) ≡ warm_trials s cell + 16 + 48

past_grid_lem : (s : Settings) (d : Domain s) (h : List Conditional) → Follows s h → T (is_end (request s (after s h))) → Past s h (after s h)
unfolding Answered led_from etas score_at neighbours screened start
past_grid_lem s d [] f m = absurd (grid_no_mode s start refl m)
past_grid_lem s d (c ∷ h) f m =
    let y = advance s start c in
    let z = after_from s y h in
    elim (or_not (le nought c.score)) [
      | inl e ↦
          let bad : Bad (screened start c) = first_bad c e in
          let g : y ≡ screened start c = next s start c refl (grid_asked s start c refl f.0).0 ∙ stays_bad s (screened start c) bad in
          absurd (doomed s h y (subst (λ (v : Search). v.stage ≡ Grid) (sym g) (refl)) (subst (λ (v : Search). 1 ≤ v.count) (sym g) (lit≤ tt)) (subst Bad (sym g) bad) f.1 m)
      | inr e ↦
          let b = first_below s c f.0 e in
          let g : y ≡ screened start c = next s start c refl (grid_asked s start c refl f.0).0 ∙ stays_under s (screened start c) b.1 in
          let r = climbing s d 16 h y (subst (λ (v : Search). Below s 16 v) (sym g) b.0) f.1 m in
          let w : Rest s 16 1 c (r.0 ∷ []) r.0 h z = subst (λ (v : Search). Rest s 16 v.count v.latest (r.0 ∷ []) r.0 h z) g r.1 in
          let first : etas (c ∷ take 16 h) ≡ grid_point s.eta_bound 0 ∷ etas (take 16 h) = ap (λ (v : Float). v ∷ etas (take 16 h)) (grid_asked s start c refl f.0).1 in
          let last : (last_from c (take 16 h)).score ≡ score_at (c ∷ take 16 h) 16 =
          last_is c (take 16 h) ∙ ap (λ (i : ℕ). score_at (c ∷ take 16 h) i) (grid_length s.eta_bound 16 1 (take 16 h) w.grid) in
          record {
            cell = r.0;
            screened = record {
              is_grid = first ∙ ap (λ (l : List Float). grid_point s.eta_bound 0 ∷ l) w.grid ∙ grid_next s.eta_bound 16 0;
              first_below = over nought c.score nought_num f.0.score_number e;
              last_above = subst (λ (v : Float). T (lt nought v)) last (subst T (sym w.last_above ∙ above_is (last_from c (take 16 h))) tt);
              no_fall = w.no_fall;
              single = w.rising;
            };
            best = record {
              member = member r.0 z.best 17 (c ∷ h) w.rising w.ends.source;
              in_left = w.ends.in_left;
              in_right = w.ends.in_right;
              least_left = w.ends.least_left;
              least_right = w.ends.least_right;
              least = w.ends.least;
              best_left = w.ends.best_left;
              best_right = w.ends.best_right;
              bracket_low = w.ends.bracket_low;
              bracket_order = w.ends.bracket_order;
              bracket_high = w.ends.bracket_high;
              left_under = subst T (under_is _) w.ends.left_under;
              right_above = subst T (above_is _) w.ends.right_above;
              in_bracket = w.ends.in_bracket;
            };
            is_settled = w.ends.is_settled;
            all_tried = w.all_tried;
          }
    ]

-- ---- the claim
module _ (s : Settings) (d : Domain s) (h : List Conditional) (f : Follows s h) where
  found : request s (after s h) ≡ Mode → Found s h (after s h).best
  found e =
      let p = past_grid_lem s d h f (mode-end (request s (after s h)) e) in
      record { cell = p.cell; screened = p.screened; best = p.best; is_settled = settled_is s (final_bracket p.cell h) (after s h).best (p.is_settled ∙ ap is_mode e) }

  unsettled : request s (after s h) ≡ Refused 15 → Unsettled s h (after s h).best
  unsettled e =
      let p = past_grid_lem s d h f (unsettled_end (request s (after s h)) e) in
      record { cell = p.cell; screened = p.screened; best = p.best; all_tried = p.all_tried e; not_settled = settled_not s (final_bracket p.cell h) (after s h).best (p.is_settled ∙ ap is_mode e) }

pub one_search : OneSearch
one_search s d h f = record { at_most = at_most_82 s h f; found = found s d h f; at_bound = at_bound s h f; several = several s h f; unsettled = unsettled s d h f; numbers = numbers s (after s h) }
