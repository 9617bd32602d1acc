-- The ways through the code: one law for each, over plain variables. Assumes nothing.
use mathlib.Core.Path.{◌≡◌, sym, ap, ◌∙◌}
use mathlib.Core.List.{List, [], ◌∷◌}
use Prim.Native.Nat.{ℕ, suc, ◌+◌, ◌-◌, ◌*◌, ◌≤◌, ◌<◌}
use native.Mathlib.Omega.{arith}
use borrow.Author.Tests.{ltb-true}
use lib.Dec.{ltb}
use lib.ListN.{get_or, length, drop}
use Rattle.std.proofs.Common.{map}
use Rattle.std.proofs.lemmas.List.{at_drop_more, at_drop_all}
use Rattle.float64.specs.Pick.{pick, cases}
use Rattle.words.specs.Written.{write}
use Rattle.words.specs.Page.{with_items}
use Rattle.words.specs.declared.Page.{Page}
use Rattle.words.proofs.Pages.{with_append}
use Rattle.work.specs.Work.{most_rows}
use Rattle.population.specs.Population.{rows_of}
use Rattle.focei_text.specs.declared.Field.{Field}
use Rattle.focei_text.specs.Report.{shown, fields, subject_line, fitted_line, subject_lines, fitted_lines, all_fitted}

-- ---- what is left of n turns after i
none_left : (n i : ℕ) → n ≤ i → 0 ≡ n - i
none_left n i h = omega arith

one_more : (n i : ℕ) → i < n → suc (n - (i + 1)) ≡ n - i
one_more n i h = omega arith

-- ---- the fields of a line, at field i
module _ (xs : List Field) (i : ℕ) (p : Page ℕ) where
  pub fields_step : {p' : Page ℕ} (d : Field) → i < length xs → p' ≡ with_items (32 ∷ shown (get_or xs i d)) p → with_items (fields (map shown (drop (i + 1) xs))) p' ≡ with_items
      (fields (map shown (drop i xs))) p
  unfolding fields
  fields_step d h e =
      ap (with_items (fields (map shown (drop (i + 1) xs)))) e
      ∙ sym (with_append (32 ∷ shown (get_or xs i d)) (fields (map shown (drop (i + 1) xs))) p)
      ∙ sym (at_drop_more (λ (l : List Field). with_items (fields (map shown l)) p) xs i d h)

  pub fields_end : {p' : Page ℕ} → length xs ≤ i → p' ≡ with_items (10 ∷ []) p → p' ≡ with_items (fields (map shown (drop i xs))) p
  unfolding fields
  fields_end h e = e ∙ sym (at_drop_all (λ (l : List Field). with_items (fields (map shown l)) p) xs i h)

-- ---- n subjects, at subject s; eta is its word
module _ (n s : ℕ) (results : List ℕ) (t : Page ℕ) where
  pub subjects_end : n ≤ s → t ≡ with_items (subject_lines (n - s) s results) t
  unfolding subject_lines with_items write
  subjects_end h = ap (λ (m : ℕ). with_items (subject_lines m s results) t) (none_left n s h)

  pub subjects_step : {eta : ℕ} {t' : Page ℕ} → s < n → eta ≡ get_or results (3 * s) 0 → t' ≡ with_items (subject_line s eta) t → with_items (subject_lines (n - (s + 1)) (s + 1) results) t' ≡ with_items
      (subject_lines (n - s) s results) t
  unfolding subject_lines
  subjects_step h e q =
      ap (with_items (subject_lines (n - (s + 1)) (s + 1) results)) (q ∙ ap (λ (w : ℕ). with_items (subject_line s w) t) e)
      ∙ sym (with_append (subject_line s (get_or results (3 * s) 0)) (subject_lines (n - (s + 1)) (s + 1) results) t)
      ∙ ap (λ (m : ℕ). with_items (subject_lines m s results) t) (one_more n s h)

-- ---- n observations of a subject, at observation i, whose predictions stand from word a on
module _ (n s i a : ℕ) (results : List ℕ) (t : Page ℕ) where
  pub fitted_end : n ≤ i → t ≡ with_items (fitted_lines (n - i) s i a results) t
  unfolding fitted_lines with_items write
  fitted_end h = ap (λ (m : ℕ). with_items (fitted_lines m s i a results) t) (none_left n i h)

  pub fitted_step : {x y a' : ℕ} {t' : Page ℕ} → i < n → a' ≡ a + 2 → x ≡ get_or results a 0 → y ≡ get_or results (a + 1) 0 → t' ≡ with_items (fitted_line s i x y) t → with_items
      (fitted_lines (n - (i + 1)) s (i + 1) a' results) t' ≡ with_items (fitted_lines (n - i) s i a results) t
  unfolding fitted_lines
  fitted_step h ea ex ey q =
      (λ d. with_items (fitted_lines (n - (i + 1)) s (i + 1) (ea d) results) ((q ∙ (λ k. with_items (fitted_line s i (ex k) (ey k)) t)) d))
      ∙ sym (with_append (fitted_line s i (get_or results a 0) (get_or results (a + 1) 0)) (fitted_lines (n - (i + 1)) s (i + 1) (a + 2) results) t)
      ∙ ap (λ (m : ℕ). with_items (fitted_lines m s i a results) t) (one_more n i h)

-- ---- those of n subjects, at subject s
module _ (n s a : ℕ) (counts results : List ℕ) (t : Page ℕ) where
  pub all_end : n ≤ s → t ≡ with_items (all_fitted (n - s) s a counts results) t
  unfolding all_fitted with_items write
  all_end h = ap (λ (m : ℕ). with_items (all_fitted m s a counts results) t) (none_left n s h)

  pub all_step : {rows : ℕ} {t' : Page ℕ} → s < n → rows ≡ rows_of counts s → t' ≡ with_items (fitted_lines rows s 0 a results) t → with_items (all_fitted (n - (s + 1)) (s + 1) (a + 2 * rows) counts results) t' ≡
      with_items (all_fitted (n - s) s a counts results) t
  unfolding all_fitted
  all_step h e q =
      (λ d. with_items (all_fitted (n - (s + 1)) (s + 1) (a + 2 * e d) counts results) ((q ∙ ap (λ (m : ℕ). with_items (fitted_lines m s 0 a results) t) e) d))
      ∙ sym (with_append (fitted_lines (rows_of counts s) s 0 a results) (all_fitted (n - (s + 1)) (s + 1) (a + 2 * rows_of counts s) counts results) t)
      ∙ ap (λ (m : ℕ). with_items (all_fitted m s a counts results) t) (one_more n s h)

pub few_rows : {rows : ℕ} (counts : List ℕ) (s : ℕ) → rows ≡ rows_of counts s → rows ≤ 100000
unfolding rows_of
few_rows counts s e =
    let m = get_or counts s 0 in
    let low : pick (ltb m most_rows) m most_rows ≤ 100000 = cases (λ (k : ℕ). k ≤ 100000) (ltb m most_rows) (λ q. omega (arith, ltb-true)) (λ q. omega arith) in
    omega arith
