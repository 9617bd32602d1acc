-- The ways through the code: one law for each, over plain variables. Assumes nothing.
use Rattle.std.specs.Prelude.{Some, None}
use mathlib.Core.Path.{◌≡◌, refl, sym, ap, ◌∙◌}
use mathlib.Core.List.{List, [], ◌∷◌}
use Prim.Native.Nat.{ℕ, zero, suc, ◌+◌, ◌-◌, ◌/◌, ◌≤◌, ◌<◌}
use native.Mathlib.Nat.{add-zero, add_assoc}
use native.Mathlib.Omega.{arith}
use borrow.Author.Tests.{lt-ltb, le-ltb, eq-eqb, ne_eqb}
use lib.Ieee.{Float}
use lib.Dec.{eqb}
use lib.ListN.{length}
use Rattle.float64.specs.Pick.{pick, yes, no}
use Rattle.words.specs.Written.{write}
use Rattle.words.specs.Page.{with_items}
use Rattle.words.specs.declared.Page.{Page}
use Rattle.words.proofs.Pages.{with_append}
use Rattle.focei_records.specs.Records.{records, subject_at, reserved_at, answer, cohort_from, count_from, counts_from, observation_at, observations_from}
use Rattle.focei_records.specs.Records.{row_at, replied_from}

-- ---- what is left of n turns after i
none_left : (n i : ℕ) → n ≤ i → 0 ≡ n - i
none_left n i h = omega arith

one_more : (n i : ℕ) → i < n → suc (n - (i + 1)) ≡ n - i
one_more n i h = omega arith

-- ---- 20, at record i of n, with s subjects before it; r is its reserved word, x its subject
module _ (n i s : ℕ) (input : List ℕ) where
  pub cohort_end : n ≤ i → answer (Some s) ≡ cohort_from (n - i) input i s
  unfolding answer cohort_from
  cohort_end h = ap (λ (m : ℕ). cohort_from m input i s) (none_left n i h)

  module _ {r : ℕ} (h : i < n) (er : r ≡ reserved_at input i) where
    here : cohort_from (suc (n - (i + 1))) input i s ≡ cohort_from (n - i) input i s
    here = ap (λ (m : ℕ). cohort_from m input i s) (one_more n i h)

    pub not_reserved : (r ≡ 0 → ⊥) → answer None ≡ cohort_from (n - i) input i s
    unfolding answer cohort_from
    not_reserved d = no _ (ne_eqb _ _ (λ e. d (er ∙ e))) refl ∙ here

    module _ {x : ℕ} (z : r ≡ 0) (ex : x ≡ subject_at input i) where
      pub next_subject_lem : {s' : ℕ} → x ≡ s → s' ≡ s + 1 → cohort_from (n - (i + 1)) input (i + 1) s' ≡ cohort_from (n - i) input i s
      unfolding cohort_from
      next_subject_lem e t = yes _ (eq-eqb _ _ (sym er ∙ z)) (yes _ (eq-eqb _ _ (sym ex ∙ e)) (ap (cohort_from (n - (i + 1)) input (i + 1)) t)) ∙ here

      pub same_subject : {s' : ℕ} → (x ≡ s → ⊥) → x + 1 ≡ s → s' ≡ s → cohort_from (n - (i + 1)) input (i + 1) s' ≡ cohort_from (n - i) input i s
      unfolding cohort_from
      same_subject d e t =
          yes _ (eq-eqb _ _ (sym er ∙ z))
          (no _ (ne_eqb _ _ (λ q. d (ex ∙ q)))
          (yes _ (eq-eqb _ _ (ap (λ (y : ℕ). y + 1) (sym ex) ∙ e)) (ap (cohort_from (n - (i + 1)) input (i + 1)) t))) ∙ here

      pub stray_subject : (x ≡ s → ⊥) → (x + 1 ≡ s → ⊥) → answer None ≡ cohort_from (n - i) input i s
      unfolding answer cohort_from
      stray_subject d f =
          yes _ (eq-eqb _ _ (sym er ∙ z))
          (no _ (ne_eqb _ _ (λ q. d (ex ∙ q)))
          (no _ (ne_eqb _ _ (λ q. f (ap (λ (y : ℕ). y + 1) ex ∙ q))) refl)) ∙ here

-- ---- a count, at record i of n
module _ (n i s total : ℕ) (input : List ℕ) where
  pub count_end : n ≤ i → total ≡ total + count_from (n - i) input i s
  unfolding count_from
  count_end h = sym (add-zero total) ∙ ap (λ (m : ℕ). total + count_from m input i s) (none_left n i h)

  module _ {x total' : ℕ} (h : i < n) (ex : x ≡ subject_at input i) where
    counted : (one : ℕ) → one ≡ pick (eqb (subject_at input i) s) 1 0 → total' ≡ total + one → total' + count_from (n - (i + 1)) input (i + 1) s ≡ total + count_from (n - i) input i s
    unfolding count_from
    counted one e t =
        ap (λ (m : ℕ). m + count_from (n - (i + 1)) input (i + 1) s) (t ∙ ap (λ (m : ℕ). total + m) e)
        ∙ add_assoc total _ _
        ∙ ap (λ (m : ℕ). total + count_from m input i s) (one_more n i h)

    pub count_hit : x ≡ s → total' ≡ total + 1 → total' + count_from (n - (i + 1)) input (i + 1) s ≡ total + count_from (n - i) input i s
    count_hit e t = counted 1 (yes _ (eq-eqb _ _ (sym ex ∙ e)) refl) t

    pub count_miss : (x ≡ s → ⊥) → total' ≡ total → total' + count_from (n - (i + 1)) input (i + 1) s ≡ total + count_from (n - i) input i s
    count_miss d t = counted 0 (no _ (ne_eqb _ _ (λ q. d (ex ∙ q))) refl) (t ∙ sym (add-zero total))

-- ---- the counts, at subject s of n
module _ (n s : ℕ) (input : List ℕ) (t : Page ℕ) where
  pub counts_end : n ≤ s → t ≡ with_items (counts_from (n - s) input s) t
  unfolding counts_from with_items write
  counts_end h = ap (λ (m : ℕ). with_items (counts_from m input s) t) (none_left n s h)

  pub counts_step : {w : ℕ} {t' : Page ℕ} → s < n → w ≡ count_from (records input) input 0 s → t' ≡ with_items (w ∷ []) t → with_items (counts_from (n - (s + 1)) input (s + 1)) t' ≡ with_items
      (counts_from (n - s) input s) t
  unfolding counts_from with_items write
  counts_step h e q =
      ap (with_items (counts_from (n - (s + 1)) input (s + 1))) (q ∙ ap (λ (w : ℕ). with_items (w ∷ []) t) e) ∙ ap (λ (m : ℕ). with_items (counts_from m input s) t) (one_more n s h)

-- ---- the observations of all records, at record i of n
module _ (n i : ℕ) (input : List ℕ) (t : Page ℕ) where
  pub observations_end : n ≤ i → t ≡ with_items (observations_from (n - i) input i) t
  unfolding observations_from with_items write
  observations_end h = ap (λ (m : ℕ). with_items (observations_from m input i) t) (none_left n i h)

  pub observations_step : {t' : Page ℕ} → i < n → t' ≡ with_items (observation_at input i) t → with_items (observations_from (n - (i + 1)) input (i + 1)) t' ≡ with_items (observations_from (n - i) input i) t
  unfolding observations_from
  observations_step h q =
      ap (with_items (observations_from (n - (i + 1)) input (i + 1))) q
      ∙ sym (with_append (observation_at input i) (observations_from (n - (i + 1)) input (i + 1)) t)
      ∙ ap (λ (m : ℕ). with_items (observations_from m input i) t) (one_more n i h)

-- ---- the rows of a reply, of which so many are left at record i
pub reply_end : (left i : ℕ) (input : List ℕ) (individual : Float) (t : Page ℕ) → (0 < left → length input / 48 ≤ i) → t ≡ with_items (replied_from left input individual i) t
unfolding replied_from with_items write
reply_end zero i input individual t f = refl
reply_end (suc left) i input individual t f = ap (λ (l : List ℕ). with_items l t) (no _ (le-ltb _ _ (f (omega arith))) refl)

pub reply_step : {t' : Page ℕ} (rest left i : ℕ) (input : List ℕ) (individual : Float) (t : Page ℕ) → suc rest ≡ left → i < length input / 48 → t' ≡ with_items (row_at input individual i) t
    → with_items (replied_from rest input individual (i + 1)) t' ≡ with_items (replied_from left input individual i) t
unfolding replied_from
reply_step rest left i input individual t more j q =
    ap (with_items (replied_from rest input individual (i + 1))) q
    ∙ sym (with_append (row_at input individual i) (replied_from rest input individual (i + 1)) t)
    ∙ ap (λ (l : List ℕ). with_items l t) (yes _ (lt-ltb _ _ j) refl)
    ∙ ap (λ (m : ℕ). with_items (replied_from m input individual i) t) more
