-- The ways through the code: one law for each, over plain variables. Assumes nothing.
use mathlib.Core.Path.{◌≡◌, refl, sym, ap, ◌∙◌}
use mathlib.Core.List.{List, [], ◌∷◌}
use Prim.Native.Nat.{ℕ, zero, suc, ◌-◌, ◌*◌, ◌/◌, ◌%◌, ◌≤◌, ◌<◌}
use native.Mathlib.Omega.{arith}
use borrow.Author.Tests.{lt-ltb, le-ltb, ltb-true}
use lib.Dec.{ltb}
use lib.ListN.{length}
use Rattle.float64.specs.Pick.{pick, cases, yes, no}
use Rattle.work.specs.Work.{most_subjects}
use Rattle.focei_text.specs.Report.{subjects_of}
use Rattle.words.specs.Written.{write}
use Rattle.words.specs.Page.{with_items}
use Rattle.words.specs.declared.Page.{Page}
use Rattle.focei_text.specs.Writing.{glyph, hex_from, digits}
use Rattle.words.proofs.Pages.{with_append}

-- ---- the hexadecimal digits
pub hex_end : (left w : ℕ) (t : Page ℕ) → left ≤ 0 → t ≡ with_items (hex_from left w) t
unfolding with_items write hex_from
hex_end zero w t h = refl
hex_end (suc left) w t h = absurd (omega arith)

-- g is the topmost digit, t' what was written with it
pub hex_step : {g : ℕ} {t' : Page ℕ} (rest left w : ℕ) (t : Page ℕ) → suc rest ≡ left → g ≡ glyph (w / 0x1000_0000_0000_0000) → t' ≡ with_items (g ∷ []) t → with_items
    (hex_from rest (w % 0x1000_0000_0000_0000 * 16)) t' ≡ with_items (hex_from left w) t
unfolding with_items write hex_from
hex_step rest left w t more eg e =
    ap (with_items (hex_from rest (w % 0x1000_0000_0000_0000 * 16))) (e ∙ ap (λ (g : ℕ). with_items (g ∷ []) t) eg) ∙ ap (λ (m : ℕ). with_items (hex_from m w) t) more

-- ---- a number's digits
pub no_digits : (most n : ℕ) (t : Page ℕ) → most ≡ 0 → t ≡ with_items (digits most n) t
unfolding with_items write digits
no_digits most n t e = sym (ap (λ (m : ℕ). with_items (digits m n) t) e)

module _ (most n : ℕ) (t : Page ℕ) (h : most ≡ 0 → ⊥) where
  more : most ≡ suc (most - 1)
  more = omega arith

  pub one_digit : {g : ℕ} {t' : Page ℕ} → n < 10 → g ≡ glyph n → t' ≡ with_items (g ∷ []) t → t' ≡ with_items (digits most n) t
  unfolding digits
  one_digit j eg e = e ∙ ap (λ (g : ℕ). with_items (g ∷ []) t) eg ∙ ap (λ (l : List ℕ). with_items l t) (yes _ (lt-ltb _ _ j) refl ∙ ap (λ (m : ℕ). digits m n) (sym more))

  pub more_digits : {g : ℕ} {t₁ t₂ : Page ℕ} → 10 ≤ n → t₁ ≡ with_items (digits (most - 1) (n / 10)) t → g ≡ glyph (n % 10) → t₂ ≡ with_items (g ∷ []) t₁ → t₂ ≡ with_items (digits most n) t
  unfolding digits
  more_digits j e₁ eg e₂ =
      e₂ ∙ (λ i. with_items (eg i ∷ []) (e₁ i)) ∙ sym (with_append (digits (most - 1) (n / 10)) (glyph (n % 10) ∷ []) t)
      ∙ ap (λ (l : List ℕ). with_items l t) (no _ (le-ltb _ _ j) refl ∙ ap (λ (m : ℕ). digits m n) (sym more))

-- ---- the number of subjects
module _ (counts : List ℕ) where
  pub few_subjects : {n : ℕ} → n ≡ subjects_of counts → n ≤ 4096
  unfolding subjects_of
  few_subjects e =
      let low : pick (ltb (length counts) most_subjects) (length counts) most_subjects ≤ 4096 = cases (λ (k : ℕ). k ≤ 4096) (ltb (length counts) most_subjects) (λ q. omega (arith, ltb-true))
      (λ q. omega arith) in
      omega arith
