-- What a printed line begins with: so a refusal's number of at most two digits can be read off it. Assumes nothing.
use mathlib.Core.Path.{◌≡◌, refl, ap, ◌∙◌}
use mathlib.Core.List.{List, [], ◌∷◌, ◌++◌}
use mathlib.Core.Logic.{◌⊎◌, inl, inr}
use Prim.Native.Nat.{ℕ, ◌+◌, ◌/◌, ◌%◌, ◌≤◌, ◌<◌}
use native.Mathlib.Omega.{arith}
use borrow.Author.Tests.{lt-ltb, le-ltb}
use lib.Ieee.{Float}
use lib.ListN.{get_or}
use Rattle.float64.specs.Pick.{pick_yes, pick_no}
use Rattle.search.specs.declared.Place.{Place}
use Rattle.session_theorems.proofs.Plain.{split}
use Rattle.focei_text.specs.Writing.{glyph, digits, decimal}
use Rattle.focei_text.specs.Report.{fields, line, subject_field, observation_field, refusal_line, objective_line, finished}

-- ---- the digits of a number
digit : (d : ℕ) → d < 10 → glyph d ≡ 48 + d
unfolding glyph
digit d l = pick_yes _ _ _ (lt-ltb _ _ l)

one_digit : (n : ℕ) → n < 10 → decimal n ≡ (48 + n) ∷ []
unfolding decimal digits
one_digit n l = pick_yes _ _ _ (lt-ltb _ _ l) ∙ ap (λ (d : ℕ). d ∷ []) (digit n l)

two_digits : (n : ℕ) → 10 ≤ n → n < 100 → decimal n ≡ (48 + n / 10) ∷ (48 + n % 10) ∷ []
unfolding decimal digits
two_digits n l h =
    let tens : n / 10 < 10 = omega arith in
    let units : n % 10 < 10 = omega arith in
    pick_no _ _ _ (le-ltb _ _ l)
    ∙ ap (λ (ds : List ℕ). ds ++ (glyph (n % 10) ∷ [])) (pick_yes _ _ _ (lt-ltb _ _ tens))
    ∙ (λ i. digit (n / 10) tens i ∷ digit (n % 10) units i ∷ [])

-- ---- a refusal's line: R, a space, the number, and the rest
abbrev with_digits : List ℕ → Place → List ℕ
with_digits ds place = 82 ∷ 32 ∷ (ds ++ fields (subject_field place ∷ observation_field place ∷ []))

refusal_is : (n : ℕ) (place : Place) → refusal_line n place ≡ with_digits (decimal n) place
unfolding refusal_line line fields
refusal_is n place = refl

-- byte i of a line, the first being 0
byte : ℕ → List ℕ → ℕ
byte i l = get_or l i 0

module _ (place : Place) where
  short_line : (n : ℕ) → n < 10 → byte 3 (refusal_line n place) ≡ 32
  unfolding byte fields
  short_line n l = ap (byte 3) (refusal_is n place) ∙ ap (λ (ds : List ℕ). byte 3 (with_digits ds place)) (one_digit n l)

  long_line : (n : ℕ) → 10 ≤ n → n < 100 → (byte 2 (refusal_line n place) ≡ 48 + n / 10) × (byte 3 (refusal_line n place) ≡ 48 + n % 10)
  unfolding byte
  long_line n l h =
      let same = refusal_is n place ∙ ap (λ (ds : List ℕ). with_digits ds place) (two_digits n l h) in
      (ap (byte 2) same, ap (byte 3) same)

pub number_read : (n m : ℕ) (place place' : Place) → n < 100 → 10 ≤ m → m < 100 → refusal_line n place ≡ refusal_line m place' → n ≡ m
number_read n m place place' h l k e = by (split n 10)
  where
    by : (n < 10) ⊎ (10 ≤ n) → n ≡ m
    by (inl s) =
        let mine = short_line place n s in
        let other = (long_line place' m l k).1 in
        let same = ap (byte 3) e in
        absurd (omega (arith, mine, other, same))
    by (inr s) =
        let mine = long_line place n s h in
        let other = long_line place' m l k in
        let tens = ap (byte 2) e in
        let units = ap (byte 3) e in
        omega (arith, mine.0, mine.1, other.0, other.1, tens, units)

-- ---- a finished objective's text begins with another letter
pub finished_other : (x : Float) (n : ℕ) (y : Float) (counts results : List ℕ) (number : ℕ) (place : Place) → finished x n y counts results ≡ refusal_line number place → ⊥
unfolding finished objective_line refusal_line line byte
finished_other x n y counts results number place e = let letters : ◌≡◌ {A = ℕ} 79 82 = ap (byte 0) e in omega arith
