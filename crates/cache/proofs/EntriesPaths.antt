-- The ways through the code: one law for each, over plain variables. Assumes nothing.
use Rattle.std.proofs.Common.{◌≡◌, ℕ, ◌+◌, ◌-◌, ◌*◌, ◌/◌, ◌%◌, ◌<◌, ◌≤◌, Bool, true, false, List, length, get_or, sym, refl, ap, ◌∙◌, subst, mod-lt, mod-eq_of_lt, arith, le-ltb, lt-ltb}
use native.Mathlib.Nat.{div-add-mod, add-mul-mod_self_left}
use Rattle.float64.specs.Pick.{yes, no, yes_of, no_of}
use Rattle.cache.specs.Cache.{row_words, rows_from, entry_place, row_place, is_room, copy_from, copy_run, rows_to, copied}
use Rattle.cache.proofs.Runs.{moved, rows_move, one_run, two_runs, near, far}

-- ---- rows copied out: f is the number of a slot's first row, at its place in the ring, left what stands there before the ring's end
module _ (w : List ℕ) (k slot n : ℕ) (out : List ℕ) (to : ℕ) {a x f : ℕ} (some : 0 < k) (p : a ≡ entry_place k slot) (q : x ≡ get_or w (a + 15) 0) (r : f ≡ x) where
  at_lt : row_words * (f % k) < row_words * k
  at_lt = let m : f % k < k = mod-lt f some in omega arith

  at_is : row_words * f % (row_words * k) ≡ row_words * (f % k)
  at_is =
      let a : k * (f / k) + f % k ≡ f = div-add-mod f k in
      let z : row_words * f ≡ row_words * (f % k) + row_words * k * (f / k) = omega arith in
      ap (λ (y : ℕ). y % (row_words * k)) z ∙ add-mul-mod_self_left (row_words * (f % k)) (row_words * k) (f / k) ∙ mod-eq_of_lt at_lt

  before_end : (t : ℕ) → row_words * (f % k) + t < row_words * k → row_place k (row_words * f + t) ≡ rows_from * k + row_words * (f % k) + t
  unfolding row_place
  before_end t h =
      let z : rows_from * k + (row_words * (f % k) + t) ≡ rows_from * k + row_words * (f % k) + t = omega arith in
      ap (λ (y : ℕ). rows_from * k + y) (near (row_words * k) (row_words * f) t (subst (λ (y : ℕ). y + t < row_words * k) (sym at_is) h) ∙ ap (λ (y : ℕ). y + t) at_is) ∙ z

  past_end : (t : ℕ) → t < row_words * k → row_place k (row_words * f + (row_words * k - row_words * (f % k) + t)) ≡ rows_from * k + t
  unfolding row_place
  past_end t h =
      ap (λ (y : ℕ). rows_from * k + y) (ap (λ (y : ℕ). (row_words * f + (row_words * k - y + t)) % (row_words * k)) (sym at_is) ∙ far (row_words * k) (row_words * f) t (omega (arith, some)) h)

  is_rows : {out' : List ℕ} → out' ≡ moved n w (λ t. row_place k (row_words * f + t)) out (λ t. to + t) 0 → out' ≡ rows_to w k slot n out to
  unfolding rows_to
  is_rows e = e ∙ rows_move n w k (row_words * f) out to 0 ∙ ap (λ (y : ℕ). copy_from n w k (row_words * y) out to 0) (r ∙ q ∙ ap (λ (y : ℕ). get_or w (y + 15) 0) p)

  pub in_one_run : {out' : List ℕ} → n ≤ row_words * k - row_words * (f % k) → out' ≡ copy_run n w (rows_from * k + row_words * (f % k)) out to 0 → out' ≡ rows_to w k slot n out to
  in_one_run h e =
      let l = at_lt in
      is_rows (one_run w _ _ out (rows_from * k + row_words * (f % k)) to n (λ t j. (before_end t (omega (arith, j, h, l)), refl)) e)

  pub in_two_runs : {out₁ out₂ : List ℕ} → n ≤ row_words * k → row_words * k - row_words * (f % k) < n → out₁ ≡ copy_run (row_words * k - row_words * (f % k)) w (rows_from * k + row_words * (f % k)) out to 0
      → out₂ ≡ copy_run (n - (row_words * k - row_words * (f % k))) w (rows_from * k) out₁ (to + (row_words * k - row_words * (f % k))) 0 → out₂ ≡ rows_to w k slot n out to
  in_two_runs most h e g =
      let l = at_lt in
      let left = row_words * k - row_words * (f % k) in
      is_rows (two_runs w _ _ out (rows_from * k + row_words * (f % k)) to (rows_from * k) (to + left) left n (omega (arith, h)) (λ t j. (before_end t (omega (arith, j, l)), refl)) (λ t j.
      let z : to + (left + t) ≡ to + left + t = omega arith in
      (past_end t (omega (arith, j, most)), z)) e g)

-- r is what `is_room` answered
module _ (w : List ℕ) (k slot n : ℕ) (out : List ℕ) (to : ℕ) {r : Bool} (e : r ≡ is_room k) where
  pub copies_no_room : r ≡ false → out ≡ copied w k slot n out to
  unfolding copied
  copies_no_room t = no_of _ e t refl

  module _ (t : r ≡ true) where
    pub copies_too_many : k < n → out ≡ copied w k slot n out to
    unfolding copied
    copies_too_many h = yes_of _ e t (yes _ (lt-ltb _ _ h) refl)

    pub copies_not_lent : n ≤ k → length w < (rows_from + row_words) * k → out ≡ copied w k slot n out to
    unfolding copied
    copies_not_lent h l = yes_of _ e t (no _ (le-ltb _ _ h) (yes _ (lt-ltb _ _ l) refl))

    pub copies_past_end : n ≤ k → (rows_from + row_words) * k ≤ length w → length out < to + row_words * n → out ≡ copied w k slot n out to
    unfolding copied
    copies_past_end h l j = yes_of _ e t (no _ (le-ltb _ _ h) (no _ (le-ltb _ _ l) (yes _ (lt-ltb _ _ j) refl)))

    pub copies : {out' : List ℕ} → n ≤ k → (rows_from + row_words) * k ≤ length w → to + row_words * n ≤ length out → out' ≡ rows_to w k slot (row_words * n) out to → out' ≡ copied w k slot n out to
    unfolding copied
    copies h l j q = yes_of _ e t (no _ (le-ltb _ _ h) (no _ (le-ltb _ _ l) (no _ (le-ltb _ _ j) q)))
