-- Words copied one after another, in runs and around rings. Assumes nothing.
use Rattle.std.proofs.Common.{◌≡◌, ℕ, zero, suc, ◌+◌, ◌-◌, ◌*◌, ◌%◌, ◌<◌, ◌≤◌, List, get_or, set, sym, refl, ap, ◌∙◌, ap₂, add-zero, mod-lt, mod-eq_of_lt, zero-add, arith}
use native.Mathlib.Nat.{mod-add-mod, add-mul-mod_self_left}
use Rattle.cache.specs.Cache.{row_place, row_at, copy_from, copy_run, put_ring}

-- ---- a turn of a run
module _ (w : List ℕ) (from to n i : ℕ) (out : List ℕ) where
  pub run_end : n ≤ i → out ≡ copy_run (n - i) w from out to i
  unfolding copy_run
  run_end h = let z : n - i ≡ 0 = omega arith in ap (λ (m : ℕ). copy_run m w from out to i) (sym z)

  pub run_step : {out' : List ℕ} → i < n → out' ≡ set out (to + i) (get_or w (from + i) 0) → copy_run (n - (i + 1)) w from out' to (i + 1) ≡ copy_run (n - i) w from out to i
  unfolding copy_run
  run_step h r =
      let z : n - i ≡ suc (n - (i + 1)) = omega arith in
      ap (λ (l : List ℕ). copy_run (n - (i + 1)) w from l to (i + 1)) r ∙ ap (λ (m : ℕ). copy_run m w from out to i) (sym z)

-- ---- n words of v, word f i of it to word g i, one after another from i on: runs and rings are this
unfoldable pub moved : ℕ → List ℕ → (ℕ → ℕ) → List ℕ → (ℕ → ℕ) → ℕ → List ℕ
moved zero v f w g i = w
moved (suc n) v f w g i = moved n v f (set w (g i) (get_or v (f i) 0)) g (i + 1)

pub ring_moves : (n : ℕ) (w : List ℕ) (base c x : ℕ) (v : List ℕ) (from i : ℕ) → moved n v (λ t. from + t) w (λ t. base + (x + t) % c) i ≡ put_ring n w base c x v from i
unfolding moved put_ring
ring_moves zero w base c x v from i = refl
ring_moves (suc n) w base c x v from i = ring_moves n _ base c x v from (i + 1)

pub rows_move : (n : ℕ) (w : List ℕ) (k x : ℕ) (out : List ℕ) (to i : ℕ) → moved n w (λ t. row_place k (x + t)) out (λ t. to + t) i ≡ copy_from n w k x out to i
unfolding moved copy_from row_at
rows_move zero w k x out to i = refl
rows_move (suc n) w k x out to i = rows_move n w k x _ to (i + 1)

in_two : (m n : ℕ) (v : List ℕ) (f : ℕ → ℕ) (w : List ℕ) (g : ℕ → ℕ) (i : ℕ) → moved n v f (moved m v f w g i) g (i + m) ≡ moved (m + n) v f w g i
unfolding moved
in_two zero n v f w g i = ap₂ (λ (a b : ℕ). moved a v f w g b) (sym (zero-add n)) (add-zero i)
in_two (suc m) n v f w g i =
    let a : suc (m + n) ≡ suc m + n = omega arith in
    let b : i + suc m ≡ i + 1 + m = omega arith in
    ap (λ (z : ℕ). moved n v f (moved (suc m) v f w g i) g z) b ∙ in_two m n v f _ g (i + 1) ∙ ap (λ (z : ℕ). moved z v f w g i) a

module _ (v : List ℕ) (f g : ℕ → ℕ) where
  -- places that stand one after another are a run
  is_run : (from to n i j : ℕ) (w : List ℕ) → ((t : ℕ) → t < n → (f (i + t) ≡ from + (j + t)) × (g (i + t) ≡ to + (j + t))) → copy_run n v from w to j ≡ moved n v f w g i
  unfolding moved copy_run
  is_run from to zero i j w h = refl
  is_run from to (suc n) i j w h =
      let p : f i ≡ from + j = ap f (sym (add-zero i)) ∙ (h 0 (omega arith)).0 ∙ ap (λ (z : ℕ). from + z) (add-zero j) in
      let q : g i ≡ to + j = ap g (sym (add-zero i)) ∙ (h 0 (omega arith)).1 ∙ ap (λ (z : ℕ). to + z) (add-zero j) in
      is_run from to n (i + 1) (j + 1) (set w (to + j) (get_or v (from + j) 0)) (λ t l.
      let a : i + 1 + t ≡ i + (t + 1) = omega arith in
      let b : j + (t + 1) ≡ j + 1 + t = omega arith in
      (ap f a ∙ (h (t + 1) (omega arith)).0 ∙ ap (λ (z : ℕ). from + z) b, ap g a ∙ (h (t + 1) (omega arith)).1 ∙ ap (λ (z : ℕ). to + z) b))
      ∙ ap (λ (l : List ℕ). moved n v f l g (i + 1)) (sym (λ d. set w (q d) (get_or v (p d) 0)))

  pub one_run : {w₁ : List ℕ} (w : List ℕ) (from to n : ℕ) → ((t : ℕ) → t < n → (f t ≡ from + t) × (g t ≡ to + t)) → w₁ ≡ copy_run n v from w to 0 → w₁ ≡ moved n v f w g 0
  one_run w from to n h e =
      e ∙ is_run from to n 0 0 w (λ t l. (ap f (zero-add t) ∙ (h t l).0 ∙ ap (λ (z : ℕ). from + z) (sym (zero-add t)), ap g (zero-add t) ∙ (h t l).1 ∙ ap (λ (z : ℕ). to + z) (sym (zero-add t))))

  -- m words, then the others from other places on
  pub two_runs : {w₁ w₂ : List ℕ} (w : List ℕ) (from to from' to' m n : ℕ) → m ≤ n → ((t : ℕ) → t < m → (f t ≡ from + t) × (g t ≡ to + t)) →
      ((t : ℕ) → t < n - m → (f (m + t) ≡ from' + t) × (g (m + t) ≡ to' + t))
      → w₁ ≡ copy_run m v from w to 0 → w₂ ≡ copy_run (n - m) v from' w₁ to' 0 → w₂ ≡ moved n v f w g 0
  two_runs {w₁} w from to from' to' m n l h k e r =
      let z : m + (n - m) ≡ n = omega (arith, l) in
      r
      ∙ is_run from' to' (n - m) (0 + m) 0 w₁ (λ t j.
      let a : 0 + m + t ≡ m + t = omega arith in
      (ap f a ∙ (k t j).0 ∙ ap (λ (y : ℕ). from' + y) (sym (zero-add t)), ap g a ∙ (k t j).1 ∙ ap (λ (y : ℕ). to' + y) (sym (zero-add t))))
      ∙ ap (λ (y : List ℕ). moved (n - m) v f y g (0 + m)) (one_run w from to m h e) ∙ in_two m (n - m) v f w g 0 ∙ ap (λ (y : ℕ). moved y v f w g 0) z

-- ---- the word t after word x of a ring of c words: before its end, and past it
pub near : (c x t : ℕ) → x % c + t < c → (x + t) % c ≡ x % c + t
near c x t h = sym (mod-add-mod x c t) ∙ mod-eq_of_lt h

pub far : (c x t : ℕ) → 0 < c → t < c → (x + (c - x % c + t)) % c ≡ t
far c x t some h =
    let m : x % c < c = mod-lt x some in
    let z : x % c + (c - x % c + t) ≡ t + c * 1 = omega (arith, m) in
    sym (mod-add-mod x c (c - x % c + t)) ∙ ap (λ (y : ℕ). y % c) z ∙ add-mul-mod_self_left t c 1 ∙ mod-eq_of_lt h
