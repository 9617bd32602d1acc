-- The rows of a kept evaluation come to the work words alike, from its slot in the cache's words or from its entry in the list. Assumes nothing.
use mathlib.Core.Path.{◌≡◌, refl, sym, ap, subst, ◌∙◌}
use mathlib.Core.List.{List, [], ◌∷◌}
use mathlib.Core.Logic.{◌⊎◌, inl, inr, ⊎_elim}
use Prim.Native.Nat.{ℕ, zero, suc, ◌+◌, ◌-◌, ◌*◌, ◌≤◌, ◌<◌}
use native.Mathlib.Omega.{arith}
use lib.ListN.{get_or, set, length, length-set}
use lib.Seq.{get_or-set_same, get_or-set_other}
use Rattle.cache.specs.Cache.{row_words, copied}
use Rattle.cache.specs.Claim.{Room}
use Rattle.cache.specs.Kept.{entry_of}
use Rattle.cache.proofs.Run.{refinement}
use Rattle.population.specs.Kept.{copy_to}
use Rattle.session_theorems.proofs.Plain.{split}
use Rattle.session_theorems.proofs.Lengths.{AsLong, copied_length}

-- lists of the same words are the same
same_list : (a b : List ℕ) → length a ≡ length b → ((j : ℕ) → get_or a j 0 ≡ get_or b j 0) → a ≡ b
same_list [] [] l f = refl
same_list [] (y ∷ b) l f = absurd (omega (arith, l))
same_list (x ∷ a) [] l f = absurd (omega (arith, l))
same_list (x ∷ a) (y ∷ b) l f = let h : x ≡ y = f 0 in let t = same_list a b (let m : suc (length a) ≡ suc (length b) = l in omega (arith, m)) (λ j. f (suc j)) in cc

-- ---- the copy of an entry's words
copy_length : (n : ℕ) (v : List ℕ) (i : ℕ) (out : List ℕ) (to : ℕ) → AsLong out (copy_to n v i out to)
unfolding copy_to
copy_length zero v i out to = refl
copy_length (suc n) v i out to = copy_length n v (i + 1) (set out (to + i) (get_or v i 0)) to ∙ length-set out (to + i) (get_or v i 0)

copy_out : (n : ℕ) (v : List ℕ) (i : ℕ) (out : List ℕ) (to j : ℕ) → (j < to + i) ⊎ (to + i + n ≤ j) → get_or (copy_to n v i out to) j 0 ≡ get_or out j 0
unfolding copy_to
copy_out zero v i out to j o = refl
copy_out (suc n) v i out to j o =
    copy_out n v (i + 1) (set out (to + i) (get_or v i 0)) to j (⊎_elim (λ (a : j < to + i). inl (omega arith)) (λ (b : to + i + suc n ≤ j). inr (omega arith)) o)
    ∙ get_or-set_other out (to + i) j (get_or v i 0) 0 (λ (e : j ≡ to + i). ⊎_elim (λ (a : j < to + i). omega arith) (λ (b : to + i + suc n ≤ j). omega arith) o)

copy_in : (n : ℕ) (v : List ℕ) (i : ℕ) (out : List ℕ) (to j : ℕ) → to + i + n ≤ length out → j < n → get_or (copy_to n v i out to) (to + i + j) 0 ≡ get_or v (i + j) 0
unfolding copy_to
copy_in zero v i out to j l h = absurd (omega (arith, h))
copy_in (suc n) v i out to zero l h =
    let w = set out (to + i) (get_or v i 0) in
    ap (λ (x : ℕ). get_or (copy_to n v (i + 1) w to) x 0) (let e : to + i + 0 ≡ to + i = omega arith in e)
    ∙ copy_out n v (i + 1) w to (to + i) (inl (omega arith)) ∙ get_or-set_same out (to + i) (get_or v i 0) 0 (omega (arith, l))
    ∙ ap (λ (x : ℕ). get_or v x 0) (let e : i ≡ i + 0 = omega arith in e)
copy_in (suc n) v i out to (suc j) l h =
    let w = set out (to + i) (get_or v i 0) in
    ap (λ (x : ℕ). get_or (copy_to n v (i + 1) w to) x 0) (let e : to + i + suc j ≡ to + (i + 1) + j = omega arith in e)
    ∙ copy_in n v (i + 1) w to j (subst (λ (m : ℕ). to + (i + 1) + n ≤ m) (sym (length-set out (to + i) (get_or v i 0))) (omega (arith, l))) (omega (arith, h))
    ∙ ap (λ (x : ℕ). get_or v x 0) (let e : i + 1 + j ≡ i + suc j = omega arith in e)

-- ---- and from the cache's words
module _ (w : List ℕ) (k slot n : ℕ) (out : List ℕ) (to : ℕ) (room : Room k) (long : 24 * k ≤ length w) (few : n ≤ k) (fit : to + row_words * n ≤ length out) (have : n ≤ (entry_of w k slot).n) where
  each : (j : ℕ) → get_or (copied w k slot n out to) j 0 ≡ get_or (copy_to (row_words * n) (entry_of w k slot).rows 0 out to) j 0
  each j = ⊎_elim
      (λ (a : j < to). refinement.reads_no_more w k slot n out to room long few fit j (inl a) ∙ sym (copy_out (row_words * n) (entry_of w k slot).rows 0 out to j (inl (omega arith))))
      (λ (b : to ≤ j). ⊎_elim
      (λ (c : j < to + row_words * n). inside (j - to) (omega arith) (omega arith))
      (λ (c : to + row_words * n ≤ j). refinement.reads_no_more w k slot n out to room long few fit j (inr c) ∙ sym (copy_out (row_words * n) (entry_of w k slot).rows 0 out to j (inr (omega arith))))
      (split j (to + row_words * n)))
      (split j to)
    where
      inside : (d : ℕ) → to + d ≡ j → d < row_words * n → get_or (copied w k slot n out to) j 0 ≡ get_or (copy_to (row_words * n) (entry_of w k slot).rows 0 out to) j 0
      inside d e l =
          subst (λ (x : ℕ). get_or (copied w k slot n out to) x 0 ≡ get_or (copy_to (row_words * n) (entry_of w k slot).rows 0 out to) x 0) e
          (refinement.reads_rows w k slot n out to room long few fit have d l
          ∙ ap (λ (x : ℕ). get_or (entry_of w k slot).rows x 0) (let z : d ≡ 0 + d = omega arith in z)
          ∙ sym (ap (λ (x : ℕ). get_or (copy_to (row_words * n) (entry_of w k slot).rows 0 out to) x 0) (let z : to + d ≡ to + 0 + d = omega arith in z)
          ∙ copy_in (row_words * n) (entry_of w k slot).rows 0 out to d (omega (arith, fit)) l))

  pub same_copy : copied w k slot n out to ≡ copy_to (row_words * n) (entry_of w k slot).rows 0 out to
  same_copy = same_list _ _ (copied_length w k slot n out to ∙ sym (copy_length (row_words * n) (entry_of w k slot).rows 0 out to)) each
