-- The blocks of a subject's rows in the work words: what a copy of a block leaves in each, and what a move of the rows does. Assumes nothing.
use Rattle.std.specs.Prelude.{None, Option, Some}
use mathlib.Core.Path.{◌≡◌, refl, sym, ap, ap₂, subst, ◌∙◌}
use mathlib.Core.Bool.{Bool, true, false}
use mathlib.Core.List.{List, [], ◌∷◌}
use mathlib.Core.Logic.{◌⊎◌, inl, inr, ⊎_elim}
use Prim.Native.Nat.{ℕ, zero, suc, ◌+◌, ◌-◌, ◌*◌, ◌≤◌, ◌<◌}
use native.Mathlib.Nat.{mul-le-mul_left}
use native.Mathlib.Omega.{arith}
use borrow.Author.Tests.{eq-eqb, ne_eqb}
use lib.Dec.{eqb}
use lib.ListN.{get_or, set, length, length-set}
use lib.Seq.{get_or-set_same, get_or-set_other}
use Rattle.float64.specs.Pick.{pick, both, pick_yes, pick_no}
use Rattle.cache.specs.Cache.{copy_from, rows_to, copied}
use Rattle.cache.specs.Kept.{words_from}
use Rattle.work.specs.Work.{rows_length, block, copy_words, copy_block, move_rows}
use Rattle.work.specs.declared.Sources.{Sources}
use Rattle.population.specs.Kept.{Recalled, recall_at}
use Rattle.session_theorems.proofs.Plain.{split}

-- ---- the words from a place on
pub words_same : (n a b : ℕ) (w v : List ℕ) → ((d : ℕ) → d < n → get_or w (a + d) 0 ≡ get_or v (b + d) 0) → words_from n w a ≡ words_from n v b
unfolding words_from
words_same zero a b w v f = refl
words_same (suc n) a b w v f = ap₂ (λ (x : ℕ) (l : List ℕ). x ∷ l) head (words_same n (a + 1) (b + 1) w v tail)
  where
    head : get_or w a 0 ≡ get_or v b 0
    head = let p : a + 0 ≡ a = omega arith in let q : b + 0 ≡ b = omega arith in ap (λ (i : ℕ). get_or w i 0) (sym p) ∙ f 0 (omega arith) ∙ ap (λ (i : ℕ). get_or v i 0) q

    tail : (d : ℕ) → d < n → get_or w (a + 1 + d) 0 ≡ get_or v (b + 1 + d) 0
    tail d l =
        let p : a + 1 + d ≡ a + suc d = omega arith in let q : b + suc d ≡ b + 1 + d = omega arith in
        ap (λ (i : ℕ). get_or w i 0) p ∙ f (suc d) (omega (arith, l)) ∙ ap (λ (i : ℕ). get_or v i 0) q

pub words_at : (n a : ℕ) (w : List ℕ) (k : ℕ) → k < n → get_or (words_from n w a) k 0 ≡ get_or w (a + k) 0
unfolding words_from
words_at zero a w k l = absurd (omega (arith, l))
words_at (suc n) a w zero l = ap (λ (i : ℕ). get_or w i 0) (let p : a ≡ a + 0 = omega arith in p)
words_at (suc n) a w (suc k) l = words_at n (a + 1) w k (omega (arith, l)) ∙ ap (λ (i : ℕ). get_or w i 0) (let p : a + 1 + k ≡ a + suc k = omega arith in p)

-- a list that has these words
pub words_are : (n a : ℕ) (w l : List ℕ) → length l ≡ n → ((i : ℕ) → i < n → get_or w (a + i) 0 ≡ get_or l i 0) → words_from n w a ≡ l
unfolding words_from
words_are zero a w [] e f = refl
words_are zero a w (x ∷ l) e f = absurd (omega (arith, e))
words_are (suc n) a w [] e f = absurd (omega (arith, e))
words_are (suc n) a w (x ∷ l) e f = ap₂ (λ (y : ℕ) (v : List ℕ). y ∷ v) (ap (λ (i : ℕ). get_or w i 0) (let p : a ≡ a + 0 = omega arith in p) ∙ f 0 (omega arith))
    (words_are n (a + 1) w l (omega (arith, e)) (λ i h. ap (λ (k : ℕ). get_or w k 0) (let p : a + 1 + i ≡ a + suc i = omega arith in p) ∙ f (suc i) (omega (arith, h))))

-- ---- words copied to a place before them
words_length : (n from to : ℕ) (w : List ℕ) → length (copy_words n from to w) ≡ length w
unfolding copy_words
words_length zero from to w = refl
words_length (suc n) from to w = words_length n (from + 1) (to + 1) (set w to (get_or w from 0)) ∙ length-set w to (get_or w from 0)

words_out : (n from to : ℕ) (w : List ℕ) (j : ℕ) → (j < to) ⊎ (to + n ≤ j) → get_or (copy_words n from to w) j 0 ≡ get_or w j 0
unfolding copy_words
words_out zero from to w j o = refl
words_out (suc n) from to w j o =
    words_out n (from + 1) (to + 1) (set w to (get_or w from 0)) j (⊎_elim (λ (a : j < to). inl (omega arith)) (λ (b : to + suc n ≤ j). inr (omega arith)) o)
    ∙ get_or-set_other w to j (get_or w from 0) 0 (λ (e : j ≡ to). ⊎_elim (λ (a : j < to). omega arith) (λ (b : to + suc n ≤ j). omega arith) o)

words_in : (n from to : ℕ) (w : List ℕ) (d : ℕ) → to + n ≤ from → to + n ≤ length w → d < n → get_or (copy_words n from to w) (to + d) 0 ≡ get_or w (from + d) 0
unfolding copy_words
words_in zero from to w d a l h = absurd (omega (arith, h))
words_in (suc n) from to w zero a l h =
    ap (λ (x : ℕ). get_or (copy_words n (from + 1) (to + 1) (set w to (get_or w from 0))) x 0) (let e : to + 0 ≡ to = omega arith in e)
    ∙ words_out n (from + 1) (to + 1) (set w to (get_or w from 0)) to (inl (omega arith)) ∙ get_or-set_same w to (get_or w from 0) 0 (omega (arith, l))
    ∙ ap (λ (x : ℕ). get_or w x 0) (let e : from ≡ from + 0 = omega arith in e)
words_in (suc n) from to w (suc d) a l h =
    let v = set w to (get_or w from 0) in
    ap (λ (x : ℕ). get_or (copy_words n (from + 1) (to + 1) v) x 0) (let e : to + suc d ≡ to + 1 + d = omega arith in e)
    ∙ words_in n (from + 1) (to + 1) v d (omega (arith, a)) (subst (λ (m : ℕ). to + 1 + n ≤ m) (sym (length-set w to (get_or w from 0))) (omega (arith, l))) (omega (arith, h))
    ∙ get_or-set_other w to (from + 1 + d) (get_or w from 0) 0 (λ (e : from + 1 + d ≡ to). omega (arith, a, e))
    ∙ ap (λ (x : ℕ). get_or w x 0) (let e : from + 1 + d ≡ from + suc d = omega arith in e)

-- ---- the blocks
-- a block stays, or gets the rows of a later one
pub data From (to : ℕ) : ℕ → Type 0 where
  stays : From to to
  later : {from : ℕ} → to < from → from ≤ 3 → From to from

pub from_most : {to from : ℕ} → to ≤ 3 → From to from → (to ≤ from) × (from ≤ 3)
from_most l stays = (omega arith, l)
from_most l (later a b) = (omega arith, b)

block_is : (rows b : ℕ) → b ≤ 3 → block rows b ≡ rows_length rows * b
unfolding block
block_is rows b l = ap (λ (k : ℕ). rows_length rows * k) (let e : 3 - (3 - b) ≡ b = omega (arith, l) in e)

-- one block lies behind the other
apart : (len a b : ℕ) → a < b → len * a + len ≤ len * b
apart len a b l = subst (λ (k : ℕ). k ≤ len * b) (let e : len * suc a ≡ len * a + len = omega arith in e) (mul-le-mul_left len l)

module _ (rows : ℕ) where
  abbrev len : ℕ
  len = rows_length rows

  -- the words of a block
  abbrev pub rows_in : List ℕ → ℕ → List ℕ
  rows_in w b = words_from len w (block rows b)

  copy_length : (from to : ℕ) (w : List ℕ) → length (copy_block rows from to w) ≡ length w
  unfolding copy_block
  copy_length from to w = go (eqb from to)
    where
      go : (t : Bool) → length (pick t w (copy_words len (block rows from) (block rows to) w)) ≡ length w
      go true = ap length (pick_yes true w _ refl)
      go false = ap length (pick_no false w _ refl) ∙ words_length len (block rows from) (block rows to) w

  copy_moves : (from to : ℕ) (w : List ℕ) → to < from → copy_block rows from to w ≡ copy_words len (block rows from) (block rows to) w
  unfolding copy_block
  copy_moves from to w l = pick_no _ _ _ (ne_eqb from to (λ e. omega (arith, e, l)))

  copy_stays : (to : ℕ) (w : List ℕ) → copy_block rows to to w ≡ w
  unfolding copy_block
  copy_stays to w = pick_yes _ _ _ (eq-eqb to to refl)

  module _ (w : List ℕ) (long : len * 4 ≤ length w) where
    -- the block that is written has the rows of the other
    block_copied : (to from : ℕ) → to ≤ 3 → From to from → rows_in (copy_block rows from to w) to ≡ rows_in w from
    block_copied to from l stays = ap (λ (v : List ℕ). rows_in v to) (copy_stays to w)
    block_copied to from l (later a b) =
        let p = block_is rows to l in
        let q = block_is rows from b in
        let g = apart len to from a in
        let m = apart len to 4 (omega (arith, l)) in
        ap (λ (v : List ℕ). rows_in v to) (copy_moves from to w a)
        ∙ words_same len (block rows to) (block rows from) _ w (λ d h. words_in len (block rows from) (block rows to) w d (omega (arith, p, q, g)) (omega (arith, p, m, long)) h)

    -- and each other block its own
    others : (to from b : ℕ) → to ≤ 3 → b ≤ 3 → (b ≡ to → ⊥) → From to from → rows_in (copy_block rows from to w) b ≡ rows_in w b
    others to from b l m n stays = ap (λ (v : List ℕ). rows_in v b) (copy_stays to w)
    others to from b l m n (later a c) =
        let p = block_is rows to l in
        let q = block_is rows b m in
        ap (λ (v : List ℕ). rows_in v b) (copy_moves from to w a)
        ∙ words_same len (block rows b) (block rows b) _ w (λ d h. words_out len (block rows from) (block rows to) w (block rows b + d)
        (⊎_elim (λ (e : b < to). inl (let g = apart len b to e in omega (arith, p, q, g, h))) (λ (e : to ≤ b). inr (let g = apart len to b (omega (arith, e, n)) in omega (arith, p, q, g)))
        (split b to)))

  -- the move of an evaluated point's rows
  module _ (s : Sources) (w : List ℕ) (long : len * 4 ≤ length w) (zero_from : From 0 s.population) (best-from : From 1 s.best) (latest-from : From 2 s.latest) where
    abbrev w1 : List ℕ
    w1 = copy_block rows s.population 0 w

    abbrev w2 : List ℕ
    w2 = copy_block rows s.best 1 w1

    long1 : len * 4 ≤ length w1
    long1 = let e = copy_length s.population 0 w in omega (arith, long, e)

    long2 : len * 4 ≤ length w2
    long2 = let e = copy_length s.best 1 w1 in omega (arith, long1, e)

    pub moved_zero : rows_in (move_rows rows s w) 0 ≡ rows_in w s.population
    unfolding move_rows
    moved_zero =
        others w2 long2 2 s.latest 0 (omega arith) (omega arith) (λ e. omega (arith, e)) latest-from
        ∙ others w1 long1 1 s.best 0 (omega arith) (omega arith) (λ e. omega (arith, e)) best-from ∙ block_copied w long 0 s.population (omega arith) zero_from

    pub moved_best : rows_in (move_rows rows s w) 1 ≡ rows_in w s.best
    unfolding move_rows
    moved_best =
        let f = from_most (omega arith) best-from in
        others w2 long2 2 s.latest 1 (omega arith) (omega arith) (λ e. omega (arith, e)) latest-from
        ∙ block_copied w1 long1 1 s.best (omega arith) best-from ∙ others w long 0 s.population s.best (omega arith) f.1 (λ e. let g = f.0 in omega (arith, e, g)) zero_from

    pub moved_latest : rows_in (move_rows rows s w) 2 ≡ rows_in w s.latest
    unfolding move_rows
    moved_latest =
        let f = from_most (omega arith) latest-from in
        block_copied w2 long2 2 s.latest (omega arith) latest-from
        ∙ others w1 long1 1 s.best s.latest (omega arith) f.1 (λ e. let g = f.0 in omega (arith, e, g)) best-from
        ∙ others w long 0 s.population s.latest (omega arith) f.1 (λ e. let g = f.0 in omega (arith, e, g)) zero_from

-- ---- only the trial block, the last, is written
pub before_trial : (rows b : ℕ) (w v : List ℕ) → b < 3 → ((i : ℕ) → i < block rows 3 → get_or v i 0 ≡ get_or w i 0) → rows_in rows v b ≡ rows_in rows w b
before_trial rows b w v l f =
    let p = block_is rows b (omega (arith, l)) in
    let q = block_is rows 3 (omega arith) in
    let g = apart (rows_length rows) b 3 l in
    words_same (rows_length rows) (block rows b) (block rows b) v w (λ d h. f (block rows b + d) (omega (arith, p, q, g, h)))

copy_behind : (n : ℕ) (w : List ℕ) (k x : ℕ) (out : List ℕ) (to i j : ℕ) → j < to → get_or (copy_from n w k x out to i) j 0 ≡ get_or out j 0
unfolding copy_from
copy_behind zero w k x out to i j l = refl
copy_behind (suc n) w k x out to i j l = copy_behind n w k x _ to (i + 1) j l ∙ get_or-set_other out (to + i) j _ 0 (λ e. omega (arith, e, l))

pub recalled_behind : (w : List ℕ) (k rows : ℕ) (work : List ℕ) (to : ℕ) (f : Option ℕ) (r : Recalled) → recall_at w k rows work to f ≡ Some r → (j : ℕ) → j < to → get_or r.work j 0 ≡ get_or work j 0
unfolding recall_at copied rows_to
recalled_behind w k rows work to (Some slot) r q j l =
    let v : r.work ≡ copied w k slot rows work to = cc in
    ap (λ (x : List ℕ). get_or x j 0) v ∙ both Same _ (both Same _ refl (both Same _ refl (both Same _ refl (copy_behind _ w k _ work to 0 j l)))) refl
  where
    Same : List ℕ → Type 0
    Same x = get_or x j 0 ≡ get_or work j 0
recalled_behind w k rows work to None r q j l = absurd (let z : ◌≡◌ {A = ℕ} 0 1 = cc in omega arith)
