-- What was written, where there is room for it: it stands at the front of what is lent, the rest is as it was, and the place is its length. Assumes nothing.
use mathlib.Core.Path.{◌≡◌, refl, sym, ap, subst, ◌∙◌}
use mathlib.Core.List.{List, [], ◌∷◌, ◌++◌}
use Prim.Native.Nat.{ℕ, suc, ◌+◌, ◌≤◌, ◌<◌}
use native.Mathlib.Nat.{add-zero}
use native.Mathlib.Numerals.{add-one}
use native.Mathlib.Omega.{arith}
use borrow.Author.Tests.{lt-ltb, ltb-true}
use lib.Dec.{ltb}
use lib.ListN.{length, take, drop, set, length-set}
use lib.Seq.{sets, sets-eq, take-append_seam}
use Rattle.float64.specs.Pick.{pick_yes, cases}
use Rattle.words.specs.Written.{Written, written, put, write}

-- one text after another
pub write_append : {A : Type 0} (a b : List A) (t : Written A) → write (a ++ b) t ≡ write b (write a t)
unfolding write
write_append [] b t = refl
write_append (x ∷ a) b t = write_append a b (put x t)

write_sets : (l w : List ℕ) (n : ℕ) → n + length l ≤ length w → write l (written n w) ≡ written (n + length l) (sets w n l)
unfolding write put
write_sets [] w n h = ap (λ (m : ℕ). written m w) (sym (add-zero n))
write_sets (x ∷ l) w n h =
    let room : n + 1 + length l ≤ length (set w n x) = simp length-set (omega arith) in
    let place : n + 1 + length l ≡ n + suc (length l) = omega arith in
    let inside : n < length w = omega arith in
    ap (write l) (pick_yes _ _ _ (lt-ltb _ _ inside))
    ∙ write_sets l (set w n x) (n + 1) room
    ∙ (λ i. written (place i) (sets (set w n x) (add-one n i) l))

pub fits : (l w : List ℕ) → length l ≤ length w → write l (written 0 w) ≡ written (length l) (l ++ drop (length l) w)
fits l w h =
    let none : 0 + length l ≡ length l = omega arith in
    write_sets l w 0 (omega arith)
    ∙ ap (written (0 + length l)) (sets-eq l w 0 (omega arith))
    ∙ ap (λ (m : ℕ). written m (l ++ drop m w)) none

-- so that what is lent, up to the place, is what was written
pub front : {r : ℕ} {w' : List ℕ} (l w : List ℕ) → length l ≤ length w → written r w' ≡ write l (written 0 w) → take r w' ≡ l
front l w h e =
    let at = e ∙ fits l w h in
    ap (λ (t : Written ℕ). take t.end t.lent) at ∙ take-append_seam l (drop (length l) w)

-- and where there is no room the place is still within what is lent
put_within : (x : ℕ) (t : Written ℕ) → t.end ≤ length t.lent → (put x t).end ≤ length (put x t).lent
unfolding put
put_within x t h =
    cases (λ (u : Written ℕ). u.end ≤ length u.lent) (ltb t.end (length t.lent))
    (λ q. let inside : t.end < length t.lent = ltb-true _ _ q in let same = length-set t.lent t.end x in omega arith)
    (λ q. h)

pub write_within : (l : List ℕ) (t : Written ℕ) → t.end ≤ length t.lent → (write l t).end ≤ length (write l t).lent
unfolding write
write_within [] t h = h
write_within (x ∷ l) t h = write_within l (put x t) (put_within x t h)

pub within : {r : ℕ} {w' : List ℕ} (l w : List ℕ) → written r w' ≡ write l (written 0 w) → r ≤ length w'
within l w e = subst (λ (t : Written ℕ). t.end ≤ length t.lent) (sym e) (write_within l (written 0 w) (omega arith))
