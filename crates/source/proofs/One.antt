-- The source's `mode` and the rules say the same. Assumes nothing.
use mathlib.Core.Path.{◌≡◌, refl, sym, ap, subst}
use mathlib.Core.List.{List, [], ◌∷◌, map}
use Prim.Native.Nat.{ℕ, zero, suc, ◌+◌, ◌≤◌, ◌<◌}
use native.Mathlib.Omega.{arith}
use lib.ListN.{length, take}
use lib.Ieee.{Float}
use Rattle.mode.specs.declared.population_focei.Settings.{Settings}
use Rattle.mode.specs.Rules as R
use Rattle.mode_theorems.specs.Histories
use Rattle.mode_theorems.specs.Histories.{Answered}
use Rattle.mode_theorems.specs.History.{FollowsFrom}
use Rattle.source.specs.Run.{asks}
use Rattle.source.specs.Source.{Conditional, mode}
use Rattle.source.specs.Claim.{Numbers, bare, State, step, begin, led, told_by, told, view, OneEffect}
use Rattle.source.proofs.Tells.{push, led_push, length_push, AllFine, says, trodden}
use Rattle.source.proofs.Screened.{Fine, tells}
use Rattle.mode.specs.declared.Request.TheVariants.{Point}

-- past the grid every answer will do
past : (g h : List Conditional) → 17 ≤ length g → AllFine Fine g h
unfolding AllFine Fine
past g [] e = tt
past g (c ∷ h) e = (λ k. absurd (apart (length g) e k), past (push g c) h (subst (λ n. 17 ≤ n) (sym (length_push g c)) (more (length g) e)))
  where
    apart : (n : ℕ) → 17 ≤ n → n < 17 → ⊥
    apart n a b = omega arith

    more : (n : ℕ) → 17 ≤ n → 17 ≤ n + 1
    more n a = omega arith

-- the scores of the grid are numbers
fine : (n : ℕ) (g h : List Conditional) → length g + n ≡ 17 → Numbers (take n h) → AllFine Fine g h
unfolding AllFine Fine Numbers
fine zero g h e k = past g h (omega arith)
fine (suc n) g [] e k = tt
fine (suc n) g (c ∷ h) e k = (λ l. k.0, fine n (push g c) h (let l = length_push g c in omega arith) k.1)

-- ---- the search is that of the rules
led_search : (s : Settings) (h : List Conditional) (x : State) → (Histories.led_from (step s) x h).search ≡ Histories.led_from (R.advance s) x.search (map bare h)
unfolding Histories.led_from
led_search s [] x = refl
led_search s (c ∷ h) x = led_search s h (step s x c)

-- ---- a history of the rules is a path of the run
asked_said : (s : Settings) (g : List Conditional) (p : Float) → R.request s (led s g).search ≡ Point p → told s g ≡ asks p
unfolding told_by
asked_said s g p e = ap (λ q. told_by q ((led s g).search.best, (led s g).blocks.best, (led s g).blocks.population)) e

abbrev Steps : Settings → List Conditional → List Conditional → Type 0
Steps s g h = FollowsFrom s (led s g).search (map bare h)

steps : (s : Settings) (g : List Conditional) (c : Conditional) (h : List Conditional) → Steps s g (c ∷ h) → (told s g ≡ asks c.eta) × Steps s (push g c) h
unfolding Answered
steps s g c h w = (asked_said s g c.eta w.0.asked, subst (λ x. FollowsFrom s x.search (map bare h)) (sym (led_push (step s) begin g c)) w.1)

pub one_effect : OneEffect
unfolding Histories.led_from
one_effect s h n =
    let f : AllFine Fine [] h = fine 17 [] h refl n in
    record {
      same = λ q. says Fine view (told s) (mode s) [] h (tells s) f q;
      path = λ w. trodden Fine view (told s) (λ c. c.eta) (Steps s) (steps s) (mode s) [] h (tells s) f w;
      search = led_search s h begin;
    }
