-- A run says at each of its nodes what an answer says of the history that leads there. Assumes nothing.
use mathlib.Core.Path.{◌≡◌, refl, sym, ap, ◌∙◌, subst}
use mathlib.Core.List.{List, [], ◌∷◌, ◌++◌, append-nil, append_assoc}
use mathlib.Core.Bool.{Bool, true, false, ◌&&◌, ◌||◌}
use mathlib.Core.Logic.{◌⊎◌, inl, inr}
use Prim.Native.Nat.{◌+◌}
use lib.ListN.{length, length-append}
use Rattle.float64.specs.Pick.{pick}
use Rattle.mode_theorems.specs.Histories.{led_from}
use Rattle.source.specs.Run.{Run, done, ask, stop, play, Asked, AskedAt, Said, asks, found, refused, said}

abbrev pub push : {A : Type 0} → List A → A → List A
push l a = l ++ (a ∷ [])

pub or_not : (b : Bool) → (b ≡ true) ⊎ (b ≡ false)
or_not true = inl refl
or_not false = inr refl

-- the source's && and || as the rules pick
pub and_pick : (a b : Bool) → (a && b) ≡ pick a b false
unfolding pick
and_pick true b = refl
and_pick false b = refl

pub or_pick : (a b : Bool) → (a || b) ≡ pick a true b
unfolding pick
or_pick true b = refl
or_pick false b = refl

pub led_push : {X C : Type 0} (advance : X → C → X) (x : X) (g : List C) (c : C) → led_from advance x (push g c) ≡ advance (led_from advance x g) c
unfolding led_from
led_push advance x [] c = refl
led_push advance x (a ∷ g) c = led_push advance (advance x a) g c

pub length_push : {C : Type 0} (g : List C) (c : C) → length (push g c) ≡ length g + 1
length_push g c = length-append g (c ∷ [])

-- each answer of h, after those of g, is a fine one
unfoldable pub AllFine : {C : Type 0} → (List C → C → Type 0) → List C → List C → Type 0
AllFine Fine g [] = Unit
AllFine Fine g (c ∷ h) = Fine g c × AllFine Fine (push g c) h

-- it is a point that is said
Asking : {P B : Type 0} → Said P B → Type 0
Asking (asks p) = Unit
Asking (found m) = ⊥
Asking (refused n) = ⊥

same_point : {P B : Type 0} {p q : P} → ◌≡◌ {A = Said P B} (asks p) (asks q) → p ≡ q
same_point e = cc

pub asked_of : {P C A : Type 0} (at : C → P) (r : Run P C A) (h : List C) → AskedAt at r h → Asked r h
unfolding Asked AskedAt
asked_of at r [] w = tt
asked_of at (done a) (c ∷ h) w = w
asked_of at (ask p k) (c ∷ h) w = asked_of at (k c) h w.1
asked_of at (stop n) (c ∷ h) w = w

module _ {P C A B : Type 0} (Fine : List C → C → Type 0) (view : A → B) (answer : List C → Said P B) where
  unfoldable pub Tells : Run P C A → List C → Type 0
  Tells (done a) g = answer g ≡ found (view a)
  Tells (ask p k) g = (answer g ≡ asks p) × ((c : C) → Fine g c → Tells (k c) (push g c))
  Tells (stop n) g = answer g ≡ refused n

  pub says : (r : Run P C A) (g h : List C) → Tells r g → AllFine Fine g h → Asked r h → said view (play r h) ≡ answer (g ++ h)
  unfolding Tells AllFine Asked said play
  says (done a) g [] t f q = sym t ∙ ap answer (sym (append-nil g))
  says (ask p k) g [] t f q = sym t.0 ∙ ap answer (sym (append-nil g))
  says (stop n) g [] t f q = sym t ∙ ap answer (sym (append-nil g))
  says (done a) g (c ∷ h) t f q = absurd q
  says (ask p k) g (c ∷ h) t f q = says (k c) (push g c) h (t.1 c f.0) f.1 q ∙ ap answer (append_assoc g (c ∷ []) h)
  says (stop n) g (c ∷ h) t f q = absurd q

  -- a history h after g is a path of the run where the answer asks for each of its points
  pub trodden : (at : C → P) (Steps : List C → List C → Type 0)
      → ((g : List C) (c : C) (h : List C) → Steps g (c ∷ h) → (answer g ≡ asks (at c)) × Steps (push g c) h)
      → (r : Run P C A) (g h : List C) → Tells r g → AllFine Fine g h → Steps g h → AskedAt at r h
  unfolding Tells AllFine AskedAt Asking
  trodden at Steps law (done a) g [] t f w = tt
  trodden at Steps law (ask p k) g [] t f w = tt
  trodden at Steps law (stop n) g [] t f w = tt
  trodden at Steps law (done a) g (c ∷ h) t f w = subst Asking (sym (law g c h w).0 ∙ t) tt
  trodden at Steps law (ask p k) g (c ∷ h) t f w =
      (same_point (sym (law g c h w).0 ∙ t.0), trodden at Steps law (k c) (push g c) h (t.1 c f.0) f.1 (law g c h w).1)
  trodden at Steps law (stop n) g (c ∷ h) t f w = subst Asking (sym (law g c h w).0 ∙ t) tt
