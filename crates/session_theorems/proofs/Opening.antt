-- An accepted setup opens the session of demand 3. Assumes nothing.
use Rattle.std.specs.Prelude.{Err, Ok, Result}
use mathlib.Core.Path.{◌≡◌, refl, sym, ap, ◌∙◌, subst}
use mathlib.Core.Bool.{Bool, true, false}
use mathlib.Core.List.{List}
use Prim.Native.Nat.{ℕ}
use lib.Dec.{T}
use lib.ListN.{length}
use Rattle.setup.specs.Admission.{checks, Admission}
use Rattle.setup.specs.declared.Lent.{Lent}
use Rattle.setup.specs.declared.Setup.{Setup}
use Rattle.search.specs.declared.Tally.{Tally}
use Rattle.population.specs.Kept.{words}
use Rattle.session.specs.Calls.{held_of, lent_by, Setting, opening, opened_by}
use Rattle.session.specs.Session.{all_checked, opened}
use Rattle.session.specs.declared.State.{State}
use Rattle.session_theorems.specs.Setup.{EverySetup}
use Rattle.search.specs.declared.Refusal.{Refusal}
use Rattle.setup.specs.declared.AdmissionError.TheVariants as A

is_opened : Result State Refusal → Bool
is_opened (Ok s) = true
is_opened (Err e) = false

-- the state of an opening that is one, else s
state_from : State → Result State Refusal → State
state_from s (Ok t) = t
state_from s (Err e) = s

refused_never : {X : Type 0} {o : Result State Refusal} {s : State} → is_opened o ≡ false → o ≡ Ok s → X
unfolding is_opened
refused_never f e = absurd (subst T (sym (ap is_opened e) ∙ f) tt)

module _ (setup : Setup) (counts : List ℕ) (lent : Lent) (tally : Tally) (cache work warm results : List ℕ) (s : State) where
  abbrev gives : Admission → Setting
  gives a = opening setup counts lent tally cache work warm results a

  accepted : (a : Admission) → (gives a).begun.opening ≡ Ok s → a ≡ Ok tt
  unfolding opening is_opened
  accepted (Ok tt) e = refl
  accepted (Err (A.Refused number)) e = refused_never refl e
  accepted (Err (A.Unsound at)) e = refused_never refl e

  begins_with : (a : Admission) → (gives a).begun.opening ≡ Ok s
      → held_of s (gives a).begun.tally (gives a).cache (gives a).work (gives a).warm results ≡ opened words setup counts lent results
  unfolding opening is_opened state_from
  begins_with (Ok tt) e =
      ap (λ (t : State). held_of t (gives (Ok tt)).begun.tally (gives (Ok tt)).cache (gives (Ok tt)).work (gives (Ok tt)).warm results) (sym (ap (state_from s) e))
  begins_with (Err (A.Refused number)) e = refused_never refl e
  begins_with (Err (A.Unsound at)) e = refused_never refl e

pub every_setup : EverySetup
unfolding opened_by
every_setup setup counts observations tally cache work warm results s e =
    let lent = lent_by (length observations) (length cache) (length work) (length warm) (length results) in
    let a = checks setup counts lent (all_checked setup counts observations) in
    record {
      passes = accepted setup counts lent tally cache work warm results s a e;
      begins = begins_with setup counts lent tally cache work warm results s a e;
    }
