-- The exits of `subject_checks`, over plain values. Assumes nothing.
use Rattle.std.specs.Prelude.{Err}
use mathlib.Core.Path.{◌≡◌, refl, ap, ◌∙◌}
use mathlib.Core.List.{List}
use Prim.Native.Nat.{ℕ, ◌≤◌, ◌<◌}
use borrow.Author.Tests.{lt-ltb, le-ltb, eq-eqb, ne_eqb}
use mathlib.Core.Logic.{◌⊎◌, inl, inr}
use lib.Dec.{ltb, eqb}
use lib.ListN.{length, get_or}
use Rattle.float64.specs.Pick.{pick, yes, no}
use Rattle.setup.specs.Admission.{checks_of, within, Admission}
use Rattle.setup.specs.declared.Setup.{Setup}
use Rattle.setup.specs.declared.Lent.{Lent}
use Rattle.setup.specs.SubjectChecks.{subject_checks}
use Rattle.setup.specs.declared.AdmissionError.TheVariants.{Refused}
use Rattle.subject.specs.Observations.{Check}

-- count is what was read of the subject
module _ (s : Setup) (counts : List ℕ) (subject : ℕ) (lent : Lent) (check : Check) {count : ℕ} (e : count ≡ get_or counts subject 0) where
  abbrev from : ℕ → Admission
  from c = pick (eqb c 0) (Err (Refused 1)) (pick (ltb 100000 c) (Err (Refused 1)) (checks_of s (length counts) lent check (within c c)))

  read_count : {a : Admission} → a ≡ from count → a ≡ subject_checks s counts subject lent check
  unfolding subject_checks
  read_count q = q ∙ ap from e

  none : count ≡ 0 → Err (Refused 1) ≡ subject_checks s counts subject lent check
  none z = read_count (yes _ (eq-eqb _ _ z) refl)

  module _ (some : (count ≡ 0) → ⊥) where
    many : 100000 < count → Err (Refused 1) ≡ subject_checks s counts subject lent check
    many h = read_count (no _ (ne_eqb _ _ some) (yes _ (lt-ltb _ _ h) refl))

    pub counted : {a : Admission} → count ≤ 100000 → a ≡ checks_of s (length counts) lent check (within count count) → a ≡ subject_checks s counts subject lent check
    counted few q = read_count (no _ (ne_eqb _ _ some) (no _ (le-ltb _ _ few) q))

  pub refused : (count ≡ 0) ⊎ ((count ≡ 0 → ⊥) × (100000 < count)) → Err (Refused 1) ≡ subject_checks s counts subject lent check
  refused (inl z) = none z
  refused (inr h) = many h.0 h.1
