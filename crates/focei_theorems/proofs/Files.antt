-- The bytes that are read suffice, and more than 256 records get 20. Assumes nothing.
use mathlib.Core.Path.{◌≡◌, refl, sym, ap, ◌∙◌}
use mathlib.Core.List.{List}
use mathlib.Core.Logic.{◌⊎◌, inl, inr}
use Prim.Native.Nat.{ℕ, ◌%◌, ◌≤◌, ◌<◌}
use native.Mathlib.Omega.{arith}
use borrow.Author.Tests.{ltb-false, eqb-true}
use lib.Dec.{eqb, ltb}
use lib.ListN.{length, take}
use lib.Seq.{length-take-le, take_all}
use Rattle.float64.specs.Answer.{Answer}
use Rattle.float64.specs.Pick.{cases}
use Rattle.search.specs.declared.Place.TheVariants.{Nowhere}
use Rattle.session_theorems.proofs.Plain.{split}
use Rattle.focei_records.specs.Records.{records, no_cohort, cohort}
use Rattle.focei_text.specs.Report.{refusal_line}
use Rattle.focei_fit.specs.Output.{when_records, output}
use Rattle.focei_theorems.specs.Claim.{EveryFile}

too_long : (file : List ℕ) → 12288 < length file → cohort file ≡ no_cohort
unfolding cohort
too_long file l =
    cases (λ (r : Answer ℕ). r ≡ no_cohort) (eqb (length file % 48) 0)
    (λ w.
    cases (λ (r : Answer ℕ). r ≡ no_cohort) (ltb 256 (records file))
    (λ _. refl)
    (λ f. let few : records file ≤ 256 = ltb-false _ _ f in let whole : length file % 48 ≡ 0 = eqb-true _ _ w in absurd (omega arith)))
    (λ _. refl)

twenty : (file : List ℕ) → 12288 < length file → output file ≡ refusal_line 20 Nowhere
unfolding output when_records
twenty file l = ap (when_records file) (too_long file l)

-- so that the first n bytes suffice, where these are more than 256 records
reads_enough : (n : ℕ) (file : List ℕ) → 12288 < n → output (take n file) ≡ output file
reads_enough n file m = by (split n (length file))
  where
    by : (n < length file) ⊎ (length file ≤ n) → output (take n file) ≡ output file
    by (inl l) =
        let as_many = length-take-le n file (omega (arith, l)) in
        twenty (take n file) (omega (arith, as_many, m)) ∙ sym (twenty file (omega (arith, l, m)))
    by (inr l) = ap output (take_all n file l)

pub every_file : EveryFile
every_file file = record { enough = λ n m. reads_enough n file (omega (arith, m)); long = λ l. twenty file (omega (arith, l)) }
