-- The program's text is short enough for the program's buffer: so that it is printed whole. Assumes nothing.
use Rattle.std.specs.Prelude.{Err, Ok, Result}
use mathlib.Core.Path.{◌≡◌, refl, sym, ap, subst, ◌∙◌}
use mathlib.Core.Bool.{Bool, true, false}
use mathlib.Core.List.{List}
use Prim.Native.Nat.{ℕ, zero, suc, ◌+◌, ◌≤◌, ◌<◌}
use native.Mathlib.Numerals.{add-one}
use native.Mathlib.Omega.{arith}
use borrow.Author.Tests.{ltb-true, ltb-false}
use lib.Dec.{ltb}
use lib.ListN.{get_or, length, take, drop, length-append, get_or-eq_default, drop_of_length-le}
use lib.Seq.{drop-cons, take_all}
use Rattle.float64.specs.Answer.{Answer, given, refused}
use Rattle.search.specs.declared.Place.TheVariants.{Nowhere}
use Rattle.search.specs.declared.Step.{Step}
use Rattle.search.specs.declared.Step.TheVariants.{Asked, Finished, Refused}
use Rattle.search.specs.declared.Tally.{Tally}
use Rattle.session.specs.Calls.{Setting, shrinkage}
use Rattle.session.specs.declared.State.{State}
use Rattle.focei_records.specs.Records.{cohort, counts as countsIn}
use Rattle.focei_records.proofs.Bounds.{sum, counts_length, few_counted, few_records}
use Rattle.focei_text.specs.Report.{subjects_of}
use Rattle.focei_text.proofs.Lengths.{rows_from, rows_at_most, few_subjects, finished_length, refusal_length}
use Rattle.std.proofs.Common.{min}
use Rattle.words.specs.Written.{Written, written, write}
use Rattle.words.proofs.Front.{fits}
use Rattle.focei_fit.specs.Output.{ended, end_of, when_opened, fitted, lent, when_records, output, printed}
use Rattle.focei_fit.specs.Claim.{longest_text, Short}
use Rattle.search.specs.declared.Refusal.{Refusal}

-- ---- the rows of the subjects are no more than the counts add up to
rows_within : (left s : ℕ) (counts : List ℕ) (b : Bool) → ltb s (length counts) ≡ b → rows_from left s counts ≤ sum (drop s counts)
unfolding rows_from sum
rows_within zero s counts b e = omega arith
rows_within (suc left) s counts true e =
    let inside : s < length counts = ltb-true _ _ e in
    let later : rows_from left (s + 1) counts ≤ sum (drop (s + 1) counts) = rows_within left (s + 1) counts (ltb (s + 1) (length counts)) refl in
    let here = rows_at_most counts s in
    let split : sum (drop s counts) ≡ get_or counts s 0 + sum (drop (suc s) counts) = ap sum (drop-cons counts s 0 inside) in
    let next : sum (drop (s + 1) counts) ≡ sum (drop (suc s) counts) = ap (λ (k : ℕ). sum (drop k counts)) (add-one s) in
    omega arith
rows_within (suc left) s counts false e =
    let beyond : length counts ≤ s = ltb-false _ _ e in
    let later : rows_from left (s + 1) counts ≤ sum (drop (s + 1) counts) = rows_within left (s + 1) counts (ltb (s + 1) (length counts)) refl in
    let here = rows_at_most counts s in
    let none : get_or counts s 0 ≡ 0 = get_or-eq_default counts 0 beyond in
    let gone : sum (drop (s + 1) counts) ≡ 0 = ap sum (drop_of_length-le counts {i = s + 1} (omega arith)) in
    omega arith

-- ---- from the end back to the beginning, for counts of at most 256 subjects that add up to at most 256
module _ (counts : List ℕ) (few : length counts ≤ 256) (fewer : sum counts ≤ 256) where
  end_short : (state : State) (tally : Tally) (results : List ℕ) (step : Step) → length (ended counts state tally results step) ≤ longest_text
  unfolding ended
  end_short state tally results (Asked eta individual) = let l = refusal_length 19 Nowhere in omega arith
  end_short state tally results (Finished x) =
      let l = finished_length x tally.calls.0 (shrinkage state (length counts)) counts results in
      let s = few_subjects counts in
      let r : rows_from (subjects_of counts) 0 counts ≤ sum (drop 0 counts) = rows_within (subjects_of counts) 0 counts (ltb 0 (length counts)) refl in
      omega arith
  end_short state tally results (Refused why) = let l = refusal_length why.number why.place in omega arith

  opened_short : (input observations results : List ℕ) (s : Setting) (o : Result State Refusal) → length (when_opened input counts observations results s o) ≤ longest_text
  unfolding when_opened end_of
  opened_short input observations results s (Ok state) = end_short _ _ _ _
  opened_short input observations results s (Err e) = let l = refusal_length e.number e.place in omega arith

  fitted_short : (input observations cache work warm results : List ℕ) → length (fitted input counts observations cache work warm results) ≤ longest_text
  unfolding fitted
  fitted_short input observations cache work warm results = opened_short input observations results _ _

records_short : (input : List ℕ) (c : Answer ℕ) → cohort input ≡ c → length (when_records input c) ≤ longest_text
unfolding when_records lent
records_short input (given n) e =
    let few = few_records input e in
    let low = few.0 in
    let lower = few.1 in
    let as_many = counts_length input n in
    let counted = few_counted input n in
    fitted_short (countsIn input n) (omega arith) (omega arith) _ _ _ _ _ _
records_short input (refused number) e = let l = refusal_length number Nowhere in omega arith

pub short : Short
unfolding output
short input = records_short input (cohort input) refl

-- ---- so that it is printed whole
pub whole : {r : ℕ} {out' : List ℕ} (input out : List ℕ) → longest_text ≤ length out → written r out' ≡ write (output input) (written 0 out) → written r out' ≡ printed input out
unfolding printed
whole input out h q = let l = short input in q ∙ fits (output input) out (omega arith)

-- and so of the bytes that are taken; m is how many
taken : (l : List ℕ) (got : ℕ) (b : Bool) → ltb got (length l) ≡ b → take (min got (length l)) l ≡ take got l
taken l got true e =
    let inside : got < length l = ltb-true _ _ e in
    let same : min got (length l) ≡ got = omega arith in
    ap (λ (n : ℕ). take n l) same
taken l got false e =
    let beyond : length l ≤ got = ltb-false _ _ e in
    let same : min got (length l) ≡ length l = omega arith in
    ap (λ (n : ℕ). take n l) same ∙ take_all (length l) l (omega arith) ∙ sym (take_all got l beyond)

pub prints : {r m : ℕ} {out' : List ℕ} (input out : List ℕ) (got : ℕ) → longest_text ≤ length out → m ≡ min got (length input)
    → written r out' ≡ write (output (take m input)) (written 0 out) → written r out' ≡ printed (take got input) out
prints input out got h e q =
    let all = taken input got (ltb got (length input)) refl in
    whole (take got input) out h
    (q ∙ ap (λ (n : ℕ). write (output (take n input)) (written 0 out)) e ∙ ap (λ (i : List ℕ). write (output i) (written 0 out)) all)

-- its length is within what is lent
pub printed_within : {r : ℕ} {out' : List ℕ} (input out : List ℕ) → written r out' ≡ printed input out → r ≤ length out'
unfolding printed
printed_within input out e =
    let text = output input in
    subst (λ (t : Written ℕ). t.end ≤ length t.lent) (sym e) (omega (arith, length-append text (drop (length text) out)))
