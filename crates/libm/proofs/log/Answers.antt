-- `libm::log` meets its contract: each exit by the tests that lead there. Assumes nothing.
use Rattle.std.proofs.Common.{refl, lt-ltb, eq-eqb, ne_eqb, le-leb}
use borrow.Author.Tests.{lt-leb}
use lib.Ieee.{nan_bits, of_bits, div}
use Rattle.float64.specs.Pick.{yes, no}
use Rattle.float64.proofs.Order.{of_true, le_num_r}
use Rattle.float64.proofs.Largest.{beyond}
use Rattle.libm.specs.Log.{log}
use Rattle.libm.proofs.Normal.{log_normal, log_infinity, subnormal, not_one}
use Rattle.libm.proofs.log.Goals as goal

pub float_to_bits-x : goal.float_to_bits-x
float_to_bits-x c = le_num_r _ _ (of_true _ c.if-x.true)

pub returns-then-x-2 : goal.returns-then-x-2
unfolding of_bits
returns-then-x-2 c = log_normal _ _ c.if-x.true c.if-x-2.true c.log_of_word.ensures

pub returns-then-x : goal.returns-then-x
unfolding of_bits
returns-then-x c = log_infinity _ (beyond _ _ (of_true _ c.well_formed.0.1) c.if-x.true c.if-x-2.false)

pub float_from_bits-result : goal.float_from_bits-result
unfolding nan_bits
float_from_bits-result c = tt

pub returns-then-word-eq0 : goal.returns-then-word-eq0
unfolding log of_bits
returns-then-word-eq0 c = rw (← c.to_word-word.ensures) (yes _ (eq-eqb _ _ c.if-word-eq0.true) refl)

pub returns-then-word-ge9223372036854775808 : goal.returns-then-word-ge9223372036854775808
unfolding log div of_bits
returns-then-word-ge9223372036854775808 c =
    rw (← c.to_word-word.ensures)
    (no _ (ne_eqb _ _ c.if-word-eq0.false) (yes _ (le-leb _ _ c.if-word-ge9223372036854775808.true) refl))

pub returns-then-word-ge9218868437227405312 : goal.returns-then-word-ge9218868437227405312
unfolding log
returns-then-word-ge9218868437227405312 c =
    rw (← c.to_word-word.ensures)
    (no _ (ne_eqb _ _ c.if-word-eq0.false) (no _ (lt-leb _ _ c.if-word-ge9223372036854775808.false) (yes _ (le-leb _ _ c.if-word-ge9218868437227405312.true) refl)))

pub returns : goal.returns
unfolding log of_bits
returns c =
    let w = c.to_word-word.ensures in
    let low = rw (← w) at (subnormal _ c.if-x.false (rw w at c.if-word-ge9218868437227405312.false)) in
    rw (← w, ← c.to_word.ensures)
    (no _ (ne_eqb _ _ c.if-word-eq0.false) (no _ (lt-leb _ _ c.if-word-ge9223372036854775808.false) (no _ (lt-leb _ _ c.if-word-ge9218868437227405312.false) (no _ (not_one _ low) (yes _ (lt-ltb _ _ low) c.log_of_word-2.ensures)))))
