-- `libm::multiple` meets its contract: x / ln 2 is small, so its cut is defined. Assumes nothing.
use Rattle.std.proofs.Common.{◌<◌, ℤ, sym, ◌∙◌, subst, le-ltb}
use lib.Signed.{mag}
use Rattle.float64.specs.Pick.{yes, no}
use Rattle.libm.specs.Exp.{multiple}
use Rattle.libm.proofs.Whole.{small_back}
use Rattle.libm.proofs.Reduction.{plus_half, less_half, cut_asks, cut_small}
use Rattle.libm.proofs.multiple.Goals as goal

pub truncating_f64_to_i64-requires : goal.truncating_f64_to_i64-requires
truncating_f64_to_i64-requires c =
    let asked = cut_asks _ (less_half _ c.requires) in
    record { lower_bound = asked.0; upper_bound = asked.1 }

pub returns-then-x-2 : goal.returns-then-x-2
unfolding multiple
returns-then-x-2 c =
    let k = c.truncating_f64_to_i64.ensures in
    let small = subst (λ (z : ℤ). mag z < 1000) (sym k) (cut_small _ (less_half _ c.requires)) in
    no _ (le-ltb _ _ c.if-hx-lt1072734898.false) (yes _ c.if-x-2.true (small_back _ small ∙ k))

pub truncating_f64_to_i64-requires-2 : goal.truncating_f64_to_i64-requires-2
truncating_f64_to_i64-requires-2 c =
    let asked = cut_asks _ (plus_half _ c.requires) in
    record { lower_bound = asked.0; upper_bound = asked.1 }

pub returns : goal.returns
unfolding multiple
returns c =
    let k = c.truncating_f64_to_i64-2.ensures in
    let small = subst (λ (z : ℤ). mag z < 1000) (sym k) (cut_small _ (plus_half _ c.requires)) in
    no _ (le-ltb _ _ c.if-hx-lt1072734898.false) (no _ c.if-x-2.false (small_back _ small ∙ k))
