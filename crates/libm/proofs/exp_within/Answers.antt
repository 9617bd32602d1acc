-- `libm::exp_within` meets its contract: each exit by the tests that lead there. Assumes nothing.
use Rattle.std.proofs.Common.{◌<◌, ℤ, sym, ap, ◌∙◌, subst}
use borrow.Author.Tests.{lt-leb}
use lib.Signed.{mag}
use Rattle.float64.specs.Pick.{no}
use Rattle.libm.specs.Exp.{exp_within, exp_around}
use Rattle.libm.proofs.Whole.{small_back}
use Rattle.libm.proofs.Reduction.{multiple_small}
use Rattle.libm.proofs.exp_within.Goals as goal

pub exp_around-requires : goal.exp_around-requires
exp_around-requires c =
    let k = c.multiple-k.ensures in
    let small = subst (λ (z : ℤ). mag z < 1000) (sym k) (multiple_small _ _ c.requires) in
    subst (λ (z : ℤ). mag z < 1000) (sym (small_back c.multiple-k.result small)) small

pub returns : goal.returns
unfolding exp_within
returns c =
    let k = c.multiple-k.ensures in
    let small = subst (λ (z : ℤ). mag z < 1000) (sym k) (multiple_small _ _ c.requires) in
    rw (← c.to_word.ensures) (no _ (lt-leb _ _ c.if-hx-le1043333120.false) (no _ (lt-leb _ _ c.if-hx-le1071001154.false) (c.exp_around.ensures ∙ ap (exp_around _)
    (small_back c.multiple-k.result small ∙ k))))
