-- `is_no_omega` meets its contract: each exit by its law. Assumes nothing.
use Rattle.setup.proofs.Paths.{no_variance, one_effect, no_second_variance, not_symmetric, inverted}
use Rattle.setup.proofs.is_no_omega.Goals as goal

pub returns-then-is_no_variance : goal.returns-then-is_no_variance
returns-then-is_no_variance c = no_variance _ c.is_no_variance.ensures c.if-is_no_variance.true

pub returns-then-setup-eq1 : goal.returns-then-setup-eq1
returns-then-setup-eq1 c = one_effect _ c.is_no_variance.ensures c.if-is_no_variance.false c.if-setup-eq1.true

pub returns-then-is_no_variance-2 : goal.returns-then-is_no_variance-2
returns-then-is_no_variance-2 c = no_second_variance _ c.is_no_variance.ensures c.if-is_no_variance.false c.if-setup-eq1.false c.is_no_variance-2.ensures c.if-is_no_variance-2.true

pub returns-then-setup : goal.returns-then-setup
returns-then-setup c = not_symmetric _ c.is_no_variance.ensures c.if-is_no_variance.false c.if-setup-eq1.false c.is_no_variance-2.ensures c.if-is_no_variance-2.false c.if-setup.true

pub returns : goal.returns
returns c =
    inverted _ c.is_no_variance.ensures c.if-is_no_variance.false c.if-setup-eq1.false c.is_no_variance-2.ensures c.if-is_no_variance-2.false _ c.if-setup.false
    c.inverse_positive.ensures c.is_none.ensures
