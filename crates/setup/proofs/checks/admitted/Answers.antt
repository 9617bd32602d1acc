-- `admitted` meets its contract: each exit by its law. Assumes nothing.
use Rattle.setup.proofs.Bounds.{shape_low}
use Rattle.setup.proofs.Paths.{fails_2, fails_3, fails_4, fails_5, passes}
use Rattle.setup.proofs.checks.admitted.Goals as goal

pub returns-then-is_no_omega : goal.returns-then-is_no_omega
returns-then-is_no_omega c = fails_2 _ _ _ _ _ _ c.is_no_omega.ensures c.if-is_no_omega.true

pub returns-then-is_no_shape : goal.returns-then-is_no_shape
returns-then-is_no_shape c = fails_3 _ _ _ _ _ _ c.is_no_omega.ensures c.if-is_no_omega.false c.is_no_shape.ensures c.if-is_no_shape.true

pub is_short-requires : goal.is_short-requires
is_short-requires c = (c.requires.0, shape_low _ c.is_no_shape.ensures c.if-is_no_shape.false, c.requires.1, c.requires.2, c.requires.3)

pub returns-then-is_short : goal.returns-then-is_short
returns-then-is_short c =
    fails_5 _ _ _ _ _ _ c.is_no_omega.ensures c.if-is_no_omega.false c.is_no_shape.ensures c.if-is_no_shape.false c.in_default.is
    c.is_short.ensures c.if-is_short.true

pub returns-in-Err : goal.returns-in-Err
returns-in-Err c = fails_4 _ _ _ _ _ _ c.is_no_omega.ensures c.if-is_no_omega.false c.is_no_shape.ensures c.if-is_no_shape.false c.in-Err.is

pub returns : goal.returns
returns c =
    passes _ _ _ _ _ _ c.is_no_omega.ensures c.if-is_no_omega.false c.is_no_shape.ensures c.if-is_no_shape.false c.in_default.is
    c.is_short.ensures c.if-is_short.false
