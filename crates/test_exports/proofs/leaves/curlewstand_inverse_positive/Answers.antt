-- `curlewstand_inverse_positive` meets its contract: the case of the leaf's answer is the case of the definition. Assumes nothing.
use Rattle.std.proofs.Common.{sym, ap, ◌∙◌}
use Rattle.matrix.specs.Matrix.{answer}
use Rattle.test_exports.specs.Leaves.{exists, inverse_or, det_or}
use Rattle.test_exports.proofs.leaves.curlewstand_inverse_positive.Goals as goal

pub returns-in-Some : goal.returns-in-Some
unfolding answer exists inverse_or det_or
returns-in-Some c =
    let found = sym (ap (answer _) c.in-Some.is) ∙ c.inverse_positive.ensures in
    record { value = ap exists found; inverse_after = c.inverse.ensures ∙ ap (inverse_or _) found; det_after = ap (det_or _) found }

pub returns-in-None : goal.returns-in-None
unfolding answer exists inverse_or det_or
returns-in-None c =
    let found = sym (ap (answer _) c.in-None.is) ∙ c.inverse_positive.ensures in
    record { value = ap exists found; inverse_after = ap (inverse_or _) found; det_after = ap (det_or _) found }
