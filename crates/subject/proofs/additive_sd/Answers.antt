-- `additive_sd` meets its contract: a test. Assumes nothing.
use Rattle.std.specs.Bool.{then_some}
use Rattle.std.proofs.Common.{◌≡◌, Bool, true, false, Float, refl, ◌∙◌}
use Rattle.float64.specs.Pick.{pick}
use Rattle.subject.specs.Subject.{additive_sd}
use Rattle.subject.proofs.additive_sd.Goals as goal

where_given : (has : Bool) (additive : Float) → then_some has additive ≡ additive_sd has additive
unfolding additive_sd pick
where_given true additive = refl
where_given false additive = refl

pub returns : goal.returns
returns c = c.then_some.ensures ∙ where_given _ _
