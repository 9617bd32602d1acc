-- `with_parameters` meets its contract: each exit by its law. Assumes nothing.
use Rattle.setup.proofs.Paths.{own_omega, same_omega}
use Rattle.setup.proofs.with_parameters.Goals as goal

pub returns-then-setup-eq1 : goal.returns-then-setup-eq1
returns-then-setup-eq1 c = own_omega _ _ c.if-setup-eq1.true

pub returns-else-setup-eq1 : goal.returns-else-setup-eq1
returns-else-setup-eq1 c = same_omega _ _ c.if-setup-eq1.false
