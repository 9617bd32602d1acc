-- `is_short` meets its contract: each exit by its law. Assumes nothing.
use Rattle.std.proofs.Common.{arith}
use Rattle.setup.proofs.Bounds.{warm_low}
use Rattle.setup.proofs.Paths.{little_work, little_cache, little_warm, rest_of_words}
use Rattle.setup.proofs.checks.is_short.Goals as goal

pub returns-then-lent-counts : goal.returns-then-lent-counts
returns-then-lent-counts c = little_work _ _ _ _ _ c.if-lent-counts.true

pub returns-then-lent-setup : goal.returns-then-lent-setup
returns-then-lent-setup c = little_cache _ _ _ _ _ c.if-lent-counts.false c.if-lent-setup.true

pub overflow_mul-setup-2 : goal.overflow_mul-setup-2
overflow_mul-setup-2 c = omega (arith, warm_low _ _ c.requires.0 c.requires.2)

pub returns-then-lent-setup-2 : goal.returns-then-lent-setup-2
returns-then-lent-setup-2 c = little_warm _ _ _ _ _ c.if-lent-counts.false c.if-lent-setup.false c.if-lent-setup-2.true

pub returns : goal.returns
returns c = rest_of_words _ _ _ _ _ c.if-lent-counts.false c.if-lent-setup.false c.if-lent-setup-2.false
