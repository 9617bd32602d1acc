-- `subject_checks` meets its contract: each exit by its law. Assumes nothing.
use Rattle.setup.proofs.Subject.{refused, counted}
use Rattle.setup.proofs.checks.subject_checks.Goals as goal

pub returns-then-count-eq0 : goal.returns-then-count-eq0
returns-then-count-eq0 c = refused _ _ _ _ _ c.read-count.ensures c.then-count-eq0.either

pub counted_checks-requires : goal.counted_checks-requires
counted_checks-requires c = let few = c.if-count-gt-MOST_ROWS.false in (few, few)

pub returns : goal.returns
returns c = counted _ _ _ _ _ c.read-count.ensures c.if-count-eq0.false c.if-count-gt-MOST_ROWS.false c.counted_checks.ensures
