-- `is_cohort` meets its contract: each exit by its law. Assumes nothing.
use Rattle.setup.proofs.Paths.{no_effect, many_effects, no_subject, many_subjects, adds_up}
use Rattle.setup.proofs.checks.is_cohort.Goals as goal

pub returns-then-effects-eq0 : goal.returns-then-effects-eq0
returns-then-effects-eq0 c = no_effect _ _ _ _ c.if-effects-eq0.true

pub returns-then-effects-gt2 : goal.returns-then-effects-gt2
returns-then-effects-gt2 c = many_effects _ _ _ _ c.if-effects-eq0.false c.if-effects-gt2.true

pub returns-then-subjects-eq0 : goal.returns-then-subjects-eq0
returns-then-subjects-eq0 c = no_subject _ _ _ _ c.if-effects-eq0.false c.if-effects-gt2.false c.if-subjects-eq0.true

pub returns-then-subjects-gt-MOST_SUBJECTS : goal.returns-then-subjects-gt-MOST_SUBJECTS
returns-then-subjects-gt-MOST_SUBJECTS c = many_subjects _ _ _ _ c.if-effects-eq0.false c.if-effects-gt2.false c.if-subjects-eq0.false c.if-subjects-gt-MOST_SUBJECTS.true

pub returns : goal.returns
returns c = adds_up _ _ _ _ c.if-effects-eq0.false c.if-effects-gt2.false c.if-subjects-eq0.false c.if-subjects-gt-MOST_SUBJECTS.false
