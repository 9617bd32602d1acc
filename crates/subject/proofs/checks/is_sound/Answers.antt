-- `is_sound` meets its contract: each exit by the tests that lead there. Assumes nothing.
use Rattle.std.proofs.Common.{refl, le-ltb, lt-ltb}
use Rattle.float64.specs.Pick.{pass, yes, no, yes_of, no_of}
use Rattle.subject.specs.Observations.{is_sound}
use Rattle.subject.proofs.checks.is_sound.Goals as goal

pub returns-then-width-observation : goal.returns-then-width-observation
unfolding is_sound
returns-then-width-observation c = no _ (le-ltb _ _ c.if-width-observation.true) refl

pub returns-then-is_nonfinite : goal.returns-then-is_nonfinite
unfolding is_sound
returns-then-is_nonfinite c = yes _ (lt-ltb _ _ c.if-width-observation.false) (yes_of _ c.is_nonfinite.ensures c.if-is_nonfinite.true refl)

pub returns-then-is_no_deviation : goal.returns-then-is_no_deviation
unfolding is_sound
returns-then-is_no_deviation c = yes _ (lt-ltb _ _ c.if-width-observation.false) (pass _ (yes_of _ c.is_no_deviation.ensures c.if-is_no_deviation.true refl))

pub returns-then-is_no_deviation-2 : goal.returns-then-is_no_deviation-2
unfolding is_sound
returns-then-is_no_deviation-2 c = yes _ (lt-ltb _ _ c.if-width-observation.false) (pass _ (pass _ (yes_of _ c.is_no_deviation-2.ensures c.if-is_no_deviation-2.true refl)))

pub returns-then-observation : goal.returns-then-observation
unfolding is_sound
returns-then-observation c =
    yes _ (lt-ltb _ _ c.if-width-observation.false)
    (no_of _ c.is_nonfinite.ensures c.if-is_nonfinite.false
    (no_of _ c.is_no_deviation.ensures c.if-is_no_deviation.false
    (no_of _ c.is_no_deviation-2.ensures c.if-is_no_deviation-2.false
    (yes _ c.if-observation.true refl))))

pub returns : goal.returns
unfolding is_sound
returns c =
    yes _ (lt-ltb _ _ c.if-width-observation.false)
    (no_of _ c.is_nonfinite.ensures c.if-is_nonfinite.false
    (no_of _ c.is_no_deviation.ensures c.if-is_no_deviation.false
    (no_of _ c.is_no_deviation-2.ensures c.if-is_no_deviation-2.false
    (no _ c.if-observation.false refl))))
