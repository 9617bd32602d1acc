-- `digits` meets its contract, each exit by its law. Assumes nothing.
use Rattle.focei_text.proofs.Paths.{no_digits, one_digit, more_digits}
use Rattle.focei_text.proofs.+digits.Goals as goal

pub returns-then-most-eq0 : goal.returns-then-most-eq0
returns-then-most-eq0 t c = no_digits _ _ _ c.if-most-eq0.true

pub returns-then-value-lt10 : goal.returns-then-value-lt10
returns-then-value-lt10 t c = one_digit _ _ _ c.if-most-eq0.false c.if-value-lt10.true c.glyph.ensures c.put.ensures

pub returns : goal.returns
returns t c = more_digits _ _ _ c.if-most-eq0.false c.if-value-lt10.false c.digits.ensures c.glyph-2.ensures c.put-2.ensures
