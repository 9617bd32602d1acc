-- The measure of `digits`: how many digits are left.
use Rattle.focei_text.proofs.+digits.Given as goal

abbrev pub decreases-digits : goal.decreases-digits
decreases-digits l = l.most
