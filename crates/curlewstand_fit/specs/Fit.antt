-- Document 01's program for a host: its text whole at the front of what is lent, with its length; nothing where there is no room for the
-- longest text.
use Rattle.std.specs.Prelude.{List, ℕ, ltb, length}
use Rattle.float64.specs.Pick.{pick}
use Rattle.words.specs.Written.{Written, written}
use Rattle.focei_fit.specs.Output.{printed}
use Rattle.focei_fit.specs.Claim.{longest_text}

unfoldable pub fit_over : List ℕ → List ℕ → Written ℕ
fit_over records text = pick (ltb (length text) longest_text) (written 0 text) (printed records text)
