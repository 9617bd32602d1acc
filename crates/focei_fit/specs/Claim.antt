-- What is claimed of the program's text: it is never longer than so many bytes, and never empty.
use Rattle.std.specs.Prelude.{List, ℕ, ◌+◌, ◌*◌, ◌≤◌, ◌<◌, length}
use Rattle.focei_fit.specs.Output.{output}

-- an `O` line of at most 40 bytes, an `S` line of 40 for each of 256 subjects, an `F` line of 78 for each of 256 observations, and an `H`
-- line of 19
abbrev pub longest_text : ℕ
longest_text = 40 + 256 * 40 + 256 * 78 + 19

abbrev pub Short : Type 0
Short = (input : List ℕ) → length (output input) ≤ longest_text

abbrev pub NotEmpty : Type 0
NotEmpty = (input : List ℕ) → 0 < length (output input)
