-- What is claimed of document 01's program, whatever it reads.
use Rattle.std.specs.Prelude.{◌≡◌, List, ℕ, ◌+◌, ◌*◌, ◌≤◌, ◌<◌, length, take}
use Rattle.matrix.specs.declared.Pair.{Pair}
use Rattle.search.specs.declared.Place.{Place}
use Rattle.search.specs.declared.Place.TheVariants.{Nowhere}
use Rattle.search.specs.declared.Step.TheVariants.{Asked}
use Rattle.population.specs.Kept.{words}
use Rattle.session.specs.Session.{Held}
use Rattle.focei_text.specs.Report.{refusal_line}
use Rattle.focei_fit.specs.Output.{most_evaluations, begun, play, output, input_bytes}

-- of a file as long as may be
pub record Reads (file : List ℕ) : Type 0 where
  -- the first n bytes suffice, where these are as many as are read: what is printed of them is what is printed of the whole file
  pub enough : (n : ℕ) → input_bytes ≤ n → output (take n file) ≡ output file
  -- more than 256 records get 20
  pub long : 256 * 48 < length file → output file ≡ refusal_line 20 Nowhere

abbrev pub EveryFile : Type 0
EveryFile = (file : List ℕ) → Reads file

-- as many answers as evaluations are left when the objective begins leave no question, whatever is held then
abbrev pub Suffices : Type 0
Suffices = (input counts observations : List ℕ) (h : Held words) (n : ℕ) → most_evaluations ≤ h.whole.tally.calls.0 + n
    → (eta individual : Pair) → (play input counts observations n (begun counts observations h)).answer ≡ Asked eta individual → ⊥

-- the program never prints 19, with which a question that is left would be printed
abbrev pub Never19 : Type 0
Never19 = (input : List ℕ) (place : Place) → output input ≡ refusal_line 19 place → ⊥
