-- `ended_as` meets its contract: the words by `clear`, and the rest field by field. Assumes nothing.
use Rattle.session_calls.proofs.Paths.{ended_made}
use Rattle.session_calls.proofs.ended_as.Goals as goal

pub returns : goal.returns
returns c = (
  ended_made c.args.state c.args.tally c.args.refusal
      c.refused-halted.ensures,
  c.clear.ensures,
)
