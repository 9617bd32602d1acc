-- `put_lent` meets its contract: a copy into the middle. Assumes nothing.
use Rattle.std.proofs.Common.{rules}
use Rattle.std.proofs.lemmas.Slice.{overwrites}
use Rattle.state_words.proofs.Paths.{put_copied}
use Rattle.state_words.proofs.put_lent.Goals as goal

pub returns : goal.returns
returns c = search (rules, overwrites, put_copied)
