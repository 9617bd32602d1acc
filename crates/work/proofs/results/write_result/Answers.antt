-- `write_result` meets its contract: each exit by its law. Assumes nothing.
use Rattle.work.proofs.ResultsPaths.{beyond_end, writes}
use Rattle.work.proofs.results.write_result.Goals as goal

pub returns-then-results-subject : goal.returns-then-results-subject
returns-then-results-subject c = beyond_end _ _ _ _ c.if-results-subject.true

pub returns : goal.returns
returns c = writes _ _ _ _ c.to_word.ensures c.put.ensures c.to_word-2.ensures c.put-2.ensures c.to_word-3.ensures c.put-3.ensures
