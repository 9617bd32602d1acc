-- `marked::asked_at` is proved: the words are those of a search on the grid. Assumes nothing.
use Rattle.std.proofs.Common.{◌∙◌}
use Rattle.test_marked.proofs.Laws.{grid_words}
use Rattle.test_marked.proofs.asked_at.Goals as goal

pub returns : goal.returns
returns c = c.curlewstand_mode_request.ensures.point_after ∙ grid_words _ _ _ c.requires
