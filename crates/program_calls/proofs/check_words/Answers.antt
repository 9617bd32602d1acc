-- `check_words` meets its contract: from the first observation to the last is all of them.
use Rattle.std.proofs.Common.{◌-◌, ◌∙◌, take_all, arith}
use Rattle.subject.specs.Observations.{check_observations}
use Rattle.program_calls.specs.Recorded.{observations_of}
use Rattle.program_calls.proofs.check_words.Goals as goal

pub returns : goal.returns
returns c =
    let a = c.args in
    let all = observations_of a.words.now in
    c.check_run.ensures
    ∙ (λ i. check_observations a.width a.counts.now (take_all (c.count_of-n.result - 0) all (omega (arith, c.count_of-n.ensures)) i) (c.first_check-first.ensures i))
