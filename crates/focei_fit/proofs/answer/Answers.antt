-- `answer` meets its contract. Assumes nothing.
use Rattle.session.specs.Calls.{held_of}
use Rattle.focei_fit.proofs.Paths.{answers, whole_reply}
use Rattle.words.proofs.Front.{within}
use Rattle.std.proofs.Common.{arith}
use Rattle.focei_fit.proofs.answer.Goals as goal

pub shared_ref_as_front-reply : goal.shared_ref_as_front-reply
shared_ref_as_front-reply c = let inside = within _ _ c.reply-n.ensures in omega arith

pub returns : goal.returns
returns c =
    let a = c.args in answers a.counts.now a.observations.now
    (held_of a.at.state a.at.tally a.memory.now.cache a.memory.now.work a.memory.now.warm a.memory.now.results) a.input.now a.individual
    c.settings.ensures
    c.rows_of-rows.ensures
    (whole_reply a.input.now a.memory.now.reply a.at.state.progress.first c.rows_of-rows.result a.individual.first c.requires (omega arith) c.reply-n.ensures) c.reply.ensures
