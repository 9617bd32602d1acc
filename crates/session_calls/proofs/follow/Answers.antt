-- `follow` meets its contract: each case by its law. Assumes nothing.
use Rattle.std.proofs.Common.{Err, ap, ◌∙◌}
use Rattle.session_calls.proofs.Paths.{follows_sums, follows_refusal, follows_refusal_at}
use Rattle.session_calls.proofs.follow.Goals as goal

pub returns-in-Ok : goal.returns-in-Ok
returns-in-Ok c =
    follows_sums c.args.fit c.args.counts.now c.args.eta c.args.evaluation c.args.state c.args.tally c.args.cache.now c.args.work.now
    c.args.warm.now c.args.results.now
    c.finish.ensures c.keep-kept.result c.in-Ok.is c.keep-kept.ensures c.run.ensures

pub returns-in-Err-Refused : goal.returns-in-Err-Refused
returns-in-Err-Refused c =
    follows_refusal c.args.fit c.args.counts.now c.args.eta c.args.evaluation c.args.state c.args.tally c.args.cache.now c.args.work.now
    c.args.warm.now c.args.results.now
    c.finish.ensures (c.in-Err-Refused.is ∙ ap Err c.in-Err-Refused.field-0-is) (rw c.in-Err-Refused.field-0-is at c.ended_as.ensures)

pub returns-in-Err-RefusedAt : goal.returns-in-Err-RefusedAt
returns-in-Err-RefusedAt c =
    follows_refusal_at c.args.fit c.args.counts.now c.args.eta c.args.evaluation c.args.state c.args.tally c.args.cache.now c.args.work.now
    c.args.warm.now c.args.results.now
    c.finish.ensures (c.in-Err-RefusedAt.is ∙ ap Err c.in-Err-RefusedAt.field-0-is) (rw c.in-Err-RefusedAt.field-0-is at c.ended_as-in-Err-RefusedAt.ensures)
