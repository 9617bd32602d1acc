-- `finish_reply` meets its contract: each case by its law. Assumes nothing.
use Rattle.std.proofs.Common.{refl, ◌∙◌}
use Rattle.session.specs.Calls.{held_of}
use Rattle.session_calls.proofs.Paths.{refused_called, keeps_out, finish_enters, finish_follows}
use Rattle.session_calls.proofs.finish_reply.Goals as goal

pub returns-in-Ok : goal.returns-in-Ok
returns-in-Ok c =
    finish_follows c.args.counts.now c.args.admitted.awaited c.args.evaluation (held_of c.args.state c.args.tally c.args.cache.now c.args.work.now
    c.args.warm.now c.args.results.now) c.in-Ok.is c.follow.ensures

pub returns-in-Err : goal.returns-in-Err
returns-in-Err c =
    let h = held_of c.args.state c.args.tally c.args.cache.now c.args.work.now c.args.warm.now c.args.results.now in
    refused_called c.args.state c.args.tally _ c.args.cache.now c.args.work.now c.args.warm.now c.args.results.now c.kept_out.ensures
    (keeps_out _ h _ refl c.in-Err.is ∙ finish_enters c.args.counts.now c.args.admitted.awaited c.args.evaluation h)
