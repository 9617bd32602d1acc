-- `admit` meets its contract: each of the two by its own, and where the words are no state, both alike. Assumes nothing.
use Rattle.std.proofs.Common.{refl, ◌∙◌}
use Rattle.float64.specs.Pick.{yes, no, pass}
use Rattle.session.specs.Calls.{lent_by}
use Rattle.host_calls.specs.Hosting.{setup_of, admit_with}
use Rattle.host_calls.specs.SubjectReplies.{admit_subject_with, admit_for}
use Rattle.host_calls.proofs.Paths.{of_given, of_none}
use Rattle.host_calls.proofs.replies.admit.Goals as goal

pub returns-then-alone : goal.returns-then-alone
unfolding admit_for admit_subject_with
returns-then-alone c =
    let d = c.args in (
      of_given d.state.now c.load.ensures (admit_for d.alone (setup_of d.setup) d.counts.now (lent_by d.observations d.cache d.work d.warm d.results) d.check d.tally d.reply.now)
          c.in-Some.is (yes _ c.if-alone.true (rw (← c.setup_of-own.ensures.0, ← c.lent_of-lent.ensures) c.admit_subject_reply.ensures)),
      refl,
    )

pub returns : goal.returns
unfolding admit_for admit_with
returns c =
    let d = c.args in (
      of_given d.state.now c.load.ensures (admit_for d.alone (setup_of d.setup) d.counts.now (lent_by d.observations d.cache d.work d.warm d.results) d.check d.tally d.reply.now)
          c.in-Some.is (no _ c.if-alone.false (rw (← c.setup_of-own.ensures.0, ← c.lent_of-lent.ensures) c.admit_reply.ensures)),
      refl,
    )

pub returns-in_default : goal.returns-in_default
unfolding admit_for admit_with admit_subject_with
returns-in_default c =
    let d = c.args in (
      of_none d.state.now c.load.ensures (admit_for d.alone (setup_of d.setup) d.counts.now (lent_by d.observations d.cache d.work d.warm d.results) d.check d.tally d.reply.now)
          c.in_default.is (rw (← c.setup_of-own.ensures.0) c.unadmitted.ensures ∙ pass d.alone refl),
      refl,
    )
