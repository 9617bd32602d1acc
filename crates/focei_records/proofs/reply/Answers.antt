-- `reply` meets its contract: each turn by its law. Assumes nothing.
use Rattle.focei_records.proofs.Paths.{reply_end, reply_step}
use Rattle.words.specs.Page.{with_items}
use Rattle.focei_records.specs.Records.{reply}
use Rattle.std.proofs.Common.{rules, ◌≡◌, ◌-◌, arith, ◌∙◌}
use Rattle.focei_records.proofs.reply.Goals as goal

pub loop-i-init : goal.loop-i-init
loop-i-init c = let all : c.args.rows - (c.args.first - c.args.first) ≡ c.args.rows = omega arith in rw all

pub loop-i-preserved : goal.loop-i-preserved
loop-i-preserved c = reply_step _ _ _ _ _ _ (omega arith) (omega arith) c.row.ensures ∙ c.loop-i.invariant

pub returns : goal.returns
unfolding with_items reply
returns c = let e = reply_end _ _ _ _ _ (λ more. omega arith) ∙ c.loop-i.invariant in search rules
