-- `write_text` meets its contract: it lends its words for no more than 256 records. Assumes nothing.
use Rattle.std.proofs.Common.{sym, ap, ◌∙◌, rules}
use Rattle.words.specs.Page.{with_items}
use Rattle.focei_records.specs.Records.{answer}
use Rattle.focei_records.proofs.Bounds.{few_records}
use Rattle.focei_fit.specs.Output.{output, when_records}
use Rattle.focei_fit.proofs.write_text.Goals as goal

pub lend-requires : goal.lend-requires
unfolding answer
lend-requires c = few_records _ (sym c.cohort_of.ensures ∙ ap answer c.in-Some.is)

pub returns : goal.returns
unfolding output when_records answer with_items
returns c = search rules
