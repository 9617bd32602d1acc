-- `line` meets its contract: each field by its law. Assumes nothing.
use Rattle.std.proofs.Common.{sym, ap, ◌∙◌, map}
use Rattle.words.specs.Page.{with_items}
use Rattle.words.proofs.Pages.{with_first}
use Rattle.focei_text.specs.Report.{line, fields, shown}
use Rattle.focei_text.proofs.ReportPaths.{fields_step, fields_end}
use Rattle.focei_text.proofs.line.Goals as goal

pub loop-field-preserved : goal.loop-field-preserved
loop-field-preserved c = fields_step _ _ _ _ c.loop-field-test.true c.write_field.ensures ∙ c.loop-field.invariant

pub returns : goal.returns
unfolding line
returns c =
    let fs = map shown c.args.fields.now in
    fields_end _ _ _ c.loop-field-test.false c.put-2.ensures
    ∙ c.loop-field.invariant ∙ ap (with_items (fields fs)) c.put.ensures ∙ sym (with_first c.args.letter (fields fs) c.args.page.now)
