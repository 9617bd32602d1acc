-- `put_each` meets its contract: each turn by its law. Assumes nothing.
use Rattle.std.proofs.Common.{ℕ, sym, ap, get_or, ◌∙◌, zero-add}
use Rattle.cache.proofs.KeepingPaths.{round, put_end, put_step}
use Rattle.cache.proofs.keeping.put_each.Goals as goal

pub loop-value-preserved : goal.loop-value-preserved
loop-value-preserved c =
    let so_far = c.loop-value.invariant in (
      put_step _ _ _ _ _ _ _ _ c.loop-value-test.true so_far.1 (ap (λ (j : ℕ). get_or c.args.values.now j 0) (sym (zero-add _))) c.put.ensures ∙ so_far.0,
      round _ _ _ so_far.1 c.onward-at.ensures,
      c.put.auto.words ∙ so_far.2,
    )

pub returns : goal.returns
returns c = put_end _ _ _ _ _ _ _ _ c.loop-value-test.false ∙ c.loop-value.invariant.0
