-- `hash` meets its contract. Assumes nothing.
use Rattle.cache.specs.Cache.{hash}
use Rattle.cache.proofs.hash.Goals as goal

pub returns : goal.returns
unfolding hash
returns c =
    simp (
      c.part-additive.ensures,
      c.part-6.ensures,
      c.part-5.ensures,
      c.part-4.ensures,
      c.part-3.ensures,
      c.part-2.ensures,
      c.part.ensures,
    )
