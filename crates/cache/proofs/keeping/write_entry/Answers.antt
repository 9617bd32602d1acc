-- `write_entry` meets its contract: the stores one after another. Assumes nothing.
use Rattle.cache.proofs.KeepingPaths.{written_is}
use Rattle.cache.proofs.keeping.write_entry.Goals as goal

pub returns : goal.returns
returns c =
    written_is _ _ _ _ _ _ _ _ _ c.requires.5 c.hash-hash.ensures c.head_of-head.ensures c.read-old.ensures
    c.with_bit-filter.ensures.0
    c.entry_words-new.ensures c.entry_place.ensures.0 c.put_ring.ensures c.put_ring-2.ensures c.put.ensures
    c.put-2.ensures
