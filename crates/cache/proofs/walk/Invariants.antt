-- `walk` meets its contract: each turn and each exit by its law. Assumes nothing.
use Rattle.std.proofs.Common.{◌≡◌, ◌-◌}
use Rattle.cache.specs.Cache.{walk}
use Rattle.cache.proofs.walk.Given as goal

abbrev pub invariant-loop-passed : goal.invariant-loop-passed
invariant-loop-passed l = walk (l.most - l.passed) l.words l.k l.oldest l.bits l.key l.entry ≡ walk l.most l.words l.k l.oldest l.bits l.key l.start
