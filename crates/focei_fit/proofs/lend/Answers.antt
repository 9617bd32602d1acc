-- `lend` meets its contract. Assumes nothing.
use Rattle.focei_records.specs.Records as Records
use Rattle.focei_fit.proofs.Paths.{whole_counts, few_counts, whole_observations, lends}
use Rattle.words.proofs.Front.{within}
use lib.Seq.{length-take-le}
use lib.ListN.{replicate, length-replicate}
use Rattle.std.proofs.Common.{sym}
use Prim.Native.Nat.{ℕ}
use Rattle.focei_fit.proofs.lend.Goals as goal

pub slice_bounds-observations-end-2 : goal.slice_bounds-observations-end-2
slice_bounds-observations-end-2 c =
    within (Records.observations c.args.input.now) (replicate 1280 0)
    c.observations-m.ensures

pub slice_bounds-fit-end : goal.slice_bounds-fit-end
slice_bounds-fit-end c =
    sym (length-take-le _ _ (within (Records.observations c.args.input.now) (replicate 1280 0)
    c.observations-m.ensures))

pub slice_bounds-counts-end-2 : goal.slice_bounds-counts-end-2
slice_bounds-counts-end-2 c =
    within (Records.counts c.args.input.now
    c.args.subjects) (replicate 256 0) c.counts-n.ensures

pub slice_bounds-fit-end-2 : goal.slice_bounds-fit-end-2
slice_bounds-fit-end-2 c =
    sym (length-take-le _ _ (within (Records.counts c.args.input.now
    c.args.subjects) (replicate 256 0) c.counts-n.ensures))

pub fit-requires : goal.fit-requires
fit-requires c = (
  c.requires.0,
  few_counts c.args.input.now c.args.subjects (whole_counts c.args.input.now (replicate 256 0) c.args.subjects c.requires.1 (length-replicate {A = ℕ} 256 0)
      c.counts-n.ensures) c.requires.1,
)

pub returns : goal.returns
returns c =
    let a = c.args in lends a.input.now a.subjects a.page.now (whole_counts a.input.now (replicate 256 0) a.subjects c.requires.1
    (length-replicate {A = ℕ} 256 0) c.counts-n.ensures) (whole_observations a.input.now (replicate 1280 0) c.requires.0 (length-replicate {A = ℕ} 1280 0)
    c.observations-m.ensures)
    c.fit.ensures
