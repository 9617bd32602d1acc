-- `insert` meets its contract: each exit by its law. Assumes nothing.
use Rattle.std.proofs.Common.{◌≡◌, ◌≤◌, ◌+◌, ◌-◌, ◌*◌, length, take, drop, length-take-le, length-drop, rules, arith}
use Rattle.cache.proofs.KeepingPaths.{kept_says, not_kept_lem, keeps, left_says}
use Rattle.cache.specs.Cache.{row_words}
use Rattle.cache.proofs.keeping.insert.Goals as goal

pub overflow_sub-k : goal.overflow_sub-k
overflow_sub-k c = let kept = kept_says _ _ _ _ _ c.is_kept.ensures c.if-not-is_kept.false in omega arith

pub evict-left-requires : goal.evict-left-requires
evict-left-requires c =
    let kept = kept_says _ _ _ _ _ c.is_kept.ensures c.if-not-is_kept.false in
    (kept.some_room, kept.most)

pub offset_bounds-rows-from : goal.offset_bounds-rows-from
offset_bounds-rows-from c =
    let kept = kept_says _ _ _ _ _ c.is_kept.ensures c.if-not-is_kept.false in
    let inside : c.args.from ≤ length c.args.rows.now = omega arith in
    search rules

pub overflow_mul-rows : goal.overflow_mul-rows
overflow_mul-rows c =
    let kept = kept_says _ _ _ _ _ c.is_kept.ensures c.if-not-is_kept.false in
    omega arith

pub overflow_add-rows : goal.overflow_add-rows
overflow_add-rows c =
    let kept = kept_says _ _ _ _ _ c.is_kept.ensures c.if-not-is_kept.false in
    omega arith

pub slice_bounds-rows-end : goal.slice_bounds-rows-end
slice_bounds-rows-end c =
    let kept = kept_says _ _ _ _ _ c.is_kept.ensures c.if-not-is_kept.false in
    omega arith

pub write_entry-requires : goal.write_entry-requires
write_entry-requires c =
    let kept = kept_says _ _ _ _ _ c.is_kept.ensures c.if-not-is_kept.false in
    let left = left_says c.args.order _ _ _ _ c.evict-left.ensures in
    let rows = c.args.rows.now in
    let long : length (take (c.args.from + row_words * c.args.n - c.args.from) (drop c.args.from rows)) ≡ c.args.from + row_words * c.args.n - c.args.from =
    length-take-le _ (drop c.args.from rows) (omega (arith, length-drop c.args.from rows)) in
    (kept.some_room, kept.most, kept.fits, omega arith, omega arith, omega arith)

pub overflow_add-result : goal.overflow_add-result
overflow_add-result c =
    let kept = kept_says _ _ _ _ _ c.is_kept.ensures c.if-not-is_kept.false in
    let left = left_says c.args.order _ _ _ _ c.evict-left.ensures in
    omega arith

pub overflow_add-result-2 : goal.overflow_add-result-2
overflow_add-result-2 c =
    let kept = kept_says _ _ _ _ _ c.is_kept.ensures c.if-not-is_kept.false in
    let left = left_says c.args.order _ _ _ _ c.evict-left.ensures in
    omega arith

pub returns : goal.returns
returns c =
    let kept = kept_says _ _ _ _ _ c.is_kept.ensures c.if-not-is_kept.false in
    keeps _ _ _ _ _ _ _ _ c.is_kept.ensures c.if-not-is_kept.false kept.all_lent (omega arith) c.evict-left.ensures c.write_entry.ensures

pub returns-then-not-is_kept : goal.returns-then-not-is_kept
returns-then-not-is_kept c = not_kept_lem _ _ _ _ _ _ _ _ c.is_kept.ensures c.if-not-is_kept.true
