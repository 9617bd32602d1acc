-- The ways through the code: one law for each, over plain variables. Assumes nothing.
use Rattle.std.proofs.Common.{◌≡◌, ℕ, zero, suc, ◌+◌, ◌-◌, ◌*◌, ◌/◌, ◌%◌, ◌^◌, ◌<◌, ◌≤◌, Bool, true, false, ltb, List, length, take, drop, get_or, set, sym, refl, ap, ◌∙◌, subst, mod-lt, mod-eq_of_lt, one-mul, zero-add, length-drop, length-take-le, arith, ltb-false, ltb-true, le-ltb, lt-ltb, eq-eqb, ne_eqb}
use native.Mathlib.Nat.{mod-add-mod}
use lib.Bits.{bit_or, or_lt}
use lib.Pow.{pow-lt}
use Rattle.float64.specs.Pick.{pick, both, yes, no, yes_of, no_of}
use Rattle.cache.specs.declared.CacheKey.{CacheKey}
use Rattle.cache.specs.declared.CachedTerms.{CachedTerms}
use Rattle.cache.specs.declared.CacheOrder.{CacheOrder}
use Rattle.cache.specs.Cache.{row_words, rows_from, half, hash, head_of, chain, bits, bit_of, with_bit, latest_of, filter_of, entry_place, link_place, count_of, is_room, order, raised, evict, copy_run, put_ring}
use Rattle.cache.specs.Cache.{entry_words, written, is_kept, after, placed, insert}
use Rattle.words.proofs.Runs.{at_part}
use Rattle.cache.proofs.Paths.{picked, passed, room_says}
use Rattle.cache.proofs.Runs.{ring_moves, one_run, two_runs, near, far}

-- ---- a chain's filter
power_lt : (bit : ℕ) → bit < 32 → 2 ^ bit < 4294967296
power_lt bit h = pow-lt h

-- a shifted 1 loses nothing
shifted : (bit : ℕ) → bit < 32 → 1 * 2 ^ bit % 18446744073709551616 ≡ 2 ^ bit
shifted bit h = let l = power_lt bit h in mod-eq_of_lt (omega (arith, l)) ∙ one-mul (2 ^ bit)

pub begins_anew : (latest oldest filter bit : ℕ) → bit < 32 → latest < oldest → (1 * 2 ^ bit % 18446744073709551616 ≡ with_bit latest oldest filter bit) ×
    (1 * 2 ^ bit % 18446744073709551616 < 4294967296)
unfolding with_bit
begins_anew latest oldest filter bit h l = (yes _ (lt-ltb _ _ l) (shifted bit h), subst (λ (x : ℕ). x < 4294967296) (sym (shifted bit h)) (power_lt bit h))

pub one_bit_more : (latest oldest filter bit : ℕ) → bit < 32 → filter < 4294967296 → oldest ≤ latest → (bit_or filter (1 * 2 ^ bit % 18446744073709551616) ≡ with_bit latest oldest filter bit) ×
    (bit_or filter (1 * 2 ^ bit % 18446744073709551616) < 4294967296)
unfolding with_bit
one_bit_more latest oldest filter bit h f l =
    (no _ (le-ltb _ _ l) (ap (bit_or filter) (shifted bit h)), subst (λ (x : ℕ). bit_or filter x < 4294967296) (sym (shifted bit h)) (or_lt 32 filter (2 ^ bit) f (power_lt bit h)))

-- ---- rings: the place after (x + i) % c
pub round : {at r : ℕ} (c x i : ℕ) → at ≡ (x + i) % c → r ≡ (at + 1) % c → r ≡ (x + (i + 1)) % c
round c x i p q =
    q ∙ ap (λ (y : ℕ). (y + 1) % c) p ∙ mod-add-mod (x + i) c 1 ∙ ap (λ (y : ℕ). y % c) (let z : x + i + 1 ≡ x + (i + 1) = omega arith in z)

pub within : {at : ℕ} (c x : ℕ) → 0 < c → at ≡ x % c → at < c
within c x h e = let m : x % c < c = mod-lt x h in omega arith

-- ---- a turn of eviction; d is the number of rows left
module _ (w : List ℕ) (k room next next_row oldest first-row : ℕ) where
  pub evict_end : {last : ℕ} → last ≡ oldest → next ≤ oldest → order last next next_row next_row ≡ evict (next - oldest) w k room next next_row oldest first-row
  unfolding evict
  evict_end e h =
      let z : next - oldest ≡ 0 = omega arith in
      let x : order oldest next next_row next_row ≡ evict 0 w k room next next_row oldest first-row = refl in
      ap (λ (m : ℕ). order m next next_row next_row) e ∙ x ∙ ap (λ (m : ℕ). evict m w k room next next_row oldest first-row) (sym z)

  one_more : oldest < next → suc (next - (oldest + 1)) ≡ next - oldest
  one_more h = omega arith

  module _ {d : ℕ} (h : oldest < next) (q : d ≡ next_row - first-row) where
    pub evict_fits : d ≤ room → order oldest next first-row next_row ≡ evict (next - oldest) w k room next next_row oldest first-row
    unfolding evict
    evict_fits l =
        let x : order oldest next first-row next_row ≡ evict (suc (next - (oldest + 1))) w k room next next_row oldest first-row =
        no _ (le-ltb _ _ (let z : next_row - first-row ≤ room = omega arith in z)) refl in
        x ∙ ap (λ (m : ℕ). evict m w k room next next_row oldest first-row) (one_more h)

    pub evict_more : {a y n first : ℕ} → room < d → a ≡ entry_place k oldest → y ≡ get_or w (a + 14) 0 → n ≡ y → first ≡ raised first-row next_row n → evict (next - (oldest + 1)) w k room next next_row
        (oldest + 1) first ≡ evict (next - oldest) w k room next next_row oldest first-row
    unfolding evict
    evict_more {a} {y} {n} {first} l p r s t =
        let c : n ≡ count_of w k oldest = s ∙ r ∙ ap (λ (j : ℕ). get_or w (j + 14) 0) p in
        let x : evict (next - (oldest + 1)) w k room next next_row (oldest + 1) first ≡ evict (suc (next - (oldest + 1))) w k room next next_row oldest first-row =
        yes _ (lt-ltb _ _ (let z : room < next_row - first-row = omega arith in z)) (ap (evict (next - (oldest + 1)) w k room next next_row (oldest + 1)) (t ∙ ap (raised first-row next_row) c)) in
        x ∙ ap (λ (m : ℕ). evict m w k room next next_row oldest first-row) (one_more h)

-- the next entry and row stay
evict_keeps : (m : ℕ) (w : List ℕ) (k room next next_row oldest first-row : ℕ) → let r = evict m w k room next next_row oldest first-row in (r.next ≡ next) × (r.next_row ≡ next_row)
unfolding evict
evict_keeps zero w k room next next_row oldest first-row = (refl, refl)
evict_keeps (suc m) w k room next next_row oldest first-row =
    both (λ (r : CacheOrder). (r.next ≡ next) × (r.next_row ≡ next_row)) (ltb room (next_row - first-row)) (evict_keeps m w k room next next_row (oldest + 1) _) (refl, refl)

pub left_says : {left : CacheOrder} (o : CacheOrder) (m : ℕ) (w : List ℕ) (k room : ℕ) → left ≡ evict m w k room o.next o.next_row o.oldest o.first_row → (left.next ≡ o.next) × (left.next_row ≡ o.next_row)
left_says o m w k room e =
    let stay = evict_keeps m w k room o.next o.next_row o.oldest o.first_row in
    (ap (λ (x : CacheOrder). x.next) e ∙ stay.0, ap (λ (x : CacheOrder). x.next_row) e ∙ stay.1)

-- ---- a part of what is put is put like the whole: j values of it, from `from` on
pub put_part : (n : ℕ) (w : List ℕ) (base c x : ℕ) (v : List ℕ) (from j i : ℕ) → i + n ≤ j → from + j ≤ length v → put_ring n w base c x (take j (drop from v)) 0 i ≡ put_ring n w base c x v from i
unfolding put_ring
put_part zero w base c x v from j i h l = refl
put_part (suc n) w base c x v from j i h l =
    let size : length (take j (drop from v)) ≡ j = length-take-le j (drop from v) (omega (arith, length-drop from v)) in
    let y : get_or (take j (drop from v)) (0 + i) 0 ≡ get_or v (from + i) 0 =
    ap (λ (m : ℕ). get_or (take j (drop from v)) m 0) (zero-add i) ∙ sym (at_part 0 v from j i (omega arith)) in
    ap (λ (z : ℕ). put_ring n (set w (base + (x + i) % c) z) base c x (take j (drop from v)) 0 (i + 1)) y
    ∙ put_part n (set w (base + (x + i) % c) (get_or v (from + i) 0)) base c x v from j (i + 1) (omega arith) l

-- ---- a turn around a ring
module _ (base c x : ℕ) (v : List ℕ) (from n i : ℕ) (w : List ℕ) where
  pub put_end : n ≤ i → w ≡ put_ring (n - i) w base c x v from i
  unfolding put_ring
  put_end h = let z : n - i ≡ 0 = omega arith in ap (λ (m : ℕ). put_ring m w base c x v from i) (sym z)

  pub put_step : {at y : ℕ} {w' : List ℕ} → i < n → at ≡ (x + i) % c → y ≡ get_or v (from + i) 0 → w' ≡ set w (base + at) y → put_ring (n - (i + 1)) w' base c x v from (i + 1) ≡ put_ring (n - i) w base c
      x v from i
  unfolding put_ring
  put_step {at} {y} {w'} h p q r =
      let z : n - i ≡ suc (n - (i + 1)) = omega arith in
      let t : w' ≡ set w (base + (x + i) % c) (get_or v (from + i) 0) = r ∙ (λ d. set w (base + p d) (q d)) in
      ap (λ (l : List ℕ). put_ring (n - (i + 1)) l base c x v from (i + 1)) t ∙ ap (λ (m : ℕ). put_ring m w base c x v from i) (sym z)

-- ---- around a ring in one run, or in two
module _ (w : List ℕ) (base c x : ℕ) (v : List ℕ) (n : ℕ) (some : 0 < c) where
  before_end : (t : ℕ) → t < c - x % c → base + (x + t) % c ≡ base + x % c + t
  before_end t h =
      let m : x % c < c = mod-lt x some in
      let z : base + (x % c + t) ≡ base + x % c + t = omega arith in
      ap (λ (y : ℕ). base + y) (near c x t (omega (arith, m, h))) ∙ z

  pub in_one_run : {w₁ : List ℕ} → n ≤ c - x % c → w₁ ≡ copy_run n v 0 w (base + x % c) 0 → w₁ ≡ put_ring n w base c x v 0 0
  in_one_run h e = one_run v _ _ w 0 (base + x % c) n (λ t l. (refl, before_end t (omega (arith, h, l)))) e ∙ ring_moves n w base c x v 0 0

  pub in_two_runs : {w₁ w₂ : List ℕ} → n ≤ c → c - x % c < n → w₁ ≡ copy_run (c - x % c) v 0 w (base + x % c) 0 → w₂ ≡ copy_run (n - (c - x % c)) v (c - x % c) w₁ base 0 → w₂ ≡ put_ring n w
      base c x v 0 0
  in_two_runs most h e r =
      let left = c - x % c in
      two_runs v _ _ w 0 (base + x % c) left base left n (omega (arith, h)) (λ t l. (refl, before_end t l)) (λ t l.
      (zero-add (left + t), ap (λ (y : ℕ). base + y) (far c x t some (omega (arith, most, l))))) e r ∙ ring_moves n w base c x v 0 0

-- ---- the stores of one entry, from what each call ensures: r is the head that was read, f its new filter, w1 to w4 the words after each store
module _ (w : List ℕ) (k oldest entry row : ℕ) (key : CacheKey) (terms : CachedTerms) (n : ℕ) (rows : List ℕ) where
  pub written_is : {h head r f a : ℕ} {es w1 w2 w3 w4 : List ℕ} → length rows ≡ row_words * n → h ≡ hash key → head ≡ head_of h k → r ≡ get_or w head 0 → f ≡ with_bit (r % half) oldest (r / half)
      (h / half % 32) → es ≡ entry_words key terms n row → a ≡ entry_place k entry → w1 ≡ put_ring (length es) w a 16 0 es 0 0
      → w2 ≡ put_ring (length rows) w1 (rows_from * k) (row_words * k) (row_words * row) rows 0 0 → w3 ≡ set w2 (k + entry % k) (r % half + h / half * half) → w4 ≡ set w3 head (entry + f * half)
      → w4 ≡ written w k oldest entry row key terms n rows 0
  unfolding written link_place chain bits latest_of filter_of entry_words
  written_is {h} {head} {r} {w1 = w1} {w2 = w2} long eh ed er eg es ea e1 e2 e3 e4 =
      let d : head ≡ head_of (hash key) k = ed ∙ ap (λ (x : ℕ). head_of x k) eh in
      let l : r ≡ get_or w (head_of (hash key) k) 0 = er ∙ ap (λ (x : ℕ). get_or w x 0) d in
      let u1 = put_ring 16 w (entry_place k entry) 16 0 (entry_words key terms n row) 0 0 in
      let u2 = put_ring (row_words * n) u1 (rows_from * k) (row_words * k) (row_words * row) rows 0 0 in
      let f1 : w1 ≡ u1 = e1 ∙ (λ i. put_ring (length (es i)) w (ea i) 16 0 (es i) 0 0) in
      let f2 : w2 ≡ u2 = e2 ∙ (λ i. put_ring (long i) (f1 i) (rows_from * k) (row_words * k) (row_words * row) rows 0 0) in
      let g = eg ∙ (λ i. with_bit (l i % half) oldest (l i / half) (eh i / half % 32)) in
      e4 ∙ (λ i. set ((e3 ∙ (λ j. set (f2 j) (k + entry % k) (l j % half + eh j / half * half))) i) (d i) (entry + g i * half))

-- where the rows are a part of others
pub written_part : (w : List ℕ) (k oldest entry row : ℕ) (key : CacheKey) (terms : CachedTerms) (n : ℕ) (v : List ℕ) (from : ℕ) {j : ℕ} → j ≡ row_words * n → from + row_words * n ≤ length v
    → written w k oldest entry row key terms n (take j (drop from v)) 0 ≡ written w k oldest entry row key terms n v from
unfolding written
written_part w k oldest entry row key terms n v from e h =
    let head = chain k key in
    let w1 = put_ring 16 w (entry_place k entry) 16 0 (entry_words key terms n row) 0 0 in
    let put = ap (λ (m : ℕ). put_ring (row_words * n) w1 (rows_from * k) (row_words * k) (row_words * row) (take m (drop from v)) 0 0) e
    ∙ put_part (row_words * n) w1 (rows_from * k) (row_words * k) (row_words * row) v from (row_words * n) 0 (omega arith) h in
    ap (λ (u : List ℕ). set (set u (link_place k entry) (latest_of w head + bits key * half)) head
    (entry + with_bit (latest_of w head) oldest (filter_of w head) (bit_of key) * half)) put

-- ---- whether an evaluation is kept; r is what `is_room` answered, d the number of entries claimed
module _ (k : ℕ) (o : CacheOrder) (n lent from : ℕ) {r : Bool} (e : r ≡ is_room k) where
  pub no_room : r ≡ false → false ≡ is_kept k o n lent from
  unfolding is_kept
  no_room t = no_of _ e t refl

  module _ (t : r ≡ true) where
    pub no_rows : n ≡ 0 → false ≡ is_kept k o n lent from
    unfolding is_kept
    no_rows z = yes_of _ e t (yes _ (eq-eqb _ _ z) refl)

    module _ (some : n ≡ 0 → ⊥) where
      pub too_many_rows : k < n → false ≡ is_kept k o n lent from
      unfolding is_kept
      too_many_rows l = yes_of _ e t (no _ (ne_eqb _ _ some) (yes _ (lt-ltb _ _ l) refl))

      module _ (few : n ≤ k) where
        pub not_all_lent : lent < from + row_words * n → false ≡ is_kept k o n lent from
        unfolding is_kept
        not_all_lent l = yes_of _ e t (no _ (ne_eqb _ _ some) (no _ (le-ltb _ _ few) (yes _ (lt-ltb _ _ l) refl)))

        module _ {d : ℕ} (all : from + row_words * n ≤ lent) (c : d ≡ o.next - o.oldest) where
          so_far : {z : Bool} → z ≡ pick (ltb k (o.next - o.oldest)) false (pick (ltb o.next half) (ltb o.next_row 1152921504606846976) false) → z ≡ is_kept k o n lent from
          unfolding is_kept
          so_far q = yes_of _ e t (no _ (ne_eqb _ _ some) (no _ (le-ltb _ _ few) (no _ (le-ltb _ _ all) q)))

          pub too_many_entries : k < d → false ≡ is_kept k o n lent from
          too_many_entries l = so_far (yes _ (lt-ltb _ _ (subst (λ (x : ℕ). k < x) c l)) refl)

          module _ (beside : d ≤ k) where
            pub too_late : half ≤ o.next → false ≡ is_kept k o n lent from
            too_late l = so_far (no _ (le-ltb _ _ (subst (λ (x : ℕ). x ≤ k) c beside)) (no _ (le-ltb _ _ l) refl))

            pub in_range : o.next < half → ltb o.next_row 1152921504606846976 ≡ is_kept k o n lent from
            in_range l = so_far (no _ (le-ltb _ _ (subst (λ (x : ℕ). x ≤ k) c beside)) (yes _ (lt-ltb _ _ l) refl))

-- ---- what the test of `insert` says; b is what `is_kept` answered
pub record Kept (k : ℕ) (o : CacheOrder) (n lent from : ℕ) : Type 0 where
  pub some_room : 0 < k
  pub most : k ≤ 100000
  pub fits : n ≤ k
  pub all_lent : from + row_words * n ≤ lent
  pub soon : o.next < half
  pub low : o.next_row < 1152921504606846976

pub kept_says : {b : Bool} (k : ℕ) (o : CacheOrder) (n lent from : ℕ) → b ≡ is_kept k o n lent from → b ≡ true → Kept k o n lent from
unfolding is_kept
kept_says k o n lent from q t =
    let room = picked _ _ (sym q ∙ t) in
    let some = passed _ _ room.1 in
    let few = passed _ _ some.1 in
    let all = passed _ _ few.1 in
    let beside = passed _ _ all.1 in
    let soon = picked _ _ beside.1 in
    let is-room = room_says k refl room.0 in
    record {
      some_room = is-room.0;
      most = is-room.1;
      fits = ltb-false k n few.0;
      all_lent = ltb-false _ _ all.0;
      soon = ltb-true _ _ soon.0;
      low = ltb-true _ _ soon.1;
    }

-- ---- keeping; b is what `is_kept` answered, left what `evict` left
module _ (w : List ℕ) (k : ℕ) (o : CacheOrder) (key : CacheKey) (terms : CachedTerms) (n : ℕ) (rows : List ℕ) (from : ℕ) {b : Bool} (e : b ≡ is_kept k o n (length rows) from) where
  pub not_kept_lem : b ≡ false → after o w ≡ insert w k o key terms n rows from
  unfolding insert
  not_kept_lem t = no_of _ e t refl

  pub keeps : {left : CacheOrder} {j : ℕ} {w' : List ℕ} → b ≡ true → from + row_words * n ≤ length rows → j ≡ row_words * n → left ≡ evict (o.next - o.oldest) w k (k - n) o.next o.next_row o.oldest o.first_row
      → w' ≡ written w k left.oldest left.next left.next_row key terms n (take j (drop from rows)) 0
      → after (order left.oldest (left.next + 1) left.first_row (left.next_row + n)) w' ≡ insert w k o key terms n rows from
  unfolding insert placed
  keeps {left} {j} t h z p q =
      let stay = left_says o (o.next - o.oldest) w k (k - n) p in
      let r = q ∙ written_part w k left.oldest left.next left.next_row key terms n rows from z h
      ∙ (λ i. written w k (p i).oldest (stay.0 i) (stay.1 i) key terms n rows from) in
      yes_of _ e t (λ i. after (order (p i).oldest (stay.0 i + 1) (p i).first_row (stay.1 i + n)) (r i))
