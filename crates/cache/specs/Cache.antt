-- What the functions of this crate compute, over the list of the lent words: the layout and `find` (lib.rt), then `entries`, then
-- `keeping`.
use Rattle.std.specs.Prelude.{ℕ, zero, suc, ◌+◌, ◌-◌, ◌*◌, ◌/◌, ◌%◌, ◌^◌, Bool, false, List, [], ◌∷◌, length, set, ◌==◌, bit_or, nat_lt}
use Rattle.std.specs.Prelude.{slice_index, slice_set, None, Option, Some}
use Rattle.float64.specs.Pick.{pick}
use Rattle.cache.specs.declared.CacheKey.{CacheKey}
use Rattle.cache.specs.declared.CachedTerms.{CachedTerms}
use Rattle.cache.specs.declared.CacheOrder.{CacheOrder}

-- ---- the layout, for each row of the room: the words of a row; where entries, of 16 words, and rows begin, after a head and a link
abbrev pub row_words : ℕ
row_words = 3

abbrev pub entries_from : ℕ
entries_from = 2

abbrev pub rows_from : ℕ
rows_from = 18

-- the words that are lent for each row of the room
abbrev pub kept_words : ℕ
kept_words = 24

-- 2^32
abbrev pub half : ℕ
half = 4294967296

-- ---- the hash: products of the halves of the key's words, summed, and mixed once more
unfoldable pub part : ℕ → ℕ → ℕ → ℕ
part word low high = (word % half + low) % half * ((word / half + high) % half)

-- u64's wrapping_add
abbrev pub wrapped : ℕ → ℕ → ℕ
wrapped a b = (a + b) % 18446744073709551616

abbrev pub mixed : ℕ → ℕ
mixed sum = sum % half * 1640531527 + sum / half * 2146121005

unfoldable pub hash : CacheKey → ℕ
hash key =
    mixed
    (wrapped
    (wrapped (wrapped (part key.subject 0x9e37_79b1 0x85eb_ca77) (part key.theta0 0xc2b2_ae3d 0x27d4_eb2f))
    (wrapped (part key.theta1 0x1656_67b1 0xd3a2_646d) (part key.eta0 0xfd70_46c5 0xb55a_4f09)))
    (wrapped (wrapped (part key.eta1 0x8f1b_bcdd 0x6ed9_eba1) (part key.has_additive 0x5a82_7999 0xca62_c1d7))
    (part key.additive 0xb7e1_5163 0x7f4a_7c15)))

-- the chain, by the low half; the high half, which stands beside the link; and the bit of its chain's filter
unfoldable pub head_of : ℕ → ℕ → ℕ
head_of hash k = hash % half * k / half

unfoldable pub chain : ℕ → CacheKey → ℕ
chain k key = head_of (hash key) k

unfoldable pub bits : CacheKey → ℕ
bits key = hash key / half

abbrev pub bit_of : CacheKey → ℕ
bit_of key = bits key % 32

unfoldable pub has_bit : ℕ → ℕ → Bool
has_bit filter bit = filter / 2 ^ bit % 2 == 1

-- ---- what stands where
-- where the slot of an entry begins, its link, and word x of the rows
unfoldable pub entry_place : ℕ → ℕ → ℕ
entry_place k entry = entries_from * k + 16 * (entry % k)

unfoldable pub link_place : ℕ → ℕ → ℕ
link_place k entry = k + entry % k

unfoldable pub row_place : ℕ → ℕ → ℕ
row_place k x = rows_from * k + x % (row_words * k)

abbrev pub at : List ℕ → ℕ → ℕ
at w i = slice_index w i

-- the entry whose words begin at a
unfoldable pub key_at : List ℕ → ℕ → CacheKey
key_at w a =
    record {
      subject = at w a;
      theta0 = at w (a + 1);
      theta1 = at w (a + 2);
      eta0 = at w (a + 3);
      eta1 = at w (a + 4);
      has_additive = at w (a + 5);
      additive = at w (a + 6);
    }

unfoldable pub terms_at : List ℕ → ℕ → CachedTerms
terms_at w a =
    record {
      nll = at w (a + 7);
      score0 = at w (a + 8);
      score1 = at w (a + 9);
      i00 = at w (a + 10);
      i01 = at w (a + 11);
      i10 = at w (a + 12);
      i11 = at w (a + 13);
    }

-- a chain's latest entry, and the bits of the entries in it
unfoldable pub latest_of : List ℕ → ℕ → ℕ
latest_of w head = at w head % half

unfoldable pub filter_of : List ℕ → ℕ → ℕ
filter_of w head = at w head / half

-- the number of an entry's rows, the number of the first, and the entry before it in its chain
abbrev pub count_of : List ℕ → ℕ → ℕ → ℕ
count_of w k entry = at w (entry_place k entry + 14)

abbrev pub first_of : List ℕ → ℕ → ℕ → ℕ
first_of w k entry = at w (entry_place k entry + 15)

unfoldable pub link_of : List ℕ → ℕ → ℕ → ℕ
link_of w k entry = at w (link_place k entry) % half

unfoldable pub bits_of : List ℕ → ℕ → ℕ → ℕ
bits_of w k entry = at w (link_place k entry) / half

unfoldable pub row_at : List ℕ → ℕ → ℕ → ℕ
row_at w k x = at w (row_place k x)

-- ---- finding, among at most k entries
-- room for 1 to 100,000 rows
unfoldable pub is_room : ℕ → Bool
is_room k = pick (k == 0) false (nat_lt k 100001)

unfoldable pub same_key : CacheKey → CacheKey → Bool
same_key a b =
    pick (a.eta0 == b.eta0)
    (pick (a.subject == b.subject)
    (pick (a.theta0 == b.theta0)
    (pick (a.eta1 == b.eta1)
    (pick (a.theta1 == b.theta1)
    (pick (a.has_additive == b.has_additive)
    (a.additive == b.additive) false) false) false) false) false) false

unfoldable pub is_same : List ℕ → ℕ → CacheKey → Bool
is_same w a key = same_key (key_at w a) key

-- an entry is looked at where the bits beside its link are the key's
unfoldable pub is_at : List ℕ → ℕ → ℕ → ℕ → CacheKey → Bool
is_at w k entry b key = pick (bits_of w k entry == b) (is_same w (entry_place k entry) key) false

-- along a chain from an entry on, in at most n entries
unfoldable pub walk : ℕ → List ℕ → ℕ → ℕ → ℕ → CacheKey → ℕ → Option ℕ
walk zero w k oldest b key entry = None
walk (suc n) w k oldest b key entry =
    pick (nat_lt entry oldest) None
    (pick (is_at w k entry b key) (Some (entry % k))
    (walk n w k oldest b key (link_of w k entry)))

unfoldable pub find : List ℕ → ℕ → CacheOrder → CacheKey → Option ℕ
find w k order key =
    pick (is_room k)
    (pick (nat_lt k (order.next - order.oldest)) None
    (pick (has_bit (filter_of w (chain k key)) (bit_of key))
    (walk (order.next - order.oldest) w k order.oldest (bits key) key (latest_of w (chain k key))) None))
    None

-- ---- reading a slot
unfoldable pub terms_of : List ℕ → ℕ → ℕ → CachedTerms
terms_of w k slot =
    pick (is_room k) (terms_at w (entry_place k slot))
    (record { nll = 0; score0 = 0; score1 = 0; i00 = 0; i01 = 0; i10 = 0; i11 = 0 })

-- n words of all rows, from word x + i on, to `to` + i on
unfoldable pub copy_from : ℕ → List ℕ → ℕ → ℕ → List ℕ → ℕ → ℕ → List ℕ
copy_from zero w k x out to i = out
copy_from (suc n) w k x out to i = copy_from n w k x (slice_set out (to + i) (row_at w k (x + i))) to (i + 1)

unfoldable pub rows_to : List ℕ → ℕ → ℕ → ℕ → List ℕ → ℕ → List ℕ
rows_to w k slot n out to = copy_from n w k (row_words * first_of w k slot) out to 0

-- n words of w from `from` + i on, to `to` + i on
unfoldable pub copy_run : ℕ → List ℕ → ℕ → List ℕ → ℕ → ℕ → List ℕ
copy_run zero w from out to i = out
copy_run (suc n) w from out to i = copy_run n w from (slice_set out (to + i) (at w (from + i))) to (i + 1)

-- n rows, where they fit and all rows are lent
unfoldable pub copied : List ℕ → ℕ → ℕ → ℕ → List ℕ → ℕ → List ℕ
copied w k slot n out to =
    pick (is_room k)
    (pick (nat_lt k n) out
    (pick (nat_lt (length w) ((rows_from + row_words) * k)) out
    (pick (nat_lt (length out) (to + row_words * n)) out (rows_to w k slot (row_words * n) out to))))
    out

-- ---- keeping
abbrev pub order : ℕ → ℕ → ℕ → ℕ → CacheOrder
order oldest next first_row next_row = record { oldest = oldest; next = next; first_row = first_row; next_row = next_row }

unfoldable pub raised : ℕ → ℕ → ℕ → ℕ
raised first_row next_row n = pick (nat_lt n (next_row - first_row)) (first_row + n) next_row

-- the oldest go until at most `room` rows are left; where no entry is left there is no row
unfoldable pub evict : ℕ → List ℕ → ℕ → ℕ → ℕ → ℕ → ℕ → ℕ → CacheOrder
evict zero w k room next next_row oldest first_row = order oldest next next_row next_row
evict (suc n) w k room next next_row oldest first_row =
    pick (nat_lt room (next_row - first_row))
    (evict n w k room next next_row (oldest + 1) (raised first_row next_row (count_of w k oldest)))
    (order oldest next first_row next_row)

-- n words of v, from word `from` + i on, around the ring of c words at base, word `from` at x
unfoldable pub put_ring : ℕ → List ℕ → ℕ → ℕ → ℕ → List ℕ → ℕ → ℕ → List ℕ
put_ring zero w base c x v from i = w
put_ring (suc n) w base c x v from i = put_ring n (slice_set w (base + (x + i) % c) (at v (from + i))) base c x v from (i + 1)

unfoldable pub entry_words : CacheKey → CachedTerms → ℕ → ℕ → List ℕ
entry_words key terms n row =
    key.subject ∷ key.theta0 ∷ key.theta1 ∷ key.eta0 ∷ key.eta1 ∷ key.has_additive ∷ key.additive
    ∷ terms.nll ∷ terms.score0 ∷ terms.score1 ∷ terms.i00 ∷ terms.i01 ∷ terms.i10 ∷ terms.i11 ∷ n ∷ row ∷ []

-- the filter with one more bit; a chain without a live entry begins anew
unfoldable pub with_bit : ℕ → ℕ → ℕ → ℕ → ℕ
with_bit latest oldest filter bit = pick (nat_lt latest oldest) (2 ^ bit) (bit_or filter (2 ^ bit))

-- the words with the entry and its n rows, the first numbered row: the entry, its rows, its link, the head of its chain
unfoldable pub written : List ℕ → ℕ → ℕ → ℕ → ℕ → CacheKey → CachedTerms → ℕ → List ℕ → ℕ → List ℕ
written w k oldest entry row key terms n rows from =
    let head = chain k key in
    let w1 = put_ring 16 w (entry_place k entry) 16 0 (entry_words key terms n row) 0 0 in
    let w2 = put_ring (row_words * n) w1 (rows_from * k) (row_words * k) (row_words * row) rows from 0 in
    set (slice_set w2 (link_place k entry) (latest_of w head + bits key * half)) head
    (entry + with_bit (latest_of w head) oldest (filter_of w head) (bit_of key) * half)

-- rows, at most k, all of them lent, beside at most k entries, and numbers in range
unfoldable pub is_kept : ℕ → CacheOrder → ℕ → ℕ → ℕ → Bool
is_kept k o n lent from =
    pick (is_room k)
    (pick (n == 0) false
    (pick (nat_lt k n) false
    (pick (nat_lt lent (from + row_words * n)) false
    (pick (nat_lt k (o.next - o.oldest)) false
    (pick (nat_lt o.next half) (nat_lt o.next_row 1152921504606846976) false)))))
    false

pub record Cache : Type 0 where
  pub order : CacheOrder
  pub words : List ℕ

abbrev pub after : CacheOrder → List ℕ → Cache
after o w = record { order = o; words = w }

-- the entry numbered next, after eviction left l
unfoldable pub placed : List ℕ → ℕ → CacheOrder → ℕ → ℕ → CacheKey → CachedTerms → ℕ → List ℕ → ℕ → Cache
placed w k l next next_row key terms n rows from =
    after (order l.oldest (next + 1) l.first_row (next_row + n)) (written w k l.oldest next next_row key terms n rows from)

unfoldable pub insert : List ℕ → ℕ → CacheOrder → CacheKey → CachedTerms → ℕ → List ℕ → ℕ → Cache
insert w k o key terms n rows from =
    pick (is_kept k o n (length rows) from)
    (placed w k (evict (o.next - o.oldest) w k (k - n) o.next o.next_row o.oldest o.first_row)
    o.next o.next_row key terms n rows from)
    (after o w)
