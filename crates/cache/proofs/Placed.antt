-- What one more entry does to the list that the words stand for. Assumes nothing.
use Rattle.std.proofs.Common.{◌≡◌, ℕ, zero, suc, ◌+◌, ◌*◌, ◌/◌, ◌%◌, ◌<◌, ◌≤◌, true, false, eqb, List, [], ◌∷◌, ◌++◌, length, get_or, set, sym, refl, ap, ◌∙◌, subst, ⊎_elim, add-zero, mod-lt, mod-eq_of_lt, zero-add, arith, lit<, length-set, get_or-set_other, get_or-set_same, eqb-true}
use native.Mathlib.Nat.{div-eq_of_lt, add-mul-mod_self_right, add-mul-div_right}
use borrow.Author.Tests.{eqb-false}
use Rattle.cache.specs.declared.CacheKey.{CacheKey}
use Rattle.cache.specs.declared.CachedTerms.{CachedTerms}
use Rattle.cache.specs.Cache.{half, row_words, entries_from, rows_from, key_at, terms_at, entry_place, link_place, row_place, row_at, count_of, first_of, link_of, bits_of, latest_of, filter_of, has_bit}
use Rattle.cache.specs.Cache.{with_bit, bits, bit_of, chain, put_ring, entry_words, written}
use Rattle.cache.specs.Kept.{Entry, words_from, row_words_from, key_of, entry_of, kept_from, Latest, Laid, Good}
use Rattle.cache.proofs.Filter.{own_bit, kept_bit}
use Rattle.cache.proofs.Walked.{which, split, window, chain_lt, laid_count}

-- w' is w after entry e came, with the rows from g on; what is older than o has gone
pub record Wrote (w w' : List ℕ) (k o e g n : ℕ) (key : CacheKey) (v : CachedTerms) (rows : List ℕ) (from : ℕ) : Type 0 where
  pub same_long : length w' ≡ length w
  pub mine : (u : ℕ) → u < 16 → get_or w' (entry_place k e + u) 0 ≡ get_or (entry_words key v n g) u 0
  pub others : (s u : ℕ) → u < 16 → (s % k ≡ e % k → ⊥) → get_or w' (entry_place k s + u) 0 ≡ get_or w (entry_place k s + u) 0
  pub rows_mine : (i : ℕ) → i < row_words * n → row_at w' k (row_words * g + i) ≡ get_or rows (from + i) 0
  pub rows_others : (x : ℕ) → ((i : ℕ) → i < row_words * n → x % (row_words * k) ≡ (row_words * g + i) % (row_words * k) → ⊥) → row_at w' k x ≡ row_at w k x
  pub link_mine : link_of w' k e ≡ latest_of w (chain k key)
  pub marks_mine : bits_of w' k e ≡ bits key
  pub link_others : (s : ℕ) → (s % k ≡ e % k → ⊥) → get_or w' (link_place k s) 0 ≡ get_or w (link_place k s) 0
  pub head_mine : latest_of w' (chain k key) ≡ e
  pub filter_mine : filter_of w' (chain k key) ≡ with_bit (latest_of w (chain k key)) o (filter_of w (chain k key)) (bit_of key)
  pub head_others : (h : ℕ) → h < k → (h ≡ chain k key → ⊥) → get_or w' h 0 ≡ get_or w h 0

-- ---- readers of words that agree
key_of_lem : (w : List ℕ) (a : ℕ) (key : CacheKey) (f : ℕ → ℕ) → ((u : ℕ) → u < 16 → get_or w (a + u) 0 ≡ f u) → key ≡ record
    { subject = f 0; theta0 = f 1; theta1 = f 2; eta0 = f 3; eta1 = f 4; has_additive = f 5; additive = f 6 } → key_at w a ≡ key
unfolding key_at
key_of_lem w a key f h e =
    (λ i. record {
      subject = (ap (λ (x : ℕ). get_or w x 0) (sym (add-zero a)) ∙ h 0 (lit< tt)) i;
      theta0 = h 1 (lit< tt) i;
      theta1 = h 2 (lit< tt) i;
      eta0 = h 3 (lit< tt) i;
      eta1 = h 4 (lit< tt) i;
      has_additive = h 5 (lit< tt) i;
      additive = h 6 (lit< tt) i;
    }) ∙ sym e

value_of : (w : List ℕ) (a : ℕ) (v : CachedTerms) (f : ℕ → ℕ) → ((u : ℕ) → u < 16 → get_or w (a + u) 0 ≡ f u) → v ≡ record
    { nll = f 7; score0 = f 8; score1 = f 9; i00 = f 10; i01 = f 11; i10 = f 12; i11 = f 13 } → terms_at w a ≡ v
unfolding terms_at
value_of w a v f h e =
    (λ i. record { nll = h 7 (lit< tt) i; score0 = h 8 (lit< tt) i; score1 = h 9 (lit< tt) i; i00 = h 10 (lit< tt) i; i01 = h 11 (lit< tt) i; i10 = h 12 (lit< tt) i; i11 = h 13 (lit< tt) i }) ∙ sym e

key_same : (w w' : List ℕ) (a : ℕ) → ((u : ℕ) → u < 16 → get_or w' (a + u) 0 ≡ get_or w (a + u) 0) → key_at w' a ≡ key_at w a
unfolding key_at
key_same w w' a h = key_of_lem w' a (key_at w a) (λ u. get_or w (a + u) 0) h (ap (λ (x : ℕ). record {
  subject = get_or w x 0;
  theta0 = get_or w (a + 1) 0;
  theta1 = get_or w (a + 2) 0;
  eta0 = get_or w (a + 3) 0;
  eta1 = get_or w (a + 4) 0;
  has_additive = get_or w (a + 5) 0;
  additive = get_or w (a + 6) 0;
}) (sym (add-zero a)))

value_same : (w w' : List ℕ) (a : ℕ) → ((u : ℕ) → u < 16 → get_or w' (a + u) 0 ≡ get_or w (a + u) 0) → terms_at w' a ≡ terms_at w a
unfolding terms_at
value_same w w' a h = value_of w' a (terms_at w a) (λ u. get_or w (a + u) 0) h refl

rows_same : (w w' : List ℕ) (k m x : ℕ) → ((y : ℕ) → x ≤ y → y < x + m → row_at w' k y ≡ row_at w k y) → row_words_from m w' k x ≡ row_words_from m w k x
unfolding row_words_from
rows_same w w' k zero x h = refl
rows_same w w' k (suc m) x h = λ i. h x (omega arith) (omega arith) i ∷ rows_same w w' k m (x + 1) (λ y a b. h y (omega arith) (omega arith)) i

rows_are : (w v : List ℕ) (k y from m i : ℕ) → ((j : ℕ) → j < i + m → row_at w k (y + j) ≡ get_or v (from + j) 0) → row_words_from m w k (y + i) ≡ words_from m v (from + i)
unfolding row_words_from words_from
rows_are w v k y from zero i h = refl
rows_are w v k y from (suc m) i h =
    let e : y + i + 1 ≡ y + (i + 1) = omega arith in
    let f : from + (i + 1) ≡ from + i + 1 = omega arith in
    λ d. h i (omega arith) d ∷ (ap (row_words_from m w k) e ∙ rows_are w v k y from m (i + 1) (λ j a. h j (omega arith)) ∙ ap (words_from m v) f) d

kept_snoc : (w : List ℕ) (k c s : ℕ) → kept_from (suc c) w k s ≡ kept_from c w k s ++ (entry_of w k (s + c) ∷ [])
unfolding kept_from
kept_snoc w k zero s = ap (λ (x : ℕ). entry_of w k x ∷ []) (sym (add-zero s))
kept_snoc w k (suc c) s = let e : s + 1 + c ≡ s + suc c = omega arith in ap {B = List Entry} (λ r. entry_of w k s ∷ r)
    (kept_snoc w k c (s + 1) ∙ ap (λ (x : ℕ). kept_from c w k (s + 1) ++ (entry_of w k x ∷ [])) e)

module _ (w w' : List ℕ) (k c o b g n : ℕ) (key : CacheKey) (v : CachedTerms) (rows : List ℕ) (from : ℕ) (G : Good w k c o b g) (W : Wrote w w' k o (o + c) g n key v rows from) (n-one : 1 ≤ n)
    (n-most : n ≤ k) (fits : g + n ≤ b + k) (new : (s : ℕ) → o ≤ s → s < o + c → key_of w k s ≡ key → ⊥) where
  fewer : c < k
  fewer = let h : b + c ≤ g = laid_count w k g c o b G.laid in omega arith

  away : (s : ℕ) → o ≤ s → s < o + c → s % k ≡ (o + c) % k → ⊥
  away s x y = window k s (o + c) y (let h : c < k = fewer in omega arith)

  field_old : (s u : ℕ) → o ≤ s → s < o + c → u < 16 → get_or w' (entry_place k s + u) 0 ≡ get_or w (entry_place k s + u) 0
  field_old s u x y z = W.others s u z (away s x y)

  key_old : (s : ℕ) → o ≤ s → s < o + c → key_of w' k s ≡ key_of w k s
  unfolding key_of
  key_old s x y = key_same w w' (entry_place k s) (λ u z. field_old s u x y z)

  key_new : key_of w' k (o + c) ≡ key
  unfolding key_of entry_words
  key_new = key_of_lem w' (entry_place k (o + c)) key (λ u. get_or (entry_words key v n g) u 0) W.mine refl

  row_old : (x : ℕ) → row_words * b ≤ x → x < row_words * g → row_at w' k x ≡ row_at w k x
  row_old x h j = W.rows_others x (λ i l. window (row_words * k) x (row_words * g + i) (omega arith) (omega arith))

  entry_old : (s : ℕ) → o ≤ s → s < o + c → b ≤ first_of w k s → first_of w k s + count_of w k s ≤ g → entry_of w' k s ≡ entry_of w k s
  unfolding entry_of
  entry_old s x y h j =
      let p : first_of w' k s ≡ first_of w k s = field_old s 15 x y (lit< tt) in
      let q : count_of w' k s ≡ count_of w k s = field_old s 14 x y (lit< tt) in
      λ i. record {
        key = key_old s x y i;
        terms = value_same w w' (entry_place k s) (λ u z. field_old s u x y z) i;
        n = q i;
        rows =
            (ap (λ (m : ℕ). row_words_from (row_words * m) w' k (row_words * first_of w' k s)) q ∙ ap (λ (m : ℕ). row_words_from (row_words * count_of w k s) w' k (row_words * m)) p ∙ rows_same w w' k
            (row_words * count_of w k s) (row_words * first_of w k s) (λ z a d. row_old z (omega arith) (omega arith))) i;
      }

  entry_new : entry_of w' k (o + c) ≡ record { key = key; terms = v; n = n; rows = words_from (row_words * n) rows from }
  unfolding entry_of entry_words
  entry_new =
      let p : first_of w' k (o + c) ≡ g = W.mine 15 (lit< tt) in
      let q : count_of w' k (o + c) ≡ n = W.mine 14 (lit< tt) in
      let z : row_words * g ≡ row_words * g + 0 = omega arith in
      λ i. record {
        key = key_new i;
        terms = value_of w' (entry_place k (o + c)) v (λ u. get_or (entry_words key v n g) u 0) W.mine refl i;
        n = q i;
        rows =
            (ap (λ (m : ℕ). row_words_from (row_words * m) w' k (row_words * first_of w' k (o + c))) q ∙ ap (λ (m : ℕ). row_words_from (row_words * n) w' k (row_words * m)) p ∙ ap
            (row_words_from (row_words * n) w' k) z ∙ rows_are w' rows k (row_words * g) from (row_words * n) 0 (λ j l. W.rows_mine j (omega arith)) ∙ ap (words_from (row_words * n) rows)
            (add-zero from)) i;
      }

  laid_new : (m s f : ℕ) → o ≤ s → s + m ≡ o + c → Laid m w k s f g → Laid (suc m) w' k s f (g + n)
  unfolding Laid entry_words
  laid_new zero s f x y L =
      let z : o + c ≡ s = omega arith in
      let p : first_of w' k (o + c) ≡ g = W.mine 15 (lit< tt) in
      let q : count_of w' k (o + c) ≡ n = W.mine 14 (lit< tt) in
      let p' : first_of w' k s ≡ g = subst (λ (t : ℕ). first_of w' k t ≡ g) z p in
      let q' : count_of w' k s ≡ n = subst (λ (t : ℕ). count_of w' k t ≡ n) z q in
      let e : f ≡ g = L in
      (p' ∙ sym e, (omega arith), (omega arith))
  laid_new (suc m) s f x y L =
      let p : first_of w' k s ≡ first_of w k s = field_old s 15 x (omega arith) (lit< tt) in
      let q : count_of w k s ≡ count_of w' k s = sym (field_old s 14 x (omega arith) (lit< tt)) in
      (p ∙ L.0, subst (λ (t : ℕ). 1 ≤ t) q L.1, subst (λ (t : ℕ). Laid (suc m) w' k (s + 1) (f + t) (g + n)) q (laid_new m (s + 1) (f + count_of w k s) (omega arith) (omega arith) L.2))

  kept_old : (m s f : ℕ) → o ≤ s → s + m ≡ o + c → b ≤ f → Laid m w k s f g → kept_from m w' k s ≡ kept_from m w k s
  unfolding Laid kept_from
  kept_old zero s f x y h L = refl
  kept_old (suc m) s f x y h L =
      let a : f + count_of w k s + m ≤ g = laid_count w k g m (s + 1) (f + count_of w k s) L.2 in
      let e : first_of w k s ≡ f = L.0 in
      λ i. entry_old s x (omega arith) (omega arith) (omega arith) i ∷ kept_old m (s + 1) (f + count_of w k s) (omega arith) (omega arith) (omega arith) L.2 i

  latest_old : (h q e : ℕ) → e ≤ o + c → Latest w k o h q e → Latest w' k o h q e
  latest_old h q e z L =
      let y : q < e = L.below in
      record { below = L.below; all = λ s a d t. L.all s a d (ap (chain k) (sym (key_old s a (omega arith))) ∙ t); own = λ a. ap (chain k) (key_old q a (omega arith)) ∙ L.own a }

  head_hit : (h : ℕ) → h ≡ chain k key → Latest w' k o h (latest_of w' h) (o + suc c)
  head_hit h e =
      subst (λ (q : ℕ). Latest w' k o h q (o + suc c)) (sym (ap (latest_of w') e ∙ W.head_mine))
      (record { below = omega arith; all = λ s a d t. omega arith; own = λ a. ap (chain k) key_new ∙ sym e })

  head_miss : (h : ℕ) → h < k → (h ≡ chain k key → ⊥) → Latest w' k o h (latest_of w' h) (o + suc c)
  unfolding latest_of
  head_miss h l d =
      let L : Latest w' k o h (latest_of w h) (o + c) = latest_old h _ (o + c) (omega arith) (G.heads h l) in
      let y : latest_of w h < o + c = L.below in
      subst (λ (q : ℕ). Latest w' k o h q (o + suc c)) (sym (ap (λ (x : ℕ). x % half) (W.head_others h l d)))
      (record {
        below = omega arith;
        all = λ s a z t. ⊎_elim (λ (x : s < o + c). L.all s a x t) (λ (x : o + c ≤ s). let e : o + c ≡ s = omega arith in absurd
            (d (sym t ∙ ap (λ (x : ℕ). chain k (key_of w' k x)) (sym e) ∙ ap (chain k) key_new))) (split s (o + c));
        own = L.own;
      })

  link_same : (s : ℕ) → o ≤ s → s < o + c → link_of w' k s ≡ link_of w k s
  unfolding link_of
  link_same s x y = ap (λ (z : ℕ). z % half) (W.link_others s (away s x y))

  link_new : Latest w' k o (chain k (key_of w' k (o + c))) (link_of w' k (o + c)) (o + c)
  link_new = rw (key_new, W.link_mine) (latest_old _ _ (o + c) (omega arith) (G.heads (chain k key) (chain_lt k key G.some_room)))

  link_old : (s : ℕ) → o ≤ s → s < o + c → Latest w' k o (chain k (key_of w' k s)) (link_of w' k s) s
  link_old s x y = rw (key_old s x y, link_same s x y) (latest_old _ _ s (omega arith) (G.links s x y))

  mark_old : (s : ℕ) → o ≤ s → s < o + c → bits_of w' k s ≡ bits (key_of w' k s)
  unfolding bits_of
  mark_old s x y = ap (λ (z : ℕ). z / half) (W.link_others s (away s x y)) ∙ (unfold bits_of in G.marks s x y) ∙ ap bits (sym (key_old s x y))

  -- the filter of a chain keeps the bits of its live entries
  filter_old : (s : ℕ) → o ≤ s → s < o + c → has_bit (filter_of w' (chain k (key_of w k s))) (bit_of (key_of w k s)) ≡ true
  unfolding filter_of
  filter_old s x y =
      ⊎_elim (λ (e : eqb (chain k (key_of w k s)) (chain k key) ≡ true). same (eqb-true _ _ e)) (λ (e : eqb (chain k (key_of w k s)) (chain k key) ≡ false). other (eqb-false _ _ e))
      (which (eqb (chain k (key_of w k s)) (chain k key)))
    where
      old : has_bit (filter_of w (chain k (key_of w k s))) (bit_of (key_of w k s)) ≡ true
      old = G.filters s x y

      same : chain k (key_of w k s) ≡ chain k key → has_bit (filter_of w' (chain k (key_of w k s))) (bit_of (key_of w k s)) ≡ true
      same e =
          let L : s ≤ latest_of w (chain k key) = (G.heads (chain k key) (chain_lt k key G.some_room)).all s x y e in
          ap (λ (h : ℕ). has_bit (filter_of w' h) (bit_of (key_of w k s))) e ∙ ap (λ (f : ℕ). has_bit f (bit_of (key_of w k s))) W.filter_mine
          ∙ kept_bit (latest_of w (chain k key)) o (filter_of w (chain k key)) (bit_of key) (bit_of (key_of w k s)) (omega (arith, L, x))
          (ap (λ (h : ℕ). has_bit (filter_of w h) (bit_of (key_of w k s))) (sym e) ∙ old)

      other : (chain k (key_of w k s) ≡ chain k key → ⊥) → has_bit (filter_of w' (chain k (key_of w k s))) (bit_of (key_of w k s)) ≡ true
      other d = ap (λ (f : ℕ). has_bit (f / half) (bit_of (key_of w k s))) (W.head_others (chain k (key_of w k s)) (chain_lt k (key_of w k s) G.some_room) d) ∙ old

  filter_new : has_bit (filter_of w' (chain k (key_of w' k (o + c)))) (bit_of (key_of w' k (o + c))) ≡ true
  filter_new = rw key_new (ap (λ (f : ℕ). has_bit f (bit_of key)) W.filter_mine ∙ own_bit (latest_of w (chain k key)) o (filter_of w (chain k key)) (bit_of key))

  mark_new : bits_of w' k (o + c) ≡ bits (key_of w' k (o + c))
  mark_new = W.marks_mine ∙ ap bits (sym key_new)

  -- one more entry
  pub placed_good : Good w' k (suc c) o b (g + n)
  placed_good =
      record {
        some_room = G.some_room;
        most = G.most;
        long = rw W.same_long G.long;
        from_one = G.from_one;
        few = (let x : g ≤ 100000 * (o + c) = G.few in let y : k ≤ 100000 = G.most in omega arith);
        room = (omega arith);
        laid = laid_new c o b (omega arith) refl G.laid;
        marks = λ s x y. ⊎_elim (λ (z : s < o + c). mark_old s x z) (λ (z : o + c ≤ s). let e : o + c ≡ s = omega arith in subst (λ (t : ℕ). bits_of w' k t ≡ bits (key_of w' k t)) e mark_new)
            (split s (o + c));
        filters = λ s x y. ⊎_elim (λ (z : s < o + c). ap (λ (t : CacheKey). has_bit (filter_of w' (chain k t)) (bit_of t)) (key_old s x z) ∙ filter_old s x z)
            (λ (z : o + c ≤ s). let e : o + c ≡ s = omega arith in subst (λ (t : ℕ). has_bit (filter_of w' (chain k (key_of w' k t))) (bit_of (key_of w' k t)) ≡ true) e filter_new) (split s (o + c));
        heads = λ h l. ⊎_elim (λ (e : eqb h (chain k key) ≡ true). head_hit h (eqb-true _ _ e)) (λ (e : eqb h (chain k key) ≡ false). head_miss h l (eqb-false _ _ e)) (which (eqb h (chain k key)));
        links = λ s x y. ⊎_elim (λ (z : s < o + c). link_old s x z) (λ (z : o + c ≤ s). let e : o + c ≡ s = omega arith in subst (λ (t : ℕ). Latest w' k o (chain k (key_of w' k t)) (link_of w' k t) t) e
            link_new) (split s (o + c));
        apart = λ s t x y z q. ⊎_elim (λ (j : t < o + c). G.apart s t x y j (sym (key_old s x (omega arith)) ∙ q ∙ key_old t (omega arith) j))
            (λ (j : o + c ≤ t). let e : t ≡ o + c = omega arith in new s x (omega arith) (sym (key_old s x (omega arith)) ∙ q ∙ ap (key_of w' k) e ∙ key_new)) (split t (o + c));
      }

  pub placed_list : kept_from (suc c) w' k o ≡ kept_from c w k o ++ (record { key = key; terms = v; n = n; rows = words_from (row_words * n) rows from } ∷ [])
  placed_list = kept_snoc w' k c o ∙ (λ i. kept_old c o b (omega arith) refl (omega arith) G.laid i ++ (entry_new i ∷ []))

-- ---- the stores
module _ (base c x : ℕ) (v : List ℕ) (from : ℕ) where
  put_long : (m : ℕ) (w : List ℕ) (i : ℕ) → length (put_ring m w base c x v from i) ≡ length w
  unfolding put_ring
  put_long zero w i = refl
  put_long (suc m) w i = put_long m _ (i + 1) ∙ length-set w _ _

  put_other : (m : ℕ) (w : List ℕ) (i j : ℕ) → ((t : ℕ) → i ≤ t → t < i + m → j ≡ base + (x + t) % c → ⊥) → get_or (put_ring m w base c x v from i) j 0 ≡ get_or w j 0
  unfolding put_ring
  put_other zero w i j h = refl
  put_other (suc m) w i j h = put_other m _ (i + 1) j (λ t a b. h t (omega arith) (omega arith)) ∙ get_or-set_other w _ j _ 0 (h i (omega arith) (omega arith))

  put_same : (m : ℕ) (w : List ℕ) (i t : ℕ) → i ≤ t → t < i + m → m ≤ c → base + c ≤ length w → get_or (put_ring m w base c x v from i) (base + (x + t) % c) 0 ≡ get_or v (from + t) 0
  unfolding put_ring
  put_same zero w i t a b d l = absurd (let z : ⊥ = omega arith in z)
  put_same (suc m) w i t a b d l =
      ⊎_elim (λ (h : i < t). put_same m _ (i + 1) t (omega arith) (omega arith) (omega arith) (rw (length-set w (base + (x + i) % c) (get_or v (from + i) 0)) l))
      (λ (h : t ≤ i).
      let e : t ≡ i = omega arith in
      let p : (x + t) % c < c = mod-lt (x + t) (omega arith) in
      put_other m _ (i + 1) (base + (x + t) % c) (λ u y z q. window c (x + t) (x + u) (omega arith) (omega arith) (let r : (x + t) % c ≡ (x + u) % c = omega arith in r))
      ∙ ap (λ (u : ℕ). get_or (set w (base + (x + u) % c) (get_or v (from + u) 0)) (base + (x + t) % c) 0) (sym e)
      ∙ get_or-set_same w (base + (x + t) % c) (get_or v (from + t) 0) 0 (omega arith))
      (split i t)

-- a number below 2^32 with another above it
below : (a b : ℕ) → a < half → (a + b * half) % half ≡ a
below a b h = add-mul-mod_self_right a b half ∙ mod-eq_of_lt h

above : (a b : ℕ) → a < half → (a + b * half) / half ≡ b
above a b h = add-mul-div_right a b (lit< tt) ∙ ap (λ (z : ℕ). z + b) (div-eq_of_lt h) ∙ zero-add b

module _ (w : List ℕ) (k o e g n : ℕ) (key : CacheKey) (v : CachedTerms) (rows : List ℕ) (from : ℕ) (k-one : 1 ≤ k) (n-most : n ≤ k) (long : 24 * k ≤ length w) (soon : e < half) where
  place_lt : (s u : ℕ) → u < 16 → entry_place k s + u < rows_from * k
  unfolding entry_place
  place_lt s u h = let m : s % k < k = mod-lt s k-one in omega arith

  place_ge : (s u : ℕ) → entries_from * k ≤ entry_place k s + u
  unfolding entry_place
  place_ge s u = omega arith

  link_lt : (s : ℕ) → link_place k s < entries_from * k
  unfolding link_place
  link_lt s = let m : s % k < k = mod-lt s k-one in omega arith

  link_ge : (s : ℕ) → k ≤ link_place k s
  unfolding link_place
  link_ge s = omega arith

  place_apart : (s u u' : ℕ) → u < 16 → u' < 16 → (s % k ≡ e % k → ⊥) → entry_place k s + u ≡ entry_place k e + u' → ⊥
  unfolding entry_place
  place_apart s u u' h h' d q = ⊎_elim (λ (y : s % k < e % k). omega arith) (λ (y : e % k ≤ s % k). ⊎_elim (λ (z : e % k < s % k). omega arith) (λ (z : s % k ≤ e % k). d (omega arith))
      (split (e % k) (s % k))) (split (s % k) (e % k))

  link_apart : (s : ℕ) → (s % k ≡ e % k → ⊥) → link_place k s ≡ link_place k e → ⊥
  unfolding link_place
  link_apart s d q = d (omega (arith, q))

  es : List ℕ
  es = entry_words key v n g

  w1 : List ℕ
  unfolding es
  w1 = put_ring 16 w (entry_place k e) 16 0 es 0 0

  w2 : List ℕ
  unfolding w1
  w2 = put_ring (row_words * n) w1 (rows_from * k) (row_words * k) (row_words * g) rows from 0

  link : ℕ
  link = latest_of w (chain k key) + bits key * half

  w3 : List ℕ
  unfolding w2 link
  w3 = set w2 (link_place k e) link

  head : ℕ
  head = e + with_bit (latest_of w (chain k key)) o (filter_of w (chain k key)) (bit_of key) * half

  w4 : List ℕ
  unfolding w3 head
  w4 = set w3 (chain k key) head

  h_lt : chain k key < k
  h_lt = chain_lt k key k-one

  long1 : length w1 ≡ length w
  unfolding w1
  long1 = put_long (entry_place k e) 16 0 es 0 16 w 0

  long2 : length w2 ≡ length w
  unfolding w2
  long2 = put_long (rows_from * k) (row_words * k) (row_words * g) rows from (row_words * n) w1 0 ∙ long1

  long3 : length w3 ≡ length w
  unfolding w3
  long3 = length-set w2 _ _ ∙ long2

  far4 : (j : ℕ) → (j ≡ chain k key → ⊥) → get_or w4 j 0 ≡ get_or w3 j 0
  unfolding w4
  far4 j d = get_or-set_other w3 (chain k key) j head 0 d

  far3 : (j : ℕ) → (j ≡ link_place k e → ⊥) → get_or w3 j 0 ≡ get_or w2 j 0
  unfolding w3
  far3 j d = get_or-set_other w2 (link_place k e) j link 0 d

  far2 : (j : ℕ) → j < rows_from * k → get_or w2 j 0 ≡ get_or w1 j 0
  unfolding w2
  far2 j h = put_other (rows_from * k) (row_words * k) (row_words * g) rows from (row_words * n) w1 0 j (λ t a b q. omega arith)

  far1 : (j : ℕ) → ((u : ℕ) → u < 16 → j ≡ entry_place k e + u → ⊥) → get_or w1 j 0 ≡ get_or w j 0
  unfolding w1
  far1 j d = put_other (entry_place k e) 16 0 es 0 16 w 0 j (λ t a b q. d t (omega arith) (omega arith))

  mine1 : (u : ℕ) → u < 16 → get_or w1 (entry_place k e + u) 0 ≡ get_or es u 0
  unfolding w1
  mine1 u h =
      let z : entry_place k e + u ≡ entry_place k e + (0 + u) % 16 = omega arith in
      ap (λ (j : ℕ). get_or w1 j 0) z ∙ put_same (entry_place k e) 16 0 es 0 16 w 0 u (omega arith) (omega arith) (omega arith)
      (let y : entry_place k e + 15 < rows_from * k = place_lt e 15 (lit< tt) in omega arith) ∙ ap (λ (j : ℕ). get_or es j 0) (zero-add u)

  -- past the head and the link
  far34 : (j : ℕ) → entries_from * k ≤ j → get_or w4 j 0 ≡ get_or w2 j 0
  far34 j h = far4 j (λ q. let y : chain k key < k = h_lt in omega arith) ∙ far3 j (λ q. let y : link_place k e < entries_from * k = link_lt e in omega arith)

  -- a link's word, or a head's, through what comes after the heads
  far12 : (j : ℕ) → j < entries_from * k → get_or w2 j 0 ≡ get_or w j 0
  far12 j h = far2 j (omega arith) ∙ far1 j (λ u l q. let y : entries_from * k ≤ entry_place k e + u = place_ge e u in omega arith)

  linked : get_or w4 (link_place k e) 0 ≡ link
  unfolding w3
  linked = far4 _ (λ q. let y : chain k key < k = h_lt in let z : k ≤ link_place k e = link_ge e in omega arith) ∙ get_or-set_same w2 (link_place k e) link 0
      (let y : length w2 ≡ length w = long2 in let z : link_place k e < entries_from * k = link_lt e in omega arith)

  headed : get_or w4 (chain k key) 0 ≡ head
  unfolding w4
  headed = get_or-set_same w3 (chain k key) head 0 (let y : length w3 ≡ length w = long3 in let z : chain k key < k = h_lt in omega arith)

  latest_lt : latest_of w (chain k key) < half
  unfolding latest_of
  latest_lt = mod-lt _ (lit< tt)

  link_number : link_of w4 k e ≡ latest_of w (chain k key)
  unfolding link_of link
  link_number = ap (λ (z : ℕ). z % half) linked ∙ below (latest_of w (chain k key)) (bits key) latest_lt

  link_bits : bits_of w4 k e ≡ bits key
  unfolding bits_of link
  link_bits = ap (λ (z : ℕ). z / half) linked ∙ above (latest_of w (chain k key)) (bits key) latest_lt

  head_number : latest_of w4 (chain k key) ≡ e
  unfolding latest_of head
  head_number = ap (λ (z : ℕ). z % half) headed ∙ below e _ soon

  head_filter : filter_of w4 (chain k key) ≡ with_bit (latest_of w (chain k key)) o (filter_of w (chain k key)) (bit_of key)
  unfolding filter_of head
  head_filter = ap (λ (z : ℕ). z / half) headed ∙ above e _ soon

  wrote4 : Wrote w w4 k o e g n key v rows from
  unfolding w4 w2 es row_at row_place
  wrote4 =
      record {
        same_long = length-set w3 _ _ ∙ long3;
        mine = λ u h. far34 _ (place_ge e u) ∙ far2 _ (place_lt e u h) ∙ mine1 u h;
        others = λ s u h d. far34 _ (place_ge s u) ∙ far2 _ (place_lt s u h) ∙ far1 _ (λ u' h' q. place_apart s u u' h h' d q);
        rows_mine = λ i h. far34 _ (omega arith) ∙ put_same (rows_from * k) (row_words * k) (row_words * g) rows from (row_words * n) w1 0 i (omega arith) (omega arith) (omega arith)
            (let y : length w1 ≡ length w = long1 in omega arith);
        rows_others = λ x d. far34 _ (omega arith) ∙ put_other (rows_from * k) (row_words * k) (row_words * g) rows from (row_words * n) w1 0 _ (λ t a b q. d t (omega arith) (omega arith)) ∙ far1 _
            (λ u h q. let y : entry_place k e + u < rows_from * k = place_lt e u h in omega arith);
        link_mine = link_number;
        marks_mine = link_bits;
        link_others = λ s d. far4 _ (λ q. let y : chain k key < k = h_lt in let z : k ≤ link_place k s = link_ge s in omega arith) ∙ far3 _ (link_apart s d) ∙ far12 _ (link_lt s);
        head_mine = head_number;
        filter_mine = head_filter;
        head_others = λ h l d. far4 h d ∙ far3 h (λ q. let z : k ≤ link_place k e = link_ge e in omega arith) ∙ far12 h (omega arith);
      }

  pub wrote : Wrote w (written w k o e g key v n rows from) k o e g n key v rows from
  unfolding written w4
  wrote = wrote4
