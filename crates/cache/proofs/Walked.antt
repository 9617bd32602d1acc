-- `find` is the lookup in the list that the words stand for. Assumes nothing.
use Rattle.std.specs.Prelude.{None, Option, Some}
use Rattle.std.proofs.Common.{◌≡◌, ℕ, zero, suc, ◌+◌, ◌-◌, ◌*◌, ◌/◌, ◌%◌, ◌<◌, ◌≤◌, Bool, true, false, T, eqb, ltb, ◌⊎◌, List, sym, refl, ap, ◌∙◌, subst, inl, inr, ⊎_elim, mul-le-mul_right, mod-lt, div-lt_iff_lt-mul, mul-le-mul_left, arith, lit<, ltb-false, ltb-true, le-ltb, lt-ltb, eq-eqb, ne_eqb, eqb-true}
use native.Mathlib.Nat.{mod-mod, div-add-mod}
use Rattle.float64.specs.Pick.{pick, yes, no, cases, pick_yes, pick_same}
use Rattle.cache.specs.declared.CacheKey.{CacheKey}
use Rattle.cache.specs.declared.CacheOrder.{CacheOrder}
use Rattle.cache.specs.Cache.{half, hash, head_of, entry_place, count_of, link_of, bits_of, latest_of, filter_of, has_bit, bits, bit_of, chain, same_key, is_same, is_at, walk, is_room, find}
use Rattle.cache.specs.Kept.{Entry, lookup, key_of, entry_of, kept_from, found_entry, Latest, Laid, Good, Stands}
use Rattle.cache.proofs.Paths.{picked}

pub which : (b : Bool) → (b ≡ true) ⊎ (b ≡ false)
which true = inl refl
which false = inr refl

pub split : (a b : ℕ) → (a < b) ⊎ (b ≤ a)
split a b = ⊎_elim (λ (e : ltb a b ≡ true). inl (ltb-true a b e)) (λ (e : ltb a b ≡ false). inr (ltb-false a b e)) (which (ltb a b))

-- ---- two numbers less than c apart have two places in a ring of c
pub window : (c i j : ℕ) → i < j → j < i + c → i % c ≡ j % c → ⊥
window c i j h g e =
    let a : c * (i / c) + i % c ≡ i = div-add-mod i c in
    let b : c * (j / c) + j % c ≡ j = div-add-mod j c in
    ⊎_elim (λ (n : i / c < j / c). let m : c * (i / c + 1) ≤ c * (j / c) = mul-le-mul_left c (omega arith) in omega arith)
    (λ (p : j / c ≤ i / c). let m : c * (j / c) ≤ c * (i / c) = mul-le-mul_left c p in omega arith) (split (i / c) (j / c))

-- a chain is below k
pub chain_lt : (k : ℕ) (key : CacheKey) → 1 ≤ k → chain k key < k
unfolding chain head_of
chain_lt k key h = (div-lt_iff_lt-mul (lit< tt)).1 (go (hash key % half) k (mod-lt _ (lit< tt)) h)
  where
    go : (x k : ℕ) → x < half → 1 ≤ k → x * k < k * half
    go x k a b = let m : (x + 1) * k ≤ half * k = mul-le-mul_right k (omega arith) in omega (arith, m, b)

-- ---- keys
pub same_true : (a b : CacheKey) → same_key a b ≡ true → a ≡ b
unfolding same_key
same_true a b e =
    let h0 = picked _ _ e in
    let h1 = picked _ _ h0.1 in
    let h2 = picked _ _ h1.1 in
    let h3 = picked _ _ h2.1 in
    let h4 = picked _ _ h3.1 in
    let h5 = picked _ _ h4.1 in
    λ i. record {
      subject = eqb-true a.subject b.subject h1.0 i;
      theta0 = eqb-true a.theta0 b.theta0 h2.0 i;
      theta1 = eqb-true a.theta1 b.theta1 h4.0 i;
      eta0 = eqb-true
          a.eta0 b.eta0 h0.0 i;
      eta1 = eqb-true a.eta1 b.eta1 h3.0 i;
      has_additive = eqb-true a.has_additive b.has_additive h5.0 i;
      additive = eqb-true a.additive
          b.additive h5.1 i;
    }

pub true_same : (a b : CacheKey) → a ≡ b → same_key a b ≡ true
unfolding same_key
true_same a b e =
    sym (yes _ (eq-eqb _ _ (ap (λ (x : CacheKey). x.eta0) e)) (yes _ (eq-eqb _ _ (ap (λ (x : CacheKey). x.subject) e))
    (yes _ (eq-eqb _ _ (ap (λ (x : CacheKey). x.theta0) e)) (yes _ (eq-eqb _ _ (ap (λ (x : CacheKey). x.eta1) e))
    (yes _ (eq-eqb _ _ (ap (λ (x : CacheKey). x.theta1) e)) (yes _ (eq-eqb _ _ (ap (λ (x : CacheKey). x.has_additive) e)) (sym (eq-eqb _ _ (ap (λ (x : CacheKey). x.additive) e)))))))))

-- ---- the walk along a chain
abbrev pub Hit : List ℕ → ℕ → ℕ → CacheKey → ℕ → Option ℕ → Type 0
Hit w k o key e r = (s : ℕ) × (o ≤ s) × (s < e) × (key_of w k s ≡ key) × (r ≡ Some (s % k))

abbrev pub Miss : List ℕ → ℕ → ℕ → CacheKey → ℕ → Option ℕ → Type 0
Miss w k o key e r = (r ≡ None) × ((s : ℕ) → o ≤ s → s < e → key_of w k s ≡ key → ⊥)

abbrev Told : List ℕ → ℕ → ℕ → CacheKey → ℕ → Option ℕ → Type 0
Told w k o key e r = Hit w k o key e r ⊎ Miss w k o key e r

module _ (w : List ℕ) (k c o b g : ℕ) (G : Good w k c o b g) (key : CacheKey) where
  -- past an entry with another key
  on : (p e : ℕ) (r : Option ℕ) → Latest w k o (chain k key) p e → (key_of w k p ≡ key → ⊥) → Told w k o key p r → Told w k o key e r
  on p e r L d (inl h) = inl (h.0, h.1, (let l : p < e = L.below in let j : h.0 < p = h.2 in omega arith), h.3, h.4)
  on p e r L d (inr h) =
      inr (h.0, λ s a b t. ⊎_elim (λ (y : s < p). h.1 s a y t) (λ (y : p ≤ s). let x : s ≤ p = L.all s a b (ap (chain k) t) in let z : p ≡ s = omega arith in d (ap (key_of w k) z ∙ t)) (split s p))

  next : (p e : ℕ) → e ≤ o + c → Latest w k o (chain k key) p e → o ≤ p → Latest w k o (chain k key) (link_of w k p) p
  next p e j L x = subst (λ (h : ℕ). Latest w k o h (link_of w k p) p) (L.own x) (G.links p x (let y : p < e = L.below in omega arith))

  -- the bits beside a link hide no live entry with the key
  looks : (p : ℕ) → o ≤ p → p < o + c → is_at w k p (bits key) key ≡ same_key (key_of w k p) key
  unfolding is_at is_same key_of
  looks p x y =
      ⊎_elim (λ (t : same_key (key_of w k p) key ≡ true). pick_yes _ _ _ (eq-eqb _ _ (G.marks p x y ∙ ap bits (same_true _ _ t))))
      (λ (t : same_key (key_of w k p) key ≡ false). pick_same' (eqb (bits_of w k p) (bits key)) t)
      (which (same_key (key_of w k p) key))
    where
      pick_same' : (b : Bool) → same_key (key_of w k p) key ≡ false → pick b (same_key (key_of w k p) key) false ≡ same_key (key_of w k p) key
      pick_same' b e = pick_same b _ _ (sym e)

  step : (m p e : ℕ) → e ≤ o + c → Latest w k o (chain k key) p e → (o ≤ p → Told w k o key p (walk m w k o (bits key) key (link_of w k p))) → Told w k o key e (walk (suc m) w k o (bits key) key p)
  unfolding walk
  step m p e j L ih = at (split p o)
    where
      at : (p < o) ⊎ (o ≤ p) → Told w k o key e (walk (suc m) w k o (bits key) key p)
      at (inl x) = inr (sym (yes _ (lt-ltb p o x) refl), λ s a b t. let y : s ≤ p = L.all s a b (ap (chain k) t) in omega arith)
      at (inr x) =
          let s : is_at w k p (bits key) key ≡ same_key (key_of w k p) key = looks p x (let y : p < e = L.below in omega arith) in
          ⊎_elim (λ (t : same_key (key_of w k p) key ≡ true). inl (p, x, L.below, same_true _ _ t, sym (no _ (le-ltb p o x) (yes _ (s ∙ t) refl))))
          (λ (t : same_key (key_of w k p) key ≡ false). subst (λ (r : Option ℕ). Told w k o key e r) (no _ (le-ltb p o x) (no _ (s ∙ t) refl))
          (on p e _ L (λ q. subst T (sym (true_same _ _ q) ∙ t) tt) (ih x)))
          (which (same_key (key_of w k p) key))

  pub walk_ok : (m p e : ℕ) → e ≤ o + m → e ≤ o + c → Latest w k o (chain k key) p e → Told w k o key e (walk m w k o (bits key) key p)
  unfolding walk
  walk_ok zero p e h j L = inr (refl, λ s a b t. omega arith)
  walk_ok (suc m) p e h j L = step m p e j L (λ x. walk_ok m (link_of w k p) p (let y : p < e = L.below in omega arith) (let y : p < e = L.below in omega arith) (next p e j L x))

  -- what the walk from the chain's head finds
  walked : Told w k o key (o + c) (walk c w k o (bits key) key (latest_of w (chain k key)))
  walked = walk_ok c _ (o + c) (omega arith) (omega arith) (G.heads (chain k key) (chain_lt k key G.some_room))

  -- and what the filter says first
  pub filtered : Told w k o key (o + c) (pick (has_bit (filter_of w (chain k key)) (bit_of key)) (walk c w k o (bits key) key (latest_of w (chain k key))) None)
  filtered =
      cases (Told w k o key (o + c)) (has_bit (filter_of w (chain k key)) (bit_of key)) {x = walk c w k o (bits key) key (latest_of w (chain k key))} {y = None} (λ _. walked)
      (λ e. inr (refl, λ s a b t. subst T (sym (subst (λ (z : CacheKey). has_bit (filter_of w (chain k z)) (bit_of z) ≡ true) t (G.filters s a b)) ∙ e) tt))

-- ---- the lookup in the list
module _ (w : List ℕ) (k : ℕ) (key : CacheKey) where
  -- a slot's entry is that of the number that has the slot
  slot : (s : ℕ) → entry_of w k (s % k) ≡ entry_of w k s
  unfolding entry_of key_of entry_place
  slot s = rw (mod-mod s k)

  differs : (s : ℕ) → (key_of w k s ≡ key → ⊥) → same_key (entry_of w k s).key key ≡ false
  unfolding entry_of
  differs s f = ⊎_elim (λ (e : same_key (key_of w k s) key ≡ true). absurd (f (same_true _ _ e))) (λ (e : same_key (key_of w k s) key ≡ false). e) (which _)

  pub agrees : (s : ℕ) → key_of w k s ≡ key → same_key (entry_of w k s).key key ≡ true
  unfolding entry_of
  agrees s e = true_same _ _ e

  pub lookup_none : (c o : ℕ) → ((s : ℕ) → o ≤ s → s < o + c → key_of w k s ≡ key → ⊥) → lookup key (kept_from c w k o) ≡ None
  unfolding lookup kept_from
  lookup_none zero o f = refl
  lookup_none (suc c) o f = sym (no _ (differs o (f o (omega arith) (omega arith))) (sym (lookup_none c (o + 1) (λ s a b t. f s (omega arith) (omega arith) t))))

  pub lookup_some : (c o s : ℕ) → o ≤ s → s < o + c → key_of w k s ≡ key → ((t : ℕ) → o ≤ t → t < s → key_of w k t ≡ key → ⊥) → lookup key (kept_from c w k o) ≡ Some (entry_of w k s)
  unfolding lookup kept_from
  lookup_some zero o s a b q f = absurd (let z : ⊥ = omega arith in z)
  lookup_some (suc c) o s a b q f =
      ⊎_elim (λ (h : o < s). sym (no _ (differs o (f o (omega arith) h)) (sym (lookup_some c (o + 1) s (omega arith) (omega arith) q (λ t x y z. f t (omega arith) y z)))))
      (λ (h : s ≤ o). let z : s ≡ o = omega arith in sym (yes _ (agrees o (ap (key_of w k) (sym z) ∙ q)) (ap {B = Option Entry} (λ (x : ℕ). Some (entry_of w k x)) z)))
      (split o s)

pub room_is : (k : ℕ) → 1 ≤ k → k ≤ 100000 → is_room k ≡ true
unfolding is_room
room_is k a b = sym (no _ (ne_eqb k 0 (λ e. omega arith)) (sym (lt-ltb k 100001 (omega arith))))

pub laid_count : (w : List ℕ) (k g c s f : ℕ) → Laid c w k s f g → f + c ≤ g
unfolding Laid
laid_count w k g zero s f L = omega arith
laid_count w k g (suc c) s f L = let h : f + count_of w k s + c ≤ g = laid_count w k g c (s + 1) (f + count_of w k s) L.2 in let j : 1 ≤ count_of w k s = L.1 in omega arith

-- there are no more than k entries
pub few_entries : (w : List ℕ) (k c o b g : ℕ) → Good w k c o b g → c ≤ k
few_entries w k c o b g G = let h : b + c ≤ g = laid_count w k g c o b G.laid in let j : g ≤ b + k = G.room in omega arith

module _ (w : List ℕ) (k : ℕ) (r : CacheOrder) (l : List Entry) (S : Stands w k r l) (key : CacheKey) where
  -- what find answers, in numbers
  pub find_told : Told w k r.oldest key r.next (find w k r key)
  unfolding find
  find_told =
      let e : r.next - r.oldest ≡ S.count = let z : r.oldest + S.count ≡ r.next = S.ends in omega arith in
      let f : S.count ≤ k = few_entries w k S.count r.oldest r.first_row r.next_row S.good in
      subst (λ (n : ℕ). Told w k r.oldest key n (find w k r key)) S.ends
      (subst (λ (x : Option ℕ). Told w k r.oldest key (r.oldest + S.count) x)
      (yes _ (room_is k S.good.some_room S.good.most)
      (no _ (le-ltb k (r.next - r.oldest) (omega arith))
      (ap (λ (m : ℕ). pick (has_bit (filter_of w (chain k key)) (bit_of key)) (walk m w k r.oldest (bits key) key (latest_of w (chain k key))) None) (sym e))))
      (filtered w k S.count r.oldest r.first_row r.next_row S.good key))

  list_is : (x : Option Entry) → x ≡ lookup key (kept_from S.count w k r.oldest) → x ≡ lookup key l
  list_is x e = e ∙ ap (lookup key) S.list

  is_lookup : Told w k r.oldest key r.next (find w k r key) → found_entry w k (find w k r key) ≡ lookup key l
  unfolding found_entry
  is_lookup (inl h) =
      ap (found_entry w k) h.4 ∙ ap {B = Option Entry} (λ (x : Entry). Some x) (slot w k key h.0)
      ∙ list_is _ (sym (lookup_some w k key S.count r.oldest h.0 h.1 (rw S.ends h.2) h.3 (λ t a b z. S.good.apart t h.0 a b (rw S.ends h.2) (z ∙ sym h.3))))
  is_lookup (inr h) =
      ap (found_entry w k) h.0 ∙ list_is _ (sym (lookup_none w k key S.count r.oldest (λ s a b z. h.1 s a (let q : r.oldest + S.count ≡ r.next = S.ends in omega arith) z)))

  -- find is the lookup
  pub find_is_lookup : found_entry w k (find w k r key) ≡ lookup key l
  find_is_lookup = is_lookup find_told
