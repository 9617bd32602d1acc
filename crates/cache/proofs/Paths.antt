-- The ways through the code: one law for each, over plain variables. Assumes nothing.
use Rattle.std.specs.Prelude.{None, Option, Some}
use Rattle.std.proofs.Common.{◌≡◌, ℕ, zero, suc, ◌+◌, ◌-◌, ◌/◌, ◌%◌, ◌<◌, ◌≤◌, Bool, true, false, T, eqb, ltb, List, get_or, sym, refl, ap, ◌∙◌, subst, arith, ltb-true, le-ltb, lt-ltb, eq-eqb, ne_eqb}
use borrow.Author.Tests.{eqb-false}
use Rattle.float64.specs.Pick.{pick, yes, no, yes_of, no_of, pass, cases}
use Rattle.cache.specs.declared.CacheKey.{CacheKey}
use Rattle.cache.specs.declared.CacheOrder.{CacheOrder}
use Rattle.cache.specs.Cache.{half, hash, head_of, chain, bits, bit_of, has_bit, latest_of, filter_of, entry_place, link_place, link_of, bits_of, is_room, is_same, is_at, walk, find}

-- ---- tests
pub picked : (b x : Bool) → pick b x false ≡ true → (b ≡ true) × (x ≡ true)
picked b x =
    cases (λ (y : Bool). y ≡ true → (b ≡ true) × (x ≡ true)) b (λ p e. (p, e)) (λ p e. absurd (subst T (sym e) tt))

pub passed : (b x : Bool) → pick b false x ≡ true → (b ≡ false) × (x ≡ true)
passed b x =
    cases (λ (y : Bool). y ≡ true → (b ≡ false) × (x ≡ true)) b (λ p e. absurd (subst T (sym e) tt)) (λ p e. (p, e))

-- a word r that was read, beside a key's word y
pub differ : {r z y : ℕ} → r ≡ z → (r ≡ y → ⊥) → eqb z y ≡ false
differ e d = ne_eqb _ _ (λ q. d (e ∙ q))

pub agree : {r z y : ℕ} → r ≡ z → r ≡ y → eqb z y ≡ true
agree e q = eq-eqb _ _ (sym e ∙ q)

pub alike : {r z : ℕ} (y : ℕ) → r ≡ z → eqb r y ≡ eqb z y
alike y e = ap (λ (x : ℕ). eqb x y) e

more : {v t : Bool} (b : Bool) → v ≡ t → pick v b false ≡ pick t b false
more b e = ap (λ (x : Bool). pick x b false) e

-- tests in turn: each of v1 to v5 and r is the one before it and one test more
in_turn : (a b x : Bool) → pick (pick a b false) x false ≡ pick a (pick b x false) false
unfolding pick
in_turn true b x = refl
in_turn false b x = refl

module _ {v1 v2 v3 v4 v5 r : Bool} (a1 a2 a3 a4 a5 a6 a7 : Bool) where
  pub seven : v1 ≡ pick a1 a2 false → v2 ≡ pick v1 a3 false → v3 ≡ pick v2 a4 false → v4 ≡ pick v3 a5 false → v5 ≡ pick v4 a6 false → r ≡ pick v5 a7 false
      → r ≡ pick a1 (pick a2 (pick a3 (pick a4 (pick a5 (pick a6 a7 false) false) false) false) false) false
  seven e1 e2 e3 e4 e5 e6 =
      e6 ∙ more a7 (e5 ∙ more a6 (e4 ∙ more a5 (e3 ∙ more a4 (e2 ∙ more a3 e1)))) ∙ simp in_turn

-- ---- room; r is what `is_room` answered
pub room_says : {r : Bool} (k : ℕ) → r ≡ is_room k → r ≡ true → (0 < k) × (k ≤ 100000)
unfolding is_room
room_says k q t =
    let e = passed _ _ (sym q ∙ t) in
    let d = eqb-false k 0 e.0 in
    let l = ltb-true k 100001 e.1 in
    (omega arith, omega arith)

-- ---- an entry, where r was read of its link
module _ (w : List ℕ) (k entry b : ℕ) (key : CacheKey) {r : ℕ} (e : r ≡ get_or w (k + entry % k) 0) where
  pub looked_at : {a : ℕ} {s : Bool} → r / half ≡ b → a ≡ entry_place k entry → s ≡ is_same w a key → s ≡ is_at w k entry b key
  unfolding is_at bits_of link_place
  looked_at t p q = yes _ (agree (ap (λ (x : ℕ). x / half) e) t) (q ∙ ap (λ (x : ℕ). is_same w x key) p)

  pub not_looked_at : (r / half ≡ b → ⊥) → false ≡ is_at w k entry b key
  unfolding is_at bits_of link_place
  not_looked_at t = no _ (differ (ap (λ (x : ℕ). x / half) e) t) refl

-- ---- a turn along a chain, with at most n entries left; s is what `is_at` answered
module _ (w : List ℕ) (k oldest b : ℕ) (key : CacheKey) (entry : ℕ) where
  pub walk_dead : (n : ℕ) → entry < oldest → None ≡ walk n w k oldest b key entry
  unfolding walk
  walk_dead zero h = refl
  walk_dead (suc n) h = yes _ (lt-ltb entry oldest h) refl

  pub walk_spent : (n : ℕ) → n ≡ 0 → None ≡ walk n w k oldest b key entry
  unfolding walk
  walk_spent n e = rw e

  module _ {s : Bool} (n m : ℕ) (z : n ≡ suc m) (h : oldest ≤ entry) (e : s ≡ is_at w k entry b key) where
    pub walk_hit : s ≡ true → Some (entry % k) ≡ walk n w k oldest b key entry
    unfolding walk
    walk_hit t = rw z (no _ (le-ltb entry oldest h) (yes_of _ e t refl))

    pub walk_on : {r q : ℕ} → s ≡ false → r ≡ get_or w (k + entry % k) 0 → q ≡ r % half → walk m w k oldest b key q ≡ walk n w k oldest b key entry
    unfolding walk link_of link_place
    walk_on t l j = rw z (no _ (le-ltb entry oldest h) (no_of _ e t (ap (walk m w k oldest b key) (j ∙ ap (λ (x : ℕ). x % half) l))))

-- ---- finding; r is what `is_room` answered, n the number of entries claimed
module _ (w : List ℕ) (k : ℕ) (o : CacheOrder) (key : CacheKey) {r : Bool} (e : r ≡ is_room k) where
  pub find_no_room : r ≡ false → None ≡ find w k o key
  unfolding find
  find_no_room t = no_of _ e t refl

  module _ (t : r ≡ true) {n : ℕ} (c : n ≡ o.next - o.oldest) where
    pub find_none : n ≡ 0 → None ≡ find w k o key
    unfolding find
    find_none z = yes_of _ e t (pass _ (cases (λ (f : Option ℕ). None ≡ f) (has_bit (filter_of w (chain k key)) (bit_of key)) {y = None} (λ _. walk_spent w k _ _ key _ _ (sym c ∙ z)) (λ _. refl)))

    pub find_too_many : k < n → None ≡ find w k o key
    unfolding find
    find_too_many l = yes_of _ e t (yes _ (lt-ltb _ _ (subst (λ (x : ℕ). k < x) c l)) refl)

    -- h is the hash, x the head that was read, b what its filter said
    module _ {h a x : ℕ} {b : Bool} (l : n ≤ k) (eh : h ≡ hash key) (ea : a ≡ head_of h k) (ex : x ≡ get_or w a 0) (eb : b ≡ has_bit (x / half) (h / half % 32)) where
      at_head : x ≡ get_or w (head_of (hash key) k) 0
      at_head = ex ∙ ap (λ (y : ℕ). get_or w y 0) (ea ∙ ap (λ (y : ℕ). head_of y k) eh)

      asked : b ≡ has_bit (filter_of w (chain k key)) (bit_of key)
      unfolding filter_of chain bits
      asked = eb ∙ (λ i. has_bit (at_head i / half) (eh i / half % 32))

      few : ltb k (o.next - o.oldest) ≡ false
      few = le-ltb _ _ (subst (λ (y : ℕ). y ≤ k) c l)

      pub find_filtered : b ≡ false → None ≡ find w k o key
      unfolding find
      find_filtered z = yes_of _ e t (no _ few (no_of _ asked z refl))

      pub find_walks : {start : ℕ} {f : Option ℕ} → b ≡ true → start ≡ x % half → f ≡ walk n w k o.oldest (h / half) key start → f ≡ find w k o key
      unfolding find bits chain latest_of
      find_walks z es q = yes_of _ e t (no _ few (yes_of _ asked z (q ∙ (λ i. walk (c i) w k o.oldest (eh i / half) key ((es ∙ ap (λ (y : ℕ). y % half) at_head) i)))))
