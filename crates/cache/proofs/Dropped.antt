-- What eviction does to the list that the words stand for. Assumes nothing.
use Rattle.std.proofs.Common.{◌≡◌, ℕ, zero, suc, ◌+◌, ◌-◌, ◌*◌, ◌<◌, ◌≤◌, ltb, List, sym, refl, ⊎_elim, arith, ltb-false, le-ltb, lt-ltb}
use Rattle.float64.specs.Pick.{yes, no, cases}
use Rattle.cache.specs.declared.CacheOrder.{CacheOrder}
use Rattle.cache.specs.Cache.{count_of, raised, order, evict}
use Rattle.cache.specs.Kept.{cached_rows, drop_to, entry_of, kept_from, Latest, Laid, Good}
use Rattle.cache.proofs.Walked.{split, laid_count}

module _ (w : List ℕ) (k g : ℕ) where
  pub laid_rows : (c s f : ℕ) → Laid c w k s f g → f + cached_rows (kept_from c w k s) ≡ g
  unfolding Laid cached_rows kept_from entry_of
  laid_rows zero s f L = omega arith
  laid_rows (suc c) s f L = let h : f + count_of w k s + cached_rows (kept_from c w k (s + 1)) ≡ g = laid_rows c (s + 1) (f + count_of w k s) L.2 in omega arith

  raised_is : (b n : ℕ) → b + n ≤ g → raised b g n ≡ b + n
  unfolding raised
  raised_is b n h = ⊎_elim (λ (e : n < g - b). sym (yes _ (lt-ltb _ _ e) refl)) (λ (e : g - b ≤ n). sym (no _ (le-ltb _ _ e) (omega arith))) (split n (g - b))

  module _ (room e : ℕ) where
    pub record Left (m o b : ℕ) : Type 0 where
      pub count : ℕ
      pub oldest : ℕ
      pub bottom : ℕ
      pub is : evict m w k room e g o b ≡ order oldest e bottom g
      pub later : o ≤ oldest
      pub ends : oldest + count ≡ o + m
      pub laid : Laid count w k oldest bottom g
      pub fits : g ≤ bottom + room
      pub list : kept_from count w k oldest ≡ drop_to room (kept_from m w k o)

    stay : (m o b : ℕ) → Laid (suc m) w k o b g → g - b ≤ room → Left (suc m) o b
    unfolding evict drop_to kept_from
    stay m o b L h =
        let r : b + cached_rows (kept_from (suc m) w k o) ≡ g = laid_rows (suc m) o b L in
        record {
          count = suc m;
          oldest = o;
          bottom = b;
          is = sym (no _ (le-ltb _ _ h) refl);
          later = omega arith;
          ends = refl;
          laid = L;
          fits = omega arith;
          list = no _
              (le-ltb _ _ (let z : cached_rows (kept_from (suc m) w k o) ≤ room = omega arith in z)) refl;
        }

    more : (m o b : ℕ) → Laid (suc m) w k o b g → room < g - b → Left m (o + 1) (raised b g (count_of w k o)) → Left (suc m) o b
    unfolding evict drop_to kept_from
    more m o b L h I =
        let r : b + cached_rows (kept_from (suc m) w k o) ≡ g = laid_rows (suc m) o b L in
        record {
          count = I.count;
          oldest = I.oldest;
          bottom = I.bottom;
          is = sym (yes _ (lt-ltb _ _ h) (sym I.is));
          later = (let z : o + 1 ≤ I.oldest = I.later in omega arith);
          ends =
              (let z : I.oldest + I.count ≡ o + 1 + m = I.ends in omega arith);
          laid = I.laid;
          fits = I.fits;
          list = yes _
              (lt-ltb _ _ (let z : room < cached_rows (kept_from (suc m) w k o) = omega arith in z)) I.list;
        }

    rest : (m o b : ℕ) → Laid (suc m) w k o b g → Laid m w k (o + 1) (raised b g (count_of w k o)) g
    unfolding Laid
    rest m o b L = let h : b + count_of w k o + m ≤ g = laid_count w k g m (o + 1) (b + count_of w k o) L.2 in rw (raised_is b (count_of w k o) (omega arith)) L.2

    pub evict_ok : (m o b : ℕ) → Laid m w k o b g → Left m o b
    unfolding evict drop_to kept_from
    evict_ok zero o b L = record { count = zero; oldest = o; bottom = g; is = refl; later = omega arith; ends = refl; laid = unfold Laid in refl; fits = omega arith; list = refl }
    evict_ok (suc m) o b L = ⊎_elim (λ (h : room < g - b). more m o b L h (evict_ok m (o + 1) (raised b g (count_of w k o)) (rest m o b L))) (λ (h : g - b ≤ room). stay m o b L h) (split room (g - b))

-- whatever the words, at most `room` rows are left
pub evict_few : (w : List ℕ) (k room e g m o b : ℕ) → g - (evict m w k room e g o b).first_row ≤ room
unfolding evict
evict_few w k room e g zero o b = omega arith
evict_few w k room e g (suc m) o b =
    cases (λ (r : CacheOrder). g - r.first_row ≤ room) (ltb room (g - b)) (λ t. evict_few w k room e g m (o + 1) _) (λ t. ltb-false room (g - b) t)

-- fewer entries are still good
later_latest : (w : List ℕ) (k o o' h q e : ℕ) → o ≤ o' → Latest w k o h q e → Latest w k o' h q e
later_latest w k o o' h q e a L = record { below = L.below; all = λ s x y z. L.all s (omega arith) y z; own = λ x. L.own (omega arith) }

pub dropped_good : (w : List ℕ) (k c o b g room e : ℕ) → room ≤ k → Good w k c o b g → (L : Left w k g room e c o b) → Good w k L.count L.oldest L.bottom g
dropped_good w k c o b g room e h G L =
    let z : L.oldest + L.count ≡ o + c = L.ends in
    let y : o ≤ L.oldest = L.later in
    record {
      some_room = G.some_room;
      most = G.most;
      long = G.long;
      from_one = (let x : 1 ≤ o = G.from_one in omega arith);
      few = (let x : g ≤ 100000 * (o + c) = G.few in omega arith);
      room = (let x : g ≤ L.bottom + room = L.fits in omega arith);
      laid = L.laid;
      heads = λ h l. rw z (later_latest w k o L.oldest h _ (o + c) y (G.heads h l));
      marks = λ s a b. G.marks s (omega arith) (omega arith);
      filters = λ s a b. G.filters s (omega arith) (omega arith);
      links = λ s a b. later_latest w k o L.oldest _ _ s y (G.links s (omega arith) (omega arith));
      apart = λ s t a b d. G.apart s t (omega arith) b (omega arith);
    }
