-- What an objective needs of its kept evaluations, and that those in lent words have it: each was made at a point that passed 7, and its sums are finite. Assumes nothing.
use Rattle.std.specs.Prelude.{None, Option, Some}
use mathlib.Core.Path.{◌≡◌, refl, sym, ap, subst, ◌∙◌}
use mathlib.Core.Bool.{false}
use mathlib.Core.List.{List, [], ◌∷◌, ◌++◌}
use mathlib.Core.Logic.{⊎_elim}
use Prim.Native.Nat.{ℕ, zero, suc, ◌+◌, ◌-◌, ◌*◌, ◌≤◌, ◌<◌}
use native.Mathlib.Omega.{arith}
use lib.Dec.{ltb}
use lib.ListN.{get_or, length}
use Rattle.float64.specs.Arithmetic.{word}
use Rattle.float64.specs.Pick.{cases}
use Rattle.subject.specs.Subject.{has_nonfinite_sum}
use Rattle.cache.specs.Cache.{half, row_words, order, Cache, find, same_key}
use Rattle.cache.specs.Claim.{Room}
use Rattle.cache.specs.Kept.{Entry, lookup, drop_to, cached_rows, Evaluated, Lent, entry_for, found_entry, entry_of, Stands}
use Rattle.cache.specs.declared.CacheKey.{CacheKey}
use Rattle.cache.specs.declared.CachedTerms.{CachedTerms}
use Rattle.cache.proofs.Run.{refinement}
use Rattle.cache.proofs.Walked.{same_true}
use Rattle.search.specs.Subjects.{sums_of}
use Rattle.machine.specs.Log.{Every, none as no-entry, more}
use Rattle.words.specs.Words.{zeros}
use Rattle.population.specs.Kept.{Recalled, Store, recall_at, order_rows, words}
use Rattle.session_theorems.proofs.Plain.{split}
use Rattle.session_theorems.proofs.Lengths.{AsLong, zeros_length, recalled_length}
use Rattle.session_theorems.proofs.Points.{WithinEdge}

-- a kept evaluation that a search may go on with
pub record Fine (key : CacheKey) (terms : CachedTerms) : Type 0 where
  pub first : WithinEdge (word key.eta0)
  pub second : WithinEdge (word key.eta1)
  pub finite : has_nonfinite_sum (sums_of terms) ≡ false

-- what a store promises where K is k: at most n evaluations were kept
pub record Trusted (S : Store) (k : ℕ) : Type 1 where
  pub Holds : ℕ → S.Kept → Type 0
  pub opens : (n : ℕ) → 24 * k ≤ n → Holds 0 (S.cleared n)
  pub wider : (n : ℕ) (c : S.Kept) → Holds n c → Holds (suc n) c
  pub recalls : (n : ℕ) (c : S.Kept) → Holds n c → (key : CacheKey) (rows : ℕ) (work : List ℕ) (to : ℕ) (r : Recalled) → S.recall c k key rows work to ≡ Some r → Fine key r.terms × AsLong work
      r.work
  pub keeps : (n : ℕ) (c : S.Kept) → Holds n c → n < 4294967295 → (key : CacheKey) (terms : CachedTerms) (rows : ℕ) (work : List ℕ) (from : ℕ) (seen : List ℕ) (to : ℕ)
      → S.recall c k key rows seen to ≡ None → Fine key terms → 1 ≤ rows → from + row_words * rows ≤ length work → Holds (suc n) (S.keep c k key terms rows work from)

-- ---- the list
abbrev FineEntry : Entry → Type 0
FineEntry x = Fine x.key x.terms

pub every_append : {A : Type 0} (P : A → Type 0) (l : List A) (x : A) → Every P l → P x → Every P (l ++ (x ∷ []))
every_append P [] x no-entry p = more p no-entry
every_append P (y ∷ l) x (more q h) p = more q (every_append P l x h p)

pub every_drop : (P : Entry → Type 0) (room : ℕ) (l : List Entry) → Every P l → Every P (drop_to room l)
unfolding drop_to
every_drop P room [] h = h
every_drop P room (x ∷ l) (more p h) = cases (Every P) (ltb room (cached_rows (x ∷ l))) (λ t. every_drop P room l h) (λ t. more p h)

found_fine : (key : CacheKey) (l : List Entry) (x : Entry) → Every FineEntry l → lookup key l ≡ Some x → Fine key x.terms
unfolding lookup
found_fine key [] x h e = absurd (let z : ◌≡◌ {A = ℕ} 0 1 = cc in omega arith)
found_fine key (y ∷ l) x (more p h) q =
    cases (λ (o : Option Entry). o ≡ Some x → Fine key x.terms) (same_key y.key key)
    (λ t e. let d : y ≡ x = cc in subst (λ (z : Entry). Fine key z.terms) d (subst (λ (q : CacheKey). Fine q y.terms) (same_true _ _ t) p))
    (λ t e. found_fine key l x h e) q

-- ---- the words
module _ (k : ℕ) (some_room : 1 ≤ k) (most : k ≤ 100000) where
  abbrev room : Room k
  room = record { some = some_room; most = most }

  pub record Stood (n : ℕ) (c : Cache) : Type 0 where
    pub list : List Entry
    pub stands : Stands c.words k c.order list
    pub few : c.order.next ≤ n + 1
    pub fine : Every FineEntry list

  zeros_are : (n i : ℕ) → get_or (zeros n) i 0 ≡ 0
  unfolding zeros
  zeros_are zero i = refl
  zeros_are (suc n) zero = refl
  zeros_are (suc n) (suc i) = zeros_are n i

  recalled : (c : Cache) (l : List Entry) → Stands c.words k c.order l → Every FineEntry l → (key : CacheKey) (rows : ℕ) (work : List ℕ) (to : ℕ) (r : Recalled)
      → (f : Option ℕ) → find c.words k c.order key ≡ f → recall_at c.words k rows work to f ≡ Some r → Fine key r.terms × AsLong work r.work
  unfolding recall_at found_entry
  recalled c l st h key rows work to r (Some slot) e q =
      let x = entry_of c.words k slot in
      let g : lookup key l ≡ Some x = sym (refinement.finds c.words k c.order l st key) ∙ ap (found_entry c.words k) e in
      let d : r.terms ≡ x.terms = cc (refinement.reads_terms c.words k slot room) in
      (subst (Fine key) (sym d) (found_fine key l x h g), recalled_length c.words k rows work to (Some slot) r q)
  recalled c l st h key rows work to r None e q = absurd (let z : ◌≡◌ {A = ℕ} 0 1 = cc in omega arith)

  pub not_found : (c : Cache) (l : List Entry) → Stands c.words k c.order l → (key : CacheKey) (rows : ℕ) (work : List ℕ) (to : ℕ)
      → (f : Option ℕ) → find c.words k c.order key ≡ f → recall_at c.words k rows work to f ≡ None → lookup key l ≡ None
  unfolding recall_at found_entry
  not_found c l st key rows work to (Some slot) e q = absurd (let z : ◌≡◌ {A = ℕ} 0 1 = cc in omega arith)
  not_found c l st key rows work to None e q = sym (refinement.finds c.words k c.order l st key) ∙ ap (found_entry c.words k) e

  kept : (n : ℕ) (c : Cache) → Stood n c → n < 4294967295 → (key : CacheKey) (terms : CachedTerms) (rows : ℕ) (work : List ℕ) (from : ℕ) (seen : List ℕ) (to : ℕ)
      → words.recall c k key rows seen to ≡ None → Fine key terms → 1 ≤ rows → from + row_words * rows ≤ length work → Stood (suc n) (words.keep c k key terms rows work from)
  kept n c s m key terms rows work from seen to e fine one lent =
      let x : Evaluated = record { key = key; terms = terms; n = rows; rows = work; from = from } in
      let lone : Lent x = record { some_row = one; all_rows = lent } in
      ⊎_elim
      (λ (big : k < rows). let p = refinement.passes c.words k c.order x big in
      subst (Stood (suc n)) (sym p) (record { list = s.list; stands = s.stands; few = omega (arith, s.few); fine = s.fine }))
      (λ (small : rows ≤ k).
      let miss = not_found c s.list s.stands key rows seen to _ refl e in
      let low : c.order.next < half = omega (arith, s.few, m) in
      record {
        list = drop_to (k - rows) s.list ++ (entry_for x ∷ []);
        stands = refinement.keeps c.words k c.order s.list s.stands x lone small low miss;
        few = omega (arith, s.few, refinement.counts c.words k c.order s.list s.stands x lone small low miss);
        fine = every_append FineEntry (drop_to (k - rows) s.list) (entry_for x) (every_drop FineEntry (k - rows) s.list s.fine) fine;
      })
      (split k rows)

  -- words that were cleared keep nothing
  pub cleared_words : (n : ℕ) → 24 * k ≤ n → Stands (zeros n) k (order 1 1 0 0) []
  cleared_words n l = refinement.cleared (zeros n) k room (subst (λ (m : ℕ). 24 * k ≤ m) (sym (zeros_length n)) l) (λ i h. zeros_are n i)

  pub words_trusted : Trusted words k
  words_trusted = record {
    Holds = Stood;
    opens = λ n l. record { list = []; stands = cleared_words n l; few = omega arith; fine = no-entry };
    wider = λ n c s. record { list = s.list; stands = s.stands; few = omega (arith, s.few); fine = s.fine };
    recalls = λ n c s key rows work to r e. recalled c s.list s.stands s.fine key rows work to r _ refl e;
    keeps = kept;
  }

  pub kept_few : (n : ℕ) (c : Cache) → words_trusted.Holds n c → c.order.next ≤ n + 1
  unfolding words_trusted
  kept_few n c s = s.few

  -- at most k rows, in words that are enough
  pub kept_rows_lem : (n : ℕ) (c : Cache) → words_trusted.Holds n c → words.rows c ≤ k
  unfolding words_trusted order_rows
  kept_rows_lem n c s = omega (arith, refinement.rows c.words k c.order s.list s.stands, refinement.at_most c.words k c.order s.list s.stands)

  pub kept_lent : (n : ℕ) (c : Cache) → words_trusted.Holds n c → 24 * k ≤ length c.words
  unfolding words_trusted
  kept_lent n c s = s.stands.good.long
