-- The ways through the code: one law for each, over plain variables. Assumes nothing.
use Rattle.std.specs.Prelude.{Err, Ok, Result}
use mathlib.Core.Path.{◌≡◌, refl, sym, ap, ◌∙◌}
use mathlib.Core.List.{List}
use Prim.Native.Nat.{ℕ, zero, suc, ◌≤◌}
use native.Mathlib.Omega.{arith}
use lib.Ieee.{Float}
use lib.ListN.{length, take, replicate}
use Rattle.matrix.specs.declared.Pair.{Pair}
use Rattle.setup.specs.declared.Setup.{Setup}
use Rattle.search.specs.declared.Step.{Step}
use Rattle.search.specs.declared.Step.TheVariants.{Asked, Finished, Refused}
use Rattle.machine.specs.Machine.{Ran}
use Rattle.population.specs.Kept.{words}
use Rattle.population.specs.Population.{rows_of}
use Rattle.session.specs.Session.{Held, reply as rows, no_tally}
use Rattle.session.specs.Calls.{called, held_of, Setting, begun_with}
use Rattle.session.specs.declared.State.{State}
use Rattle.session.specs.declared.Called.{Called}
use Rattle.session.specs.declared.Begun.{Begun}
use Rattle.program_calls.specs.Recorded.{call_of, open_of}
use Rattle.focei_records.specs.Records.{counts as countsIn, observations as observationsIn, reply}
use Rattle.focei_records.proofs.Bounds.{counts_length, observations_length, reply_length}
use Rattle.focei_text.specs.Report.{refusal_line}
use Rattle.words.specs.Written.{written, write}
use Rattle.words.specs.Page.{with_items}
use Rattle.words.specs.declared.Page.{Page}
use Rattle.words.proofs.Front.{front}
use Rattle.focei_fit.specs.Output.{most_evaluations, settings, begun, replied, when_asked, play, ended, end_of, when_opened, fitted, lent}
use Rattle.search.specs.declared.Refusal.{Refusal}

-- ---- the calls; `taken` are the words of the reply
module _ (counts observations : List ℕ) (h : Held words) where
  pub answers : {setup : Setup} {n : ℕ} {taken : List ℕ} {r : Ran (Held words) Step} (input : List ℕ) (individual : Pair) → setup ≡ settings → n ≡ rows_of counts h.whole.progress.subject
      → taken ≡ reply input h.whole.progress.first n individual.first → r ≡ call_of setup counts observations (rows taken) h → r ≡ replied input counts observations h individual
  unfolding replied
  answers input individual e f g q =
      q
      ∙ (λ i. call_of (e i) counts observations (rows (g i)) h)
      ∙ ap (λ (n : ℕ). call_of settings counts observations (rows (reply input h.whole.progress.first n individual.first)) h) f

-- the words of a reply are all of it
pub whole_reply : {r : ℕ} {w' : List ℕ} (input w : List ℕ) (first n : ℕ) (individual : Float) → length input ≤ 12288 → 1024 ≤ length w → written r w' ≡ write (reply input first n individual)
    (written 0 w) → take r w' ≡ reply input first n individual
whole_reply input w first n individual h j e = let most = reply_length input first n individual in front (reply input first n individual) w (omega arith) e

-- ---- question and answer
module _ (input counts observations : List ℕ) (r : Ran (Held words) Step) where
  pub play_none : (left : ℕ) → left ≤ 0 → r ≡ play input counts observations left r
  unfolding play
  play_none left h = let none : 0 ≡ left = omega arith in ap (λ (m : ℕ). play input counts observations m r) none

  pub play_asked : {r' : Ran (Held words) Step} {eta individual : Pair} (rest left : ℕ) → suc rest ≡ left → r.answer ≡ Asked eta individual → r' ≡ replied input counts observations r.state individual
      → play input counts observations rest r' ≡ play input counts observations left r
  unfolding play when_asked
  play_asked rest left more e q =
      ap (play input counts observations rest) q
      ∙ ap (when_asked (λ individual. play input counts observations rest (replied input counts observations r.state individual)) r) (sym e)
      ∙ ap (λ (m : ℕ). play input counts observations m r) more

  stays : (go : Pair → Ran (Held words) Step) (x : Step) → ((eta individual : Pair) → x ≡ Asked eta individual → ⊥) → r ≡ when_asked go r x
  unfolding when_asked
  stays go (Asked eta individual) f = absurd (f eta individual refl)
  stays go (Finished x) f = refl
  stays go (Refused why) f = refl

  -- without a question it is over
  pub play_over : (left : ℕ) → ((eta individual : Pair) → r.answer ≡ Asked eta individual → ⊥) → r ≡ play input counts observations left r
  unfolding play
  play_over zero f = refl
  play_over (suc left) f = stays _ r.answer f

-- ---- from setup to the text; b is what setup gave back
module _ (input counts observations cache work warm results : List ℕ) (t : Page ℕ) {setup : Setup} {b : Begun} {cache₁ work₁ warm₁ : List ℕ}
    (e : setup ≡ settings) (q : begun_with b cache₁ work₁ warm₁ ≡ open_of setup counts observations no_tally cache work warm results) where
  setting : begun_with b cache₁ work₁ warm₁ ≡ open_of settings counts observations no_tally cache work warm results
  setting = q ∙ ap (λ (s : Setup). open_of s counts observations no_tally cache work warm results) e

  opened_as : (o : Result State Refusal) → b.opening ≡ o → when_opened input counts observations results (begun_with b cache₁ work₁ warm₁) o ≡ fitted input counts observations cache work warm results
  unfolding fitted
  opened_as o f =
      ap (when_opened input counts observations results (begun_with b cache₁ work₁ warm₁)) (sym f)
      ∙ ap (λ (s : Setting). when_opened input counts observations results s s.begun.opening) setting

  pub not_opened : {e : Refusal} {t' : Page ℕ} → b.opening ≡ Err e → t' ≡ with_items (refusal_line e.number e.place) t → t' ≡ with_items
      (fitted input counts observations cache work warm results) t
  unfolding when_opened
  not_opened f g = g ∙ ap (λ (l : List ℕ). with_items l t) (opened_as _ f)

  pub is_opened_lem : {state : State} {last : Called} {cache₂ work₂ warm₂ results₂ : List ℕ} {t' : Page ℕ} → b.opening ≡ Ok state
      → called last cache₂ work₂ warm₂ results₂ ≡ play input counts observations most_evaluations (begun counts observations (held_of state b.tally cache₁ work₁ warm₁ results))
      → t' ≡ with_items (ended counts last.state last.tally results₂ last.step) t → t' ≡ with_items (fitted input counts observations cache work warm results) t
  unfolding when_opened end_of
  is_opened_lem f p g = g ∙ ap (λ (r : Ran (Held words) Step). with_items (end_of counts r) t) p ∙ ap (λ (l : List ℕ). with_items l t) (opened_as _ f)

-- ---- with words of its own
pub whole_counts : {r : ℕ} {w' : List ℕ} (input w : List ℕ) (n : ℕ) → n ≤ 256 → length w ≡ 256 → written r w' ≡ write (countsIn input n) (written 0 w) → take r w' ≡ countsIn input n
whole_counts input w n h j e = let as_many = counts_length input n in front (countsIn input n) w (omega arith) e

pub few_counts : {l : List ℕ} (input : List ℕ) (n : ℕ) → l ≡ countsIn input n → n ≤ 256 → length l ≤ 256
few_counts input n e h = let as_many = ap length e ∙ counts_length input n in omega arith

pub whole_observations : {r : ℕ} {w' : List ℕ} (input w : List ℕ) → length input ≤ 12288 → length w ≡ 1280 → written r w' ≡ write (observationsIn input) (written 0 w) → take r w' ≡ observationsIn
    input
whole_observations input w h j e = let as_many = observations_length input in front (observationsIn input) w (omega arith) e

pub lends : {cs os : List ℕ} {t' : Page ℕ} (input : List ℕ) (n : ℕ) (t : Page ℕ) → cs ≡ countsIn input n → os ≡ observationsIn input
    → t' ≡ with_items (fitted input cs os (replicate 1536 0) (replicate 3072 0) (replicate 256 0) (replicate 1280 0)) t → t' ≡ with_items (lent input n) t
unfolding lent
lends input n t e f q = q ∙ (λ i. with_items (fitted input (e i) (f i) (replicate 1536 0) (replicate 3072 0) (replicate 256 0) (replicate 1280 0)) t)
