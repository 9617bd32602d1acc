-- `save` meets its contract. Assumes nothing.
use Rattle.std.proofs.Common.{◌≡◌}
use mathlib.Core.List.{List, [], ◌∷◌}
use Prim.Native.Nat.{ℕ}
use lib.ListN.{get_or}
use lib.Ieee.{binary64, to_bits}
use Rattle.mode.specs.declared.population_focei.Search.{Search}
use Rattle.state_words.specs.SearchWords.{words_of, stage_word, fall_word, saved}
use Rattle.float64.specs.Pick.{pick}
use Rattle.state_words.proofs.Paths.{bit_is}
use Rattle.state_words.proofs.one_effect.save.Goals as goal

-- the words, by what the calls answered
abbrev four : List ℕ → List ℕ → List ℕ
four l rest = get_or l 0 0 ∷ get_or l 1 0 ∷ get_or l 2 0 ∷ get_or l 3 0 ∷ rest

laid :
    (x : Search) {stage count first fall : ℕ} {latest left right best : List ℕ} →
    stage ≡ stage_word x.stage → count ≡ x.count → first ≡ to_bits binary64 x.first → latest ≡ words_of x.latest →
    fall ≡ pick x.fall 1 0 → left ≡ words_of x.left → right ≡ words_of x.right → best ≡ words_of x.best →
    stage ∷ count ∷ first ∷ four latest (fall ∷ four left (four right (four best []))) ≡ saved x
unfolding saved words_of fall_word
laid x s n f a d l r b = rw (s, n, f, a, d, l, r, b)

pub returns : goal.returns
returns c =
    laid _ c.stage_word-stage.ensures c.from-count.ensures c.to_word-first.ensures c.words_of-latest.ensures (bit_is _ c.from-fall.ensures)
    c.words_of-left.ensures c.words_of-right.ensures c.words_of-best.ensures
