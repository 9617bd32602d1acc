-- `save` meets its contract. Assumes nothing.
use Rattle.std.proofs.Common.{◌≡◌}
use mathlib.Core.List.{List, [], ◌∷◌}
use Prim.Native.Nat.{ℕ}
use lib.ListN.{get_or}
use Rattle.mode_2d.specs.declared.population_focei_2d.Search2.{Search2}
use Rattle.state_words.specs.SearchWords2.{bits, words_of, stage_word, saved}
use Rattle.state_words.proofs.two_effects.save.Goals as goal

-- the words, by what the calls answered
abbrev nine : List ℕ → List ℕ → List ℕ
nine l rest =
    get_or l 0 0 ∷ get_or l 1 0 ∷ get_or l 2 0 ∷ get_or l 3 0 ∷ get_or l 4 0 ∷ get_or l 5 0 ∷ get_or l 6 0 ∷ get_or l 7 0 ∷ get_or l 8 0 ∷ rest

laid :
    (x : Search2) {stage seed round reduction first second decrease : ℕ} {current best : List ℕ} →
    stage ≡ stage_word x.stage → seed ≡ x.seed → round ≡ x.round → reduction ≡ x.reduction → current ≡ words_of x.current → first ≡ bits x.trial.first → second ≡ bits x.trial.second →
    decrease ≡ bits x.decrease → best ≡ words_of x.best →
    stage ∷ seed ∷ round ∷ reduction ∷ nine current (first ∷ second ∷ decrease ∷ nine best []) ≡ saved x
unfolding saved words_of
laid x s i j k c f g d b = rw (s, i, j, k, c, f, g, d, b)

pub returns : goal.returns
returns c = laid _ c.stage_word-stage.ensures c.from.ensures c.from-2.ensures c.from-3.ensures c.words_of-current.ensures c.to_word-first.ensures c.to_word-second.ensures c.to_word-decrease.ensures c.words_of-best.ensures
