-- Bytes or words written one after the other into what is lent: the place after the last, and all that is lent. At its end nothing is
-- written.
use Rattle.std.specs.Prelude.{List, [], ◌∷◌, ℕ, ◌+◌, ltb, set, length}
use Rattle.float64.specs.Pick.{pick}

pub record Written (A : Type 0) : Type 0 where
  pub end : ℕ
  pub lent : List A

module _ {A : Type 0} where
  abbrev pub written : ℕ → List A → Written A
  written end lent = record { end = end; lent = lent }

  unfoldable pub put : A → Written A → Written A
  put x t = pick (ltb t.end (length t.lent)) (written (t.end + 1) (set t.lent t.end x)) t

  unfoldable pub write : List A → Written A → Written A
  write [] t = t
  write (x ∷ xs) t = write xs (put x t)
