-- What a host is given where there is room for the longest text, and where there is none. Assumes nothing.
use borrow.Author.Tests.{lt-ltb, le-ltb}
use Rattle.std.proofs.Common.{◌≡◌, ℕ, List, ◌<◌, ◌≤◌, length, sym, refl}
use Rattle.float64.specs.Pick.{yes, no}
use Rattle.words.specs.Written.{Written, written, write}
use Rattle.focei_fit.specs.Claim.{longest_text}
use Rattle.focei_fit.specs.Output.{output}
use Rattle.focei_fit.proofs.Room.{whole}
use Rattle.curlewstand_fit.specs.Fit.{fit_over}

pub no_room : (records text : List ℕ) → length text < longest_text → fit_over records text ≡ written 0 text
unfolding fit_over
no_room records text h = sym (yes _ (lt-ltb _ _ h) refl)

pub with_room : (records text : List ℕ) → longest_text ≤ length text → fit_over records text ≡ write (output records) (written 0 text)
unfolding fit_over
with_room records text h =
    let w : Written ℕ = write (output records) (written 0 text) in
    sym (no _ (le-ltb _ _ h) (whole {r = w.end} {out' = w.lent} records text h refl))
