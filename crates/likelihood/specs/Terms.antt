-- The terms of one observation in the likelihood of Almquist, Leander and Jirstrand (2015), as the sources round them.
-- f is the prediction, f-eta its derivative by a random effect eta, a and p are the additive and the proportional deviation.
use Rattle.std.specs.Prelude.{Float}
use Rattle.std.specs.Float.Ieee.{neg}
use Rattle.float64.specs.Arithmetic.{◌+ᶠ◌, ◌-ᶠ◌, ◌*ᶠ◌, ◌/ᶠ◌, word, half, one, two}
use Rattle.libm.specs.Log.{log}

-- the residual: the measured value less its prediction
abbrev pub residual : Float → Float → Float
residual value f = value -ᶠ f

-- R, the variance of the residual: a² + (p f)²
abbrev pub variance : Float → Float → Float → Float
variance a p f = a *ᶠ a +ᶠ (p *ᶠ f) *ᶠ (p *ᶠ f)

-- R_eta, the derivative of R by eta: 2 p² f f_eta
abbrev pub variance_by_eta : Float → Float → Float → Float
variance_by_eta p f f_eta = two *ᶠ (p *ᶠ p) *ᶠ f *ᶠ f_eta

-- R_eta / R, by population_focei.rs
abbrev pub scaled_by_eta : Float → Float → Float → Float → Float
scaled_by_eta R p f f_eta = variance_by_eta p f f_eta /ᶠ R

-- R_eta / R, by population_focei_2d.rs. It differs from the one above where p is so small that p² is no normal float: there the one
-- rounds p² and doubles it, the other rounds 2 p².
abbrev pub scaled_by_eta2 : Float → Float → Float → Float → Float
scaled_by_eta2 R p f f_eta = two *ᶠ p *ᶠ p *ᶠ f *ᶠ f_eta /ᶠ R

-- z2, the square of the residual over its variance
abbrev pub z_squared : Float → Float → Float
z_squared R e = e *ᶠ e /ᶠ R

-- log 2π
abbrev pub log2pi : Float
log2pi = word 0x3ffd_67f1_c864_beb4

-- the observation's part of the negative log likelihood: ½ (z2 + log R + log 2π)
abbrev pub nll_term : Float → Float → Float
nll_term R z2 = half *ᶠ (z2 +ᶠ log R +ᶠ log2pi)

-- its part of the derivative of the negative log likelihood by eta, with e the residual: -e f_eta / R + ½ (1 - z2) R_eta / R
abbrev pub score_term : Float → Float → Float → Float → Float → Float
score_term R e z2 f_eta scaled = neg e *ᶠ f_eta /ᶠ R +ᶠ half *ᶠ (one -ᶠ z2) *ᶠ scaled

-- its part of the expected information (Appendix 2, equation 70) at a pair of effects, whose derivatives of f are f-eta and g-eta and
-- whose R_eta / R are scaled-f and scaled-g. With one effect, paired with itself, it is f_eta² / R + ½ (R_eta / R)².
abbrev pub information_term : Float → Float → Float → Float → Float → Float
information_term R f_eta g_eta scaled_f scaled_g = f_eta *ᶠ g_eta /ᶠ R +ᶠ half *ᶠ scaled_f *ᶠ scaled_g
