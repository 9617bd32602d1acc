-- The fit of an objective: by its own setup it is the one by the session's setup and its parameters, and it has their own numbers. Assumes nothing.
use mathlib.Core.Path.{◌≡◌, refl, ap, ◌∙◌}
use mathlib.Core.List.{List}
use lib.Ieee.{Float}
use Rattle.float64.specs.Pick.{both}
use Rattle.matrix.specs.Matrix.{Inverse, some, none, inverse_positive}
use Rattle.setup.specs.Admission.{omega_of, with_parameters}
use Rattle.setup.specs.declared.Setup.{Setup}
use Rattle.setup.specs.declared.Parameters.{Parameters}
use Rattle.search.specs.declared.Fit.{Fit}
use Rattle.search.specs.Subjects.{fit_with, fit_by, fit2, fit_in, fit_of}

pub own_fit : (setup : Setup) (parameters : Parameters) {own : Setup} {fit : Fit} → own ≡ with_parameters setup parameters → fit ≡ fit_in own parameters.theta → fit ≡ fit_of setup parameters
unfolding fit_of
own_fit setup parameters eo ef = ef ∙ ap (λ (s : Setup). fit_in s parameters.theta) eo

record Same (setup : Setup) (parameters : Parameters) (fit : Fit) : Type 0 where
  effects : fit.effects ≡ setup.effects
  k : fit.k ≡ setup.k
  most : fit.max_evaluations ≡ setup.max_evaluations
  bound : fit.eta_bound ≡ setup.eta_bound
  additive : fit.additive_sd ≡ parameters.additive_sd

with_same : (setup : Setup) (parameters : Parameters) (m : List (List Float)) (det : Float) → Same setup parameters (fit_with (with_parameters setup parameters) parameters.theta m det)
unfolding fit_with with_parameters
with_same setup parameters m det = record { effects = refl; k = refl; most = refl; bound = refl; additive = refl }

by_same : (setup : Setup) (parameters : Parameters) (i : Inverse) → Same setup parameters (fit_by (with_parameters setup parameters) parameters.theta i)
unfolding fit_by
by_same setup parameters (some m det) = with_same setup parameters m det
by_same setup parameters none = with_same setup parameters _ _

fit_same : (setup : Setup) (parameters : Parameters) → Same setup parameters (fit_of setup parameters)
unfolding fit_of fit2
fit_same setup parameters = both (Same setup parameters) _ (by_same setup parameters (inverse_positive (omega_of (with_parameters setup parameters)))) (with_same setup parameters _ _)

pub fit_effects : (setup : Setup) (parameters : Parameters) → (fit_of setup parameters).effects ≡ setup.effects
fit_effects setup parameters = (fit_same setup parameters).effects

pub fit_k : (setup : Setup) (parameters : Parameters) → (fit_of setup parameters).k ≡ setup.k
fit_k setup parameters = (fit_same setup parameters).k

pub fit_most : (setup : Setup) (parameters : Parameters) → (fit_of setup parameters).max_evaluations ≡ setup.max_evaluations
fit_most setup parameters = (fit_same setup parameters).most

pub fit_bound : (setup : Setup) (parameters : Parameters) → (fit_of setup parameters).eta_bound ≡ setup.eta_bound
fit_bound setup parameters = (fit_same setup parameters).bound

pub fit_additive : (setup : Setup) (parameters : Parameters) → (fit_of setup parameters).additive_sd ≡ parameters.additive_sd
fit_additive setup parameters = (fit_same setup parameters).additive
