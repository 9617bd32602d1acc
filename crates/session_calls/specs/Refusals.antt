-- What the answer says of a refusal of the checks, by its verdict: document 01's number, and of an observation the place.
use Rattle.std.specs.Prelude.{ℕ, Err}
use Rattle.subject.specs.Observations.{Verdict}
use Rattle.subject.specs.Observations.Verdict.{passes, fails, fails_at}
use Rattle.setup.specs.Admission.{verdict}
use Rattle.setup.specs.declared.AdmissionError.{AdmissionError}
use Rattle.search.specs.Subjects.{refusal}
use Rattle.search.specs.declared.Place.TheVariants.{Nowhere, Observation}
use Rattle.search.specs.declared.Refusal.{Refusal}

-- of what passes nothing is said
unfoldable pub refused_by_verdict : Verdict → Refusal
refused_by_verdict passes = refusal 0 Nowhere
refused_by_verdict (fails number) = refusal number Nowhere
refused_by_verdict (fails_at number at) = refusal number (Observation at.subject at.observation)

unfoldable pub refusal_of : AdmissionError → Refusal
refusal_of error = refused_by_verdict (verdict (Err error))
