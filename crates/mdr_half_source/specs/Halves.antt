-- protocol
-- What the text of a user half and the text of its plan come to.
use Rattle.std.specs.Prelude.{ℕ, List, Result, Ok, Err}
use Rattle.mdr_half_source.specs.Loads.{AreRefused, Loads}
use Rattle.mdr_half_source.specs.declared.misfit.Misfit.{Misfit}
use Rattle.mdr_half_source.specs.declared.misfit.Misfit.TheVariants as misfit
use Rattle.mdr_half_source.specs.declared.outcome.HalfSource.{HalfSource}

-- by which number texts are refused
abbrev pub cause_of : Misfit → ℕ
cause_of misfit.Plan = 1
cause_of misfit.Source = 2

-- they are loaded as a program with its plan, or refused for a cause
abbrev pub ComeTo : List ℕ → List ℕ → Result HalfSource Misfit → Type 0
ComeTo user text (Ok h) = Loads user text h.program h.plan
ComeTo user text (Err e) = AreRefused user text (cause_of e)
