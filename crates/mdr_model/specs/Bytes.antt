-- believed
-- Messages as bytes: each is what it reads as.
use Rattle.std.specs.Prelude.{ℕ, List, [], ◌∷◌}
use Rattle.mdr_model.specs.Reading.{reading_of}
use Rattle.mdr_model.specs.KernelState.{Reading}

abbrev pub readings : List (List ℕ) → List Reading
readings [] = []
readings (bytes ∷ more) = reading_of bytes ∷ readings more
