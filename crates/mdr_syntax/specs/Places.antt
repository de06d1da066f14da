-- believed
-- Places in a text.
use Rattle.std.specs.Prelude.{ℕ, ◌+◌, ◌==◌, List, [], ◌∷◌, if◌then◌else◌}
use Rattle.mdr_core.specs.declared.place.Place.{Place}

-- line and column of the next byte: a newline ends its line
abbrev pub place_past : Place → ℕ → Place
place_past p b = if b == 10 then record { line = p.line + 1; column = 1 } else record { line = p.line; column = p.column + 1 }

-- the place behind these bytes
abbrev pub place_after : Place → List ℕ → Place
place_after p [] = p
place_after p (b ∷ bs) = place_after (place_past p b) bs

abbrev pub first_place : Place
first_place = record { line = 1; column = 1 }
