-- believed
-- Which places are used after births and deaths.
use Rattle.std.specs.Prelude.{ℕ, zero, suc, ◌+◌, Bool, true, false, cond, ◌==◌, List, [], ◌∷◌, ◌++◌, map, length, drop, replicate, Option, Some, None}
use Rattle.mdr_mem.specs.declared.cells.Life.{Life}
use Rattle.mdr_mem.specs.declared.cells.Life.TheVariants as life

-- one mark a place: the serial of the block that lies there, or none where it is free
abbrev pub Mark : Type 0
Mark = Option ℕ

-- the first n places are free
unfoldable pub are_free : ℕ → List Mark → Bool
are_free zero marks = true
are_free (suc n) [] = false
are_free (suc n) (Some serial ∷ marks) = false
are_free (suc n) (None ∷ marks) = are_free n marks

-- a block lies at the least place from which n are free, else at the top
unfoldable pub placed : ℕ → ℕ → List Mark → List Mark
placed serial n [] = replicate n (Some serial)
placed serial n (m ∷ marks) = cond (are_free n (m ∷ marks)) (replicate n (Some serial) ++ drop n (m ∷ marks)) (m ∷ placed serial n marks)

-- a place after a death
abbrev pub freed : ℕ → Mark → Mark
freed serial None = None
freed serial (Some s) = cond (s == serial) None (Some s)

-- without the free places at the top
abbrev pub under : Mark → List Mark → List Mark
under None [] = []
under None (m ∷ marks) = None ∷ (m ∷ marks)
under (Some serial) marks = Some serial ∷ marks

unfoldable pub trimmed : List Mark → List Mark
trimmed [] = []
trimmed (m ∷ marks) = under m (trimmed marks)

abbrev pub left : ℕ → List Mark → List Mark
left serial marks = trimmed (map (freed serial) marks)

-- all births and deaths, one after the other
pub record Laid : Type 0 where
  pub births : ℕ
  pub marks : List Mark

abbrev pub after : Laid → Life → Laid
after s (life.Birth n) = record { births = s.births + 1; marks = placed s.births n s.marks }
after s (life.Death serial) = record { births = s.births; marks = left serial s.marks }

unfoldable pub laid_from : Laid → List Life → Laid
laid_from s [] = s
laid_from s (l ∷ lives) = laid_from (after s l) lives

abbrev pub laid : List Life → Laid
laid lives = laid_from (record { births = 0; marks = [] }) lives

-- used places, and the top
abbrev pub used : List Mark → ℕ
used [] = 0
used (None ∷ marks) = used marks
used (Some serial ∷ marks) = used marks + 1

pub record Layout : Type 0 where
  pub taken : ℕ
  pub top : ℕ

abbrev pub layout_of : List Life → Layout
layout_of lives = record { taken = used (laid lives).marks; top = length (laid lives).marks }

-- both numbers
abbrev pub places_of : List Life → ℕ × ℕ
places_of lives = ((layout_of lives).taken, (layout_of lives).top)
