-- protocol
-- What work in a watched run comes to. Where it stopped a set may be left in the world, of which nothing is shown.
use Rattle.std.specs.Prelude.{◌≡◌, ℕ, suc, List, [], length}
use Rattle.mdr_meaning.specs.declared.wire.Wire.{Wire}
use Rattle.mdr_meaning.specs.Values.{wire_of}
use Rattle.mdr_model.specs.declared.memory.Cell.{Cell}
use Rattle.mdr_plain.specs.Scripts.{Finish}
use Rattle.mdr_plain.specs.World.{World, Ran, Ended, Stopped, Work, done}
use Rattle.mdr_watched.specs.Views.{below, closed}
use Rattle.mdr_world.specs.Driven.{Driven, driver}
use Rattle.mdr_whole.specs.declared.ending.Gave.{Gave}
use Rattle.mdr_whole.specs.declared.ending.Gave.TheVariants as gave
use Rattle.mdr_whole.specs.declared.ending.Worked.{Worked}
use Rattle.mdr_whole.specs.declared.ending.Worked.TheVariants as worked
use Rattle.mdr_whole.specs.Ending.{end_of}
use Rattle.mdr_watch.specs.declared.guarded.Closing.{Closing}
use Rattle.mdr_watch.specs.declared.guarded.Closing.TheVariants as closing

-- the world with these sets
abbrev pub with_views : List (List Cell) → World → World
with_views views w = record w { views = views }

-- what a call gave, and the world that it left
abbrev pub GaveFor : Gave → World → Ran Wire → Type 0
GaveFor (gave.Value v) w ran = Ended (wire_of v) w ≡ ran
GaveFor (gave.Stopped kind at) w ran = (views : List (List Cell)) × (◌≡◌ {A = Ran Wire} (Stopped kind at (with_views views w)) ran)

-- the innermost upcall is over, and was the last, or there is one around it
abbrev pub IsClosed : Driven → Closing → Type 0
IsClosed d (closing.Last w) = (w ≡ driver d.program (closed d.world)) × (w.world.views ≡ [])
IsClosed d (closing.Under g) = (g ≡ driver d.program (closed d.world)) × (n : ℕ) × (length d.world.views ≡ suc (suc n))

-- where a call gave a value one upcall is open, or others are open around the innermost
abbrev pub IsOnly : Gave → World → Type 0
IsOnly (gave.Value v) w = length (below w.views) ≡ 0
IsOnly (gave.Stopped kind at) w = Unit {0}

abbrev pub IsWithin : Gave → World → Type 0
IsWithin (gave.Value v) w = (n : ℕ) × (length (below w.views) ≡ suc n)
IsWithin (gave.Stopped kind at) w = Unit {0}

-- what work that has no result came to
abbrev pub WorkedFor : Worked → World → Work → Type 0
WorkedFor worked.Done w work = done w ≡ work
WorkedFor (worked.Stopped kind at) w work = (views : List (List Cell)) × (◌≡◌ {A = Work} (Stopped kind at (with_views views w)) work)

-- how a run ended
pub record EndsFor (e : Worked) (w : World) (f : Finish) : Type 0 where
  pub end : end_of e ≡ f.end
  pub views : List (List Cell)
  pub world : with_views views w ≡ f.world
