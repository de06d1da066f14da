-- protocol
-- How the text of a `printk` is read, byte by byte.
use Rattle.std.specs.Prelude.{ℕ, ◌==◌, List, Option, Some, None}
use Rattle.mdr_core.specs.declared.kind.Kind.{Kind}
use Rattle.mdr_core.specs.Layout.{chosen}
use Rattle.mdr_core.specs.Services.{Reading as CoreReading, plain_directive, long_directive}
use Rattle.mdr_call.specs.declared.directives.Reading.{Reading}
use Rattle.mdr_call.specs.declared.directives.Reading.TheVariants.{Plain, Percent, Long}
use Rattle.mdr_call.specs.declared.directives.Effect.{Effect}
use Rattle.mdr_call.specs.declared.directives.Effect.TheVariants.{Goes, Takes, Wrong}

abbrev pub core_reading : Reading → CoreReading
core_reading Plain = CoreReading.Plain
core_reading Percent = CoreReading.Percent
core_reading Long = CoreReading.Long

abbrev pub taken : Option Kind → Effect
taken None = Wrong
taken (Some k) = Takes k

abbrev pub turn : Reading → ℕ → Effect
turn Plain b = chosen (b == 37) (Goes Percent) (Goes Plain)
turn Percent b = chosen (b == 37) (Goes Plain) (chosen (b == 108) (Goes Long) (taken (plain_directive b)))
turn Long b = taken (long_directive b)

-- a text doesn't end within a directive
abbrev pub ended : Reading → List Kind → Option (List Kind)
ended Plain ks = Some ks
ended Percent ks = None
ended Long ks = None
