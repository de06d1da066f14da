-- for proofs
-- The rules of the profile keep to those of sound programs (C99 6.5, 6.7.8, 6.8.3, 6.8.6.4).
use Rattle.std.specs.Prelude.{List}
use Rattle.mdr_core.specs.declared.program.Program.{Program}
use Rattle.mdr_core.specs.Typing.{Slot}
use Rattle.mdr_faults.specs.declared.scope.Scope.{Scope}
use Rattle.mdr_typing.specs.Profile.{profile_rules}
use Rattle.mdr_sound.specs.Knowing.{Knows}
use Rattle.mdr_sound.specs.Rules.{AreSoundRules}

-- in each function of a program, where the scope knows only what is so in the program
abbrev pub ProfileRulesAreSound : Type 0
ProfileRulesAreSound = (program : Program) (slots : List Slot) (scope : Scope) → Knows program scope → AreSoundRules program slots scope profile_rules
