-- for proofs
-- Scripts that are read and bound.
use Rattle.std.specs.Prelude.{◌≡◌, ℕ, List, Ok}
use Rattle.mdr_core.specs.declared.program.Program.{Program}
use Rattle.mdr_core.specs.Sound.{IsSound}
use Rattle.mdr_holds.specs.Laws.{AreCommands, IsScript}
use Rattle.mdr_bound.specs.declared.bound.Bound.{Bound}
use Rattle.mdr_script.specs.declared.script.Script.{Script}
use Rattle.mdr_script.specs.Binding.{bound_of}
use Rattle.mdr_script.specs.Scripts.{script_of}

-- commands of a script that was bound to the program
abbrev pub BoundCommandsFit : Type 0
BoundCommandsFit = (program : Program) → IsSound program → (script : Script) (bound : Bound) → bound_of script program ≡ Ok bound → AreCommands program bound.commands

-- so a script that is read from a text and bound to the program is one for it
abbrev pub TextScriptsFit : Type 0
TextScriptsFit = (program : Program) → IsSound program → (text : List ℕ) (script : Script) (bound : Bound) → script_of text ≡ Ok script → bound_of script program ≡ Ok bound → IsScript program bound

-- the bytes are read as a script, which is bound to the program
pub record IsScriptFor (program : Program) (bytes : List ℕ) (script : Bound) : Type 0 where
  pub read : Script
  pub is_read : script_of bytes ≡ Ok read
  pub is_bound : bound_of read program ≡ Ok script

-- its commands fit the program, and its numbers for registers are words
abbrev pub ScriptsFit : Type 0
ScriptsFit = (program : Program) (bytes : List ℕ) (script : Bound) → IsSound program → IsScriptFor program bytes script → IsScript program script
