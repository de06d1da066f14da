-- What is read in one way.
use Rattle.std.proofs.Common.{◌≡◌, ℕ, List, Ok, Err, sym, ◌∙◌}
use Rattle.mdr_script.specs.declared.script.Script.{Script}
use Rattle.mdr_script.specs.declared.script_error.ScriptKind.{ScriptKind}
use Rattle.mdr_script.specs.Scripts.{script_of}

pub script_once : (bytes : List ℕ) (script other : Script) → script_of bytes ≡ Ok script → script_of bytes ≡ Ok other → script ≡ other
script_once bytes script other e f = let g : Ok script ≡ Ok other = sym e ∙ f in cc

pub no_fault : (bytes : List ℕ) (script : Script) (line : ℕ) (kind : ScriptKind) → script_of bytes ≡ Ok script → script_of bytes ≡ Err (line, kind) → ⊥
no_fault bytes script line kind e f = let g : Ok script ≡ Err (line, kind) = sym e ∙ f in Prim.cc
