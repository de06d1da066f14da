-- believed
-- The script that is run over a source, and what is due where there is none.
use Rattle.std.specs.Prelude.{◌≡◌, ℕ, List, codes, Result, Ok, Err}
use Rattle.mdr_core.specs.declared.program.Program.{Program}
use Rattle.mdr_outside.specs.Calls.{ShelfCall}
use Rattle.mdr_outside.specs.declared.shelf.ReadAnswer.TheVariants as reads
use Rattle.mdr_bound.specs.declared.bound.Bound.{Bound}
use Rattle.mdr_script.specs.declared.script.Script.{Script}
use Rattle.mdr_script.specs.declared.script_error.ScriptKind.{ScriptKind}
use Rattle.mdr_script.specs.declared.script_error.ScriptKind.TheVariants.{Form, Range, Order, NoFunction, Arity, ArgKind, NoGlobal, Limit}
use Rattle.mdr_script.specs.Scripts.{script_of}
use Rattle.mdr_script.specs.Binding.{bound_of}
use Rattle.mdr_due.specs.declared.status.Status.{Status}
use Rattle.mdr_due.specs.declared.status.Status.TheVariants as status
use Rattle.mdr_due.specs.Lines.{script_line}
use Rattle.mdr_due.specs.Reads.{Files, IsRead, UnreadBy, longest_script}

-- ---- scripts

abbrev pub bound_by : Program → Result Script (ℕ × ScriptKind) → Result Bound (ℕ × ScriptKind)
bound_by program (Ok script) = bound_of script program
bound_by program (Err e) = Err e

-- the script that a text is for a program, or its first line that is refused: one that is none of a script's comes before one that doesn't suit the program
abbrev pub script_for : Program → List ℕ → Result Bound (ℕ × ScriptKind)
script_for program bytes = bound_by program (script_of bytes)

-- the word for why a line is refused
abbrev pub kind_word : ScriptKind → List ℕ
kind_word Form = codes "Form"
kind_word Range = codes "Range"
kind_word Order = codes "Order"
kind_word NoFunction = codes "NoFunction"
kind_word Arity = codes "Arity"
kind_word ArgKind = codes "ArgKind"
kind_word NoGlobal = codes "NoGlobal"
kind_word Limit = codes "Limit"

-- these bytes are a script for the program
abbrev pub HasScript : Program → List ℕ → Bound → Type 0
HasScript program bytes script = script_for program bytes ≡ Ok script

-- a script that is refused
pub record NoScript (program : Program) (bytes : List ℕ) (s : Status) (text : List ℕ) : Type 0 where
  pub line : ℕ
  pub kind : ScriptKind
  pub refused : script_for program bytes ≡ Err (line, kind)
  pub status_is : s ≡ status.ScriptRefused
  pub text_is : text ≡ script_line line (kind_word kind)

-- ---- their files

-- this very read gave the bytes of this script
pub record IsScriptOf (files : Files) (program : Program) (name : List ℕ) (old new : List ShelfCall) (script : Bound) : Type 0 where
  pub bytes : List ℕ
  pub read : IsRead files name longest_script old new (reads.Ok bytes)
  pub has : HasScript program bytes script

-- this very read gave no bytes, or those of a script that is refused
pub data NoScriptOf (files : Files) (program : Program) (name : List ℕ) (old new : List ShelfCall) (s : Status) (text : List ℕ) : Type 0 where
  unread : UnreadBy files name longest_script old new s text → NoScriptOf files program name old new s text
  refused : (bytes : List ℕ) → IsRead files name longest_script old new (reads.Ok bytes) → NoScript program bytes s text → NoScriptOf files program name old new s text
