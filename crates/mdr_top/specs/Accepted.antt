-- believed
-- A source and a script that are run, where the words name them and both are taken.
use Rattle.std.specs.Prelude.{◌≡◌, ℕ, List, Some, Ok}
use Rattle.mdr_due.specs.Reads.{Files, longest_source, longest_script}
use Rattle.mdr_outside.specs.declared.shelf.ReadAnswer.TheVariants as reads
use Rattle.mdr_outside.specs.Shelf.{ReadsFrom}
use Rattle.mdr_top.specs.declared.manner.Manner.{Manner}
use Rattle.mdr_top.specs.Scripts.{HasScript}
use Rattle.mdr_bound.specs.declared.bound.Bound.{Bound}
use Rattle.mdr_source.specs.declared.outcome.Source.{Source}
use Rattle.mdr_source.specs.Sources.{Comes}
use Rattle.mdr_top.specs.declared.split_manner.SplitManner.{SplitManner}
use Rattle.mdr_top.specs.declared.words.Way.TheVariants as way
use Rattle.mdr_top.specs.Words.{Task, Run, OfFiles, command_of}

-- a run on one memory in this manner, by the names of its source and its script
abbrev pub on_one_memory : Manner → (source_name script_name : List ℕ) → Task
on_one_memory manner source_name script_name = Run (OfFiles source_name script_name) (way.Whole manner)

-- a run over two halves in this manner
abbrev pub over_two_halves : SplitManner → (source_name script_name : List ℕ) → Task
over_two_halves manner source_name script_name = Run (OfFiles source_name script_name) (way.Split manner)

-- the words come to this task with the names of a source and of a script; both are read, and are a source and a script for its program
pub record AreAccepted (words : List (List ℕ)) (files : Files) (task : (source_name script_name : List ℕ) → Task) (source : Source) (script : Bound) : Type 0 where
  pub source_name : List ℕ
  pub script_name : List ℕ
  pub command : command_of words ≡ Some (task source_name script_name)
  pub bytes : List ℕ
  pub source_read : ReadsFrom files source_name longest_source (reads.Ok bytes)
  pub compiled : Comes bytes (Ok source)
  pub lines : List ℕ
  pub script_read : ReadsFrom files script_name longest_script (reads.Ok lines)
  pub bound : HasScript source.program lines script
