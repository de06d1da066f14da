-- believed
-- The words that the program takes.
use Rattle.std.specs.Prelude.{◌≡◌, ℕ, Bool, false, not, ◌&&◌, ◌||◌, List, [], ◌∷◌, codes, Option, Some, None, option_map}
use Rattle.std.specs.Str.{bytes_eq}
use Rattle.mdr_core.specs.Layout.{chosen}
use Rattle.mdr_top.specs.declared.recipe.Recipe.{Recipe}
use Rattle.mdr_top.specs.Budgets.{when, budget_of, seed_of, size_of}
use Rattle.mdr_top.specs.Names.{TextNames}
use Rattle.mdr_top.specs.declared.split_manner.SplitManner.{SplitManner}
use Rattle.mdr_top.specs.declared.flags.Flags.{Flags}
use Rattle.mdr_top.specs.declared.words.Cutting.{Cutting}
use Rattle.mdr_top.specs.declared.words.Cutting.TheVariants as cutting
use Rattle.mdr_top.specs.declared.words.Way.{Way}
use Rattle.mdr_top.specs.declared.words.Way.TheVariants as way
use Rattle.mdr_top.specs.Flags.{flags_of}

-- ---- what is asked for

-- what a run is of: a source and a script that are named
pub data Inputs : Type 0 where
  OfFiles : (source_name script_name : List ℕ) → Inputs

-- that a source is cut, or that a script is run over one: on one memory in some manner, or over its two halves, or over two halves from their texts; or that both are made from a seed and run; or that a transcript is held against a run
pub data Task : Type 0 where
  Cut : (how : Cutting) (source_name : List ℕ) → Task
  Run : (inputs : Inputs) (in_way : Way) → Task
  RunTexts : (names : TextNames) (script_name : List ℕ) → Task
  Generate : (recipe : Recipe) → Task
  Verify : (source_name script_name transcript_name : List ℕ) → Task

-- ---- a source that is cut

abbrev pub cutting_of : List ℕ → Option Cutting
cutting_of word = chosen (bytes_eq word (codes "split")) (Some cutting.Split) (when (bytes_eq word (codes "report")) cutting.Report)

-- `split FILE` and `report FILE`
abbrev pub cut_of : List (List ℕ) → Option (Cutting × List ℕ)
cut_of (word ∷ file ∷ []) = option_map (λ how. (how, file)) (cutting_of word)
cut_of _ = None

-- ---- a run

-- on one memory: its flags are `--watch` and `--ticks`
abbrev pub whole_way : Flags → Option Way
whole_way flags = when (not (flags.wire || flags.region)) (way.Whole (record { ticks = budget_of flags.ticks; watched = flags.watch }))

-- over two halves: its flags are `--ticks`, `--wire` and `--region`
abbrev pub split_way : Flags → Option Way
split_way flags = when (not flags.watch) (way.Split (record { ticks = budget_of flags.ticks; wire = flags.wire; region = flags.region }))

abbrev pub way_by : (mode : List ℕ) → Flags → Option Way
way_by mode flags = chosen (bytes_eq mode (codes "whole")) (whole_way flags) (chosen (bytes_eq mode (codes "split")) (split_way flags) None)

abbrev pub way_with : (mode : List ℕ) → Option Flags → Option Way
way_with mode (Some flags) = way_by mode flags
way_with mode None = None

-- the way of a run: its mode, and the words behind its names
abbrev pub way_of : (mode : List ℕ) → List (List ℕ) → Option Way
way_of mode words = way_with mode (flags_of words)

-- the mode, the names of a source and of a script, and the words behind them
abbrev pub Named : Type 0
Named = List ℕ × List ℕ × List ℕ × List (List ℕ)

-- `run MODE FILE SCRIPT`, and perhaps more
abbrev pub run_as : List (List ℕ) → Option Named
run_as (run' ∷ mode ∷ file ∷ script ∷ words) = when (bytes_eq run' (codes "run")) (mode, file, script, words)
run_as _ = None

abbrev pub run_by : Option Named → Option (List ℕ × List ℕ × Way)
run_by (Some named) = option_map (λ w. (named.1, named.2, w)) (way_of named.0 named.3)
run_by None = None

-- the names and the way of a run
abbrev pub run_of : List (List ℕ) → Option (List ℕ × List ℕ × Way)
run_of words = run_by (run_as words)

-- ---- a seed

abbrev pub recipe_by : (seed size : Option ℕ) → Option Recipe
recipe_by (Some seed) (Some size) = Some (record { seed = seed; size = size })
recipe_by (Some seed) None = None
recipe_by None size = None

-- `gen SEED SIZE`
abbrev pub recipe_of : List (List ℕ) → Option Recipe
recipe_of (gen ∷ seed ∷ size ∷ []) = chosen (bytes_eq gen (codes "gen")) (recipe_by (seed_of seed) (size_of size)) None
recipe_of _ = None

-- ---- a transcript

-- `verify FILE SCRIPT TRANSCRIPT`
abbrev pub verify_of : List (List ℕ) → Option (List ℕ × List ℕ × List ℕ)
verify_of (verify ∷ file ∷ script ∷ transcript ∷ []) = when (bytes_eq verify (codes "verify")) (file, script, transcript)
verify_of _ = None

-- ---- a run from texts

-- its manner: it has no flags
abbrev pub texts_manner : SplitManner
texts_manner = record { ticks = budget_of None; wire = false; region = false }

abbrev pub is_halves : (run' mode : List ℕ) → Bool
is_halves run' mode = bytes_eq run' (codes "run") && bytes_eq mode (codes "halves")

-- `run halves K U PLAN SCRIPT`
abbrev pub texts_of : List (List ℕ) → Option (TextNames × List ℕ)
texts_of (run' ∷ mode ∷ kernel ∷ user ∷ plan ∷ script ∷ []) =
    when (is_halves run' mode) (record { kernel = kernel; user = user; plan = plan }, script)
texts_of _ = None

abbrev pub texts_command : List (List ℕ) → Option Task
texts_command words = option_map (λ t. RunTexts t.0 t.1) (texts_of words)

-- ---- all words

-- what is neither a source that is cut nor a run of files
abbrev pub other_by : Option Recipe → (names : Option (List ℕ × List ℕ × List ℕ)) → (texts : Option Task) → Option Task
other_by (Some recipe) names texts = Some (Generate recipe)
other_by None (Some names) texts = Some (Verify names.0 names.1 names.2)
other_by None None texts = texts

abbrev pub command_by : Option (Cutting × List ℕ) → (run : Option (List ℕ × List ℕ × Way)) → (other : Option Task) → Option Task
command_by (Some cut) run other = Some (Cut cut.0 cut.1)
command_by None (Some run) other = Some (Run (OfFiles run.0 run.1) run.2)
command_by None None other = other

abbrev pub command_of : List (List ℕ) → Option Task
command_of words = command_by (cut_of words) (run_of words) (other_by (recipe_of words) (verify_of words) (texts_command words))

-- if anything is asked for, it is a run over two halves from their texts
abbrev pub AskForTexts : List (List ℕ) → Type 0
AskForTexts words = command_of words ≡ texts_command words
