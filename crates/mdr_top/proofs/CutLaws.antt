-- What is done with a source that is cut is what is due for it.
use Rattle.std.proofs.Common.{◌≡◌, ℕ, suc, List, ◌∷◌, Option, Some, None, Result, Ok, Err, slice_get, codes, refl, sym, ap, subst}
use Rattle.std.specs.Prelude.{IfOk}
use Rattle.mdr_core.specs.declared.memory_error.OutOfMemory.{OutOfMemory}
use Rattle.mdr_top.specs.declared.recipe.Recipe.{Recipe}
use Rattle.mdr_outside.specs.Calls.{ShelfCall}
use Rattle.mdr_due.specs.declared.due.Due.{Due}
use Rattle.mdr_outside.specs.Shelf.{ReadsFrom}
use Rattle.mdr_due.specs.declared.status.Status.{Status}
use Rattle.mdr_due.specs.declared.status.Status.TheVariants as status
use Rattle.mdr_due.specs.Lines.{file_line}
use Rattle.mdr_due.specs.Reads.{Files, IsUnread, UnreadBy, longest_source}
use Rattle.mdr_slicer.specs.Outputs.{NamedBytes, outputs, length_lines}
use Rattle.mdr_slicer.specs.Writes.{Writes}
use Rattle.mdr_slicer.specs.Slicing.{NoSourceOf, Splits, Reports}
use Rattle.mdr_source.specs.declared.outcome.Source.{Source}
use Rattle.mdr_top.specs.declared.manner.Manner.{Manner}
use Rattle.mdr_top.specs.declared.split_manner.SplitManner.{SplitManner}
use Rattle.mdr_top.specs.declared.words.Cutting.{Cutting}
use Rattle.mdr_top.specs.declared.words.Cutting.TheVariants as cutting
use Rattle.mdr_top.specs.declared.words.Way.{Way}
use Rattle.mdr_top.specs.declared.words.Way.TheVariants as way
use Rattle.mdr_top.specs.Words.{Inputs, OfFiles, Task, Cut, Run, Generate, Verify, cut_of, run_of, recipe_of, verify_of, other_by, command_by, command_of, texts_command}
use Rattle.mdr_top.specs.Cuts.{CutDone, IsSplit, IsCut, IsOfCut}
use Rattle.mdr_top.specs.Answers.{Unread, Untaken, CutAnswered}
use Rattle.mdr_top.proofs.Statuses.{cut_answered_status}

-- ---- words

pub cut_command : (words : List (List ℕ)) (how : Cutting) (name : List ℕ) → Some (how, name) ≡ cut_of words → command_of words ≡ Some (Cut how name)
cut_command words how name e = ap (λ (c : Option (Cutting × List ℕ)). command_by c (run_of words) (other_by (recipe_of words) (verify_of words) (texts_command words))) (sym e)

pub run_command : (words : List (List ℕ)) (source_name script_name : List ℕ) (in_way : Way) → None ≡ cut_of words → Some (source_name, script_name, in_way) ≡ run_of words → command_of words ≡ Some (Run (OfFiles source_name script_name) in_way)
run_command words source_name script_name in_way none e = λ i. command_by (sym none i) (sym e i) (other_by (recipe_of words) (verify_of words) (texts_command words))

pub made_command : (words : List (List ℕ)) (recipe : Recipe) → None ≡ cut_of words → None ≡ run_of words → Some recipe ≡ recipe_of words → command_of words ≡ Some (Generate recipe)
made_command words recipe none not_run e = λ i. command_by (sym none i) (sym not_run i) (other_by (sym e i) (verify_of words) (texts_command words))

pub verify_command : (words : List (List ℕ)) (source_name script_name transcript_name : List ℕ) → None ≡ cut_of words → None ≡ run_of words → None ≡ recipe_of words → Some (source_name, script_name, transcript_name) ≡ verify_of words
    → command_of words ≡ Some (Verify source_name script_name transcript_name)
verify_command words source_name script_name transcript_name none not_run not_made e = λ i. command_by (sym none i) (sym not_run i) (other_by (sym not_made i) (sym e i) (texts_command words))

-- words that come to nothing else
pub others_named : (words : List (List ℕ)) → None ≡ cut_of words → None ≡ run_of words → None ≡ recipe_of words → None ≡ verify_of words → command_of words ≡ texts_command words
others_named words none not_run not_made not_verify = λ i. command_by (sym none i) (sym not_run i) (other_by (sym not_made i) (sym not_verify i) (texts_command words))

pub cut_no_run : (command : Option Task) (how : Cutting) (name : List ℕ) (inputs : Inputs) (in_way : Way) → command ≡ Some (Cut how name) → command ≡ Some (Run inputs in_way) → ⊥
cut_no_run command how name inputs in_way e f = Prim.cc

pub no_made : (command : Option Task) (recipe : Recipe) (inputs : Inputs) (in_way : Way) → command ≡ Some (Generate recipe) → command ≡ Some (Run inputs in_way) → ⊥
no_made command recipe inputs in_way e f = Prim.cc

pub no_verify : (command : Option Task) (source_name script_name transcript_name : List ℕ) (inputs : Inputs) (in_way : Way) → command ≡ Some (Verify source_name script_name transcript_name) → command ≡ Some (Run inputs in_way) → ⊥
no_verify command source_name script_name transcript_name inputs in_way e f = Prim.cc

pub whole_no_split : (command : Option Task) (inputs other : Inputs) (manner : Manner) (manner' : SplitManner) → command ≡ Some (Run inputs (way.Whole manner)) → command ≡ Some (Run other (way.Split manner')) → ⊥
whole_no_split command inputs other manner manner' e f = Prim.cc

-- ---- files

pub unread_so : (files : Files) (name : List ℕ) (limit : ℕ) (old new : List ShelfCall) (s : Status) (text : List ℕ) → UnreadBy files name limit old new s text → Unread files name limit s text
unread_so files name limit old new s text u = of u.why u.read.told
  where
    of : IsUnread name u.answer s text → ReadsFrom files name limit u.answer → Unread files name limit s text
    of (IsUnread.missing a e t) r = Unread.missing (subst (ReadsFrom files name limit) a r) e t
    of (IsUnread.long a e t) r = Unread.long (subst (ReadsFrom files name limit) a r) e t
    of (IsUnread.failed a e t) r = Unread.failed e t

-- how writing files ended
data WritesEnd (lines : List ℕ) (all : List NamedBytes) (s : Status) (text : List ℕ) : Type 0 where
  whole : s ≡ status.Done → text ≡ lines → WritesEnd lines all s text
  failed : (i : ℕ) (file : NamedBytes) → slice_get all i ≡ Some file → s ≡ status.WriteFault → text ≡ file_line (codes "write fault ") file.0 → WritesEnd lines all s text

later_end : (lines : List ℕ) (file : NamedBytes) (rest : List NamedBytes) (s : Status) (text : List ℕ) → WritesEnd lines rest s text → WritesEnd lines (file ∷ rest) s text
later_end lines file rest s text (WritesEnd.whole e t) = WritesEnd.whole e t
later_end lines file rest s text (WritesEnd.failed i f at e t) = WritesEnd.failed (suc i) f at e t

writes_end : (lines : List ℕ) (all : List NamedBytes) (files files' : Files) (old new : List ShelfCall) (s : Status) (text : List ℕ) → Writes lines all files files' old new s text → WritesEnd lines all s text
writes_end lines _ files files' old new s text (Writes.all f c e t) = WritesEnd.whole e t
writes_end lines _ files files' old new s text (Writes.fails file rest u) = WritesEnd.failed 0 file refl u.status_is u.text_is
writes_end lines _ files files' old new s text (Writes.next file rest later between put w) = later_end lines file rest s text (writes_end lines rest later files' between new s text w)

-- ---- what is due

pub untaken_so : (files : Files) (name : List ℕ) (old new : List ShelfCall) (s : Status) (text : List ℕ) → NoSourceOf files name old new s text → Untaken files name s text
untaken_so files name old new s text (NoSourceOf.unread u) = Untaken.unread (unread_so files name longest_source old new s text u)
untaken_so files name old new s text (NoSourceOf.refused bytes read none) = Untaken.refused bytes read.told none

split_so : (files files' : Files) (name : List ℕ) (old new : List ShelfCall) (s : Status) (text : List ℕ) → Splits files files' name old new s text → CutAnswered cutting.Split files name s text
split_so files files' name old new s text (Splits.no_source kept n) = CutAnswered.untaken (untaken_so files name old new s text n)
split_so files files' name old new s text (Splits.written source texts between read are w) =
    CutAnswered.accepted source (record { bytes = read.bytes; read = read.read.told; has = read.has }) (of (writes_end (length_lines (outputs name texts)) (outputs name texts) files files' between new s text w))
  where
    of : WritesEnd (length_lines (outputs name texts)) (outputs name texts) s text → IsSplit name source s text
    of (WritesEnd.whole e t) = IsSplit.whole texts are e t
    of (WritesEnd.failed i f at e t) = IsSplit.failed texts i f are at e t

report_so : (files : Files) (name : List ℕ) (old new : List ShelfCall) (s : Status) (text : List ℕ) → Reports files name old new s text → CutAnswered cutting.Report files name s text
report_so files name old new s text (Reports.no_source n) = CutAnswered.untaken (untaken_so files name old new s text n)
report_so files name old new s text (Reports.reported source read r) = CutAnswered.accepted source (record { bytes = read.bytes; read = read.read.told; has = read.has }) r

pub cut_so : (how : Cutting) (files files' : Files) (name : List ℕ) (old new : List ShelfCall) (s : Status) (text : List ℕ) → CutDone how files files' name old new s text → CutAnswered how files name s text
cut_so cutting.Split files files' name old new s text d = split_so files files' name old new s text d
cut_so cutting.Report files files' name old new s text d = report_so files name old new s text d.1

-- ---- statuses

pub cut_status : (how : Cutting) (files files' : Files) (name : List ℕ) (old new : List ShelfCall) (s : Status) (text : List ℕ) → CutDone how files files' name old new s text → IsOfCut s
cut_status how files files' name old new s text d =
    cut_answered_status IsOfCut (record { missing = tt; long = tt; failed = tt; refused = tt }) files s text how name (λ source c. of how source c) (cut_so how files files' name old new s text d)
  where
    of : (k : Cutting) (source : Source) → IsCut k name source s text → IsOfCut s
    of cutting.Split source (IsSplit.whole texts are e t) = subst IsOfCut (sym e) tt
    of cutting.Split source (IsSplit.failed texts i f are at e t) = subst IsOfCut (sym e) tt
    of cutting.Report source c = subst IsOfCut (sym c.status_is) tt

-- a report leaves the files as they are
pub with_files : (r : Result Due OutOfMemory) (how : Cutting) (files files' : Files) (name : List ℕ) (old new : List ShelfCall) → how ≡ cutting.Report → files' ≡ files
    → IfOk r (λ due. Reports files name old new due.status due.text.items) → IfOk r (λ due. CutDone how files files' name old new due.status due.text.items)
with_files (Ok due) how files files' name old new is kept h = subst (λ (k : Cutting). CutDone k files files' name old new due.status due.text.items) (sym is) (kept, h)
with_files (Err e) how files files' name old new is kept h = tt
