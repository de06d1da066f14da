-- What is done in each way of a run.
use Rattle.std.proofs.Common.{◌≡◌, ℕ, List, Result, Ok, Err, sym, subst}
use Rattle.std.specs.Prelude.{IfOk, OnErr}
use Rattle.mdr_core.specs.declared.memory_error.OutOfMemory.{OutOfMemory}
use Rattle.mdr_due.specs.declared.due.Due.{Due}
use Rattle.mdr_top.specs.declared.manner.Manner.{Manner}
use Rattle.mdr_top.specs.WholeRuns.{Runs, RunsPart}
use Rattle.mdr_top.specs.declared.words.Way.{Way}
use Rattle.mdr_top.specs.declared.words.Way.TheVariants as way
use Rattle.mdr_top.specs.Done.{RunDoneBy, RunPartBy}
use Rattle.mdr_top.specs.Sides.{Change}
use Rattle.mdr_top.specs.Words.{OfFiles}

-- a run on one memory leaves the far side alone
module _ (r : Result Due OutOfMemory) (in_way : Way) (manner : Manner) (source_name script_name : List ℕ) (c : Change) (is : in_way ≡ way.Whole manner) (far_same : c.after.far ≡ c.before.far) where
  pub whole_done : IfOk r (λ (due : Due). Runs c.before.shelf.files source_name script_name manner c.before.shelf.calls c.after.shelf.calls due.status due.text.items) → IfOk r (RunDoneBy (OfFiles source_name script_name) in_way c)
  whole_done runs = of r runs
    where
      of : (o : Result Due OutOfMemory) → IfOk o (λ (due : Due). Runs c.before.shelf.files source_name script_name manner c.before.shelf.calls c.after.shelf.calls due.status due.text.items) → IfOk o (RunDoneBy (OfFiles source_name script_name) in_way c)
      of (Ok due) h = subst (λ (w : Way). RunDoneBy (OfFiles source_name script_name) w c due) (sym is) (record { runs = h; far_same = far_same })
      of (Err e) h = tt

  pub whole_part : OnErr r (RunsPart c.before.shelf.files source_name script_name c.before.shelf.calls c.after.shelf.calls) → OnErr r (RunPartBy (OfFiles source_name script_name) in_way c)
  whole_part runs = of r runs
    where
      of : (o : Result Due OutOfMemory) → OnErr o (RunsPart c.before.shelf.files source_name script_name c.before.shelf.calls c.after.shelf.calls) → OnErr o (RunPartBy (OfFiles source_name script_name) in_way c)
      of (Ok due) h = tt
      of (Err e) h = subst (λ (w : Way). RunPartBy (OfFiles source_name script_name) w c) (sym is) (record { runs = h; far_same = far_same })
