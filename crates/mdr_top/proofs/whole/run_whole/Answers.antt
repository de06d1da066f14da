use Rattle.mdr_due.specs.declared.due.Due.{Due}
use Rattle.mdr_slicer.proofs.Steps.{ok_so}
use Rattle.mdr_top.specs.WholeRuns.{Runs}
use Rattle.mdr_top.specs.Wholes.{IsOfWhole}
use Rattle.mdr_top.proofs.WholeLaws.{whole_status, whole_unwritten}
use Rattle.mdr_top.proofs.whole.run_whole.Goals as goal

pub returns-clause-own : goal.returns-clause-own
returns-clause-own g c =
    ok_so c.whole.result (λ (due : Due). Runs (g.S.Shelf.files c.args.shelf.now) c.args.source_name.now c.args.script_name.now c.args.manner (g.S.Shelf.calls c.args.shelf.now) (g.S.Shelf.calls c.whole.new.shelf) due.status due.text.items) (λ (due : Due). IsOfWhole due.status)
    (λ due runs. whole_status (g.S.Shelf.files c.args.shelf.now) c.args.source_name.now c.args.script_name.now c.args.manner (g.S.Shelf.calls c.args.shelf.now) (g.S.Shelf.calls c.whole.new.shelf) due.status due.text.items runs) c.whole.ensures.done

pub returns-clause-unwritten : goal.returns-clause-unwritten
returns-clause-unwritten g c = ok_so c.whole.result _ _ (λ due runs. whole_unwritten _ _ _ _ _ _ _ _ runs) c.whole.ensures.done
