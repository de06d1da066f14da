use Rattle.mdr_due.specs.declared.due.Due.{Due}
use Rattle.mdr_slicer.specs.Slicing.{Splits}
use Rattle.mdr_slicer.proofs.Steps.{ok_so}
use Rattle.mdr_top.specs.declared.words.Cutting.TheVariants as cutting
use Rattle.mdr_top.specs.Cuts.{IsOfCut}
use Rattle.mdr_top.proofs.CutLaws.{cut_status, with_files}
use Rattle.mdr_top.proofs.cutting.cut.Goals as goal

pub returns-in-Split-clause-own : goal.returns-in-Split-clause-own
returns-in-Split-clause-own g c =
    ok_so c.split.result (λ (due : Due). Splits (g.S.Shelf.files c.args.shelf.now) (g.S.Shelf.files c.split.new.shelf) c.args.name.now (g.S.Shelf.calls c.args.shelf.now) (g.S.Shelf.calls c.split.new.shelf) due.status due.text.items) (λ (due : Due). IsOfCut due.status)
    (λ due d. cut_status cutting.Split (g.S.Shelf.files c.args.shelf.now) (g.S.Shelf.files c.split.new.shelf) c.args.name.now (g.S.Shelf.calls c.args.shelf.now) (g.S.Shelf.calls c.split.new.shelf) due.status due.text.items d) c.split.ensures.done

pub returns-in-Report-clause-done : goal.returns-in-Report-clause-done
returns-in-Report-clause-done g c =
    with_files c.report.result c.args.how (g.S.Shelf.files c.args.shelf.now) (g.S.Shelf.files c.report.new.shelf) c.args.name.now (g.S.Shelf.calls c.args.shelf.now) (g.S.Shelf.calls c.report.new.shelf) c.in-Report.is c.report.ensures.kept c.report.ensures.done
