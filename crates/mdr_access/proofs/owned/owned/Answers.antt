use Rattle.std.proofs.Common.{ap, ◌∙◌, subst, length, map}
use Rattle.mdr_paths.specs.Marking.{Tells}
use Rattle.mdr_paths.specs.Numbers.{marks_of}
use Rattle.mdr_paths.proofs.Told.{told_nodes}
use Rattle.mdr_access.specs.Owned.{Owns}
use Rattle.mdr_access.specs.Told.{form_of}
use Rattle.mdr_access.proofs.owned.owned.Goals as goal

pub returns : goal.returns
returns c =
    told_nodes _ _ _ _ (c.in_ok-nodes.ensures ∙ ap marks_of c.as_slice-2.ensures.value)
    (subst (λ fs. Tells (length c.args.keys.now) (Owns c.args.program.now fs c.args.keys.now) c.in_ok-marks.marks.items) (ap (map form_of) c.as_slice.ensures.value ∙ c.in_ok-forms.ensures) c.in_ok-marks.ensures)
