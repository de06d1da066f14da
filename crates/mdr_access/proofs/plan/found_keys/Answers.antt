use Rattle.std.proofs.Common.{ap, ◌∙◌, length, not, refl}
use Rattle.std.specs.Prelude.{vec_items}
use Rattle.std.proofs.lemmas.List.{length-map}
use Rattle.mdr_access.proofs.WalkLaws.{keys_found}
use Rattle.mdr_access.proofs.plan.found_keys.Goals as goal

pub called_marks-requires : goal.called_marks-requires
called_marks-requires c = ap length c.as_slice.ensures.value ∙ ap length c.in_ok-skipped.ensures ∙ length-map c.args.led.now not ∙ c.requires

pub picked-requires : goal.picked-requires
picked-requires c = ap length c.as_slice-2.ensures.value ∙ c.in_ok-marks.ensures.size

pub returns : goal.returns
returns c =
    keys_found vec_items c.args.rows.now c.args.keys.now _ c.args.led.now c.in_ok-skipped.skipped.items _ c.in_ok-marks.marks.items _ c.in_ok-found.found.items c.in_ok-skipped.ensures c.as_slice.ensures.value refl c.in_ok-marks.ensures c.as_slice-2.ensures.value c.in_ok-found.ensures
