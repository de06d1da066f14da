use Rattle.std.proofs.Common.{◌-◌, ◌∙◌, ap, sym, rules}
use Rattle.std.specs.Int.{w128}
use Rattle.std.proofs.lemmas.Int.{to_z-of_z}
use Rattle.mdr_extents.specs.Extent.{annotated}
use Rattle.mdr_meaning.specs.Values.{wire_view}
use Rattle.mdr_reach.specs.Marks.{extent_long, extent_searched, siblings_of}
use Rattle.mdr_reach.proofs.ExtentLaws.{long_is, zero_start}
use Rattle.mdr_reach.proofs.extent.annotated.Goals as goal

pub returns-in-Array : goal.returns-in-Array
returns-in-Array c =
    c.of_length.ensures ∙ ap (extent_long (c.args.p.count - c.args.p.index)) (to_z-of_z w128 c.length_now.result (search rules) ∙ c.length_now.ensures)
    ∙ long_is c.args.scene.program.now c.args.scene.blocks.now.memory (wire_view c.args.p) _
    ∙ ap (annotated c.args.scene.program.now c.args.scene.blocks.now.memory (wire_view c.args.p) (siblings_of c.args.scene.program.now c.args.scene.blocks.now.handles c.args.siblings)) (sym c.in-Array.is)

pub returns-in-Sentinel : goal.returns-in-Sentinel
returns-in-Sentinel c =
    c.searched.ensures ∙ ap (extent_searched c.args.scene.program.now c.args.scene.blocks.now.memory (wire_view c.args.p)) c.field_in.ensures
    ∙ ap (annotated c.args.scene.program.now c.args.scene.blocks.now.memory (wire_view c.args.p) (siblings_of c.args.scene.program.now c.args.scene.blocks.now.handles c.args.siblings)) (sym c.in-Sentinel.is)

pub returns-in-NullTerm : goal.returns-in-NullTerm
returns-in-NullTerm c =
    c.searched-in-NullTerm.ensures ∙ zero_start c.args.scene.program.now c.args.scene.blocks.now.memory (wire_view c.args.p) (siblings_of c.args.scene.program.now c.args.scene.blocks.now.handles c.args.siblings)
    ∙ ap (annotated c.args.scene.program.now c.args.scene.blocks.now.memory (wire_view c.args.p) (siblings_of c.args.scene.program.now c.args.scene.blocks.now.handles c.args.siblings)) (sym c.in-NullTerm.is)
