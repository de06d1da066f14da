use Rattle.std.proofs.Common.{◌∙◌, ap, map, arith}
use Rattle.std.proofs.lemmas.Result.{IfOk-weaker}
use Rattle.mdr_core.specs.Layout.{repeated}
use Rattle.mdr_meaning.specs.Values.{wire_of}
use Rattle.mdr_world.proofs.ZeroLaws.{none_past, zeros-repeated}
use Rattle.mdr_world.proofs.births.zeros.Goals as goal

pub returns : goal.returns
returns c =
    IfOk-weaker c.repeated.result _ _
    (λ vs e. ap (map wire_of) (e ∙ ap (repeated c.args.shape.count) (c.as_slice.ensures ∙ c.in_ok-element.ensures)) ∙ zeros-repeated c.args.shape.count _) c.repeated.ensures

pub returns-then-shape-len : goal.returns-then-shape-len
returns-then-shape-len c = ap (map wire_of) c.new.ensures ∙ none_past c.args.program.now c.args.shape.ty c.args.shape.count (omega (arith, c.len.ensures, c.if-shape-len.true))
