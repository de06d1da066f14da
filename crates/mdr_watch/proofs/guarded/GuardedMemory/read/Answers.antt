use Rattle.std.specs.Prelude.{reverse}
use Rattle.std.proofs.Common.{◌∙◌, sym}
use Rattle.std.proofs.lemmas.Result.{IfOk-weaker}
use Rattle.mdr_meaning.specs.Values.{wire_of}
use Rattle.mdr_watch.proofs.Guards.{read_goes, read_stops}
use Rattle.mdr_watch.proofs.guarded.GuardedMemory.read.Goals as goal

pub returns-then-are_kept_out : goal.returns-then-are_kept_out
returns-then-are_kept_out c =
    sym (read_stops c.self.inside.world.program c.self.inside.sets.inner (reverse c.self.inside.sets.outer) c.self.inside.world.world c.args.self.now c.self.view_is (wire_of c.args.pointer) c.args.count (sym c.are_kept_out.ensures ∙ c.if-are_kept_out.true))

pub returns : goal.returns
returns c =
    IfOk-weaker c.read.result _ _
    (λ bytes h. h ∙ read_goes c.self.inside.world.program c.self.inside.sets.inner (reverse c.self.inside.sets.outer) c.self.inside.world.world c.args.self.now c.self.view_is (wire_of c.args.pointer) c.args.count (sym c.are_kept_out.ensures ∙ c.if-are_kept_out.false))
    c.read.ensures
