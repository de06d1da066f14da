use Rattle.std.specs.Prelude.{reverse}
use Rattle.std.proofs.Common.{◌∙◌, sym}
use Rattle.mdr_meaning.specs.Values.{wire_of}
use Rattle.mdr_watch.proofs.Guards.{load_goes, load_stops}
use Rattle.mdr_watch.proofs.guarded.GuardedMemory.load.Goals as goal

pub returns-then-is_kept_out : goal.returns-then-is_kept_out
returns-then-is_kept_out c =
    sym (load_stops c.self.inside.world.program c.self.inside.sets.inner (reverse c.self.inside.sets.outer) c.self.inside.world.world c.args.self.now c.self.view_is (wire_of c.args.pointer) (sym c.is_kept_out.ensures ∙ c.if-is_kept_out.true))

pub returns : goal.returns
returns c =
    c.load.ensures
    ∙ load_goes c.self.inside.world.program c.self.inside.sets.inner (reverse c.self.inside.sets.outer) c.self.inside.world.world c.args.self.now c.self.view_is (wire_of c.args.pointer) (sym c.is_kept_out.ensures ∙ c.if-is_kept_out.false)
