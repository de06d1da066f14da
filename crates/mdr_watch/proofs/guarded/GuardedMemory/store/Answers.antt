use Rattle.std.specs.Prelude.{reverse}
use Rattle.std.proofs.Common.{◌∙◌, sym}
use Rattle.mdr_meaning.specs.Values.{wire_of}
use Rattle.mdr_watch.proofs.Guards.{store_goes, store_stops}
use Rattle.mdr_watch.proofs.guarded.GuardedMemory.store.Goals as goal

pub returns-then-is_kept_out-clause-made : goal.returns-then-is_kept_out-clause-made
returns-then-is_kept_out-clause-made c =
    store_stops c.self.inside.world.program c.self.inside.sets.inner (reverse c.self.inside.sets.outer) c.self.inside.world.world c.args.self.now c.self.view_is (wire_of c.args.pointer) (wire_of c.args.value) (sym c.is_kept_out.ensures ∙ c.if-is_kept_out.true)

pub returns-clause-made : goal.returns-clause-made
returns-clause-made c =
    store_goes c.self.inside.world.program c.self.inside.sets.inner (reverse c.self.inside.sets.outer) c.self.inside.world.world c.args.self.now c.self.view_is (wire_of c.args.pointer) (wire_of c.args.value) (sym c.is_kept_out.ensures ∙ c.if-is_kept_out.false)
    c.store.result c.store.new.self c.store.ensures.made
