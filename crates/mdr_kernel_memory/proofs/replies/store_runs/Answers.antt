use Rattle.std.proofs.Common.{◌∙◌, ap, subst, sym}
use Rattle.mdr_model.specs.Copies.{put_runs}
use Rattle.mdr_model.specs.Memory.{Memory}
use Rattle.mdr_watch.specs.Guarding.{IsGuarded, sets_of}
use Rattle.mdr_world.specs.Driven.{Driven}
use Rattle.mdr_kernel_memory.specs.Holding.{AreStorable}
use Rattle.mdr_kernel_memory.proofs.Beside.{guarded_with, stored_beside}
use Rattle.mdr_kernel_memory.proofs.replies.store_runs.Goals as goal

pub put_runs-requires : goal.put_runs-requires
put_runs-requires c = subst (λ (m : Memory). AreStorable m c.args.runs.now) (sym (ap (λ (d : Driven). d.world.memory) c.parts-world.ensures.is)) c.requires

pub beside-requires : goal.beside-requires
beside-requires c =
    subst (λ (d : Driven). IsGuarded (sets_of c.parts-world.result.sets) d.world) (sym c.put_runs.ensures)
    (guarded_with (sets_of c.parts-world.result.sets) (put_runs c.args.runs.now c.parts-world.result.world.world.memory) c.parts-world.result.world c.parts-world.ensures.guarded)

pub returns : goal.returns
returns c = c.beside.ensures ∙ stored_beside c.args.runs.now (sets_of c.parts-world.result.sets) c.parts-world.result.world c.put_runs.new.world c.args.guarded c.parts-world.ensures.is c.put_runs.ensures
