use Rattle.std.proofs.Common.{◌∙◌, ap, subst, sym}
use Rattle.mdr_model.specs.Copies.{put_runs}
use Rattle.mdr_model.specs.Memory.{Memory}
use Rattle.mdr_world.specs.Driven.{Driven}
use Rattle.mdr_kernel_memory.specs.Holding.{AreStorable, holding}
use Rattle.mdr_kernel_memory.proofs.replies.apply.Goals as goal

pub store_runs-requires : goal.store_runs-requires
store_runs-requires c = subst (λ (m : Memory). AreStorable m c.args.runs.now) (sym (ap (λ (d : Driven). d.world.memory) c.spend-spent.ensures)) c.requires.storable

pub returns : goal.returns
returns c = c.store_runs.ensures ∙ ap (λ (d : Driven). holding (put_runs c.args.runs.now d.world.memory) d) c.spend-spent.ensures
