use Rattle.std.proofs.Common.{◌∙◌, ap}
use Rattle.mdr_world.specs.Driven.{Driven}
use Rattle.mdr_watch.specs.Guarding.{guarded_accesses}
use Rattle.mdr_watch.proofs.guarded.GuardedMemory.birth.Goals as goal

pub returns-in-Ok-clause-pointers : goal.returns-in-Ok-clause-pointers
returns-in-Ok-clause-pointers c = c.in-Ok.ensures.pointers ∙ ap (λ (d : Driven). (guarded_accesses.birth d c.args.shapes.now).pointers) c.self.view_is

pub returns-in-Ok-clause-memory : goal.returns-in-Ok-clause-memory
returns-in-Ok-clause-memory c = c.in-Ok.ensures.memory ∙ ap (λ (d : Driven). (guarded_accesses.birth d c.args.shapes.now).memory) c.self.view_is
