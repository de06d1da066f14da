use Rattle.std.proofs.Common.{ap}
use Rattle.mdr_world.specs.Driven.{Driven}
use Rattle.mdr_watch.proofs.guarded.Guarded.world.Goals as goal

pub returns-clause-memory : goal.returns-clause-memory
returns-clause-memory c = ap (λ (d : Driven). d.world.memory) c.self.view_is

pub returns-clause-clock : goal.returns-clause-clock
returns-clause-clock c = ap (λ (d : Driven). d.world.clock) c.self.view_is

pub returns-clause-kept : goal.returns-clause-kept
returns-clause-kept c = ap (λ (d : Driven). d.world.kept) c.self.view_is

pub returns-clause-program : goal.returns-clause-program
returns-clause-program c = ap (λ (d : Driven). d.program) c.self.view_is

pub returns-clause-lives : goal.returns-clause-lives
returns-clause-lives c = ap (λ (d : Driven). d.world.lives) c.self.view_is
