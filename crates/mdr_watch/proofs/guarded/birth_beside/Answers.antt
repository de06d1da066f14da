use Rattle.std.specs.Prelude.{reverse}
use Rattle.std.proofs.Common.{◌∙◌}
use Rattle.mdr_watch.proofs.Guards.{birth_guarded, birth_leaves, birth_points}
use Rattle.mdr_watch.proofs.guarded.birth_beside.Goals as goal

pub returns-clause-pointers : goal.returns-clause-pointers
returns-clause-pointers c = c.in_ok-pointers.ensures.pointers ∙ birth_points c.args.world.now.program c.args.sets.now.inner (reverse c.args.sets.now.outer) c.args.world.now.world c.args.shapes.now c.requires

pub returns-clause-memory : goal.returns-clause-memory
returns-clause-memory c = birth_leaves c.args.world.now.program c.args.sets.now.inner (reverse c.args.sets.now.outer) c.args.world.now.world c.args.shapes.now c.requires c.birth.new.self c.in_ok-pointers.ensures.memory

pub returns-clause-guarded : goal.returns-clause-guarded
returns-clause-guarded c = birth_guarded c.args.world.now.program c.args.sets.now.inner (reverse c.args.sets.now.outer) c.args.world.now.world c.args.shapes.now c.requires c.birth.new.self c.in_ok-pointers.ensures.memory
