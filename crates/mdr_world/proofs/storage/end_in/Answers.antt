use Rattle.std.proofs.Common.{[], ◌∷◌, ◌++◌, sym, ◌∙◌, ap, subst}
use Rattle.mdr_mem.specs.Contents.{Contents, births_in}
use Rattle.mdr_mem.specs.declared.cells.Life.TheVariants as life
use Rattle.mdr_model.specs.Memory.{killed}
use Rattle.mdr_region.specs.Layout.{laid}
use Rattle.mdr_world.proofs.HandleLaws.{is_found, serial_found}
use Rattle.mdr_world.proofs.LaidLaws.{laid_stale, marked_death}
use Rattle.mdr_world.proofs.StorageLaws.{births-death, kill-dead}
use Rattle.mdr_world.specs.Stored.{AreMarked}
use Rattle.mdr_world.proofs.storage.end_in.Goals as goal

pub kill-requires : goal.kill-requires
kill-requires c = record { alive = is_found c.args.blocks.now.handles c.args.serial c.in-Some.b (sym c.find.ensures ∙ c.in-Some.is) }

pub returns-in-Some-clause-memory : goal.returns-in-Some-clause-memory
returns-in-Some-clause-memory c =
    ap (λ (s : Contents). s.memory) c.kill.ensures.dead
    ∙ ap (λ n. killed n c.args.blocks.now.memory) (serial_found c.args.blocks.now.handles c.args.serial c.in-Some.b (sym c.find.ensures ∙ c.in-Some.is))

pub returns-in-Some-clause-births : goal.returns-in-Some-clause-births
returns-in-Some-clause-births c = ap (λ (s : Contents). births_in s.lives) c.kill.ensures.dead ∙ births-death c.args.blocks.now.lives c.in-Some.b.serial

pub returns-in-None-clause-memory : goal.returns-in-None-clause-memory
returns-in-None-clause-memory c = kill-dead c.args.blocks.now c.births-in_order.ensures.in_order c.args.serial (sym c.find.ensures ∙ c.in-None.is)

pub returns-in-Some-clause-places : goal.returns-in-Some-clause-places
returns-in-Some-clause-places c = λ marked.
    ap (λ (s : Contents). laid s.lives) c.kill.ensures.dead
    ∙ ap (λ n. laid (c.args.blocks.now.lives ++ life.Death n ∷ [])) (serial_found c.args.blocks.now.handles c.args.serial c.in-Some.b (sym c.find.ensures ∙ c.in-Some.is))

pub returns-in-Some-clause-marked : goal.returns-in-Some-clause-marked
returns-in-Some-clause-marked c = λ marked. subst (λ (s : Contents). AreMarked s.lives s.handles) (sym c.kill.ensures.dead) (marked_death c.args.blocks.now.lives c.args.blocks.now.handles c.in-Some.b.serial marked)

pub returns-in-None-clause-places : goal.returns-in-None-clause-places
returns-in-None-clause-places c = λ marked. laid_stale c.args.blocks.now.lives c.args.blocks.now.handles c.args.serial (sym c.find.ensures ∙ c.in-None.is) marked

pub returns-in-None-clause-marked : goal.returns-in-None-clause-marked
returns-in-None-clause-marked c = λ marked. marked
