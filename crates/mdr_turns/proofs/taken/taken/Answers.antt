use Rattle.std.proofs.Common.{List, subst, sym}
use Rattle.mdr_kernel_memory.specs.Holding.{AreStorable}
use Rattle.mdr_model.specs.declared.message.Run.{Run}
use Rattle.mdr_watch.specs.Watching.{driver_in}
use Rattle.mdr_turns.specs.States.{kernel_in, rest_of, upcall_of}
use Rattle.mdr_turns.proofs.Legal.{told_storable, told_within}
use Rattle.mdr_turns.proofs.taken.taken.Goals as goal

pub applied-active-requires-clause-within : goal.applied-active-requires-clause-within
applied-active-requires-clause-within c = told_within (driver_in c.args.watch) (kernel_in c.args.active) (upcall_of c.args.active.open) (rest_of (driver_in c.args.watch) c.args.active.behind.frames) c.args.reply _ c.requires.legal c.in-Return.is

pub applied-active-requires-clause-storable : goal.applied-active-requires-clause-storable
applied-active-requires-clause-storable c = subst (λ (rs : List Run). AreStorable c.args.active.guarded.world.memory rs) (sym c.as_slice.ensures) (told_storable (driver_in c.args.watch) (kernel_in c.args.active) (upcall_of c.args.active.open) (rest_of (driver_in c.args.watch) c.args.active.behind.frames) c.args.reply _ c.requires.legal c.in-Return.is)

pub applied-active-requires-in-Down-clause-within : goal.applied-active-requires-in-Down-clause-within
applied-active-requires-in-Down-clause-within c = told_within (driver_in c.args.watch) (kernel_in c.args.active) (upcall_of c.args.active.open) (rest_of (driver_in c.args.watch) c.args.active.behind.frames) c.args.reply _ c.requires.legal c.in-Down.is

pub applied-active-requires-in-Down-clause-storable : goal.applied-active-requires-in-Down-clause-storable
applied-active-requires-in-Down-clause-storable c = subst (λ (rs : List Run). AreStorable c.args.active.guarded.world.memory rs) (sym c.as_slice-in-Down.ensures) (told_storable (driver_in c.args.watch) (kernel_in c.args.active) (upcall_of c.args.active.open) (rest_of (driver_in c.args.watch) c.args.active.behind.frames) c.args.reply _ c.requires.legal c.in-Down.is)

pub applied-active-requires-in-Ask-clause-within : goal.applied-active-requires-in-Ask-clause-within
applied-active-requires-in-Ask-clause-within c = told_within (driver_in c.args.watch) (kernel_in c.args.active) (upcall_of c.args.active.open) (rest_of (driver_in c.args.watch) c.args.active.behind.frames) c.args.reply _ c.requires.legal c.in-Ask.is

pub applied-active-requires-in-Ask-clause-storable : goal.applied-active-requires-in-Ask-clause-storable
applied-active-requires-in-Ask-clause-storable c = subst (λ (rs : List Run). AreStorable c.args.active.guarded.world.memory rs) (sym c.as_slice-in-Ask.ensures) (told_storable (driver_in c.args.watch) (kernel_in c.args.active) (upcall_of c.args.active.open) (rest_of (driver_in c.args.watch) c.args.active.behind.frames) c.args.reply _ c.requires.legal c.in-Ask.is)

pub applied-active-requires-in-Stop-clause-within : goal.applied-active-requires-in-Stop-clause-within
applied-active-requires-in-Stop-clause-within c = told_within (driver_in c.args.watch) (kernel_in c.args.active) (upcall_of c.args.active.open) (rest_of (driver_in c.args.watch) c.args.active.behind.frames) c.args.reply _ c.requires.legal c.in-Stop.is

pub applied-active-requires-in-Stop-clause-storable : goal.applied-active-requires-in-Stop-clause-storable
applied-active-requires-in-Stop-clause-storable c = subst (λ (rs : List Run). AreStorable c.args.active.guarded.world.memory rs) (sym c.as_slice-in-Stop.ensures) (told_storable (driver_in c.args.watch) (kernel_in c.args.active) (upcall_of c.args.active.open) (rest_of (driver_in c.args.watch) c.args.active.behind.frames) c.args.reply _ c.requires.legal c.in-Stop.is)

pub returns-in-Stop-clause-kept : goal.returns-in-Stop-clause-kept
returns-in-Stop-clause-kept c = c.over_in.ensures.kept c.args.watch (c.applied-active-in-Stop.ensures.kept c.args.watch c.requires.active).same
