use Rattle.std.proofs.Common.{◌∷◌, refl}
use Rattle.std.specs.Prelude.{reverse}
use Rattle.mdr_viewed.specs.Viewed.{viewed}
use Rattle.mdr_world.specs.Driven.{driver}
use Rattle.mdr_watch.specs.Guarding.{sets_of}
use Rattle.mdr_watch.proofs.Calls.{ask_counts, ask_gains, ask_on, ask_out, ask_spends, ask_stays}
use Rattle.mdr_watch.proofs.asks.serve_beside.Goals as goal

pub gain-requires-clause-counted : goal.gain-requires-clause-counted
gain-requires-clause-counted c =
    ask_counts c.args.upcall c.args.world.now c.args.sets.now.inner (reverse c.args.sets.now.outer) (driver c.args.world.now.program (viewed (sets_of c.args.sets.now) c.args.world.now.world)) refl c.requires.same c.requires.guarded
    (record { rises = c.births-next.ensures.rises; below = c.births-next.ensures.below }) c.args.asked.now c.in_ok-served.served c.serve.new.world c.in_ok-served.ensures.served
    _ _ c.births-next.ensures.value c.blocks-in-Done.ensures.counted

pub returns-in_ok-gain-in-Done-clause-guarded : goal.returns-in_ok-gain-in-Done-clause-guarded
returns-in_ok-gain-in-Done-clause-guarded c =
    ask_gains c.args.upcall c.args.world.now c.args.sets.now.inner (reverse c.args.sets.now.outer) (driver c.args.world.now.program (viewed (sets_of c.args.sets.now) c.args.world.now.world)) refl c.requires.same c.requires.guarded
    (record { rises = c.births-next.ensures.rises; below = c.births-next.ensures.below }) c.args.asked.now c.in_ok-served.served c.serve.new.world c.in_ok-served.ensures.served
    c.gain.new.set _ c.in_ok-gain-in-Done.ensures.older c.blocks-in-Done.ensures.counted

pub returns-in-Stop-clause-guarded : goal.returns-in-Stop-clause-guarded
returns-in-Stop-clause-guarded c =
    ask_stays c.args.upcall c.args.world.now c.args.sets.now.inner (reverse c.args.sets.now.outer) (driver c.args.world.now.program (viewed (sets_of c.args.sets.now) c.args.world.now.world)) refl c.requires.same c.requires.guarded
    (record { rises = c.births-next.ensures.rises; below = c.births-next.ensures.below }) c.args.asked.now c.in_ok-served.served c.serve.new.world c.in_ok-served.ensures.served

pub returns-in_ok-gain-in-Done-clause-served : goal.returns-in_ok-gain-in-Done-clause-served
returns-in_ok-gain-in-Done-clause-served c =
    ask_on c.args.upcall c.args.world.now c.args.sets.now.inner (reverse c.args.sets.now.outer) (driver c.args.world.now.program (viewed (sets_of c.args.sets.now) c.args.world.now.world)) refl c.requires.same c.requires.guarded
    (record { rises = c.births-next.ensures.rises; below = c.births-next.ensures.below }) c.args.asked.now c.in_ok-served.served c.serve.new.world c.in_ok-served.ensures.served
    c.in-Done.results c.gain.new.set c.births-next.result _ c.blocks-in-Done.result.now.memory (driver c.serve.new.world.program (viewed (c.gain.new.set ∷ reverse c.args.sets.now.outer) c.serve.new.world.world))
    c.in-Done.is c.births-next.ensures.value refl c.blocks-in-Done.ensures.memory c.in_ok-gain-in-Done.ensures.gains refl

pub returns-in-Stop-clause-served : goal.returns-in-Stop-clause-served
returns-in-Stop-clause-served c =
    ask_out c.args.upcall c.args.world.now c.args.sets.now.inner (reverse c.args.sets.now.outer) (driver c.args.world.now.program (viewed (sets_of c.args.sets.now) c.args.world.now.world)) refl c.requires.same c.requires.guarded
    (record { rises = c.births-next.ensures.rises; below = c.births-next.ensures.below }) c.args.asked.now c.in_ok-served.served c.serve.new.world c.in_ok-served.ensures.served
    c.in-Stop.kind (driver c.serve.new.world.program (viewed (sets_of c.args.sets.now) c.serve.new.world.world)) c.in-Stop.is refl

pub returns-in_ok-gain-in-Done-clause-spent : goal.returns-in_ok-gain-in-Done-clause-spent
returns-in_ok-gain-in-Done-clause-spent c =
    ask_spends c.args.upcall c.args.world.now c.args.sets.now.inner (reverse c.args.sets.now.outer) (driver c.args.world.now.program (viewed (sets_of c.args.sets.now) c.args.world.now.world)) refl c.requires.same c.requires.guarded
    (record { rises = c.births-next.ensures.rises; below = c.births-next.ensures.below }) c.args.asked.now c.in_ok-served.served c.serve.new.world c.in_ok-served.ensures.served

pub returns-in-Stop-clause-spent : goal.returns-in-Stop-clause-spent
returns-in-Stop-clause-spent c =
    ask_spends c.args.upcall c.args.world.now c.args.sets.now.inner (reverse c.args.sets.now.outer) (driver c.args.world.now.program (viewed (sets_of c.args.sets.now) c.args.world.now.world)) refl c.requires.same c.requires.guarded
    (record { rises = c.births-next.ensures.rises; below = c.births-next.ensures.below }) c.args.asked.now c.in_ok-served.served c.serve.new.world c.in_ok-served.ensures.served
