use Rattle.std.specs.Prelude.{reverse}
use Rattle.std.proofs.Common.{false, suc, ◌∙◌, ap, subst}
use Rattle.mdr_events.specs.Values.{wires_of}
use Rattle.mdr_meaning.specs.Bodies.{started}
use Rattle.mdr_meaning.specs.Tree.{Tree}
use Rattle.mdr_whole.specs.Pausing.{IsWaiting, enters_in}
use Rattle.mdr_watch.proofs.Calls.{below_is, below_stays}
use Rattle.mdr_watch.proofs.downcalls.enter_beside.Goals as goal

pub returns-clause-waiting : goal.returns-clause-waiting
returns-clause-waiting c = subst (λ p. IsWaiting p c.in_ok-went.went) c.kernel_code-code.ensures.program c.in_ok-went.ensures.waiting

pub returns-clause-guarded : goal.returns-clause-guarded
returns-clause-guarded c =
    below_stays c.args.watch c.kernel_code-code.result c.kernel_code-code.ensures.code c.args.sets.now.inner (reverse c.args.sets.now.outer) c.args.world.now.world c.enter.new.world.world c.requires.guarded
    (λ p s. started s (suc c.args.world.now.world.clock.rest) c.args.crossing.now.func (wires_of c.args.crossing.now.args) c.args.crossing.now.depth Tree.Idle) c.in_ok-went.went
    (c.in_ok-went.ensures.went ∙ ap (λ xs. enters_in false c.kernel_code-code.result c.args.crossing.now.func (wires_of xs) c.args.crossing.now.depth c.args.world.now.world) c.as_slice-args.ensures)

pub returns-clause-went : goal.returns-clause-went
returns-clause-went c =
    below_is c.args.watch c.kernel_code-code.result c.kernel_code-code.ensures.code c.args.sets.now.inner (reverse c.args.sets.now.outer) c.args.world.now.world c.enter.new.world.world c.requires.guarded
    (λ p s. started s (suc c.args.world.now.world.clock.rest) c.args.crossing.now.func (wires_of c.args.crossing.now.args) c.args.crossing.now.depth Tree.Idle) c.in_ok-went.went
    (c.in_ok-went.ensures.went ∙ ap (λ xs. enters_in false c.kernel_code-code.result c.args.crossing.now.func (wires_of xs) c.args.crossing.now.depth c.args.world.now.world) c.as_slice-args.ensures)
