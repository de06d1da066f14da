use Rattle.std.proofs.Common.{refl, sym, subst, ap}
use Rattle.mdr_user_memory.specs.Kept.{Kept}
use Rattle.mdr_user_code.specs.Standing.{driver_in}
use Rattle.mdr_user_code.specs.Tidings.{TellsTo}
use Rattle.mdr_user_code.proofs.ReadyLaws.{proceeds}
use Rattle.mdr_user_code.proofs.delivery.proceed.Goals as goal

pub prepare-requires-clause-goes : goal.prepare-requires-clause-goes
prepare-requires-clause-goes c = (c.args.turn, c.requires.goes)

pub run-requires-clause-ready : goal.run-requires-clause-ready
run-requires-clause-ready c = c.in_ok-prepare.ensures.ready

pub run-requires-clause-below : goal.run-requires-clause-below
run-requires-clause-below c = c.in_ok-prepare.ensures.waits

pub take-requires : goal.take-requires
take-requires c = subst (λ (k : Kept). TellsTo (driver_in c.args.scene) k.agreed c.args.message.now c.args.turn.sight.copy) (sym c.in_ok-prepare.ensures.memory) c.requires.tells

pub returns : goal.returns
returns c = proceeds (driver_in c.args.scene) c.args.state.now c.prepare.new.state _ c.run.new.state c.take.new.memory c.args.message.now c.args.turn c.in_ok-reply.reply c.in_ok-prepare.ensures refl c.in_ok-take.ensures.copy c.in_ok-reply.ensures.replies c.in_ok-take.ensures.lived c.in_ok-reply.ensures.past
