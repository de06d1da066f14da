use Rattle.std.proofs.Common.{sym, subst}
use Rattle.mdr_user_memory.specs.Kept.{IsKept, Kept}
use Rattle.mdr_user_memory.proofs.KeptLaws.{kept_same, take_fresh, take_kept, take_sized}
use Rattle.mdr_user_memory.specs.Lived.{LivesIn, lived_by}
use Rattle.mdr_user_memory.proofs.user_memory.UserMemory.take.Goals as goal

pub take_told-requires-clause-linked : goal.take_told-requires-clause-linked
take_told-requires-clause-linked c = c.self.invariant.paired.twin.linked

pub take_told-requires-clause-sized : goal.take_told-requires-clause-sized
take_told-requires-clause-sized c =
    take_sized c.args.program.now c.args.told.deaths.now c.args.told.news.now c.args.told.runs.now c.self.inside.agreed c.self.inside.region c.self.inside.pairs _ c.self.view_is c.self.invariant c.requires.lives

pub take_told-requires-clause-fresh : goal.take_told-requires-clause-fresh
take_told-requires-clause-fresh c =
    take_fresh c.args.program.now c.args.told.deaths.now c.args.told.news.now c.args.told.runs.now c.self.inside.agreed c.self.inside.region c.self.inside.pairs _ c.self.view_is c.self.invariant c.requires.lives

pub invariant_of-self : goal.invariant_of-self
invariant_of-self c =
    subst (λ m. IsKept m c.take_told.new.region c.take_told.new.pairs) (sym c.put.ensures)
    (take_kept c.args.program.now c.args.told.deaths.now c.args.told.news.now c.args.told.runs.now c.self.inside.agreed c.self.inside.region c.self.inside.pairs _ c.self.view_is c.self.invariant c.requires.lives
    c.take_told.new.region c.take_told.new.pairs c.args.copy c.requires.leads c.requires.kept c.in-Ok.ensures.moves)

pub invariant_of-self-in-Err : goal.invariant_of-self-in-Err
invariant_of-self-in-Err c =
    kept_same c.self.inside.agreed c.self.inside.region c.take_told.new.region c.self.inside.pairs c.take_told.new.pairs c.in-Err.ensures.same_memory c.in-Err.ensures.same_pairs c.self.invariant

pub returns-in-Ok-clause-lived : goal.returns-in-Ok-clause-lived
returns-in-Ok-clause-lived c =
    subst (λ (k : Kept). LivesIn (lived_by c.args.program.now c.args.told.deaths.now c.args.told.news.now) k.region k.pairs c.take_told.new.region c.take_told.new.pairs) c.self.view_is c.in-Ok.ensures.lived
