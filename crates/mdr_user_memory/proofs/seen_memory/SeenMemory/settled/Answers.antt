use Rattle.std.proofs.Common.{◌∙◌, sym, ap, subst}
use Rattle.mdr_user_memory.specs.Copied.{Copied}
use Rattle.mdr_user_memory.specs.Kept.{IsKept, Kept, past_in}
use Rattle.mdr_user_memory.proofs.KeptLaws.{settled_is, settled_kept}
use Rattle.mdr_user_memory.proofs.seen_memory.SeenMemory.settled.Goals as goal

pub user_memory-requires : goal.user_memory-requires
user_memory-requires c =
    subst (λ m. IsKept m c.self.inside.region c.self.inside.pairs) (sym c.told_copy-agreed.ensures)
    (settled_kept c.args.runs.now c.self.inside.agreed c.self.inside.region c.self.inside.pairs c.self.inside.view _ c.self.view_is c.self.invariant c.requires)

pub returns-clause-memory : goal.returns-clause-memory
returns-clause-memory c =
    ap (λ (k : Kept). k.agreed) c.user_memory.ensures
    ∙ (c.told_copy-agreed.ensures ∙ settled_is c.args.runs.now c.self.inside.agreed c.self.inside.region c.self.inside.pairs c.self.inside.view _ c.self.view_is c.requires)

pub returns-clause-view : goal.returns-clause-view
returns-clause-view c = ap (λ (x : Copied). x.view) c.self.view_is

pub returns-clause-past : goal.returns-clause-past
returns-clause-past c = ap past_in c.user_memory.ensures ∙ ap (λ (x : Copied). x.past) c.self.view_is
