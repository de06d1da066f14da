use Rattle.std.proofs.Common.{refl}
use Rattle.mdr_far.proofs.FarLaws.{kept_empty, kept_from, loads_as, never_fails, none_yet}
use Rattle.mdr_far.proofs.local_far.LocalFarFar.load.Goals as goal

pub invariant_of-self : goal.invariant_of-self
invariant_of-self c = kept_from c.args.user.now c.args.plan.now c.load_anew.new.half c.in-Ok.loaded c.in-Ok.ensures.opened _ refl refl

pub invariant_of-self-in-Err : goal.invariant_of-self-in-Err
invariant_of-self-in-Err c = kept_empty _ refl c.in-Err.ensures.empty

pub returns-in-Ok-clause-loaded : goal.returns-in-Ok-clause-loaded
returns-in-Ok-clause-loaded c = loads_as c.args.user.now c.args.plan.now c.load_anew.new.half c.in-Ok.loaded c.in-Ok.ensures.opened

pub returns-in-Ok-clause-empty : goal.returns-in-Ok-clause-empty
returns-in-Ok-clause-empty c = none_yet c.args.user.now c.args.plan.now c.load_anew.new.half c.in-Ok.loaded c.in-Ok.ensures.opened

pub returns-in-Ok-clause-failed : goal.returns-in-Ok-clause-failed
returns-in-Ok-clause-failed c = λ failed. absurd (never_fails c.args.user.now c.args.plan.now c.load_anew.new.half c.in-Ok.loaded c.in-Ok.ensures.opened failed)
