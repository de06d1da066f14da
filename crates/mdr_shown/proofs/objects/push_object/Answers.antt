use Rattle.mdr_shown.proofs.ObjectLaws.{none_more, one_more}
use Rattle.mdr_shown.proofs.objects.push_object.Goals as goal

pub returns-in_ok-push-in-Some : goal.returns-in_ok-push-in-Some
returns-in_ok-push-in-Some c = one_more _ _ _ _ c.in-Some.born _ c.args.objects.now.items _ c.in-Some.ensures c.in_ok-object-in-Some.ensures c.in_ok-push-in-Some.ensures.items

pub returns-in-None : goal.returns-in-None
returns-in-None c = none_more c.args.world.now.program c.args.met.now.serials.items c.args.world.now.world.memory c.args.serial c.args.objects.now.items c.in-None.ensures
