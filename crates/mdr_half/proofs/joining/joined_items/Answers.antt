use Rattle.std.proofs.Common.{length, ap, sym, ◌∙◌, arith}
use Rattle.mdr_half.proofs.Pairing.{nothing_left, joins_on, refused_on, kernel_goes_on, user_goes_on, both_end}
use Rattle.mdr_half.proofs.joining.joined_items.Goals as goal

pub returns-in-None-next : goal.returns-in-None-next
returns-in-None-next c =
    let at = c.loop-mine in
    kernel_goes_on at.items _ _ _ at.last c.in-Some.mine _ c.in-Some.ensures.steps.0
    (nothing_left _ (sym at.invariant.theirs_left ∙ c.in-None-next.ensures.cases.0)) at.invariant.so_far

pub returns-in-Err : goal.returns-in-Err
returns-in-Err c =
    let at = c.loop-mine in
    refused_on c.in-Err.e at.items _ _ _ _ at.last c.in-Some.mine c.in-Some-next.other _ c.in-Some.ensures.steps.0 c.in-Some-next.ensures.cases.0
    at.invariant.so_far c.in-Err.ensures

pub loop-mine-preserved : goal.loop-mine-preserved
loop-mine-preserved c =
    let at = c.loop-mine in
    let mine = c.in-Some.ensures.steps in
    let theirs = c.in-Some-next.ensures.cases in record {
      mine_left = let was = at.invariant.mine_left in let gone = mine.1 in let short = ap length mine.0 in omega arith;
      theirs_left = let was = at.invariant.theirs_left in let gone = theirs.1 in let short = ap length theirs.0 in omega arith;
      so_far = joins_on at.items c.push.new.self _ _ _ _ at.last c.in-Some.mine c.in-Some-next.other c.in-Ok.item _ mine.0 theirs.0
          at.invariant.so_far c.in-Ok.ensures c.in_ok-push.ensures.ok;
    }

pub returns-in-Some-next-2 : goal.returns-in-Some-next-2
returns-in-Some-next-2 c =
    let at = c.loop-mine in
    user_goes_on at.items _ _ _ at.last c.in-Some-next-2.other _ (nothing_left _ (sym at.invariant.mine_left ∙ c.in-None.ensures.steps.0))
    c.in-Some-next-2.ensures.cases.0 at.invariant.so_far

pub returns-in-None-next-2 : goal.returns-in-None-next-2
returns-in-None-next-2 c =
    let at = c.loop-mine in
    both_end at.items _ _ at.last _ (nothing_left _ (sym at.invariant.mine_left ∙ c.in-None.ensures.steps.0))
    (nothing_left _ (sym at.invariant.theirs_left ∙ c.in-None-next-2.ensures.cases.0)) at.invariant.so_far
