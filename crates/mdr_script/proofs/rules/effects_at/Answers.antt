use Rattle.std.proofs.Common.{◌≡◌, Some, ap, sym, ◌∙◌}
use Rattle.std.specs.Option.{option_map}
use Rattle.mdr_script.specs.Rules.{effect_at, behind_effect}
use Rattle.mdr_script.proofs.Lists.{effects_step}
use Rattle.mdr_script.proofs.rules.effects_at.Goals as goal

pub loop-most-preserved : goal.loop-most-preserved
loop-most-preserved c =
    let read : effect_at c.args.any c.loop-most.rest.now ≡ Some (c.in_ok-effect.effect, c.in_ok-effect.behind.now) = sym c.effect_at.ensures ∙ ap (option_map (λ x. (x.0, x.1.now))) c.in_ok-effect.ensures.ok_part in
    let goes_on : behind_effect c.in_ok-effect.behind.now ≡ Some (Some c.in-Some.more.now) =
    sym c.behind_effect.ensures ∙ ap (option_map (option_map (λ r. r.now))) (c.in_ok-more.ensures.ok_part ∙ ap Some c.in-Some.is) in
    effects_step c.args.any c.loop-most.most c.loop-most.effects c.push.new.self c.loop-most.rest.now c.in_ok-effect.behind.now c.in-Some.more.now c.in_ok-effect.effect _ c.loop-most-test.true read goes_on c.in_ok-push.ensures.ok c.loop-most.invariant
