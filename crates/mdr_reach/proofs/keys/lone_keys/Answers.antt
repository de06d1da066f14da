use Rattle.std.proofs.Common.{arith, refl}
use Rattle.mdr_core.specs.declared.plan.Key.TheVariants as key
use Rattle.mdr_reach.proofs.KeyLaws.{left_first, left_more, left_none}
use Rattle.mdr_reach.proofs.keys.lone_keys.Goals as goal

pub loop-k-init : goal.loop-k-init
loop-k-init c = record {
  globals = left_first key.Global _ c.args.keys.now c.new.ensures.items;
  types = left_first key.Elem _ c.args.keys.now c.new-2.ensures.items;
}

pub loop-k-preserved : goal.loop-k-preserved
loop-k-preserved c = record {
  globals = left_more key.Global _ _ c.args.keys.now c.loop-k.k-index _ _ (omega arith) refl c.in_ok-add_key.ensures.globals c.loop-k.invariant.globals;
  types = left_more key.Elem _ _ c.args.keys.now c.loop-k.k-index _ _ (omega arith) refl c.in_ok-add_key.ensures.types c.loop-k.invariant.types;
}

pub returns : goal.returns
returns c = record {
  globals = left_none key.Global _ c.args.keys.now c.loop-k.k-index (omega arith) c.loop-k.invariant.globals;
  types = left_none key.Elem _ c.args.keys.now c.loop-k.k-index (omega arith) c.loop-k.invariant.types;
}
