use Rattle.std.proofs.Common.{drop}
use Rattle.mdr_core.specs.declared.plan.Key.TheVariants as key
use Rattle.mdr_reach.proofs.KeyLaws.{IsLeft}
use Rattle.mdr_reach.proofs.keys.lone_keys.Given as goal

abbrev pub invariant-loop-k : goal.invariant-loop-k
invariant-loop-k l = record {
  globals : IsLeft l.lone.globals.items key.Global (drop l.k-index l.keys) l.keys;
  types : IsLeft l.lone.types.items key.Elem (drop l.k-index l.keys) l.keys;
}
