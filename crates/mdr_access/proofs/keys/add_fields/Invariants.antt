use Rattle.std.proofs.Common.{◌≡◌, ◌++◌, drop}
use Rattle.mdr_access.specs.AllKeys.{field_keys}
use Rattle.mdr_access.proofs.keys.add_fields.Given as goal

abbrev pub invariant-loop-f : goal.invariant-loop-f
invariant-loop-f l = l.out.items ++ field_keys l.program l.s l.f (drop l.f l.fields) ≡ l.fn.out.items ++ field_keys l.program l.s 0 l.fields
