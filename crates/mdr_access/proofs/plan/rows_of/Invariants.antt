use Rattle.std.proofs.Common.{◌≡◌, ℕ, ◌<◌, length, map, get_or, []}
use Rattle.std.specs.Prelude.{vec_items}
use Rattle.mdr_access.proofs.WalkLaws.{OwnsRow}
use Rattle.mdr_access.proofs.plan.rows_of.Given as goal

abbrev pub invariant-loop-own : goal.invariant-loop-own
invariant-loop-own l = record {
  size : length l.rows.items ≡ l.own-index;
  rows : (f : ℕ) → f < l.own-index → OwnsRow l.program l.keys f (get_or (map vec_items l.rows.items) f []);
}
