use Rattle.std.proofs.Common.{◌≡◌, ◌≤◌, ◌+◌, ◌-◌, ◌*◌, suc, max, min, drop, map}
use Rattle.mdr_lower.specs.Levels.{tried, clause_levels, levels}
use Rattle.mdr_lower.proofs.nesting.+nesting.Given as goal

abbrev pub invariant-tried_levels-loop-clause : goal.invariant-tried_levels-loop-clause
invariant-tried_levels-loop-clause l = record {
  fits : l.left ≤ l.room;
  so_far : max l.most (l.room - l.left + min (tried (map clause_levels (drop l.clause-index l.clauses)) (suc (levels l.default))) l.left) ≡ min (tried (map clause_levels l.clauses) (suc (levels l.default))) l.room;
}

abbrev pub invariant-levels-loop-s : goal.invariant-levels-loop-s
invariant-levels-loop-s l = max l.most (min (levels (drop l.s-index l.statements)) l.room) ≡ min (levels l.statements) l.room

-- each part of a statement has less room

abbrev pub decreases-levels : goal.decreases-levels
decreases-levels l = 5 * l.room + 4

abbrev pub decreases-step_levels : goal.decreases-step_levels
decreases-step_levels l = 5 * l.room + 3

abbrev pub decreases-tried_levels : goal.decreases-tried_levels
decreases-tried_levels l = 5 * l.room + 2

abbrev pub decreases-clause_levels : goal.decreases-clause_levels
decreases-clause_levels l = 5 * l.room + 1

abbrev pub decreases-part_levels : goal.decreases-part_levels
decreases-part_levels l = 5 * l.room
