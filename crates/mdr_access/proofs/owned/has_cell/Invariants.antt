use Rattle.std.proofs.Common.{◌≡◌, ℕ, ◌<◌, Some, None}
use Rattle.mdr_core.specs.Layout.{key_at}
use Rattle.mdr_access.proofs.owned.has_cell.Given as goal

-- none of the cells so far has
abbrev pub invariant-loop-cell : goal.invariant-loop-cell
invariant-loop-cell l = (c : ℕ) → c < l.cell → key_at l.program None l.number c ≡ Some l.key → ⊥
