use Rattle.std.proofs.Common.{◌≡◌, ℕ, ◌<◌, map, Some, slice_get}
use Rattle.mdr_core.specs.Code.{CallOf}
use Rattle.mdr_core.specs.Folds.{call_of}
use Rattle.mdr_core.specs.Typing.{slots_of}
use Rattle.mdr_slice.specs.Graph.{Reaches}
use Rattle.mdr_slice.proofs.graph.one_reaches.Given as goal

-- none of the calls so far may
abbrev pub invariant-loop-call : goal.invariant-loop-call
invariant-loop-call l = (i : ℕ) (call : CallOf) → i < l.call-index → slice_get (map (λ r. call_of r.now) l.calls) i ≡ Some call → Reaches l.program (slots_of l.own) l.counts call l.func → ⊥
