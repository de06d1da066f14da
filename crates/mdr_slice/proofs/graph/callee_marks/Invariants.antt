use Rattle.std.proofs.Common.{length}
use Rattle.mdr_core.specs.Typing.{slots_of}
use Rattle.mdr_paths.specs.Marking.{TellsBelow}
use Rattle.mdr_slice.specs.Calls.{all_calls, body_code}
use Rattle.mdr_slice.specs.Graph.{OneReaches}
use Rattle.mdr_slice.proofs.graph.callee_marks.Given as goal

abbrev pub invariant-loop-func : goal.invariant-loop-func
invariant-loop-func l = TellsBelow (length l.program.funcs) l.func (OneReaches l.program (slots_of l.own) l.counts (all_calls (body_code l.own.body))) l.marks.items
