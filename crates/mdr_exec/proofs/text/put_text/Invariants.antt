use Rattle.std.proofs.Common.{◌≡◌, drop}
use Rattle.mdr_meaning.specs.Sides.{Locals}
use Rattle.mdr_meaning.specs.Values.{wire_of}
use Rattle.mdr_exec.specs.Effects.{texts_of}
use Rattle.mdr_exec.proofs.text.put_text.Given as goal

-- what is left of the text goes into the elements from here on
abbrev pub invariant-loop-i : goal.invariant-loop-i
invariant-loop-i g l =
    (locals : Locals) → texts_of g.C.Memory.accesses l.kind (wire_of l.pointer) l.i (drop l.i l.bytes) locals l.memory ≡ texts_of g.C.Memory.accesses l.kind (wire_of l.pointer) 0 l.bytes locals l.fn.memory
