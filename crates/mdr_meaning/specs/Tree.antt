-- believed
-- The meaning of a piece of code on one side: the tree of its observable steps, in which what comes next is a function of the answer.
use Rattle.std.specs.Prelude.{ℕ, List}
use Rattle.mdr_core.specs.declared.stop.StopKind.{StopKind}
use Rattle.mdr_core.specs.declared.place.At.{At}
use Rattle.mdr_meaning.specs.declared.wire.Wire.{Wire}
use Rattle.mdr_meaning.specs.declared.shape.Shape64.{Shape64}

-- a service that is asked for
pub record Asked : Type 0 where
  pub service : ℕ
  pub at : At
  pub args : List Wire
  pub shapes : List Shape64
  pub bytes : List ℕ

pub data Tree : Type 0 where
  -- nothing was started
  Idle : Tree
  -- a question is open, and what follows its answers
  Waits : (next : List Wire → Tree) → Tree
  -- the function that was started last ended with a value, and what lay below goes on
  Done : (value : Wire) (below : Tree) → Tree
  Stop : (kind : StopKind) (at : At) → Tree
  -- one statement or loop test begins, with so many functions active
  Tick : (at : At) (depth : ℕ) (next : Tree) → Tree
  -- one cell through a pointer
  Load : (at : At) (pointer : Wire) (next : Wire → Tree) → Tree
  Store : (at : At) (pointer value : Wire) (next : Tree) → Tree
  -- so many bytes from a pointer on, as one access
  Read : (at : At) (pointer : Wire) (count : ℕ) (next : List ℕ → Tree) → Tree
  -- a local's pointer is read: it may name an object that died meanwhile (C99 6.2.4, paragraph 2)
  Fresh : (at : At) (value : Wire) (next : Wire → Tree) → Tree
  -- objects of locals are born, with a pointer to each, and die
  Birth : (at : At) (shapes : List Shape64) (next : List Wire → Tree) → Tree
  Death : (at : At) (pointers : List Wire) (next : Tree) → Tree
  Ask : (asked : Asked) (next : List Wire → Tree) → Tree
  -- a call of a function of the other half, with so many functions active before it
  Cross : (at : At) (func : ℕ) (args : List Wire) (depth : ℕ) (next : Wire → Tree) → Tree
