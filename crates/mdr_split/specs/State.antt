-- believed
-- Where a split run stands: the kernel half's state, what it waits for, and what goes on behind that.
use Rattle.std.specs.Prelude.{ℕ, List}
use Rattle.mdr_core.specs.declared.place.At.{At}
use Rattle.mdr_meaning.specs.declared.wire.Wire.{Wire}
use Rattle.mdr_meaning.specs.Tree.{Tree}
use Rattle.mdr_model.specs.declared.command.Command.{Command}
use Rattle.mdr_model.specs.declared.message.Message.{Message}
use Rattle.mdr_model.specs.declared.outcome.End.{End}
use Rattle.mdr_model.specs.Memory.{Memory}
use Rattle.mdr_plain.specs.World.{World}

-- the run's state, the agreed copy, and the messages sent
pub record Kernel : Type 0 where
  pub world : World
  pub agreed : Memory
  pub exchanges : ℕ

-- an upcall that is open: the function that it calls, how many functions were active before that one, and the serials of the objects of locals that were born in it and live
pub record Open : Type 0 where
  pub func : ℕ
  pub depth : ℕ
  pub entered : List ℕ

mutual
  -- where code of the kernel half began: a command called it; or user code did, at a statement of the upcall that is open, and passed these arguments
  pub data Base : Type 0 where
    Commanded : Base
    Down : (at : At) (func : ℕ) (args : List Wire) (upcall : Open) (rest : Rest) → Base

  -- what follows the return of the innermost upcall: it was a command's call of its function, and the result is noted; or code of the kernel half called back, and goes on with the result
  pub data Rest : Type 0 where
    Noted : Rest
    Resumes : (next : Wire → Tree) (base : Base) → Rest

-- the run is over, or it waits for the answer to a message, in the innermost of the upcalls that are open, with the commands that are still to begin
pub data Pending : Type 0 where
  Over : (end : End) (kernel : Kernel) → Pending
  Waits : (message : Message) (kernel : Kernel) (upcall : Open) (rest : Rest) (script : List Command) → Pending
