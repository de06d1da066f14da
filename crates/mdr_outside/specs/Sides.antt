-- believed
-- What contracts see of a shelf, a sink and a far side, each as one record.
use Rattle.std.specs.Prelude.{ℕ, List, Option}
use Rattle.mdr_outside.specs.Calls.{ShelfCall, FarCall}
use Rattle.mdr_outside.specs.declared.far.Exchange.{Exchange}
use Rattle.mdr_outside.specs.declared.far.Loaded.{Loaded}
use Rattle.mdr_outside.specs.declared.sink.SinkCall.{SinkCall}

-- a shelf: its files where they are told, its calls, and its counts of reads that failed, that missed and that were too long, and of writes that failed
pub record ShelfSide : Type 0 where
  pub files : Option (List ℕ → Option (List ℕ))
  pub calls : List ShelfCall
  pub faults : ℕ
  pub absent : ℕ
  pub long : ℕ
  pub unwritten : ℕ

-- a sink: its bytes where they are told, its calls, and its count of writes that failed
pub record SinkSide : Type 0 where
  pub written : Option (List ℕ)
  pub calls : List SinkCall
  pub faults : ℕ

-- a far side: its last load, the exchanges since then, its calls, and its count of answers that failed
pub record FarSide : Type 0 where
  pub loaded : Option Loaded
  pub exchanges : List Exchange
  pub calls : List FarCall
  pub faults : ℕ
