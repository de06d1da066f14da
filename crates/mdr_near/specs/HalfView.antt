-- protocol
-- The fields of a kernel half, as its state.
use Rattle.std.specs.Prelude.{◌≡◌, true, [], length}
use Rattle.mdr_core.specs.Sound.{IsSound}
use Rattle.mdr_near.specs.HalfState.{HalfState}
use Rattle.mdr_near.specs.declared.half.KernelHalf.TheInside.{Inside}

abbrev pub half_state : Inside → HalfState
half_state s = record { program = s.program.now; plan = s.plan.now; is_fresh = s.is_fresh; memory = s.memory.items; messages = s.messages; layout = s.layout }

-- the program is sound, the plan has a half for each function, and before the run no memory is held and no message was sent
pub record IsKept (s : Inside) : Type 0 where
  pub sound : IsSound s.program.now
  pub fit : length s.plan.now.halves ≡ length s.program.now.funcs
  pub first : s.is_fresh ≡ true → s.memory.items ≡ []
  pub none : s.is_fresh ≡ true → s.messages ≡ 0
