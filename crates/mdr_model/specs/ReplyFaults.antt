-- believed
-- Which messages are replies, and at which stops user code may end.
use Rattle.std.specs.Prelude.{ℕ, Bool, not, ◌&&◌, ◌||◌, List, [], ◌∷◌, Option, Some, None, ◌==◌, is_none, find}
use Rattle.mdr_core.specs.declared.stop.StopKind.{StopKind}
use Rattle.mdr_core.specs.declared.stop.StopKind.TheVariants as stop
use Rattle.mdr_model.specs.declared.message.Message.{Message}
use Rattle.mdr_model.specs.declared.message.Message.TheVariants as message
use Rattle.mdr_model.specs.declared.reply.Reply.{Reply}

-- ---- replies

-- the messages that can be awaited
abbrev pub reply_of : Message → Option Reply
reply_of (message.Reply reply) = Some reply
reply_of _ = None

-- ---- stops

-- a stop's number, from 1
abbrev pub stop_number : StopKind → ℕ
stop_number stop.Null = 1
stop_number stop.Dead = 2
stop_number stop.Bounds = 3
stop_number stop.Overflow = 4
stop_number stop.DivZero = 5
stop_number stop.Shift = 6
stop_number stop.Compare = 7
stop_number stop.BadCast = 8
stop_number stop.BadCall = 9
stop_number stop.NoValue = 10
stop_number stop.LockHeld = 11
stop_number stop.LockFree = 12
stop_number stop.Depth = 13
stop_number stop.Bug = 14
stop_number stop.Annotation = 15
stop_number stop.Ticks = 16
stop_number stop.Atomic = 17

-- the stops at which user code may end: those of services come from the kernel half, and a callback's too
abbrev pub user_stops : List StopKind
user_stops =
    stop.Null ∷ stop.Dead ∷ stop.Bounds ∷ stop.Overflow ∷ stop.DivZero ∷ stop.Shift ∷ stop.Compare ∷ stop.BadCast ∷ stop.BadCall
    ∷ stop.NoValue ∷ stop.Depth ∷ stop.Annotation ∷ stop.Ticks ∷ []

-- the one with a number
unfoldable pub user_stop : ℕ → Option StopKind
user_stop n = find (λ kind. stop_number kind == n) user_stops

-- a run that is out of ticks has used them all
abbrev pub is_stop : (number ticks rest : ℕ) → Bool
is_stop number ticks rest = not (is_none (user_stop number)) && (not (number == 16) || ticks == rest)
