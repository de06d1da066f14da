-- for proofs
-- A reply is made with fuel for the ticks that the messages grant, and more makes no other.
use Rattle.std.specs.Prelude.{◌≡◌, ℕ, ◌+◌, ◌<◌, List, map}
use Rattle.mdr_meaning.specs.Cut.{cut}
use Rattle.mdr_model.specs.KernelState.{Reading}
use Rattle.mdr_model.specs.User.{allowance, granted}
use Rattle.mdr_split.specs.User.{AwaitsAnswer, AwaitsBack, Delivered, Down, Nothing, User, Work, deliver, first_user, user_after, user_reply}
use Rattle.mdr_watched.specs.Driver.{Driver}

-- ---- what is open, up to so many ticks that later messages grant

abbrev pub cut_down : ℕ → Down → Down
cut_down r down = record { stub = down.stub; func = down.func; depth = down.depth; goes = λ v. cut r (down.goes v) }

-- an answer grants no ticks: its tree goes on with those that were left
abbrev pub cut_work : ℕ → Work → Work
cut_work r Nothing = Nothing
cut_work r (AwaitsBack down below) = AwaitsBack (cut_down r down) (map (cut_down r) below)
cut_work r (AwaitsAnswer stub asked view left goes below) = AwaitsAnswer stub asked view left (λ vs. cut (r + left) (goes vs)) (map (cut_down r) below)

abbrev pub cut_user : ℕ → User → User
cut_user r u = record { agreed = u.agreed; entered = u.entered; work = cut_work r u.work }

-- the reply as it is
abbrev pub cut_delivered : ℕ → Delivered → Delivered
cut_delivered r d = record { reply = d.reply; user = cut_user r d.user }

-- ---- replies

-- with any fuel above the ticks that all messages grant
abbrev pub RepliesTakeAnyFuel : Type 0
RepliesTakeAnyFuel =
    (d : Driver) (fuel : ℕ) (before : List Reading) (last : Reading) → allowance before + granted last < fuel
    → user_reply d before last ≡ (deliver d fuel (user_after d fuel (first_user d) before) last).reply
