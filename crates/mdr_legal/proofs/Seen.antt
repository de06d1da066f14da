-- What an answer is judged by.
use Rattle.std.proofs.Common.{◌≡◌, ℕ, zero, suc, ◌+◌, ◌*◌, min, nat_le, nat_lt, ◌&&◌, [], ◌∷◌, length, slice_get, arith, refl, sym, ap, ◌∙◌}
use Rattle.mdr_core.specs.declared.refusal.RefuseKind.TheVariants as refusal
use Rattle.mdr_legal.specs.declared.standing.Standing.{Standing}
use Rattle.mdr_legal.specs.Waiting.{IsWhere, driver_at, kernel_at, kernel_with, open_at, sets_below}
use Rattle.mdr_model.specs.declared.reply.Reply.{Reply}
use Rattle.mdr_model.specs.declared.reply.Reply.TheVariants as replies
use Rattle.mdr_model.specs.Faults.{first_fault, unless}
use Rattle.mdr_split.specs.Fits.{fits}
use Rattle.mdr_split.specs.Legal.{args_fault, fault_of, fits_service, has_down_stub, is_ask_place, is_awaited, is_user_place, kernel_places, params_of, reply_runs_fault, service_fault, ticks_fault}
use Rattle.mdr_split.specs.Services.{asked_of}
use Rattle.mdr_split.specs.State.{Kernel, Noted, Open, Rest}
use Rattle.mdr_watched.specs.Driver.{Driver}
use Rattle.mdr_watched.specs.Views.{top}

-- the state with no more in it than an answer is judged by, where so many upcalls are open below the innermost
abbrev bare : ℕ → Kernel → Kernel
bare n k = kernel_with k.world.memory k.agreed (top k.world.views) n k.exchanges k.world.clock.ticks k.world.clock.rest k.world.kept.calls

so_many : (n : ℕ) → length (sets_below n) ≡ n
so_many zero = refl
so_many (suc n) = ap suc (so_many n)

-- what the code counts with is what the definition counts
pub awaited_at : (s : Standing) (ticks told : ℕ) → told ≡ min ticks s.rest → nat_le (2 * s.exchanges + 2 * (s.below + 1)) (8 * (s.ticks + told) + 6 * s.calls) ≡ is_awaited (kernel_at s) ticks
unfolding is_awaited
awaited_at s ticks told e =
    let open_so : s.below + 1 ≡ suc (length (sets_below s.below)) = omega (arith) ∙ ap suc (sym (so_many s.below)) in
    λ i. nat_le (2 * s.exchanges + 2 * open_so i) (8 * (s.ticks + e i) + 6 * s.calls)

awaited_there : (n : ℕ) (k : Kernel) (ticks : ℕ) → length k.world.views ≡ suc n → is_awaited (bare n k) ticks ≡ is_awaited k ticks
unfolding is_awaited
awaited_there n k ticks e =
    ap (λ u. nat_le (2 * k.exchanges + 2 * u) (8 * (k.world.clock.ticks + min ticks k.world.clock.rest) + 6 * k.world.kept.calls)) (ap suc (so_many n) ∙ sym e)

bare_judges : (d : Driver) (n : ℕ) (k : Kernel) (u : Open) (rest : Rest) → length k.world.views ≡ suc n → (r : Reply) → fault_of d (bare n k) u Noted r ≡ fault_of d k u rest r
unfolding fault_of fits_service service_fault
bare_judges d n k u rest e (replies.Return return) = refl
bare_judges d n k u rest e (replies.Down down) =
    ap (λ b. first_fault (
    unless b refusal.NotAwaited 0
    ∷ ticks_fault k down.ticks
    ∷ unless (is_user_place d down.at) refusal.BadPlace 0
    ∷ unless (nat_lt u.depth down.depth && nat_le down.depth 255) refusal.BadDepth 0
    ∷ unless (has_down_stub d down.func) refusal.NoStub 0
    ∷ args_fault (fits (kernel_places d k)) 0 (params_of (slice_get d.program.funcs down.func)) down.args
    ∷ reply_runs_fault d k down.runs
    ∷ []))
    (awaited_there n k down.ticks e)
bare_judges d n k u rest e (replies.Ask ask) =
    ap (λ b. first_fault (
    unless b refusal.NotAwaited 0
    ∷ ticks_fault k ask.ticks
    ∷ unless (is_ask_place d ask.service ask.at) refusal.BadPlace 0
    ∷ service_fault d k u (asked_of ask)
    ∷ reply_runs_fault d k ask.runs
    ∷ []))
    (awaited_there n k ask.ticks e)
bare_judges d n k u rest e (replies.Stop stop) = refl

-- the code's state is that of the half
here : (s : Standing) (k : Kernel) (u : Open) → IsWhere s k u → (r : Reply) → fault_of (driver_at s) (bare s.below k) u Noted r ≡ fault_of (driver_at s) (kernel_at s) (open_at s) Noted r
here s k u w r = λ i.
    fault_of (driver_at s) (kernel_with (w.memory i) (w.agreed i) (w.view i) s.below (w.exchanges i) (w.ticks i) (w.rest i) (w.calls i)) (record { func = w.func i; depth = w.depth i; entered = w.entered i }) Noted r

pub judged_there : (s : Standing) (k : Kernel) (u : Open) → IsWhere s k u → (rest : Rest) (r : Reply) → fault_of (driver_at s) (kernel_at s) (open_at s) Noted r ≡ fault_of (driver_at s) k u rest r
judged_there s k u w rest r = sym (here s k u w r) ∙ bare_judges (driver_at s) s.below k u rest w.below r
