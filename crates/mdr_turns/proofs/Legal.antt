-- What a reply without a fault spends and stores: ticks that are left, and values as they are now.
use Rattle.std.proofs.Common.{◌≡◌, ◌≤◌, ℕ, suc, true, List, [], ◌∷◌, Option, Some, None, refl, sym, ◌∙◌, ap}
use Rattle.std.specs.Prelude.{is_some, nat_le}
use Rattle.std.specs.List.{list_all}
use Rattle.std.proofs.lemmas.Bool.{leb-true}
use Rattle.mdr_core.specs.declared.refusal.RefuseKind.TheVariants as refusal
use Rattle.mdr_limits.proofs.Faultless.{faultless}
use Rattle.mdr_meaning.specs.declared.wire.Wire.{Wire}
use Rattle.mdr_meaning.specs.declared.wire.Wire.TheVariants as wire
use Rattle.mdr_meaning.specs.declared.wire.WireView.{WireView}
use Rattle.mdr_model.specs.declared.message.New.{New}
use Rattle.mdr_model.specs.declared.message.Run.{Run}
use Rattle.mdr_model.specs.declared.message.SetRun.{SetRun}
use Rattle.mdr_model.specs.declared.memory.Cell.{Cell}
use Rattle.mdr_model.specs.declared.reply.Reply.{Reply}
use Rattle.mdr_model.specs.declared.reply.Reply.TheVariants as replies
use Rattle.mdr_model.specs.Copies.{CellValue, numbered}
use Rattle.mdr_model.specs.Faults.{is_known, set_run_of, unless}
use Rattle.mdr_model.specs.Legal.{runs_told}
use Rattle.mdr_model.specs.Memory.{Memory, born_at, is_live, normal, normal_if}
use Rattle.mdr_model.specs.Sets.{follows_maybe, is_in}
use Rattle.mdr_model.proofs.Accepted.{no_faults, or_none, unless_passes}
use Rattle.mdr_model.proofs.Tests.{and_left, and_right}
use Rattle.mdr_split.specs.Fits.{Places, is_view, is_view_of_maybe}
use Rattle.mdr_split.specs.Legal.{fault_of, fits_cell, kernel_places, reply_runs_fault, run_fault, runs_fault, ticks_fault}
use Rattle.mdr_split.specs.State.{Kernel, Open, Rest}
use Rattle.mdr_watched.specs.Driver.{Driver}
use Rattle.mdr_watched.specs.Views.{top}
use Rattle.mdr_kernel_memory.specs.Holding.{AreSettled, AreStorable, IsSettled}

-- ---- a view of a block is as it is now

born_lives : (m : Memory) (serial : ℕ) (n : New) → born_at m serial ≡ Some n → is_live m serial ≡ true
unfolding is_live
born_lives m serial n e = ap is_some e

view_lives : (p : Places) (v : WireView) → is_view p.program p.memory (wire.Ptr v) ≡ true → is_live p.memory v.serial ≡ true
view_lives p v = of (born_at p.memory v.serial) refl
  where
    of : (o : Option New) → born_at p.memory v.serial ≡ o → is_view_of_maybe p.program o v ≡ true → is_live p.memory v.serial ≡ true
    of None e t = absurd cc
    of (Some n) e t = born_lives p.memory v.serial n e

settled : (p : Places) (v : Wire) → is_view p.program p.memory v ≡ true → IsSettled p.memory v
unfolding normal
settled p (wire.Ptr v) e = ap (λ t. normal_if t v) (view_lives p v e)
settled p (wire.Int k n) e = refl
settled p wire.Null e = refl
settled p wire.Dead e = refl
settled p (wire.Fn f) e = refl
settled p (wire.Lock s) e = refl
settled p wire.NoValue e = refl

all_settled : (p : Places) (vs : List Wire) → list_all (is_view p.program p.memory) vs ≡ true → AreSettled p.memory vs
all_settled p [] e = tt
all_settled p (v ∷ vs) e = (settled p v (and_left _ _ e), all_settled p vs (and_right (is_view p.program p.memory v) _ e))

-- ---- runs without a fault

run_settled : (p : Places) (view : List Cell) (before : Option SetRun) (i : ℕ) (r : Run) → run_fault p view before i r ≡ None → AreSettled p.memory r.values
unfolding run_fault
run_settled p view before i r e =
    let tests = no_faults (
    unless (follows_maybe before (set_run_of r)) refusal.RunOrder i
    ∷ unless (list_all (λ (x : CellValue). is_in view x.cell) (numbered r.serial r.first r.values)) refusal.OutsideSet i
    ∷ unless (list_all (is_known p.paired) r.values) refusal.UnknownSerial i
    ∷ unless (list_all (is_view p.program p.memory) r.values) refusal.BadView i
    ∷ unless (list_all (fits_cell p) (numbered r.serial r.first r.values)) refusal.BadValue i
    ∷ []) e in
    all_settled p r.values (unless_passes _ _ _ tests.1.1.1.0)

runs_settled : (p : Places) (view : List Cell) (before : Option SetRun) (i : ℕ) (rs : List Run) → runs_fault p view before i rs ≡ None → AreStorable p.memory rs
unfolding runs_fault
runs_settled p view before i [] e = tt
runs_settled p view before i (r ∷ rs) e =
    let both = or_none (run_fault p view before i r) (runs_fault p view (Some (set_run_of r)) (suc i) rs) e in
    (run_settled p view before i r both.0, runs_settled p view (Some (set_run_of r)) (suc i) rs both.1)

-- ---- a reply without a fault

are_left : (k : Kernel) (ticks : ℕ) → ticks_fault k ticks ≡ None → ticks ≤ k.world.clock.rest
are_left k ticks e = leb-true ticks k.world.clock.rest (unless_passes (nat_le ticks k.world.clock.rest) refusal.TooManyTicks 0 e)

-- the ticks that a reply tells
abbrev pub ticks_told : Reply → ℕ
ticks_told (replies.Return return) = return.ticks
ticks_told (replies.Down down) = down.ticks
ticks_told (replies.Ask ask) = ask.ticks
ticks_told (replies.Stop stop) = stop.ticks

module _ (d : Driver) (k : Kernel) (upcall : Open) (rest : Rest) where
  ticks_left : (reply : Reply) → fault_of d k upcall rest reply ≡ None → ticks_told reply ≤ k.world.clock.rest
  ticks_left (replies.Return return) e = are_left k return.ticks (faultless d k upcall rest (replies.Return return) e).0
  ticks_left (replies.Down down) e = are_left k down.ticks (faultless d k upcall rest (replies.Down down) e).1.0
  ticks_left (replies.Ask ask) e = are_left k ask.ticks (faultless d k upcall rest (replies.Ask ask) e).1.0
  ticks_left (replies.Stop stop) e = are_left k stop.ticks (faultless d k upcall rest (replies.Stop stop) e).0

  told_faultless : (reply : Reply) → fault_of d k upcall rest reply ≡ None → reply_runs_fault d k (runs_told reply) ≡ None
  told_faultless (replies.Return return) e = (faultless d k upcall rest (replies.Return return) e).1.1.1.0
  told_faultless (replies.Down down) e = (faultless d k upcall rest (replies.Down down) e).1.1.1.1.1.1.0
  told_faultless (replies.Ask ask) e = (faultless d k upcall rest (replies.Ask ask) e).1.1.1.1.0
  told_faultless (replies.Stop stop) e = (faultless d k upcall rest (replies.Stop stop) e).1.1.1.0

  -- of a reply that is this one
  pub told_within : (reply told : Reply) → fault_of d k upcall rest reply ≡ None → reply ≡ told → ticks_told told ≤ k.world.clock.rest
  told_within reply told e is = ticks_left told (ap (fault_of d k upcall rest) (sym is) ∙ e)

  pub told_storable : (reply told : Reply) → fault_of d k upcall rest reply ≡ None → reply ≡ told → AreStorable k.world.memory (runs_told told)
  told_storable reply told e is = runs_settled (kernel_places d k) (top k.world.views) None 0 (runs_told told) (told_faultless told (ap (fault_of d k upcall rest) (sym is) ∙ e))
