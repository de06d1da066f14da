-- What services leave: states that hold, visible sets without the dead, and the ticks that were left.
use Rattle.std.proofs.Common.{◌≡◌, ℕ, Bool, true, false, ◌||◌, List, [], ◌∷◌, Option, Some, None, Result, Ok, Err, refl, ◌∙◌}
use Rattle.std.specs.Prelude.{nat_lt}
use Rattle.mdr_core.specs.declared.place.At.{At}
use Rattle.mdr_core.specs.declared.program.Program.{Program}
use Rattle.mdr_core.specs.declared.stop.StopKind.{StopKind}
use Rattle.mdr_core.specs.Layout.{chosen}
use Rattle.mdr_core.specs.Services.{Service, Kzalloc, Kcalloc, Kfree, Readl, Writel, Printk, RequestIrq, FreeIrq, Deliver, Combolock, Combounlock, Bug, Enter, Leave, service_numbered}
use Rattle.mdr_meaning.specs.declared.shape.Shape64.{Shape64}
use Rattle.mdr_meaning.specs.declared.wire.Wire.{Wire}
use Rattle.mdr_meaning.specs.declared.wire.Wire.TheVariants as wire
use Rattle.mdr_meaning.specs.Tree.{Asked}
use Rattle.mdr_meaning.specs.Values.{first_of, natural, rest_of}
use Rattle.mdr_model.specs.declared.message.BirthKind.{BirthKind}
use Rattle.mdr_model.specs.declared.message.BirthKind.TheVariants.{Auto, Heap}
use Rattle.mdr_model.specs.Memory.{Memory}
use Rattle.mdr_plain.specs.Locks.{acquire, release}
use Rattle.mdr_plain.specs.Services.{Served, allocated, as_now, as_served, asked_once_more, fails_now, freed, freed_by, gives, is_no_block, requested, served, served_by, when_changed}
use Rattle.mdr_plain.specs.Storage.{births, born, deaths, died, died_at}
use Rattle.mdr_plain.specs.World.{World, left}
use Rattle.mdr_holds.specs.Laws.{ServicesLeave}
use Rattle.mdr_holds.proofs.Serving.{services_serve}
use Rattle.mdr_holds.proofs.Views.{served_views}

-- ---- no tick passes

births_rest : (program : Program) (kind : BirthKind) (shapes : List Shape64) (w : World) → (births program kind shapes w).memory.clock.rest ≡ w.clock.rest
unfolding births born
births_rest program kind [] w = refl
births_rest program kind (s ∷ shapes) w = births_rest program kind shapes _

died_rest : (p : Wire) (w : World) → (died_at p w).clock.rest ≡ w.clock.rest
unfolding died
died_rest (wire.Ptr p) w = refl
died_rest (wire.Int k n) w = refl
died_rest wire.Null w = refl
died_rest wire.Dead w = refl
died_rest (wire.Fn f) w = refl
died_rest (wire.Lock s) w = refl
died_rest wire.NoValue w = refl

deaths_rest : (ps : List Wire) (w : World) → (deaths ps w).clock.rest ≡ w.clock.rest
deaths_rest [] w = refl
deaths_rest (p ∷ ps) w = deaths_rest ps (died_at p w) ∙ died_rest p w

either : (n : ℕ) (b : Bool) (x y : Served) → (left x).clock.rest ≡ n → (left y).clock.rest ≡ n → (left (chosen b x y)).clock.rest ≡ n
either n true x y e q = e
either n false x y e q = q

allocated_rest : (program : Program) (shapes : List Shape64) (w : World) → (left (allocated program shapes w)).clock.rest ≡ w.clock.rest
allocated_rest program [] w = refl
allocated_rest program (s ∷ shapes) w = either w.clock.rest (fails_now w || is_no_block program s) (gives wire.Null w) (as_served (births program Heap (s ∷ []) w)) refl (births_rest program Heap (s ∷ []) w)

freed_by_rest : (whole locked : Bool) (serial : ℕ) (at : At) (w : World) → (left (freed_by whole locked serial at w)).clock.rest ≡ w.clock.rest
unfolding died
freed_by_rest false locked serial at w = refl
freed_by_rest true true serial at w = refl
freed_by_rest true false serial at w = refl

freed_rest : (program : Program) (at : At) (p : Wire) (w : World) → (left (freed program at p w)).clock.rest ≡ w.clock.rest
freed_rest program at (wire.Ptr v) w = freed_by_rest _ _ v.serial at w
freed_rest program at (wire.Int k n) w = refl
freed_rest program at wire.Null w = refl
freed_rest program at wire.Dead w = refl
freed_rest program at (wire.Fn f) w = refl
freed_rest program at (wire.Lock s) w = refl
freed_rest program at wire.NoValue w = refl

requested_rest : (h : Option ℕ) (v : Wire) (w : World) → (left (requested h v w)).clock.rest ≡ w.clock.rest
requested_rest None v w = refl
requested_rest (Some f) v w = refl

changed_rest : (m : Result Memory StopKind) (at : At) (w : World) → (left (when_changed m at w)).clock.rest ≡ w.clock.rest
changed_rest (Ok m) at w = refl
changed_rest (Err kind) at w = refl

by_rest : (program : Program) (a : Asked) (s : Option Service) (w : World) → (left (served_by program a s w)).clock.rest ≡ w.clock.rest
by_rest program a (Some Kzalloc) w = allocated_rest program a.shapes (asked_once_more w)
by_rest program a (Some Kcalloc) w = allocated_rest program a.shapes (asked_once_more w)
by_rest program a (Some Kfree) w = freed_rest program a.at (first_of a.args) w
by_rest program a (Some Readl) w = either w.clock.rest (nat_lt (natural (first_of a.args)) 4096) _ _ refl refl
by_rest program a (Some Writel) w = either w.clock.rest (nat_lt (natural (first_of (rest_of a.args))) 4096) _ _ refl refl
by_rest program a (Some Printk) w = refl
by_rest program a (Some RequestIrq) w = requested_rest w.kept.handler (first_of a.args) w
by_rest program a (Some FreeIrq) w = refl
by_rest program a (Some Deliver) w = refl
by_rest program a (Some Combolock) w = changed_rest (acquire (first_of a.args) w) a.at w
by_rest program a (Some Combounlock) w = changed_rest (release (first_of a.args) w) a.at w
by_rest program a (Some Bug) w = refl
by_rest program a (Some Enter) w = births_rest program Auto a.shapes w
by_rest program a (Some Leave) w = deaths_rest a.args w
by_rest program a None w = refl

served_rest : (program : Program) (a : Asked) (w : World) → (left (served program a w)).clock.rest ≡ w.clock.rest
unfolding served
served_rest program a w = by_rest program (as_now w a) (service_numbered a.service) w

pub services_leave : ServicesLeave
services_leave = record { serve = services_serve; views = served_views; rest = served_rest }
