-- What each service leaves, asked as a fair tree asks it.
use Rattle.std.proofs.Common.{◌≡◌, inl, inr, ℕ, zero, suc, ◌+◌, ◌*◌, ◌<◌, ◌≤◌, Bool, true, false, ◌||◌, List, [], ◌∷◌, ◌++◌, length, map, slice_get, Option, Some, None, Result, Ok, Err, pos, negsuc, refl, sym, ap, ◌∙◌, subst, arith}
use Rattle.std.specs.Prelude.{◌==◌, nat_lt}
use Rattle.std.proofs.lemmas.Bool.{and_parts, eq-eqb}
use Rattle.std.proofs.lemmas.Int.{ints}
use Rattle.mdr_core.specs.declared.kind.Kind.TheVariants.{U32, S32}
use Rattle.mdr_core.specs.declared.place.At.{At}
use Rattle.mdr_core.specs.declared.program.Program.{Program}
use Rattle.mdr_core.specs.declared.stop.StopKind.{StopKind}
use Rattle.mdr_core.specs.declared.stop.StopKind.TheVariants as stop
use Rattle.mdr_core.specs.declared.types.Ty.{Ty, out-Ty}
use Rattle.mdr_core.specs.declared.types.Ty.TheOpen.{Ty-F}
use Rattle.mdr_core.specs.declared.types.Ty.TheVariants as type
use Rattle.mdr_core.specs.declared.types.Ty.TheVariants.{outs-Fun, outs-Lock}
use Rattle.mdr_core.specs.declared.value.LockState.{LockState}
use Rattle.mdr_core.specs.Kinds.{is_in_range}
use Rattle.mdr_core.specs.Layout.{Alone, chosen, leaves, struct_by, struct_cells}
use Rattle.mdr_core.specs.Services.{Service, Kzalloc, Kcalloc, Kfree, Readl, Writel, Printk, RequestIrq, FreeIrq, Deliver, Combolock, Combounlock, Bug, Enter, Leave}
use Rattle.mdr_core.specs.Sound.{IsSound}
use Rattle.mdr_core.proofs.Laid.{type_has_cells}
use Rattle.mdr_core.proofs.Lying.{cells_of_type}
use Rattle.mdr_core.proofs.Ranges.{in_range-from}
use Rattle.mdr_device.specs.Machines.{read as read_register, written}
use Rattle.mdr_meaning.specs.declared.shape.Shape64.{Shape64}
use Rattle.mdr_meaning.specs.declared.wire.Wire.{Wire}
use Rattle.mdr_meaning.specs.declared.wire.Wire.TheVariants as wire
use Rattle.mdr_meaning.specs.declared.wire.WireView.{WireView}
use Rattle.mdr_meaning.specs.Fair.{AllFit, AreBorn, IsAsk, IsServed, Leaves, TakesHandler, after, is_first_type}
use Rattle.mdr_meaning.specs.Fit.{Fits, FitsLayer, IsDataPointer, Knowledge, PointsTo}
use Rattle.mdr_meaning.specs.Pointers.{size}
use Rattle.mdr_meaning.specs.Tree.{Asked}
use Rattle.mdr_meaning.specs.Values.{first_of, natural, rest_of, saturated_u32}
use Rattle.mdr_meaning.specs.Within.{Uses}
use Rattle.mdr_meaning.proofs.FitLaws.{to_pointer}
use Rattle.mdr_model.specs.declared.memory.Cell.{Cell}
use Rattle.mdr_model.specs.declared.message.BirthKind.{BirthKind}
use Rattle.mdr_model.specs.declared.message.BirthKind.TheVariants.{Auto, Heap}
use Rattle.mdr_model.specs.declared.message.New.{New}
use Rattle.mdr_model.specs.Memory.{Memory, born_at, cell_at, cell_of, everywhere, normal, put, reached}
use Rattle.mdr_plain.specs.declared.outcome.Happened.TheVariants as happened
use Rattle.mdr_plain.specs.Locks.{acquire, acquired, changed, is_locked, lock_in, release, released, taken_as, with_lock}
use Rattle.mdr_plain.specs.Services.{allocated, as_now, as_served, asked_once_more, fails_now, freed, freed_by, function_named, gives, gives_none, is_heap, is_no_block, is_whole, register_read, register_written, requested, served, served_by, stops, was_read, when_changed, with_device}
use Rattle.mdr_plain.specs.Storage.{births, born, deaths, died, died_at, next_serial, with_memory}
use Rattle.mdr_plain.specs.World.{Kept, Ran, Ended, World, noted}
use Rattle.mdr_holds.specs.Holding.{Holds, IsHandler, IsWord}
use Rattle.mdr_holds.specs.Laws.{GivesServed, Serve}
use Rattle.mdr_holds.specs.Leaving.{AreObjects, IsAsBefore, Later, Leads, ended, stopped}
use Rattle.mdr_holds.proofs.Accesses.{IsReached, cell_type, reaches}
use Rattle.mdr_holds.proofs.Devices.{device_read, device_written}
use Rattle.mdr_holds.proofs.Fitting.{all_now, some_is}
use Rattle.mdr_holds.proofs.Memories.{live_born}
use Rattle.mdr_holds.proofs.Objects.{AreBornBy, AreDead, AreJoined, IsSized, births_leave, objects_behind, objects_born, objects_died, objects_now, objects_stay}
use Rattle.mdr_holds.proofs.Steps.{MayDie, death_later, device_later, kept_later, later_from, later_on, later_same, put_later}

-- ---- births and deaths leave what is kept

pub births_kept : (program : Program) (kind : BirthKind) (shapes : List Shape64) (w : World) → (births program kind shapes w).memory.kept ≡ w.kept
unfolding births born
births_kept program kind [] w = refl
births_kept program kind (s ∷ shapes) w = births_kept program kind shapes _

died_kept : (p : Wire) (w : World) → (died_at p w).kept ≡ w.kept
unfolding died
died_kept (wire.Ptr p) w = refl
died_kept (wire.Int k n) w = refl
died_kept wire.Null w = refl
died_kept wire.Dead w = refl
died_kept (wire.Fn f) w = refl
died_kept (wire.Lock s) w = refl
died_kept wire.NoValue w = refl

pub deaths_kept : (ps : List Wire) (w : World) → (deaths ps w).kept ≡ w.kept
deaths_kept [] w = refl
deaths_kept (p ∷ ps) w = deaths_kept ps (died_at p w) ∙ died_kept p w

pub handling_by : (w w' : World) → w'.kept ≡ w.kept → IsAsBefore w w'
handling_by w w' e = ap (λ (k : Kept). k.in_handler) e

-- ---- numbers

short_word : (n : ℕ) → IsWord (saturated_u32 n)
short_word n = omega arith

word_in_range : (n : ℕ) → IsWord n → is_in_range U32 (pos n) ≡ true
word_in_range n h = in_range-from U32 (pos n) (omega (arith, ints, h)) (omega (arith, ints, h))

zero_in_range : is_in_range S32 (pos 0) ≡ true
unfolding is_in_range
zero_in_range = refl

busy_in_range : is_in_range S32 (negsuc 15) ≡ true
unfolding is_in_range
busy_in_range = refl

-- ---- what is taken

first_fits : (program : Program) (K : Knowledge) (vs : List Wire) (t : Ty) (ts : List Ty) → AllFit program K vs (t ∷ ts) → Fits program K t (first_of vs)
first_fits program K [] t ts h = elim h [ ]
first_fits program K (v ∷ vs) t ts h = h.0

first_born : (program : Program) (K : Knowledge) (s : Shape64) (ps : List Wire) → AreBorn program K (s ∷ []) ps → IsDataPointer program K (λ n. n ≡ s.ty) (first_of ps)
first_born program K s [] h = elim h [ ]
first_born program K s (p ∷ ps) h = h.0

handler_named : (m : Memory) (vs : List Wire) (f : ℕ) → vs ≡ wire.Fn f ∷ [] → first_of (map (normal m) vs) ≡ wire.Fn f
unfolding normal
handler_named m vs f e = ap (λ (xs : List Wire). first_of (map (normal m) xs)) e

-- an allocation that is made has cells, and not too many
sized_by : (program : Program) → IsSound program → (s : Shape64) (ty : Ty) → slice_get program.types s.ty ≡ Some ty → is_no_block program s ≡ false → IsSized program s
unfolding size
sized_by program sound s ty names e =
    let cells : length (leaves (struct_cells program.structs) Alone ty) ≡ size program s.ty = ap length (sym (cells_of_type program s.ty ty names)) in
    let parts : ((s.count == 0) ≡ false) × (nat_lt 65536 (s.count * size program s.ty) ≡ false) = neither (s.count == 0) (nat_lt 65536 (s.count * size program s.ty)) e in
    record {
      ty = ty;
      names = names;
      some = filled s.count (length (leaves (struct_cells program.structs) Alone ty)) parts.0 (type_has_cells program sound s.ty ty names).some;
      small = subst (λ (n : ℕ). s.count * n ≤ 65536) (sym cells) (few (s.count * size program s.ty) parts.1);
    }
  where
    neither : (a b : Bool) → (a || b) ≡ false → (a ≡ false) × (b ≡ false)
    neither false false q = (refl, refl)
    neither false true q = absurd cc
    neither true b q = absurd cc

    few : (n : ℕ) → nat_lt 65536 n ≡ false → n ≤ 65536
    few n q = grind (arith, q)

    filled : (n l : ℕ) → (n == 0) ≡ false → 1 ≤ l → 1 ≤ n * l
    filled zero l q h = let zeros : (0 == 0) ≡ true = eq-eqb 0 0 refl in let both : true ≡ false = sym zeros ∙ q in absurd cc
    filled (suc n) zero q h = absurd (omega (arith, h))
    filled (suc n) (suc l) q h = omega arith

-- nothing is reached through a null pointer, or a dead one
null_reaches : (m : Memory) (c : Cell) → reached everywhere m wire.Null ≡ Ok c → ⊥
unfolding reached
null_reaches m c e = cc

dead_reaches : (m : Memory) (c : Cell) → reached everywhere m wire.Dead ≡ Ok c → ⊥
unfolding reached
dead_reaches m c e = cc

-- ---- all of them

module _ (program : Program) (sound : IsSound program) (K : Knowledge) (w : World) (h : Holds program K w) (from : ℕ) (early : from ≤ next_serial w) (live : List Wire) (objects : AreObjects w.memory from live) where
  abbrev Left : Knowledge → World → Type 0
  Left = Later program from K w

  -- a service that ends no object gave something
  module _ (a : Asked) (s : Service) (remains : List Wire) (same : remains ≡ live) (none : (rs : List Wire) → after s remains rs ≡ remains) where
    abbrev Gave : Ran (List Wire) → Type 0
    Gave ran = Leads Left (GivesServed program a s from remains w) ran

    gave : (K' : Knowledge) (rs : List Wire) (w' : World) → Later program (next_serial w) K w K' w' → IsServed program K' a s rs → IsAsBefore w w' → Gave (Ended rs w')
    gave K' rs w' l served handling =
        ended K' rs w' (later_from program from (next_serial w) early K K' w w' l)
        (record {
          served = served;
          objects = subst (AreObjects w'.memory from) (sym (none rs ∙ same)) (objects_stay w.memory w'.memory (λ n b e q. l.stays n b (h.low n (live_born w.memory n b e)) e q) from live objects);
          handling = handling;
        })

    gave_same : (rs : List Wire) → IsServed program K a s rs → Gave (Ended rs w)
    gave_same rs served = gave K rs w (later_same program (next_serial w) K w h) served refl

    stopped_here : (kind : StopKind) (at : At) → Gave (stops kind at w)
    stopped_here kind at = stopped K kind (Some at) w (later_same program from K w h)

    noting : (k : Kept) → k.calls ≡ w.kept.calls → k.in_handler ≡ w.kept.in_handler → ((f : ℕ) → k.handler ≡ Some f → IsHandler program K.uses f) → (rs : List Wire) → IsServed program K a s rs → Gave (Ended rs (record w { kept = k }))
    noting k calls handling handler rs served = gave K rs (record w { kept = k }) (kept_later program (next_serial w) K w k h calls handler) served handling

  -- ---- allocations

  allocated_leaves : (a : Asked) (s : Service) (remains : List Wire) (same : remains ≡ live) (none : (rs : List Wire) → after s remains rs ≡ remains)
      → ((K' : Knowledge) (rs : List Wire) → IsDataPointer program K' (is_first_type a.shapes) (first_of rs) → IsServed program K' a s rs)
      → (shape : Shape64) (ty : Ty) → a.shapes ≡ shape ∷ [] → slice_get program.types shape.ty ≡ Some ty → Gave a s remains same none (allocated program a.shapes (asked_once_more w))
  allocated_leaves a s remains same none served shape ty is names =
      subst (λ (xs : List Shape64). Gave a s remains same none (allocated program xs (asked_once_more w))) (sym is) (of (fails_now (asked_once_more w)) (is_no_block program shape) refl)
    where
      more : Later program (next_serial w) K w K (asked_once_more w)
      more = kept_later program (next_serial w) K w (record w.kept { allocations = w.kept.allocations + 1 }) h refl h.handler

      null_given : Gave a s remains same none (gives wire.Null (asked_once_more w))
      null_given = gave a s remains same none K (wire.Null ∷ []) (asked_once_more w) more (served K (wire.Null ∷ []) tt) refl

      of : (fails no_block : Bool) → is_no_block program shape ≡ no_block → Gave a s remains same none (chosen (fails || no_block) (gives wire.Null (asked_once_more w)) (as_served (births program Heap (shape ∷ []) (asked_once_more w))))
      of true b q = null_given
      of false true q = null_given
      of false false q =
          let all : AreBornBy program (next_serial w) Heap (shape ∷ []) K (asked_once_more w) = births_leave program sound Heap (shape ∷ []) (sized_by program sound shape ty names q, tt) (next_serial w) K (asked_once_more w) (omega arith) more.holds in
          gave a s remains same none all.known (births program Heap (shape ∷ []) (asked_once_more w)).pointers (births program Heap (shape ∷ []) (asked_once_more w)).memory
          (later_on program (next_serial w) K K all.known w (asked_once_more w) (births program Heap (shape ∷ []) (asked_once_more w)).memory more all.later)
          (served all.known _ (subst (λ (xs : List Shape64). IsDataPointer program all.known (is_first_type xs) (first_of (births program Heap (shape ∷ []) (asked_once_more w)).pointers)) (sym is) (first_born program all.known shape _ all.born)))
          (handling_by (asked_once_more w) (births program Heap (shape ∷ []) (asked_once_more w)).memory (births_kept program Heap (shape ∷ []) (asked_once_more w)))

  -- ---- kfree

  freed_leaves : (a : Asked) (remains : List Wire) (same : remains ≡ live) (at : At) (v : Wire) → Gave a Kfree remains same (λ rs. refl) (freed program at v w)
  freed_leaves a remains same at wire.Null = gave_same a Kfree remains same (λ rs. refl) [] refl
  freed_leaves a remains same at (wire.Ptr p) = of (born_at w.memory p.serial) refl (is_locked p.serial w.memory) where
    whole : (b : Option New) → born_at w.memory p.serial ≡ b → (t : Bool) → is_whole program p b ≡ t → (locked : Bool) → Gave a Kfree remains same (λ rs. refl) (freed_by t locked p.serial at w)
    whole b q false e locked = stopped_here a Kfree remains same (λ rs. refl) stop.BadCall at
    whole b q true e true = stopped_here a Kfree remains same (λ rs. refl) stop.LockHeld at
    whole None q true e false = absurd cc
    whole (Some n) q true e false =
        let heap : is_heap n.kind ≡ true = (and_parts _ _ e).0 in
        let may : MayDie program (next_serial w) w p.serial = λ b r. inl (ap (λ (x : New). is_heap x.kind) (some_is (sym r ∙ q)) ∙ heap) in
        gave a Kfree remains same (λ rs. refl) K [] (died p.serial w) (death_later program (next_serial w) K w p.serial h may) refl (handling_by w (died p.serial w) (died_kept (wire.Ptr p) w))

    of : (b : Option New) → born_at w.memory p.serial ≡ b → (locked : Bool) → Gave a Kfree remains same (λ rs. refl) (freed_by (is_whole program p (born_at w.memory p.serial)) locked p.serial at w)
    of b q locked = whole (born_at w.memory p.serial) refl (is_whole program p (born_at w.memory p.serial)) refl locked
  freed_leaves a remains same at (wire.Int k n) = stopped_here a Kfree remains same (λ rs. refl) stop.BadCall at
  freed_leaves a remains same at wire.Dead = stopped_here a Kfree remains same (λ rs. refl) stop.BadCall at
  freed_leaves a remains same at (wire.Fn f) = stopped_here a Kfree remains same (λ rs. refl) stop.BadCall at
  freed_leaves a remains same at (wire.Lock s) = stopped_here a Kfree remains same (λ rs. refl) stop.BadCall at
  freed_leaves a remains same at wire.NoValue = stopped_here a Kfree remains same (λ rs. refl) stop.BadCall at

  -- ---- registers

  read_leaves : (a : Asked) (remains : List Wire) (same : remains ≡ live) (at : At) (r : ℕ) → Gave a Readl remains same (λ rs. refl) (register_read at r w)
  read_leaves a remains same at r = of (nat_lt r 4096) where
    of : (b : Bool) → Gave a Readl remains same (λ rs. refl) (chosen b (was_read r (read_register r w.clock.device) w) (stops stop.Bounds at w))
    of true =
        let d = device_read r w.clock.device h.device in
        let one : Later program (next_serial w) K w K (with_device (read_register r w.clock.device).1 w) = device_later program (next_serial w) K w (read_register r w.clock.device).1 h d.1 in
        let after_one : World = with_device (read_register r w.clock.device).1 w in
        gave a Readl remains same (λ rs. refl) K (wire.Int U32 (pos (read_register r w.clock.device).0) ∷ []) (noted (happened.Read r (read_register r w.clock.device).0) after_one)
        (later_on program (next_serial w) K K K w after_one (noted (happened.Read r (read_register r w.clock.device).0) after_one) one
        (kept_later program (next_serial w) K after_one _ one.holds refl h.handler)) (refl, word_in_range (read_register r w.clock.device).0 d.0) refl
    of false = stopped_here a Readl remains same (λ rs. refl) stop.Bounds at

  written_leaves : (a : Asked) (remains : List Wire) (same : remains ≡ live) (at : At) (r value : ℕ) → IsWord value → Gave a Writel remains same (λ rs. refl) (register_written at r value w)
  written_leaves a remains same at r value word = of (nat_lt r 4096) where
    of : (b : Bool) → Gave a Writel remains same (λ rs. refl) (chosen b (gives_none (noted (happened.Wrote r value) (with_device (written r value w.clock.device) w))) (stops stop.Bounds at w))
    of true =
        let after_one : World = with_device (written r value w.clock.device) w in
        let one : Later program (next_serial w) K w K after_one = device_later program (next_serial w) K w (written r value w.clock.device) h (device_written r value w.clock.device word h.device) in
        gave a Writel remains same (λ rs. refl) K [] (noted (happened.Wrote r value) after_one)
        (later_on program (next_serial w) K K K w after_one (noted (happened.Wrote r value) after_one) one (kept_later program (next_serial w) K after_one _ one.holds refl h.handler)) refl refl
    of false = stopped_here a Writel remains same (λ rs. refl) stop.Bounds at

  -- ---- handlers

  handler_of : (a : Asked) → TakesHandler program K a → (m : Memory) (f : ℕ) → function_named (first_of (map (normal m) a.args)) ≡ Some f → IsHandler program K.uses f
  handler_of a t m f e =
      let named : t.func ≡ f = some_is (sym (ap function_named (handler_named m a.args t.func t.is)) ∙ e) in
      let fits : Fits program K (type.Fun (type.Void ∷ [])) (wire.Fn t.func) = (subst (λ (vs : List Wire). AllFit program K vs (type.Fun (type.Void ∷ []) ∷ [])) t.is t.takes.fit).0 in
      let parts = subst (λ (l : Ty-F Ty). FitsLayer program K l (wire.Fn t.func)) (outs-Fun (type.Void ∷ [])) fits in
      subst (IsHandler program K.uses) named (record { func = parts.0; names = parts.1; types = parts.2; handles = t.handles })

  requested_leaves : (a : Asked) (remains : List Wire) (same : remains ≡ live) → TakesHandler program K a → (o : Option ℕ) → Gave a RequestIrq remains same (λ rs. refl) (requested o (first_of (map (normal w.memory) a.args)) w)
  requested_leaves a remains same t None =
      noting a RequestIrq remains same (λ rs. refl) (record w.kept { handler = function_named (first_of (map (normal w.memory) a.args)) }) refl refl (handler_of a t w.memory) (wire.Int S32 (pos 0) ∷ []) (refl, zero_in_range)
  requested_leaves a remains same t (Some f) = gave_same a RequestIrq remains same (λ rs. refl) (wire.Int S32 (negsuc 15) ∷ []) (refl, busy_in_range)

  -- ---- locks

  lock_later : (p : WireView) (s : LockState) → PointsTo program K type.Lock (wire.Ptr p) → p.index < p.count → Later program (next_serial w) K w K (with_memory w (put w.memory (cell_of p) (wire.Lock s)))
  unfolding normal
  lock_later p s points inside =
      put_later program (next_serial w) K w (cell_of p) (wire.Lock s) h
      (λ b leaf e l. inr (ap out-Ty (cell_type program sound K w h p type.Lock points.1 points.0 (ap struct_by outs-Lock) inside b leaf e l) ∙ outs-Lock, tt))

  changed_leaves : (a : Asked) (s : Service) (remains : List Wire) (same : remains ≡ live) (none : (rs : List Wire) → after s remains rs ≡ remains) → ((K' : Knowledge) → IsServed program K' a s []) → (at : At) (change : LockState → Result LockState StopKind) (v : Wire) → Fits program K (type.Ptr type.Lock) v
      → Gave a s remains same none (when_changed (changed change w.memory (reached everywhere w.memory v)) at w)
  changed_leaves a s remains same none served at change v fits = by_value v (to_pointer program K type.Lock v fits) where
    locked : (p : WireView) → PointsTo program K type.Lock (wire.Ptr p) → (c : Cell) → IsReached w.memory p c → (r : Result LockState StopKind) → Gave a s remains same none (when_changed (with_lock w.memory c r) at w)
    locked p points c r (Ok x) =
        gave a s remains same none K [] (with_memory w (put w.memory c (wire.Lock x))) (subst (λ (d : Cell). Later program (next_serial w) K w K (with_memory w (put w.memory d (wire.Lock x)))) r.cell (lock_later p x points r.inside)) (served K) refl
    locked p points c r (Err kind) = stopped_here a s remains same none kind at

    by_cell : (p : WireView) → PointsTo program K type.Lock (wire.Ptr p) → (r : Result Cell StopKind) → reached everywhere w.memory (wire.Ptr p) ≡ r → Gave a s remains same none (when_changed (changed change w.memory r) at w)
    by_cell p points (Ok c) q = locked p points c (reaches everywhere w.memory p c q) (change (lock_in (cell_at w.memory c)))
    by_cell p points (Err kind) q = stopped_here a s remains same none kind at

    not_there : (r : Result Cell StopKind) → ((c : Cell) → r ≡ Ok c → ⊥) → Gave a s remains same none (when_changed (changed change w.memory r) at w)
    not_there (Ok c) q = absurd (q c refl)
    not_there (Err kind) q = stopped_here a s remains same none kind at

    by_value : (v : Wire) → PointsTo program K type.Lock v → Gave a s remains same none (when_changed (changed change w.memory (reached everywhere w.memory v)) at w)
    by_value (wire.Ptr p) points = by_cell p points (reached everywhere w.memory (wire.Ptr p)) refl
    by_value wire.Null points = not_there (reached everywhere w.memory wire.Null) (null_reaches w.memory)
    by_value wire.Dead points = not_there (reached everywhere w.memory wire.Dead) (dead_reaches w.memory)
    by_value (wire.Int k n) points = elim points [ ]
    by_value (wire.Fn f) points = elim points [ ]
    by_value (wire.Lock x) points = elim points [ ]
    by_value wire.NoValue points = elim points [ ]

  -- ---- objects of locals

  entered_leaves : (a : Asked) (remains : List Wire) → remains ≡ live → IsAsk program K a Enter → Leads Left (GivesServed program a Enter from remains w) (as_served (births program Auto a.shapes w))
  entered_leaves a remains same t =
      let all : AreJoined program from live a.shapes K w = objects_born program sound from live a.shapes t.births K w early h objects in
      ended all.known _ _ all.later
      (record {
        served = all.born;
        objects = subst (λ (xs : List Wire). AreObjects (births program Auto a.shapes w).memory.memory from (xs ++ (births program Auto a.shapes w).pointers)) (sym same) all.objects;
        handling = handling_by w (births program Auto a.shapes w).memory (births_kept program Auto a.shapes w);
      })

  left_leaves : (a : Asked) (remains : List Wire) → live ≡ remains ++ a.args → Leads Left (GivesServed program a Leave from remains w) (gives_none (deaths (map (normal w.memory) a.args) w))
  left_leaves a remains apart =
      let there : AreObjects w.memory from (remains ++ a.args) = subst (AreObjects w.memory from) apart objects in
      let now : map (normal w.memory) a.args ≡ a.args = objects_now w.memory from a.args (objects_behind w.memory from remains a.args there) in
      let all : AreDead program from remains a.args K w = objects_died program sound from remains a.args K w h there in
      subst (λ (ps : List Wire). Leads Left (GivesServed program a Leave from remains w) (gives_none (deaths ps w))) (sym now)
      (ended K [] (deaths a.args w) all.later (record { served = refl; objects = all.objects; handling = handling_by w (deaths a.args w) (deaths_kept a.args w) }))

  -- ---- by their numbers

  by_service : (a : Asked) (s : Service) (remains : List Wire) → IsAsk program K a s → Leaves s a live remains → Leads Left (GivesServed program a s from remains w) (served_by program (as_now w a) (Some s) w)
  unfolding acquire release
  by_service a Kzalloc remains t same = allocated_leaves a Kzalloc remains same (λ rs. refl) (λ K' rs d. d) t.shape t.ty t.is t.names
  by_service a Kcalloc remains t same = allocated_leaves a Kcalloc remains same (λ rs. refl) (λ K' rs d. d) t.shape t.ty t.is t.names
  by_service a Kfree remains t same = freed_leaves a remains same a.at (first_of (map (normal w.memory) a.args))
  by_service a Readl remains t same = read_leaves a remains same a.at (natural (first_of (map (normal w.memory) a.args)))
  by_service a Writel remains t same =
      written_leaves a remains same a.at (natural (first_of (rest_of (map (normal w.memory) a.args)))) (saturated_u32 (natural (first_of (map (normal w.memory) a.args)))) (short_word _)
  by_service a Printk remains t same = noting a Printk remains same (λ rs. refl) _ refl refl h.handler [] refl
  by_service a RequestIrq remains t same = requested_leaves a remains same t w.kept.handler
  by_service a FreeIrq remains t same = noting a FreeIrq remains same (λ rs. refl) (record w.kept { handler = None }) refl refl (λ f e. absurd cc) [] refl
  by_service a Deliver remains t same = noting a Deliver remains same (λ rs. refl) _ refl refl h.handler [] refl
  by_service a Combolock remains t same =
      changed_leaves a Combolock remains same (λ rs. refl) (λ K'. refl) a.at (acquired (taken_as w.views)) (first_of (map (normal w.memory) a.args))
      (first_fits program K (map (normal w.memory) a.args) (type.Ptr type.Lock) [] (all_now program K w.memory a.args (type.Ptr type.Lock ∷ []) t.fit))
  by_service a Combounlock remains t same =
      changed_leaves a Combounlock remains same (λ rs. refl) (λ K'. refl) a.at released (first_of (map (normal w.memory) a.args))
      (first_fits program K (map (normal w.memory) a.args) (type.Ptr type.Lock) [] (all_now program K w.memory a.args (type.Ptr type.Lock ∷ []) t.fit))
  by_service a Bug remains t same = stopped_here a Bug remains same (λ rs. refl) stop.Bug a.at
  by_service a Enter remains t same = entered_leaves a remains same t
  by_service a Leave remains t apart = left_leaves a remains apart

pub services_serve : (program : Program) → IsSound program → (uses : Uses) → Serve program uses (served program)
unfolding served
services_serve program sound uses K w same h from live remains a s early objects names ask parts =
    subst (λ (o : Option Service). Leads (Later program from K w) (GivesServed program a s from remains w) (served_by program (as_now w a) o w)) (sym names)
    (by_service program sound K w h from early live objects a s remains ask parts)
