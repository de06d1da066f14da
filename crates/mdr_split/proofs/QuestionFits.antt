-- Questions of honest user code have no fault.
use Rattle.std.proofs.Common.{◌≡◌, ℕ, suc, ◌*◌, ◌≤◌, Bool, true, not, ◌&&◌, ◌==◌, nat_le, List, [], ◌∷◌, ◌++◌, length, map, slice_get, Option, Some, None, refl, sym, ap, ◌∙◌, subst, arith, eq-eqb}
use Rattle.std.specs.Prelude.{is_some}
use Rattle.std.specs.List.{list_all}
use Rattle.std.proofs.lemmas.Bool.{le-leb}
use Rattle.mdr_core.specs.declared.program.Func.{Func}
use Rattle.mdr_core.specs.declared.program.Program.{Program}
use Rattle.mdr_core.specs.declared.refusal.RefuseKind.TheVariants as refusal
use Rattle.mdr_core.specs.declared.types.Ty.{Ty, out-Ty, roll-Ty, roll-out-Ty}
use Rattle.mdr_core.specs.declared.types.Ty.TheOpen.{Ty-F}
use Rattle.mdr_core.specs.declared.types.Ty.TheVariants as type
use Rattle.mdr_core.specs.declared.types.Ty.TheVariants.{outs-Fun, rolls-Lock}
use Rattle.mdr_core.specs.Layout.{Leaf, cells, cells_at, cells_or}
use Rattle.mdr_core.specs.Services.{Service, Kzalloc, Kcalloc, Kfree, Readl, Writel, Printk, RequestIrq, FreeIrq, Deliver, Combolock, Combounlock, Bug, Enter, Leave, handler_type, service_numbered}
use Rattle.mdr_core.specs.Sound.{all_cells}
use Rattle.mdr_core.specs.Suited.{is_lock, is_lock_by}
use Rattle.mdr_core.proofs.Lying.{length-repeated}
use Rattle.mdr_meaning.specs.declared.shape.Shape64.{Shape64}
use Rattle.mdr_meaning.specs.declared.wire.Wire.{Wire}
use Rattle.mdr_meaning.specs.declared.wire.Wire.TheVariants as wire
use Rattle.mdr_meaning.specs.Fair.{AllFit, AreBirths, AreKnown, IsAsk, IsBirth, IsKnown, Leaves, TakesArgs, TakesDeaths, TakesHandler, TakesShape}
use Rattle.mdr_meaning.specs.Fit.{Fits, FitsLayer, IsAddress, Knowledge}
use Rattle.mdr_meaning.specs.Pointers.{size}
use Rattle.mdr_meaning.specs.Tree.{Asked}
use Rattle.mdr_meaning.proofs.FitLaws.{of_address}
use Rattle.mdr_model.specs.Faults.{or_else, unless}
use Rattle.mdr_model.specs.Memory.{Memory, normal}
use Rattle.mdr_model.proofs.Tests.{and_both, other_number}
use Rattle.mdr_split.specs.Legal.{args_fault, fits_service, is_asked_so, is_kernel_half, kernel_places, may_be_given, service_fault, service_faults}
use Rattle.mdr_split.specs.Services.{Births, Elements, NoShape, OneElement, are_different, asked_now, has_number, may_be_born, may_die, names_object, serials_of, shapes_fit, terms_of, types_of}
use Rattle.mdr_split.specs.State.{Kernel, Open}
use Rattle.mdr_split.proofs.FitLaws.{Judges, args_pass, fits_normal, no_args}
use Rattle.mdr_split.proofs.ObjectLaws.{AreWhole, IsWhole, LivesToo, deaths_right, objects_kept, whole_behind}
use Rattle.mdr_watched.specs.Driver.{Driver}

-- ---- shapes

number_there : (program : Program) (n : ℕ) (ty : Ty) → slice_get program.types n ≡ Some ty → has_number program n ≡ true
number_there program n ty e = ap (λ (o : Option Ty). is_some o) e

lock_is : (ty : Ty) → out-Ty ty ≡ Ty-F.Lock → ty ≡ type.Lock
lock_is ty e = sym (roll-out-Ty ty) ∙ ap roll-Ty e ∙ rolls-Lock

no_lock_by : (ty : Ty) (l : Ty-F Ty) → out-Ty ty ≡ l → (ty ≡ type.Lock → ⊥) → not (is_lock_by l) ≡ true
no_lock_by ty Ty-F.Lock e other = absurd (other (lock_is ty e))
no_lock_by ty (Ty-F.Int k) e other = refl
no_lock_by ty (Ty-F.Struct s) e other = refl
no_lock_by ty (Ty-F.Ptr t) e other = refl
no_lock_by ty Ty-F.VoidPtr e other = refl
no_lock_by ty (Ty-F.Fun types) e other = refl
no_lock_by ty Ty-F.Void e other = refl

no_lock_in : (leaves : List Leaf) → ((i : ℕ) (leaf : Leaf) → slice_get leaves i ≡ Some leaf → leaf.type ≡ type.Lock → ⊥) → list_all (λ (l : Leaf). not (is_lock l.type)) leaves ≡ true
no_lock_in [] none = refl
no_lock_in (leaf ∷ leaves) none = and_both _ _ (no_lock_by leaf.type (out-Ty leaf.type) refl (none 0 leaf refl)) (no_lock_in leaves (λ i l e. none (suc i) l e))

not_zero : (n : ℕ) → 1 ≤ n → not (n == 0) ≡ true
not_zero n h = ap (λ (b : Bool). not b) (other_number n 0 (λ e. omega arith))

size_is : (program : Program) (n count : ℕ) (ty : Ty) → slice_get program.types n ≡ Some ty → length (all_cells program ty count) ≤ 65536 → count * size program n ≤ 65536
unfolding size
size_is program n count ty names small =
    let one : length (cells_at program n) ≡ length (cells program ty) = ap (λ (o : Option Ty). length (cells_or program o)) names in
    let all : length (all_cells program ty count) ≡ count * length (cells program ty) = length-repeated count (cells program ty) in
    let same : count * length (cells_at program n) ≡ count * length (cells program ty) = ap (λ k. count * k) one in
    omega arith

birth_right : (program : Program) (s : Shape64) → IsBirth program s → may_be_born program s ≡ true
birth_right program s h =
    let cells_are : cells_at program s.ty ≡ cells program h.ty = ap (cells_or program) h.names in
    let open_cells : list_all (λ (l : Leaf). not (is_lock l.type)) (cells_at program s.ty) ≡ true =
    ap (λ (ls : List Leaf). list_all (λ (l : Leaf). not (is_lock l.type)) ls) cells_are ∙ no_lock_in (cells program h.ty) h.no_lock.none in
    and_both _ _ (number_there program s.ty h.ty h.names)
    (and_both _ _ open_cells (and_both _ _ (not_zero s.count h.some) (le-leb _ _ (size_is program s.ty s.count h.ty h.names h.small))))

births_right : (program : Program) (shapes : List Shape64) → AreBirths program shapes → list_all (may_be_born program) shapes ≡ true
births_right program [] all = refl
births_right program (s ∷ shapes) all = and_both _ _ (birth_right program s all.0) (births_right program shapes all.1)

no_shapes : (program : Program) (shapes : List Shape64) → shapes ≡ [] → shapes_fit program NoShape shapes ≡ true
unfolding shapes_fit
no_shapes program shapes e = ap (shapes_fit program NoShape) e

one_shape : (program : Program) (a : Asked) → TakesShape program a (λ n. n ≡ 1) → shapes_fit program OneElement a.shapes ≡ true
unfolding shapes_fit
one_shape program a h = ap (shapes_fit program OneElement) h.is ∙ and_both _ _ (eq-eqb _ _ h.counts) (number_there program h.shape.ty h.ty h.names)

some_shape : (program : Program) (a : Asked) → TakesShape program a (λ n. Unit {0}) → shapes_fit program Elements a.shapes ≡ true
unfolding shapes_fit
some_shape program a h = ap (shapes_fit program Elements) h.is ∙ number_there program h.shape.ty h.ty h.names

born_shapes : (program : Program) (shapes : List Shape64) → AreBirths program shapes → shapes_fit program Births shapes ≡ true
unfolding shapes_fit
born_shapes program shapes all = births_right program shapes all

-- the shapes are those that the service takes
pub shapes_right : (program : Program) (K : Knowledge) (a : Asked) (s : Service) → IsAsk program K a s → shapes_fit program (terms_of s).shapes a.shapes ≡ true
shapes_right program K a Kzalloc h = one_shape program a h
shapes_right program K a Kcalloc h = some_shape program a h
shapes_right program K a Kfree h = no_shapes program a.shapes h.no_shapes
shapes_right program K a Readl h = no_shapes program a.shapes h.no_shapes
shapes_right program K a Writel h = no_shapes program a.shapes h.no_shapes
shapes_right program K a Printk h = no_shapes program a.shapes h.no_shapes
shapes_right program K a RequestIrq h = no_shapes program a.shapes h.takes.no_shapes
shapes_right program K a FreeIrq h = no_shapes program a.shapes h.no_shapes
shapes_right program K a Deliver h = no_shapes program a.shapes h.no_shapes
shapes_right program K a Combolock h = no_shapes program a.shapes h.no_shapes
shapes_right program K a Combounlock h = no_shapes program a.shapes h.no_shapes
shapes_right program K a Bug h = no_shapes program a.shapes h.no_shapes
shapes_right program K a Enter h = born_shapes program a.shapes h.births
shapes_right program K a Leave h = no_shapes program a.shapes h.no_shapes

-- ---- bytes

few : (bytes : List ℕ) (most : ℕ) → bytes ≡ [] → nat_le (length bytes) most ≡ true
few bytes most e = le-leb _ _ (omega (arith, ap length e))

-- no more bytes than the service takes
pub bytes_right : (program : Program) (K : Knowledge) (a : Asked) (s : Service) → IsAsk program K a s → nat_le (length a.bytes) (terms_of s).bytes ≡ true
bytes_right program K a Kzalloc h = few a.bytes 0 h.no_bytes
bytes_right program K a Kcalloc h = few a.bytes 0 h.no_bytes
bytes_right program K a Kfree h = few a.bytes 0 h.no_bytes
bytes_right program K a Readl h = few a.bytes 0 h.no_bytes
bytes_right program K a Writel h = few a.bytes 0 h.no_bytes
bytes_right program K a Printk h = le-leb _ _ h.few
bytes_right program K a RequestIrq h = few a.bytes 0 h.takes.no_bytes
bytes_right program K a FreeIrq h = few a.bytes 0 h.no_bytes
bytes_right program K a Deliver h = le-leb _ _ h.few
bytes_right program K a Combolock h = few a.bytes 0 h.no_bytes
bytes_right program K a Combounlock h = few a.bytes 0 h.no_bytes
bytes_right program K a Bug h = few a.bytes 0 h.no_bytes
bytes_right program K a Enter h = few a.bytes 0 h.no_bytes
bytes_right program K a Leave h = few a.bytes 0 h.no_bytes

-- ---- arguments

-- functions that handle interrupts are of the kernel half
abbrev pub AreHandlers : Driver → Knowledge → Type 0
AreHandlers d K = (f : ℕ) (func : Func) → slice_get d.program.funcs f ≡ Some func → K.uses.handles f ≡ true → is_kernel_half d f ≡ true

-- a service may be given each value
abbrev pub MayBeGiven : Driver → Option Service → Memory → List Wire → Type 0
MayBeGiven d service m [] = Unit {0}
MayBeGiven d service m (v ∷ vs) = (may_be_given d service (normal m v) ≡ true) × MayBeGiven d service m vs

each_given : (d : Driver) (service : Option Service) (m : Memory) → ((v : Wire) → may_be_given d service v ≡ true) → (vs : List Wire) → MayBeGiven d service m vs
each_given d service m given [] = tt
each_given d service m given (v ∷ vs) = (given (normal m v), each_given d service m given vs)

module _ (d : Driver) (k : Kernel) (K : Knowledge) (m : Memory) (judges : Judges (kernel_places d k) K m) where
  value_right : (service : Option Service) (ty : Ty) (v : Wire) → Fits d.program K ty v → may_be_given d service (normal m v) ≡ true → fits_service d k service ty (normal m v) ≡ true
  unfolding fits_service
  value_right service ty v fit given = and_both _ _ (fits_normal judges ty v fit) given

  all_right : (service : Option Service) (types : List Ty) (vs : List Wire) → AllFit d.program K vs types → MayBeGiven d service m vs → (i : ℕ) → args_fault (fits_service d k service) i types (map (normal m) vs) ≡ None
  all_right service [] [] all given i = no_args (fits_service d k service) i
  all_right service [] (v ∷ vs) all given i = elim all [ ]
  all_right service (t ∷ ts) [] all given i = elim all [ ]
  all_right service (t ∷ ts) (v ∷ vs) all given i =
      args_pass (fits_service d k service) i t (normal m v) ts (map (normal m) vs) (value_right service t v all.0 given.0) (all_right service ts vs all.1 given.1 (suc i))

  none_right : (service : Option Service) (a : Asked) → a.args ≡ [] → args_fault (fits_service d k service) 0 [] (map (normal m) a.args) ≡ None
  none_right service a e = ap (λ (vs : List Wire). args_fault (fits_service d k service) 0 [] (map (normal m) vs)) e ∙ no_args (fits_service d k service) 0

  function_given : (f : ℕ) → is_kernel_half d f ≡ true → may_be_given d (Some RequestIrq) (normal m (wire.Fn f)) ≡ true
  unfolding normal
  function_given f h = h

  handler_right : AreHandlers d K → (a : Asked) → TakesHandler d.program K a → args_fault (fits_service d k (Some RequestIrq)) 0 (handler_type ∷ []) (map (normal m) a.args) ≡ None
  handler_right handlers a h =
      let fit : AllFit d.program K (wire.Fn h.func ∷ []) (handler_type ∷ []) = subst (λ (vs : List Wire). AllFit d.program K vs (handler_type ∷ [])) h.is h.takes.fit in
      let named : FitsLayer d.program K (Ty-F.Fun (type.Void ∷ [])) (wire.Fn h.func) = subst (λ (l : Ty-F Ty). FitsLayer d.program K l (wire.Fn h.func)) (outs-Fun (type.Void ∷ [])) fit.0 in
      ap (λ (vs : List Wire). args_fault (fits_service d k (Some RequestIrq)) 0 (handler_type ∷ []) (map (normal m) vs)) h.is
      ∙ all_right (Some RequestIrq) (handler_type ∷ []) (wire.Fn h.func ∷ []) fit (function_given h.func (handlers h.func named.0 named.1 h.handles), tt) 0

  -- pointers to objects, as addresses
  address : (w : Memory) (from : ℕ) (v : Wire) → IsWhole w from v → IsKnown d.program K v → IsAddress d.program K v
  address w from v whole known = subst (λ (x : Wire). IsAddress d.program K x) (sym whole.is) (tt, subst (λ (x : Wire). IsKnown d.program K x) whole.is known)

  objects_right : (w : Memory) (from : ℕ) (vs : List Wire) → AreWhole w from vs → AreKnown d.program K vs → (i : ℕ)
      → args_fault (fits_service d k (Some Leave)) i (map (λ (v : Wire). type.VoidPtr) (map (normal m) vs)) (map (normal m) vs) ≡ None
  objects_right w from [] whole known i = no_args (fits_service d k (Some Leave)) i
  objects_right w from (v ∷ vs) whole known i =
      args_pass (fits_service d k (Some Leave)) i type.VoidPtr (normal m v) (map (λ (x : Wire). type.VoidPtr) (map (normal m) vs)) (map (normal m) vs)
      (value_right (Some Leave) type.VoidPtr v (of_address d.program K v (address w from v whole.0 known.0)) refl)
      (objects_right w (suc whole.0.block.serial) vs whole.1 known.1 (suc i))

  typed_right : (s : Service) (types : List Ty) (a : Asked) → TakesArgs d.program K a types → ((v : Wire) → may_be_given d (Some s) v ≡ true) → args_fault (fits_service d k (Some s)) 0 types (map (normal m) a.args) ≡ None
  typed_right s types a h given = all_right (Some s) types a.args h.fit (each_given d (Some s) m given a.args) 0

  pub args_right : (w : Memory) (from : ℕ) (a : Asked) (s : Service) (live remains : List Wire) → AreHandlers d K → IsAsk d.program K a s → AreWhole w from live → Leaves s a live remains
      → args_fault (fits_service d k (Some s)) 0 (types_of (terms_of s).arguments (map (normal m) a.args)) (map (normal m) a.args) ≡ None
  args_right w from a Kzalloc live remains handlers h whole leaves = none_right (Some Kzalloc) a h.no_args
  args_right w from a Kcalloc live remains handlers h whole leaves = none_right (Some Kcalloc) a h.no_args
  args_right w from a Kfree live remains handlers h whole leaves = typed_right Kfree _ a h (λ v. refl)
  args_right w from a Readl live remains handlers h whole leaves = typed_right Readl _ a h (λ v. refl)
  args_right w from a Writel live remains handlers h whole leaves = typed_right Writel _ a h (λ v. refl)
  args_right w from a Printk live remains handlers h whole leaves = none_right (Some Printk) a h.no_args
  args_right w from a RequestIrq live remains handlers h whole leaves = handler_right handlers a h
  args_right w from a FreeIrq live remains handlers h whole leaves = typed_right FreeIrq _ a h (λ v. refl)
  args_right w from a Deliver live remains handlers h whole leaves = none_right (Some Deliver) a h.no_args
  args_right w from a Combolock live remains handlers h whole leaves = typed_right Combolock _ a h (λ v. refl)
  args_right w from a Combounlock live remains handlers h whole leaves = typed_right Combounlock _ a h (λ v. refl)
  args_right w from a Bug live remains handlers h whole leaves = typed_right Bug _ a h (λ v. refl)
  args_right w from a Enter live remains handlers h whole leaves = none_right (Some Enter) a h.no_args
  args_right w from a Leave live remains handlers h whole leaves =
      let behind = whole_behind w from remains a.args (subst (λ (vs : List Wire). AreWhole w from vs) leaves whole) in
      objects_right w behind.0 a.args behind.1 h.known 0

-- ---- deaths

leaving_right : (program : Program) (K : Knowledge) (w m : Memory) (from : ℕ) (entered : List ℕ) (a : Asked) (live remains : List Wire) → LivesToo K w m → TakesDeaths program K a
    → AreWhole w from live → entered ≡ serials_of live → live ≡ remains ++ a.args
    → (list_all (names_object entered) (map (normal m) a.args) && are_different (serials_of (map (normal m) a.args))) ≡ true
leaving_right program K w m from entered a live remains lives h whole is leaves =
    let here : AreWhole w from (remains ++ a.args) = subst (λ (vs : List Wire). AreWhole w from vs) leaves whole in
    let behind = whole_behind w from remains a.args here in
    ap (λ (vs : List Wire). list_all (names_object entered) vs && are_different (serials_of vs)) (objects_kept program K w m behind.0 a.args lives behind.1 h.known)
    ∙ deaths_right w from entered remains a.args here (is ∙ ap serials_of leaves)

-- objects that die are named once each among those that live
pub leaves_right : (program : Program) (K : Knowledge) (w m : Memory) (from : ℕ) (entered : List ℕ) (a : Asked) (s : Service) (live remains : List Wire) → LivesToo K w m → IsAsk program K a s
    → AreWhole w from live → entered ≡ serials_of live → Leaves s a live remains → may_die (terms_of s).arguments entered (map (normal m) a.args) ≡ true
leaves_right program K w m from entered a Leave live remains lives h whole is leaves = leaving_right program K w m from entered a live remains lives h whole is leaves
leaves_right program K w m from entered a Kzalloc live remains lives h whole is leaves = refl
leaves_right program K w m from entered a Kcalloc live remains lives h whole is leaves = refl
leaves_right program K w m from entered a Kfree live remains lives h whole is leaves = refl
leaves_right program K w m from entered a Readl live remains lives h whole is leaves = refl
leaves_right program K w m from entered a Writel live remains lives h whole is leaves = refl
leaves_right program K w m from entered a Printk live remains lives h whole is leaves = refl
leaves_right program K w m from entered a RequestIrq live remains lives h whole is leaves = refl
leaves_right program K w m from entered a FreeIrq live remains lives h whole is leaves = refl
leaves_right program K w m from entered a Deliver live remains lives h whole is leaves = refl
leaves_right program K w m from entered a Combolock live remains lives h whole is leaves = refl
leaves_right program K w m from entered a Combounlock live remains lives h whole is leaves = refl
leaves_right program K w m from entered a Bug live remains lives h whole is leaves = refl
leaves_right program K w m from entered a Enter live remains lives h whole is leaves = refl

-- ---- a question

-- where the objects live in the memory w, and m is the one by which arguments are sent
pub question_fits : (d : Driver) (k : Kernel) (K : Knowledge) (w m : Memory) (upcall : Open) (a : Asked) (s : Service) (from : ℕ) (live remains : List Wire)
    → Judges (kernel_places d k) K m → AreHandlers d K → LivesToo K w m → service_numbered a.service ≡ Some s → IsAsk d.program K a s
    → AreWhole w from live → upcall.entered ≡ serials_of live → Leaves s a live remains → service_fault d k upcall (asked_now m a) ≡ None
unfolding service_fault
question_fits d k K w m upcall a s from live remains judges handlers lives numbered h whole entered leaves =
    let args : List Wire = map (normal m) a.args in
    let asked : is_asked_so d upcall (terms_of s) (asked_now m a) ≡ true =
    and_both _ _ (shapes_right d.program K a s h)
    (and_both _ _ (bytes_right d.program K a s h) (leaves_right d.program K w m from upcall.entered a s live remains lives h whole entered leaves))
    in
    ap (λ (o : Option Service). service_faults d k upcall o (asked_now m a)) numbered
    ∙ ap (λ (b : Bool). or_else (unless b refusal.BadService 0) (args_fault (fits_service d k (Some s)) 0 (types_of (terms_of s).arguments args) args)) asked
    ∙ args_right d k K m judges w from a s live remains handlers h whole leaves
