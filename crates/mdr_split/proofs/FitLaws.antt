-- Values that fit by what is known of blocks fit by the test, as both halves judge them.
use Rattle.std.proofs.Common.{◌≡◌, ℕ, suc, Bool, true, false, cond, ◌&&◌, ◌==◌, List, [], ◌∷◌, map, slice_get, Option, Some, None, refl, sym, ap, ◌∙◌, subst, eq-eqb, arith}
use Rattle.mdr_core.specs.declared.kind.Kind.{Kind}
use Rattle.mdr_core.specs.declared.kind.Kind.TheVariants.{U8, U16, U32, U64, S8, S16, S32, S64}
use Rattle.mdr_core.specs.declared.program.Func.{Func}
use Rattle.mdr_core.specs.declared.program.Param.{Param}
use Rattle.mdr_core.specs.declared.program.Program.{Program}
use Rattle.mdr_core.specs.declared.refusal.RefuseKind.TheVariants as refusal
use Rattle.mdr_core.specs.declared.types.Shape.{Shape}
use Rattle.mdr_core.specs.declared.types.Ty.{Ty, out-Ty, roll-Ty, roll-out-Ty}
use Rattle.mdr_core.specs.declared.types.Ty.TheOpen.{Ty-F}
use Rattle.mdr_core.specs.declared.types.Ty.TheVariants as type
use Rattle.mdr_core.specs.declared.types.Ty.TheVariants.{rolls-Fun}
use Rattle.mdr_core.specs.Kinds.{is_same_kind}
use Rattle.mdr_core.specs.Sound.{IsSound}
use Rattle.mdr_core.specs.Typing.{function_type}
use Rattle.mdr_core.specs.Views.{IsViewOf}
use Rattle.mdr_meaning.specs.declared.wire.Wire.{Wire}
use Rattle.mdr_meaning.specs.declared.wire.Wire.TheVariants as wire
use Rattle.mdr_meaning.specs.declared.wire.WireView.{WireView}
use Rattle.mdr_meaning.specs.Fair.{AllFit}
use Rattle.mdr_meaning.specs.Fit.{Fits, FitsLayer, IsDataPointer, IsFunction, IsInteger, IsKnownView, IsResult, Knowledge, view_of}
use Rattle.mdr_meaning.specs.Numbers.{is_same_type}
use Rattle.mdr_meaning.proofs.NumberLaws.{type_same}
use Rattle.mdr_model.specs.declared.memory.Cell.{Cell}
use Rattle.mdr_model.specs.declared.message.New.{New}
use Rattle.mdr_model.specs.Agreement.{IsFormed}
use Rattle.mdr_model.specs.Copies.{held}
use Rattle.mdr_model.specs.Faults.{fault}
use Rattle.mdr_model.specs.Memory.{Memory, born_at, is_live, normal, normal_if}
use Rattle.mdr_model.specs.Values.{names_block}
use Rattle.mdr_model.proofs.LifeLaws.{names-held}
use Rattle.mdr_model.proofs.Tests.{and_both, and_left, and_right}
use Rattle.mdr_split.specs.Fits.{Places, fits, fits_by, fits_function, fits_pointer, fits_result, has_type, is_named, is_view, is_view_of_maybe}
use Rattle.mdr_split.specs.Legal.{args_fault, params_of, result_of}
use Rattle.mdr_split.proofs.ViewsAreViews.{is_view_so, named_so}

-- ---- what a value may name

-- what a block was born as
abbrev pub shape_of : New → Shape
shape_of b = record { ty = b.ty; count = b.count }

-- a block that both halves know, born as it is known
pub record IsPaired (p : Places) (serial : ℕ) (shape : Shape) : Type 0 where
  pub paired : is_live p.paired serial ≡ true
  pub block : New
  pub born : born_at p.memory serial ≡ Some block
  pub shaped : shape_of block ≡ shape

-- functions whose addresses are taken pass
abbrev pub PassesTaken : Places → Knowledge → Type 0
PassesTaken p K = (f : ℕ) → K.uses.taken f ≡ true → p.passes f ≡ true

-- each known block that the value names is paired
abbrev pub NamesPaired : Places → Knowledge → Wire → Type 0
NamesPaired p K v = (serial : ℕ) (shape : Shape) → names_block serial v ≡ true → K.blocks serial ≡ Some shape → IsPaired p serial shape

-- values that fit by what is known are judged in these places once they are normal by a memory: of the known blocks those that live in it are paired
pub record Judges (p : Places) (K : Knowledge) (m : Memory) : Type 0 where
  pub sound : IsSound p.program
  pub pairs : (serial : ℕ) (shape : Shape) → K.blocks serial ≡ Some shape → is_live m serial ≡ true → IsPaired p serial shape
  pub passes : PassesTaken p K

-- ---- by one layer of a type

same_kind : (k : Kind) → is_same_kind k k ≡ true
same_kind U8 = refl
same_kind U16 = refl
same_kind U32 = refl
same_kind U64 = refl
same_kind S8 = refl
same_kind S16 = refl
same_kind S32 = refl
same_kind S64 = refl

viewed : (p : Places) (K : Knowledge) → IsSound p.program → (v : WireView) → NamesPaired p K (wire.Ptr v) → IsKnownView p.program K v → (is_live p.paired v.serial && is_view p.program p.memory (wire.Ptr v)) ≡ true
viewed p K sound v named h =
    let here : IsPaired p v.serial h.shape = named v.serial h.shape (eq-eqb v.serial v.serial refl) h.known in
    let view : IsViewOf p.program (shape_of here.block) (view_of v) = subst (λ (s : Shape). IsViewOf p.program s (view_of v)) (sym here.shaped) h.view in
    and_both _ _ here.paired (ap (λ (o : Option New). is_view_of_maybe p.program o v) here.born ∙ is_view_so p.program sound here.block v view)

pointer_fits : (p : Places) (K : Knowledge) → IsSound p.program → (Takes : ℕ → Type 0) (takes : ℕ → Bool) → ((n : ℕ) → Takes n → takes n ≡ true) → (v : Wire) → NamesPaired p K v
    → IsDataPointer p.program K Takes v → fits_pointer p takes v ≡ true
pointer_fits p K sound Takes takes so wire.Null named h = refl
pointer_fits p K sound Takes takes so wire.Dead named h = refl
pointer_fits p K sound Takes takes so (wire.Ptr v) named h = and_both _ _ (so v.ty h.0) (viewed p K sound v named h.1)
pointer_fits p K sound Takes takes so (wire.Int _ _) named h = elim h [ ]
pointer_fits p K sound Takes takes so (wire.Fn _) named h = elim h [ ]
pointer_fits p K sound Takes takes so (wire.Lock _) named h = elim h [ ]
pointer_fits p K sound Takes takes so wire.NoValue named h = elim h [ ]

-- a type by its layer
fun_is : (ty : Ty) (types : List Ty) → out-Ty ty ≡ Ty-F.Fun types → type.Fun types ≡ ty
fun_is ty types e = sym (rolls-Fun types) ∙ ap roll-Ty (sym e) ∙ roll-out-Ty ty

function_fits : (p : Places) (K : Knowledge) → PassesTaken p K → (ty : Ty) (types : List Ty) → out-Ty ty ≡ Ty-F.Fun types → (v : Wire) → IsFunction p.program K types v → fits_function p ty v ≡ true
function_fits p K passes ty types e wire.Null h = refl
function_fits p K passes ty types e (wire.Fn f) h =
    let func : Func = h.0 in
    let same : function_type func ≡ ty = ap type.Fun h.2 ∙ fun_is ty types e in
    let typed : is_same_type (function_type func) ty ≡ true = subst (λ (t : Ty). is_same_type (function_type func) t ≡ true) same (type_same (function_type func)) in
    and_both _ _ (ap (has_type p ty) h.1 ∙ typed) (passes f h.3)
function_fits p K passes ty types e (wire.Int _ _) h = elim h [ ]
function_fits p K passes ty types e (wire.Ptr _) h = elim h [ ]
function_fits p K passes ty types e wire.Dead h = elim h [ ]
function_fits p K passes ty types e (wire.Lock _) h = elim h [ ]
function_fits p K passes ty types e wire.NoValue h = elim h [ ]

integer_fits : (p : Places) (ty : Ty) (k : Kind) (v : Wire) → IsInteger k v → fits_by p ty (Ty-F.Int k) v ≡ true
integer_fits p ty k (wire.Int l n) h = and_both _ _ (subst (λ (x : Kind). is_same_kind k x ≡ true) (sym h.0) (same_kind k)) h.1
integer_fits p ty k wire.Null h = elim h [ ]
integer_fits p ty k (wire.Ptr _) h = elim h [ ]
integer_fits p ty k wire.Dead h = elim h [ ]
integer_fits p ty k (wire.Fn _) h = elim h [ ]
integer_fits p ty k (wire.Lock _) h = elim h [ ]
integer_fits p ty k wire.NoValue h = elim h [ ]

layer_fits : (p : Places) (K : Knowledge) → IsSound p.program → PassesTaken p K → (ty : Ty) (l : Ty-F Ty) → out-Ty ty ≡ l → (v : Wire) → NamesPaired p K v → FitsLayer p.program K l v → fits_by p ty l v ≡ true
layer_fits p K sound passes ty (Ty-F.Int k) e v named h = integer_fits p ty k v h
layer_fits p K sound passes ty Ty-F.Lock e v named h = elim h [ ]
layer_fits p K sound passes ty (Ty-F.Struct s) e v named h = elim h [ ]
layer_fits p K sound passes ty (Ty-F.Ptr t) e v named h = pointer_fits p K sound (λ n. slice_get p.program.types n ≡ Some t) (λ n. is_named p.program n t) (λ n is. named_so p.program n t is) v named h
layer_fits p K sound passes ty Ty-F.VoidPtr e v named h = pointer_fits p K sound (λ n. Unit {0}) (λ n. true) (λ n is. refl) v named h
layer_fits p K sound passes ty (Ty-F.Fun types) e v named h = function_fits p K passes ty types e v h
layer_fits p K sound passes ty Ty-F.Void e v named h = elim h [ ]

-- ---- values

-- a value as it is
pub fits_value : (p : Places) (K : Knowledge) → IsSound p.program → PassesTaken p K → (ty : Ty) (v : Wire) → NamesPaired p K v → Fits p.program K ty v → fits p ty v ≡ true
unfolding fits
fits_value p K sound passes ty v named h = layer_fits p K sound passes ty (out-Ty ty) refl v named h

dead_fits : (p : Places) (K : Knowledge) (ty : Ty) (l : Ty-F Ty) (v : WireView) → FitsLayer p.program K l (wire.Ptr v) → fits_by p ty l wire.Dead ≡ true
dead_fits p K ty (Ty-F.Int k) v h = elim h [ ]
dead_fits p K ty Ty-F.Lock v h = elim h [ ]
dead_fits p K ty (Ty-F.Struct s) v h = elim h [ ]
dead_fits p K ty (Ty-F.Ptr t) v h = refl
dead_fits p K ty Ty-F.VoidPtr v h = refl
dead_fits p K ty (Ty-F.Fun types) v h = elim h [ ]
dead_fits p K ty Ty-F.Void v h = elim h [ ]

none_named : (p : Places) (K : Knowledge) (v : Wire) → ((serial : ℕ) → names_block serial v ≡ false) → NamesPaired p K v
none_named p K v none serial shape h known = absurd (not_both (sym h ∙ none serial))
  where
    not_both : true ≡ false → ⊥
    not_both e = cc

-- a value as it is sent
pub fits_normal : {p : Places} {K : Knowledge} {m : Memory} → Judges p K m → (ty : Ty) (v : Wire) → Fits p.program K ty v → fits p ty (normal m v) ≡ true
unfolding normal fits
fits_normal {p} {K} {m} judges ty (wire.Ptr v) h = by_life (is_live m v.serial) refl where
  here : is_live m v.serial ≡ true → NamesPaired p K (wire.Ptr v)
  here live serial shape named known = judges.pairs serial shape known (ap (is_live m) (sym (same_serial v.serial serial named)) ∙ live)
    where
      same_serial : (a b : ℕ) → (a == b) ≡ true → a ≡ b
      same_serial a b e = grind arith

  by_life : (b : Bool) → is_live m v.serial ≡ b → fits_by p ty (out-Ty ty) (normal_if b v) ≡ true
  by_life true live = layer_fits p K judges.sound judges.passes ty (out-Ty ty) refl (wire.Ptr v) (here live) h
  by_life false dead = dead_fits p K ty (out-Ty ty) v h
fits_normal {p} {K} {m} judges ty (wire.Int k n) h = layer_fits p K judges.sound judges.passes ty (out-Ty ty) refl (wire.Int k n) (none_named p K (wire.Int k n) (λ s. refl)) h
fits_normal {p} {K} {m} judges ty wire.Null h = layer_fits p K judges.sound judges.passes ty (out-Ty ty) refl wire.Null (none_named p K wire.Null (λ s. refl)) h
fits_normal {p} {K} {m} judges ty wire.Dead h = layer_fits p K judges.sound judges.passes ty (out-Ty ty) refl wire.Dead (none_named p K wire.Dead (λ s. refl)) h
fits_normal {p} {K} {m} judges ty (wire.Fn f) h = layer_fits p K judges.sound judges.passes ty (out-Ty ty) refl (wire.Fn f) (none_named p K (wire.Fn f) (λ s. refl)) h
fits_normal {p} {K} {m} judges ty (wire.Lock s) h = layer_fits p K judges.sound judges.passes ty (out-Ty ty) refl (wire.Lock s) (none_named p K (wire.Lock s) (λ n. refl)) h
fits_normal {p} {K} {m} judges ty wire.NoValue h = layer_fits p K judges.sound judges.passes ty (out-Ty ty) refl wire.NoValue (none_named p K wire.NoValue (λ s. refl)) h

-- a test of results is one of values, where there is a value
some_result : (p : Places) (ty : Ty) (v : Wire) → fits p ty v ≡ true → fits_result p ty v ≡ true
unfolding fits_result
some_result p ty (wire.Int k n) h = h
some_result p ty wire.Null h = h
some_result p ty (wire.Ptr v) h = h
some_result p ty wire.Dead h = h
some_result p ty (wire.Fn f) h = h
some_result p ty (wire.Lock s) h = h
some_result p ty wire.NoValue h = refl

none_result : (p : Places) (ty : Ty) (m : Memory) → fits_result p ty (normal m wire.NoValue) ≡ true
unfolding fits_result normal
none_result p ty m = refl

pub result_fits : {p : Places} {K : Knowledge} {m : Memory} → Judges p K m → (ty : Ty) (v : Wire) → IsResult p.program K ty v → fits_result p ty (normal m v) ≡ true
result_fits {p} {K} {m} judges ty wire.NoValue h = none_result p ty m
result_fits {p} {K} {m} judges ty (wire.Int k n) h = some_result p ty _ (fits_normal judges ty (wire.Int k n) h)
result_fits {p} {K} {m} judges ty wire.Null h = some_result p ty _ (fits_normal judges ty wire.Null h)
result_fits {p} {K} {m} judges ty (wire.Ptr v) h = some_result p ty _ (fits_normal judges ty (wire.Ptr v) h)
result_fits {p} {K} {m} judges ty wire.Dead h = some_result p ty _ (fits_normal judges ty wire.Dead h)
result_fits {p} {K} {m} judges ty (wire.Fn f) h = some_result p ty _ (fits_normal judges ty (wire.Fn f) h)
result_fits {p} {K} {m} judges ty (wire.Lock s) h = some_result p ty _ (fits_normal judges ty (wire.Lock s) h)

-- ---- arguments

-- by any test that each value passes in its place
pub args_pass : (test : Ty → Wire → Bool) (i : ℕ) (t : Ty) (v : Wire) (ts : List Ty) (vs : List Wire) → test t v ≡ true → args_fault test (suc i) ts vs ≡ None → args_fault test i (t ∷ ts) (v ∷ vs) ≡ None
unfolding args_fault
args_pass test i t v ts vs h rest = ap (λ (b : Bool). cond b (args_fault test (suc i) ts vs) (Some (fault refusal.BadArgs i))) h ∙ rest

pub no_args : (test : Ty → Wire → Bool) (i : ℕ) → args_fault test i [] [] ≡ None
unfolding args_fault
no_args test i = refl

pub args_fit : {p : Places} {K : Knowledge} {m : Memory} → Judges p K m → (types : List Ty) (vs : List Wire) → AllFit p.program K vs types → (i : ℕ) → args_fault (fits p) i types (map (normal m) vs) ≡ None
args_fit {p} judges [] [] all i = no_args (fits p) i
args_fit judges [] (v ∷ vs) all i = elim all [ ]
args_fit judges (t ∷ ts) [] all i = elim all [ ]
args_fit {p} {K} {m} judges (t ∷ ts) (v ∷ vs) all i = args_pass (fits p) i t (normal m v) ts (map (normal m) vs) (fits_normal judges t v all.0) (args_fit judges ts vs all.1 (suc i))

pub params_are : (o : Option Func) (func : Func) → o ≡ Some func → params_of o ≡ map (λ (x : Param). x.ty) func.params
params_are o func e = ap params_of e

pub result_is : (o : Option Func) (func : Func) → o ≡ Some func → result_of o ≡ func.result
result_is o func e = ap result_of e

-- ---- cells

-- a cell of a memory in order holds no pointer to what doesn't live
normal_here : (m : Memory) (v : Wire) → ((serial : ℕ) → names_block serial v ≡ true → is_live m serial ≡ true) → normal m v ≡ v
unfolding normal
normal_here m (wire.Ptr p) lives = ap (λ (b : Bool). normal_if b p) (lives p.serial (eq-eqb p.serial p.serial refl))
normal_here m (wire.Int k n) lives = refl
normal_here m wire.Null lives = refl
normal_here m wire.Dead lives = refl
normal_here m (wire.Fn f) lives = refl
normal_here m (wire.Lock s) lives = refl
normal_here m wire.NoValue lives = refl

pub held_is_normal : {program : Program} {m : Memory} → IsFormed program m → (c : Cell) → normal m (held m c) ≡ held m c
held_is_normal {program} {m} formed c = normal_here m (held m c) (λ serial named. formed.closed c serial (sym (names-held m c serial) ∙ named))

-- what is told of a cell
pub cell_fits : {p : Places} {K : Knowledge} {m : Memory} {program : Program} → Judges p K m → IsFormed program m → (ty : Ty) (c : Cell) → Fits p.program K ty (held m c) → fits p ty (held m c) ≡ true
cell_fits {p} {K} {m} judges formed ty c h = ap (fits p ty) (sym (held_is_normal formed c)) ∙ fits_normal judges ty (held m c) h

-- ---- what fits is known and a view

pub fits_paired : (p : Places) (ty : Ty) (v : WireView) → fits p ty (wire.Ptr v) ≡ true → is_live p.paired v.serial ≡ true
unfolding fits
fits_paired p ty v h = of (out-Ty ty) h
  where
    pointer : (takes : ℕ → Bool) → fits_pointer p takes (wire.Ptr v) ≡ true → is_live p.paired v.serial ≡ true
    pointer takes e = and_left _ _ (and_right (takes v.ty) _ e)

    of : (l : Ty-F Ty) → fits_by p ty l (wire.Ptr v) ≡ true → is_live p.paired v.serial ≡ true
    of (Ty-F.Int k) e = absurd cc
    of Ty-F.Lock e = absurd cc
    of (Ty-F.Struct s) e = absurd cc
    of (Ty-F.Ptr t) e = pointer (λ n. is_named p.program n t) e
    of Ty-F.VoidPtr e = pointer (λ n. true) e
    of (Ty-F.Fun types) e = absurd cc
    of Ty-F.Void e = absurd cc

pointer_viewed : (p : Places) (ty : Ty) (v : WireView) → fits p ty (wire.Ptr v) ≡ true → is_view p.program p.memory (wire.Ptr v) ≡ true
unfolding fits
pointer_viewed p ty v h = of (out-Ty ty) h
  where
    pointer : (takes : ℕ → Bool) → fits_pointer p takes (wire.Ptr v) ≡ true → is_view p.program p.memory (wire.Ptr v) ≡ true
    pointer takes e = and_right (is_live p.paired v.serial) _ (and_right (takes v.ty) _ e)

    of : (l : Ty-F Ty) → fits_by p ty l (wire.Ptr v) ≡ true → is_view p.program p.memory (wire.Ptr v) ≡ true
    of (Ty-F.Int k) e = absurd cc
    of Ty-F.Lock e = absurd cc
    of (Ty-F.Struct s) e = absurd cc
    of (Ty-F.Ptr t) e = pointer (λ n. is_named p.program n t) e
    of Ty-F.VoidPtr e = pointer (λ n. true) e
    of (Ty-F.Fun types) e = absurd cc
    of Ty-F.Void e = absurd cc

pub fits_viewed : (p : Places) (ty : Ty) (v : Wire) → fits p ty v ≡ true → is_view p.program p.memory v ≡ true
fits_viewed p ty (wire.Ptr v) h = pointer_viewed p ty v h
fits_viewed p ty (wire.Int k n) h = refl
fits_viewed p ty wire.Null h = refl
fits_viewed p ty wire.Dead h = refl
fits_viewed p ty (wire.Fn f) h = refl
fits_viewed p ty (wire.Lock s) h = refl
fits_viewed p ty wire.NoValue h = refl
