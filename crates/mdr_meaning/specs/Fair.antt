-- believed
-- Fair trees: what is known of the tree of a sound program's code. It names only what there is and what is known, uses values as their types allow, and comes to no stop but its own.
use Rattle.std.specs.Prelude.{◌≡◌, ℕ, ◌≤◌, Bool, true, false, ◌||◌, ◌==◌, ◌⊎◌, List, [], ◌∷◌, ◌++◌, length, map, Some, None, slice_get, IsTrue}
use Rattle.mdr_core.specs.declared.kind.Kind.TheVariants.{U8, U32, S32}
use Rattle.mdr_core.specs.declared.place.At.{At}
use Rattle.mdr_core.specs.declared.stop.StopKind.{StopKind}
use Rattle.mdr_core.specs.declared.stop.StopKind.TheVariants as stop
use Rattle.mdr_core.specs.declared.types.Ty.{Ty}
use Rattle.mdr_core.specs.declared.types.Ty.TheVariants as type
use Rattle.mdr_core.specs.declared.program.Program.{Program}
use Rattle.mdr_core.specs.declared.program.Func.{Func}
use Rattle.mdr_core.specs.declared.program.Param.{Param}
use Rattle.mdr_core.specs.Code.{Code, Codes}
use Rattle.mdr_core.specs.Kinds.{is_in_range}
use Rattle.mdr_core.specs.Services.{Service, Kzalloc, Kcalloc, Kfree, Readl, Writel, Printk, RequestIrq, FreeIrq, Deliver, Combolock, Combounlock, Bug, Enter, Leave, handler_type, service_numbered}
use Rattle.mdr_core.specs.Sound.{all_cells}
use Rattle.mdr_core.specs.Types.{HasNoLock, is_scalar}
use Rattle.mdr_meaning.specs.declared.shape.Shape64.{Shape64}
use Rattle.mdr_meaning.specs.declared.wire.Wire.{Wire}
use Rattle.mdr_meaning.specs.declared.wire.Wire.TheVariants as wire
use Rattle.mdr_meaning.specs.Fit.{Knowledge, Grows, IsKnownView, IsInteger, IsDataPointer, IsAddress, PointsTo, Fits, IsResult}
use Rattle.mdr_meaning.specs.Sides.{Body, Side}
use Rattle.mdr_meaning.specs.Tree.{Asked, Tree}
use Rattle.mdr_meaning.specs.Values.{first_of}

-- the stops that code comes to by itself. The others are those of services and of sets of cells
abbrev pub is_code_stop : StopKind → Bool
is_code_stop stop.Null = true
is_code_stop stop.Dead = true
is_code_stop stop.Bounds = true
is_code_stop stop.Overflow = true
is_code_stop stop.DivZero = true
is_code_stop stop.Shift = true
is_code_stop stop.Compare = true
is_code_stop stop.BadCast = true
is_code_stop stop.BadCall = false
is_code_stop stop.NoValue = true
is_code_stop stop.LockHeld = false
is_code_stop stop.LockFree = false
is_code_stop stop.Depth = true
is_code_stop stop.Bug = false
is_code_stop stop.Annotation = false
is_code_stop stop.Ticks = true
is_code_stop stop.Atomic = false

-- ---- places

-- a statement of the code has the number
abbrev mutual
  pub stands_in : ℕ → Code → Bool
  stands_in n (Code.Declare m i) = n == m
  stands_in n (Code.Text m i bytes) = n == m
  stands_in n (Code.Assign m p e) = n == m
  stands_in n (Code.Call m goal form) = n == m
  stands_in n (Code.If m e one other) = n == m || (stands n one || stands n other)
  stands_in n (Code.Loop m e step body) = n == m || (stands n step || stands n body)
  stands_in n (Code.Block body) = stands n body
  stands_in n (Code.Return m e) = n == m
  stands_in n (Code.Jump m way) = n == m

  pub stands : ℕ → Codes → Bool
  stands n Codes.End = false
  stands n (Codes.Then c cs) = stands_in n c || stands n cs

-- a statement of a body of the side, or 0 for the body as a whole
pub record IsPlace (side : Side) (at : At) : Type 0 where
  pub body : Body
  pub own : side.own at.func ≡ Some body
  pub stmt : (at.stmt ≡ 0) ⊎ (stands at.stmt body.code ≡ true)

-- ---- what is passed on

-- a value that names nothing unknown
abbrev pub IsKnown : Program → Knowledge → Wire → Type 0
IsKnown program K (wire.Int k n) = is_in_range k n ≡ true
IsKnown program K wire.Null = Unit {0}
IsKnown program K (wire.Ptr p) = IsKnownView program K p
IsKnown program K wire.Dead = Unit {0}
IsKnown program K (wire.Fn f) = (func : Func) × (slice_get program.funcs f ≡ Some func) × (K.uses.taken f ≡ true)
IsKnown program K (wire.Lock s) = ⊥
IsKnown program K wire.NoValue = ⊥

abbrev pub AreKnown : Program → Knowledge → List Wire → Type 0
AreKnown program K [] = Unit {0}
AreKnown program K (v ∷ vs) = IsKnown program K v × AreKnown program K vs

-- as many values as types, each of which fits
abbrev pub AllFit : Program → Knowledge → List Wire → List Ty → Type 0
AllFit program K [] [] = Unit {0}
AllFit program K [] (t ∷ ts) = ⊥
AllFit program K (v ∷ vs) [] = ⊥
AllFit program K (v ∷ vs) (t ∷ ts) = Fits program K t v × AllFit program K vs ts

-- ---- objects of locals

-- an object of a local is of a type of the table without locks, and has 1 to 65,536 cells
pub record IsBirth (program : Program) (s : Shape64) : Type 0 where
  pub ty : Ty
  pub names : slice_get program.types s.ty ≡ Some ty
  pub no_lock : HasNoLock program ty
  pub some : 1 ≤ s.count
  pub small : length (all_cells program ty s.count) ≤ 65536

abbrev pub AreBirths : Program → List Shape64 → Type 0
AreBirths program [] = Unit {0}
AreBirths program (s ∷ shapes) = IsBirth program s × AreBirths program shapes

-- a pointer stands at the first of so many elements
abbrev pub Begins : (count : ℕ) → Wire → Type 0
Begins count (wire.Ptr p) = (p.index ≡ 0) × (p.count ≡ count)
Begins count _ = Unit {0}

-- a pointer for each object, to the first of its elements
abbrev pub AreBorn : Program → Knowledge → List Shape64 → List Wire → Type 0
AreBorn program K [] [] = Unit {0}
AreBorn program K [] (p ∷ ps) = ⊥
AreBorn program K (s ∷ shapes) [] = ⊥
AreBorn program K (s ∷ shapes) (p ∷ ps) = IsDataPointer program K (λ n. n ≡ s.ty) p × Begins s.count p × AreBorn program K shapes ps

abbrev pub is_first_type : List Shape64 → ℕ → Type 0
is_first_type [] n = ⊥
is_first_type (s ∷ shapes) n = n ≡ s.ty

-- ---- services

-- a service is asked with arguments of these types alone
pub record TakesArgs (program : Program) (K : Knowledge) (a : Asked) (params : List Ty) : Type 0 where
  pub fit : AllFit program K a.args params
  pub no_shapes : a.shapes ≡ []
  pub no_bytes : a.bytes ≡ []

-- an allocation, with one type of the table and how many elements
pub record TakesShape (program : Program) (a : Asked) (Counts : ℕ → Type 0) : Type 0 where
  pub shape : Shape64
  pub ty : Ty
  pub names : slice_get program.types shape.ty ≡ Some ty
  pub is : a.shapes ≡ shape ∷ []
  pub counts : Counts shape.count
  pub no_args : a.args ≡ []
  pub no_bytes : a.bytes ≡ []

-- at most so many bytes
pub record TakesBytes (a : Asked) (most : ℕ) : Type 0 where
  pub few : length a.bytes ≤ most
  pub no_args : a.args ≡ []
  pub no_shapes : a.shapes ≡ []

-- the name of a function that handles interrupts
pub record TakesHandler (program : Program) (K : Knowledge) (a : Asked) : Type 0 where
  pub takes : TakesArgs program K a (handler_type ∷ [])
  pub func : ℕ
  pub is : a.args ≡ wire.Fn func ∷ []
  pub handles : K.uses.handles func ≡ true

pub record TakesBirths (program : Program) (a : Asked) : Type 0 where
  pub births : AreBirths program a.shapes
  pub no_args : a.args ≡ []
  pub no_bytes : a.bytes ≡ []

pub record TakesDeaths (program : Program) (K : Knowledge) (a : Asked) : Type 0 where
  pub known : AreKnown program K a.args
  pub no_shapes : a.shapes ≡ []
  pub no_bytes : a.bytes ≡ []

-- what each service is asked with
abbrev pub IsAsk : Program → Knowledge → Asked → Service → Type 0
IsAsk program K a Kzalloc = TakesShape program a (λ n. n ≡ 1)
IsAsk program K a Kcalloc = TakesShape program a (λ n. Unit {0})
IsAsk program K a Kfree = TakesArgs program K a (type.VoidPtr ∷ [])
IsAsk program K a Readl = TakesArgs program K a (type.Int U32 ∷ [])
IsAsk program K a Writel = TakesArgs program K a (type.Int U32 ∷ type.Int U32 ∷ [])
IsAsk program K a Printk = TakesBytes a 4096
IsAsk program K a RequestIrq = TakesHandler program K a
IsAsk program K a FreeIrq = TakesArgs program K a []
IsAsk program K a Deliver = TakesBytes a 4294967295
IsAsk program K a Combolock = TakesArgs program K a (type.Ptr type.Lock ∷ [])
IsAsk program K a Combounlock = TakesArgs program K a (type.Ptr type.Lock ∷ [])
IsAsk program K a Bug = TakesArgs program K a []
IsAsk program K a Enter = TakesBirths program a
IsAsk program K a Leave = TakesDeaths program K a

-- what each gives: an allocation null or a new object, `readl` a u32, `request_irq` an s32, the births of objects their pointers, any other nothing
abbrev pub IsServed : Program → Knowledge → Asked → Service → List Wire → Type 0
IsServed program K a Kzalloc rs = IsDataPointer program K (is_first_type a.shapes) (first_of rs)
IsServed program K a Kcalloc rs = IsDataPointer program K (is_first_type a.shapes) (first_of rs)
IsServed program K a Readl rs = IsInteger U32 (first_of rs)
IsServed program K a RequestIrq rs = IsInteger S32 (first_of rs)
IsServed program K a Enter rs = AreBorn program K a.shapes rs
IsServed program K a s rs = first_of rs ≡ wire.NoValue

-- the objects of locals that live, the newest last: those that die are the newest
abbrev pub Leaves : Service → Asked → (live remains : List Wire) → Type 0
Leaves Leave a live remains = live ≡ remains ++ a.args
Leaves s a live remains = remains ≡ live

abbrev pub after : Service → (remains results : List Wire) → List Wire
after Enter remains rs = remains ++ rs
after s remains rs = remains

-- a call of a function of the other half, by one that may call it
pub record IsCall (program : Program) (K : Knowledge) (func : Func) (caller f : ℕ) (args : List Wire) (depth : ℕ) : Type 0 where
  pub calls : K.uses.calls caller f ≡ true
  pub names : slice_get program.funcs f ≡ Some func
  pub fit : AllFit program K args (map (λ (p : Param). p.ty) func.params)
  pub some : 1 ≤ depth
  pub limited : depth ≤ 255

-- ---- trees

-- what a scalar's pointer loads; nothing is loaded through another value
abbrev pub LoadsScalar : Ty → Wire → Type 0
LoadsScalar ty (wire.Ptr p) = IsTrue (is_scalar ty)
LoadsScalar ty _ = Unit {0}

-- a tree of a side's code, under a function with this result, where so much is known and these objects of locals live. They are the side's own, and none of them lives when the function ends. At most so many functions are active at a tick, before which a handler of interrupts may run, so that more is known
abbrev pub FairTo : (most : ℕ) → Program → Side → (result : Ty) → Knowledge → (live : List Wire) → Tree → Type 0
FairTo most program side result K live Tree.Idle = ⊥
FairTo most program side result K live (Tree.Waits k) = ⊥
FairTo most program side result K live (Tree.Done v t) = IsResult program K result v × (live ≡ [])
FairTo most program side result K live (Tree.Stop kind at) = IsPlace side at × (is_code_stop kind ≡ true)
FairTo most program side result K live (Tree.Tick at d t) = IsPlace side at × (1 ≤ d) × (d ≤ most) × ((K' : Knowledge) → Grows K K' → FairTo most program side result K' live t)
FairTo most program side result K live (Tree.Load at p k) =
    IsPlace side at × ((ty : Ty) × PointsTo program K ty p × LoadsScalar ty p × ((v : Wire) → Fits program K ty v → FairTo most program side result K live (k v)))
FairTo most program side result K live (Tree.Store at p v t) = IsPlace side at × ((ty : Ty) × PointsTo program K ty p × Fits program K ty v) × FairTo most program side result K live t
FairTo most program side result K live (Tree.Read at p n k) = IsPlace side at × PointsTo program K (type.Int U8) p × ((bs : List ℕ) → length bs ≡ n → FairTo most program side result K live (k bs))
FairTo most program side result K live (Tree.Fresh at v k) = IsPlace side at × IsAddress program K v × FairTo most program side result K live (k v)
FairTo most program side result K live (Tree.Birth at shapes k) =
    IsPlace side at × AreBirths program shapes
    × ((K' : Knowledge) → Grows K K' → (ps : List Wire) → AreBorn program K' shapes ps → FairTo most program side result K' (live ++ ps) (k ps))
FairTo most program side result K live (Tree.Death at ps t) =
    IsPlace side at × AreKnown program K ps × ((remains : List Wire) × (live ≡ remains ++ ps) × FairTo most program side result K remains t)
FairTo most program side result K live (Tree.Ask a k) =
    IsPlace side a.at
    × ((s : Service) × (service_numbered a.service ≡ Some s) × IsAsk program K a s
    × ((remains : List Wire) × Leaves s a live remains
    × ((K' : Knowledge) → Grows K K' → (rs : List Wire) → IsServed program K' a s rs → FairTo most program side result K' (after s remains rs) (k rs))))
FairTo most program side result K live (Tree.Cross at f args depth k) =
    IsPlace side at × (side.own f ≡ None)
    × ((func : Func) × IsCall program K func at.func f args depth
    × ((K' : Knowledge) → Grows K K' → (v : Wire) → IsResult program K' func.result v → FairTo most program side result K' live (k v)))

-- the same of code that is called: at most 256 functions are active
abbrev pub Fair : Program → Side → (result : Ty) → Knowledge → (live : List Wire) → Tree → Type 0
Fair program side result K live t = FairTo 256 program side result K live t
