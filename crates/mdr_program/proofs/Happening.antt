-- What occurs in the parts of a program occurs in the program.
use Rattle.std.proofs.Common.{ℕ, zero, suc, ◌≡◌, ◌⊎◌, inl, inr, refl, Bool, true, false, List, [], ◌∷◌, ◌++◌, map, Option, Some, None, slice_get, ap}
use Rattle.mdr_core.specs.declared.program.Func.{Func}
use Rattle.mdr_core.specs.declared.program.GlobalDef.{GlobalDef}
use Rattle.mdr_core.specs.declared.program.Local.{Local}
use Rattle.mdr_core.specs.declared.program.Program.{Program}
use Rattle.mdr_core.specs.declared.program.StructDef.{StructDef}
use Rattle.mdr_core.specs.declared.code.Stmt.{Stmt}
use Rattle.mdr_core.specs.declared.types.Ty.{Ty}
use Rattle.mdr_core.specs.Code.{Code, Codes}
use Rattle.mdr_core.specs.Folds.{codes_of}
use Rattle.mdr_core.specs.Layout.{chosen}
use Rattle.mdr_core.specs.TypeText.{Allocates, AllocatesIn}
use Rattle.mdr_lower.specs.Tables.{is_counted, Occurs, OfField, OfGlobal, OfParam, OfLocal, OfAllocation}
use Rattle.mdr_check.specs.declared.variable.Variable.{Variable}
use Rattle.mdr_check.specs.Tables.{type_table}
use Rattle.mdr_program.specs.declared.parts.Parts.{Parts}
use Rattle.mdr_program.specs.Occurring.{field_types, struct_types, global_types, param_types, local_types, shape_types, allocated, allocated_in, body_types, func_types, funcs_types, occurring}
use Rattle.mdr_program.specs.Orders.{IsAmong, TypesOccur}
use Rattle.mdr_program.specs.Programs.{global_def, global_defs, with_types, made}

among_parts : (t : Ty) (xs ys : List Ty) → IsAmong t (xs ++ ys) → IsAmong t xs ⊎ IsAmong t ys
among_parts t [] ys h = inr h
among_parts t (x ∷ xs) ys (inl e) = inl (inl e)
among_parts t (x ∷ xs) ys (inr h) = further (among_parts t xs ys h)
  where
    further : IsAmong t xs ⊎ IsAmong t ys → IsAmong t (x ∷ xs) ⊎ IsAmong t ys
    further (inl m) = inl (inr m)
    further (inr m) = inr m

-- an item of a list with what is known of it
record Found {A : Type 0} (P : A → Type 0) (xs : List A) : Type 0 where
  number : ℕ
  item : A
  names : slice_get xs number ≡ Some item
  known : P item

behind_one : {A : Type 0} (P : A → Type 0) (y : A) (xs : List A) → Found P xs → Found P (y ∷ xs)
behind_one P y xs h = record { number = suc h.number; item = h.item; names = h.names; known = h.known }

found : {A : Type 0} (f : A → Ty) (t : Ty) (xs : List A) → IsAmong t (map f xs) → Found (λ x. f x ≡ t) xs
found f t [] h = absurd h
found f t (x ∷ xs) (inl e) = record { number = 0; item = x; names = refl; known = e }
found f t (x ∷ xs) (inr h) = behind_one (λ x. f x ≡ t) x xs (found f t xs h)

-- a local that is counted
found_local : (t : Ty) (ls : List Local) → IsAmong t (local_types ls) → Found (λ (l : Local). (is_counted l ≡ true) × (l.ty ≡ t)) ls
found_local t [] h = absurd h
found_local t (l ∷ ls) h = by (is_counted l) refl h (found_local t ls)
  where
    by : (b : Bool) → is_counted l ≡ b → IsAmong t (chosen b (l.ty ∷ local_types ls) (local_types ls)) → (IsAmong t (local_types ls) → Found (λ (x : Local). (is_counted x ≡ true) × (x.ty ≡ t)) ls) → Found (λ (x : Local). (is_counted x ≡ true) × (x.ty ≡ t)) (l ∷ ls)
    by true e (inl is) rest = record { number = 0; item = l; names = refl; known = (e, is) }
    by true e (inr m) rest = behind_one (λ (x : Local). (is_counted x ≡ true) × (x.ty ≡ t)) l ls (rest m)
    by false e m rest = behind_one (λ (x : Local). (is_counted x ≡ true) × (x.ty ≡ t)) l ls (rest m)

found_struct : (t : Ty) (ds : List StructDef) → IsAmong t (struct_types ds) → Found (λ (d : StructDef). IsAmong t (field_types d.fields)) ds
unfolding struct_types
found_struct t [] h = absurd h
found_struct t (d ∷ ds) h = struct_by (among_parts t (field_types d.fields) (struct_types ds) h) (found_struct t ds)
  where
    struct_by : IsAmong t (field_types d.fields) ⊎ IsAmong t (struct_types ds) → (IsAmong t (struct_types ds) → Found (λ (d : StructDef). IsAmong t (field_types d.fields)) ds) → Found (λ (d : StructDef). IsAmong t (field_types d.fields)) (d ∷ ds)
    struct_by (inl m) rest = record { number = 0; item = d; names = refl; known = m }
    struct_by (inr m) rest = behind_one (λ (d : StructDef). IsAmong t (field_types d.fields)) d ds (rest m)

found_func : (t : Ty) (fs : List Func) → IsAmong t (funcs_types fs) → Found (λ (f : Func). IsAmong t (func_types f)) fs
unfolding funcs_types
found_func t [] h = absurd h
found_func t (f ∷ fs) h = func_by (among_parts t (func_types f) (funcs_types fs) h) (found_func t fs)
  where
    func_by : IsAmong t (func_types f) ⊎ IsAmong t (funcs_types fs) → (IsAmong t (funcs_types fs) → Found (λ (f : Func). IsAmong t (func_types f)) fs) → Found (λ (f : Func). IsAmong t (func_types f)) (f ∷ fs)
    func_by (inl m) rest = record { number = 0; item = f; names = refl; known = m }
    func_by (inr m) rest = behind_one (λ (f : Func). IsAmong t (func_types f)) f fs (rest m)

-- ---- allocations

shape_is : (t : Ty) (shape : Option Ty) → IsAmong t (shape_types shape) → shape ≡ Some t
shape_is t None h = absurd h
shape_is t (Some u) (inl e) = ap Some e
shape_is t (Some u) (inr h) = absurd h

either : {A B C D : Type 0} → (A → C) → (B → D) → A ⊎ B → C ⊎ D
either f g (inl a) = inl (f a)
either f g (inr b) = inr (g b)

mutual
  allocates : (t : Ty) (c : Code) → IsAmong t (allocated c) → Allocates t c
  allocates t (Code.Declare n i) h = h
  allocates t (Code.Text n i bytes) h = h
  allocates t (Code.Assign n p e) h = h
  allocates t (Code.Call n goal call) h = shape_is t call.shape h
  allocates t (Code.If n e one other) h = either (allocates_in t one) (allocates_in t other) (among_parts t (allocated_in one) (allocated_in other) h)
  allocates t (Code.Loop n e step body) h = either (allocates_in t step) (allocates_in t body) (among_parts t (allocated_in step) (allocated_in body) h)
  allocates t (Code.Block body) h = allocates_in t body h
  allocates t (Code.Return n e) h = h
  allocates t (Code.Jump n way) h = h

  pub allocates_in : (t : Ty) (cs : Codes) → IsAmong t (allocated_in cs) → AllocatesIn t cs
  allocates_in t Codes.End h = h
  allocates_in t (Codes.Then c cs) h = either (allocates t c) (allocates_in t cs) (among_parts t (allocated c) (allocated_in cs) h)

-- ---- a program

global_named : (types : List Ty) (structs : List StructDef) (vs rest : List Variable) (g : ℕ) (v : Variable) → slice_get rest g ≡ Some v → slice_get (global_defs types structs vs rest) g ≡ Some (global_def types structs vs v)
unfolding global_defs
global_named types structs vs [] g v e = cc
global_named types structs vs (w ∷ ws) zero v e = ap (option_some (global_def types structs vs)) e
  where
    option_some : (Variable → GlobalDef) → Option Variable → Option GlobalDef
    option_some f None = None
    option_some f (Some x) = Some (f x)
global_named types structs vs (w ∷ ws) (suc g) v e = global_named types structs vs ws g v e

body_occurs : (program : Program) (t : Ty) (f : ℕ) (func : Func) (body : Option (List Stmt)) → slice_get program.funcs f ≡ Some func → func.body ≡ body → IsAmong t (body_types body) → Occurs program t
body_occurs program t f func None names is h = absurd h
body_occurs program t f func (Some body) names is h = OfAllocation f func body names is (allocates_in t (codes_of body) h)

field_occurs : (program : Program) (t : Ty) → Found (λ (d : StructDef). IsAmong t (field_types d.fields)) program.structs → Occurs program t
field_occurs program t h =
    let x = found (λ x. x.ty) t h.item.fields h.known in
    OfField h.number x.number h.item x.item h.names x.names x.known

func_by_part : (program : Program) (t : Ty) (f : ℕ) (func : Func) → slice_get program.funcs f ≡ Some func → IsAmong t (param_types func.params) ⊎ (IsAmong t (local_types func.locals) ⊎ IsAmong t (body_types func.body)) → Occurs program t
func_by_part program t f func names (inl m) = let x = found (λ p. p.ty) t func.params m in OfParam f x.number func x.item names x.names x.known
func_by_part program t f func names (inr (inl m)) = let x = found_local t func.locals m in OfLocal f x.number func x.item names x.names x.known.0 x.known.1
func_by_part program t f func names (inr (inr m)) = body_occurs program t f func func.body names refl m

func_occurs : (program : Program) (t : Ty) → Found (λ (f : Func). IsAmong t (func_types f)) program.funcs → Occurs program t
func_occurs program t h =
    func_by_part program t h.number h.item h.names
    (either (λ m. m) (among_parts t (local_types h.item.locals) (body_types h.item.body)) (among_parts t (param_types h.item.params) (local_types h.item.locals ++ body_types h.item.body) h.known))

by_part : (types : List Ty) (ps : Parts) (t : Ty) → IsAmong t (struct_types ps.structs) ⊎ (IsAmong t (global_types ps.variables) ⊎ IsAmong t (funcs_types ps.funcs)) → Occurs (with_types types ps) t
by_part types ps t (inl m) = field_occurs (with_types types ps) t (found_struct t ps.structs m)
by_part types ps t (inr (inl m)) =
    let v = found (λ (v : Variable). v.object.ty) t ps.variables m in
    OfGlobal v.number (global_def types ps.structs ps.variables v.item) (global_named types ps.structs ps.variables ps.variables v.number v.item v.names) v.known
by_part types ps t (inr (inr m)) = func_occurs (with_types types ps) t (found_func t ps.funcs m)

pub types_occur : TypesOccur
unfolding made occurring
types_occur ps t h =
    by_part (type_table ps.structs (occurring ps)) ps t
    (either (λ m. m) (among_parts t (global_types ps.variables) (funcs_types ps.funcs)) (among_parts t (struct_types ps.structs) (global_types ps.variables ++ funcs_types ps.funcs) h))
