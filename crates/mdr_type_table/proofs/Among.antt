-- What occurs in a program is among the types that its table is made of.
use Rattle.std.proofs.Common.{ℕ, zero, suc, ◌≡◌, ◌⊎◌, inl, inr, Bool, true, false, List, [], ◌∷◌, ◌++◌, map, Option, Some, None, slice_get, ap, sym, ◌∙◌, subst}
use Rattle.mdr_core.specs.declared.program.Func.{Func}
use Rattle.mdr_core.specs.declared.program.GlobalDef.{GlobalDef}
use Rattle.mdr_core.specs.declared.program.Local.{Local}
use Rattle.mdr_core.specs.declared.program.StructDef.{StructDef}
use Rattle.mdr_core.specs.declared.code.Stmt.{Stmt}
use Rattle.mdr_core.specs.declared.types.Ty.{Ty}
use Rattle.mdr_core.specs.Code.{Code, Codes}
use Rattle.mdr_core.specs.Folds.{codes_of}
use Rattle.mdr_core.specs.Layout.{chosen}
use Rattle.mdr_core.specs.TypeText.{Allocates, AllocatesIn}
use Rattle.mdr_lower.specs.Tables.{is_counted, Occurs, OfField, OfGlobal, OfParam, OfLocal, OfAllocation}
use Rattle.mdr_check.specs.declared.variable.Variable.{Variable}
use Rattle.mdr_check.specs.Tables.{type_table}
use Rattle.mdr_program.specs.declared.parts.Parts.{Parts}
use Rattle.mdr_program.specs.Occurring.{field_types, struct_types, global_types, param_types, local_types, shape_types, allocated, allocated_in, body_types, func_types, funcs_types, occurring}
use Rattle.mdr_program.specs.Orders.{IsAmong}
use Rattle.mdr_program.specs.Programs.{global_def, global_defs, with_types, made}
use Rattle.mdr_type_table.specs.Tabled.{TablesListWhatOccurs}

among_first : (t : Ty) (xs ys : List Ty) → IsAmong t xs → IsAmong t (xs ++ ys)
among_first t [] ys h = absurd h
among_first t (x ∷ xs) ys (inl e) = inl e
among_first t (x ∷ xs) ys (inr h) = inr (among_first t xs ys h)

among_second : (t : Ty) (xs ys : List Ty) → IsAmong t ys → IsAmong t (xs ++ ys)
among_second t [] ys h = h
among_second t (x ∷ xs) ys h = inr (among_second t xs ys h)

among_map : {A : Type 0} (f : A → Ty) (t : Ty) (xs : List A) (i : ℕ) (x : A) → slice_get xs i ≡ Some x → f x ≡ t → IsAmong t (map f xs)
among_map f t [] i x e is = absurd cc
among_map f t (y ∷ ys) zero x e is = let same : y ≡ x = cc in inl (ap f same ∙ is)
among_map f t (y ∷ ys) (suc i) x e is = inr (among_map f t ys i x e is)

-- a local that is counted
among_locals : (t : Ty) (ls : List Local) (i : ℕ) (l : Local) → slice_get ls i ≡ Some l → is_counted l ≡ true → l.ty ≡ t → IsAmong t (local_types ls)
among_locals t [] i l e c is = absurd cc
among_locals t (x ∷ xs) zero l e c is =
    let same : x ≡ l = cc in
    let counted : is_counted x ≡ true = ap is_counted same ∙ c in
    rw counted (inl (ap (λ (y : Local). y.ty) same ∙ is))
among_locals t (x ∷ xs) (suc i) l e c is = by (is_counted x) (among_locals t xs i l e c is)
  where
    by : (b : Bool) → IsAmong t (local_types xs) → IsAmong t (chosen b (x.ty ∷ local_types xs) (local_types xs))
    by true m = inr m
    by false m = m

among_structs : (t : Ty) (ds : List StructDef) (s : ℕ) (d : StructDef) → slice_get ds s ≡ Some d → IsAmong t (field_types d.fields) → IsAmong t (struct_types ds)
unfolding struct_types
among_structs t [] s d e h = absurd cc
among_structs t (x ∷ xs) zero d e h =
    let same : x ≡ d = cc in
    among_first t (field_types x.fields) (struct_types xs) (subst (λ (y : StructDef). IsAmong t (field_types y.fields)) (sym same) h)
among_structs t (x ∷ xs) (suc s) d e h = among_second t (field_types x.fields) (struct_types xs) (among_structs t xs s d e h)

among_funcs : (t : Ty) (fs : List Func) (i : ℕ) (f : Func) → slice_get fs i ≡ Some f → IsAmong t (func_types f) → IsAmong t (funcs_types fs)
unfolding funcs_types
among_funcs t [] i f e h = absurd cc
among_funcs t (x ∷ xs) zero f e h =
    let same : x ≡ f = cc in
    among_first t (func_types x) (funcs_types xs) (subst (λ (y : Func). IsAmong t (func_types y)) (sym same) h)
among_funcs t (x ∷ xs) (suc i) f e h = among_second t (func_types x) (funcs_types xs) (among_funcs t xs i f e h)

among_globals : (types : List Ty) (structs : List StructDef) (all vs : List Variable) (t : Ty) (g : ℕ) (def : GlobalDef) → slice_get (global_defs types structs all vs) g ≡ Some def → def.ty ≡ t → IsAmong t (global_types vs)
unfolding global_defs
among_globals types structs all [] t g def e is = absurd cc
among_globals types structs all (v ∷ vs) t zero def e is =
    let same : global_def types structs all v ≡ def = cc in
    inl (ap (λ (d : GlobalDef). d.ty) same ∙ is)
among_globals types structs all (v ∷ vs) t (suc g) def e is = inr (among_globals types structs all vs t g def e is)

-- ---- allocations

shape_among : (t : Ty) (shape : Option Ty) → shape ≡ Some t → IsAmong t (shape_types shape)
shape_among t None e = absurd cc
shape_among t (Some u) e = inl cc

either_among : (t : Ty) (A B : Type 0) (xs ys : List Ty) → (A → IsAmong t xs) → (B → IsAmong t ys) → A ⊎ B → IsAmong t (xs ++ ys)
either_among t A B xs ys f g (inl a) = among_first t xs ys (f a)
either_among t A B xs ys f g (inr b) = among_second t xs ys (g b)

mutual
  allocated_among : (t : Ty) (c : Code) → Allocates t c → IsAmong t (allocated c)
  allocated_among t (Code.Declare n i) h = h
  allocated_among t (Code.Text n i bytes) h = h
  allocated_among t (Code.Assign n p e) h = h
  allocated_among t (Code.Call n goal call) h = shape_among t call.shape h
  allocated_among t (Code.If n e one other) h = either_among t (AllocatesIn t one) (AllocatesIn t other) (allocated_in one) (allocated_in other) (allocated_in_among t one) (allocated_in_among t other) h
  allocated_among t (Code.Loop n e step body) h = either_among t (AllocatesIn t step) (AllocatesIn t body) (allocated_in step) (allocated_in body) (allocated_in_among t step) (allocated_in_among t body) h
  allocated_among t (Code.Block body) h = allocated_in_among t body h
  allocated_among t (Code.Return n e) h = h
  allocated_among t (Code.Jump n way) h = h

  allocated_in_among : (t : Ty) (cs : Codes) → AllocatesIn t cs → IsAmong t (allocated_in cs)
  allocated_in_among t Codes.End h = h
  allocated_in_among t (Codes.Then c cs) h = either_among t (Allocates t c) (AllocatesIn t cs) (allocated c) (allocated_in cs) (allocated_among t c) (allocated_in_among t cs) h

-- ---- a program

body_among : (t : Ty) (o : Option (List Stmt)) (body : List Stmt) → o ≡ Some body → AllocatesIn t (codes_of body) → IsAmong t (body_types o)
body_among t o body e h = subst (λ (b : Option (List Stmt)). IsAmong t (body_types b)) (sym e) (allocated_in_among t (codes_of body) h)

module _ (types : List Ty) (ps : Parts) (t : Ty) where
  abbrev parts : List Ty
  parts = struct_types ps.structs ++ (global_types ps.variables ++ funcs_types ps.funcs)

  of_func : (f : ℕ) (func : Func) → slice_get ps.funcs f ≡ Some func → IsAmong t (func_types func) → IsAmong t parts
  of_func f func e h =
      among_second t (struct_types ps.structs) (global_types ps.variables ++ funcs_types ps.funcs)
      (among_second t (global_types ps.variables) (funcs_types ps.funcs) (among_funcs t ps.funcs f func e h))

  of_part : Occurs (with_types types ps) t → IsAmong t parts
  of_part (OfField s f def x names has is) =
      among_first t (struct_types ps.structs) (global_types ps.variables ++ funcs_types ps.funcs)
      (among_structs t ps.structs s def names (among_map (λ x. x.ty) t def.fields f x has is))
  of_part (OfGlobal g def names is) =
      among_second t (struct_types ps.structs) (global_types ps.variables ++ funcs_types ps.funcs)
      (among_first t (global_types ps.variables) (funcs_types ps.funcs) (among_globals types ps.structs ps.variables ps.variables t g def names is))
  of_part (OfParam f i func p names has is) =
      of_func f func names (among_first t (param_types func.params) (local_types func.locals ++ body_types func.body) (among_map (λ p. p.ty) t func.params i p has is))
  of_part (OfLocal f i func l names has counted is) =
      of_func f func names (among_second t (param_types func.params) (local_types func.locals ++ body_types func.body)
      (among_first t (local_types func.locals) (body_types func.body) (among_locals t func.locals i l has counted is)))
  of_part (OfAllocation f func body names has h) =
      of_func f func names (among_second t (param_types func.params) (local_types func.locals ++ body_types func.body)
      (among_second t (local_types func.locals) (body_types func.body) (body_among t func.body body has h)))

pub tables_list_what_occurs : TablesListWhatOccurs
unfolding made occurring
tables_list_what_occurs ps t h = of_part (type_table ps.structs (occurring ps)) ps t h
