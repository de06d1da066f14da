-- What occurs in a half's text occurs in the whole source.
use Rattle.std.proofs.Common.{◌≡◌, inl, inr, Bool, true, false, List, [], ◌∷◌, ◌++◌, map, Option, None, sym, ap, ◌∙◌, subst}
use Rattle.mdr_core.specs.declared.plan.Half.{Half}
use Rattle.mdr_core.specs.declared.plan.Plan.{Plan}
use Rattle.mdr_core.specs.declared.code.Stmt.{Stmt}
use Rattle.mdr_core.specs.declared.program.Func.{Func}
use Rattle.mdr_core.specs.declared.program.Local.{Local}
use Rattle.mdr_core.specs.declared.program.StructDef.{StructDef}
use Rattle.mdr_core.specs.declared.types.Ty.{Ty, out-Ty}
use Rattle.mdr_core.specs.declared.types.Ty.TheOpen.{Ty-F}
use Rattle.mdr_core.specs.declared.types.Ty.TheVariants as type
use Rattle.mdr_core.specs.Typing.{function_type}
use Rattle.mdr_check.specs.declared.variable.Variable.{Variable}
use Rattle.mdr_program.specs.declared.parts.Parts.{Parts}
use Rattle.mdr_program.specs.Occurring.{struct_types, global_types, param_types, local_types, body_types, func_types, funcs_types, occurring}
use Rattle.mdr_program.specs.Orders.{IsAmong}
use Rattle.mdr_program.specs.Parts.{parts_of}
use Rattle.mdr_half.specs.Halves.{half_of, is_same_half}
use Rattle.mdr_half_program.specs.Pieces.{piece_in}
use Rattle.mdr_half_program.specs.Sides.{AreShown, IsShown, IsSide}
use Rattle.mdr_half_program.proofs.Sided.{sides_both}
use Rattle.mdr_half_program.specs.HalfTypes.{TypesOfHalvesOccur}
use Rattle.mdr_half_program.specs.SameTypes.{HaveSameTypes}
use Rattle.mdr_half_program.proofs.Same.{functions_keep}

-- ---- among joined types

among_first : (t : Ty) (xs ys : List Ty) → IsAmong t xs → IsAmong t (xs ++ ys)
among_first t [] ys h = absurd h
among_first t (x ∷ xs) ys (inl e) = inl e
among_first t (x ∷ xs) ys (inr h) = inr (among_first t xs ys h)

among_more : (t : Ty) (xs ys zs : List Ty) → (IsAmong t ys → IsAmong t zs) → IsAmong t (xs ++ ys) → IsAmong t (xs ++ zs)
among_more t [] ys zs f h = f h
among_more t (x ∷ xs) ys zs f (inl e) = inl e
among_more t (x ∷ xs) ys zs f (inr h) = inr (among_more t xs ys zs f h)

among_both : (t : Ty) (xs ys us vs : List Ty) → (IsAmong t xs → IsAmong t us) → (IsAmong t ys → IsAmong t vs) → IsAmong t (xs ++ ys) → IsAmong t (us ++ vs)
among_both t [] ys us vs f g h = among_second us (g h)
  where
    among_second : (us : List Ty) → IsAmong t vs → IsAmong t (us ++ vs)
    among_second [] k = k
    among_second (u ∷ us) k = inr (among_second us k)
among_both t (x ∷ xs) ys us vs f g (inl e) = among_first t us vs (f (inl e))
among_both t (x ∷ xs) ys us vs f g (inr h) = among_both t xs ys us vs (λ k. f (inr k)) g h

among_left : (t : Ty) (xs : List Ty) → IsAmong t (xs ++ []) → IsAmong t xs
among_left t [] h = h
among_left t (x ∷ xs) (inl e) = inl e
among_left t (x ∷ xs) (inr h) = inr (among_left t xs h)

-- ---- one function

same_fun : (ts us : List Ty) → Ty-F.Fun ts ≡ Ty-F.Fun us → ts ≡ us
same_fun ts us e = cc

same_rest : (t u : Ty) (ts us : List Ty) → (t ∷ ts) ≡ (u ∷ us) → ts ≡ us
same_rest t u ts us e = cc

params_same : (f g : Func) → function_type f ≡ function_type g → param_types g.params ≡ param_types f.params
params_same f g e =
    let fs : List Ty = f.result ∷ param_types f.params in
    let gs : List Ty = g.result ∷ param_types g.params in
    let out : Ty-F.Fun fs ≡ Ty-F.Fun gs = sym (type.outs-Fun fs) ∙ ap out-Ty e ∙ type.outs-Fun gs in
    sym (same_rest f.result g.result (param_types f.params) (param_types g.params) (same_fun fs gs out))

func_among : (t : Ty) (is_mine : Bool) (f g : Func) → IsShown is_mine f g → function_type f ≡ function_type g → IsAmong t (func_types g) → IsAmong t (func_types f)
func_among t true f g s e h = subst (λ (k : Func). IsAmong t (func_types k)) s h
func_among t false f g s e h =
    let bare = subst (λ (o : Option (List Stmt)). IsAmong t (param_types g.params ++ (local_types g.locals ++ body_types o))) s.body h in
    let alone = subst (λ (ls : List Local). IsAmong t (param_types g.params ++ (local_types ls ++ body_types None))) s.locals bare in
    among_first t (param_types f.params) (local_types f.locals ++ body_types f.body) (subst (λ (ts : List Ty). IsAmong t ts) (params_same f g e) (among_left t (param_types g.params) alone))

-- ---- all of them

module _ (half : Half) (plan : Plan) (t : Ty) where
  funcs_among : (fs gs : List Func) → AreShown half plan fs gs → HaveSameTypes fs gs → IsAmong t (funcs_types gs) → IsAmong t (funcs_types fs)
  unfolding funcs_types
  funcs_among [] [] a s h = h
  funcs_among [] (g ∷ gs) a s h = absurd a
  funcs_among (f ∷ fs) [] a s h = absurd a
  funcs_among (f ∷ fs) (g ∷ gs) a s h =
      among_both t (func_types g) (funcs_types gs) (func_types f) (funcs_types fs) (func_among t (is_same_half (half_of plan f.name) half) f g a.0 s.0) (funcs_among fs gs a.1 s.1) h

  parts_among : (p q : Parts) → IsSide half plan p q → HaveSameTypes p.funcs q.funcs → IsAmong t (occurring q) → IsAmong t (occurring p)
  unfolding occurring
  parts_among p q a s h =
      let one = subst (λ (ds : List StructDef). IsAmong t (struct_types ds ++ (global_types q.variables ++ funcs_types q.funcs))) a.structs h in
      let two = subst (λ (vs : List Variable). IsAmong t (struct_types p.structs ++ (global_types vs ++ funcs_types q.funcs))) a.variables one in
      among_more t (struct_types p.structs) (global_types p.variables ++ funcs_types q.funcs) (global_types p.variables ++ funcs_types p.funcs)
      (among_more t (global_types p.variables) (funcs_types q.funcs) (funcs_types p.funcs) (funcs_among p.funcs q.funcs a.funcs s)) two

pub types_occur_there : TypesOfHalvesOccur
types_occur_there body uses half plan tree xs e bodies t h =
    parts_among half plan t (parts_of xs) (parts_of (map (piece_in half plan) xs)) (sides_both half plan xs) (functions_keep body uses half plan tree xs e bodies) h
