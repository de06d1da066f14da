-- Tests of types and of views, as the definitions have them.
use Rattle.std.proofs.Common.{◌≡◌, ◌↔◌, ◌≤◌, arith, ℕ, zero, suc, Bool, true, false, ◌&&◌, ◌==◌, List, [], ◌∷◌, map, length, slice_get, Option, Some, None, IsTrue, refl, sym, ◌∙◌, ap, subst, eqb-true, eq-eqb}
use Rattle.mdr_core.specs.declared.program.Func.{Func}
use Rattle.mdr_core.specs.declared.program.Param.{Param}
use Rattle.mdr_core.specs.declared.program.Program.{Program}
use Rattle.mdr_core.specs.declared.types.Shape.{Shape}
use Rattle.mdr_core.specs.declared.types.Ty.{Ty, out-Ty}
use Rattle.mdr_core.specs.declared.types.Ty.TheOpen.{Ty-F}
use Rattle.mdr_core.specs.declared.types.Ty.TheVariants as type
use Rattle.mdr_core.specs.declared.types.Ty.TheVariants.{outs-Fun}
use Rattle.mdr_core.specs.declared.value.View.{View}
use Rattle.mdr_core.specs.Services.{handler_type}
use Rattle.mdr_core.specs.Sound.{IsSound}
use Rattle.mdr_core.specs.Typing.{function_type}
use Rattle.mdr_core.specs.Views.{IsViewOf}
use Rattle.mdr_meaning.proofs.NumberLaws.{type_same, types_exact}
use Rattle.mdr_meaning.specs.declared.wire.WireView.{WireView}
use Rattle.mdr_meaning.specs.Fit.{view_of}
use Rattle.mdr_meaning.specs.Numbers.{is_same_type}
use Rattle.mdr_model.specs.declared.message.New.{New}
use Rattle.mdr_split.proofs.ViewsAreViews.{is_view_so, view_is}
use Rattle.mdr_split.specs.Fits.{is_in_block, is_named, is_that, is_view_of}

-- ---- types

pub same_tested : (r : Bool) (t u : Ty) → (IsTrue r ↔ (t ≡ u)) → r ≡ is_same_type t u
same_tested true t u h = sym (subst (λ (x : Ty). is_same_type t x ≡ true) (h.0 refl) (type_same t))
same_tested false t u h = by_test (is_same_type t u) refl where
  by_test : (b : Bool) → is_same_type t u ≡ b → false ≡ b
  by_test true q = absurd (cc (h.1 (types_exact t u q)))
  by_test false q = refl

pub has_tested : (r : Bool) (t u : Ty) → (IsTrue r ↔ (u ≡ t)) → r ≡ is_same_type t u
has_tested r t u h = same_tested r t u ((λ e. sym (h.0 e)), (λ e. h.1 (sym e)))

-- ---- the type of a function that takes and gives nothing

takes_nothing : (func : Func) → func.params ≡ [] → func.result ≡ type.Void → function_type func ≡ handler_type
takes_nothing func p r = λ i. type.Fun (r i ∷ map (λ (x : Param). x.ty) (p i))

pub handler_is : (func : Func) → length func.params ≡ 0 → func.result ≡ type.Void → is_same_type (function_type func) handler_type ≡ true
handler_is func none void = subst (λ (t : Ty). is_same_type (function_type func) t ≡ true) (takes_nothing func (empty func.params none) void) (type_same (function_type func)) where
  empty : (ps : List Param) → length ps ≡ 0 → ps ≡ []
  empty [] e = refl
  empty (p ∷ ps) e = absurd cc

handler_parts : (func : Func) → function_type func ≡ handler_type → (func.result ≡ type.Void) × (map (λ (x : Param). x.ty) func.params ≡ [])
handler_parts func e =
    let same : Ty-F.Fun (func.result ∷ map (λ (x : Param). x.ty) func.params) ≡ Ty-F.Fun (type.Void ∷ []) = sym (outs-Fun (func.result ∷ map (λ (x : Param). x.ty) func.params)) ∙ ap out-Ty e ∙ outs-Fun (type.Void ∷ []) in
    (cc, cc)

pub handler_when : (func : Func) (r : Bool) → length func.params ≡ 0 → (IsTrue r ↔ (func.result ≡ type.Void)) → r ≡ is_same_type (function_type func) handler_type
handler_when func true none h = sym (handler_is func none (h.0 refl))
handler_when func false none h = by_test (is_same_type (function_type func) handler_type) refl where
  by_test : (b : Bool) → is_same_type (function_type func) handler_type ≡ b → false ≡ b
  by_test true q = absurd (cc (h.1 (handler_parts func (types_exact (function_type func) handler_type q)).0))
  by_test false q = refl

pub handler_unless : (func : Func) → (length func.params ≡ 0 → ⊥) → false ≡ is_same_type (function_type func) handler_type
handler_unless func some = by_test (is_same_type (function_type func) handler_type) refl where
  none : (ps : List Param) → map (λ (x : Param). x.ty) ps ≡ [] → length ps ≡ 0
  none [] e = refl
  none (p ∷ ps) e = absurd cc

  by_test : (b : Bool) → is_same_type (function_type func) handler_type ≡ b → false ≡ b
  by_test true q = absurd (some (none func.params (handler_parts func (types_exact (function_type func) handler_type q)).1))
  by_test false q = refl

-- ---- views

view_so : (program : Program) → IsSound program → (block : New) (v : WireView) (r : Bool) → (IsTrue r ↔ IsViewOf program (record { ty = block.ty; count = block.count }) (view_of v)) → r ≡ is_view_of program block v
view_so program sound block v true h = sym (is_view_so program sound block v (h.0 refl))
view_so program sound block v false h = by_test (is_view_of program block v) refl where
  by_test : (b : Bool) → is_view_of program block v ≡ b → false ≡ b
  by_test true q = absurd (cc (h.1 (view_is program block v q)))
  by_test false q = refl

pub view_tested : (program : Program) → IsSound program → (block : New) (v : WireView) (s : Shape) (w : View) (r : Bool) → s ≡ record { ty = block.ty; count = block.count } → w ≡ view_of v → (IsTrue r ↔ IsViewOf program s w) → r ≡ is_view_of program block v
view_tested program sound block v s w r shape view h = view_so program sound block v r (subst (λ (x : View). IsTrue r ↔ IsViewOf program (record { ty = block.ty; count = block.count }) x) view (subst (λ (x : Shape). IsTrue r ↔ IsViewOf program x w) shape h))

past : (types : List Ty) (n : ℕ) (ty : Ty) → length types ≤ n → slice_get types n ≡ Some ty → ⊥
past [] n ty h e = cc
past (t ∷ ts) zero ty h e = omega arith
past (t ∷ ts) (suc n) ty h e = past ts n ty (omega (arith, h)) e

pub no_view : (program : Program) (block : New) (v : WireView) → length program.types ≤ block.ty → false ≡ is_view_of program block v
no_view program block v h = by_test (is_view_of program block v) refl where
  by_test : (b : Bool) → is_view_of program block v ≡ b → false ≡ b
  by_test true q = let is = view_is program block v q in absurd (past program.types block.ty is.ty h is.names)
  by_test false q = refl
