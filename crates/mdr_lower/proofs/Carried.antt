-- What isn't a literal has the type that it carries, and that is a scalar type.
use Rattle.std.proofs.Common.{◌≡◌, ℕ, Bool, true, false, nat_lt, List, ◌∷◌, length, map, IsTrue, refl, sym, ap, subst, ◌∙◌}
use Rattle.mdr_core.specs.declared.kind.Kind.{Kind}
use Rattle.mdr_core.specs.declared.kind.Kind.TheVariants.{S32, S64}
use Rattle.mdr_core.specs.declared.program.Param.{Param}
use Rattle.mdr_core.specs.declared.program.Program.{Program}
use Rattle.mdr_core.specs.declared.types.Ty.{Ty, out-Ty}
use Rattle.mdr_core.specs.declared.types.Ty.TheFolds.{map-Ty}
use Rattle.mdr_core.specs.declared.types.Ty.TheOpen.{Ty-F}
use Rattle.mdr_core.specs.declared.types.Ty.TheVariants as type
use Rattle.mdr_core.specs.declared.value.Value.{Value}
use Rattle.mdr_core.specs.declared.value.Value.TheVariants as value
use Rattle.mdr_core.specs.Layout.{chosen}
use Rattle.mdr_core.specs.Types.{Sort, Wrong, Aggregate, Scalar, is_pointer, is_pointer_by, is_scalar, is_scalar_by, sort_of, sort_layer}
use Rattle.mdr_core.specs.Typing.{Slot, Extent, One, Many, int, ptr, void_ptr, Literal}
use Rattle.mdr_core.proofs.Laid.{sort_is}
use Rattle.mdr_rich.specs.Carried.{literal_type, target_by, target_of, type_of, type_at}
use Rattle.mdr_rich.specs.Code.{Term, Lvalue}
use Rattle.mdr_rich.specs.Typing.{type_in, IsScalar, IsNoLiteral, Has, Designates}
use Rattle.mdr_lower.specs.Lowering.{keeps}

-- ---- scalar types

sort_at : (n : ℕ) (t : Ty) (l : Ty-F Ty) → out-Ty t ≡ l → sort_of n t ≡ sort_layer n (map-Ty Ty Sort (sort_of n) l)
sort_at n t l e = sort_is n t ∙ ap (λ l. sort_layer n (map-Ty Ty Sort (sort_of n) l)) e

pub int_is : (program : Program) (k : Kind) → IsScalar program (int k)
int_is program k = sort_at (length program.structs) (int k) (Ty-F.Int k) (type.outs-Int k)

void_ptr_is : (program : Program) → IsScalar program void_ptr
void_ptr_is program = sort_at (length program.structs) void_ptr Ty-F.VoidPtr type.outs-VoidPtr

scalar_by : (n : ℕ) (t : Ty-F Ty) → sort_layer n (map-Ty Ty Sort (sort_of n) t) ≡ Scalar → IsTrue (is_scalar_by t)
scalar_by n (Ty-F.Int k) h = refl
scalar_by n (Ty-F.Ptr t) h = refl
scalar_by n Ty-F.VoidPtr h = refl
scalar_by n (Ty-F.Fun ts) h = refl
scalar_by n Ty-F.Lock h = absurd cc
scalar_by n Ty-F.Void h = absurd cc
scalar_by n (Ty-F.Struct s) h = by_count (nat_lt s n) h where
  by_count : (b : Bool) → chosen b Aggregate Wrong ≡ Scalar → IsTrue false
  by_count true e = absurd cc
  by_count false e = absurd cc

pub scalar_is : (program : Program) (t : Ty) → IsScalar program t → IsTrue (is_scalar t)
scalar_is program t h = scalar_by (length program.structs) (out-Ty t) (sym (sort_is (length program.structs) t) ∙ h)

pub int_scalar : (k : Kind) → IsTrue (is_scalar (int k))
int_scalar k = subst (λ l. IsTrue (is_scalar_by l)) (sym (type.outs-Int k)) refl

-- ---- carried types

pub not_literal : (later : Bool) (e : Term) → keeps later e ≡ true → IsNoLiteral e
not_literal true (Term.Lit v) q = absurd cc
not_literal false (Term.Lit v) q = absurd cc
not_literal later e q = tt

no_pointer_by : (l : Ty-F Ty) (k : Kind) → l ≡ Ty-F.Int k → IsTrue (is_pointer_by l) → ⊥
no_pointer_by l k e h = let q : false ≡ true = ap is_pointer_by (sym e) ∙ h in absurd cc

no_pointer : (k : Kind) → IsTrue (is_pointer (int k)) → ⊥
no_pointer k h = no_pointer_by (out-Ty (int k)) k (type.outs-Int k) h

module _ (program : Program) (slots : List Slot) where
  mutual
    pub type_is : (e : Term) (t : Ty) → IsNoLiteral e → Has program slots e t → type_of e ≡ t
    type_is (Term.Lit v) t free h = absurd free
    type_is (Term.Load p) t free h = type_at_is p (One t) h.0.object
    type_is (Term.Addr p) t free h = ap type.Ptr (type_at_is p (One h.0.type) h.0.object) ∙ sym h.0.is
    type_is (Term.Decay p) t free h = ap type.Ptr (type_at_is p (Many h.0.type h.0.count) h.0.array) ∙ sym h.0.is
    type_is (Term.Neg k e) t free h = sym h.is
    type_is (Term.Flip k e) t free h = sym h.is
    type_is (Term.Not e) t free h = sym h.is
    type_is (Term.Bin op k a b) t free h = sym h.is
    type_is (Term.Rel op a b) t free h = sym h.is
    type_is (Term.And a b) t free h = sym h.is
    type_is (Term.Or a b) t free h = sym h.is
    type_is (Term.Conv k e) t free h = sym h.is
    type_is (Term.ToVoid e) t free h = sym h.is
    type_is (Term.FromVoid u e) t free h = sym h.is
    type_is (Term.Move back p i) t free h = type_is p (ptr h.0.type) h.1 h.0.pointer ∙ sym h.0.is
    type_is (Term.Diff p q) t free h = sym h.is
    type_is (Term.Cond u c a b) t free h = sym h.is
    type_is (Term.Call u f args shape format) t free h = sym h.is
    type_is (Term.Bump u up first p) t free h = sym h.is

    pub type_at_is : (p : Lvalue) (x : Extent) → Designates program slots p x → type_at p ≡ type_in x
    type_at_is (Lvalue.Slot i t) x h = h.1
    type_at_is (Lvalue.Object i t) x h = h.1
    type_at_is (Lvalue.Global g t) x h = h.1
    type_at_is (Lvalue.Deref e) x h = ap target_of (type_is e (ptr h.0.type) h.1 h.0.pointer) ∙ ap target_by (type.outs-Ptr h.0.type) ∙ ap type_in (sym h.0.is)
    type_at_is (Lvalue.Member p f t) x h = h.1
    type_at_is (Lvalue.Index p e) x h = type_at_is p (Many h.0.type h.0.count) h.0.array ∙ ap type_in (sym h.0.is)

  pub has_scalar : (e : Term) (t : Ty) → IsNoLiteral e → Has program slots e t → IsScalar program t
  has_scalar (Term.Lit v) t free h = absurd free
  has_scalar (Term.Load p) t free h = h.1
  has_scalar (Term.Addr p) t free h = h.1
  has_scalar (Term.Decay p) t free h = h.1
  has_scalar (Term.Neg k e) t free h = subst (IsScalar program) (sym h.is) (int_is program k)
  has_scalar (Term.Flip k e) t free h = subst (IsScalar program) (sym h.is) (int_is program k)
  has_scalar (Term.Not e) t free h = subst (IsScalar program) (sym h.is) (int_is program S32)
  has_scalar (Term.Bin op k a b) t free h = subst (IsScalar program) (sym h.is) (int_is program k)
  has_scalar (Term.Rel op a b) t free h = subst (IsScalar program) (sym h.is) (int_is program S32)
  has_scalar (Term.And a b) t free h = subst (IsScalar program) (sym h.is) (int_is program S32)
  has_scalar (Term.Or a b) t free h = subst (IsScalar program) (sym h.is) (int_is program S32)
  has_scalar (Term.Conv k e) t free h = subst (IsScalar program) (sym h.is) (int_is program k)
  has_scalar (Term.ToVoid e) t free h = subst (IsScalar program) (sym h.is) (void_ptr_is program)
  has_scalar (Term.FromVoid u e) t free h = subst (IsScalar program) (sym h.is) h.formed
  has_scalar (Term.Move back p i) t free h = subst (IsScalar program) (sym h.0.is) (has_scalar p (ptr h.0.type) h.1 h.0.pointer)
  has_scalar (Term.Diff p q) t free h = subst (IsScalar program) (sym h.is) (int_is program S64)
  has_scalar (Term.Cond u c a b) t free h = subst (IsScalar program) (sym h.is) h.formed
  has_scalar (Term.Call u f args shape format) t free h = subst (IsScalar program) (sym h.is) h.formed
  has_scalar (Term.Bump u up first p) t free h = subst (IsScalar program) (sym h.is) h.formed

  -- ---- integers carry their type, literals too

  literal_is : (v : Value) (k : Kind) → Literal program v (int k) → literal_type v ≡ int k
  literal_is (value.Int l n) k h = sym h.0
  literal_is value.Null k h = absurd (no_pointer k h)
  literal_is (value.Ptr v) k h = absurd h
  literal_is value.Dead k h = absurd h
  literal_is (value.Fn f) k h = absurd (no_pointer k (ap is_pointer h.2 ∙ ap is_pointer_by (type.outs-Fun (h.0.result ∷ map (λ (p : Param). p.ty) h.0.params))))
  literal_is (value.Lock s) k h = absurd h
  literal_is value.NoValue k h = absurd h

  pub integer_is : (e : Term) (k : Kind) → Has program slots e (int k) → type_of e ≡ int k
  integer_is (Term.Lit v) k h = literal_is v k h
  integer_is e k h = type_is e (int k) tt h
