-- Each slot that code names is one of the first N: so it is in a body that has its types.
use Rattle.std.proofs.Common.{◌<◌, ℕ, List, [], ◌∷◌, length, map, Option, inl, inr, ⊎_elim}
use Rattle.mdr_core.specs.declared.code.BinOp.{BinOp}
use Rattle.mdr_core.specs.declared.code.BinOp.TheVariants.{Add, BitAnd, BitOr, BitXor, Div, Mul, Rem, Shl, Shr, Sub}
use Rattle.mdr_core.specs.declared.kind.Kind.{Kind}
use Rattle.mdr_core.specs.declared.program.Param.{Param}
use Rattle.mdr_core.specs.declared.program.Program.{Program}
use Rattle.mdr_core.specs.declared.types.Ty.{Ty}
use Rattle.mdr_core.specs.declared.types.Ty.TheVariants as type
use Rattle.mdr_core.specs.Services.{Service}
use Rattle.mdr_core.specs.Typing.{Slot, Extent, Many, One, RightOperand, int, ptr, struct_type, void_ptr}
use Rattle.mdr_rich.specs.Code.{Term, Lvalue, Called, Terms}
use Rattle.mdr_rich.specs.Typing.{Has, Designates, HasEach, PointerHas, gives_of}
use Rattle.mdr_rich_sources.proofs.Slots.{get_less}

module _ (N : ℕ) where
  abbrev mutual
    pub NamesIn : Term → Type 0
    NamesIn (Term.Lit v) = Unit {0}
    NamesIn (Term.Load p) = NamesPlace p
    NamesIn (Term.Addr p) = NamesPlace p
    NamesIn (Term.Decay p) = NamesPlace p
    NamesIn (Term.Neg k e) = NamesIn e
    NamesIn (Term.Flip k e) = NamesIn e
    NamesIn (Term.Not e) = NamesIn e
    NamesIn (Term.Bin op k a b) = NamesIn a × NamesIn b
    NamesIn (Term.Rel op a b) = NamesIn a × NamesIn b
    NamesIn (Term.And a b) = NamesIn a × NamesIn b
    NamesIn (Term.Or a b) = NamesIn a × NamesIn b
    NamesIn (Term.Conv k e) = NamesIn e
    NamesIn (Term.ToVoid e) = NamesIn e
    NamesIn (Term.FromVoid t e) = NamesIn e
    NamesIn (Term.Move back p i) = NamesIn p × NamesIn i
    NamesIn (Term.Diff p q) = NamesIn p × NamesIn q
    NamesIn (Term.Cond t c a b) = NamesIn c × NamesIn a × NamesIn b
    NamesIn (Term.Call t f args shape format) = NamesCalled f × NamesAll args
    NamesIn (Term.Bump t up first p) = NamesPlace p

    pub NamesPlace : Lvalue → Type 0
    NamesPlace (Lvalue.Slot i t) = i < N
    NamesPlace (Lvalue.Object i t) = i < N
    NamesPlace (Lvalue.Global g t) = Unit {0}
    NamesPlace (Lvalue.Deref e) = NamesIn e
    NamesPlace (Lvalue.Member p f t) = NamesPlace p
    NamesPlace (Lvalue.Index p e) = NamesPlace p × NamesIn e

    pub NamesCalled : Called → Type 0
    NamesCalled (Called.Direct f) = Unit {0}
    NamesCalled (Called.Through e) = NamesIn e
    NamesCalled (Called.Service n) = Unit {0}

    pub NamesAll : Terms → Type 0
    NamesAll Terms.End = Unit {0}
    NamesAll (Terms.Then e es) = NamesIn e × NamesAll es

-- ---- code that has its types

module _ (program : Program) (slots : List Slot) where
  right_names : (op : BinOp) (k : Kind) (P : Ty → Type 0) (Q : Type 0) → ((t : Ty) → P t → Q) → RightOperand op k P → Q
  right_names Shl k P Q f h = f (int h.0) h.1
  right_names Shr k P Q f h = f (int h.0) h.1
  right_names Add k P Q f h = f (int k) h
  right_names Sub k P Q f h = f (int k) h
  right_names Mul k P Q f h = f (int k) h
  right_names Div k P Q f h = f (int k) h
  right_names Rem k P Q f h = f (int k) h
  right_names BitAnd k P Q f h = f (int k) h
  right_names BitOr k P Q f h = f (int k) h
  right_names BitXor k P Q f h = f (int k) h

  mutual
    pub names_in : (e : Term) (t : Ty) → Has program slots e t → NamesIn (length slots) e
    names_in (Term.Lit v) t h = tt
    names_in (Term.Load p) t h = names_place p (One t) h.0.object
    names_in (Term.Addr p) t h = names_place p (One h.0.type) h.0.object
    names_in (Term.Decay p) t h = names_place p (Many h.0.type h.0.count) h.0.array
    names_in (Term.Neg k e) t h = names_in e (int k) h.operand
    names_in (Term.Flip k e) t h = names_in e (int k) h.operand
    names_in (Term.Not e) t h = names_in e h.operand.type h.operand.operand
    names_in (Term.Bin op k a b) t h = (names_in a (int k) h.left, right_names op k (Has program slots b) (NamesIn (length slots) b) (λ u q. names_in b u q) h.right)
    names_in (Term.Rel op a b) t h = (names_in a h.type h.left, names_in b h.type h.right)
    names_in (Term.And a b) t h = (names_in a h.left.type h.left.operand, names_in b h.right.type h.right.operand)
    names_in (Term.Or a b) t h = (names_in a h.left.type h.left.operand, names_in b h.right.type h.right.operand)
    names_in (Term.Conv k e) t h = names_in e (int h.from) h.operand
    names_in (Term.ToVoid e) t h = names_in e (ptr h.type) h.pointer
    names_in (Term.FromVoid u e) t h = names_in e void_ptr h.pointer
    names_in (Term.Move back p i) t h = (names_in p (ptr h.0.type) h.0.pointer, names_in i (int h.0.kind) h.0.steps)
    names_in (Term.Diff p q) t h = (names_in p (ptr h.type) h.left, names_in q (ptr h.type) h.right)
    names_in (Term.Cond u c a b) t h = (names_in c h.test.type h.test.operand, names_in a u h.one, names_in b u h.other)
    names_in (Term.Call u (Called.Direct f) args shape format) t h = (tt, names_all args (map (λ (p : Param). p.ty) h.gives.func.params) h.gives.call_is.args)
    names_in (Term.Call u (Called.Through e) args shape format) t h = (names_in e (type.Fun (u ∷ h.gives.params)) h.gives.pointer, names_all args h.gives.params h.gives.call_is.args)
    names_in (Term.Call u (Called.Service n) args shape format) t h =
        (tt, ⊎_elim (λ g. names_all args g.signature.params g.args) (λ g. names_all args (type.Fun (u ∷ g.param ∷ []) ∷ g.param ∷ []) g.args) h.gives)
    names_in (Term.Bump u up first p) t h = names_place p (One u) h.object

    pub names_place : (p : Lvalue) (x : Extent) → Designates program slots p x → NamesPlace (length slots) p
    names_place (Lvalue.Slot i t) x h = get_less slots i h.0.slot h.0.names
    names_place (Lvalue.Object i t) x h = get_less slots i h.0.slot h.0.names
    names_place (Lvalue.Global g t) x h = tt
    names_place (Lvalue.Deref e) x h = names_in e (ptr h.0.type) h.0.pointer
    names_place (Lvalue.Member p f t) x h = names_place p (One (struct_type h.0.struct)) h.0.whole
    names_place (Lvalue.Index p e) x h = (names_place p (Many h.0.type h.0.count) h.0.array, names_in e (int h.0.kind) h.0.index)

    pub names_all : (args : Terms) (ts : List Ty) → HasEach program slots args ts → NamesAll (length slots) args
    names_all Terms.End ts h = tt
    names_all (Terms.Then e es) [] h = absurd h
    names_all (Terms.Then e es) (t ∷ ts) h = (names_in e t h.0, names_all es ts h.1)

  -- what is called, by the call that is made
  pub names_called : (f : Called) (args : Terms) (H : Service → Type 0) (shape : Option Ty) (format : Option (List ℕ)) (u : Ty) → gives_of program (HasEach program slots args) H (PointerHas program slots f) shape format f u → NamesCalled (length slots) f × NamesAll (length slots) args
  names_called (Called.Direct f) args H shape format u h = (tt, names_all args (map (λ (p : Param). p.ty) h.func.params) h.call_is.args)
  names_called (Called.Through e) args H shape format u h = (names_in e (type.Fun (u ∷ h.params)) h.pointer, names_all args h.params h.call_is.args)
  names_called (Called.Service n) args H shape format u (inl g) = (tt, names_all args g.signature.params g.args)
  names_called (Called.Service n) args H shape format u (inr g) = (tt, names_all args (type.Fun (u ∷ g.param ∷ []) ∷ g.param ∷ []) g.args)
