-- What is an lvalue has an address: that of what it names (C99 6.5.3.2).
use Rattle.std.specs.Prelude.{◌≡◌, ℕ, Bool, true, false, ◌&&◌, ◌||◌, List, length, Some, None, codes}
use Rattle.std.specs.Str.{bytes_eq}
use Rattle.std.proofs.Common.{refl, ap, sym, ◌∙◌, subst}
use Rattle.std.proofs.lemmas.Slice.Eq.{bytes_eq-Decides}
use Rattle.mdr_rich.specs.declared.code.Expr.{Expr}
use Rattle.mdr_rich.specs.declared.code.Expr.TheOpen.{Lval-F}
use Rattle.mdr_rich.specs.declared.code.Expr.TheVariants as expr
use Rattle.mdr_rich.specs.declared.code.Lval.{Lval, out-Lval, roll-Lval, roll-out-Lval}
use Rattle.mdr_rich.specs.declared.code.Lval.TheVariants as lval
use Rattle.mdr_core.specs.declared.place.Place.{Place}
use Rattle.mdr_core.specs.declared.program.Program.{Program}
use Rattle.mdr_core.specs.declared.types.Ty.{Ty}
use Rattle.mdr_core.specs.declared.types.Ty.TheVariants as type
use Rattle.mdr_rich.specs.Folds.{term_of, lvalue_of}
use Rattle.mdr_core.specs.Layout.{chosen}
use Rattle.mdr_core.specs.Typing.{Slot, One, IsTarget, IsElement}
use Rattle.mdr_rich.specs.Typing.{Has, Designates, HasAddress, IsScalar}
use Rattle.mdr_rich.proofs.Coded.{addr_is, decay_is, move_is, deref_is, index_is}
use Rattle.mdr_operand.specs.declared.operator.PrefixOperator.TheVariants as prefix
use Rattle.mdr_operand.specs.declared.room.LocalName.{LocalName}
use Rattle.mdr_operand.specs.Forms.{address_by, address_of}
use Rattle.mdr_operand.specs.Signs.{prefix_operator}
use Rattle.mdr_operand.specs.Written.{Written}
use Rattle.mdr_sound.specs.Knowing.{IsFormed, TakesNoSlot}
use Rattle.mdr_sound.specs.Operands.{IsOf, IsPointer, IsInSlot}
use Rattle.mdr_sound.proofs.Layers.{pointer_formed}
use Rattle.mdr_sound.proofs.Values.{of_term, no_literal}

-- ---- where an address is taken, it isn't that of a slot

-- the sign of an operator that takes addresses
is_address_sign : (op : List ℕ) → prefix_operator op ≡ Some prefix.Address → bytes_eq op (codes "&") ≡ true
is_address_sign op e = by (bytes_eq op (codes "+")) (bytes_eq op (codes "-")) (bytes_eq op (codes "~")) (bytes_eq op (codes "!")) (bytes_eq op (codes "&")) (bytes_eq op (codes "*")) e
  where
    by : (a b c d f g : Bool) → chosen a (Some prefix.Promote) (chosen b (Some prefix.Negate) (chosen c (Some prefix.Flip) (chosen d (Some prefix.Not) (chosen f (Some prefix.Address) (chosen g (Some prefix.Target) None))))) ≡ Some prefix.Address → f ≡ true
    by true b c d f g e = absurd cc
    by false true c d f g e = absurd cc
    by false false true d f g e = absurd cc
    by false false false true f g e = absurd cc
    by false false false false true g e = refl
    by false false false false false true e = absurd cc
    by false false false false false false e = absurd cc

address_named : (op name : List ℕ) → bytes_eq op (codes "&") ≡ true → ((bytes_eq op (codes "&") && bytes_eq name name) || false) ≡ true
address_named op name e = rw (e, (bytes_eq-Decides name name).1 refl) refl

pub not_in_slot : {C : Type 0} (names : List LocalName) (p : Place) (op : List ℕ) (w : Written) → prefix_operator op ≡ Some prefix.Address → TakesNoSlot names (Written.Prefix p op w) → IsInSlot names w → C
not_in_slot names p op (Written.Name at name) e none h =
    let lost : false ≡ true = sym (none.slots name h.local h.named h.in_slot) ∙ address_named op name (is_address_sign op e) in
    absurd cc
not_in_slot names p op (Written.Number at n k) e none h = elim h [ ]
not_in_slot names p op (Written.Null at) e none h = elim h [ ]
not_in_slot names p op (Written.Prefix at sign a) e none h = elim h [ ]
not_in_slot names p op (Written.Post at sign a) e none h = elim h [ ]
not_in_slot names p op (Written.Cast at base n a) e none h = elim h [ ]
not_in_slot names p op (Written.Binary at sign a b) e none h = elim h [ ]
not_in_slot names p op (Written.Choice at c a b) e none h = elim h [ ]
not_in_slot names p op (Written.Subscript at a i) e none h = elim h [ ]
not_in_slot names p op (Written.Member at a is_arrow on name) e none h = elim h [ ]
not_in_slot names p op (Written.Call at f args) e none h = elim h [ ]
not_in_slot names p op (Written.Text at bytes) e none h = elim h [ ]
not_in_slot names p op (Written.Names at base n) e none h = elim h [ ]

-- ---- addresses

some_one : (t u : Ty) → One t ≡ One u → t ≡ u
some_one t u e = cc

module _ (program : Program) (slots : List Slot) where
  -- of what has one
  taken_known : (l : Lval) (t : Ty) → Designates program slots (lvalue_of l) (One t) → HasAddress (lvalue_of l) → IsFormed program t → IsPointer program slots (expr.Addr l) t
  taken_known l t d a f = record {
    value = of_term program slots _ _ (type.Ptr t) (addr_is l) (record { type = t; object = d; kept = a; is = refl }, pointer_formed (length program.structs) t f);
    formed = f;
    no_literal = no_literal _ _ (addr_is l) tt;
  }

  target_by : (e : Expr) (t : Ty) → IsTarget (Has program slots (term_of e)) (One t) → IsOf program slots e (type.Ptr t)
  target_by e t h = subst (λ u. Has program slots (term_of e) (type.Ptr u)) (sym (some_one t h.type h.is)) h.pointer

  -- `&*p` is p
  of_target : (l : Lval) (e : Expr) (t : Ty) → l ≡ lval.Deref e → Designates program slots (lvalue_of l) (One t) → IsFormed program t → IsPointer program slots e t
  of_target l e t is d f =
      let at = subst (λ x. Designates program slots x (One t)) (ap lvalue_of is ∙ deref_is e) d in
      record { value = target_by e t at.0; formed = f; no_literal = at.1 }

  -- `&a[i]` is a + i
  element_by : (l : Lval) (e : Expr) (t : Ty) → IsElement (Designates program slots (lvalue_of l)) (Has program slots (term_of e)) (One t) → IsFormed program t → IsOf program slots (expr.Move false (expr.Decay l) e) (type.Ptr t)
  element_by l e t h f =
      let same = some_one t h.type h.is in
      of_term program slots _ _ (type.Ptr t) (move_is false (expr.Decay l) e) (
        record {
          type = h.type;
          kind = h.kind;
          pointer = of_term program slots (expr.Decay l) _ (type.Ptr h.type) (decay_is l) (record { type = h.type; count = h.count; array = h.array; is = refl }, subst (λ u. IsScalar program (type.Ptr u)) same (pointer_formed (length program.structs) t f));
          steps = h.index;
          is = ap (λ u. type.Ptr u) same;
        },
        no_literal _ _ (decay_is l) tt,
      )

  of_element : (m l : Lval) (e : Expr) (t : Ty) → m ≡ lval.Index l e → Designates program slots (lvalue_of m) (One t) → IsFormed program t → IsPointer program slots (expr.Move false (expr.Decay l) e) t
  of_element m l e t is d f = record {
    value = element_by l e t (subst (λ x. Designates program slots x (One t)) (ap lvalue_of is ∙ index_is l e) d).0 f;
    formed = f;
    no_literal = no_literal _ _ (move_is false (expr.Decay l) e) tt;
  }

  -- any other by its layer
  other : (l m : Lval) (t : Ty) → l ≡ m → Designates program slots (lvalue_of l) (One t) → HasAddress (lvalue_of l) → IsFormed program t → IsPointer program slots (expr.Addr m) t
  other l m t is d a h = taken_known m t (subst (λ x. Designates program slots (lvalue_of x) (One t)) is d) (subst (λ x. HasAddress (lvalue_of x)) is a) h

  address_by_known : (l : Lval) (f : Lval-F Expr Lval) (t : Ty) → out-Lval l ≡ f → Designates program slots (lvalue_of l) (One t) → HasAddress (lvalue_of l) → IsFormed program t → IsPointer program slots (address_by f) t
  address_by_known l (Lval-F.Slot i u) t is d a h = other l (lval.Slot i u) t (sym (roll-out-Lval l) ∙ ap roll-Lval is ∙ lval.rolls-Slot i u) d a h
  address_by_known l (Lval-F.Object i u) t is d a h = other l (lval.Object i u) t (sym (roll-out-Lval l) ∙ ap roll-Lval is ∙ lval.rolls-Object i u) d a h
  address_by_known l (Lval-F.Global g u) t is d a h = other l (lval.Global g u) t (sym (roll-out-Lval l) ∙ ap roll-Lval is ∙ lval.rolls-Global g u) d a h
  address_by_known l (Lval-F.Deref e) t is d a h = of_target l e t (sym (roll-out-Lval l) ∙ ap roll-Lval is ∙ lval.rolls-Deref e) d h
  address_by_known l (Lval-F.Member m f u) t is d a h = other l (lval.Member m f u) t (sym (roll-out-Lval l) ∙ ap roll-Lval is ∙ lval.rolls-Member m f u) d a h
  address_by_known l (Lval-F.Index m e) t is d a h = of_element l m e t (sym (roll-out-Lval l) ∙ ap roll-Lval is ∙ lval.rolls-Index m e) d h

  pub address_of_known : (l : Lval) (t : Ty) → Designates program slots (lvalue_of l) (One t) → HasAddress (lvalue_of l) → IsFormed program t → IsPointer program slots (address_of l) t
  unfolding address_of
  address_of_known l t d a h = address_by_known l (out-Lval l) t refl d a h
