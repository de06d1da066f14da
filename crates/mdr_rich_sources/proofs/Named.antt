-- The types of what lowered places name: those that the source's places carry.
use Rattle.std.proofs.Common.{◌≡◌, ℕ, ◌<◌, ◌≤◌, Bool, true, false, [], length, Option, Some, slice_get, refl, ap, sym, ◌∙◌}
use Rattle.std.specs.Option.{option_map}
use Rattle.mdr_core.proofs.Coded.{addr_is, decay_is, deref_is, from_void_is, global_is, index_is, load_is, member_is, move_is, object_is, slot_is}
use Rattle.mdr_core.specs.declared.code.CallForm.{CallForm}
use Rattle.mdr_core.specs.declared.code.Expr.{Expr}
use Rattle.mdr_core.specs.declared.code.Expr.TheVariants as expr
use Rattle.mdr_core.specs.declared.code.Lval.{Lval}
use Rattle.mdr_core.specs.declared.code.Lval.TheVariants as lval
use Rattle.mdr_core.specs.declared.kind.Kind.{Kind}
use Rattle.mdr_core.specs.declared.kind.Kind.TheVariants.{S32, S64}
use Rattle.mdr_core.specs.declared.program.Program.{Program}
use Rattle.mdr_core.specs.declared.types.Ty.{Ty, out-Ty}
use Rattle.mdr_core.specs.declared.types.Ty.TheOpen.{Ty-F}
use Rattle.mdr_core.specs.declared.types.Ty.TheVariants as type
use Rattle.mdr_core.specs.Code.{Term as PlainTerm, Lvalue as PlainLvalue}
use Rattle.mdr_core.specs.Folds.{lvalue_of, term_of}
use Rattle.mdr_core.specs.Layout.{chosen, fields_of, struct_by}
use Rattle.mdr_core.specs.Typing.{Slot, Extent, Many, One, IsSlot, extent, int, ptr, slot_of_local, struct_type, void_ptr}
use Rattle.mdr_meaning.specs.Named.{field_of, field_type, global_type, member_type, named_type, pointed_type, slot_type, target_by, target_of}
use Rattle.mdr_lower.proofs.Carried.{type_at_is, type_is}
use Rattle.mdr_lower.specs.Lowering.{arm, as_call, element, inside, keeps, kept, low, low_args, low_callee, low_place, mapped, new_slot, part, slot_value, two, with_slot}
use Rattle.mdr_lower.specs.declared.work.Work.{Work}
use Rattle.mdr_rich.specs.Activity.{are_active, is_active}
use Rattle.mdr_rich.specs.Carried.{type_at, type_of}
use Rattle.mdr_rich.specs.Code.{Term, Lvalue}
use Rattle.mdr_rich.specs.Typing.{Designates, Has, IsNoLiteral, type_in}
use Rattle.mdr_rich_sources.specs.Expressions.{prep, prep_place}
use Rattle.mdr_rich_sources.proofs.Bounds.{names_in, names_place}
use Rattle.mdr_rich_sources.proofs.Forms.{CallsAlike, G, GP, form_goes, place_goes}
use Rattle.mdr_rich_sources.proofs.Preparing.{Both, N, rich_side}
use Rattle.mdr_rich_sources.proofs.Slots.{Fits, IsCounted, get_less, slot_back, slot_before, slot_stands}

-- the lowered function has the source's slots in front, and calls do the same
pub record Framed (b : Both) : Type 0 where
  pub alike : CallsAlike b
  pub fits : N b ≤ length b.all
  pub same : (i : ℕ) → i < N b → slice_get b.here.slots i ≡ slice_get b.all i

-- what is known of the program that code has its types in
pub record KnowsTypes (b : Both) (program : Program) : Type 0 where
  pub structs : b.known.program.structs ≡ program.structs
  pub globals : b.known.program.globals ≡ program.globals

pointer_not_int : (t : Ty) (k : Kind) → ptr t ≡ int k → ⊥
pointer_not_int t k e = let layers : Ty-F.Ptr t ≡ Ty-F.Int k = sym (type.outs-Ptr t) ∙ ap out-Ty e ∙ type.outs-Int k in cc

pointer_not_void : (t : Ty) → ptr t ≡ void_ptr → ⊥
pointer_not_void t e = let layers : Ty-F.Ptr t ≡ Ty-F.VoidPtr = sym (type.outs-Ptr t) ∙ ap out-Ty e ∙ type.outs-VoidPtr in cc

pointed_same : (t u : Ty) → ptr t ≡ ptr u → t ≡ u
pointed_same t u e = let layers : Ty-F.Ptr t ≡ Ty-F.Ptr u = sym (type.outs-Ptr t) ∙ ap out-Ty e ∙ type.outs-Ptr u in cc

in_extent : (array : Bool) (t : Ty) (count : ℕ) → t ≡ type_in (extent array t count)
in_extent true t count = refl
in_extent false t count = refl

module _ (b : Both) (framed : Framed b) (program : Program) (knows : KnowsTypes b program) (n : ℕ) where
  abbrev Q : Program
  Q = b.known.program

  abbrev pub at_place : Lval → Option Ty
  at_place l = named_type Q b.all (lvalue_of l)

  abbrev points : Expr → Option Ty
  points e = pointed_type Q b.all (term_of e)

  abbrev C : Work → Type 0
  C w = IsCounted (N b) b.all w

  abbrev F : Work → Type 0
  F w = Fits (N b) b.all w

  named_slot : (i : ℕ) (object : Bool) (x : Extent) → IsSlot b.here.slots i object x → option_map slot_type (slice_get b.all i) ≡ Some (type_in x)
  named_slot i object x h =
      ap (option_map slot_type) (sym (framed.same i (get_less b.here.slots i h.slot h.names)) ∙ h.names) ∙ ap Some (in_extent h.slot.array h.slot.ty h.slot.count) ∙ ap (λ y. Some (type_in y)) (sym h.is)

  slot_points : (i : ℕ) (u t : Ty) → slice_get b.all i ≡ Some (slot_of_local (new_slot u)) → u ≡ ptr t → points (slot_value i) ≡ Some t
  slot_points i u t stands is =
      ap (pointed_type Q b.all) (load_is (lval.Slot i) ∙ ap PlainTerm.Load (slot_is i)) ∙ ap (λ (o : Option Slot). target_of (option_map slot_type o)) stands ∙ ap (λ y. target_by (out-Ty y)) is ∙ ap target_by (type.outs-Ptr t)

  part_points : (c : Bool) (u t : Ty) (x : Work × Expr) → u ≡ ptr t → C x.0 → F (part c n u x).0 → points x.1 ≡ Some t → points (part c n u x).1 ≡ Some t
  part_points true u t x is c f h = slot_points x.0.next u t (slot_stands (N b) b.all u x.0 c f) is
  part_points false u t x is c f h = h

  part_back : (c : Bool) (u : Ty) (x : Work × Expr) → F (part c n u x).0 → F x.0
  part_back true u x f = slot_back (N b) b.all u x.0 f
  part_back false u x f = f

  goes : (e : Term) (t : Ty) → Has program b.here.slots e t → (w : Work) → G b (prep (rich_side b) b.rich_low b.here n e) w (low n e w)
  goes e t h w = form_goes b framed.alike framed.fits n e (names_in program b.here.slots e t h) w

  goes_at : (p : Lvalue) (x : Extent) → Designates program b.here.slots p x → (w : Work) → GP b (prep_place (rich_side b) b.rich_low b.here n p) w (low_place n p w)
  goes_at p x h w = place_goes b framed.alike framed.fits n p (names_place program b.here.slots p x h) w

  field_named : (s f : ℕ) (o : Option Ty) (x : Extent) → o ≡ Some (struct_type s) → option_map field_type (slice_get (fields_of program.structs s) f) ≡ Some (type_in x) → member_type Q o f ≡ Some (type_in x)
  field_named s f o x is h = ap (λ o. member_type Q o f) is ∙ ap (λ l. field_of Q (struct_by l) f) (type.outs-Struct s) ∙ ap (λ ss. option_map field_type (slice_get (fields_of ss s) f)) knows.structs ∙ h

  index_named : (c : Bool) (p : Lvalue) (e : Term) (t : Ty) (w : Work) → type_at p ≡ t → C (low_place n p w).0 → ((v : Work) → F (low n e v).0 → F v) → (F (low_place n p w).0 → at_place (low_place n p w).1 ≡ Some t)
      → F (chosen c (two element (kept n (type.Ptr (type_at p)) (mapped expr.Decay (low_place n p w))) (low n e)) (two lval.Index (low_place n p w) (low n e))).0
      → at_place (chosen c (two element (kept n (type.Ptr (type_at p)) (mapped expr.Decay (low_place n p w))) (low n e)) (two lval.Index (low_place n p w) (low n e))).1 ≡ Some t
  index_named true p e t w is c back h f =
      let x : Work × Lval = low_place n p w in
      let a : Work × Expr = kept n (type.Ptr (type_at p)) (mapped expr.Decay x) in
      let i : Expr = (low n e a.0).1 in
      ap (named_type Q b.all) (deref_is (expr.Move false a.1 i) ∙ ap PlainLvalue.Deref (move_is false a.1 i)) ∙ slot_points x.0.next (type.Ptr (type_at p)) t (slot_stands (N b) b.all (type.Ptr (type_at p)) x.0 c (back a.0 f)) (ap type.Ptr is)
  index_named false p e t w is c back h f =
      let x : Work × Lval = low_place n p w in
      ap (named_type Q b.all) (index_is x.1 (low n e x.0).1) ∙ h (back x.0 f)

  bump_points : (u t : Ty) (up first : Bool) (p : Lvalue) (w : Work) → u ≡ ptr t → C (low n (Term.Bump u up first p) w).0 → F (low n (Term.Bump u up first p) w).0 → points (low n (Term.Bump u up first p) w).1 ≡ Some t
  bump_points u t up true p w is c f = let x : Work × Lval = low_place n p w in slot_points x.0.next u t (slot_stands (N b) b.all u x.0 (slot_before (N b) b.all u x.0 c) f) is
  bump_points u t up false p w is c f = let x : Work × Lval = low_place n p w in slot_points x.0.next u t (slot_stands (N b) b.all u x.0 (slot_before (N b) b.all u x.0 c) f) is

  mutual
    points_is : (e : Term) (t : Ty) → Has program b.here.slots e (ptr t) → IsNoLiteral e → (w : Work) → C w → F (low n e w).0 → points (low n e w).1 ≡ Some t
    points_is (Term.Lit v) t h free w c f = absurd free
    points_is (Term.Load p) t h free w c f = ap (pointed_type Q b.all) (load_is (low_place n p w).1) ∙ ap target_of (named_is p (One (ptr t)) h.0.object w c f) ∙ ap target_by (type.outs-Ptr t)
    points_is (Term.Addr p) t h free w c f = ap (pointed_type Q b.all) (addr_is (low_place n p w).1) ∙ named_is p (One h.0.type) h.0.object w c f ∙ ap Some (sym (pointed_same t h.0.type h.0.is))
    points_is (Term.Decay p) t h free w c f = ap (pointed_type Q b.all) (decay_is (low_place n p w).1) ∙ named_is p (Many h.0.type h.0.count) h.0.array w c f ∙ ap Some (sym (pointed_same t h.0.type h.0.is))
    points_is (Term.Neg k e) t h free w c f = absurd (pointer_not_int t k h.is)
    points_is (Term.Flip k e) t h free w c f = absurd (pointer_not_int t k h.is)
    points_is (Term.Not e) t h free w c f = absurd (pointer_not_int t S32 h.is)
    points_is (Term.Bin op k x y) t h free w c f = absurd (pointer_not_int t k h.is)
    points_is (Term.Rel op x y) t h free w c f = absurd (pointer_not_int t S32 h.is)
    points_is (Term.And x y) t h free w c f = absurd (pointer_not_int t S32 h.is)
    points_is (Term.Or x y) t h free w c f = absurd (pointer_not_int t S32 h.is)
    points_is (Term.Conv k e) t h free w c f = absurd (pointer_not_int t k h.is)
    points_is (Term.ToVoid e) t h free w c f = absurd (pointer_not_void t h.is)
    points_is (Term.FromVoid u e) t h free w c f = ap (pointed_type Q b.all) (from_void_is u (low n e w).1) ∙ ap Some (sym (pointed_same t u h.is))
    points_is (Term.Move back p i) t h free w c f =
        let x : Work × Expr = low n p w in
        let y : Work × Expr = part (keeps (is_active i) p) n (type_of p) x in
        let fy : F y.0 = (goes i (int h.0.kind) h.0.steps y.0).back f in
        ap (pointed_type Q b.all) (move_is back y.1 (low n i y.0).1)
        ∙ part_points (keeps (is_active i) p) (type_of p) h.0.type x (type_is program b.here.slots p (ptr h.0.type) h.1 h.0.pointer) ((goes p (ptr h.0.type) h.0.pointer w).counted c) fy (points_is p h.0.type h.0.pointer h.1 w c (part_back (keeps (is_active i) p) (type_of p) x fy))
        ∙ ap Some (sym (pointed_same t h.0.type h.0.is))
    points_is (Term.Diff p q) t h free w c f = absurd (pointer_not_int t S64 h.is)
    points_is (Term.Cond u test x y) t h free w c f =
        let z : Work × Expr = low n test w in
        let left : Work × Expr = low n x (inside (with_slot u z.0)) in
        let gz = goes test h.test.type h.test.operand w in
        let fr : F (with_slot u z.0) = (goes x u h.one (inside (with_slot u z.0))).back ((goes y u h.other (inside (arm n z.0.next left))).back f) in
        slot_points z.0.next u t (slot_stands (N b) b.all u z.0 (gz.counted c) fr) (sym h.is)
    points_is (Term.Call u g args shape format) t h free w c f =
        let e : Term = Term.Call u g args shape format in
        let x : Work × CallForm = two (as_call shape format) (low_callee n (are_active args) g w) (low_args n args []) in
        slot_points x.0.next u t (slot_stands (N b) b.all u x.0 (slot_before (N b) b.all u x.0 ((goes e (ptr t) h w).counted c)) f) (sym h.is)
    points_is (Term.Bump u up first p) t h free w c f = bump_points u t up first p w (sym h.is) ((goes (Term.Bump u up first p) (ptr t) h w).counted c) f

    pub named_is : (p : Lvalue) (x : Extent) → Designates program b.here.slots p x → (w : Work) → C w → F (low_place n p w).0 → at_place (low_place n p w).1 ≡ Some (type_in x)
    named_is (Lvalue.Slot i t) x h w c f = ap (named_type Q b.all) (slot_is i) ∙ named_slot i false x h.0
    named_is (Lvalue.Object i t) x h w c f = ap (named_type Q b.all) (object_is i) ∙ named_slot i true x h.0
    named_is (Lvalue.Global g t) x h w c f =
        ap (named_type Q b.all) (global_is g) ∙ ap (λ gs. option_map global_type (slice_get gs g)) knows.globals ∙ ap (option_map global_type) h.0.names ∙ ap Some (in_extent h.0.def.array h.0.def.ty h.0.def.count) ∙ ap (λ y. Some (type_in y)) (sym h.0.is)
    named_is (Lvalue.Deref e) x h w c f = ap (named_type Q b.all) (deref_is (low n e w).1) ∙ points_is e h.0.type h.0.pointer h.1 w c f ∙ ap (λ y. Some (type_in y)) (sym h.0.is)
    named_is (Lvalue.Member p f t) x h w c fits =
        ap (named_type Q b.all) (member_is (low_place n p w).1 f)
        ∙ field_named h.0.struct f (at_place (low_place n p w).1) x (named_is p (One (struct_type h.0.struct)) h.0.whole w c fits)
        (ap (option_map field_type) h.0.names ∙ ap Some (in_extent h.0.field.array h.0.field.ty h.0.field.count) ∙ ap (λ y. Some (type_in y)) (sym h.0.is))
    named_is (Lvalue.Index p e) x h w c f =
        index_named (is_active e) p e h.0.type w (type_at_is program b.here.slots p (Many h.0.type h.0.count) h.0.array) ((goes_at p (Many h.0.type h.0.count) h.0.array w).counted c) (λ v g. (goes e (int h.0.kind) h.0.index v).back g)
        (λ g. named_is p (Many h.0.type h.0.count) h.0.array w c g) f
        ∙ ap (λ y. Some (type_in y)) (sym h.0.is)
