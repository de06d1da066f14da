-- How the values of code stand to those of memories.
use Rattle.std.proofs.Common.{◌≡◌, ℕ, Bool, true, false, cond, List, [], ◌∷◌, ◌++◌, map, Option, Some, None, refl, sym, ◌∙◌, ap, subst, arith}
use Rattle.std.specs.Prelude.{◌==◌, is_some, IfSome}
use Rattle.std.proofs.lemmas.Bool.{eqb-true}
use Rattle.mdr_core.specs.declared.value.Block.{Block}
use Rattle.mdr_core.specs.declared.value.Value.{Value}
use Rattle.mdr_core.specs.declared.value.Value.TheVariants as value
use Rattle.mdr_core.specs.declared.types.Ty.{Ty, out-Ty}
use Rattle.mdr_core.specs.declared.types.Ty.TheOpen.{Ty-F}
use Rattle.mdr_core.specs.declared.types.Shape.{Shape}
use Rattle.mdr_core.specs.declared.program.Program.{Program}
use Rattle.mdr_model.specs.declared.message.BirthKind.{BirthKind}
use Rattle.mdr_core.specs.Layout.{Leaf, zero_by}
use Rattle.mdr_meaning.specs.declared.wire.Wire.{Wire}
use Rattle.mdr_meaning.specs.declared.wire.Wire.TheVariants as wire
use Rattle.mdr_meaning.specs.Values.{wire_of, wire_view}
use Rattle.mdr_model.specs.Memory.{is_live, normal, normal_if, zero_of, leaves_of, zero_block}
use Rattle.mdr_mem.specs.Contents.{Contents, IsInOrder, is_handle, handle_of, left_of, current, wire_in, born_as, new_block}
use Rattle.mdr_mem.specs.Rows.{IsOld}
use Rattle.mdr_mem.specs.Standing.{IsPlaced, ValuesStand}
use Rattle.mdr_mem.proofs.RowLaws.{first_is, later_is}

later-some : (h : Block) (hs : List Block) (o : Option Block) → IfSome o (λ c. is_handle hs c ≡ true) → IfSome o (λ c. is_handle (h ∷ hs) c ≡ true)
later-some h hs None k = tt
later-some h hs (Some c) k = later_is h hs c k

handle_is : (hs : List Block) (serial : ℕ) → IfSome (handle_of hs serial) (λ h. is_handle hs h ≡ true)
unfolding handle_of
handle_is [] serial = tt
handle_is (h ∷ hs) serial = of (h.serial == serial) (later-some h hs (handle_of hs serial) (handle_is hs serial))
  where
    of : (t : Bool) → IfSome (handle_of hs serial) (λ c. is_handle (h ∷ hs) c ≡ true) → IfSome (cond t (Some h) (handle_of hs serial)) (λ c. is_handle (h ∷ hs) c ≡ true)
    of true later = first_is h hs
    of false later = later

-- ---- a value in a cell

held : (s : Contents) (v : Value) → IsInOrder s → IsPlaced s.handles v → wire_in s.handles v ≡ normal s.memory (wire_of v)
unfolding current normal
held s (value.Ptr p) order placed = of (handle_of s.handles p.block.serial) refl placed (handle_is s.handles p.block.serial)
  where
    of : (o : Option Block) → handle_of s.handles p.block.serial ≡ o → IfSome o (λ h. h ≡ p.block) → IfSome o (λ h. is_handle s.handles h ≡ true)
        → wire_of (cond (is_handle s.handles p.block) (value.Ptr p) value.Dead) ≡ normal_if (is_live s.memory p.block.serial) (wire_view p)
    of None e here there =
        let dead : is_live s.memory p.block.serial ≡ false = order.handled p.block.serial ∙ ap is_some e in
        let gone : (t : Bool) → is_handle s.handles p.block ≡ t → t ≡ false = elim [ true ↦ λ k. ap is_some (sym (order.one p.block k) ∙ e) | false ↦ λ k. refl ] in
        rw (dead, gone (is_handle s.handles p.block) refl) refl
    of (Some h) e here there =
        let lives : is_live s.memory p.block.serial ≡ true = order.handled p.block.serial ∙ ap is_some e in
        rw (lives, subst (λ b. is_handle s.handles b ≡ true) here there) refl
held s (value.Int k n) order placed = refl
held s value.Null order placed = refl
held s value.Dead order placed = refl
held s (value.Fn f) order placed = refl
held s (value.Lock l) order placed = refl
held s value.NoValue order placed = refl

loaded : (s : Contents) (v : Value) → IsInOrder s → current s.handles v ≡ v → IsPlaced s.handles v
unfolding current
loaded s (value.Ptr p) order same = of (is_handle s.handles p.block) refl same
  where
    of : (t : Bool) → is_handle s.handles p.block ≡ t → cond t (value.Ptr p) value.Dead ≡ value.Ptr p → IfSome (handle_of s.handles p.block.serial) (λ h. h ≡ p.block)
    of true e k = rw (order.one p.block e) refl
    of false e k = absurd (grind (arith, k))
loaded s (value.Int k n) order same = tt
loaded s value.Null order same = tt
loaded s value.Dead order same = tt
loaded s (value.Fn f) order same = tt
loaded s (value.Lock l) order same = tt
loaded s value.NoValue order same = tt

-- ---- births and deaths

handle-append : (hs : List Block) (b : Block) (serial : ℕ) → (b.serial == serial) ≡ false → handle_of (hs ++ b ∷ []) serial ≡ handle_of hs serial
unfolding handle_of
handle-append [] b serial e = rw e refl
handle-append (h ∷ hs) b serial e = ap (λ o. cond (h.serial == serial) (Some h) o) (handle-append hs b serial e)

handle-left : (d : ℕ) (hs : List Block) (serial : ℕ) → handle_of (left_of d hs) serial ≡ cond (d == serial) None (handle_of hs serial)
unfolding handle_of left_of
handle-left d [] serial = grind arith
handle-left d (h ∷ hs) serial = of (h.serial == d) refl (handle-left d hs serial)
  where
    of : (t : Bool) → (h.serial == d) ≡ t → handle_of (left_of d hs) serial ≡ cond (d == serial) None (handle_of hs serial)
        → handle_of (cond t (left_of d hs) (h ∷ left_of d hs)) serial ≡ cond (d == serial) None (cond (h.serial == serial) (Some h) (handle_of hs serial))
    of true e later = grind (arith, eqb-true h.serial d, eqb-true h.serial serial)
    of false e later = grind (arith, eqb-true d serial)

born : (hs : List Block) (b : Block) (v : Value) → IsOld b.serial v → IsPlaced hs v → IsPlaced (hs ++ b ∷ []) v
born hs b (value.Ptr p) old placed = subst (λ o. IfSome o (λ h. h ≡ p.block)) (sym (handle-append hs b p.block.serial (grind (arith, eqb-true b.serial p.block.serial)))) placed
born hs b (value.Int k n) old placed = tt
born hs b value.Null old placed = tt
born hs b value.Dead old placed = tt
born hs b (value.Fn f) old placed = tt
born hs b (value.Lock l) old placed = tt
born hs b value.NoValue old placed = tt

died : (hs : List Block) (serial : ℕ) (v : Value) → IsPlaced hs v → IsPlaced (left_of serial hs) v
died hs serial (value.Ptr p) placed = subst (λ o. IfSome o (λ h. h ≡ p.block)) (sym (handle-left serial hs p.block.serial)) (of (serial == p.block.serial))
  where
    of : (t : Bool) → IfSome (cond t None (handle_of hs p.block.serial)) (λ h. h ≡ p.block)
    of true = tt
    of false = placed
died hs serial (value.Int k n) placed = tt
died hs serial value.Null placed = tt
died hs serial value.Dead placed = tt
died hs serial (value.Fn f) placed = tt
died hs serial (value.Lock l) placed = tt
died hs serial value.NoValue placed = tt

-- ---- zeros

abbrev IsPlain : Wire → Type 0
IsPlain (wire.Ptr p) = ⊥
IsPlain _ = Unit {0}

abbrev ArePlain : List Wire → Type 0
ArePlain [] = Unit {0}
ArePlain (w ∷ ws) = IsPlain w × ArePlain ws

plain : (hs : List Block) (v : Value) → IsPlain (wire_of v) → wire_in hs v ≡ wire_of v
unfolding current
plain hs (value.Ptr p) h = absurd h
plain hs (value.Int k n) h = refl
plain hs value.Null h = refl
plain hs value.Dead h = refl
plain hs (value.Fn f) h = refl
plain hs (value.Lock l) h = refl
plain hs value.NoValue h = refl

plains : (hs : List Block) (vs : List Value) → ArePlain (map wire_of vs) → map (wire_in hs) vs ≡ map wire_of vs
plains hs [] h = refl
plains hs (v ∷ vs) h = λ i. plain hs v h.0 i ∷ plains hs vs h.1 i

zero-plain : (layer : Ty-F Ty) → IsPlain (wire_of (zero_by layer))
zero-plain (Ty-F.Int k) = tt
zero-plain Ty-F.Lock = tt
zero-plain (Ty-F.Struct s) = tt
zero-plain (Ty-F.Ptr t) = tt
zero-plain Ty-F.VoidPtr = tt
zero-plain (Ty-F.Fun ts) = tt
zero-plain Ty-F.Void = tt

zeros-plain : (leaves : List Leaf) → ArePlain (map zero_of leaves)
zeros-plain [] = tt
zeros-plain (l ∷ ls) = (zero-plain (out-Ty l.type), zeros-plain ls)

zero : (program : Program) (kind : BirthKind) (shape : Shape) (first : List Value) (b : Block) (hs : List Block)
    → map wire_of first ≡ map zero_of (leaves_of program (born_as kind shape b)) → new_block kind shape first b hs ≡ zero_block program (born_as kind shape b)
zero program kind shape first b hs e =
    λ i. record { born = born_as kind shape b; cells = (plains hs first (subst ArePlain (sym e) (zeros-plain (leaves_of program (born_as kind shape b)))) ∙ e) i }

pub values_stand : ValuesStand
values_stand = record {
  held = held;
  loaded = loaded;
  born = born;
  died = died;
  zero = zero;
}
