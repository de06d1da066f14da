-- Handles, and the values that have them.
use Rattle.std.proofs.Common.{◌≡◌, ℕ, Bool, true, false, cond, List, [], ◌∷◌, Some, None, refl, sym, ◌∙◌, ap, subst}
use Rattle.std.specs.Prelude.{◌==◌, is_some}
use Rattle.std.proofs.lemmas.Bool.{eqb-true}
use Rattle.mdr_core.specs.declared.value.Block.{Block}
use Rattle.mdr_core.specs.declared.value.Value.TheVariants as value
use Rattle.mdr_core.specs.declared.value.View.{View}
use Rattle.mdr_mem.specs.Contents.{Contents, IsInOrder, current, handle_of, is_handle, wire_in}
use Rattle.mdr_mem.proofs.RowLaws.{first_is, later_is}
use Rattle.mdr_meaning.specs.Values.{wire_of, wire_view}
use Rattle.mdr_meaning.specs.declared.wire.Wire.TheVariants as wire
use Rattle.mdr_model.specs.Memory.{is_live, normal, normal_if}

-- ---- handles

-- the handle with a serial is one of the list, and has it
pub handle-found : (hs : List Block) (serial : ℕ) (h : Block) → handle_of hs serial ≡ Some h → (is_handle hs h ≡ true) × (h.serial ≡ serial)
unfolding handle_of
handle-found [] serial h e = absurd cc
handle-found (g ∷ gs) serial h e = of (g.serial == serial) refl e (handle-found gs serial h)
  where
    of : (t : Bool) → (g.serial == serial) ≡ t → cond t (Some g) (handle_of gs serial) ≡ Some h
        → (handle_of gs serial ≡ Some h → (is_handle gs h ≡ true) × (h.serial ≡ serial))
        → (is_handle (g ∷ gs) h ≡ true) × (h.serial ≡ serial)
    of true f k later = let same : g ≡ h = cc in (subst (λ x. is_handle (g ∷ gs) x ≡ true) same (first_is g gs), ap (λ x. x.serial) (sym same) ∙ eqb-true g.serial serial f)
    of false f k later = (later_is g gs h (later k).0, (later k).1)

pub is_found : (hs : List Block) (serial : ℕ) (h : Block) → handle_of hs serial ≡ Some h → is_handle hs h ≡ true
is_found hs serial h e = (handle-found hs serial h e).0

pub serial_found : (hs : List Block) (serial : ℕ) (h : Block) → handle_of hs serial ≡ Some h → h.serial ≡ serial
serial_found hs serial h e = (handle-found hs serial h e).1

-- ---- blocks that live

pub lives : (s : Contents) → IsInOrder s → (serial : ℕ) (h : Block) → handle_of s.handles serial ≡ Some h → is_live s.memory serial ≡ true
lives s order serial h e = order.handled serial ∙ ap is_some e

pub dead : (s : Contents) → IsInOrder s → (serial : ℕ) → handle_of s.handles serial ≡ None → is_live s.memory serial ≡ false
dead s order serial e = order.handled serial ∙ ap is_some e

-- ---- pointers

-- the same with the slot of its block
abbrev pub placed : Block → View → View
placed b p = record { block = b; first = p.first; ty = p.ty; count = p.count; index = p.index }

pub wire-placed : (b : Block) (p : View) → b.serial ≡ p.block.serial → wire_of (value.Ptr (placed b p)) ≡ wire.Ptr (wire_view p)
wire-placed b p e = ap (λ (n : ℕ). wire.Ptr (record { serial = n; first = p.first; ty = p.ty; count = p.count; index = p.index })) e

pub pointer-lives : (s : Contents) (p : View) (b : Block) → IsInOrder s → handle_of s.handles p.block.serial ≡ Some b → wire_of (value.Ptr (placed b p)) ≡ normal s.memory (wire.Ptr (wire_view p))
unfolding normal
pointer-lives s p b order e = wire-placed b p (serial_found s.handles p.block.serial b e) ∙ ap (λ t. normal_if t (wire_view p)) (sym (lives s order p.block.serial b e))

pub pointer-dead : (s : Contents) (p : View) → IsInOrder s → handle_of s.handles p.block.serial ≡ None → wire.Dead ≡ normal s.memory (wire.Ptr (wire_view p))
unfolding normal
pointer-dead s p order e = ap (λ t. normal_if t (wire_view p)) (sym (dead s order p.block.serial e))

pub pointer-current : (hs : List Block) (p : View) (b : Block) (serial : ℕ) → handle_of hs serial ≡ Some b → current hs (value.Ptr (placed b p)) ≡ value.Ptr (placed b p)
unfolding current
pointer-current hs p b serial e = ap (λ t. cond t (value.Ptr (placed b p)) value.Dead) (is_found hs serial b e)

pub alive_is : (s : Contents) (b : Block) → IsInOrder s → is_handle s.handles b ≡ true → Some b ≡ handle_of s.handles b.serial
alive_is s b order e = sym (order.one b e)
