-- What a name stands for is known (C99 6.5.1).
use Rattle.std.specs.Prelude.{◌≡◌, ℕ, Bool, true, false, List, Option, Some, None}
use Rattle.std.proofs.Common.{inr, refl, sym, ◌∙◌, subst}
use Rattle.mdr_rich.specs.declared.code.Lval.TheVariants as lval
use Rattle.mdr_core.specs.declared.place.Place.{Place}
use Rattle.mdr_core.specs.declared.program.Program.{Program}
use Rattle.mdr_core.specs.declared.types.Ty.TheVariants as type
use Rattle.mdr_core.specs.declared.value.Value.TheVariants as value
use Rattle.mdr_core.specs.Layout.{chosen}
use Rattle.mdr_core.specs.Typing.{Slot, extent}
use Rattle.mdr_rich.specs.Typing.{Designates, HasAddress}
use Rattle.mdr_rich.proofs.Coded.{lit_is, slot_is, object_is, global_is}
use Rattle.mdr_faults.specs.declared.scope.Entity.{Entity}
use Rattle.mdr_faults.specs.declared.scope.Entity.TheVariants as entity
use Rattle.mdr_faults.specs.declared.scope.Named.{Named}
use Rattle.mdr_faults.specs.declared.scope.Object.{Object}
use Rattle.mdr_faults.specs.declared.scope.Scope.{Scope}
use Rattle.mdr_faults.specs.Faults.{Right, again}
use Rattle.mdr_faults.specs.Scopes.{entity_named}
use Rattle.mdr_operand.specs.declared.operand.Operand.{Operand}
use Rattle.mdr_operand.specs.declared.room.LocalName.{LocalName}
use Rattle.mdr_operand.specs.Rooms.{local_named}
use Rattle.mdr_operand.specs.Written.{Written}
use Rattle.mdr_postfix.specs.Names.{object_operand, entity_operand, file_name, place_of_local, local_operand, local_or, name_rule}
use Rattle.mdr_sound.specs.Knowing.{IsKnownGlobal, IsKnownEntity, IsKnownLocal, Knows, KnowsLocals}
use Rattle.mdr_sound.specs.Operands.{IsInSlot, IsKnown}
use Rattle.mdr_sound.proofs.Placed.{same_extent, type_is, placed_known, object_known}
use Rattle.mdr_sound.proofs.Rights.{after_right, again_right, same_right, not_right}
use Rattle.mdr_sound.proofs.Values.{of_term}

module _ (program : Program) (slots : List Slot) (names : List LocalName) where
  -- ---- names of the file

  module _ (w : Written) where
    global_known : (g : ℕ) (o : Object) → IsKnownGlobal program g o → IsKnown program slots names w (object_operand (lval.Global g o.ty) o)
    global_known g o h = object_known program slots names w (lval.Global g o.ty) o
        (subst (λ x. Designates program slots x (extent o.array o.ty o.count)) (sym (global_is g o.ty)) (
          record {
            def = h.def;
            names = h.names;
            is = same_extent h.def.array o.array h.def.ty o.ty h.def.count o.count h.array h.ty h.count;
          },
          type_is o.array o.ty o.count,
        ))
        h.formed (subst HasAddress (sym (global_is g o.ty)) tt)

    entity_known : (e : Entity) → IsKnownEntity program e → IsKnown program slots names w (entity_operand e)
    unfolding entity_operand
    entity_known (entity.Constant c) h = of_term program slots _ _ (type.Int c.kind) (lit_is (value.Int c.kind c.number)) (refl, h)
    entity_known (entity.Global g o) h = global_known g o h
    entity_known (entity.Function f) h = record { func = h.func; names = h.names; types = h.types; formed = h.formed }

    file_name_known : (scope : Scope) (p : Place) (name : List ℕ) (o : Option Named) (y : Operand) → Knows program scope → entity_named scope name ≡ o → file_name p o ≡ Right y → IsKnown program slots names w y
    unfolding file_name
    file_name_known scope p name None y k is q = not_right _ y q
    file_name_known scope p name (Some entry) y k is q =
        let a = after_right (again entry.means) (λ e. Right (entity_operand e)) y q in
        subst (IsKnown program slots names w) (same_right _ _ a.made) (entity_known a.value (k.entities name entry a.value is (again_right entry.means a.value a.right)))

  -- ---- names of the function

  slot_known : (w : Written) (n : LocalName) (o : Object) (b : Bool) → n.is_object ≡ b → IsKnownLocal program slots n o → (b ≡ false → IsInSlot names w)
      → IsKnown program slots names w (object_operand (chosen b (lval.Object n.slot o.ty) (lval.Slot n.slot o.ty)) o)
  slot_known w n o true is h s = object_known program slots names w (lval.Object n.slot o.ty) o
      (subst (λ x. Designates program slots x (extent o.array o.ty o.count)) (sym (object_is n.slot o.ty)) (
        record {
          slot = h.slot;
          names = h.names;
          kept = h.kept ∙ is;
          is = same_extent h.slot.array o.array h.slot.ty o.ty h.slot.count o.count h.array h.ty h.count;
        },
        type_is o.array o.ty o.count,
      ))
      h.formed (subst HasAddress (sym (object_is n.slot o.ty)) tt)
  slot_known w n o false is h s = placed_known program slots names w (lval.Slot n.slot o.ty) o
      (subst (λ x. Designates program slots x (extent o.array o.ty o.count)) (sym (slot_is n.slot o.ty)) (
        record {
          slot = h.slot;
          names = h.names;
          kept = h.kept ∙ is;
          is = same_extent h.slot.array o.array h.slot.ty o.ty h.slot.count o.count h.array h.ty h.count;
        },
        type_is o.array o.ty o.count,
      ))
      h.formed (λ e. inr (s refl, h.scalar is)) (λ e. absurd (let lost : false ≡ true = sym (h.single is) ∙ e in cc))

  local_known : (p : Place) (name : List ℕ) (n : LocalName) (y : Operand) → KnowsLocals program slots names → local_named names name ≡ Some n → local_operand n ≡ Right y → IsKnown program slots names (Written.Name p name) y
  unfolding local_operand
  local_known p name n y k is q =
      let a = after_right (again n.means) (λ o. Right (object_operand (place_of_local n o.ty) o)) y q in
      subst (IsKnown program slots names (Written.Name p name)) (same_right _ _ a.made)
      (slot_known (Written.Name p name) n a.value n.is_object refl (k.locals name n a.value is (again_right n.means a.value a.right)) (λ e. record { local = n; named = is; in_slot = e }))

  local_or_known : (scope : Scope) (p : Place) (name : List ℕ) (o : Option LocalName) (y : Operand) → Knows program scope → KnowsLocals program slots names → local_named names name ≡ o
      → local_or o (file_name p (entity_named scope name)) ≡ Right y → IsKnown program slots names (Written.Name p name) y
  local_or_known scope p name None y k l is q = file_name_known (Written.Name p name) scope p name (entity_named scope name) y k refl q
  local_or_known scope p name (Some n) y k l is q = local_known p name n y l is q

  pub name_known : (scope : Scope) (p : Place) (name : List ℕ) (y : Operand) → Knows program scope → KnowsLocals program slots names → name_rule scope names p name ≡ Right y → IsKnown program slots names (Written.Name p name) y
  unfolding name_rule
  name_known scope p name y k l q = local_or_known scope p name (local_named names name) y k l refl q
