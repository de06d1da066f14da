-- The innermost of some names, with one name more.
use Rattle.std.proofs.Common.{◌≡◌, ℕ, Bool, true, false, List, [], ◌∷◌, ◌++◌, Option, Some, None, Ok, refl, sym, ◌∙◌, subst, bytes_eq}
use Rattle.std.proofs.lemmas.Option.{same_Some}
use Rattle.mdr_core.specs.declared.program.Program.{Program}
use Rattle.mdr_core.specs.Layout.{chosen}
use Rattle.mdr_core.specs.Typing.{Slot}
use Rattle.mdr_faults.specs.declared.scope.Object.{Object}
use Rattle.mdr_operand.specs.declared.room.LocalName.{LocalName}
use Rattle.mdr_operand.specs.Rooms.{local_from, local_named}
use Rattle.mdr_sound.specs.Knowing.{IsKnownLocal, KnowsLocals}

named_from : (found : Option LocalName) (ns : List LocalName) (n : LocalName) (name : List ℕ) → local_from found (ns ++ n ∷ []) name ≡ chosen (bytes_eq n.name name) (Some n) (local_from found ns name)
unfolding local_from
named_from found [] n name = refl
named_from found (m ∷ ns) n name = named_from (chosen (bytes_eq m.name name) (Some m) found) ns n name

-- the last one hides those of its name
pub named_last : (ns : List LocalName) (n : LocalName) (name : List ℕ) → local_named (ns ++ n ∷ []) name ≡ chosen (bytes_eq n.name name) (Some n) (local_named ns name)
named_last ns n name = named_from None ns n name

-- something holds of what a name means, if it holds of the last one and of those before it
pub by_last : (P : LocalName → Type 0) (ns : List LocalName) (n m : LocalName) (name : List ℕ) → (bytes_eq n.name name ≡ true → P n) → (bytes_eq n.name name ≡ false → local_named ns name ≡ Some m → P m) → local_named (ns ++ n ∷ []) name ≡ Some m → P m
by_last P ns n m name last before e = on (bytes_eq n.name name) refl (sym (named_last ns n name) ∙ e) where
  on : (b : Bool) → bytes_eq n.name name ≡ b → chosen b (Some n) (local_named ns name) ≡ Some m → P m
  on true is f = subst P (same_Some _ _ f) (last is)
  on false is f = before is f

pub knows_more : (program : Program) (slots : List Slot) (ns : List LocalName) (n : LocalName) → KnowsLocals program slots ns → ((o : Object) → n.means ≡ Ok o → IsKnownLocal program slots n o) → KnowsLocals program slots (ns ++ n ∷ [])
knows_more program slots ns n k known = record {
  locals = λ name m o e means. by_last (λ x. x.means ≡ Ok o → IsKnownLocal program slots x o) ns n m name (λ is. known o) (λ is f. k.locals name m o f) e means;
}
