-- Which views are those of a block is read of a program's types and structs alone.
use Rattle.std.proofs.Common.{◌≡◌, ℕ, zero, suc, ◌+◌, Bool, ◌&&◌, ◌||◌, ◌==◌, nat_le, List, [], ◌∷◌, length, Option, Some, None, slice_get, refl, ap, ◌∙◌}
use mathlib.Core.Path.{fun_ext}
use Rattle.mdr_core.specs.declared.program.Field.{Field}
use Rattle.mdr_core.specs.declared.program.Func.{Func}
use Rattle.mdr_core.specs.declared.program.Program.{Program}
use Rattle.mdr_core.specs.declared.types.Ty.{Ty}
use Rattle.mdr_core.specs.Layout.{chosen, field_start, fields_of, struct_cells, struct_of}
use Rattle.mdr_meaning.specs.declared.wire.Wire.{Wire}
use Rattle.mdr_meaning.specs.declared.wire.Wire.TheVariants as wire
use Rattle.mdr_meaning.specs.declared.wire.WireView.{WireView}
use Rattle.mdr_model.specs.declared.message.New.{New}
use Rattle.mdr_model.specs.Memory.{Memory, born_at}
use Rattle.mdr_split.specs.Fits.{is_named, is_whole, is_in_structs, is_in_struct, is_in_elements, is_in_fields, is_in_below, is_in_block, is_view_of, is_view_of_maybe, is_view}
use Rattle.mdr_user_text.proofs.Headings.{with_funcs}

pub either : (a a' b b' : Bool) → a ≡ a' → b ≡ b' → (a || b) ≡ (a' || b')
either a a' b b' p q = ap (λ (x : Bool). x || b) p ∙ ap (λ (y : Bool). a' || y) q

pub both : (a a' b b' : Bool) → a ≡ a' → b ≡ b' → (a && b) ≡ (a' && b')
both a a' b b' p q = ap (λ (x : Bool). x && b) p ∙ ap (λ (y : Bool). a' && y) q

module _ (program : Program) (funcs : List Func) where
  abbrev other : Program
  other = with_funcs program funcs

  module _ (v : WireView) where
    same_whole : (first : ℕ) (ty : Ty) (count : ℕ) → is_whole other v first ty count ≡ is_whole program v first ty count
    unfolding is_named
    same_whole first ty count = refl

    same_structs : (inside : (s first : ℕ) → Bool) (s size first : ℕ) (ty : Ty) (n : ℕ) → is_in_structs other v inside s size first ty n ≡ is_in_structs program v inside s size first ty n
    unfolding is_in_structs
    same_structs inside s size first ty zero = refl
    same_structs inside s size first ty (suc n) =
        either _ _ _ _ (same_whole first ty 1) (ap (λ (b : Bool). inside s first || b) (same_structs inside s size (first + size) ty n))

    same_struct : (inside : (s first : ℕ) → Bool) (o : Option ℕ) (first : ℕ) (ty : Ty) (count : ℕ) → is_in_struct other v inside o first ty count ≡ is_in_struct program v inside o first ty count
    same_struct inside None first ty count = refl
    same_struct inside (Some s) first ty count = same_structs inside s (length (struct_cells program.structs s)) first ty count

    same_elements : (inside : (s first : ℕ) → Bool) (first : ℕ) (ty : Ty) (count : ℕ) → is_in_elements other v inside first ty count ≡ is_in_elements program v inside first ty count
    same_elements inside first ty count = either _ _ _ _ (same_whole first ty count) (same_struct inside (struct_of ty) first ty count)

    same_fields : (inside : (s first : ℕ) → Bool) (s first f : ℕ) (xs : List Field) → is_in_fields other v inside s first f xs ≡ is_in_fields program v inside s first f xs
    unfolding is_in_fields
    same_fields inside s first f [] = refl
    same_fields inside s first f (x ∷ xs) =
        either _ _ _ _ (same_elements inside (first + field_start program.structs s f) x.ty x.count) (same_fields inside s first (suc f) xs)

    same_below : (n s first : ℕ) → is_in_below other v n s first ≡ is_in_below program v n s first
    unfolding is_in_below
    same_below zero s first = refl
    same_below (suc n) s first =
        ap (λ (b : Bool). chosen (s == n) b (is_in_below other v n s first))
        (ap (λ (inside : (s first : ℕ) → Bool). is_in_fields other v inside n first 0 (fields_of program.structs n)) (fun_ext (λ t. fun_ext (λ at. same_below n t at)))
        ∙ same_fields (is_in_below program v n) n first 0 (fields_of program.structs n))
        ∙ ap (λ (b : Bool). chosen (s == n) (is_in_fields program v (is_in_below program v n) n first 0 (fields_of program.structs n)) b) (same_below n s first)

    same_block : (o : Option Ty) (count : ℕ) → is_in_block other v o count ≡ is_in_block program v o count
    same_block None count = refl
    same_block (Some ty) count =
        ap (λ (inside : (s first : ℕ) → Bool). is_in_elements other v inside 0 ty count) (fun_ext (λ s. fun_ext (λ first. same_below (length program.structs) s first)))
        ∙ same_elements (is_in_below program v (length program.structs)) 0 ty count

  same_view_of : (block : New) (v : WireView) → is_view_of other block v ≡ is_view_of program block v
  unfolding is_view_of
  same_view_of block v = ap (λ (b : Bool). b && nat_le v.index v.count) (same_block v (slice_get program.types block.ty) block.count)

  same_view_of_maybe : (o : Option New) (v : WireView) → is_view_of_maybe other o v ≡ is_view_of_maybe program o v
  same_view_of_maybe None v = refl
  same_view_of_maybe (Some block) v = same_view_of block v

  pub same_view : (m : Memory) (v : Wire) → is_view other m v ≡ is_view program m v
  same_view m (wire.Ptr v) = same_view_of_maybe (born_at m v.serial) v
  same_view m (wire.Int k n) = refl
  same_view m wire.Null = refl
  same_view m wire.Dead = refl
  same_view m (wire.Fn f) = refl
  same_view m (wire.Lock s) = refl
  same_view m wire.NoValue = refl
