-- The worked texts.
use Rattle.std.proofs.Common.{◌≡◌, ℕ, zero, suc, false, List, [], ◌∷◌, ◌++◌, Option, Some, slice_get, length, IsTrue, option_map, codes, refl, sym, ap, subst, ◌∙◌, arith}
use Rattle.std.specs.List.{list_all}
use Rattle.mdr_core.specs.declared.types.Ty.{Ty}
use Rattle.mdr_core.specs.declared.types.Ty.TheOpen.{Ty-F}
use Rattle.mdr_core.specs.declared.types.Ty.TheVariants as type
use Rattle.mdr_core.specs.declared.program.StructDef.{StructDef}
use Rattle.mdr_core.specs.TypeText.{Text, name_or, star, signature_text, text_of}
use Rattle.mdr_core.specs.Types.{Wrong, Scalar, pointer_sort, sort_of}
use Rattle.mdr_syntax.specs.Bytes.{is_name_byte}
use Rattle.mdr_type_table.specs.Worked.{two, twins, bytes_of, WorkedTexts}
use Rattle.mdr_type_table.proofs.Levels.{sort_at, text_at}

struct_text : (structs : List StructDef) (s : ℕ) → text_of structs (type.Struct s) ≡ record { bytes = codes "struct " ++ name_or (slice_get structs s); starred = false }
struct_text structs s = text_at structs (type.Struct s) (Ty-F.Struct s) (type.outs-Struct s)

void_text : (structs : List StructDef) → text_of structs type.Void ≡ record { bytes = codes "void"; starred = false }
void_text structs = text_at structs type.Void Ty-F.Void type.outs-Void

pointed : (structs : List StructDef) (t : Ty) (x : Text) → text_of structs t ≡ x → bytes_of structs (type.Ptr t) ≡ x.bytes ++ star x.starred
pointed structs t x e = ap (λ (y : Text). y.bytes) (text_at structs (type.Ptr t) (Ty-F.Ptr t) (type.outs-Ptr t)) ∙ ap (λ (y : Text). y.bytes ++ star y.starred) e

name_at : (s : ℕ) (def : StructDef) (o : Option (List ℕ)) → slice_get two s ≡ Some def → option_map (λ (d : StructDef). d.name) (slice_get two s) ≡ o → Some def.name ≡ o
name_at s def o e f = sym (ap (option_map (λ (d : StructDef). d.name)) e) ∙ f

some_is : (x y : List ℕ) → Some x ≡ Some y → x ≡ y
some_is x y e = cc

first_name : (def : StructDef) → slice_get two 0 ≡ Some def → def.name ≡ codes "a"
first_name def e = some_is def.name (codes "a") (name_at 0 def (Some (codes "a")) e refl)

second_name : (def : StructDef) → slice_get two 1 ≡ Some def → def.name ≡ codes "ab"
second_name def e = some_is def.name (codes "ab") (name_at 1 def (Some (codes "ab")) e refl)

differ : {A : Type 0} → codes "a" ≡ codes "ab" → A
differ e = let n : 1 ≡ 2 = ap length e in absurd (omega (arith, n))

word : (s : ℕ) (def : StructDef) → slice_get two s ≡ Some def → IsTrue (list_all is_name_byte def.name)
word zero def e = subst (λ (n : List ℕ). IsTrue (list_all is_name_byte n)) (sym (first_name def e)) refl
word (suc zero) def e = subst (λ (n : List ℕ). IsTrue (list_all is_name_byte n)) (sym (second_name def e)) refl
word (suc (suc s)) def e = absurd cc

once : (r s : ℕ) (one other : StructDef) → slice_get two r ≡ Some one → slice_get two s ≡ Some other → one.name ≡ other.name → r ≡ s
once zero zero one other e f same = refl
once zero (suc zero) one other e f same = differ (sym (first_name one e) ∙ same ∙ second_name other f)
once zero (suc (suc s)) one other e f same = absurd cc
once (suc zero) zero one other e f same = differ (sym (first_name other f) ∙ sym same ∙ second_name one e)
once (suc zero) (suc zero) one other e f same = refl
once (suc zero) (suc (suc s)) one other e f same = absurd cc
once (suc (suc r)) s one other e f same = absurd cc

pointer_formed : sort_of 2 (type.Ptr (type.Struct 0)) ≡ Wrong → ⊥
pointer_formed e =
    let is : sort_of 2 (type.Ptr (type.Struct 0)) ≡ Scalar = sort_at 2 (type.Ptr (type.Struct 0)) (Ty-F.Ptr (type.Struct 0)) (type.outs-Ptr (type.Struct 0)) ∙ ap pointer_sort (sort_at 2 (type.Struct 0) (Ty-F.Struct 0) (type.outs-Struct 0)) in
    let no : Scalar ≡ Wrong = sym is ∙ e in
    absurd cc

void_unformed : sort_of 2 (type.Ptr type.Void) ≡ Wrong
void_unformed = sort_at 2 (type.Ptr type.Void) (Ty-F.Ptr type.Void) (type.outs-Ptr type.Void) ∙ ap pointer_sort (sort_at 2 type.Void Ty-F.Void type.outs-Void)

pub worked_texts : WorkedTexts
worked_texts = record {
  named = record { words = word; once = once };
  formed = record { formed = pointer_formed };
  shorter = ap (λ (x : Text). x.bytes) (struct_text two 0);
  longer = ap (λ (x : Text). x.bytes) (struct_text two 1);
  pointer = pointed two (type.Struct 0) (record { bytes = codes "struct a"; starred = false }) (struct_text two 0);
  function =
      ap (λ (x : Text). x.bytes) (text_at two (type.Fun (type.Void ∷ [])) (Ty-F.Fun (type.Void ∷ [])) (type.outs-Fun (type.Void ∷ [])))
      ∙ ap (λ (x : Text). codes "fn(" ++ (signature_text (x ∷ []) ++ codes ")")) (void_text two);
  twins_are_one = ap (λ (x : Text). x.bytes) (struct_text twins 0 ∙ sym (struct_text twins 1));
  void_pointers_are_one =
      pointed two type.Void (record { bytes = codes "void"; starred = false }) (void_text two)
      ∙ sym (ap (λ (x : Text). x.bytes) (text_at two type.VoidPtr Ty-F.VoidPtr type.outs-VoidPtr));
  unformed = λ f. f.formed void_unformed;
}
