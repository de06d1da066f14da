-- What is written of a type is its text.
use Rattle.std.proofs.Common.{◌≡◌, ℕ, ◌^◌, nat_lt, Option, true, false, List, [], ◌∷◌, ◌++◌, map, get_or, slice_get, Some, codes, refl, sym, ap, ◌∙◌, option_map}
use Rattle.std.specs.List.{position}
use Rattle.std.proofs.lemmas.Option.{slice_get-map, slice_get-get_or}
use Rattle.std.proofs.lemmas.List.Quantifiers.{position-Some}
use Rattle.std.proofs.lemmas.Slice.Eq.{bytes_eq-Decides}
use Rattle.mdr_core.specs.declared.kind.Kind.{Kind}
use Rattle.mdr_core.specs.declared.types.Ty.{Ty}
use Rattle.mdr_core.specs.declared.types.Ty.TheOpen.{Ty-F}
use Rattle.mdr_core.specs.declared.types.Ty.TheFolds.{fold-Ty, fold-roll-Ty}
use Rattle.mdr_core.specs.declared.types.Ty.TheVariants as type
use Rattle.mdr_core.specs.declared.program.StructDef.{StructDef}
use Rattle.mdr_core.specs.TypeText.{Text, kind_text, star, signature_text, text_layer, text_of, name_or}
use Rattle.mdr_plan.specs.Gives.{◌>>=◌}
use Rattle.mdr_plan.specs.Naming.{Naming, is_named, small, struct_number}
use Rattle.mdr_plan.proofs.TypesSound.{bind_ok, when_ok}
use Rattle.mdr_plan.specs.TypeTexts.{Written, AreParams, struct_named, structs_named, text}
use Rattle.mdr_plan.specs.TypeTexts.Written.{OfInt, OfLock, OfStruct, OfVoid, OfPtr, OfFun}
use Rattle.mdr_plan.specs.TypeTexts.AreParams.{NoParams, Param}

pub int_is : (structs : List StructDef) (k : Kind) → text_of structs (type.Int k) ≡ text (kind_text k) false
unfolding text_of
int_is structs k = ap (fold-Ty Text (text_layer structs)) (sym (type.rolls-Int k)) ∙ fold-roll-Ty Text (text_layer structs) (Ty-F.Int k)

pub lock_is : (structs : List StructDef) → text_of structs type.Lock ≡ text (codes "combolock_t") false
unfolding text_of
lock_is structs = ap (fold-Ty Text (text_layer structs)) (sym type.rolls-Lock) ∙ fold-roll-Ty Text (text_layer structs) Ty-F.Lock

pub struct_is : (structs : List StructDef) (s : ℕ) → text_of structs (type.Struct s) ≡ text (codes "struct " ++ name_or (slice_get structs s)) false
unfolding text_of
struct_is structs s = ap (fold-Ty Text (text_layer structs)) (sym (type.rolls-Struct s)) ∙ fold-roll-Ty Text (text_layer structs) (Ty-F.Struct s)

pointer_is : (structs : List StructDef) (t : Ty) → text_of structs (type.Ptr t) ≡ text ((text_of structs t).bytes ++ star (text_of structs t).starred) true
unfolding text_of
pointer_is structs t = ap (fold-Ty Text (text_layer structs)) (sym (type.rolls-Ptr t)) ∙ fold-roll-Ty Text (text_layer structs) (Ty-F.Ptr t)

void_pointer_is : (structs : List StructDef) → text_of structs type.VoidPtr ≡ text (codes "void *") true
unfolding text_of
void_pointer_is structs = ap (fold-Ty Text (text_layer structs)) (sym type.rolls-VoidPtr) ∙ fold-roll-Ty Text (text_layer structs) Ty-F.VoidPtr

void_is : (structs : List StructDef) → text_of structs type.Void ≡ text (codes "void") false
unfolding text_of
void_is structs = ap (fold-Ty Text (text_layer structs)) (sym type.rolls-Void) ∙ fold-roll-Ty Text (text_layer structs) Ty-F.Void

fun_is : (structs : List StructDef) (ts : List Ty) → text_of structs (type.Fun ts) ≡ text (codes "fn(" ++ (signature_text (map (text_of structs) ts) ++ codes ")")) false
unfolding text_of
fun_is structs ts = ap (fold-Ty Text (text_layer structs)) (sym (type.rolls-Fun ts)) ∙ fold-roll-Ty Text (text_layer structs) (Ty-F.Fun ts)

-- a struct's number
small_is : (o : Option ℕ) (s : ℕ) → (o >>= small) ≡ Some s → o ≡ Some s
small_is o s e =
    let b = bind_ok o small s e in
    let w = when_ok (nat_lt b.0 (2 ^ 32)) (Some b.0) s b.2 in
    b.1 ∙ w.1

pub struct_place : (names : List (List ℕ)) (name : List ℕ) (s : ℕ) → struct_number names name ≡ Some s → slice_get names s ≡ Some name
unfolding struct_number
struct_place names name s e =
    let h = position-Some (is_named name) names s [] (small_is (position (is_named name) names) s e) in
    slice_get-get_or names s [] h.0 ∙ ap (λ n. Some n) ((bytes_eq-Decides (get_or names s []) name).0 h.1)

struct_name : (names : List (List ℕ)) (name : List ℕ) (s : ℕ) → struct_number names name ≡ Some s → name_or (slice_get (structs_named names) s) ≡ name
struct_name names name s e = ap name_or (slice_get-map struct_named names s ∙ ap (option_map struct_named) (struct_place names name s e))

-- the structs are named so
pub record Named (structs : List StructDef) (names : Naming) : Type 0 where
  pub named : (name : List ℕ) (s : ℕ) → names name ≡ Some s → name_or (slice_get structs s) ≡ name

pub are_named : (names : List (List ℕ)) → Named (structs_named names) (struct_number names)
are_named names = record { named = λ name s e. struct_name names name s e }

-- the text of the pointer
pointed : (structs : List StructDef) (names : Naming) (t p : Ty) (x : Text) → Written names t p x → text_of structs t ≡ x → text_of structs p ≡ text (x.bytes ++ star x.starred) true
pointed structs names _ _ _ (OfInt k) e = pointer_is _ _ ∙ ap (λ (y : Text). text (y.bytes ++ star y.starred) true) e
pointed structs names _ _ _ OfLock e = pointer_is _ _ ∙ ap (λ (y : Text). text (y.bytes ++ star y.starred) true) e
pointed structs names _ _ _ (OfStruct s name a b) e = pointer_is _ _ ∙ ap (λ (y : Text). text (y.bytes ++ star y.starred) true) e
pointed structs names _ _ _ OfVoid e = void_pointer_is structs
pointed structs names _ _ _ (OfPtr t p x w) e = pointer_is _ _ ∙ ap (λ (y : Text). text (y.bytes ++ star y.starred) true) e
pointed structs names _ _ _ (OfFun r p ts x xs w i ps) e = pointer_is _ _ ∙ ap (λ (y : Text). text (y.bytes ++ star y.starred) true) e

mutual
  pub written_is : (structs : List StructDef) (names : Naming) (t p : Ty) (x : Text) → Named structs names → Written names t p x → text_of structs t ≡ x
  written_is structs names _ _ _ n (OfInt k) = int_is structs k
  written_is structs names _ _ _ n OfLock = lock_is structs
  written_is structs names _ _ _ n (OfStruct s name a b) = struct_is structs s ∙ ap (λ m. text (codes "struct " ++ m) false) (n.named name s a)
  written_is structs names _ _ _ n OfVoid = void_is structs
  written_is structs names _ _ _ n (OfPtr t p x w) = pointed structs names t p x w (written_is structs names t p x n w)
  written_is structs names _ _ _ n (OfFun r p ts x xs w i ps) =
      fun_is structs (r ∷ ts)
      ∙ ap (λ (y : Text). text (codes "fn(" ++ (signature_text (y ∷ map (text_of structs) ts) ++ codes ")")) false) (written_is structs names r p x n w)
      ∙ ap (λ (ys : List Text). text (codes "fn(" ++ (signature_text (x ∷ ys) ++ codes ")")) false) (params_are structs names ts xs n ps)

  params_are : (structs : List StructDef) (names : Naming) (ts : List Ty) (xs : List Text) → Named structs names → AreParams names ts xs → map (text_of structs) ts ≡ xs
  params_are structs names _ _ n NoParams = refl
  params_are structs names _ _ n (Param t p ts x xs w i ps) = ap (λ (y : Text). y ∷ map (text_of structs) ts) (written_is structs names t p x n w) ∙ ap (λ (ys : List Text). x ∷ ys) (params_are structs names ts xs n ps)
