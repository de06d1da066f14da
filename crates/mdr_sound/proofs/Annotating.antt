-- Annotations say what is so.
use Rattle.std.proofs.Common.{◌≡◌, ℕ, zero, suc, ◌≤◌, ◌⊎◌, inl, inr, Bool, true, false, not, nat_lt, ℤ, pos, negsuc, List, Option, Some, None, is_some, Result, Ok, Err, slice_get, get_or, refl, ap, subst, ◌∙◌, arith}
use Rattle.std.specs.Prelude.{◌&&◌, ◌||◌}
use Rattle.std.proofs.lemmas.Option.{slice_get-get_or}
use Rattle.std.proofs.lemmas.List.Quantifiers.{position-Some}
use Rattle.mdr_core.specs.declared.kind.Kind.{Kind}
use Rattle.mdr_core.specs.declared.kind.Kind.TheVariants.{U8, U16, U32, U64, S8, S16, S32, S64}
use Rattle.mdr_core.specs.declared.place.Place.{Place}
use Rattle.mdr_core.specs.declared.program.Program.{Program}
use Rattle.mdr_core.specs.declared.types.Ann.{Ann}
use Rattle.mdr_core.specs.declared.types.Ann.TheVariants as ann
use Rattle.mdr_core.specs.declared.types.LenOf.{LenOf}
use Rattle.mdr_core.specs.declared.types.LenOf.TheVariants as len
use Rattle.mdr_core.specs.declared.types.Ty.{Ty, out-Ty}
use Rattle.mdr_core.specs.declared.types.Ty.TheOpen.{Ty-F}
use Rattle.mdr_core.specs.declared.types.Ty.TheVariants as type
use Rattle.mdr_core.specs.Layout.{chosen}
use Rattle.mdr_core.specs.Sound.{Sibling, IsIntegerSibling, IsIntegerGlobal, IsLength, Annotates}
use Rattle.mdr_core.proofs.Viewed.{some_same}
use Rattle.mdr_syntax.specs.declared.tree.AnnText.{AnnText}
use Rattle.mdr_syntax.specs.declared.tree.AnnText.TheVariants as text
use Rattle.mdr_syntax.specs.declared.tree.Const.{Const}
use Rattle.mdr_syntax.specs.declared.tree.Const.TheVariants as const
use Rattle.mdr_faults.specs.declared.fault.Fault.{Fault}
use Rattle.mdr_faults.specs.declared.fault.FaultKind.TheVariants.{BadAnnotation}
use Rattle.mdr_faults.specs.declared.scope.Candidate.{Candidate}
use Rattle.mdr_faults.specs.declared.scope.Entity.{Entity}
use Rattle.mdr_faults.specs.declared.scope.Entity.TheVariants as entity
use Rattle.mdr_faults.specs.declared.scope.Named.{Named}
use Rattle.mdr_faults.specs.declared.scope.Object.{Object}
use Rattle.mdr_faults.specs.declared.scope.Scope.{Scope}
use Rattle.mdr_faults.specs.Declarations.{is_same_name, number_constant}
use Rattle.mdr_faults.specs.Faults.{Checked, Right, refuse}
use Rattle.mdr_faults.specs.Scopes.{entity_named}
use Rattle.mdr_headings.specs.Annotations.{is_integer, is_integer_by, as_length, entity_constant, named_constant, entity_global, named_global, sibling_named, has_sibling, no_length, or_global, or_sibling, or_constant, array_length, field_suits, sentinel_at, field_named, sentinel_among, target_by, array_on, sentinel_of, sentinel_on, is_character_by, is_character_kind, points_to_characters, is_data_pointer, is_data_pointer_by, suits_if, annotated}
use Rattle.mdr_sound.proofs.Rights.{same_right, chosen_right, not_right}
use Rattle.mdr_sound.specs.Knowing.{IsKnownGlobal}
use Rattle.mdr_sound.proofs.Alike.{left_of, right_of}
use Rattle.mdr_sound.specs.Declared.{SeesSiblings}
use Rattle.mdr_sound.specs.Standing.{Stands, IsScalarField}
use Rattle.mdr_sound.proofs.Layers.{ptr_from, struct_from, int_from, void_ptr_from}

-- ---- integers, and what pointers point to

integer_by : (t : Ty) (l : Ty-F Ty) → out-Ty t ≡ l → is_integer_by l ≡ true → (k : Kind) × (t ≡ type.Int k)
integer_by t (Ty-F.Int k) e h = (k, int_from t k e)
integer_by t Ty-F.Lock e h = cc
integer_by t (Ty-F.Struct s) e h = cc
integer_by t (Ty-F.Ptr u) e h = cc
integer_by t Ty-F.VoidPtr e h = cc
integer_by t (Ty-F.Fun ts) e h = cc
integer_by t Ty-F.Void e h = cc

pub integer : (t : Ty) → is_integer t ≡ true → (k : Kind) × (t ≡ type.Int k)
integer t h = integer_by t (out-Ty t) refl h

target_is_by : (t u : Ty) (l : Ty-F Ty) → out-Ty t ≡ l → target_by l ≡ Some u → t ≡ type.Ptr u
target_is_by t u (Ty-F.Int k) e h = cc
target_is_by t u Ty-F.Lock e h = cc
target_is_by t u (Ty-F.Struct s) e h = cc
target_is_by t u (Ty-F.Ptr v) e h = ptr_from t v e ∙ ap type.Ptr (some_same h)
target_is_by t u Ty-F.VoidPtr e h = cc
target_is_by t u (Ty-F.Fun ts) e h = cc
target_is_by t u Ty-F.Void e h = cc

target_is : (t u : Ty) → target_by (out-Ty t) ≡ Some u → t ≡ type.Ptr u
target_is t u h = target_is_by t u (out-Ty t) refl h

-- ---- lengths

-- the annotation is an array of a length that may stand
pub record IsArrayOf (program : Program) (siblings : List Sibling) (a : Ann) : Type 0 where
  pub length : LenOf
  pub made : ann.Array length ≡ a
  pub good : IsLength program siblings length

as_length_by : (n m : ℕ) (b : Bool) → chosen b None (Some (suc n)) ≡ Some m → 1 ≤ m
as_length_by n m true e = cc
as_length_by n m false e = subst (λ (k : ℕ). 1 ≤ k) (some_same e) (omega arith)

length_some : (z : ℤ) (m : ℕ) → as_length z ≡ Some m → 1 ≤ m
length_some (pos zero) m e = cc
length_some (pos (suc n)) m e = as_length_by n m (nat_lt 4294967295 (suc n)) e
length_some (negsuc n) m e = cc

entity_length : (r : Result Entity Fault) (m : ℕ) → entity_constant r ≡ Some m → 1 ≤ m
entity_length (Ok (entity.Constant c)) m e = length_some c.number m e
entity_length (Ok (entity.Global g o)) m e = cc
entity_length (Ok (entity.Function f)) m e = cc
entity_length (Err f) m e = cc

named_length : (o : Option Named) (m : ℕ) → named_constant o ≡ Some m → 1 ≤ m
named_length None m e = cc
named_length (Some x) m e = entity_length x.means m e

-- a global that is an integer, as a scope knows it
record NamesInteger (entry : Option Named) (g : ℕ) : Type 0 where
  named : Named
  names : entry ≡ Some named
  object : Object
  means : named.means ≡ Ok (entity.Global g object)
  integer : is_integer object.ty ≡ true
  single : not object.array ≡ true

global_by : (x : Named) (h g : ℕ) (o : Object) (b : Bool) → x.means ≡ Ok (entity.Global h o) → (is_integer o.ty && not o.array) ≡ b → chosen b (Some h) None ≡ Some g → NamesInteger (Some x) g
global_by x h g o true f t e = subst (NamesInteger (Some x)) (some_same e) (record {
  named = x;
  names = refl;
  object = o;
  means = f;
  integer = left_of (is_integer o.ty) (not o.array) t;
  single = right_of (is_integer o.ty) (not o.array) t;
})
global_by x h g o false f t e = cc

entity_integer : (x : Named) (g : ℕ) (r : Result Entity Fault) → x.means ≡ r → entity_global r ≡ Some g → NamesInteger (Some x) g
entity_integer x g (Ok (entity.Constant c)) f e = cc
entity_integer x g (Ok (entity.Global h o)) f e = global_by x h g o (is_integer o.ty && not o.array) f refl e
entity_integer x g (Ok (entity.Function s)) f e = cc
entity_integer x g (Err w) f e = cc

named_integer : (o : Option Named) (g : ℕ) → named_global o ≡ Some g → NamesInteger o g
named_integer None g e = cc
named_integer (Some x) g e = entity_integer x g x.means refl e

not_true : (b : Bool) → not b ≡ true → b ≡ false
not_true true e = cc
not_true false e = refl

global_length : (program : Program) (g : ℕ) (o : Object) → IsKnownGlobal program g o → is_integer o.ty ≡ true → not o.array ≡ true → IsIntegerGlobal program g
global_length program g o known i s =
    let k = integer o.ty i in
    record { def = known.def; names = known.names; single = known.array ∙ not_true o.array s; kind = k.0; integer = known.ty ∙ k.1 }

sibling_length : (candidates : List Candidate) (siblings : List Sibling) (name : List ℕ) (i : ℕ) → SeesSiblings candidates siblings → sibling_named candidates name ≡ Some i → IsIntegerSibling siblings i
unfolding sibling_named
sibling_length candidates siblings name i sees e =
    let none : Candidate = record { name = None; is_integer = false; is_scalar = false } in
    let p = position-Some (λ (c : Candidate). is_same_name c.name (Some name) && c.is_integer) candidates i none e in
    let here : Candidate = get_or candidates i none in
    sees.integers i here (slice_get-get_or candidates i none p.0) (right_of (is_same_name here.name (Some name)) here.is_integer p.1)

constant_or : (program : Program) (siblings : List Sibling) (o : Option ℕ) (c : Checked Ann) (a : Ann) → ((m : ℕ) → o ≡ Some m → 1 ≤ m) → (c ≡ Right a → IsArrayOf program siblings a) → or_constant o c ≡ Right a → IsArrayOf program siblings a
constant_or program siblings None c a some rest e = rest e
constant_or program siblings (Some m) c a some rest e = record { length = len.Const m; made = same_right (ann.Array (len.Const m)) a e; good = some m refl }

sibling_or : (program : Program) (siblings : List Sibling) (o : Option ℕ) (c : Checked Ann) (a : Ann) → ((i : ℕ) → o ≡ Some i → IsIntegerSibling siblings i) → (c ≡ Right a → IsArrayOf program siblings a) → or_sibling o c ≡ Right a → IsArrayOf program siblings a
sibling_or program siblings None c a some rest e = rest e
sibling_or program siblings (Some i) c a some rest e = record { length = len.Sibling i; made = same_right (ann.Array (len.Sibling i)) a e; good = some i refl }

none_right : {C : Type 0} (b : Bool) (at p : Place) (a : Ann) → no_length b at p ≡ Right a → C
none_right true at p a e = not_right _ a e
none_right false at p a e = not_right _ a e

global_or : (program : Program) (siblings : List Sibling) (b : Bool) (at p : Place) (o : Option ℕ) (a : Ann) → ((g : ℕ) → o ≡ Some g → IsIntegerGlobal program g) → or_global b at p o ≡ Right a → IsArrayOf program siblings a
global_or program siblings b at p None a some e = none_right b at p a e
global_or program siblings b at p (Some g) a some e = record { length = len.Global g; made = same_right (ann.Array (len.Global g)) a e; good = some g refl }

array_is : (program : Program) (scope : Scope) (candidates : List Candidate) (siblings : List Sibling) (p : Place) (c : Const) (a : Ann) → Stands program scope → SeesSiblings candidates siblings → array_length scope candidates p c ≡ Right a → IsArrayOf program siblings a
array_is program scope candidates siblings p (const.Number at is_negative n k) a st sees e =
    constant_or program siblings (as_length (number_constant is_negative n k).number) (refuse p BadAnnotation) a (length_some (number_constant is_negative n k).number) (λ f. not_right _ a f) e
array_is program scope candidates siblings p (const.Name at name) a st sees e =
    let entry = entity_named scope name in
    let last : Checked Ann = or_global (is_some entry || has_sibling candidates name) at p (named_global entry) in
    constant_or program siblings (named_constant entry) (or_sibling (sibling_named candidates name) last) a (named_length entry)
    (λ f. sibling_or program siblings (sibling_named candidates name) last a (λ i g. sibling_length candidates siblings name i sees g)
    (λ h. global_or program siblings (is_some entry || has_sibling candidates name) at p (named_global entry) a (λ g k.
    let n = named_integer entry g k in
    global_length program g n.object (st.knows.entities name n.named (entity.Global g n.object) n.names n.means) n.integer n.single) h) f) e

-- ---- sentinels

-- the annotation names a field of a struct that is pointed to
record IsSentinelOf (program : Program) (s : ℕ) (a : Ann) : Type 0 where
  field : ℕ
  made : ann.Sentinel field ≡ a
  good : IsScalarField program s field

suits_is : (program : Program) (s : ℕ) (p : Place) (f : ℕ) (o : Option Candidate) (a : Ann) → ((c : Candidate) → o ≡ Some c → c.is_scalar ≡ true → IsScalarField program s f) → field_suits p f o ≡ Right a → IsSentinelOf program s a
suits_is program s p f None a good e = not_right _ a e
suits_is program s p f (Some c) a good e =
    let d = chosen_right c.is_scalar (Right (ann.Sentinel f)) p BadAnnotation a e in
    record { field = f; made = same_right (ann.Sentinel f) a d.right; good = good c refl d.holds }

at_is : (program : Program) (s : ℕ) (fields : List Candidate) (at p : Place) (o : Option ℕ) (a : Ann) → ((f : ℕ) (c : Candidate) → slice_get fields f ≡ Some c → c.is_scalar ≡ true → IsScalarField program s f) → sentinel_at fields at p o ≡ Right a → IsSentinelOf program s a
at_is program s fields at p None a good e = not_right _ a e
at_is program s fields at p (Some f) a good e = suits_is program s p f (slice_get fields f) a (good f) e

among_is : (program : Program) (s : ℕ) (at p : Place) (name : List ℕ) (o : Option (List Candidate)) (a : Ann) → ((fields : List Candidate) (f : ℕ) (c : Candidate) → o ≡ Some fields → slice_get fields f ≡ Some c → c.is_scalar ≡ true → IsScalarField program s f) → sentinel_among at p name o ≡ Right a → IsSentinelOf program s a
among_is program s at p name None a good e = not_right _ a e
among_is program s at p name (Some fields) a good e = at_is program s fields at p (field_named fields name) a (λ f c n h. good fields f c refl n h) e

sentinel_is_by : (program : Program) (scope : Scope) (siblings : List Sibling) (at p : Place) (name : List ℕ) (t u : Ty) (l : Ty-F Ty) (a : Ann) → Stands program scope → t ≡ type.Ptr u → out-Ty u ≡ l → sentinel_of scope at p name l ≡ Right a → Annotates program siblings t a
sentinel_is_by program scope siblings at p name t u (Ty-F.Int k) a st is o e = not_right _ a e
sentinel_is_by program scope siblings at p name t u Ty-F.Lock a st is o e = not_right _ a e
sentinel_is_by program scope siblings at p name t u (Ty-F.Struct s) a st is o e =
    let x = among_is program s at p name (slice_get scope.outlines s) a (λ fields f c n g h. st.outlines s f fields c n g h) e in
    subst (Annotates program siblings t) x.made (record {
      struct = s;
      pointer = is ∙ ap type.Ptr (struct_from u s o);
      field = x.good.field;
      names = x.good.names;
      single = x.good.single;
      scalar = x.good.scalar;
    })
sentinel_is_by program scope siblings at p name t u (Ty-F.Ptr v) a st is o e = not_right _ a e
sentinel_is_by program scope siblings at p name t u Ty-F.VoidPtr a st is o e = not_right _ a e
sentinel_is_by program scope siblings at p name t u (Ty-F.Fun ts) a st is o e = not_right _ a e
sentinel_is_by program scope siblings at p name t u Ty-F.Void a st is o e = not_right _ a e

-- ---- annotations

array_on_is : (program : Program) (scope : Scope) (candidates : List Candidate) (siblings : List Sibling) (p : Place) (c : Const) (t : Ty) (o : Option Ty) (a : Ann) → Stands program scope → SeesSiblings candidates siblings → target_by (out-Ty t) ≡ o → array_on scope candidates p c o ≡ Right a → Annotates program siblings t a
array_on_is program scope candidates siblings p c t None a st sees f e = not_right _ a e
array_on_is program scope candidates siblings p c t (Some u) a st sees f e =
    let x = array_is program scope candidates siblings p c a st sees e in
    subst (Annotates program siblings t) x.made ((u, target_is t u f), x.good)

sentinel_on_is : (program : Program) (scope : Scope) (siblings : List Sibling) (at p : Place) (name : List ℕ) (t : Ty) (o : Option Ty) (a : Ann) → Stands program scope → target_by (out-Ty t) ≡ o → sentinel_on scope at p name o ≡ Right a → Annotates program siblings t a
sentinel_on_is program scope siblings at p name t None a st f e = not_right _ a e
sentinel_on_is program scope siblings at p name t (Some u) a st f e = sentinel_is_by program scope siblings at p name t u (out-Ty u) a st (target_is t u f) refl e

abbrev IsText : Ty → Type 0
IsText t = (t ≡ type.Ptr (type.Int U8)) ⊎ (t ≡ type.Ptr (type.Int S8))

text_kind : (t : Ty) (k : Kind) → t ≡ type.Ptr (type.Int k) → is_character_kind k ≡ true → IsText t
text_kind t U8 f e = inl f
text_kind t U16 f e = cc
text_kind t U32 f e = cc
text_kind t U64 f e = cc
text_kind t S8 f e = inr f
text_kind t S16 f e = cc
text_kind t S32 f e = cc
text_kind t S64 f e = cc

text_by : (t u : Ty) (l : Ty-F Ty) → t ≡ type.Ptr u → out-Ty u ≡ l → is_character_by l ≡ true → IsText t
text_by t u (Ty-F.Int k) f o e = text_kind t k (f ∙ ap type.Ptr (int_from u k o)) e
text_by t u Ty-F.Lock f o e = cc
text_by t u (Ty-F.Struct s) f o e = cc
text_by t u (Ty-F.Ptr v) f o e = cc
text_by t u Ty-F.VoidPtr f o e = cc
text_by t u (Ty-F.Fun ts) f o e = cc
text_by t u Ty-F.Void f o e = cc

text_is : (t : Ty) (o : Option Ty) → target_by (out-Ty t) ≡ o → points_to_characters o ≡ true → IsText t
text_is t None f e = cc
text_is t (Some u) f e = text_by t u (out-Ty u) (target_is t u f) refl e

abbrev IsDataPointer : Ty → Type 0
IsDataPointer t = ((u : Ty) × (t ≡ type.Ptr u)) ⊎ (t ≡ type.VoidPtr)

data_pointer_by : (t : Ty) (l : Ty-F Ty) → out-Ty t ≡ l → is_data_pointer_by l ≡ true → IsDataPointer t
data_pointer_by t (Ty-F.Int k) o e = cc
data_pointer_by t Ty-F.Lock o e = cc
data_pointer_by t (Ty-F.Struct s) o e = cc
data_pointer_by t (Ty-F.Ptr u) o e = inl (u, ptr_from t u o)
data_pointer_by t Ty-F.VoidPtr o e = inr (void_ptr_from t o)
data_pointer_by t (Ty-F.Fun ts) o e = cc
data_pointer_by t Ty-F.Void o e = cc

-- an annotation that suits where a test holds
suited : (program : Program) (siblings : List Sibling) (t : Ty) (p : Place) (b : Bool) (x a : Ann) → (b ≡ true → Annotates program siblings t x) → suits_if p b x ≡ Right a → Annotates program siblings t a
suited program siblings t p true x a good e = subst (Annotates program siblings t) (same_right x a e) (good refl)
suited program siblings t p false x a good e = not_right _ a e

pub annotation_sound : (program : Program) (scope : Scope) (candidates : List Candidate) (siblings : List Sibling) (p : Place) (t : Ty) (n : Option AnnText) (a : Ann) → Stands program scope → SeesSiblings candidates siblings → annotated scope candidates p t n ≡ Right a → Annotates program siblings t a
annotation_sound program scope candidates siblings p t None a st sees e = subst (Annotates program siblings t) (same_right ann.Single a e) tt
annotation_sound program scope candidates siblings p t (Some (text.Array c)) a st sees e = array_on_is program scope candidates siblings p c t (target_by (out-Ty t)) a st sees refl e
annotation_sound program scope candidates siblings p t (Some (text.Sentinel at name)) a st sees e = sentinel_on_is program scope siblings at p name t (target_by (out-Ty t)) a st refl e
annotation_sound program scope candidates siblings p t (Some text.NullTerm) a st sees e = suited program siblings t p (points_to_characters (target_by (out-Ty t))) ann.NullTerm a (text_is t (target_by (out-Ty t)) refl) e
annotation_sound program scope candidates siblings p t (Some text.Opaque) a st sees e = suited program siblings t p (is_data_pointer t) ann.Opaque a (data_pointer_by t (out-Ty t) refl) e
