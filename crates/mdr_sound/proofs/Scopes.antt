-- The scope at each place of a file stands, and its structs are sound.
use Rattle.std.proofs.Common.{◌≡◌, ℕ, zero, suc, ◌<◌, ◌≤◌, Bool, true, false, List, [], ◌∷◌, ◌++◌, length, map, Option, Some, None, Result, Ok, Err, refl, sym, ap, ◌∙◌, subst, slice_get, arith, ◌⊎◌, inl, inr, length-append, IsTrue}
use Rattle.std.specs.Str.{bytes_eq}
use Rattle.std.proofs.lemmas.Option.{slice_get_within}
use Rattle.mdr_core.specs.declared.place.Place.{Place}
use Rattle.mdr_core.specs.declared.program.Field.{Field}
use Rattle.mdr_core.specs.declared.program.Func.{Func}
use Rattle.mdr_core.specs.declared.program.GlobalDef.{GlobalDef}
use Rattle.mdr_core.specs.declared.program.Program.{Program}
use Rattle.mdr_core.specs.declared.program.StructDef.{StructDef}
use Rattle.mdr_core.specs.declared.types.Ty.{Ty}
use Rattle.mdr_core.specs.declared.types.Ty.TheVariants as type
use Rattle.mdr_core.specs.Kinds.{is_in_range}
use Rattle.mdr_core.specs.Layout.{fields_of, struct_cells}
use Rattle.mdr_core.specs.Sound.{IsSoundStruct}
use Rattle.mdr_core.specs.Typing.{function_type}
use Rattle.mdr_core.specs.Types.{HasNumber}
use Rattle.mdr_lower.specs.Tables.{OfField}
use Rattle.mdr_syntax.specs.declared.tree.Decl.{Decl, out-Decl}
use Rattle.mdr_syntax.specs.declared.tree.Head.{Head}
use Rattle.mdr_syntax.specs.declared.tree.Init.{Init}
use Rattle.mdr_syntax.specs.declared.tree.Item.{Item}
use Rattle.mdr_syntax.specs.declared.tree.ItemWhat.{ItemWhat}
use Rattle.mdr_syntax.specs.declared.tree.ItemWhat.TheVariants as item
use Rattle.mdr_faults.specs.declared.fault.Fault.{Fault}
use Rattle.mdr_faults.specs.declared.scope.Entity.{Entity}
use Rattle.mdr_faults.specs.declared.scope.Entity.TheVariants as entity
use Rattle.mdr_faults.specs.declared.scope.Named.{Named as Entry}
use Rattle.mdr_faults.specs.declared.scope.Object.{Object}
use Rattle.mdr_faults.specs.declared.scope.Signature.{Signature}
use Rattle.mdr_faults.specs.declared.scope.StructEntry.{StructEntry}
use Rattle.mdr_faults.specs.Declarations.{number_constant}
use Rattle.mdr_faults.specs.Faults.{Right, told}
use Rattle.mdr_faults.specs.Scopes.{or_else, entity_among}
use Rattle.mdr_headings.specs.declared.head.Heading.{Heading}
use Rattle.mdr_headings.specs.Heads.{heading as heading_in}
use Rattle.mdr_headings.specs.Functions.{is_taken, with_function_unless, behind_function, declared_unless, function_declared, function_means, functions_behind}
use Rattle.mdr_headings.specs.Source.{defines_from, defines_behind, defined_constant, with_struct_if, before_first, signature}
use Rattle.mdr_headings.specs.Structs.{struct_entry, member, name_or_none}
use Rattle.mdr_check.specs.declared.file.Known.{Known}
use Rattle.mdr_check.specs.declared.file.Piece.{Piece}
use Rattle.mdr_check.specs.declared.file.Piece.TheVariants as piece
use Rattle.mdr_check.specs.declared.variable.Variable.{Variable}
use Rattle.mdr_check.specs.Files.{BodyRule, item_piece, behind_item, known_behind, first_known, pieces_behind, first_scope, body_scope, global_of, prototype_of, function_of}
use Rattle.mdr_check.specs.Globals.{global, global_object, global_means, behind_global}
use Rattle.mdr_program.specs.declared.parts.Parts.{Parts}
use Rattle.mdr_program.specs.Parts.{behind_piece, parts_behind, no_parts}
use Rattle.mdr_program.specs.Programs.{global_def, global_defs}
use Rattle.mdr_sound.specs.Knowing.{IsKnownEntity, IsKnownGlobal, IsKnownFunction}
use Rattle.mdr_sound.proofs.Rights.{after_right, both_right, same_right, told_right}
use Rattle.mdr_sound.specs.Counting.{AreDeclaredAs, Begins}
use Rattle.mdr_sound.specs.Standing.{Stands}
use Rattle.mdr_sound.specs.Whole.{HasAll, IsMadeOf, IsDefineInRange, AreDefinesInRange}
use Rattle.mdr_sound.proofs.Along.{IsPlace, GoesOn, along, counted_all}
use Rattle.mdr_sound.proofs.Counted.{members_counted}
use Rattle.mdr_sound.proofs.CountedItems.{last_or_before, ruled, new_declared}
use Rattle.mdr_sound.proofs.Declaring.{declared_at}
use Rattle.mdr_sound.proofs.Entities.{stands_named, stands_enumerated}
use Rattle.mdr_sound.proofs.Extending.{begins_last}
use Rattle.mdr_sound.proofs.Headings.{signature_of_heading, signature_formed}
use Rattle.mdr_sound.proofs.Named.{found_at}
use Rattle.mdr_sound.proofs.NamedTypes.{AreNumbered}
use Rattle.mdr_sound.proofs.Objects.{object_sound}
use Rattle.mdr_sound.proofs.Outlines.{names_structs, outlines_hold, Completes, completes, same_or_less, one_struct_more}
use Rattle.mdr_sound.proofs.Passing.{IsStructItem, struct_or_not}
use Rattle.mdr_sound.proofs.SoundGlobals.{declared}
use Rattle.mdr_headings.specs.Annotations.{candidate}
use Rattle.mdr_sound.specs.Within.{IsOfMember}
use Rattle.mdr_sound.proofs.Gathering.{pair_of_right}
use Rattle.mdr_sound.proofs.Reading.{get_map}
use Rattle.mdr_sound.proofs.Structs.{IsFieldOf, struct_as, struct_sound}
use Rattle.mdr_sound.proofs.Tagged.{Last as IsLast, last_place}
use Rattle.mdr_sound.proofs.StructsKnown.{struct_known, stands_behind_struct}

-- ---- globals of a program

abbrev option_some : {A B : Type 0} → (A → B) → Option A → Option B
option_some f None = None
option_some f (Some x) = Some (f x)

pub global_there : (types : List Ty) (structs : List StructDef) (vs rest : List Variable) (g : ℕ) (v : Variable) → slice_get rest g ≡ Some v → slice_get (global_defs types structs vs rest) g ≡ Some (global_def types structs vs v)
unfolding global_defs
global_there types structs vs [] g v e = absurd cc
global_there types structs vs (w ∷ ws) zero v e = ap (option_some (global_def types structs vs)) e
global_there types structs vs (w ∷ ws) (suc g) v e = global_there types structs vs ws g v e

-- each global of a program comes from a variable
pub global_from : (types : List Ty) (structs : List StructDef) (vs rest : List Variable) (g : ℕ) (def : GlobalDef) → slice_get (global_defs types structs vs rest) g ≡ Some def → (v : Variable) × (slice_get rest g ≡ Some v) × (global_def types structs vs v ≡ def)
unfolding global_defs
global_from types structs vs [] g def e = absurd cc
global_from types structs vs (w ∷ ws) zero def e = (w, refl, same e)
  where
    same : {a b : GlobalDef} → Some a ≡ Some b → a ≡ b
    same q = cc
global_from types structs vs (w ∷ ws) (suc g) def e = global_from types structs vs ws g def e

-- a global's name means its object
record MeansGlobal (own : ℕ) (r : Result Object Fault) (e : Entity) : Type 0 where
  object : Object
  told : r ≡ Ok object
  is : e ≡ entity.Global own object

means_global : (own : ℕ) (r : Result Object Fault) (e : Entity) → global_means own r ≡ Ok e → MeansGlobal own r e
means_global own (Ok o) e m = record { object = o; told = refl; is = cc }
means_global own (Err f) e m = absurd cc

-- a function's name means its signature
record MeansFunction (r : Result Signature Fault) (e : Entity) : Type 0 where
  signature : Signature
  told : r ≡ Ok signature
  is : e ≡ entity.Function signature

means_function : (r : Result Signature Fault) (e : Entity) → function_means r ≡ Ok e → MeansFunction r e
means_function (Ok s) e m = record { signature = s; told = refl; is = cc }
means_function (Err f) e m = absurd cc

-- ---- constants of the file

define_at : (before more : List Item) (i : Item) → AreDefinesInRange ((before ++ i ∷ []) ++ more) → IsDefineInRange i.what
define_at [] more i all = all.0
define_at (b ∷ bs) more i all = define_at bs more i all.1

-- what all of some names mean is known
record AreKnown (program : Program) (names : List Entry) : Type 0 where
  known : (i : ℕ) (entry : Entry) (e : Entity) → slice_get names i ≡ Some entry → entry.means ≡ Ok e → IsKnownEntity program e

known_more : (program : Program) (names : List Entry) (name : List ℕ) (is_negative : Bool) (n : ℕ) (k : _) → IsTrue (is_in_range (number_constant is_negative n k).kind (number_constant is_negative n k).number) → AreKnown program names → AreKnown program (names ++ defined_constant name (number_constant is_negative n k) ∷ [])
known_more program names name is_negative n k h a = record { known = λ i entry e there m. by i entry e m (last_or_before names (defined_constant name (number_constant is_negative n k)) i entry there) }
  where
    same : {x y : Entity} → ◌≡◌ {A = Result Entity Fault} (Ok x) (Ok y) → x ≡ y
    same q = cc

    by : (i : ℕ) (entry : Entry) (e : Entity) → entry.means ≡ Ok e → (slice_get names i ≡ Some entry) ⊎ (defined_constant name (number_constant is_negative n k) ≡ entry) → IsKnownEntity program e
    by i entry e m (inl old) = a.known i entry e old m
    by i entry e m (inr new) = subst (IsKnownEntity program) (same (ap (λ (x : Entry). x.means) new ∙ m)) h

known_behind_define : (program : Program) (names : List Entry) (what : ItemWhat) → IsDefineInRange what → AreKnown program names → AreKnown program (defines_behind names what)
known_behind_define program names (item.Define name is_negative n k) h a = known_more program names name is_negative n k h a
known_behind_define program names (item.Struct p name ds) h a = a
known_behind_define program names (item.Enum es) h a = a
known_behind_define program names (item.Global d init) h a = a
known_behind_define program names (item.Proto f is_remote) h a = a
known_behind_define program names (item.Func f is_critical nodes) h a = a

defines_known : (program : Program) (names : List Entry) (is : List Item) → AreDefinesInRange is → AreKnown program names → AreKnown program (defines_from names is)
unfolding defines_from
defines_known program names [] h a = a
defines_known program names (i ∷ is) h a = defines_known program (defines_behind names i.what) is h.1 (known_behind_define program names i.what h.0 a)

found_define : (program : Program) (names : List Entry) (name : List ℕ) (entry : Entry) (e : Entity) → AreKnown program names → or_else (entity_among names name) (entity_among [] name) ≡ Some entry → entry.means ≡ Ok e → IsKnownEntity program e
found_define program names name entry e a found m = by (entity_among names name) refl found
  where
    by : (o : Option Entry) → entity_among names name ≡ o → or_else o (entity_among [] name) ≡ Some entry → IsKnownEntity program e
    by None q f = absurd cc
    by (Some x) q f = let at = found_at (λ (y : Entry). bytes_eq y.name name) names entry (q ∙ f) in a.known at.number entry e at.names m

-- ---- the scope at each place

module _ (program : Program) (body : BodyRule) (items : List Item) (xs : List Piece) (right : pieces_behind body (first_known items) [] items ≡ Right xs) (made : IsMadeOf program (parts_behind no_parts xs)) (ranges : AreDefinesInRange items) where
  abbrev Whole : Parts
  Whole = parts_behind no_parts xs

  abbrev Last : Known
  Last = known_behind (first_known items) items

  -- an item at its place in this file
  abbrev Turn : List Item → Known → Item → Piece → Parts → Type 0
  Turn = IsPlace body items Whole Last.functions

  all_declared : AreDeclaredAs Last.functions Whole.funcs
  all_declared = (counted_all body items xs right).functions

  -- what is known of structs at a place
  pub record IsStanding (known : Known) (ps : Parts) : Type 0 where
    pub stands : Stands program known.scope
    pub sound : HasAll program → (s : ℕ) (def : StructDef) → s < length known.scope.structs → slice_get program.structs s ≡ Some def → IsSoundStruct program s def
    pub members : (s : ℕ) (entry : StructEntry) → slice_get known.scope.structs s ≡ Some entry → length entry.members ≡ length (fields_of program.structs s)
    pub fields : (s f : ℕ) (entry : StructEntry) (x : Field) → slice_get known.scope.structs s ≡ Some entry → slice_get (fields_of program.structs s) f ≡ Some x → IsOfMember entry f x
    pub small : (s : ℕ) → s < length known.scope.structs → length (struct_cells program.structs s) ≤ 65536
    pub few : (s : ℕ) → s < length known.scope.structs → length (fields_of program.structs s) ≤ 64

  -- ---- at the begin

  no_names : Stands program (first_known items).scope
  unfolding first_known
  no_names = record {
    knows = record {
      entities = λ name entry e found m. found_define program (defines_from [] items) name entry e (defines_known program [] items ranges (record { known = λ i entry e there m. absurd cc })) found m;
      members = λ s f entry m o there n g. absurd cc;
      tags = λ name t e. (names_structs program body items xs right made (first_scope items) refl).below name t e;
      complete = omega arith;
    };
    sizes = λ s n entry there e. absurd cc;
    outlines = outlines_hold program body items xs right made;
  }

  begins : IsStanding (first_known items) no_parts
  unfolding first_known
  begins = record {
    stands = no_names;
    sound = λ all s def less e. absurd (omega (arith, less));
    members = λ s entry e. absurd cc;
    fields = λ s f entry x e g. absurd cc;
    small = λ s less. absurd (omega (arith, less));
    few = λ s less. absurd (omega (arith, less));
  }

  -- ---- behind a global

  known_global : (before : List Item) (known : Known) (i : Item) (x : Piece) (ps : Parts) (d : Decl) (init : Option Init) → i.what ≡ item.Global d init → Turn before known i x ps → Stands program known.scope → (e : Entity) → global_means known.globals (told (global_object known.scope d)) ≡ Ok e → IsKnownEntity program e
  known_global before known i x ps d init is place st e m =
      let a = after_right (global known.scope known.globals d init) global_of x (subst (λ w. item_piece body before known i.place w ≡ Right x) is place.one) in
      let v = a.value in
      let found = declared known.scope known.globals d init v a.right in
      let g = means_global known.globals (told (global_object known.scope d)) e m in
      let object : v.object ≡ g.object = same_right v.object g.object (sym found.object ∙ told_right (global_object known.scope d) g.object g.told) in
      let begins : Begins (ps.variables ++ v ∷ []) Whole.variables = subst (λ (y : Piece). Begins (behind_piece ps y).variables Whole.variables) (sym (same_right (piece.Global v) x a.made)) place.variables in
      let there : slice_get Whole.variables known.globals ≡ Some v = ap (slice_get Whole.variables) (place.counts).globals ∙ begins_last ps.variables Whole.variables v begins in
      let def = global_def program.types Whole.structs Whole.variables v in
      let names : slice_get program.globals known.globals ≡ Some def = ap (λ gs. slice_get gs known.globals) made.globals ∙ global_there program.types Whole.structs Whole.variables Whole.variables known.globals v there in
      let kept : IsKnownGlobal program known.globals g.object = record {
        def = def;
        names = names;
        ty = ap (λ (o : Object). o.ty) object;
        count = ap (λ (o : Object). o.count) object;
        array = ap (λ (o : Object). o.array) object;
        formed = (object_sound program known.scope (out-Decl d).place d g.object st (told_right (global_object known.scope d) g.object g.told)).sort;
      }
      in
      subst (IsKnownEntity program) (sym g.is) kept

  -- ---- behind a function

  -- the heading of a declaration, in its place
  pub record IsHeaded (known : Known) (h : Head) : Type 0 where
    pub heading : Heading
    pub listed : heading_in known.scope h ≡ Right heading
    pub begins : Begins (functions_behind known.scope known.functions h) Last.functions

  known_function : (known : Known) (h : Head) → IsHeaded known h → is_taken known.scope h.name ≡ false → Stands program known.scope → AreNumbered known.scope (length program.structs) → (e : Entity) → function_means (told (signature known.scope (length known.functions) h)) ≡ Ok e → IsKnownEntity program e
  unfolding functions_behind behind_function
  known_function known h headed free st low e m =
      let n = length known.functions in
      let f = means_function (told (signature known.scope n h)) e m in
      let s = f.signature in
      let right = told_right (signature known.scope n h) s f.told in
      let new = new_declared known.scope h in
      let begins : Begins (known.functions ++ new ∷ []) Last.functions = subst (λ t. Begins (declared_unless t known.functions h (told (heading_in known.scope h))) Last.functions) free headed.begins in
      let there = declared_at Last.functions Whole.funcs n new all_declared (begins_last known.functions Last.functions new begins) in
      let d = there.2 in
      let listed : heading_in known.scope h ≡ Right d.heading = told_right (heading_in known.scope h) d.heading d.told in
      let same = signature_of_heading known.scope known.scope n h s d.heading refl right listed in
      let types : function_type there.0 ≡ type.Fun (s.result ∷ s.params) = d.types ∙ (λ i. type.Fun (sym same.result_is i ∷ sym same.params_are i)) in
      let kept : IsKnownFunction program s = record {
        func = there.0;
        names = ap (slice_get program.funcs) same.number ∙ ap (λ (fs : List Func). slice_get fs n) made.funcs ∙ there.1;
        types = types;
        formed = signature_formed known.scope (length program.structs) n h s low right;
      }
      in
      subst (IsKnownEntity program) (sym f.is) kept

  pub function_stands : (known : Known) (h : Head) → IsHeaded known h → Stands program known.scope → AreNumbered known.scope (length program.structs) → Stands program (body_scope known h)
  unfolding behind_function
  function_stands known h headed st low = by (is_taken known.scope h.name) refl
    where
      by : (t : Bool) → is_taken known.scope h.name ≡ t → Stands program (with_function_unless t known.scope (length known.functions) h)
      by true e = st
      by false e = stands_named program known.scope h.name (function_means (told (signature known.scope (length known.functions) h))) st (λ x m. known_function known h headed e st low x m)

  -- ---- behind each item

  pub prototype_headed : (before : List Item) (known : Known) (i : Item) (x : Piece) (ps : Parts) (h : Head) (is_remote : Bool) → i.what ≡ item.Proto h is_remote → Turn before known i x ps → IsHeaded known h
  prototype_headed before known i x ps h is_remote is place =
      let a = after_right (function_declared known.scope known.functions before h false) (prototype_of h.name) x (subst (λ w. item_piece body before known i.place w ≡ Right x) is place.one) in
      let r = ruled known.scope known.functions before h false a.value a.right in
      record { heading = a.value; listed = r.right; begins = subst (λ w. Begins (behind_item known w).functions Last.functions) is place.declared }

  pub body_headed : (before : List Item) (known : Known) (i : Item) (x : Piece) (ps : Parts) (h : Head) (is_critical : Bool) (nodes : _) → i.what ≡ item.Func h is_critical nodes → Turn before known i x ps → IsHeaded known h
  body_headed before known i x ps h is_critical nodes is place =
      let b = both_right (function_declared known.scope known.functions before h true) (body (body_scope known h) h nodes) (function_of h.name is_critical) x (subst (λ w. item_piece body before known i.place w ≡ Right x) is place.one) in
      let r = ruled known.scope known.functions before h true b.left b.first in
      record { heading = b.left; listed = r.right; begins = subst (λ w. Begins (behind_item known w).functions Last.functions) is place.declared }

  stands_behind : (before : List Item) (known : Known) (i : Item) (x : Piece) (ps : Parts) (what : ItemWhat) → i.what ≡ what → Turn before known i x ps → Stands program known.scope → AreNumbered known.scope (length program.structs) → Stands program (behind_item known what).scope
  unfolding behind_global
  stands_behind before known i x ps (item.Define name is_negative n k) is place st low =
      let range = subst IsDefineInRange is (define_at before (place.begins).more i (subst AreDefinesInRange (place.begins).whole ranges)) in
      stands_named program known.scope name (Ok (entity.Constant (number_constant is_negative n k))) st (λ e m. subst (IsKnownEntity program) (same m) range)
    where
      same : {x y : Entity} → ◌≡◌ {A = Result Entity Fault} (Ok x) (Ok y) → x ≡ y
      same q = cc
  stands_behind before known i x ps (item.Struct at name ds) is place st low =
      let k = completes program body items xs right made before known i x ps at name ds is place in
      let known_is = struct_known program known.scope at ds k.0 st (k.1).listed (k.1).fields_are in
      let room = slice_get_within program.structs (length known.scope.structs) _ (k.1).def in
      subst (λ b. Stands program (with_struct_if b known.scope (struct_entry known.scope at ds))) (sym (k.1).numbered) (stands_behind_struct program known.scope at ds st known_is room)
  stands_behind before known i x ps (item.Enum es) is place st low = stands_enumerated program known.scope before_first es st
  stands_behind before known i x ps (item.Global d init) is place st low = stands_named program known.scope (name_or_none (out-Decl d).name) (global_means known.globals (told (global_object known.scope d))) st (λ e m. known_global before known i x ps d init is place st e m)
  stands_behind before known i x ps (item.Proto h is_remote) is place st low = function_stands known h (prototype_headed before known i x ps h is_remote is place) st low
  stands_behind before known i x ps (item.Func h is_critical nodes) is place st low = function_stands known h (body_headed before known i x ps h is_critical nodes is place) st low

  -- ---- structs that are sound

  field_in_table : HasAll program → (s : ℕ) (def : StructDef) → slice_get program.structs s ≡ Some def → (f : ℕ) (x : Field) → slice_get def.fields f ≡ Some x → HasNumber program x.ty
  field_in_table all s def there f x e = all x.ty (OfField s f def x there e refl)

  sound_next : HasAll program → (known : Known) (at : Place) (name : List ℕ) (ds : List Decl) (fields : List Field) → Completes program body items xs right made known at name ds fields → Stands program known.scope → IsSoundStruct program (length known.scope.structs) (record { name = name; fields = fields })
  sound_next all known at name ds fields k st = struct_sound program known.scope at name ds fields st (field_in_table all (length known.scope.structs) (record { name = name; fields = fields }) k.def) k.listed

  sound_struct : HasAll program → (known : Known) (at : Place) (name : List ℕ) (ds : List Decl) (fields : List Field) (s : ℕ) (def : StructDef) → Completes program body items xs right made known at name ds fields → IsStanding known no_parts → (s < length known.scope.structs) ⊎ (s ≡ length known.scope.structs) → slice_get program.structs s ≡ Some def → IsSoundStruct program s def
  sound_struct all known at name ds fields s def k q (inl less) e = q.sound all s def less e
  sound_struct all known at name ds fields s def k q (inr last) e =
      let same : record { name = name; fields = fields } ≡ def = some_same (sym k.def ∙ ap (slice_get program.structs) (sym last) ∙ e) in
      let sound = sound_next all known at name ds fields k q.stands in
      subst (λ n. IsSoundStruct program n def) (sym last) (subst (IsSoundStruct program (length known.scope.structs)) same sound)
    where
      some_same : {a b : StructDef} → Some a ≡ Some b → a ≡ b
      some_same q = cc

  struct_members : (known : Known) (at : Place) (name : List ℕ) (ds : List Decl) (fields : List Field) (s : ℕ) (entry : StructEntry) → Completes program body items xs right made known at name ds fields → IsStanding known no_parts → (slice_get known.scope.structs s ≡ Some entry) ⊎ IsLast known.scope.structs (struct_entry known.scope at ds) s entry → length entry.members ≡ length (fields_of program.structs s)
  struct_members known at name ds fields s entry k q (inl old) = q.members s entry old
  struct_members known at name ds fields s entry k q (inr new) =
      ap (λ (e : StructEntry). length e.members) (sym new.is)
      ∙ members_counted known.scope at ds fields k.listed
      ∙ ap length (sym k.fields_are)
      ∙ ap (λ n. length (fields_of program.structs n)) (sym new.place)

  -- a field of the struct that an item completes comes from its member
  field_member : (known : Known) (at : Place) (name : List ℕ) (ds : List Decl) (fields : List Field) (f : ℕ) (x : Field) → Completes program body items xs right made known at name ds fields → slice_get fields f ≡ Some x → IsOfMember (struct_entry known.scope at ds) f x
  unfolding struct_entry member
  field_member known at name ds fields f x k e =
      let a = struct_as known.scope at ds fields k.listed in
      let r = pair_of_right (IsFieldOf known.scope at (map (candidate known.scope) ds)) ds fields f x a.fields e in
      let h = (r.1).related in
      record {
        member = member known.scope at r.0;
        at = get_map (member known.scope at) ds f r.0 (r.1).left;
        object = h.object;
        means = ap told h.declared;
        ty = ap (λ (y : Field). y.ty) h.made;
      }

  struct_fields_of : (known : Known) (at : Place) (name : List ℕ) (ds : List Decl) (fields : List Field) (s f : ℕ) (entry : StructEntry) (x : Field) → Completes program body items xs right made known at name ds fields → IsStanding known no_parts → (slice_get known.scope.structs s ≡ Some entry) ⊎ IsLast known.scope.structs (struct_entry known.scope at ds) s entry → slice_get (fields_of program.structs s) f ≡ Some x → IsOfMember entry f x
  struct_fields_of known at name ds fields s f entry x k q (inl old) e = q.fields s f entry x old e
  struct_fields_of known at name ds fields s f entry x k q (inr new) e =
      let there : slice_get fields f ≡ Some x = ap (λ (ys : List Field). slice_get ys f) (sym k.fields_are) ∙ ap (λ n. slice_get (fields_of program.structs n) f) (sym new.place) ∙ e in
      subst (λ (y : StructEntry). IsOfMember y f x) new.is (field_member known at name ds fields f x k there)

  bounded : (P : ℕ → Type 0) (known : Known) (s : ℕ) → ((s : ℕ) → s < length known.scope.structs → P s) → P (length known.scope.structs) → (s < length known.scope.structs) ⊎ (s ≡ length known.scope.structs) → P s
  bounded P known s h last (inl less) = h s less
  bounded P known s h last (inr is) = subst P (sym is) last

  any_parts : (known : Known) (ps qs : Parts) → IsStanding known ps → IsStanding known qs
  any_parts known ps qs q = record { stands = q.stands; sound = q.sound; members = q.members; fields = q.fields; small = q.small; few = q.few }

  -- behind an item that completes no struct
  standing_same : (before : List Item) (known : Known) (i : Item) (x : Piece) (ps : Parts) → Turn before known i x ps → IsStanding known no_parts → Stands program (behind_item known i.what).scope → (behind_item known i.what).scope.structs ≡ known.scope.structs → IsStanding (behind_item known i.what) no_parts
  standing_same before known i x ps place q st same = record {
    stands = st;
    sound = λ all s def less e. q.sound all s def (subst (λ n. s < n) (ap length same) less) e;
    members = λ s entry e. q.members s entry (ap (λ es. slice_get es s) (sym same) ∙ e);
    fields = λ s f entry y e g. q.fields s f entry y (ap (λ es. slice_get es s) (sym same) ∙ e) g;
    small = λ s less. q.small s (subst (λ n. s < n) (ap length same) less);
    few = λ s less. q.few s (subst (λ n. s < n) (ap length same) less);
  }

  -- behind a struct
  standing_more : (before : List Item) (known : Known) (i : Item) (x : Piece) (ps : Parts) → Turn before known i x ps → IsStanding known no_parts → Stands program (behind_item known i.what).scope → IsStructItem i.what → IsStanding (behind_item known i.what) no_parts
  standing_more before known i x ps place q st v =
      let k = completes program body items xs right made before known i x ps v.at v.name v.decls v.is place in
      let is = struct_known program known.scope v.at v.decls k.0 q.stands (k.1).listed (k.1).fields_are in
      let more = one_struct_more program body items xs right made known i.what v.at v.name v.decls v.is (k.1).numbered in
      let many = ap length more ∙ length-append known.scope.structs (struct_entry known.scope v.at v.decls ∷ []) in
      let which : (s : ℕ) → s < length (behind_item known i.what).scope.structs → (s < length known.scope.structs) ⊎ (s ≡ length known.scope.structs) = λ s less. same_or_less program body items xs right made s (length known.scope.structs) (subst (λ n. s < n) many less) in
      record {
        stands = st;
        sound = λ all s def less e. sound_struct all known v.at v.name v.decls k.0 s def k.1 q (which s less) e;
        members = λ s entry e. struct_members known v.at v.name v.decls k.0 s entry k.1 q (last_place known.scope.structs (struct_entry known.scope v.at v.decls) s entry (ap (λ es. slice_get es s) (sym more) ∙ e));
        fields = λ s f entry y e g. struct_fields_of known v.at v.name v.decls k.0 s f entry y k.1 q (last_place known.scope.structs (struct_entry known.scope v.at v.decls) s entry (ap (λ es. slice_get es s) (sym more) ∙ e)) g;
        small = λ s less. bounded (λ n. length (struct_cells program.structs n) ≤ 65536) known s q.small is.small (which s less);
        few = λ s less. bounded (λ n. length (fields_of program.structs n) ≤ 64) known s q.few is.few (which s less);
      }

  pub standing_goes_on : GoesOn body items Whole Last.functions IsStanding
  standing_goes_on = record { behind = λ before known i x ps place q. any_parts (behind_item known i.what) no_parts (behind_piece ps x) (by before known i x ps place (any_parts known ps no_parts q) (stands_behind before known i x ps i.what refl place q.stands (names_structs program body items xs right made known.scope (place.at).tags)) (struct_or_not items known i.what)) }
    where
      by : (before : List Item) (known : Known) (i : Item) (x : Piece) (ps : Parts) → Turn before known i x ps → IsStanding known no_parts → Stands program (behind_item known i.what).scope → IsStructItem i.what ⊎ ((behind_item known i.what).scope.structs ≡ known.scope.structs) → IsStanding (behind_item known i.what) no_parts
      by before known i x ps place q st (inl v) = standing_more before known i x ps place q st v
      by before known i x ps place q st (inr same) = standing_same before known i x ps place q st same

  pub first_standing : IsStanding (first_known items) no_parts
  first_standing = begins

  -- at the end of the file
  pub standing_all : IsStanding Last Whole
  standing_all = along body items xs IsStanding right standing_goes_on first_standing
