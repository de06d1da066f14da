-- What is known behind a struct is so.
use Rattle.std.proofs.Common.{◌≡◌, ℕ, zero, suc, ◌+◌, ◌*◌, ◌<◌, ◌⊎◌, inl, inr, nat_lt, List, [], ◌∷◌, ◌++◌, map, length, Option, Some, None, Ok, slice_get, refl, sym, ap, subst, ◌∙◌, arith}
use Rattle.std.proofs.lemmas.Option.{slice_get_within}
use Rattle.std.proofs.lemmas.List.{length-append, length-map}
use Rattle.mdr_core.specs.declared.place.Place.{Place}
use Rattle.mdr_core.specs.declared.program.Field.{Field}
use Rattle.mdr_core.specs.declared.program.Program.{Program}
use Rattle.mdr_core.specs.declared.types.Ty.{Ty, out-Ty}
use Rattle.mdr_core.specs.declared.types.Ty.TheOpen.{Ty-F}
use Rattle.mdr_core.specs.Layout.{Leaf, Home, Within, leaves, leaves_below, field_leaves, fields_of, repeated, struct_cells as cells_of_struct}
use Rattle.mdr_core.proofs.Lying.{length-repeated, is_below}
use Rattle.mdr_syntax.specs.declared.tree.Decl.{Decl, out-Decl}
use Rattle.mdr_faults.specs.declared.fault.FaultKind.TheVariants.{Limit}
use Rattle.mdr_faults.specs.declared.scope.Candidate.{Candidate}
use Rattle.mdr_faults.specs.declared.scope.Member.{Member}
use Rattle.mdr_faults.specs.declared.scope.Object.{Object}
use Rattle.mdr_faults.specs.declared.scope.Scope.{Scope}
use Rattle.mdr_faults.specs.declared.scope.StructEntry.{StructEntry}
use Rattle.mdr_faults.specs.Declarations.{struct_cells, cells_by, cells_of, object_declared}
use Rattle.mdr_faults.specs.Faults.{Right, after}
use Rattle.mdr_headings.specs.Annotations.{candidate}
use Rattle.mdr_headings.specs.Structs.{number_or_zero, cells_of_fields, struct_size, struct_fields, member, struct_entry}
use Rattle.mdr_sound.specs.Knowing.{IsKnownField}
use Rattle.mdr_sound.proofs.Rights.{same_right, refused_right, told_right, not_right}
use Rattle.mdr_sound.specs.Declared.{IsKnownStruct}
use Rattle.mdr_sound.specs.Standing.{Stands}
use Rattle.mdr_sound.proofs.Reading.{get_mapped}
use Rattle.mdr_sound.proofs.Objects.{declared_as, object_sound, KnowsSizes, sized_is}
use Rattle.mdr_sound.proofs.Gathering.{Pairwise, pair_of_left, pairwise_length}
use Rattle.mdr_sound.proofs.Structs.{IsFieldOf, struct_as}

-- ---- how many cells a struct has

struct_elsewhere : (p q : Place) (o : Option StructEntry) (n : ℕ) → struct_cells p o ≡ Right n → struct_cells q o ≡ Right n
struct_elsewhere p q None n e = not_right _ n e
struct_elsewhere p q (Some s) n e = e

elsewhere_by : (scope : Scope) (p q : Place) (l : Ty-F Ty) (n : ℕ) → cells_by scope p l ≡ Right n → cells_by scope q l ≡ Right n
elsewhere_by scope p q (Ty-F.Int k) n e = e
elsewhere_by scope p q Ty-F.Lock n e = e
elsewhere_by scope p q (Ty-F.Struct s) n e = struct_elsewhere p q (slice_get scope.structs s) n e
elsewhere_by scope p q (Ty-F.Ptr t) n e = e
elsewhere_by scope p q Ty-F.VoidPtr n e = e
elsewhere_by scope p q (Ty-F.Fun ts) n e = e
elsewhere_by scope p q Ty-F.Void n e = not_right _ n e

-- how many cells a type has, is asked at any place
elsewhere : (scope : Scope) (p q : Place) (t : Ty) (n : ℕ) → cells_of scope p t ≡ Right n → cells_of scope q t ≡ Right n
elsewhere scope p q t n e = elsewhere_by scope p q (out-Ty t) n e

field_cells : (scope : Scope) (limit q : Place) (siblings : List Candidate) (known : ℕ → List Leaf) (home : Home) (d : Decl) (x : Field) → KnowsSizes scope known → IsFieldOf scope limit siblings d x → length (repeated x.count (leaves known home x.ty)) ≡ x.count * number_or_zero (cells_of scope q x.ty)
field_cells scope limit q siblings known home d x k h =
    let a = declared_as scope limit d h.object h.declared in
    let type : h.object.ty ≡ x.ty = ap (λ (y : Field). y.ty) h.made in
    let own : cells_of scope (out-Decl d).place x.ty ≡ Right a.element = ap (cells_of scope (out-Decl d).place) (sym type) ∙ a.cells in
    let one = sized_is scope known home (out-Decl d).place x.ty a.element k own in
    let here : number_or_zero (cells_of scope q x.ty) ≡ a.element = ap number_or_zero (elsewhere scope (out-Decl d).place q x.ty a.element own) in
    length-repeated x.count (leaves known home x.ty) ∙ ap (λ (n : ℕ). x.count * n) (sym one ∙ sym here)

fields_cells : (scope : Scope) (limit q : Place) (siblings : List Candidate) (known : ℕ → List Leaf) (s f : ℕ) (ds : List Decl) (xs : List Field) → KnowsSizes scope known → Pairwise (IsFieldOf scope limit siblings) ds xs → length (field_leaves known s f xs) ≡ cells_of_fields scope q xs
unfolding field_leaves cells_of_fields
fields_cells scope limit q siblings known s f [] [] k h = refl
fields_cells scope limit q siblings known s f [] (x ∷ xs) k h = absurd h
fields_cells scope limit q siblings known s f (d ∷ ds) [] k h = absurd h
fields_cells scope limit q siblings known s f (d ∷ ds) (x ∷ xs) k h =
    let own = field_cells scope limit q siblings known (Within s f) d x k h.0 in
    let rest = fields_cells scope limit q siblings known s (f + 1) ds xs k h.1 in
    length-append (repeated x.count (leaves known (Within s f) x.ty)) (field_leaves known s (f + 1) xs) ∙ ap (λ (n : ℕ). n + length (field_leaves known s (f + 1) xs)) own ∙ ap (λ (n : ℕ). x.count * number_or_zero (cells_of scope q x.ty) + n) rest

-- those of the structs before it are known
below_known : (program : Program) (scope : Scope) → Stands program scope → KnowsSizes scope (leaves_below program.structs (length scope.structs))
below_known program scope st = record {
  sizes = λ s n entry e f. ap length (is_below program.structs (length scope.structs) s (slice_get_within scope.structs s entry e)) ∙ st.sizes s n entry e f;
}

-- the struct of the number that is next has these fields in the program
pub struct_length : (program : Program) (scope : Scope) (p : Place) (ds : List Decl) (xs : List Field) → Stands program scope → struct_fields scope p ds ≡ Right xs → fields_of program.structs (length scope.structs) ≡ xs → length (cells_of_struct program.structs (length scope.structs)) ≡ cells_of_fields scope p xs
unfolding cells_of_struct
struct_length program scope p ds xs st e is =
    let s = length scope.structs in
    ap (λ (ys : List Field). length (field_leaves (leaves_below program.structs s) s 0 ys)) is
    ∙ fields_cells scope p p (map (candidate scope) ds) (leaves_below program.structs s) s 0 ds xs (below_known program scope st) (struct_as scope p ds xs e).fields

entry_cells : (scope : Scope) (p : Place) (ds : List Decl) (xs : List Field) (n : ℕ) → struct_fields scope p ds ≡ Right xs → (struct_entry scope p ds).cells ≡ Ok n → cells_of_fields scope p xs ≡ n
unfolding struct_entry
entry_cells scope p ds xs n e f =
    let a = told_right (after (struct_fields scope p ds) (struct_size scope p)) n f in
    let sized : struct_size scope p xs ≡ Right n = ap (λ c. after c (struct_size scope p)) (sym e) ∙ a in
    let r = refused_right (nat_lt 65536 (cells_of_fields scope p xs)) (Right (cells_of_fields scope p xs)) p Limit n sized in
    same_right (cells_of_fields scope p xs) n r.right

entry_members : (scope : Scope) (p : Place) (ds : List Decl) → length (struct_entry scope p ds).members ≡ length ds
unfolding struct_entry
entry_members scope p ds = length-map ds (member scope p)

-- ---- its members

record IsMemberOf (scope : Scope) (p : Place) (ds : List Decl) (f : ℕ) (o : Object) : Type 0 where
  decl : Decl
  names : slice_get ds f ≡ Some decl
  declared : object_declared scope p decl ≡ Right o

member_of : (scope : Scope) (p : Place) (ds : List Decl) (f : ℕ) (m : Member) (o : Object) → slice_get (struct_entry scope p ds).members f ≡ Some m → m.means ≡ Ok o → IsMemberOf scope p ds f o
unfolding struct_entry member
member_of scope p ds f m o n e =
    let r = get_mapped (member scope p) ds f m n in
    record { decl = r.item; names = r.names; declared = told_right (object_declared scope p r.item) o (ap (λ (y : Member). y.means) r.made ∙ e) }

known_field : (program : Program) (scope : Scope) (p : Place) (ds : List Decl) (xs : List Field) (s f : ℕ) (o : Object) → Stands program scope → Pairwise (IsFieldOf scope p (map (candidate scope) ds)) ds xs → fields_of program.structs s ≡ xs → IsMemberOf scope p ds f o → IsKnownField program s f o
known_field program scope p ds xs s f o st fields is m =
    let r = pair_of_left (IsFieldOf scope p (map (candidate scope) ds)) ds xs f m.decl fields m.names in
    let h = (r.1).related in
    let same : h.object ≡ o = same_right h.object o (sym h.declared ∙ m.declared) in
    record {
      field = r.0;
      names = ap (λ (ys : List Field). slice_get ys f) is ∙ (r.1).right;
      ty = ap (λ (y : Field). y.ty) (sym h.made) ∙ ap (λ (y : Object). y.ty) same;
      count = ap (λ (y : Field). y.count) (sym h.made) ∙ ap (λ (y : Object). y.count) same;
      array = ap (λ (y : Field). y.array) (sym h.made) ∙ ap (λ (y : Object). y.array) same;
      formed = (object_sound program scope p m.decl o st m.declared).sort;
    }

-- ---- all of it

pub struct_known : (program : Program) (scope : Scope) (p : Place) (ds : List Decl) (xs : List Field) → Stands program scope → struct_fields scope p ds ≡ Right xs → fields_of program.structs (length scope.structs) ≡ xs → IsKnownStruct program scope p ds (length scope.structs)
struct_known program scope p ds xs st e is =
    let a = struct_as scope p ds xs e in
    let s = length scope.structs in
    record {
      small = let cells = struct_length program scope p ds xs st e is in let most = a.small in omega (arith, cells, most);
      few = let fields = ap length is in let most = a.few in omega (arith, fields, most);
      many = entry_members scope p ds ∙ pairwise_length (IsFieldOf scope p (map (candidate scope) ds)) ds xs a.fields ∙ ap length (sym is);
      size = λ n f. struct_length program scope p ds xs st e is ∙ entry_cells scope p ds xs n e f;
      members = λ f m o n g. known_field program scope p ds xs s f o st a.fields is (member_of scope p ds f m o n g);
    }

-- a program knows what is behind the struct
pub at_end : {A : Type 0} (xs : List A) (y x : A) (i : ℕ) → slice_get (xs ++ y ∷ []) i ≡ Some x → (slice_get xs i ≡ Some x) ⊎ ((length xs ≡ i) × (y ≡ x))
at_end [] y x zero e = inr (refl, cc)
at_end [] y x (suc i) e = cc
at_end (z ∷ zs) y x zero e = inl e
at_end (z ∷ zs) y x (suc i) e = one (at_end zs y x i e)
  where
    one : (slice_get zs i ≡ Some x) ⊎ ((length zs ≡ i) × (y ≡ x)) → (slice_get zs i ≡ Some x) ⊎ ((suc (length zs) ≡ suc i) × (y ≡ x))
    one (inl f) = inl f
    one (inr f) = inr (ap suc f.0, f.1)

size_behind : (program : Program) (scope : Scope) (p : Place) (ds : List Decl) → Stands program scope → IsKnownStruct program scope p ds (length scope.structs) → (s n : ℕ) (entry : StructEntry) → (slice_get scope.structs s ≡ Some entry) ⊎ ((length scope.structs ≡ s) × (struct_entry scope p ds ≡ entry)) → entry.cells ≡ Ok n → length (cells_of_struct program.structs s) ≡ n
size_behind program scope p ds st known s n entry (inl e) f = st.sizes s n entry e f
size_behind program scope p ds st known s n entry (inr e) f = subst (λ (k : ℕ). length (cells_of_struct program.structs k) ≡ n) e.0 (known.size n (ap (λ (y : StructEntry). y.cells) e.1 ∙ f))

member_behind : (program : Program) (scope : Scope) (p : Place) (ds : List Decl) → Stands program scope → IsKnownStruct program scope p ds (length scope.structs) → (s f : ℕ) (entry : StructEntry) (m : Member) (o : Object) → (slice_get scope.structs s ≡ Some entry) ⊎ ((length scope.structs ≡ s) × (struct_entry scope p ds ≡ entry)) → slice_get entry.members f ≡ Some m → m.means ≡ Ok o → IsKnownField program s f o
member_behind program scope p ds st known s f entry m o (inl e) n g = st.knows.members s f entry m o e n g
member_behind program scope p ds st known s f entry m o (inr e) n g = subst (λ (k : ℕ). IsKnownField program k f o) e.0 (known.members f m o (ap (λ (y : StructEntry). slice_get y.members f) e.1 ∙ n) g)

pub stands_behind_struct : (program : Program) (scope : Scope) (p : Place) (ds : List Decl) → Stands program scope → IsKnownStruct program scope p ds (length scope.structs) → length scope.structs < length program.structs → Stands program (record scope { structs = scope.structs ++ struct_entry scope p ds ∷ [] })
stands_behind_struct program scope p ds st known room = record {
  knows = record {
    entities = st.knows.entities;
    members = λ s f entry m o e n g. member_behind program scope p ds st known s f entry m o (at_end scope.structs (struct_entry scope p ds) entry s e) n g;
    tags = st.knows.tags;
    complete = let more = length-append scope.structs (struct_entry scope p ds ∷ []) in omega (arith, room, more);
  };
  sizes = λ s n entry e f. size_behind program scope p ds st known s n entry (at_end scope.structs (struct_entry scope p ds) entry s e) f;
  outlines = st.outlines;
}
