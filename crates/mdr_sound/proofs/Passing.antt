-- How the scope of a file goes on from item to item: what holds in the whole file stays, and each struct completes the next name.
use Rattle.std.proofs.Common.{◌≡◌, ℕ, ◌+◌, Bool, true, false, not, ◌==◌, List, [], ◌∷◌, ◌++◌, length, map, Some, refl, sym, ap, ◌∙◌, subst, slice_get, length-append, ◌⊎◌, inl, inr}
use Rattle.std.specs.List.{find}
use Rattle.std.specs.Str.{bytes_eq}
use Rattle.mdr_core.specs.declared.place.Place.{Place}
use Rattle.mdr_core.specs.declared.program.Field.{Field}
use Rattle.mdr_core.specs.Layout.{chosen}
use Rattle.mdr_syntax.specs.declared.tree.Decl.{Decl}
use Rattle.mdr_syntax.specs.declared.tree.Enumerator.{Enumerator}
use Rattle.mdr_syntax.specs.declared.tree.Head.{Head}
use Rattle.mdr_syntax.specs.declared.tree.Item.{Item}
use Rattle.mdr_syntax.specs.declared.tree.ItemWhat.{ItemWhat}
use Rattle.mdr_syntax.specs.declared.tree.ItemWhat.TheVariants as item
use Rattle.mdr_faults.specs.declared.fault.FaultKind.TheVariants.{Redefined, Limit}
use Rattle.mdr_faults.specs.declared.scope.Candidate.{Candidate}
use Rattle.mdr_faults.specs.declared.scope.Scope.{Scope}
use Rattle.mdr_faults.specs.declared.scope.Tag.{Tag}
use Rattle.mdr_faults.specs.Enums.{behind_enumerator, behind_enumerators, value_behind}
use Rattle.mdr_faults.specs.Faults.{Right, told, after, demand}
use Rattle.mdr_faults.specs.Scopes.{tag_named}
use Rattle.mdr_headings.specs.Annotations.{candidate}
use Rattle.mdr_headings.specs.Functions.{is_taken, with_function_unless, behind_function}
use Rattle.mdr_headings.specs.Source.{has_tag, tags_behind, tags_from, defines_from, is_numbered, with_struct_if, before_first}
use Rattle.mdr_headings.specs.Structs.{struct_fields, struct_entry}
use Rattle.mdr_check.specs.declared.file.Known.{Known}
use Rattle.mdr_check.specs.declared.file.Piece.{Piece}
use Rattle.mdr_check.specs.declared.file.Piece.TheVariants as piece
use Rattle.mdr_check.specs.Files.{BodyRule, item_piece, behind_item, struct_piece, struct_of, with_outline_if, outlines_behind, outlines_from, first_scope, first_known}
use Rattle.mdr_check.specs.Globals.{behind_global}
use Rattle.mdr_sound.proofs.Rights.{after_right, demand_right, same_right}
use Rattle.mdr_sound.specs.Counting.{Begins}
use Rattle.mdr_sound.proofs.Extending.{begins_itself, begins_behind, begins_more}
use Rattle.mdr_sound.proofs.Tagged.{AreNumbered, all_numbered, tags_begin, is_first}

-- ---- what holds in the whole file

-- one scope has what the other has in the whole file
pub record SameFile (scope more : Scope) : Type 0 where
  pub tags : more.tags ≡ scope.tags
  pub defines : more.defines ≡ scope.defines
  pub outlines : more.outlines ≡ scope.outlines

same_file : (scope : Scope) → SameFile scope scope
same_file scope = record { tags = refl; defines = refl; outlines = refl }

enumerators_same : (scope : Scope) (before : _) (es : List Enumerator) → SameFile scope (behind_enumerators scope before es)
unfolding behind_enumerators
enumerators_same scope before [] = same_file scope
enumerators_same scope before (e ∷ es) =
    let b = enumerators_same (behind_enumerator scope before e) (told (value_behind scope before e)) es in
    record { tags = b.tags; defines = b.defines; outlines = b.outlines }

function_same : (t : Bool) (scope : Scope) (n : ℕ) (h : Head) → SameFile scope (with_function_unless t scope n h)
function_same true scope n h = same_file scope
function_same false scope n h = record { tags = refl; defines = refl; outlines = refl }

struct_same : (t : Bool) (scope : Scope) (e : _) → SameFile scope (with_struct_if t scope e)
struct_same true scope e = record { tags = refl; defines = refl; outlines = refl }
struct_same false scope e = same_file scope

pub item_same : (items : List Item) (known : Known) (what : ItemWhat) → SameFile known.scope (behind_item known what).scope
unfolding behind_function behind_global
item_same items known (item.Define name is_negative n k) = record { tags = refl; defines = refl; outlines = refl }
item_same items known (item.Struct at name ds) = struct_same (is_numbered (tag_named known.scope name) (length known.scope.structs)) known.scope (struct_entry known.scope at ds)
item_same items known (item.Enum es) = enumerators_same known.scope before_first es
item_same items known (item.Global d init) = record { tags = refl; defines = refl; outlines = refl }
item_same items known (item.Proto h is_remote) = function_same (is_taken known.scope h.name) known.scope (length known.functions) h
item_same items known (item.Func h is_critical nodes) = function_same (is_taken known.scope h.name) known.scope (length known.functions) h

-- ---- item by item

tags_more : (tags : List Tag) (xs ys : List Item) → tags_from tags (xs ++ ys) ≡ tags_from (tags_from tags xs) ys
unfolding tags_from
tags_more tags [] ys = refl
tags_more tags (x ∷ xs) ys = tags_more (tags_behind tags x.what) xs ys

pub outlines_more : (scope : Scope) (os : List (List Candidate)) (xs ys : List Item) → outlines_from scope os (xs ++ ys) ≡ outlines_from scope (outlines_from scope os xs) ys
unfolding outlines_from
outlines_more scope os [] ys = refl
outlines_more scope os (x ∷ xs) ys = outlines_more scope (outlines_behind scope os x.what) xs ys

outline_if_begins : (b : Bool) (scope : Scope) (os : List (List Candidate)) (ds : List Decl) → Begins os (with_outline_if b scope os ds)
outline_if_begins true scope os ds = begins_more os (map (candidate scope) ds ∷ [])
outline_if_begins false scope os ds = begins_itself os

outlines_one : (scope : Scope) (os : List (List Candidate)) (what : ItemWhat) → Begins os (outlines_behind scope os what)
outlines_one scope os (item.Define name is_negative n k) = begins_itself os
outlines_one scope os (item.Struct at name ds) = outline_if_begins (is_numbered (tag_named scope name) (length os)) scope os ds
outlines_one scope os (item.Enum es) = begins_itself os
outlines_one scope os (item.Global d init) = begins_itself os
outlines_one scope os (item.Proto h is_remote) = begins_itself os
outlines_one scope os (item.Func h is_critical nodes) = begins_itself os

outlines_begin : (scope : Scope) (os : List (List Candidate)) (is : List Item) → Begins os (outlines_from scope os is)
unfolding outlines_from
outlines_begin scope os [] = begins_itself os
outlines_begin scope os (i ∷ is) = begins_behind os (outlines_behind scope os i.what) (outlines_from scope (outlines_behind scope os i.what) is) (outlines_one scope os i.what) (outlines_begin scope (outlines_behind scope os i.what) is)

-- what is known at a place of the file, of all items
pub record IsAt (items before : List Item) (known : Known) : Type 0 where
  pub tags : known.scope.tags ≡ tags_from [] items
  pub defines : known.scope.defines ≡ defines_from [] items
  pub outlines : known.scope.outlines ≡ outlines_from (first_scope items) [] items
  pub structs : length known.scope.structs ≡ length (tags_from [] before)
  pub fields : length known.scope.structs ≡ length (outlines_from (first_scope items) [] before)

pub first_at : (items : List Item) → IsAt items [] (first_known items)
unfolding first_known tags_from outlines_from
first_at items = record { tags = refl; defines = refl; outlines = refl; structs = refl; fields = refl }

-- ---- behind an item

-- the structs that are complete, and the names of structs and outlines so far, are as many
record Sizes (scope : Scope) (tags : List Tag) (os : List (List Candidate)) : Type 0 where
  structs : length scope.structs ≡ length tags
  fields : length scope.structs ≡ length os

same_sizes : (scope more : Scope) (tags : List Tag) (os : List (List Candidate)) → more.structs ≡ scope.structs → Sizes scope tags os → Sizes more tags os
same_sizes scope more tags os e s = record { structs = ap length e ∙ s.structs; fields = ap length e ∙ s.fields }

struct_sizes : (first scope : Scope) (tags : List Tag) (os : List (List Candidate)) (name : List ℕ) (ds : List Decl) (entry : _) (has test shown : Bool) → has ≡ false → test ≡ true → shown ≡ true → Sizes scope tags os → Sizes (with_struct_if test scope entry) (chosen has tags (tags ++ record { name = name; number = length tags } ∷ [])) (with_outline_if shown first os ds)
struct_sizes first scope tags os name ds entry true test shown h t s z = absurd cc
struct_sizes first scope tags os name ds entry false false shown h t s z = absurd cc
struct_sizes first scope tags os name ds entry false true false h t s z = absurd cc
struct_sizes first scope tags os name ds entry false true true h t s z = record {
  structs = length-append scope.structs (entry ∷ []) ∙ ap (λ n. n + 1) z.structs ∙ sym (length-append tags (record { name = name; number = length tags } ∷ []));
  fields = length-append scope.structs (entry ∷ []) ∙ ap (λ n. n + 1) z.fields ∙ sym (length-append os (map (candidate first) ds ∷ []));
}

pub enumerators_structs : (scope : Scope) (before : _) (es : List Enumerator) → (behind_enumerators scope before es).structs ≡ scope.structs
unfolding behind_enumerators
enumerators_structs scope before [] = refl
enumerators_structs scope before (e ∷ es) = enumerators_structs (behind_enumerator scope before e) (told (value_behind scope before e)) es

pub function_tags : (t : Bool) (scope : Scope) (n : ℕ) (h : Head) → scope.tags ≡ (with_function_unless t scope n h).tags
function_tags true scope n h = refl
function_tags false scope n h = refl

pub function_structs : (t : Bool) (scope : Scope) (n : ℕ) (h : Head) → (with_function_unless t scope n h).structs ≡ scope.structs
function_structs true scope n h = refl
function_structs false scope n h = refl

-- the struct is the one that comes next
pub record IsNext (scope : Scope) (p : Place) (name : List ℕ) (ds : List Decl) (x : Piece) : Type 0 where
  pub numbered : is_numbered (tag_named scope name) (length scope.structs) ≡ true
  pub fields : List Field
  pub right : struct_fields scope p ds ≡ Right fields
  pub made : x ≡ piece.Struct (record { name = name; fields = fields })

pub struct_next : (scope : Scope) (p : Place) (name : List ℕ) (ds : List Decl) (x : Piece) → struct_piece scope p name ds ≡ Right x → IsNext scope p name ds x
unfolding struct_piece
struct_next scope at name ds x e =
    let fields = struct_fields scope at ds in
    let few = demand at Limit (not (length scope.structs == 256)) (after fields (struct_of name)) in
    let d = demand_right at Redefined (is_numbered (tag_named scope name) (length scope.structs)) few x e in
    let d' = demand_right at Limit (not (length scope.structs == 256)) (after fields (struct_of name)) x d.right in
    let a = after_right fields (struct_of name) x d'.right in
    record { numbered = d.holds; fields = a.value; right = a.right; made = sym (same_right (piece.Struct (record { name = name; fields = a.value })) x a.made) }

sizes_behind : (body : BodyRule) (items before : List Item) (known : Known) (p : Place) (what : ItemWhat) (x : Piece) (tags all : List Tag) (os : List (List Candidate)) → AreNumbered all → Begins tags all → known.scope.tags ≡ all → (first_scope items).tags ≡ all → Sizes known.scope tags os → item_piece body before known p what ≡ Right x → Sizes (behind_item known what).scope (tags_behind tags what) (outlines_behind (first_scope items) os what)
unfolding behind_function behind_global
sizes_behind body items before known p (item.Define name is_negative n k) x tags all os num b is first z e = same_sizes known.scope _ tags os refl z
sizes_behind body items before known p (item.Struct at name ds) x tags all os num b is first z e =
    let next = struct_next known.scope at name ds x e in
    let named : is_numbered (find (λ (t : Tag). bytes_eq t.name name) all) (length known.scope.structs) ≡ true = subst (λ ts. is_numbered (find (λ (t : Tag). bytes_eq t.name name) ts) (length known.scope.structs) ≡ true) is next.numbered in
    let has = is_first tags all name (length known.scope.structs) num b z.structs named in
    let shown : is_numbered (tag_named (first_scope items) name) (length os) ≡ true = subst (λ ts. is_numbered (find (λ (t : Tag). bytes_eq t.name name) ts) (length os) ≡ true) (sym first) (subst (λ n. is_numbered (find (λ (t : Tag). bytes_eq t.name name) all) n ≡ true) z.fields named) in
    struct_sizes (first_scope items) known.scope tags os name ds (struct_entry known.scope at ds) (has_tag tags name) (is_numbered (tag_named known.scope name) (length known.scope.structs)) (is_numbered (tag_named (first_scope items) name) (length os)) has next.numbered shown z
sizes_behind body items before known p (item.Enum es) x tags all os num b is first z e = same_sizes known.scope (behind_enumerators known.scope before_first es) tags os (enumerators_structs known.scope before_first es) z
sizes_behind body items before known p (item.Global d init) x tags all os num b is first z e = same_sizes known.scope _ tags os refl z
sizes_behind body items before known p (item.Proto h is_remote) x tags all os num b is first z e = same_sizes known.scope (with_function_unless (is_taken known.scope h.name) known.scope (length known.functions) h) tags os (function_structs (is_taken known.scope h.name) known.scope (length known.functions) h) z
sizes_behind body items before known p (item.Func h is_critical nodes) x tags all os num b is first z e = same_sizes known.scope (with_function_unless (is_taken known.scope h.name) known.scope (length known.functions) h) tags os (function_structs (is_taken known.scope h.name) known.scope (length known.functions) h) z

no_tags : AreNumbered []
no_tags = record { numbers = λ i t e. absurd (none i e) }
  where
    none : (i : ℕ) {t : Tag} → slice_get [] i ≡ Some t → ⊥
    none i e = cc

pub all_tags_numbered : (items : List Item) → AreNumbered (tags_from [] items)
all_tags_numbered items = all_numbered [] items no_tags

prefix_tags : (before items : List Item) → Begins before items → Begins (tags_from [] before) (tags_from [] items)
prefix_tags before items b = subst (Begins (tags_from [] before)) (sym (ap (tags_from []) b.whole ∙ tags_more [] before b.more)) (tags_begin (tags_from [] before) b.more)

pub prefix_outlines : (scope : Scope) (before items : List Item) → Begins before items → Begins (outlines_from scope [] before) (outlines_from scope [] items)
prefix_outlines scope before items b = subst (Begins (outlines_from scope [] before)) (sym (ap (outlines_from scope []) b.whole ∙ outlines_more scope [] before b.more)) (outlines_begin scope (outlines_from scope [] before) b.more)

shorter : (before items : List Item) (i : Item) → Begins (before ++ i ∷ []) items → Begins before items
shorter before items i b = begins_behind before (before ++ i ∷ []) items (begins_more before (i ∷ [])) b

pub at_behind : (body : BodyRule) (items before : List Item) (known : Known) (i : Item) (x : Piece) → IsAt items before known → Begins (before ++ i ∷ []) items → item_piece body before known i.place i.what ≡ Right x → IsAt items (before ++ i ∷ []) (behind_item known i.what)
unfolding tags_from outlines_from
at_behind body items before known i x a b e =
    let same = item_same items known i.what in
    let z = sizes_behind body items before known i.place i.what x (tags_from [] before) (tags_from [] items) (outlines_from (first_scope items) [] before) (all_tags_numbered items) (prefix_tags before items (shorter before items i b)) a.tags refl (record { structs = a.structs; fields = a.fields }) e in
    record {
      tags = same.tags ∙ a.tags;
      defines = same.defines ∙ a.defines;
      outlines = same.outlines ∙ a.outlines;
      structs = z.structs ∙ ap length (sym (tags_more [] before (i ∷ [])));
      fields = z.fields ∙ ap length (sym (outlines_more (first_scope items) [] before (i ∷ [])));
    }

-- ---- which items complete structs

pub record IsStructItem (what : ItemWhat) : Type 0 where
  pub at : Place
  pub name : List ℕ
  pub decls : List Decl
  pub is : what ≡ item.Struct at name decls

pub struct_or_not : (items : List Item) (known : Known) (what : ItemWhat) → IsStructItem what ⊎ ((behind_item known what).scope.structs ≡ known.scope.structs)
unfolding behind_function behind_global
struct_or_not items known (item.Define name is_negative n k) = inr refl
struct_or_not items known (item.Struct at name ds) = inl (record { at = at; name = name; decls = ds; is = refl })
struct_or_not items known (item.Enum es) = inr (enumerators_structs known.scope before_first es)
struct_or_not items known (item.Global d init) = inr refl
struct_or_not items known (item.Proto h is_remote) = inr (function_structs (is_taken known.scope h.name) known.scope (length known.functions) h)
struct_or_not items known (item.Func h is_critical nodes) = inr (function_structs (is_taken known.scope h.name) known.scope (length known.functions) h)
