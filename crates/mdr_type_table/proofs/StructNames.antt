-- The struct of number n has the name whose tag has number n, so that no two have one name.
use Rattle.std.proofs.Common.{◌≡◌, ℕ, zero, suc, Bool, true, false, List, [], ◌∷◌, ◌++◌, length, Option, Some, None, slice_get, IsTrue, refl, sym, ap, ◌∙◌, subst, arith, find}
use Rattle.std.specs.List.{list_all}
use Rattle.std.specs.Str.{bytes_eq}
use Rattle.std.proofs.lemmas.List.{length-append}
use Rattle.mdr_core.specs.declared.place.Place.{Place}
use Rattle.mdr_core.specs.declared.program.Field.{Field}
use Rattle.mdr_core.specs.declared.program.StructDef.{StructDef}
use Rattle.mdr_syntax.specs.Bytes.{is_name_byte}
use Rattle.mdr_syntax.specs.declared.tree.Decl.{Decl}
use Rattle.mdr_syntax.specs.declared.tree.Item.{Item}
use Rattle.mdr_syntax.specs.declared.tree.ItemWhat.{ItemWhat}
use Rattle.mdr_syntax.specs.declared.tree.ItemWhat.TheVariants as item
use Rattle.mdr_faults.specs.declared.scope.Scope.{Scope}
use Rattle.mdr_faults.specs.declared.scope.Tag.{Tag}
use Rattle.mdr_faults.specs.Enums.{enumerators}
use Rattle.mdr_faults.specs.Faults.{Right}
use Rattle.mdr_faults.specs.Scopes.{tag_named}
use Rattle.mdr_headings.specs.Functions.{function_declared}
use Rattle.mdr_headings.specs.Source.{is_numbered, behind_struct, before_first}
use Rattle.mdr_headings.specs.Structs.{struct_entry, struct_fields}
use Rattle.mdr_check.specs.declared.file.Known.{Known}
use Rattle.mdr_check.specs.declared.file.Piece.{Piece}
use Rattle.mdr_check.specs.declared.file.Piece.TheVariants as piece
use Rattle.mdr_check.specs.Files.{BodyRule, item_piece, behind_item, pieces_behind, struct_piece, struct_of, global_of, prototype_of, function_of, body_scope, first_known}
use Rattle.mdr_check.specs.Globals.{global}
use Rattle.mdr_check.specs.Uses.{UseRule}
use Rattle.mdr_check.specs.Whole.{file_pieces}
use Rattle.mdr_program.specs.declared.parts.Parts.{Parts}
use Rattle.mdr_program.specs.Parts.{behind_piece, parts_behind, parts_of, no_parts}
use Rattle.mdr_type_table.specs.Apart.{AreNamed}
use Rattle.mdr_type_table.specs.FileNames.{HaveNames, struct_name}
use Rattle.mdr_type_table.proofs.RightParts.{after_right, both_right, demand_right, same_right}
use Rattle.mdr_type_table.proofs.Scoped.{is_struct, item_same, item_tags, struct_same}

-- ---- tags

abbrev pub numbered : List Tag → List ℕ → ℕ → Bool
numbered tags name n = is_numbered (find (λ (t : Tag). bytes_eq t.name name) tags) n

one_number : (o : Option Tag) (n m : ℕ) → is_numbered o n ≡ true → is_numbered o m ≡ true → n ≡ m
one_number None n m e f = absurd cc
one_number (Some t) n m e f = grind (arith, e, f)

-- each struct has its number by its tag, and its name passes the test
pub record AreOf (test : List ℕ → Bool) (tags : List Tag) (ds : List StructDef) : Type 0 where
  pub number : (s : ℕ) (d : StructDef) → slice_get ds s ≡ Some d → numbered tags d.name s ≡ true
  pub word : (s : ℕ) (d : StructDef) → slice_get ds s ≡ Some d → IsTrue (test d.name)

none_are : (test : List ℕ → Bool) (tags : List Tag) → AreOf test tags []
none_are test tags = record { number = λ s d e. absurd cc; word = λ s d e. absurd cc }

-- the last of a list, or one before
pub by_last : {A : Type 0} (P : ℕ → A → Type 0) (xs : List A) (y : A) → ((i : ℕ) (x : A) → slice_get xs i ≡ Some x → P i x) → P (length xs) y → (i : ℕ) (x : A) → slice_get (xs ++ y ∷ []) i ≡ Some x → P i x
by_last P [] y h p zero x e = let same : y ≡ x = cc in subst (P 0) same p
by_last P [] y h p (suc i) x e = absurd cc
by_last P (z ∷ zs) y h p zero x e = h 0 x e
by_last P (z ∷ zs) y h p (suc i) x e = by_last (λ n v. P (suc n) v) zs y (λ n v f. h (suc n) v f) p i x e

one_more : (test : List ℕ → Bool) (tags : List Tag) (ds : List StructDef) (d : StructDef) → AreOf test tags ds → numbered tags d.name (length ds) ≡ true → IsTrue (test d.name) → AreOf test tags (ds ++ d ∷ [])
one_more test tags ds d h n w = record {
  number = by_last (λ s (x : StructDef). numbered tags x.name s ≡ true) ds d h.number n;
  word = by_last (λ s (x : StructDef). IsTrue (test x.name)) ds d h.word w;
}

-- ---- one item

-- what the pieces so far come to, where this is known
record Stands (test : List ℕ → Bool) (tags : List Tag) (scope : Scope) (ds : List StructDef) : Type 0 where
  tagged : scope.tags ≡ tags
  many : length scope.structs ≡ length ds
  are : AreOf test tags ds

abbrev is_nothing : Piece → Bool
is_nothing piece.Nothing = true
is_nothing (piece.Struct d) = false
is_nothing (piece.Global v) = true
is_nothing (piece.Prototype name h) = true
is_nothing (piece.Function name is_critical h b) = true

no_struct : (ps : Parts) (x : Piece) → is_nothing x ≡ true → (behind_piece ps x).structs ≡ ps.structs
no_struct ps piece.Nothing e = refl
no_struct ps (piece.Struct d) e = absurd cc
no_struct ps (piece.Global v) e = refl
no_struct ps (piece.Prototype name h) e = refl
no_struct ps (piece.Function name is_critical h b) e = refl

is_right_nothing : (x y : Piece) → Right y ≡ Right x → is_nothing y ≡ true → is_nothing x ≡ true
is_right_nothing x y e n = sym (ap is_nothing (same_right y x e)) ∙ n

other_piece : (body : BodyRule) (items before : List Item) (known : Known) (p : Place) (w : ItemWhat) (x : Piece) → is_struct w ≡ false → item_piece body before known p w ≡ Right x → is_nothing x ≡ true
other_piece body items before known p (item.Define name is_negative n k) x s e = is_right_nothing x piece.Nothing (demand_right p _ _ (Right piece.Nothing) x e).right refl
other_piece body items before known p (item.Struct at name ds) x s e = absurd cc
other_piece body items before known p (item.Enum es) x s e = is_right_nothing x piece.Nothing (after_right (enumerators known.scope before_first es) (λ cs. Right piece.Nothing) x e).made refl
other_piece body items before known p (item.Global d init) x s e = let a = after_right (global known.scope known.globals d init) global_of x e in is_right_nothing x (piece.Global a.value) a.made refl
other_piece body items before known p (item.Proto h is_remote) x s e = let a = after_right (function_declared known.scope known.functions before h false) (prototype_of h.name) x e in is_right_nothing x (piece.Prototype h.name a.value) a.made refl
other_piece body items before known p (item.Func h is_critical nodes) x s e = let a = both_right (function_declared known.scope known.functions before h true) (body (body_scope known h) h nodes) (function_of h.name is_critical) x e in is_right_nothing x (piece.Function h.name is_critical a.left a.right) a.made refl

-- a struct that is right
pub record IsNext (scope : Scope) (name : List ℕ) (x : Piece) : Type 0 where
  pub fields : List Field
  pub is : x ≡ piece.Struct (record { name = name; fields = fields })
  pub next : is_numbered (tag_named scope name) (length scope.structs) ≡ true

pub struct_next : (scope : Scope) (at : Place) (name : List ℕ) (ds : List Decl) (x : Piece) → struct_piece scope at name ds ≡ Right x → IsNext scope name x
unfolding struct_piece
struct_next scope at name ds x e =
    let a = demand_right at _ _ _ x e in
    let b = demand_right at _ _ _ x a.right in
    let c = after_right (struct_fields scope at ds) (struct_of name) x b.right in
    record { fields = c.value; is = sym (same_right _ x c.made); next = a.holds }

module _ (test : List ℕ → Bool) (tags : List Tag) (items : List Item) where
  struct_stands : (known : Known) (ps : Parts) (at : Place) (name : List ℕ) (ds : List Decl) (x : Piece) → Stands test tags known.scope ps.structs → IsTrue (test name) → IsNext known.scope name x
      → Stands test tags (behind_struct known.scope at name ds) (behind_piece ps x).structs
  struct_stands known ps at name ds x h w n =
      let def : StructDef = record { name = name; fields = n.fields } in
      let same = struct_same known.scope (struct_entry known.scope at ds) _ n.next in
      let one = length-append known.scope.structs (struct_entry known.scope at ds ∷ []) in
      let other = length-append ps.structs (def ∷ []) in
      let many = h.many in
      let number : numbered tags name (length ps.structs) ≡ true =
      ap (λ (ts : List Tag). numbered ts name (length ps.structs)) (sym h.tagged) ∙ ap (numbered known.scope.tags name) (sym many) ∙ n.next in
      let grown : length (behind_struct known.scope at name ds).structs ≡ length (ps.structs ++ def ∷ []) = ap length same ∙ omega (arith, one, other, many) in
      let now : Stands test tags (behind_struct known.scope at name ds) (ps.structs ++ def ∷ []) =
      record { tagged = item_tags items known (item.Struct at name ds) ∙ h.tagged; many = grown; are = one_more test tags ps.structs def h.are number w } in
      subst (λ (y : Piece). Stands test tags (behind_struct known.scope at name ds) (behind_piece ps y).structs) (sym n.is) now

  other_stands : (known : Known) (ps : Parts) (w : ItemWhat) (x : Piece) → Stands test tags known.scope ps.structs → is_struct w ≡ false → is_nothing x ≡ true → Stands test tags (behind_item known w).scope (behind_piece ps x).structs
  other_stands known ps w x h s n =
      let same = item_same items known w s in
      subst (λ (ds : List StructDef). Stands test tags (behind_item known w).scope ds) (sym (no_struct ps x n))
      (record { tagged = same.tags ∙ h.tagged; many = ap length same.structs ∙ h.many; are = h.are })

  item_stands : (body : BodyRule) (before : List Item) (known : Known) (ps : Parts) (p : Place) (w : ItemWhat) (x : Piece) → Stands test tags known.scope ps.structs
      → ((name : List ℕ) → struct_name w ≡ Some name → IsTrue (test name)) → item_piece body before known p w ≡ Right x → Stands test tags (behind_item known w).scope (behind_piece ps x).structs
  item_stands body before known ps p (item.Struct at name ds) x h w e = struct_stands known ps at name ds x h (w name refl) (struct_next known.scope at name ds x e)
  item_stands body before known ps p (item.Define name is_negative n k) x h w e = other_stands known ps (item.Define name is_negative n k) x h refl (other_piece body items before known p (item.Define name is_negative n k) x refl e)
  item_stands body before known ps p (item.Enum es) x h w e = other_stands known ps (item.Enum es) x h refl (other_piece body items before known p (item.Enum es) x refl e)
  item_stands body before known ps p (item.Global d init) x h w e = other_stands known ps (item.Global d init) x h refl (other_piece body items before known p (item.Global d init) x refl e)
  item_stands body before known ps p (item.Proto f is_remote) x h w e = other_stands known ps (item.Proto f is_remote) x h refl (other_piece body items before known p (item.Proto f is_remote) x refl e)
  item_stands body before known ps p (item.Func f is_critical nodes) x h w e = other_stands known ps (item.Func f is_critical nodes) x h refl (other_piece body items before known p (item.Func f is_critical nodes) x refl e)

  -- ---- all items

  all_stand : (body : BodyRule) (known : Known) (before is : List Item) (ps : Parts) (xs : List Piece) → Stands test tags known.scope ps.structs → HaveNames struct_name test is → pieces_behind body known before is ≡ Right xs → AreOf test tags (parts_behind ps xs).structs
  unfolding pieces_behind parts_behind
  all_stand body known before [] ps xs h w e = subst (λ (ys : List Piece). AreOf test tags (parts_behind ps ys).structs) (same_right [] xs e) h.are
  all_stand body known before (i ∷ is) ps xs h w e =
      let b = both_right (item_piece body before known i.place i.what) (pieces_behind body (behind_item known i.what) (before ++ i ∷ []) is) _ xs e in
      let now = item_stands body before known ps i.place i.what b.left h (λ name q. w.passes 0 i name refl q) b.first in
      subst (λ (ys : List Piece). AreOf test tags (parts_behind ps ys).structs) (same_right (b.left ∷ b.right) xs b.made)
      (all_stand body (behind_item known i.what) (before ++ i ∷ []) is (behind_piece ps b.left) b.right now (record { passes = λ n x name f q. w.passes (suc n) x name f q }) b.second)

-- ---- a file

pub pieces_right : (body : BodyRule) (uses : UseRule) (items : List Item) (xs : List Piece) → file_pieces body uses items ≡ Right xs → pieces_behind body (first_known items) [] items ≡ Right xs
unfolding file_pieces
pieces_right body uses items xs e =
    let a = both_right _ _ _ xs e in
    let b = both_right _ _ _ a.right a.second in
    b.first ∙ b.made ∙ a.made

first_stands : (test : List ℕ → Bool) (items : List Item) → Stands test (first_known items).scope.tags (first_known items).scope no_parts.structs
unfolding first_known
first_stands test items = record { tagged = refl; many = refl; are = none_are test _ }

pub parts_are_of : (test : List ℕ → Bool) (body : BodyRule) (uses : UseRule) (items : List Item) (xs : List Piece) → HaveNames struct_name test items → file_pieces body uses items ≡ Right xs → AreOf test (first_known items).scope.tags (parts_of xs).structs
parts_are_of test body uses items xs w e = all_stand test (first_known items).scope.tags items body (first_known items) [] items no_parts xs (first_stands test items) w (pieces_right body uses items xs e)

pub parts_are_named : (items : List Item) (xs : List Piece) → AreOf (list_all is_name_byte) (first_known items).scope.tags (parts_of xs).structs → AreNamed (parts_of xs).structs
parts_are_named items xs h = record {
  words = h.word;
  once = λ r s one other e f same.
      one_number _ r s (h.number r one e) (ap (λ (name : List ℕ). numbered (first_known items).scope.tags name s) same ∙ h.number s other f);
}
