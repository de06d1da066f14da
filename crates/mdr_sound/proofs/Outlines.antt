-- All that annotations see of a file's structs is so.
use Rattle.std.proofs.Common.{◌≡◌, ℕ, ◌+◌, ◌<◌, Bool, true, false, List, [], ◌∷◌, ◌++◌, length, map, Some, refl, sym, ap, ◌∙◌, subst, slice_get, arith, ◌⊎◌, inl, inr, length-append, nat_lt}
use Rattle.std.proofs.lemmas.Bool.{ltb-true, ltb-false}
use Rattle.std.specs.List.{find}
use Rattle.std.specs.Str.{bytes_eq}
use Rattle.std.proofs.lemmas.Option.{slice_get_within}
use Rattle.mdr_core.specs.declared.place.Place.{Place}
use Rattle.mdr_core.specs.declared.program.Field.{Field}
use Rattle.mdr_core.specs.declared.program.Program.{Program}
use Rattle.mdr_core.specs.declared.program.StructDef.{StructDef}
use Rattle.mdr_core.specs.Layout.{fields_of, fields_or}
use Rattle.mdr_syntax.specs.declared.tree.Decl.{Decl}
use Rattle.mdr_syntax.specs.declared.tree.Item.{Item}
use Rattle.mdr_syntax.specs.declared.tree.ItemWhat.{ItemWhat}
use Rattle.mdr_syntax.specs.declared.tree.ItemWhat.TheVariants as item
use Rattle.mdr_faults.specs.declared.scope.Candidate.{Candidate}
use Rattle.mdr_faults.specs.declared.scope.Scope.{Scope}
use Rattle.mdr_faults.specs.declared.scope.Tag.{Tag}
use Rattle.mdr_faults.specs.Faults.{Right}
use Rattle.mdr_faults.specs.Scopes.{tag_named}
use Rattle.mdr_headings.specs.Annotations.{candidate}
use Rattle.mdr_headings.specs.Source.{tags_from, is_numbered, with_struct_if}
use Rattle.mdr_check.specs.declared.file.Known.{Known}
use Rattle.mdr_check.specs.declared.file.Piece.{Piece}
use Rattle.mdr_headings.specs.Structs.{struct_fields, struct_entry}
use Rattle.mdr_check.specs.Files.{BodyRule, item_piece, behind_item, known_behind, first_known, pieces_behind, outlines_from, outlines_behind, with_outline_if, first_scope}
use Rattle.mdr_program.specs.declared.parts.Parts.{Parts}
use Rattle.mdr_program.specs.Parts.{behind_piece, parts_behind, no_parts}
use Rattle.mdr_sound.specs.Counting.{Begins}
use Rattle.mdr_sound.specs.Standing.{IsScalarField}
use Rattle.mdr_sound.specs.Whole.{IsMadeOf}
use Rattle.mdr_sound.proofs.Along.{IsPlace, GoesOn, along, at_all, counted_all}
use Rattle.mdr_sound.proofs.Extending.{begins_last}
use Rattle.mdr_sound.proofs.Named.{found_at}
use Rattle.mdr_sound.proofs.NamedTypes.{AreNumbered}
use Rattle.mdr_sound.proofs.Outlined.{outline_is}
use Rattle.mdr_sound.proofs.Passing.{struct_next, all_tags_numbered, prefix_outlines, outlines_more, IsStructItem, struct_or_not}

module _ (program : Program) (body : BodyRule) (items : List Item) (xs : List Piece) (right : pieces_behind body (first_known items) [] items ≡ Right xs) (made : IsMadeOf program (parts_behind no_parts xs)) where
  abbrev Whole : Parts
  Whole = parts_behind no_parts xs

  abbrev Last : Known
  Last = known_behind (first_known items) items

  -- ---- structs by their names

  tags_many : length (tags_from [] items) ≡ length program.structs
  tags_many = sym (at_all body items xs right).structs ∙ (counted_all body items xs right).structs ∙ ap length (sym made.structs)

  tag_below : (name : List ℕ) (t : Tag) (scope : Scope) → scope.tags ≡ tags_from [] items → tag_named scope name ≡ Some t → t.number < length program.structs
  tag_below name t scope tags e =
      let f = found_at (λ (u : Tag). bytes_eq u.name name) (tags_from [] items) t (ap (find (λ (u : Tag). bytes_eq u.name name)) (sym tags) ∙ e) in
      let number : t.number ≡ f.number = (all_tags_numbered items).numbers f.number t f.names in
      let inside = slice_get_within (tags_from [] items) f.number t f.names in
      omega (arith, number, inside, tags_many)

  -- a scope of the file names structs of the program alone
  pub names_structs : (scope : Scope) → scope.tags ≡ tags_from [] items → AreNumbered scope (length program.structs)
  names_structs scope tags = record { below = λ name t e. tag_below name t scope tags e }

  -- ---- structs by their numbers

  -- the struct that an item completes is the next one of the program
  pub record Completes (known : Known) (at : Place) (name : List ℕ) (ds : List Decl) (fields : List Field) : Type 0 where
    pub listed : struct_fields known.scope at ds ≡ Right fields
    pub numbered : is_numbered (tag_named known.scope name) (length known.scope.structs) ≡ true
    pub def : slice_get program.structs (length known.scope.structs) ≡ Some (record { name = name; fields = fields })
    pub fields_are : fields_of program.structs (length known.scope.structs) ≡ fields

  struct_fields_are : (s : ℕ) (def : StructDef) → slice_get program.structs s ≡ Some def → fields_of program.structs s ≡ def.fields
  struct_fields_are s def e = ap fields_or e

  pub completes : (before : List Item) (known : Known) (i : Item) (x : Piece) (ps : Parts) (at : Place) (name : List ℕ) (ds : List Decl) → i.what ≡ item.Struct at name ds → IsPlace body items Whole Last.functions before known i x ps → (fields : List Field) × Completes known at name ds fields
  completes before known i x ps at name ds is place =
      let next = struct_next known.scope at name ds x (subst (λ w. item_piece body before known i.place w ≡ Right x) is place.one) in
      let def : StructDef = record { name = name; fields = next.fields } in
      let begins : Begins (ps.structs ++ def ∷ []) Whole.structs = subst (λ (y : Piece). Begins (behind_piece ps y).structs Whole.structs) next.made place.structs in
      let there : slice_get Whole.structs (length ps.structs) ≡ Some def = begins_last ps.structs Whole.structs def begins in
      let here : slice_get program.structs (length known.scope.structs) ≡ Some def = ap (λ n. slice_get program.structs n) (place.counts).structs ∙ ap (λ (ds : List StructDef). slice_get ds (length ps.structs)) made.structs ∙ there in
      (next.fields, record { listed = next.right; numbered = next.numbered; def = here; fields_are = struct_fields_are (length known.scope.structs) def here })

  -- ---- what annotations see

  abbrev Outlines : List (List Candidate)
  Outlines = outlines_from (first_scope items) [] items

  record Seen (known : Known) (ps : Parts) : Type 0 where
    seen : (s f : ℕ) (fields : List Candidate) (c : Candidate) → s < length known.scope.structs → slice_get Outlines s ≡ Some fields → slice_get fields f ≡ Some c → c.is_scalar ≡ true → IsScalarField program s f

  -- the outline of the struct that an item completes
  outline_at : (before : List Item) (known : Known) (i : Item) (x : Piece) (ps : Parts) (at : Place) (name : List ℕ) (ds : List Decl) → i.what ≡ item.Struct at name ds → is_numbered (tag_named known.scope name) (length known.scope.structs) ≡ true → IsPlace body items Whole Last.functions before known i x ps → slice_get Outlines (length known.scope.structs) ≡ Some (map (candidate (first_scope items)) ds)
  unfolding outlines_from
  outline_at before known i x ps at name ds is numbered place =
      let first = first_scope items in
      let os = outlines_from first [] before in
      let same : is_numbered (tag_named first name) (length os) ≡ true = subst (λ n. is_numbered (tag_named first name) n ≡ true) (place.at).fields (subst (λ ts. is_numbered (find (λ (t : Tag). bytes_eq t.name name) ts) (length known.scope.structs) ≡ true) (place.at).tags numbered) in
      let one : outlines_from first [] (before ++ i ∷ []) ≡ os ++ map (candidate first) ds ∷ [] = outlines_more first [] before (i ∷ []) ∙ ap (outlines_behind first os) is ∙ ap (λ b. with_outline_if b first os ds) same in
      let begins : Begins (os ++ map (candidate first) ds ∷ []) Outlines = subst (λ l. Begins l Outlines) one (prefix_outlines first (before ++ i ∷ []) items place.begins) in
      ap (slice_get Outlines) (place.at).fields ∙ begins_last os Outlines (map (candidate first) ds) begins

  pub same_or_less : (s n : ℕ) → s < n + 1 → (s < n) ⊎ (s ≡ n)
  same_or_less s n h = by (nat_lt s n) refl
    where
      by : (b : Bool) → nat_lt s n ≡ b → (s < n) ⊎ (s ≡ n)
      by true e = inl (ltb-true s n e)
      by false e = inr (let no = ltb-false s n e in omega (arith, no, h))

  with_struct : (known : Known) (test : Bool) (entry : _) → test ≡ true → length (with_struct_if test known.scope entry).structs ≡ length known.scope.structs + 1
  with_struct known true entry e = length-append known.scope.structs (entry ∷ [])
  with_struct known false entry e = absurd cc

  seen_struct : (before : List Item) (known : Known) (i : Item) (x : Piece) (ps : Parts) (at : Place) (name : List ℕ) (ds : List Decl) → i.what ≡ item.Struct at name ds → IsPlace body items Whole Last.functions before known i x ps → Seen known ps → (s f : ℕ) (fields : List Candidate) (c : Candidate) → (s < length known.scope.structs) ⊎ (s ≡ length known.scope.structs) → slice_get Outlines s ≡ Some fields → slice_get fields f ≡ Some c → c.is_scalar ≡ true → IsScalarField program s f
  seen_struct before known i x ps at name ds is place q s f fields c (inl less) e g h = q.seen s f fields c less e g h
  seen_struct before known i x ps at name ds is place q s f fields c (inr last) e g h =
      let k = completes before known i x ps at name ds is place in
      let outline = outline_at before known i x ps at name ds is (k.1).numbered place in
      let same : map (candidate (first_scope items)) ds ≡ fields = some_same (sym outline ∙ ap (slice_get Outlines) (sym last) ∙ e) in
      let there : slice_get (map (candidate (first_scope items)) ds) f ≡ Some c = ap (λ (cs : List Candidate). slice_get cs f) same ∙ g in
      outline_is program (first_scope items) known.scope at ds k.0 s f c (names_structs known.scope (place.at).tags) (sym (place.at).tags) (k.1).listed (ap (fields_of program.structs) last ∙ (k.1).fields_are) there h
    where
      some_same : {a b : List Candidate} → Some a ≡ Some b → a ≡ b
      some_same q = cc

  -- behind a struct the scope has one struct more
  pub one_struct_more : (known : Known) (what : ItemWhat) (at : Place) (name : List ℕ) (ds : List Decl) → what ≡ item.Struct at name ds → is_numbered (tag_named known.scope name) (length known.scope.structs) ≡ true → (behind_item known what).scope.structs ≡ known.scope.structs ++ struct_entry known.scope at ds ∷ []
  one_struct_more known what at name ds is numbered = ap (λ (w : ItemWhat). (behind_item known w).scope.structs) is ∙ ap (λ b. (with_struct_if b known.scope (struct_entry known.scope at ds)).structs) numbered

  seen_behind : GoesOn body items Whole Last.functions Seen
  seen_behind = record { behind = λ before known i x ps place q. by before known i x ps place q (struct_or_not items known i.what) }
    where
      by : (before : List Item) (known : Known) (i : Item) (x : Piece) (ps : Parts) → IsPlace body items Whole Last.functions before known i x ps → Seen known ps → IsStructItem i.what ⊎ ((behind_item known i.what).scope.structs ≡ known.scope.structs) → Seen (behind_item known i.what) (behind_piece ps x)
      by before known i x ps place q (inr same) = record { seen = λ s f fields c less e g h. q.seen s f fields c (subst (λ n. s < n) (ap length same) less) e g h }
      by before known i x ps place q (inl v) = record {
        seen = λ s f fields c less e g h.
            let k = completes before known i x ps v.at v.name v.decls v.is place in
            let more = ap length (one_struct_more known i.what v.at v.name v.decls v.is (k.1).numbered) ∙ length-append known.scope.structs (struct_entry known.scope v.at v.decls ∷ []) in
            seen_struct before known i x ps v.at v.name v.decls v.is place q s f fields c (same_or_less s (length known.scope.structs) (subst (λ n. s < n) more less)) e g h;
      }

  none_seen : Seen (first_known items) no_parts
  unfolding first_known
  none_seen = record { seen = λ s f fields c less e g h. absurd (omega (arith, less)) }

  all_seen : Seen Last Whole
  all_seen = along body items xs Seen right seen_behind none_seen

  -- all that annotations see of structs is so
  pub outlines_hold : (s f : ℕ) (fields : List Candidate) (c : Candidate) → slice_get Outlines s ≡ Some fields → slice_get fields f ≡ Some c → c.is_scalar ≡ true → IsScalarField program s f
  outlines_hold s f fields c e g h = all_seen.seen s f fields c (subst (λ n. s < n) (sym (at_all body items xs right).fields) (slice_get_within Outlines s fields e)) e g h
