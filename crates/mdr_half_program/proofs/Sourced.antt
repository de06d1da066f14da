-- Each function of a source's program has a body.
use Rattle.std.proofs.Common.{◌≡◌, ℕ, zero, suc, Bool, true, false, not, ◌||◌, ◌&&◌, List, [], ◌∷◌, map, Some, slice_get, refl, sym, ap, ◌∙◌, subst}
use Rattle.std.specs.List.{list_all}
use Rattle.std.specs.Str.{bytes_eq}
use Rattle.mdr_core.specs.declared.place.Place.{Place}
use Rattle.mdr_core.specs.declared.program.Func.{Func}
use Rattle.mdr_core.specs.Layout.{chosen}
use Rattle.mdr_syntax.specs.declared.tree.Item.{Item}
use Rattle.mdr_syntax.specs.declared.tree.ItemWhat.{ItemWhat}
use Rattle.mdr_syntax.specs.declared.tree.ItemWhat.TheVariants as item
use Rattle.mdr_faults.specs.Faults.{Right, Wrong, Faults, One, both, each}
use Rattle.mdr_headings.specs.declared.function.Declared.{Declared}
use Rattle.mdr_headings.specs.Functions.{defines_by, has_body, is_body_by, is_defined}
use Rattle.mdr_roundtrip.specs.Itemised.{is_shaped_head, is_shaped_item, is_shaped_what}
use Rattle.mdr_roundtrip.proofs.Lexemes.{tokens_are_lexed}
use Rattle.mdr_roundtrip.proofs.ShapingSources.{sources_are_shaped}
use Rattle.mdr_body.specs.Bodies.{body_rule}
use Rattle.mdr_body.specs.Uses.{first_use}
use Rattle.mdr_typing.specs.Profile.{profile_rules}
use Rattle.mdr_check.specs.declared.file.Piece.{Piece}
use Rattle.mdr_check.specs.Files.{first_known, known_behind, pieces_behind}
use Rattle.mdr_check.specs.Names.{short_items}
use Rattle.mdr_check.specs.Uses.{defined_functions, defined_rule, undefined}
use Rattle.mdr_check.specs.Whole.{file_pieces, kept, named}
use Rattle.mdr_program.specs.Parts.{no_parts, parts_behind}
use Rattle.mdr_program.specs.Programs.{made, program_of}
use Rattle.mdr_sound.proofs.Alike.{left_of, right_of}
use Rattle.mdr_sound.proofs.Rights.{both_right}
use Rattle.mdr_sound.specs.Counting.{AreDeclaredAs}
use Rattle.mdr_sound.proofs.Along.{counted_all}
use Rattle.mdr_half_program.specs.Sourced.{SourcesHaveBodies}
use Rattle.mdr_half_program.proofs.Defined.{defined_have}

-- ---- a source has no `__remote`, so a body alone defines a function

remote_not : (b r : Bool) → (b && (not r || false)) ≡ true → r ≡ false
remote_not true true e = absurd cc
remote_not true false e = refl
remote_not false r e = absurd cc

one_defines : (name : List ℕ) (w : ItemWhat) → is_shaped_what false w ≡ true → defines_by name w ≡ is_body_by name w
one_defines name (item.Define n is_negative v k) h = refl
one_defines name (item.Struct p n ds) h = refl
one_defines name (item.Enum es) h = refl
one_defines name (item.Global d init) h = refl
one_defines name (item.Proto f is_remote) h = ap (λ r. r && bytes_eq f.name name) (remote_not (is_shaped_head false f) is_remote h)
one_defines name (item.Func f is_critical nodes) h = refl

defined_bodies : (name : List ℕ) (items : List Item) → list_all (is_shaped_item false) items ≡ true → is_defined items name ≡ has_body items name
defined_bodies name [] h = refl
defined_bodies name (i ∷ is) h =
    ap (λ b. b || is_defined is name) (one_defines name i.what (left_of (is_shaped_item false i) (list_all (is_shaped_item false) is) h))
    ∙ ap (λ b. is_body_by name i.what || b) (defined_bodies name is (right_of (is_shaped_item false i) (list_all (is_shaped_item false) is) h))

-- ---- each function that is declared is defined

defined_of : (t : Bool) (x p : Place) (f : Faults) → chosen t (Right x) (Wrong f) ≡ Right p → t ≡ true
defined_of true x p f e = refl
defined_of false x p f e = absurd cc

abbrev AreDefined : List Item → List Declared → Type 0
AreDefined items [] = Unit {0}
AreDefined items (d ∷ ds) = (is_defined items d.name ≡ true) × AreDefined items ds

each_defined : (items : List Item) (ds : List Declared) (ps : List Place) → each (map (defined_rule first_use items) ds) ≡ Right ps → AreDefined items ds
each_defined items [] ps e = tt
each_defined items (d ∷ ds) ps e =
    let b = both_right (defined_rule first_use items d) (each (map (defined_rule first_use items) ds)) (λ x xs. Right (x ∷ xs)) ps e in
    (defined_of (is_defined items d.name) d.place b.left (One (undefined first_use items d)) b.first, each_defined items ds b.right b.second)

all_defined : (items : List Item) (ds : List Declared) (ps : List Place) → defined_functions first_use items ds ≡ Right ps → AreDefined items ds
unfolding defined_functions
all_defined items ds ps e = each_defined items ds ps e

same_func : (a b : Func) → Some a ≡ Some b → a ≡ b
same_func a b e = cc

defined_at : (items : List Item) (ds : List Declared) (fs : List Func) (f : ℕ) (func : Func) → AreDeclaredAs ds fs → AreDefined items ds → slice_get fs f ≡ Some func → is_defined items func.name ≡ true
defined_at items [] [] f func a h e = absurd cc
defined_at items [] (g ∷ gs) f func a h e = absurd a
defined_at items (d ∷ ds) [] f func a h e = absurd a
defined_at items (d ∷ ds) (g ∷ gs) zero func a h e =
    subst (λ n. is_defined items n ≡ true) (sym a.0.name ∙ ap (λ (x : Func). x.name) (same_func g func e)) h.0
defined_at items (d ∷ ds) (g ∷ gs) (suc f) func a h e = defined_at items ds gs f func a.1 h.1 e

-- ---- files

module _ (items : List Item) (xs : List Piece) (shaped : list_all (is_shaped_item false) items ≡ true) where
  funcs_are : (program_of xs).funcs ≡ (parts_behind no_parts xs).funcs
  unfolding made
  funcs_are = refl

  file_defines : file_pieces (body_rule profile_rules) first_use items ≡ Right xs → (f : ℕ) (func : Func) → slice_get (program_of xs).funcs f ≡ Some func → has_body items func.name ≡ true
  unfolding file_pieces
  file_defines e f func there =
      let functions : List Declared = (known_behind (first_known items) items).functions in
      let body = body_rule profile_rules in
      let outer = both_right (short_items items) (both (pieces_behind body (first_known items) [] items) (defined_functions first_use items functions) kept) named xs e in
      let inner = both_right (pieces_behind body (first_known items) [] items) (defined_functions first_use items functions) kept outer.right outer.second in
      let right : pieces_behind body (first_known items) [] items ≡ Right xs = inner.first ∙ inner.made ∙ outer.made in
      sym (defined_bodies func.name items shaped)
      ∙ defined_at items functions (parts_behind no_parts xs).funcs f func (counted_all body items xs right).functions (all_defined items functions inner.right inner.second)
      (subst (λ (fs : List Func). slice_get fs f ≡ Some func) funcs_are there)

-- ---- a source
pub sources_have : SourcesHaveBodies
sources_have bytes tokens tree xs lexed reads e =
    let shaped = sources_are_shaped false tokens tree (tokens_are_lexed bytes tokens lexed) reads in
    defined_have (body_rule profile_rules) first_use tree.items xs e (record { defines = file_defines tree.items xs shaped e })
