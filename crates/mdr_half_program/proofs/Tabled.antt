-- The type table of a source's program has each type that occurs in a half's text.
use Rattle.std.proofs.Common.{◌≡◌, ◌≤◌, ◌&&◌, ◌||◌, inl, inr, ℕ, zero, suc, Bool, true, false, List, [], ◌∷◌, length, map, Some, slice_get, IsTrue, refl, sym, ap, ◌∙◌, subst}
use Rattle.std.specs.List.{list_all}
use Rattle.mdr_core.specs.declared.plan.Half.{Half}
use Rattle.mdr_core.specs.declared.plan.Plan.{Plan}
use Rattle.mdr_core.specs.declared.types.Ty.{Ty}
use Rattle.mdr_core.specs.Sound.{IsObjectSort}
use Rattle.mdr_core.specs.Types.{Wrong}
use Rattle.mdr_syntax.specs.Bytes.{is_name_byte}
use Rattle.mdr_syntax.specs.declared.tree.Item.{Item}
use Rattle.mdr_syntax.specs.declared.tree.ItemWhat.{ItemWhat}
use Rattle.mdr_syntax.specs.declared.tree.ItemWhat.TheVariants as item
use Rattle.mdr_syntax.specs.declared.tree.Tree.{Tree}
use Rattle.mdr_faults.specs.Alike.{is_alike}
use Rattle.mdr_faults.specs.Faults.{Checked, Right, after}
use Rattle.mdr_body.specs.Bodies.{body_rule}
use Rattle.mdr_body.specs.Uses.{first_use}
use Rattle.mdr_lower.specs.Tables.{Occurs}
use Rattle.mdr_typing.specs.Profile.{profile_rules}
use Rattle.mdr_check.specs.declared.file.Piece.{Piece}
use Rattle.mdr_check.specs.Whole.{file_pieces}
use Rattle.mdr_program.specs.declared.parts.Parts.{Parts}
use Rattle.mdr_program.specs.Occurring.{occurring}
use Rattle.mdr_program.specs.Orders.{IsAmong}
use Rattle.mdr_program.specs.Parts.{parts_of}
use Rattle.mdr_program.specs.Programs.{made, program_of, program_right, typed}
use Rattle.mdr_program.proofs.Happening.{types_occur}
use Rattle.mdr_check_half.specs.Suiting.{has_type}
use Rattle.mdr_half_program.specs.Bodies.{HaveBodies}
use Rattle.mdr_half_program.specs.Pieces.{piece_in}
use Rattle.mdr_half_program.specs.Reading.{HasTypes}
use Rattle.mdr_type_table.specs.Apart.{AreNamed}
use Rattle.mdr_type_table.specs.Tabled.{HasFormedPointers}
use Rattle.mdr_type_table.proofs.Tabled.{types_that_occur_have_numbers}
use Rattle.mdr_type_table.specs.FileNames.{HaveWords, struct_name}
use Rattle.mdr_type_table.proofs.WholeFiles.{structs_are_named}
use Rattle.mdr_sound.specs.Knowing.{IsFormed}
use Rattle.mdr_sound.proofs.Alike.{alike_itself}
use Rattle.mdr_sound.specs.Whole.{HasAll}
use Rattle.mdr_sound.proofs.Filed.{types_of_files}
use Rattle.mdr_sound.specs.ProperSources.{AreProperItems, IsProperItem}
use Rattle.mdr_sound.proofs.Itemising.{bytes_proper}
use Rattle.mdr_sound.proofs.Sourced.{ranges_of, bodies_of}
use Rattle.mdr_sound.proofs.Stating.{profile_sound}
use Rattle.mdr_half_program.specs.HalfTypes.{PlansHaveTheTypes}
use Rattle.mdr_half_program.proofs.Sourced.{sources_have}
use Rattle.mdr_half_program.proofs.Among.{types_occur_there}

-- ---- a table that has a type at its number

or_second : (a b : Bool) → b ≡ true → (a || b) ≡ true
or_second true b e = refl
or_second false b e = e

and_both : (a b : Bool) → a ≡ true → b ≡ true → (a && b) ≡ true
and_both true b e f = f
and_both false b e f = absurd cc

stands : (types : List Ty) (i : ℕ) (t : Ty) → slice_get types i ≡ Some t → has_type types t ≡ true
stands [] i t e = absurd cc
stands (u ∷ us) zero t e =
    let same : t ≡ u = cc in
    ap (λ b. b || has_type us t) (subst (λ (v : Ty). is_alike v t ≡ true) same (alike_itself t))
stands (u ∷ us) (suc i) t e = or_second (is_alike u t) (has_type us t) (stands us i t e)

each_passes : (test : Ty → Bool) (ts : List Ty) → ((t : Ty) → IsAmong t ts → test t ≡ true) → list_all test ts ≡ true
each_passes test [] h = refl
each_passes test (t ∷ ts) h = and_both (test t) (list_all test ts) (h t (inl refl)) (each_passes test ts (λ u k. h u (inr k)))

table_has : (plan : Plan) (p q : Parts) → ((t : Ty) → IsAmong t (occurring q) → IsAmong t (occurring p)) → HasAll (made p) → plan.types ≡ (made p).types → HasTypes plan q
table_has plan p q among all e =
    each_passes (λ t. has_type plan.types t) (occurring q) (λ t h.
    let n = all t (types_occur p t (among t h)) in
    stands plan.types n.number t (subst (λ (ts : List Ty). slice_get ts n.number ≡ Some t) (sym e) n.names))

-- ---- the structs of a source have names

same_name : (a b : List ℕ) → Some a ≡ Some b → a ≡ b
same_name a b e = cc

same_item : (a b : Item) → Some a ≡ Some b → a ≡ b
same_item a b e = cc

word_of : (what : ItemWhat) (name : List ℕ) → IsProperItem what → struct_name what ≡ Some name → IsTrue (list_all is_name_byte name)
word_of (item.Define other is_negative n k) name h e = absurd cc
word_of (item.Struct p other ds) name h e = subst (λ n. IsTrue (list_all is_name_byte n)) (same_name other name e) h.bytes
word_of (item.Enum es) name h e = absurd cc
word_of (item.Global d init) name h e = absurd cc
word_of (item.Proto f is_remote) name h e = absurd cc
word_of (item.Func f is_critical nodes) name h e = absurd cc

word_at : (items : List Item) (i : ℕ) (x : Item) (name : List ℕ) → AreProperItems items → slice_get items i ≡ Some x → struct_name x.what ≡ Some name → IsTrue (list_all is_name_byte name)
word_at [] i x name h at e = absurd cc
word_at (y ∷ ys) zero x name h at e = word_of y.what name h.0 (ap (λ (z : Item). struct_name z.what) (same_item y x at) ∙ e)
word_at (y ∷ ys) (suc i) x name h at e = word_at ys i x name h.1 at e

words_of : (items : List Item) → AreProperItems items → HaveWords items
words_of items h = record { passes = λ i x name at e. word_at items i x name h at e }

-- ---- each type that occurs in a source has a number

typed_by : (items : List Item) (xs : List Piece) → file_pieces (body_rule profile_rules) first_use items ≡ Right xs → typed (body_rule profile_rules) first_use items ≡ Right (program_of xs)
typed_by items xs e = ap (λ (c : Checked (List Piece)). after c program_right) e

not_wrong : IsObjectSort Wrong → ⊥
not_wrong (inl e) = absurd cc
not_wrong (inr (inl e)) = absurd cc
not_wrong (inr (inr e)) = absurd cc

-- the types that occur are types of objects
abbrev AreFormed : List Piece → Type 0
AreFormed xs = (t : Ty) → Occurs (program_of xs) t → IsFormed (program_of xs) t

pointers_formed : (xs : List Piece) → AreFormed xs → HasFormedPointers (program_of xs)
pointers_formed xs formed = record { formed = λ t occurs pointer. record { formed = λ wrong. not_wrong (subst IsObjectSort wrong (formed t occurs)) } }

numbered : (xs : List Piece) → AreNamed (program_of xs).structs → AreFormed xs → length (program_of xs).types ≤ 4294967296 → HasAll (program_of xs)
unfolding made
numbered xs named formed few t occurs = types_that_occur_have_numbers (parts_of xs) t named (pointers_formed xs formed) few occurs (formed t occurs)

plans_by : (half : Half) (plan : Plan) (tree : Tree) (xs : List Piece) → AreProperItems tree.items → AreFormed xs → file_pieces (body_rule profile_rules) first_use tree.items ≡ Right xs → HaveBodies (program_of xs).funcs
    → length (program_of xs).types ≤ 4294967296 → plan.types ≡ (program_of xs).types → HasTypes plan (parts_of (map (piece_in half plan) xs))
plans_by half plan tree xs proper formed e bodies few types =
    let named = structs_are_named (body_rule profile_rules) first_use tree.items (program_of xs) (words_of tree.items proper) (typed_by tree.items xs e) in
    table_has plan (parts_of xs) (parts_of (map (piece_in half plan) xs)) (types_occur_there (body_rule profile_rules) first_use half plan tree xs e bodies) (numbered xs named formed few) types

-- ---- a source
pub plans_have : PlansHaveTheTypes
plans_have bytes tokens half plan tree xs lexed reads e few types =
    let bodies = sources_have bytes tokens tree xs lexed reads e in
    let proper = bytes_proper bytes false tokens tree lexed reads in
    let formed = types_of_files (program_of xs) profile_rules first_use tree.items (typed_by tree.items xs e) (ranges_of tree.items proper) (bodies_of tree.items proper) (λ scope known slots. profile_sound (program_of xs) slots scope known) in
    plans_by half plan tree xs proper formed e bodies few types
