-- What is known at a place of a file stands in the whole program under the same number.
use Rattle.std.proofs.Common.{◌≡◌, ℕ, zero, suc, Bool, true, false, List, [], ◌∷◌, ◌++◌, length, Some, refl, sym, ap, ◌∙◌, subst, slice_get, append-nil, append_assoc}
use Rattle.mdr_syntax.specs.declared.tree.Head.{Head}
use Rattle.mdr_syntax.specs.declared.tree.Item.{Item}
use Rattle.mdr_syntax.specs.declared.tree.ItemWhat.{ItemWhat}
use Rattle.mdr_syntax.specs.declared.tree.ItemWhat.TheVariants as item
use Rattle.mdr_faults.specs.Faults.{Right, told}
use Rattle.mdr_headings.specs.declared.function.Declared.{Declared}
use Rattle.mdr_headings.specs.Heads.{heading}
use Rattle.mdr_headings.specs.Functions.{is_taken, declared_unless, functions_behind}
use Rattle.mdr_check.specs.declared.file.Known.{Known}
use Rattle.mdr_check.specs.declared.file.Piece.{Piece}
use Rattle.mdr_check.specs.declared.file.Piece.TheVariants as piece
use Rattle.mdr_check.specs.Files.{BodyRule, item_piece, behind_item, pieces_behind, known_behind}
use Rattle.mdr_program.specs.declared.parts.Parts.{Parts}
use Rattle.mdr_program.specs.Parts.{behind_piece, parts_behind}
use Rattle.mdr_sound.proofs.Rights.{both_right, same_right}
use Rattle.mdr_sound.specs.Counting.{Begins}

-- ---- lists that begin others

pub begins_itself : {A : Type 0} (xs : List A) → Begins xs xs
begins_itself xs = record { more = []; whole = sym (append-nil xs) }

pub begins_behind : {A : Type 0} (xs ys zs : List A) → Begins xs ys → Begins ys zs → Begins xs zs
begins_behind xs ys zs a b = record { more = a.more ++ b.more; whole = b.whole ∙ ap (λ l. l ++ b.more) a.whole ∙ append_assoc xs a.more b.more }

pub begins_more : {A : Type 0} (xs ys : List A) → Begins xs (xs ++ ys)
begins_more xs ys = record { more = ys; whole = refl }

get_more : {A : Type 0} (xs ys : List A) (i : ℕ) (x : A) → slice_get xs i ≡ Some x → slice_get (xs ++ ys) i ≡ Some x
get_more [] ys i x e = absurd cc
get_more (z ∷ zs) ys zero x e = e
get_more (z ∷ zs) ys (suc i) x e = get_more zs ys i x e

pub begins_at : {A : Type 0} (xs ys : List A) (i : ℕ) (x : A) → Begins xs ys → slice_get xs i ≡ Some x → slice_get ys i ≡ Some x
begins_at xs ys i x b e = subst (λ l. slice_get l i ≡ Some x) (sym b.whole) (get_more xs b.more i x e)

get_last : {A : Type 0} (xs : List A) (y : A) → slice_get (xs ++ y ∷ []) (length xs) ≡ Some y
get_last [] y = refl
get_last (x ∷ xs) y = get_last xs y

-- what is put behind a list stands at its length
pub begins_last : {A : Type 0} (xs ys : List A) (x : A) → Begins (xs ++ x ∷ []) ys → slice_get ys (length xs) ≡ Some x
begins_last xs ys x b = begins_at (xs ++ x ∷ []) ys (length xs) x b (get_last xs x)

-- ---- structs and globals

structs_one : (ps : Parts) (x : Piece) → Begins ps.structs (behind_piece ps x).structs
structs_one ps piece.Nothing = begins_itself ps.structs
structs_one ps (piece.Struct d) = begins_more ps.structs (d ∷ [])
structs_one ps (piece.Global v) = begins_itself ps.structs
structs_one ps (piece.Prototype name h) = begins_itself ps.structs
structs_one ps (piece.Function name is_critical h b) = begins_itself ps.structs

pub structs_begin : (ps : Parts) (xs : List Piece) → Begins ps.structs (parts_behind ps xs).structs
unfolding parts_behind
structs_begin ps [] = begins_itself ps.structs
structs_begin ps (x ∷ xs) = begins_behind ps.structs (behind_piece ps x).structs (parts_behind (behind_piece ps x) xs).structs (structs_one ps x) (structs_begin (behind_piece ps x) xs)

variables_one : (ps : Parts) (x : Piece) → Begins ps.variables (behind_piece ps x).variables
variables_one ps piece.Nothing = begins_itself ps.variables
variables_one ps (piece.Struct d) = begins_itself ps.variables
variables_one ps (piece.Global v) = begins_more ps.variables (v ∷ [])
variables_one ps (piece.Prototype name h) = begins_itself ps.variables
variables_one ps (piece.Function name is_critical h b) = begins_itself ps.variables

pub variables_begin : (ps : Parts) (xs : List Piece) → Begins ps.variables (parts_behind ps xs).variables
unfolding parts_behind
variables_begin ps [] = begins_itself ps.variables
variables_begin ps (x ∷ xs) = begins_behind ps.variables (behind_piece ps x).variables (parts_behind (behind_piece ps x) xs).variables (variables_one ps x) (variables_begin (behind_piece ps x) xs)

-- ---- functions

unless_begins : (t : Bool) (fs : List Declared) (h : Head) (r : _) → Begins fs (declared_unless t fs h r)
unless_begins true fs h r = begins_itself fs
unless_begins false fs h r = begins_more fs (_ ∷ [])

functions_one : (items : List Item) (known : Known) (what : ItemWhat) → Begins known.functions (behind_item known what).functions
unfolding functions_behind
functions_one items known (item.Define name is_negative n k) = begins_itself known.functions
functions_one items known (item.Struct at name ds) = begins_itself known.functions
functions_one items known (item.Enum es) = begins_itself known.functions
functions_one items known (item.Global d init) = begins_itself known.functions
functions_one items known (item.Proto h is_remote) = unless_begins (is_taken known.scope h.name) known.functions h (told (heading known.scope h))
functions_one items known (item.Func h is_critical nodes) = unless_begins (is_taken known.scope h.name) known.functions h (told (heading known.scope h))

pub functions_begin : (items : List Item) (known : Known) (is : List Item) → Begins known.functions (known_behind known is).functions
unfolding known_behind
functions_begin items known [] = begins_itself known.functions
functions_begin items known (i ∷ is) = begins_behind known.functions (behind_item known i.what).functions (known_behind (behind_item known i.what) is).functions (functions_one items known i.what) (functions_begin items (behind_item known i.what) is)

-- ---- all items

-- the first of some items, and the others
pub record Pieces (body : BodyRule) (items before : List Item) (known : Known) (i : Item) (is : List Item) (xs : List Piece) : Type 0 where
  pub first : Piece
  pub rest : List Piece
  pub one : item_piece body before known i.place i.what ≡ Right first
  pub others : pieces_behind body (behind_item known i.what) (before ++ i ∷ []) is ≡ Right rest
  pub all : xs ≡ first ∷ rest

pub pieces_parted : (body : BodyRule) (items before : List Item) (known : Known) (i : Item) (is : List Item) (xs : List Piece) → pieces_behind body known before (i ∷ is) ≡ Right xs → Pieces body items before known i is xs
unfolding pieces_behind
pieces_parted body items before known i is xs e =
    let b = both_right (item_piece body before known i.place i.what) (pieces_behind body (behind_item known i.what) (before ++ i ∷ []) is) (λ x ys. Right (x ∷ ys)) xs e in
    record { first = b.left; rest = b.right; one = b.first; others = b.second; all = sym (same_right (b.left ∷ b.right) xs b.made) }
