-- What is read as a source names structs and functions by identifiers.
use Rattle.std.proofs.Common.{◌≡◌, ℕ, zero, suc, Bool, true, false, ◌&&◌, ◌||◌, not, List, [], ◌∷◌, Some, slice_get, refl, subst}
use Rattle.std.specs.List.{list_all}
use Rattle.std.specs.Char.{is_ascii_digit}
use Rattle.mdr_syntax.specs.Bytes.{is_letter, is_name_byte}
use Rattle.mdr_syntax.specs.Words.{is_reserved}
use Rattle.mdr_syntax.specs.declared.tree.Head.{Head}
use Rattle.mdr_syntax.specs.declared.tree.Item.{Item}
use Rattle.mdr_syntax.specs.declared.tree.ItemWhat.{ItemWhat}
use Rattle.mdr_syntax.specs.declared.tree.ItemWhat.TheVariants as item
use Rattle.mdr_plan.specs.Naming.{is_name}
use Rattle.mdr_roundtrip.specs.Shaped.{is_name as is_read_name}
use Rattle.mdr_roundtrip.specs.Itemised.{is_shaped_head, is_shaped_what, is_shaped_item}
use Rattle.mdr_roundtrip.proofs.Lexemes.{tokens_are_lexed}
use Rattle.mdr_roundtrip.proofs.ShapingSources.{sources_are_shaped}
use Rattle.mdr_type_table.proofs.Levels.{parts_of}
use Rattle.mdr_type_table.specs.FileNames.{struct_name, func_name}
use Rattle.mdr_honest.specs.SourcePlans.{NamesOfSourcesAreNames}

-- ---- identifiers

letter_first : (b : ℕ) → is_letter b ≡ true → is_name_byte b ≡ true
letter_first b e = or_first (is_letter b) (is_ascii_digit b) e
  where
    or_first : (x y : Bool) → x ≡ true → (x || y) ≡ true
    or_first true y q = refl
    or_first false y q = absurd cc

joined : (a b c d : Bool) → a ≡ true → (d ≡ true) → b ≡ true → c ≡ true → (a && (d && b) && c) ≡ true
joined true true true true p q r s = refl
joined false b c d p q r s = absurd cc
joined true false c d p q r s = absurd cc
joined true true false d p q r s = absurd cc
joined true true true false p q r s = absurd cc

named : (name : List ℕ) → is_read_name name ≡ true → is_name name ≡ true
unfolding is_name
named [] h = absurd cc
named (b ∷ bs) h =
    let p = parts_of (is_letter b && list_all is_name_byte bs) (not (is_reserved (b ∷ bs))) h in
    let q = parts_of (is_letter b) (list_all is_name_byte bs) p.0 in
    joined (is_letter b) (list_all is_name_byte bs) (not (is_reserved (b ∷ bs))) (is_name_byte b) q.0 (letter_first b q.0) q.1 p.1

-- ---- items

head_named : (is_named : Bool) (h : Head) → is_shaped_head is_named h ≡ true → is_name h.name ≡ true
head_named is_named h e =
    let a = parts_of _ _ e in
    let b = parts_of _ _ a.1 in
    let c = parts_of _ _ b.1 in
    named h.name c.0

same_some : {A : Type 0} (x y : A) → Some x ≡ Some y → x ≡ y
same_some x y e = cc

by_name : (x y : List ℕ) → Some x ≡ Some y → is_name x ≡ true → is_name y ≡ true
by_name x y e h = subst (λ (n : List ℕ). is_name n ≡ true) (same_some x y e) h

struct_passes : (w : ItemWhat) (name : List ℕ) → is_shaped_what false w ≡ true → struct_name w ≡ Some name → is_name name ≡ true
struct_passes (item.Define n is_negative k kind) name h e = absurd cc
struct_passes (item.Struct p n ds) name h e = by_name n name e (named n (parts_of _ _ h).0)
struct_passes (item.Enum es) name h e = absurd cc
struct_passes (item.Global d init) name h e = absurd cc
struct_passes (item.Proto f is_remote) name h e = absurd cc
struct_passes (item.Func f is_critical ns) name h e = absurd cc

func_passes : (w : ItemWhat) (name : List ℕ) → is_shaped_what false w ≡ true → func_name w ≡ Some name → is_name name ≡ true
func_passes (item.Define n is_negative k kind) name h e = absurd cc
func_passes (item.Struct p n ds) name h e = absurd cc
func_passes (item.Enum es) name h e = absurd cc
func_passes (item.Global d init) name h e = absurd cc
func_passes (item.Proto f is_remote) name h e = by_name f.name name e (head_named false f (parts_of _ _ h).0)
func_passes (item.Func f true ns) name h e = by_name f.name name e (head_named true f (parts_of _ _ h).0)
func_passes (item.Func f false ns) name h e = by_name f.name name e (head_named false f (parts_of _ _ h).0)

one_of_all : (items : List Item) (i : ℕ) (x : Item) → list_all (is_shaped_item false) items ≡ true → slice_get items i ≡ Some x → is_shaped_what false x.what ≡ true
one_of_all [] i x h e = absurd cc
one_of_all (y ∷ ys) zero x h e = subst (λ (z : Item). is_shaped_what false z.what ≡ true) (same_some y x e) (parts_of (is_shaped_item false y) (list_all (is_shaped_item false) ys) h).0
one_of_all (y ∷ ys) (suc i) x h e = one_of_all ys i x (parts_of (is_shaped_item false y) (list_all (is_shaped_item false) ys) h).1 e

pub names_of_sources_are_names : NamesOfSourcesAreNames
names_of_sources_are_names bytes tree s =
    let shaped = sources_are_shaped false s.tokens tree (tokens_are_lexed bytes s.tokens s.lexed) s.read in
    record {
      structs = record { passes = λ i x name e f. struct_passes x.what name (one_of_all tree.items i x shaped e) f };
      funcs = record { passes = λ i x name e f. func_passes x.what name (one_of_all tree.items i x shaped e) f };
    }
