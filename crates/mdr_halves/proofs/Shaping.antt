-- The tree that two halves are joined to can be printed, and has the shape of a source's.
use Rattle.std.proofs.Common.{◌≡◌, ℕ, Bool, true, false, List, [], ◌∷◌, Result, Ok, Err, refl, sym, ap, ◌∙◌}
use Rattle.std.specs.List.{list_all}
use Rattle.mdr_half.specs.declared.joining.Part.{Part}
use Rattle.mdr_half.specs.declared.joining.Part.TheVariants.{Here, There, Both}
use Rattle.mdr_half.specs.Joins.{are_alike, part_of, remote_of, whole_by, whole_item, joined_item, behind_joined, joined_from, joined}
use Rattle.mdr_print.specs.Items.{tree_marks, printed}
use Rattle.mdr_print.specs.Spelled.{spelled}
use Rattle.mdr_print.proofs.Reading.{reads_tree}
use Rattle.mdr_roundtrip.specs.Whole.{is_printable_item, is_printable_line}
use Rattle.mdr_roundtrip.proofs.ItemsApart.{trees_apart}
use Rattle.mdr_roundtrip.proofs.Tests.{both}
use Rattle.mdr_roundtrip.specs.Again.{IsPrintedAsSource}
use Rattle.mdr_roundtrip.specs.Itemised.{is_shaped_item, is_shaped_what}
use Rattle.mdr_roundtrip.proofs.Bools.{also}
use Rattle.mdr_roundtrip.proofs.Lexemes.{tokens_are_lexed}
use Rattle.mdr_roundtrip.proofs.PlacedSources.{shape_again}
use Rattle.mdr_roundtrip.proofs.Printing.{trees_are_printable}
use Rattle.mdr_roundtrip.proofs.ShapingSources.{sources_are_shaped}
use Rattle.mdr_syntax.specs.declared.tree.Item.{Item}
use Rattle.mdr_syntax.specs.declared.tree.ItemWhat.{ItemWhat}
use Rattle.mdr_syntax.specs.declared.tree.ItemWhat.TheVariants as item
use Rattle.mdr_syntax.specs.declared.tree.Tree.{Tree}
use Rattle.mdr_halves.specs.Reads.{IsHalf}
use Rattle.mdr_halves.specs.Joins.{tree_with}

record IsGood (halves : Bool) (w : ItemWhat) : Type 0 where
  printable : is_printable_item w ≡ true
  shaped : is_shaped_what halves w ≡ true

-- what isn't marked `__remote` may stand in a source
unmarked : (w : ItemWhat) → (part_of w ≡ There → ⊥) → IsGood true w → IsGood false w
unmarked (item.Define name is_negative n kind) p g = record { printable = g.printable; shaped = g.shaped }
unmarked (item.Struct place name fields) p g = record { printable = g.printable; shaped = g.shaped }
unmarked (item.Enum es) p g = record { printable = g.printable; shaped = g.shaped }
unmarked (item.Global d value) p g = record { printable = g.printable; shaped = g.shaped }
unmarked (item.Proto h true) p g = absurd (p refl)
unmarked (item.Proto h false) p g = record { printable = g.printable; shaped = g.shaped }
unmarked (item.Func h true body) p g = record { printable = g.printable; shaped = g.shaped }
unmarked (item.Func h false body) p g = record { printable = g.printable; shaped = g.shaped }

here_there : {p : Part} → p ≡ Here → p ≡ There → ⊥
here_there e f = absurd cc

both_there : {p : Part} → p ≡ Both → p ≡ There → ⊥
both_there e f = absurd cc

same_item : (k i : Item) → ◌≡◌ {A = Result Item ℕ} (Ok k) (Ok i) → k ≡ i
same_item k i e = cc

moved : (k i : Item) → ◌≡◌ {A = Result Item ℕ} (Ok k) (Ok i) → IsGood false k.what → IsGood false i.what
moved k i e g = rw (sym (same_item k i e)) g

one_by : (k u i : Item) (p q : Part) (t : Bool) → part_of k.what ≡ p → part_of u.what ≡ q → whole_item k u (whole_by p q t) ≡ Ok i → IsGood true k.what → IsGood true u.what → IsGood false i.what
one_by k u i Here There true a b e g h = moved k i e (unmarked k.what (here_there a) g)
one_by k u i There Here true a b e g h = moved u i e (unmarked u.what (here_there b) h)
one_by k u i Both Both true a b e g h = moved k i e (unmarked k.what (both_there a) g)
one_by k u i p q t a b e g h = cc

one_good : (k u i : Item) → joined_item k u ≡ Ok i → IsGood true k.what → IsGood true u.what → IsGood false i.what
one_good k u i e g h = one_by k u i (part_of k.what) (part_of u.what) (are_alike (remote_of k.what) (remote_of u.what)) refl refl e g h

abbrev AllGood : Bool → List Item → Type 0
AllGood halves [] = Unit {0}
AllGood halves (i ∷ is) = IsGood halves i.what × AllGood halves is

same_front : (x i : Item) (xs is : List Item) → ◌≡◌ {A = Result (List Item) ℕ} (Ok (x ∷ xs)) (Ok (i ∷ is)) → x ≡ i
same_front x i xs is e = cc

same_rest : (x i : Item) (xs is : List Item) → ◌≡◌ {A = Result (List Item) ℕ} (Ok (x ∷ xs)) (Ok (i ∷ is)) → xs ≡ is
same_rest x i xs is e = cc

no_end : (one : Result Item ℕ) (more : Result (List Item) ℕ) → behind_joined one more ≡ Ok [] → ⊥
no_end (Err line) more e = cc
no_end (Ok x) (Err line) e = cc
no_end (Ok x) (Ok xs) e = cc

good_step : (k u i : Item) (is : List Item) (one : Result Item ℕ) (more : Result (List Item) ℕ) → joined_item k u ≡ one → behind_joined one more ≡ Ok (i ∷ is) → IsGood true k.what → IsGood true u.what
    → (more ≡ Ok is → AllGood false is) → AllGood false (i ∷ is)
good_step k u i is (Err line) more o e g h rest = cc
good_step k u i is (Ok x) (Err line) o e g h rest = cc
good_step k u i is (Ok x) (Ok xs) o e g h rest = (one_good k u i (o ∙ ap Ok (same_front x i xs is e)) g h, rest (ap Ok (same_rest x i xs is e)))

good_from : (last : ℕ) (ks us is : List Item) → joined_from last ks us ≡ Ok is → AllGood true ks → AllGood true us → AllGood false is
good_from last [] [] [] e g h = tt
good_from last [] [] (i ∷ is) e g h = cc
good_from last [] (u ∷ us) is e g h = cc
good_from last (k ∷ ks) [] is e g h = cc
good_from last (k ∷ ks) (u ∷ us) [] e g h = absurd (no_end (joined_item k u) (joined_from u.place.line ks us) e)
good_from last (k ∷ ks) (u ∷ us) (i ∷ is) e g h =
    good_step k u i is (joined_item k u) (joined_from u.place.line ks us) refl e g.0 h.0 (λ f. good_from u.place.line ks us is f g.1 h.1)

-- ---- the same as tests of lists

all_good : (halves : Bool) (is : List Item) → list_all is_printable_line is ≡ true → list_all (is_shaped_item halves) is ≡ true → AllGood halves is
all_good halves [] p s = tt
all_good halves (i ∷ is) p s =
    let a = both (is_printable_line i) (list_all is_printable_line is) p in
    let b = both (is_shaped_item halves i) (list_all (is_shaped_item halves) is) s in
    (record { printable = a.0; shaped = b.0 }, all_good halves is a.1 b.1)

all_printable : (halves : Bool) (is : List Item) → AllGood halves is → list_all is_printable_line is ≡ true
all_printable halves [] g = refl
all_printable halves (i ∷ is) g = also (is_printable_line i) (list_all is_printable_line is) (g.0).printable (all_printable halves is g.1)

all_shaped : (halves : Bool) (is : List Item) → AllGood halves is → list_all (is_shaped_item halves) is ≡ true
all_shaped halves [] g = refl
all_shaped halves (i ∷ is) g = also (is_shaped_item halves i) (list_all (is_shaped_item halves) is) (g.0).shaped (all_shaped halves is g.1)

half_good : (text : List ℕ) (tree : Tree) → IsHalf text tree → AllGood true tree.items
half_good text tree is =
    let a = tokens_are_lexed text is.tokens is.are_tokens in
    all_good true tree.items (trees_are_printable true is.tokens tree a is.reads) (sources_are_shaped true is.tokens tree a is.reads)

pub joined_again : (kernel_text user_text : List ℕ) (kernel user : Tree) (items : List Item) → IsHalf kernel_text kernel → IsHalf user_text user → joined kernel user ≡ Ok items → IsPrintedAsSource false (tree_with items)
unfolding joined printed spelled
joined_again kernel_text user_text kernel user items k u e =
    let g = good_from 1 kernel.items user.items items e (half_good kernel_text kernel k) (half_good user_text user u) in
    shape_again false (tree_with items) (all_shaped false items g) (reads_tree (tree_marks (tree_with items)) (trees_apart (tree_with items) (all_printable false items g)))
