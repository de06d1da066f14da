-- A joined tree has the two trees as its halves.
use Rattle.std.proofs.Common.{◌≡◌, ℕ, Bool, true, false, List, [], ◌∷◌, Result, Ok, Err, refl, ap, sym, ◌∙◌}
use Rattle.std.proofs.lemmas.Slice.Eq.{bytes_eq-Decides}
use Rattle.mdr_core.specs.declared.plan.Half.{Half}
use Rattle.mdr_core.specs.declared.plan.Half.TheVariants.{Kernel, User}
use Rattle.mdr_syntax.specs.declared.tree.Tree.{Tree}
use Rattle.mdr_syntax.specs.declared.tree.Item.{Item}
use Rattle.mdr_syntax.specs.declared.tree.ItemWhat.{ItemWhat}
use Rattle.mdr_syntax.specs.declared.tree.ItemWhat.TheVariants as item
use Rattle.mdr_syntax.specs.declared.tree.Head.{Head}
use Rattle.mdr_half.specs.declared.joining.Part.{Part}
use Rattle.mdr_half.specs.declared.joining.Part.TheVariants.{Here, There, Both}
use Rattle.mdr_half.specs.Halves.{remote}
use Rattle.mdr_half.specs.Joins.{item_text, are_alike, part_of, remote_of, whole_by, whole_item, joined_item, behind_joined, joined_from, joined, shown_in, ArePartsOf, AreHalvesOf}

same_text : (a b : ItemWhat) → are_alike a b ≡ true → item_text a ≡ item_text b
same_text a b = (bytes_eq-Decides (item_text a) (item_text b)).0

-- a function with a body beside its prototype
first_parts : (a b : ItemWhat) → part_of a ≡ Here → part_of b ≡ There → are_alike (remote_of a) (remote_of b) ≡ true → ArePartsOf a b a
first_parts (item.Func h c body) (item.Proto g true) p q t = record { half = Kernel; no_remote = λ head e. cc; in_kernel = refl; in_user = sym (same_text (remote h) (item.Proto g true) t) }
first_parts (item.Func h c body) (item.Proto g false) p q t = cc
first_parts (item.Proto h true) b p q t = cc
first_parts (item.Proto h false) b p q t = cc
first_parts a b p q t = cc

second_parts : (a b : ItemWhat) → part_of a ≡ There → part_of b ≡ Here → are_alike (remote_of a) (remote_of b) ≡ true → ArePartsOf a b b
second_parts (item.Proto g true) (item.Func h c body) p q t = record { half = User; no_remote = λ head e. cc; in_kernel = same_text (item.Proto g true) (remote h) t; in_user = refl }
second_parts (item.Proto g true) (item.Proto h true) p q t = cc
second_parts (item.Proto g true) (item.Proto h false) p q t = cc
second_parts (item.Proto g false) b p q t = cc
second_parts a b p q t = cc

-- what stands in both is its own remote form, and is shown as it is
own_form : (a : ItemWhat) → part_of a ≡ Both → remote_of a ≡ a
own_form (item.Func h c body) p = cc
own_form (item.Define name is_negative n kind) p = refl
own_form (item.Struct place name fields) p = refl
own_form (item.Enum es) p = refl
own_form (item.Global d value) p = refl
own_form (item.Proto h is_remote) p = refl

shown_itself : (side half : Half) (a : ItemWhat) → part_of a ≡ Both → shown_in side half a ≡ a
shown_itself side half (item.Func h c body) p = cc
shown_itself side half (item.Define name is_negative n kind) p = refl
shown_itself side half (item.Struct place name fields) p = refl
shown_itself side half (item.Enum es) p = refl
shown_itself side half (item.Global d value) p = refl
shown_itself side half (item.Proto h is_remote) p = refl

no_prototype : (a : ItemWhat) → part_of a ≡ Both → (head : Head) → a ≡ item.Proto head true → ⊥
no_prototype a p head e = let f : There ≡ Both = ap part_of (sym e) ∙ p in cc

both_parts : (a b : ItemWhat) → part_of a ≡ Both → part_of b ≡ Both → are_alike (remote_of a) (remote_of b) ≡ true → ArePartsOf a b a
both_parts a b p q t = record {
  half = User;
  no_remote = no_prototype a p;
  in_kernel = ap item_text (sym (shown_itself Kernel User a p));
  in_user = ap item_text (sym (own_form b q)) ∙ sym (same_text (remote_of a) (remote_of b) t) ∙ ap item_text (own_form a p) ∙ ap item_text (sym (shown_itself User User a p));
}

first_is : (k i : Item) → ◌≡◌ {A = Result Item ℕ} (Ok k) (Ok i) → k ≡ i
first_is k i e = cc

parted_by : (k u i : Item) (p q : Part) (t : Bool) → part_of k.what ≡ p → part_of u.what ≡ q → are_alike (remote_of k.what) (remote_of u.what) ≡ t →
    whole_item k u (whole_by p q t) ≡ Ok i → ArePartsOf k.what u.what i.what
parted_by k u i Here There true a b c e = rw (sym (first_is k i e)) (first_parts k.what u.what a b c)
parted_by k u i There Here true a b c e = rw (sym (first_is u i e)) (second_parts k.what u.what a b c)
parted_by k u i Both Both true a b c e = rw (sym (first_is k i e)) (both_parts k.what u.what a b c)
parted_by k u i p q t a b c e = cc

parted : (k u i : Item) → joined_item k u ≡ Ok i → ArePartsOf k.what u.what i.what
parted k u i e = parted_by k u i (part_of k.what) (part_of u.what) (are_alike (remote_of k.what) (remote_of u.what)) refl refl refl e

same_front : (x i : Item) (xs is : List Item) → ◌≡◌ {A = Result (List Item) ℕ} (Ok (x ∷ xs)) (Ok (i ∷ is)) → x ≡ i
same_front x i xs is e = cc

same_rest : (x i : Item) (xs is : List Item) → ◌≡◌ {A = Result (List Item) ℕ} (Ok (x ∷ xs)) (Ok (i ∷ is)) → xs ≡ is
same_rest x i xs is e = cc

no_end : (one : Result Item ℕ) (more : Result (List Item) ℕ) → behind_joined one more ≡ Ok [] → ⊥
no_end (Err line) more e = cc
no_end (Ok x) (Err line) e = cc
no_end (Ok x) (Ok xs) e = cc

parted_step : (k u i : Item) (ks us is : List Item) (one : Result Item ℕ) (more : Result (List Item) ℕ) → joined_item k u ≡ one → behind_joined one more ≡ Ok (i ∷ is) →
    (more ≡ Ok is → AreHalvesOf ks us is) → ArePartsOf k.what u.what i.what × AreHalvesOf ks us is
parted_step k u i ks us is (Err line) more o e rest = cc
parted_step k u i ks us is (Ok x) (Err line) o e rest = cc
parted_step k u i ks us is (Ok x) (Ok xs) o e rest = (parted k u i (o ∙ ap Ok (same_front x i xs is e)), rest (ap Ok (same_rest x i xs is e)))

pub parted_from : (last : ℕ) (ks us is : List Item) → joined_from last ks us ≡ Ok is → AreHalvesOf ks us is
parted_from last [] [] [] e = tt
parted_from last [] [] (i ∷ is) e = cc
parted_from last [] (u ∷ us) is e = cc
parted_from last (k ∷ ks) [] is e = cc
parted_from last (k ∷ ks) (u ∷ us) [] e = absurd (no_end (joined_item k u) (joined_from u.place.line ks us) e)
parted_from last (k ∷ ks) (u ∷ us) (i ∷ is) e = parted_step k u i ks us is (joined_item k u) (joined_from u.place.line ks us) refl e (parted_from u.place.line ks us is)

pub joined_parts : (kernel user : Tree) (is : List Item) → joined kernel user ≡ Ok is → AreHalvesOf kernel.items user.items is
unfolding joined
joined_parts kernel user is e = parted_from 1 kernel.items user.items is e
