-- Structs are numbered by their definitions: a file has as many structs as names of structs.
use Rattle.std.proofs.Common.{◌≡◌, ℕ, zero, suc, ◌<◌, Bool, true, false, cond, ◌==◌, eqb-true, List, [], ◌∷◌, ◌++◌, length, Some, refl, sym, ap, ◌∙◌, subst, slice_get, arith, ◌⊎◌, inl, inr, ◌||◌}
use Rattle.std.proofs.lemmas.Option.{slice_get_within}
use Rattle.std.specs.List.{find, list_any}
use Rattle.std.specs.Str.{bytes_eq}
use Rattle.mdr_core.specs.Layout.{chosen}
use Rattle.mdr_syntax.specs.declared.tree.Item.{Item}
use Rattle.mdr_syntax.specs.declared.tree.ItemWhat.{ItemWhat}
use Rattle.mdr_syntax.specs.declared.tree.ItemWhat.TheVariants as item
use Rattle.mdr_faults.specs.declared.scope.Tag.{Tag}
use Rattle.mdr_headings.specs.Source.{has_tag, tags_behind, tags_from, is_numbered}
use Rattle.mdr_sound.specs.Counting.{Begins}
use Rattle.mdr_sound.proofs.Extending.{begins_itself, begins_behind, begins_more, begins_at}
use Rattle.mdr_sound.proofs.Named.{FoundAt}

-- each struct has the number of its place
pub record AreNumbered (tags : List Tag) : Type 0 where
  pub numbers : (i : ℕ) (t : Tag) → slice_get tags i ≡ Some t → t.number ≡ i

chosen_begins : (b : Bool) (tags : List Tag) (t : Tag) → Begins tags (chosen b tags (tags ++ t ∷ []))
chosen_begins true tags t = begins_itself tags
chosen_begins false tags t = begins_more tags (t ∷ [])

tags_one : (tags : List Tag) (what : ItemWhat) → Begins tags (tags_behind tags what)
tags_one tags (item.Define name is_negative n k) = begins_itself tags
tags_one tags (item.Struct p name ds) = chosen_begins (has_tag tags name) tags (record { name = name; number = length tags })
tags_one tags (item.Enum es) = begins_itself tags
tags_one tags (item.Global d init) = begins_itself tags
tags_one tags (item.Proto h is_remote) = begins_itself tags
tags_one tags (item.Func h is_critical body) = begins_itself tags

pub tags_begin : (tags : List Tag) (is : List Item) → Begins tags (tags_from tags is)
unfolding tags_from
tags_begin tags [] = begins_itself tags
tags_begin tags (i ∷ is) = begins_behind tags (tags_behind tags i.what) (tags_from (tags_behind tags i.what) is) (tags_one tags i.what) (tags_begin (tags_behind tags i.what) is)

-- one behind a list, with its place
pub record Last {A : Type 0} (xs : List A) (y : A) (i : ℕ) (z : A) : Type 0 where
  pub is : y ≡ z
  pub place : i ≡ length xs

pub last_place : {A : Type 0} (xs : List A) (y : A) (i : ℕ) (z : A) → slice_get (xs ++ y ∷ []) i ≡ Some z → (slice_get xs i ≡ Some z) ⊎ Last xs y i z
last_place [] y zero z e = inr (record { is = cc; place = refl })
last_place [] y (suc i) z e = absurd cc
last_place (x ∷ xs) y zero z e = inl e
last_place (x ∷ xs) y (suc i) z e = further (last_place xs y i z e)
  where
    further : (slice_get xs i ≡ Some z) ⊎ Last xs y i z → (slice_get xs i ≡ Some z) ⊎ Last (x ∷ xs) y (suc i) z
    further (inl old) = inl old
    further (inr new) = inr (record { is = new.is; place = ap suc new.place })

chosen_numbered : (b : Bool) (tags : List Tag) (name : List ℕ) → AreNumbered tags → AreNumbered (chosen b tags (tags ++ record { name = name; number = length tags } ∷ []))
chosen_numbered true tags name a = a
chosen_numbered false tags name a = record { numbers = λ i t e. by i t (last_place tags (record { name = name; number = length tags }) i t e) }
  where
    by : (i : ℕ) (t : Tag) → (slice_get tags i ≡ Some t) ⊎ Last tags (record { name = name; number = length tags }) i t → t.number ≡ i
    by i t (inl old) = a.numbers i t old
    by i t (inr new) = ap (λ (t : Tag). t.number) (sym new.is) ∙ sym new.place

numbered_one : (tags : List Tag) (what : ItemWhat) → AreNumbered tags → AreNumbered (tags_behind tags what)
numbered_one tags (item.Define name is_negative n k) a = a
numbered_one tags (item.Struct p name ds) a = chosen_numbered (has_tag tags name) tags name a
numbered_one tags (item.Enum es) a = a
numbered_one tags (item.Global d init) a = a
numbered_one tags (item.Proto h is_remote) a = a
numbered_one tags (item.Func h is_critical body) a = a

pub all_numbered : (tags : List Tag) (is : List Item) → AreNumbered tags → AreNumbered (tags_from tags is)
unfolding tags_from
all_numbered tags [] a = a
all_numbered tags (i ∷ is) a = all_numbered (tags_behind tags i.what) is (numbered_one tags i.what a)

-- ---- a struct that is defined first

-- the first that passes a test, in a list and in a longer one
record First {A : Type 0} (test : A → Bool) (xs ys : List A) : Type 0 where
  item : A
  found : find test (xs ++ ys) ≡ Some item
  there : FoundAt test xs item

first_of : {A : Type 0} (test : A → Bool) (xs ys : List A) → list_any test xs ≡ true → First test xs ys
first_of test [] ys e = absurd cc
first_of test (x ∷ xs) ys e = by (test x) refl (first_of test xs ys)
  where
    by : (t : Bool) → test x ≡ t → (list_any test xs ≡ true → First test xs ys) → First test (x ∷ xs) ys
    by true q rest = record { item = x; found = ap (λ (t : Bool). cond t (Some x) (find test (xs ++ ys))) q; there = record { number = 0; names = refl; passes = q } }
    by false q rest =
        let f = rest (sym (ap (λ (t : Bool). t || list_any test xs) q) ∙ e) in
        record { item = f.item; found = ap (λ (t : Bool). cond t (Some x) (find test (xs ++ ys))) q ∙ f.found; there = record { number = suc (f.there).number; names = (f.there).names; passes = (f.there).passes } }

-- a struct whose name stands among the first has a smaller number than their number
early : (tags all : List Tag) (name : List ℕ) (n : ℕ) → AreNumbered all → Begins tags all → has_tag tags name ≡ true → is_numbered (find (λ t. bytes_eq t.name name) all) n ≡ true → n < length tags
early tags all name n a b has is =
    let f = first_of (λ (t : Tag). bytes_eq t.name name) tags b.more has in
    let found : find (λ (t : Tag). bytes_eq t.name name) all ≡ Some f.item = ap (find (λ (t : Tag). bytes_eq t.name name)) b.whole ∙ f.found in
    let test : ((f.item).number == n) ≡ true = subst (λ o. is_numbered o n ≡ true) found is in
    let number : (f.item).number ≡ (f.there).number = a.numbers (f.there).number f.item (begins_at tags all (f.there).number f.item b (f.there).names) in
    let inside : (f.there).number < length tags = slice_get_within tags (f.there).number f.item (f.there).names in
    omega (arith, eqb-true (f.item).number n test, number, inside)

-- the definition that has the next number names a struct that wasn't there
pub is_first : (tags all : List Tag) (name : List ℕ) (n : ℕ) → AreNumbered all → Begins tags all → n ≡ length tags → is_numbered (find (λ t. bytes_eq t.name name) all) n ≡ true → has_tag tags name ≡ false
is_first tags all name n a b here is = by (has_tag tags name) refl
  where
    by : (t : Bool) → has_tag tags name ≡ t → t ≡ false
    by false e = refl
    by true e = absurd (omega (arith, early tags all name n a b e is, here))
