-- A table of places leads to the items of a list.
use Rattle.std.proofs.Common.{◌≡◌, ℕ, suc, ◌+◌, Bool, true, false, ◌||◌, cond, List, [], ◌∷◌, ◌++◌, length, Option, Some, None, is_some, slice_get, find, Vec, refl, sym, ap, subst, ◌∙◌, true≢false, arith, append_assoc, length-append}
use Rattle.std.specs.HashMap.{HashMap}
use Rattle.std.specs.List.{position_from, list_any}
use Rattle.std.specs.Map.{lookup}
use Rattle.std.specs.Option.{option_or}
use Rattle.std.specs.Str.{bytes_eq}
use Rattle.std.specs.Cmp.Lexicographic.{bytes_decides, nat_list_eq_equiv}
use Rattle.indexmap.specs.IndexMap.{insert_entry}
use Rattle.indexmap.proofs.CallerLemmas.{insert_entry-new}
use Rattle.mdr_faults.specs.Naming.{item_at, place_in, Leads}

-- ---- lists

module _ {T : Type 0} (p : T → Bool) where
  -- the first of a list that has one more item
  pub position_more : (n : ℕ) (xs : List T) (x : T) → position_from p n (xs ++ x ∷ []) ≡ option_or (position_from p n xs) (cond (p x) (Some (n + length xs)) None)
  position_more n [] x = ap (λ k. cond (p x) (Some k) None) (omega arith)
  position_more n (y ∷ ys) x = by (p y) (position_more (n + 1) ys x ∙ ap (λ k. option_or (position_from p (n + 1) ys) (cond (p x) (Some k) None)) (omega arith))
    where
      by : (b : Bool) → position_from p (n + 1) (ys ++ x ∷ []) ≡ option_or (position_from p (n + 1) ys) (cond (p x) (Some (n + suc (length ys))) None) → cond b (Some n) (position_from p (n + 1) (ys ++ x ∷ [])) ≡ option_or (cond b (Some n) (position_from p (n + 1) ys)) (cond (p x) (Some (n + suc (length ys))) None)
      by true rest = refl
      by false rest = rest

  -- the same, counted from 0
  pub position_at_end : (xs : List T) (x : T) → position_from p 0 (xs ++ x ∷ []) ≡ option_or (position_from p 0 xs) (cond (p x) (Some (length xs)) None)
  position_at_end xs x =
      let e : 0 + length xs ≡ length xs = omega arith in
      position_more 0 xs x ∙ ap (λ k. option_or (position_from p 0 xs) (cond (p x) (Some k) None)) e

seam : {T : Type 0} (before xs : List T) (x : T) → slice_get (before ++ x ∷ xs) (length before) ≡ Some x
seam [] xs x = refl
seam (y ∷ ys) xs x = seam ys xs x

module _ {T : Type 0} (p : T → Bool) where
  -- the item at the first place at which a test passes is the first item that passes it
  pub found_at : (before xs : List T) → item_at (before ++ xs) (position_from p (length before) xs) ≡ find p xs
  found_at before [] = refl
  found_at before (x ∷ xs) = by (p x) (seam before xs x) (sym moved ∙ found_at (before ++ x ∷ []) xs)
    where
      more : length (before ++ x ∷ []) ≡ length before + 1
      more = length-append before (x ∷ []) ∙ omega arith

      moved : item_at ((before ++ x ∷ []) ++ xs) (position_from p (length (before ++ x ∷ [])) xs) ≡ item_at (before ++ x ∷ xs) (position_from p (length before + 1) xs)
      moved = λ i. item_at (append_assoc before (x ∷ []) xs i) (position_from p (more i) xs)

      by : (b : Bool) → slice_get (before ++ x ∷ xs) (length before) ≡ Some x → item_at (before ++ x ∷ xs) (position_from p (length before + 1) xs) ≡ find p xs → item_at (before ++ x ∷ xs) (cond b (Some (length before)) (position_from p (length before + 1) xs)) ≡ cond b (Some x) (find p xs)
      by true here rest = here
      by false here rest = rest

-- there is an item that passes a test where one is found
pub any_found : {T : Type 0} (p : T → Bool) (xs : List T) → is_some (find p xs) ≡ list_any p xs
any_found p [] = refl
any_found {T} p (x ∷ xs) = by (p x) (any_found p xs)
  where
    by : (b : Bool) → is_some (find p xs) ≡ list_any p xs → is_some (cond b (Some x) (find p xs)) ≡ (b || list_any p xs)
    by true rest = refl
    by false rest = rest

lookup_more : {K X : Type 0} (test : K → Bool) (es : List (K × X)) (k : K) (v : X) → lookup test (es ++ (k, v) ∷ []) ≡ option_or (lookup test es) (cond (test k) (Some v) None)
lookup_more test [] k v = refl
lookup_more {K} {X} test (e ∷ es) k v = by (test e.0) (lookup_more test es k v)
  where
    by : (b : Bool) → lookup test (es ++ (k, v) ∷ []) ≡ option_or (lookup test es) (cond (test k) (Some v) None) → cond b (Some e.1) (lookup test (es ++ (k, v) ∷ [])) ≡ option_or (cond b (Some e.1) (lookup test es)) (cond (test k) (Some v) None)
    by true rest = refl
    by false rest = rest

or_none : {X : Type 0} (r : Option X) → r ≡ option_or r None
or_none None = refl
or_none (Some x) = refl

or_some : {X : Type 0} (r s : Option X) → is_some r ≡ true → r ≡ option_or r s
or_some None s h = absurd (true≢false (sym h))
or_some (Some x) s h = refl

-- ---- tables

module _ {A S : Type 0} where
  -- a name that has a place keeps it
  pub noted_before : (table : HashMap (Vec ℕ A) ℕ S) (name : List ℕ) (place : ℕ) → is_some (place_in table name) ≡ true → (n : List ℕ) → place_in table n ≡ option_or (place_in table n) (cond (bytes_eq name n) (Some place) None)
  noted_before table name place h n = by (bytes_eq name n) refl
    where
      by : (b : Bool) → bytes_eq name n ≡ b → place_in table n ≡ option_or (place_in table n) (cond (bytes_eq name n) (Some place) None)
      by true e = or_some _ _ (subst (λ m. is_some (place_in table m) ≡ true) ((bytes_decides name n).0 e) h)
      by false e = or_none _ ∙ ap (λ b. option_or (place_in table n) (cond b (Some place) None)) (sym e)

  -- a name that has none gets one
  pub noted_now : (old new : HashMap (Vec ℕ A) ℕ S) (key : Vec ℕ A) (name : List ℕ) (place : ℕ) → key.items ≡ name → place_in old name ≡ None → new.entries ≡ insert_entry (λ k l. bytes_eq k.items l.items) old.entries key place → (n : List ℕ) → place_in new n ≡ option_or (place_in old n) (cond (bytes_eq name n) (Some place) None)
  noted_now old new key name place is none grown n =
      let pushed : new.entries ≡ old.entries ++ (key, place) ∷ [] = grown ∙ insert_entry-new (λ (k l : Vec ℕ A). bytes_eq k.items l.items) old key place (ap (place_in old) is ∙ none) in
      ap (lookup (λ (k : Vec ℕ A). bytes_eq n k.items)) pushed
      ∙ lookup_more (λ (k : Vec ℕ A). bytes_eq n k.items) old.entries key place
      ∙ ap (λ b. option_or (place_in old n) (cond b (Some place) None)) (nat_list_eq_equiv.symm n key.items ∙ ap (λ m. bytes_eq m n) is)

  module _ {T : Type 0} (name_of : T → List ℕ) where
    -- what a table leads to is the first item of a name
    pub found : (items : List T) (table : HashMap (Vec ℕ A) ℕ S) → Leads name_of items table → (name : List ℕ) → item_at items (place_in table name) ≡ find (λ x. bytes_eq (name_of x) name) items
    unfolding Leads
    found items table leads name = ap (item_at items) (leads name) ∙ found_at (λ x. bytes_eq (name_of x) name) [] items

    -- an empty table leads to the items of an empty list
    pub leads_nowhere : (table : HashMap (Vec ℕ A) ℕ S) → table.entries ≡ [] → Leads name_of [] table
    unfolding Leads
    leads_nowhere table none name = ap (lookup (λ (k : Vec ℕ A). bytes_eq name k.items)) none

    -- a table with the same entries leads where it led
    pub leads_still : (items : List T) (old new : HashMap (Vec ℕ A) ℕ S) → Leads name_of items old → new.entries ≡ old.entries → Leads name_of items new
    unfolding Leads
    leads_still items old new leads same name = ap (lookup (λ (k : Vec ℕ A). bytes_eq name k.items)) same ∙ leads name

    -- and one that has noted an item leads to it too
    pub leads_further : (items : List T) (x : T) (old new : HashMap (Vec ℕ A) ℕ S) → Leads name_of items old → ((n : List ℕ) → place_in new n ≡ option_or (place_in old n) (cond (bytes_eq (name_of x) n) (Some (length items)) None)) → Leads name_of (items ++ x ∷ []) new
    unfolding Leads
    leads_further items x old new leads noted name =
        noted name
        ∙ ap (λ r. option_or r (cond (bytes_eq (name_of x) name) (Some (length items)) None)) (leads name)
        ∙ sym (position_at_end (λ y. bytes_eq (name_of y) name) items x)
