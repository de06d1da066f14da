-- One more of the parts that a loop writes, and all of them.
use Rattle.std.proofs.Common.{◌≡◌, ℕ, ◌+◌, ◌<◌, ◌≤◌, Bool, true, false, List, [], ◌∷◌, ◌++◌, length, drop, get_or, map, refl, ap, sym, ◌∙◌}
use Rattle.std.proofs.lemmas.List.{at_drop_more, at_drop_all}
use Rattle.mdr_syntax.specs.declared.tree.Node.{Node}
use Rattle.mdr_print.specs.Marks.{Mark, Marks, spell, row, comma_unless, separated, comma_list, Appends}
use Rattle.mdr_print.specs.Statements.{head_list, head_part, written}

-- with what is left behind it, what was written is all that there is to write
abbrev pub Stands : (start out : List ℕ) (left whole : Marks) → Type 0
Stands start out left whole = (rest : List Mark) → out ++ spell (left rest) ≡ start ++ spell (whole rest)

-- ---- one behind the other

pub row_more : {A : Type 0} (f : A → Marks) (xs : List A) (i : ℕ) (x : A) (start old new : List ℕ) → i < length xs → x ≡ get_or xs i x →
    Stands start old (row (map f (drop i xs))) (row (map f xs)) → Appends old new (f x) → Stands start new (row (map f (drop (i + 1) xs))) (row (map f xs))
row_more f xs i x start old new inside found so_far more rest =
    let behind : List Mark = row (map f (drop (i + 1) xs)) rest in
    more behind
    ∙ ap (λ one. old ++ spell (f one behind)) found
    ∙ sym (at_drop_more (λ ys. old ++ spell (row (map f ys) rest)) xs i x inside)
    ∙ so_far rest

pub row_whole : {A : Type 0} (f : A → Marks) (xs : List A) (i : ℕ) (start out : List ℕ) → length xs ≤ i →
    Stands start out (row (map f (drop i xs))) (row (map f xs)) → Appends start out (row (map f xs))
row_whole f xs i start out all so_far rest = sym (at_drop_all (λ ys. out ++ spell (row (map f ys) rest)) xs i all) ∙ so_far rest

-- ---- with commas between them

pub separated_more : {A : Type 0} (f : A → Marks) (xs : List A) (i : ℕ) (x : A) (is_first : Bool) (start old mid new : List ℕ) → i < length xs → x ≡ get_or xs i x →
    Stands start old (separated is_first (map f (drop i xs))) (comma_list (map f xs)) → Appends old mid (comma_unless is_first) → Appends mid new (f x) →
    Stands start new (separated false (map f (drop (i + 1) xs))) (comma_list (map f xs))
separated_more f xs i x is_first start old mid new inside found so_far comma more rest =
    let behind : List Mark = separated false (map f (drop (i + 1) xs)) rest in
    more behind
    ∙ comma (f x behind)
    ∙ ap (λ one. old ++ spell (comma_unless is_first (f one behind))) found
    ∙ sym (at_drop_more (λ ys. old ++ spell (separated is_first (map f ys) rest)) xs i x inside)
    ∙ so_far rest

pub separated_whole : {A : Type 0} (f : A → Marks) (xs : List A) (i : ℕ) (is_first : Bool) (start out : List ℕ) → length xs ≤ i →
    Stands start out (separated is_first (map f (drop i xs))) (comma_list (map f xs)) → Appends start out (comma_list (map f xs))
separated_whole f xs i is_first start out all so_far rest = sym (at_drop_all (λ ys. out ++ spell (separated is_first (map f ys) rest)) xs i all) ∙ so_far rest

-- ---- in the head of a `for`

pub head_more : (xs : List Node) (i : ℕ) (x : Node) (is_first : Bool) (start old mid new : List ℕ) → i < length xs → x ≡ get_or xs i x →
    Stands start old (head_list is_first (map written (drop i xs))) (head_list true (map written xs)) → Appends old mid (comma_unless is_first) → Appends mid new (head_part is_first (written x)) →
    Stands start new (head_list false (map written (drop (i + 1) xs))) (head_list true (map written xs))
head_more xs i x is_first start old mid new inside found so_far comma more rest =
    let behind : List Mark = head_list false (map written (drop (i + 1) xs)) rest in
    more behind
    ∙ comma (head_part is_first (written x) behind)
    ∙ ap (λ one. old ++ spell (comma_unless is_first (head_part is_first (written one) behind))) found
    ∙ sym (at_drop_more (λ ys. old ++ spell (head_list is_first (map written ys) rest)) xs i x inside)
    ∙ so_far rest

pub head_whole : (xs : List Node) (i : ℕ) (is_first : Bool) (start out : List ℕ) → length xs ≤ i →
    Stands start out (head_list is_first (map written (drop i xs))) (head_list true (map written xs)) → Appends start out (head_list true (map written xs))
head_whole xs i is_first start out all so_far rest = sym (at_drop_all (λ ys. out ++ spell (head_list is_first (map written ys) rest)) xs i all) ∙ so_far rest
