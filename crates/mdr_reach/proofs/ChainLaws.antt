-- Chains of cells' names.
use Rattle.std.proofs.Common.{◌≡◌, ℕ, zero, suc, ◌+◌, ◌-◌, ◌<◌, ◌≤◌, Bool, true, false, ◌⊎◌, inl, inr, List, [], ◌∷◌, ◌++◌, set, take, replicate, get_or, length, Option, Some, refl, sym, ◌∙◌, ap, subst, arith}
use Rattle.std.specs.Prelude.{◌==◌, slice_get}
use Rattle.std.proofs.lemmas.Bool.{and_from, both_ways, cases_lt, eq-eqb}
use Rattle.std.proofs.lemmas.List.{length-append, length-set}
use Rattle.std.proofs.lemmas.Option.{slice_get_read, slice_get_within}
use Rattle.mdr_cells.specs.declared.name.CellName.{CellName}
use Rattle.mdr_cells.specs.Names.{cell_of, named}
use Rattle.mdr_core.specs.Layout.{chosen}
use Rattle.mdr_extents.specs.CellOrder.{cells}
use Rattle.mdr_model.specs.declared.memory.Cell.{Cell}
use Rattle.mdr_model.specs.Sets.{is_same_cell}
use Rattle.mdr_paths.specs.Paths.{is_in}
use Rattle.mdr_paths.proofs.NodeLists.{is_in-cases, is_in-head, is_in-tail, none_in}
use Rattle.mdr_reach.specs.declared.chains.Chains.{Chains}
use Rattle.mdr_reach.specs.Chains.{AreChained, AreLinked, HasLinks, IsLast, bucket_of, with_mark}

-- ---- items of lists

get_left : {A : Type 0} (xs ys : List A) (j : ℕ) → j < length xs → slice_get (xs ++ ys) j ≡ slice_get xs j
get_left [] ys j l = absurd (omega (arith, l))
get_left (x ∷ xs) ys zero l = refl
get_left (x ∷ xs) ys (suc j) l = get_left xs ys j (omega (arith, l))

get_last : {A : Type 0} (xs : List A) (y : A) → slice_get (xs ++ y ∷ []) (length xs) ≡ Some y
get_last [] y = refl
get_last (x ∷ xs) y = get_last xs y

-- an item of a list with one more is an old one, or the last
data More {A : Type 0} (xs : List A) (y : A) (i : ℕ) (n : A) : Type 0 where
  Old : i < length xs → slice_get xs i ≡ Some n → More xs y i n
  Last : i ≡ length xs → n ≡ y → More xs y i n

get_more : {A : Type 0} (xs : List A) (y : A) (i : ℕ) (n : A) → slice_get (xs ++ y ∷ []) i ≡ Some n → More xs y i n
get_more [] y zero n e = Last refl cc
get_more [] y (suc i) n e = absurd cc
get_more (x ∷ xs) y zero n e = Old (omega arith) e
get_more (x ∷ xs) y (suc i) n e = of (get_more xs y i n e)
  where
    of : More xs y i n → More (x ∷ xs) y (suc i) n
    of (Old l g) = Old (omega (arith, l)) g
    of (Last g h) = Last (ap suc g) h

-- an item of a list in which one was set is that one, or an old one
data Put (xs : List ℕ) (i v b n : ℕ) : Type 0 where
  Here : b ≡ i → n ≡ v → Put xs i v b n
  Other : (b ≡ i → ⊥) → slice_get xs b ≡ Some n → Put xs i v b n

get_set : (xs : List ℕ) (i v b n : ℕ) → slice_get (set xs i v) b ≡ Some n → Put xs i v b n
get_set [] i v zero n e = absurd cc
get_set [] i v (suc b) n e = absurd cc
get_set (x ∷ xs) zero v zero n e = Here refl cc
get_set (x ∷ xs) zero v (suc b) n e = Other (λ g. absurd (omega (arith, g))) e
get_set (x ∷ xs) (suc i) v zero n e = Other (λ g. absurd (omega (arith, g))) e
get_set (x ∷ xs) (suc i) v (suc b) n e = of (get_set xs i v b n e)
  where
    of : Put xs i v b n → Put (x ∷ xs) (suc i) v (suc b) n
    of (Here g h) = Here (ap suc g) h
    of (Other g h) = Other (λ k. g (omega (arith, k))) h

get_zero : (m b n : ℕ) → slice_get (replicate m 0) b ≡ Some n → n ≡ 0
get_zero zero zero n e = absurd cc
get_zero zero (suc b) n e = absurd cc
get_zero (suc m) zero n e = cc
get_zero (suc m) (suc b) n e = get_zero m b n e

one_item : {A : Type 0} (o : Option A) (x y : A) → o ≡ Some x → o ≡ Some y → x ≡ y
one_item {A = A} o x y e f = let both : ◌≡◌ {A = Option A} (Some x) (Some y) = sym e ∙ f in cc

-- ---- names

name_is : (x y : CellName) → cell_of x ≡ cell_of y → x ≡ y
name_is x y e = λ i. record { serial = ap (λ (c : Cell). c.serial) e i; index = ap (λ (c : Cell). c.index) e i }

itself : (c : Cell) → is_same_cell c c ≡ true
itself c = and_from (c.serial == c.serial) (c.index == c.index) (eq-eqb c.serial c.serial refl) (eq-eqb c.index c.index refl)

pub name_in : (xs : List CellName) (i : ℕ) (x n : CellName) → slice_get xs i ≡ Some x → cell_of x ≡ cell_of n → true ≡ is_in cells (named xs) (cell_of n)
name_in [] zero x n e same = absurd cc
name_in [] (suc i) x n e same = absurd cc
name_in (y ∷ xs) zero x n e same = let first : y ≡ x = cc in sym (subst (λ c. is_in cells (named (y ∷ xs)) c ≡ true) (ap cell_of first ∙ same) (is_in-head cells (cell_of y) (named xs)))
name_in (y ∷ xs) (suc i) x n e same = sym (is_in-tail cells (cell_of y) (named xs) (cell_of n) (sym (name_in xs i x n e same)))

not_in : (xs : List CellName) (c : Cell) → ((j : ℕ) (x : CellName) → slice_get xs j ≡ Some x → cell_of x ≡ c → ⊥) → is_in cells (named xs) c ≡ true → ⊥
not_in [] c none h = none_in cells c h
not_in (y ∷ ys) c none h = of (is_in-cases cells (cell_of y) (named ys) c h) (not_in ys c (λ j x. none (suc j) x))
  where
    of : (c ≡ cell_of y) ⊎ (is_in cells (named ys) c ≡ true) → (is_in cells (named ys) c ≡ true → ⊥) → ⊥
    of (inl e) rest = none 0 y refl (sym e)
    of (inr e) rest = rest e

named_push : (xs : List CellName) (x : CellName) → named (xs ++ x ∷ []) ≡ named xs ++ cell_of x ∷ []
named_push [] x = refl
named_push (y ∷ xs) x = ap (λ cs. cell_of y ∷ cs) (named_push xs x)

pub marked_there : (xs : List Cell) (c : Cell) → is_in cells xs c ≡ true → xs ≡ with_mark xs c
marked_there xs c e = ap (λ b. chosen b xs (xs ++ c ∷ [])) (sym e)

pub marked_new : (xs ys : List CellName) (x : CellName) → ys ≡ xs ++ x ∷ [] → is_in cells (named xs) (cell_of x) ≡ false → named ys ≡ with_mark (named xs) (cell_of x)
marked_new xs ys x e none = ap named e ∙ named_push xs x ∙ ap (λ b. chosen b (named xs) (named xs ++ cell_of x ∷ [])) (sym none)

-- ---- links

module _ (names : List CellName) (buckets m : ℕ) (lasts befores : List ℕ) (linked : AreLinked names buckets m lasts befores) where
  -- no name was last in a bucket
  still : (b n : ℕ) (name : CellName) → IsLast names buckets b m n → slice_get names m ≡ Some name → (bucket_of name buckets ≡ b → ⊥) → IsLast names buckets b (m + 1) n
  still b n name was at apart = record {
    inside = omega (arith, was.inside);
    same = was.same;
    none = λ j x l k g e. of j x l g e (cases_lt j m) k;
  }
    where
      of : (j : ℕ) (x : CellName) → n ≤ j → slice_get names j ≡ Some x → bucket_of x buckets ≡ b → (j < m) ⊎ (m ≤ j) → j < m + 1 → ⊥
      of j x l g e (inl k) u = was.none j x l k g e
      of j x l g e (inr k) u =
          let same : j ≡ m = omega (arith, k, u) in
          apart (sym (ap (λ y. bucket_of y buckets) (one_item (slice_get names m) x name (ap (slice_get names) (sym same) ∙ g) at)) ∙ e)

  -- the next name is the last in its bucket
  newest : (name : CellName) → slice_get names m ≡ Some name → IsLast names buckets (bucket_of name buckets) (m + 1) (m + 1)
  newest name at = record {
    inside = omega arith;
    same = λ k x e g. let same : k ≡ m = omega (arith, e) in ap (λ y. bucket_of y buckets) (one_item (slice_get names m) x name (ap (slice_get names) (sym same) ∙ g) at);
    none = λ j x l k g e. absurd (omega (arith, l, k));
  }

  module _ (name : CellName) (at : slice_get names m ≡ Some name) (last : ℕ) (is : slice_get lasts (bucket_of name buckets) ≡ Some last) (count : length befores ≡ m) where
    heads_more : (b n : ℕ) → Put lasts (bucket_of name buckets) (m + 1) b n → IsLast names buckets b (m + 1) n
    heads_more b n (Here e f) = subst (λ x. IsLast names buckets b (m + 1) x) (sym f) (subst (λ x. IsLast names buckets x (m + 1) (m + 1)) (sym e) (newest name at))
    heads_more b n (Other e f) = still b n name (linked.heads b n f) at (λ g. e (sym g))

    links_more : (i n : ℕ) (x : CellName) → More befores last i n → slice_get names i ≡ Some x → IsLast names buckets (bucket_of x buckets) i n
    links_more i n x (Old l e) g = linked.links i n x e g
    links_more i n x (Last e f) g =
        let here : i ≡ m = e ∙ count in
        let same : x ≡ name = one_item (slice_get names m) x name (ap (slice_get names) (sym here) ∙ g) at in
        subst (λ k. IsLast names buckets (bucket_of x buckets) k n) (sym here) (subst (λ k. IsLast names buckets (bucket_of x buckets) m k) (sym f) (subst (λ y. IsLast names buckets (bucket_of y buckets) m last) (sym same) (linked.heads (bucket_of name buckets) last is)))

    link_more : AreLinked names buckets (m + 1) (set lasts (bucket_of name buckets) (m + 1)) (befores ++ last ∷ [])
    link_more = record {
      heads = λ b n e. heads_more b n (get_set lasts (bucket_of name buckets) (m + 1) b n e);
      links = λ i n x e g. links_more i n x (get_more befores last i n e) g;
    }

-- of a name that is next
pub linked_more : (names : List CellName) (name : CellName) (lasts befores nows : List ℕ) (b last v : ℕ) → nows ≡ befores ++ last ∷ [] → v ≡ length nows → b ≡ bucket_of name (length lasts) → b < length lasts → last ≡ get_or lasts b last
    → slice_get names (length befores) ≡ Some name → HasLinks names lasts befores → HasLinks names (set lasts b v) nows
linked_more names name lasts befores nows b last v en ev eb l is at linked =
    let more : length nows ≡ length befores + 1 = ap length en ∙ length-append befores (last ∷ []) in
    let put : set lasts b v ≡ set lasts (bucket_of name (length lasts)) (length befores + 1) = ap (λ x. set lasts x v) eb ∙ ap (set lasts (bucket_of name (length lasts))) (ev ∙ more) in
    let had : slice_get lasts (bucket_of name (length lasts)) ≡ Some last = ap (slice_get lasts) (sym eb) ∙ slice_get_read lasts (length lasts) b last refl l is in
    let made = link_more names (length lasts) (length befores) lasts befores linked name at last had refl in
    subst (λ k. AreLinked names k (length nows) (set lasts b v) nows) (sym (length-set lasts b v)) (subst (λ k. AreLinked names (length lasts) k (set lasts b v) nows) (sym more)
    (subst (λ xs. AreLinked names (length lasts) (length befores + 1) xs nows) (sym put) (subst (λ xs. AreLinked names (length lasts) (length befores + 1) (set lasts (bucket_of name (length lasts)) (length befores + 1)) xs) (sym en) made)))

-- of no names
pub linked_none : (names : List CellName) (lasts befores : List ℕ) → ((b n : ℕ) → slice_get lasts b ≡ Some n → n ≡ 0) → befores ≡ [] → HasLinks names lasts befores
linked_none names lasts befores all none = record {
  heads = λ b n e. subst (λ k. IsLast names (length lasts) b (length befores) k) (sym (all b n e)) (subst (λ xs. IsLast names (length lasts) b (length xs) 0) (sym none) (nothing b));
  links = λ i n x e g. absurd (empty i n (ap (λ xs. slice_get xs i) (sym none) ∙ e));
}
  where
    nothing : (b : ℕ) → IsLast names (length lasts) b 0 0
    nothing b = record {
      inside = omega arith;
      same = λ k x e g. absurd (omega (arith, e));
      none = λ j x l k g e. absurd (omega (arith, k));
    }

    empty : (i n : ℕ) → slice_get {X = ℕ} [] i ≡ Some n → ⊥
    empty zero n e = cc
    empty (suc i) n e = cc

-- of names to which others come
pub linked_still : (names : List CellName) (more : List CellName) (lasts befores : List ℕ) → length befores ≤ length names → HasLinks names lasts befores → HasLinks (names ++ more) lasts befores
linked_still names more lasts befores few linked = record {
  heads = λ b n e. kept b (length befores) n few (linked.heads b n e);
  links = λ i n x e g. let l = slice_get_within befores i n e in kept (bucket_of x (length lasts)) i n (omega (arith, l, few)) (linked.links i n x e (sym (get_left names more i (omega (arith, l, few))) ∙ g));
}
  where
    kept : (b m n : ℕ) → m ≤ length names → IsLast names (length lasts) b m n → IsLast (names ++ more) (length lasts) b m n
    kept b m n l was = record {
      inside = was.inside;
      same = λ k x e g. was.same k x e (sym (get_left names more k (omega (arith, e, was.inside, l))) ∙ g);
      none = λ j x a k g e. was.none j x a k (sym (get_left names more j (omega (arith, k, l))) ∙ g) e;
    }

-- ---- all names

next_name : (names : List CellName) (name : CellName) (m : ℕ) → m ≡ length names → slice_get (names ++ name ∷ []) m ≡ Some name
next_name names name m e = ap (slice_get (names ++ name ∷ [])) e ∙ get_last names name

pub chained_same : (names news : List CellName) (old new : Chains) → news ≡ names → new.lasts.items ≡ old.lasts.items → new.befores.items ≡ old.befores.items → AreChained names old → AreChained news new
chained_same names news old new e lasts befores was = record {
  all = ap length befores ∙ was.all ∙ sym (ap length e);
  linked = subst (λ ns. HasLinks ns new.lasts.items new.befores.items) (sym e) (subst (λ xs. HasLinks names xs new.befores.items) (sym lasts) (subst (λ xs. HasLinks names old.lasts.items xs) (sym befores) was.linked));
}

pub chained_more : (names news : List CellName) (name : CellName) (old new : Chains) → news ≡ names ++ name ∷ [] → length new.befores.items ≡ length old.befores.items + 1
    → ((ns : List CellName) → slice_get ns (length old.befores.items) ≡ Some name → HasLinks ns old.lasts.items old.befores.items → HasLinks ns new.lasts.items new.befores.items) → AreChained names old → AreChained news new
chained_more names news name old new e more links was = record {
  all = more ∙ ap (λ n. n + 1) was.all ∙ sym (ap length e ∙ length-append names (name ∷ []));
  linked = subst (λ ns. HasLinks ns new.lasts.items new.befores.items) (sym e) (links (names ++ name ∷ []) (next_name names name (length old.befores.items) was.all) (linked_still names (name ∷ []) old.lasts.items old.befores.items (omega (arith, was.all)) was.linked));
}

-- ---- a name that is looked for

-- it isn't found from this number on, and what has it is in its bucket
pub record Sought (names : List CellName) (buckets : ℕ) (name : CellName) (number : ℕ) : Type 0 where
  pub inside : number ≤ length names
  pub same : (k : ℕ) (x : CellName) → number ≡ k + 1 → slice_get names k ≡ Some x → bucket_of x buckets ≡ bucket_of name buckets
  pub none : (j : ℕ) (x : CellName) → number ≤ j → slice_get names j ≡ Some x → cell_of x ≡ cell_of name → ⊥

pub sought_first : (names : List CellName) (buckets : ℕ) (name : CellName) (last : ℕ) → IsLast names buckets (bucket_of name buckets) (length names) last → Sought names buckets name last
sought_first names buckets name last is = record {
  inside = is.inside;
  same = is.same;
  none = λ j x l g e. is.none j x l (slice_get_within names j x g) g (ap (λ y. bucket_of y buckets) (name_is x name e));
}

-- the name with this number was another one
module _ (names : List CellName) (chains : Chains) (name : CellName) (number next : ℕ) (x : CellName) (some : 0 < number) (is : slice_get names (number - 1) ≡ Some x) (read : next ≡ get_or chains.befores.items (number - 1) next) (chained : AreChained names chains)
    (had : Sought names (length chains.lasts.items) name number) where
  before : IsLast names (length chains.lasts.items) (bucket_of x (length chains.lasts.items)) (number - 1) next
  before = chained.linked.links (number - 1) next x (slice_get_read chains.befores.items (length names) (number - 1) next (sym chained.all) (omega (arith, had.inside, some)) read) is

  mine : bucket_of x (length chains.lasts.items) ≡ bucket_of name (length chains.lasts.items)
  mine = had.same (number - 1) x (omega (arith, some)) is

  pub next_less : next < number
  next_less = omega (arith, before.inside, some)

  pub sought_more : is_same_cell (cell_of x) (cell_of name) ≡ false → Sought names (length chains.lasts.items) name next
  sought_more other = record {
    inside = omega (arith, before.inside, had.inside);
    same = λ k y e g. before.same k y e g ∙ mine;
    none = λ j y l g e. of j y l g e (cases_lt j (number - 1)) (cases_lt (number - 1) j);
  }
    where
      of : (j : ℕ) (y : CellName) → next ≤ j → slice_get names j ≡ Some y → cell_of y ≡ cell_of name → (j < number - 1) ⊎ (number - 1 ≤ j) → (number - 1 < j) ⊎ (j ≤ number - 1) → ⊥
      of j y l g e (inl a) b = before.none j y l a g (ap (λ z. bucket_of z (length chains.lasts.items)) (name_is y name e) ∙ sym mine)
      of j y l g e (inr a) (inl b) = had.none j y (omega (arith, b)) g e
      of j y l g e (inr a) (inr b) =
          let same : j ≡ number - 1 = omega (arith, a, b) in
          let here : cell_of x ≡ cell_of name = ap cell_of (one_item (slice_get names (number - 1)) x y is (ap (slice_get names) (sym same) ∙ g)) ∙ e in
          both_ways _ other (subst (λ c. is_same_cell (cell_of x) c ≡ true) here (itself (cell_of x)))

pub sought_none : (names : List CellName) (buckets : ℕ) (name : CellName) (number : ℕ) → number ≡ 0 → Sought names buckets name number → false ≡ is_in cells (named names) (cell_of name)
sought_none names buckets name number e had = of (is_in cells (named names) (cell_of name)) refl
  where
    of : (t : Bool) → is_in cells (named names) (cell_of name) ≡ t → false ≡ t
    of true h = absurd (not_in names (cell_of name) (λ j x. had.none j x (omega (arith, e))) h)
    of false h = refl

-- ---- items of lists, as code reads and fills them

pub all_zero : (xs lasts : List ℕ) (n m : ℕ) → xs ≡ [] → lasts ≡ take n xs ++ replicate m 0 → (b k : ℕ) → slice_get lasts b ≡ Some k → k ≡ 0
all_zero xs lasts n m none e b k g = of n (ap (λ ys. slice_get (take n ys ++ replicate m 0) b) (sym none) ∙ ap (λ ys. slice_get ys b) (sym e) ∙ g)
  where
    of : (n : ℕ) → slice_get (take n [] ++ replicate m 0) b ≡ Some k → k ≡ 0
    of zero h = get_zero m b k h
    of (suc n) h = get_zero m b k h
