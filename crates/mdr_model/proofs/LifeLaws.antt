-- Laws of births and deaths: how each block was born, and what each cell holds, when blocks die, are put in their place, and are told.
use Rattle.std.proofs.Common.{◌≡◌, ℕ, zero, suc, Bool, true, false, cond, not, ◌&&◌, ◌||◌, List, [], ◌∷◌, ◌++◌, map, Option, Some, None, refl, ◌∙◌, ap, arith}
use Rattle.std.specs.Prelude.{◌==◌, nat_lt, nat_le, is_some, slice_get, length, option_map, unwrap_or}
use Rattle.std.proofs.lemmas.Bool.{eqb-true, eq-eqb}
use Rattle.mdr_core.specs.declared.types.Ty.{Ty, out-Ty}
use Rattle.mdr_core.specs.declared.types.Ty.TheOpen.{Ty-F}
use Rattle.mdr_core.specs.Layout.{Leaf, zero_by}
use Rattle.mdr_core.specs.declared.program.Program.{Program}
use Rattle.mdr_meaning.specs.declared.wire.Wire.{Wire}
use Rattle.mdr_meaning.specs.declared.wire.Wire.TheVariants as wire
use Rattle.mdr_meaning.specs.declared.wire.WireView.{WireView}
use Rattle.mdr_model.specs.declared.message.New.{New}
use Rattle.mdr_meaning.specs.Values.{wire_of}
use Rattle.mdr_model.specs.Values.{names_block}
use Rattle.mdr_model.specs.Memory.{Memory, MemoryBlock, Cell, leaves_of, size_of, leaf_at, born_at, is_live, cell_at, swept, swept_block, killed, zero_of, zero_block, normal, normal_if}
use Rattle.mdr_model.specs.Copies.{held, died, without, inserted, with_news, is_named, news_of}
use Rattle.mdr_model.specs.Agreement.{cell_zero, names_it, is_named_in, has, news_at, is_told, NewsRise, SerialsRise}

-- ---- one block dies

pub names-swept : (d : ℕ) (o : Option Wire) (s : ℕ) → names_it s (option_map (swept d) o) ≡ (names_it s o && not (d == s))
unfolding names_it
names-swept d None s = refl
names-swept d (Some (wire.Ptr p)) s = grind (arith, eqb-true p.serial s)
names-swept d (Some (wire.Int k n)) s = refl
names-swept d (Some wire.Null) s = refl
names-swept d (Some wire.Dead) s = refl
names-swept d (Some (wire.Fn f)) s = refl
names-swept d (Some (wire.Lock l)) s = refl
names-swept d (Some wire.NoValue) s = refl

pub born_at-killed : (d : ℕ) (m : Memory) (s : ℕ) → born_at (killed d m) s ≡ cond (d == s) None (born_at m s)
unfolding killed born_at
born_at-killed d [] s = grind arith
born_at-killed d (b ∷ m) s = of (b.born.serial == d) refl (born_at-killed d m s)
  where
    of : (t : Bool) → (b.born.serial == d) ≡ t → born_at (killed d m) s ≡ cond (d == s) None (born_at m s)
        → born_at (cond t (killed d m) (swept_block d b ∷ killed d m)) s ≡ cond (d == s) None (cond (b.born.serial == s) (Some b.born) (born_at m s))
    of true e later = grind (arith, eqb-true b.born.serial d, eqb-true b.born.serial s)
    of false e later = grind (arith, eqb-true d s)

pub some-swept : (d : ℕ) (o : Option Wire) → is_some (option_map (swept d) o) ≡ is_some o
some-swept d None = refl
some-swept d (Some v) = refl

pub get-map : {A B : Type 0} (f : A → B) (xs : List A) (i : ℕ) → slice_get (map f xs) i ≡ option_map f (slice_get xs i)
get-map f [] i = refl
get-map f (x ∷ xs) zero = refl
get-map f (x ∷ xs) (suc i) = get-map f xs i

pub cell_at-killed : (d : ℕ) (m : Memory) (c : Cell) → cell_at (killed d m) c ≡ cond (d == c.serial) None (option_map (swept d) (cell_at m c))
unfolding killed cell_at
cell_at-killed d [] c = grind arith
cell_at-killed d (b ∷ m) c = of (b.born.serial == d) refl (cell_at-killed d m c)
  where
    of : (t : Bool) → (b.born.serial == d) ≡ t → cell_at (killed d m) c ≡ cond (d == c.serial) None (option_map (swept d) (cell_at m c))
        → cell_at (cond t (killed d m) (swept_block d b ∷ killed d m)) c ≡ cond (d == c.serial) None (option_map (swept d) (cond (b.born.serial == c.serial) (slice_get b.cells c.index) (cell_at m c)))
    of true e later = grind (arith, eqb-true b.born.serial d, eqb-true b.born.serial c.serial)
    of false e later = grind (arith, eqb-true d c.serial, get-map (swept d) b.cells c.index)

pub rises-killed : (d : ℕ) (m : Memory) → SerialsRise m → SerialsRise (killed d m)
unfolding killed is_live
rises-killed d [] r = tt
rises-killed d (b ∷ m) r = of (b.born.serial == d) (rises-killed d m r.1)
  where
    of : (t : Bool) → SerialsRise (killed d m) → SerialsRise (cond t (killed d m) (swept_block d b ∷ killed d m))
    of true later = later
    of false later = (λ s h. grind (arith, r.0 s, born_at-killed d m s), later)

-- ---- some die

pub has-died : (copy m : Memory) (s : ℕ) → has (died copy m) s ≡ (is_live copy s && not (is_live m s))
unfolding has died is_live born_at
has-died [] m s = refl
has-died (b ∷ copy) m s = of (is_live m b.born.serial) refl (has-died copy m s)
  where
    of : (t : Bool) → is_live m b.born.serial ≡ t → has (died copy m) s ≡ (is_live copy s && not (is_live m s))
        → has (cond t (died copy m) (b.born.serial ∷ died copy m)) s ≡ (is_some (cond (b.born.serial == s) (Some b.born) (born_at copy s)) && not (is_live m s))
    of true e later = grind (arith, eqb-true b.born.serial s)
    of false e later = grind (arith, eqb-true b.born.serial s)

pub born_at-without : (ds : List ℕ) (copy : Memory) (s : ℕ) → born_at (without ds copy) s ≡ cond (has ds s) None (born_at copy s)
unfolding without has
born_at-without [] copy s = refl
born_at-without (d ∷ ds) copy s = grind (arith, born_at-without ds (killed d copy) s, born_at-killed d copy s)

-- a value when each of these died
unfoldable pub sweeps : List ℕ → Option Wire → Option Wire
sweeps [] o = o
sweeps (d ∷ ds) o = sweeps ds (option_map (swept d) o)

sweeps_none : (ds : List ℕ) → sweeps ds None ≡ None
unfolding sweeps
sweeps_none [] = refl
sweeps_none (d ∷ ds) = sweeps_none ds

pub cell_at-without : (ds : List ℕ) (copy : Memory) (c : Cell) → cell_at (without ds copy) c ≡ cond (has ds c.serial) None (sweeps ds (cell_at copy c))
unfolding without has sweeps
cell_at-without [] copy c = refl
cell_at-without (d ∷ ds) copy c = grind (arith, cell_at-without ds (killed d copy) c, cell_at-killed d copy c, sweeps_none ds)

pub names-sweeps : (ds : List ℕ) (o : Option Wire) (s : ℕ) → names_it s (sweeps ds o) ≡ (names_it s o && not (has ds s))
unfolding sweeps has
names-sweeps [] o s = grind arith
names-sweeps (d ∷ ds) o s = grind (arith, names-sweeps ds (option_map (swept d) o) s, names-swept d o s)

pub some-sweeps : (ds : List ℕ) (o : Option Wire) → is_some (sweeps ds o) ≡ is_some o
unfolding sweeps
some-sweeps [] o = refl
some-sweeps (d ∷ ds) None = some-sweeps ds None
some-sweeps (d ∷ ds) (Some v) = some-sweeps ds (Some (swept d v))

pub sweeps_pointer : (ds : List ℕ) (p : WireView) → sweeps ds (Some (wire.Ptr p)) ≡ cond (has ds p.serial) (Some wire.Dead) (Some (wire.Ptr p))
unfolding sweeps has
sweeps_pointer [] p = refl
sweeps_pointer (d ∷ ds) p = of (p.serial == d) refl (sweeps_pointer ds p)
  where
    dead : (xs : List ℕ) → sweeps xs (Some wire.Dead) ≡ Some wire.Dead
    dead [] = refl
    dead (x ∷ xs) = dead xs

    of : (t : Bool) → (p.serial == d) ≡ t → sweeps ds (Some (wire.Ptr p)) ≡ cond (has ds p.serial) (Some wire.Dead) (Some (wire.Ptr p))
        → sweeps ds (Some (cond t wire.Dead (wire.Ptr p))) ≡ cond ((d == p.serial) || has ds p.serial) (Some wire.Dead) (Some (wire.Ptr p))
    of true e later = dead ds ∙ grind (arith, eqb-true p.serial d, eq-eqb d p.serial)
    of false e later = later ∙ grind (arith, eqb-true d p.serial, eq-eqb p.serial d)

-- any other value stays
pub sweeps_other : (ds : List ℕ) (o : Option Wire) → ((d : ℕ) → option_map (swept d) o ≡ o) → sweeps ds o ≡ o
unfolding sweeps
sweeps_other [] o h = refl
sweeps_other (d ∷ ds) o h = ap (sweeps ds) (h d) ∙ sweeps_other ds o h

pub rises-without : (ds : List ℕ) (copy : Memory) → SerialsRise copy → SerialsRise (without ds copy)
unfolding without
rises-without [] copy r = r
rises-without (d ∷ ds) copy r = rises-without ds (killed d copy) (rises-killed d copy r)

-- ---- births

pub born_at-inserted : (b : MemoryBlock) (m : Memory) (s : ℕ) → born_at (inserted b m) s ≡ cond (b.born.serial == s) (Some b.born) (born_at m s)
unfolding inserted born_at
born_at-inserted b [] s = refl
born_at-inserted b (x ∷ m) s = grind (arith, born_at-inserted b m s, eqb-true b.born.serial s, eqb-true x.born.serial s)

pub cell_at-inserted : (b : MemoryBlock) (m : Memory) (c : Cell) → cell_at (inserted b m) c ≡ cond (b.born.serial == c.serial) (slice_get b.cells c.index) (cell_at m c)
unfolding inserted cell_at
cell_at-inserted b [] c = refl
cell_at-inserted b (x ∷ m) c = grind (arith, cell_at-inserted b m c, eqb-true b.born.serial c.serial, eqb-true x.born.serial c.serial)

pub rises-inserted : (b : MemoryBlock) (m : Memory) → is_live m b.born.serial ≡ false → SerialsRise m → SerialsRise (inserted b m)
unfolding inserted is_live born_at
rises-inserted b [] new r = (λ s h. grind arith, tt)
rises-inserted b (x ∷ m) new r = of (nat_le b.born.serial x.born.serial) refl (rises-inserted b m)
  where
    of : (t : Bool) → nat_le b.born.serial x.born.serial ≡ t → (is_live m b.born.serial ≡ false → SerialsRise m → SerialsRise (inserted b m)) → SerialsRise (cond t (b ∷ x ∷ m) (x ∷ inserted b m))
    of true e later = (λ s h. grind (arith, r.0 s, eqb-true x.born.serial s, eq-eqb x.born.serial b.born.serial), r)
    of false e later = (λ s h. grind (arith, r.0 s, eqb-true b.born.serial s, born_at-inserted b m s), later (grind arith) r.1)

abbrev pub first_of : {A : Type 0} → Option A → Option A → Option A
first_of (Some x) o = Some x
first_of None o = o

pub born_at-news : (program : Program) (news : List New) (m : Memory) (s : ℕ) → born_at (with_news program news m) s ≡ first_of (news_at news s) (born_at m s)
unfolding with_news
born_at-news program [] m s = refl
born_at-news program (n ∷ news) m s = grind (arith, born_at-news program news m s, born_at-inserted (zero_block program n) (with_news program news m) s)

-- a list has the places below its length
pub there : {A : Type 0} (xs : List A) (i : ℕ) → is_some (slice_get xs i) ≡ nat_lt i (length xs)
there [] i = grind arith
there (x ∷ xs) zero = grind arith
there (x ∷ xs) (suc i) = grind (arith, there xs i)

zero_is : (t : Ty-F Ty) (s : ℕ) → names_block s (wire_of (zero_by t)) ≡ false
zero_is (Ty-F.Int k) s = refl
zero_is Ty-F.Lock s = refl
zero_is (Ty-F.Struct n) s = refl
zero_is (Ty-F.Ptr t) s = refl
zero_is Ty-F.VoidPtr s = refl
zero_is (Ty-F.Fun ts) s = refl
zero_is Ty-F.Void s = refl

-- a zero names no block
pub zero_names : (program : Program) (n : New) (i s : ℕ) → names_it s (cell_zero program n i) ≡ false
unfolding names_it cell_zero
zero_names program n i s = of (leaf_at program n i)
  where
    of : (o : Option Leaf) → names_it s (option_map zero_of o) ≡ false
    of None = refl
    of (Some leaf) = zero_is (out-Ty leaf.type) s

-- each cell has one
pub zero_there : (program : Program) (n : New) (i : ℕ) → is_some (cell_zero program n i) ≡ nat_lt i (size_of program n)
unfolding cell_zero
zero_there program n i = of (leaf_at program n i) ∙ there (leaves_of program n) i
  where
    of : (o : Option Leaf) → is_some (option_map zero_of o) ≡ is_some o
    of None = refl
    of (Some leaf) = refl

-- what a cell of the copy holds when this block was told, if any
abbrev pub zero_cell : Program → Option New → ℕ → Option Wire → Option Wire
zero_cell program None i o = o
zero_cell program (Some n) i o = cell_zero program n i

pub zero_block-get : (program : Program) (n : New) (i : ℕ) → slice_get (zero_block program n).cells i ≡ cell_zero program n i
unfolding cell_zero
zero_block-get program n i = get-map zero_of (leaves_of program n) i

pub cell_at-news : (program : Program) (news : List New) (m : Memory) (c : Cell) → cell_at (with_news program news m) c ≡ zero_cell program (news_at news c.serial) c.index (cell_at m c)
unfolding with_news
cell_at-news program [] m c = refl
cell_at-news program (n ∷ news) m c =
    of (n.serial == c.serial) refl (cell_at-news program news m c)
  where
    of : (t : Bool) → (n.serial == c.serial) ≡ t → cell_at (with_news program news m) c ≡ zero_cell program (news_at news c.serial) c.index (cell_at m c)
        → cell_at (inserted (zero_block program n) (with_news program news m)) c ≡ zero_cell program (cond (n.serial == c.serial) (Some n) (news_at news c.serial)) c.index (cell_at m c)
    of true e later = cell_at-inserted (zero_block program n) (with_news program news m) c ∙ rw e (zero_block-get program n c.index)
    of false e later = cell_at-inserted (zero_block program n) (with_news program news m) c ∙ rw e later

pub rises-news : (program : Program) (news : List New) (m : Memory) → NewsRise news → ((s : ℕ) → is_told news s ≡ true → is_live m s ≡ false) → SerialsRise m → SerialsRise (with_news program news m)
unfolding with_news is_live is_told
rises-news program [] m q new r = r
rises-news program (n ∷ news) m q new r =
    rises-inserted (zero_block program n) (with_news program news m) (grind (arith, born_at-news program news m n.serial, q.0 n.serial, new n.serial, eq-eqb n.serial n.serial refl)) (rises-news program news m q.1 (λ s h. new s (grind arith)) r)

-- ---- which blocks are told

pub news_at-news : (left : Memory) (values : List Wire) (m : Memory) (s : ℕ) → news_at (news_of left values m) s ≡ cond (not (is_live left s) && is_named values s) (born_at m s) None
unfolding news_of born_at
news_at-news left values [] s = grind arith
news_at-news left values (b ∷ m) s = of (not (is_live left b.born.serial) && is_named values b.born.serial) refl (news_at-news left values m s)
  where
    of : (t : Bool) → (not (is_live left b.born.serial) && is_named values b.born.serial) ≡ t → news_at (news_of left values m) s ≡ cond (not (is_live left s) && is_named values s) (born_at m s) None
        → news_at (cond t (b.born ∷ news_of left values m) (news_of left values m)) s ≡ cond (not (is_live left s) && is_named values s) (cond (b.born.serial == s) (Some b.born) (born_at m s)) None
    of true e later = grind (arith, eqb-true b.born.serial s)
    of false e later = grind (arith, eqb-true b.born.serial s)

pub news-rise : (left : Memory) (values : List Wire) (m : Memory) → SerialsRise m → NewsRise (news_of left values m)
unfolding news_of is_live is_told
news-rise left values [] r = tt
news-rise left values (b ∷ m) r = of (not (is_live left b.born.serial) && is_named values b.born.serial) (news-rise left values m r.1)
  where
    of : (t : Bool) → NewsRise (news_of left values m) → NewsRise (cond t (b.born ∷ news_of left values m) (news_of left values m))
    of true later = (λ s h. grind (arith, r.0 s, news_at-news left values m s), later)
    of false later = later

named-append : (s : ℕ) (vs ws : List Wire) → is_named (vs ++ ws) s ≡ (is_named vs s || is_named ws s)
named-append s [] ws = refl
named-append s (v ∷ vs) ws = grind (arith, named-append s vs ws)

pub names-held : (m : Memory) (c : Cell) (s : ℕ) → names_block s (held m c) ≡ names_it s (cell_at m c)
unfolding held names_it
names-held m c s = of (cell_at m c)
  where
    of : (o : Option Wire) → names_block s (unwrap_or o wire.NoValue) ≡ names_it s o
    of None = refl
    of (Some v) = refl

named-held : (m : Memory) (cells : List Cell) (s : ℕ) → is_named (map (held m) cells) s ≡ is_named_in cells m s
unfolding is_named_in
named-held m [] s = refl
named-held m (c ∷ cells) s = grind (arith, names-held m c s, named-held m cells s)

-- the values of a message, and of cells
pub named_values : (m : Memory) (values : List Wire) (cells : List Cell) (s : ℕ) → is_named (values ++ map (held m) cells) s ≡ (is_named values s || is_named_in cells m s)
named_values m values cells s = grind (arith, named-append s values (map (held m) cells), named-held m cells s)

-- a value as it is kept names the live blocks alone
pub names-normal : (m : Memory) (v : Wire) (s : ℕ) → names_block s (normal m v) ≡ (names_block s v && is_live m s)
unfolding normal
names-normal m (wire.Ptr p) s = of (is_live m p.serial) refl
  where
    of : (t : Bool) → is_live m p.serial ≡ t → names_block s (normal_if (is_live m p.serial) p) ≡ ((p.serial == s) && is_live m s)
    of true e = grind (arith, eqb-true p.serial s)
    of false e = grind (arith, eqb-true p.serial s)
names-normal m (wire.Int k n) s = refl
names-normal m wire.Null s = refl
names-normal m wire.Dead s = refl
names-normal m (wire.Fn f) s = refl
names-normal m (wire.Lock l) s = refl
names-normal m wire.NoValue s = refl
