-- M1: what holds after a message of the kernel half, whatever its code has left.
use Rattle.std.proofs.Common.{◌≡◌, ℕ, Bool, true, false, cond, not, ◌&&◌, ◌||◌, List, [], ◌∷◌, ◌++◌, map, is_some, Option, Some, None, refl, sym, ◌∙◌, ap, arith}
use Rattle.std.specs.List.{list_any}
use Rattle.std.proofs.lemmas.Bool.{eq-eqb}
use Rattle.mdr_core.specs.declared.program.Program.{Program}
use Rattle.mdr_meaning.specs.declared.wire.Wire.{Wire}
use Rattle.mdr_model.specs.declared.message.New.{New}
use Rattle.mdr_model.specs.Values.{names_block}
use Rattle.mdr_model.specs.Memory.{Memory, Cell, born_at, is_live, cell_at}
use Rattle.mdr_model.specs.Sets.{is_in}
use Rattle.mdr_model.specs.Copies.{held, has_changed, changed_cells, changes, put_runs, died, with_news, is_named, left_of, changed_values, told_news, begun_copy, tells, agreed_after}
use Rattle.mdr_model.specs.Agreement.{has_index, names_it, is_named_in, SerialsRise, IsFormed, MayFollow, Serials, IsAgreed, IsShown, news_at, is_told, DeathsRise, NewsRise, IsAccepted, MayBeTold, learnt, IsShared}
use Rattle.mdr_model.proofs.CopyLaws.{same_cell, is_in-changed, unchanged, cell_at-changes, born_at-put_runs, rises-put_runs}
use Rattle.mdr_model.proofs.LifeLaws.{has-died, born_at-without, cell_at-without, names-sweeps, some-sweeps, rises-without, born_at-news, zero_names, zero_there, cell_at-news, rises-news, news_at-news, news-rise, names-held, named_values}

-- ---- the kernel half works

pub follows : {program : Program} {known : Serials} {next next' : ℕ} {copy m m' : Memory} → IsAgreed program known next copy m → MayFollow program next m next' m' → IsAgreed program known next' copy m'
unfolding is_live
follows a f = record {
  copied = a.copied;
  formed = f.formed;
  born = λ s h k. grind (arith, a.born s, a.knows s h, a.told s, f.old s);
  knows = a.knows;
  paired = λ s h k. grind (arith, a.paired s h, a.told s h, f.old s k);
  told = λ s h. omega (arith, a.told s h, f.later);
  low = f.low;
}

-- ---- what is left of the copy

pub live-left : (copy m : Memory) (s : ℕ) → is_live (left_of copy m) s ≡ (is_live copy s && is_live m s)
unfolding left_of is_live
live-left copy m s = grind (arith, born_at-without (died copy m) copy s, has-died copy m s)

pub born_at-left : (copy m : Memory) (s : ℕ) → is_live m s ≡ true → born_at (left_of copy m) s ≡ born_at copy s
unfolding left_of is_live
born_at-left copy m s h = grind (arith, born_at-without (died copy m) copy s, has-died copy m s)

pub formed-left : {program : Program} (copy m : Memory) → IsFormed program copy → IsFormed program (left_of copy m)
unfolding left_of is_live names_it
formed-left copy m f = record {
  rises = rises-without (died copy m) copy f.rises;
  sized = λ c. grind (arith, f.sized c, cell_at-without (died copy m) copy c, some-sweeps (died copy m) (cell_at copy c), born_at-without (died copy m) copy c.serial);
  closed = λ c s h. grind (arith, f.closed c s, cell_at-without (died copy m) copy c, names-sweeps (died copy m) (cell_at copy c) s, born_at-without (died copy m) copy s);
}

-- ---- and the blocks that are told

-- a value of the message, or a visible cell that changed, names the block
abbrev pub is_named_now : List Cell → List Wire → Memory → Memory → ℕ → Bool
is_named_now view values copy m s = is_named values s || is_named_in (changed_cells view (left_of copy m) m) m s

pub news_at-told : (view : List Cell) (values : List Wire) (copy m : Memory) (s : ℕ)
    → news_at (told_news view values copy m) s ≡ cond (not (is_live (left_of copy m) s) && is_named_now view values copy m s) (born_at m s) None
unfolding told_news changed_values
news_at-told view values copy m s =
    news_at-news (left_of copy m) (values ++ map (held m) (changed_cells view (left_of copy m) m)) m s
    ∙ ap (λ (b : Bool). cond (not (is_live (left_of copy m) s) && b) (born_at m s) None) (named_values m values (changed_cells view (left_of copy m) m) s)

told-rise : (view : List Cell) (values : List Wire) (copy m : Memory) → SerialsRise m → NewsRise (told_news view values copy m)
unfolding told_news
told-rise view values copy m r = news-rise (left_of copy m) (values ++ changed_values view (left_of copy m) m) m r

deaths-rise : (copy m : Memory) → SerialsRise copy → DeathsRise (died copy m)
unfolding died is_live
deaths-rise [] m r = tt
deaths-rise (b ∷ copy) m r = of (is_live m b.born.serial) (deaths-rise copy m r.1)
  where
    of : (t : Bool) → DeathsRise (died copy m) → DeathsRise (cond t (died copy m) (b.born.serial ∷ died copy m))
    of true later = later
    of false later = (λ s h. grind (arith, r.0 s, has-died copy m s), later)

pub is_told-told : (view : List Cell) (values : List Wire) (copy m : Memory) (s : ℕ)
    → is_told (told_news view values copy m) s ≡ (is_live m s && not (is_live copy s) && is_named_now view values copy m s)
unfolding is_told is_live
is_told-told view values copy m s = grind (arith, news_at-told view values copy m s, live-left copy m s)

-- the user half accepts what is told of births and deaths
pub accepted : {known : Serials} {next : ℕ} (program : Program) (view : List Cell) (values : List Wire) (copy m : Memory) → IsAgreed program known next copy m → IsAccepted known (tells program view values copy m) copy
unfolding tells
accepted program view values copy m a = record {
  deaths_rise = deaths-rise copy m a.copied.rises;
  deaths_paired = λ s h. grind (arith, has-died copy m s);
  news_rise = told-rise view values copy m a.formed.rises;
  news_unknown = λ s h. grind (arith, is_told-told view values copy m s, a.paired s);
}

pub live-begun : (program : Program) (view : List Cell) (values : List Wire) (copy m : Memory) (s : ℕ)
    → is_live (begun_copy program view values copy m) s ≡ (is_live m s && (is_live copy s || is_named_now view values copy m s))
unfolding begun_copy is_live
live-begun program view values copy m s = grind (arith, born_at-news program (told_news view values copy m) (left_of copy m) s, news_at-told view values copy m s, live-left copy m s)

pub born_at-begun : (program : Program) (view : List Cell) (values : List Wire) (copy m : Memory) (s : ℕ) → (is_live copy s ≡ true → is_live m s ≡ true → born_at m s ≡ born_at copy s)
    → is_live (begun_copy program view values copy m) s ≡ true → born_at (begun_copy program view values copy m) s ≡ born_at m s
unfolding begun_copy is_live
born_at-begun program view values copy m s born h =
    grind (arith, born_at-news program (told_news view values copy m) (left_of copy m) s, news_at-told view values copy m s, live-left copy m s, born_at-left copy m s)

pub formed-begun : {known : Serials} {next : ℕ} (program : Program) (view : List Cell) (values : List Wire) (copy m : Memory) → IsAgreed program known next copy m → IsFormed program (begun_copy program view values copy m)
unfolding begun_copy is_live names_it
formed-begun program view values copy m a =
    let left : IsFormed program (left_of copy m) = formed-left copy m a.copied in
    let news : List New = told_news view values copy m in
    record {
      rises = rises-news program news (left_of copy m) (told-rise view values copy m a.formed.rises) (λ s h. grind (arith, is_told-told view values copy m s, live-left copy m s)) left.rises;
      sized = λ c. sized_at c (news_at news c.serial) refl;
      closed = λ c s h. closed_at c s (news_at news c.serial) refl h;
    }
  where
    sized_at : (c : Cell) (o : Option New) → news_at (told_news view values copy m) c.serial ≡ o
        → is_some (cell_at (with_news program (told_news view values copy m) (left_of copy m)) c) ≡ has_index program (born_at (with_news program (told_news view values copy m) (left_of copy m)) c.serial) c.index
    sized_at c None e = grind (arith, (formed-left copy m a.copied).sized c, cell_at-news program (told_news view values copy m) (left_of copy m) c, born_at-news program (told_news view values copy m) (left_of copy m) c.serial)
    sized_at c (Some n) e = grind (arith, cell_at-news program (told_news view values copy m) (left_of copy m) c, born_at-news program (told_news view values copy m) (left_of copy m) c.serial, zero_there program n c.index)

    closed_at : (c : Cell) (s : ℕ) (o : Option New) → news_at (told_news view values copy m) c.serial ≡ o
        → names_it s (cell_at (with_news program (told_news view values copy m) (left_of copy m)) c) ≡ true → is_live (with_news program (told_news view values copy m) (left_of copy m)) s ≡ true
    closed_at c s o e h = grind (
      arith,
      (formed-left copy m a.copied).closed c s,
      cell_at-news program (told_news view values copy m) (left_of copy m) c,
      born_at-news program (told_news view values copy m) (left_of copy m) s,
      zero_names program,
    )

pub found_any : (p : Cell → Bool) (xs : List Cell) (c : Cell) → is_in xs c ≡ true → p c ≡ true → list_any p xs ≡ true
unfolding is_in
found_any p [] c h e = grind arith
found_any p (x ∷ xs) c h e = grind (arith, same_cell c x, found_any p xs c)

-- a cell that hasn't changed names what it named
named_still : (left m : Memory) (c : Cell) (s : ℕ) → has_changed left m c ≡ false → names_it s (cell_at left c) ≡ names_it s (cell_at m c)
named_still left m c s e = sym (names-held left c s) ∙ ap (λ (v : Wire). names_block s v) (unchanged left m c e) ∙ names-held m c s

-- what a cell of the set names is told: no block is missing
pub view_told : {known : Serials} {next : ℕ} (program : Program) (view : List Cell) (values : List Wire) (copy m : Memory) (c : Cell) (s : ℕ) → IsAgreed program known next copy m
    → is_in view c ≡ true → names_it s (cell_at m c) ≡ true → is_live (begun_copy program view values copy m) s ≡ true
unfolding is_named_in
view_told program view values copy m c s a inside named =
    let left : IsFormed program (left_of copy m) = formed-left copy m a.copied in
    grind (
      arith,
      a.formed.closed c s named,
      live-begun program view values copy m s,
      live-left copy m s,
      left.closed c s,
      is_in-changed view (left_of copy m) m c,
      named_still (left_of copy m) m c s,
      found_any (λ d. names_it s (cell_at m d)) (changed_cells view (left_of copy m) m) c,
    )

-- ---- and the cells that changed

-- both sides have this copy after the message
abbrev pub after : Program → List Cell → List Wire → Memory → Memory → Memory
after program view values copy m = agreed_after program (tells program view values copy m) copy

after-is : (program : Program) (view : List Cell) (values : List Wire) (copy m : Memory)
    → after program view values copy m ≡ put_runs (changes view (begun_copy program view values copy m) m) (begun_copy program view values copy m)
unfolding agreed_after tells begun_copy left_of
after-is program view values copy m = refl

pub born_at-after : (program : Program) (view : List Cell) (values : List Wire) (copy m : Memory) (s : ℕ) → born_at (after program view values copy m) s ≡ born_at (begun_copy program view values copy m) s
born_at-after program view values copy m s = ap (λ (x : Memory). born_at x s) (after-is program view values copy m) ∙ born_at-put_runs _ _ s

any_found : (p : Cell → Bool) (xs : List Cell) → list_any p xs ≡ true → (c : Cell) × (is_in xs c ≡ true) × (p c ≡ true)
unfolding is_in
any_found p [] e = grind arith
any_found p (x ∷ xs) e = of (p x) refl (any_found p xs)
  where
    of : (t : Bool) → p x ≡ t → (list_any p xs ≡ true → (c : Cell) × (is_in xs c ≡ true) × (p c ≡ true)) → (c : Cell) × (is_in (x ∷ xs) c ≡ true) × (p c ≡ true)
    of true h later = (x, grind (arith, eq-eqb x.serial x.serial refl, eq-eqb x.index x.index refl), h)
    of false h later = let one = later (grind arith) in (one.0, grind (arith, one.1), one.2)

-- each cell of the set lies in a block that both sides have
pub placed : {known : Serials} {next : ℕ} (program : Program) (view : List Cell) (values : List Wire) (copy m : Memory) (c : Cell) → IsAgreed program known next copy m → IsShown view values copy m
    → is_in view c ≡ true → is_live (begun_copy program view values copy m) c.serial ≡ true
unfolding is_named_in
placed program view values copy m c a shown inside = of (list_any (λ d. names_it c.serial (cell_at m d)) view) refl
  where
    of : (t : Bool) → list_any (λ d. names_it c.serial (cell_at m d)) view ≡ t → is_live (begun_copy program view values copy m) c.serial ≡ true
    of true h = let d = any_found (λ d. names_it c.serial (cell_at m d)) view h in view_told program view values copy m d.0 c.serial a d.1 d.2
    of false h = grind (arith, shown c inside, live-begun program view values copy m c.serial)

pub cell_at-after : {known : Serials} {next : ℕ} (program : Program) (view : List Cell) (values : List Wire) (copy m : Memory) (c : Cell) → IsAgreed program known next copy m → IsShown view values copy m
    → cell_at (after program view values copy m) c ≡ cond (is_in view c) (cell_at m c) (cell_at (begun_copy program view values copy m) c)
cell_at-after program view values copy m c a shown =
    ap (λ (x : Memory). cell_at x c) (after-is program view values copy m)
    ∙ cell_at-changes view (begun_copy program view values copy m) m (begun_copy program view values copy m) c
    (λ h. grind (arith, (formed-begun program view values copy m a).sized c, a.formed.sized c, born_at-begun program view values copy m c.serial (a.born c.serial) (placed program view values copy m c a shown h))) (λ h. refl)

pub live-after : (program : Program) (view : List Cell) (values : List Wire) (copy m : Memory) (s : ℕ)
    → is_live (after program view values copy m) s ≡ (is_live m s && (is_live copy s || is_named_now view values copy m s))
unfolding is_live
live-after program view values copy m s = grind (arith, born_at-after program view values copy m s, live-begun program view values copy m s)

rises-after : {known : Serials} {next : ℕ} (program : Program) (view : List Cell) (values : List Wire) (copy m : Memory) → IsAgreed program known next copy m → SerialsRise (after program view values copy m)
unfolding agreed_after tells begun_copy left_of
rises-after program view values copy m a = rises-put_runs (changes view (begun_copy program view values copy m) m) (begun_copy program view values copy m) (formed-begun program view values copy m a).rises

pub formed-after : {known : Serials} {next : ℕ} (program : Program) (view : List Cell) (values : List Wire) (copy m : Memory) → IsAgreed program known next copy m → IsShown view values copy m → IsFormed program (after program view values copy m)
formed-after program view values copy m a shown =
    let start : IsFormed program (begun_copy program view values copy m) = formed-begun program view values copy m a in record {
      rises = rises-after program view values copy m a;
      sized = λ c. grind (arith, start.sized c, a.formed.sized c, cell_at-after program view values copy m c a shown, born_at-after program view values copy m c.serial, born_at-begun program view values copy m c.serial (a.born c.serial), placed program view values copy m c a shown);
      closed = λ c s h. grind (arith, start.closed c s, cell_at-after program view values copy m c a shown, live-after program view values copy m s, live-begun program view values copy m s, view_told program view values copy m c s a);
    }

-- after the message both sides agree on what was told
pub agree-after : {known : Serials} {next : ℕ} (program : Program) (view : List Cell) (values : List Wire) (copy m : Memory) → IsAgreed program known next copy m → IsShown view values copy m
    → IsAgreed program (learnt known (told_news view values copy m)) next (after program view values copy m) m
unfolding learnt
agree-after program view values copy m a shown = record {
  copied = formed-after program view values copy m a shown;
  formed = a.formed;
  born = λ s h k. grind (arith, born_at-after program view values copy m s, born_at-begun program view values copy m s (a.born s), live-after program view values copy m s, live-begun program view values copy m s);
  knows = λ s h. grind (arith, live-after program view values copy m s, is_told-told view values copy m s, a.knows s);
  paired = λ s h k. grind (arith, live-after program view values copy m s, is_told-told view values copy m s, a.paired s);
  told = λ s h. grind (arith, is_told-told view values copy m s, a.told s, a.low s);
  low = a.low;
}

-- a copy that has what the memory has in a set is shared with it
pub shared_of : {program : Program} {known : Serials} {next : ℕ} (view : List Cell) (copy m : Memory) → IsAgreed program known next copy m → ((s : ℕ) → is_live copy s ≡ true → is_live m s ≡ true)
    → ((c : Cell) → is_in view c ≡ true → is_live copy c.serial ≡ true) → ((c : Cell) → is_in view c ≡ true → cell_at copy c ≡ cell_at m c) → IsShared program known next view copy m m copy
shared_of view copy m a live there same = record {
  agree = a;
  whole = a.formed;
  user = a.copied;
  live = live;
  placed = there;
  user_born = λ s. refl;
  whole_born = λ s. refl;
  user_cells = λ c. grind (arith, same c);
  kernel_cells = λ c. grind (arith, same c);
}

-- M1: after the message the user half may go on, with the cells of the set as they are
pub message : {known : Serials} {next : ℕ} (program : Program) (view : List Cell) (values : List Wire) (copy m : Memory) → IsAgreed program known next copy m → IsShown view values copy m
    → IsShared program (learnt known (told_news view values copy m)) next view (after program view values copy m) m m (after program view values copy m)
message program view values copy m a shown =
    shared_of view (after program view values copy m) m (agree-after program view values copy m a shown)
    (λ s h. grind (arith, live-after program view values copy m s))
    (λ c h. grind (arith, live-after program view values copy m c.serial, live-begun program view values copy m c.serial, placed program view values copy m c a shown h))
    (λ c h. grind (arith, cell_at-after program view values copy m c a shown))

-- and the user half may accept its cells
pub tellable : {known : Serials} {next : ℕ} (program : Program) (view : List Cell) (values : List Wire) (copy m : Memory) → IsAgreed program known next copy m → IsShown view values copy m
    → MayBeTold view (begun_copy program view values copy m) (begun_copy program view values copy m) m (changed_cells view (begun_copy program view values copy m) m)
tellable program view values copy m a shown =
    let begun : Memory = begun_copy program view values copy m in
    record {
      inside = λ c h. grind (arith, is_in-changed view begun m c);
      there = λ c h. grind (arith, is_in-changed view begun m c, (formed-begun program view values copy m a).sized c, a.formed.sized c, placed program view values copy m c a shown, born_at-begun program view values copy m c.serial (a.born c.serial));
      paired = λ c s h k. grind (arith, is_in-changed view begun m c, view_told program view values copy m c s a);
    }
