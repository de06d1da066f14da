-- believed
-- How the copy that both halves agree on goes with their memories and with the whole run's, and what messages and replies keep. It is said of every memory that code of the kernel half can leave, and of every set of visible cells.
use Rattle.std.specs.Prelude.{◌≡◌, ℕ, suc, ◌<◌, ◌≤◌, Bool, true, false, cond, ◌&&◌, ◌||◌, List, [], ◌∷◌, Option, Some, None, length, is_some, option_map, ◌⊎◌, ◌==◌, nat_lt}
use Rattle.std.specs.List.{list_any, list_all}
use Rattle.mdr_core.specs.declared.program.Program.{Program}
use Rattle.mdr_meaning.specs.declared.wire.Wire.{Wire}
use Rattle.mdr_model.specs.declared.message.New.{New}
use Rattle.mdr_model.specs.declared.message.Told.{Told}
use Rattle.mdr_model.specs.Values.{names_block}
use Rattle.mdr_model.specs.Memory.{Memory, Cell, size_of, leaf_at, births, born_at, is_live, cell_at, put, killed, zero_of, zero_block, normal}
use Rattle.mdr_model.specs.Sets.{is_in}
use Rattle.mdr_model.specs.Copies.{inserted, is_named, changed_cells, told_news, begun_copy, tells, agreed_after, changes, put_runs}
use Rattle.mdr_model.specs.User.{has_shape, lives_fit}

-- ---- memories

-- what is in a cell, if anything, is a pointer into the block
unfoldable pub names_it : ℕ → Option Wire → Bool
names_it serial None = false
names_it serial (Some v) = names_block serial v

abbrev pub has_index : Program → Option New → ℕ → Bool
has_index program None i = false
has_index program (Some block) i = nat_lt i (size_of program block)

-- the blocks' serials rise
abbrev pub SerialsRise : Memory → Type 0
SerialsRise [] = Unit {0}
SerialsRise (b ∷ m) = ((serial : ℕ) → is_live m serial ≡ true → b.born.serial < serial) × SerialsRise m

-- serials rise, a block has as many cells as its shape says, and each pointer names a live block
pub record IsFormed (program : Program) (m : Memory) : Type 0 where
  pub rises : SerialsRise m
  pub sized : (c : Cell) → is_some (cell_at m c) ≡ has_index program (born_at m c.serial) c.index
  pub closed : (c : Cell) (serial : ℕ) → names_it serial (cell_at m c) ≡ true → is_live m serial ≡ true

-- all serials are below this one
abbrev pub IsBelow : ℕ → Memory → Type 0
IsBelow next m = (serial : ℕ) → is_live m serial ≡ true → serial < next

-- what code of the kernel half may leave, where `next` is the serial that the next block would have: old blocks die or stay as they were born, and new ones have serials from `next` on
pub record MayFollow (program : Program) (next : ℕ) (m : Memory) (next' : ℕ) (m' : Memory) : Type 0 where
  pub formed : IsFormed program m'
  pub later : next ≤ next'
  pub low : IsBelow next' m'
  pub old : (serial : ℕ) → is_live m' serial ≡ true → serial < next → born_at m' serial ≡ born_at m serial

-- ---- the kernel half has control

-- the serials that the user half was ever told, whether or not their blocks still live
abbrev pub Serials : Type 0
Serials = ℕ → Bool

-- a block of the copy is known, and where it lives it is as it was born; a known block that lives is in the copy. It may have died since: the copy learns of that with the next message
pub record IsAgreed (program : Program) (known : Serials) (next : ℕ) (copy m : Memory) : Type 0 where
  pub copied : IsFormed program copy
  pub formed : IsFormed program m
  pub born : (serial : ℕ) → is_live copy serial ≡ true → is_live m serial ≡ true → born_at m serial ≡ born_at copy serial
  pub knows : (serial : ℕ) → is_live copy serial ≡ true → known serial ≡ true
  pub paired : (serial : ℕ) → known serial ≡ true → is_live m serial ≡ true → is_live copy serial ≡ true
  pub told : (serial : ℕ) → known serial ≡ true → serial < next
  pub low : IsBelow next m

-- a cell of the set holds a pointer into the block
unfoldable pub is_named_in : List Cell → Memory → ℕ → Bool
is_named_in cells m serial = list_any (λ c. names_it serial (cell_at m c)) cells

-- which sets may be shown: each cell lies in a live block that the user half has, or that a value of the message or a cell of the set names
abbrev pub IsShown : List Cell → List Wire → Memory → Memory → Type 0
IsShown view values copy m =
    (c : Cell) → is_in view c ≡ true
    → (is_live m c.serial && (is_live copy c.serial || (is_named values c.serial || is_named_in view m c.serial))) ≡ true

-- ---- messages

unfoldable pub has : List ℕ → ℕ → Bool
has serials serial = list_any (λ s. s == serial) serials

abbrev pub news_at : List New → ℕ → Option New
news_at [] serial = None
news_at (n ∷ news) serial = cond (n.serial == serial) (Some n) (news_at news serial)

-- the block is among those that are told
unfoldable pub is_told : List New → ℕ → Bool
is_told news serial = is_some (news_at news serial)

abbrev pub DeathsRise : List ℕ → Type 0
DeathsRise [] = Unit {0}
DeathsRise (d ∷ deaths) = ((serial : ℕ) → has deaths serial ≡ true → d < serial) × DeathsRise deaths

abbrev pub NewsRise : List New → Type 0
NewsRise [] = Unit {0}
NewsRise (n ∷ news) = ((serial : ℕ) → is_told news serial ≡ true → n.serial < serial) × NewsRise news

-- what the user half asks of births and deaths: serials rise, the dead are blocks that it has, and it was never told of the new ones
pub record IsAccepted (known : Serials) (told : Told) (copy : Memory) : Type 0 where
  pub deaths_rise : DeathsRise told.deaths
  pub deaths_paired : (serial : ℕ) → has told.deaths serial ≡ true → is_live copy serial ≡ true
  pub news_rise : NewsRise told.news
  pub news_unknown : (serial : ℕ) → is_told told.news serial ≡ true → known serial ≡ false

-- cells that may be told: they are of the set, the receiver's memory has them, and a pointer in one names a block that both halves have. What the receiver asks besides is a matter of types
pub record MayBeTold (view : List Cell) (copy m now : Memory) (cells : List Cell) : Type 0 where
  pub inside : (c : Cell) → is_in cells c ≡ true → is_in view c ≡ true
  pub there : (c : Cell) → is_in cells c ≡ true → is_some (cell_at m c) ≡ is_some (cell_at now c)
  pub paired : (c : Cell) (serial : ℕ) → is_in cells c ≡ true → names_it serial (cell_at now c) ≡ true → (is_live copy serial && is_live m serial) ≡ true

-- what is known after a message
unfoldable pub learnt : Serials → List New → Serials
learnt known news serial = known serial || is_told news serial

-- ---- the user half has control

-- `m` is the kernel half's memory, `w` the whole run's, `u` the user half's: of the visible cells the user half has what the whole run has, and the kernel half what was agreed; of the others the other way round
pub record IsShared (program : Program) (known : Serials) (next : ℕ) (view : List Cell) (copy m w u : Memory) : Type 0 where
  pub agree : IsAgreed program known next copy m
  pub whole : IsFormed program w
  pub user : IsFormed program u
  pub live : (serial : ℕ) → is_live copy serial ≡ true → is_live m serial ≡ true
  pub placed : (c : Cell) → is_in view c ≡ true → is_live copy c.serial ≡ true
  pub user_born : (serial : ℕ) → born_at u serial ≡ born_at copy serial
  pub whole_born : (serial : ℕ) → born_at w serial ≡ born_at m serial
  pub user_cells : (c : Cell) → cell_at u c ≡ cond (is_in view c) (cell_at w c) (cell_at copy c)
  pub kernel_cells : (c : Cell) → cell_at m c ≡ cond (is_in view c) (cell_at copy c) (cell_at w c)

-- a value that user code may have
abbrev pub IsKnown : Serials → Wire → Type 0
IsKnown known v = (serial : ℕ) → names_block serial v ≡ true → known serial ≡ true

-- ---- services

-- the zero of a block's cell, where it has the cell
unfoldable pub cell_zero : Program → New → ℕ → Option Wire
cell_zero program n index = option_map zero_of (leaf_at program n index)

-- what a cell of a block holds when it is born
abbrev pub born_cell : Program → Option New → ℕ → Option Wire
born_cell program None i = None
born_cell program (Some n) i = cell_zero program n i

-- what a service may do to the visible cells, which are those of view' after it: each is an old one, in which a pointer whose block has died is a dead one, or lies in a new block that a result names, and is as it was born
pub record KeepsShown (program : Program) (next : ℕ) (view view' : List Cell) (results : List Wire) (w w' : Memory) : Type 0 where
  pub live : (c : Cell) → is_in view' c ≡ true → is_live w' c.serial ≡ true
  pub cells : (c : Cell) → is_in view' c ≡ true
      → ((is_in view c ≡ true) × (cell_at w' c ≡ option_map (normal w') (cell_at w c)))
      ⊎ ((next ≤ c.serial) × (is_named results c.serial ≡ true) × (cell_at w' c ≡ born_cell program (born_at w' c.serial) c.index))

-- ---- the laws

-- the globals live, and each live block has a type of the table and 1 to 65,536 cells
pub record AreBlocks (program : Program) (m : Memory) : Type 0 where
  pub globals : (serial : ℕ) → nat_lt serial (length program.globals) ≡ true → is_live m serial ≡ true
  pub shapes : list_all (has_shape program) (births m) ≡ true

-- what the steps of that code leave: a store of a value as it is kept, a death, the birth of a block of zeros with the next serial; none, and one after another
pub record StepsMayFollow : Type 0 where
  pub none : (program : Program) (next : ℕ) (m : Memory) → IsFormed program m → IsBelow next m → MayFollow program next m next m
  pub more : {program : Program} {next next' next'' : ℕ} {m m' m'' : Memory} → MayFollow program next m next' m' → MayFollow program next' m' next'' m'' → MayFollow program next m next'' m''
  pub store : (program : Program) (next : ℕ) (m : Memory) (c : Cell) (v : Wire) → IsFormed program m → IsBelow next m → MayFollow program next m next (put m c (normal m v))
  pub death : (program : Program) (next : ℕ) (m : Memory) (serial : ℕ) → IsFormed program m → IsBelow next m → MayFollow program next m next (killed serial m)
  pub birth :
      (program : Program) (m : Memory) (n : New) → IsFormed program m → IsBelow n.serial m
      → MayFollow program n.serial m (suc n.serial) (inserted (zero_block program n) m)

-- whatever code of the kernel half does in between, the user half accepts the message, and both halves have then the visible cells as they are
abbrev pub MessagesAgree : Type 0
MessagesAgree =
    (program : Program) (known : Serials) (next next' : ℕ) (view : List Cell) (values : List Wire) (copy m m' : Memory)
    → IsAgreed program known next copy m → MayFollow program next m next' m' → IsShown view values copy m'
    → IsAccepted known (tells program view values copy m') copy
    × (AreBlocks program m' → lives_fit program copy (tells program view values copy m').deaths (tells program view values copy m').news ≡ true)
    × MayBeTold view (begun_copy program view values copy m') (begun_copy program view values copy m') m'
    (changed_cells view (begun_copy program view values copy m') m')
    × IsShared program (learnt known (told_news view values copy m')) next' view
    (agreed_after program (tells program view values copy m') copy) m' m' (agreed_after program (tells program view values copy m') copy)

-- a reply's changes may be told, and storing them gives the whole run's memory in the kernel half and the user half's in the copy, and both halves agree on it
abbrev pub RepliesAgree : Type 0
RepliesAgree =
    (program : Program) (known : Serials) (next : ℕ) (view : List Cell) (copy m w u : Memory) → IsShared program known next view copy m w u
    → MayBeTold view copy m u (changed_cells view copy u)
    × (put_runs (changes view copy u) m ≡ w) × (put_runs (changes view copy u) copy ≡ u) × IsAgreed program known next u w

-- an answer to a service, which tells no cells: both halves have the visible ones as they are
abbrev pub AnswersAgree : Type 0
AnswersAgree =
    (program : Program) (known : Serials) (next next' : ℕ) (view view' : List Cell) (results : List Wire) (copy m w u w' : Memory)
    → IsShared program known next view copy m w u → MayFollow program next w next' w' → KeepsShown program next view view' results w w'
    → IsShared program (learnt known (told_news [] results u w')) next' view'
    (agreed_after program (tells program [] results u w') u) w' w' (agreed_after program (tells program [] results u w') u)
