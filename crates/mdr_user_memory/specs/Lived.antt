-- protocol
-- The births and deaths of the user half's own memory, as messages tell them by the kernel's serials.
use Rattle.std.specs.Prelude.{◌≡◌, ℕ, cond, List, [], ◌∷◌, ◌++◌, map, length, Option, Some, None, option_map, ◌==◌}
use Rattle.mdr_core.specs.declared.program.Program.{Program}
use Rattle.mdr_core.specs.declared.value.Block.{Block}
use Rattle.mdr_mem.specs.declared.cells.Life.{Life}
use Rattle.mdr_mem.specs.declared.cells.Life.TheVariants as life
use Rattle.mdr_mem.specs.Contents.{births_in}
use Rattle.mdr_model.specs.declared.memory.MemoryBlock.{MemoryBlock}
use Rattle.mdr_model.specs.declared.message.New.{New}
use Rattle.mdr_model.specs.Memory.{Memory}
use Rattle.mdr_region.specs.RowsView.{Reserved}
use Rattle.mdr_track.specs.Pairs.{Pairs}
use Rattle.mdr_track.specs.Tracked.{Tracked, pairs_of}
use Rattle.mdr_user_memory.specs.declared.newborn.Newborn.{Newborn}
use Rattle.mdr_user_memory.specs.Taking.{newborn_of}

-- births and deaths so far, and which birth was that of a kernel's serial whose object lives
pub record Lived : Type 0 where
  pub lives : List Life
  pub own : ℕ → Option ℕ

abbrev pub none_lived : Lived
none_lived = record { lives = []; own = λ s. None }

-- the next birth is that of a serial
abbrev pub born : (serial cells : ℕ) → Lived → Lived
born serial cells l = record { lives = l.lives ++ life.Birth cells ∷ []; own = λ t. cond (serial == t) (Some (births_in l.lives)) (l.own t) }

-- the object of a serial dies, if it lives
abbrev pub died_at : Option ℕ → (serial : ℕ) → Lived → Lived
died_at None serial l = l
died_at (Some n) serial l = record { lives = l.lives ++ life.Death n ∷ []; own = λ t. cond (serial == t) None (l.own t) }

abbrev pub died : (serial : ℕ) → Lived → Lived
died serial l = died_at (l.own serial) serial l

-- one after the other
unfoldable pub all_died : List ℕ → Lived → Lived
all_died [] l = l
all_died (s ∷ serials) l = all_died serials (died s l)

unfoldable pub all_born : List Newborn → Lived → Lived
all_born [] l = l
all_born (x ∷ xs) l = all_born xs (born x.born.serial (length x.first) l)

-- the deaths of a message, and then its births
abbrev pub lived_with : List ℕ → List Newborn → Lived → Lived
lived_with deaths xs l = all_born xs (all_died deaths l)

abbrev pub lived_by : Program → List ℕ → List New → Lived → Lived
lived_by program deaths news l = lived_with deaths (map (newborn_of program) news) l

-- the blocks of a copy are born in its order
unfoldable pub all_there : Memory → Lived → Lived
all_there [] l = l
all_there (b ∷ m) l = all_there m (born b.born.serial (length b.cells) l)

abbrev pub lived_of : Memory → Lived
lived_of copy = all_there copy none_lived

-- ---- a memory's own

abbrev pub own_of : Option Block → Option ℕ
own_of o = option_map (λ (b : Block). b.serial) o

-- these are a memory's births and deaths, by its pairs
pub record HasLived (l : Lived) (all : List Life) (ps : Pairs) : Type 0 where
  pub lives : all ≡ l.lives
  pub own : (s : ℕ) → own_of (ps.user_of s) ≡ l.own s

-- whatever births and deaths a memory had, it has then what is made of them
abbrev pub LivesOn : (Lived → Lived) → List Life → Pairs → List Life → Pairs → Type 0
LivesOn f all ps all' ps' = (l : Lived) → HasLived l all ps → HasLived (f l) all' ps'

-- the same of a region behind its tracker
abbrev pub LivesIn : (Lived → Lived) → Reserved → Tracked → Reserved → Tracked → Type 0
LivesIn f r ps r' ps' = LivesOn f r.contents.lives (pairs_of ps) r'.contents.lives (pairs_of ps')

-- what is still to be done from here on leads where the whole leads from the beginning
abbrev pub LivesLead : (whole rest : Lived → Lived) → List Life → Pairs → List Life → Pairs → Type 0
LivesLead whole rest all ps all' ps' = (all'' : List Life) (ps'' : Pairs) → LivesOn rest all' ps' all'' ps'' → LivesOn whole all ps all'' ps''
