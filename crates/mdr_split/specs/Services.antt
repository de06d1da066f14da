-- believed
-- What each service takes and gives, as messages carry it: one table, which both halves read.
use Rattle.std.specs.Prelude.{ℕ, ◌*◌, Bool, true, false, not, ◌&&◌, ◌==◌, nat_le, List, [], ◌∷◌, ◌++◌, map, filter, Option, Some, None, is_some, slice_get}
use Rattle.std.specs.List.{list_all}
use Rattle.mdr_core.specs.declared.kind.Kind.{Kind}
use Rattle.mdr_core.specs.declared.kind.Kind.TheVariants.{U32, S32}
use Rattle.mdr_core.specs.declared.program.Program.{Program}
use Rattle.mdr_core.specs.declared.types.Ty.{Ty}
use Rattle.mdr_core.specs.declared.types.Ty.TheVariants as type
use Rattle.mdr_core.specs.Kinds.{is_in_range, is_same_kind}
use Rattle.mdr_core.specs.Layout.{Leaf, cells_at}
use Rattle.mdr_core.specs.Services.{Service, Kzalloc, Kcalloc, Kfree, Readl, Writel, Printk, RequestIrq, FreeIrq, Deliver, Combolock, Combounlock, Bug, Enter, Leave, handler_type, service_numbered}
use Rattle.mdr_core.specs.Suited.{is_lock}
use Rattle.mdr_meaning.specs.declared.shape.Shape64.{Shape64}
use Rattle.mdr_meaning.specs.declared.wire.Wire.{Wire}
use Rattle.mdr_meaning.specs.declared.wire.Wire.TheVariants as wire
use Rattle.mdr_meaning.specs.Pointers.{size}
use Rattle.mdr_meaning.specs.Tree.{Asked}
use Rattle.mdr_model.specs.declared.message.New.{New}
use Rattle.mdr_model.specs.declared.message.Run.{Run}
use Rattle.mdr_model.specs.declared.reply.Ask.{Ask}
use Rattle.mdr_model.specs.Agreement.{has, news_at}
use Rattle.mdr_model.specs.Memory.{Memory, normal}
use Rattle.mdr_split.specs.State.{Open}

-- ---- the table

-- arguments of these types, or pointers to the objects that die, as many as there are
pub data Arguments : Type 0 where
  Of : (types : List Ty) → Arguments
  Objects : Arguments

-- no shape; that of one element; that of so many elements; those of the objects that are born
pub data Shapes : Type 0 where
  NoShape : Shapes
  OneElement : Shapes
  Elements : Shapes
  Births : Shapes

-- nothing; a number of a kind; null or a pointer to a new block; a pointer to each new object
pub data Gives : Type 0 where
  Nothing : Gives
  Number : (kind : Kind) → Gives
  Block : Gives
  Pointers : Gives

-- at most so many bytes come with the question
pub record Terms : Type 0 where
  pub arguments : Arguments
  pub shapes : Shapes
  pub bytes : ℕ
  pub gives : Gives

abbrev pub takes : List Ty → Gives → Terms
takes types gives = record { arguments = Of types; shapes = NoShape; bytes = 0; gives = gives }

abbrev pub takes_shapes : Shapes → Gives → Terms
takes_shapes shapes gives = record { arguments = Of []; shapes = shapes; bytes = 0; gives = gives }

abbrev pub takes_bytes : (most : ℕ) → Terms
takes_bytes most = record { arguments = Of []; shapes = NoShape; bytes = most; gives = Nothing }

abbrev pub terms_of : Service → Terms
terms_of Kzalloc = takes_shapes OneElement Block
terms_of Kcalloc = takes_shapes Elements Block
terms_of Kfree = takes (type.VoidPtr ∷ []) Nothing
terms_of Readl = takes (type.Int U32 ∷ []) (Number U32)
terms_of Writel = takes (type.Int U32 ∷ type.Int U32 ∷ []) Nothing
terms_of Printk = takes_bytes 4096
terms_of RequestIrq = takes (handler_type ∷ []) (Number S32)
terms_of FreeIrq = takes [] Nothing
terms_of Deliver = takes_bytes 4294967295
terms_of Combolock = takes (type.Ptr type.Lock ∷ []) Nothing
terms_of Combounlock = takes (type.Ptr type.Lock ∷ []) Nothing
terms_of Bug = takes [] Nothing
terms_of Enter = takes_shapes Births Pointers
terms_of Leave = record { arguments = Objects; shapes = NoShape; bytes = 0; gives = Nothing }

-- ---- a question, as a message carries it

-- it is told with its arguments as they are now
abbrev pub asked_now : Memory → Asked → Asked
asked_now m asked = record asked { args = map (normal m) asked.args }

abbrev pub ask_of : (ticks : ℕ) → Asked → List Run → Ask
ask_of ticks asked runs =
    record { ticks = ticks; at = asked.at; service = asked.service; args = asked.args; shapes = asked.shapes; bytes = asked.bytes; runs = runs }

abbrev pub asked_of : Ask → Asked
asked_of ask = record { service = ask.service; at = ask.at; args = ask.args; shapes = ask.shapes; bytes = ask.bytes }

-- ---- what it is asked with

-- the types of arguments: an object that dies may be of any
abbrev pub types_of : Arguments → (args : List Wire) → List Ty
types_of (Of types) args = types
types_of Objects args = map (λ v. type.VoidPtr) args

module _ (program : Program) where
  abbrev pub has_number : (ty : ℕ) → Bool
  has_number n = is_some (slice_get program.types n)

  -- an object of a local: of a type without locks, with 1 to 65,536 cells
  abbrev pub may_be_born : Shape64 → Bool
  may_be_born s =
      has_number s.ty
      && (list_all (λ (l : Leaf). not (is_lock l.type)) (cells_at program s.ty) && (not (s.count == 0) && nat_le (s.count * size program s.ty) 65536))

  unfoldable pub shapes_fit : Shapes → List Shape64 → Bool
  shapes_fit NoShape [] = true
  shapes_fit NoShape (s ∷ shapes) = false
  shapes_fit OneElement (s ∷ []) = s.count == 1 && has_number s.ty
  shapes_fit OneElement _ = false
  shapes_fit Elements (s ∷ []) = has_number s.ty
  shapes_fit Elements _ = false
  shapes_fit Births shapes = list_all may_be_born shapes

-- ---- objects of locals

-- the serials of the blocks that values name
abbrev pub serials_of : List Wire → List ℕ
serials_of [] = []
serials_of (wire.Ptr v ∷ vs) = v.serial ∷ serials_of vs
serials_of (_ ∷ vs) = serials_of vs

abbrev pub are_different : List ℕ → Bool
are_different [] = true
are_different (n ∷ ns) = not (has ns n) && are_different ns

-- a pointer to the first cell of an object that was born in the upcall and lives
abbrev pub names_object : (entered : List ℕ) → Wire → Bool
names_object entered (wire.Ptr v) = v.first == 0 && (v.index == 0 && has entered v.serial)
names_object entered _ = false

-- those that die are named once each
abbrev pub may_die : Arguments → (entered : List ℕ) → (args : List Wire) → Bool
may_die (Of types) entered args = true
may_die Objects entered args = list_all (names_object entered) args && are_different (serials_of args)

-- the objects that die with an answer, by what was asked
abbrev pub leaving_by : Option Service → (args : List Wire) → List ℕ
leaving_by (Some Leave) args = serials_of args
leaving_by _ args = []

unfoldable pub leaving : (service : ℕ) → (args : List Wire) → List ℕ
leaving service args = leaving_by (service_numbered service) args

abbrev pub entering_by : Option Service → (results : List Wire) → List ℕ
entering_by (Some Enter) results = serials_of results
entering_by _ results = []

abbrev pub less : List ℕ → List ℕ → List ℕ
less gone serials = filter (λ (n : ℕ). not (has gone n)) serials

-- the objects that live behind an answer
unfoldable pub entered_after : (service : ℕ) → (args results : List Wire) → (entered : List ℕ) → List ℕ
entered_after service args results entered = less (leaving service args) entered ++ entering_by (service_numbered service) results

-- the upcall with those
abbrev pub counted : Asked → (results : List Wire) → Open → Open
counted asked results upcall = record upcall { entered = entered_after asked.service asked.args results upcall.entered }

-- ---- what it gives

abbrev pub is_born_so : Shape64 → Option New → Bool
is_born_so s None = false
is_born_so s (Some n) = n.ty == s.ty && n.count == s.count

-- a pointer to a new block of a shape as a whole, at its first element
unfoldable pub is_new : List New → Shape64 → Wire → Bool
is_new news s (wire.Ptr v) = v.first == 0 && (v.index == 0 && (v.ty == s.ty && (v.count == s.count && is_born_so s (news_at news v.serial))))
is_new news s _ = false

abbrev pub is_block : List New → List Shape64 → Wire → Bool
is_block news shapes wire.Null = true
is_block news (s ∷ []) v = is_new news s v
is_block news shapes _ = false

abbrev pub are_new : List New → List Shape64 → List Wire → Bool
are_new news [] [] = true
are_new news [] (v ∷ vs) = false
are_new news (s ∷ shapes) [] = false
are_new news (s ∷ shapes) (v ∷ vs) = is_new news s v && are_new news shapes vs

abbrev pub is_number : Kind → Wire → Bool
is_number kind (wire.Int k n) = is_same_kind kind k && is_in_range kind n
is_number kind _ = false

abbrev pub are_given : Gives → List New → List Shape64 → (results : List Wire) → Bool
are_given Nothing news shapes [] = true
are_given Nothing news shapes (v ∷ vs) = false
are_given (Number kind) news shapes (v ∷ []) = is_number kind v
are_given (Number kind) news shapes _ = false
are_given Block news shapes (v ∷ []) = is_block news shapes v
are_given Block news shapes _ = false
are_given Pointers news shapes results = are_new news shapes results && are_different (serials_of results)

abbrev pub are_given_by : Option Service → List New → List Shape64 → (results : List Wire) → Bool
are_given_by None news shapes results = false
are_given_by (Some service) news shapes results = are_given (terms_of service).gives news shapes results

-- the results are those of the service that was asked for, where these blocks are new
unfoldable pub results_fit : Asked → List New → (results : List Wire) → Bool
results_fit asked news results = are_given_by (service_numbered asked.service) news asked.shapes results
