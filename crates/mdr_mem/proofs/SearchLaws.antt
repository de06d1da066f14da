-- Where the handle with a serial stands, in handles whose serials rise.
use Rattle.std.proofs.Common.{◌≡◌, ◌≢◌, ◌<◌, ◌≤◌, ℕ, zero, suc, Bool, true, false, cond, List, [], ◌∷◌, ◌++◌, take, drop, Option, Some, None, Ok, Err, refl, sym, ◌∙◌, ap, subst, arith, ◌⊎◌, inl, inr}
use Rattle.std.specs.Prelude.{◌==◌, length, slice_get, slice_index_or}
use Rattle.std.specs.Ordering.{nat_cmp, MatchOrdering, ordering_index}
use Rattle.std.specs.Cmp.{ranks}
use Rattle.std.specs.List.Sorted.{IsBinarySearchResult, IsPartitionPoint}
use Rattle.std.specs.declared.cmp.Ordering.TheVariants.{Less, Greater}
use Rattle.std.proofs.lemmas.Bool.{eqb-true, eq-eqb, cases_lt}
use Rattle.std.proofs.lemmas.Bool.Decides.{nat_tests}
use Rattle.mdr_core.specs.declared.value.Block.{Block}
use Rattle.mdr_mem.specs.Contents.{is_handle, handle_of, left_of}
use Rattle.mdr_mem.specs.Rows.{Rise}
use Rattle.mdr_mem.proofs.RowLaws.{first_is, later_is}

pub at_is : (hs : List Block) (j : ℕ) (d : Block) → j < length hs → is_handle hs (slice_index_or hs j d) ≡ true
at_is [] j d l = grind arith
at_is (h ∷ hs) zero d l = first_is h hs
at_is (h ∷ hs) (suc j) d l = later_is h hs (slice_index_or hs j d) (at_is hs j d (omega arith))

pub rise_at : (hs : List Block) (i j : ℕ) (d : Block) → Rise hs → i < j → j < length hs → (slice_index_or hs i d).serial < (slice_index_or hs j d).serial
rise_at [] i j d r l m = grind arith
rise_at (h ∷ hs) i zero d r l m = grind arith
rise_at (h ∷ hs) zero (suc j) d r l m = r.0 (slice_index_or hs j d) (at_is hs j d (omega arith))
rise_at (h ∷ hs) (suc i) (suc j) d r l m = rise_at hs i j d r.1 (omega arith) (omega arith)

pub handle_at : (hs : List Block) (i : ℕ) (d : Block) (serial : ℕ) → Rise hs → i < length hs → (slice_index_or hs i d).serial ≡ serial → slice_get hs i ≡ handle_of hs serial
unfolding handle_of
handle_at [] i d serial r l e = grind arith
handle_at (h ∷ hs) zero d serial r l e = rw (eq-eqb h.serial serial e) refl
handle_at (h ∷ hs) (suc i) d serial r l e = of (h.serial == serial) refl (handle_at hs i d serial r.1 (omega arith) e)
  where
    of : (t : Bool) → (h.serial == serial) ≡ t → slice_get hs i ≡ handle_of hs serial → slice_get hs i ≡ cond t (Some h) (handle_of hs serial)
    of true f later = grind (arith, eqb-true h.serial serial f, e, r.0 (slice_index_or hs i d) (at_is hs i d (omega arith)))
    of false f later = later

pub handle_none : (hs : List Block) (serial : ℕ) (d : Block) → ((k : ℕ) → k < length hs → (slice_index_or hs k d).serial ≢ serial) → handle_of hs serial ≡ None
unfolding handle_of
handle_none [] serial d none = refl
handle_none (h ∷ hs) serial d none = of (h.serial == serial) refl (handle_none hs serial d (λ k l. none (suc k) (omega arith)))
  where
    of : (t : Bool) → (h.serial == serial) ≡ t → handle_of hs serial ≡ None → cond t (Some h) (handle_of hs serial) ≡ None
    of true f later = absurd (none zero (omega arith) (eqb-true h.serial serial f))
    of false f later = later

-- ---- what a binary search says

pub found_at : (hs : List Block) (serial i : ℕ) → Rise hs → i < length hs → IsBinarySearchResult (λ b. nat_cmp b.serial serial) hs (Ok i) → slice_get hs i ≡ handle_of hs serial
found_at hs serial i r l h =
    let d : Block = record { slot = 0; serial = 0 } in
    handle_at hs i d serial r l (subst (λ o. MatchOrdering o ((slice_index_or hs i d).serial < serial) ((slice_index_or hs i d).serial ≡ serial) (serial < (slice_index_or hs i d).serial)) (h d) (ranks (slice_index_or hs i d).serial serial))

rise_le : (hs : List Block) (i j : ℕ) (d : Block) → Rise hs → i ≤ j → j < length hs → (slice_index_or hs i d).serial ≤ (slice_index_or hs j d).serial
rise_le hs i j d r l m = of (cases_lt i j)
  where
    of : (i < j) ⊎ (j ≤ i) → (slice_index_or hs i d).serial ≤ (slice_index_or hs j d).serial
    of (inl k) = omega (arith, rise_at hs i j d r k m)
    of (inr k) = let e : i ≡ j = omega arith in rw e (omega arith)

higher : (a b x : ℕ) → a ≤ b → ordering_index (nat_cmp a x) ≤ ordering_index (nat_cmp b x)
higher a b x le = grind (arith, nat_tests)

pub found_none : (hs : List Block) (serial i : ℕ) → Rise hs → IsBinarySearchResult (λ b. nat_cmp b.serial serial) hs (Err i) → handle_of hs serial ≡ None
found_none hs serial i r h = handle_none hs serial d differs
  where
    d : Block
    d = record { slot = 0; serial = 0 }

    differs : (k : ℕ) → k < length hs → (slice_index_or hs k d).serial ≢ serial
    differs k l e =
        let parted = h (λ a b f le lt. higher (slice_index_or hs a f).serial (slice_index_or hs b f).serial serial (rise_le hs a b f r le lt)) in
        of parted (cases_lt k i)
      where
        of : IsPartitionPoint {X = Block} (λ b. nat_cmp b.serial serial ≡ Less) (λ b. nat_cmp b.serial serial ≡ Greater) hs i → (k < i) ⊎ (i ≤ k) → ⊥
        of parted (inl m) = omega (arith, e, subst (λ o. MatchOrdering o ((slice_index_or hs k d).serial < serial) ((slice_index_or hs k d).serial ≡ serial) (serial < (slice_index_or hs k d).serial)) (parted.0 k d (omega arith) m) (ranks (slice_index_or hs k d).serial serial))
        of parted (inr m) = omega (arith, e, subst (λ o. MatchOrdering o ((slice_index_or hs k d).serial < serial) ((slice_index_or hs k d).serial ≡ serial) (serial < (slice_index_or hs k d).serial)) (parted.1 k d m l) (ranks (slice_index_or hs k d).serial serial))

-- ---- without the handle

-- none has a lower serial
pub left_none : (hs : List Block) (serial : ℕ) → ((b : Block) → is_handle hs b ≡ true → serial < b.serial) → left_of serial hs ≡ hs
unfolding left_of
left_none [] serial above = refl
left_none (h ∷ hs) serial above = of (h.serial == serial) refl (left_none hs serial (λ b k. above b (later_is h hs b k)))
  where
    of : (t : Bool) → (h.serial == serial) ≡ t → left_of serial hs ≡ hs → cond t (left_of serial hs) (h ∷ left_of serial hs) ≡ h ∷ hs
    of true f later = grind (arith, eqb-true h.serial serial f, above h (first_is h hs))
    of false f later = ap (λ xs. h ∷ xs) later

pub left_at : (hs : List Block) (i : ℕ) (d : Block) (serial : ℕ) → Rise hs → i < length hs → (slice_index_or hs i d).serial ≡ serial → take i hs ++ drop (suc i) hs ≡ left_of serial hs
unfolding left_of
left_at [] i d serial r l e = grind arith
left_at (h ∷ hs) zero d serial r l e = rw (eq-eqb h.serial serial e) (sym (left_none hs serial (λ b k. omega (arith, e, r.0 b k))))
left_at (h ∷ hs) (suc i) d serial r l e = of (h.serial == serial) refl (left_at hs i d serial r.1 (omega arith) e)
  where
    of : (t : Bool) → (h.serial == serial) ≡ t → take i hs ++ drop (suc i) hs ≡ left_of serial hs → h ∷ (take i hs ++ drop (suc i) hs) ≡ cond t (left_of serial hs) (h ∷ left_of serial hs)
    of true f later = grind (arith, eqb-true h.serial serial f, e, r.0 (slice_index_or hs i d) (at_is hs i d (omega arith)))
    of false f later = ap (λ xs. h ∷ xs) later

abbrev pub HasSerial : ℕ → Option Block → Type 0
HasSerial serial None = Unit {0}
HasSerial serial (Some b) = b.serial ≡ serial

pub handle_serial : (hs : List Block) (serial : ℕ) → HasSerial serial (handle_of hs serial)
unfolding handle_of
handle_serial [] serial = tt
handle_serial (h ∷ hs) serial = of (h.serial == serial) refl (handle_serial hs serial)
  where
    of : (t : Bool) → (h.serial == serial) ≡ t → HasSerial serial (handle_of hs serial) → HasSerial serial (cond t (Some h) (handle_of hs serial))
    of true f later = eqb-true h.serial serial f
    of false f later = later

pub slice_some : (hs : List Block) (i : ℕ) (d : Block) → i < length hs → slice_get hs i ≡ Some (slice_index_or hs i d)
slice_some [] i d l = grind arith
slice_some (h ∷ hs) zero d l = refl
slice_some (h ∷ hs) (suc i) d l = slice_some hs i d (omega arith)

-- from what `handle_of` says of a place
pub place_serial : (hs : List Block) (i : ℕ) (d : Block) (serial : ℕ) → i < length hs → slice_get hs i ≡ handle_of hs serial → (slice_index_or hs i d).serial ≡ serial
place_serial hs i d serial l e = subst (HasSerial serial) (sym e ∙ slice_some hs i d l) (handle_serial hs serial)

pub left_absent : (hs : List Block) (serial : ℕ) → handle_of hs serial ≡ None → left_of serial hs ≡ hs
unfolding left_of handle_of
left_absent [] serial none = refl
left_absent (h ∷ hs) serial none = of (h.serial == serial) refl none (left_absent hs serial)
  where
    of : (t : Bool) → (h.serial == serial) ≡ t → cond t (Some h) (handle_of hs serial) ≡ None → (handle_of hs serial ≡ None → left_of serial hs ≡ hs) → cond t (left_of serial hs) (h ∷ left_of serial hs) ≡ h ∷ hs
    of true f k later = grind (arith, k)
    of false f k later = ap (λ xs. h ∷ xs) (later k)
