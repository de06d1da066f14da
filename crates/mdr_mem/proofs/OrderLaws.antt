-- What the rows show is in order.
use Rattle.std.proofs.Common.{◌≡◌, ◌<◌, ℕ, zero, suc, Bool, true, false, cond, List, [], ◌∷◌, map, Option, Some, None, refl, sym, ◌∙◌, ap, subst, arith}
use Rattle.std.specs.Prelude.{◌==◌, is_some, slice_get}
use Rattle.std.proofs.lemmas.Bool.{eqb-true}
use Rattle.mdr_core.specs.declared.value.Block.{Block}
use Rattle.mdr_core.specs.declared.value.Value.{Value}
use Rattle.mdr_core.specs.declared.value.Value.TheVariants as value
use Rattle.mdr_model.specs.declared.memory.Cell.{Cell}
use Rattle.mdr_meaning.specs.Values.{wire_of}
use Rattle.mdr_model.specs.Values.{names_block}
use Rattle.mdr_model.specs.Memory.{born_at, is_live, cell_at}
use Rattle.mdr_model.specs.Agreement.{SerialsRise, names_it}
use Rattle.mdr_mem.specs.declared.cells.Life.{Life}
use Rattle.mdr_mem.specs.declared.rows.Held.{Held}
use Rattle.mdr_mem.specs.Contents.{IsInOrder, is_handle, handle_of, current, wire_in}
use Rattle.mdr_mem.specs.Rows.{Slots, in_slot, shown, blocks_of, is_held, Rise, IsSound}
use Rattle.mdr_mem.proofs.HandleLaws.{one_slot}
use Rattle.mdr_mem.proofs.RowLaws.{first_is, later_is, behind, shown-serial}

pub handled : (alive : List Block) (slots : Slots) (hs : List Block) → ((h : Block) → is_handle hs h ≡ true → is_held slots h ≡ true)
    → (serial : ℕ) → is_live (blocks_of alive slots hs) serial ≡ is_some (handle_of hs serial)
unfolding blocks_of is_live born_at handle_of
handled alive slots [] held serial = refl
handled alive slots (h ∷ hs) held serial = of (h.serial == serial) refl (handled alive slots hs (λ c k. held c (later_is h hs c k)) serial)
  where
    same : (shown alive (in_slot slots h.slot)).born.serial ≡ h.serial
    same = shown-serial alive (in_slot slots h.slot) h.serial (held h (first_is h hs))

    of : (t : Bool) → (h.serial == serial) ≡ t → is_some (born_at (blocks_of alive slots hs) serial) ≡ is_some (handle_of hs serial)
        → is_some (cond ((shown alive (in_slot slots h.slot)).born.serial == serial) (Some (shown alive (in_slot slots h.slot)).born) (born_at (blocks_of alive slots hs) serial))
        ≡ is_some (cond t (Some h) (handle_of hs serial))
    of true e later = rw (same, e) refl
    of false e later = rw (same, e) later

pub one : (hs : List Block) → Rise hs → (b : Block) → is_handle hs b ≡ true → handle_of hs b.serial ≡ Some b
unfolding handle_of is_handle
one [] r b k = absurd (grind (arith, k))
one (h ∷ hs) r b k = of (h.serial == b.serial) refl (one hs r.1 b)
  where
    of : (t : Bool) → (h.serial == b.serial) ≡ t → (is_handle hs b ≡ true → handle_of hs b.serial ≡ Some b) → cond t (Some h) (handle_of hs b.serial) ≡ Some b
    of true e later =
        let f : h.serial ≡ b.serial = eqb-true h.serial b.serial e in
        let g : h.slot ≡ b.slot = one_slot (h ∷ hs) r h b (first_is h hs) k f in
        λ i. Some (record { slot = g i; serial = f i })
    of false e later = later (behind h hs b e k)

pub with_handle : {R : Type 0} (hs : List Block) (serial : ℕ) → is_some (handle_of hs serial) ≡ true → ((c : Block) → is_handle hs c ≡ true → c.serial ≡ serial → R) → R
unfolding handle_of
with_handle [] serial k goal = absurd (grind (arith, k))
with_handle {R} (h ∷ hs) serial k goal = of (h.serial == serial) refl k (λ j. with_handle hs serial j (λ c l. goal c (later_is h hs c l)))
  where
    of : (t : Bool) → (h.serial == serial) ≡ t → is_some (cond t (Some h) (handle_of hs serial)) ≡ true → (is_some (handle_of hs serial) ≡ true → R) → R
    of true e j later = goal h (first_is h hs) (eqb-true h.serial serial e)
    of false e j later = later j

pub rises : (alive : List Block) (slots : Slots) (hs : List Block) → Rise hs → ((h : Block) → is_handle hs h ≡ true → is_held slots h ≡ true) → SerialsRise (blocks_of alive slots hs)
unfolding blocks_of
rises alive slots [] r held = tt
rises alive slots (h ∷ hs) r held = (
  λ serial k. with_handle hs serial (sym (handled alive slots hs (λ c j. held c (later_is h hs c j)) serial) ∙ k)
      (λ c j e. subst (λ n. n < serial) (sym (shown-serial alive (in_slot slots h.slot) h.serial (held h (first_is h hs)))) (subst (λ n. h.serial < n) e (r.0 c j))),
  rises alive slots hs r.1 (λ c k. held c (later_is h hs c k)),
)

-- ---- what is named is alive

pub named-value : {R : Type 0} (alive : List Block) (serial : ℕ) (v : Value) → names_block serial (wire_in alive v) ≡ true → ((b : Block) → is_handle alive b ≡ true → b.serial ≡ serial → R) → R
unfolding current
named-value {R} alive serial (value.Ptr p) k goal = of (is_handle alive p.block) refl k
  where
    of : (t : Bool) → is_handle alive p.block ≡ t → names_block serial (wire_of (cond t (value.Ptr p) value.Dead)) ≡ true → R
    of true e j = goal p.block e (eqb-true p.block.serial serial j)
    of false e j = absurd (grind (arith, j))
named-value alive serial (value.Int l n) k goal = absurd (grind (arith, k))
named-value alive serial value.Null k goal = absurd (grind (arith, k))
named-value alive serial value.Dead k goal = absurd (grind (arith, k))
named-value alive serial (value.Fn f) k goal = absurd (grind (arith, k))
named-value alive serial (value.Lock s) k goal = absurd (grind (arith, k))
named-value alive serial value.NoValue k goal = absurd (grind (arith, k))

pub named-cell : {R : Type 0} (alive : List Block) (serial : ℕ) (vs : List Value) (i : ℕ) → names_it serial (slice_get (map (wire_in alive) vs) i) ≡ true
    → ((b : Block) → is_handle alive b ≡ true → b.serial ≡ serial → R) → R
unfolding names_it
named-cell alive serial [] i k goal = absurd (grind (arith, k))
named-cell alive serial (v ∷ vs) zero k goal = named-value alive serial v k goal
named-cell alive serial (v ∷ vs) (suc i) k goal = named-cell alive serial vs i k goal

pub named-shown : {R : Type 0} (alive : List Block) (serial : ℕ) (o : Option Held) (i : ℕ) → names_it serial (slice_get (shown alive o).cells i) ≡ true
    → ((b : Block) → is_handle alive b ≡ true → b.serial ≡ serial → R) → R
unfolding names_it
named-shown alive serial None i k goal = absurd (grind (arith, k))
named-shown alive serial (Some x) i k goal = named-cell alive serial x.cells i k goal

pub named : {R : Type 0} (alive : List Block) (slots : Slots) (hs : List Block) (c : Cell) (serial : ℕ) → names_it serial (cell_at (blocks_of alive slots hs) c) ≡ true
    → ((b : Block) → is_handle alive b ≡ true → b.serial ≡ serial → R) → R
unfolding names_it cell_at blocks_of
named alive slots [] c serial k goal = absurd (grind (arith, k))
named {R} alive slots (h ∷ hs) c serial k goal = of ((shown alive (in_slot slots h.slot)).born.serial == c.serial) k (λ j. named alive slots hs c serial j goal)
  where
    of : (t : Bool) → names_it serial (cond t (slice_get (shown alive (in_slot slots h.slot)).cells c.index) (cell_at (blocks_of alive slots hs) c)) ≡ true
        → (names_it serial (cell_at (blocks_of alive slots hs) c) ≡ true → R) → R
    of true j later = named-shown alive serial (in_slot slots h.slot) c.index j goal
    of false j later = later j

pub in_order : (hs : List Block) (slots : Slots) (lives : List Life) (births room : ℕ) → IsSound hs slots lives births room
    → IsInOrder (record { handles = hs; memory = blocks_of hs slots hs; lives = lives })
in_order hs slots lives births room s =
    let held : (h : Block) → is_handle hs h ≡ true → is_held slots h ≡ true = λ h k. sym (s.held h) ∙ k in
    record {
      handled = handled hs slots hs held;
      one = one hs s.rise;
      rises = rises hs slots hs s.rise held;
      below = λ serial k. with_handle hs serial (sym (handled hs slots hs held serial) ∙ k) (λ c j e. subst (λ n. serial < n) s.counted (subst (λ n. n < births) e (s.below c j)));
      normal = λ c serial k. named hs slots hs c serial k (λ b j e. handled hs slots hs held serial ∙ ap is_some (subst (λ n. handle_of hs n ≡ Some b) e (one hs s.rise b j)));
    }
