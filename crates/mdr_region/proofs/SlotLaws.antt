-- Laws of rows in their slots, and of values that are put into a new block's cells.
use Rattle.std.proofs.Common.{◌≡◌, ◌<◌, ◌≤◌, ◌+◌, ℕ, zero, suc, cond, List, [], ◌∷◌, ◌++◌, map, length, take, drop, Option, Some, None, refl, sym, ◌∙◌, ap, arith}
use Rattle.std.specs.Prelude.{option_map, slice_get, slice_set}
use Rattle.std.proofs.lemmas.List.{length-map, length-take, length-drop}
use Rattle.mdr_core.specs.declared.value.Block.{Block}
use Rattle.mdr_core.specs.declared.value.Value.{Value}
use Rattle.mdr_core.specs.declared.value.Value.TheVariants as value
use Rattle.mdr_meaning.specs.declared.wire.Wire.{Wire}
use Rattle.mdr_mem.specs.Contents.{is_handle, current}
use Rattle.mdr_mem.specs.Rows.{in_slot, shown, holds_serial, is_held, blocks_of}
use Rattle.mdr_mem.proofs.RowLaws.{blocks-moved}
use Rattle.mdr_region.specs.declared.slots.Row.{Row}
use Rattle.mdr_region.specs.Cells.{cells_of, written}
use Rattle.mdr_region.specs.Slots.{RowSlots, row_in, has_serial, is_there, current_at, held_as, held_slots, settled}

-- ---- slots

pub slot-map : (values : List Value) (slots : RowSlots) (n : ℕ) → in_slot (held_slots values slots) n ≡ held_as values (row_in slots n)
slot-map values [] zero = refl
slot-map values [] (suc n) = refl
slot-map values (o ∷ slots) zero = refl
slot-map values (o ∷ slots) (suc n) = slot-map values slots n

has-held : (values : List Value) (o : Option Row) (serial : ℕ) → holds_serial (held_as values o) serial ≡ has_serial o serial
has-held values None serial = refl
has-held values (Some r) serial = refl

pub held-there : (values : List Value) (slots : RowSlots) (b : Block) → is_held (held_slots values slots) b ≡ is_there slots b
held-there values slots b = ap (λ o. holds_serial o b.serial) (slot-map values slots b.slot) ∙ has-held values (row_in slots b.slot) b.serial

-- the same rows in the same slots show the same blocks
pub blocks-same : (alive : List Block) (values : List Value) (slots slots' : RowSlots) (hs : List Block) → ((n : ℕ) → row_in slots' n ≡ row_in slots n)
    → blocks_of alive (held_slots values slots') hs ≡ blocks_of alive (held_slots values slots) hs
blocks-same alive values slots slots' hs same =
    blocks-moved alive alive (held_slots values slots) (held_slots values slots') hs (λ h k. ap (λ o. shown alive o) (slot-map values slots' h.slot ∙ (ap (held_as values) (same h.slot) ∙ sym (slot-map values slots h.slot))))

-- ---- values

pub current-there : (hs : List Block) (slots : RowSlots) → ((b : Block) → is_handle hs b ≡ is_there slots b) → (v : Value) → current_at slots v ≡ current hs v
unfolding current current_at
current-there hs slots agree (value.Ptr p) = ap (λ t. cond t (value.Ptr p) value.Dead) (sym (agree p.block))
current-there hs slots agree (value.Int k n) = refl
current-there hs slots agree value.Null = refl
current-there hs slots agree value.Dead = refl
current-there hs slots agree (value.Fn f) = refl
current-there hs slots agree (value.Lock s) = refl
current-there hs slots agree value.NoValue = refl

pub currents-there : (hs : List Block) (slots : RowSlots) → ((b : Block) → is_handle hs b ≡ is_there slots b) → (vs : List Value) → map (current_at slots) vs ≡ map (current hs) vs
currents-there hs slots agree [] = refl
currents-there hs slots agree (v ∷ vs) = λ i. current-there hs slots agree v i ∷ currents-there hs slots agree vs i

-- ---- values that are put one after another

settled-behind : (f : Value → Value) (vs : List Value) (start : ℕ) (w : Value) (values : List Value) → settled f (suc start) vs (w ∷ values) ≡ w ∷ settled f start vs values
unfolding settled
settled-behind f [] start w values = refl
settled-behind f (v ∷ vs) start w values =
    let e : suc start + 1 ≡ suc (start + 1) = omega arith in
    ap (λ n. settled f n vs (w ∷ slice_set values start (f v))) e ∙ settled-behind f vs (start + 1) w (slice_set values start (f v))

settled-front : (f : Value → Value) (vs ws post : List Value) → length ws ≡ length vs → settled f 0 vs (ws ++ post) ≡ map f vs ++ post
unfolding settled
settled-front f [] [] post e = refl
settled-front f [] (w ∷ ws) post e = absurd (omega (arith, e))
settled-front f (v ∷ vs) [] post e = absurd (omega (arith, e))
settled-front f (v ∷ vs) (w ∷ ws) post e =
    let one : 0 + 1 ≡ suc 0 = omega arith in
    ap (λ n. settled f n vs (f v ∷ (ws ++ post))) one ∙ (settled-behind f vs 0 (f v) (ws ++ post) ∙ ap (λ l. f v ∷ l) (settled-front f vs ws post (omega (arith, e))))

-- where the values themselves stand in the cells, those that a function makes of them are left
pub settled-written : (f : Value → Value) (start : ℕ) (vs values : List Value) → start ≤ length values → settled f start vs (written start vs values) ≡ written start (map f vs) values
settled-written f zero vs values l = settled-front f vs vs (drop (0 + length vs) values) refl ∙ ap (λ n. map f vs ++ drop (0 + n) values) (sym (length-map vs f))
settled-written f (suc start) vs [] l = absurd (omega (arith, l))
settled-written f (suc start) vs (w ∷ values) l =
    let e : suc start + length vs ≡ suc (start + length vs) = omega arith in
    let k : suc start + length (map f vs) ≡ suc (start + length (map f vs)) = omega arith in
    ap (λ n. settled f (suc start) vs (take (suc start) (w ∷ values) ++ (vs ++ drop n (w ∷ values)))) e
    ∙ (settled-behind f vs start w (written start vs values)
    ∙ (ap (λ l. w ∷ l) (settled-written f start vs values (omega (arith, l)))
    ∙ sym (ap (λ n. take (suc start) (w ∷ values) ++ (map f vs ++ drop n (w ∷ values))) k)))

-- ---- the cells of a block in the pool

pub cells-length : (start n : ℕ) (values : List Value) → start + n ≤ length values → length (cells_of start n values) ≡ n
cells-length start n values l = omega (arith, length-take n (drop start values), length-drop start values, l)

pub cells-most : (start n : ℕ) (values : List Value) → length (cells_of start n values) ≤ n
cells-most start n values = omega (arith, length-take n (drop start values))

get-front : (f : Value → Wire) (n i : ℕ) (values : List Value) → i < n → slice_get (map f (take n values)) i ≡ option_map f (slice_get values i)
get-front f zero i values l = absurd (omega (arith, l))
get-front f (suc n) zero [] l = refl
get-front f (suc n) (suc i) [] l = refl
get-front f (suc n) zero (v ∷ values) l = refl
get-front f (suc n) (suc i) (v ∷ values) l = get-front f n i values (omega (arith, l))

get-behind : (start i : ℕ) (values : List Value) → slice_get (drop start values) i ≡ slice_get values (start + i)
get-behind zero i values = let e : i ≡ 0 + i = omega arith in ap (slice_get values) e
get-behind (suc start) zero [] = let e : suc (start + 0) ≡ suc start + 0 = omega arith in let none : List Value = [] in ap (slice_get none) e
get-behind (suc start) (suc i) [] = let e : suc (start + suc i) ≡ suc start + suc i = omega arith in let none : List Value = [] in ap (slice_get none) e
get-behind (suc start) i (v ∷ values) = let e : suc (start + i) ≡ suc start + i = omega arith in get-behind start i values ∙ ap (slice_get (v ∷ values)) e

pub cell-get : (f : Value → Wire) (start n i : ℕ) (values : List Value) → i < n → slice_get (map f (cells_of start n values)) i ≡ option_map f (slice_get values (start + i))
cell-get f start n i values l = get-front f n i (drop start values) l ∙ ap (option_map f) (get-behind start i values)
