-- Bytes that are read one after the other.
use Rattle.std.proofs.Common.{◌≡◌, ◌+◌, ◌-◌, ◌<◌, ◌≤◌, ℕ, suc, Bool, true, false, List, [], ◌∷◌, ◌++◌, map, Result, Err, refl, sym, ◌∙◌, ap, arith}
use Rattle.std.specs.Prelude.{nat_le}
use Rattle.std.specs.List.{list_all}
use Rattle.std.proofs.lemmas.List.{append_assoc, append-nil}
use Rattle.mdr_core.specs.declared.stop.StopKind.{StopKind}
use Rattle.mdr_core.specs.declared.stop.StopKind.TheVariants as stop
use Rattle.mdr_meaning.specs.declared.wire.Wire.TheVariants as wire
use Rattle.mdr_meaning.specs.declared.wire.WireView.{WireView}
use Rattle.mdr_model.specs.declared.memory.Cell.{Cell}
use Rattle.mdr_model.specs.Memory.{Memory, cell_of, is_live, reached_by}
use Rattle.mdr_model.specs.Sets.{cells_from, is_in}
use Rattle.mdr_plain.specs.Storage.{byte_at, bytes_from, cells_read, read}
use Rattle.mdr_user_memory.specs.Spots.{bytes_if, bytes_where}

abbrev pub bytes_left : Memory → (serial first count i : ℕ) → List ℕ
bytes_left m serial first count i = map (byte_at m) (cells_from serial (first + i) (count - i))

left-more : (m : Memory) (serial first n i : ℕ) → bytes_left m serial first (suc (n + i)) i ≡ byte_at m (record { serial = serial; index = first + i }) ∷ bytes_left m serial first (suc (n + i)) (i + 1)
unfolding cells_from
left-more m serial first n i =
    let here : suc (n + i) - i ≡ suc n = omega arith in
    let later : n ≡ suc (n + i) - (i + 1) = omega arith in
    let next : suc (first + i) ≡ first + (i + 1) = omega arith in
    ap (λ k. map (byte_at m) (cells_from serial (first + i) k)) here
    ∙ (λ j. byte_at m (record { serial = serial; index = first + i }) ∷ map (byte_at m) (cells_from serial (next j) (later j)))

pub bytes_more : (m : Memory) (serial first count i : ℕ) (out whole : List ℕ) (b : ℕ) → i < count → b ≡ byte_at m (record { serial = serial; index = first + i })
    → out ++ bytes_left m serial first count i ≡ whole → (out ++ b ∷ []) ++ bytes_left m serial first count (i + 1) ≡ whole
bytes_more m serial first count i out whole b l e k =
    let n : ℕ = count - i - 1 in
    let same : suc (n + i) ≡ count = omega (arith, l) in
    append_assoc out (b ∷ []) (bytes_left m serial first count (i + 1))
    ∙ ap (λ x. out ++ x ∷ bytes_left m serial first count (i + 1)) e
    ∙ ap (λ c. out ++ byte_at m (record { serial = serial; index = first + i }) ∷ bytes_left m serial first c (i + 1)) (sym same)
    ∙ ap (λ ys. out ++ ys) (sym (left-more m serial first n i))
    ∙ ap (λ c. out ++ bytes_left m serial first c i) same
    ∙ k

pub bytes_done : (m : Memory) (serial first count i : ℕ) (out whole : List ℕ) → count ≤ i → out ++ bytes_left m serial first count i ≡ whole → out ≡ whole
unfolding cells_from
bytes_done m serial first count i out whole l k =
    let none : count - i ≡ 0 = omega (arith, l) in
    sym (append-nil out) ∙ ap (λ n. out ++ map (byte_at m) (cells_from serial (first + i) n)) (sym none) ∙ k

-- ---- the tests of an access

where_is : (m : Memory) (cells : List Cell) (c : Cell) (b : Bool) → bytes_where b (map (byte_at m) cells) ≡ bytes_from m cells (reached_by true true b c)
where_is m cells c true = refl
where_is m cells c false = refl

module _ (view : List Cell) (m : Memory) (p : WireView) (n : ℕ) where
  abbrev read_by : (is_alive has_room : Bool) → Result (List ℕ) StopKind
  read_by alive room = bytes_from m (cells_read p n) (reached_by alive room (list_all (is_in view) (cells_read p n)) (cell_of p))

  pub read_dead : is_live m p.serial ≡ false → ◌≡◌ {A = Result (List ℕ) StopKind} (Err stop.Dead) (read (is_in view) m (wire.Ptr p) n)
  unfolding read
  read_dead dead = ap (λ b. read_by b (nat_le (p.index + n) p.count)) (sym dead)

  pub read_past : is_live m p.serial ≡ true → nat_le (p.index + n) p.count ≡ false → ◌≡◌ {A = Result (List ℕ) StopKind} (Err stop.Bounds) (read (is_in view) m (wire.Ptr p) n)
  unfolding read
  read_past alive past = (λ i. read_by (sym alive i) (sym past i))

  pub read_inside : (k : ℕ) → k ≡ n → is_live m p.serial ≡ true → nat_le (p.index + n) p.count ≡ true → bytes_if view m p k ≡ read (is_in view) m (wire.Ptr p) n
  unfolding read
  read_inside k same alive inside =
      ap (bytes_if view m p) same ∙ where_is m (cells_read p n) (cell_of p) (list_all (is_in view) (cells_read p n)) ∙ (λ i. read_by (sym alive i) (sym inside i))
