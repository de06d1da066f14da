-- The cells that pointers name, and the bytes from one on.
use Rattle.std.proofs.Common.{◌≡◌, ◌+◌, ◌-◌, ◌<◌, ◌≤◌, ℕ, suc, true, List, [], ◌∷◌, ◌++◌, map, Some, None, Result, Err, refl, sym, ◌∙◌, ap, arith}
use Rattle.std.specs.Prelude.{nat_le, nat_lt}
use Rattle.std.specs.List.{list_all}
use Rattle.std.proofs.lemmas.List.{append_assoc, append-nil}
use Rattle.mdr_core.specs.declared.stop.StopKind.{StopKind}
use Rattle.mdr_core.specs.declared.stop.StopKind.TheVariants as stop
use Rattle.mdr_core.specs.declared.value.Block.{Block}
use Rattle.mdr_core.specs.declared.value.View.{View}
use Rattle.mdr_mem.specs.Contents.{Contents, IsInOrder, handle_of}
use Rattle.mdr_meaning.specs.Values.{wire_view}
use Rattle.mdr_meaning.specs.declared.wire.Wire.TheVariants as wire
use Rattle.mdr_model.specs.declared.memory.Cell.{Cell}
use Rattle.mdr_model.specs.Memory.{Memory, cell_of, everywhere, is_live, reached, reached_by}
use Rattle.mdr_model.specs.Sets.{cells_from}
use Rattle.mdr_plain.specs.Storage.{byte_at, bytes_from, cells_read, read}
use Rattle.mdr_world.proofs.HandleLaws.{dead, lives}

pub reached-lives : (s : Contents) (p : View) (b : Block) → IsInOrder s → handle_of s.handles p.block.serial ≡ Some b
    → reached_by true (nat_lt p.index p.count) true (cell_of (wire_view p)) ≡ reached everywhere s.memory (wire.Ptr (wire_view p))
unfolding reached
reached-lives s p b order e = ap (λ t. reached_by t (nat_lt p.index p.count) true (cell_of (wire_view p))) (sym (lives s order p.block.serial b e))

pub reached-dead : (s : Contents) (p : View) → IsInOrder s → handle_of s.handles p.block.serial ≡ None
    → ◌≡◌ {A = Result Cell StopKind} (Err stop.Dead) (reached everywhere s.memory (wire.Ptr (wire_view p)))
unfolding reached
reached-dead s p order e = ap (λ t. reached_by t (nat_lt p.index p.count) true (cell_of (wire_view p))) (sym (dead s order p.block.serial e))

-- ---- bytes

all-allowed : (cells : List Cell) → true ≡ list_all everywhere cells
all-allowed [] = refl
all-allowed (c ∷ cells) = all-allowed cells

pub read-lives : (s : Contents) (p : View) (b : Block) (n : ℕ) → IsInOrder s → handle_of s.handles p.block.serial ≡ Some b
    → bytes_from s.memory (cells_read (wire_view p) n) (reached_by true (nat_le (p.index + n) p.count) true (cell_of (wire_view p))) ≡ read everywhere s.memory (wire.Ptr (wire_view p)) n
unfolding read
read-lives s p b n order e =
    let alive : true ≡ is_live s.memory p.block.serial = sym (lives s order p.block.serial b e) in
    λ i. bytes_from s.memory (cells_read (wire_view p) n) (reached_by (alive i) (nat_le (p.index + n) p.count) (all-allowed (cells_read (wire_view p) n) i) (cell_of (wire_view p)))

pub read-dead : (s : Contents) (p : View) (n : ℕ) → IsInOrder s → handle_of s.handles p.block.serial ≡ None
    → ◌≡◌ {A = Result (List ℕ) StopKind} (Err stop.Dead) (read everywhere s.memory (wire.Ptr (wire_view p)) n)
unfolding read
read-dead s p n order e =
    ap (λ t. bytes_from s.memory (cells_read (wire_view p) n) (reached_by t (nat_le (p.index + n) p.count) (list_all everywhere (cells_read (wire_view p) n)) (cell_of (wire_view p)))) (sym (dead s order p.block.serial e))

abbrev pub bytes_left : Memory → (serial first count i : ℕ) → List ℕ
bytes_left m serial first count i = map (byte_at m) (cells_from serial (first + i) (count - i))

left-more : (m : Memory) (serial first n i : ℕ) → bytes_left m serial first (suc (n + i)) i ≡ byte_at m (record { serial = serial; index = first + i }) ∷ bytes_left m serial first (suc (n + i)) (i + 1)
unfolding cells_from
left-more m serial first n i =
    let here : suc (n + i) - i ≡ suc n = omega arith in
    let later : n ≡ suc (n + i) - (i + 1) = omega arith in
    let next : suc (first + i) ≡ first + (i + 1) = omega arith in
    ap (λ k. map (byte_at m) (cells_from serial (first + i) k)) here
    ∙ (λ j. byte_at m (record { serial = serial; index = first + i }) ∷ map (byte_at m) (cells_from serial (next j) (later j)))

pub bytes_more : (m : Memory) (serial first count i : ℕ) (out whole : List ℕ) (b : ℕ) → i < count → b ≡ byte_at m (record { serial = serial; index = first + i })
    → out ++ bytes_left m serial first count i ≡ whole → (out ++ b ∷ []) ++ bytes_left m serial first count (i + 1) ≡ whole
bytes_more m serial first count i out whole b l e k =
    let n : ℕ = count - i - 1 in
    let same : suc (n + i) ≡ count = omega (arith, l) in
    append_assoc out (b ∷ []) (bytes_left m serial first count (i + 1))
    ∙ ap (λ x. out ++ x ∷ bytes_left m serial first count (i + 1)) e
    ∙ ap (λ c. out ++ byte_at m (record { serial = serial; index = first + i }) ∷ bytes_left m serial first c (i + 1)) (sym same)
    ∙ ap (λ ys. out ++ ys) (sym (left-more m serial first n i))
    ∙ ap (λ c. out ++ bytes_left m serial first c i) same
    ∙ k

pub bytes_done : (m : Memory) (serial first count i : ℕ) (out whole : List ℕ) → count ≤ i → out ++ bytes_left m serial first count i ≡ whole → out ≡ whole
unfolding cells_from
bytes_done m serial first count i out whole l k =
    let none : count - i ≡ 0 = omega (arith, l) in
    sym (append-nil out) ∙ ap (λ n. out ++ map (byte_at m) (cells_from serial (first + i) n)) (sym none) ∙ k
