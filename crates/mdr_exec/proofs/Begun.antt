-- Where a field begins, counted field by field.
use Rattle.std.proofs.Common.{◌≡◌, ℕ, ◌+◌, ◌*◌, ◌<◌, ◌≤◌, List, length, drop, refl, sym, ap, ◌∙◌, arith}
use Rattle.std.proofs.lemmas.List.{length-append}
use Rattle.mdr_core.specs.declared.program.Field.{Field}
use Rattle.mdr_core.specs.declared.program.StructDef.{StructDef}
use Rattle.mdr_core.specs.Layout.{AreFew, AreSmall, Home, field_leaves, field_start, fields_of, leaves, leaves_below, repeated}
use Rattle.mdr_core.proofs.Lying.{Looks, start_and_rest, fields_over}

-- a field ends where the next one begins
start_next : (structs : List StructDef) (s f : ℕ) (x : Field) (size : ℕ) → Looks structs s f x size → field_start structs s (f + 1) ≡ field_start structs s f + x.count * size
start_next structs s f x size l =
    let here = start_and_rest structs s f in
    let next = start_and_rest structs s (f + 1) in
    let own = repeated x.count (leaves (leaves_below structs s) (Home.Within s f) x.ty) in
    let parts : length (field_leaves (leaves_below structs s) s f (drop f (fields_of structs s))) ≡ length own + length (field_leaves (leaves_below structs s) s (f + 1) (drop (f + 1) (fields_of structs s))) = ap length l.all ∙ length-append own (field_leaves (leaves_below structs s) s (f + 1) (drop (f + 1) (fields_of structs s))) in
    let size_is = l.size_is in
    omega arith

-- so many cells lie before field i, which isn't behind field f
pub record Begun (structs : List StructDef) (s f i number total : ℕ) : Type 0 where
  pub at : number ≡ i
  pub before : i ≤ f
  pub so_far : total ≡ field_start structs s i

start_zero : (structs : List StructDef) (s : ℕ) → 0 ≡ field_start structs s 0
unfolding field_start field_leaves
start_zero structs s = refl

pub begun_first : (structs : List StructDef) (s f : ℕ) → Begun structs s f 0 0 0
begun_first structs s f = record { at = refl; before = omega arith; so_far = start_zero structs s }

-- the cells before a field that is there and its own are no more than all
pub begun_small : (structs : List StructDef) (s f i number total : ℕ) (x : Field) (size : ℕ) → AreSmall structs → Looks structs s i x size → Begun structs s f i number total → total + x.count * size ≤ 65536
begun_small structs s f i number total x size small l b =
    let next = start_next structs s i x size l in
    let rest = start_and_rest structs s (i + 1) in
    let all = small.within s in
    let here = b.so_far in
    omega arith

pub begun_few : (structs : List StructDef) (s f i number total : ℕ) (ys : List Field) → AreFew structs → ys ≡ fields_of structs s → i < length ys → Begun structs s f i number total → number + 1 ≤ 65
begun_few structs s f i number total ys few same inside b =
    let all = few.within s in
    let many = ap length same in
    let here = b.at in
    omega arith

pub begun_more : (structs : List StructDef) (s f i number total : ℕ) (x : Field) (size : ℕ) → Looks structs s i x size → Begun structs s f i number total → (number ≡ f → ⊥) → Begun structs s f (i + 1) (number + 1) (total + x.count * size)
begun_more structs s f i number total x size l b other =
    let at = b.at in
    let before = b.before in
    let not_here : i ≡ f → ⊥ = λ e. other (at ∙ e) in
    let so_far = b.so_far in
    let next = start_next structs s i x size l in
    record {
      at = omega arith;
      before = below i f before not_here;
      so_far = omega arith;
    }
  where
    below : (i f : ℕ) → i ≤ f → (i ≡ f → ⊥) → i + 1 ≤ f
    below i f h e = omega arith

pub begun_here : (structs : List StructDef) (s f i number total : ℕ) → Begun structs s f i number total → number ≡ f → total ≡ field_start structs s f
begun_here structs s f i number total b e = b.so_far ∙ ap (field_start structs s) (sym b.at ∙ e)

-- behind the last field all cells are
pub begun_all : (structs : List StructDef) (s f i number total : ℕ) (ys : List Field) → ys ≡ fields_of structs s → length ys ≤ i → Begun structs s f i number total → total ≡ field_start structs s f
begun_all structs s f i number total ys same past b =
    let many = ap length same in
    let before = b.before in
    let so_far = b.so_far in
    let here = start_and_rest structs s i in
    let there = start_and_rest structs s f in
    let none_here = ap length (fields_over (leaves_below structs s) s (fields_of structs s) i (omega arith)) in
    let none_there = ap length (fields_over (leaves_below structs s) s (fields_of structs s) f (omega arith)) in
    omega arith
