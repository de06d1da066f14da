-- What a tick and a birth make of a run.
use Rattle.std.proofs.Common.{◌≡◌, ◌+◌, ◌-◌, true, List, [], ◌∷◌, ◌++◌, length, map, sym, ◌∙◌, ap, subst, arith}
use Rattle.std.proofs.lemmas.List.{length-map}
use Rattle.mdr_core.specs.Layout.{cells_at, repeated}
use Rattle.mdr_core.specs.declared.types.Shape.{Shape}
use Rattle.mdr_core.specs.declared.value.Block.{Block}
use Rattle.mdr_core.specs.declared.value.Value.{Value}
use Rattle.mdr_device.specs.Machines.{Machine, advanced as passed}
use Rattle.mdr_mem.specs.declared.cells.Life.{Life}
use Rattle.mdr_mem.specs.declared.cells.Life.TheVariants as life
use Rattle.mdr_mem.specs.Contents.{births_in, born_as, new_block, wire_in}
use Rattle.mdr_mem.proofs.StandingLaws.{values_stand}
use Rattle.mdr_meaning.specs.declared.shape.Shape64.{Shape64}
use Rattle.mdr_meaning.specs.Values.{wire_of}
use Rattle.mdr_model.specs.declared.message.BirthKind.{BirthKind}
use Rattle.mdr_model.specs.declared.message.New.{New}
use Rattle.mdr_model.specs.Memory.{Memory, leaves_of, zero_block, zero_of}
use Rattle.mdr_plain.specs.Storage.{birth_of, born, new_of}
use Rattle.mdr_world.specs.Driven.{Driven, Ticks, driver}

pub ticked : (d old : Driven) → d ≡ old → (machine : Machine) → (d.world.clock.rest ≡ 0 → ⊥) → machine ≡ passed 1 d.world.clock.device
    → Ticks true old (driver d.program (record d.world { clock = record { ticks = d.world.clock.ticks + 1; rest = d.world.clock.rest - 1; device = machine } }))
ticked d old same machine some e =
    subst (λ (x : Driven). Ticks true x (driver d.program (record d.world { clock = record { ticks = d.world.clock.ticks + 1; rest = d.world.clock.rest - 1; device = machine } }))) same (
      d.world.clock.rest - 1,
      omega (arith, some),
      ap (λ m. driver d.program (record d.world { clock = record { ticks = d.world.clock.ticks + 1; rest = d.world.clock.rest - 1; device = m } })) e,
    )

pub added : (d old : Driven) → d ≡ old → (kind : BirthKind) (shape : Shape64) (small : Shape) (first : List Value) (b : Block) (hs : List Block) (memory : Memory) (lives : List Life)
    → small.ty ≡ shape.ty → small.count ≡ shape.count
    → map wire_of first ≡ map zero_of (repeated small.count (cells_at d.program small.ty))
    → b.serial ≡ births_in d.world.lives
    → memory ≡ d.world.memory ++ new_block kind small first b hs ∷ []
    → lives ≡ d.world.lives ++ life.Birth (length first) ∷ []
    → driver d.program (record d.world { memory = memory; lives = lives }) ≡ driver old.program (born old.program (new_of kind shape old.world) old.world)
unfolding born leaves_of
added d old same kind shape small first b hs memory lives ty count zeros serial is_memory are_lives =
    let as_born : ◌≡◌ {A = New} (born_as kind small b) (new_of kind shape d.world) = λ i. record { serial = serial i; kind = kind; ty = ty i; count = count i } in
    let block : new_block kind small first b hs ≡ zero_block d.program (new_of kind shape d.world) = values_stand.zero d.program kind small first b hs zeros ∙ ap (zero_block d.program) as_born in
    let birth : life.Birth (length first) ≡ birth_of (zero_block d.program (new_of kind shape d.world)) = ap (λ n. life.Birth n) (sym (length-map first (wire_in hs))) ∙ ap birth_of block in
    let memory_is : memory ≡ d.world.memory ++ zero_block d.program (new_of kind shape d.world) ∷ [] = is_memory ∙ ap (λ x. d.world.memory ++ x ∷ []) block in
    let lives_are : lives ≡ d.world.lives ++ birth_of (zero_block d.program (new_of kind shape d.world)) ∷ [] = are_lives ∙ ap (λ x. d.world.lives ++ x ∷ []) birth in
    (λ i. driver d.program (record d.world { memory = memory_is i; lives = lives_are i })) ∙ ap (λ (x : Driven). driver x.program (born x.program (new_of kind shape x.world) x.world)) same
