-- What is read of a cell.
use Rattle.std.proofs.Common.{◌≡◌, ◌∙◌, Option, Some, None, ap}
use Rattle.std.specs.Prelude.{option_map}
use Rattle.mdr_core.specs.declared.value.Value.{Value}
use Rattle.mdr_meaning.specs.declared.wire.Wire.{Wire}
use Rattle.mdr_meaning.specs.Values.{wire_of}
use Rattle.mdr_mem.specs.Contents.{Contents, wire_in}
use Rattle.mdr_track.specs.Pairs.{Pairs}
use Rattle.mdr_track.specs.Pointers.{named}
use Rattle.mdr_user_memory.specs.Paired.{IsLinked, told}
use Rattle.mdr_user_memory.proofs.ValueLaws.{named_told}

pub some_at : (r : Contents) (ps : Pairs) → IsLinked r ps → (v x : Value) (o : Option Wire) → x ≡ named ps v → Some (wire_in r.handles v) ≡ o → Some (wire_of x) ≡ option_map (told r.handles ps) o
some_at r ps l v x o is there =
    ap (λ y. Some (wire_of y)) is ∙ (ap Some (named_told r.handles ps l.matched l.only l.order.one v) ∙ ap (λ z. option_map (told r.handles ps) z) there)

pub none_at : (r : Contents) (ps : Pairs) (o : Option Wire) → ◌≡◌ {A = Option Wire} None o → ◌≡◌ {A = Option Wire} None (option_map (told r.handles ps) o)
none_at r ps o there = ap (λ z. option_map (told r.handles ps) z) there
