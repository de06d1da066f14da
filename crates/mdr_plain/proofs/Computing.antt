-- What worked runs and reports are computed with.
use Rattle.std.proofs.Common.{◌≡◌, ℕ, List, sym, ap, ◌∙◌}
use Rattle.std.specs.Prelude.{false, codes}
use Rattle.std.specs.Fmt.{digits}
use Rattle.mdr_core.specs.declared.kind.Kind.{Kind}
use Rattle.mdr_core.specs.declared.program.StructDef.{StructDef}
use Rattle.mdr_core.specs.declared.types.Ty.{Ty}
use Rattle.mdr_core.specs.declared.types.Ty as form
use Rattle.mdr_core.specs.declared.types.Ty.TheOpen.{Ty-F}
use Rattle.mdr_core.specs.declared.types.Ty.TheFolds.{fold-Ty, fold-roll-Ty}
use Rattle.mdr_core.specs.declared.types.Ty.TheVariants as type
use denote.Hole.Carrier.{out}
use Rattle.mdr_core.specs.Conversions.{converted}
use Rattle.mdr_core.specs.Kinds.{is_in_range}
use Rattle.mdr_core.specs.Layout.{cells, field_leaves, field_start, leaves, leaves_below, repeated, struct_cells}
use Rattle.mdr_core.specs.Operators.{operated, fitted, fitted_or, quotient}
use Rattle.mdr_core.specs.TypeText.{Text, kind_text, text_layer, text_of}
use Rattle.mdr_device.specs.Machines.{first_words, made, read as read_register, written, ticked}
use Rattle.mdr_device.specs.Rules.{effected, ruled, one_tick}
use Rattle.mdr_meaning.specs.Bodies.{means, started}
use Rattle.mdr_meaning.specs.Expressions.{slot_of}
use Rattle.mdr_meaning.specs.Pointers.{size}
use Rattle.mdr_meaning.specs.Printed.{printed}
use Rattle.mdr_model.specs.Memory.{born_at, cell_at, is_live, killed, leaves_of, loaded, normal, put, reached, stored}
use Rattle.mdr_model.specs.Report.{argument_shown, arguments_shown, cell_shown, cells_shown, end_line, event_line as small_line, value_shown}
use Rattle.mdr_model.specs.Sets.{cells_from}
use Rattle.mdr_plain.specs.Gate.{due}
use Rattle.mdr_plain.specs.Locks.{acquire, is_any_held, is_locked, release}
use Rattle.mdr_plain.specs.Outcome.{objects_of, outcome_of, shown_blocks}
use Rattle.mdr_plain.specs.Plain.{plain_of}
use Rattle.mdr_plain.specs.Report.{escaped, event_line, event_lines, hex, object_line, object_lines, report, values_shown}
use Rattle.mdr_plain.specs.Running.{call, interrupts, run}
use Rattle.mdr_plain.specs.Scripts.{begin, block_cells, commands, first_world, idle}
use Rattle.mdr_plain.specs.Services.{served}
use Rattle.mdr_plain.specs.Storage.{births, born, died, first_memory, fresh, read}

-- ---- what runs unfold, and what reports do

unfoldable pub runs : Unit {0}
unfolding
    means started slot_of operated fitted fitted_or quotient converted is_in_range size printed cells struct_cells leaves_below field_leaves field_start repeated leaves form.out-Ty denote.Hole.Carrier.out
    first_words made read_register written ticked effected ruled one_tick
    born_at cell_at is_live killed leaves_of loaded normal put reached stored cells_from
    due acquire is_any_held is_locked release objects_of outcome_of shown_blocks plain_of call interrupts run begin block_cells commands first_world idle served births born died first_memory fresh read
    digits
runs = tt

unfoldable pub reports : Unit {0}
unfolding argument_shown arguments_shown cell_shown cells_shown end_line small_line value_shown digits escaped event_line event_lines hex object_line object_lines report values_shown
reports = tt

-- ---- the texts of types, which don't compute

pub int_text : (structs : List StructDef) (k : Kind) → text_of structs (type.Int k) ≡ record { bytes = kind_text k; starred = false }
unfolding text_of
int_text structs k = ap (fold-Ty Text (text_layer structs)) (sym (type.rolls-Int k)) ∙ fold-roll-Ty Text (text_layer structs) (Ty-F.Int k)

pub lock_text : (structs : List StructDef) → text_of structs type.Lock ≡ record { bytes = codes "combolock_t"; starred = false }
unfolding text_of
lock_text structs = ap (fold-Ty Text (text_layer structs)) (sym type.rolls-Lock) ∙ fold-roll-Ty Text (text_layer structs) Ty-F.Lock

pub struct_text : (structs : List StructDef) (s : ℕ) → text_of structs (type.Struct s) ≡ text_layer structs (Ty-F.Struct s)
unfolding text_of
struct_text structs s = ap (fold-Ty Text (text_layer structs)) (sym (type.rolls-Struct s)) ∙ fold-roll-Ty Text (text_layer structs) (Ty-F.Struct s)

pub pointer_text : (structs : List StructDef) (t : Ty) → text_of structs (type.Ptr t) ≡ text_layer structs (Ty-F.Ptr (text_of structs t))
unfolding text_of
pointer_text structs t = ap (fold-Ty Text (text_layer structs)) (sym (type.rolls-Ptr t)) ∙ fold-roll-Ty Text (text_layer structs) (Ty-F.Ptr t)
