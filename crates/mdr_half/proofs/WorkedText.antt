-- The plan that is worked out.
use Rattle.std.proofs.Common.{◌≡◌, false, List, [], refl, ap, sym, ◌∙◌, codes}
use Rattle.std.specs.Fmt.{digits}
use Rattle.mdr_core.specs.declared.kind.Kind.{Kind}
use Rattle.mdr_core.specs.declared.kind.Kind.TheVariants.{U8, U16, U32, U64, S8, S16, S32, S64}
use Rattle.mdr_core.specs.declared.types.Ty.TheOpen.{Ty-F}
use Rattle.mdr_core.specs.declared.types.Ty.TheFolds.{fold-Ty, fold-roll-Ty}
use Rattle.mdr_core.specs.declared.types.Ty.TheVariants as type
use Rattle.mdr_core.specs.declared.program.StructDef.{StructDef}
use Rattle.mdr_core.specs.TypeText.{Text, kind_text, text_layer, text_of}
use Rattle.mdr_half.specs.Plans.{plan_text, calls_text}
use Rattle.mdr_half.specs.Worked.{IsWorkedOut}

int_is : (structs : List StructDef) (k : Kind) → text_of structs (type.Int k) ≡ record { bytes = kind_text k; starred = false }
unfolding text_of
int_is structs k = ap (fold-Ty Text (text_layer structs)) (sym (type.rolls-Int k)) ∙ fold-roll-Ty Text (text_layer structs) (Ty-F.Int k)

lock_is : (structs : List StructDef) → text_of structs type.Lock ≡ record { bytes = codes "combolock_t"; starred = false }
unfolding text_of
lock_is structs = ap (fold-Ty Text (text_layer structs)) (sym type.rolls-Lock) ∙ fold-roll-Ty Text (text_layer structs) Ty-F.Lock

pub worked_out : IsWorkedOut
unfolding plan_text calls_text digits
worked_out = record {
  plan = rw (int_is [] U8, int_is [] U16, int_is [] U32, int_is [] U64, int_is [] S8, int_is [] S16, int_is [] S32, int_is [] S64, lock_is []) refl;
  calls = refl;
}
