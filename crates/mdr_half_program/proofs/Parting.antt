-- The program of a half's text is the half's part of the whole program.
use Rattle.mdr_check.specs.Tables.{type_table}
use Rattle.mdr_core.specs.declared.plan.Half.{Half}
use Rattle.mdr_core.specs.declared.plan.Plan.{Plan}
use Rattle.mdr_faults.specs.declared.fault.FaultKind.TheVariants.{Mismatch}
use Rattle.mdr_half_program.proofs.Pieced.{halves_lead}
use Rattle.mdr_half_program.proofs.Sided.{sides_both}
use Rattle.mdr_half_program.specs.Pieces.{piece_in}
use Rattle.mdr_half_program.specs.Programs.{HalvesHaveThePrograms, IsPartOf}
use Rattle.mdr_half_program.specs.Sides.{IsSide}
use Rattle.mdr_program.specs.Occurring.{occurring}
use Rattle.mdr_program.specs.declared.parts.Parts.{Parts}
use Rattle.std.proofs.Common.{List, ap, map, true, ◌∙◌, ◌≡◌}
use Rattle.mdr_check.specs.declared.file.Piece.{Piece}
use Rattle.mdr_check.specs.declared.variable.Variable.{Variable}
use Rattle.mdr_check_half.specs.HalfPrograms.{begin, planned, half_right}
use Rattle.mdr_check_half.specs.Suiting.{suits_text}
use Rattle.mdr_core.specs.declared.program.StructDef.{StructDef}
use Rattle.mdr_core.specs.declared.types.Ty.{Ty}
use Rattle.mdr_faults.specs.Faults.{Checked, Right, after, demand}
use Rattle.mdr_program.specs.Parts.{parts_of}
use Rattle.mdr_program.specs.Programs.{made, with_types, global_defs}

globals_same : (types : List Ty) (p q : Parts) → q.structs ≡ p.structs → q.variables ≡ p.variables → (with_types types q).globals ≡ (with_types types p).globals
globals_same types p q e f =
    ap (λ (ds : List StructDef). global_defs types ds q.variables q.variables) e
    ∙ ap (λ (vs : List Variable). global_defs types p.structs vs vs) f

types_same : (types other : List Ty) (p : Parts) → types ≡ other → (with_types types p).globals ≡ (with_types other p).globals
types_same types other p e = ap (λ (ts : List Ty). (with_types ts p).globals) e

module _ (half : Half) (plan : Plan) where
  part_by : (p q : Parts) → IsSide half plan p q → plan.types ≡ (made p).types → IsPartOf half plan (made p) (with_types plan.types q)
  unfolding made
  part_by p q s e = record {
    types = e;
    structs = s.structs;
    globals = globals_same plan.types p q s.structs s.variables ∙ types_same plan.types (type_table p.structs (occurring p)) p e;
    funcs = s.funcs;
  }

  suited : (q : Parts) → suits_text plan q ≡ true → planned plan q ≡ Right (with_types plan.types q)
  suited q e = ap (λ b. demand begin Mismatch b (Right (with_types plan.types q))) e

pub halves_are_parts : HalvesHaveThePrograms
halves_are_parts body uses half plan tree xs e types suits = record {
  part = with_types plan.types (parts_of (map (piece_in half plan) xs));
  typed = ap (λ (c : Checked (List Piece)). after c (half_right plan)) (halves_lead body uses half plan tree xs e) ∙ suited half plan (parts_of (map (piece_in half plan) xs)) suits;
  is_part = part_by half plan (parts_of xs) (parts_of (map (piece_in half plan) xs)) (sides_both half plan xs) types;
}
