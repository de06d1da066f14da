-- What annotations see of a struct is so, wherever in the file it is defined.
use Rattle.std.proofs.Common.{◌≡◌, ℕ, true, not, ◌&&◌, List, length, map, Some, sym, ap, ◌∙◌, slice_get, is_some}
use Rattle.mdr_core.specs.declared.place.Place.{Place}
use Rattle.mdr_core.specs.declared.program.Field.{Field}
use Rattle.mdr_core.specs.declared.program.Program.{Program}
use Rattle.mdr_core.specs.Layout.{fields_of}
use Rattle.mdr_core.specs.Types.{is_scalar}
use Rattle.mdr_syntax.specs.declared.tree.Decl.{Decl, out-Decl}
use Rattle.mdr_faults.specs.declared.scope.Candidate.{Candidate}
use Rattle.mdr_faults.specs.declared.scope.Scope.{Scope}
use Rattle.mdr_faults.specs.Faults.{Right}
use Rattle.mdr_headings.specs.Annotations.{candidate}
use Rattle.mdr_headings.specs.Structs.{struct_fields}
use Rattle.mdr_sound.specs.Standing.{IsScalarField}
use Rattle.mdr_sound.proofs.Candidates.{candidate_scalar, same_candidate}
use Rattle.mdr_sound.proofs.Gathering.{pair_of_left}
use Rattle.mdr_sound.proofs.NamedTypes.{AreNumbered, declarator_good}
use Rattle.mdr_sound.proofs.Reading.{get_mapped, left_holds, right_holds}
use Rattle.mdr_sound.proofs.Sorts.{scalar_sort}
use Rattle.mdr_sound.proofs.Structs.{IsFieldOf, struct_as, field_made, not_true}

-- a field that an annotation sees as a scalar is one, in a scope with the same names of structs
pub outline_is : (program : Program) (first scope : Scope) (p : Place) (ds : List Decl) (xs : List Field) (s f : ℕ) (c : Candidate) → AreNumbered scope (length program.structs) → first.tags ≡ scope.tags → struct_fields scope p ds ≡ Right xs → fields_of program.structs s ≡ xs → slice_get (map (candidate first) ds) f ≡ Some c → c.is_scalar ≡ true → IsScalarField program s f
outline_is program first scope p ds xs s f c low tags right is n e =
    let a = struct_as scope p ds xs right in
    let m = get_mapped (candidate first) ds f c n in
    let r = pair_of_left (IsFieldOf scope p (map (candidate scope) ds)) ds xs f m.item a.fields m.names in
    let x = r.0 in
    let h = (r.1).related in
    let made = field_made scope p (map (candidate scope) ds) m.item x h in
    let size = is_some (out-Decl m.item).size in
    let seen : candidate scope m.item ≡ c = sym (same_candidate first scope m.item tags) ∙ m.made in
    let both : (is_scalar x.ty && not size) ≡ true = sym (candidate_scalar scope m.item x.ty made.whole) ∙ ap (λ (y : Candidate). y.is_scalar) seen ∙ e in
    record {
      field = x;
      names = ap (λ (ys : List Field). slice_get ys f) is ∙ (r.1).right;
      single = sym made.array ∙ not_true size (right_holds (is_scalar x.ty) (not size) both);
      scalar = scalar_sort (length program.structs) x.ty (left_holds (is_scalar x.ty) (not size) both) ((declarator_good scope (length program.structs) m.item low).whole x.ty made.whole);
    }
