-- What stands at a place of a file stands behind a struct, too.
use Rattle.std.proofs.Common.{◌≡◌, ℕ, ◌<◌, ◌⊎◌, inl, inr, true, List, length, Some, slice_get, sym, ap, subst, ◌∙◌}
use Rattle.mdr_core.specs.declared.place.Place.{Place}
use Rattle.mdr_core.specs.declared.program.Program.{Program}
use Rattle.mdr_core.specs.Layout.{fields_of}
use Rattle.mdr_syntax.specs.declared.tree.Decl.{Decl}
use Rattle.mdr_faults.specs.declared.scope.Scope.{Scope}
use Rattle.mdr_faults.specs.declared.scope.StructEntry.{StructEntry}
use Rattle.mdr_faults.specs.Scopes.{tag_named}
use Rattle.mdr_headings.specs.Source.{is_numbered, with_struct_if, behind_struct}
use Rattle.mdr_headings.specs.Structs.{struct_entry}
use Rattle.mdr_check.specs.declared.variable.Variable.{Variable}
use Rattle.mdr_sound.specs.Declared.{IsKnownStruct}
use Rattle.mdr_sound.specs.Globals.{StandsAmong}
use Rattle.mdr_sound.proofs.StructsKnown.{at_end, stands_behind_struct}

members_behind : (program : Program) (scope : Scope) (p : Place) (ds : List Decl) (vs : List Variable) → StandsAmong program scope vs → IsKnownStruct program scope p ds (length scope.structs) → (s : ℕ) (entry : StructEntry) → (slice_get scope.structs s ≡ Some entry) ⊎ ((length scope.structs ≡ s) × (struct_entry scope p ds ≡ entry)) → length entry.members ≡ length (fields_of program.structs s)
members_behind program scope p ds vs st known s entry (inl e) = st.members s entry e
members_behind program scope p ds vs st known s entry (inr e) = ap (λ (x : StructEntry). length x.members) (sym e.1) ∙ known.many ∙ ap (λ (n : ℕ). length (fields_of program.structs n)) e.0

among_behind : (program : Program) (scope : Scope) (p : Place) (ds : List Decl) (vs : List Variable) → StandsAmong program scope vs → IsKnownStruct program scope p ds (length scope.structs) → length scope.structs < length program.structs → StandsAmong program (with_struct_if true scope (struct_entry scope p ds)) vs
among_behind program scope p ds vs st known room = record {
  stands = stands_behind_struct program scope p ds st.stands known room;
  variables = st.variables;
  structs = st.structs;
  members = λ s entry e. members_behind program scope p ds vs st known s entry (at_end scope.structs (struct_entry scope p ds) entry s e);
}

-- the struct's definition is its first
pub among_behind_struct : (program : Program) (scope : Scope) (p : Place) (name : List ℕ) (ds : List Decl) (vs : List Variable) → is_numbered (tag_named scope name) (length scope.structs) ≡ true → StandsAmong program scope vs → IsKnownStruct program scope p ds (length scope.structs) → length scope.structs < length program.structs → StandsAmong program (behind_struct scope p name ds) vs
among_behind_struct program scope p name ds vs first st known room = subst (λ b. StandsAmong program (with_struct_if b scope (struct_entry scope p ds)) vs) (sym first) (among_behind program scope p ds vs st known room)
