-- The types that occur in a file are types of objects, whatever stands in the type table.
use Rattle.std.proofs.Common.{◌≡◌, ℕ, zero, suc, ◌<◌, Bool, true, false, List, [], ◌∷◌, length, map, Option, Some, None, refl, sym, ap, ◌∙◌, subst, slice_get, ◌⊎◌, inl, inr, arith}
use Rattle.std.proofs.lemmas.Option.{slice_get_within}
use Rattle.mdr_core.specs.declared.code.Stmt.{Stmt}
use Rattle.mdr_core.specs.declared.program.Field.{Field}
use Rattle.mdr_core.specs.declared.program.Func.{Func}
use Rattle.mdr_core.specs.declared.program.GlobalDef.{GlobalDef}
use Rattle.mdr_core.specs.declared.program.Local.{Local}
use Rattle.mdr_core.specs.declared.program.Param.{Param}
use Rattle.mdr_core.specs.declared.program.Program.{Program}
use Rattle.mdr_core.specs.declared.program.StructDef.{StructDef}
use Rattle.mdr_core.specs.declared.types.Ty.{Ty}
use Rattle.mdr_core.specs.Folds.{codes_of}
use Rattle.mdr_core.specs.Typing.{Slot}
use Rattle.mdr_core.specs.Layout.{fields_or, fields_of}
use Rattle.mdr_lower.specs.Tables as occurs
use Rattle.mdr_syntax.specs.declared.tree.Decl.{out-Decl}
use Rattle.mdr_syntax.specs.declared.tree.Head.{Head}
use Rattle.mdr_syntax.specs.declared.tree.Item.{Item}
use Rattle.mdr_syntax.specs.declared.tree.ItemWhat.{ItemWhat}
use Rattle.mdr_syntax.specs.declared.tree.Node.{Node}
use Rattle.mdr_faults.specs.declared.scope.Scope.{Scope}
use Rattle.mdr_faults.specs.Faults.{Right}
use Rattle.mdr_headings.specs.declared.body.Body.{Body}
use Rattle.mdr_headings.specs.declared.head.Heading.{Heading}
use Rattle.mdr_headings.specs.Functions.{function_declared, functions_behind, behind_function, is_taken}
use Rattle.mdr_headings.specs.Heads.{heading}
use Rattle.mdr_check.specs.declared.file.Known.{Known}
use Rattle.mdr_check.specs.declared.file.Piece.{Piece}
use Rattle.mdr_check.specs.declared.variable.Variable.{Variable}
use Rattle.mdr_check.specs.Files.{behind_item, known_behind, first_known, pieces_behind, body_scope}
use Rattle.mdr_operand.specs.Written.{lines_of}
use Rattle.mdr_body.specs.Bodies.{body_rule}
use Rattle.mdr_body.specs.Statements.{Rules}
use Rattle.mdr_lower.specs.Tables.{Occurs}
use Rattle.mdr_program.specs.declared.parts.Parts.{Parts}
use Rattle.mdr_program.specs.Parts.{marked, remote, whole, behind_piece, parts_behind, no_parts}
use Rattle.mdr_sound.specs.Knowing.{IsFormed, Knows}
use Rattle.mdr_sound.specs.Allocating.{ArePlainFormed}
use Rattle.mdr_sound.specs.Bodies.{IsComposed}
use Rattle.mdr_sound.specs.Rules.{AreSoundRules}
use Rattle.mdr_sound.specs.Within.{KnowsDeclarations}
use Rattle.mdr_sound.specs.Written.{AreNamed, AreProper}
use Rattle.mdr_sound.proofs.Making.{allocations_formed, locals_formed}
use Rattle.mdr_sound.specs.Counting.{Begins}
use Rattle.mdr_sound.specs.Standing.{Stands}
use Rattle.mdr_sound.specs.Whole.{IsMadeOf, AreDefinesInRange, IsBodyProper, AreBodiesProper}
use Rattle.mdr_sound.proofs.Along.{IsPlace, GoesOn, along, counted_all}
use Rattle.mdr_sound.proofs.CountedItems.{last_or_before, ruled}
use Rattle.mdr_sound.proofs.Declaring.{defined_put, declared_keep}
use Rattle.mdr_sound.proofs.Functions.{marked_types}
use Rattle.mdr_sound.proofs.Headings.{head_result_is, heading_params}
use Rattle.mdr_sound.proofs.NamedTypes.{AreNumbered, declarator_good}
use Rattle.mdr_sound.proofs.Objects.{object_sound, tags_numbered}
use Rattle.mdr_sound.proofs.Outlines.{names_structs}
use Rattle.mdr_sound.proofs.Passing.{function_structs, function_tags}
use Rattle.mdr_sound.proofs.Reading.{get_map, get_mapped}
use Rattle.mdr_sound.proofs.Scopes.{IsStanding, standing_goes_on, first_standing, function_stands, global_from}
use Rattle.mdr_sound.proofs.SoundGlobals.{declared}
use Rattle.mdr_sound.proofs.Sounding.{put_either, keep_either, proper_at}
use Rattle.mdr_sound.proofs.Viewed.{Comes, OfDefine, OfStruct, OfEnum, OfGlobal, OfPrototype, OfFunction, comes_to}

abbrev IsBodyFormed : Program → Option (List Stmt) → Type 0
IsBodyFormed program None = Unit {0}
IsBodyFormed program (Some body) = ArePlainFormed program (codes_of body)

-- the types of a function
record IsFormedFunc (program : Program) (f : Func) : Type 0 where
  params : (i : ℕ) (p : Param) → slice_get f.params i ≡ Some p → IsFormed program p.ty
  locals : (i : ℕ) (l : Local) → slice_get f.locals i ≡ Some l → IsFormed program l.ty
  body : IsBodyFormed program f.body

marked_formed : (program : Program) (objects : List Bool) (ps : List Param) → ((i : ℕ) (p : Param) → slice_get ps i ≡ Some p → IsFormed program p.ty) → (i : ℕ) (p : Param) → slice_get (marked objects 0 ps) i ≡ Some p → IsFormed program p.ty
marked_formed program objects ps h i p e =
    let there : slice_get (map (λ (p : Param). p.ty) (marked objects 0 ps)) i ≡ Some p.ty = get_map (λ (p : Param). p.ty) (marked objects 0 ps) i p e in
    let also : slice_get (map (λ (p : Param). p.ty) ps) i ≡ Some p.ty = ap (λ (ts : List Ty). slice_get ts i) (sym (marked_types objects 0 ps)) ∙ there in
    let m = get_mapped (λ (p : Param). p.ty) ps i p.ty also in
    subst (IsFormed program) m.made (h i m.item m.names)

module _ (program : Program) (rules : Rules) (items : List Item) (xs : List Piece) (right : pieces_behind (body_rule rules) (first_known items) [] items ≡ Right xs) (made : IsMadeOf program (parts_behind no_parts xs)) (ranges : AreDefinesInRange items) (proper : AreBodiesProper items) (sound_rules : (scope : Scope) → Knows program scope → (slots : List Slot) → AreSoundRules program slots scope rules) where
  abbrev Whole : Parts
  Whole = parts_behind no_parts xs

  abbrev Last : Known
  Last = known_behind (first_known items) items

  abbrev Turn : List Item → Known → Item → Piece → Parts → Type 0
  Turn = IsPlace (body_rule rules) items Whole Last.functions

  abbrev AtRest : Known → Parts → Type 0
  AtRest = IsStanding program (body_rule rules) items xs right made ranges

  -- the types of globals and functions so far
  record AreFormedParts (known : Known) (ps : Parts) : Type 0 where
    rests : AtRest known ps
    globals : (g : ℕ) (v : Variable) → slice_get ps.variables g ≡ Some v → IsFormed program v.object.ty
    funcs : (i : ℕ) (f : Func) → slice_get ps.funcs i ≡ Some f → IsFormedFunc program f

  -- ---- one function

  scope_structs : (known : Known) (h : Head) → (body_scope known h).structs ≡ known.scope.structs
  unfolding behind_function
  scope_structs known h = function_structs (is_taken known.scope h.name) known.scope (length known.functions) h

  scope_tags : (known : Known) (h : Head) → known.scope.tags ≡ (body_scope known h).tags
  unfolding behind_function
  scope_tags known h = function_tags (is_taken known.scope h.name) known.scope (length known.functions) h

  knows_there : (known : Known) (ps : Parts) (scope : Scope) → AtRest known ps → Stands program scope → scope.structs ≡ known.scope.structs → KnowsDeclarations program scope
  knows_there known ps scope q st same =
      let low : AreNumbered scope (length program.structs) = tags_numbered program scope st in
      record {
        formed = λ limit d o e. (object_sound program scope limit d o st e).sort;
        small = λ limit d o e. (object_sound program scope limit d o st e).small;
        parameters = λ d t e. (declarator_good scope (length program.structs) d low).parameter t e;
        results = λ h t e. head_result_is scope (length program.structs) h t low e;
        fields = λ s f entry x e g. q.fields s f entry x (ap (λ es. slice_get es s) (sym same) ∙ e) g;
      }

  scope_stands : (before : List Item) (known : Known) (ps : Parts) (h : Head) (is_body : Bool) (g : Heading) → function_declared known.scope known.functions before h is_body ≡ Right g → Begins (functions_behind known.scope known.functions h) Last.functions → AtRest known ps → AreNumbered known.scope (length program.structs) → Stands program (body_scope known h)
  scope_stands before known ps h is_body g e b q low =
      function_stands program (body_rule rules) items xs right made ranges known h (record { heading = g; listed = (ruled known.scope known.functions before h is_body g e).right; begins = b }) q.stands low

  heading_formed : (before : List Item) (known : Known) (ps : Parts) (h : Head) (is_body : Bool) (g : Heading) → function_declared known.scope known.functions before h is_body ≡ Right g → Begins (functions_behind known.scope known.functions h) Last.functions → AtRest known ps → AreNumbered known.scope (length program.structs) → (i : ℕ) (p : Param) → slice_get g.params i ≡ Some p → IsFormed program p.ty
  heading_formed before known ps h is_body g e b q low i p at =
      let listed : heading known.scope h ≡ Right g = (ruled known.scope known.functions before h is_body g e).right in
      inl (heading_params known.scope (length program.structs) h g low listed i p at)

  prototype_formed : (before : List Item) (known : Known) (ps : Parts) (h : Head) (g : Heading) → function_declared known.scope known.functions before h false ≡ Right g → Begins (functions_behind known.scope known.functions h) Last.functions → AtRest known ps → AreNumbered known.scope (length program.structs) → IsFormedFunc program (remote h.name g)
  prototype_formed before known ps h g e b q low = record {
    params = heading_formed before known ps h false g e b q low;
    locals = λ i l n. absurd cc;
    body = tt;
  }

  body_formed : (before : List Item) (known : Known) (ps : Parts) (h : Head) (is_critical : Bool) (nodes : List Node) (g : Heading) (body : Body) → function_declared known.scope known.functions before h true ≡ Right g → body_rule rules (body_scope known h) h nodes ≡ Right body → AreNamed h.params × AreProper (lines_of nodes) → Begins (functions_behind known.scope known.functions h) Last.functions → AtRest known ps → AreNumbered known.scope (length program.structs) → IsFormedFunc program (whole h.name is_critical g body)
  body_formed before known ps h is_critical nodes g body e f written b q low =
      let scope = body_scope known h in
      let st = scope_stands before known ps h true g e b q low in
      let declarations = knows_there known ps scope q st (scope_structs known h) in
      let composed : IsComposed rules scope h nodes g body = record { front = known.scope; tags = scope_tags known h; heading_is = (ruled known.scope known.functions before h true g e).right; body_is = f; named = written.0; proper = written.1 } in
      record {
        params = marked_formed program body.objects g.params (heading_formed before known ps h true g e b q low);
        locals = locals_formed program rules scope h nodes g body declarations (sound_rules scope st.knows) composed;
        body = allocations_formed program rules scope h nodes g body declarations (sound_rules scope st.knows) composed;
      }

  one_formed : (fs : List Func) (f g : Func) → ((i : ℕ) (f : Func) → slice_get fs i ≡ Some f → IsFormedFunc program f) → IsFormedFunc program f → (i : ℕ) → (slice_get fs i ≡ Some g) ⊎ (f ≡ g) → IsFormedFunc program g
  one_formed fs f g h own i (inl old) = h i g old
  one_formed fs f g h own i (inr new) = subst (IsFormedFunc program) new own

  one_global : (vs : List Variable) (v w : Variable) → ((g : ℕ) (v : Variable) → slice_get vs g ≡ Some v → IsFormed program v.object.ty) → IsFormed program v.object.ty → (g : ℕ) → (slice_get vs g ≡ Some w) ⊎ (v ≡ w) → IsFormed program w.object.ty
  one_global vs v w h own g (inl old) = h g w old
  one_global vs v w h own g (inr new) = subst (λ (u : Variable). IsFormed program u.object.ty) new own

  formed_behind : (before : List Item) (known : Known) (ps : Parts) (what : ItemWhat) (x : Piece) → Comes (body_rule rules) items before known what x → IsBodyProper what → Begins (behind_item known what).functions Last.functions → AreNumbered known.scope (length program.structs) → AtRest (behind_item known what) (behind_piece ps x) → AreFormedParts known ps → AreFormedParts (behind_item known what) (behind_piece ps x)
  formed_behind before known ps _ _ (OfDefine name is_negative n k) written begins low rests q = record { rests = rests; globals = q.globals; funcs = q.funcs }
  formed_behind before known ps _ _ (OfStruct at name ds fields) written begins low rests q = record { rests = rests; globals = q.globals; funcs = q.funcs }
  formed_behind before known ps _ _ (OfEnum es) written begins low rests q = record { rests = rests; globals = q.globals; funcs = q.funcs }
  formed_behind before known ps _ _ (OfGlobal d init v e) written begins low rests q =
      let own = (object_sound program known.scope (out-Decl d).place d v.object (q.rests).stands (declared known.scope known.globals d init v e).object).sort in
      record { rests = rests; globals = λ g w n. one_global ps.variables v w q.globals own g (last_or_before ps.variables v g w n); funcs = q.funcs }
  formed_behind before known ps _ _ (OfPrototype h is_remote g e) written begins low rests q = record {
    rests = rests;
    globals = q.globals;
    funcs = λ i f n. one_formed ps.funcs (remote h.name g) f q.funcs (prototype_formed before known ps h g e begins q.rests low) i (keep_either ps.funcs (remote h.name g) f i (ap (λ fs. slice_get fs i) (sym (declared_keep ps.funcs (remote h.name g))) ∙ n));
  }
  formed_behind before known ps _ _ (OfFunction h is_critical nodes g b e f) written begins low rests q = record {
    rests = rests;
    globals = q.globals;
    funcs = λ i k n. one_formed ps.funcs (whole h.name is_critical g b) k q.funcs (body_formed before known ps h is_critical nodes g b e f written begins q.rests low) i (put_either ps.funcs (whole h.name is_critical g b) k i (ap (λ fs. slice_get fs i) (sym (defined_put ps.funcs (whole h.name is_critical g b))) ∙ n));
  }

  formed_goes_on : GoesOn (body_rule rules) items Whole Last.functions AreFormedParts
  formed_goes_on = record {
    behind = λ before known i x ps place q.
        formed_behind before known ps i.what x (comes_to (body_rule rules) items before known i.place i.what x place.one)
        (proper_at before (place.begins).more i (subst AreBodiesProper (place.begins).whole proper))
        place.declared
        (names_structs program (body_rule rules) items xs right made known.scope (place.at).tags)
        ((standing_goes_on program (body_rule rules) items xs right made ranges).behind before known i x ps place q.rests)
        q;
  }

  all_formed : AreFormedParts Last Whole
  all_formed = along (body_rule rules) items xs AreFormedParts right formed_goes_on (record { rests = first_standing program (body_rule rules) items xs right made ranges; globals = λ g v e. absurd cc; funcs = λ i f e. absurd cc })

  -- ---- the program

  there_is : {A : Type 0} (xs : List A) (i : ℕ) → i < length xs → (x : A) × (slice_get xs i ≡ Some x)
  there_is [] i less = absurd (omega (arith, less))
  there_is (x ∷ rest) zero less = (x, refl)
  there_is (x ∷ rest) (suc i) less = there_is rest i (omega (arith, less))

  structs_many : length Last.scope.structs ≡ length program.structs
  structs_many = (counted_all (body_rule rules) items xs right).structs ∙ ap length (sym made.structs)

  field_formed : (s f : ℕ) (def : StructDef) (x : Field) → slice_get program.structs s ≡ Some def → slice_get def.fields f ≡ Some x → IsFormed program x.ty
  field_formed s f def x names e =
      let inside = slice_get_within program.structs s def names in
      let entry = there_is Last.scope.structs s (subst (λ n. s < n) (sym structs_many) inside) in
      let at : slice_get (fields_of program.structs s) f ≡ Some x = ap (λ (o : Option StructDef). slice_get (fields_or o) f) names ∙ e in
      let m = (all_formed.rests).fields s f entry.0 x entry.1 at in
      subst (IsFormed program) m.ty (((all_formed.rests).stands.knows).members s f entry.0 m.member m.object entry.1 m.at m.means).formed

  func_at : (f : ℕ) (func : Func) → slice_get program.funcs f ≡ Some func → IsFormedFunc program func
  func_at f func e = all_formed.funcs f func (ap (λ fs. slice_get fs f) (sym made.funcs) ∙ e)

  body_at : (f : ℕ) (func : Func) (body : List Stmt) → slice_get program.funcs f ≡ Some func → func.body ≡ Some body → ArePlainFormed program (codes_of body)
  body_at f func body e is = subst (IsBodyFormed program) is (func_at f func e).body

  -- each type that occurs in the program of a file without faults is a type of objects
  pub types_formed : (t : Ty) → Occurs program t → IsFormed program t
  types_formed t (occurs.OfField s f def x names e is) = subst (IsFormed program) is (field_formed s f def x names e)
  types_formed t (occurs.OfGlobal g def names is) =
      let v = global_from program.types Whole.structs Whole.variables Whole.variables g def (ap (λ gs. slice_get gs g) (sym made.globals) ∙ names) in
      subst (IsFormed program) (ap (λ (d : GlobalDef). d.ty) v.2 ∙ is) (all_formed.globals g v.0 v.1)
  types_formed t (occurs.OfParam f i func p names e is) = subst (IsFormed program) is ((func_at f func names).params i p e)
  types_formed t (occurs.OfLocal f i func l names e counted is) = subst (IsFormed program) is ((func_at f func names).locals i l e)
  types_formed t (occurs.OfAllocation f func body names is m) = body_at f func body names is t m
