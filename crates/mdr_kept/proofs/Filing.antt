-- The functions of a file name objects only where they live, each in its place.
use Rattle.std.proofs.Common.{◌≡◌, ℕ, Bool, true, List, [], length, Option, Some, None, slice_get, refl, sym, ap, ◌∙◌, subst, ◌⊎◌, inl, inr}
use Rattle.std.proofs.lemmas.Option.{none-some, same_Some}
use Rattle.mdr_core.specs.declared.code.Stmt.{Stmt}
use Rattle.mdr_core.specs.declared.program.Func.{Func}
use Rattle.mdr_core.specs.declared.program.Program.{Program}
use Rattle.mdr_core.specs.Typing.{Slot, slots_of}
use Rattle.mdr_syntax.specs.declared.tree.Head.{Head}
use Rattle.mdr_syntax.specs.declared.tree.Item.{Item}
use Rattle.mdr_syntax.specs.declared.tree.ItemWhat.{ItemWhat}
use Rattle.mdr_syntax.specs.declared.tree.Node.{Node}
use Rattle.mdr_faults.specs.declared.scope.Scope.{Scope}
use Rattle.mdr_faults.specs.Faults.{Right}
use Rattle.mdr_headings.specs.declared.body.Body.{Body}
use Rattle.mdr_headings.specs.declared.head.Heading.{Heading}
use Rattle.mdr_headings.specs.Functions.{function_declared, functions_behind}
use Rattle.mdr_check.specs.declared.file.Known.{Known}
use Rattle.mdr_check.specs.declared.file.Piece.{Piece}
use Rattle.mdr_check.specs.Files.{behind_item, known_behind, first_known, pieces_behind, body_scope}
use Rattle.mdr_check.specs.Uses.{UseRule}
use Rattle.mdr_operand.specs.Written.{lines_of}
use Rattle.mdr_body.specs.Bodies.{body_rule}
use Rattle.mdr_body.specs.Statements.{Rules}
use Rattle.mdr_meaning.specs.Bodies.{body_of, body_by, body_from}
use Rattle.mdr_meaning.specs.Sides as sides
use Rattle.mdr_program.specs.declared.parts.Parts.{Parts}
use Rattle.mdr_program.specs.Parts.{remote, whole, behind_piece, parts_behind, no_parts}
use Rattle.mdr_program.specs.Programs.{typed}
use Rattle.mdr_kept.specs.Scopes.{BodyScoped, IsScoped}
use Rattle.mdr_sound.specs.Knowing.{Knows}
use Rattle.mdr_sound.specs.Bodies.{IsComposed}
use Rattle.mdr_sound.specs.Rules.{AreSoundRules}
use Rattle.mdr_sound.specs.Written.{AreNamed, AreProper}
use Rattle.mdr_sound.specs.Counting.{Begins}
use Rattle.mdr_sound.specs.Whole.{HasAll, IsMadeOf, AreDefinesInRange, IsBodyProper, AreBodiesProper}
use Rattle.mdr_sound.proofs.Along.{GoesOn, along}
use Rattle.mdr_sound.proofs.Declaring.{defined_put, declared_keep}
use Rattle.mdr_sound.proofs.Filed.{file_of, file_made}
use Rattle.mdr_sound.proofs.NamedTypes.{AreNumbered}
use Rattle.mdr_sound.proofs.Outlines.{names_structs}
use Rattle.mdr_sound.proofs.Scopes.{IsStanding, standing_goes_on, first_standing, function_stands}
use Rattle.mdr_sound.proofs.Sounding.{put_either, keep_either, proper_at, headed_by, knows_declarations, body_scope_structs, body_scope_tags}
use Rattle.mdr_sound.proofs.Viewed.{Comes, OfDefine, OfStruct, OfEnum, OfGlobal, OfPrototype, OfFunction, comes_to}
use Rattle.mdr_kept.specs.Bodies.{ScopedWith, IsScopedFunc}
use Rattle.mdr_kept.specs.Plain.{ArePlainRules}
use Rattle.mdr_kept.proofs.Making.{bodies_scoped}

module _ (program : Program) (rules : Rules) (items : List Item) (xs : List Piece) (right : pieces_behind (body_rule rules) (first_known items) [] items ≡ Right xs) (made : IsMadeOf program (parts_behind no_parts xs)) (ranges : AreDefinesInRange items) (proper : AreBodiesProper items) (all : HasAll program) (sound_rules : (scope : Scope) → Knows program scope → (slots : List Slot) → AreSoundRules program slots scope rules) (plain : (scope : Scope) → ArePlainRules scope rules) where
  abbrev Whole : Parts
  Whole = parts_behind no_parts xs

  abbrev Last : Known
  Last = known_behind (first_known items) items

  abbrev AtRest : Known → Parts → Type 0
  AtRest = IsStanding program (body_rule rules) items xs right made ranges

  -- a function in its place
  function_scoped : (before : List Item) (known : Known) (ps : Parts) (h : Head) (is_critical : Bool) (nodes : List Node) (g : Heading) (b : Body) → function_declared known.scope known.functions before h true ≡ Right g → body_rule rules (body_scope known h) h nodes ≡ Right b → AreNamed h.params × AreProper (lines_of nodes) → Begins (functions_behind known.scope known.functions h) Last.functions → AtRest known ps → AreNumbered known.scope (length program.structs) → IsScopedFunc (whole h.name is_critical g b)
  function_scoped before known ps h is_critical nodes g b e f written begins q low =
      let headed = headed_by program rules items xs right made ranges proper all sound_rules before known h true g e begins in
      let scope = body_scope known h in
      let st = function_stands program (body_rule rules) items xs right made ranges known h headed q.stands low in
      let declarations = knows_declarations program rules items xs right made ranges proper all sound_rules known ps scope q st (body_scope_structs program rules items xs right made ranges proper all sound_rules known h) in
      let is_made : IsComposed rules scope h nodes g b = record { front = known.scope; tags = body_scope_tags program rules items xs right made ranges proper all sound_rules known h; heading_is = headed.listed; body_is = f; named = written.0; proper = written.1 } in
      bodies_scoped program rules scope h nodes g b h.name is_critical declarations (sound_rules scope st.knows) (plain scope) is_made

  record IsScopedFile (known : Known) (ps : Parts) : Type 0 where
    rests : AtRest known ps
    funcs : (i : ℕ) (f : Func) → slice_get ps.funcs i ≡ Some f → IsScopedFunc f

  -- one function more
  one_func : (fs : List Func) (f g : Func) → ((i : ℕ) (f : Func) → slice_get fs i ≡ Some f → IsScopedFunc f) → IsScopedFunc f → (i : ℕ) → (slice_get fs i ≡ Some g) ⊎ (f ≡ g) → IsScopedFunc g
  one_func fs f g h own i (inl old) = h i g old
  one_func fs f g h own i (inr new) = subst IsScopedFunc new own

  scoped_behind : (before : List Item) (known : Known) (ps : Parts) (what : ItemWhat) (x : Piece) → Comes (body_rule rules) items before known what x → IsBodyProper what → Begins (behind_item known what).functions Last.functions → AreNumbered known.scope (length program.structs) → AtRest (behind_item known what) (behind_piece ps x) → IsScopedFile known ps → IsScopedFile (behind_item known what) (behind_piece ps x)
  scoped_behind before known ps _ _ (OfDefine name is_negative n k) written begins low rests q = record { rests = rests; funcs = q.funcs }
  scoped_behind before known ps _ _ (OfStruct at name ds fields) written begins low rests q = record { rests = rests; funcs = q.funcs }
  scoped_behind before known ps _ _ (OfEnum es) written begins low rests q = record { rests = rests; funcs = q.funcs }
  scoped_behind before known ps _ _ (OfGlobal d init v e) written begins low rests q = record { rests = rests; funcs = q.funcs }
  scoped_behind before known ps _ _ (OfPrototype h is_remote g e) written begins low rests q = record {
    rests = rests;
    funcs = λ i f n. one_func ps.funcs (remote h.name g) f q.funcs tt i (keep_either ps.funcs (remote h.name g) f i (ap (λ fs. slice_get fs i) (sym (declared_keep ps.funcs (remote h.name g))) ∙ n));
  }
  scoped_behind before known ps _ _ (OfFunction h is_critical nodes g b e f) written begins low rests q = record {
    rests = rests;
    funcs = λ i k n. one_func ps.funcs (whole h.name is_critical g b) k q.funcs (function_scoped before known ps h is_critical nodes g b e f written begins q.rests low) i (put_either ps.funcs (whole h.name is_critical g b) k i (ap (λ fs. slice_get fs i) (sym (defined_put ps.funcs (whole h.name is_critical g b))) ∙ n));
  }

  scoped_goes_on : GoesOn (body_rule rules) items Whole Last.functions IsScopedFile
  scoped_goes_on = record {
    behind = λ before known i x ps place q.
        scoped_behind before known ps i.what x (comes_to (body_rule rules) items before known i.place i.what x place.one)
        (proper_at before (place.begins).more i (subst AreBodiesProper (place.begins).whole proper))
        place.declared
        (names_structs program (body_rule rules) items xs right made known.scope (place.at).tags)
        ((standing_goes_on program (body_rule rules) items xs right made ranges).behind before known i x ps place q.rests)
        q;
  }

  all_scoped : IsScopedFile Last Whole
  all_scoped = along (body_rule rules) items xs IsScopedFile right scoped_goes_on (record { rests = first_standing program (body_rule rules) items xs right made ranges; funcs = λ i f e. absurd cc })

  funcs_scoped : (f : ℕ) (func : Func) → slice_get program.funcs f ≡ Some func → IsScopedFunc func
  funcs_scoped f func e = all_scoped.funcs f func (ap (λ fs. slice_get fs f) (sym made.funcs) ∙ e)

  -- ---- the program

  by_body : (func : Func) (o : Option (List Stmt)) (body : sides.Body) → ScopedWith (slots_of func) o → body_by func o ≡ Some body → BodyScoped body
  by_body func None body h e = absurd (none-some body e)
  by_body func (Some ss) body h e = subst BodyScoped (same_Some _ body e) h

  by_func : (o : Option Func) (body : sides.Body) → ((func : Func) → o ≡ Some func → IsScopedFunc func) → body_from o ≡ Some body → BodyScoped body
  by_func None body h e = absurd (none-some body e)
  by_func (Some func) body h e = by_body func func.body body (h func refl) e

  pub program_scoped : IsScoped program
  unfolding body_of
  program_scoped = record { bodies = λ f body e. by_func (slice_get program.funcs f) body (λ func is. funcs_scoped f func is) e }

-- of a file without faults
pub files_scoped : (program : Program) (rules : Rules) (uses : UseRule) (items : List Item) → typed (body_rule rules) uses items ≡ Right program → AreDefinesInRange items → AreBodiesProper items → ((scope : Scope) → Knows program scope → (slots : List Slot) → AreSoundRules program slots scope rules) → ((scope : Scope) → ArePlainRules scope rules) → HasAll program → IsScoped program
files_scoped program rules uses items e ranges proper sound plain all =
    let f = file_of (body_rule rules) uses items program e in
    program_scoped program rules items f.pieces f.right (file_made (body_rule rules) items program f) ranges proper all sound plain
