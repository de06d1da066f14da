-- The functions of a file have the lowered bodies of those that were written, each in its place.
use Rattle.std.proofs.Common.{◌≡◌, ℕ, ◌+◌, Bool, true, List, [], ◌∷◌, ◌++◌, length, map, Some, refl, sym, ap, ◌∙◌, subst}
use Rattle.mdr_core.specs.declared.program.Program.{Program}
use Rattle.mdr_core.specs.Folds.{codes_of as plain_codes_of}
use Rattle.mdr_core.specs.Typing.{Slot, slots_of, slot_of_local, slot_of_param}
use Rattle.mdr_syntax.specs.declared.tree.Head.{Head}
use Rattle.mdr_syntax.specs.declared.tree.Item.{Item}
use Rattle.mdr_syntax.specs.declared.tree.ItemWhat.{ItemWhat}
use Rattle.mdr_syntax.specs.declared.tree.Node.{Node}
use Rattle.mdr_faults.specs.declared.scope.Scope.{Scope}
use Rattle.mdr_faults.specs.Faults.{Right}
use Rattle.mdr_headings.specs.declared.body.Body.{Body}
use Rattle.mdr_headings.specs.declared.head.Heading.{Heading}
use Rattle.mdr_headings.specs.Functions.{function_declared, functions_behind}
use Rattle.mdr_check.specs.declared.file.Known.{Known}
use Rattle.mdr_check.specs.declared.file.Piece.{Piece}
use Rattle.mdr_check.specs.Files.{behind_item, known_behind, first_known, pieces_behind, body_scope}
use Rattle.mdr_operand.specs.Written.{lines_of}
use Rattle.mdr_body.specs.Bodies.{body_rule}
use Rattle.mdr_body.specs.Statements.{Rules}
use Rattle.mdr_lower.specs.Lowering.{lowered}
use Rattle.mdr_meaning.specs.Sides as sides
use Rattle.mdr_program.specs.declared.parts.Parts.{Parts}
use Rattle.mdr_program.specs.Parts.{behind_piece, marked, no_parts, number_among, parts_behind, remote, whole}
use Rattle.mdr_rich_sources.specs.LoweringLaw.{lowered_body}
use Rattle.mdr_rich_sources.specs.Bodies.{Bodies, bodies_behind, bodies_of, with_piece, written}
use Rattle.mdr_rich_sources.proofs.Matching.{AllMatch, Matches, match_declared, match_defined}
use Rattle.mdr_sound.proofs.Rights.{same_right}
use Rattle.mdr_sound.specs.Knowing.{Knows}
use Rattle.mdr_sound.specs.Bodies.{IsComposed}
use Rattle.mdr_sound.specs.Rules.{AreSoundRules}
use Rattle.mdr_sound.specs.Within.{KnowsDeclarations}
use Rattle.mdr_sound.specs.Written.{AreNamed, AreProper}
use Rattle.mdr_sound.proofs.Making.{slots_are, slots_many, statements_typed}
use Rattle.mdr_sound.specs.Counting.{Begins}
use Rattle.mdr_sound.specs.Whole.{HasAll, IsMadeOf, AreDefinesInRange, IsBodyProper, AreBodiesProper}
use Rattle.mdr_sound.proofs.Along.{Front, IsPlace, first_front, front_behind, known_next, place_at}
use Rattle.mdr_sound.proofs.Extending.{pieces_parted}
use Rattle.mdr_sound.proofs.NamedTypes.{AreNumbered}
use Rattle.mdr_sound.proofs.Outlines.{names_structs}
use Rattle.mdr_sound.proofs.Scopes.{IsStanding, standing_goes_on, first_standing, function_stands}
use Rattle.mdr_sound.proofs.Sounding.{proper_at, headed_by, knows_declarations, body_scope_structs, body_scope_tags}
use Rattle.mdr_sound.proofs.Viewed.{Comes, OfDefine, OfStruct, OfEnum, OfGlobal, OfPrototype, OfFunction, comes_to}

-- ---- one function

module _ (program : Program) (rules : Rules) (scope : Scope) (h : Head) (nodes : List Node) (g : Heading) (b : Body) (known : KnowsDeclarations program scope) (sound : (slots : List Slot) → AreSoundRules program slots scope rules) (made : IsComposed rules scope h nodes g b) where
  abbrev Own : List Slot
  Own = map slot_of_param (marked b.objects 0 g.params) ++ map slot_of_local b.locals

  -- the body that the function has
  abbrev body_by_work : ℕ → List Slot → sides.Body
  body_by_work k slots = record { slots = slots; result = g.result; code = plain_codes_of (lowered k b.statements).code }

  lowered_is : body_by_work (length g.params + length b.locals) (slots_of (whole h.name true g b)) ≡ lowered_body Own g.result b.statements
  lowered_is =
      ap (body_by_work (length g.params + length b.locals)) (sym (slots_are program rules scope h nodes g b known sound made))
      ∙ (λ i. record { slots = Own ++ map slot_of_local (lowered (many i) b.statements).slots; result = g.result; code = plain_codes_of (lowered (many i) b.statements).code })
    where
      many : length g.params + length b.locals ≡ length Own
      many = sym (slots_many program rules scope h nodes g b known sound made)

  pub function_matches : (name : List ℕ) (is_critical : Bool) → Matches program (whole name is_critical g b) (Some (written g b))
  function_matches name is_critical = (
    body_by_work (length g.params + length b.locals) (slots_of (whole name is_critical g b)),
    refl,
    record { source = b.statements; code = refl; typed = statements_typed program rules scope h nodes g b known sound made; is = lowered_is },
  )

-- ---- a whole file

module _ (program : Program) (rules : Rules) (items : List Item) (xs : List Piece) (right : pieces_behind (body_rule rules) (first_known items) [] items ≡ Right xs) (made : IsMadeOf program (parts_behind no_parts xs)) (ranges : AreDefinesInRange items) (proper : AreBodiesProper items) (all : HasAll program) (sound_rules : (scope : Scope) → Knows program scope → (slots : List Slot) → AreSoundRules program slots scope rules) where
  abbrev Whole : Parts
  Whole = parts_behind no_parts xs

  abbrev Last : Known
  Last = known_behind (first_known items) items

  abbrev AtRest : Known → Parts → Type 0
  AtRest = IsStanding program (body_rule rules) items xs right made ranges

  -- a function in its place
  in_place_matches : (before : List Item) (known : Known) (ps : Parts) (h : Head) (is_critical : Bool) (nodes : List Node) (g : Heading) (b : Body) → function_declared known.scope known.functions before h true ≡ Right g → body_rule rules (body_scope known h) h nodes ≡ Right b → AreNamed h.params × AreProper (lines_of nodes) → Begins (functions_behind known.scope known.functions h) Last.functions → AtRest known ps → AreNumbered known.scope (length program.structs) → Matches program (whole h.name is_critical g b) (Some (written g b))
  in_place_matches before known ps h is_critical nodes g b e f in_source begins q low =
      let headed = headed_by program rules items xs right made ranges proper all sound_rules before known h true g e begins in
      let scope = body_scope known h in
      let st = function_stands program (body_rule rules) items xs right made ranges known h headed q.stands low in
      let declarations = knows_declarations program rules items xs right made ranges proper all sound_rules known ps scope q st (body_scope_structs program rules items xs right made ranges proper all sound_rules known h) in
      let is_made : IsComposed rules scope h nodes g b = record { front = known.scope; tags = body_scope_tags program rules items xs right made ranges proper all sound_rules known h; heading_is = headed.listed; body_is = f; named = in_source.0; proper = in_source.1 } in
      function_matches program rules scope h nodes g b declarations (sound_rules scope st.knows) is_made h.name is_critical

  record IsMatched (known : Known) (ps : Parts) (bs : Bodies) : Type 0 where
    rests : AtRest known ps
    funcs : AllMatch program ps.funcs bs

  matched_behind : (before : List Item) (known : Known) (ps : Parts) (bs : Bodies) (what : ItemWhat) (x : Piece) → Comes (body_rule rules) items before known what x → IsBodyProper what → Begins (behind_item known what).functions Last.functions → AreNumbered known.scope (length program.structs) → AtRest (behind_item known what) (behind_piece ps x) → IsMatched known ps bs → IsMatched (behind_item known what) (behind_piece ps x) (with_piece ps bs x)
  matched_behind before known ps bs _ _ (OfDefine name is_negative n k) in_source begins low rests q = record { rests = rests; funcs = q.funcs }
  matched_behind before known ps bs _ _ (OfStruct at name ds fields) in_source begins low rests q = record { rests = rests; funcs = q.funcs }
  matched_behind before known ps bs _ _ (OfEnum es) in_source begins low rests q = record { rests = rests; funcs = q.funcs }
  matched_behind before known ps bs _ _ (OfGlobal d init v e) in_source begins low rests q = record { rests = rests; funcs = q.funcs }
  matched_behind before known ps bs _ _ (OfPrototype h is_remote g e) in_source begins low rests q = record { rests = rests; funcs = match_declared program ps.funcs bs (remote h.name g) (number_among ps.funcs h.name) q.funcs refl }
  matched_behind before known ps bs _ _ (OfFunction h is_critical nodes g b e f) in_source begins low rests q = record {
    rests = rests;
    funcs = match_defined program ps.funcs bs (whole h.name is_critical g b) (written g b) (number_among ps.funcs h.name) q.funcs (in_place_matches before known ps h is_critical nodes g b e f in_source begins q.rests low);
  }

  abbrev InFront : List Item → Known → List Item → List Piece → Parts → Type 0
  InFront = Front (body_rule rules) items Whole Last.functions

  matched_at : (before : List Item) (known : Known) (i : Item) (x : Piece) (ps : Parts) (bs : Bodies) → IsPlace (body_rule rules) items Whole Last.functions before known i x ps → IsMatched known ps bs → IsMatched (behind_item known i.what) (behind_piece ps x) (with_piece ps bs x)
  matched_at before known i x ps bs place q =
      matched_behind before known ps bs i.what x (comes_to (body_rule rules) items before known i.place i.what x place.one)
      (proper_at before (place.begins).more i (subst AreBodiesProper (place.begins).whole proper))
      place.declared
      (names_structs program (body_rule rules) items xs right made known.scope (place.at).tags)
      ((standing_goes_on program (body_rule rules) items xs right made ranges).behind before known i x ps place q.rests)
      q

  matched_end : (before : List Item) (known : Known) (ys : List Piece) (ps : Parts) (bs : Bodies) → InFront before known [] ys ps → IsMatched known ps bs → IsMatched (known_behind known []) Whole (bodies_behind ps bs ys)
  unfolding pieces_behind known_behind parts_behind bodies_behind
  matched_end before known ys ps bs f q =
      subst (λ w. IsMatched known w (bodies_behind ps bs ys)) f.parts
      (subst (λ zs. IsMatched known (parts_behind ps zs) (bodies_behind ps bs zs)) (same_right [] ys f.right) q)

  matched_from : (before : List Item) (known : Known) (is : List Item) (ys : List Piece) (ps : Parts) (bs : Bodies) → InFront before known is ys ps → IsMatched known ps bs → IsMatched (known_behind known is) Whole (bodies_behind ps bs ys)
  unfolding bodies_behind
  matched_from before known [] ys ps bs f q = matched_end before known ys ps bs f q
  matched_from before known (i ∷ is) ys ps bs f q =
      let p = pieces_parted (body_rule rules) items before known i is ys f.right in
      subst (λ k. IsMatched k Whole (bodies_behind ps bs ys)) (known_next (body_rule rules) items Whole Last.functions known i is)
      (subst (λ zs. IsMatched (known_behind (behind_item known i.what) is) Whole (bodies_behind ps bs zs)) (sym p.all)
      (matched_from (before ++ i ∷ []) (behind_item known i.what) is p.rest (behind_piece ps p.first) (with_piece ps bs p.first)
      (front_behind (body_rule rules) items Whole Last.functions before known i is ys ps f p)
      (matched_at before known i p.first ps bs (place_at (body_rule rules) items Whole Last.functions before known i is ys ps f p) q)))

  pub file_matches : AllMatch program program.funcs (bodies_of xs)
  file_matches =
      let first : IsMatched (first_known items) no_parts [] = record { rests = first_standing program (body_rule rules) items xs right made ranges; funcs = tt } in
      subst (λ fs. AllMatch program fs (bodies_of xs)) (sym made.funcs)
      (matched_from [] (first_known items) items xs no_parts [] (first_front (body_rule rules) items xs right) first).funcs
