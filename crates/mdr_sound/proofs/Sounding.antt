-- Globals and functions of a file are sound, each in its place.
use Rattle.std.proofs.Common.{◌≡◌, ℕ, zero, suc, ◌<◌, ◌≤◌, ◌==◌, Bool, true, false, not, ◌||◌, cond, List, [], ◌∷◌, ◌++◌, length, map, Option, Some, None, refl, sym, ap, ◌∙◌, subst, slice_get, arith, ◌⊎◌, inl, inr}
use Rattle.std.specs.Str.{bytes_eq}
use Rattle.std.proofs.lemmas.Option.{slice_get_within}
use Rattle.mdr_core.specs.declared.code.Stmt.{Stmt}
use Rattle.mdr_core.specs.declared.program.Func.{Func}
use Rattle.mdr_core.specs.declared.program.GlobalDef.{GlobalDef}
use Rattle.mdr_core.specs.declared.program.Local.{Local}
use Rattle.mdr_core.specs.declared.program.Param.{Param}
use Rattle.mdr_core.specs.declared.program.Program.{Program}
use Rattle.mdr_core.specs.declared.program.StructDef.{StructDef}
use Rattle.mdr_core.specs.declared.types.Ty.{Ty}
use Rattle.mdr_core.specs.Folds.{codes_of}
use Rattle.mdr_core.specs.declared.program.Field.{Field}
use Rattle.mdr_core.specs.Layout.{AreSmall, AreFew, fields_or, fields_of, field_leaves, leaves_below, struct_cells}
use Rattle.mdr_core.specs.Sound.{IsCount, IsSoundStruct, IsSoundGlobal, IsSoundFunc, IsSound, IsTable, HasFewNumbers}
use Rattle.mdr_core.specs.Typing.{Slot}
use Rattle.mdr_core.specs.Types.{HasNumber}
use Rattle.mdr_lower.specs.Tables as occurs
use Rattle.mdr_syntax.specs.declared.tree.Decl.{Decl}
use Rattle.mdr_syntax.specs.declared.tree.Head.{Head}
use Rattle.mdr_syntax.specs.declared.tree.Init.{Init}
use Rattle.mdr_syntax.specs.declared.tree.Item.{Item}
use Rattle.mdr_syntax.specs.declared.tree.ItemWhat.{ItemWhat}
use Rattle.mdr_syntax.specs.declared.tree.Node.{Node}
use Rattle.mdr_faults.specs.declared.scope.Scope.{Scope}
use Rattle.mdr_faults.specs.Faults.{Right}
use Rattle.mdr_headings.specs.declared.body.Body.{Body}
use Rattle.mdr_headings.specs.declared.head.Heading.{Heading}
use Rattle.mdr_headings.specs.Functions.{function_declared, functions_behind, behind_function, is_taken}
use Rattle.mdr_check.specs.declared.file.Known.{Known}
use Rattle.mdr_check.specs.declared.file.Piece.{Piece}
use Rattle.mdr_check.specs.declared.variable.Variable.{Variable}
use Rattle.mdr_check.specs.Files.{behind_item, known_behind, first_known, pieces_behind, body_scope}
use Rattle.mdr_check.specs.Globals.{global}
use Rattle.mdr_operand.specs.Written.{lines_of}
use Rattle.mdr_body.specs.Bodies.{body_rule}
use Rattle.mdr_body.specs.Statements.{Rules}
use Rattle.mdr_program.specs.declared.parts.Parts.{Parts}
use Rattle.mdr_program.specs.Parts.{marked, remote, whole, behind_piece, parts_behind, no_parts}
use Rattle.mdr_program.specs.Programs.{global_def, global_defs}
use Rattle.mdr_sound.specs.Knowing.{Knows}
use Rattle.mdr_sound.specs.Grounded.{ArePlainGrounded}
use Rattle.mdr_sound.specs.Rules.{AreSoundRules}
use Rattle.mdr_sound.specs.Within.{KnowsDeclarations}
use Rattle.mdr_sound.specs.Written.{AreNamed, AreProper}
use Rattle.mdr_sound.specs.Bodies.{IsMade, made_work}
use Rattle.mdr_sound.proofs.Making.{made_sound}
use Rattle.mdr_sound.specs.Counting.{Begins}
use Rattle.mdr_sound.specs.Declared.{IsSoundHeading}
use Rattle.mdr_sound.specs.Globals.{HasVariables, StandsAmong}
use Rattle.mdr_sound.specs.Standing.{Stands}
use Rattle.mdr_sound.specs.Whole.{HasAll, IsMadeOf, AreDefinesInRange, IsBodyProper, AreBodiesProper}
use Rattle.mdr_sound.proofs.Along.{IsPlace, GoesOn, along, counted_all}
use Rattle.mdr_sound.proofs.CountedItems.{last_or_before, ruled}
use Rattle.mdr_sound.proofs.Declaring.{put_named, keep_named, defined_put, declared_keep}
use Rattle.mdr_sound.proofs.Functions.{whole_sound, remote_sound, marked_types}
use Rattle.mdr_sound.proofs.Headings.{heading_sound, head_result_is}
use Rattle.mdr_sound.proofs.NamedTypes.{AreNumbered, declarator_good}
use Rattle.mdr_sound.proofs.Objects.{object_sound, tags_numbered}
use Rattle.mdr_sound.proofs.Outlines.{names_structs}
use Rattle.mdr_sound.proofs.Passing.{function_structs, function_tags}
use Rattle.mdr_sound.proofs.Reading.{get_map, get_mapped}
use Rattle.mdr_sound.proofs.Scopes.{IsStanding, standing_goes_on, first_standing, standing_all, function_stands, IsHeaded, global_there, global_from}
use Rattle.mdr_sound.proofs.Tagged.{Last as IsLast, last_place}
use Rattle.mdr_sound.proofs.Viewed.{Comes, OfDefine, OfStruct, OfEnum, OfGlobal, OfPrototype, OfFunction, comes_to}
use Rattle.mdr_sound.proofs.SoundGlobals.{global_count, sound_globals}

-- ---- functions among those before them

-- one of the functions so far, or the new one
pub put_either : (fs : List Func) (f g : Func) (i : ℕ) → slice_get (put_named fs f) i ≡ Some g → (slice_get fs i ≡ Some g) ⊎ (f ≡ g)
put_either [] f g zero e = inr cc
put_either [] f g (suc i) e = absurd cc
put_either (h ∷ hs) f g i e = by (bytes_eq h.name f.name) i e (λ j. put_either hs f g j)
  where
    by : (t : Bool) (i : ℕ) → slice_get (cond t (f ∷ hs) (h ∷ put_named hs f)) i ≡ Some g → ((j : ℕ) → slice_get (put_named hs f) j ≡ Some g → (slice_get hs j ≡ Some g) ⊎ (f ≡ g)) → (slice_get (h ∷ hs) i ≡ Some g) ⊎ (f ≡ g)
    by true zero e rest = inr cc
    by true (suc j) e rest = inl e
    by false zero e rest = inl e
    by false (suc j) e rest = rest j e

pub keep_either : (fs : List Func) (f g : Func) (i : ℕ) → slice_get (keep_named fs f) i ≡ Some g → (slice_get fs i ≡ Some g) ⊎ (f ≡ g)
keep_either [] f g zero e = inr cc
keep_either [] f g (suc i) e = absurd cc
keep_either (h ∷ hs) f g i e = by (bytes_eq h.name f.name) i e (λ j. keep_either hs f g j)
  where
    by : (t : Bool) (i : ℕ) → slice_get (cond t (h ∷ hs) (h ∷ keep_named hs f)) i ≡ Some g → ((j : ℕ) → slice_get (keep_named hs f) j ≡ Some g → (slice_get hs j ≡ Some g) ⊎ (f ≡ g)) → (slice_get (h ∷ hs) i ≡ Some g) ⊎ (f ≡ g)
    by true zero e rest = inl e
    by true (suc j) e rest = inl e
    by false zero e rest = inl e
    by false (suc j) e rest = rest j e

-- ---- the source of bodies

pub proper_at : (before more : List Item) (i : Item) → AreBodiesProper ((before ++ i ∷ []) ++ more) → IsBodyProper i.what
proper_at [] more i all = all.0
proper_at (b ∷ bs) more i all = proper_at bs more i all.1

pub get_front : {A : Type 0} (xs ys : List A) (i : ℕ) (x : A) → slice_get xs i ≡ Some x → slice_get (xs ++ ys) i ≡ Some x
get_front [] ys i x e = absurd cc
get_front (z ∷ zs) ys zero x e = e
get_front (z ∷ zs) ys (suc i) x e = get_front zs ys i x e

-- ---- a function's types in the table

abbrev IsBodyGrounded : Program → Option (List Stmt) → Type 0
IsBodyGrounded program None = Unit {0}
IsBodyGrounded program (Some body) = ArePlainGrounded program (codes_of body)

-- the types of a function are in the table, and it calls nothing back
pub record IsPlaced (program : Program) (f : Func) : Type 0 where
  pub params : (i : ℕ) (p : Param) → slice_get f.params i ≡ Some p → HasNumber program p.ty
  pub locals : (i : ℕ) (l : Local) → slice_get f.locals i ≡ Some l → l.object ≡ true → HasNumber program l.ty
  pub body : IsBodyGrounded program f.body

-- the parameters that a body marks have the types of its head
head_params : (program : Program) (objects : List Bool) (ps : List Param) → ((i : ℕ) (p : Param) → slice_get (marked objects 0 ps) i ≡ Some p → HasNumber program p.ty) → (i : ℕ) (p : Param) → slice_get ps i ≡ Some p → HasNumber program p.ty
head_params program objects ps h i p e =
    let there : slice_get (map (λ (p : Param). p.ty) ps) i ≡ Some p.ty = get_map (λ (p : Param). p.ty) ps i p e in
    let also : slice_get (map (λ (p : Param). p.ty) (marked objects 0 ps)) i ≡ Some p.ty = ap (λ (ts : List Ty). slice_get ts i) (marked_types objects 0 ps) ∙ there in
    let m = get_mapped (λ (p : Param). p.ty) (marked objects 0 ps) i p.ty also in
    subst (HasNumber program) m.made (h i m.item m.names)

-- ---- a whole file

module _ (program : Program) (rules : Rules) (items : List Item) (xs : List Piece) (right : pieces_behind (body_rule rules) (first_known items) [] items ≡ Right xs) (made : IsMadeOf program (parts_behind no_parts xs)) (ranges : AreDefinesInRange items) (proper : AreBodiesProper items) (all : HasAll program) (sound_rules : (scope : Scope) → Knows program scope → (slots : List Slot) → AreSoundRules program slots scope rules) where
  abbrev pub Whole : Parts
  Whole = parts_behind no_parts xs

  abbrev pub Last : Known
  Last = known_behind (first_known items) items

  abbrev Turn : List Item → Known → Item → Piece → Parts → Type 0
  Turn = IsPlace (body_rule rules) items Whole Last.functions

  abbrev pub AtRest : Known → Parts → Type 0
  AtRest = IsStanding program (body_rule rules) items xs right made ranges

  -- ---- how many elements globals have

  record AreCounted (known : Known) (ps : Parts) : Type 0 where
    each : (g : ℕ) (v : Variable) → slice_get ps.variables g ≡ Some v → IsCount v.object.array v.object.count

  counted_one : (known : Known) (ps : Parts) (v : Variable) → AreCounted known ps → IsCount v.object.array v.object.count → (g : ℕ) (w : Variable) → (slice_get ps.variables g ≡ Some w) ⊎ (v ≡ w) → IsCount w.object.array w.object.count
  counted_one known ps v c own g w (inl old) = c.each g w old
  counted_one known ps v c own g w (inr new) = subst (λ (u : Variable). IsCount u.object.array u.object.count) new own

  counted_behind : (before : List Item) (known : Known) (ps : Parts) (what : ItemWhat) (x : Piece) → Comes (body_rule rules) items before known what x → AreCounted known ps → AreCounted (behind_item known what) (behind_piece ps x)
  counted_behind before known ps _ _ (OfDefine name is_negative n k) c = record { each = c.each }
  counted_behind before known ps _ _ (OfStruct at name ds fields) c = record { each = c.each }
  counted_behind before known ps _ _ (OfEnum es) c = record { each = c.each }
  counted_behind before known ps _ _ (OfGlobal d init v e) c = record { each = λ g w n. counted_one known ps v c (global_count known.scope known.globals d init v e) g w (last_or_before ps.variables v g w n) }
  counted_behind before known ps _ _ (OfPrototype h is_remote g e) c = record { each = c.each }
  counted_behind before known ps _ _ (OfFunction h is_critical nodes g b e f) c = record { each = c.each }

  all_counted : AreCounted Last Whole
  all_counted = along (body_rule rules) items xs AreCounted right (record { behind = λ before known i x ps place c. counted_behind before known ps i.what x (comes_to (body_rule rules) items before known i.place i.what x place.one) c }) (record { each = λ g v e. absurd cc })

  -- ---- the program's globals

  globals_are : program.globals ≡ global_defs program.types program.structs Whole.variables Whole.variables
  globals_are = made.globals ∙ ap (λ ds. global_defs program.types ds Whole.variables Whole.variables) (sym made.structs)

  variables : HasVariables program Whole.variables
  variables = record {
    globals = globals_are;
    counts = all_counted.each;
    in_table = λ g v e. all v.object.ty (occurs.OfGlobal g (global_def program.types program.structs Whole.variables v) (ap (λ gs. slice_get gs g) globals_are ∙ global_there program.types program.structs Whole.variables Whole.variables g v e) refl);
  }

  all_standing : AtRest Last Whole
  all_standing = standing_all program (body_rule rules) items xs right made ranges

  structs_many : length Last.scope.structs ≡ length program.structs
  structs_many = (counted_all (body_rule rules) items xs right).structs ∙ ap length (sym made.structs)

  structs_sound : (s : ℕ) (def : StructDef) → slice_get program.structs s ≡ Some def → IsSoundStruct program s def
  structs_sound s def e = all_standing.sound all s def (subst (λ n. s < n) (sym structs_many) (slice_get_within program.structs s def e)) e

  among : (known : Known) (ps : Parts) → AtRest known ps → StandsAmong program known.scope Whole.variables
  among known ps q = record { stands = q.stands; variables = variables; structs = structs_sound; members = q.members }

  -- ---- what is declared in a body

  pub knows_declarations : (known : Known) (ps : Parts) (scope : Scope) → AtRest known ps → Stands program scope → scope.structs ≡ known.scope.structs → KnowsDeclarations program scope
  knows_declarations known ps scope q st same =
      let low : AreNumbered scope (length program.structs) = tags_numbered program scope st in
      record {
        formed = λ limit d o e. (object_sound program scope limit d o st e).sort;
        small = λ limit d o e. (object_sound program scope limit d o st e).small;
        parameters = λ d t e. (declarator_good scope (length program.structs) d low).parameter t e;
        results = λ h t e. head_result_is scope (length program.structs) h t low e;
        fields = λ s f entry x e g. q.fields s f entry x (ap (λ es. slice_get es s) (sym same) ∙ e) g;
      }

  pub body_scope_structs : (known : Known) (h : Head) → (body_scope known h).structs ≡ known.scope.structs
  unfolding behind_function
  body_scope_structs known h = function_structs (is_taken known.scope h.name) known.scope (length known.functions) h

  pub body_scope_tags : (known : Known) (h : Head) → known.scope.tags ≡ (body_scope known h).tags
  unfolding behind_function
  body_scope_tags known h = function_tags (is_taken known.scope h.name) known.scope (length known.functions) h

  -- ---- globals and functions, behind each item

  record IsSoundFile (known : Known) (ps : Parts) : Type 0 where
    rests : AtRest known ps
    globals : (g : ℕ) (v : Variable) → slice_get ps.variables g ≡ Some v → slice_get Whole.variables g ≡ Some v → IsSoundGlobal program g (global_def program.types program.structs Whole.variables v)
    funcs : (i : ℕ) (f : Func) → slice_get ps.funcs i ≡ Some f → IsPlaced program f → IsSoundFunc program f

  -- a head in its place
  head_sound : (known : Known) (ps : Parts) (h : Head) (headed : IsHeaded program (body_rule rules) items xs right made ranges known h) → AtRest known ps → AreNumbered known.scope (length program.structs) → ((i : ℕ) (p : Param) → slice_get (headed.heading).params i ≡ Some p → HasNumber program p.ty) → IsSoundHeading program headed.heading
  head_sound known ps h headed q low numbered = heading_sound program known.scope h headed.heading q.stands numbered headed.listed

  -- a heading that stands among the functions of the file
  abbrev pub headed_by : (before : List Item) (known : Known) (h : Head) (is_body : Bool) (g : Heading) → function_declared known.scope known.functions before h is_body ≡ Right g → Begins (functions_behind known.scope known.functions h) Last.functions → IsHeaded program (body_rule rules) items xs right made ranges known h
  headed_by before known h is_body g e b = record { heading = g; listed = (ruled known.scope known.functions before h is_body g e).right; begins = b }

  prototype_sound : (before : List Item) (known : Known) (ps : Parts) (h : Head) (g : Heading) → function_declared known.scope known.functions before h false ≡ Right g → Begins (functions_behind known.scope known.functions h) Last.functions → AtRest known ps → AreNumbered known.scope (length program.structs) → IsPlaced program (remote h.name g) → IsSoundFunc program (remote h.name g)
  prototype_sound before known ps h g e b q low placed = remote_sound program h.name g (head_sound known ps h (headed_by before known h false g e b) q low placed.params)

  function_sound : (before : List Item) (known : Known) (ps : Parts) (h : Head) (is_critical : Bool) (nodes : List Node) (g : Heading) (b : Body) → function_declared known.scope known.functions before h true ≡ Right g → body_rule rules (body_scope known h) h nodes ≡ Right b → AreNamed h.params × AreProper (lines_of nodes) → Begins (functions_behind known.scope known.functions h) Last.functions → AtRest known ps → AreNumbered known.scope (length program.structs) → IsPlaced program (whole h.name is_critical g b) → IsSoundFunc program (whole h.name is_critical g b)
  function_sound before known ps h is_critical nodes g b e f written begins q low placed =
      let headed = headed_by before known h true g e begins in
      let scope = body_scope known h in
      let st = function_stands program (body_rule rules) items xs right made ranges known h headed q.stands low in
      let declarations = knows_declarations known ps scope q st (body_scope_structs known h) in
      let is_made : IsMade program rules scope h nodes g b = record {
        composed = record { front = known.scope; tags = body_scope_tags known h; heading_is = headed.listed; body_is = f; named = written.0; proper = written.1 };
        in_table = λ i l e. placed.locals i l (get_front b.locals (made_work g b).slots i l e);
        grounded = placed.body;
      } in
      let sound = made_sound program rules scope h nodes g b h.name is_critical declarations (sound_rules scope st.knows) is_made in
      whole_sound program h.name is_critical g b (head_sound known ps h headed q low (head_params program b.objects g.params placed.params)) sound.locals sound.body

  -- one function more
  one_func : (fs : List Func) (f g : Func) → ((i : ℕ) (f : Func) → slice_get fs i ≡ Some f → IsPlaced program f → IsSoundFunc program f) → (IsPlaced program f → IsSoundFunc program f) → (i : ℕ) → (slice_get fs i ≡ Some g) ⊎ (f ≡ g) → IsPlaced program g → IsSoundFunc program g
  one_func fs f g h own i (inl old) placed = h i g old placed
  one_func fs f g h own i (inr new) placed = subst (λ (x : Func). IsPlaced program x → IsSoundFunc program x) new own placed

  global_sound : (known : Known) (ps : Parts) (d : Decl) (init : Option Init) (v : Variable) → global known.scope known.globals d init ≡ Right v → known.globals ≡ length ps.variables → IsSoundFile known ps → (g : ℕ) (w : Variable) → (slice_get ps.variables g ≡ Some w) ⊎ IsLast ps.variables v g w → slice_get Whole.variables g ≡ Some w → IsSoundGlobal program g (global_def program.types program.structs Whole.variables w)
  global_sound known ps d init v e own q g w (inl old) there = q.globals g w old there
  global_sound known ps d init v e own q g w (inr new) there =
      let number : g ≡ known.globals = new.place ∙ sym own in
      let here : slice_get Whole.variables known.globals ≡ Some v = ap (slice_get Whole.variables) (sym number) ∙ there ∙ ap Some (sym new.is) in
      let good = sound_globals program known.scope known.globals d init Whole.variables v (among known ps q.rests) here e in
      subst (λ n. IsSoundGlobal program n (global_def program.types program.structs Whole.variables w)) (sym number) (subst (λ (u : Variable). IsSoundGlobal program known.globals (global_def program.types program.structs Whole.variables u)) new.is good.sound)

  sound_behind : (before : List Item) (known : Known) (ps : Parts) (what : ItemWhat) (x : Piece) → Comes (body_rule rules) items before known what x → IsBodyProper what → Begins (behind_item known what).functions Last.functions → AreNumbered known.scope (length program.structs) → known.globals ≡ length ps.variables → AtRest (behind_item known what) (behind_piece ps x) → IsSoundFile known ps → IsSoundFile (behind_item known what) (behind_piece ps x)
  sound_behind before known ps _ _ (OfDefine name is_negative n k) written begins low own rests q = record { rests = rests; globals = q.globals; funcs = q.funcs }
  sound_behind before known ps _ _ (OfStruct at name ds fields) written begins low own rests q = record { rests = rests; globals = q.globals; funcs = q.funcs }
  sound_behind before known ps _ _ (OfEnum es) written begins low own rests q = record { rests = rests; globals = q.globals; funcs = q.funcs }
  sound_behind before known ps _ _ (OfGlobal d init v e) written begins low own rests q = record {
    rests = rests;
    globals = λ g w n there. global_sound known ps d init v e own q g w (last_place ps.variables v g w n) there;
    funcs = q.funcs;
  }
  sound_behind before known ps _ _ (OfPrototype h is_remote g e) written begins low own rests q = record {
    rests = rests;
    globals = q.globals;
    funcs = λ i f n placed. one_func ps.funcs (remote h.name g) f q.funcs (prototype_sound before known ps h g e begins q.rests low) i (keep_either ps.funcs (remote h.name g) f i (ap (λ fs. slice_get fs i) (sym (declared_keep ps.funcs (remote h.name g))) ∙ n)) placed;
  }
  sound_behind before known ps _ _ (OfFunction h is_critical nodes g b e f) written begins low own rests q = record {
    rests = rests;
    globals = q.globals;
    funcs = λ i k n placed. one_func ps.funcs (whole h.name is_critical g b) k q.funcs (function_sound before known ps h is_critical nodes g b e f written begins q.rests low) i (put_either ps.funcs (whole h.name is_critical g b) k i (ap (λ fs. slice_get fs i) (sym (defined_put ps.funcs (whole h.name is_critical g b))) ∙ n)) placed;
  }

  sound_goes_on : GoesOn (body_rule rules) items Whole Last.functions IsSoundFile
  sound_goes_on = record {
    behind = λ before known i x ps place q.
        sound_behind before known ps i.what x (comes_to (body_rule rules) items before known i.place i.what x place.one)
        (proper_at before (place.begins).more i (subst AreBodiesProper (place.begins).whole proper))
        place.declared
        (names_structs program (body_rule rules) items xs right made known.scope (place.at).tags)
        (place.counts).globals
        ((standing_goes_on program (body_rule rules) items xs right made ranges).behind before known i x ps place q.rests)
        q;
  }

  all_sound : IsSoundFile Last Whole
  all_sound = along (body_rule rules) items xs IsSoundFile right sound_goes_on (record { rests = first_standing program (body_rule rules) items xs right made ranges; globals = λ g v e. absurd cc; funcs = λ i f e. absurd cc })

  -- ---- the program

  globals_sound : (g : ℕ) (def : GlobalDef) → slice_get program.globals g ≡ Some def → IsSoundGlobal program g def
  globals_sound g def e =
      let v = global_from program.types program.structs Whole.variables Whole.variables g def (ap (λ gs. slice_get gs g) (sym globals_are) ∙ e) in
      subst (IsSoundGlobal program g) v.2 (all_sound.globals g v.0 v.1 v.1)

  pub func_placed : (f : ℕ) (func : Func) → slice_get program.funcs f ≡ Some func → IsPlaced program func
  func_placed f func e = record {
    params = λ i p n. all p.ty (occurs.OfParam f i func p e n refl);
    locals = λ i l n object. all l.ty (occurs.OfLocal f i func l e n (ap (λ (o : Bool). o || not (length l.name == 0)) object) refl);
    body = by func.body refl;
  }
    where
      by : (o : Option (List Stmt)) → func.body ≡ o → IsBodyGrounded program o
      by None q = tt
      by (Some body) q = record { types = λ t m. all t (occurs.OfAllocation f func body e q m) }

  funcs_sound : (f : ℕ) (func : Func) → slice_get program.funcs f ≡ Some func → IsSoundFunc program func
  funcs_sound f func e = all_sound.funcs f func (ap (λ fs. slice_get fs f) (sym made.funcs) ∙ e) (func_placed f func e)

  no_fields : (s : ℕ) → slice_get program.structs s ≡ None → fields_of program.structs s ≡ []
  no_fields s e = ap fields_or e

  no_cells : (s : ℕ) → fields_of program.structs s ≡ [] → length (struct_cells program.structs s) ≡ 0
  unfolding struct_cells field_leaves
  no_cells s e = ap (λ (ys : List Field). length (field_leaves (leaves_below program.structs s) s 0 ys)) e

  inside_or_not : (P : ℕ → Type 0) (s : ℕ) → (s < length program.structs → P s) → (slice_get program.structs s ≡ None → P s) → P s
  inside_or_not P s inside outside = by (slice_get program.structs s) refl
    where
      by : (o : Option StructDef) → slice_get program.structs s ≡ o → P s
      by None e = outside e
      by (Some def) e = inside (slice_get_within program.structs s def e)

  small : AreSmall program.structs
  small = record { within = λ s. inside_or_not (λ n. length (struct_cells program.structs n) ≤ 65536) s (λ less. all_standing.small s (subst (λ n. s < n) (sym structs_many) less)) (λ none. let zero_is = no_cells s (no_fields s none) in omega (arith, zero_is)) }

  few : AreFew program.structs
  few = record { within = λ s. inside_or_not (λ n. length (fields_of program.structs n) ≤ 64) s (λ less. all_standing.few s (subst (λ n. s < n) (sym structs_many) less)) (λ none. let zero_is : length (fields_of program.structs s) ≡ 0 = ap length (no_fields s none) in omega (arith, zero_is)) }

  -- a program of a file without faults is sound, if its type table is, and its numbers are few
  pub program_sound : IsTable program → HasFewNumbers program → IsSound program
  program_sound table numbers = record {
    small = small;
    few = few;
    table = table;
    structs = structs_sound;
    globals = globals_sound;
    funcs = funcs_sound;
    numbers = numbers;
  }
