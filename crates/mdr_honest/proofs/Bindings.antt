-- Arguments of a script that was bound to a program fit their parameters.
use Rattle.std.proofs.Common.{◌≡◌, ℕ, ℤ, Bool, true, false, ◌&&◌, ◌==◌, List, [], ◌∷◌, ◌++◌, length, map, slice_get, get_or, Option, Some, None, Result, Ok, Err, refl, sym, ap, ◌∙◌, subst, append_assoc, append-nil}
use Rattle.std.specs.Prelude.{if◌then◌else◌}
use Rattle.std.specs.List.{list_any, position}
use Rattle.std.specs.Str.{bytes_eq}
use Rattle.std.proofs.lemmas.List.Quantifiers.{position-Some}
use Rattle.std.proofs.lemmas.Option.{slice_get-get_or}
use Rattle.mdr_core.specs.declared.program.Func.{Func}
use Rattle.mdr_core.specs.declared.program.GlobalDef.{GlobalDef}
use Rattle.mdr_core.specs.declared.program.Param.{Param}
use Rattle.mdr_core.specs.declared.program.Program.{Program}
use Rattle.mdr_core.specs.declared.types.Ty.{Ty, out-Ty}
use Rattle.mdr_core.specs.declared.types.Ty.TheFolds.{fold-Ty}
use Rattle.mdr_core.specs.declared.types.Ty.TheOpen.{Ty-F}
use Rattle.mdr_core.specs.declared.types.Ty.TheVariants as type
use Rattle.mdr_core.specs.declared.value.Value.{Value}
use Rattle.mdr_core.specs.declared.value.Value.TheVariants as value
use Rattle.mdr_core.specs.Kinds.{is_in_range}
use Rattle.mdr_core.specs.Sound.{IsSound}
use Rattle.mdr_faults.specs.Alike.{all_alike, alike_layer, is_alike}
use Rattle.mdr_meaning.specs.declared.wire.Wire.TheVariants as wire
use Rattle.mdr_meaning.specs.Fair.{AllFit}
use Rattle.mdr_meaning.specs.Fit.{Fits, FitsLayer, Knowledge, KnowsGlobals}
use Rattle.mdr_meaning.specs.Numbers.{all_same, is_same_type, same_layers}
use Rattle.mdr_meaning.specs.Values.{wire_of}
use Rattle.mdr_meaning.proofs.NumberLaws.{types_exact}
use Rattle.mdr_model.specs.declared.command.Command.{Command}
use Rattle.mdr_model.specs.declared.command.Command.TheVariants as command
use Rattle.mdr_bound.specs.declared.bound.Bound.{Bound}
use Rattle.mdr_script.specs.declared.line.ArgText.{ArgText}
use Rattle.mdr_script.specs.declared.line.ArgText.TheVariants as arg
use Rattle.mdr_script.specs.declared.line.LineWhat.{LineWhat}
use Rattle.mdr_script.specs.declared.line.LineWhat.TheVariants as what
use Rattle.mdr_script.specs.declared.line.ScriptLine.{ScriptLine}
use Rattle.mdr_script.specs.declared.script.Script.{Script}
use Rattle.mdr_script.specs.declared.script_error.ScriptKind.{ScriptKind}
use Rattle.mdr_script.specs.declared.script_error.ScriptKind.TheVariants.{ArgKind, Arity, NoGlobal, Range}
use Rattle.mdr_script.specs.Binding.{address_bound, address_by, address_of, and_then, arg_bound, args_behind, bound_of, call_bound, call_by, call_of, called, command_bound, commands_behind, func_number, global_number, int_bound, is_unknown, null_bound, on_line, show_bound, show_of, takes, type_number, values_bound, view_bound}
use Rattle.mdr_holds.specs.Laws.{AreCommands, IsCommand}
use Rattle.mdr_holds.proofs.Accesses.{ok_is}
use Rattle.mdr_holds.proofs.Globals.{global_view}
use Rattle.mdr_honest.specs.Scripts.{BoundCommandsFit}

-- ---- types that are alike are one

all_alike_is : (ts : List (Ty → Bool)) (us : List Ty) → all_alike ts us ≡ all_same ts us
all_alike_is [] [] = refl
all_alike_is [] (u ∷ us) = refl
all_alike_is (t ∷ ts) [] = refl
all_alike_is (t ∷ ts) (u ∷ us) = ap (λ (b : Bool). t u && b) (all_alike_is ts us)

layers_alike : (l : Ty-F (Ty → Bool)) (z : Ty-F Ty) → alike_layer l z ≡ same_layers l z
layers_alike (Ty-F.Int k) (Ty-F.Int l) = refl
layers_alike Ty-F.Lock Ty-F.Lock = refl
layers_alike (Ty-F.Struct s) (Ty-F.Struct t) = refl
layers_alike (Ty-F.Ptr t) (Ty-F.Ptr u) = refl
layers_alike Ty-F.VoidPtr Ty-F.VoidPtr = refl
layers_alike (Ty-F.Fun ts) (Ty-F.Fun us) = all_alike_is ts us
layers_alike Ty-F.Void Ty-F.Void = refl
layers_alike l z = refl

alike_is : (t u : Ty) → is_alike t u ≡ is_same_type t u
unfolding is_same_type
alike_is t u = ap (λ (g : Ty-F (Ty → Bool) → Ty-F Ty → Bool). fold-Ty (Ty → Bool) (λ x y. g x (out-Ty y)) t u) (λ i l z. layers_alike l z i)

alike_same : (t u : Ty) → is_alike t u ≡ true → t ≡ u
alike_same t u e = types_exact t u (sym (alike_is t u) ∙ e)

-- ---- one argument

module _ (program : Program) (sound : IsSound program) (K : Knowledge) (globals : KnowsGlobals program K) where
  int_fits : (l : Ty-F Ty) (n : ℤ) (v : Value) → int_bound l n ≡ Ok v → FitsLayer program K l (wire_of v)
  int_fits (Ty-F.Int k) n v e = of (is_in_range k n) refl e where
    of : (b : Bool) → is_in_range k n ≡ b → (if b then Ok (value.Int k n) else Err Range) ≡ Ok v → FitsLayer program K (Ty-F.Int k) (wire_of v)
    of true q h = subst (λ (x : Value). FitsLayer program K (Ty-F.Int k) (wire_of x)) (ok_is h) (refl, q)
    of false q h = absurd cc
  int_fits Ty-F.Lock n v e = absurd cc
  int_fits (Ty-F.Struct s) n v e = absurd cc
  int_fits (Ty-F.Ptr t) n v e = absurd cc
  int_fits Ty-F.VoidPtr n v e = absurd cc
  int_fits (Ty-F.Fun ts) n v e = absurd cc
  int_fits Ty-F.Void n v e = absurd cc

  null_fits : (l : Ty-F Ty) (v : Value) → null_bound l ≡ Ok v → FitsLayer program K l (wire_of v)
  null_fits (Ty-F.Int k) v e = absurd cc
  null_fits Ty-F.Lock v e = absurd cc
  null_fits (Ty-F.Struct s) v e = absurd cc
  null_fits (Ty-F.Ptr t) v e = subst (λ (x : Value). FitsLayer program K (Ty-F.Ptr t) (wire_of x)) (ok_is e) tt
  null_fits Ty-F.VoidPtr v e = subst (λ (x : Value). FitsLayer program K Ty-F.VoidPtr (wire_of x)) (ok_is e) tt
  null_fits (Ty-F.Fun ts) v e = subst (λ (x : Value). FitsLayer program K (Ty-F.Fun ts) (wire_of x)) (ok_is e) tt
  null_fits Ty-F.Void v e = absurd cc

  numbered : (ty : Ty) (n : ℕ) → type_number program.types ty ≡ Some n → slice_get program.types n ≡ Some ty
  numbered ty n e =
      let found = position-Some (λ (t : Ty). is_alike t ty) program.types n type.Lock e in
      slice_get-get_or program.types n type.Lock found.0 ∙ ap (λ (t : Ty). Some t) (alike_same (get_or program.types n type.Lock) ty found.1)

  taken_fits : (l : Ty-F Ty) (g t : ℕ) (def : GlobalDef) → slice_get program.globals g ≡ Some def → slice_get program.types t ≡ Some def.ty → takes l def.ty ≡ true
      → FitsLayer program K l (wire.Ptr (record { serial = g; first = 0; ty = t; count = def.count; index = 0 }))
  taken_fits (Ty-F.Ptr u) g t def e names k = (names ∙ ap (λ (x : Ty). Some x) (sym (alike_same u def.ty k)), global_view program sound K globals g t def e names)
  taken_fits Ty-F.VoidPtr g t def e names k = (tt, global_view program sound K globals g t def e names)
  taken_fits (Ty-F.Int k') g t def e names k = absurd cc
  taken_fits Ty-F.Lock g t def e names k = absurd cc
  taken_fits (Ty-F.Struct s) g t def e names k = absurd cc
  taken_fits (Ty-F.Fun ts) g t def e names k = absurd cc
  taken_fits Ty-F.Void g t def e names k = absurd cc

  view_fits : (l : Ty-F Ty) (g : ℕ) (def : GlobalDef) (v : Value) → slice_get program.globals g ≡ Some def → takes l def.ty ≡ true → (o : Option ℕ) → type_number program.types def.ty ≡ o → view_bound g def o ≡ Ok v → FitsLayer program K l (wire_of v)
  view_fits l g def v e k None q h = absurd cc
  view_fits l g def v e k (Some t) q h = subst (λ (x : Value). FitsLayer program K l (wire_of x)) (ok_is h) (taken_fits l g t def e (numbered def.ty t q) k)

  address_fits_by : (ty : Ty) (g : ℕ) (o : Option GlobalDef) (v : Value) → slice_get program.globals g ≡ o → address_by program ty g o ≡ Ok v → Fits program K ty (wire_of v)
  address_fits_by ty g None v q h = absurd cc
  address_fits_by ty g (Some def) v q h = of (takes (out-Ty ty) def.ty) refl h where
    of : (b : Bool) → takes (out-Ty ty) def.ty ≡ b → (if b then view_bound g def (type_number program.types def.ty) else Err ArgKind) ≡ Ok v → Fits program K ty (wire_of v)
    of true k e = view_fits (out-Ty ty) g def v q k (type_number program.types def.ty) refl e
    of false k e = absurd cc

  address_fits : (ty : Ty) (o : Option ℕ) (v : Value) → address_of program ty o ≡ Ok v → Fits program K ty (wire_of v)
  address_fits ty None v h = absurd cc
  address_fits ty (Some g) v h = address_fits_by ty g (slice_get program.globals g) v refl h

  arg_fits : (ty : Ty) (a : ArgText) (v : Value) → arg_bound program ty a ≡ Ok v → Fits program K ty (wire_of v)
  unfolding address_bound
  arg_fits ty (arg.Int n) v h = int_fits (out-Ty ty) n v h
  arg_fits ty arg.Null v h = null_fits (out-Ty ty) v h
  arg_fits ty (arg.Global name) v h = address_fits ty (global_number program.globals name) v h

  -- ---- all of them

  abbrev types_of : List Param → List Ty
  types_of params = map (λ (p : Param). p.ty) params

  one_more : (vs : List Value) (ts : List Ty) (v : Value) (t : Ty) → AllFit program K (map wire_of vs) ts → Fits program K t (wire_of v) → AllFit program K (map wire_of (vs ++ v ∷ [])) (ts ++ t ∷ [])
  one_more [] [] v t h f = (f, tt)
  one_more [] (u ∷ ts) v t h f = elim h [ ]
  one_more (x ∷ vs) [] v t h f = elim h [ ]
  one_more (x ∷ vs) (u ∷ ts) v t h f = (h.0, one_more vs ts v t h.1 f)

  args_fit : (params : List Param) (args : List ArgText) (vs : List Value) (ts : List Ty) (all : List Value) → AllFit program K (map wire_of vs) ts → args_behind program vs params args ≡ Ok all → AllFit program K (map wire_of all) (ts ++ types_of params)
  args_fit [] [] vs ts all h e = subst (λ (xs : List Value). AllFit program K (map wire_of xs) (ts ++ [])) (ok_is e) (subst (λ (us : List Ty). AllFit program K (map wire_of vs) us) (sym (append-nil ts)) h)
  args_fit [] (a ∷ args) vs ts all h e = absurd cc
  args_fit (p ∷ params) [] vs ts all h e = absurd cc
  args_fit (p ∷ params) (a ∷ args) vs ts all h e =
      of (arg_bound program p.ty a)
      (λ v q k. subst (λ (us : List Ty). AllFit program K (map wire_of all) us) (append_assoc ts (p.ty ∷ []) (types_of params)) (args_fit params args (vs ++ v ∷ []) (ts ++ p.ty ∷ []) all (one_more vs ts v p.ty h (arg_fits p.ty a v q)) k)) refl e
    where
      of : (r : Result Value ScriptKind) → ((v : Value) → arg_bound program p.ty a ≡ Ok v → args_behind program (vs ++ v ∷ []) params args ≡ Ok all → AllFit program K (map wire_of all) (ts ++ p.ty ∷ types_of params))
          → arg_bound program p.ty a ≡ r → and_then r (λ v. args_behind program (vs ++ v ∷ []) params args) ≡ Ok all → AllFit program K (map wire_of all) (ts ++ p.ty ∷ types_of params)
      of (Ok v) go q k = go v q k
      of (Err kind) go q k = absurd cc

  values_fit : (params : List Param) (args : List ArgText) (vs : List Value) → values_bound program params args ≡ Ok vs → AllFit program K (map wire_of vs) (types_of params)
  unfolding values_bound
  values_fit params args vs e = of (list_any (is_unknown program.globals) args) (length args == length params) e where
    of : (a b : Bool) → (if a then Err NoGlobal else (if b then args_behind program [] params args else Err Arity)) ≡ Ok vs → AllFit program K (map wire_of vs) (types_of params)
    of true b h = absurd cc
    of false true h = args_fit params args [] [] vs tt h
    of false false h = absurd cc

-- ---- commands

module _ (program : Program) (sound : IsSound program) where
  called_is : (f : ℕ) (r : Result (List Value) ScriptKind) (c : Command) → called f r ≡ Ok c → (vs : List Value) × (r ≡ Ok vs) × (command.Call f vs ≡ c)
  called_is f (Ok vs) c e = (vs, refl, ok_is e)
  called_is f (Err kind) c e = absurd cc

  call_fits : (o : Option ℕ) (args : List ArgText) (c : Command) → call_of program o args ≡ Ok c → IsCommand program c
  call_fits None args c e = absurd cc
  call_fits (Some f) args c e = of (slice_get program.funcs f) refl e where
    of : (o : Option Func) → slice_get program.funcs f ≡ o → call_by program f o args ≡ Ok c → IsCommand program c
    of None q h = absurd cc
    of (Some func) q h =
        let parts = called_is f (values_bound program func.params args) c h in
        subst (IsCommand program) parts.2 (func, q, λ K globals. values_fit program sound K globals func.params args parts.0 parts.1)

  show_fits : (o : Option ℕ) (c : Command) → ((g : ℕ) → o ≡ Some g → (def : GlobalDef) × (slice_get program.globals g ≡ Some def)) → show_of o ≡ Ok c → IsCommand program c
  show_fits None c there e = absurd cc
  show_fits (Some g) c there e = subst (IsCommand program) (ok_is e) (there g refl)

  global_there : (name : List ℕ) (g : ℕ) → global_number program.globals name ≡ Some g → (def : GlobalDef) × (slice_get program.globals g ≡ Some def)
  global_there name g e = of program.globals g e where
    of : (gs : List GlobalDef) (g : ℕ) → position (λ (x : GlobalDef). bytes_eq x.name name) gs ≡ Some g → (def : GlobalDef) × (slice_get gs g ≡ Some def)
    of [] g e = absurd cc
    of (x ∷ gs) g e = let found = position-Some (λ (y : GlobalDef). bytes_eq y.name name) (x ∷ gs) g x e in (get_or (x ∷ gs) g x, slice_get-get_or (x ∷ gs) g x found.0)

  command_fits : (w : LineWhat) (c : Command) → command_bound program w ≡ Ok c → IsCommand program c
  unfolding call_bound show_bound
  command_fits (what.Call name args) c e = call_fits (func_number program.funcs name) args c e
  command_fits (what.Idle n) c e = subst (IsCommand program) (ok_is e) tt
  command_fits (what.Show name) c e = show_fits (global_number program.globals name) c (λ g q. global_there name g q) e

  both_commands : (xs ys : List Command) → AreCommands program xs → AreCommands program ys → AreCommands program (xs ++ ys)
  both_commands [] ys h k = k
  both_commands (x ∷ xs) ys h k = (h.0, both_commands xs ys h.1 k)

  behind_fit : (lines : List ScriptLine) (before all : List Command) → AreCommands program before → commands_behind program before lines ≡ Ok all → AreCommands program all
  behind_fit [] before all h e = subst (AreCommands program) (ok_is e) h
  behind_fit (l ∷ lines) before all h e = of (command_bound program l.what) (λ c q k. behind_fit lines (before ++ c ∷ []) all (both_commands before (c ∷ []) h (command_fits l.what c q, tt)) k) refl e where
    of : (r : Result Command ScriptKind) → ((c : Command) → command_bound program l.what ≡ Ok c → commands_behind program (before ++ c ∷ []) lines ≡ Ok all → AreCommands program all)
        → command_bound program l.what ≡ r → on_line l.line r (λ c. commands_behind program (before ++ c ∷ []) lines) ≡ Ok all → AreCommands program all
    of (Ok c) go q k = go c q k
    of (Err kind) go q k = absurd cc

  bound_fits : (script : Script) (bound : Bound) → bound_of script program ≡ Ok bound → AreCommands program bound.commands
  unfolding bound_of
  bound_fits script bound e = of (commands_behind program [] script.lines) refl e where
    of : (r : Result (List Command) (ℕ × ScriptKind)) → commands_behind program [] script.lines ≡ r → and_then r (λ cs. Ok (record { words = script.words; rules = script.rules; fails = script.fails; commands = cs })) ≡ Ok bound → AreCommands program bound.commands
    of (Ok cs) q h = let is : cs ≡ bound.commands = ap (λ (b : Bound). b.commands) (ok_is h) in subst (AreCommands program) is (behind_fit script.lines [] cs tt q)
    of (Err e) q h = absurd cc

pub bound_commands_fit : BoundCommandsFit
bound_commands_fit = bound_fits
