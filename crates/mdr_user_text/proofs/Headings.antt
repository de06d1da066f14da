-- Functions with the same types have the same parameters' types and the same result; and a program with other functions.
use Rattle.std.proofs.Common.{◌≡◌, Bool, false, List, [], ◌∷◌, map, Option, Some, None, refl, sym, ap, ◌∙◌}
use Rattle.std.specs.Option.{option_map}
use Rattle.mdr_core.specs.declared.program.Func.{Func}
use Rattle.mdr_core.specs.declared.program.Param.{Param}
use Rattle.mdr_core.specs.declared.program.Program.{Program}
use Rattle.mdr_core.specs.declared.types.Ty.{Ty, out-Ty}
use Rattle.mdr_core.specs.declared.types.Ty.TheOpen.{Ty-F}
use Rattle.mdr_core.specs.declared.types.Ty.TheVariants as type
use Rattle.mdr_core.specs.Typing.{function_type}
use Rattle.mdr_meaning.specs.Numbers.{is_same_type}
use Rattle.mdr_split.specs.Fits.{Places, has_type}
use Rattle.mdr_split.specs.Legal.{params_of, result_of}

-- a program with these functions, and all else as it is
abbrev pub with_funcs : Program → List Func → Program
with_funcs program funcs = record { types = program.types; structs = program.structs; globals = program.globals; funcs = funcs }

abbrev pub heading : Option Func → Option Ty
heading o = option_map function_type o

-- ---- what a function's type tells

-- its result, and the types of its parameters
abbrev pub result_in : List Ty → Ty
result_in [] = type.Void
result_in (t ∷ ts) = t

abbrev pub params_in : List Ty → List Ty
params_in [] = []
params_in (t ∷ ts) = ts

abbrev pub told_by : Ty-F Ty → List Ty
told_by (Ty-F.Fun ts) = ts
told_by _ = []

abbrev pub told_by_maybe : Option Ty → List Ty
told_by_maybe None = []
told_by_maybe (Some t) = told_by (out-Ty t)

told : (func : Func) → told_by (out-Ty (function_type func)) ≡ func.result ∷ map (λ (p : Param). p.ty) func.params
told func = ap told_by (type.outs-Fun (func.result ∷ map (λ (p : Param). p.ty) func.params))

params_told : (o : Option Func) → params_of o ≡ params_in (told_by_maybe (heading o))
params_told None = refl
params_told (Some func) = sym (ap params_in (told func))

result_told : (o : Option Func) → result_of o ≡ result_in (told_by_maybe (heading o))
result_told None = refl
result_told (Some func) = sym (ap result_in (told func))

pub same_params : (o o' : Option Func) → heading o ≡ heading o' → params_of o ≡ params_of o'
same_params o o' e = params_told o ∙ ap (λ (h : Option Ty). params_in (told_by_maybe h)) e ∙ sym (params_told o')

pub same_result : (o o' : Option Func) → heading o ≡ heading o' → result_of o ≡ result_of o'
same_result o o' e = result_told o ∙ ap (λ (h : Option Ty). result_in (told_by_maybe h)) e ∙ sym (result_told o')

-- ---- whether a function has a type

abbrev pub is_type : Ty → Option Ty → Bool
is_type ty None = false
is_type ty (Some t) = is_same_type t ty

typed : (p : Places) (ty : Ty) (o : Option Func) → has_type p ty o ≡ is_type ty (heading o)
typed p ty None = refl
typed p ty (Some func) = refl

pub same_type : (p p' : Places) (ty : Ty) (o o' : Option Func) → heading o ≡ heading o' → has_type p ty o ≡ has_type p' ty o'
same_type p p' ty o o' e = typed p ty o ∙ ap (is_type ty) e ∙ sym (typed p' ty o')
