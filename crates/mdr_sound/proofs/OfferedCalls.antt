-- A call of a service, from what that offers, is one of the program.
use Rattle.std.proofs.Common.{◌≡◌, inl, ℕ, List, [], ◌∷◌, length, map, Option, Some, slice_get, refl, subst}
use Rattle.std.proofs.lemmas.Option.{none-some, same_Some}
use Rattle.mdr_rich.specs.declared.code.Callee.TheVariants as callee
use Rattle.mdr_rich.specs.declared.code.Expr.{Expr}
use Rattle.mdr_core.specs.declared.program.Program.{Program}
use Rattle.mdr_core.specs.declared.types.Ty.{Ty}
use Rattle.mdr_rich.specs.Folds.{term_of}
use Rattle.mdr_core.specs.Services.{Service as CoreService, offered, service_numbered}
use Rattle.mdr_core.specs.Typing.{Slot}
use Rattle.mdr_rich.specs.Typing.{HaveAll, NamesHandler, IsShape}
use Rattle.mdr_call.specs.declared.parts.Argument.{Argument}
use Rattle.mdr_operand.specs.declared.room.LocalName.{LocalName}
use Rattle.mdr_sound.proofs.Formed.{IsResult}
use Rattle.mdr_sound.proofs.FunctionCalls.{IsKnownCall}
use Rattle.mdr_sound.proofs.GivenArguments.{IsKnownArgument, AreKnownArguments}

module _ (program : Program) (slots : List Slot) (names : List LocalName) where
  abbrev structs : ℕ
  structs = length program.structs

  -- a call of a service, from what it offers
  pub service_known : (s : CoreService) (n : ℕ) (es : List Expr) (shape : Option Ty) (format : Option (List ℕ)) (params : List Ty) (r : Ty)
      → service_numbered n ≡ Some s → offered s shape format ≡ Some (record { params = params; result = r })
      → HaveAll program slots (map term_of es) params → NamesHandler s (map term_of es) → IsShape program shape → IsResult structs r
      → IsKnownCall program slots names (record { form = record { callee = callee.Service n; args = es; shape = shape; format = format }; result = r })
  service_known s n es shape format params r names offers all names_handler object returns = record {
    gives = inl (record {
      service = s;
      names = names;
      signature = record { params = params; result = r };
      offers = offers;
      args = all;
      handler = names_handler;
      object = object;
      is = refl;
    });
    returns = returns;
  }

  -- the first argument is known
  pub first_known : (args : List Argument) (a : Argument) → AreKnownArguments program slots names args → slice_get args 0 ≡ Some a → IsKnownArgument program slots names a
  first_known [] a h q = absurd (none-some a q)
  first_known (b ∷ rest) a h q = subst (IsKnownArgument program slots names) (same_Some _ _ q) h.0
