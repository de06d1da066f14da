-- for proofs
-- Lines and texts worked out.
use Rattle.std.specs.Prelude.{◌≡◌, true, false, [], ◌∷◌, Some, None, Err, codes, negsuc}
use Rattle.mdr_device.specs.declared.rule.Trigger.TheVariants as trigger
use Rattle.mdr_device.specs.declared.rule.Effect.TheVariants as effect
use Rattle.mdr_script.specs.declared.line.ArgText.TheVariants as arg
use Rattle.mdr_script.specs.declared.line.LineWhat.TheVariants as what
use Rattle.mdr_script.specs.declared.line.Line.TheVariants as line
use Rattle.mdr_script.specs.declared.script_error.ScriptKind.TheVariants.{Form, Range, Order}
use Rattle.mdr_script.specs.Lines.{line_at}
use Rattle.mdr_script.specs.Scripts.{script_of}

pub record LinesAreRead : Type 0 where
  pub guarded : line_at false (codes "on write 0 if 0 1 1 do start 0 2") ≡ Some (line.Rule (record { trigger = trigger.Write 0; guard = Some (record { reg = 0; mask = 1; value = 1 }); effects = effect.Start 0 2 ∷ [] }))
  pub comma_behind : line_at false (codes "on zero 0 do put 3 7, raise") ≡ Some (line.Rule (record { trigger = trigger.Zero 0; guard = None; effects = effect.Put 3 7 ∷ effect.Raise ∷ [] }))
  pub comma_alone : line_at false (codes " on read 1 do raise , put 3 4\t") ≡ Some (line.Rule (record { trigger = trigger.Read 1; guard = None; effects = effect.Raise ∷ effect.Put 3 4 ∷ [] }))
  pub arguments : line_at false (codes "call k0 -0x10 07") ≡ None
  pub call : line_at false (codes "call k0 -0x1F null &gn") ≡ Some (line.Command (what.Call (codes "k0") (arg.Int (negsuc 30) ∷ arg.Null ∷ arg.Global (codes "gn") ∷ [])))
  -- where any number will do
  pub shape : line_at true (codes "reg 4096 0") ≡ Some (line.Word 0 0)
  pub no_name : script_of (codes "call 0x1F\n") ≡ Err (1, Form)
  pub comma_inside : script_of (codes "on tick 1 do raise,lower") ≡ Err (1, Form)
  pub comma_at_end : script_of (codes "on tick 1 do raise, ") ≡ Err (1, Form)
  pub large : script_of (codes "# c\n\nreg 4096 0\n") ≡ Err (3, Range)
  pub huge : script_of (codes "idle 0xfffffffffffffffffffffffffffffffffffffff") ≡ Err (1, Range)
  pub late : script_of (codes "idle 1\nfailalloc 2") ≡ Err (2, Order)
  -- of two faults of one line Range comes before Order
  pub both : script_of (codes "idle 1\nfailalloc 0") ≡ Err (2, Range)
