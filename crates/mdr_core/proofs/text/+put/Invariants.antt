-- The invariant of `put_others`.
use Rattle.std.proofs.Common.{◌≡◌, ◌++◌, drop, map}
use Rattle.mdr_core.specs.TypeText.{behind_commas, text_of}
use Rattle.mdr_core.proofs.text.+put.Given as goal

abbrev pub invariant-put_others-loop-i : goal.invariant-put_others-loop-i
invariant-put_others-loop-i l =
    l.out.items ++ behind_commas (map (text_of l.structs) (drop l.i l.types)) ≡ l.fn.out.items ++ behind_commas (map (text_of l.structs) (drop 2 l.types))
