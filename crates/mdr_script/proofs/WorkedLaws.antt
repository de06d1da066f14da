-- Lines and texts, by computing.
use Rattle.std.proofs.Common.{refl}
use Rattle.mdr_script.specs.Words.{word_at, ends, piece_at, is_name, name_of}
use Rattle.mdr_script.specs.Numbers.{value_of, hexadecimal_of, decimal_of, number_of, fitted, number_in, positive_of, negative_of, integer_of}
use Rattle.mdr_script.specs.Rules.{reg_value, write_at, read_at, tick_at, zero_at, trigger_by, behind_do, some_guard, no_guard, guard_at, set_at, clear_at, put_at, copy_at, start_at, line_effect, effect_by, behind_effect, effects_at, rule_at}
use Rattle.mdr_script.specs.Lines.{global_arg, integer_arg, arg_of, args_at, reg_line, on_line, fail_line, call_line, idle_line, show_line, setup_line, line_by, line_at}
use Rattle.mdr_script.specs.Scripts.{is_past, placed, judged, script_of}
use Rattle.mdr_script.specs.Worked.{LinesAreRead}

pub lines_are_read : LinesAreRead
unfolding word_at ends piece_at is_name name_of value_of hexadecimal_of decimal_of number_of fitted number_in positive_of negative_of integer_of reg_value write_at read_at tick_at zero_at trigger_by behind_do some_guard no_guard guard_at set_at clear_at put_at copy_at start_at line_effect effect_by behind_effect effects_at rule_at global_arg integer_arg arg_of args_at reg_line on_line fail_line call_line idle_line show_line setup_line line_by line_at is_past placed judged script_of
lines_are_read = record {
  guarded = refl;
  comma_behind = refl;
  comma_alone = refl;
  arguments = refl;
  call = refl;
  shape = refl;
  no_name = refl;
  comma_inside = refl;
  comma_at_end = refl;
  large = refl;
  huge = refl;
  late = refl;
  both = refl;
}
