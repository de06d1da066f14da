use Rattle.mdr_check_half.proofs.Endings.{keys_end}
use Rattle.mdr_check_half.proofs.fitting.suits_keys.Goals as goal

pub returns-then-all_name_something : goal.returns-then-all_name_something
returns-then-all_name_something c = keys_end _ _ _ _ c.args.parts.now _ _ c.as_slice-types.ensures c.as_slice-keys.ensures c.all_name_something.ensures c.if-all_name_something.true c.none_names_a_lock.ensures
