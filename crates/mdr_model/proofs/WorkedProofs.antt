-- The worked examples compute to what they say.
use Rattle.std.proofs.Common.{refl}
use Rattle.mdr_model.specs.Worked.{BumpSpells}
use Rattle.mdr_model.specs.Text.{answer_text, ask_text, back_text, call_text, down_text, new_text, reply_text, return_text, run_text, set_run_text, shape_text, told_text, text, value_text}
use Rattle.mdr_model.specs.Xdr.{four, eight, item, opaque, listed}
use Rattle.mdr_core.specs.Bits.{bit_of, of_bits}

pub bump_spells : BumpSpells
unfolding four eight item opaque listed value_text new_text run_text set_run_text told_text shape_text call_text return_text down_text back_text ask_text answer_text reply_text text bit_of of_bits
bump_spells = record { sent = refl; answers = refl }
