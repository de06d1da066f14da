-- The payloads of messages are read exactly where they are spelled.
use Rattle.std.proofs.Common.{refl}
use Rattle.mdr_model.specs.Text.{call_text, return_text, down_text, back_text, ask_text, answer_text, stop_text}
use Rattle.mdr_model.specs.Reading.{call_at, return_at, down_at, back_at, ask_at, answer_at, stop_at}
use Rattle.mdr_xdr.proofs.Readers.{IsReader}
use Rattle.mdr_xdr.proofs.Numbers.{four_reader, eight_reader}
use Rattle.mdr_xdr.proofs.Opaque.{opaque_reader}
use Rattle.mdr_xdr.proofs.Sequences.{then_takes, last_takes, then_again, last_again, made_reader, list_reader}
use Rattle.mdr_msg.specs.WellFormed.{IsCall, IsReturn, IsDown, IsBack, IsAsk, IsAnswer, IsStop}
use Rattle.mdr_msg.proofs.Fields.{value_reader, place_reader, new_reader, run_reader, shape_reader, told_reader}

pub call_reader : IsReader call_at call_text IsCall
unfolding call_at call_text
call_reader = made_reader
    (then_takes _ four_reader (λ func f. then_takes _ four_reader (λ depth d. then_takes _ eight_reader (λ rest r. then_takes _ (list_reader value_reader) (λ args a.
    last_takes _ told_reader (λ told t. record { is = refl; fits = record { func = f; depth = d; rest = r; args = a; told = t } }))))))
    (λ c h. then_again _ four_reader c.func h.func (then_again _ four_reader c.depth h.depth (then_again _ eight_reader c.rest h.rest
    (then_again _ (list_reader value_reader) c.args h.args (last_again _ told_reader c.told h.told)))))

pub return_reader : IsReader return_at return_text IsReturn
unfolding return_at return_text
return_reader = made_reader
    (then_takes _ eight_reader (λ ticks t. then_takes _ value_reader (λ result v. last_takes _ (list_reader run_reader) (λ runs r.
    record { is = refl; fits = record { ticks = t; result = v; runs = r } }))))
    (λ r h. then_again _ eight_reader r.ticks h.ticks (then_again _ value_reader r.result h.result (last_again _ (list_reader run_reader) r.runs h.runs)))

pub down_reader : IsReader down_at down_text IsDown
unfolding down_at down_text
down_reader = made_reader
    (then_takes _ eight_reader (λ ticks t. then_takes _ place_reader (λ at p. then_takes _ four_reader (λ depth d. then_takes _ four_reader (λ func f.
    then_takes _ (list_reader value_reader) (λ args a. last_takes _ (list_reader run_reader) (λ runs r.
    record { is = refl; fits = record { ticks = t; at = p; depth = d; func = f; args = a; runs = r } })))))))
    (λ d h. then_again _ eight_reader d.ticks h.ticks (then_again _ place_reader d.at h.at (then_again _ four_reader d.depth h.depth (then_again _ four_reader d.func h.func
    (then_again _ (list_reader value_reader) d.args h.args (last_again _ (list_reader run_reader) d.runs h.runs))))))

pub back_reader : IsReader back_at back_text IsBack
unfolding back_at back_text
back_reader = made_reader
    (then_takes _ eight_reader (λ rest r. then_takes _ value_reader (λ result v. last_takes _ told_reader (λ told t.
    record { is = refl; fits = record { rest = r; result = v; told = t } }))))
    (λ b h. then_again _ eight_reader b.rest h.rest (then_again _ value_reader b.result h.result (last_again _ told_reader b.told h.told)))

pub ask_reader : IsReader ask_at ask_text IsAsk
unfolding ask_at ask_text
ask_reader = made_reader
    (then_takes _ eight_reader (λ ticks t. then_takes _ place_reader (λ at p. then_takes _ four_reader (λ service s. then_takes _ (list_reader value_reader) (λ args a.
    then_takes _ (list_reader shape_reader) (λ shapes w. then_takes _ opaque_reader (λ bytes b. last_takes _ (list_reader run_reader) (λ runs r.
    record { is = refl; fits = record { ticks = t; at = p; service = s; asked = record { args = a; shapes = w; bytes = b; runs = r } } }))))))))
    (λ a h. then_again _ eight_reader a.ticks h.ticks (then_again _ place_reader a.at h.at (then_again _ four_reader a.service h.service
    (then_again _ (list_reader value_reader) a.args h.asked.args (then_again _ (list_reader shape_reader) a.shapes h.asked.shapes (then_again _ opaque_reader a.bytes h.asked.bytes
    (last_again _ (list_reader run_reader) a.runs h.asked.runs)))))))

pub answer_reader : IsReader answer_at answer_text IsAnswer
unfolding answer_at answer_text
answer_reader = made_reader
    (then_takes _ (list_reader value_reader) (λ results v. then_takes _ (list_reader eight_reader) (λ deaths d. last_takes _ (list_reader new_reader) (λ news n.
    record { is = refl; fits = record { results = v; deaths = d; news = n } }))))
    (λ a h. then_again _ (list_reader value_reader) a.results h.results (then_again _ (list_reader eight_reader) a.deaths h.deaths
    (last_again _ (list_reader new_reader) a.news h.news)))

pub stop_reader : IsReader stop_at stop_text IsStop
unfolding stop_at stop_text
stop_reader = made_reader
    (then_takes _ eight_reader (λ ticks t. then_takes _ four_reader (λ stop s. then_takes _ place_reader (λ at p. last_takes _ (list_reader run_reader) (λ runs r.
    record { is = refl; fits = record { ticks = t; number = s; at = p; runs = r } })))))
    (λ s h. then_again _ eight_reader s.ticks h.ticks (then_again _ four_reader s.stop h.number (then_again _ place_reader s.at h.at
    (last_again _ (list_reader run_reader) s.runs h.runs))))
