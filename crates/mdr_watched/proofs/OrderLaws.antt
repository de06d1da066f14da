-- The order of a run's state is kept.
use Rattle.mdr_watched.specs.Order.{IsInOrder, OrderIsKept}
use Rattle.mdr_watched.proofs.KeepLaws.{asks_keep, backs_keep, commands_keep, downcall_keeps, kernel_call_keeps, may_not_keeps, upcall_keeps}
use Rattle.mdr_watched.proofs.MemoryOrder.{first_in_order, order_kept, order_kept_around, order_kept_inside}
use Rattle.mdr_watched.specs.Watched.{calls_back, held, may_not, watched_of}

pub order_is_kept : OrderIsKept
unfolding watched_of
order_is_kept = record {
  first = first_in_order;
  handles = λ d f args depth w o. (kernel_call_keeps IsInOrder order_kept d may_not (may_not_keeps IsInOrder order_kept d) f args depth w o).at_end;
  called = λ d room f args depth w o. (kernel_call_keeps IsInOrder order_kept d (calls_back d (held d) room) (backs_keep IsInOrder order_kept d order_kept_inside order_kept_around room) f args depth w o).at_end;
  crossed = λ d t room at f args depth w o.
      (downcall_keeps IsInOrder order_kept d order_kept_inside (calls_back d (held d) room) (backs_keep IsInOrder order_kept d order_kept_inside order_kept_around room) t at f args depth w o).at_end;
  served = λ d t asked w o. (asks_keep IsInOrder order_kept d order_kept_inside t asked w o).at_end;
  entered = λ d room f args depth w o.
      (upcall_keeps IsInOrder order_kept d order_kept_inside order_kept_around (calls_back d (held d) room) (backs_keep IsInOrder order_kept d order_kept_inside order_kept_around room) f args depth w o).at_end;
  back = λ d room at f args depth w o. (backs_keep IsInOrder order_kept d order_kept_inside order_kept_around room at f args depth w o).at_end;
  runs = λ d script budget. commands_keep IsInOrder order_kept d order_kept_inside order_kept_around script.commands _ (first_in_order d.kernel.known script budget);
}
