use Rattle.mdr_meaning.proofs.WorkedProofs.{allocates, fills_text, fills_object, asks_for_object, breaks_out, returns_out, dangles, gives_own, gives_outer, gives_others}
use Rattle.mdr_meaning.proofs.worked.objects_live_and_die.Goals as goal

pub returns : goal.returns
returns c = record { filled = fills_object; asked = asks_for_object; left = breaks_out; returned = returns_out; dangling = dangles; own = gives_own; outer = gives_outer; others = gives_others; text = fills_text; heap = allocates }
