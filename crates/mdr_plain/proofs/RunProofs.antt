-- The worked drivers print what they are said to: each run comes to its outcome, and the outcome has its text.
use Rattle.std.proofs.Common.{◌≡◌, ℕ, [], ◌∷◌, refl, ap, ◌∙◌}
use Rattle.std.specs.Prelude.{codes, pos, negsuc, Some}
use Rattle.mdr_core.specs.declared.kind.Kind.TheVariants.{U8, U32, S32}
use Rattle.mdr_core.specs.declared.stop.StopKind.TheVariants as stop
use Rattle.mdr_core.specs.declared.types.Ty.TheVariants as ty
use Rattle.mdr_core.specs.declared.value.Value.TheVariants as value
use Rattle.mdr_meaning.specs.Worked.{at_stmt, node}
use Rattle.mdr_model.specs.declared.outcome.End.TheVariants as ends
use Rattle.mdr_model.specs.declared.outcome.Object.{Object}
use Rattle.mdr_model.specs.declared.outcome.Seen.{Seen}
use Rattle.mdr_model.specs.declared.outcome.Seen.TheVariants as seen
use Rattle.mdr_plain.specs.declared.outcome.Happened.TheVariants as happened
use Rattle.mdr_plain.specs.declared.outcome.Outcome.{Outcome}
use Rattle.mdr_plain.specs.Report.{report}
use Rattle.mdr_plain.specs.Worked.{program_of, shown}
use Rattle.mdr_plain.specs.WorkedRuns.{CountsDown, counting, call_of_three, counting_text, TurnsRing, CutsRing, ring, make_and_walk, ring_text, ring_cut_text, TakesAlias, alias, setup_and_take, alias_text, MeetsObjects, crossing, call_of_first, crossing_text, FailsSecond, failing, second_fails, failing_text, AddsFour, AddsFive, dev, buffer, add_of, four_text, five_text, FillsObject, filling, call_of_f, filling_text}
use Rattle.mdr_plain.proofs.Computing.{runs, reports, int_text, pointer_text, struct_text}

-- ---- a loop

abbrev counted : Outcome
counted = record {
  events = happened.Call (codes "f") (value.Int U32 (pos 3) ∷ []) ∷ happened.Ret value.NoValue ∷ [];
  end = ends.Ok;
  ticks = 10;
  live = 1;
  objects = record { ty = 2; count = 1; cells = seen.Int (pos 6) ∷ [] } ∷ [];
}

counting_ends : shown counting call_of_three 100 ≡ counted
unfolding runs
counting_ends = refl

counting_reads : report (program_of counting) counted ≡ counting_text
unfolding reports
counting_reads = rw (int_text (node ∷ []) U32) refl

pub counts_down : CountsDown
counts_down = ap (report (program_of counting)) counting_ends ∙ counting_reads

-- ---- structs and pointers

abbrev pointer_to_node : Seen → Object
pointer_to_node v = record { ty = 10; count = 1; cells = v ∷ [] }

abbrev number : ℕ → Object
number n = record { ty = 2; count = 1; cells = seen.Int (pos n) ∷ [] }

-- a node's number, and the object that the next one is
abbrev node_of : ℕ → ℕ → Object
node_of v next = record { ty = 9; count = 1; cells = seen.Int (pos v) ∷ seen.At next 0 ∷ [] }

abbrev turned : Outcome
turned = record {
  events = happened.Call (codes "make") [] ∷ happened.Ret value.NoValue ∷ happened.Call (codes "walk") [] ∷ happened.Ret value.NoValue ∷ [];
  end = ends.Ok;
  ticks = 26;
  live = 5;
  objects = pointer_to_node (seen.At 3 0) ∷ pointer_to_node (seen.At 4 0) ∷ node_of 11 4 ∷ node_of 112 5 ∷ node_of 13 3 ∷ [];
}

ring_ends : shown ring make_and_walk 100 ≡ turned
unfolding runs
ring_ends = refl

ring_reads : report (program_of ring) turned ≡ ring_text
unfolding reports
ring_reads = rw (pointer_text (node ∷ []) (ty.Struct 0), struct_text (node ∷ []) 0) refl

pub turns_ring : TurnsRing
turns_ring = ap (report (program_of ring)) ring_ends ∙ ring_reads

abbrev cut : Outcome
cut = record {
  events = happened.Call (codes "make") [] ∷ happened.Ret value.NoValue ∷ happened.Call (codes "walk") [] ∷ [];
  end = ends.Stop stop.Ticks (Some (at_stmt 1 8));
  ticks = 25;
  live = 5;
  objects = pointer_to_node (seen.At 3 0) ∷ pointer_to_node (seen.At 4 0) ∷ node_of 11 4 ∷ node_of 12 5 ∷ node_of 13 3 ∷ [];
}

cut_ends : shown ring make_and_walk 25 ≡ cut
unfolding runs
cut_ends = refl

cut_reads : report (program_of ring) cut ≡ ring_cut_text
unfolding reports
cut_reads = rw (pointer_text (node ∷ []) (ty.Struct 0), struct_text (node ∷ []) 0) refl

pub cuts_ring : CutsRing
cuts_ring = ap (report (program_of ring)) cut_ends ∙ cut_reads

abbrev taken : Outcome
taken = record {
  events = happened.Call (codes "setup") [] ∷ happened.Ret value.NoValue ∷ happened.Call (codes "take") [] ∷ happened.Ret value.NoValue ∷ [];
  end = ends.Ok;
  ticks = 12;
  live = 2;
  objects = pointer_to_node seen.Null ∷ number 9 ∷ [];
}

alias_ends : shown alias setup_and_take 100 ≡ taken
unfolding runs
alias_ends = refl

alias_reads : report (program_of alias) taken ≡ alias_text
unfolding reports
alias_reads = rw (pointer_text (node ∷ []) (ty.Struct 0), struct_text (node ∷ []) 0, int_text (node ∷ []) U32) refl

pub takes_alias : TakesAlias
takes_alias = ap (report (program_of alias)) alias_ends ∙ alias_reads

-- ---- objects in the order in which they are met

abbrev met_node : ℕ → Object
met_node v = record { ty = 9; count = 1; cells = seen.Int (pos v) ∷ seen.Null ∷ [] }

abbrev met : Outcome
met = record {
  events = happened.Call (codes "f") [] ∷ happened.Ret value.NoValue ∷ [];
  end = ends.Ok;
  ticks = 5;
  live = 5;
  objects = pointer_to_node (seen.At 3 0) ∷ pointer_to_node (seen.At 4 0) ∷ met_node 2 ∷ met_node 1 ∷ [];
}

crossing_ends : shown crossing call_of_first 100 ≡ met
unfolding runs
crossing_ends = refl

crossing_reads : report (program_of crossing) met ≡ crossing_text
unfolding reports
crossing_reads = rw (pointer_text (node ∷ []) (ty.Struct 0), struct_text (node ∷ []) 0) refl

pub meets_objects : MeetsObjects
meets_objects = ap (report (program_of crossing)) crossing_ends ∙ crossing_reads

-- ---- allocations that fail

abbrev failed : Outcome
failed = record {
  events = happened.Call (codes "probe") [] ∷ happened.Ret (value.Int S32 (negsuc 11)) ∷ [];
  end = ends.Ok;
  ticks = 7;
  live = 2;
  objects = pointer_to_node seen.Null ∷ pointer_to_node seen.Null ∷ [];
}

failing_ends : shown failing second_fails 100 ≡ failed
unfolding runs
failing_ends = refl

failing_reads : report (program_of failing) failed ≡ failing_text
unfolding reports
failing_reads = rw (pointer_text (node ∷ []) (ty.Struct 0), struct_text (node ∷ []) 0) refl

pub fails_second : FailsSecond
fails_second = ap (report (program_of failing)) failing_ends ∙ failing_reads

-- ---- arrays

abbrev dev_of : ℕ → Object
dev_of n = record { ty = 9; count = 1; cells = seen.Int (pos n) ∷ seen.At 3 0 ∷ [] }

abbrev four_bytes : Object
four_bytes = record { ty = 0; count = 4; cells = seen.Int (pos 0) ∷ seen.Int (pos 0) ∷ seen.Int (pos 0) ∷ seen.Int (pos 0) ∷ [] }

abbrev added_four : Outcome
added_four = record {
  events = happened.Call (codes "setup") (value.Int U32 (pos 4) ∷ []) ∷ happened.Ret value.NoValue ∷ happened.Call (codes "add") [] ∷ happened.Ret value.NoValue ∷ [];
  end = ends.Ok;
  ticks = 18;
  live = 3;
  objects = dev_of 4 ∷ number 0 ∷ four_bytes ∷ [];
}

four_ends : shown buffer (add_of 4) 100 ≡ added_four
unfolding runs
four_ends = refl

four_reads : report (program_of buffer) added_four ≡ four_text
unfolding reports
four_reads = rw (struct_text (dev ∷ []) 0, int_text (dev ∷ []) U32, int_text (dev ∷ []) U8) refl

pub adds_four : AddsFour
adds_four = ap (report (program_of buffer)) four_ends ∙ four_reads

abbrev added_five : Outcome
added_five = record {
  events = happened.Call (codes "setup") (value.Int U32 (pos 5) ∷ []) ∷ happened.Ret value.NoValue ∷ happened.Call (codes "add") [] ∷ [];
  end = ends.Stop stop.Bounds (Some (at_stmt 1 5));
  ticks = 19;
  live = 3;
  objects = dev_of 5 ∷ number 0 ∷ four_bytes ∷ [];
}

five_ends : shown buffer (add_of 5) 100 ≡ added_five
unfolding runs
five_ends = refl

five_reads : report (program_of buffer) added_five ≡ five_text
unfolding reports
five_reads = rw (struct_text (dev ∷ []) 0, int_text (dev ∷ []) U32, int_text (dev ∷ []) U8) refl

pub adds_five : AddsFive
adds_five = ap (report (program_of buffer)) five_ends ∙ five_reads

-- ---- objects of locals

abbrev filled : Outcome
filled = record {
  events = happened.Call (codes "f") [] ∷ happened.Ret value.NoValue ∷ [];
  end = ends.Ok;
  ticks = 4;
  live = 1;
  objects = number 7 ∷ [];
}

filling_ends : shown filling call_of_f 100 ≡ filled
unfolding runs
filling_ends = refl

filling_reads : report (program_of filling) filled ≡ filling_text
unfolding reports
filling_reads = rw (int_text (node ∷ []) U32) refl

pub fills_object : FillsObject
fills_object = ap (report (program_of filling)) filling_ends ∙ filling_reads
