-- The worked devices, interrupts, locks and texts print what they are said to.
use Rattle.std.proofs.Common.{◌≡◌, ℕ, List, [], ◌∷◌, refl, ap, ◌∙◌}
use Rattle.std.specs.Prelude.{codes, pos, Some, None}
use Rattle.mdr_core.specs.declared.kind.Kind.TheVariants.{U8, U32}
use Rattle.mdr_core.specs.declared.stop.StopKind.TheVariants as stop
use Rattle.mdr_core.specs.declared.value.LockState.TheVariants.{Free}
use Rattle.mdr_core.specs.declared.value.Value.TheVariants as value
use Rattle.mdr_meaning.specs.Worked.{at_stmt, node}
use Rattle.mdr_model.specs.declared.outcome.End.TheVariants as ends
use Rattle.mdr_model.specs.declared.outcome.Object.{Object}
use Rattle.mdr_model.specs.declared.outcome.Seen.TheVariants as seen
use Rattle.mdr_plain.specs.declared.outcome.Happened.{Happened}
use Rattle.mdr_plain.specs.declared.outcome.Happened.TheVariants as happened
use Rattle.mdr_plain.specs.declared.outcome.Outcome.{Outcome}
use Rattle.mdr_plain.specs.Report.{report}
use Rattle.mdr_plain.specs.Worked.{program_of, shown}
use Rattle.mdr_plain.specs.WorkedInterrupts.{TakesInterrupt, hitting, go_and_show, hitting_text, TakesOneAtATime, StarvesHandler, raised, at_once, raised_text, starved_text, starved_idle_text, WaitsForLock, locked, raise_and_lower, locked_text, KeepsRules, CutsIdle, ruled, go_and_idle, ruled_text, idle_cut_text, TellsTexts, talking, talk_and_show, talking_text}
use Rattle.mdr_plain.proofs.Computing.{runs, reports, int_text, lock_text}

abbrev number : ℕ → Object
number n = record { ty = 2; count = 1; cells = seen.Int (pos n) ∷ [] }

abbrev begins : Happened
begins = happened.Call (codes "go") []

abbrev returns : Happened
returns = happened.Ret value.NoValue

-- ---- an interrupt between two statements

abbrev hit : Outcome
hit = record {
  events =
      begins ∷ happened.Wrote 0 1 ∷ happened.Irq 0 ∷ happened.Wrote 1 0 ∷ happened.Read 3 7 ∷ returns ∷ happened.Show (codes "hits") (value.Int U32 (pos 1) ∷ []) ∷ [];
  end = ends.Ok;
  ticks = 7;
  live = 2;
  objects = number 1 ∷ number 7 ∷ [];
}

hitting_ends : shown hitting go_and_show 100 ≡ hit
unfolding runs
hitting_ends = refl

hitting_reads : report (program_of hitting) hit ≡ hitting_text
unfolding reports
hitting_reads = rw (int_text (node ∷ []) U32) refl

pub takes_interrupt : TakesInterrupt
takes_interrupt = ap (report (program_of hitting)) hitting_ends ∙ hitting_reads

-- ---- a line that stays raised

abbrev one_at_a_time : Outcome
one_at_a_time = record {
  events = begins ∷ happened.Wrote 0 1 ∷ happened.Irq 0 ∷ returns ∷ happened.Irq 0 ∷ happened.Show (codes "hits") (value.Int U32 (pos 4) ∷ []) ∷ happened.Idle 1 ∷ happened.Irq 0 ∷ happened.Irq 0 ∷ [];
  end = ends.Ok;
  ticks = 12;
  live = 2;
  objects = number 8 ∷ number 1 ∷ [];
}

raised_ends : shown raised at_once 100 ≡ one_at_a_time
unfolding runs
raised_ends = refl

raised_reads : report (program_of raised) one_at_a_time ≡ raised_text
unfolding reports
raised_reads = rw (int_text (node ∷ []) U32) refl

pub takes_one_at_a_time : TakesOneAtATime
takes_one_at_a_time = ap (report (program_of raised)) raised_ends ∙ raised_reads

abbrev starved : Outcome
starved = record {
  events = begins ∷ happened.Wrote 0 1 ∷ happened.Irq 0 ∷ [];
  end = ends.Stop stop.Ticks (Some (at_stmt 0 1));
  ticks = 2;
  live = 2;
  objects = number 0 ∷ number 0 ∷ [];
}

starved_ends : shown raised at_once 2 ≡ starved
unfolding runs
starved_ends = refl

starved_reads : report (program_of raised) starved ≡ starved_text
unfolding reports
starved_reads = rw (int_text (node ∷ []) U32) refl

abbrev starved_idle : Outcome
starved_idle = record {
  events =
      begins ∷ happened.Wrote 0 1 ∷ happened.Irq 0 ∷ returns ∷ happened.Irq 0 ∷ happened.Show (codes "hits") (value.Int U32 (pos 4) ∷ []) ∷ happened.Idle 1 ∷ happened.Irq 0 ∷ [];
  end = ends.Stop stop.Ticks (Some (at_stmt 0 1));
  ticks = 7;
  live = 2;
  objects = number 4 ∷ number 1 ∷ [];
}

starved_idle_ends : shown raised at_once 7 ≡ starved_idle
unfolding runs
starved_idle_ends = refl

starved_idle_reads : report (program_of raised) starved_idle ≡ starved_idle_text
unfolding reports
starved_idle_reads = rw (int_text (node ∷ []) U32) refl

pub starves_handler : StarvesHandler
unfolding runs
starves_handler = record { text = ap (report (program_of raised)) starved_ends ∙ starved_reads; idle = ap (report (program_of raised)) starved_idle_ends ∙ starved_idle_reads; device = refl }

-- ---- a lock

abbrev waited : Outcome
waited = record {
  events = begins ∷ happened.Wrote 0 1 ∷ happened.Irq 0 ∷ happened.Wrote 1 0 ∷ returns ∷ happened.Show (codes "l") (value.Lock Free ∷ []) ∷ [];
  end = ends.Ok;
  ticks = 8;
  live = 3;
  objects = number 1 ∷ number 2 ∷ record { ty = 8; count = 1; cells = seen.Free ∷ [] } ∷ [];
}

locked_ends : shown locked raise_and_lower 100 ≡ waited
unfolding runs
locked_ends = refl

locked_reads : report (program_of locked) waited ≡ locked_text
unfolding reports
locked_reads = rw (int_text (node ∷ []) U32, lock_text (node ∷ [])) refl

pub waits_for_lock : WaitsForLock
waits_for_lock = ap (report (program_of locked)) locked_ends ∙ locked_reads

-- ---- each trigger and each effect

abbrev in_go : List Happened → List Happened
in_go behind =
    begins ∷ happened.Wrote 0 8 ∷ happened.Read 1 4 ∷ happened.Read 2 9 ∷ happened.Wrote 3 2 ∷ happened.Read 4 0 ∷ happened.Wrote 3 3 ∷ happened.Read 4 3 ∷ returns ∷ happened.Irq 0 ∷ happened.Wrote 5 0 ∷ happened.Idle 3 ∷ behind

abbrev kept : Outcome
kept = record { events = in_go (happened.Irq 0 ∷ happened.Wrote 5 0 ∷ []); end = ends.Ok; ticks = 13; live = 2; objects = number 0 ∷ number 3 ∷ [] }

ruled_ends : shown ruled go_and_idle 100 ≡ kept
unfolding runs
ruled_ends = refl

ruled_reads : report (program_of ruled) kept ≡ ruled_text
unfolding reports
ruled_reads = rw (int_text (node ∷ []) U32) refl

pub keeps_rules : KeepsRules
keeps_rules = ap (report (program_of ruled)) ruled_ends ∙ ruled_reads

abbrev idle_cut : Outcome
idle_cut = record { events = in_go []; end = ends.Stop stop.Ticks None; ticks = 10; live = 2; objects = number 0 ∷ number 3 ∷ [] }

idle_ends : shown ruled go_and_idle 10 ≡ idle_cut
unfolding runs
idle_ends = refl

idle_reads : report (program_of ruled) idle_cut ≡ idle_cut_text
unfolding reports
idle_reads = rw (int_text (node ∷ []) U32) refl

pub cuts_idle : CutsIdle
cuts_idle = ap (report (program_of ruled)) idle_ends ∙ idle_reads

-- ---- texts and bytes

abbrev told : Outcome
told = record {
  events =
      begins ∷ happened.Log (97 ∷ 92 ∷ 55 ∷ 10 ∷ []) ∷ happened.Deliver (65 ∷ 10 ∷ 200 ∷ []) ∷ returns
      ∷ happened.Show (codes "bytes") (value.Int U8 (pos 65) ∷ value.Int U8 (pos 10) ∷ value.Int U8 (pos 200) ∷ []) ∷ [];
  end = ends.Ok;
  ticks = 2;
  live = 1;
  objects = record { ty = 0; count = 3; cells = seen.Int (pos 65) ∷ seen.Int (pos 10) ∷ seen.Int (pos 200) ∷ [] } ∷ [];
}

talking_ends : shown talking talk_and_show 100 ≡ told
unfolding runs
talking_ends = refl

talking_reads : report (program_of talking) told ≡ talking_text
unfolding reports
talking_reads = rw (int_text (node ∷ []) U8) refl

pub tells_texts : TellsTexts
tells_texts = ap (report (program_of talking)) talking_ends ∙ talking_reads
