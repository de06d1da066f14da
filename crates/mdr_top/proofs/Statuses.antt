-- What holds of the status with which a source isn't taken, or a script.
use Rattle.std.proofs.Common.{◌≡◌, ℕ, List, sym, subst}
use Rattle.mdr_due.specs.declared.status.Status.{Status}
use Rattle.mdr_due.specs.declared.status.Status.TheVariants as status
use Rattle.mdr_due.specs.Reads.{Files, longest_source, longest_script}
use Rattle.mdr_bound.specs.declared.bound.Bound.{Bound}
use Rattle.mdr_source.specs.declared.outcome.Source.{Source}
use Rattle.mdr_top.specs.Answers.{Unread, Untaken, CutAnswered, ScriptAnswered}
use Rattle.mdr_top.specs.declared.words.Cutting.{Cutting}
use Rattle.mdr_top.specs.Cuts.{IsCut}

-- P holds of each status with which there is no source: it isn't read, or it is refused
pub record HoldsSourceless (P : Status → Type 0) : Type 0 where
  pub missing : P status.Missing
  pub long : P status.TooLarge
  pub failed : P status.ReadFault
  pub refused : P status.SourceRefused

module _ (P : Status → Type 0) (holds : HoldsSourceless P) (files : Files) (s : Status) (text : List ℕ) where
  of_status : (t : Status) → s ≡ t → P t → P s
  of_status t e h = subst P (sym e) h

  -- so P holds where a file isn't read
  pub unread_status : (name : List ℕ) (limit : ℕ) → Unread files name limit s text → P s
  unread_status name limit (Unread.missing r e t) = of_status status.Missing e holds.missing
  unread_status name limit (Unread.long r e t) = of_status status.TooLarge e holds.long
  unread_status name limit (Unread.failed e t) = of_status status.ReadFault e holds.failed

  -- where a source isn't taken
  pub untaken_status : (name : List ℕ) → Untaken files name s text → P s
  untaken_status name (Untaken.unread u) = unread_status name longest_source u
  untaken_status name (Untaken.refused bytes r n) = of_status status.SourceRefused n.status_is holds.refused

  -- where a source is cut, if it does of a source that is accepted
  pub cut_answered_status : (how : Cutting) (name : List ℕ) → ((source : Source) → IsCut how name source s text → P s) → CutAnswered how files name s text → P s
  cut_answered_status how name accepted (CutAnswered.untaken u) = untaken_status name u
  cut_answered_status how name accepted (CutAnswered.accepted source h c) = accepted source c

  -- and where a script is run over a source, if it does where there is no source, of a script that is refused and of a run
  pub answered_status : (No : Status → List ℕ → Type 0) (Has : Source → Type 0) (script_name : List ℕ) (Due : Source → Bound → Type 0) → (No s text → P s) → P status.ScriptRefused → ((source : Source) (script : Bound) → Due source script → P s) → ScriptAnswered files No Has script_name Due s text → P s
  answered_status No Has script_name Due none refused ran (ScriptAnswered.no_source n) = none n
  answered_status No Has script_name Due none refused ran (ScriptAnswered.script_unread source h u) = unread_status script_name longest_script u
  answered_status No Has script_name Due none refused ran (ScriptAnswered.script_refused source lines h given n) = of_status status.ScriptRefused n.status_is refused
  answered_status No Has script_name Due none refused ran (ScriptAnswered.ran source lines script h given b due) = ran source script due
