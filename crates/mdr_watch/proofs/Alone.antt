-- Between commands no function of the user half is active: there is no set of cells.
use Rattle.std.proofs.Common.{◌≡◌, ℕ, true, [], refl, sym, ◌∙◌, ap, subst}
use Rattle.std.specs.Prelude.{map}
use Rattle.mdr_bound.specs.declared.bound.Bound.{Bound}
use Rattle.mdr_core.specs.declared.program.Program.{Program}
use Rattle.mdr_meaning.specs.Numbers.{Numbered}
use Rattle.mdr_meaning.specs.Sides.{Side}
use Rattle.mdr_meaning.specs.Tree.{Tree}
use Rattle.mdr_meaning.specs.Values.{wire_of}
use Rattle.mdr_model.specs.declared.command.Command.{Command}
use Rattle.mdr_model.specs.declared.command.Command.TheVariants as command
use Rattle.mdr_plain.specs.Plain.{does}
use Rattle.mdr_plain.specs.Running.{KernelCode, all_cells, interrupts}
use Rattle.mdr_plain.specs.Scripts.{begin, first_world, returned}
use Rattle.mdr_plain.specs.Services.{served}
use Rattle.mdr_plain.specs.Storage.{born, died, without}
use Rattle.mdr_plain.specs.World.{World, Work, left}
use Rattle.mdr_runs.specs.Upto.{went_left}
use Rattle.mdr_runs.proofs.Tries.{tries_give_none}
use Rattle.mdr_runs.proofs.Upto.{left_is}
use Rattle.mdr_viewed.specs.Laws.{kernel_goes}
use Rattle.mdr_watched.specs.Driver.{Driver}
use Rattle.mdr_watched.specs.Watched.{kernel_of, may_not}
use Rattle.mdr_watched.proofs.KeepLaws.{IsKept, Keeps, begun_keeps, idle_keeps_all, interrupts_keep, kernel_call_keeps, may_not_keeps, returned_keeps, run_keeps, served_keeps}
use Rattle.mdr_whole.specs.declared.ending.Gave.{Gave}
use Rattle.mdr_whole.specs.declared.ending.Gave.TheVariants as gave
use Rattle.mdr_whole.specs.declared.ending.Worked.{Worked}
use Rattle.mdr_whole.specs.declared.ending.Worked.TheVariants as worked
use Rattle.mdr_whole.specs.declared.paused.Went.{Went}
use Rattle.mdr_whole.specs.declared.paused.Went.TheVariants as went
use Rattle.mdr_whole.specs.Ending.{gave_as, worked_as}
use Rattle.mdr_whole.specs.Pausing.{went_as}
use Rattle.mdr_world.specs.Driven.{Driven, driver}

abbrev HasNone : World → Type 0
HasNone w = w.views ≡ []

none_kept : IsKept HasNone
unfolding born died
none_kept = record {
  put = λ w c v e. e;
  keeping = λ w k e. e;
  device = λ w d e. e;
  tick = λ w e. e;
  birth = λ program kind s w e. e;
  death = λ w serial e. ap (map (without serial)) e;
}

-- work came to this world
none_behind : (e : Worked) (w : World) (work : Work) → worked_as e w ≡ work → HasNone (left work) → HasNone w
none_behind worked.Done w work is h = subst (λ (x : Work). HasNone (left x)) (sym is) h
none_behind (worked.Stopped kind at) w work is h = subst (λ (x : Work). HasNone (left x)) (sym is) h

gave_keeps : (g : Gave) (w : World) → HasNone w → Keeps HasNone none_kept (gave_as g w)
gave_keeps (gave.Value v) w e = record { at_end = e }
gave_keeps (gave.Stopped kind at) w e = record { at_end = e }

-- the result of a call was noted
pub none_returned : (d : Driver) (code : KernelCode) (g : Gave) (e : Worked) (w w1 : World) → code ≡ kernel_of d → w.views ≡ [] → worked_as e w1 ≡ returned (interrupts code) (gave_as g w) → w1.views ≡ []
none_returned d code g e w w1 is alone so =
    none_behind e w1 _ (so ∙ ap (λ k. returned (interrupts k) (gave_as g w)) is) (returned_keeps HasNone none_kept d (gave_as g w) (gave_keeps g w alone)).at_end

-- a command was done by kernel code
command_keeps : (d : Driver) (c : Command) (w : World) → HasNone w → Keeps HasNone none_kept (does (kernel_of d) c w)
unfolding begin
command_keeps d (command.Call f args) w e =
    returned_keeps HasNone none_kept d _ (kernel_call_keeps HasNone none_kept d may_not (may_not_keeps HasNone none_kept d) f (map wire_of args) 0 _ (begun_keeps HasNone none_kept d f args w e))
command_keeps d (command.Idle n) w e = idle_keeps_all HasNone none_kept d n w e
command_keeps d (command.Show g) w e = record { at_end = e }
command_keeps d (command.Poke serial index n) w e = record { at_end = e }
command_keeps d (command.Say text) w e = record { at_end = e }

pub none_done : (d : Driver) (code : KernelCode) (c : Command) (e : Worked) (w w1 : World) → code ≡ kernel_of d → w.views ≡ [] → worked_as e w1 ≡ does code c w → w1.views ≡ []
none_done d code c e w w1 is alone so = none_behind e w1 _ (so ∙ ap (λ k. does k c w) is) (command_keeps d c w alone).at_end

-- code of the kernel half ran to its end, or up to where it calls back
went_at : (program : Program) (side : Side) (g : Went) (w : World) → went_left (went_as program side g w) ≡ w
went_at program side (went.Gave (gave.Value v)) w = refl
went_at program side (went.Gave (gave.Stopped kind at)) w = refl
went_at program side (went.Calls c p) w = refl

goes_keep : (d : Driver) (t : Tree) (w : World) → HasNone w → HasNone (went_left (kernel_goes d (interrupts (kernel_of d)) t w))
goes_keep d t w e =
    subst HasNone (left_is d.program (interrupts (kernel_of d)) (tries_give_none true d.program true d.kernel) t w)
    (run_keeps HasNone none_kept d.program all_cells (served d.program) may_not (interrupts (kernel_of d)) (λ n w' e'. interrupts_keep HasNone none_kept d n w' e') (λ q w' e'. served_keeps HasNone none_kept d.program q w' e') (λ at g vs n w' e'. record { at_end = e' }) t w e).at_end

pub none_went : (d : Driver) (t : Tree) (g : Went) (w w1 : World) → w.views ≡ [] → went_as d.program d.kernel g w1 ≡ kernel_goes d (interrupts (kernel_of d)) t w → w1.views ≡ []
none_went d t g w w1 alone so = subst HasNone (sym (ap went_left so) ∙ went_at d.program d.kernel g w1) (goes_keep d t w alone)

-- a run begins
pub none_first : (program : Program) (known : Numbered) (script : Bound) (budget : ℕ) (d : Driven) → d ≡ driver program (first_world known script budget) → d.world.views ≡ []
unfolding first_world
none_first program known script budget d is = ap (λ (x : Driven). x.world.views) is
