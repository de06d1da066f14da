-- protocol
-- What a message tells of memory.
use Rattle.std.specs.Prelude.{◌≡◌, ℕ, true, List, []}
use Rattle.mdr_model.specs.declared.message.Message.{Message}
use Rattle.mdr_model.specs.declared.message.Message.TheVariants as message
use Rattle.mdr_model.specs.declared.message.New.{New}
use Rattle.mdr_model.specs.declared.message.Run.{Run}
use Rattle.mdr_model.specs.Copies.{put_runs, values_of_runs}
use Rattle.mdr_model.specs.Memory.{Memory}
use Rattle.mdr_model.specs.User.{lives_fit, renewed_copy}
use Rattle.mdr_user_memory.specs.Taking.{AreKept}
use Rattle.mdr_watched.specs.Driver.{Driver}

abbrev pub deaths_in : Message → List ℕ
deaths_in (message.Call call) = call.told.deaths
deaths_in (message.Back back) = back.told.deaths
deaths_in (message.Answer answer) = answer.deaths
deaths_in _ = []

abbrev pub news_in : Message → List New
news_in (message.Call call) = call.told.news
news_in (message.Back back) = back.told.news
news_in (message.Answer answer) = answer.news
news_in _ = []

abbrev pub runs_in : Message → List Run
runs_in (message.Call call) = call.told.runs
runs_in (message.Back back) = back.told.runs
runs_in _ = []

-- a message that is accepted leads from one copy to another: deaths and births fit, and each value is as it is kept
pub record TellsTo (d : Driver) (copy : Memory) (m : Message) (copy' : Memory) : Type 0 where
  pub lives : lives_fit d.program copy (deaths_in m) (news_in m) ≡ true
  pub leads : copy' ≡ put_runs (runs_in m) (renewed_copy d.program (deaths_in m) (news_in m) copy)
  pub are_kept : AreKept (values_of_runs (runs_in m)) (renewed_copy d.program (deaths_in m) (news_in m) copy)
