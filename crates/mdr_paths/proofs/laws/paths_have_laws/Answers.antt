use Rattle.mdr_paths.specs.Numbers.{numbers}
use Rattle.mdr_paths.proofs.PathLaws.{laws}
use Rattle.mdr_paths.proofs.Tables.{table_paths}
use Rattle.mdr_paths.proofs.laws.paths_have_laws.Goals as goal

pub returns : goal.returns
returns c = record { numbers = laws numbers; tables = table_paths }
