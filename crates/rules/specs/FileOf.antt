-- The files of the tables that keep the rules. Assumes nothing.
use Rattle.std.specs.Prelude.{◌≡◌, ℕ, List}
use Rattle.scene.specs.Limits.{Limits}
use Rattle.scene.specs.Tables.{Tables}
use Rattle.rules.specs.TableRules.{TablesOk}
use Rattle.rules.specs.Write.{bytes_of}

-- s is the file of tables that keep the rules
pub record FileOf (l : Limits) (s : List ℕ) : Type 0 where
  pub tables : Tables
  pub ok : TablesOk l tables
  pub written : bytes_of tables ≡ s
