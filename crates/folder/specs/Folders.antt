-- Folders, as the definitions speak of them.
use Rattle.std.specs.Prelude.{List}
use Rattle.circuit.specs.Model.{Circuit}
use Rattle.folder.specs.Entries.{Entry}

-- a circuit, and a table of entries that are numbered from 0
pub record Folder : Type 0 where
  pub circuit : Circuit
  pub table : List Entry
