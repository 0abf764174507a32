-- A local as an object of the table.
use Rattle.std.specs.Prelude.{ℕ, List, true, false, Some}
use Rattle.expression_typing.specs.Progress.{Local}
use Rattle.file_typing.specs.FileScope.{StructEntry}
use Rattle.file_typing.specs.Objects.{zeros}
use Rattle.file_typing.specs.Programs.{ObjectView}

-- the object that a local is, whose function has this number
abbrev pub local_object : List StructEntry → ℕ → Local → ObjectView
local_object structs owner local =
    record { name = local.name; shape = local.type; constant = false; addressable = true; owner = Some owner; initial = zeros structs local.type }
