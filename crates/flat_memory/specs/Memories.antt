-- What contracts see of the objects of a running program.
use Rattle.std.specs.Prelude.{◌≡◌, List, length}
use Rattle.rvt_num.specs.declared.values.Value.{Value}
use Rattle.rvt_tree.specs.declared.programs.Program.{Program}
use Rattle.c_meaning.specs.Stores.{objects_of}
use Rattle.flat_memory.specs.declared.extents.Extent.{Extent}
use Rattle.flat_memory.specs.Extents.{extents_from, constant_contents, store_length}

-- a program, and the mutable cells of its objects in table order
pub record Contents : Type 0 where
  pub program : Program
  pub store : List Value

pub record IsMemoryOf (program : Program) (extents : List Extent) (constants : List Value) (store : List Value) : Type 0 where
  pub lie : extents ≡ extents_from 0 0 (objects_of program)
  pub hold : constants ≡ constant_contents (objects_of program)
  pub fill : length store ≡ store_length (objects_of program)
