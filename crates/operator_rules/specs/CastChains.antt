-- Casts that follow one another.
use Rattle.std.specs.Prelude.{List, [], ◌∷◌, Option, option_map}
use Rattle.rvt_num.specs.declared.kinds.Kind.{Kind}
use Rattle.rvt_num.specs.Number.{Number}
use Rattle.rvt_num.specs.Operations.{converted}

-- what casts make of a number, the last one first
abbrev pub cast_back : List Kind → Option Number → Option Number
cast_back [] n = n
cast_back (kind ∷ kinds) n = option_map (converted kind) (cast_back kinds n)
