-- What a cast that passes between these functions stands for.
use Rattle.operator_rules.specs.Views.{written_view}
use Rattle.expression_elaboration.specs.Chains as h
use Rattle.expression_elaboration.specs.declared.chains.CastTo.{CastTo}

abbrev pub cast_view : CastTo → h.CastTo
cast_view c = record { place = c.place; type = written_view c.ty }
