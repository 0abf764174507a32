-- What the values of this crate stand for.
use Rattle.std.specs.Prelude.{ℕ}
use Rattle.rvt_tree.specs.Syntax as t
use Rattle.rvt_tree.specs.Views.{init_view}
use Rattle.rvt_tree.specs.declared.statements.Init.{Init}
use Rattle.c_types.specs.Layout.{shape_of}
use Rattle.file_typing.specs.DeclaratorTypes as d
use Rattle.file_typing.specs.Initializers as i
use Rattle.declarator_types.specs.declared.sorts.Sort.{Sort}
use Rattle.declarator_types.specs.declared.sorts.Sort.TheVariants as S
use Rattle.declarator_types.specs.declared.values.ValueType.{ValueType}
use Rattle.declarator_types.specs.declared.initializers.Asked.{Asked}
use Rattle.declarator_types.specs.declared.initializers.Asked.TheVariants as A

abbrev pub sort_view : Sort → d.Sort
sort_view S.Typedef = d.as_typedef
sort_view S.Object = d.as_object
sort_view S.Field = d.as_field
sort_view S.Local = d.as_local
sort_view S.Parameter = d.as_parameter

abbrev pub value_type_view : ValueType → d.ValueType
value_type_view type = record { shape = shape_of type.ty; constant = type.constant }

abbrev pub asked_view : Asked → i.Asked
asked_view A.Anything = i.anything
asked_view A.Constant = i.a_constant_value

-- an initializer of a member, and the size of that
abbrev pub member_view : Init × ℕ → t.Initializer × ℕ
member_view member = (init_view member.0, member.1)
