-- What the values of a pass that types a file stand for.
use Rattle.std.specs.Prelude.{List, map, Bool}
use Rattle.rvt_tree.specs.Views.{lvalue_view, expr_view, exprs_view}
use Rattle.c_types.specs.Layout as l
use Rattle.c_types.specs.Layout.{Shape, shape_of}
use Rattle.expression_typing.specs.Outcomes as o
use Rattle.expression_typing.specs.Entities as n
use Rattle.expression_typing.specs.Progress as p
use Rattle.expression_typing.specs.Operands as x
use Rattle.typing_base.specs.declared.faults.Cause.{Cause}
use Rattle.typing_base.specs.declared.faults.Cause.TheVariants as C
use Rattle.typing_base.specs.declared.entities.NamedType.{NamedType}
use Rattle.typing_base.specs.declared.entities.NamedType.TheVariants as N
use Rattle.typing_base.specs.declared.entities.QualifiedType.{QualifiedType}
use Rattle.typing_base.specs.declared.entities.Entity.{Entity}
use Rattle.typing_base.specs.declared.entities.Entity.TheVariants as E
use Rattle.typing_base.specs.declared.entities.Tagged.{Tagged}
use Rattle.typing_base.specs.declared.entities.Tagged.TheVariants as T
use Rattle.typing_base.specs.declared.structures.Field.{Field}
use Rattle.typing_base.specs.declared.structures.Structure.{Structure}
use Rattle.typing_base.specs.NoteViews.{local_view, call_view, taken_view}
use Rattle.typing_base.specs.declared.notes.Notes.{Notes}
use Rattle.typing_base.specs.declared.operands.PlaceType.{PlaceType}
use Rattle.typing_base.specs.declared.operands.PlaceType.TheVariants as Y
use Rattle.typing_base.specs.declared.operands.Operand.{Operand}
use Rattle.typing_base.specs.declared.operands.Operand.TheVariants as O
use Rattle.typing_base.specs.declared.scopes.Environment.{Environment}
use Rattle.typing_base.specs.declared.scopes.Scope.{Scope}
use Rattle.name_scopes.specs.Names.{Named}

abbrev pub cause_view : Cause → o.Cause
cause_view C.IncompleteType = o.incomplete_type
cause_view C.TooManyCells = o.too_many_cells
cause_view (C.UnknownName name) = o.unknown_name name
cause_view (C.DeclaredTwice name) = o.declared_twice name
cause_view C.WrongType = o.wrong_type
cause_view C.WrongNumberOfArguments = o.wrong_number_of_arguments
cause_view C.WriteToConstant = o.write_to_constant
cause_view C.AddressOnCallCycle = o.address_on_a_call_cycle
cause_view (C.NoBody name) = o.no_body name
cause_view C.BeyondLimit = o.beyond_a_limit
cause_view C.ConstantWanted = o.constant_wanted
cause_view C.NotInProfile = o.not_in_profile

-- ---- what names stand for

abbrev pub named_view : NamedType → n.NamedType
named_view N.NoValue = n.no_value
named_view (N.Type ty) = n.a_type (shape_of ty)
named_view N.PointerElsewhere = n.pointer_elsewhere

abbrev pub qualified_view : QualifiedType → n.QualifiedType
qualified_view type = record { named = named_view type.named; constant = type.constant }

abbrev pub entity_view : Entity → n.Entity
entity_view (E.Local number ty fixed) = n.a_local number (shape_of ty) fixed
entity_view (E.Object number ty fixed) = n.an_object number (shape_of ty) fixed
entity_view (E.Function number params result) = n.a_function number (map shape_of params.items) result
entity_view (E.Constant number) = n.a_constant number
entity_view E.Null = n.the_null
entity_view (E.Typedef type) = n.a_typedef (qualified_view type)

abbrev pub tagged_view : Tagged → n.Tagged
tagged_view (T.Struct number) = n.struct_tag number
tagged_view T.Enum = n.enum_tag

-- ---- structs

abbrev pub field_view : Field → n.Field
field_view f = record { name = f.name; type = shape_of f.ty; number = f.number; cell = f.cell }

abbrev pub structure_view : Structure → n.Structure
structure_view s = record { fields = map field_view s.fields.items; cells = s.cells }

abbrev pub structures_view : List Structure → List n.Structure
structures_view structs = map structure_view structs

-- ---- notes

abbrev pub notes_view : Notes → p.Notes
notes_view n =
    record {
      locals = map local_view n.locals;
      calls = map call_view n.calls.items;
      taken = map taken_view n.taken;
      loops = n.loops;
      objects = n.objects;
      cells = n.cells;
    }

-- ---- operands

abbrev pub type_view : PlaceType → Shape
type_view (Y.Word kind) = l.AWord kind
type_view (Y.Pointer pointee fixed) = l.APointer pointee fixed
type_view (Y.Array item count) = l.AnArray (shape_of item.now) count
type_view (Y.Struct number) = l.AStruct number

abbrev pub operand_view : Operand → x.Operand
operand_view (O.Place type fixed lvalue) = x.a_place (type_view type) fixed (lvalue_view lvalue)
operand_view (O.Integer kind value zero_token) = x.an_integer kind (expr_view value) zero_token
operand_view (O.Pointer pointee fixed value) = x.a_pointer pointee fixed (expr_view value)
operand_view O.Null = x.a_null
operand_view (O.Void function given) = x.a_void function (exprs_view given)

-- ---- where an expression stands

abbrev pub binding_view : Named Entity → n.Binding
binding_view binding = record { name = binding.name; entity = entity_view binding.value }

abbrev pub tag_view : Named Tagged → n.Tag
tag_view tag = record { name = tag.name; tagged = tagged_view tag.value }

abbrev pub environment_view : Environment → Bool → n.Scope
environment_view e evaluated =
    record { names = map binding_view e.names; tags = map tag_view e.tags; structs = structures_view e.structs.items; evaluated = evaluated }

abbrev pub scope_view : Scope → n.Scope
scope_view scope = environment_view scope.environment.now scope.evaluated
