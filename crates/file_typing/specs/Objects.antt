-- Objects of the file (C 6.7, 6.9.2).
use Rattle.std.specs.Prelude.{ℕ, ◌+◌, List, [], ◌∷◌, ◌++◌, map, length, nat_lt, nat_le, false, ◌&&◌, if◌then◌else◌, Option, Some, None, pos}
use Rattle.rvt_num.specs.declared.values.Value.{Value}
use Rattle.rvt_num.specs.declared.values.Value.TheVariants.{Num}
use Rattle.rvt_tree.specs.declared.places.Place.{Place}
use Rattle.c_types.specs.Layout.{Shape}
use Rattle.c_syntax.specs.Syntax as s
use Rattle.c_syntax.specs.declared.bases.Word.{Word}
use Rattle.expression_typing.specs.Entities.{QualifiedType, an_object}
use Rattle.expression_typing.specs.Limits.{most_objects, most_cells_of_objects}
use Rattle.expression_typing.specs.Outcomes.{Checking, Made, Broken, give, and_then, beyond_a_limit}
use Rattle.expression_typing.specs.Progress.{with_object}
use Rattle.file_typing.specs.Blocks.{unless_declared}
use Rattle.file_typing.specs.DeclaratorTypes.{as_object, ValueType, type_of_declarator}
use Rattle.file_typing.specs.FileScope.{FileScope, StructEntry, structures, scope_of_file, with_name, with_objects}
use Rattle.file_typing.specs.Initializers.{typed_initializer, a_constant_value, contents_of, size_of}
use Rattle.file_typing.specs.Programs.{ObjectView}
use Rattle.file_typing.specs.Structs.{cell_kinds}

-- the contents of an object without an initializer
abbrev pub zeros : List StructEntry → Shape → List Value
zeros structs shape = map (λ kind. Num (record { kind = kind; value = pos 0 })) (cell_kinds structs shape)

-- one more object of the file, with its cells
abbrev pub counted_object : Place → ℕ → Checking (Unit {0})
counted_object at cells notes =
    if nat_lt notes.objects most_objects && nat_le (notes.cells + cells) most_cells_of_objects then Made tt (with_object cells notes)
    else Broken beyond_a_limit at

abbrev pub initial_contents : FileScope → ValueType → Option s.Initializer → Checking (List Value)
initial_contents file type None = give (zeros file.structs type.shape)
initial_contents file type (Some i) =
    and_then (typed_initializer (scope_of_file file) a_constant_value type.shape i) (λ i. give (contents_of i (zeros file.structs type.shape)))

-- an object is in scope from its own initializer on
abbrev pub with_object_named : Word → ValueType → FileScope → FileScope
with_object_named word type file =
    with_name (record { name = word.name; entity = an_object (length file.objects) type.shape type.constant }) file

-- whether its address is taken is known at the end of the file
abbrev pub object_of : Word → ValueType → List Value → ObjectView
object_of word type contents =
    record { name = word.name; shape = type.shape; constant = type.constant; addressable = false; owner = None; initial = contents }

abbrev pub with_object_made : ObjectView → FileScope → FileScope
with_object_made object file = with_objects (file.objects ++ object ∷ []) file

-- the lengths, the type, the name, and then the initializer
abbrev pub typed_object : FileScope → QualifiedType → s.InitDeclarator → Checking FileScope
typed_object file base init =
    and_then (type_of_declarator as_object (scope_of_file file) base init) (λ type.
    and_then (unless_declared file.names init.declarator.word.name init.declarator.word.place) (λ _.
    and_then (counted_object init.declarator.word.place (size_of (structures file) type.shape)) (λ _.
    and_then (initial_contents (with_object_named init.declarator.word type file) type init.value) (λ contents.
    give (with_object_made (object_of init.declarator.word type contents) (with_object_named init.declarator.word type file))))))

abbrev pub typed_objects : FileScope → QualifiedType → List s.InitDeclarator → Checking FileScope
typed_objects file base [] = give file
typed_objects file base (init ∷ rest) = and_then (typed_object file base init) (λ file. typed_objects file base rest)
