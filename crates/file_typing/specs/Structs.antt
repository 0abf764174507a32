-- Structs (C 6.7.2.1, 6.7.2.3).
use Rattle.std.specs.Prelude.{ℕ, suc, ◌+◌, List, [], ◌∷◌, ◌++◌, length, nat_lt, set, Bool, true, if◌then◌else◌, Option, Some, None, is_some, slice_get}
use Rattle.std.specs.List.{list_any, repeat}
use Rattle.std.specs.Str.{bytes_eq}
use Rattle.rvt_num.specs.declared.kinds.Kind.{Kind}
use Rattle.c_types.specs.Layout.{Shape, AWord, APointer, AnArray, AStruct}
use Rattle.c_syntax.specs.Syntax as s
use Rattle.c_syntax.specs.declared.bases.Word.{Word}
use Rattle.expression_typing.specs.Entities.{QualifiedType, a_type, Field, Tagged, struct_tag, enum_tag, tag_in}
use Rattle.expression_typing.specs.Limits.{most_cells_of_a_type}
use Rattle.expression_typing.specs.Outcomes.{Checking, give, broken, and_then, declared_twice, too_many_cells, wrong_type}
use Rattle.expression_typing.specs.Expressions.{lengths}
use Rattle.expression_typing.specs.TypeNames.{base_type, pointed}
use Rattle.file_typing.specs.DeclaratorTypes.{as_field, declared_type, value_type}
use Rattle.file_typing.specs.FileScope.{FileScope, StructEntry, incomplete, structures, scope_of_file, struct_number, with_tag, with_structs, with_bodies}
use Rattle.file_typing.specs.Initializers.{size_of}

-- ---- the kinds of the cells of a type, in order

abbrev pub contents_of_struct : Option StructEntry → List Kind
contents_of_struct None = []
contents_of_struct (Some entry) = entry.contents

-- of a type of an object or a field, which has no pointers
abbrev pub cell_kinds : List StructEntry → Shape → List Kind
cell_kinds structs (AWord kind) = kind ∷ []
cell_kinds structs (APointer pointee to_constant) = []
cell_kinds structs (AnArray item count) = repeat count (cell_kinds structs item)
cell_kinds structs (AStruct number) = contents_of_struct (slice_get structs number)

-- ---- fields

-- the fields of a struct so far, and the kinds of their cells
pub record Members : Type 0 where
  pub fields : List Field
  pub contents : List Kind

abbrev pub no_members : Members
no_members = record { fields = []; contents = [] }

abbrev pub with_field : List StructEntry → List ℕ → Shape → Members → Members
with_field structs name shape members =
    record {
      fields = members.fields ++ record { name = name; type = shape; number = length members.fields; cell = length members.contents } ∷ [];
      contents = members.contents ++ cell_kinds structs shape;
    }

abbrev pub has_field : Members → List ℕ → Bool
has_field members name = list_any (λ field. bytes_eq field.name name) members.fields

-- a field after others: a struct has no more cells than any type, and no two fields of one name
abbrev pub added : FileScope → Members → Word → Shape → Checking Members
added file members word shape =
    if nat_lt most_cells_of_a_type (length members.contents + size_of (structures file) shape) then broken too_many_cells word.place
    else if has_field members word.name then broken (declared_twice word.name) word.place
    else give (with_field file.structs word.name shape members)

abbrev pub typed_field : FileScope → QualifiedType → Members → s.Declarator → Checking Members
typed_field file base members declarator =
    and_then (lengths (scope_of_file file) declarator.dimensions) (λ counts.
    and_then (declared_type as_field (structures file) declarator.word.place (pointed declarator.pointer base) counts) (λ type.
    and_then (value_type declarator.word.place type) (λ type.
    added file members declarator.word type.shape)))

abbrev pub typed_fields : FileScope → QualifiedType → Members → List s.Declarator → Checking Members
typed_fields file base members [] = give members
typed_fields file base members (declarator ∷ rest) =
    and_then (typed_field file base members declarator) (λ members. typed_fields file base members rest)

-- the lines of a struct, each with a base of its own
abbrev pub typed_lines : FileScope → Members → List s.FieldDeclaration → Checking Members
typed_lines file members [] = give members
typed_lines file members (line ∷ rest) =
    and_then (base_type (scope_of_file file) line.base) (λ base.
    and_then (typed_fields file base members line.declarators) (λ members.
    typed_lines file members rest))

-- ---- tags

-- a struct of this number is named by its tag
abbrev pub tagged_with : Option Word → ℕ → FileScope → FileScope
tagged_with None number file = file
tagged_with (Some tag) number file = with_tag (record { name = tag.name; tagged = struct_tag number }) file

abbrev pub is_complete : List StructEntry → ℕ → Bool
is_complete structs number = is_some_cells (slice_get structs number) where
  is_some_cells : Option StructEntry → Bool
  is_some_cells None = true
  is_some_cells (Some entry) = is_some entry.structure.cells

-- a tag has one body, and is that of a struct or of an enum
abbrev pub may_have_body : List StructEntry → Word → Option Tagged → Checking (Unit {0})
may_have_body structs tag None = give tt
may_have_body structs tag (Some (struct_tag number)) = if is_complete structs number then broken (declared_twice tag.name) tag.place else give tt
may_have_body structs tag (Some enum_tag) = broken (declared_twice tag.name) tag.place

abbrev pub begins_body : FileScope → Option Word → Checking (Unit {0})
begins_body file None = give tt
begins_body file (Some tag) = may_have_body file.structs tag (tag_in file.tags tag.name)

-- ---- a struct with its body

abbrev pub completed : Option StructEntry → Members → StructEntry
completed None members = incomplete [] true
completed (Some entry) members =
    record {
      tag = entry.tag;
      tagged = entry.tagged;
      structure = record { fields = members.fields; cells = Some (length members.contents) };
      contents = members.contents;
    }

-- what an item's base declares, and its type
pub record Based : Type 0 where
  pub file : FileScope
  pub type : QualifiedType

abbrev pub of_struct : ℕ → Bool → QualifiedType
of_struct number constant = record { named = a_type (AStruct number); constant = constant }

-- the file where the body of its next struct has begun
abbrev pub body_begun : Option Word → FileScope → FileScope
body_begun tag file = with_bodies (suc file.bodies) (tagged_with tag file.bodies file)

abbrev pub body_ended : ℕ → Members → FileScope → FileScope
body_ended number members file = with_structs (set file.structs number (completed (slice_get file.structs number) members)) file

-- the struct is incomplete in its own body
abbrev pub struct_defined : FileScope → Option Word → Bool → List s.FieldDeclaration → Checking Based
struct_defined file tag constant lines =
    and_then (begins_body file tag) (λ _.
    and_then (typed_lines (body_begun tag file) no_members lines) (λ members.
    give (record { file = body_ended file.bodies members (body_begun tag file); type = of_struct file.bodies constant })))

-- ---- a struct that is named

-- a tag that no struct has yet declares one, which is incomplete
abbrev pub struct_declared : FileScope → Word → Bool → Option ℕ → Based
struct_declared file tag constant (Some number) =
    record { file = tagged_with (Some tag) number file; type = of_struct number constant }
struct_declared file tag constant None =
    record {
      file = with_structs (file.structs ++ incomplete tag.name true ∷ []) (tagged_with (Some tag) (length file.structs) file);
      type = of_struct (length file.structs) constant;
    }

abbrev pub struct_named_as : FileScope → Word → Bool → Option Tagged → Checking Based
struct_named_as file tag constant None = give (struct_declared file tag constant (struct_number file.structs tag.name))
struct_named_as file tag constant (Some (struct_tag number)) = give (record { file = file; type = of_struct number constant })
struct_named_as file tag constant (Some enum_tag) = broken wrong_type tag.place

abbrev pub struct_named : FileScope → Word → Bool → Checking Based
struct_named file tag constant = struct_named_as file tag constant (tag_in file.tags tag.name)
