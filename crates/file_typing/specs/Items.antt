-- The items of a file, in order (C 6.9).
use Rattle.std.specs.Prelude.{List, [], ◌∷◌, Option, Some, None}
use Rattle.c_syntax.specs.Syntax as s
use Rattle.c_syntax.specs.declared.bases.Base.{Base}
use Rattle.c_syntax.specs.declared.bases.Specifier.{Specifier}
use Rattle.c_syntax.specs.declared.bases.Specifier.TheVariants as Sp
use Rattle.expression_typing.specs.BuiltIn.{built_in_names}
use Rattle.expression_typing.specs.Outcomes.{Checking, give, and_then}
use Rattle.expression_typing.specs.TypeNames.{base_type}
use Rattle.file_typing.specs.Enumerations.{enum_defined}
use Rattle.file_typing.specs.FileScope.{FileScope, scope_of_file, struct_bodies, definitions}
use Rattle.file_typing.specs.FunctionDefinitions.{typed_prototype, typed_definition}
use Rattle.file_typing.specs.Objects.{typed_objects}
use Rattle.file_typing.specs.Structs.{Based, struct_defined, struct_named}
use Rattle.file_typing.specs.Typedefs.{typed_typedefs}

-- ---- the base of an item, which alone declares structs and enums

abbrev pub other_base : FileScope → Base → Checking Based
other_base file base = and_then (base_type (scope_of_file file) base) (λ type. give (record { file = file; type = type }))

abbrev pub based_on : FileScope → Base → Specifier → Option s.Members → Checking Based
based_on file base (Sp.Struct tag) (Some (s.fields lines)) = struct_defined file tag base.constant lines
based_on file base (Sp.Enum tag) (Some (s.constants ones)) = enum_defined file tag base.constant ones
based_on file base (Sp.Struct (Some tag)) None = struct_named file tag base.constant
based_on file base _ _ = other_base file base

abbrev pub item_base : FileScope → s.ItemSpecifier → Checking Based
item_base file item = based_on file item.base item.base.specifier item.members

-- ---- items

-- the base, and then what is declared with it, from left to right
abbrev pub typed_item : FileScope → s.ExternalItem → Checking FileScope
typed_item file (s.type_definition base declarators) = and_then (item_base file base) (λ based. typed_typedefs based.file based.type declarators)
typed_item file (s.tag_declaration base) = and_then (item_base file base) (λ based. give based.file)
typed_item file (s.object_definition base inits) = and_then (item_base file base) (λ based. typed_objects based.file based.type inits)
typed_item file (s.function_prototype base word params) = and_then (item_base file base) (λ based. typed_prototype based.file based.type word params)
typed_item file (s.function_definition base word params body) =
    and_then (item_base file base) (λ based. typed_definition based.file based.type word params body)

abbrev pub typed_items : FileScope → List s.ExternalItem → Checking FileScope
typed_items file [] = give file
typed_items file (item ∷ rest) = and_then (typed_item file item) (λ file. typed_items file rest)

-- before the first item: what is built in, and the numbers of what the file defines
abbrev pub beginning : List s.ExternalItem → FileScope
beginning items =
    record { names = built_in_names; tags = []; structs = struct_bodies items; bodies = 0; functions = definitions items; objects = [] }

-- all items of a file, before what is sought at its end
abbrev pub all_items : List s.ExternalItem → Checking FileScope
all_items items = typed_items (beginning items) items
