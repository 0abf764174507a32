-- Enums (C 6.7.2.2): their constants are numbers of `int`, and their types are `int`.
use Rattle.std.specs.Prelude.{List, [], ◌∷◌, Bool, ◌||◌, if◌then◌else◌, Option, Some, None, ℤ, pos, ◌+ℤ◌, int_lt, is_some}
use Rattle.rvt_num.specs.Kinds.{least, greatest}
use Rattle.rvt_num.specs.declared.kinds.Kind.TheVariants.{I32}
use Rattle.c_types.specs.Layout.{AWord}
use Rattle.c_syntax.specs.Syntax as s
use Rattle.c_syntax.specs.declared.bases.Word.{Word}
use Rattle.expression_typing.specs.Expressions.{constant}
use Rattle.expression_typing.specs.Entities.{a_constant, a_type, enum_tag, tag_in}
use Rattle.expression_typing.specs.Outcomes.{Checking, give, broken, and_then, declared_twice, wrong_type}
use Rattle.file_typing.specs.Blocks.{unless_declared}
use Rattle.file_typing.specs.FileScope.{FileScope, scope_of_file, with_name, with_tag}
use Rattle.file_typing.specs.Structs.{Based}

-- a constant without a value of its own is one more than the one before it
abbrev pub value_or : FileScope → ℤ → Option s.Expression → Checking ℤ
value_or file next None = give next
value_or file next (Some e) = and_then (constant (scope_of_file file) e) (λ n. give n.value)

abbrev pub is_int : Word → ℤ → Checking (Unit {0})
is_int word value = if int_lt value (least I32) || int_lt (greatest I32) value then broken wrong_type word.place else give tt

abbrev pub with_constant : Word → ℤ → FileScope → FileScope
with_constant word value file = with_name (record { name = word.name; entity = a_constant (record { kind = I32; value = value }) }) file

-- the value, and then the name, which is in scope from there on
abbrev pub typed_constants : FileScope → ℤ → List s.EnumerationConstant → Checking FileScope
typed_constants file next [] = give file
typed_constants file next (one ∷ rest) =
    and_then (value_or file next one.value) (λ value.
    and_then (is_int one.word value) (λ _.
    and_then (unless_declared file.names one.word.name one.word.place) (λ _.
    typed_constants (with_constant one.word value file) (value +ℤ pos 1) rest)))

-- a tag has one body, and is that of a struct or of an enum
abbrev pub begins_enum : FileScope → Option Word → Checking (Unit {0})
begins_enum file None = give tt
begins_enum file (Some tag) = if is_some (tag_in file.tags tag.name) then broken (declared_twice tag.name) tag.place else give tt

abbrev pub with_enum : Option Word → FileScope → FileScope
with_enum None file = file
with_enum (Some tag) file = with_tag (record { name = tag.name; tagged = enum_tag }) file

-- an enum with its constants; its tag is known behind the braces
abbrev pub enum_defined : FileScope → Option Word → Bool → List s.EnumerationConstant → Checking Based
enum_defined file tag constant ones =
    and_then (begins_enum file tag) (λ _.
    and_then (typed_constants file (pos 0) ones) (λ file.
    give (record { file = with_enum tag file; type = record { named = a_type (AWord I32); constant = constant } })))
