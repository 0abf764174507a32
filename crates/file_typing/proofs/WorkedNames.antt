-- Small files, each of which breaks a rule on names first, computed.
use Rattle.std.proofs.Common.{◌≡◌, [], ◌∷◌, Some, None, refl, codes}
use Rattle.c_syntax.specs.Syntax as s
use Rattle.c_syntax.specs.declared.bases.Specifier.TheVariants as B
use Rattle.c_syntax.specs.declared.bases.TypeWord.TheVariants as T
use Rattle.c_syntax.specs.declared.operators.Infix.TheVariants as I
use Rattle.expression_typing.specs.Outcomes.{declared_twice, unknown_name}
use Rattle.file_typing.proofs.Written.{at, word, int, base, star, plain, bare, parameter, parameter_of, local, alone, with_members, line, enumerator, refused, at_column}

-- int f(int a) { return b; }
unknown : refused (
    s.function_definition (alone (base 1 (B.Words (T.Int ∷ [])))) (word (codes "f") 5)
    (s.parameters (parameter (base 7 (B.Words (T.Int ∷ []))) (word (codes "a") 11) ∷ []))
    (s.compound (at 14) (s.block_of ((s.inner_statement (s.return_value (at 16) (s.identifier (word (codes "b") 23)))) ∷ []))) ∷
    []) ≡ at_column (unknown_name (codes "b")) 23
unknown = refl

-- void f(struct S *p) { }
unknown_tag : refused (
    s.function_definition (alone (base 1 (B.Words (T.Void ∷ [])))) (word (codes "f") 6)
    (s.parameters
    (parameter_of (base 8 (B.Struct (Some (word (codes "S") 15)))) (Some (star 17)) (Some (word (codes "p") 18)) s.no_dimensions ∷ []))
    (s.compound (at 21) s.no_items) ∷
    []) ≡ at_column (unknown_name (codes "S")) 15
unknown_tag = refl

-- enum E x;
unknown_enum : refused (
    s.object_definition (alone (base 1 (B.Enum (Some (word (codes "E") 6))))) (bare (plain (word (codes "x") 8)) ∷ []) ∷
    []) ≡ at_column (unknown_name (codes "E")) 6
unknown_enum = refl

-- void f(void) { int x; int x; }
local_twice : refused (
    s.function_definition (alone (base 1 (B.Words (T.Void ∷ [])))) (word (codes "f") 6)
    s.only_void
    (s.compound (at 14)
    (s.block_of
    ((s.local_declaration (local (base 16 (B.Words (T.Int ∷ []))) (bare (plain (word (codes "x") 20)) ∷ []))) ∷
    (s.local_declaration (local (base 23 (B.Words (T.Int ∷ []))) (bare (plain (word (codes "x") 27)) ∷ []))) ∷
    []))) ∷
    []) ≡ at_column (declared_twice (codes "x")) 27
local_twice = refl

-- void f(int x) { int x; }
-- the parameters and the outermost block are one scope
parameter_again : refused (
    s.function_definition (alone (base 1 (B.Words (T.Void ∷ [])))) (word (codes "f") 6)
    (s.parameters (parameter (base 8 (B.Words (T.Int ∷ []))) (word (codes "x") 12) ∷ []))
    (s.compound (at 15)
    (s.block_of ((s.local_declaration (local (base 17 (B.Words (T.Int ∷ []))) (bare (plain (word (codes "x") 21)) ∷ []))) ∷ []))) ∷
    []) ≡ at_column (declared_twice (codes "x")) 21
parameter_again = refl

-- void f(int x, int x);
parameter_twice : refused (
    s.function_prototype (alone (base 1 (B.Words (T.Void ∷ [])))) (word (codes "f") 6)
    (s.parameters
    (parameter (base 8 (B.Words (T.Int ∷ []))) (word (codes "x") 12) ∷ parameter (base 15 (B.Words (T.Int ∷ []))) (word (codes "x") 19) ∷ [])) ∷
    []) ≡ at_column (declared_twice (codes "x")) 19
parameter_twice = refl

-- int a; int a;
object_twice : refused (
    s.object_definition (alone (base 1 (B.Words (T.Int ∷ [])))) (bare (plain (word (codes "a") 5)) ∷ []) ∷
    s.object_definition (alone (base 8 (B.Words (T.Int ∷ [])))) (bare (plain (word (codes "a") 12)) ∷ []) ∷
    []) ≡ at_column (declared_twice (codes "a")) 12
object_twice = refl

-- enum { A }; int A;
constant_again : refused (
    s.tag_declaration (with_members (base 1 (B.Enum None)) (s.constants (enumerator (word (codes "A") 8) ∷ []))) ∷
    s.object_definition (alone (base 13 (B.Words (T.Int ∷ [])))) (bare (plain (word (codes "A") 17)) ∷ []) ∷
    []) ≡ at_column (declared_twice (codes "A")) 17
constant_again = refl

-- int true;
built_in_again : refused (
    s.object_definition (alone (base 1 (B.Words (T.Int ∷ [])))) (bare (plain (word (codes "true") 5)) ∷ []) ∷
    []) ≡ at_column (declared_twice (codes "true")) 5
built_in_again = refl

-- void f(void) { } void f(void) { }
body_twice : refused (
    s.function_definition (alone (base 1 (B.Words (T.Void ∷ [])))) (word (codes "f") 6) s.only_void (s.compound (at 14) s.no_items) ∷
    s.function_definition (alone (base 18 (B.Words (T.Void ∷ [])))) (word (codes "f") 23) s.only_void (s.compound (at 31) s.no_items) ∷
    []) ≡ at_column (declared_twice (codes "f")) 23
body_twice = refl

-- int a; int a(int);
function_again : refused (
    s.object_definition (alone (base 1 (B.Words (T.Int ∷ [])))) (bare (plain (word (codes "a") 5)) ∷ []) ∷
    s.function_prototype (alone (base 8 (B.Words (T.Int ∷ [])))) (word (codes "a") 12)
    (s.parameters (parameter_of (base 14 (B.Words (T.Int ∷ []))) None None s.no_dimensions ∷ [])) ∷
    []) ≡ at_column (declared_twice (codes "a")) 12
function_again = refl

-- struct S { int x; }; struct S { int y; };
tag_twice : refused (
    s.tag_declaration
    (with_members (base 1 (B.Struct (Some (word (codes "S") 8))))
    (s.fields (line (base 12 (B.Words (T.Int ∷ []))) (plain (word (codes "x") 16) ∷ []) ∷ []))) ∷
    s.tag_declaration
    (with_members (base 22 (B.Struct (Some (word (codes "S") 29))))
    (s.fields (line (base 33 (B.Words (T.Int ∷ []))) (plain (word (codes "y") 37) ∷ []) ∷ []))) ∷
    []) ≡ at_column (declared_twice (codes "S")) 29
tag_twice = refl

-- struct S { int x; char x; };
field_twice : refused (
    s.tag_declaration
    (with_members (base 1 (B.Struct (Some (word (codes "S") 8))))
    (s.fields
    (line (base 12 (B.Words (T.Int ∷ []))) (plain (word (codes "x") 16) ∷ []) ∷
    line (base 19 (B.Words (T.Char ∷ []))) (plain (word (codes "x") 24) ∷ []) ∷
    []))) ∷
    []) ≡ at_column (declared_twice (codes "x")) 24
field_twice = refl

-- struct S { int x; }; enum S { A };
enum_again : refused (
    s.tag_declaration
    (with_members (base 1 (B.Struct (Some (word (codes "S") 8))))
    (s.fields (line (base 12 (B.Words (T.Int ∷ []))) (plain (word (codes "x") 16) ∷ []) ∷ []))) ∷
    s.tag_declaration (with_members (base 22 (B.Enum (Some (word (codes "S") 27)))) (s.constants (enumerator (word (codes "A") 31) ∷ []))) ∷
    []) ≡ at_column (declared_twice (codes "S")) 27
enum_again = refl

-- void f(int x) { switch (x) { case 1: break; case 0 + 1: break; } }
case_twice : refused (
    s.function_definition (alone (base 1 (B.Words (T.Void ∷ [])))) (word (codes "f") 6)
    (s.parameters (parameter (base 8 (B.Words (T.Int ∷ []))) (word (codes "x") 12) ∷ []))
    (s.compound (at 15)
    (s.block_of
    ((s.inner_statement
    (s.switch (at 17) (s.identifier (word (codes "x") 25))
    (s.groups_of
    (s.labelled (s.case_label (at 30) (int 1 35) ∷ [])
    (s.block_of ((s.inner_statement (s.break_statement (at 38))) ∷ [])) ∷
    s.labelled (s.case_label (at 45) (s.binary I.Add (at 52) (int 0 50) (int 1 54)) ∷ [])
    (s.block_of ((s.inner_statement (s.break_statement (at 57))) ∷ [])) ∷
    [])))) ∷
    []))) ∷
    []) ≡ at_column (declared_twice (codes "case")) 45
case_twice = refl

-- void f(int x) { switch (x) { default: break; default: break; } }
default_twice : refused (
    s.function_definition (alone (base 1 (B.Words (T.Void ∷ [])))) (word (codes "f") 6)
    (s.parameters (parameter (base 8 (B.Words (T.Int ∷ []))) (word (codes "x") 12) ∷ []))
    (s.compound (at 15)
    (s.block_of
    ((s.inner_statement
    (s.switch (at 17) (s.identifier (word (codes "x") 25))
    (s.groups_of
    (s.labelled (s.default_label (at 30) ∷ []) (s.block_of ((s.inner_statement (s.break_statement (at 39))) ∷ [])) ∷
    s.labelled (s.default_label (at 46) ∷ []) (s.block_of ((s.inner_statement (s.break_statement (at 55))) ∷ [])) ∷
    [])))) ∷
    []))) ∷
    []) ≡ at_column (declared_twice (codes "default")) 46
default_twice = refl
