-- Small files, each of which breaks a rule on types first, computed.
use Rattle.std.proofs.Common.{◌≡◌, [], ◌∷◌, Some, None, refl, codes}
use Rattle.c_syntax.specs.Syntax as s
use Rattle.c_syntax.specs.declared.bases.Specifier.TheVariants as B
use Rattle.c_syntax.specs.declared.bases.TypeWord.TheVariants as T
use Rattle.c_syntax.specs.declared.operators.Setting.TheVariants as Se
use Rattle.expression_typing.specs.Outcomes.{unknown_name, write_to_constant, wrong_number_of_arguments, wrong_type}
use Rattle.file_typing.proofs.Written.{at, word, int, base, constant_base, star, constant_star, plain, declarator, bare, set_to, parameter, parameter_of, local, alone, with_members, line, enumerator, enumerator_of, refused, at_column}

-- void x;
void_object : refused (
    s.object_definition (alone (base 1 (B.Words (T.Void ∷ [])))) (bare (plain (word (codes "x") 6)) ∷ []) ∷
    []) ≡ at_column (wrong_type) 6
void_object = refl

-- int a[0];
no_length : refused (
    s.object_definition (alone (base 1 (B.Words (T.Int ∷ []))))
    (bare (declarator None (word (codes "a") 5) (s.dimensions_of (s.sized (at 6) (int 0 7) ∷ []))) ∷ []) ∷
    []) ≡ at_column (wrong_type) 5
no_length = refl

-- struct S { int x; }; enum S a;
enum_of_struct : refused (
    s.tag_declaration
    (with_members (base 1 (B.Struct (Some (word (codes "S") 8))))
    (s.fields (line (base 12 (B.Words (T.Int ∷ []))) (plain (word (codes "x") 16) ∷ []) ∷ []))) ∷
    s.object_definition (alone (base 22 (B.Enum (Some (word (codes "S") 27))))) (bare (plain (word (codes "a") 29)) ∷ []) ∷
    []) ≡ at_column (wrong_type) 27
enum_of_struct = refl

-- enum { A = 2147483647, B };
past_int : refused (
    s.tag_declaration
    (with_members (base 1 (B.Enum None))
    (s.constants (enumerator_of (word (codes "A") 8) (int 2147483647 12) ∷ enumerator (word (codes "B") 24) ∷ []))) ∷
    []) ≡ at_column (wrong_type) 24
past_int = refl

-- int f(int) { return 0; }
nameless : refused (
    s.function_definition (alone (base 1 (B.Words (T.Int ∷ [])))) (word (codes "f") 5)
    (s.parameters (parameter_of (base 7 (B.Words (T.Int ∷ []))) None None s.no_dimensions ∷ []))
    (s.compound (at 12) (s.block_of ((s.inner_statement (s.return_value (at 14) (int 0 21))) ∷ []))) ∷
    []) ≡ at_column (wrong_type) 7
nameless = refl

-- int f(int a); long f(int a);
unlike : refused (
    s.function_prototype (alone (base 1 (B.Words (T.Int ∷ [])))) (word (codes "f") 5)
    (s.parameters (parameter (base 7 (B.Words (T.Int ∷ []))) (word (codes "a") 11) ∷ [])) ∷
    s.function_prototype (alone (base 15 (B.Words (T.Long ∷ [])))) (word (codes "f") 20)
    (s.parameters (parameter (base 22 (B.Words (T.Int ∷ []))) (word (codes "a") 26) ∷ [])) ∷
    []) ≡ at_column (wrong_type) 20
unlike = refl

-- int f(int a) { return a; } long f(int a) { return a; }
-- another type comes before a second body
unlike_before_body : refused (
    s.function_definition (alone (base 1 (B.Words (T.Int ∷ [])))) (word (codes "f") 5)
    (s.parameters (parameter (base 7 (B.Words (T.Int ∷ []))) (word (codes "a") 11) ∷ []))
    (s.compound (at 14) (s.block_of ((s.inner_statement (s.return_value (at 16) (s.identifier (word (codes "a") 23)))) ∷ []))) ∷
    s.function_definition (alone (base 28 (B.Words (T.Long ∷ [])))) (word (codes "f") 33)
    (s.parameters (parameter (base 35 (B.Words (T.Int ∷ []))) (word (codes "a") 39) ∷ []))
    (s.compound (at 42) (s.block_of ((s.inner_statement (s.return_value (at 44) (s.identifier (word (codes "a") 51)))) ∷ []))) ∷
    []) ≡ at_column (wrong_type) 33
unlike_before_body = refl

-- void f(void) { break; }
no_break : refused (
    s.function_definition (alone (base 1 (B.Words (T.Void ∷ [])))) (word (codes "f") 6)
    s.only_void
    (s.compound (at 14) (s.block_of ((s.inner_statement (s.break_statement (at 16))) ∷ []))) ∷
    []) ≡ at_column (wrong_type) 16
no_break = refl

-- void f(int x) { switch (x) { case 1: continue; } }
no_continue : refused (
    s.function_definition (alone (base 1 (B.Words (T.Void ∷ [])))) (word (codes "f") 6)
    (s.parameters (parameter (base 8 (B.Words (T.Int ∷ []))) (word (codes "x") 12) ∷ []))
    (s.compound (at 15)
    (s.block_of
    ((s.inner_statement
    (s.switch (at 17) (s.identifier (word (codes "x") 25))
    (s.groups_of
    (s.labelled (s.case_label (at 30) (int 1 35) ∷ [])
    (s.block_of ((s.inner_statement (s.continue_statement (at 38))) ∷ [])) ∷
    [])))) ∷
    []))) ∷
    []) ≡ at_column (wrong_type) 38
no_continue = refl

-- int f(void) { return; }
no_value : refused (
    s.function_definition (alone (base 1 (B.Words (T.Int ∷ [])))) (word (codes "f") 5)
    s.only_void
    (s.compound (at 13) (s.block_of ((s.inner_statement (s.return_statement (at 15))) ∷ []))) ∷
    []) ≡ at_column (wrong_type) 15
no_value = refl

-- void f(int a) { return a; }
no_result : refused (
    s.function_definition (alone (base 1 (B.Words (T.Void ∷ [])))) (word (codes "f") 6)
    (s.parameters (parameter (base 8 (B.Words (T.Int ∷ []))) (word (codes "a") 12) ∷ []))
    (s.compound (at 15) (s.block_of ((s.inner_statement (s.return_value (at 17) (s.identifier (word (codes "a") 24)))) ∷ []))) ∷
    []) ≡ at_column (wrong_type) 17
no_result = refl

-- void f(void) { return b; }
-- the value comes before its `return`
value_first : refused (
    s.function_definition (alone (base 1 (B.Words (T.Void ∷ [])))) (word (codes "f") 6)
    s.only_void
    (s.compound (at 14) (s.block_of ((s.inner_statement (s.return_value (at 16) (s.identifier (word (codes "b") 23)))) ∷ []))) ∷
    []) ≡ at_column (unknown_name (codes "b")) 23
value_first = refl

-- struct S { int x; } s; void f(void) { if (s) ; }
struct_condition : refused (
    s.object_definition
    (with_members (base 1 (B.Struct (Some (word (codes "S") 8))))
    (s.fields (line (base 12 (B.Words (T.Int ∷ []))) (plain (word (codes "x") 16) ∷ []) ∷ [])))
    (bare (plain (word (codes "s") 21)) ∷ []) ∷
    s.function_definition (alone (base 24 (B.Words (T.Void ∷ [])))) (word (codes "f") 29)
    s.only_void
    (s.compound (at 37)
    (s.block_of ((s.inner_statement (s.if_statement (at 39) (s.identifier (word (codes "s") 43)) (s.null_statement (at 46)))) ∷ []))) ∷
    []) ≡ at_column (wrong_type) 43
struct_condition = refl

-- int a[1] = {1, b};
-- a value that fits no member is not looked at
excess_value : refused (
    s.object_definition (alone (base 1 (B.Words (T.Int ∷ []))))
    (set_to
    (declarator None (word (codes "a") 5) (s.dimensions_of (s.sized (at 6) (int 1 7) ∷ [])))
    (s.braces (at 12) (s.initializers_of ((s.initial_value (int 1 13)) ∷ (s.initial_value (s.identifier (word (codes "b") 16))) ∷ []))) ∷
    []) ∷
    []) ≡ at_column (wrong_type) 16
excess_value = refl

-- int x = {{3}};
more_braces : refused (
    s.object_definition (alone (base 1 (B.Words (T.Int ∷ []))))
    (set_to (plain (word (codes "x") 5))
    (s.braces (at 9) (s.initializers_of ((s.braces (at 10) (s.initializers_of ((s.initial_value (int 3 11)) ∷ []))) ∷ []))) ∷
    []) ∷
    []) ≡ at_column (wrong_type) 10
more_braces = refl

-- void f(int *q) { int *p = {q}; }
pointer_in_braces : refused (
    s.function_definition (alone (base 1 (B.Words (T.Void ∷ [])))) (word (codes "f") 6)
    (s.parameters (parameter_of (base 8 (B.Words (T.Int ∷ []))) (Some (star 12)) (Some (word (codes "q") 13)) s.no_dimensions ∷ []))
    (s.compound (at 16)
    (s.block_of
    ((s.local_declaration
    (local (base 18 (B.Words (T.Int ∷ [])))
    (set_to (declarator (Some (star 22)) (word (codes "p") 23) s.no_dimensions)
    (s.braces (at 27) (s.initializers_of ((s.initial_value (s.identifier (word (codes "q") 28))) ∷ []))) ∷
    []))) ∷
    []))) ∷
    []) ≡ at_column (wrong_type) 28
pointer_in_braces = refl

-- int a[2][2] = {1, 2};
elided_braces : refused (
    s.object_definition (alone (base 1 (B.Words (T.Int ∷ []))))
    (set_to
    (declarator None (word (codes "a") 5) (s.dimensions_of (s.sized (at 6) (int 2 7) ∷ s.sized (at 9) (int 2 10) ∷ [])))
    (s.braces (at 15) (s.initializers_of ((s.initial_value (int 1 16)) ∷ (s.initial_value (int 2 19)) ∷ []))) ∷
    []) ∷
    []) ≡ at_column (wrong_type) 16
elided_braces = refl

-- int f(int a) { return f(a, 1); }
arguments : refused (
    s.function_definition (alone (base 1 (B.Words (T.Int ∷ [])))) (word (codes "f") 5)
    (s.parameters (parameter (base 7 (B.Words (T.Int ∷ []))) (word (codes "a") 11) ∷ []))
    (s.compound (at 14)
    (s.block_of
    ((s.inner_statement
    (s.return_value (at 16)
    (s.call (word (codes "f") 23) (s.arguments_of ((s.identifier (word (codes "a") 25)) ∷ (int 1 28) ∷ []))))) ∷
    []))) ∷
    []) ≡ at_column (wrong_number_of_arguments) 23
arguments = refl

-- const int K = 3; void f(void) { K = 4; }
constant_written : refused (
    s.object_definition (alone (constant_base 1 (B.Words (T.Int ∷ []))))
    (set_to (plain (word (codes "K") 11)) (s.initial_value (int 3 15)) ∷ []) ∷
    s.function_definition (alone (base 18 (B.Words (T.Void ∷ [])))) (word (codes "f") 23)
    s.only_void
    (s.compound (at 31)
    (s.block_of ((s.inner_statement (s.action (s.assign Se.Plain (at 35) (s.identifier (word (codes "K") 33)) (int 4 37)))) ∷ []))) ∷
    []) ≡ at_column (write_to_constant) 33
constant_written = refl

-- void f(int *q) { int * const p = q; p = q; }
pointer_written : refused (
    s.function_definition (alone (base 1 (B.Words (T.Void ∷ [])))) (word (codes "f") 6)
    (s.parameters (parameter_of (base 8 (B.Words (T.Int ∷ []))) (Some (star 12)) (Some (word (codes "q") 13)) s.no_dimensions ∷ []))
    (s.compound (at 16)
    (s.block_of
    ((s.local_declaration
    (local (base 18 (B.Words (T.Int ∷ [])))
    (set_to (declarator (Some (constant_star 22)) (word (codes "p") 30) s.no_dimensions)
    (s.initial_value (s.identifier (word (codes "q") 34))) ∷
    []))) ∷
    (s.inner_statement
    (s.action (s.assign Se.Plain (at 39) (s.identifier (word (codes "p") 37)) (s.identifier (word (codes "q") 41))))) ∷
    []))) ∷
    []) ≡ at_column (write_to_constant) 37
pointer_written = refl
