-- Small files, each of which breaks another rule first, computed: sizes, constants, the profile, and what is sought at the end.
use Rattle.std.proofs.Common.{◌≡◌, [], ◌∷◌, Some, None, refl, codes}
use Rattle.c_syntax.specs.Syntax as s
use Rattle.c_syntax.specs.declared.bases.Specifier.TheVariants as B
use Rattle.c_syntax.specs.declared.bases.TypeWord.TheVariants as T
use Rattle.c_syntax.specs.declared.operators.Infix.TheVariants as I
use Rattle.c_syntax.specs.declared.operators.Prefix.TheVariants as P
use Rattle.c_syntax.specs.declared.operators.Setting.TheVariants as Se
use Rattle.expression_typing.specs.Outcomes.{beyond_a_limit, constant_wanted, incomplete_type, no_body, not_in_profile, too_many_cells, wrong_type}
use Rattle.file_typing.proofs.Written.{at, word, int, base, star, plain, declarator, bare, set_to, parameter, parameter_of, local, alone, with_members, line, refused, at_column}

-- struct S s;
incomplete : refused (
    s.object_definition (alone (base 1 (B.Struct (Some (word (codes "S") 8))))) (bare (plain (word (codes "s") 10)) ∷ []) ∷
    []) ≡ at_column (incomplete_type) 10
incomplete = refl

-- struct S { struct S s; };
of_itself : refused (
    s.tag_declaration
    (with_members (base 1 (B.Struct (Some (word (codes "S") 8))))
    (s.fields (line (base 12 (B.Struct (Some (word (codes "S") 19)))) (plain (word (codes "s") 21) ∷ []) ∷ []))) ∷
    []) ≡ at_column (incomplete_type) 21
of_itself = refl

-- int a[];
open_length : refused (
    s.object_definition (alone (base 1 (B.Words (T.Int ∷ []))))
    (bare (declarator None (word (codes "a") 5) (s.dimensions_of (s.unsized (at 6) ∷ []))) ∷ []) ∷
    []) ≡ at_column (incomplete_type) 5
open_length = refl

-- int a[] = 1;
open_length_with_value : refused (
    s.object_definition (alone (base 1 (B.Words (T.Int ∷ []))))
    (set_to (declarator None (word (codes "a") 5) (s.dimensions_of (s.unsized (at 6) ∷ []))) (s.initial_value (int 1 11)) ∷ []) ∷
    []) ≡ at_column (incomplete_type) 5
open_length_with_value = refl

-- int a[4097];
too_long : refused (
    s.object_definition (alone (base 1 (B.Words (T.Int ∷ []))))
    (bare (declarator None (word (codes "a") 5) (s.dimensions_of (s.sized (at 6) (int 4097 7) ∷ []))) ∷ []) ∷
    []) ≡ at_column (too_many_cells) 5
too_long = refl

-- struct S { int a[4096]; int b; };
struct_too_large : refused (
    s.tag_declaration
    (with_members (base 1 (B.Struct (Some (word (codes "S") 8))))
    (s.fields
    (line (base 12 (B.Words (T.Int ∷ [])))
    (declarator None (word (codes "a") 16) (s.dimensions_of (s.sized (at 17) (int 4096 18) ∷ [])) ∷ []) ∷
    line (base 25 (B.Words (T.Int ∷ []))) (plain (word (codes "b") 29) ∷ []) ∷
    []))) ∷
    []) ≡ at_column (too_many_cells) 29
struct_too_large = refl

-- int a[100][100];
array_too_large : refused (
    s.object_definition (alone (base 1 (B.Words (T.Int ∷ []))))
    (bare (declarator None (word (codes "a") 5) (s.dimensions_of (s.sized (at 6) (int 100 7) ∷ s.sized (at 11) (int 100 12) ∷ []))) ∷ []) ∷
    []) ≡ at_column (too_many_cells) 5
array_too_large = refl

-- void f(void) { int a[4096]; int b; }
locals_too_large : refused (
    s.function_definition (alone (base 1 (B.Words (T.Void ∷ [])))) (word (codes "f") 6)
    s.only_void
    (s.compound (at 14)
    (s.block_of
    ((s.local_declaration
    (local (base 16 (B.Words (T.Int ∷ [])))
    (bare (declarator None (word (codes "a") 20) (s.dimensions_of (s.sized (at 21) (int 4096 22) ∷ []))) ∷ []))) ∷
    (s.local_declaration (local (base 29 (B.Words (T.Int ∷ []))) (bare (plain (word (codes "b") 33)) ∷ []))) ∷
    []))) ∷
    []) ≡ at_column (beyond_a_limit) 33
locals_too_large = refl

-- int a[4096], b[4096], c[4096], d[4096], e[4096], g[4096], h[4096], i[4096], j[4096], k[4096], l[4096], m[4096], n[4096], o[4096], p[4096], q[4096]; void f(void) { int x; int *y = &x; }
-- a local counts as an object from the first taking of its address
objects_too_large : refused (
    s.object_definition (alone (base 1 (B.Words (T.Int ∷ []))))
    (bare (declarator None (word (codes "a") 5) (s.dimensions_of (s.sized (at 6) (int 4096 7) ∷ []))) ∷
    bare (declarator None (word (codes "b") 14) (s.dimensions_of (s.sized (at 15) (int 4096 16) ∷ []))) ∷
    bare (declarator None (word (codes "c") 23) (s.dimensions_of (s.sized (at 24) (int 4096 25) ∷ []))) ∷
    bare (declarator None (word (codes "d") 32) (s.dimensions_of (s.sized (at 33) (int 4096 34) ∷ []))) ∷
    bare (declarator None (word (codes "e") 41) (s.dimensions_of (s.sized (at 42) (int 4096 43) ∷ []))) ∷
    bare (declarator None (word (codes "g") 50) (s.dimensions_of (s.sized (at 51) (int 4096 52) ∷ []))) ∷
    bare (declarator None (word (codes "h") 59) (s.dimensions_of (s.sized (at 60) (int 4096 61) ∷ []))) ∷
    bare (declarator None (word (codes "i") 68) (s.dimensions_of (s.sized (at 69) (int 4096 70) ∷ []))) ∷
    bare (declarator None (word (codes "j") 77) (s.dimensions_of (s.sized (at 78) (int 4096 79) ∷ []))) ∷
    bare (declarator None (word (codes "k") 86) (s.dimensions_of (s.sized (at 87) (int 4096 88) ∷ []))) ∷
    bare (declarator None (word (codes "l") 95) (s.dimensions_of (s.sized (at 96) (int 4096 97) ∷ []))) ∷
    bare (declarator None (word (codes "m") 104) (s.dimensions_of (s.sized (at 105) (int 4096 106) ∷ []))) ∷
    bare (declarator None (word (codes "n") 113) (s.dimensions_of (s.sized (at 114) (int 4096 115) ∷ []))) ∷
    bare (declarator None (word (codes "o") 122) (s.dimensions_of (s.sized (at 123) (int 4096 124) ∷ []))) ∷
    bare (declarator None (word (codes "p") 131) (s.dimensions_of (s.sized (at 132) (int 4096 133) ∷ []))) ∷
    bare (declarator None (word (codes "q") 140) (s.dimensions_of (s.sized (at 141) (int 4096 142) ∷ []))) ∷
    []) ∷
    s.function_definition (alone (base 149 (B.Words (T.Void ∷ [])))) (word (codes "f") 154)
    s.only_void
    (s.compound (at 162)
    (s.block_of
    ((s.local_declaration (local (base 164 (B.Words (T.Int ∷ []))) (bare (plain (word (codes "x") 168)) ∷ []))) ∷
    (s.local_declaration
    (local (base 171 (B.Words (T.Int ∷ [])))
    (set_to (declarator (Some (star 175)) (word (codes "y") 176) s.no_dimensions)
    (s.initial_value (s.unary P.Address (at 180) (s.identifier (word (codes "x") 181)))) ∷
    []))) ∷
    []))) ∷
    []) ≡ at_column (beyond_a_limit) 168
objects_too_large = refl

-- int n; int a[n];
not_constant : refused (
    s.object_definition (alone (base 1 (B.Words (T.Int ∷ [])))) (bare (plain (word (codes "n") 5)) ∷ []) ∷
    s.object_definition (alone (base 8 (B.Words (T.Int ∷ []))))
    (bare (declarator None (word (codes "a") 12) (s.dimensions_of (s.sized (at 13) (s.identifier (word (codes "n") 14)) ∷ []))) ∷ []) ∷
    []) ≡ at_column (constant_wanted) 14
not_constant = refl

-- int a[1 / 0];
trap : refused (
    s.object_definition (alone (base 1 (B.Words (T.Int ∷ []))))
    (bare (declarator None (word (codes "a") 5) (s.dimensions_of (s.sized (at 6) (s.binary I.Divide (at 9) (int 1 7) (int 0 11)) ∷ []))) ∷ []) ∷
    []) ≡ at_column (constant_wanted) 7
trap = refl

-- int n; int m = n;
initializer_not_constant : refused (
    s.object_definition (alone (base 1 (B.Words (T.Int ∷ [])))) (bare (plain (word (codes "n") 5)) ∷ []) ∷
    s.object_definition (alone (base 8 (B.Words (T.Int ∷ []))))
    (set_to (plain (word (codes "m") 12)) (s.initial_value (s.identifier (word (codes "n") 16))) ∷ []) ∷
    []) ≡ at_column (constant_wanted) 16
initializer_not_constant = refl

-- void f(int x) { switch (x) { case x: break; } }
case_not_constant : refused (
    s.function_definition (alone (base 1 (B.Words (T.Void ∷ [])))) (word (codes "f") 6)
    (s.parameters (parameter (base 8 (B.Words (T.Int ∷ []))) (word (codes "x") 12) ∷ []))
    (s.compound (at 15)
    (s.block_of
    ((s.inner_statement
    (s.switch (at 17) (s.identifier (word (codes "x") 25))
    (s.groups_of
    (s.labelled (s.case_label (at 30) (s.identifier (word (codes "x") 35)) ∷ [])
    (s.block_of ((s.inner_statement (s.break_statement (at 38))) ∷ [])) ∷
    [])))) ∷
    []))) ∷
    []) ≡ at_column (constant_wanted) 35
case_not_constant = refl

-- void f(int n, int a[n]) { }
parameter_length : refused (
    s.function_definition (alone (base 1 (B.Words (T.Void ∷ [])))) (word (codes "f") 6)
    (s.parameters
    (parameter (base 8 (B.Words (T.Int ∷ []))) (word (codes "n") 12) ∷
    parameter_of (base 15 (B.Words (T.Int ∷ []))) None (Some (word (codes "a") 19))
    (s.dimensions_of (s.sized (at 20) (s.identifier (word (codes "n") 21)) ∷ [])) ∷
    []))
    (s.compound (at 25) s.no_items) ∷
    []) ≡ at_column (constant_wanted) 21
parameter_length = refl

-- int *p;
global_pointer : refused (
    s.object_definition (alone (base 1 (B.Words (T.Int ∷ [])))) (bare (declarator (Some (star 5)) (word (codes "p") 6) s.no_dimensions) ∷ []) ∷
    []) ≡ at_column (not_in_profile) 6
global_pointer = refl

-- void f(void *p);
pointer_to_void : refused (
    s.function_prototype (alone (base 1 (B.Words (T.Void ∷ [])))) (word (codes "f") 6)
    (s.parameters (parameter_of (base 8 (B.Words (T.Void ∷ []))) (Some (star 13)) (Some (word (codes "p") 14)) s.no_dimensions ∷ [])) ∷
    []) ≡ at_column (not_in_profile) 14
pointer_to_void = refl

-- void f(void *);
nameless_pointer : refused (
    s.function_prototype (alone (base 1 (B.Words (T.Void ∷ [])))) (word (codes "f") 6)
    (s.parameters (parameter_of (base 8 (B.Words (T.Void ∷ []))) (Some (star 13)) None s.no_dimensions ∷ [])) ∷
    []) ≡ at_column (not_in_profile) 8
nameless_pointer = refl

-- void f(int a[2][3]);
pointer_to_array : refused (
    s.function_prototype (alone (base 1 (B.Words (T.Void ∷ [])))) (word (codes "f") 6)
    (s.parameters
    (parameter_of (base 8 (B.Words (T.Int ∷ []))) None (Some (word (codes "a") 12))
    (s.dimensions_of (s.sized (at 13) (int 2 14) ∷ s.sized (at 16) (int 3 17) ∷ [])) ∷
    [])) ∷
    []) ≡ at_column (not_in_profile) 12
pointer_to_array = refl

-- struct S { int *p; };
field_pointer : refused (
    s.tag_declaration
    (with_members (base 1 (B.Struct (Some (word (codes "S") 8))))
    (s.fields (line (base 12 (B.Words (T.Int ∷ []))) (declarator (Some (star 16)) (word (codes "p") 17) s.no_dimensions ∷ []) ∷ []))) ∷
    []) ≡ at_column (not_in_profile) 17
field_pointer = refl

-- struct S { int x; } f(void);
struct_result : refused (
    s.function_prototype
    (with_members (base 1 (B.Struct (Some (word (codes "S") 8))))
    (s.fields (line (base 12 (B.Words (T.Int ∷ []))) (plain (word (codes "x") 16) ∷ []) ∷ [])))
    (word (codes "f") 21)
    s.only_void ∷
    []) ≡ at_column (not_in_profile) 21
struct_result = refl

-- struct S { int x; }; void f(struct S s);
struct_parameter : refused (
    s.tag_declaration
    (with_members (base 1 (B.Struct (Some (word (codes "S") 8))))
    (s.fields (line (base 12 (B.Words (T.Int ∷ []))) (plain (word (codes "x") 16) ∷ []) ∷ []))) ∷
    s.function_prototype (alone (base 22 (B.Words (T.Void ∷ [])))) (word (codes "f") 27)
    (s.parameters (parameter (base 29 (B.Struct (Some (word (codes "S") 36)))) (word (codes "s") 38) ∷ [])) ∷
    []) ≡ at_column (not_in_profile) 38
struct_parameter = refl

-- struct S { int x; }; void f(struct S *p) { struct S s = *p; }
struct_copied : refused (
    s.tag_declaration
    (with_members (base 1 (B.Struct (Some (word (codes "S") 8))))
    (s.fields (line (base 12 (B.Words (T.Int ∷ []))) (plain (word (codes "x") 16) ∷ []) ∷ []))) ∷
    s.function_definition (alone (base 22 (B.Words (T.Void ∷ [])))) (word (codes "f") 27)
    (s.parameters
    (parameter_of (base 29 (B.Struct (Some (word (codes "S") 36)))) (Some (star 38)) (Some (word (codes "p") 39)) s.no_dimensions ∷ []))
    (s.compound (at 42)
    (s.block_of
    ((s.local_declaration
    (local (base 44 (B.Struct (Some (word (codes "S") 51))))
    (set_to (plain (word (codes "s") 53)) (s.initial_value (s.unary P.Target (at 57) (s.identifier (word (codes "p") 58)))) ∷
    []))) ∷
    []))) ∷
    []) ≡ at_column (not_in_profile) 57
struct_copied = refl

-- int f(int a) { return f; }
function_named : refused (
    s.function_definition (alone (base 1 (B.Words (T.Int ∷ [])))) (word (codes "f") 5)
    (s.parameters (parameter (base 7 (B.Words (T.Int ∷ []))) (word (codes "a") 11) ∷ []))
    (s.compound (at 14) (s.block_of ((s.inner_statement (s.return_value (at 16) (s.identifier (word (codes "f") 23)))) ∷ []))) ∷
    []) ≡ at_column (not_in_profile) 23
function_named = refl

-- void f(int x) { switch (x) { case 1: x = 2; case y: ; } }
-- the end of a group comes before the label that follows
falls_through : refused (
    s.function_definition (alone (base 1 (B.Words (T.Void ∷ [])))) (word (codes "f") 6)
    (s.parameters (parameter (base 8 (B.Words (T.Int ∷ []))) (word (codes "x") 12) ∷ []))
    (s.compound (at 15)
    (s.block_of
    ((s.inner_statement
    (s.switch (at 17) (s.identifier (word (codes "x") 25))
    (s.groups_of
    (s.labelled (s.case_label (at 30) (int 1 35) ∷ [])
    (s.block_of
    ((s.inner_statement
    (s.action (s.assign Se.Plain (at 40) (s.identifier (word (codes "x") 38)) (int 2 42)))) ∷
    [])) ∷
    s.labelled (s.case_label (at 45) (s.identifier (word (codes "y") 50)) ∷ [])
    (s.block_of ((s.inner_statement (s.null_statement (at 53))) ∷ [])) ∷
    [])))) ∷
    []))) ∷
    []) ≡ at_column (not_in_profile) 45
falls_through = refl

-- int g(int x); int f(int x) { return g(g(x)); }
without_body : refused (
    s.function_prototype (alone (base 1 (B.Words (T.Int ∷ [])))) (word (codes "g") 5)
    (s.parameters (parameter (base 7 (B.Words (T.Int ∷ []))) (word (codes "x") 11) ∷ [])) ∷
    s.function_definition (alone (base 15 (B.Words (T.Int ∷ [])))) (word (codes "f") 19)
    (s.parameters (parameter (base 21 (B.Words (T.Int ∷ []))) (word (codes "x") 25) ∷ []))
    (s.compound (at 28)
    (s.block_of
    ((s.inner_statement
    (s.return_value (at 30)
    (s.call (word (codes "g") 37)
    (s.arguments_of ((s.call (word (codes "g") 39) (s.arguments_of ((s.identifier (word (codes "x") 41)) ∷ []))) ∷ []))))) ∷
    []))) ∷
    []) ≡ at_column (no_body (codes "g")) 37
without_body = refl

-- int g(int x); int f(int x) { return g(x); } int x[0];
-- a broken rule comes before what is sought at the end
first_of_rules : refused (
    s.function_prototype (alone (base 1 (B.Words (T.Int ∷ [])))) (word (codes "g") 5)
    (s.parameters (parameter (base 7 (B.Words (T.Int ∷ []))) (word (codes "x") 11) ∷ [])) ∷
    s.function_definition (alone (base 15 (B.Words (T.Int ∷ [])))) (word (codes "f") 19)
    (s.parameters (parameter (base 21 (B.Words (T.Int ∷ []))) (word (codes "x") 25) ∷ []))
    (s.compound (at 28)
    (s.block_of
    ((s.inner_statement
    (s.return_value (at 30) (s.call (word (codes "g") 37) (s.arguments_of ((s.identifier (word (codes "x") 39)) ∷ []))))) ∷
    []))) ∷
    s.object_definition (alone (base 45 (B.Words (T.Int ∷ []))))
    (bare (declarator None (word (codes "x") 49) (s.dimensions_of (s.sized (at 50) (int 0 51) ∷ []))) ∷ []) ∷
    []) ≡ at_column (wrong_type) 49
first_of_rules = refl
