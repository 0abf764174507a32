-- Small files that break no rule, computed.
use Rattle.std.proofs.Common.{◌≡◌, [], ◌∷◌, Some, None, refl, codes}
use Rattle.c_syntax.specs.Syntax as s
use Rattle.c_syntax.specs.declared.bases.Specifier.TheVariants as B
use Rattle.c_syntax.specs.declared.bases.TypeWord.TheVariants as T
use Rattle.c_syntax.specs.declared.operators.Infix.TheVariants as I
use Rattle.c_syntax.specs.declared.operators.Setting.TheVariants as Se
use Rattle.c_syntax.specs.declared.operators.Step.TheVariants as St
use Rattle.file_typing.proofs.Written.{at, word, int, base, constant_base, star, plain, declarator, bare, set_to, parameter, parameter_of, local, alone, with_members, line, enumerator, refused}

-- void f(int x) { switch (x) { case 1: { x = 2; break; } default: ; } }
ends_with_block : refused (
    s.function_definition (alone (base 1 (B.Words (T.Void ∷ [])))) (word (codes "f") 6)
    (s.parameters (parameter (base 8 (B.Words (T.Int ∷ []))) (word (codes "x") 12) ∷ []))
    (s.compound (at 15)
    (s.block_of
    ((s.inner_statement
    (s.switch (at 17) (s.identifier (word (codes "x") 25))
    (s.groups_of
    (s.labelled (s.case_label (at 30) (int 1 35) ∷ [])
    (s.block_of
    ((s.inner_statement
    (s.compound (at 38)
    (s.block_of
    ((s.inner_statement
    (s.action (s.assign Se.Plain (at 42) (s.identifier (word (codes "x") 40)) (int 2 44)))) ∷
    (s.inner_statement (s.break_statement (at 47))) ∷
    [])))) ∷
    [])) ∷
    s.labelled (s.default_label (at 56) ∷ []) (s.block_of ((s.inner_statement (s.null_statement (at 65))) ∷ [])) ∷
    [])))) ∷
    []))) ∷
    []) ≡ None
ends_with_block = refl

-- int f(long a, const int b); int f(long long, int c); int f(signed long int a, int b) { return b; } int f(long a, int b);
-- `const` of a parameter and its name are no part of the type
prototypes : refused (
    s.function_prototype (alone (base 1 (B.Words (T.Int ∷ [])))) (word (codes "f") 5)
    (s.parameters
    (parameter (base 7 (B.Words (T.Long ∷ []))) (word (codes "a") 12) ∷
    parameter (constant_base 15 (B.Words (T.Int ∷ []))) (word (codes "b") 25) ∷
    [])) ∷
    s.function_prototype (alone (base 29 (B.Words (T.Int ∷ [])))) (word (codes "f") 33)
    (s.parameters
    (parameter_of (base 35 (B.Words (T.Long ∷ T.Long ∷ []))) None None s.no_dimensions ∷
    parameter (base 46 (B.Words (T.Int ∷ []))) (word (codes "c") 50) ∷
    [])) ∷
    s.function_definition (alone (base 54 (B.Words (T.Int ∷ [])))) (word (codes "f") 58)
    (s.parameters
    (parameter (base 60 (B.Words (T.Signed ∷ T.Long ∷ T.Int ∷ []))) (word (codes "a") 76) ∷
    parameter (base 79 (B.Words (T.Int ∷ []))) (word (codes "b") 83) ∷
    []))
    (s.compound (at 86) (s.block_of ((s.inner_statement (s.return_value (at 88) (s.identifier (word (codes "b") 95)))) ∷ []))) ∷
    s.function_prototype (alone (base 100 (B.Words (T.Int ∷ [])))) (word (codes "f") 104)
    (s.parameters
    (parameter (base 106 (B.Words (T.Long ∷ []))) (word (codes "a") 111) ∷
    parameter (base 114 (B.Words (T.Int ∷ []))) (word (codes "b") 118) ∷
    [])) ∷
    []) ≡ None
prototypes = refl

-- struct a { int a; } a; enum b { c } ; int b; void f(struct a *p) { p->a = c; }
-- tags, fields and other names are apart
tags_apart : refused (
    s.object_definition
    (with_members (base 1 (B.Struct (Some (word (codes "a") 8))))
    (s.fields (line (base 12 (B.Words (T.Int ∷ []))) (plain (word (codes "a") 16) ∷ []) ∷ [])))
    (bare (plain (word (codes "a") 21)) ∷ []) ∷
    s.tag_declaration (with_members (base 24 (B.Enum (Some (word (codes "b") 29)))) (s.constants (enumerator (word (codes "c") 33) ∷ []))) ∷
    s.object_definition (alone (base 39 (B.Words (T.Int ∷ [])))) (bare (plain (word (codes "b") 43)) ∷ []) ∷
    s.function_definition (alone (base 46 (B.Words (T.Void ∷ [])))) (word (codes "f") 51)
    (s.parameters
    (parameter_of (base 53 (B.Struct (Some (word (codes "a") 60)))) (Some (star 62)) (Some (word (codes "p") 63)) s.no_dimensions ∷ []))
    (s.compound (at 66)
    (s.block_of
    ((s.inner_statement
    (s.action
    (s.assign Se.Plain (at 73)
    (s.postfix (s.identifier (word (codes "p") 68)) (s.arrow (at 69) (word (codes "a") 71) s.no_suffixes))
    (s.identifier (word (codes "c") 75))))) ∷
    []))) ∷
    []) ≡ None
tags_apart = refl

-- void f(int n) { for (int i = 0; i < n; i++) { int i = n; n = i; } }
-- the body of a loop hides what its header declares
loop_names : refused (
    s.function_definition (alone (base 1 (B.Words (T.Void ∷ [])))) (word (codes "f") 6)
    (s.parameters (parameter (base 8 (B.Words (T.Int ∷ []))) (word (codes "n") 12) ∷ []))
    (s.compound (at 15)
    (s.block_of
    ((s.inner_statement
    (s.for_loop (at 17)
    (s.starts_with_declaration
    (local (base 22 (B.Words (T.Int ∷ []))) (set_to (plain (word (codes "i") 26)) (s.initial_value (int 0 30)) ∷ [])))
    (Some (s.binary I.Less (at 35) (s.identifier (word (codes "i") 33)) (s.identifier (word (codes "n") 37))))
    ((s.step_after St.Up (at 41) (s.identifier (word (codes "i") 40))) ∷ [])
    (s.compound (at 45)
    (s.block_of
    ((s.local_declaration
    (local (base 47 (B.Words (T.Int ∷ [])))
    (set_to (plain (word (codes "i") 51)) (s.initial_value (s.identifier (word (codes "n") 55))) ∷ []))) ∷
    (s.inner_statement
    (s.action
    (s.assign Se.Plain (at 60) (s.identifier (word (codes "n") 58)) (s.identifier (word (codes "i") 62))))) ∷
    []))))) ∷
    []))) ∷
    []) ≡ None
loop_names = refl

-- struct S { int a[2]; int b; } s = {{{1}, 2}, {3}};
braced_integers : refused (
    s.object_definition
    (with_members (base 1 (B.Struct (Some (word (codes "S") 8))))
    (s.fields
    (line (base 12 (B.Words (T.Int ∷ [])))
    (declarator None (word (codes "a") 16) (s.dimensions_of (s.sized (at 17) (int 2 18) ∷ [])) ∷ []) ∷
    line (base 22 (B.Words (T.Int ∷ []))) (plain (word (codes "b") 26) ∷ []) ∷
    [])))
    (set_to (plain (word (codes "s") 31))
    (s.braces (at 35)
    (s.initializers_of
    ((s.braces (at 36)
    (s.initializers_of
    ((s.braces (at 37) (s.initializers_of ((s.initial_value (int 1 38)) ∷ []))) ∷ (s.initial_value (int 2 42)) ∷ []))) ∷
    (s.braces (at 46) (s.initializers_of ((s.initial_value (int 3 47)) ∷ []))) ∷
    []))) ∷
    []) ∷
    []) ≡ None
braced_integers = refl

-- typedef void V; V f(int *p, int a[3]) { return; }
void_typedef : refused (
    s.type_definition (alone (base 9 (B.Words (T.Void ∷ [])))) (plain (word (codes "V") 14) ∷ []) ∷
    s.function_definition (alone (base 17 (B.Named (word (codes "V") 17))))
    (word (codes "f") 19)
    (s.parameters
    (parameter_of (base 21 (B.Words (T.Int ∷ []))) (Some (star 25)) (Some (word (codes "p") 26)) s.no_dimensions ∷
    parameter_of (base 29 (B.Words (T.Int ∷ []))) None (Some (word (codes "a") 33)) (s.dimensions_of (s.sized (at 34) (int 3 35) ∷ [])) ∷
    []))
    (s.compound (at 39) (s.block_of ((s.inner_statement (s.return_statement (at 41))) ∷ []))) ∷
    []) ≡ None
void_typedef = refl
