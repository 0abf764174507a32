-- Small files, and the program that each is, computed: statements, names and the order of functions.
use Rattle.std.proofs.Common.{◌≡◌, [], ◌∷◌, Some, None, false, refl, codes}
use Rattle.rvt_num.specs.declared.kinds.Kind.TheVariants.{U8, I32}
use Rattle.rvt_num.specs.declared.operations.BinOp.TheVariants as O
use Rattle.rvt_tree.specs.declared.expressions.Variable.TheVariants as V
use Rattle.rvt_tree.specs.declared.statements.Bump.TheVariants.{UpAfter, DownAfter}
use Rattle.rvt_tree.specs.declared.statements.Label.TheVariants.{Case, Default}
use Rattle.rvt_tree.specs.Syntax as t
use Rattle.c_types.specs.Layout.{AWord}
use Rattle.c_syntax.specs.Syntax as s
use Rattle.c_syntax.specs.declared.bases.Specifier.TheVariants as B
use Rattle.c_syntax.specs.declared.bases.TypeWord.TheVariants as T
use Rattle.c_syntax.specs.declared.operators.Infix.TheVariants as I
use Rattle.c_syntax.specs.declared.operators.Setting.TheVariants as Se
use Rattle.c_syntax.specs.declared.operators.Step.TheVariants as St
use Rattle.file_typing.specs.Statements.{statements_of}
use Rattle.file_typing.proofs.Written.{at, word, int, base, plain, bare, set_to, parameter, local, alone, with_members, enumerator, enumerator_of, program}
use Rattle.file_typing.proofs.TypedTrees.{int_number, number, local_place, read, arguments, block, an_int_local, zero}

-- a file without items
nothing : program ([]) ≡
    Some (record { structs = []; functions = []; objects = [] })
nothing = refl

-- int f(int n){ if (n <= 1) return 1; return n * f(n - 1); }
factorial : program (
    s.function_definition (alone (base 1 (B.Words (T.Int ∷ [])))) (word (codes "f") 5)
    (s.parameters (parameter (base 7 (B.Words (T.Int ∷ []))) (word (codes "n") 11) ∷ []))
    (s.compound (at 13)
    (s.block_of
    ((s.inner_statement
    (s.if_statement (at 15)
    (s.binary I.LessEqual (at 21) (s.identifier (word (codes "n") 19)) (int 1 24))
    (s.return_value (at 27) (int 1 34)))) ∷
    (s.inner_statement
    (s.return_value (at 37)
    (s.binary I.Multiply (at 46) (s.identifier (word (codes "n") 44))
    (s.call (word (codes "f") 48)
    (s.arguments_of ((s.binary I.Subtract (at 52) (s.identifier (word (codes "n") 50)) (int 1 54)) ∷ [])))))) ∷
    []))) ∷
    []) ≡
    Some
    (record {
      structs = [];
      functions = record {
        name = codes "f";
        params = an_int_local (codes "n") None ∷ [];
        result = Some (AWord I32);
        locals = [];
        body = Some
            (block
            ((t.if_statement (t.binary O.Le (read 0) (number 1)) (t.return_value (number 1))) ∷
            (t.return_value (t.binary O.Mul (read 0) (t.call 0 (arguments ((t.binary O.Sub (read 0) (number 1)) ∷ []))))) ∷
            []));
      } ∷
          [];
      objects = [];
    })
factorial = refl

-- int f(int n){ int s = 0; int i; for (i = 0; i < n; i++) s += i; return s; }
sum_below : program (
    s.function_definition (alone (base 1 (B.Words (T.Int ∷ [])))) (word (codes "f") 5)
    (s.parameters (parameter (base 7 (B.Words (T.Int ∷ []))) (word (codes "n") 11) ∷ []))
    (s.compound (at 13)
    (s.block_of
    ((s.local_declaration
    (local (base 15 (B.Words (T.Int ∷ []))) (set_to (plain (word (codes "s") 19)) (s.initial_value (int 0 23)) ∷ []))) ∷
    (s.local_declaration (local (base 26 (B.Words (T.Int ∷ []))) (bare (plain (word (codes "i") 30)) ∷ []))) ∷
    (s.inner_statement
    (s.for_loop (at 33)
    (s.starts_with_actions ((s.assign Se.Plain (at 40) (s.identifier (word (codes "i") 38)) (int 0 42)) ∷ []))
    (Some (s.binary I.Less (at 47) (s.identifier (word (codes "i") 45)) (s.identifier (word (codes "n") 49))))
    ((s.step_after St.Up (at 53) (s.identifier (word (codes "i") 52))) ∷ [])
    (s.action (s.assign Se.Add (at 59) (s.identifier (word (codes "s") 57)) (s.identifier (word (codes "i") 62)))))) ∷
    (s.inner_statement (s.return_value (at 65) (s.identifier (word (codes "s") 72)))) ∷
    []))) ∷
    []) ≡
    Some
    (record {
      structs = [];
      functions = record {
        name = codes "f";
        params = an_int_local (codes "n") None ∷ [];
        result = Some (AWord I32);
        locals = an_int_local (codes "s") None ∷ an_int_local (codes "i") None ∷ [];
        body = Some
            (block
            ((t.declaration_with (V.Local 1) (t.initial_value (number 0))) ∷
            (t.declaration (V.Local 2)) ∷
            (t.for_loop 1 (statements_of (t.action (t.assign (local_place 2) (number 0)) ∷ []))
            (Some (t.binary O.Lt (read 2) (read 0)))
            (t.step UpAfter (local_place 2) ∷ [])
            (t.action (t.compound_assign O.Add (local_place 1) I32 (read 2)))) ∷
            (t.return_value (read 1)) ∷
            []));
      } ∷
          [];
      objects = [];
    })
sum_below = refl

-- int odd(int n); int even(int n){ if (n == 0) return 1; return odd(n - 1); } int odd(int n){ if (n == 0) return 0; return even(n - 1); }
-- functions are numbered in the order of their definitions
definitions_in_order : program (
    s.function_prototype (alone (base 1 (B.Words (T.Int ∷ [])))) (word (codes "odd") 5)
    (s.parameters (parameter (base 9 (B.Words (T.Int ∷ []))) (word (codes "n") 13) ∷ [])) ∷
    s.function_definition (alone (base 17 (B.Words (T.Int ∷ [])))) (word (codes "even") 21)
    (s.parameters (parameter (base 26 (B.Words (T.Int ∷ []))) (word (codes "n") 30) ∷ []))
    (s.compound (at 32)
    (s.block_of
    ((s.inner_statement
    (s.if_statement (at 34)
    (s.binary I.Equal (at 40) (s.identifier (word (codes "n") 38)) (int 0 43))
    (s.return_value (at 46) (int 1 53)))) ∷
    (s.inner_statement
    (s.return_value (at 56)
    (s.call (word (codes "odd") 63)
    (s.arguments_of ((s.binary I.Subtract (at 69) (s.identifier (word (codes "n") 67)) (int 1 71)) ∷ []))))) ∷
    []))) ∷
    s.function_definition (alone (base 77 (B.Words (T.Int ∷ [])))) (word (codes "odd") 81)
    (s.parameters (parameter (base 85 (B.Words (T.Int ∷ []))) (word (codes "n") 89) ∷ []))
    (s.compound (at 91)
    (s.block_of
    ((s.inner_statement
    (s.if_statement (at 93)
    (s.binary I.Equal (at 99) (s.identifier (word (codes "n") 97)) (int 0 102))
    (s.return_value (at 105) (int 0 112)))) ∷
    (s.inner_statement
    (s.return_value (at 115)
    (s.call (word (codes "even") 122)
    (s.arguments_of ((s.binary I.Subtract (at 129) (s.identifier (word (codes "n") 127)) (int 1 131)) ∷ []))))) ∷
    []))) ∷
    []) ≡
    Some
    (record {
      structs = [];
      functions = record {
        name = codes "even";
        params = an_int_local (codes "n") None ∷ [];
        result = Some (AWord I32);
        locals = [];
        body = Some
            (block
            ((t.if_statement (t.binary O.Eq (read 0) (number 0)) (t.return_value (number 1))) ∷
            (t.return_value (t.call 1 (arguments ((t.binary O.Sub (read 0) (number 1)) ∷ [])))) ∷
            []));
      } ∷
          record {
            name = codes "odd";
            params = an_int_local (codes "n") None ∷ [];
            result = Some (AWord I32);
            locals = [];
            body = Some
                (block
                ((t.if_statement (t.binary O.Eq (read 0) (number 0)) (t.return_value (number 0))) ∷
                (t.return_value (t.call 0 (arguments ((t.binary O.Sub (read 0) (number 1)) ∷ [])))) ∷
                []));
          } ∷
          [];
      objects = [];
    })
definitions_in_order = refl

-- int f(unsigned char c) { switch (c) { case 1: return 2; case 258: default: break; } return 0; }
cases : program (
    s.function_definition (alone (base 1 (B.Words (T.Int ∷ [])))) (word (codes "f") 5)
    (s.parameters (parameter (base 7 (B.Words (T.Unsigned ∷ T.Char ∷ []))) (word (codes "c") 21) ∷ []))
    (s.compound (at 24)
    (s.block_of
    ((s.inner_statement
    (s.switch (at 26) (s.identifier (word (codes "c") 34))
    (s.groups_of
    (s.labelled (s.case_label (at 39) (int 1 44) ∷ [])
    (s.block_of ((s.inner_statement (s.return_value (at 47) (int 2 54))) ∷ [])) ∷
    s.labelled (s.case_label (at 57) (int 258 62) ∷ s.default_label (at 67) ∷ [])
    (s.block_of ((s.inner_statement (s.break_statement (at 76))) ∷ [])) ∷
    [])))) ∷
    (s.inner_statement (s.return_value (at 85) (int 0 92))) ∷
    []))) ∷
    []) ≡
    Some
    (record {
      structs = [];
      functions = record {
        name = codes "f";
        params = record { name = codes "c"; shape = AWord U8; constant = false; object = None } ∷ [];
        result = Some (AWord I32);
        locals = [];
        body = Some
            (block
            ((t.switch (t.cast I32 (read 0))
            (t.labelled (Case (int_number 1) ∷ []) (statements_of (t.return_value (number 2) ∷ []))
            (t.labelled (Case (int_number 258) ∷ Default ∷ []) (statements_of (t.break_statement ∷ [])) t.no_groups))) ∷
            (t.return_value (number 0)) ∷
            []));
      } ∷
          [];
      objects = [];
    })
cases = refl

-- int x; int f(int a) { int x = x; { int x = a; a = x; } return x; }
-- a local is in scope from its own initializer on
hiding : program (
    s.object_definition (alone (base 1 (B.Words (T.Int ∷ [])))) (bare (plain (word (codes "x") 5)) ∷ []) ∷
    s.function_definition (alone (base 8 (B.Words (T.Int ∷ [])))) (word (codes "f") 12)
    (s.parameters (parameter (base 14 (B.Words (T.Int ∷ []))) (word (codes "a") 18) ∷ []))
    (s.compound (at 21)
    (s.block_of
    ((s.local_declaration
    (local (base 23 (B.Words (T.Int ∷ [])))
    (set_to (plain (word (codes "x") 27)) (s.initial_value (s.identifier (word (codes "x") 31))) ∷ []))) ∷
    (s.inner_statement
    (s.compound (at 34)
    (s.block_of
    ((s.local_declaration
    (local (base 36 (B.Words (T.Int ∷ [])))
    (set_to (plain (word (codes "x") 40)) (s.initial_value (s.identifier (word (codes "a") 44))) ∷ []))) ∷
    (s.inner_statement
    (s.action (s.assign Se.Plain (at 49) (s.identifier (word (codes "a") 47)) (s.identifier (word (codes "x") 51))))) ∷
    [])))) ∷
    (s.inner_statement (s.return_value (at 56) (s.identifier (word (codes "x") 63)))) ∷
    []))) ∷
    []) ≡
    Some
    (record {
      structs = [];
      functions = record {
        name = codes "f";
        params = an_int_local (codes "a") None ∷ [];
        result = Some (AWord I32);
        locals = an_int_local (codes "x") None ∷ an_int_local (codes "x") None ∷ [];
        body = Some
            (block
            ((t.declaration_with (V.Local 1) (t.initial_value (read 1))) ∷
            (block (t.declaration_with (V.Local 2) (t.initial_value (read 0)) ∷ t.action (t.assign (local_place 0) (read 2)) ∷ [])) ∷
            (t.return_value (read 1)) ∷
            []));
      } ∷
          [];
      objects = record { name = codes "x"; shape = AWord I32; constant = false; addressable = false; owner = None; initial = zero I32 ∷ [] } ∷ [];
    })
hiding = refl

-- void f(int n) { while (n) do n--; while (n > 1); for (;;) { if (n) break; } }
-- loops are numbered in the order in which they begin
loops : program (
    s.function_definition (alone (base 1 (B.Words (T.Void ∷ [])))) (word (codes "f") 6)
    (s.parameters (parameter (base 8 (B.Words (T.Int ∷ []))) (word (codes "n") 12) ∷ []))
    (s.compound (at 15)
    (s.block_of
    ((s.inner_statement
    (s.while_loop (at 17) (s.identifier (word (codes "n") 24))
    (s.do_loop (at 27)
    (s.action (s.step_after St.Down (at 31) (s.identifier (word (codes "n") 30))))
    (s.binary I.Greater (at 44) (s.identifier (word (codes "n") 42)) (int 1 46))))) ∷
    (s.inner_statement
    (s.for_loop (at 50) s.starts_with_nothing None []
    (s.compound (at 59)
    (s.block_of
    ((s.inner_statement (s.if_statement (at 61) (s.identifier (word (codes "n") 65)) (s.break_statement (at 68)))) ∷ []))))) ∷
    []))) ∷
    []) ≡
    Some
    (record {
      structs = [];
      functions = record {
        name = codes "f";
        params = an_int_local (codes "n") None ∷ [];
        result = None;
        locals = [];
        body = Some
            (block
            ((t.while_loop 1 (read 0) (t.do_loop 2 (t.action (t.step DownAfter (local_place 0))) (t.binary O.Gt (read 0) (number 1)))) ∷
            (t.for_loop 3 t.no_statements None [] (block (t.if_statement (read 0) t.break_statement ∷ []))) ∷
            []));
      } ∷
          [];
      objects = [];
    })
loops = refl

-- enum { A, B = 5, C }; int f(void) { return A + C; }
enumerators : program (
    s.tag_declaration
    (with_members (base 1 (B.Enum None))
    (s.constants (enumerator (word (codes "A") 8) ∷ enumerator_of (word (codes "B") 11) (int 5 15) ∷ enumerator (word (codes "C") 18) ∷ []))) ∷
    s.function_definition (alone (base 23 (B.Words (T.Int ∷ [])))) (word (codes "f") 27)
    s.only_void
    (s.compound (at 35)
    (s.block_of
    ((s.inner_statement
    (s.return_value (at 37) (s.binary I.Add (at 46) (s.identifier (word (codes "A") 44)) (s.identifier (word (codes "C") 48))))) ∷
    []))) ∷
    []) ≡
    Some
    (record {
      structs = [];
      functions = record {
        name = codes "f";
        params = [];
        result = Some (AWord I32);
        locals = [];
        body = Some (block ((t.return_value (t.binary O.Add (number 0) (number 6))) ∷ []));
      } ∷
          [];
      objects = [];
    })
enumerators = refl
