-- Small files, and the program that each is, computed: objects, arrays, structs and pointers.
use Rattle.std.proofs.Common.{◌≡◌, [], ◌∷◌, Some, None, replicate, true, false, pos, refl, codes}
use Rattle.rvt_num.specs.declared.kinds.Kind.TheVariants.{Bool, I8, U8, I32, U64}
use Rattle.rvt_num.specs.declared.operations.BinOp.TheVariants as O
use Rattle.rvt_tree.specs.declared.expressions.Variable.TheVariants as V
use Rattle.rvt_tree.specs.declared.types.Pointee.TheVariants as P
use Rattle.rvt_tree.specs.Syntax as t
use Rattle.c_types.specs.Layout.{AWord, APointer, AnArray, AStruct}
use Rattle.c_syntax.specs.Syntax as s
use Rattle.c_syntax.specs.declared.bases.Specifier.TheVariants as B
use Rattle.c_syntax.specs.declared.bases.TypeWord.TheVariants as T
use Rattle.c_syntax.specs.declared.operators.Infix.TheVariants as I
use Rattle.c_syntax.specs.declared.operators.Setting.TheVariants as Se
use Rattle.c_syntax.specs.declared.operators.Prefix.TheVariants as Pre
use Rattle.file_typing.proofs.Written.{at, word, int, base, constant_base, star, plain, declarator, bare, set_to, parameter, parameter_of, local, alone, with_members, line, program}
use Rattle.file_typing.proofs.TypedTrees.{number, local_place, object_place, read, arguments, block, an_int_local, value, zero}

-- void inc(int *p){ *p = *p + 1; } int f(int a){ int x = a; inc(&x); return x; }
-- a local whose address is taken is an object of its function
address_taken : program (
    s.function_definition (alone (base 1 (B.Words (T.Void ∷ [])))) (word (codes "inc") 6)
    (s.parameters (parameter_of (base 10 (B.Words (T.Int ∷ []))) (Some (star 14)) (Some (word (codes "p") 15)) s.no_dimensions ∷ []))
    (s.compound (at 17)
    (s.block_of
    ((s.inner_statement
    (s.action
    (s.assign Se.Plain (at 22) (s.unary Pre.Target (at 19) (s.identifier (word (codes "p") 20)))
    (s.binary I.Add (at 27) (s.unary Pre.Target (at 24) (s.identifier (word (codes "p") 25))) (int 1 29))))) ∷
    []))) ∷
    s.function_definition (alone (base 34 (B.Words (T.Int ∷ [])))) (word (codes "f") 38)
    (s.parameters (parameter (base 40 (B.Words (T.Int ∷ []))) (word (codes "a") 44) ∷ []))
    (s.compound (at 46)
    (s.block_of
    ((s.local_declaration
    (local (base 48 (B.Words (T.Int ∷ [])))
    (set_to (plain (word (codes "x") 52)) (s.initial_value (s.identifier (word (codes "a") 56))) ∷ []))) ∷
    (s.inner_statement
    (s.action
    (s.evaluate
    (s.call (word (codes "inc") 59)
    (s.arguments_of ((s.unary Pre.Address (at 63) (s.identifier (word (codes "x") 64))) ∷ [])))))) ∷
    (s.inner_statement (s.return_value (at 68) (s.identifier (word (codes "x") 75)))) ∷
    []))) ∷
    []) ≡
    Some
    (record {
      structs = [];
      functions = record {
        name = codes "inc";
        params = record { name = codes "p"; shape = APointer (P.Word I32) false; constant = false; object = None } ∷ [];
        result = None;
        locals = [];
        body = Some
            (block
            ((t.action
            (t.assign (t.dereference (read 0) (P.Word I32))
            (t.binary O.Add (t.value_at (t.dereference (read 0) (P.Word I32))) (number 1)))) ∷
            []));
      } ∷
          record {
            name = codes "f";
            params = an_int_local (codes "a") None ∷ [];
            result = Some (AWord I32);
            locals = an_int_local (codes "x") (Some 0) ∷ [];
            body = Some
                (block
                ((t.declaration_with (V.Object 0) (t.initial_value (read 0))) ∷
                (t.action (t.call_void 0 (arguments (t.address (object_place 0) ∷ [])))) ∷
                (t.return_value (t.value_at (object_place 0))) ∷
                []));
          } ∷
          [];
      objects = record { name = codes "x"; shape = AWord I32; constant = false; addressable = true; owner = Some 1; initial = zero I32 ∷ [] } ∷ [];
    })
address_taken = refl

-- void h(int *p) { } void f(int a) { int b; int c; h(&c); h(&a); } int g; void k(void) { int d[2]; h(d); h(&g); }
-- the objects of the file come first, and then the locals, by function and by declaration
objects_in_order : program (
    s.function_definition (alone (base 1 (B.Words (T.Void ∷ [])))) (word (codes "h") 6)
    (s.parameters (parameter_of (base 8 (B.Words (T.Int ∷ []))) (Some (star 12)) (Some (word (codes "p") 13)) s.no_dimensions ∷ []))
    (s.compound (at 16) s.no_items) ∷
    s.function_definition (alone (base 20 (B.Words (T.Void ∷ [])))) (word (codes "f") 25)
    (s.parameters (parameter (base 27 (B.Words (T.Int ∷ []))) (word (codes "a") 31) ∷ []))
    (s.compound (at 34)
    (s.block_of
    ((s.local_declaration (local (base 36 (B.Words (T.Int ∷ []))) (bare (plain (word (codes "b") 40)) ∷ []))) ∷
    (s.local_declaration (local (base 43 (B.Words (T.Int ∷ []))) (bare (plain (word (codes "c") 47)) ∷ []))) ∷
    (s.inner_statement
    (s.action
    (s.evaluate
    (s.call (word (codes "h") 50) (s.arguments_of ((s.unary Pre.Address (at 52) (s.identifier (word (codes "c") 53))) ∷ [])))))) ∷
    (s.inner_statement
    (s.action
    (s.evaluate
    (s.call (word (codes "h") 57) (s.arguments_of ((s.unary Pre.Address (at 59) (s.identifier (word (codes "a") 60))) ∷ [])))))) ∷
    []))) ∷
    s.object_definition (alone (base 66 (B.Words (T.Int ∷ [])))) (bare (plain (word (codes "g") 70)) ∷ []) ∷
    s.function_definition (alone (base 73 (B.Words (T.Void ∷ [])))) (word (codes "k") 78)
    s.only_void
    (s.compound (at 86)
    (s.block_of
    ((s.local_declaration
    (local (base 88 (B.Words (T.Int ∷ [])))
    (bare (declarator None (word (codes "d") 92) (s.dimensions_of (s.sized (at 93) (int 2 94) ∷ []))) ∷ []))) ∷
    (s.inner_statement
    (s.action (s.evaluate (s.call (word (codes "h") 98) (s.arguments_of ((s.identifier (word (codes "d") 100)) ∷ [])))))) ∷
    (s.inner_statement
    (s.action
    (s.evaluate
    (s.call (word (codes "h") 104)
    (s.arguments_of ((s.unary Pre.Address (at 106) (s.identifier (word (codes "g") 107))) ∷ [])))))) ∷
    []))) ∷
    []) ≡
    Some
    (record {
      structs = [];
      functions = record {
        name = codes "h";
        params = record { name = codes "p"; shape = APointer (P.Word I32) false; constant = false; object = None } ∷ [];
        result = None;
        locals = [];
        body = Some (block []);
      } ∷
          record {
            name = codes "f";
            params = an_int_local (codes "a") (Some 1) ∷ [];
            result = None;
            locals = an_int_local (codes "b") None ∷ an_int_local (codes "c") (Some 2) ∷ [];
            body = Some
                (block
                ((t.declaration (V.Local 1)) ∷
                (t.declaration (V.Object 2)) ∷
                (t.action (t.call_void 0 (arguments (t.address (object_place 2) ∷ [])))) ∷
                (t.action (t.call_void 0 (arguments (t.address (object_place 1) ∷ [])))) ∷
                []));
          } ∷
          record {
            name = codes "k";
            params = [];
            result = None;
            locals = record { name = codes "d"; shape = AnArray (AWord I32) 2; constant = false; object = Some 3 } ∷ [];
            body = Some
                (block
                ((t.declaration (V.Object 3)) ∷
                (t.action (t.call_void 0 (arguments (t.decay (object_place 3) ∷ [])))) ∷
                (t.action (t.call_void 0 (arguments (t.address (object_place 0) ∷ [])))) ∷
                []));
          } ∷
          [];
      objects = record { name = codes "g"; shape = AWord I32; constant = false; addressable = true; owner = None; initial = zero I32 ∷ [] } ∷
          record { name = codes "a"; shape = AWord I32; constant = false; addressable = true; owner = Some 1; initial = zero I32 ∷ [] } ∷
          record { name = codes "c"; shape = AWord I32; constant = false; addressable = true; owner = Some 1; initial = zero I32 ∷ [] } ∷
          record {
            name = codes "d";
            shape = AnArray (AWord I32) 2;
            constant = false;
            addressable = true;
            owner = Some 2;
            initial = zero I32 ∷ zero I32 ∷ [];
          } ∷
          [];
    })
objects_in_order = refl

-- const int K = 3; int f(int x){ return x * K; }
constant_object : program (
    s.object_definition (alone (constant_base 1 (B.Words (T.Int ∷ []))))
    (set_to (plain (word (codes "K") 11)) (s.initial_value (int 3 15)) ∷ []) ∷
    s.function_definition (alone (base 18 (B.Words (T.Int ∷ [])))) (word (codes "f") 22)
    (s.parameters (parameter (base 24 (B.Words (T.Int ∷ []))) (word (codes "x") 28) ∷ []))
    (s.compound (at 30)
    (s.block_of
    ((s.inner_statement
    (s.return_value (at 32) (s.binary I.Multiply (at 41) (s.identifier (word (codes "x") 39)) (s.identifier (word (codes "K") 43))))) ∷
    []))) ∷
    []) ≡
    Some
    (record {
      structs = [];
      functions = record {
        name = codes "f";
        params = an_int_local (codes "x") None ∷ [];
        result = Some (AWord I32);
        locals = [];
        body = Some (block ((t.return_value (t.binary O.Mul (read 0) (t.value_at (object_place 0)))) ∷ []));
      } ∷
          [];
      objects = record { name = codes "K"; shape = AWord I32; constant = true; addressable = false; owner = None; initial = value I32 3 ∷ [] } ∷
          [];
    })
constant_object = refl

-- struct A; struct B { int x; }; struct A { int y[2]; char c; }; struct A s[2] = {{{1}, 2}, {{3, 4}}}; int a[] = {5, 6};
-- structs are numbered in the order of their bodies
contents : program (
    s.tag_declaration (alone (base 1 (B.Struct (Some (word (codes "A") 8))))) ∷
    s.tag_declaration
    (with_members (base 11 (B.Struct (Some (word (codes "B") 18))))
    (s.fields (line (base 22 (B.Words (T.Int ∷ []))) (plain (word (codes "x") 26) ∷ []) ∷ []))) ∷
    s.tag_declaration
    (with_members (base 32 (B.Struct (Some (word (codes "A") 39))))
    (s.fields
    (line (base 43 (B.Words (T.Int ∷ [])))
    (declarator None (word (codes "y") 47) (s.dimensions_of (s.sized (at 48) (int 2 49) ∷ [])) ∷ []) ∷
    line (base 53 (B.Words (T.Char ∷ []))) (plain (word (codes "c") 58) ∷ []) ∷
    []))) ∷
    s.object_definition (alone (base 64 (B.Struct (Some (word (codes "A") 71)))))
    (set_to
    (declarator None (word (codes "s") 73) (s.dimensions_of (s.sized (at 74) (int 2 75) ∷ [])))
    (s.braces (at 80)
    (s.initializers_of
    ((s.braces (at 81)
    (s.initializers_of
    ((s.braces (at 82) (s.initializers_of ((s.initial_value (int 1 83)) ∷ []))) ∷ (s.initial_value (int 2 87)) ∷ []))) ∷
    (s.braces (at 91)
    (s.initializers_of
    ((s.braces (at 92) (s.initializers_of ((s.initial_value (int 3 93)) ∷ (s.initial_value (int 4 96)) ∷ []))) ∷ []))) ∷
    []))) ∷
    []) ∷
    s.object_definition (alone (base 102 (B.Words (T.Int ∷ []))))
    (set_to
    (declarator None (word (codes "a") 106) (s.dimensions_of (s.unsized (at 107) ∷ [])))
    (s.braces (at 112) (s.initializers_of ((s.initial_value (int 5 113)) ∷ (s.initial_value (int 6 116)) ∷ []))) ∷
    []) ∷
    []) ≡
    Some
    (record {
      structs = record { tag = codes "B"; tagged = true; complete = true; fields = (codes "x", AWord I32) ∷ [] } ∷
          record { tag = codes "A"; tagged = true; complete = true; fields = (codes "y", AnArray (AWord I32) 2) ∷ (codes "c", AWord I8) ∷ [] } ∷
          [];
      functions = [];
      objects = record {
        name = codes "s";
        shape = AnArray (AStruct 1) 2;
        constant = false;
        addressable = false;
        owner = None;
        initial = value I32 1 ∷ zero I32 ∷ value I8 2 ∷ value I32 3 ∷ value I32 4 ∷ zero I8 ∷ [];
      } ∷
          record {
            name = codes "a";
            shape = AnArray (AWord I32) 2;
            constant = false;
            addressable = false;
            owner = None;
            initial = value I32 5 ∷ value I32 6 ∷ [];
          } ∷
          [];
    })
contents = refl

-- typedef struct { uint8_t buf[16]; uint8_t head; uint8_t tail; } Queue; static Queue q; bool push(uint8_t b) { uint8_t next = (q.head + 1) % 16; if (next == q.tail) return false; q.buf[q.head] = b; q.head = next; return true; }
queue : program (
    s.type_definition
    (with_members (base 9 (B.Struct None))
    (s.fields
    (line (base 18 (B.Named (word (codes "uint8_t") 18)))
    (declarator None (word (codes "buf") 26) (s.dimensions_of (s.sized (at 29) (int 16 30) ∷ [])) ∷ []) ∷
    line (base 35 (B.Named (word (codes "uint8_t") 35))) (plain (word (codes "head") 43) ∷ []) ∷
    line (base 49 (B.Named (word (codes "uint8_t") 49))) (plain (word (codes "tail") 57) ∷ []) ∷
    [])))
    (plain (word (codes "Queue") 65) ∷ []) ∷
    s.object_definition (alone (base 79 (B.Named (word (codes "Queue") 79)))) (bare (plain (word (codes "q") 85)) ∷ []) ∷
    s.function_definition (alone (base 88 (B.Named (word (codes "bool") 88))))
    (word (codes "push") 93)
    (s.parameters (parameter (base 98 (B.Named (word (codes "uint8_t") 98))) (word (codes "b") 106) ∷ []))
    (s.compound (at 109)
    (s.block_of
    ((s.local_declaration
    (local (base 111 (B.Named (word (codes "uint8_t") 111)))
    (set_to (plain (word (codes "next") 119))
    (s.initial_value
    (s.binary I.Remainder (at 139)
    (s.parenthesized (at 126)
    (s.binary I.Add (at 134)
    (s.postfix (s.identifier (word (codes "q") 127))
    (s.dot (at 128) (word (codes "head") 129) s.no_suffixes))
    (int 1 136)))
    (int 16 141))) ∷
    []))) ∷
    (s.inner_statement
    (s.if_statement (at 145)
    (s.binary I.Equal (at 154) (s.identifier (word (codes "next") 149))
    (s.postfix (s.identifier (word (codes "q") 157)) (s.dot (at 158) (word (codes "tail") 159) s.no_suffixes)))
    (s.return_value (at 165) (s.identifier (word (codes "false") 172))))) ∷
    (s.inner_statement
    (s.action
    (s.assign Se.Plain (at 193)
    (s.postfix (s.identifier (word (codes "q") 179))
    (s.index (at 184)
    (s.postfix (s.identifier (word (codes "q") 185)) (s.dot (at 186) (word (codes "head") 187) s.no_suffixes))
    (s.dot (at 180) (word (codes "buf") 181) s.no_suffixes)))
    (s.identifier (word (codes "b") 195))))) ∷
    (s.inner_statement
    (s.action
    (s.assign Se.Plain (at 205)
    (s.postfix (s.identifier (word (codes "q") 198)) (s.dot (at 199) (word (codes "head") 200) s.no_suffixes))
    (s.identifier (word (codes "next") 207))))) ∷
    (s.inner_statement (s.return_value (at 213) (s.identifier (word (codes "true") 220)))) ∷
    []))) ∷
    []) ≡
    Some
    (record {
      structs = record {
        tag = codes "Queue";
        tagged = false;
        complete = true;
        fields = (codes "buf", AnArray (AWord U8) 16) ∷ (codes "head", AWord U8) ∷ (codes "tail", AWord U8) ∷ [];
      } ∷
          [];
      functions = record {
        name = codes "push";
        params = record { name = codes "b"; shape = AWord U8; constant = false; object = None } ∷ [];
        result = Some (AWord Bool);
        locals = record { name = codes "next"; shape = AWord U8; constant = false; object = None } ∷ [];
        body = Some
            (block
            ((t.declaration_with (V.Local 1)
            (t.initial_value
            (t.cast U8
            (t.binary O.Rem
            (t.binary O.Add (t.cast I32 (t.value_at (t.member (object_place 0) 1 16))) (number 1))
            (number 16))))) ∷
            (t.if_statement
            (t.binary O.Eq (t.cast I32 (read 1)) (t.cast I32 (t.value_at (t.member (object_place 0) 2 17))))
            (t.return_value (t.cast Bool (number 0)))) ∷
            (t.action
            (t.assign (t.element (t.member (object_place 0) 0 0) (t.value_at (t.member (object_place 0) 1 16)) 16 1) (read 0))) ∷
            (t.action (t.assign (t.member (object_place 0) 1 16) (read 1))) ∷
            (t.return_value (t.cast Bool (number 1))) ∷
            []));
      } ∷
          [];
      objects = record { name = codes "q"; shape = AStruct 0; constant = false; addressable = false; owner = None; initial = replicate 18 (zero U8) } ∷
          [];
    })
queue = refl

-- int g(void); int f(void) { return sizeof g(); }
-- an operand of `sizeof` is no call; a function without a body stands last
size_alone : program (
    s.function_prototype (alone (base 1 (B.Words (T.Int ∷ [])))) (word (codes "g") 5) s.only_void ∷
    s.function_definition (alone (base 14 (B.Words (T.Int ∷ [])))) (word (codes "f") 18)
    s.only_void
    (s.compound (at 26)
    (s.block_of ((s.inner_statement (s.return_value (at 28) (s.sizeof_expression (at 35) (s.call (word (codes "g") 42) s.no_arguments)))) ∷ []))) ∷
    []) ≡
    Some
    (record {
      structs = [];
      functions = record {
        name = codes "f";
        params = [];
        result = Some (AWord I32);
        locals = [];
        body = Some (block ((t.return_value (t.cast I32 (t.constant (record { kind = U64; value = pos 4 })))) ∷ []));
      } ∷
          record { name = codes "g"; params = []; result = Some (AWord I32); locals = []; body = None } ∷
          [];
      objects = [];
    })
size_alone = refl

-- typedef const int T[2]; void f(T a, int b[3], const char c[]);
array_parameters : program (
    s.type_definition (alone (constant_base 9 (B.Words (T.Int ∷ []))))
    (declarator None (word (codes "T") 19) (s.dimensions_of (s.sized (at 20) (int 2 21) ∷ [])) ∷ []) ∷
    s.function_prototype (alone (base 25 (B.Words (T.Void ∷ [])))) (word (codes "f") 30)
    (s.parameters
    (parameter (base 32 (B.Named (word (codes "T") 32))) (word (codes "a") 34) ∷
    parameter_of (base 37 (B.Words (T.Int ∷ []))) None (Some (word (codes "b") 41)) (s.dimensions_of (s.sized (at 42) (int 3 43) ∷ [])) ∷
    parameter_of (constant_base 47 (B.Words (T.Char ∷ []))) None (Some (word (codes "c") 58)) (s.dimensions_of (s.unsized (at 59) ∷ [])) ∷
    [])) ∷
    []) ≡
    Some
    (record {
      structs = [];
      functions = record {
        name = codes "f";
        params = record { name = codes "a"; shape = APointer (P.Word I32) true; constant = false; object = None } ∷
            record { name = codes "b"; shape = APointer (P.Word I32) false; constant = false; object = None } ∷
            record { name = codes "c"; shape = APointer (P.Word I8) true; constant = false; object = None } ∷
            [];
        result = None;
        locals = [];
        body = None;
      } ∷
          [];
      objects = [];
    })
array_parameters = refl

-- int f(int k) { int a[2] = {k}; a[k] = k; return a[0]; }
-- an array that is only indexed is no object
indexed_array : program (
    s.function_definition (alone (base 1 (B.Words (T.Int ∷ [])))) (word (codes "f") 5)
    (s.parameters (parameter (base 7 (B.Words (T.Int ∷ []))) (word (codes "k") 11) ∷ []))
    (s.compound (at 14)
    (s.block_of
    ((s.local_declaration
    (local (base 16 (B.Words (T.Int ∷ [])))
    (set_to
    (declarator None (word (codes "a") 20) (s.dimensions_of (s.sized (at 21) (int 2 22) ∷ [])))
    (s.braces (at 27) (s.initializers_of ((s.initial_value (s.identifier (word (codes "k") 28))) ∷ []))) ∷
    []))) ∷
    (s.inner_statement
    (s.action
    (s.assign Se.Plain (at 37)
    (s.postfix (s.identifier (word (codes "a") 32)) (s.index (at 33) (s.identifier (word (codes "k") 34)) s.no_suffixes))
    (s.identifier (word (codes "k") 39))))) ∷
    (s.inner_statement
    (s.return_value (at 42) (s.postfix (s.identifier (word (codes "a") 49)) (s.index (at 50) (int 0 51) s.no_suffixes)))) ∷
    []))) ∷
    []) ≡
    Some
    (record {
      structs = [];
      functions = record {
        name = codes "f";
        params = an_int_local (codes "k") None ∷ [];
        result = Some (AWord I32);
        locals = record { name = codes "a"; shape = AnArray (AWord I32) 2; constant = false; object = None } ∷ [];
        body = Some
            (block
            ((t.declaration_with (V.Local 1) (t.braces (t.initializer (t.initial_value (read 0)) 1 t.no_initializers))) ∷
            (t.action (t.assign (t.element (local_place 1) (read 0) 2 1) (read 0))) ∷
            (t.return_value (t.value_at (t.element (local_place 1) (number 0) 2 1))) ∷
            []));
      } ∷
          [];
      objects = [];
    })
indexed_array = refl

-- void swap(int *p, int *q){ int t = *p; *p = *q; *q = t; }
swap : program (
    s.function_definition (alone (base 1 (B.Words (T.Void ∷ [])))) (word (codes "swap") 6)
    (s.parameters
    (parameter_of (base 11 (B.Words (T.Int ∷ []))) (Some (star 15)) (Some (word (codes "p") 16)) s.no_dimensions ∷
    parameter_of (base 19 (B.Words (T.Int ∷ []))) (Some (star 23)) (Some (word (codes "q") 24)) s.no_dimensions ∷
    []))
    (s.compound (at 26)
    (s.block_of
    ((s.local_declaration
    (local (base 28 (B.Words (T.Int ∷ [])))
    (set_to (plain (word (codes "t") 32)) (s.initial_value (s.unary Pre.Target (at 36) (s.identifier (word (codes "p") 37)))) ∷
    []))) ∷
    (s.inner_statement
    (s.action
    (s.assign Se.Plain (at 43) (s.unary Pre.Target (at 40) (s.identifier (word (codes "p") 41)))
    (s.unary Pre.Target (at 45) (s.identifier (word (codes "q") 46)))))) ∷
    (s.inner_statement
    (s.action
    (s.assign Se.Plain (at 52) (s.unary Pre.Target (at 49) (s.identifier (word (codes "q") 50)))
    (s.identifier (word (codes "t") 54))))) ∷
    []))) ∷
    []) ≡
    Some
    (record {
      structs = [];
      functions = record {
        name = codes "swap";
        params = record { name = codes "p"; shape = APointer (P.Word I32) false; constant = false; object = None } ∷
            record { name = codes "q"; shape = APointer (P.Word I32) false; constant = false; object = None } ∷
            [];
        result = None;
        locals = an_int_local (codes "t") None ∷ [];
        body = Some
            (block
            ((t.declaration_with (V.Local 2) (t.initial_value (t.value_at (t.dereference (read 0) (P.Word I32))))) ∷
            (t.action (t.assign (t.dereference (read 0) (P.Word I32)) (t.value_at (t.dereference (read 1) (P.Word I32))))) ∷
            (t.action (t.assign (t.dereference (read 1) (P.Word I32)) (read 2))) ∷
            []));
      } ∷
          [];
      objects = [];
    })
swap = refl

-- int f(int *p) { int *q = 0; if (p == NULL) q = p; return !q; }
null_pointer : program (
    s.function_definition (alone (base 1 (B.Words (T.Int ∷ [])))) (word (codes "f") 5)
    (s.parameters (parameter_of (base 7 (B.Words (T.Int ∷ []))) (Some (star 11)) (Some (word (codes "p") 12)) s.no_dimensions ∷ []))
    (s.compound (at 15)
    (s.block_of
    ((s.local_declaration
    (local (base 17 (B.Words (T.Int ∷ [])))
    (set_to (declarator (Some (star 21)) (word (codes "q") 22) s.no_dimensions) (s.initial_value (int 0 26)) ∷ []))) ∷
    (s.inner_statement
    (s.if_statement (at 29)
    (s.binary I.Equal (at 35) (s.identifier (word (codes "p") 33)) (s.identifier (word (codes "NULL") 38)))
    (s.action (s.assign Se.Plain (at 46) (s.identifier (word (codes "q") 44)) (s.identifier (word (codes "p") 48)))))) ∷
    (s.inner_statement (s.return_value (at 51) (s.unary Pre.Not (at 58) (s.identifier (word (codes "q") 59))))) ∷
    []))) ∷
    []) ≡
    Some
    (record {
      structs = [];
      functions = record {
        name = codes "f";
        params = record { name = codes "p"; shape = APointer (P.Word I32) false; constant = false; object = None } ∷ [];
        result = Some (AWord I32);
        locals = record { name = codes "q"; shape = APointer (P.Word I32) false; constant = false; object = None } ∷ [];
        body = Some
            (block
            ((t.declaration_with (V.Local 1) (t.initial_value t.null_pointer)) ∷
            (t.if_statement (t.equal_pointers (read 0) t.null_pointer) (t.action (t.assign (local_place 1) (read 0)))) ∷
            (t.return_value (t.negation (read 1))) ∷
            []));
      } ∷
          [];
      objects = [];
    })
null_pointer = refl
