-- Runs of small programs, computed.
use Rattle.std.proofs.Common.{◌≡◌, ℕ, List, [], ◌∷◌, Option, Some, None, true, false, pos, negsuc, refl, ◌++◌, replicate, Box, Global}
use Rattle.rvt_num.specs.Number.{Number}
use Rattle.rvt_num.specs.declared.kinds.Kind.TheVariants.{Bool, U8, I32, U32}
use Rattle.rvt_num.specs.declared.operations.BinOp.{BinOp}
use Rattle.rvt_num.specs.declared.operations.BinOp.TheVariants as B
use Rattle.rvt_num.specs.declared.values.Trap.TheVariants.{Quotient, Shift, NoReturn}
use Rattle.rvt_num.specs.declared.values.Trap.TheVariants as T
use Rattle.rvt_tree.specs.declared.expressions.Lvalue.{Lvalue}
use Rattle.rvt_tree.specs.declared.types.Pointee.TheVariants as P
use Rattle.rvt_tree.specs.declared.programs.Object.{Object}
use Rattle.rvt_tree.specs.declared.statements.Stmts.{Stmts}
use Rattle.rvt_tree.specs.declared.statements.Act.TheVariants as A
use Rattle.rvt_tree.specs.declared.statements.Acts.TheVariants as As
use Rattle.rvt_tree.specs.declared.statements.Bump.TheVariants.{UpAfter, DownAfter}
use Rattle.rvt_tree.specs.declared.statements.Label.TheVariants.{Case, Default}
use Rattle.rvt_tree.specs.declared.statements.Labels.TheVariants as Ls
use Rattle.rvt_tree.specs.declared.statements.Groups.TheVariants as G
use Rattle.rvt_tree.specs.declared.programs.StructDef.{StructDef}
use Rattle.rvt_tree.specs.declared.statements.Init.TheVariants as I
use Rattle.rvt_num.specs.declared.values.Value.{Value}
use Rattle.rvt_num.specs.declared.values.Value.TheVariants.{Num, Null, At}
use Rattle.rvt_tree.specs.declared.types.CType.TheVariants as C
use Rattle.rvt_tree.specs.declared.expressions.Expr.{Expr}
use Rattle.rvt_tree.specs.declared.expressions.Expr.TheVariants as E
use Rattle.rvt_tree.specs.declared.expressions.Exprs.TheVariants as Es
use Rattle.rvt_tree.specs.declared.expressions.Lvalue.TheVariants as L
use Rattle.rvt_tree.specs.declared.expressions.Variable.TheVariants as V
use Rattle.rvt_tree.specs.declared.statements.Stmt.{Stmt}
use Rattle.rvt_tree.specs.declared.statements.Stmt.TheVariants as S
use Rattle.rvt_tree.specs.declared.statements.Stmts.TheVariants as Ss
use Rattle.rvt_tree.specs.declared.programs.Program.{Program}
use Rattle.rvt_tree.specs.declared.programs.Function.{Function}
use Rattle.rvt_tree.specs.declared.programs.Local.{Local}
use Rattle.rvt_tree.specs.Views.{stmt_view}
use Rattle.c_meaning.specs.Outcomes.{state, Done, Normally}
use Rattle.c_meaning.specs.Statements.{meaning}
use Rattle.c_meaning.specs.Runs.{run, running, Stop, Ended, IsCut, IsDeep, ByReturn, ByTrap}

module _ (p : Box (Unit {0}) Global) where
  abbrev int : ℕ → Expr
  int n = E.Constant (record { kind = I32; value = pos n })

  abbrev operation : BinOp → Expr → Expr → Expr
  operation op a b = E.Binary' op p a p b

  abbrev local : ℕ → Expr
  local n = E.Read' p (L.Variable (V.Local n))

  abbrev block : List Stmt → Stmts
  block [] = Ss.End
  block (s ∷ rest) = Ss.More' s p (block rest)

  abbrev call : ℕ → Expr → Expr
  call function argument = E.Call' function p (Es.More' argument p Es.End)

  abbrev an_int : Local
  an_int = record { name = []; ty = C.Word I32; constant = false; object = None }

  abbrev int_function : List Local → List Local → List Stmt → Function
  int_function params locals body = record { name = []; params = params; result = Some (C.Word I32); locals = locals; body = Some (S.Block' p (block body)) }

  abbrev program : List Function → Program
  program functions = record { structs = record { list = [] }; functions = functions; table = record { objects = [] } }

  abbrev number : ℕ → Value
  number n = Num (record { kind = I32; value = pos n })

  abbrev returns : ℕ → ℕ → Stop
  returns n steps = Ended (ByReturn (Some (record { kind = I32; value = pos n })) []) steps

  -- int f(int n){ if (n <= 1) return 1; return n * f(n - 1); }
  abbrev factorial : Function
  factorial =
      int_function (an_int ∷ []) []
      (S.If' (operation B.Le (local 0) (int 1)) p (S.ReturnValue (int 1))
      ∷ S.ReturnValue (operation B.Mul (local 0) (call 0 (operation B.Sub (local 0) (int 1))))
      ∷ [])

  five : run (program (factorial ∷ [])) 0 (number 5 ∷ []) [] 100000 10000 ≡ returns 120 5
  five = refl

  five_steps : run (program (factorial ∷ [])) 0 (number 5 ∷ []) [] 5 5 ≡ returns 120 5
  five_steps = refl

  four_steps : run (program (factorial ∷ [])) 0 (number 5 ∷ []) [] 4 10000 ≡ IsCut
  four_steps = refl

  four_deep : run (program (factorial ∷ [])) 0 (number 5 ∷ []) [] 100 4 ≡ IsDeep
  four_deep = refl

  one : run (program (factorial ∷ [])) 0 (number 1 ∷ []) [] 1 10000 ≡ returns 1 1
  one = refl

  -- int f(int n){ return f(n); }
  abbrev endless : Function
  endless = int_function (an_int ∷ []) [] (S.ReturnValue (call 0 (local 0)) ∷ [])

  deep : run (program (endless ∷ [])) 0 (number 0 ∷ []) [] 1000 200 ≡ IsDeep
  deep = refl

  cut : run (program (endless ∷ [])) 0 (number 0 ∷ []) [] 20 100 ≡ IsCut
  cut = refl

  -- int f(int a){ return a / -1; }
  quotient : run (program (int_function (an_int ∷ []) [] (S.ReturnValue (operation B.Div (local 0) (E.Minus' p (int 1))) ∷ []) ∷ [])) 0 (Num (record { kind = I32; value = negsuc 2147483647 }) ∷ []) [] 100 100 ≡ Ended (ByTrap Quotient) 1
  quotient = refl

  -- int f(int a, int b){ return (1 << a) / b; }
  shift : run (program (int_function (an_int ∷ an_int ∷ []) [] (S.ReturnValue (operation B.Div (operation B.Shl (int 1) (local 0)) (local 1)) ∷ []) ∷ [])) 0 (number 40 ∷ number 0 ∷ []) [] 100 100 ≡ Ended (ByTrap Shift) 1
  shift = refl

  -- int f(int a, unsigned b){ return a < b; }
  less : run (program (int_function (an_int ∷ an_int ∷ []) [] (S.ReturnValue (operation B.Lt (E.Cast' U32 p (local 0)) (local 1)) ∷ []) ∷ [])) 0 (Num (record { kind = I32; value = negsuc 0 }) ∷ Num (record { kind = U32; value = pos 1 }) ∷ []) [] 100 100 ≡ returns 0 1
  less = refl

  -- int f(int n){ int s = 0; int i; for (i = 0; i < n; i++) s += i; return s; }
  abbrev sum_below : Function
  sum_below =
      int_function (an_int ∷ []) (an_int ∷ an_int ∷ [])
      (S.DeclareWith (V.Local 1) (I.Value (int 0))
      ∷ S.Declare (V.Local 2)
      ∷ S.For' 1 p (block (S.Act (A.Assign (L.Variable (V.Local 2)) (int 0)) ∷ [])) (Some (operation B.Lt (local 2) (local 0)))
      (As.More' (A.Bump UpAfter (L.Variable (V.Local 2))) p As.End) p (S.Act (A.Update B.Add (L.Variable (V.Local 1)) I32 (local 2)))
      ∷ S.ReturnValue (local 1)
      ∷ [])

  sum_of_ten : run (program (sum_below ∷ [])) 0 (number 10 ∷ []) [] 100000 10 ≡ returns 45 12
  sum_of_ten = refl

  -- the end of a function that has to return
  no_return : run (program (int_function [] [] [] ∷ [])) 0 [] [] 1 1 ≡ Ended (ByTrap NoReturn) 1
  no_return = refl

  -- ---- with objects

  abbrev pointer_to_int : Local
  pointer_to_int = record { name = []; ty = C.Pointer (P.Word I32) false; constant = false; object = None }

  abbrev ints : ℕ → Option ℕ → Object
  ints n owner =
      record { name = []; ty = C.Array' p (C.Word I32) n; constant = false; addressable = true; owner = owner; initial = replicate n (number 0) }

  abbrev program_with : List Object → List Function → Program
  program_with objects functions = record { structs = record { list = [] }; functions = functions; table = record { objects = objects } }

  abbrev void_function : List Local → List Stmt → Function
  void_function params body = record { name = []; params = params; result = None; locals = []; body = Some (S.Block' p (block body)) }

  abbrev pointed : ℕ → Lvalue
  pointed n = L.Target' p (local n) (P.Word I32)

  -- void swap(int *p, int *q){ *p ^= *q; *q ^= *p; *p ^= *q; }
  abbrev swap : Function
  swap =
      void_function (pointer_to_int ∷ pointer_to_int ∷ [])
      (S.Act (A.Update B.Xor (pointed 0) I32 (E.Read' p (pointed 1)))
      ∷ S.Act (A.Update B.Xor (pointed 1) I32 (E.Read' p (pointed 0)))
      ∷ S.Act (A.Update B.Xor (pointed 0) I32 (E.Read' p (pointed 1)))
      ∷ [])

  swapped : run (program_with (ints 2 None ∷ []) (swap ∷ [])) 0 (At 0 0 ∷ At 0 1 ∷ []) (number 7 ∷ number 12 ∷ []) 10 10 ≡ Ended (ByReturn None (number 12 ∷ number 7 ∷ [])) 1
  swapped = refl

  -- one place for both is zeroed
  aliased : run (program_with (ints 2 None ∷ []) (swap ∷ [])) 0 (At 0 1 ∷ At 0 1 ∷ []) (number 7 ∷ number 12 ∷ []) 10 10 ≡ Ended (ByReturn None (number 7 ∷ number 0 ∷ [])) 1
  aliased = refl

  null : run (program_with (ints 2 None ∷ []) (swap ∷ [])) 0 (Null ∷ At 0 1 ∷ []) (number 7 ∷ number 12 ∷ []) 10 10 ≡ Ended (ByTrap T.Null) 1
  null = refl

  -- at the object's end no value begins
  past : run (program_with (ints 2 None ∷ []) (swap ∷ [])) 0 (At 0 2 ∷ At 0 1 ∷ []) (number 7 ∷ number 12 ∷ []) 10 10 ≡ Ended (ByTrap T.Place) 1
  past = refl

  -- int f(int *p, int k){ return p[k]; }
  abbrev indexed : Function
  indexed = int_function (pointer_to_int ∷ an_int ∷ []) [] (S.ReturnValue (E.Read' p (L.Indexed' p (local 0) p (local 1) (P.Word I32) 1)) ∷ [])

  second : run (program_with (ints 2 None ∷ []) (indexed ∷ [])) 0 (At 0 0 ∷ number 1 ∷ []) (number 7 ∷ number 12 ∷ []) 10 10 ≡ Ended (ByReturn (Some (record { kind = I32; value = pos 12 })) (number 7 ∷ number 12 ∷ [])) 1
  second = refl

  out_of_range : run (program_with (ints 2 None ∷ []) (indexed ∷ [])) 0 (At 0 0 ∷ number 3 ∷ []) (number 7 ∷ number 12 ∷ []) 10 10 ≡ Ended (ByTrap T.Range) 1
  out_of_range = refl

  -- void inc(int *p){ *p = *p + 1; }  int f(int a){ int x = a; inc(&x); return x; }
  abbrev inc : Function
  inc = void_function (pointer_to_int ∷ []) (S.Act (A.Assign (pointed 0) (operation B.Add (E.Read' p (pointed 0)) (int 1))) ∷ [])

  abbrev x : Lvalue
  x = L.Variable (V.Object 0)

  abbrev incremented : Function
  incremented =
      record {
        name = [];
        params = an_int ∷ [];
        result = Some (C.Word I32);
        locals = record { name = []; ty = C.Word I32; constant = false; object = Some 0 } ∷ [];
        body = Some (S.Block' p (block
            (S.DeclareWith (V.Object 0) (I.Value (local 0))
            ∷ S.Act (A.Call 0 (Es.More' (E.Address' p x) p Es.End))
            ∷ S.ReturnValue (E.Read' p x)
            ∷ [])));
      }

  abbrev one_int : ℕ → Object
  one_int owner = record { name = []; ty = C.Word I32; constant = false; addressable = true; owner = Some owner; initial = number 0 ∷ [] }

  -- the object's own cell is as before
  saved : run (program_with (one_int 1 ∷ []) (inc ∷ incremented ∷ [])) 1 (number 41 ∷ []) (number 5 ∷ []) 10 10 ≡ Ended (ByReturn (Some (record { kind = I32; value = pos 42 })) (number 5 ∷ [])) 2
  saved = refl

  -- int G = 4; void inc(int *p){ *p = *p + 1; }
  abbrev global : Object
  global = record { name = []; ty = C.Word I32; constant = false; addressable = true; owner = None; initial = number 4 ∷ [] }

  global_incremented : run (program_with (global ∷ []) (inc ∷ [])) 0 (At 0 0 ∷ []) (number 4 ∷ []) 100000 10000 ≡ Ended (ByReturn None (number 5 ∷ [])) 1
  global_incremented = refl

  global_past : run (program_with (global ∷ []) (inc ∷ [])) 0 (At 0 1 ∷ []) (number 4 ∷ []) 100000 10000 ≡ Ended (ByTrap T.Place) 1
  global_past = refl

  global_null : run (program_with (global ∷ []) (inc ∷ [])) 0 (Null ∷ []) (number 4 ∷ []) 100000 10000 ≡ Ended (ByTrap T.Null) 1
  global_null = refl

  -- ---- loops and `switch`

  sum_of_four : run (program (sum_below ∷ [])) 0 (number 4 ∷ []) [] 100000 10 ≡ returns 6 6
  sum_of_four = refl

  -- int f(int n){ do n--; while (n > 0); return n; }
  abbrev counted_down : Function
  counted_down =
      int_function (an_int ∷ []) []
      (S.DoWhile' 1 p (S.Act (A.Bump DownAfter (L.Variable (V.Local 0)))) (operation B.Gt (local 0) (int 0))
      ∷ S.ReturnValue (local 0)
      ∷ [])

  two_rounds : run (program (counted_down ∷ [])) 0 (number 2 ∷ []) [] 100000 10 ≡ returns 0 3
  two_rounds = refl

  -- int f(int n){ switch (n) { case 1: case 2: return 5; default: return 6; } }
  abbrev switched : Function
  switched =
      int_function (an_int ∷ []) []
      (S.Switch' (local 0) p
      (G.More' (Ls.More' (Case (record { kind = I32; value = pos 1 })) p (Ls.More' (Case (record { kind = I32; value = pos 2 })) p Ls.End)) (block (S.ReturnValue (int 5) ∷ [])) p
      (G.More' (Ls.More' Default p Ls.End) (block (S.ReturnValue (int 6) ∷ [])) p G.End))
      ∷ [])

  second_case : run (program (switched ∷ [])) 0 (number 2 ∷ []) [] 100000 10 ≡ returns 5 1
  second_case = refl

  default_case : run (program (switched ∷ [])) 0 (number 3 ∷ []) [] 100000 10 ≡ returns 6 1
  default_case = refl

  -- ---- a struct: typedef struct { uint8_t buf[16]; uint8_t head; uint8_t tail; } Queue; static Queue q;

  abbrev byte : ℕ → Value
  byte n = Num (record { kind = U8; value = pos n })

  abbrev queue_type : StructDef
  queue_type = record { tag = []; tagged = false; complete = true; fields = ([], C.Array' p (C.Word U8) 16) ∷ ([], C.Word U8) ∷ ([], C.Word U8) ∷ [] }

  abbrev queue : Object
  queue = record { name = []; ty = C.Struct 0; constant = false; addressable = false; owner = None; initial = replicate 18 (byte 0) }

  abbrev extra_bytes : Object
  extra_bytes = record { name = []; ty = C.Array' p (C.Word U8) 8; constant = false; addressable = true; owner = None; initial = replicate 8 (byte 0) }

  abbrev head : Lvalue
  head = L.Member' p (L.Variable (V.Object 0)) 1 16

  abbrev tail : Lvalue
  tail = L.Member' p (L.Variable (V.Object 0)) 2 17

  abbrev item : Lvalue → Lvalue
  item index = L.Element' p (L.Member' p (L.Variable (V.Object 0)) 0 0) p (E.Read' p index) 16 1

  abbrev as_int : Expr → Expr
  as_int e = E.Cast' I32 p e

  abbrev next_of : Lvalue → Expr
  next_of index = E.Cast' U8 p (operation B.Rem (operation B.Add (as_int (E.Read' p index)) (int 1)) (int 16))

  abbrev truth : ℕ → Stmt
  truth n = S.ReturnValue (E.Cast' Bool p (int n))

  -- bool push(uint8_t b) { uint8_t next = (q.head + 1) % SIZE; if (next == q.tail) return false; q.buf[q.head] = b; q.head = next; return true; }
  abbrev push : Function
  push =
      record {
        name = [];
        params = record { name = []; ty = C.Word U8; constant = false; object = None } ∷ [];
        result = Some (C.Word Bool);
        locals = record { name = []; ty = C.Word U8; constant = false; object = None } ∷ [];
        body = Some (S.Block' p (block
            (S.DeclareWith (V.Local 1) (I.Value (next_of head))
            ∷ S.If' (operation B.Eq (as_int (local 1)) (as_int (E.Read' p tail))) p (truth 0)
            ∷ S.Act (A.Assign (item head) (local 0))
            ∷ S.Act (A.Assign head (local 1))
            ∷ truth 1
            ∷ [])));
      }

  -- bool pop(uint8_t *out) { if (q.head == q.tail) return false; *out = q.buf[q.tail]; q.tail = (q.tail + 1) % SIZE; return true; }
  abbrev pop : Function
  pop =
      record {
        name = [];
        params = record { name = []; ty = C.Pointer (P.Word U8) false; constant = false; object = None } ∷ [];
        result = Some (C.Word Bool);
        locals = [];
        body = Some (S.Block' p (block
            (S.If' (operation B.Eq (as_int (E.Read' p head)) (as_int (E.Read' p tail))) p (truth 0)
            ∷ S.Act (A.Assign (L.Target' p (local 0) (P.Word U8)) (E.Read' p (item tail)))
            ∷ S.Act (A.Assign tail (next_of tail))
            ∷ truth 1
            ∷ [])));
      }

  abbrev queue_program : Program
  queue_program = record { structs = record { list = queue_type ∷ [] }; functions = push ∷ pop ∷ []; table = record { objects = queue ∷ extra_bytes ∷ [] } }

  abbrev boolean : ℕ → Option Number
  boolean n = Some (record { kind = Bool; value = pos n })

  pushed : run queue_program 0 (byte 5 ∷ []) (replicate 26 (byte 0)) 100000 10000 ≡ Ended (ByReturn (boolean 1) (byte 5 ∷ (replicate 15 (byte 0) ++ (byte 1 ∷ replicate 9 (byte 0))))) 1
  pushed = refl

  popped_none : run queue_program 1 (Null ∷ []) (replicate 26 (byte 0)) 100000 10000 ≡ Ended (ByReturn (boolean 0) (replicate 26 (byte 0))) 1
  popped_none = refl

  popped : run queue_program 1 (At 1 3 ∷ []) (byte 7 ∷ (replicate 15 (byte 0) ++ (byte 1 ∷ replicate 9 (byte 0)))) 100000 10000 ≡ Ended (ByReturn (boolean 1) (byte 7 ∷ (replicate 15 (byte 0) ++ (byte 1 ∷ byte 1 ∷ byte 0 ∷ byte 0 ∷ byte 0 ∷ byte 7 ∷ replicate 4 (byte 0))))) 1
  popped = refl

  -- ---- initializers and scopes

  abbrev assign : ℕ → Expr → Stmt
  assign n e = S.Act (A.Assign (L.Variable (V.Local n)) e)

  abbrev one_less : ℕ → Stmt
  one_less n = assign n (operation B.Sub (local n) (int 1))

  abbrev while_positive : List Stmt → Stmt
  while_positive body = S.While' 1 (operation B.Gt (local 0) (int 0)) p (S.Block' p (block body))

  -- int f(int n){ int s = 0; while (n > 0) { int x = x + 1; s = x; n = n - 1; } return s; }: x is zero while its initializer is evaluated
  abbrev from_itself : Function
  from_itself =
      int_function (an_int ∷ []) (an_int ∷ an_int ∷ [])
      (S.DeclareWith (V.Local 1) (I.Value (int 0))
      ∷ while_positive (S.DeclareWith (V.Local 2) (I.Value (operation B.Add (local 2) (int 1))) ∷ assign 1 (local 2) ∷ one_less 0 ∷ [])
      ∷ S.ReturnValue (local 1)
      ∷ [])

  own_value : run (program (from_itself ∷ [])) 0 (number 2 ∷ []) [] 100 10 ≡ returns 1 4
  own_value = refl

  -- the same where it is an object
  abbrev object_from_itself : Function
  object_from_itself =
      record {
        name = [];
        params = an_int ∷ [];
        result = Some (C.Word I32);
        locals = an_int ∷ record { name = []; ty = C.Word I32; constant = false; object = Some 0 } ∷ [];
        body = Some (S.Block' p (block
            (S.DeclareWith (V.Local 1) (I.Value (int 0))
            ∷ while_positive (S.DeclareWith (V.Object 0) (I.Value (operation B.Add (E.Read' p x) (int 1))) ∷ assign 1 (E.Read' p x) ∷ one_less 0 ∷ [])
            ∷ S.ReturnValue (local 1)
            ∷ [])));
      }

  own_value_of_object : run (program_with (one_int 0 ∷ []) (object_from_itself ∷ [])) 0 (number 2 ∷ []) (number 9 ∷ []) 100 10 ≡ Ended (ByReturn (Some (record { kind = I32; value = pos 1 })) (number 9 ∷ [])) 4
  own_value_of_object = refl

  -- while (n > 0) { int t = 1; n = n - t; }: t is back at zero behind the loop
  abbrev with_inner : Stmt
  with_inner = while_positive (S.DeclareWith (V.Local 1) (I.Value (int 1)) ∷ assign 0 (operation B.Sub (local 0) (local 1)) ∷ [])

  abbrev inner_program : Program
  inner_program = program (int_function (an_int ∷ []) (an_int ∷ []) (with_inner ∷ S.ReturnValue (local 0) ∷ []) ∷ [])

  nothing_left : meaning inner_program (running inner_program 10 10) (stmt_view with_inner) (state ((number 1 ∷ []) ∷ (number 0 ∷ []) ∷ []) [] 10)
      ≡ Done Normally (state ((number 0 ∷ []) ∷ (number 0 ∷ []) ∷ []) [] 8)
  nothing_left = refl

  -- ---- what some mistakes in these definitions would change

  -- int g(int a){ return 1 / a; } int h(int a){ return 1 << a; } int two(int a, int b){ return a; } int f(void){ return two(g(0), h(40)); }: arguments from left to right
  abbrev two_arguments : List Function
  two_arguments =
      int_function (an_int ∷ []) [] (S.ReturnValue (operation B.Div (int 1) (local 0)) ∷ [])
      ∷ int_function (an_int ∷ []) [] (S.ReturnValue (operation B.Shl (int 1) (local 0)) ∷ [])
      ∷ int_function (an_int ∷ an_int ∷ []) [] (S.ReturnValue (local 0) ∷ [])
      ∷ int_function [] [] (S.ReturnValue (E.Call' 2 p (Es.More' (call 0 (int 0)) p (Es.More' (call 1 (int 40)) p Es.End))) ∷ [])
      ∷ []

  left_to_right : run (program two_arguments) 3 [] [] 100 10 ≡ Ended (ByTrap T.Divide) 2
  left_to_right = refl

  abbrev element_of_object : Expr → Lvalue
  element_of_object index = L.Element' p (L.Variable (V.Object 0)) p index 2 1

  -- int a[2]; int h(void){ a[0] = 10; return 0; } int f(void){ a[h()] += 1; return a[0]; }: the place is formed before it is read
  abbrev formed_first : List Function
  formed_first =
      int_function [] [] (S.Act (A.Assign (element_of_object (int 0)) (int 10)) ∷ S.ReturnValue (int 0) ∷ [])
      ∷ int_function [] [] (S.Act (A.Update B.Add (element_of_object (E.Call' 0 p Es.End)) I32 (int 1)) ∷ S.ReturnValue (E.Read' p (element_of_object (int 0))) ∷ [])
      ∷ []

  place_then_read : run (program_with (ints 2 None ∷ []) formed_first) 1 [] (number 1 ∷ number 2 ∷ []) 100 10 ≡ Ended (ByReturn (Some (record { kind = I32; value = pos 11 })) (number 11 ∷ number 2 ∷ [])) 2
  place_then_read = refl

  -- int f(void){ a[0] += h() + 5; return a[0]; }: and read before the right side is evaluated
  abbrev read_first : List Function
  read_first =
      int_function [] [] (S.Act (A.Assign (element_of_object (int 0)) (int 10)) ∷ S.ReturnValue (int 0) ∷ [])
      ∷ int_function [] [] (S.Act (A.Update B.Add (element_of_object (int 0)) I32 (operation B.Add (E.Call' 0 p Es.End) (int 5))) ∷ S.ReturnValue (E.Read' p (element_of_object (int 0))) ∷ [])
      ∷ []

  read_then_right : run (program_with (ints 2 None ∷ []) read_first) 1 [] (number 1 ∷ number 2 ∷ []) 100 10 ≡ Ended (ByReturn (Some (record { kind = I32; value = pos 6 })) (number 6 ∷ number 2 ∷ [])) 2
  read_then_right = refl

  -- a test of a loop spends a step: without that, 1 step would do
  tests_spend : run (program (sum_below ∷ [])) 0 (number 4 ∷ []) [] 5 10 ≡ IsCut
  tests_spend = refl

  -- int f(int n){ int s = 0; while (n > 0) { int t; if (n == 2) t = 5; s = t; n = n - 1; } return s; }: t is zero at each declaration
  abbrev zero_again : Function
  zero_again =
      int_function (an_int ∷ []) (an_int ∷ an_int ∷ [])
      (S.DeclareWith (V.Local 1) (I.Value (int 0))
      ∷ while_positive (S.Declare (V.Local 2) ∷ S.If' (operation B.Eq (local 0) (int 2)) p (assign 2 (int 5)) ∷ assign 1 (local 2) ∷ one_less 0 ∷ [])
      ∷ S.ReturnValue (local 1)
      ∷ [])

  declared_zero : run (program (zero_again ∷ [])) 0 (number 2 ∷ []) [] 100 10 ≡ returns 0 4
  declared_zero = refl

  -- the same where it is an object, which leaving its scope does not clear
  abbrev object_zero_again : Function
  object_zero_again =
      record {
        name = [];
        params = an_int ∷ [];
        result = Some (C.Word I32);
        locals = an_int ∷ record { name = []; ty = C.Word I32; constant = false; object = Some 0 } ∷ [];
        body = Some (S.Block' p (block
            (S.DeclareWith (V.Local 1) (I.Value (int 0))
            ∷ while_positive (S.Declare (V.Object 0) ∷ S.If' (operation B.Eq (local 0) (int 2)) p (S.Act (A.Assign x (int 5))) ∷ assign 1 (E.Read' p x) ∷ one_less 0 ∷ [])
            ∷ S.ReturnValue (local 1)
            ∷ [])));
      }

  object_declared_zero : run (program_with (one_int 0 ∷ []) (object_zero_again ∷ [])) 0 (number 2 ∷ []) (number 9 ∷ []) 100 10 ≡ Ended (ByReturn (Some (record { kind = I32; value = pos 0 })) (number 9 ∷ [])) 4
  object_declared_zero = refl

  -- int f(int n){ int *p; { int x; p = &x; x = 3; } *p = *p + 1; return *p; }: an object keeps its cell behind its block
  abbrev kept_object : Function
  kept_object =
      record {
        name = [];
        params = [];
        result = Some (C.Word I32);
        locals = pointer_to_int ∷ record { name = []; ty = C.Word I32; constant = false; object = Some 0 } ∷ [];
        body = Some (S.Block' p (block
            (S.Declare (V.Local 0)
            ∷ S.Block' p (block (S.Declare (V.Object 0) ∷ assign 0 (E.Address' p x) ∷ S.Act (A.Assign x (int 3)) ∷ []))
            ∷ S.Act (A.Assign (pointed 0) (operation B.Add (E.Read' p (pointed 0)) (int 1)))
            ∷ S.ReturnValue (E.Read' p (pointed 0))
            ∷ [])));
      }

  object_kept : run (program_with (one_int 0 ∷ []) (kept_object ∷ [])) 0 [] (number 9 ∷ []) 100 10 ≡ Ended (ByReturn (Some (record { kind = I32; value = pos 4 })) (number 9 ∷ [])) 1
  object_kept = refl

  -- int f(int n){ int s = 0; int i; for (i = 0; i < n; i++) { if (i == 1) continue; s += i; } return s; }: `continue` reaches the last part
  abbrev skipping : Function
  skipping =
      int_function (an_int ∷ []) (an_int ∷ an_int ∷ [])
      (S.DeclareWith (V.Local 1) (I.Value (int 0))
      ∷ S.Declare (V.Local 2)
      ∷ S.For' 1 p (block (assign 2 (int 0) ∷ [])) (Some (operation B.Lt (local 2) (local 0)))
      (As.More' (A.Bump UpAfter (L.Variable (V.Local 2))) p As.End) p
      (S.Block' p (block (S.If' (operation B.Eq (local 2) (int 1)) p S.Continue ∷ S.Act (A.Update B.Add (L.Variable (V.Local 1)) I32 (local 2)) ∷ [])))
      ∷ S.ReturnValue (local 1)
      ∷ [])

  continued : run (program (skipping ∷ [])) 0 (number 4 ∷ []) [] 100 10 ≡ returns 5 6
  continued = refl
