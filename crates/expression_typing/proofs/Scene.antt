-- What the worked examples share: some declarations, and short ways to write trees.
use Rattle.std.proofs.Common.{ℕ, List, [], ◌∷◌, ◌++◌, Option, Some, None, true, false, pos, codes}
use Rattle.rvt_num.specs.declared.kinds.Kind.TheVariants.{U8, I32, U32, I64}
use Rattle.rvt_tree.specs.declared.places.Place.{Place}
use Rattle.rvt_tree.specs.declared.types.Pointee.TheVariants as P
use Rattle.rvt_tree.specs.declared.expressions.Variable.TheVariants as V
use Rattle.rvt_tree.specs.Syntax.{LvalueExpression, Expression as Term, Expression as t, Action as Act}
use Rattle.rvt_tree.specs.Syntax as tree
use Rattle.c_types.specs.Layout.{Shape, AWord, APointer, AnArray, AStruct}
use Rattle.c_syntax.specs.declared.bases.Base.{Base}
use Rattle.c_syntax.specs.declared.bases.Specifier.{Specifier}
use Rattle.c_syntax.specs.declared.bases.Specifier.TheVariants as B
use Rattle.c_syntax.specs.declared.bases.TypeWord.{TypeWord}
use Rattle.c_syntax.specs.declared.bases.Word.{Word}
use Rattle.c_syntax.specs.declared.operators.Infix.{Infix}
use Rattle.c_syntax.specs.declared.operators.Prefix.{Prefix}
use Rattle.c_syntax.specs.Syntax.{Expression, Expression as e, Arguments, Arguments as a, Suffixes as s, Casts as c, TypeName, type_name, Dimensions as d, sized, Action}
use Rattle.expression_typing.specs.Entities.{Entity, a_local, an_object, a_function, a_constant, a_typedef, a_type, Binding, struct_tag, enum_tag, Structure, Scope}
use Rattle.expression_typing.specs.Progress.{Local, Notes}
use Rattle.expression_typing.specs.Outcomes.{Cause, Outcome, Made, Broken}
use Rattle.expression_typing.specs.Operands.{Operand}
use Rattle.expression_typing.specs.BuiltIn.{built_in_names}
use Rattle.expression_typing.specs.Expressions.{operand}
use Rattle.expression_typing.specs.Actions.{typed_action}

-- ---- places, by their columns

abbrev pub column : ℕ → Place
column n = record { line = 1; column = n }

-- locals are declared in line 0, by their numbers
abbrev pub declared_at : ℕ → Place
declared_at n = record { line = 0; column = n }

-- ---- declarations: int x; unsigned u; unsigned char c; int *p; const int *q; int a[3]; int m[2][3]; const int k;
-- struct S s; struct T *t; struct S *r; long n; and int g, f(int), v(void), w(int *), enum { One = 1 }, typedef int I
-- where struct S { int i; int b[2]; } is complete and struct T is not

abbrev pub an_int : Shape
an_int = AWord I32

abbrev pub int_pointer : Shape
int_pointer = APointer (P.Word I32) false

abbrev pub binding : List ℕ → Entity → Binding
binding name entity = record { name = name; entity = entity }

abbrev pub locals : List Binding
locals =
    binding (codes "x") (a_local 0 an_int false) ∷ binding (codes "u") (a_local 1 (AWord U32) false) ∷
    binding (codes "c") (a_local 2 (AWord U8) false) ∷ binding (codes "p") (a_local 3 int_pointer false) ∷
    binding (codes "q") (a_local 4 (APointer (P.Word I32) true) false) ∷ binding (codes "a") (a_local 5 (AnArray an_int 3) false) ∷
    binding (codes "m") (a_local 6 (AnArray (AnArray an_int 3) 2) false) ∷ binding (codes "k") (a_local 7 an_int true) ∷
    binding (codes "s") (a_local 8 (AStruct 0) false) ∷ binding (codes "t") (a_local 9 (APointer (P.Struct 1) false) false) ∷
    binding (codes "r") (a_local 10 (APointer (P.Struct 0) false) false) ∷ binding (codes "n") (a_local 11 (AWord I64) false) ∷ []

abbrev pub file : List Binding
file =
    binding (codes "g") (an_object 0 an_int false) ∷
    binding (codes "f") (a_function 0 (an_int ∷ []) (Some I32)) ∷ binding (codes "v") (a_function 1 [] None) ∷
    binding (codes "w") (a_function 2 (int_pointer ∷ []) (Some I32)) ∷
    binding (codes "One") (a_constant (record { kind = I32; value = pos 1 })) ∷
    binding (codes "I") (a_typedef (record { named = a_type an_int; constant = false })) ∷ []

abbrev pub struct_s : Structure
struct_s = record {
  fields = record { name = codes "i"; type = an_int; number = 0; cell = 0 } ∷ record { name = codes "b"; type = AnArray an_int 2; number = 1; cell = 1 } ∷ [];
  cells = Some 3;
}

abbrev pub struct_t : Structure
struct_t = record { fields = []; cells = None }

abbrev pub scene : Scope
scene = record {
  names = locals ++ file ++ built_in_names;
  tags = record { name = codes "S"; tagged = struct_tag 0 } ∷ record { name = codes "T"; tagged = struct_tag 1 } ∷ record { name = codes "E"; tagged = enum_tag } ∷ [];
  structs = struct_s ∷ struct_t ∷ [];
  evaluated = true;
}

abbrev pub local : List ℕ → ℕ → Shape → ℕ → Local
local name number type cells = record { name = name; place = declared_at number; type = type; cells = cells; constant = false }

-- the locals that some example takes the address of have their own cells here
abbrev pub start : Notes
start = record {
  locals = local (codes "x") 0 an_int 1 ∷ local (codes "u") 1 (AWord U32) 1 ∷ local (codes "c") 2 (AWord U8) 1 ∷ local (codes "p") 3 int_pointer 1 ∷
      local (codes "q") 4 int_pointer 1 ∷ local (codes "a") 5 (AnArray an_int 3) 3 ∷ local (codes "m") 6 (AnArray (AnArray an_int 3) 2) 6 ∷
      local (codes "k") 7 an_int 1 ∷ local (codes "s") 8 (AStruct 0) 3 ∷ [];
  calls = [];
  taken = [];
  loops = 0;
  objects = 1;
  cells = 1;
}

-- ---- what comes of a phrase

pub data Verdict (A : Type 0) : Type 0 where
  becomes : A → Verdict A
  -- a rule is broken, at this column
  breaks : Cause → ℕ → Verdict A

abbrev pub verdict : {A : Type 0} → Outcome A → Verdict A
verdict (Made a notes) = becomes a
verdict (Broken cause at) = breaks cause at.column

abbrev pub expression : Expression → Verdict Operand
expression x = verdict (operand scene x start)

abbrev pub act : Action → Verdict Act
act x = verdict (typed_action scene x start)

abbrev pub notes_after : {A : Type 0} → Outcome A → Option Notes
notes_after (Made a notes) = Some notes
notes_after (Broken cause at) = None

-- ---- trees before typing

abbrev pub word : List ℕ → ℕ → Word
word name n = record { name = name; place = column n }

abbrev pub name : List ℕ → ℕ → Expression
name x n = e.identifier (word x n)

abbrev pub number : ℕ → ℕ → Expression
number z n = e.integer (record { kind = I32; value = pos z }) (column n)

abbrev pub binary : Infix → ℕ → Expression → Expression → Expression
binary op n left right = e.binary op (column n) left right

abbrev pub unary : Prefix → ℕ → Expression → Expression
unary op n x = e.unary op (column n) x

abbrev pub call : List ℕ → ℕ → List Expression → Expression
call f n arguments = e.call (word f n) (list arguments) where
  list : List Expression → Arguments
  list [] = a.no_arguments
  list (x ∷ xs) = a.argument x (list xs)

abbrev pub index : Expression → ℕ → Expression → Expression
index x n i = e.postfix x (s.index (column n) i s.no_suffixes)

abbrev pub dot : Expression → ℕ → List ℕ → ℕ → Expression
dot x n field m = e.postfix x (s.dot (column n) (word field m) s.no_suffixes)

abbrev pub arrow : Expression → ℕ → List ℕ → ℕ → Expression
arrow x n field m = e.postfix x (s.arrow (column n) (word field m) s.no_suffixes)

abbrev pub base : Specifier → ℕ → Base
base specifier n = record { place = column n; constant = false; specifier = specifier }

abbrev pub words : List TypeWord → ℕ → TypeName
words list n = type_name (base (B.Words list) n) None d.no_dimensions

abbrev pub pointer_words : List TypeWord → ℕ → TypeName
pointer_words list n = type_name (base (B.Words list) n) (Some (record { place = column n; constant = false })) d.no_dimensions

abbrev pub array_words : List TypeWord → ℕ → Expression → TypeName
array_words list n length = type_name (base (B.Words list) n) None (d.dimension (sized (column n) length) d.no_dimensions)

abbrev pub cast : ℕ → TypeName → Expression → Expression
cast n type x = e.casts (c.cast (column n) type c.no_casts) x

-- ---- typed trees

abbrev pub variable : ℕ → LvalueExpression
variable n = tree.identifier (V.Local n)

-- the value of a local
abbrev pub value : ℕ → Term
value n = t.value_at (variable n)

abbrev pub int : ℕ → Term
int n = t.constant (record { kind = I32; value = pos n })
