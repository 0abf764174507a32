-- Initializers (C 6.7.9), and the contents that they give to an object (C 6.7.9, 6.9.2).
use Rattle.std.specs.Prelude.{ℕ, suc, nat_lt, List, ◌∷◌, ◌++◌, take, drop, if◌then◌else◌, Option, Some, None, option_map, unwrap_or, slice_get}
use Rattle.rvt_num.specs.Number.{Number}
use Rattle.rvt_num.specs.declared.kinds.Kind.{Kind}
use Rattle.rvt_num.specs.declared.values.Value.{Value}
use Rattle.rvt_num.specs.declared.values.Value.TheVariants.{Num}
use Rattle.rvt_tree.specs.declared.places.Place.{Place}
use Rattle.rvt_tree.specs.Syntax as t
use Rattle.c_types.specs.Layout.{Shape, AWord, APointer, AnArray, AStruct}
use Rattle.c_syntax.specs.Syntax as s
use Rattle.expression_typing.specs.Entities.{Scope, Structure, cells_of, fields_of}
use Rattle.expression_typing.specs.Outcomes.{Checking, give, broken, and_then, wanted, wrong_type, constant_wanted}
use Rattle.expression_typing.specs.Expressions.{value_as}
use Rattle.expression_typing.specs.FirstTokens.{first_token}
use Rattle.expression_typing.specs.ConstantExpressions.{constant_of}

-- the member of a number: an element of an array, a field of a struct
abbrev pub member_of : List Structure → Shape → ℕ → Option Shape
member_of structs (AnArray item count) number = if nat_lt number count then Some item else None
member_of structs (AStruct structure) number = option_map (λ field. field.type) (slice_get (fields_of (slice_get structs structure)) number)
member_of structs (AWord kind) number = None
member_of structs (APointer pointee to_constant) number = None

abbrev pub size_of : List Structure → Shape → ℕ
size_of structs shape = unwrap_or (cells_of structs shape) 0

abbrev pub first_token_of : s.Initializer → Place
first_token_of (s.initial_value e) = first_token e
first_token_of (s.braces at members) = at

-- a value that fits no member
abbrev pub no_member : {A : Type 0} → s.Initializer → Checking A
no_member i = broken wrong_type (first_token_of i)

abbrev pub no_members : s.Initializers → Checking (Unit {0})
no_members s.no_initializers = give tt
no_members (s.initializer i rest) = no_member i

-- what is asked of each value, at its first token, once it is converted: nothing for a local,
-- and for an object of the file that it is a constant (C 6.6, 6.7.9)
abbrev pub Asked : Type 0
Asked = Place → t.Expression → Checking (Unit {0})

abbrev pub anything : Asked
anything at e = give tt

abbrev pub a_constant_value : Asked
a_constant_value at e = and_then (wanted constant_wanted at (constant_of e)) (λ n. give tt)

module _ (scope : Scope) (asked : Asked) where
  -- a value without braces, converted as by assignment
  abbrev pub typed_value : Shape → s.Expression → Checking t.Initializer
  typed_value shape e =
      and_then (value_as scope shape e) (λ value.
      and_then (asked (first_token e) value) (λ _.
      give (t.initial_value value)))

  -- an integer in braces: one value, without more braces
  abbrev pub typed_alone : Kind → s.Initializers → Checking t.Initializers
  typed_alone kind s.no_initializers = give t.no_initializers
  typed_alone kind (s.initializer (s.braces at members) rest) = broken wrong_type at
  typed_alone kind (s.initializer (s.initial_value e) rest) =
      and_then (typed_value (AWord kind) e) (λ value.
      and_then (no_members rest) (λ _.
      give (t.initializer value 1 t.no_initializers)))

  abbrev mutual
    -- an initializer of an object of this type
    pub typed_initializer : Shape → s.Initializer → Checking t.Initializer
    typed_initializer shape (s.initial_value e) = typed_value shape e
    typed_initializer (AWord kind) (s.braces at members) = and_then (typed_alone kind members) (λ members. give (t.braces members))
    typed_initializer (APointer pointee to_constant) (s.braces at members) = and_then (no_members members) (λ _. give (t.braces t.no_initializers))
    typed_initializer (AnArray item count) (s.braces at members) =
        and_then (typed_members (AnArray item count) 0 members) (λ members. give (t.braces members))
    typed_initializer (AStruct structure) (s.braces at members) =
        and_then (typed_members (AStruct structure) 0 members) (λ members. give (t.braces members))

    -- one for each member, from one on
    pub typed_members : Shape → ℕ → s.Initializers → Checking t.Initializers
    typed_members shape number s.no_initializers = give t.no_initializers
    typed_members shape number (s.initializer i rest) =
        and_then (wanted wrong_type (first_token_of i) (member_of scope.structs shape number)) (λ member.
        and_then (typed_initializer member i) (λ first.
        and_then (typed_members shape (suc number) rest) (λ others.
        give (t.initializer first (size_of scope.structs member) others))))

-- ---- contents

-- a value in place of the cells' own first one
abbrev pub with_first : Option Number → List Value → List Value
with_first None zeros = zeros
with_first (Some n) zeros = Num n ∷ drop 1 zeros

-- the cells that a constant initializer gives; those that it leaves out stay as they are
abbrev mutual
  pub contents_of : t.Initializer → List Value → List Value
  contents_of (t.initial_value e) zeros = with_first (constant_of e) zeros
  contents_of (t.braces members) zeros = contents_of_members members zeros

  pub contents_of_members : t.Initializers → List Value → List Value
  contents_of_members t.no_initializers zeros = zeros
  contents_of_members (t.initializer i size rest) zeros = contents_of i (take size zeros) ++ contents_of_members rest (drop size zeros)
