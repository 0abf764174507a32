-- What waits to be used in one activation of a function.
use Rattle.std.specs.Prelude.{ℕ, List, [], ◌∷◌, take, drop, reverse}
use Rattle.rvt_num.specs.declared.values.Value.{Value}
use Rattle.rvt_num.specs.declared.values.Value.TheVariants.{Null}
use Rattle.rvt_tree.specs.declared.expressions.Variable.TheVariants as V
use Rattle.c_meaning.specs.Outcomes as o
use Rattle.c_meaning.specs.Stores.{Location}
use Rattle.c_tasks.specs.declared.manners.Manner.{Manner}
use Rattle.c_tasks.specs.declared.manners.Manner.TheVariants.{Normally, Broke, Continued}
use Rattle.c_tasks.specs.declared.work.Work.{Work}

-- values and places, the last one first; how the last statement ended; and zeros for what an initializer leaves out
pub record Operands : Type 0 where
  pub values : List Value
  pub places : List Location
  pub manner : o.Manner
  pub zeros : List Value

abbrev pub manner_of : Manner → o.Manner
manner_of Normally = o.Normally
manner_of Broke = o.Broke
manner_of Continued = o.Continued

abbrev pub operands : Work → Operands
operands work =
    record {
      values = reverse work.values.items;
      places = reverse work.places.items;
      manner = manner_of work.manner;
      zeros = work.zeros.items;
    }

-- ---- values

abbrev pub with_value : Value → Operands → Operands
with_value v on = record { values = v ∷ on.values; places = on.places; manner = on.manner; zeros = on.zeros }

abbrev pub first_or : {A : Type 0} → A → List A → A
first_or other [] = other
first_or other (a ∷ rest) = a

abbrev pub others : {A : Type 0} → List A → List A
others [] = []
others (a ∷ rest) = rest

-- the last value, and null where there is none
abbrev pub top_value : Operands → Value
top_value on = first_or Null on.values

abbrev pub without_value : Operands → Operands
without_value on = record { values = others on.values; places = on.places; manner = on.manner; zeros = on.zeros }

-- values on top of others, one after another
abbrev pub onto : List Value → List Value → List Value
onto [] below = below
onto (v ∷ vs) below = onto vs (v ∷ below)

abbrev pub with_values : List Value → Operands → Operands
with_values vs on = record { values = onto vs on.values; places = on.places; manner = on.manner; zeros = on.zeros }

-- the values above the lowest ones, in the order in which they came, and what is left without them
abbrev pub above : ℕ → Operands → List Value
above height on = drop height (reverse on.values)

abbrev pub lowered : ℕ → Operands → Operands
lowered height on = record { values = reverse (take height (reverse on.values)); places = on.places; manner = on.manner; zeros = on.zeros }

-- ---- places

abbrev pub with_place : Location → Operands → Operands
with_place place on = record { values = on.values; places = place ∷ on.places; manner = on.manner; zeros = on.zeros }

abbrev pub nowhere : Location
nowhere = record { variable = V.Local 0; cell = 0 }

abbrev pub top_place : Operands → Location
top_place on = first_or nowhere on.places

abbrev pub without_place : Operands → Operands
without_place on = record { values = on.values; places = others on.places; manner = on.manner; zeros = on.zeros }

-- ---- the ends of statements, and zeros

abbrev pub with_manner : o.Manner → Operands → Operands
with_manner manner on = record { values = on.values; places = on.places; manner = manner; zeros = on.zeros }

abbrev pub zeros_from : ℕ → ℕ → Operands → List Value
zeros_from at count on = take count (drop at on.zeros)

abbrev pub with_zeros : List Value → Operands → Operands
with_zeros zeros on = record { values = on.values; places = on.places; manner = on.manner; zeros = zeros }
