-- The places of our objects in the joint table.
use Rattle.std.specs.Prelude.{ℕ, zero, suc, ◌+◌, Bool, false, nat_eq, List, [], ◌∷◌, ◌++◌, set, slice_get, unwrap_or, Option, Some, None, option_and_then}
use Rattle.std.specs.List.{position_from}
use Rattle.joint_objects.specs.declared.objects.Origin.{Origin}
use Rattle.joint_objects.specs.declared.objects.Origin.TheVariants.{Both, Old, New}
use Rattle.joint_objects.specs.declared.objects.JointObject.{JointObject}
use Rattle.joint_objects.specs.declared.objects.JointObject.TheVariants.{Global, Local, Extra, Mapped}

-- the object of ours that an object of the table is, if it is one
abbrev pub number_of : Origin → Option ℕ
number_of (Both a b) = Some a
number_of (Old a) = Some a
number_of (New b) = None

abbrev pub own_number : JointObject → Option ℕ
own_number (Global origin) = number_of origin
own_number (Local origin declaration) = number_of origin
own_number (Extra element which) = None
own_number (Mapped which) = None

-- the same of the object at a place of the table
abbrev pub number_at : List JointObject → ℕ → Option ℕ
number_at table place = option_and_then own_number (slice_get table place)

abbrev pub is_number : ℕ → Option ℕ → Bool
is_number number None = false
is_number number (Some a) = nat_eq a number

-- the place of our object of this number, in a table that begins at this place
abbrev pub place_from : ℕ → List JointObject → ℕ → ℕ
place_from start table number = unwrap_or (position_from (λ object. is_number number (own_number object)) start table) number

-- the places of so many of our objects, from this one on
abbrev pub places_from : ℕ → List JointObject → ℕ → ℕ → List ℕ
places_from start table number zero = []
places_from start table number (suc more) = place_from start table number ∷ places_from start table (number + 1) more

-- for each of our objects its place in the table
abbrev pub numbers_in : List JointObject → ℕ → List ℕ
numbers_in table count = places_from 0 table 0 count

-- ---- a list of places while it is made

abbrev pub numbers_below : ℕ → List ℕ
numbers_below zero = []
numbers_below (suc n) = numbers_below n ++ n ∷ []

abbrev pub with_place : Option ℕ → ℕ → List ℕ → List ℕ
with_place None place numbers = numbers
with_place (Some number) place numbers = set numbers number place
