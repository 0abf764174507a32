-- The objects of a function's locals, and those of the file.
use Rattle.std.proofs.Common.{◌≡◌, ℕ, suc, List, [], ◌∷◌, ◌++◌, length, Bool, true, false, if◌then◌else◌, Option, Some, None, refl, ap}
use Rattle.expression_typing.specs.Progress.{Local, Taken}
use Rattle.file_typing.specs.Elaboration.{is_object, objects_from, objects_of_body, with_address}
use Rattle.file_typing.specs.FileScope.{Body, StructEntry}
use Rattle.file_typing.specs.Programs.{ObjectView}

-- as many, whose they ever are
as_many_by : (b : Bool) (x y : ObjectView) (xs ys : List ObjectView) → length xs ≡ length ys → length ((if b then x ∷ [] else []) ++ xs) ≡ length ((if b then y ∷ [] else []) ++ ys)
as_many_by true x y xs ys e = ap suc e
as_many_by false x y xs ys e = e

as_many_from : (structs : List StructEntry) (owner other : ℕ) (body : Body) (number : ℕ) (locals : List Local)
    → length (objects_from structs owner body number locals) ≡ length (objects_from structs other body number locals)
as_many_from structs owner other body number [] = refl
as_many_from structs owner other body number (local ∷ rest) = as_many_by (is_object body number) _ _ _ _ (as_many_from structs owner other body (suc number) rest)

pub as_many : (structs : List StructEntry) (owner other : ℕ) (body : Option Body)
    → length (objects_of_body structs owner body) ≡ length (objects_of_body structs other body)
as_many structs owner other None = refl
as_many structs owner other (Some body) = as_many_from structs owner other body 0 body.locals

-- no more and no fewer of the file
pub length_with_address : (taken : List Taken) (number : ℕ) (objects : List ObjectView) → length (with_address taken number objects) ≡ length objects
length_with_address taken number [] = refl
length_with_address taken number (object ∷ rest) = ap suc (length_with_address taken (suc number) rest)
