-- Two files, and what is paired in them.
use Rattle.std.specs.Prelude.{Option, IsSomeAnd}
use Rattle.rvt_tree.specs.declared.pairings.Pairing.{Pairing}
use Rattle.rvt_tree.specs.declared.programs.Object.{Object}
use Rattle.joint_objects.specs.Sides.{Partners}
use Rattle.joint_laws.specs.Premises.{IsOneObject}
use Rattle.joint_twins.specs.declared.tables.Files.{Files}

abbrev pub structs_of : Files → Partners
structs_of files = record { of_old = files.there.now.structs; of_new = files.back.now.structs }

abbrev pub functions_of : Files → Partners
functions_of files = record { of_old = files.there.now.functions; of_new = files.back.now.functions }

-- both objects are there, and are one object
abbrev pub AreOneObject : Pairing → Option Object → Option Object → Type 0
AreOneObject pairing a b = IsSomeAnd a (λ x. IsSomeAnd b (λ y. IsOneObject pairing x y))
