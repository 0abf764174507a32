use Rattle.std.proofs.Common.{refl}
use Rattle.joint_objects.proofs.laws.small_tables.Goals as goal

pub returns : goal.returns
returns c = record {
  swapped = refl;
  one_file_alone = refl;
  became_const = refl;
  renamed = refl;
  refused_lines = (refl, refl);
  two_of_one_name = refl;
  extra_arrays = refl;
  equal_structs = (refl, refl, refl);
}
