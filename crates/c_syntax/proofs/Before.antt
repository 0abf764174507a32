-- One more tree at the end of a list is one more tree before the others.
use Rattle.std.proofs.Common.{◌≡◌, List, [], ◌∷◌, ◌++◌, map, ap, refl}
use Rattle.c_syntax.specs.Syntax.{Arguments, argument, arguments_before, Dimensions, dimension, dimensions_before, Initializers, initializer, initializers_before, BlockItems, block_item, block_before, SwitchGroups, switch_group, groups_before}
use Rattle.c_syntax.specs.Views.{expr_view, dim_view, value_view, part_view, group_view}
use Rattle.c_syntax.specs.declared.expressions.Expr.{Expr}
use Rattle.c_syntax.specs.declared.expressions.Dim.{Dim}
use Rattle.c_syntax.specs.declared.declarations.Value.{Value}
use Rattle.c_syntax.specs.declared.statements.Part.{Part}
use Rattle.c_syntax.specs.declared.statements.Group.{Group}

pub arguments_before_append : (a : List Expr) (x : Expr) (others : Arguments) → arguments_before (map expr_view (a ++ x ∷ [])) others ≡ arguments_before (map expr_view a) (argument (expr_view x) others)
arguments_before_append [] x others = refl
arguments_before_append (y ∷ a) x others = ap (argument (expr_view y)) (arguments_before_append a x others)

pub dimensions_before_append : (a : List Dim) (x : Dim) (others : Dimensions) → dimensions_before (map dim_view (a ++ x ∷ [])) others ≡ dimensions_before (map dim_view a) (dimension (dim_view x) others)
dimensions_before_append [] x others = refl
dimensions_before_append (y ∷ a) x others = ap (dimension (dim_view y)) (dimensions_before_append a x others)

pub initializers_before_append : (a : List Value) (x : Value) (others : Initializers) → initializers_before (map value_view (a ++ x ∷ [])) others ≡ initializers_before (map value_view a) (initializer (value_view x) others)
initializers_before_append [] x others = refl
initializers_before_append (y ∷ a) x others = ap (initializer (value_view y)) (initializers_before_append a x others)

pub block_before_append : (a : List Part) (x : Part) (others : BlockItems) → block_before (map part_view (a ++ x ∷ [])) others ≡ block_before (map part_view a) (block_item (part_view x) others)
block_before_append [] x others = refl
block_before_append (y ∷ a) x others = ap (block_item (part_view y)) (block_before_append a x others)

pub groups_before_append : (a : List Group) (x : Group) (others : SwitchGroups) → groups_before (map group_view (a ++ x ∷ [])) others ≡ groups_before (map group_view a) (switch_group (group_view x) others)
groups_before_append [] x others = refl
groups_before_append (y ∷ a) x others = ap (switch_group (group_view y)) (groups_before_append a x others)
