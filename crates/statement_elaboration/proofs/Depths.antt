-- What is left of a list is no deeper than the list.
use Rattle.std.proofs.Common.{◌≡◌, ◌≤◌, ◌∙◌, List, Box, ap, arith}
use Rattle.std.specs.declared.alloc.Global.{Global}
use Rattle.c_syntax.specs.declared.statements.Groups.{Groups, size-Groups}
use Rattle.c_syntax.specs.declared.statements.Groups.TheVariants as Gs
use Rattle.c_syntax.specs.declared.statements.Label.{Label}
use Rattle.c_syntax.specs.declared.statements.Part.{Part}
use Rattle.c_syntax.specs.declared.statements.Parts.{Parts, size-Parts}
use Rattle.c_syntax.specs.declared.statements.Parts.TheVariants as Ps
use Rattle.c_syntax.specs.declared.statements.Groups.TheViews as V

pub parts_no_deeper : (list : Parts) (part : Part) (rest : Box Parts Global) → list ≡ Ps.More part rest → size-Parts rest.value ≤ size-Parts list
parts_no_deeper list part rest is = let same : size-Parts list ≡ size-Parts (Ps.More part rest) = ap size-Parts is in omega (arith, same ∙ V.deep-Parts::More' part _ rest.value)

pub groups_no_deeper : (list : Groups) (labels : List Label) (parts : Parts) (rest : Box Groups Global) → list ≡ Gs.More labels parts rest → size-Groups rest.value ≤ size-Groups list
groups_no_deeper list labels parts rest is = let same : size-Groups list ≡ size-Groups (Gs.More labels parts rest) = ap size-Groups is in omega (arith, same ∙ V.deep-Groups::More' labels parts _ rest.value)
