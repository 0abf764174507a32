use Rattle.file_typing.specs.Items.{beginning}
use Rattle.elaboration_laws.proofs.Lists.{items_break, broken_items}
use Rattle.elaboration_laws.proofs.laws.first_item.Goals as goal

pub returns : goal.returns
returns c = λ items notes cause at. (items_break cause at items (beginning items) notes, broken_items cause at)
