use Rattle.std.proofs.Common.{◌∙◌, ap, arith}
use Rattle.aig_build.proofs.Nodes.{Grows-length, Grows-trans}
use Rattle.bit_words.proofs.RippleCarry.{AreThere-later}
use Rattle.sym_store.proofs.Stores.{merged_by, there_by, alike_by}
use Rattle.sym_store.specs.Stores.{LitStore}
use Rattle.sym_store.proofs.store.SymStore.merge.Goals as goal

pub merge-requires-clause-which_is_there : goal.merge-requires-clause-which_is_there
merge-requires-clause-which_is_there c = c.requires.which_is_there

pub merge-requires-clause-first_is_there : goal.merge-requires-clause-first_is_there
merge-requires-clause-first_is_there c = there_by _ _ _ (c.deref.ensures.value ∙ ap (λ (s : LitStore). s.registers) c.self.view_is) c.requires.first_is_there.registers

pub merge-requires-clause-second_is_there : goal.merge-requires-clause-second_is_there
merge-requires-clause-second_is_there c = there_by _ _ _ (c.deref-2.ensures.value ∙ ap (λ (s : LitStore). s.registers) c.other.view_is) c.requires.second_is_there.registers

pub merge-requires-clause-alike : goal.merge-requires-clause-alike
merge-requires-clause-alike c = alike_by _ _ _ _ (c.deref.ensures.value ∙ ap (λ (s : LitStore). s.registers) c.self.view_is) (c.deref-2.ensures.value ∙ ap (λ (s : LitStore). s.registers) c.other.view_is) c.requires.alike.registers

pub merge-requires-2-clause-which_is_there : goal.merge-requires-2-clause-which_is_there
merge-requires-2-clause-which_is_there c = let w = c.requires.which_is_there in omega (arith, Grows-length _ _ c.in_ok-registers.ensures.grows)

pub merge-requires-2-clause-first_is_there : goal.merge-requires-2-clause-first_is_there
merge-requires-2-clause-first_is_there c =
    AreThere-later _ _ _ c.in_ok-registers.ensures.grows (there_by _ _ _ (c.deref-3.ensures.value ∙ ap (λ (s : LitStore). s.cells) c.self.view_is) c.requires.first_is_there.cells)

pub merge-requires-2-clause-second_is_there : goal.merge-requires-2-clause-second_is_there
merge-requires-2-clause-second_is_there c =
    AreThere-later _ _ _ c.in_ok-registers.ensures.grows (there_by _ _ _ (c.deref-4.ensures.value ∙ ap (λ (s : LitStore). s.cells) c.other.view_is) c.requires.second_is_there.cells)

pub merge-requires-2-clause-alike : goal.merge-requires-2-clause-alike
merge-requires-2-clause-alike c = alike_by _ _ _ _ (c.deref-3.ensures.value ∙ ap (λ (s : LitStore). s.cells) c.self.view_is) (c.deref-4.ensures.value ∙ ap (λ (s : LitStore). s.cells) c.other.view_is) c.requires.alike.cells

pub returns-clause-built : goal.returns-clause-built
returns-clause-built c =
    merged_by _ _ _ _ _ _ _ _ _ _ (c.deref.ensures.value ∙ ap (λ (s : LitStore). s.registers) c.self.view_is) (c.deref-2.ensures.value ∙ ap (λ (s : LitStore). s.registers) c.other.view_is) (c.deref-3.ensures.value ∙ ap (λ (s : LitStore). s.cells) c.self.view_is) (c.deref-4.ensures.value ∙ ap (λ (s : LitStore). s.cells) c.other.view_is) c.in_ok-registers.ensures.built c.in_ok-cells.ensures.built

pub returns-clause-there : goal.returns-clause-there
returns-clause-there c = record {
  registers = AreThere-later _ _ _ c.in_ok-cells.ensures.grows c.in_ok-registers.ensures.there;
  cells = c.in_ok-cells.ensures.there;
}

pub returns-clause-grows : goal.returns-clause-grows
returns-clause-grows c = Grows-trans _ _ _ c.in_ok-registers.ensures.grows c.in_ok-cells.ensures.grows
