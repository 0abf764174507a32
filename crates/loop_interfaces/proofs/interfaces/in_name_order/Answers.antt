use Rattle.std.proofs.Common.{◌≡◌, ◌+◌, ℕ, List, ◌++◌, [], ◌∷◌, length, get_or, take, subst, sym, ◌∙◌, ap}
use Rattle.std.specs.Prelude.{All}
use Rattle.std.specs.List.{dedup}
use Rattle.std.proofs.lemmas.List.{take_more, take_all}
use Rattle.std.proofs.lemmas.List.Elements.{All-push}
use Rattle.std.proofs.lemmas.List.Filters.{dedup_is}
use Rattle.c_meaning.specs.Interfaces.{StandsIn}
use Rattle.loop_interfaces.specs.NameOrder.{AreInNameOrder}
use Rattle.loop_interfaces.proofs.Ordered.{Key, numbers_of, IsKey, key_eq}
use Rattle.loop_interfaces.proofs.Joined.{sorted_members, sorted_order, numbers_push, numbers_more}
use Rattle.loop_interfaces.proofs.interfaces.in_name_order.Goals as goal

pub numbers-preserved : goal.numbers-preserved
numbers-preserved c =
    let numbers = c.args.numbers.now in
    let i = c.numbers.number-index in
    let keys = c.numbers.keys.items in
    record {
      made = ap numbers_of c.in_ok-push.ensures.items ∙ numbers_push keys _ ∙ ap (λ (l : List ℕ). l ++ get_or numbers i 0 ∷ []) c.numbers.invariant.made ∙ sym (take_more numbers i 0 c.numbers-test.true);
      keys = subst (All (IsKey c.args.function.now)) (sym c.in_ok-push.ensures.items) (All-push (IsKey c.args.function.now) keys _ c.numbers.invariant.keys c.name_at.ensures);
    }

pub keys-preserved : goal.keys-preserved
keys-preserved c =
    let keys = c.as_slice-key-items.result.now in
    let i = c.keys.key-index in
    let d : Key = (record { ref_ptr = (0, 0); now = [] }, 0) in
    c.in_ok-push-2.ensures.items ∙ ap (λ (l : List ℕ). l ++ (get_or keys i d).1 ∷ []) c.keys.invariant ∙ sym (numbers_more keys i d c.keys-test.true)

pub returns-clause-members : goal.returns-clause-members
returns-clause-members c =
    let made = c.numbers.keys.items in
    let sorted = c.sort.new.self.items in
    let once = c.dedup.new.self.items in
    let once_is : once ≡ dedup key_eq sorted = dedup_is key_eq sorted once c.dedup.ensures.filtered in
    let numbers_are : numbers_of made ≡ c.args.numbers.now = c.numbers.invariant.made ∙ take_all c.numbers.number-index c.args.numbers.now c.numbers-test.false in
    let all : c.keys.locals.items ≡ numbers_of once = c.keys.invariant ∙ ap numbers_of (take_all c.keys.key-index c.as_slice-key-items.result.now c.keys-test.false ∙ c.as_slice-key-items.ensures.value) in
    λ n. subst (λ (l : List ℕ). (StandsIn n l → StandsIn n c.args.numbers.now) × (StandsIn n c.args.numbers.now → StandsIn n l)) (sym all) (sorted_members c.args.numbers.now made sorted once numbers_are c.in_ok-sort.ensures.permutation once_is n)

pub returns-clause-order : goal.returns-clause-order
returns-clause-order c =
    let made = c.numbers.keys.items in
    let sorted = c.sort.new.self.items in
    let once = c.dedup.new.self.items in
    let once_is : once ≡ dedup key_eq sorted = dedup_is key_eq sorted once c.dedup.ensures.filtered in
    let all : c.keys.locals.items ≡ numbers_of once = c.keys.invariant ∙ ap numbers_of (take_all c.keys.key-index c.as_slice-key-items.result.now c.keys-test.false ∙ c.as_slice-key-items.ensures.value) in
    subst (AreInNameOrder c.args.function.now) (sym all) (sorted_order c.args.function.now made sorted once c.numbers.invariant.keys c.in_ok-sort.ensures.permutation c.in_ok-sort.ensures.sorted once_is)
