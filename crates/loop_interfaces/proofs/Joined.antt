-- Interfaces, put together of their parts.
use Rattle.std.proofs.Common.{◌≡◌, ℕ, suc, ◌+◌, ◌<◌, ◌↔◌, List, [], ◌∷◌, ◌++◌, map, take, length, get_or, refl, sym, ◌∙◌, ap, subst, arith}
use Rattle.std.specs.Prelude.{All}
use Rattle.std.specs.List.{dedup}
use Rattle.std.specs.List.Sorted.{IsPermutation, IsSorted}
use Rattle.std.proofs.lemmas.List.{take_more}
use Rattle.std.proofs.lemmas.List.Filters.{All-dedup}
use Rattle.std.proofs.lemmas.List.Sorted.{All-permutation, IsPermutation-sym}
use Rattle.rvt_tree.specs.Syntax.{Statement}
use Rattle.rvt_tree.specs.declared.programs.Function.{Function}
use Rattle.c_meaning.specs.Interfaces.{StandsIn, named_in_loop, declared_in_loop}
use Rattle.loop_interfaces.specs.declared.interfaces.LoopInterface.{LoopInterface}
use Rattle.loop_interfaces.specs.Loops.{number_of}
use Rattle.loop_interfaces.specs.NameOrder.{AreInNameOrder, AreOthers, IsLoopInterface, AreInterfaces}
use Rattle.loop_interfaces.proofs.Standing.{stands_moved}
use Rattle.loop_interfaces.proofs.Ordered.{Key, key_cmp, key_eq, numbers_of, IsKey, rising_names, numbers_moved, numbers_once, sorted_once}

-- ---- one interface

pub interface_is : (function : Function) (loop : Statement) (locals outside named declared rising : List ℕ) → ((n : ℕ) → StandsIn n locals ↔ StandsIn n outside) → AreOthers outside named rising →
    named ≡ named_in_loop loop → declared ≡ declared_in_loop loop → IsPermutation declared rising → AreInNameOrder function locals → IsLoopInterface function loop locals
interface_is function loop locals outside named declared rising same others named_is declared_is moved order = record {
  members = λ n. (λ stands. there n ((others n).0 ((same n).0 stands)), λ both. (same n).1 ((others n).1 (back n both)));
  order = order;
}
  where
    there : (n : ℕ) → StandsIn n named × (StandsIn n rising → ⊥) → StandsIn n (named_in_loop loop) × (StandsIn n (declared_in_loop loop) → ⊥)
    there n both = (subst (StandsIn n) named_is both.0, λ inside. both.1 (stands_moved n declared rising moved (subst (StandsIn n) (sym declared_is) inside)))

    back : (n : ℕ) → StandsIn n (named_in_loop loop) × (StandsIn n (declared_in_loop loop) → ⊥) → StandsIn n named × (StandsIn n rising → ⊥)
    back n both =
        (subst (StandsIn n) (sym named_is) both.0, λ inside. both.1 (subst (StandsIn n) declared_is (stands_moved n rising declared (IsPermutation-sym declared rising moved) inside)))

-- ---- these locals in the order of their names

-- the numbers of keys that were sorted, each once, are the given ones
pub sorted_members : (numbers : List ℕ) (made sorted once : List Key) → numbers_of made ≡ numbers → IsPermutation made sorted → once ≡ dedup key_eq sorted → (n : ℕ) → StandsIn n (numbers_of once) ↔ StandsIn n numbers
sorted_members numbers made sorted once are moved is n = (
  λ stands. subst (StandsIn n) are (numbers_moved n sorted made (IsPermutation-sym made sorted moved) ((numbers_once n sorted).0 (subst (λ (l : List Key). StandsIn n (numbers_of l)) is stands))),
  λ stands. subst (λ (l : List Key). StandsIn n (numbers_of l)) (sym is) ((numbers_once n sorted).1 (numbers_moved n made sorted moved (subst (StandsIn n) (sym are) stands))),
)

-- and they rise
pub sorted_order : (function : Function) (made sorted once : List Key) → All (IsKey function) made → IsPermutation made sorted → IsSorted key_cmp sorted → once ≡ dedup key_eq sorted → AreInNameOrder function (numbers_of once)
sorted_order function made sorted once are moved up is =
    let keys : All (IsKey function) sorted = All-permutation (IsKey function) made sorted moved are in
    subst (λ (l : List Key). AreInNameOrder function (numbers_of l)) (sym is) (rising_names function (dedup key_eq sorted) (All-dedup key_eq (IsKey function) sorted keys) (sorted_once sorted up))

-- one key more
pub numbers_push : (ks : List Key) (k : Key) → numbers_of (ks ++ k ∷ []) ≡ numbers_of ks ++ k.1 ∷ []
numbers_push [] k = refl
numbers_push (x ∷ ks) k = ap (λ (l : List ℕ). x.1 ∷ l) (numbers_push ks k)

-- ---- the interfaces of loops, one after another

pub interfaces_push : (function : Function) (loops : List Statement) (interfaces : List LoopInterface) (loop : Statement) (i : LoopInterface) → AreInterfaces function loops interfaces →
    i.number ≡ number_of loop → IsLoopInterface function loop i.locals.items → AreInterfaces function (loops ++ loop ∷ []) (interfaces ++ i ∷ [])
interfaces_push function [] [] loop i are number is = (number, is, tt)
interfaces_push function [] (j ∷ js) loop i are number is = absurd are
interfaces_push function (l ∷ ls) [] loop i are number is = absurd are
interfaces_push function (l ∷ ls) (j ∷ js) loop i are number is = (are.0, are.1, interfaces_push function ls js loop i are.2 number is)

-- the first keys, and the next
pub numbers_more : (ks : List Key) (i : ℕ) (d : Key) → i < length ks → numbers_of (take (i + 1) ks) ≡ numbers_of (take i ks) ++ (get_or ks i d).1 ∷ []
numbers_more ks i d low = ap numbers_of (take_more ks i d low) ∙ numbers_push (take i ks) (get_or ks i d)
