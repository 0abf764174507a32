-- When a table gives the end of what was met in a run.
use Rattle.std.proofs.Common.{◌≡◌, ℕ, List, [], ◌∷◌, ◌++◌, map, Option, sym, ap, ◌∙◌}
use Rattle.std.proofs.lemmas.List.{map-append}
use Rattle.rvt_num.specs.Number.{Number}
use Rattle.rvt_num.specs.declared.values.Trap.{Trap}
use Rattle.rvt_num.specs.declared.values.Value.{Value}
use Rattle.c_meaning.specs.Outcomes.{state, Done, Returning, Trapped, Normally}
use Rattle.c_meaning.specs.Tables.{Directory, Entry, Callee, TrapOf, ResultOf, LocalsOf, call_key, loop_key, call_answer, loop_answer, after_call, after_loop, put_at, under_table}
use Rattle.c_meaning.specs.Logs.{Met, MetCall, MetLoop, WithValue, WithReturn, WithTrap, Given}
use Rattle.c_meaning.specs.Laws.{made}

module _ {X : Type 0} (directory : Directory) (table : List Entry) (earlier : List (Met X)) (before after : X) (locals : List (List Value)) (store : List Value) where
  -- the list of the calls made, with one more
  longer : (met : Met X) → map (made directory) earlier ++ made directory met ∷ [] ≡ map (made directory) (earlier ++ met ∷ [])
  longer met = sym (map-append (made directory) earlier (met ∷ []))

  module _ (function : ℕ) (arguments : List Value) where
    abbrev callee : Callee
    callee = directory.function function

    -- a call whose entry has this result and these cells
    pub call_given : (n : Option Number) (cells store' : List Value) →
        call_answer table callee (call_key callee arguments store) ≡ ResultOf n cells → put_at callee.cells cells store ≡ store' →
        Given (under_table directory table) (map (made directory)) earlier (MetCall function arguments locals store before (WithValue n locals store') after)
    call_given n cells store' answer changed =
        let met = MetCall function arguments locals store before (WithValue n locals store') after in
        ap (λ a. after_call callee a (state locals store (map (made directory) earlier ++ made directory met ∷ []))) answer
        ∙ ap (λ q. Done n (state locals q (map (made directory) earlier ++ made directory met ∷ []))) changed
        ∙ ap (λ l. Done n (state locals store' l)) (longer met)

    pub call_given_trap : (why : Trap) →
        call_answer table callee (call_key callee arguments store) ≡ TrapOf why →
        Given (under_table directory table) (map (made directory)) earlier (MetCall function arguments locals store before (WithTrap why) after)
    call_given_trap why answer =
        let met = MetCall function arguments locals store before (WithTrap why) after in
        ap (λ a. after_call callee a (state locals store (map (made directory) earlier ++ made directory met ∷ []))) answer
        ∙ ap (Trapped why) (longer met)

  module _ (number : ℕ) where
    abbrev loop_callee : Callee
    loop_callee = directory.loop number

    -- a loop statement that ended normally with these locals and cells
    pub loop_given : (given : List (List Value)) (cells store' : List Value) (locals' : List (List Value)) →
        loop_answer table loop_callee (loop_key loop_callee locals store) ≡ LocalsOf given cells →
        put_at loop_callee.interface given locals ≡ locals' → put_at loop_callee.cells cells store ≡ store' →
        Given (under_table directory table) (map (made directory)) earlier (MetLoop number locals store before (WithValue Normally locals' store') after)
    loop_given given cells store' locals' answer moved changed first test round =
        let met = MetLoop number locals store before (WithValue Normally locals' store') after in
        ap (λ a. after_loop loop_callee a (state locals store (map (made directory) earlier ++ made directory met ∷ []))) answer
        ∙ ap (λ q. Done Normally (state q (put_at loop_callee.cells cells store) (map (made directory) earlier ++ made directory met ∷ []))) moved
        ∙ ap (λ q. Done Normally (state locals' q (map (made directory) earlier ++ made directory met ∷ []))) changed
        ∙ ap (λ l. Done Normally (state locals' store' l)) (longer met)

    -- one that left the function with this result
    pub loop_given_return : (n : Option Number) (cells store' : List Value) →
        loop_answer table loop_callee (loop_key loop_callee locals store) ≡ ResultOf n cells → put_at loop_callee.cells cells store ≡ store' →
        Given (under_table directory table) (map (made directory)) earlier (MetLoop number locals store before (WithReturn n store') after)
    loop_given_return n cells store' answer changed first test round =
        let met = MetLoop number locals store before (WithReturn n store') after in
        ap (λ a. after_loop loop_callee a (state locals store (map (made directory) earlier ++ made directory met ∷ []))) answer
        ∙ ap (λ q. Returning n q (map (made directory) earlier ++ made directory met ∷ [])) changed
        ∙ ap (λ l. Returning n store' l) (longer met)

    pub loop_given_trap : (why : Trap) →
        loop_answer table loop_callee (loop_key loop_callee locals store) ≡ TrapOf why →
        Given (under_table directory table) (map (made directory)) earlier (MetLoop number locals store before (WithTrap why) after)
    loop_given_trap why answer first test round =
        let met = MetLoop number locals store before (WithTrap why) after in
        ap (λ a. after_loop loop_callee a (state locals store (map (made directory) earlier ++ made directory met ∷ []))) answer
        ∙ ap (Trapped why) (longer met)
