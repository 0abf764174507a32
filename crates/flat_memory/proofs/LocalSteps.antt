-- What the calls on locals do to what contracts see of them.
use Rattle.std.proofs.Common.{◌≡◌, ℕ, zero, suc, ◌+◌, ◌-◌, ◌<◌, ◌≤◌, ◌^◌, List, [], ◌∷◌, ◌++◌, length, map, take, drop, set, get_or, slice_get, nat_lt, Some, None, if◌then◌else◌, refl, ap, sym, ◌∙◌, subst, arith}
use Rattle.std.proofs.lemmas.List.{get_or_past, length-take-le}
use Rattle.rvt_num.specs.declared.values.Value.{Value}
use Rattle.c_meaning.specs.Stores.{cleared, overwritten}
use Rattle.flat_memory.specs.Cells.{shared_out, joined, with_cleared}
use Rattle.flat_memory.specs.declared.entries.Spot.{Spot}
use Rattle.flat_memory.specs.Entries.{spot_of}
use Rattle.flat_memory.specs.Locals.{Stacked, entered, view_of, HasRoom}
use Rattle.flat_memory.proofs.Stacks.{stacked, inside, own_length, local_is, no_local, not_set, written, still_room, set_is, set_length, cleared_is, cleared_length, there_is_room, entered_is, entered_room, left_is, left_room}

-- ---- the locals of a function by its number

pub found_is : (entries : List (List (List Value))) (function : ℕ) (entry : List (List Value)) → Some entry ≡ slice_get entries function → get_or entries function [] ≡ entry
found_is [] function entry h = absurd (cc)
found_is (first ∷ entries) zero entry h = cc
found_is (first ∷ entries) (suc function) entry h = found_is entries function entry h

pub missing_is : (entries : List (List (List Value))) (function : ℕ) → None ≡ slice_get entries function → get_or entries function [] ≡ []
missing_is [] function h = refl
missing_is (first ∷ entries) zero h = absurd (cc)
missing_is (first ∷ entries) (suc function) h = missing_is entries function h

-- no function
nobody_is : (entries : List (List (List Value))) (none : ℕ) → none ≡ length entries → get_or entries none [] ≡ []
nobody_is entries none is = get_or_past entries none [] (subst (λ k. length entries ≤ k) (sym is) (omega arith))

pub nobody : (entries : List (List (List Value))) (cells : List Value) (none : ℕ) → none ≡ length entries → view_of entries cells 0 none ≡ stacked entries [] [] (length cells)
nobody entries cells none is = ap (λ ls. stacked entries [] (shared_out (map length ls) cells) (length cells)) (nobody_is entries none is)

pub nobody_room : (entries : List (List (List Value))) (cells : List Value) (none : ℕ) → none ≡ length entries → length cells < 2 ^ 32 → HasRoom entries cells 0 none
nobody_room entries cells none is short =
    record { inside = subst (λ ls. 0 + length (joined ls) ≤ length cells) (sym (nobody_is entries none is)) (omega arith); short = short }

-- ---- what is seen

module _ (entries : List (List (List Value))) (cells : List Value) (base function : ℕ) (now : Stacked) (view : view_of entries cells base function ≡ now) (room : HasRoom entries cells base function) where
  module _ (list : List (List (List Value))) (same : list ≡ entries) (number : ℕ) where
    module _ (spot : Spot) (h : Some spot ≡ spot_of (get_or list function []) number) where
      there : Some spot ≡ spot_of (get_or entries function []) number
      there = subst (λ es. Some spot ≡ spot_of (get_or es function []) number) same h

      pub ends : base + spot.first + spot.count ≤ length cells
      ends = inside entries cells base function number spot there room.inside

      pub local_now : take spot.count (drop (base + spot.first) cells) ≡ get_or now.here number []
      local_now = local_is entries cells base function number spot there room.inside ∙ ap (λ it. get_or it.here number []) view

      own_now : length (get_or now.here number []) ≡ spot.count
      own_now = subst (λ it. length (get_or it.here number []) ≡ spot.count) view (own_length entries cells base function number spot there room.inside)

      module _ (cs new : List Value) (fit : length cs ≡ spot.count) (is : new ≡ overwritten cells (base + spot.first) cs) where
        new_view : view_of entries new base function ≡ stacked now.entries now.below (set now.here number cs) now.room
        new_view =
            ap (λ xs. view_of entries xs base function) is
            ∙ written entries cells base function number spot there room.inside cs fit
            ∙ ap (λ it. stacked it.entries it.below (set it.here number cs) it.room) view

        new_room : HasRoom entries new base function
        new_room = subst (λ xs. HasRoom entries xs base function) (sym is) (still_room entries cells base function number spot there room.inside cs fit room.short)

      pub put_ends : (cs : List Value) → length cs ≡ length (get_or now.here number []) → base + spot.first + length cs ≤ length cells
      put_ends cs fit = subst (λ k. base + spot.first + k ≤ length cells) (sym (fit ∙ own_now)) ends

      pub put_now : (cs new : List Value) → length cs ≡ length (get_or now.here number []) → new ≡ overwritten cells (base + spot.first) cs →
          view_of entries new base function ≡ stacked now.entries now.below (set now.here number cs) now.room
      put_now cs new fit is = new_view cs new (fit ∙ own_now) is

      pub put_room : (cs new : List Value) → length cs ≡ length (get_or now.here number []) → new ≡ overwritten cells (base + spot.first) cs → HasRoom entries new base function
      put_room cs new fit is = new_room cs new (fit ∙ own_now) is

      pub write_now : (cell : ℕ) (v : Value) (new : List Value) → new ≡ (if nat_lt cell spot.count then set cells (base + spot.first + cell) v else cells) →
          view_of entries new base function ≡ stacked now.entries now.below (set now.here number (set (get_or now.here number []) cell v)) now.room
      write_now cell v new is =
          subst (λ own. view_of entries new base function ≡ stacked now.entries now.below (set now.here number (set own cell v)) now.room) (ap (λ it. get_or it.here number []) view)
          (new_view (set (get_or (view_of entries cells base function).here number []) cell v) new (set_length entries cells base function number spot there room.inside cell v)
          (is ∙ set_is entries cells base function number spot there room.inside cell v))

      pub write_room : (cell : ℕ) (v : Value) (new : List Value) → new ≡ (if nat_lt cell spot.count then set cells (base + spot.first + cell) v else cells) → HasRoom entries new base function
      write_room cell v new is =
          new_room (set (get_or (view_of entries cells base function).here number []) cell v) new (set_length entries cells base function number spot there room.inside cell v)
          (is ∙ set_is entries cells base function number spot there room.inside cell v)

      pub clear_now : (new : List Value) → new ≡ with_cleared (base + spot.first) spot.count cells →
          view_of entries new base function ≡ stacked now.entries now.below (set now.here number (map cleared (get_or now.here number []))) now.room
      clear_now new is =
          subst (λ own. view_of entries new base function ≡ stacked now.entries now.below (set now.here number (map cleared own)) now.room) (ap (λ it. get_or it.here number []) view)
          (new_view (map cleared (get_or (view_of entries cells base function).here number [])) new (cleared_length entries cells base function number spot there room.inside)
          (is ∙ cleared_is entries cells base function number spot there room.inside))

      pub clear_room : (new : List Value) → new ≡ with_cleared (base + spot.first) spot.count cells → HasRoom entries new base function
      clear_room new is =
          new_room (map cleared (get_or (view_of entries cells base function).here number [])) new (cleared_length entries cells base function number spot there room.inside)
          (is ∙ cleared_is entries cells base function number spot there room.inside)

    module _ (h : None ≡ spot_of (get_or list function []) number) where
      nowhere : None ≡ spot_of (get_or entries function []) number
      nowhere = subst (λ es. None ≡ spot_of (get_or es function []) number) same h

      pub none_local : [] ≡ get_or now.here number []
      none_local = no_local entries cells base function number nowhere ∙ ap (λ it. get_or it.here number []) view

      pub none_set : (cs : List Value) → now ≡ stacked now.entries now.below (set now.here number cs) now.room
      none_set cs = subst (λ it. it ≡ stacked it.entries it.below (set it.here number cs) it.room) view (not_set entries cells base function number nowhere cs)

  -- ---- activations

  abbrev size : ℕ
  size = length (joined (get_or entries function []))

  module _ (next : ℕ) where
    abbrev image : List Value
    image = joined (get_or entries next [])

    pub enter_ends : length now.below + length (joined now.here) + length (joined (get_or now.entries next [])) ≤ now.room → base + size + length image ≤ length cells
    enter_ends h =
        there_is_room entries cells base function room.inside next
        (subst (λ it. length it.below + length (joined it.here) + length (joined (get_or it.entries next [])) ≤ it.room) (sym view) h)

    pub enter_now : base + size + length image ≤ length cells → (new : List Value) → new ≡ overwritten cells (base + size) image → view_of entries new (base + size) next ≡ entered next now
    enter_now fit new is =
        ap (λ xs. view_of entries xs (base + size) next) is ∙ entered_is entries cells base function room.inside next fit ∙ ap (entered next) view

    pub enter_room : base + size + length image ≤ length cells → (new : List Value) → new ≡ overwritten cells (base + size) image → HasRoom entries new (base + size) next
    enter_room fit new is = subst (λ xs. HasRoom entries xs (base + size) next) (sym is) (entered_room entries cells base function room.inside next fit room.short)

    pub leave_enough : length (joined (get_or now.entries next [])) ≤ length now.below → length image ≤ length (take base cells)
    leave_enough h = subst (λ it. length (joined (get_or it.entries next [])) ≤ length it.below) (sym view) h

    pub leave_room : length image ≤ length (take base cells) → HasRoom entries cells (base - length image) next
    leave_room enough = left_room entries cells base function room.inside next enough room.short

    pub leave_now : length image ≤ length (take base cells) → (below : List Value) (ls : List (List Value)) → map length ls ≡ map length (get_or now.entries next []) → now.below ≡ below ++ joined ls →
        view_of entries cells (base - length image) next ≡ stacked now.entries below ls now.room
    leave_now enough below ls counts whole =
        left_is entries cells base function room.inside next enough below ls
        (subst (λ it. map length ls ≡ map length (get_or it.entries next [])) (sym view) counts)
        (subst (λ it. it.below ≡ below ++ joined ls) (sym view) whole)
        ∙ ap (λ it. stacked it.entries below ls it.room) view

    module _ (count : ℕ) (n : count ≡ size) (own : List Value) (is_image : own ≡ image) (h : length now.below + length (joined now.here) + length (joined (get_or now.entries next [])) ≤ now.room) where
      pub entering_ends : base + count + length own ≤ length cells
      entering_ends =
          subst (λ k. base + k + length own ≤ length cells) (sym n) (subst (λ xs. base + size + length xs ≤ length cells) (sym is_image) (enter_ends h))

      pub entering_now : (new : List Value) → new ≡ overwritten cells (base + count) own → view_of entries new (base + count) next ≡ entered next now
      entering_now new is =
          subst (λ k. new ≡ overwritten cells (base + k) own → view_of entries new (base + k) next ≡ entered next now) (sym n)
          (λ e. enter_now (enter_ends h) new (e ∙ ap (overwritten cells (base + size)) is_image)) is

      pub entering_room : (new : List Value) → new ≡ overwritten cells (base + count) own → HasRoom entries new (base + count) next
      entering_room new is =
          subst (λ k. new ≡ overwritten cells (base + k) own → HasRoom entries new (base + k) next) (sym n)
          (λ e. enter_room (enter_ends h) new (e ∙ ap (overwritten cells (base + size)) is_image)) is

    module _ (count : ℕ) (n : count ≡ length image) (h : length (joined (get_or now.entries next [])) ≤ length now.below) where
      pub leaving_fits : count ≤ base
      leaving_fits =
          let enough : length image ≤ length (take base cells) = leave_enough h in
          let front : length (take base cells) ≡ base = length-take-le base cells (let inside = room.inside in omega (arith, inside)) in
          omega (arith, n, enough, front)

      pub leaving_room : HasRoom entries cells (base - count) next
      leaving_room = subst (λ k. HasRoom entries cells (base - k) next) (sym n) (leave_room (leave_enough h))

      pub leaving_now : (below : List Value) (ls : List (List Value)) → map length ls ≡ map length (get_or now.entries next []) → now.below ≡ below ++ joined ls →
          view_of entries cells (base - count) next ≡ stacked now.entries below ls now.room
      leaving_now below ls counts whole = ap (λ k. view_of entries cells (base - k) next) n ∙ leave_now (leave_enough h) below ls counts whole

  pub reset_now : (none : ℕ) → none ≡ length entries → view_of entries cells 0 none ≡ stacked now.entries [] [] now.room
  reset_now none is = nobody entries cells none is ∙ ap (λ it. stacked it.entries [] [] it.room) view

  pub reset_room : (none : ℕ) → none ≡ length entries → HasRoom entries cells 0 none
  reset_room none is = nobody_room entries cells none is room.short
