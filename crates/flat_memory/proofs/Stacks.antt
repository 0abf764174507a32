-- The locals of the activation that runs, in an array of those of all.
use Rattle.std.proofs.Common.{◌≡◌, ℕ, zero, suc, ◌+◌, ◌-◌, ◌<◌, ◌≤◌, ◌^◌, List, [], ◌∷◌, ◌++◌, length, map, take, drop, set, get_or, slice_get, nat_lt, Option, Some, None, option_map, if◌then◌else◌, refl, ap, sym, ◌∙◌, subst, arith, append_assoc, length-append}
use Rattle.std.proofs.lemmas.List.{take_at, drop_at, drop-drop, take-append-drop, length-take-le, length-drop, length-map, length-set, set_past, get_or_past}
use Rattle.std.proofs.Math.Seq.{take-add}
use Rattle.rvt_num.specs.declared.values.Value.{Value}
use Rattle.c_meaning.specs.Stores.{cleared, overwritten}
use Rattle.flat_memory.specs.Cells.{shared_out, joined, with_cleared}
use Rattle.flat_memory.specs.declared.entries.Spot.{Spot}
use Rattle.flat_memory.specs.Entries.{all_of, spot_of}
use Rattle.flat_memory.specs.Locals.{Stacked, view_of, HasRoom}
use Rattle.flat_memory.proofs.Parts.{set_cell, cleared_part}
use Rattle.flat_memory.proofs.Sharing.{shared_joined, joined_shared, joined_length, spot_at, local_at, local_inside, front_kept, back_written, overwritten_length, local_written}

slice_none : {A : Type 0} (xs : List A) (n : ℕ) → slice_get xs n ≡ None → length xs ≤ n
slice_none [] n h = omega arith
slice_none (x ∷ xs) zero h = absurd (cc)
slice_none (x ∷ xs) (suc n) h = let below : length xs ≤ n = slice_none xs n h in omega arith

spot_is : (f : List Value → Spot) (o : Option (List Value)) (spot : Spot) → Some spot ≡ option_map f o → (own : List Value) × (o ≡ Some own) × (spot ≡ f own)
spot_is f None spot h = absurd (cc)
spot_is f (Some own) spot h = (own, refl, cc)

no_spot : (f : List Value → Spot) (o : Option (List Value)) → None ≡ option_map f o → o ≡ None
no_spot f None h = refl
no_spot f (Some own) h = absurd (cc)

shared_length : (counts : List ℕ) (cells : List Value) → length (shared_out counts cells) ≡ length counts
shared_length [] cells = refl
shared_length (n ∷ counts) cells = ap (λ k. suc k) (shared_length counts (drop n cells))

abbrev pub stacked : List (List (List Value)) → List Value → List (List Value) → ℕ → Stacked
stacked entries below here room = record { entries = entries; below = below; here = here; room = room }

module _ (entries : List (List (List Value))) (cells : List Value) (base function : ℕ) where
  abbrev its : List (List Value)
  its = get_or entries function []

  abbrev here : List (List Value)
  here = shared_out (map length its) (drop base cells)

  here_length : length here ≡ length its
  here_length = shared_length (map length its) (drop base cells) ∙ length-map its (λ t. length t)

  past : (number : ℕ) → None ≡ spot_of its number → length here ≤ number
  past number h =
      subst (λ k. k ≤ number) (sym here_length)
      (slice_none its number (no_spot (λ own. spot_at (length (joined (take number its))) (length own)) (slice_get its number) h))

  pub no_local : (number : ℕ) → None ≡ spot_of its number → [] ≡ get_or here number []
  no_local number h = sym (get_or_past here number [] (past number h))

  pub not_set : (number : ℕ) → None ≡ spot_of its number → (cs : List Value) → view_of entries cells base function ≡ stacked entries (take base cells) (set here number cs) (length cells)
  not_set number h cs = ap (λ ls. stacked entries (take base cells) ls (length cells)) (sym (set_past here number cs (past number h)))

  pub joined_here : base + length (joined its) ≤ length cells → joined here ≡ take (length (joined its)) (drop base cells)
  joined_here room = joined_shared (map length its) (drop base cells) ∙ ap (λ n. take n (drop base cells)) (sym (joined_length its))

  module _ (number : ℕ) (spot : Spot) (h : Some spot ≡ spot_of its number) (room : base + length (joined its) ≤ length cells) where
    found : (own : List Value) × (slice_get its number ≡ Some own) × (spot ≡ spot_at (length (joined (take number its))) (length own))
    found = spot_is (λ own. spot_at (length (joined (take number its))) (length own)) (slice_get its number) spot h

    pub local_is : take spot.count (drop (base + spot.first) cells) ≡ get_or here number []
    local_is =
        ap (take spot.count) (sym (drop-drop spot.first base cells))
        ∙ subst (λ s. take s.count (drop s.first (drop base cells)) ≡ get_or here number []) (sym found.2) (sym (local_at its (drop base cells) number found.0 found.1))

    pub inside : base + spot.first + spot.count ≤ length cells
    inside =
        let within : length (joined (take number its)) + length found.0 ≤ length (joined its) = local_inside its number found.0 found.1 in
        let first : spot.first ≡ length (joined (take number its)) = ap (λ s. s.first) found.2 in
        let count : spot.count ≡ length found.0 = ap (λ s. s.count) found.2 in
        omega arith

    pub own_length : length (get_or here number []) ≡ spot.count
    own_length =
        let q : length (drop (base + spot.first) cells) ≡ length cells - (base + spot.first) = length-drop (base + spot.first) cells in
        let within : base + spot.first + spot.count ≤ length cells = inside in
        ap (λ t. length t) (sym local_is) ∙ length-take-le spot.count (drop (base + spot.first) cells) (omega arith)

    module _ (cs : List Value) (same : length cs ≡ spot.count) where
      ends : base + spot.first + length cs ≤ length cells
      ends = subst (λ k. base + spot.first + k ≤ length cells) (sym same) inside

      here_written : shared_out (map length its) (overwritten (drop base cells) spot.first cs) ≡ set here number cs
      here_written =
          let back : length (drop base cells) ≡ length cells - base = length-drop base cells in
          ap (λ k. shared_out (map length its) (overwritten (drop base cells) k cs)) (ap (λ s. s.first) found.2)
          ∙ local_written its (drop base cells) number found.0 cs found.1 (same ∙ ap (λ s. s.count) found.2) (omega arith)

      pub written : view_of entries (overwritten cells (base + spot.first) cs) base function ≡ stacked entries (take base cells) (set here number cs) (length cells)
      written =
          ap (λ t. stacked entries t (shared_out (map length its) (drop base (overwritten cells (base + spot.first) cs))) (length (overwritten cells (base + spot.first) cs)))
          (front_kept base spot.first cells cs ends)
          ∙ ap (λ t. stacked entries (take base cells) (shared_out (map length its) t) (length (overwritten cells (base + spot.first) cs)))
          (back_written base spot.first cells cs ends)
          ∙ ap (λ t. stacked entries (take base cells) t (length (overwritten cells (base + spot.first) cs))) here_written
          ∙ ap (λ n. stacked entries (take base cells) (set here number cs) n) (overwritten_length cells (base + spot.first) cs ends)

      pub still_room : length cells < 2 ^ 32 → HasRoom entries (overwritten cells (base + spot.first) cs) base function
      still_room short =
          let q : length (overwritten cells (base + spot.first) cs) ≡ length cells = overwritten_length cells (base + spot.first) cs ends in
          record { inside = subst (λ n. base + length (joined its) ≤ n) (sym q) room; short = subst (λ n. n < 2 ^ 32) (sym q) short }

    abbrev own : List Value
    own = get_or here number []

    -- one cell of it
    pub set_is : (cell : ℕ) (v : Value) → (if nat_lt cell spot.count then set cells (base + spot.first + cell) v else cells) ≡ overwritten cells (base + spot.first) (set own cell v)
    set_is cell v = sym (set_cell (base + spot.first) spot.count cells cell v) ∙ ap (λ t. overwritten cells (base + spot.first) (set t cell v)) local_is

    pub set_length : (cell : ℕ) (v : Value) → length (set own cell v) ≡ spot.count
    set_length cell v = length-set own cell v ∙ own_length

    -- all of them
    pub cleared_is : with_cleared (base + spot.first) spot.count cells ≡ overwritten cells (base + spot.first) (map cleared own)
    cleared_is = sym (cleared_part (base + spot.first) spot.count cells) ∙ ap (λ t. overwritten cells (base + spot.first) (map cleared t)) local_is

    pub cleared_length : length (map cleared own) ≡ spot.count
    cleared_length = length-map own cleared ∙ own_length

-- ---- activations begin and end

module _ (cells image : List Value) (at : ℕ) (ends : at + length image ≤ length cells) where
  front_length : length (take at cells) ≡ at
  front_length = length-take-le at cells (omega arith)

  front_is : take at (overwritten cells at image) ≡ take at cells
  front_is = ap (take at) (append_assoc (take at cells) image (drop (at + length image) cells)) ∙ take_at (take at cells) (image ++ drop (at + length image) cells) at front_length

  back_is : drop at (overwritten cells at image) ≡ image ++ drop (at + length image) cells
  back_is = ap (drop at) (append_assoc (take at cells) image (drop (at + length image) cells)) ∙ drop_at (take at cells) (image ++ drop (at + length image) cells) at front_length

module _ (entries : List (List (List Value))) (cells : List Value) (base function : ℕ) (room : base + length (joined (get_or entries function [])) ≤ length cells) (next : ℕ) where
  abbrev old : List (List Value)
  old = shared_out (map length (get_or entries function [])) (drop base cells)

  abbrev size : ℕ
  size = length (joined (get_or entries function []))

  abbrev image : List Value
  image = joined (get_or entries next [])

  below_is : take (base + size) cells ≡ take base cells ++ joined old
  below_is = take-add base size cells ∙ ap (λ t. take base cells ++ t) (sym (joined_here entries cells base function room))

  old_length : length (joined old) ≡ size
  old_length =
      let back : length (drop base cells) ≡ length cells - base = length-drop base cells in
      ap (λ t. length t) (joined_here entries cells base function room) ∙ length-take-le size (drop base cells) (omega arith)

  pub there_is_room : length (take base cells) + length (joined old) + length image ≤ length cells → base + size + length image ≤ length cells
  there_is_room h =
      let front : length (take base cells) ≡ base = length-take-le base cells (omega arith) in
      let all : length (joined old) ≡ size = old_length in
      omega arith

  module _ (ends : base + size + length image ≤ length cells) where
    pub entered_is : view_of entries (overwritten cells (base + size) image) (base + size) next ≡ stacked entries (take base cells ++ joined old) (get_or entries next []) (length cells)
    entered_is =
        ap (λ t. stacked entries t (shared_out (map length (get_or entries next [])) (drop (base + size) (overwritten cells (base + size) image))) (length (overwritten cells (base + size) image)))
        (front_is cells image (base + size) ends ∙ below_is)
        ∙ ap (λ t. stacked entries (take base cells ++ joined old) (shared_out (map length (get_or entries next [])) t) (length (overwritten cells (base + size) image)))
        (back_is cells image (base + size) ends)
        ∙ ap (λ t. stacked entries (take base cells ++ joined old) t (length (overwritten cells (base + size) image)))
        (shared_joined (get_or entries next []) (drop (base + size + length image) cells))
        ∙ ap (λ n. stacked entries (take base cells ++ joined old) (get_or entries next []) n) (overwritten_length cells (base + size) image ends)

    pub entered_room : length cells < 2 ^ 32 → HasRoom entries (overwritten cells (base + size) image) (base + size) next
    entered_room short =
        let q : length (overwritten cells (base + size) image) ≡ length cells = overwritten_length cells (base + size) image ends in
        record { inside = subst (λ n. base + size + length image ≤ n) (sym q) ends; short = subst (λ n. n < 2 ^ 32) (sym q) short }

  -- a function that there is not has no locals
  pub entered_none : get_or entries next [] ≡ [] → view_of entries cells (base + size) next ≡ stacked entries (take base cells ++ joined old) (get_or entries next []) (length cells)
  entered_none none =
      ap (λ t. stacked entries t (shared_out (map length (get_or entries next [])) (drop (base + size) cells)) (length cells)) below_is
      ∙ ap (λ ls. stacked entries (take base cells ++ joined old) (shared_out (map length ls) (drop (base + size) cells)) (length cells)) none
      ∙ ap (λ ls. stacked entries (take base cells ++ joined old) ls (length cells)) (sym none)

  pub left_is : length image ≤ length (take base cells) → (below : List Value) (ls : List (List Value)) → map length ls ≡ map length (get_or entries next []) → take base cells ≡ below ++ joined ls →
      view_of entries cells (base - length image) next ≡ stacked entries below ls (length cells)
  left_is enough below ls counts whole =
      let front : length (take base cells) ≡ base = length-take-le base cells (omega arith) in
      let size_is : length (joined ls) ≡ length image = joined_length ls ∙ ap all_of counts ∙ sym (joined_length (get_or entries next [])) in
      let both : length (below ++ joined ls) ≡ length below + length (joined ls) = length-append below (joined ls) in
      let all : base ≡ length (below ++ joined ls) = sym front ∙ ap (λ t. length t) whole in
      let at : base - length image ≡ length below = omega arith in
      let cells_are : cells ≡ below ++ (joined ls ++ drop base cells) =
      sym (take-append-drop base cells) ∙ ap (λ t. t ++ drop base cells) whole ∙ append_assoc below (joined ls) (drop base cells) in
      ap (λ n. view_of entries cells n next) at
      ∙ ap (λ t. stacked entries t (shared_out (map length (get_or entries next [])) (drop (length below) cells)) (length cells))
      (ap (take (length below)) cells_are ∙ take_at below (joined ls ++ drop base cells) (length below) refl)
      ∙ ap (λ t. stacked entries below (shared_out (map length (get_or entries next [])) t) (length cells))
      (ap (drop (length below)) cells_are ∙ drop_at below (joined ls ++ drop base cells) (length below) refl)
      ∙ ap (λ counts. stacked entries below (shared_out counts (joined ls ++ drop base cells)) (length cells)) (sym counts)
      ∙ ap (λ t. stacked entries below t (length cells)) (shared_joined ls (drop base cells))

  pub left_room : length image ≤ length (take base cells) → length cells < 2 ^ 32 → HasRoom entries cells (base - length image) next
  left_room enough short =
      let front : length (take base cells) ≡ base = length-take-le base cells (omega arith) in
      record { inside = omega arith; short = short }
