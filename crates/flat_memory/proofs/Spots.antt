-- The spots of the locals of a function.
use Rattle.std.proofs.Common.{◌≡◌, ℕ, ◌+◌, ◌-◌, ◌≤◌, List, [], ◌∷◌, ◌++◌, length, take, drop, slice_get, option_map, ap, sym, ◌∙◌, subst, arith, length-append}
use Rattle.std.proofs.lemmas.List.{take_all, take-append-le, drop-append-le, length-drop, nil_from_length, map_push}
use Rattle.rvt_num.specs.declared.values.Value.{Value}
use Rattle.flat_memory.specs.Cells.{shared_out, joined}
use Rattle.flat_memory.specs.declared.entries.Spot.{Spot}
use Rattle.flat_memory.specs.Entries.{counts_of, all_of, spots_from, AreSpots, spot_of}
use Rattle.flat_memory.proofs.Sharing.{spot_at, spots_at, joined_shared}

shared_push : (counts : List ℕ) (cells new : List Value) → length cells ≡ all_of counts → shared_out (counts ++ length new ∷ []) (cells ++ new) ≡ shared_out counts cells ++ new ∷ []
shared_push [] cells new h =
    ap (λ xs. take (length new) (xs ++ new) ∷ []) (nil_from_length cells h)
    ∙ ap (λ xs. xs ∷ []) (take_all (length new) new (omega arith))
shared_push (c ∷ counts) cells new h =
    let back : length (drop c cells) ≡ length cells - c = length-drop c cells in
    ap (λ xs. xs ∷ shared_out (counts ++ length new ∷ []) (drop c (cells ++ new))) (take-append-le c cells new (omega arith))
    ∙ ap (λ xs. take c cells ∷ shared_out (counts ++ length new ∷ []) xs) (drop-append-le c cells new (omega arith))
    ∙ ap (λ ls. take c cells ∷ ls) (shared_push counts (drop c cells) new (omega arith))

spots_push : (counts : List ℕ) (first n : ℕ) → spots_from first (counts ++ n ∷ []) ≡ spots_from first counts ++ spot_at (first + all_of counts) n ∷ []
spots_push [] first n = let q : first ≡ first + 0 = omega arith in ap (λ k. spot_at k n ∷ []) q
spots_push (c ∷ counts) first n =
    let q : first + c + all_of counts ≡ first + (c + all_of counts) = omega arith in
    ap (λ ss. spot_at first c ∷ ss) (spots_push counts (first + c) n ∙ ap (λ k. spots_from (first + c) counts ++ spot_at k n ∷ []) q)

all_push : (counts : List ℕ) (n : ℕ) → all_of (counts ++ n ∷ []) ≡ all_of counts + n
all_push [] n = omega arith
all_push (c ∷ counts) n = let rest : all_of (counts ++ n ∷ []) ≡ all_of counts + n = all_push counts n in omega arith

module _ (spots : List Spot) (cells : List Value) (are : AreSpots spots cells) where
  module _ (new : List Value) where
    counts_pushed : counts_of (spots ++ spot_at (length cells) (length new) ∷ []) ≡ counts_of spots ++ length new ∷ []
    counts_pushed = map_push (λ spot. spot.count) spots (spot_at (length cells) (length new))

    pub with_view : shared_out (counts_of (spots ++ spot_at (length cells) (length new) ∷ [])) (cells ++ new) ≡ shared_out (counts_of spots) cells ++ new ∷ []
    with_view = ap (λ counts. shared_out counts (cells ++ new)) counts_pushed ∙ shared_push (counts_of spots) cells new are.fill

    pub with_spots : AreSpots (spots ++ spot_at (length cells) (length new) ∷ []) (cells ++ new)
    with_spots =
        let at : length cells ≡ 0 + all_of (counts_of spots) = are.fill ∙ (omega arith) in
        record {
          lie =
              ap (λ ss. ss ++ spot_at (length cells) (length new) ∷ []) are.lie
              ∙ ap (λ k. spots_from 0 (counts_of spots) ++ spot_at k (length new) ∷ []) at
              ∙ sym (spots_push (counts_of spots) 0 (length new))
              ∙ ap (spots_from 0) (sym counts_pushed);
          fill =
              length-append cells new ∙ ap (λ k. k + length new) are.fill ∙ sym (all_push (counts_of spots) (length new)) ∙ ap all_of (sym counts_pushed);
        }

  pub spot_in : (number : ℕ) → slice_get spots number ≡ spot_of (shared_out (counts_of spots) cells) number
  spot_in number =
      let q : 0 + length (joined (take number (shared_out (counts_of spots) cells))) ≡ length (joined (take number (shared_out (counts_of spots) cells))) = omega arith in
      let room : all_of (counts_of spots) ≤ length cells = subst (λ n. all_of (counts_of spots) ≤ n) (sym are.fill) (omega arith) in
      ap (λ ss. slice_get ss number) are.lie
      ∙ spots_at (counts_of spots) cells 0 number room
      ∙ ap (λ k. option_map (λ cs. spot_at k (length cs)) (slice_get (shared_out (counts_of spots) cells) number)) q

  pub all_cells : cells ≡ joined (shared_out (counts_of spots) cells)
  all_cells =
      let room : length cells ≤ all_of (counts_of spots) = subst (λ n. n ≤ all_of (counts_of spots)) (sym are.fill) (omega arith) in
      sym (take_all (all_of (counts_of spots)) cells room) ∙ sym (joined_shared (counts_of spots) cells)

  module _ (new : List Value) (spot : Spot) (at : ℕ) (at_end : at ≡ length cells) (is_spot : spot ≡ spot_at at (length new)) (spots' : List Spot) (pushed : spots' ≡ spots ++ spot ∷ []) (cells' : List Value) (added : cells' ≡ cells ++ new) where
    spots_are : spots' ≡ spots ++ spot_at (length cells) (length new) ∷ []
    spots_are = pushed ∙ ap (λ s. spots ++ s ∷ []) (is_spot ∙ ap (λ n. spot_at n (length new)) at_end)

    pub with_are : AreSpots spots' cells'
    with_are =
        subst (λ ss. AreSpots ss cells') (sym spots_are)
        (subst (λ xs. AreSpots (spots ++ spot_at (length cells) (length new) ∷ []) xs) (sym added) (with_spots new))

    pub with_now : shared_out (counts_of spots') cells' ≡ shared_out (counts_of spots) cells ++ new ∷ []
    with_now = ap (λ ss. shared_out (counts_of ss) cells') spots_are ∙ ap (λ xs. shared_out (counts_of (spots ++ spot_at (length cells) (length new) ∷ [])) xs) added ∙ with_view new
