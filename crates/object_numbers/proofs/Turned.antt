-- Lists that are moved from the end of one to the end of another.
use Rattle.std.proofs.Common.{◌≡◌, List, [], ◌∷◌, ◌++◌, map, reverse, refl, sym, ap, ◌∙◌}
use Rattle.std.proofs.lemmas.List.{append_assoc, map-append, reverse-append}

moved : {Y : Type 0} (xs ys : List Y) (y : Y) → (xs ++ (y ∷ [])) ++ reverse ys ≡ xs ++ reverse (ys ++ (y ∷ []))
moved xs ys y = append_assoc xs (y ∷ []) (reverse ys) ∙ ap (λ zs. xs ++ zs) (sym (reverse-append ys (y ∷ [])))

-- the last that is left is moved behind those that are done
pub one_back : {Y : Type 0} (all done done_then left left_then : List Y) (y : Y) → done ++ reverse left ≡ all → left ≡ left_then ++ (y ∷ []) → done_then ≡ done ++ (y ∷ []) →
    done_then ++ reverse left_then ≡ all
one_back all done done_then left left_then y so popped pushed = ap (λ zs. zs ++ reverse left_then) pushed ∙ (moved done left_then y ∙ (ap (λ zs. done ++ reverse zs) (sym popped) ∙ so))

-- the last that is left is changed and moved behind those that are done
pub one_turned : {X Y : Type 0} (f : X → Y) (all : List Y) (left left_then : List X) (done done_then : List Y) (x : X) → map f left ++ reverse done ≡ all → left ≡ left_then ++ (x ∷ []) → done_then ≡ done ++ (f x ∷ []) →
    map f left_then ++ reverse done_then ≡ all
one_turned f all left left_then done done_then x so popped pushed =
    ap (λ zs. map f left_then ++ reverse zs) pushed
    ∙ (sym (moved (map f left_then) done (f x)) ∙ (ap (λ zs. zs ++ reverse done) (sym (map-append f left_then (x ∷ []))) ∙ (ap (λ zs. map f zs ++ reverse done) (sym popped) ∙ so)))

-- the same where both lists are seen by what stands for their members
pub seen_after : {X Y : Type 0} (f : X → Y) (later before : List X) (x : X) → later ≡ before ++ (x ∷ []) → map f later ≡ map f before ++ (f x ∷ [])
seen_after f later before x pushed = ap (map f) pushed ∙ map-append f before (x ∷ [])
