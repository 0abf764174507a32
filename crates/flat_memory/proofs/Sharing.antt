-- Cells that are shared out to variables.
use Rattle.std.proofs.Common.{◌≡◌, ℕ, zero, suc, ◌+◌, ◌-◌, ◌≤◌, List, [], ◌∷◌, ◌++◌, length, map, take, drop, set, get_or, slice_get, Some, option_map, refl, ap, sym, ◌∙◌, subst, arith, append_assoc, length-append}
use Rattle.std.proofs.lemmas.List.{take_at, drop_at, drop-drop, length-take-le, length-drop, take-append-le, drop-append-le, take-take, drop-take}
use Rattle.std.proofs.Math.Seq.{take-add}
use Rattle.rvt_num.specs.declared.values.Value.{Value}
use Rattle.c_meaning.specs.Stores.{overwritten}
use Rattle.flat_memory.specs.Cells.{shared_out, joined}
use Rattle.flat_memory.specs.declared.entries.Spot.{Spot}
use Rattle.flat_memory.specs.Entries.{all_of, spots_from}

-- ---- what is joined and shared out again

pub shared_joined : (locals : List (List Value)) (rest : List Value) → shared_out (map length locals) (joined locals ++ rest) ≡ locals
shared_joined [] rest = refl
shared_joined (cells ∷ locals) rest =
    let e : (cells ++ joined locals) ++ rest ≡ cells ++ (joined locals ++ rest) = append_assoc cells (joined locals) rest in
    ap (λ xs. take (length cells) xs ∷ shared_out (map length locals) (drop (length cells) xs)) e
    ∙ ap (λ xs. xs ∷ shared_out (map length locals) (drop (length cells) (cells ++ (joined locals ++ rest)))) (take_at cells (joined locals ++ rest) (length cells) refl)
    ∙ ap (λ xs. cells ∷ shared_out (map length locals) xs) (drop_at cells (joined locals ++ rest) (length cells) refl)
    ∙ ap (λ ls. cells ∷ ls) (shared_joined locals rest)

pub joined_shared : (counts : List ℕ) (cells : List Value) → joined (shared_out counts cells) ≡ take (all_of counts) cells
joined_shared [] cells = refl
joined_shared (n ∷ counts) cells = ap (λ xs. take n cells ++ xs) (joined_shared counts (drop n cells)) ∙ sym (take-add n (all_of counts) cells)

pub counts_shared : (counts : List ℕ) (cells : List Value) → all_of counts ≤ length cells → map length (shared_out counts cells) ≡ counts
counts_shared [] cells h = refl
counts_shared (n ∷ counts) cells h =
    let q : length (drop n cells) ≡ length cells - n = length-drop n cells in
    ap (λ k. k ∷ map length (shared_out counts (drop n cells))) (length-take-le n cells (omega arith))
    ∙ ap (λ ks. n ∷ ks) (counts_shared counts (drop n cells) (omega arith))

pub joined_length : (locals : List (List Value)) → length (joined locals) ≡ all_of (map length locals)
joined_length [] = refl
joined_length (cells ∷ locals) = length-append cells (joined locals) ∙ ap (λ k. length cells + k) (joined_length locals)

-- ---- where a local lies

abbrev pub spot_at : ℕ → ℕ → Spot
spot_at first count = record { first = first; count = count }

pub spots_at : (counts : List ℕ) (cells : List Value) (first n : ℕ) → all_of counts ≤ length cells →
    slice_get (spots_from first counts) n ≡ option_map (λ cs. spot_at (first + length (joined (take n (shared_out counts cells)))) (length cs)) (slice_get (shared_out counts cells) n)
spots_at [] cells first n h = refl
spots_at (c ∷ counts) cells first zero h =
    let q : first ≡ first + 0 = omega arith in
    ap (λ k. Some (spot_at k c)) q ∙ ap (λ k. Some (spot_at (first + 0) k)) (sym (length-take-le c cells (omega arith)))
spots_at (c ∷ counts) cells first (suc n) h =
    let rest : List Value = drop c cells in
    let behind : length rest ≡ length cells - c = length-drop c cells in
    let front : length (take c cells) ≡ c = length-take-le c cells (omega arith) in
    let both : length (take c cells ++ joined (take n (shared_out counts rest))) ≡ length (take c cells) + length (joined (take n (shared_out counts rest))) = length-append (take c cells) (joined (take n (shared_out counts rest))) in
    let q : first + c + length (joined (take n (shared_out counts rest))) ≡ first + length (take c cells ++ joined (take n (shared_out counts rest))) = omega arith in
    spots_at counts rest (first + c) n (omega arith)
    ∙ ap (λ k. option_map (λ cs. spot_at k (length cs)) (slice_get (shared_out counts rest) n)) q

-- the cells of a local among those of its activation
pub local_at : (locals : List (List Value)) (cells : List Value) (n : ℕ) (its : List Value) → slice_get locals n ≡ Some its →
    get_or (shared_out (map length locals) cells) n [] ≡ take (length its) (drop (length (joined (take n locals))) cells)
local_at [] cells n its h = absurd (cc)
local_at (first ∷ locals) cells zero its h = let e : first ≡ its = cc in ap (λ cs. take (length cs) cells) e
local_at (first ∷ locals) cells (suc n) its h =
    local_at locals (drop (length first) cells) n its h
    ∙ ap (take (length its)) (drop-drop (length (joined (take n locals))) (length first) cells)
    ∙ ap (λ k. take (length its) (drop k cells)) (sym (length-append first (joined (take n locals))))

pub local_inside : (locals : List (List Value)) (n : ℕ) (its : List Value) → slice_get locals n ≡ Some its →
    length (joined (take n locals)) + length its ≤ length (joined locals)
local_inside [] n its h = absurd (cc)
local_inside (first ∷ locals) zero its h =
    let e : first ≡ its = cc in
    let q : length (first ++ joined locals) ≡ length first + length (joined locals) = length-append first (joined locals) in
    subst (λ cs. 0 + length cs ≤ length (first ++ joined locals)) e (omega arith)
local_inside (first ∷ locals) (suc n) its h =
    let all : length (first ++ joined locals) ≡ length first + length (joined locals) = length-append first (joined locals) in
    let part : length (first ++ joined (take n locals)) ≡ length first + length (joined (take n locals)) = length-append first (joined (take n locals)) in
    let rest : length (joined (take n locals)) + length its ≤ length (joined locals) = local_inside locals n its h in
    omega arith

-- ---- cells that are written behind others

module _ (k f : ℕ) (xs cs : List Value) (inside : k + f + length cs ≤ length xs) where
  front_length : length (take (k + f) xs) ≡ k + f
  front_length = length-take-le (k + f) xs (omega arith)

  pub front_kept : take k (overwritten xs (k + f) cs) ≡ take k xs
  front_kept =
      let front : length (take (k + f) xs) ≡ k + f = front_length in
      ap (take k) (append_assoc (take (k + f) xs) cs (drop (k + f + length cs) xs))
      ∙ take-append-le k (take (k + f) xs) (cs ++ drop (k + f + length cs) xs) (omega arith)
      ∙ take-take k (k + f) xs (omega arith)

  pub back_written : drop k (overwritten xs (k + f) cs) ≡ overwritten (drop k xs) f cs
  back_written =
      let front : length (take (k + f) xs) ≡ k + f = front_length in
      let q : k + f + length cs ≡ k + (f + length cs) = omega arith in
      ap (drop k) (append_assoc (take (k + f) xs) cs (drop (k + f + length cs) xs))
      ∙ drop-append-le k (take (k + f) xs) (cs ++ drop (k + f + length cs) xs) (omega arith)
      ∙ ap (λ t. t ++ (cs ++ drop (k + f + length cs) xs)) (drop-take k f xs)
      ∙ ap (λ n. take f (drop k xs) ++ (cs ++ drop n xs)) q
      ∙ ap (λ t. take f (drop k xs) ++ (cs ++ t)) (sym (drop-drop (f + length cs) k xs))
      ∙ sym (append_assoc (take f (drop k xs)) cs (drop (f + length cs) (drop k xs)))

pub overwritten_length : (xs : List Value) (f : ℕ) (cs : List Value) → f + length cs ≤ length xs → length (overwritten xs f cs) ≡ length xs
overwritten_length xs f cs h =
    let front : length (take f xs) ≡ f = length-take-le f xs (omega arith) in
    let back : length (drop (f + length cs) xs) ≡ length xs - (f + length cs) = length-drop (f + length cs) xs in
    let both : length (take f xs ++ cs) ≡ length (take f xs) + length cs = length-append (take f xs) cs in
    length-append (take f xs ++ cs) (drop (f + length cs) xs) ∙ (omega arith)

-- a local has other cells, as many as it had
pub local_written : (locals : List (List Value)) (cells : List Value) (n : ℕ) (its cs : List Value) → slice_get locals n ≡ Some its → length cs ≡ length its →
    length (joined locals) ≤ length cells →
    shared_out (map length locals) (overwritten cells (length (joined (take n locals))) cs) ≡ set (shared_out (map length locals) cells) n cs
local_written [] cells n its cs h same room = absurd (cc)
local_written (first ∷ locals) cells zero its cs h same room =
    let e : first ≡ its = cc in
    let k : length cs ≡ length first = same ∙ ap (λ t. length t) (sym e) in
    let q : 0 + length cs ≡ length first = omega arith in
    let written : overwritten cells 0 cs ≡ cs ++ drop (length first) cells = ap (λ n. cs ++ drop n cells) q in
    ap (λ xs. take (length first) xs ∷ shared_out (map length locals) (drop (length first) xs)) written
    ∙ ap (λ t. t ∷ shared_out (map length locals) (drop (length first) (cs ++ drop (length first) cells))) (take_at cs (drop (length first) cells) (length first) k)
    ∙ ap (λ t. cs ∷ shared_out (map length locals) t) (drop_at cs (drop (length first) cells) (length first) k)
local_written (first ∷ locals) cells (suc n) its cs h same room =
    let part : length (first ++ joined (take n locals)) ≡ length first + length (joined (take n locals)) = length-append first (joined (take n locals)) in
    let all : length (first ++ joined locals) ≡ length first + length (joined locals) = length-append first (joined locals) in
    let inside : length (joined (take n locals)) + length its ≤ length (joined locals) = local_inside locals n its h in
    let rest : length (drop (length first) cells) ≡ length cells - length first = length-drop (length first) cells in
    ap (λ k. shared_out (length first ∷ map length locals) (overwritten cells k cs)) part
    ∙ ap (λ t. t ∷ shared_out (map length locals) (drop (length first) (overwritten cells (length first + length (joined (take n locals))) cs)))
    (front_kept (length first) (length (joined (take n locals))) cells cs (omega arith))
    ∙ ap (λ t. take (length first) cells ∷ shared_out (map length locals) t) (back_written (length first) (length (joined (take n locals))) cells cs (omega arith))
    ∙ ap (λ t. take (length first) cells ∷ t) (local_written locals (drop (length first) cells) n its cs h same (omega arith))
