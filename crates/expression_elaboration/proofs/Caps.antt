-- Counts that need not be exact beyond all limits.
use Rattle.std.proofs.Common.{◌≡◌, ◌≤◌, ◌∙◌, ℕ, zero, suc, ◌*◌, ◌-◌, length, get_or, take, drop, if◌then◌else◌, List, [], ◌∷◌, Option, Some, None, option_map, option_and_then, ℤ, unsigned_abs, nat_le, Bool, true, false, refl, ap, sym, arith}
use Rattle.std.proofs.lemmas.Grind.{common_steps}
use Rattle.rvt_num.specs.declared.kinds.Kind.{Kind}
use Rattle.rvt_tree.specs.declared.places.Place.{Place}
use Rattle.c_types.specs.Layout.{Shape, AWord, APointer, AnArray, AStruct}
use Rattle.expression_typing.specs.Entities.{NamedType, Structure, cells_of}
use Rattle.expression_typing.specs.Operands.{Operand}
use Rattle.expression_typing.specs.Outcomes.{Checking, give, broken, and_then, wanted, incomplete_type, too_many_cells, not_in_profile}
use Rattle.expression_typing.specs.SizeofOperator.{bytes_of_kind, bytes_of, size_value, size_of_shape, as_pointer, type_size}
use Rattle.expression_typing.specs.TypeNames.{Lengths, array_shape}
use Rattle.expression_elaboration.specs.Extents.{capped, kind_within, elements_of, cells_of_array, size_of_cells}

-- ---- products

product_grows : (a b c : ℕ) → c ≤ a → c * b ≤ a * b
product_grows a b c le = grind arith

pub capped_left : (a b : ℕ) → capped (capped a * b) ≡ capped (a * b)
capped_left a zero = grind arith
capped_left a (suc b) =
    let more : capped a * suc b ≤ a * suc b = product_grows a (suc b) (capped a) (omega arith) in
    let much : 4294967295 ≤ capped a → 4294967295 * suc b ≤ capped a * suc b = λ le. product_grows (capped a) (suc b) 4294967295 le in
    grind arith

pub capped_right : (a b : ℕ) → capped (a * capped b) ≡ capped (a * b)
capped_right a b = let h : capped (capped b * a) ≡ capped (b * a) = capped_left b a in grind arith

pub capped_step : (a l n : ℕ) → capped (a * (l * n)) ≡ capped (capped (a * capped l) * n)
capped_step a l n =
    let inner : capped (a * capped l) ≡ capped (a * l) = capped_right a l in
    let outer : capped (capped (a * l) * n) ≡ capped (a * l * n) = capped_left (a * l) n in
    let same : a * l * n ≡ a * (l * n) = grind arith in
    ap capped (sym same) ∙ sym outer ∙ ap (λ x. capped (x * n)) (sym inner)

-- ---- `sizeof` by the cells

module _ (at : Place) where
  fits_capped : (n : ℕ) → nat_le (capped n) 4096 ≡ nat_le n 4096
  fits_capped n = grind arith

  -- with the answer whether the cells fit
  abbrev answered : Bool → ℕ → Option Kind → Checking Operand
  answered fits n kind =
      and_then (if fits then give (tt {0}) else broken too_many_cells at) (λ _.
      and_then (wanted not_in_profile at (option_map (λ k. n * bytes_of_kind k) kind)) (λ bytes.
      give (size_value bytes)))

  at_number : (n : ℕ) (kind : Option Kind) (fits : Bool) → nat_le n 4096 ≡ fits → size_of_cells at (Some (capped n)) kind ≡ size_of_cells at (Some n) kind
  at_number n kind true e = let same : capped n ≡ n = grind (arith, e) in ap (λ x. size_of_cells at (Some x) kind) same
  at_number n kind false e = ap (λ b. answered b (capped n) kind) (fits_capped n ∙ e) ∙ sym (ap (λ b. answered b n kind) e)

  pub size_of_capped : (cells : Option ℕ) (kind : Option Kind) → size_of_cells at (option_map capped cells) kind ≡ size_of_cells at cells kind
  size_of_capped None kind = refl
  size_of_capped (Some n) kind = at_number n kind (nat_le n 4096) refl

  kind_bytes : (count m : ℕ) (kind : Option Kind)
      → option_map (λ b. count * b) (option_map (λ k. m * bytes_of_kind k) kind) ≡ option_map (λ k. count * m * bytes_of_kind k) kind
  kind_bytes count m None = refl
  kind_bytes count m (Some kind) = ap Some (let same : count * (m * bytes_of_kind kind) ≡ count * m * bytes_of_kind kind = grind arith in same)

  word_bytes : (n : ℕ) (kind : Kind) → Some 1 ≡ Some n → Some (bytes_of_kind kind) ≡ Some (n * bytes_of_kind kind)
  word_bytes n kind e = let one : 1 ≡ n = cc in ap Some (let same : bytes_of_kind kind ≡ n * bytes_of_kind kind = rw (sym one) (omega arith) in same)

  items_bytes : (count n : ℕ) (cells bytes : Option ℕ) (kind : Option Kind)
      → ((m : ℕ) → cells ≡ Some m → bytes ≡ option_map (λ k. m * bytes_of_kind k) kind)
      → option_map (λ m. count * m) cells ≡ Some n → option_map (λ b. count * b) bytes ≡ option_map (λ k. n * bytes_of_kind k) kind
  items_bytes count n None bytes kind each e = cc
  items_bytes count n (Some m) bytes kind each e =
      let same : count * m ≡ n = cc in
      ap (option_map (λ b. count * b)) (each m refl) ∙ kind_bytes count m kind ∙ ap (λ x. option_map (λ k. x * bytes_of_kind k) kind) same

  bytes_within : (structs : List Structure) (shape : Shape) (n : ℕ) → cells_of structs shape ≡ Some n
      → bytes_of shape ≡ option_map (λ kind. n * bytes_of_kind kind) (kind_within shape)
  bytes_within structs (AWord kind) n e = word_bytes n kind e
  bytes_within structs (APointer pointee to_constant) n e = refl
  bytes_within structs (AStruct number) n e = refl
  bytes_within structs (AnArray item count) n e = items_bytes count n (cells_of structs item) (bytes_of item) (kind_within item) (λ m. bytes_within structs item m) e

  by_cells : (structs : List Structure) (shape : Shape) (cells : Option ℕ) → cells_of structs shape ≡ cells
      → size_of_shape structs at shape ≡ size_of_cells at cells (kind_within shape)
  by_cells structs shape None e = rw e
  by_cells structs shape (Some n) e = rw (e, bytes_within structs shape n e)

  pub size_by_cells : (structs : List Structure) (shape : Shape) → size_of_shape structs at shape ≡ size_of_cells at (option_map capped (cells_of structs shape)) (kind_within shape)
  size_by_cells structs shape = by_cells structs shape (cells_of structs shape) refl ∙ sym (size_of_capped (cells_of structs shape) (kind_within shape))

-- ---- the elements of an array of arrays

elements_times : (l : ℕ) (elements cells : Option ℕ) → option_map (λ n. l * n) (cells_of_array elements cells) ≡ cells_of_array (option_map (λ n. l * n) elements) cells
elements_times l None cells = refl
elements_times l (Some e) None = refl
elements_times l (Some e) (Some c) = ap Some (let same : l * (e * c) ≡ l * e * c = grind arith in same)

array_times : (structs : List Structure) (l : ℕ) (shape : Option Shape)
    → option_and_then (cells_of structs) (option_map (λ s. AnArray s l) shape) ≡ option_map (λ n. l * n) (option_and_then (cells_of structs) shape)
array_times structs l None = refl
array_times structs l (Some shape) = refl

one_item : (cells : Option ℕ) → cells ≡ cells_of_array (Some 1) cells
one_item None = refl
one_item (Some n) = ap Some (let same : n ≡ 1 * n = omega arith in same)

array_cells : (structs : List Structure) (lengths : Lengths) (item : Shape)
    → option_and_then (cells_of structs) (array_shape lengths item) ≡ cells_of_array (elements_of lengths) (cells_of structs item)
array_cells structs [] item = one_item (cells_of structs item)
array_cells structs (None ∷ inner) item = refl
array_cells structs (Some length ∷ inner) item =
    array_times structs (unsigned_abs length) (array_shape inner item)
    ∙ ap (option_map (λ n. unsigned_abs length * n)) (array_cells structs inner item)
    ∙ elements_times (unsigned_abs length) (elements_of inner) (cells_of structs item)

kind_of_item : (l : ℕ) (kind : Option Kind) (shape : Option Shape) → ((s : Shape) → shape ≡ Some s → kind_within s ≡ kind)
    → (whole : Shape) → option_map (λ s. AnArray s l) shape ≡ Some whole → kind_within whole ≡ kind
kind_of_item l kind None each whole e = cc
kind_of_item l kind (Some s) each whole e = let same : AnArray s l ≡ whole = cc in rw (sym same) (each s refl)

array_kind : (lengths : Lengths) (item whole : Shape) → array_shape lengths item ≡ Some whole → kind_within whole ≡ kind_within item
array_kind [] item whole e = let same : item ≡ whole = cc in rw same
array_kind (None ∷ inner) item whole e = cc
array_kind (Some length ∷ inner) item whole e = kind_of_item (unsigned_abs length) (kind_within item) (array_shape inner item) (array_kind inner item) whole e

array_size : (structs : List Structure) (at : Place) (lengths : Lengths) (item : Shape) (shape : Option Shape) → array_shape lengths item ≡ shape
    → and_then (wanted incomplete_type at shape) (size_of_shape structs at) ≡ size_of_cells at (cells_of_array (elements_of lengths) (cells_of structs item)) (kind_within item)
array_size structs at lengths item None e =
    let none : None ≡ cells_of_array (elements_of lengths) (cells_of structs item) = ap (option_and_then (cells_of structs)) (sym e) ∙ array_cells structs lengths item in
    rw (sym none)
array_size structs at lengths item (Some shape) e =
    let cells : cells_of structs shape ≡ cells_of_array (elements_of lengths) (cells_of structs item) = ap (option_and_then (cells_of structs)) (sym e) ∙ array_cells structs lengths item in
    by_cells at structs shape (cells_of_array (elements_of lengths) (cells_of structs item)) cells
    ∙ ap (size_of_cells at (cells_of_array (elements_of lengths) (cells_of structs item))) (array_kind lengths item shape e)

-- of a type whose cells and kind are counted
pub size_of_counted : (structs : List Structure) (at : Place) (shape : Shape) (cells : Option ℕ) (kind : Option Kind)
    → cells ≡ option_map capped (cells_of structs shape) → kind ≡ kind_within shape → size_of_shape structs at shape ≡ size_of_cells at cells kind
size_of_counted structs at shape cells kind is kind_is = size_by_cells at structs shape ∙ ap (λ c. size_of_cells at c (kind_within shape)) (sym is) ∙ ap (size_of_cells at cells) (sym kind_is)

capped_array : (elements cells : Option ℕ) → option_map capped (cells_of_array elements (option_map capped cells)) ≡ option_map capped (cells_of_array elements cells)
capped_array None None = refl
capped_array None (Some c) = refl
capped_array (Some e) None = refl
capped_array (Some e) (Some c) = ap Some (capped_right e c)

-- of an array of these lengths
pub size_of_lengths : (structs : List Structure) (at : Place) (lengths : Lengths) (item : Shape)
    → and_then (wanted incomplete_type at (array_shape lengths item)) (size_of_shape structs at)
    ≡ size_of_cells at (cells_of_array (elements_of lengths) (option_map capped (cells_of structs item))) (kind_within item)
size_of_lengths structs at lengths item =
    array_size structs at lengths item _ refl
    ∙ sym (size_of_capped at (cells_of_array (elements_of lengths) (cells_of structs item)) (kind_within item))
    ∙ ap (λ c. size_of_cells at c (kind_within item)) (sym (capped_array (elements_of lengths) (cells_of structs item)))
    ∙ size_of_capped at (cells_of_array (elements_of lengths) (option_map capped (cells_of structs item))) (kind_within item)

elements_capped : (elements cells : Option ℕ) → option_map capped (cells_of_array (option_map capped elements) cells) ≡ option_map capped (cells_of_array elements cells)
elements_capped None cells = refl
elements_capped (Some n) None = refl
elements_capped (Some n) (Some m) = ap Some (capped_left n m)

pub size_of_both : (at : Place) (elements exact cells all : Option ℕ) (kind : Option Kind)
    → elements ≡ option_map capped exact → all ≡ option_map capped (cells_of_array elements cells)
    → size_of_cells at (cells_of_array exact cells) kind ≡ size_of_cells at all kind
size_of_both at elements exact cells all kind is all_is =
    sym (size_of_capped at (cells_of_array exact cells) kind)
    ∙ ap (λ n. size_of_cells at n kind) (sym (elements_capped exact cells) ∙ ap (λ e. option_map capped (cells_of_array e cells)) (sym is) ∙ sym all_is)

pub type_size_of : (structs : List Structure) (at : Place) (lengths : Lengths) (named : NamedType) (item : Shape) (cells : Option ℕ) (kind : Option Kind)
    → as_pointer named ≡ Some item → cells ≡ option_map capped (cells_of structs item) → kind ≡ kind_within item
    → type_size structs at (as_pointer named) lengths ≡ size_of_cells at (cells_of_array (elements_of lengths) cells) kind
type_size_of structs at lengths named item cells kind is cells_is kind_is =
    ap (λ p. type_size structs at p lengths) is ∙ size_of_lengths structs at lengths item
    ∙ ap (λ c. size_of_cells at (cells_of_array (elements_of lengths) c) (kind_within item)) (sym cells_is)
    ∙ ap (size_of_cells at (cells_of_array (elements_of lengths) cells)) (sym kind_is)

-- ---- the steps of counting elements

pub count_begins : (elements : Option ℕ) → option_map (λ n. capped (1 * n)) elements ≡ option_map capped elements
count_begins None = refl
count_begins (Some n) = ap (λ x. Some (capped x)) (let same : 1 * n ≡ n = omega arith in same)

pub count_step : (a l : ℕ) (elements : Option ℕ)
    → option_map (λ n. capped (a * n)) (option_map (λ n. l * n) elements) ≡ option_map (λ n. capped (capped (a * capped l) * n)) elements
count_step a l None = refl
count_step a l (Some n) = ap Some (capped_step a l n)

rest_is : (x : Option ℤ) (xs : Lengths) → take (length (x ∷ xs) - 1) (drop 1 (x ∷ xs)) ≡ xs
rest_is x xs = let n : length (x ∷ xs) - 1 ≡ length xs = omega arith in rw n (grind (arith, common_steps))

pub elements_after : (lengths : Lengths) → 1 ≤ length lengths → (l : Option ℕ) → l ≡ option_map (λ l. capped (unsigned_abs l)) (get_or lengths 0 None) → (n : ℕ) → l ≡ Some n
    → (a : ℕ) → option_map (λ n. capped (a * n)) (elements_of lengths) ≡ option_map (λ m. capped (capped (a * n) * m)) (elements_of (take (length lengths - 1) (drop 1 lengths)))
elements_after [] le l is n e a = absurd (let no : ⊥ = omega (arith, le) in no)
elements_after (None ∷ inner) le l is n e a = cc
elements_after (Some x ∷ inner) le l is n e a =
    let same : n ≡ capped (unsigned_abs x) = cc in
    rw (same, rest_is (Some x) inner) (count_step a (unsigned_abs x) (elements_of inner))

pub capped_bound : (n : ℕ) → capped n ≤ 4294967295
capped_bound n = omega arith
