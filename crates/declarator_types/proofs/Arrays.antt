-- What an array of arrays has, by its lengths and the type of its innermost elements.
use Rattle.std.proofs.Common.{◌≡◌, ◌≤◌, ◌<◌, ◌*◌, ℕ, min, List, [], ◌∷◌, length, Option, Some, None, is_none, true, option_map, drop, get_or, ◌+◌, refl, sym, ap, ◌∙◌, arith}
use Rattle.std.specs.Prelude.{nat_lt, false, ℤ}
use Rattle.std.proofs.lemmas.List.{at_drop_more}
use Rattle.c_types.specs.Layout.{Shape}
use Rattle.expression_typing.specs.Entities.{Structure, cells_of}
use Rattle.expression_typing.specs.Operands.{pointee_of}
use Rattle.expression_typing.specs.TypeNames.{Lengths}
use Rattle.file_typing.specs.DeclaratorTypes.{arrays, count_of, has_pointer, is_array_of_pointers, is_no_parameter, has_incomplete_elements, is_above}
use Rattle.declarator_types.specs.Products.{product}
use Rattle.declarator_types.proofs.Limits.{above_product, limited_factor}

pub has_pointer_arrays : (lengths : Lengths) (item : Shape) → has_pointer (arrays lengths item) ≡ has_pointer item
has_pointer_arrays [] item = refl
has_pointer_arrays (length ∷ others) item = has_pointer_arrays others item

pub pointers_in_arrays : (lengths : Lengths) (item : Shape) → 1 ≤ length lengths → is_array_of_pointers (arrays lengths item) ≡ has_pointer item
pointers_in_arrays [] item some = absurd (omega (arith, some))
pointers_in_arrays (first ∷ others) item some = has_pointer_arrays others item

pub no_parameter_of_one : (lengths : Lengths) (item : Shape) → 1 ≤ length lengths → length lengths < 2 → is_no_parameter (arrays lengths item) ≡ is_none (pointee_of item)
no_parameter_of_one [] item some one = absurd (omega (arith, some))
no_parameter_of_one (first ∷ []) item some one = refl
no_parameter_of_one (first ∷ second ∷ others) item some one = absurd (omega (arith, one))

pub no_parameter_of_more : (lengths : Lengths) (item : Shape) → 2 ≤ length lengths → is_no_parameter (arrays lengths item) ≡ true
no_parameter_of_more [] item more = absurd (omega (arith, more))
no_parameter_of_more (first ∷ []) item more = absurd (omega (arith, more))
no_parameter_of_more (first ∷ second ∷ others) item more = refl

-- ---- cells

none_of_times : (n : ℕ) (o : Option ℕ) → is_none (option_map (λ size. n * size) o) ≡ is_none o
none_of_times n None = refl
none_of_times n (Some size) = refl

pub incomplete_arrays : (structs : List Structure) (lengths : Lengths) (item : Shape) →
    is_none (cells_of structs (arrays lengths item)) ≡ is_none (cells_of structs item)
incomplete_arrays structs [] item = refl
incomplete_arrays structs (length ∷ others) item = none_of_times (count_of length) (cells_of structs (arrays others item)) ∙ incomplete_arrays structs others item

pub incomplete_elements : (structs : List Structure) (lengths : Lengths) (item : Shape) → 1 ≤ length lengths →
    has_incomplete_elements structs (arrays lengths item) ≡ is_none (cells_of structs item)
incomplete_elements structs [] item some = absurd (omega (arith, some))
incomplete_elements structs (first ∷ others) item some = incomplete_arrays structs others item

once : (o : Option ℕ) → o ≡ option_map (λ size. 1 * size) o
once None = refl
once (Some size) = let e : size ≡ 1 * size = omega arith in ap Some e

twice : (n m : ℕ) (o : Option ℕ) → option_map (λ size. n * size) (option_map (λ size. m * size) o) ≡ option_map (λ size. (n * m) * size) o
twice n m None = refl
twice n m (Some size) = let e : n * (m * size) ≡ (n * m) * size = grind arith in ap Some e

cells_of_arrays : (structs : List Structure) (lengths : Lengths) (item : Shape) →
    cells_of structs (arrays lengths item) ≡ option_map (λ size. product lengths * size) (cells_of structs item)
cells_of_arrays structs [] item = once (cells_of structs item)
cells_of_arrays structs (length ∷ others) item =
    ap (option_map (λ size. count_of length * size)) (cells_of_arrays structs others item) ∙ twice (count_of length) (product others) (cells_of structs item)

above_of : (n cells : ℕ) (o : Option ℕ) → Some cells ≡ option_map (min 4294967295) o →
    nat_lt 4096 (min (n * cells) 4097) ≡ is_above 4096 (option_map (λ size. n * size) o)
above_of n cells None h = absurd (cc)
above_of n cells (Some size) h =
    let is : cells ≡ min 4294967295 size = cc in
    ap (λ c. nat_lt 4096 (min (n * c) 4097)) is ∙ above_product n size

pub cells_above : (structs : List Structure) (lengths : Lengths) (item : Shape) (cells : ℕ) →
    Some cells ≡ option_map (min 4294967295) (cells_of structs item) →
    nat_lt 4096 (min (product lengths * cells) 4097) ≡ is_above 4096 (cells_of structs (arrays lengths item))
cells_above structs lengths item cells h =
    above_of (product lengths) cells (cells_of structs item) h ∙ ap (is_above 4096) (sym (cells_of_arrays structs lengths item))

above_none : (n : ℕ) (o : Option ℕ) → None ≡ option_map (min 4294967295) o → false ≡ is_above 4096 (option_map (λ size. n * size) o)
above_none n None h = refl
above_none n (Some size) h = absurd (cc)

pub none_above : (structs : List Structure) (lengths : Lengths) (item : Shape) →
    None ≡ option_map (min 4294967295) (cells_of structs item) → false ≡ is_above 4096 (cells_of structs (arrays lengths item))
none_above structs lengths item h =
    above_none (product lengths) (cells_of structs item) h ∙ ap (is_above 4096) (sym (cells_of_arrays structs lengths item))

pub product_step : (lengths : Lengths) (i total whole : ℕ) (d : Option ℤ) → i < length lengths → min (product (drop i lengths) * total) 4097 ≡ whole →
    min (product (drop (i + 1) lengths) * min (total * min (count_of (get_or lengths i d)) 4097) 4097) 4097 ≡ whole
product_step lengths i total whole d here before =
    limited_factor (product (drop (i + 1) lengths)) total (count_of (get_or lengths i d))
    ∙ ap (λ n. min (n * total) 4097) (sym (at_drop_more product lengths i d here)) ∙ before
