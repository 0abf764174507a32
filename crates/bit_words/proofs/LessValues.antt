-- The word that a comparison builds has the value of the operation.
use Rattle.std.proofs.Common.{◌≡◌, ℕ, ℤ, zero, suc, ◌+◌, ◌-◌, ◌*◌, ◌<◌, Bool, true, false, not, cond, List, [], ◌∷◌, ◌++◌, length, take, get_or, replicate, refl, sym, ap, ◌∙◌, arith, nat_lt, add-zero, length-append, length-take}
use Rattle.std.specs.Prelude.{int_lt, int_le}
use Rattle.std.proofs.lemmas.Bool.Decides.{nat_tests}
use Rattle.std.proofs.lemmas.Int.{ints}
use Rattle.bit_words.specs.Orders.{order_of}
use Rattle.bit_words.proofs.EqualValues.{carried_reads}
use Rattle.bit_words.proofs.PlacedValues.{IsWord}
use Rattle.std.proofs.lemmas.List.{take-map}
use Rattle.aig_build.specs.declared.lits.Lit.{Lit}
use Rattle.aig_build.specs.Circuits.{Node, IsCircuit, constant, opposite, lit_value}
use Rattle.aig_build.proofs.Gates.{constant_value}
use Rattle.rvt_num.specs.declared.kinds.Kind.{Kind}
use Rattle.rvt_num.specs.declared.kinds.Kind.TheVariants.{Bool as BoolKind, I8, U8, I16, U16, I32, U32, I64, U64}
use Rattle.rvt_num.specs.Kinds.{width, is_signed}
use Rattle.rvt_num.specs.Operations.{truth}
use Rattle.rvt_num.specs.Wrapping.{reading, wrap, wrapped}
use Rattle.bit_words.specs.declared.cells.Cell.TheVariants.{Less}
use Rattle.bit_words.specs.Built.{offset_bits, order_built, ordered_bits, truth_bits}
use Rattle.bit_words.specs.Words.{LitWord, word_number, AreThere, values, bit_number, number_of_bits}
use Rattle.bit_words.proofs.Arithmetic.{less_is}
use Rattle.bit_words.proofs.Computing.{lit_value-opposite}
use Rattle.bit_words.proofs.Multiplication.{AreThere-take, AreThere-replicate}
use Rattle.bit_words.proofs.RippleCarry.{AreThere-at, ripple_carry}
use Rattle.bit_words.proofs.SignedOrder.{offset_values, order_signed}
use Rattle.bit_words.proofs.WordValues.{values_length, some_nodes}

pub AreThere-push : (nodes : List Node) (xs : List Lit) (y : Lit) → AreThere nodes xs → y.node < length nodes → AreThere nodes (xs ++ y ∷ [])
AreThere-push nodes [] y t h = (h, tt)
AreThere-push nodes (x ∷ xs) y t h = (t.0, AreThere-push nodes xs y t.1 h)

by_sign : (nodes : List Node) (s : Bool) (xs ys : List Lit) → AreThere nodes xs → AreThere nodes ys → AreThere nodes (cond s xs ys)
by_sign nodes true xs ys t u = t
by_sign nodes false xs ys t u = u

pub AreThere-ordered : (nodes : List Node) (kind : Kind) (xs : List Lit) → 0 < length xs → AreThere nodes xs → AreThere nodes (ordered_bits kind xs)
AreThere-ordered nodes kind xs h t =
    by_sign nodes (is_signed kind) _ _ (AreThere-push nodes _ _ (AreThere-take nodes (length xs - 1) xs t) (AreThere-at nodes xs (length xs - 1) (constant false) t (omega arith))) t

-- ---- values of the bits in order
values-push : (nodes : List Node) (inputs : List Bool) (xs : List Lit) (y : Lit) → values nodes inputs (xs ++ y ∷ []) ≡ values nodes inputs xs ++ lit_value nodes inputs y ∷ []
values-push nodes inputs [] y = refl
values-push nodes inputs (x ∷ xs) y = ap (λ bs. lit_value nodes inputs x ∷ bs) (values-push nodes inputs xs y)

pub value-at : (nodes : List Node) (inputs : List Bool) (xs : List Lit) (n : ℕ) (d : Lit) → n < length xs → lit_value nodes inputs (get_or xs n d) ≡ get_or (values nodes inputs xs) n false
value-at nodes inputs [] n d h = absurd (omega arith)
value-at nodes inputs (x ∷ xs) zero d h = refl
value-at nodes inputs (x ∷ xs) (suc n) d h = value-at nodes inputs xs n d (omega arith)

values-offset : (nodes : List Node) (inputs : List Bool) (xs : List Lit) (n : ℕ) → length xs ≡ suc n → values nodes inputs (offset_bits xs) ≡ offset_values n (values nodes inputs xs)
values-offset nodes inputs xs n e =
    let at : length xs - 1 ≡ n = omega arith in
    let within : n < length xs = omega arith in
    ap (λ k. values nodes inputs (take k xs ++ opposite (get_or xs k (constant false)) ∷ [])) at
    ∙ values-push nodes inputs (take n xs) (opposite (get_or xs n (constant false)))
    ∙ (λ i. sym (take-map (lit_value nodes inputs) n xs) i ++ (lit_value-opposite nodes inputs (get_or xs n (constant false)) ∙ ap not (value-at nodes inputs xs n (constant false) within)) i ∷ [])

signed_kind : (nodes : List Node) (inputs : List Bool) (n : ℕ) (xs ys : List Lit) → length xs ≡ suc n → length ys ≡ suc n
    → nat_lt (number_of_bits (values nodes inputs (offset_bits xs))) (number_of_bits (values nodes inputs (offset_bits ys)))
    ≡ nat_lt (number_of_bits (offset_values n (values nodes inputs xs))) (number_of_bits (offset_values n (values nodes inputs ys)))
signed_kind nodes inputs n xs ys e f = λ i. nat_lt (number_of_bits (values-offset nodes inputs xs n e i)) (number_of_bits (values-offset nodes inputs ys n f i))

-- the bits in order are in the order of the numbers
pub kind_order : (nodes : List Node) (inputs : List Bool) (kind : Kind) (xs ys : List Lit) → length xs ≡ width kind → length ys ≡ width kind
    → nat_lt (number_of_bits (values nodes inputs (ordered_bits kind xs))) (number_of_bits (values nodes inputs (ordered_bits kind ys)))
    ≡ int_lt (reading kind (number_of_bits (values nodes inputs xs))) (reading kind (number_of_bits (values nodes inputs ys)))
kind_order nodes inputs BoolKind xs ys e f = refl
kind_order nodes inputs I8 xs ys e f = signed_kind nodes inputs 7 xs ys e f ∙ order_signed 7 (values nodes inputs xs) (values nodes inputs ys) (values_length nodes inputs xs ∙ e) (values_length nodes inputs ys ∙ f)
kind_order nodes inputs U8 xs ys e f = refl
kind_order nodes inputs I16 xs ys e f = signed_kind nodes inputs 15 xs ys e f ∙ order_signed 15 (values nodes inputs xs) (values nodes inputs ys) (values_length nodes inputs xs ∙ e) (values_length nodes inputs ys ∙ f)
kind_order nodes inputs U16 xs ys e f = refl
kind_order nodes inputs I32 xs ys e f = signed_kind nodes inputs 31 xs ys e f ∙ order_signed 31 (values nodes inputs xs) (values nodes inputs ys) (values_length nodes inputs xs ∙ e) (values_length nodes inputs ys ∙ f)
kind_order nodes inputs U32 xs ys e f = refl
kind_order nodes inputs I64 xs ys e f = signed_kind nodes inputs 63 xs ys e f ∙ order_signed 63 (values nodes inputs xs) (values nodes inputs ys) (values_length nodes inputs xs ∙ e) (values_length nodes inputs ys ∙ f)
kind_order nodes inputs U64 xs ys e f = refl

-- ---- the word of 0 or 1
pub zeros : (nodes : List Node) (inputs : List Bool) (n : ℕ) → IsCircuit nodes → number_of_bits (values nodes inputs (replicate n (constant false))) ≡ 0
zeros nodes inputs zero h = refl
zeros nodes inputs (suc n) h = (λ i. bit_number (constant_value nodes (constant false) inputs h refl i) + 2 * zeros nodes inputs n h i)

truth_read : (t : Bool) → reading I32 (bit_number t + 2 * 0) ≡ wrap I32 (truth t)
truth_read true = refl
truth_read false = refl

-- ---- lengths
pub some_width : (kind : Kind) → 0 < width kind
some_width BoolKind = omega arith
some_width I8 = omega arith
some_width U8 = omega arith
some_width I16 = omega arith
some_width U16 = omega arith
some_width I32 = omega arith
some_width U32 = omega arith
some_width I64 = omega arith
some_width U64 = omega arith

length_by_sign : (s : Bool) (xs : List Lit) → 0 < length xs → length (cond s (offset_bits xs) xs) ≡ length xs
length_by_sign true xs h = simp (length-append, length-take) (omega arith)
length_by_sign false xs h = refl

pub ordered_length : (kind : Kind) (xs : List Lit) → length xs ≡ width kind → length (ordered_bits kind xs) ≡ width kind
ordered_length kind xs e = length_by_sign (is_signed kind) xs (let w = some_width kind in omega arith) ∙ e

-- ---- words
pub AreThere-truth : (nodes : List Node) (lit : Lit) → IsCircuit nodes → lit.node < length nodes → AreThere nodes (truth_bits lit)
AreThere-truth nodes lit h t = (t, AreThere-replicate nodes 31 (constant false) (some_nodes nodes h))

pub truth_is : (new : List Node) (inputs : List Bool) (lit : Lit) (t : Bool) → IsCircuit new → lit_value new inputs lit ≡ t → word_number new inputs (record { kind = I32; bits = truth_bits lit }) ≡ wrapped I32 (truth t)
truth_is new inputs lit t circuit test =
    (λ i. record { kind = I32; value = reading I32 (bit_number (test i) + 2 * zeros new inputs 31 circuit i) }) ∙ (λ i. record { kind = I32; value = truth_read t i })

at_most_test : (y z : ℤ) (m n : ℕ) → nat_lt n m ≡ int_lt z y → nat_lt m (n + 1) ≡ int_le y z
at_most_test y z m n e =
    let f : nat_lt m (n + 1) ≡ not (nat_lt n m) = grind (arith, nat_tests) in
    let g : not (int_lt z y) ≡ int_le y z = grind (arith, ints) in
    f ∙ ap not e ∙ g

module _ (old : List Node) (inputs : List Bool) (a b : LitWord) (p : IsWord old a) (q : IsWord old b) (same : a.kind ≡ b.kind) where
  abbrev m : ℕ
  m = number_of_bits (values old inputs (ordered_bits a.kind a.bits))

  abbrev n : ℕ
  n = number_of_bits (values old inputs (ordered_bits b.kind b.bits))

  pub orders : nat_lt m n ≡ int_lt (word_number old inputs a).value (word_number old inputs b).value
  orders =
      ap (λ kind. nat_lt m (number_of_bits (values old inputs (ordered_bits kind b.bits)))) (sym same)
      ∙ kind_order old inputs a.kind a.bits b.bits p.wide (q.wide ∙ ap width (sym same))
      ∙ ap (λ kind. int_lt (word_number old inputs a).value (reading kind (number_of_bits (values old inputs b.bits)))) same

order_test : (equal : Bool) (y z : ℤ) (m n : ℕ) → nat_lt m n ≡ int_lt y z → nat_lt n m ≡ int_lt z y → nat_lt m (n + bit_number equal) ≡ order_of equal y z
order_test false y z m n e f = ap (nat_lt m) (add-zero n) ∙ e
order_test true y z m n e f = at_most_test y z m n f

ordered_lengths : (old : List Node) (a b : LitWord) → IsWord old a → IsWord old b → a.kind ≡ b.kind → length (ordered_bits a.kind a.bits) ≡ length (ordered_bits b.kind b.bits)
ordered_lengths old a b p q same = ordered_length a.kind a.bits p.wide ∙ ap width same ∙ sym (ordered_length b.kind b.bits q.wide)

pub AreThere-ordered_word : (old : List Node) (a : LitWord) → IsWord old a → AreThere old (ordered_bits a.kind a.bits)
AreThere-ordered_word old a p = AreThere-ordered old a.kind a.bits (let w = some_width a.kind in let e = p.wide in omega arith) p.there

pub order_is : (old new : List Node) (equal : Bool) (lit : Lit) (a b : LitWord) → IsCircuit old → IsWord old a → IsWord old b → a.kind ≡ b.kind
    → order_built old equal a b ≡ record { nodes = new; lit = lit } → (inputs : List Bool)
    → lit_value new inputs lit ≡ order_of equal (word_number old inputs a).value (word_number old inputs b).value
order_is old new equal lit a b h p q same e inputs =
    let xs = ordered_bits a.kind a.bits in
    let ys = ordered_bits b.kind b.bits in
    let lengths = ordered_lengths old a b p q same in
    carried_reads Less old new (constant equal) lit xs ys h (some_nodes old h) (AreThere-ordered_word old a p) (AreThere-ordered_word old b q) lengths e inputs
    ∙ ap (λ c. ripple_carry Less c (values old inputs xs) (values old inputs ys)) (constant_value old (constant equal) inputs h refl)
    ∙ less_is equal (values old inputs xs) (values old inputs ys) (values_length old inputs xs ∙ lengths ∙ sym (values_length old inputs ys))
    ∙ order_test equal (word_number old inputs a).value (word_number old inputs b).value _ _ (orders old inputs a b p q same) (orders old inputs b a q p (sym same))
