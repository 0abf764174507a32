-- The traps of operations, and what is left where there is none.
use Rattle.std.proofs.Common.{◌≡◌, ℕ, zero, suc, ◌+◌, ◌-◌, ◌*◌, ◌<◌, ◌^◌, negsuc, Bool, true, false, ◌&&◌, cond, List, [], ◌∷◌, ◌++◌, length, replicate, refl, sym, ap, ◌∙◌, arith, subst, Some, None, Ok, Err, Result}
use Rattle.std.proofs.lemmas.List.{length-replicate}
use Rattle.std.proofs.Math.Nat.{pow-suc}
use Rattle.aig_build.specs.declared.lits.Lit.{Lit}
use Rattle.aig_build.specs.Built.{Made, and_built}
use Rattle.aig_build.specs.Circuits.{Node, IsCircuit, Grows, constant, lit_value}
use Rattle.aig_build.proofs.Gates.{constant_value}
use Rattle.aig_build.proofs.Nodes.{Grows-keeps, Grows-length}
use Rattle.rvt_num.specs.declared.kinds.Kind.{Kind}
use Rattle.rvt_num.specs.declared.kinds.Kind.TheVariants.{Bool as BoolKind, I8, U8, I16, U16, I32, U32, I64, U64}
use Rattle.rvt_num.specs.declared.operations.BinOp.TheVariants.{Div, Rem}
use Rattle.rvt_num.specs.declared.values.Trap.{Trap}
use Rattle.rvt_num.specs.declared.values.Trap.TheVariants.{Divide, Quotient, Shift}
use Rattle.rvt_num.specs.Kinds.{is_signed, least, width}
use Rattle.rvt_num.specs.Number.{Number}
use Rattle.rvt_num.specs.Operations.{binary_of, divides_by_zero, number_of, quotient_overflows, shifts_too_far, unless_trapped}
use Rattle.rvt_num.specs.Wrapping.{reading}
use Rattle.bit_words.specs.Words.{AreThere, LitWord, number_of_bits, values, word_number}
use Rattle.bit_words.proofs.Computing.{and-makes, itself}
use Rattle.bit_words.proofs.ConvertValues.{number_append, number_zeros, AreThere-append, values-append}
use Rattle.bit_words.proofs.Multiplication.{AreThere-replicate, values-replicate}
use Rattle.bit_words.proofs.WordValues.{some_nodes}
use Rattle.bit_ops.specs.declared.traps.TrapLits.{TrapLits}
use Rattle.bit_ops.specs.Built.{least_word, no_traps, ones_word}
use Rattle.bit_ops.specs.Outcomes.{TrapsAreThere, division_op, outcome}
use Rattle.bit_ops.specs.Shifting.{shift_op}

pub false_later : (old new : List Node) (inputs : List Bool) → IsCircuit old → Grows old new → lit_value new inputs (constant false) ≡ false
false_later old new inputs h g = Grows-keeps old new g inputs (constant false) (some_nodes old h) ∙ constant_value old (constant false) inputs h refl

pub plain_outcome : (old new : List Node) (inputs : List Bool) (v : Number) → IsCircuit old → Grows old new → outcome new inputs no_traps v ≡ Ok v
plain_outcome old new inputs v h g =
    let e = false_later old new inputs h g in
    λ i. cond (e i) (Err Divide) (cond (e i) (Err Quotient) (cond (e i) (Err Shift) (Ok v)))

pub constant_there : (old new : List Node) → IsCircuit old → Grows old new → 0 < length new
constant_there old new h g = let s = some_nodes old h in omega (arith, Grows-length old new g)

pub no_traps_there : (old new : List Node) → IsCircuit old → Grows old new → TrapsAreThere new no_traps
no_traps_there old new h g = let t = constant_there old new h g in record { divide = t; quotient = t; shift = t }

by_division : (d q : Bool) (v w : Number) → (d ≡ false → v ≡ w) → cond {A = Result Number Trap} d (Err Divide) (cond q (Err Quotient) (Ok v)) ≡ unless_trapped (cond d (Some Divide) (cond q (Some Quotient) None)) w
by_division true q v w e = refl
by_division false true v w e = refl
by_division false false v w e = ap Ok (e refl)

by_shift : (s : Bool) (v w : Number) → (s ≡ false → v ≡ w) → cond {A = Result Number Trap} s (Err Shift) (Ok v) ≡ unless_trapped (cond s (Some Shift) None) w
by_shift true v w e = refl
by_shift false v w e = ap Ok (e refl)

pub division_outcome : (whole : Bool) (nodes : List Node) (inputs : List Bool) (traps : TrapLits) (v a b : Number) → lit_value nodes inputs traps.divide ≡ divides_by_zero b → lit_value nodes inputs traps.quotient ≡ quotient_overflows a b → lit_value nodes inputs traps.shift ≡ false
    → (divides_by_zero b ≡ false → v ≡ number_of (division_op whole) a b) → outcome nodes inputs traps v ≡ binary_of (division_op whole) a b
division_outcome true nodes inputs traps v a b d q s e =
    (λ i. cond (d i) (Err Divide) (cond (q i) (Err Quotient) (cond (s i) (Err Shift) (Ok v)))) ∙ by_division (divides_by_zero b) (quotient_overflows a b) v _ e
division_outcome false nodes inputs traps v a b d q s e =
    (λ i. cond (d i) (Err Divide) (cond (q i) (Err Quotient) (cond (s i) (Err Shift) (Ok v)))) ∙ by_division (divides_by_zero b) (quotient_overflows a b) v _ e

pub shift_outcome : (up : Bool) (nodes : List Node) (inputs : List Bool) (traps : TrapLits) (v a b : Number) → lit_value nodes inputs traps.divide ≡ false → lit_value nodes inputs traps.quotient ≡ false → lit_value nodes inputs traps.shift ≡ shifts_too_far a b
    → (shifts_too_far a b ≡ false → v ≡ number_of (shift_op up) a b) → outcome nodes inputs traps v ≡ binary_of (shift_op up) a b
shift_outcome true nodes inputs traps v a b d q s e =
    (λ i. cond (d i) (Err Divide) (cond (q i) (Err Quotient) (cond (s i) (Err Shift) (Ok v)))) ∙ by_shift (shifts_too_far a b) v _ e
shift_outcome false nodes inputs traps v a b d q s e =
    (λ i. cond (d i) (Err Divide) (cond (q i) (Err Quotient) (cond (s i) (Err Shift) (Ok v)))) ∙ by_shift (shifts_too_far a b) v _ e

-- ---- the least number, and -1
least_reading : (kind : Kind) → is_signed kind ≡ true → reading kind (2 ^ (width kind - 1)) ≡ least kind
least_reading BoolKind t = absurd (let f : false ≡ true = t in cc)
least_reading I8 t = refl
least_reading U8 t = absurd (let f : false ≡ true = t in cc)
least_reading I16 t = refl
least_reading U16 t = absurd (let f : false ≡ true = t in cc)
least_reading I32 t = refl
least_reading U32 t = absurd (let f : false ≡ true = t in cc)
least_reading I64 t = refl
least_reading U64 t = absurd (let f : false ≡ true = t in cc)

ones_reading : (kind : Kind) → is_signed kind ≡ true → reading kind (2 ^ width kind - 1) ≡ negsuc 0
ones_reading BoolKind t = absurd (let f : false ≡ true = t in cc)
ones_reading I8 t = refl
ones_reading U8 t = absurd (let f : false ≡ true = t in cc)
ones_reading I16 t = refl
ones_reading U16 t = absurd (let f : false ≡ true = t in cc)
ones_reading I32 t = refl
ones_reading U32 t = absurd (let f : false ≡ true = t in cc)
ones_reading I64 t = refl
ones_reading U64 t = absurd (let f : false ≡ true = t in cc)

number_ones : (k : ℕ) → number_of_bits (replicate k true) + 1 ≡ 2 ^ k
number_ones zero = omega arith
number_ones (suc k) = omega (arith, number_ones k, pow-suc 2 k)

pub least_value : (nodes : List Node) (inputs : List Bool) (kind : Kind) → IsCircuit nodes → is_signed kind ≡ true → (word_number nodes inputs (least_word kind)).value ≡ least kind
least_value nodes inputs kind h t =
    let k = width kind - 1 in
    let none = values-replicate nodes inputs k (constant false) ∙ ap (replicate k) (constant_value nodes (constant false) inputs h refl) in
    let bits : values nodes inputs (least_word kind).bits ≡ replicate k false ++ true ∷ [] =
    values-append nodes inputs (replicate k (constant false)) (constant true ∷ []) ∙ (λ i. none i ++ constant_value nodes (constant true) inputs h refl i ∷ []) in
    let sum : 0 + 2 ^ k * 1 ≡ 2 ^ k = omega arith in
    let number : number_of_bits (values nodes inputs (least_word kind).bits) ≡ 2 ^ k =
    ap number_of_bits bits ∙ number_append (replicate k false) (true ∷ []) ∙ (λ i. number_zeros k i + 2 ^ length-replicate k false i * 1) ∙ sum in
    ap (reading kind) number ∙ least_reading kind t

pub ones_value : (nodes : List Node) (inputs : List Bool) (kind : Kind) → IsCircuit nodes → is_signed kind ≡ true → (word_number nodes inputs (ones_word kind)).value ≡ negsuc 0
ones_value nodes inputs kind h t =
    let k = width kind in
    let bits = values-replicate nodes inputs k (constant true) ∙ ap (replicate k) (constant_value nodes (constant true) inputs h refl) in
    let all = number_ones k in
    let number : number_of_bits (replicate k true) ≡ 2 ^ k - 1 = omega arith in
    ap (reading kind) (ap number_of_bits bits ∙ number) ∙ ones_reading kind t

pub AreThere-least : (nodes : List Node) (kind : Kind) → IsCircuit nodes → AreThere nodes (least_word kind).bits
AreThere-least nodes kind h = AreThere-append nodes (replicate (width kind - 1) (constant false)) (constant true ∷ []) (AreThere-replicate nodes (width kind - 1) (constant false) (some_nodes nodes h)) (some_nodes nodes h, tt)

pub AreThere-ones : (nodes : List Node) (kind : Kind) → IsCircuit nodes → AreThere nodes (ones_word kind).bits
AreThere-ones nodes kind h = AreThere-replicate nodes (width kind) (constant true) (some_nodes nodes h)

pub and_value : (old new : List Node) (a b lit : Lit) → IsCircuit old → a.node < length old → b.node < length old → and_built old a b ≡ record { nodes = new; lit = lit } → (inputs : List Bool)
    → lit_value new inputs lit ≡ (lit_value old inputs a && lit_value old inputs b)
and_value old new a b lit h t u e inputs =
    sym (ap (λ (m : Made). lit_value m.nodes inputs m.lit) e) ∙ (and-makes old h a b _ _ (itself old a t) (itself old b u)).value inputs

pub side_value : (whole : Bool) (nodes : List Node) (inputs : List Bool) (q r s : LitWord) (a b : Number) → s ≡ cond whole q r → word_number nodes inputs q ≡ number_of Div a b → word_number nodes inputs r ≡ number_of Rem a b → word_number nodes inputs s ≡ number_of (division_op whole) a b
side_value true nodes inputs q r s a b e f g = ap (word_number nodes inputs) e ∙ f
side_value false nodes inputs q r s a b e f g = ap (word_number nodes inputs) e ∙ g

pub side_there : (whole : Bool) (nodes : List Node) (q r s : LitWord) → s ≡ cond whole q r → AreThere nodes q.bits → AreThere nodes r.bits → AreThere nodes s.bits
side_there true nodes q r s e t u = subst (λ (w : LitWord). AreThere nodes w.bits) (sym e) t
side_there false nodes q r s e t u = subst (λ (w : LitWord). AreThere nodes w.bits) (sym e) u
