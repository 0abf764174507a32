-- A word means one value at most.
use Rattle.std.proofs.Common.{◌≡◌, ℕ, List, [], ◌∷◌, ◌++◌, Option, Some, None, Bool, refl, sym, ◌∙◌, ap, subst}
use Rattle.std.specs.Prelude.{codes, ℤ, IfSome, IfNone}
use Rattle.rvt_num.specs.Kinds.{IsOf}
use Rattle.rvt_num.specs.Wrapping.{wrap, wrapped}
use Rattle.rvt_num.specs.Number.{Number}
use Rattle.rvt_num.specs.declared.kinds.Kind.{Kind}
use Rattle.rvt_num.specs.declared.values.Value.{Value}
use Rattle.rvt_num.specs.declared.values.Value.TheVariants.{Num, Null, At}
use Rattle.rvt_tree.specs.declared.types.CType.{CType}
use Rattle.rvt_tree.specs.declared.types.CType.TheVariants as C
use Rattle.rvt_tree.specs.declared.programs.Object.{Object}
use Rattle.rvt_tree.specs.declared.programs.Program.{Program}
use Rattle.call_arguments.specs.Arguments.{IsNumberIn, IsCellBy, IsPointer, null, into, IsArgument, global_number}
use Rattle.call_arguments.specs.Texts.{AreDigitsOf, IsAddress, IsWhole}
use Rattle.call_arguments.proofs.AddressLemmas.{one_address, inside}
use Rattle.call_arguments.proofs.KindLemmas.{kept}
use Rattle.call_arguments.proofs.WordLemmas.{one_number, one_whole}

abbrev number : Kind → ℤ → Value
number kind whole = Num (record { kind = kind; value = whole })

abbrev number_at : Kind → ℤ → Number
number_at kind whole = record { kind = kind; value = whole }

pub one_number_in : (kind : Kind) (word : List ℕ) (a b : Value) → IsNumberIn kind word a → IsNumberIn kind word b → a ≡ b
one_number_in kind word a b is is' = is.is ∙ ap (number kind) (one_whole word is.whole is'.whole is.written is'.written) ∙ sym is'.is

same_some : {A : Type 0} (a b : A) → Some a ≡ Some b → a ≡ b
same_some a b is = cc

pub one_cell : (objects : List Object) (constant : Bool) (name digits name' digits' : List ℕ) (a b : Value) → name ≡ name' → digits ≡ digits' → IsCellBy objects constant name digits a → IsCellBy objects constant name' digits' b → a ≡ b
one_cell objects constant name digits name' digits' a b names counts is is' =
    let numbers : is.number ≡ is'.number = same_some _ _ (sym is.named ∙ ap (global_number objects) names ∙ is'.named) in
    let cells : is.cell ≡ is'.cell = one_number digits digits' is.cell is'.cell counts is.counted is'.counted in
    is.is ∙ ap (λ (n : ℕ). At n is.cell) numbers ∙ ap (At is'.number) cells ∙ sym is'.is

-- `null` is no address
pub null_no_address : (word name digits : List ℕ) → word ≡ codes "null" → IsAddress word name digits → ⊥
null_no_address word name digits is address = let no : codes "null" ≡ 38 ∷ ((name ++ 91 ∷ digits) ++ 93 ∷ []) = sym is ∙ inside word name digits address in cc

pub one_pointer : (objects : List Object) (constant : Bool) (word : List ℕ) (a b : Value) → IsPointer objects constant word a → IsPointer objects constant word b → a ≡ b
one_pointer objects constant word a b (null is a_is) (null is' b_is) = a_is ∙ sym b_is
one_pointer objects constant word a b (null is a_is) (into name digits address cell) = absurd (null_no_address word name digits is address)
one_pointer objects constant word a b (into name digits address cell) (null is b_is) = absurd (null_no_address word name digits is address)
one_pointer objects constant word a b (into name digits address cell) (into name' digits' address' cell') =
    let same = one_address word name digits name' digits' address address' in
    one_cell objects constant name digits name' digits' a b same.0 same.1 cell cell'

pub one_value : (program : Program) (ty : CType) (word : List ℕ) (a b : Value) → IsArgument program ty word a → IsArgument program ty word b → a ≡ b
one_value program (C.Word kind) word a b is is' = one_number_in kind word a b is is'
one_value program (C.Pointer pointee constant) word a b is is' = one_pointer program.table.objects constant word a b is is'
one_value program (C.Array' p element count) word a b is is' = absurd is
one_value program (C.Struct number) word a b is is' = absurd is

module _ (objects : List Object) (constant : Bool) (word name digits : List ℕ) (address : IsAddress word name digits) where
  pub pointer_some : (r : Option Value) → IfSome r (λ value. IsCellBy objects constant name digits value) → IfSome r (λ value. IsPointer objects constant word value)
  pointer_some None cell = tt
  pointer_some (Some value) cell = into name digits address cell

  pub pointer_none : (r : Option Value) → IfNone r ((value : Value) → IsCellBy objects constant name digits value → ⊥) → IfNone r ((value : Value) → IsPointer objects constant word value → ⊥)
  pointer_none None none = λ value is. no_pointer value is
    where
      no_pointer : (value : Value) → IsPointer objects constant word value → ⊥
      no_pointer value (null is value_is) = null_no_address word name digits is address
      no_pointer value (into name' digits' address' cell) =
          let same = one_address word name' digits' name digits address' address in
          none value (subst (λ (n : List ℕ). IsCellBy objects constant n digits value) same.0 (subst (λ (d : List ℕ). IsCellBy objects constant name' d value) same.1 cell))
  pointer_none (Some value) none = tt

-- a number that the kind's conversion changes is none of the kind
pub no_number : (kind : Kind) (word : List ℕ) (whole : ℤ) → IsWhole word whole → (wrap kind whole ≡ whole → ⊥) → (value : Value) → IsNumberIn kind word value → ⊥
no_number kind word whole written changed value is =
    let same : is.whole ≡ whole = one_whole word is.whole whole is.written written in
    changed (kept kind whole (subst (λ (z : ℤ). IsOf kind z) same is.in_range))

-- a number that the kind's conversion keeps is one of the kind
pub is_number : (kind : Kind) (word : List ℕ) (whole given : ℤ) (number : Number) (value : ℤ) → IsWhole word whole → number ≡ wrapped kind given → value ≡ number.value → IsOf number.kind value → value ≡ whole → IsNumberIn kind word (Num number)
is_number kind word whole given number value written made read in_range same = record {
  whole = whole;
  written = written;
  in_range = subst (λ (z : ℤ). IsOf kind z) same (subst (λ (k : Kind). IsOf k value) (ap (λ (n : Number). n.kind) made) in_range);
  is = ap Num (made ∙ ap (number_at kind) (sym (ap (λ (n : Number). n.value) made) ∙ sym read ∙ same));
}
