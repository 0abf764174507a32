-- Values that are merged under a literal. Where both have one literal, no gate is built.
use Rattle.std.specs.Prelude.{◌≡◌, ℕ, Bool, true, false, List, [], ◌∷◌, ◌++◌, drop}
use Rattle.aig_build.specs.Built.{Made, same_lit}
use Rattle.aig_build.specs.Circuits.{Node, Grows}
use Rattle.aig_build.specs.declared.lits.Lit.{Lit}
use Rattle.bit_ops.specs.declared.values.SymValue.{SymValue}
use Rattle.bit_ops.specs.declared.values.SymValue.TheVariants.{Word, Pointer}
use Rattle.bit_words.specs.Built.{choice_built, MadeWord}
use Rattle.bit_words.specs.Words.{LitWord, AreThere}
use Rattle.core_ir.specs.declared.units.Shape.{Shape}
use Rattle.sym_values.specs.Valuations.{Valuation, IsValuation}
use Rattle.sym_values.specs.Values.{values_under, all_lits, AreLaid}

abbrev pub unless_same : List Node → Lit → Lit → Lit → Bool → Made
unless_same ns which a b true = record { nodes = ns; lit = a }
unless_same ns which a b false = choice_built ns which a b

unfoldable pub merged_lit : List Node → Lit → Lit → Lit → Made
merged_lit ns which a b = unless_same ns which a b (same_lit a b)

pub record MadeLits : Type 0 where
  pub nodes : List Node
  pub lits : List Lit

unfoldable pub merged_lits : List Node → Lit → List Lit → List Lit → MadeLits
merged_lits ns which (x ∷ xs) (y ∷ ys) =
    let m = merged_lit ns which x y in
    let rest = merged_lits m.nodes which xs ys in
    record { nodes = rest.nodes; lits = m.lit ∷ rest.lits }
merged_lits ns which _ _ = record { nodes = ns; lits = [] }

abbrev pub merged_word : List Node → Lit → LitWord → LitWord → MadeWord
merged_word ns which a b =
    let m = merged_lits ns which a.bits b.bits in
    record { nodes = m.nodes; word = record { kind = a.kind; bits = m.lits } }

pub record MadeValue : Type 0 where
  pub nodes : List Node
  pub value : SymValue

unfoldable pub merged_value : List Node → Lit → SymValue → SymValue → MadeValue
merged_value ns which (Word a) (Word b) = let m = merged_word ns which a b in record { nodes = m.nodes; value = Word m.word }
merged_value ns which (Pointer o c) (Pointer p d) =
    let m = merged_word ns which o p in
    let n = merged_word m.nodes which c d in
    record { nodes = n.nodes; value = Pointer m.word n.word }
merged_value ns which x y = record { nodes = ns; value = x }

pub record MadeValues : Type 0 where
  pub nodes : List Node
  pub values : List SymValue

unfoldable pub merged_values : List Node → Lit → List SymValue → List SymValue → MadeValues
merged_values ns which (x ∷ xs) (y ∷ ys) =
    let m = merged_value ns which x y in
    let rest = merged_values m.nodes which xs ys in
    record { nodes = rest.nodes; values = m.value ∷ rest.values }
merged_values ns which _ _ = record { nodes = ns; values = [] }

pub record AreMerged (v : Valuation) (ns : List Node) (which : Lit) (shapes : List Shape) (xs ys : List SymValue) (m : MadeValues) : Type 0 where
  pub back : IsValuation m.nodes v → IsValuation ns v
  pub laid : AreLaid shapes m.values
  pub first : IsValuation m.nodes v → v which ≡ true → values_under v m.values ≡ values_under v xs
  pub second : IsValuation m.nodes v → v which ≡ false → values_under v m.values ≡ values_under v ys

abbrev pub MergeLaw : Type 0
MergeLaw = (v : Valuation) (ns : List Node) (which : Lit) (shapes : List Shape) (xs ys : List SymValue) → AreLaid shapes xs → AreLaid shapes ys → AreMerged v ns which shapes xs ys (merged_values ns which xs ys)

-- ---- one layout

-- words of one kind, or pointers of words of one kind
abbrev pub IsAlike : SymValue → SymValue → Type 0
IsAlike (Word a) (Word b) = a.kind ≡ b.kind
IsAlike (Pointer o c) (Pointer p d) = (o.kind ≡ p.kind) × (c.kind ≡ d.kind)
IsAlike _ _ = ⊥

abbrev pub AreAlike : List SymValue → List SymValue → Type 0
AreAlike [] [] = Prim.Unit {0}
AreAlike (x ∷ xs) (y ∷ ys) = IsAlike x y × AreAlike xs ys
AreAlike _ _ = ⊥

-- values laid out by the same shapes are alike
abbrev pub AlikeLaw : Type 0
AlikeLaw = (shapes : List Shape) (xs ys : List SymValue) → AreLaid shapes xs → AreLaid shapes ys → AreAlike xs ys

-- ---- the loops

-- what is made at the places that are left, after the literals that are there, is what is made at all places
abbrev pub after_lits : List Lit → MadeLits → MadeLits
after_lits lits m = record { nodes = m.nodes; lits = lits ++ m.lits }

pub record AreLitsMerging (first now : List Node) (which : Lit) (xs ys lits : List Lit) (at : ℕ) : Type 0 where
  pub resumes : after_lits lits (merged_lits now which (drop at xs) (drop at ys)) ≡ merged_lits first which xs ys
  pub grows : Grows first now
  pub there : AreThere now lits

abbrev pub after_values : List SymValue → MadeValues → MadeValues
after_values values m = record { nodes = m.nodes; values = values ++ m.values }

pub record AreValuesMerging (first now : List Node) (which : Lit) (xs ys values : List SymValue) (at : ℕ) : Type 0 where
  pub resumes : after_values values (merged_values now which (drop at xs) (drop at ys)) ≡ merged_values first which xs ys
  pub grows : Grows first now
  pub there : AreThere now (all_lits values)
