-- The places where a spot may be, each with a literal that says whether it is there.
use Rattle.std.specs.Prelude.{ℕ, zero, suc, ◌+◌, ◌==◌, true, false, List, [], ◌∷◌, ◌++◌, Option, Some, None, slice_get, if◌then◌else◌}
use Rattle.aig_build.specs.Built.{Made, and_built, same_lit}
use Rattle.aig_build.specs.Circuits.{Node, constant, opposite}
use Rattle.aig_build.specs.declared.lits.Lit.{Lit}
use Rattle.bit_ops.specs.declared.values.SymValue.{SymValue}
use Rattle.bit_ops.specs.declared.values.SymValue.TheVariants.{Word}
use Rattle.bit_words.specs.Built.{or_built, sign_bit}
use Rattle.bit_words.specs.Words.{LitWord}
use Rattle.core_ir.specs.Places.{Place, In_object, In_register}
use Rattle.core_ir.specs.declared.cores.CoreObject.{CoreObject}
use Rattle.core_ir.specs.declared.units.Index.{Index}
use Rattle.sym_constants.specs.Tests.{test_built}
use Rattle.sym_spots.specs.declared.aims.Aim.{Aim}
use Rattle.sym_spots.specs.declared.aims.Target.{Target}
use Rattle.sym_spots.specs.declared.aims.Target.TheVariants.{Cell, Register}

-- the place of the meaning
abbrev pub meant : Target → Place
meant (Cell o c) = In_object o c
meant (Register r) = In_register r

-- some cells or registers further on
abbrev pub moved : Target → ℕ → Target
moved (Cell o c) n = Cell o (c + n)
moved (Register r) n = Register (r + n)

-- one more aim, unless it is certain that the spot isn't there
abbrev pub with_aim : List Aim → Lit → Target → List Aim
with_aim aims lit target = if same_lit lit (constant false) then aims else aims ++ record { lit = lit; target = target } ∷ []

-- the aims, and whether the spot is at one of them
pub record MadeAims : Type 0 where
  pub nodes : List Node
  pub aims : List Aim
  pub any : Lit

-- ---- pointers

-- the cells of an object at which a value of the type begins
abbrev pub starts_in : ℕ → ℕ → List (ℕ × ℕ) → List (ℕ × ℕ)
starts_in type o [] = []
starts_in type o (s ∷ ss) = if s.0 == type then (o, s.1) ∷ starts_in type o ss else starts_in type o ss

abbrev pub object_starts : ℕ → ℕ → CoreObject → List (ℕ × ℕ)
object_starts type o x = if x.addressable then starts_in type o x.starts else []

-- the objects and cells at which a value of the type begins, in addressable objects alone; the first object has the number o
abbrev pub starts_from : ℕ → ℕ → List CoreObject → List (ℕ × ℕ)
starts_from type o [] = []
starts_from type o (x ∷ xs) = object_starts type o x ++ starts_from type (suc o) xs

abbrev pub starts_of : List CoreObject → Option ℕ → List (ℕ × ℕ)
starts_of objects None = []
starts_of objects (Some type) = starts_from type 0 objects

-- whether a pointer with this object word and this cell word is at a cell of an object; the object k has the number k + 1 in the word
unfoldable pub hit_built : List Node → LitWord → LitWord → ℕ × ℕ → Made
hit_built ns object cell s =
    let o = test_built ns (constant true) object.bits (s.0 + 1) in
    let c = test_built o.nodes (constant true) cell.bits s.1 in
    and_built c.nodes o.lit c.lit

-- an aim for each of these cells, for a pointer, some cells further on
unfoldable pub pointed_built : LitWord → LitWord → ℕ → List Node → List Aim → Lit → List (ℕ × ℕ) → MadeAims
pointed_built object cell cells ns aims any [] = record { nodes = ns; aims = aims; any = any }
pointed_built object cell cells ns aims any (s ∷ ss) =
    let here = hit_built ns object cell s in
    let one = or_built here.nodes any here.lit in
    pointed_built object cell cells one.nodes (with_aim aims here.lit (Cell s.0 (s.1 + cells))) one.lit ss

-- ---- indexes

-- for 0, 1 and so on whether the index is it, and whether it is one of them
pub record MadeTests : Type 0 where
  pub nodes : List Node
  pub lits : List Lit
  pub any : Lit

-- whether the number is not negative and has these bits
abbrev pub word_test : List Node → LitWord → ℕ → Made
word_test ns w n = test_built ns (opposite (sign_bit w)) w.bits n

unfoldable pub word_tests : List Node → LitWord → ℕ → MadeTests
word_tests ns w zero = record { nodes = ns; lits = []; any = constant false }
word_tests ns w (suc n) =
    let m = word_tests ns w n in
    let t = word_test m.nodes w n in
    let one = or_built t.nodes m.any t.lit in
    record { nodes = one.nodes; lits = m.lits ++ t.lit ∷ []; any = one.lit }

-- a pointer is no index
abbrev pub index_tests : List Node → Option SymValue → ℕ → MadeTests
index_tests ns (Some (Word w)) count = word_tests ns w count
index_tests ns _ count = record { nodes = ns; lits = []; any = constant false }

pub record MadeList : Type 0 where
  pub nodes : List Node
  pub aims : List Aim

-- one aim moved by each value of an index, in order
unfoldable pub spread_one : Lit → ℕ → List Node → Target → List Aim → List Lit → MadeList
spread_one lit size ns target aims [] = record { nodes = ns; aims = aims }
spread_one lit size ns target aims (t ∷ ts) =
    let here = and_built ns lit t in
    spread_one lit size here.nodes (moved target size) (with_aim aims here.lit target) ts

unfoldable pub spread : ℕ → List Lit → List Node → List Aim → List Aim → MadeList
spread size tests ns aims [] = record { nodes = ns; aims = aims }
spread size tests ns aims (a ∷ more) =
    let m = spread_one a.lit size ns a.target aims tests in
    spread size tests m.nodes m.aims more

-- the aims moved by all indexes, and whether all indexes are in range
unfoldable pub indexed : List SymValue → List Node → List Aim → Lit → List Index → MadeAims
indexed registers ns aims any [] = record { nodes = ns; aims = aims; any = any }
indexed registers ns aims any (i ∷ is) =
    let t = index_tests ns (slice_get registers i.register) i.count in
    let all = and_built t.nodes any t.any in
    let m = spread i.size t.lits all.nodes [] aims in
    indexed registers m.nodes m.aims all.lit is
