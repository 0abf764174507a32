-- How applications are made.
use Rattle.std.proofs.Common.{List, [], ◌∷◌, ◌++◌, Option, Some, None, refl}
use Rattle.aig_build.proofs.Nodes.{Grows-refl, Grows-trans}
use Rattle.aig_build.specs.Circuits.{Node, Grows}
use Rattle.bit_ops.specs.declared.values.SymValue.{SymValue}
use Rattle.bit_words.specs.Words.{AreThere}
use Rattle.core_ir.specs.Tables.{EntryName}
use Rattle.sym_values.specs.Values.{all_lits}
use Rattle.uf_abstraction.specs.Applications.{LitAnswer, LitShape, Application}
use Rattle.uf_abstraction.specs.Applying.{applied_by, apply_built, earlier, fresh_answer}
use Rattle.application_tables.specs.Making.{AreMade, NoneMadeLaw, LaterMadeLaw, OneMoreMadeLaw}

pub none_made : NoneMadeLaw
none_made start = Grows-refl start

later_by : (start now new : List Node) (applied : List Application) → Grows now new → AreMade start applied now → AreMade start applied new
later_by start now new [] g h = Grows-trans start now new h g
later_by start now new (a ∷ rest) g h = (h.0, h.1, later_by (fresh_answer h.0 a.shape).nodes now new rest g h.2)

pub later_made : LaterMadeLaw
later_made start now new applied h g = later_by start now new applied g h

last_made : (start now : List Node) (applied : List Application) (name : EntryName) (key : List SymValue) (shape : LitShape) → AreThere now (all_lits key) → AreMade start applied now
    → AreMade start (applied ++ record { name = name; key = key; shape = shape; answer = (fresh_answer now shape).answer } ∷ []) (fresh_answer now shape).nodes
last_made start now [] name key shape t h = (now, record { grows = h; key = t; answer = refl }, Grows-refl (fresh_answer now shape).nodes)
last_made start now (a ∷ rest) name key shape t h = (h.0, h.1, last_made (fresh_answer h.0 a.shape).nodes now rest name key shape t h.2)

made_by : (start now : List Node) (applied : List Application) (name : EntryName) (key : List SymValue) (shape : LitShape) → AreThere now (all_lits key) → AreMade start applied now → (o : Option LitAnswer)
    → AreMade start (applied_by now applied name key shape o).applied (applied_by now applied name key shape o).nodes
made_by start now applied name key shape t h (Some a) = h
made_by start now applied name key shape t h None = last_made start now applied name key shape t h

pub one_more_made : OneMoreMadeLaw
unfolding apply_built
one_more_made start now applied name key shape h t = made_by start now applied name key shape t h (earlier name (all_lits key) applied)

pub made_grows : (start now : List Node) (applied : List Application) → ((at : List Node) (s : LitShape) → Grows at (fresh_answer at s).nodes) → AreMade start applied now → Grows start now
made_grows start now [] fresh h = h
made_grows start now (a ∷ rest) fresh h =
    Grows-trans start h.0 now h.1.grows (Grows-trans h.0 (fresh_answer h.0 a.shape).nodes now (fresh h.0 a.shape) (made_grows (fresh_answer h.0 a.shape).nodes now rest fresh h.2))
