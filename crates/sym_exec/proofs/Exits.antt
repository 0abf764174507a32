-- The end that exits make together, one exit after another.
use Rattle.std.proofs.Common.{◌≡◌, ◌<◌, ◌≤◌, ◌+◌, ◌-◌, ℕ, zero, suc, Bool, true, false, List, [], ◌∷◌, ◌++◌, length, drop, take, get_or, slice_set, Option, Some, None, refl, sym, ap, ◌∙◌, subst, append_assoc, arith, drop-cons, length-set}
use Rattle.std.proofs.lemmas.List.{append-nil, drop_all, length-take-le, take_more}
use Rattle.std.proofs.lemmas.Option.{slice_get_past, slice_get_read}
use Rattle.std.specs.Prelude.{map, slice_get, if◌then◌else◌}
use Rattle.std.specs.List.{AllByRecursion}
use Rattle.aig_build.specs.Circuits.{Node, IsCircuit, Grows}
use Rattle.aig_build.specs.declared.lits.Lit.{Lit}
use Rattle.bit_ops.specs.declared.values.SymValue.{SymValue}
use Rattle.bit_words.specs.Words.{AreThere}
use Rattle.core_ir.specs.Cells.{blend}
use Rattle.rvt_num.specs.declared.values.Trap.{Trap}
use Rattle.sym_exec.specs.Ends.{trap_of, traps_in, ended_so, AreOfOneLayout}
use Rattle.sym_exec.specs.declared.ends.Values.{Values}
use Rattle.sym_paths.specs.Runs.{exit_of}
use Rattle.sym_paths.specs.declared.runs.Exit.{Exit as ExitMade}
use Rattle.sym_store.proofs.Choices.{alike}
use Rattle.sym_store.specs.Merging.{AreAlike, MadeValues, merged_values}
use Rattle.sym_values.specs.Values.{all_lits, AreLaid}
use Rattle.symbolic_runs.proofs.Joined.{ending}
use Rattle.symbolic_runs.proofs.Keeping.{exits_later}
use Rattle.symbolic_runs.specs.Ending.{MadeEnd, IsEndKept, end_built, with_exit}
use Rattle.symbolic_runs.specs.Keeping.{Layout, HowIsKept, IsExitKept}
use Rattle.symbolic_runs.specs.Runs.{How, Stops, Exit, with_chosen, chosen}

-- ---- what registers hold

with_more : (o : Option SymValue) (xs ys : List SymValue) → with_chosen o (xs ++ ys) ≡ with_chosen o xs ++ ys
with_more None xs ys = refl
with_more (Some x) xs ys = refl

pub chosen_more : (values : List SymValue) (rs ss : List ℕ) → chosen values (rs ++ ss) ≡ chosen values rs ++ chosen values ss
chosen_more values [] ss = refl
chosen_more values (r ∷ rs) ss =
    ap (λ l. with_chosen (slice_get values r) l) (chosen_more values rs ss)
    ∙ with_more (slice_get values r) (chosen values rs) (chosen values ss)

-- ---- traps

pub traps_more : (xs ys : List Exit) → traps_in (xs ++ ys) ≡ traps_in xs ++ traps_in ys
traps_more [] ys = refl
traps_more (x ∷ xs) ys =
    ap (λ l. trap_of x.guard x.how ++ l) (traps_more xs ys)
    ∙ sym (append_assoc (trap_of x.guard x.how) (traps_in xs) (traps_in ys))

pub map_more : {A B : Type 0} (f : A → B) (xs ys : List A) → map f (xs ++ ys) ≡ map f xs ++ map f ys
map_more f [] ys = refl
map_more f (x ∷ xs) ys = ap (λ l. f x ∷ l) (map_more f xs ys)

-- ---- values

pub stop_merged : (guard : Lit) (old middle new : List Node) (traps : List (Trap × Lit)) (returned cells results : List SymValue) (values : Values) (r s : List SymValue)
    → returned ≡ results
    → merged_values old guard returned values.results.items ≡ record { nodes = middle; values = r }
    → merged_values middle guard cells values.cells.items ≡ record { nodes = new; values = s }
    → with_exit guard (Stops results cells) (ended_so old traps values) ≡ record { nodes = new; end = record { traps = traps; results = r; cells = s } }
stop_merged guard old middle new traps returned cells results values r s e f g =
    let last : MadeValues → MadeEnd = λ (m : MadeValues). let n = merged_values m.nodes guard cells values.cells.items in record { nodes = n.nodes; end = record { traps = traps; results = m.values; cells = n.values } } in
    let done : MadeValues → MadeEnd = λ (n : MadeValues). record { nodes = n.nodes; end = record { traps = traps; results = r; cells = n.values } } in
    ap (λ l. last (merged_values old guard l values.results.items)) (sym e) ∙ ap last f ∙ ap done g

-- what is merged at a return is there, and of one layout
pub record IsStopKept (ns : List Node) (returned cells : List SymValue) (values : Values) : Type 0 where
  pub results_there : AreThere ns (all_lits returned)
  pub results_alike : AreAlike returned values.results.items
  pub cells_there : AreThere ns (all_lits cells)
  pub cells_alike : AreAlike cells values.cells.items

pub stop_kept : (ns : List Node) (x : Exit) (values : Values) (returned results cells : List SymValue) → x.how ≡ Stops results cells → returned ≡ results → AreOfOneLayout ns (x ∷ []) values → IsStopKept ns returned cells values
stop_kept ns x values returned results cells e f k =
    let h = subst (HowIsKept k.layout ns) e k.exits.0.how in
    record {
      results_there = subst (λ l. AreThere ns (all_lits l)) (sym f) h.0.1;
      results_alike = subst (λ l. AreAlike l values.results.items) (sym f) (alike k.layout.results results values.results.items h.0.0 k.results);
      cells_there = h.1.1;
      cells_alike = alike k.layout.cells cells values.cells.items h.1.0 k.cells;
    }

pub stop_returns : (how : How) (guard : Lit) (old middle new : List Node) (returned results cells : List SymValue) (values later : Values) → how ≡ Stops results cells → returned ≡ results
    → merged_values old guard returned values.results.items ≡ record { nodes = middle; values = later.results.items }
    → merged_values middle guard cells values.cells.items ≡ record { nodes = new; values = later.cells.items }
    → (traps : List (Trap × Lit)) → with_exit guard how (ended_so old traps values) ≡ ended_so new (trap_of guard how ++ traps) later
stop_returns how guard old middle new returned results cells values later e f g h traps =
    subst (λ (w : How). with_exit guard w (ended_so old traps values) ≡ ended_so new (trap_of guard w ++ traps) later) (sym e)
    (stop_merged guard old middle new traps returned cells results values later.results.items later.cells.items f g h)

-- what was made of some of the exits keeps the layout
pub record AreMerged (l : Layout) (first now : List Node) (values : Values) : Type 0 where
  pub circuit : IsCircuit now
  pub grows : Grows first now
  pub results : AreLaid l.results values.results.items
  pub cells : AreLaid l.cells values.cells.items
  pub results_there : AreThere now (all_lits values.results.items)
  pub cells_there : AreThere now (all_lits values.cells.items)

pub merged_kept : (first now : List Node) (all : List Exit) (start values : Values) (k : AreOfOneLayout first all start) (xs : List Exit) (traps : List (Trap × Lit))
    → AllByRecursion (IsExitKept k.layout first) xs
    → end_built first xs start.results.items start.cells.items ≡ ended_so now traps values
    → AreMerged k.layout first now values
merged_kept first now all start values k xs traps h e =
    let is = ending (λ _. false) k.layout first xs start.results.items start.cells.items k.circuit k.results k.cells k.results_there k.cells_there h in
    let grows = subst (λ (m : MadeEnd). Grows first m.nodes) e is.grows in
    let kept = subst (λ (m : MadeEnd). IsEndKept k.layout m.nodes m.end) e is.kept in
    record { circuit = subst (λ (m : MadeEnd). IsCircuit m.nodes) e is.circuit; grows = grows; results = kept.results; cells = kept.cells; results_there = kept.results_there; cells_there = kept.cells_there }

-- of one layout with the next exit
pub next_kept : (first now : List Node) (all : List Exit) (start values : Values) (k : AreOfOneLayout first all start) (x : Exit)
    → IsExitKept k.layout first x → AreMerged k.layout first now values → AreOfOneLayout now (x ∷ []) values
next_kept first now all start values k x h m = record {
  layout = k.layout;
  circuit = m.circuit;
  exits = exits_later k.layout first now m.grows (x ∷ []) (h, tt);
  results = m.results;
  cells = m.cells;
  results_there = m.results_there;
  cells_there = m.cells_there;
}

pub one_more_exit : (first now next : List Node) (start old new : Values) (x : Exit) (xs : List Exit)
    → end_built first xs start.results.items start.cells.items ≡ ended_so now (traps_in xs) old
    → ((traps : List (Trap × Lit)) → with_exit x.guard x.how (ended_so now traps old) ≡ ended_so next (trap_of x.guard x.how ++ traps) new)
    → end_built first (x ∷ xs) start.results.items start.cells.items ≡ ended_so next (traps_in (x ∷ xs)) new
one_more_exit first now next start old new x xs e f = ap (λ (m : MadeEnd). with_exit x.guard x.how m) e ∙ f (traps_in xs)

-- ---- from the last exit on

abbrev pub last_exits : ℕ → List ExitMade → List Exit
last_exits done exits = map exit_of (drop (length exits - done) exits)

pub last_none : (exits : List ExitMade) → last_exits 0 exits ≡ []
last_none exits = ap (λ (l : List ExitMade). map exit_of l) (drop_all (length exits - 0) exits (omega arith))

pub last_more : (exits : List ExitMade) (done : ℕ) (x : ExitMade) → done < length exits → x ≡ get_or exits (length exits - 1 - done) x → last_exits (done + 1) exits ≡ exit_of x ∷ last_exits done exits
last_more exits done x p e =
    let i : ℕ = length exits - (done + 1) in
    let same : length exits - 1 - done ≡ i = omega arith in
    let next : suc i ≡ length exits - done = omega (arith, p) in
    ap (λ (l : List ExitMade). map exit_of l) (drop-cons exits i x (omega (arith, p)))
    ∙ ap (λ (y : ExitMade). exit_of y ∷ map exit_of (drop (suc i) exits)) (sym (e ∙ ap (λ n. get_or exits n x) same))
    ∙ ap (λ n. exit_of x ∷ map exit_of (drop n exits)) next

pub last_all : (exits : List ExitMade) (done : ℕ) → length exits ≤ done → last_exits done exits ≡ map exit_of exits
last_all exits done p = let none : length exits - done ≡ 0 = omega (arith, p) in ap (λ n. map exit_of (drop n exits)) none

pub all_last : (P : Exit → Type 0) (exits : List ExitMade) (n : ℕ) → AllByRecursion P (map exit_of exits) → AllByRecursion P (map exit_of (drop n exits))
all_last P exits zero h = h
all_last P [] (suc n) h = h
all_last P (x ∷ xs) (suc n) h = all_last P xs n h.1

pub exit_kept : (P : Exit → Type 0) (exits : List ExitMade) (n : ℕ) (x : ExitMade) → AllByRecursion P (map exit_of exits) → n < length exits → x ≡ get_or exits n x → P (exit_of x)
exit_kept P [] n x h p e = absurd (omega (arith, p))
exit_kept P (y ∷ ys) zero x h p e = subst (λ z. P (exit_of z)) (sym e) h.0
exit_kept P (y ∷ ys) (suc n) x h p e = exit_kept P ys n x h.1 (omega (arith, p)) e

-- ---- the loops

pub held_more : (values : List SymValue) (rs : List ℕ) (i d : ℕ) (old new : List SymValue) → i < length rs → old ≡ chosen values (take i rs) → new ≡ old ++ chosen values (get_or rs i d ∷ []) → new ≡ chosen values (take (i + 1) rs)
held_more values rs i d old new p f g =
    g ∙ ap (λ l. l ++ chosen values (get_or rs i d ∷ [])) f
    ∙ sym (chosen_more values (take i rs) (get_or rs i d ∷ []))
    ∙ ap (λ (l : List ℕ). chosen values l) (sym (take_more rs i d p))

pub held_none : (values : List SymValue) (r : ℕ) (held : List SymValue) → length values ≤ r → held ≡ held ++ chosen values (r ∷ [])
held_none values r held p = sym (append-nil held) ∙ ap (λ (o : Option SymValue). held ++ with_chosen o []) (sym (slice_get_past values r p))

pub held_one : (values : List SymValue) (r : ℕ) (x copy : SymValue) (old new : List SymValue) → r < length values → x ≡ get_or values r x → copy ≡ x → new ≡ old ++ copy ∷ [] → new ≡ old ++ chosen values (r ∷ [])
held_one values r x copy old new p e f g =
    g ∙ ap (λ (y : SymValue). old ++ y ∷ []) f ∙ ap (λ (o : Option SymValue). old ++ with_chosen o []) (sym (slice_get_read values (length values) r x refl p e))

pub end_is : (made : MadeEnd) (new : List Node) (ts traps : List (Trap × Lit)) (values : Values) → made ≡ ended_so new ts values → traps ≡ ts → made ≡ ended_so new traps values
end_is made new ts traps values e f = e ∙ ap (λ (l : List (Trap × Lit)). ended_so new l values) (sym f)

pub traps_next : (exits : List ExitMade) (i : ℕ) (x : ExitMade) (old new : List (Trap × Lit)) → i < length exits → x ≡ get_or exits i x → old ≡ traps_in (map exit_of (take i exits)) → new ≡ old ++ trap_of (exit_of x).guard (exit_of x).how → new ≡ traps_in (map exit_of (take (i + 1) exits))
traps_next exits i x old new p e f g =
    let one = trap_of (exit_of x).guard (exit_of x).how in
    g ∙ ap (λ l. l ++ one) f
    ∙ ap (λ l. traps_in (map exit_of (take i exits)) ++ l) (sym (append-nil one))
    ∙ sym (traps_more (map exit_of (take i exits)) (exit_of x ∷ []))
    ∙ ap traps_in (sym (map_more exit_of (take i exits) (x ∷ [])))
    ∙ ap (λ (l : List ExitMade). traps_in (map exit_of l)) (sym (take_more exits i x p ∙ ap (λ (y : ExitMade). take i exits ++ y ∷ []) (sym e)))

pub exits_begin : (first : List Node) (exits : List ExitMade) (start : Values) → end_built first (last_exits 0 exits) start.results.items start.cells.items ≡ ended_so first (traps_in (last_exits 0 exits)) start
exits_begin first exits start = subst (λ (xs : List Exit). end_built first xs start.results.items start.cells.items ≡ ended_so first (traps_in xs) start) (sym (last_none exits)) refl

module _ (first now : List Node) (exits : List ExitMade) (start values : Values) (done : ℕ) (x : ExitMade) (p : done < length exits) (e : x ≡ get_or exits (length exits - 1 - done) x) (so_far : end_built first (last_exits done exits) start.results.items start.cells.items ≡ ended_so now (traps_in (last_exits done exits)) values) where
  pub exit_next : AreOfOneLayout first (map exit_of exits) start → AreOfOneLayout now (exit_of x ∷ []) values
  exit_next k =
      next_kept first now (map exit_of exits) start values k (exit_of x)
      (exit_kept (IsExitKept k.layout first) exits (length exits - 1 - done) x k.exits (omega (arith, p)) e)
      (merged_kept first now (map exit_of exits) start values k (last_exits done exits) (traps_in (last_exits done exits)) (all_last (IsExitKept k.layout first) exits (length exits - done) k.exits) so_far)

  pub exits_next : (next : List Node) (new : Values) → ((traps : List (Trap × Lit)) → with_exit (exit_of x).guard (exit_of x).how (ended_so now traps values) ≡ ended_so next (trap_of (exit_of x).guard (exit_of x).how ++ traps) new)
      → end_built first (last_exits (done + 1) exits) start.results.items start.cells.items ≡ ended_so next (traps_in (last_exits (done + 1) exits)) new
  exits_next next new f =
      subst (λ (xs : List Exit). end_built first xs start.results.items start.cells.items ≡ ended_so next (traps_in xs) new) (sym (last_more exits done x p e))
      (one_more_exit first now next start values new (exit_of x) (last_exits done exits) so_far f)

pub exits_done : (first now : List Node) (exits : List ExitMade) (start values : Values) (done : ℕ) → length exits ≤ done
    → end_built first (last_exits done exits) start.results.items start.cells.items ≡ ended_so now (traps_in (last_exits done exits)) values
    → end_built first (map exit_of exits) start.results.items start.cells.items ≡ ended_so now (traps_in (map exit_of exits)) values
exits_done first now exits start values done p h = subst (λ (xs : List Exit). end_built first xs start.results.items start.cells.items ≡ ended_so now (traps_in xs) values) (last_all exits done p) h

-- ---- cells that are put back

pub blend_true : {A : Type 0} (m : List Bool) (xs ys : List A) (x : A) → length m < length xs → length m < length ys → x ≡ get_or xs (length m) x → blend (m ++ true ∷ []) xs ys ≡ slice_set (blend m xs ys) (length m) x
blend_true m [] ys x p q e = absurd (omega (arith, p))
blend_true m (y ∷ more) [] x p q e = absurd (omega (arith, q))
blend_true [] (y ∷ more) (z ∷ zs) x p q e = ap (λ a. a ∷ zs) (sym e)
blend_true (true ∷ m) (y ∷ more) (z ∷ zs) x p q e = ap (λ l. y ∷ l) (blend_true m more zs x (omega (arith, p)) (omega (arith, q)) e)
blend_true (false ∷ m) (y ∷ more) (z ∷ zs) x p q e = ap (λ l. z ∷ l) (blend_true m more zs x (omega (arith, p)) (omega (arith, q)) e)

pub blend_false : {A : Type 0} (m : List Bool) (xs ys : List A) → length m < length xs → length m < length ys → blend (m ++ false ∷ []) xs ys ≡ blend m xs ys
blend_false m [] ys p q = absurd (omega (arith, p))
blend_false m (y ∷ more) [] p q = absurd (omega (arith, q))
blend_false [] (y ∷ more) (z ∷ zs) p q = refl
blend_false (true ∷ m) (y ∷ more) (z ∷ zs) p q = ap (λ l. y ∷ l) (blend_false m more zs (omega (arith, p)) (omega (arith, q)))
blend_false (false ∷ m) (y ∷ more) (z ∷ zs) p q = ap (λ l. z ∷ l) (blend_false m more zs (omega (arith, p)) (omega (arith, q)))

module _ (owned : List Bool) (before ys : List SymValue) (at : ℕ) (d : Bool) (p : at < length owned) (few : length owned ≤ length before) (short : length owned ≤ length ys) where
  first_long : length (take at owned) ≡ at
  first_long = length-take-le at owned (omega (arith, p))

  put_owned : (cells : List SymValue) (x : SymValue) → get_or owned at d ≡ true → x ≡ get_or before at x → cells ≡ blend (take at owned) before ys → slice_set cells at x ≡ blend (take (at + 1) owned) before ys
  put_owned cells x is f h =
      let n = first_long in
      ap (λ (l : List SymValue). slice_set l at x) h
      ∙ ap (λ k. slice_set (blend (take at owned) before ys) k x) (sym n)
      ∙ sym (blend_true (take at owned) before ys x (omega (arith, n, p, few)) (omega (arith, n, p, short)) (f ∙ ap (λ k. get_or before k x) (sym n)))
      ∙ ap (λ c. blend (take at owned ++ c ∷ []) before ys) (sym is)
      ∙ ap (λ (l : List Bool). blend l before ys) (sym (take_more owned at d p))

  left_alone : (cells : List SymValue) → get_or owned at d ≡ false → cells ≡ blend (take at owned) before ys → cells ≡ blend (take (at + 1) owned) before ys
  left_alone cells is h =
      let n = first_long in
      h
      ∙ sym (blend_false (take at owned) before ys (omega (arith, n, p, few)) (omega (arith, n, p, short)))
      ∙ ap (λ c. blend (take at owned ++ c ∷ []) before ys) (sym is)
      ∙ ap (λ (l : List Bool). blend l before ys) (sym (take_more owned at d p))

  put_or_left : (cells : List SymValue) (x : SymValue) (c : Bool) → get_or owned at d ≡ c → x ≡ get_or before at x → cells ≡ blend (take at owned) before ys → (if c then slice_set cells at x else cells) ≡ blend (take (at + 1) owned) before ys
  put_or_left cells x true is f h = put_owned cells x is f h
  put_or_left cells x false is f h = left_alone cells is h

  pub put_next : (cells new : List SymValue) (x : SymValue) → x ≡ get_or before at x → cells ≡ blend (take at owned) before ys → new ≡ (if get_or owned at d then slice_set cells at x else cells) → new ≡ blend (take (at + 1) owned) before ys
  put_next cells new x f h g = g ∙ put_or_left cells x (get_or owned at d) refl f h

set_long : (b : Bool) (cells : List SymValue) (at : ℕ) (x : SymValue) → length (if b then slice_set cells at x else cells) ≡ length cells
set_long true cells at x = length-set cells at x
set_long false cells at x = refl

pub as_long : (b : Bool) (cells new ys : List SymValue) (at : ℕ) (x : SymValue) → length cells ≡ length ys → new ≡ (if b then slice_set cells at x else cells) → length new ≡ length ys
as_long b cells new ys at x h g = ap (λ (l : List SymValue). length l) g ∙ set_long b cells at x ∙ h
