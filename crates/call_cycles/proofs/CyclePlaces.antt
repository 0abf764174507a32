-- The places of addresses of locals in functions on a call cycle.
use Rattle.std.proofs.Common.{◌≡◌, ℕ, zero, suc, ◌+◌, ◌<◌, List, [], ◌∷◌, ◌++◌, map, flat_map, length, Bool, true, false, Option, Some, None, take, refl, sym, ap, ◌∙◌, ◌↔◌, inl, inr, subst, append_assoc, append-nil, get_or, add-one, ◌≤◌, arith}
use Rattle.std.proofs.lemmas.List.{take_all}
use Rattle.std.proofs.lemmas.Option.{slice_get_read}
use Rattle.std.specs.Option.{MatchOption}
use Rattle.rvt_tree.specs.declared.places.Place.{Place}
use Rattle.rvt_tree.specs.declared.expressions.Variable.{Variable}
use Rattle.rvt_tree.specs.declared.expressions.Variable.TheVariants as V
use Rattle.expression_typing.specs.Progress.{Taken as TakenRecord}
use Rattle.call_graph.proofs.Lists.{append_keeps, append_new, append_cases}
use Rattle.call_graph.specs.Graphs.{At}
use Rattle.file_typing.specs.CallCycles.{IsOnCycle, IsAddressOnCycle, IsFirstAddressOnCycle, HasNoAddressOnCycle}
use Rattle.file_typing.specs.FileScope.{FunctionEntry, Body}
use Rattle.call_cycles.specs.declared.notes.FunctionNotes.{FunctionNotes}
use Rattle.typing_base.specs.declared.addresses.Taken.{Taken}
use Rattle.call_cycles.specs.FirstPlaces.{IsFirstOf, place_for, local_place}
use Rattle.typing_base.specs.NoteViews.{taken_view}
use Rattle.call_cycles.specs.Noted.{Noted, noted, notes_view, taken_in, AreNotesOf, calls_between}
use Rattle.call_cycles.proofs.Elements.{at_map, map_at, at_flat_map, flat_map_at}
use Rattle.call_cycles.proofs.EntriesAndNotes.{same_graph}

abbrev pub places_in : Bool → FunctionNotes → List Place
places_in true notes = flat_map local_place notes.taken.now
places_in false notes = []

-- in the functions with a flag
abbrev pub cycle_places : List Bool → List FunctionNotes → List Place
cycle_places [] functions = []
cycle_places (flag ∷ flags) [] = []
cycle_places (flag ∷ flags) (notes ∷ functions) = places_in flag notes ++ cycle_places flags functions

-- ---- one function more

pub places_more : (flags : List Bool) (functions : List FunctionNotes) (n : ℕ) (flag : Bool) (notes : FunctionNotes) → At flags n flag → At functions n notes → cycle_places (take (suc n) flags) (take (suc n) functions) ≡ cycle_places (take n flags) (take n functions) ++ places_in flag notes
places_more [] functions n flag notes a b = absurd (let q : None ≡ Some flag = a in cc)
places_more (x ∷ flags) [] n flag notes a b = absurd (let q : None ≡ Some notes = b in cc)
places_more (x ∷ flags) (y ∷ functions) zero flag notes a b =
    let e : x ≡ flag = cc in
    let f : y ≡ notes = cc in
    append-nil (places_in x y) ∙ (ap (λ w. places_in w y) e ∙ ap (places_in flag) f)
places_more (x ∷ flags) (y ∷ functions) (suc n) flag notes a b =
    ap (λ rest. places_in x y ++ rest) (places_more flags functions n flag notes a b) ∙ sym (append_assoc (places_in x y) (cycle_places (take n flags) (take n functions)) (places_in flag notes))

pub next_places : (flags : List Bool) (functions : List FunctionNotes) (n : ℕ) (flag : Bool) (notes : FunctionNotes) → length flags ≡ length functions → n < length functions → flag ≡ get_or flags n flag → notes ≡ get_or functions n notes → cycle_places (take (n + 1) flags) (take (n + 1) functions) ≡ cycle_places (take n flags) (take n functions) ++ places_in flag notes
next_places flags functions n flag notes sized within flag_is notes_is =
    subst (λ m. cycle_places (take m flags) (take m functions) ≡ cycle_places (take n flags) (take n functions) ++ places_in flag notes) (sym (add-one n)) (places_more flags functions n flag notes (slice_get_read flags (length functions) n flag (sym sized) within flag_is) (slice_get_read functions (length functions) n notes refl within notes_is))

pub exists_in : (functions : List FunctionNotes) (n : ℕ) → n < length functions → (notes : FunctionNotes) × (notes ≡ get_or functions n notes)
exists_in [] n h = absurd (omega arith)
exists_in (notes ∷ functions) zero h = (notes, refl)
exists_in (notes ∷ functions) (suc n) h = exists_in functions n (omega arith)

pub all_places : (flags : List Bool) (functions : List FunctionNotes) (n : ℕ) → length flags ≡ length functions → length functions ≤ n → cycle_places (take n flags) (take n functions) ≡ cycle_places flags functions
all_places flags functions n sized past =
    let flags_all = take_all n flags (omega (arith, sized, past)) in
    let functions_all = take_all n functions past in
    cc

-- ---- what these places are

pub record IsFlagged (flags : List Bool) (functions : List FunctionNotes) (place : Place) : Type 0 where
  pub number : ℕ
  pub flagged : At flags number true
  pub notes : FunctionNotes
  pub is_there : At functions number notes
  pub local : ℕ
  pub k : ℕ
  pub taken : At notes.taken.now k (record { variable = V.Local local; place = place })

taken_of : (taken : Taken) (variable : Variable) (place : Place) → taken.variable ≡ variable → taken.place ≡ place → taken ≡ record { variable = variable; place = place }
taken_of taken variable place e p =
    let with_variable : Variable → Taken = λ v. record { variable = v; place = taken.place } in
    let with_place : Place → Taken = λ q. record { variable = variable; place = q } in
    ap with_variable e ∙ ap with_place p

only_local : (taken : Taken) (j : ℕ) (place : Place) → At (local_place taken) j place → (local : ℕ) × (taken ≡ record { variable = V.Local local; place = place })
only_local taken j place h = by_variable taken.variable refl where
  by_variable : (variable : Variable) → taken.variable ≡ variable → (local : ℕ) × (taken ≡ record { variable = V.Local local; place = place })
  by_variable (V.Local local) e = (local, same j (subst (λ v. At (place_for taken.place v) j place) e h)) where
    same : (j : ℕ) → At (taken.place ∷ []) j place → taken ≡ record { variable = V.Local local; place = place }
    same zero g = taken_of taken (V.Local local) place e (cc)
    same (suc j) g = absurd (let q : None ≡ Some place = g in cc)
  by_variable (V.Object object) e = absurd (let q : None ≡ Some place = subst (λ v. At (place_for taken.place v) j place) e h in cc)

flagged_here : (flag : Bool) (flags : List Bool) (notes : FunctionNotes) (functions : List FunctionNotes) (k : ℕ) (place : Place) → At (places_in flag notes) k place → IsFlagged (flag ∷ flags) (notes ∷ functions) place
flagged_here false flags notes functions k place h = absurd (let q : None ≡ Some place = h in cc)
flagged_here true flags notes functions k place h =
    let found = at_flat_map local_place notes.taken.now k place h in
    let one = only_local found.1 found.2 place found.4 in
    record { number = 0; flagged = refl; notes = notes; is_there = refl; local = one.0; k = found.0; taken = subst (λ (t : Taken). At notes.taken.now found.0 t) one.1 found.3 }

pub place_flagged : (flags : List Bool) (functions : List FunctionNotes) (k : ℕ) (place : Place) → At (cycle_places flags functions) k place → IsFlagged flags functions place
place_flagged [] functions k place h = absurd (let q : None ≡ Some place = h in cc)
place_flagged (flag ∷ flags) [] k place h = absurd (let q : None ≡ Some place = h in cc)
place_flagged (flag ∷ flags) (notes ∷ functions) k place h = elim (append_cases (places_in flag notes) (cycle_places flags functions) k place h) [
  | inl here ↦ flagged_here flag flags notes functions k place here
  | inr later ↦
      let r = place_flagged flags functions later.0 place later.2 in
      record { number = suc r.number; flagged = r.flagged; notes = r.notes; is_there = r.is_there; local = r.local; k = r.k; taken = r.taken }
]

pub flagged_place : (flags : List Bool) (functions : List FunctionNotes) (number : ℕ) (notes : FunctionNotes) (local j : ℕ) (place : Place) → At flags number true → At functions number notes → At notes.taken.now j (record { variable = V.Local local; place = place }) → (k : ℕ) × At (cycle_places flags functions) k place
flagged_place [] functions number notes local j place a b h = absurd (let q : None ≡ Some true = a in cc)
flagged_place (flag ∷ flags) [] number notes local j place a b h = absurd (let q : None ≡ Some notes = b in cc)
flagged_place (flag ∷ flags) (one ∷ functions) zero notes local j place a b h =
    let e : flag ≡ true = cc in
    let f : one ≡ notes = cc in
    let there : (k : ℕ) × At (flat_map local_place notes.taken.now) k place = flat_map_at local_place notes.taken.now j (record { variable = V.Local local; place = place }) 0 place h refl in
    let here : At (places_in flag one) there.0 place = subst (λ b. At (places_in b one) there.0 place) (sym e) (subst (λ (w : FunctionNotes). At (places_in true w) there.0 place) (sym f) there.1) in
    (there.0, append_keeps (places_in flag one) (cycle_places flags functions) there.0 place here)
flagged_place (flag ∷ flags) (one ∷ functions) (suc number) notes local j place a b h =
    let r = flagged_place flags functions number notes local j place a b h in
    (length (places_in flag one) + r.0, append_new (places_in flag one) (cycle_places flags functions) r.0 (length (places_in flag one) + r.0) place refl r.1)

-- ---- in the entries whose notes these are

module _ (flags : List Bool) (functions : List FunctionNotes) (cycles : (number : ℕ) → At flags number true ↔ IsOnCycle (calls_between functions) number) (entries : List FunctionEntry) (same : AreNotesOf functions entries) where
  -- an address that is noted is one of the body
  in_body : (body : Option Body) (taken : List TakenRecord) (k : ℕ) (one : TakenRecord) → taken_in body ≡ taken → At taken k one → (b : Body) × (body ≡ Some b) × At b.taken k one
  in_body None taken k one e h = absurd (let q : At [] k one = subst (λ (l : List TakenRecord). At l k one) (sym e) h in let r : None ≡ Some one = q in cc)
  in_body (Some b) taken k one e h = (b, refl, subst (λ (l : List TakenRecord). At l k one) (sym e) h)

  flagged_address : (place : Place) → IsFlagged flags functions place → IsAddressOnCycle entries place
  flagged_address place f =
      let there : At (map noted entries) f.number (notes_view f.notes) = subst (λ (l : List Noted). At l f.number (notes_view f.notes)) same (map_at notes_view functions f.number f.notes f.is_there) in
      let entry = at_map noted entries f.number (notes_view f.notes) there in
      let one = map_at taken_view f.notes.taken.now f.k (record { variable = V.Local f.local; place = place }) f.taken in
      let body = in_body entry.0.body (map taken_view f.notes.taken.now) f.k (record { variable = V.Local f.local; place = place }) (ap (λ (n : Noted). n.taken) entry.2) one in (
        f.number,
        record { entry = entry.0; is_there = entry.1; body = body.0; its_body = body.1; local = f.local; k = f.k; taken = body.2 },
        subst (λ (g : List (List ℕ)). IsOnCycle g f.number) (same_graph functions entries same) ((cycles f.number).0 f.flagged),
      )

  address_place : (place : Place) → IsAddressOnCycle entries place → (k : ℕ) × At (cycle_places flags functions) k place
  address_place place (number, takes, cycle) =
      let there : At (map notes_view functions) number (noted takes.entry) = subst (λ (l : List Noted). At l number (noted takes.entry)) (sym same) (map_at noted entries number takes.entry takes.is_there) in
      let notes = at_map notes_view functions number (noted takes.entry) there in
      let all : taken_in takes.entry.body ≡ takes.body.taken = ap taken_in takes.its_body in
      let seen : map taken_view notes.0.taken.now ≡ takes.body.taken = ap (λ (n : Noted). n.taken) notes.2 ∙ all in
      let one = at_map taken_view notes.0.taken.now takes.k (record { variable = V.Local takes.local; place = place }) (subst (λ (l : List TakenRecord). At l takes.k (record { variable = V.Local takes.local; place = place })) (sym seen) takes.taken) in
      let back : TakenRecord → Taken = λ (t : TakenRecord). record { variable = t.variable; place = t.place } in
      let item : At notes.0.taken.now takes.k (record { variable = V.Local takes.local; place = place }) = subst (λ (t : Taken). At notes.0.taken.now takes.k t) (ap back one.2) one.1 in
      let flag : At flags number true = (cycles number).1 (subst (λ (g : List (List ℕ)). IsOnCycle g number) (sym (same_graph functions entries same)) cycle) in
      flagged_place flags functions number notes.0 takes.local takes.k place flag notes.1 item

  pub first_address : (found : Option Place) → IsFirstOf (cycle_places flags functions) found → MatchOption found (HasNoAddressOnCycle entries) (IsFirstAddressOnCycle entries)
  first_address None none = λ at taken.
      let r = address_place at taken in
      absurd (let q : None ≡ Some at = subst (λ (l : List Place). At l r.0 at) none r.1 in cc)
  first_address (Some at) first =
      record {
        there = flagged_address at (place_flagged flags functions first.0.0 at first.0.1);
        first = λ other taken. let r = address_place other taken in first.1 r.0 other r.1;
      }
