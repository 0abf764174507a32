-- What spreads along the graph of callers are the least sets.
use Rattle.std.proofs.Common.{◌≡◌, ◌⊎◌, ◌↔◌, inl, inr, ℕ, zero, suc, ◌<◌, ◌≤◌, Bool, true, false, List, [], ◌∷◌, length, map, Option, Some, None, replicate, refl, sym, ap, ◌∙◌, arith, subst}
use Rattle.std.specs.Prelude.{slice_get, slice_index_or}
use Rattle.std.proofs.lemmas.List.{length-map}
use Rattle.call_graph.proofs.Lists.{within, same_at, exists_at}
use Rattle.call_graph.specs.Graphs.{At, Edge, Reaches}
use Rattle.core_ir.specs.Calls.{Among, unit_calls}
use Rattle.core_ir.specs.Cells.{has}
use Rattle.core_ir.specs.Joint.{Side, core_of, table, bare}
use Rattle.core_ir.specs.Nodes.{objects_in, types_in}
use Rattle.core_ir.specs.declared.cores.Core.{Core}
use Rattle.core_ir.specs.declared.cores.CoreObject.{CoreObject}
use Rattle.core_ir.specs.declared.cores.JointCore.{JointCore}
use Rattle.core_ir.specs.declared.units.Unit.{Unit}
use Rattle.graph_marks.specs.Cycles.{IsOnCycle}
use Rattle.graph_marks.specs.Marks.{Spreads, seed, passed}
use Rattle.rvt_num.specs.declared.values.Trap.{Trap}
use Rattle.touch_sets.proofs.CallerEdges.{caller_there}
use Rattle.touch_sets.proofs.Places.{map_at, at_map, or_true, true_left, true_right, has_among, among_has, any_among, among_any, trap_among, among_trap, read_at}
use Rattle.touch_sets.specs.Bodies.{unit_objects, unit_types, names_of, types_of, Begins, begins_in, any_held, names_object, has_trap}
use Rattle.touch_sets.specs.Callers.{AreCallers}
use Rattle.touch_sets.specs.Sets.{Holds, Touches, MayTrap, Leads, AlwaysEnds}
use Rattle.touch_sets.specs.declared.bodies.Named.{Named}

none_is : {X : Type 0} (x : X) → None ≡ Some x → ⊥
none_is x h = cc

-- flags that are all down
pub all_down : (n u : ℕ) → u < n → At (replicate n false) u false
all_down n u h = down n u h
  where
    down : (n u : ℕ) → u < n → At (replicate n false) u false
    down zero u h = absurd (omega arith)
    down (suc n) zero h = refl
    down (suc n) (suc u) h = down n u (omega arith)

-- ---- touched objects

module _ (joint : JointCore) (side : Side) (graph : List (List ℕ)) (callers : AreCallers (core_of joint side) graph) where
  abbrev core : Core
  core = core_of joint side

  module _ (all : List Named) (names : map names_of all ≡ map unit_objects core.units) (types : map types_of all ≡ map unit_types core.units) where
    -- the unit at the place of what it names
    pub record UnitAt (u : ℕ) (named : Named) : Type 0 where
      pub unit : Unit
      pub is_there : At core.units u unit
      pub objects : named.objects.items ≡ objects_in unit.body
      pub types_are : named.types.items ≡ types_in unit.registers unit.body

    unit_named : (u : ℕ) (named : Named) → At all u named → UnitAt u named
    unit_named u named h =
        both (map_at unit_objects core.units u named.objects.items (subst (λ l. At l u named.objects.items) names (at_map names_of all u named h))) (map_at unit_types core.units u named.types.items (subst (λ l. At l u named.types.items) types (at_map types_of all u named h)))
      where
        both : (w : Unit) × At core.units u w × (unit_objects w ≡ named.objects.items) → (w : Unit) × At core.units u w × (unit_types w ≡ named.types.items) → UnitAt u named
        both v w =
            record { unit = v.0; is_there = v.1; objects = sym v.2; types_are = sym w.2 ∙ ap unit_types (same_at core.units u w.0 v.0 w.1 v.1) }

    named_unit : (u : ℕ) (w : Unit) → At core.units u w → (named : Named) × At all u named
    named_unit u w h = from_names (map_at names_of all u (unit_objects w) (subst (λ l. At l u (unit_objects w)) (sym names) (at_map unit_objects core.units u w h)))
      where
        from_names : (named : Named) × At all u named × (names_of named ≡ unit_objects w) → (named : Named) × At all u named
        from_names n = (n.0, n.1)

    -- a touched object has a number below each one that is past all objects that are there or named
    pub touched_below : (count : ℕ) → length joint.old.objects ≤ count → ((u : ℕ) (named : Named) → At all u named → (o : ℕ) → Among o named.objects.items → o < count) → (u o : ℕ) → Touches joint side u o → o < count
    touched_below count long past u o (Touches.by_name w e a f) = from (named_unit u w e)
      where
        from : (named : Named) × At all u named → o < count
        from n = let at = unit_named u n.0 n.1 in past u n.0 n.1 o (subst (Among o) (sym (at.objects ∙ ap unit_objects (same_at core.units u at.unit w at.is_there e))) a)
    touched_below count long past u o (Touches.by_type w type e a h f) =
        let lt = within (table joint) o h.object h.is_there in
        let size = length-map joint.old.objects bare in
        omega (arith, lt, size, long)
    touched_below count long past u o (Touches.by_call w callee e a t f) = touched_below count long past callee o t

    module _ (o : ℕ) (held : List Bool) (holds : (type : ℕ) → (slice_index_or held type false ≡ true) ↔ begins_in (slice_get joint.old.objects o) type) where
      -- what is held is held in the table
      held_begins : (type : ℕ) → slice_index_or held type false ≡ true → Holds (table joint) type o
      held_begins type e = by_object (slice_get joint.old.objects o) refl ((holds type).0 e)
        where
          by_object : (x : Option CoreObject) → slice_get joint.old.objects o ≡ x → begins_in x type → Holds (table joint) type o
          by_object None e b = absurd b
          by_object (Some x) e b = record { object = bare x; is_there = at_map bare joint.old.objects o x e; addressable = b.addressable; cell = b.cell; begins = b.begins }

      begins_held : (type : ℕ) → Holds (table joint) type o → slice_index_or held type false ≡ true
      begins_held type h = from_object (map_at bare joint.old.objects o h.object h.is_there)
        where
          from_object : (x : CoreObject) × At joint.old.objects o x × (bare x ≡ h.object) → slice_index_or held type false ≡ true
          from_object w =
              let plain : Begins w.0 type = record {
                addressable = ap (λ (x : CoreObject). x.addressable) w.2 ∙ h.addressable;
                cell = h.cell;
                begins = subst (λ (x : CoreObject). Among (type, h.cell) x.starts) (sym w.2) h.begins;
              } in
              (holds type).1 (subst (λ x. begins_in x type) (sym w.1) plain)

      abbrev seeds : List Bool
      seeds = map (names_object held o) all

      abbrev owners : List Bool
      owners = map (λ (w : Unit). has o w.owned) core.units

      -- a unit whose body touches the object, and which doesn't own it
      seed_touches : (u : ℕ) → At seeds u true → At owners u false → Touches joint side u o
      seed_touches u s f = from (map_at (names_object held o) all u true s) (map_at (λ (w : Unit). has o w.owned) core.units u false f)
        where
          from : (named : Named) × At all u named × (names_object held o named ≡ true) → (w : Unit) × At core.units u w × (has o w.owned ≡ false) → Touches joint side u o
          from n w =
              let at = unit_named u n.0 n.1 in
              let same : at.unit ≡ w.0 = same_at core.units u at.unit w.0 at.is_there w.1 in
              let free : has o at.unit.owned ≡ false = ap (λ (x : Unit). has o x.owned) same ∙ w.2 in
              elim (or_true (has o n.0.objects.items) (any_held held n.0.types.items) n.2) [
                | inl h ↦ Touches.by_name at.unit at.is_there (subst (Among o) at.objects (has_among o n.0.objects.items h)) free
                | inr h ↦ let t = any_among held n.0.types.items h in Touches.by_type at.unit t.0 at.is_there (subst (Among t.0) at.types_are t.1) (held_begins t.0 t.2) free
              ]

      pub spread_touches : (u : ℕ) → Spreads graph seeds owners u → Touches joint side u o
      spread_touches u (seed v s f) = seed_touches v s f
      spread_touches u (passed v x m e f) = from (spread_touches v m) (map_at (λ (w : Unit). has o w.owned) core.units x false f)
        where
          from : Touches joint side v o → (w : Unit) × At core.units x w × (has o w.owned ≡ false) → Touches joint side x o
          from t w = Touches.by_call w.0 v w.1 ((callers.edges v x).0 e).1 t w.2

      free_at : (u : ℕ) (w : Unit) → At core.units u w → has o w.owned ≡ false → At owners u false
      free_at u w h e = subst (λ b. At owners u b) e (at_map (λ (w : Unit). has o w.owned) core.units u w h)

      seeded : (u : ℕ) (w : Unit) → At core.units u w → (Among o (objects_in w.body) ⊎ ((type : ℕ) × Among type (types_in w.registers w.body) × (slice_index_or held type false ≡ true))) → At seeds u true
      seeded u w h own = from (named_unit u w h)
        where
          from : (named : Named) × At all u named → At seeds u true
          from n =
              let at = unit_named u n.0 n.1 in
              let same : at.unit ≡ w = same_at core.units u at.unit w at.is_there h in
              let is_true : names_object held o n.0 ≡ true = elim own [
                | inl a ↦ true_left (has o n.0.objects.items) (any_held held n.0.types.items) (among_has o n.0.objects.items (subst (Among o) (sym (at.objects ∙ ap unit_objects same)) a))
                | inr t ↦ true_right (has o n.0.objects.items) (any_held held n.0.types.items) (among_any held n.0.types.items t.0 (subst (Among t.0) (sym (at.types_are ∙ ap unit_types same)) t.1) t.2)
              ] in
              subst (λ b. At seeds u b) is_true (at_map (names_object held o) all u n.0 n.1)

      touching_there : (u : ℕ) → Touches joint side u o → u < length core.units
      touching_there u (Touches.by_name w e a f) = within core.units u w e
      touching_there u (Touches.by_type w type e a h f) = within core.units u w e
      touching_there u (Touches.by_call w callee e a t f) = within core.units u w e

      pub touches_spread : (u : ℕ) → Touches joint side u o → Spreads graph seeds owners u
      touches_spread u (Touches.by_name w e a f) = seed u (seeded u w e (inl a)) (free_at u w e f)
      touches_spread u (Touches.by_type w type e a h f) = seed u (seeded u w e (inr (type, a, begins_held type h))) (free_at u w e f)
      touches_spread u (Touches.by_call w callee e a t f) = passed callee u (touches_spread callee t) ((callers.edges callee u).1 (touching_there callee t, a)) (free_at u w e f)

  -- ---- traps

  module _ (t : Trap) where
    abbrev trapping : List Bool
    trapping = map (λ (w : Unit). has_trap t w.own_traps) core.units

    pub spread_traps : (free : List Bool) (u : ℕ) → Spreads graph trapping free u → MayTrap joint side u t
    spread_traps free u (seed v s f) = from (map_at (λ (w : Unit). has_trap t w.own_traps) core.units v true s)
      where
        from : (w : Unit) × At core.units v w × (has_trap t w.own_traps ≡ true) → MayTrap joint side v t
        from w = MayTrap.by_itself w.0 w.1 (trap_among t w.0.own_traps w.2)
    spread_traps free u (passed v x m e f) = MayTrap.by_call v ((callers.edges v x).0 e).1 (spread_traps free v m)

    trapping_there : (u : ℕ) → MayTrap joint side u t → u < length core.units
    trapping_there u (MayTrap.by_itself w e a) = within core.units u w e
    trapping_there u (MayTrap.by_call callee a m) = caller_there core u callee a

    pub traps_spread : (n : ℕ) → n ≡ length core.units → (u : ℕ) → MayTrap joint side u t → Spreads graph trapping (replicate n false) u
    traps_spread n size u (MayTrap.by_itself w e a) =
        seed u (subst (λ b. At trapping u b) (among_trap t w.own_traps a) (at_map (λ (w : Unit). has_trap t w.own_traps) core.units u w e)) (all_down n u (let lt = within core.units u w e in omega (arith, lt, size)))
    traps_spread n size u (MayTrap.by_call callee a m) =
        passed callee u (traps_spread n size callee m) ((callers.edges callee u).1 (trapping_there callee m, a)) (all_down n u (let lt = caller_there core u callee a in omega (arith, lt, size)))

-- ---- units that always end

module _ (core : Core) (graph : List (List ℕ)) (callers : AreCallers core graph) where
  leads_there : (u v : ℕ) → Leads core u v → u < length core.units
  leads_there u v (Leads.by_call a) = caller_there core u v a
  leads_there u v (Leads.onward {v = x} a l) = caller_there core u x a

  leads_last : (u v w : ℕ) → Leads core u v → Among w (unit_calls core v) → Leads core u w
  leads_last u v w (Leads.by_call a) b = Leads.onward a (Leads.by_call b)
  leads_last u v w (Leads.onward {v = x} a l) b = Leads.onward a (leads_last x v w l b)

  -- a path to callers, as calls
  path_leads : (x v : ℕ) → Reaches graph x v → (x ≡ v) ⊎ Leads core v x
  path_leads x v Reaches.here = inl refl
  path_leads x v (Reaches.onward {v = y} e p) =
      let a = ((callers.edges x y).0 e).1 in
      elim (path_leads y v p) [ inl same ↦ inr (subst (λ k. Leads core k x) same (Leads.by_call a)) | inr l ↦ inr (leads_last v y x l a) ]

  pub cycle_leads : (v : ℕ) → IsOnCycle graph v → Leads core v v
  cycle_leads v o =
      let a = ((callers.edges v o.next).0 o.edge).1 in
      elim (path_leads o.next v o.back) [ inl same ↦ subst (λ k. Leads core k v) same (Leads.by_call a) | inr l ↦ leads_last v o.next v l a ]

  path_more : (x v u : ℕ) → Reaches graph x v → Edge graph v u → Reaches graph x u
  path_more x v u Reaches.here e = Reaches.onward e Reaches.here
  path_more x v u (Reaches.onward {v = y} f p) e = Reaches.onward f (path_more y v u p e)

  leads_back : (u w : ℕ) → w < length core.units → Leads core u w → (y : ℕ) × Edge graph w y × Reaches graph y u
  leads_back u w fits (Leads.by_call a) = (u, (callers.edges w u).1 (fits, a), Reaches.here)
  leads_back u w fits (Leads.onward {v = x} a l) =
      let r = leads_back x w fits l in
      (r.0, r.1, path_more r.0 x u r.2 ((callers.edges x u).1 (leads_there x w l, a)))

  pub leads_cycle : (v : ℕ) → Leads core v v → IsOnCycle graph v
  leads_cycle v l = let r = leads_back v v (leads_there v v l) l in record { next = r.0; edge = r.1; back = r.2 }

  -- a unit that reaches itself, or one that does
  abbrev IsEndless : ℕ → Type 0
  IsEndless u = Leads core u u ⊎ ((v : ℕ) × Leads core u v × Leads core v v)

  module _ (cycles : List Bool) (are : (v : ℕ) → At cycles v true ↔ IsOnCycle graph v) (n : ℕ) (size : n ≡ length core.units) where
    abbrev free : List Bool
    free = replicate n false

    spread_endless : (u : ℕ) → Spreads graph cycles free u → IsEndless u
    spread_endless u (seed v s f) = inl (cycle_leads v ((are v).0 s))
    spread_endless u (passed v x m e f) =
        let a = ((callers.edges v x).0 e).1 in
        elim (spread_endless v m) [ inl l ↦ inr (v, Leads.by_call a, l) | inr w ↦ inr (w.0, Leads.onward a w.1, w.2) ]

    free_there : (u : ℕ) → u < length core.units → At free u false
    free_there u h = all_down n u (omega (arith, h, size))

    cycle_spread : (u : ℕ) → Leads core u u → Spreads graph cycles free u
    cycle_spread u l = seed u ((are u).1 (leads_cycle u l)) (free_there u (leads_there u u l))

    leads_spread : (u v : ℕ) → v < length core.units → Leads core u v → Spreads graph cycles free v → Spreads graph cycles free u
    leads_spread u v fits (Leads.by_call a) m = passed v u m ((callers.edges v u).1 (fits, a)) (free_there u (caller_there core u v a))
    leads_spread u v fits (Leads.onward {v = x} a l) m =
        passed x u (leads_spread x v fits l m) ((callers.edges x u).1 (leads_there x v l, a)) (free_there u (caller_there core u x a))

    module _ (marks : List Bool) (sized : length marks ≡ length core.units) (marked : (u : ℕ) → At marks u true ↔ Spreads graph cycles free u) where
      true_false : (u : ℕ) → At marks u true → At marks u false → ⊥
      true_false u h k = apart (same_at marks u true false h k)
        where
          apart : true ≡ false → ⊥
          apart = λ e. cc

      -- a flag that is down stands there
      down_there : (xs : List Bool) (u : ℕ) → slice_index_or xs u true ≡ false → At xs u false
      down_there [] u h = absurd (apart h)
        where
          apart : true ≡ false → ⊥
          apart = λ e. cc
      down_there (x ∷ xs) zero h = ap Some h
      down_there (x ∷ xs) (suc u) h = down_there xs u h

      down_ends : (u : ℕ) → At marks u false → AlwaysEnds core u
      down_ends u h = from (exists_at core.units u (let lt = within marks u false h in omega (arith, lt, sized)))
        where
          from : (w : Unit) × At core.units u w → AlwaysEnds core u
          from w = record {
            unit = w.0;
            is_there = w.1;
            itself = λ l. true_false u ((marked u).1 (cycle_spread u l)) h;
            reached = λ v l m. true_false u ((marked u).1 (leads_spread u v (leads_there v v m) l (cycle_spread v m))) h;
          }

      ends_down : (u : ℕ) → AlwaysEnds core u → slice_index_or marks u true ≡ false
      ends_down u a = by_mark (exists_at marks u (let lt = within core.units u a.unit a.is_there in omega (arith, lt, sized)))
        where
          endless : IsEndless u → ⊥
          endless (inl l) = a.itself l
          endless (inr w) = a.reached w.0 w.1 w.2

          by_mark : (b : Bool) × At marks u b → slice_index_or marks u true ≡ false
          by_mark (true, h) = absurd (endless (spread_endless u ((marked u).0 h)))
          by_mark (false, h) = read_at marks u true false h

      pub ends_marked : (u : ℕ) → (slice_index_or marks u true ≡ false) ↔ AlwaysEnds core u
      ends_marked u = (λ h. down_ends u (down_there marks u h), ends_down u)
