use Rattle.std.proofs.Common.{◌≡◌, ◌⊎◌, inl, inr, ℕ, ◌+◌, ◌<◌, false, List, length, Vec, refl, sym, ap, ◌∙◌, subst, arith}
use Rattle.std.specs.Prelude.{IsTrue, slice_index_or}
use Rattle.std.specs.Global.{Global}
use Rattle.std.proofs.lemmas.List.{length-map}
use Rattle.call_graph.specs.Graphs.{At, Edge, rows}
use Rattle.call_graph.proofs.Lists.{row_at, within, same_at}
use Rattle.call_graph.proofs.graphs.Graph.is_closed.Goals as goal

-- the row that is looked at
this_row : (vectors items : List (Vec ℕ Global)) (k : ℕ) (v : Vec ℕ Global) → items ≡ vectors → k < length items → v ≡ slice_index_or items k v → At (rows vectors) k v.items
this_row vectors items k v same lt e =
    let lt' : k < length vectors = omega (arith, lt, ap length same) in
    row_at vectors k v (omega (arith, lt', length-map vectors (λ (w : Vec ℕ Global). w.items))) (e ∙ ap (λ l. slice_index_or l k v) same)

sized : (vectors : List (Vec ℕ Global)) → length (rows vectors) ≡ length vectors
sized vectors = length-map vectors (λ (w : Vec ℕ Global). w.items)

false_true : IsTrue false → ⊥
false_true e = cc

earlier_or_last : (a b : ℕ) → a < b + 1 → (a < b) ⊎ (a ≡ b)
earlier_or_last a b h = grind arith

pub returns-then-not-all_below : goal.returns-then-not-all_below
returns-then-not-all_below c =
    let vectors = c.args.self.now.successors.items in
    let at = this_row vectors c.deref-row-items.result.now c.rows.row-index c.row-item.result c.deref-row-items.ensures.value c.rows-test.true c.row-item.is in (
      λ h. absurd (false_true h),
      λ closed. sym c.if-not-all_below.true ∙ c.all_below.ensures.1 (λ place vertex leads.
          let edge : Edge (rows vectors) c.rows.row-index vertex = record { successors = c.row-item.result.items; is_there = at; place = place; leads = subst (λ l. At l place vertex) c.as_slice.ensures.value leads } in
          omega (arith, closed c.rows.row-index vertex edge, sized vectors, c.len-count.ensures, c.args.self.now.successors.ok.0)),
    )

pub rows-preserved : goal.rows-preserved
rows-preserved c from place to row lt at leads =
    let vectors = c.args.self.now.successors.items in
    let here = this_row vectors c.deref-row-items.result.now c.rows.row-index c.row-item.result c.deref-row-items.ensures.value c.rows-test.true c.row-item.is in
    elim (earlier_or_last from c.rows.row-index lt) [
      | inl less ↦ c.rows.invariant from place to row less at leads
      | inr same ↦
          let is_row = same_at (rows vectors) c.rows.row-index row c.row-item.result.items (subst (λ k. At (rows vectors) k row) same at) here in
          let leads' : At c.as_slice.result.now place to = subst (λ l. At l place to) (is_row ∙ sym c.as_slice.ensures.value) leads in
          omega (arith, c.all_below.ensures.0 c.if-not-all_below.false place to leads', c.len-count.ensures, c.args.self.now.successors.ok.0)
    ]

pub returns : goal.returns
returns c =
    let vectors = c.args.self.now.successors.items in (
      λ h u v e.
          let lt : u < length vectors = omega (arith, within (rows vectors) u e.successors e.is_there, sized vectors) in
          omega (arith, c.rows.invariant u e.place v e.successors (omega (arith, lt, ap length c.deref-row-items.ensures.value, c.rows-test.false)) e.is_there e.leads, sized vectors),
      λ closed. refl,
    )
