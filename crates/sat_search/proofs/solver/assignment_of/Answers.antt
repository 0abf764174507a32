use Rattle.std.proofs.Common.{arith, ◌≡◌, ◌-◌, ◌++◌, ◌∷◌, [], length, pos, List, Bool, true, false, ap, sym, ◌∙◌, subst, inl, inr, slice_index_or, length-append}
use Rattle.std.specs.Prelude.{Contains, ◌↔◌}
use Rattle.std.proofs.Math.Seq.{get_or-append_seam}
use Rattle.std.proofs.lemmas.Bool.{cases_lt}
use Rattle.std.proofs.lemmas.List.{get_or_append_left}
use Rattle.sat_search.proofs.solver.assignment_of.Goals as goal

pub loop-v-preserved : goal.loop-v-preserved
loop-v-preserved c =
    let i = c.loop-v.invariant in
    let old : List Bool = c.loop-v.values.items in
    let b : Bool = c.is_true.result in
    let trail = c.args.trail.now.literals.items in
    let items : c.push.new.self.items ≡ old ++ b ∷ [] = c.in-Ok.ensures.items in
    record {
      size = rw items (let g = length-append old (b ∷ []) in omega (arith, g, i.size));
      each = λ k above h. elim (cases_lt k c.loop-v.v) [
        | inl g ↦ subst (λ (x : Bool). (x ≡ true) ↔ Contains trail (pos k)) (sym (ap (λ (xs : List Bool). slice_index_or xs (k - 1) false) items ∙ get_or_append_left old (b ∷ []) false (k - 1) (omega (arith, g, above, i.size)))) (i.each k above g)
        | inr g ↦
            let e : k ≡ c.loop-v.v = omega arith in
            let at : k - 1 ≡ length old = omega (arith, e, i.size) in
            subst (λ (x : Bool). (x ≡ true) ↔ Contains trail (pos k)) (sym (ap (λ (xs : List Bool). slice_index_or xs (k - 1) false) items ∙ ap (λ n. slice_index_or (old ++ b ∷ []) n false) at ∙ get_or-append_seam old b [] false))
            (subst (λ n. (b ≡ true) ↔ Contains trail (pos n)) (sym e) c.is_true.ensures)
      ];
    }
