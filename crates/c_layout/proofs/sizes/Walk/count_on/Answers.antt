use Rattle.std.proofs.Common.{◌≡◌, ◌≤◌, ◌-◌, ℕ, arith, length, subst, slice_set, Some}
use Rattle.std.specs.Prelude.{IfSome}
use Rattle.rvt_tree.specs.declared.types.CType.{CType}
use Rattle.c_layout.specs.declared.sizes.Mark.TheVariants.{Sized}
use Rattle.c_layout.specs.Sizes.{At, types_of, struct_in, LastNeeds, LastIsCounted}
use Rattle.c_layout.proofs.Steps.{last_counts, last_within, walk_after, numbers_after, needed_after, counted_after, if_some, if_none}
use Rattle.c_layout.proofs.sizes.Walk.count_on.Goals as goal

pub bounds-as_slice-frame : goal.bounds-as_slice-frame
bounds-as_slice-frame c =
    last_within c.args.structs.now c.args.self.now.marks.items c.args.self.now.frames.items c.requires.walk c.len-last.result (omega (arith, c.len-last.ensures, c.args.self.now.frames.ok.0)) c.requires.some c.index.result.now c.index.ensures c.as_slice.result.now c.as_slice.ensures

pub count_fields-wanted-requires : goal.count_fields-wanted-requires
count_fields-wanted-requires c = record {
  few = (last_counts c.args.structs.now c.args.self.now.marks.items c.args.self.now.frames.items c.requires.walk c.len-last.result (omega (arith, c.len-last.ensures, c.args.self.now.frames.ok.0)) c.requires.some c.index.result.now c.index.ensures).few;
}

pub returns-clause-walk : goal.returns-clause-walk
returns-clause-walk c =
    walk_after c.args.structs.now c.args.self.now.marks.items c.args.self.now.frames.items c.requires.walk c.len-last.result (omega (arith, c.len-last.ensures, c.args.self.now.frames.ok.0)) c.requires.some c.index.result.now c.index.ensures
    c.as_slice.result.now c.as_slice.ensures c.index-as_slice-frame.result c.index-as_slice-frame.is c.as_slice-2.result.now c.as_slice-2.ensures c.as_slice-3.result.now c.as_slice-3.ensures.value c.count_fields-wanted.new.frame c.count_fields-wanted.ensures.same c.count_fields-wanted.ensures.few c.count_fields-wanted.ensures.counts

pub returns-clause-numbers : goal.returns-clause-numbers
returns-clause-numbers c =
    numbers_after c.args.structs.now c.args.self.now.marks.items c.args.self.now.frames.items c.requires.walk c.len-last.result (omega (arith, c.len-last.ensures, c.args.self.now.frames.ok.0)) c.requires.some c.index.result.now c.index.ensures
    c.as_slice.result.now c.as_slice.ensures c.index-as_slice-frame.result c.index-as_slice-frame.is c.as_slice-2.result.now c.as_slice-2.ensures c.as_slice-3.result.now c.as_slice-3.ensures.value c.count_fields-wanted.new.frame c.count_fields-wanted.ensures.same c.count_fields-wanted.ensures.few c.count_fields-wanted.ensures.counts

pub returns-clause-needed : goal.returns-clause-needed
returns-clause-needed c =
    if_some (λ number. (place : ℕ) × (ty : CType) × At (types_of c.as_slice-2.result.now) place ty × (struct_in ty ≡ Some number))
    (LastNeeds c.args.structs.now (slice_set c.args.self.now.frames.items (c.len-last.result - 1) c.count_fields-wanted.new.frame))
    (needed_after c.args.structs.now c.args.self.now.marks.items c.args.self.now.frames.items c.requires.walk c.len-last.result (omega (arith, c.len-last.ensures, c.args.self.now.frames.ok.0)) c.requires.some c.index.result.now c.index.ensures
    c.as_slice.result.now c.as_slice.ensures c.index-as_slice-frame.result c.index-as_slice-frame.is c.as_slice-2.result.now c.as_slice-2.ensures c.as_slice-3.result.now c.as_slice-3.ensures.value c.count_fields-wanted.new.frame c.count_fields-wanted.ensures.same c.count_fields-wanted.ensures.few c.count_fields-wanted.ensures.counts)
    c.count_fields-wanted.result c.count_fields-wanted.ensures.wants

pub returns-clause-uncounted : goal.returns-clause-uncounted
returns-clause-uncounted c =
    subst (λ ms. IfSome c.count_fields-wanted.result (λ number. (size : ℕ) → At ms number (Sized size) → ⊥)) c.as_slice-3.ensures.value c.count_fields-wanted.ensures.uncounted

pub returns-clause-counted : goal.returns-clause-counted
returns-clause-counted c =
    if_none (length c.as_slice-2.result.now ≤ c.count_fields-wanted.new.frame.next)
    (LastIsCounted c.args.structs.now c.args.self.now.marks.items (slice_set c.args.self.now.frames.items (c.len-last.result - 1) c.count_fields-wanted.new.frame))
    (counted_after c.args.structs.now c.args.self.now.marks.items c.args.self.now.frames.items c.requires.walk c.len-last.result (omega (arith, c.len-last.ensures, c.args.self.now.frames.ok.0)) c.requires.some c.index.result.now c.index.ensures
    c.as_slice.result.now c.as_slice.ensures c.index-as_slice-frame.result c.index-as_slice-frame.is c.as_slice-2.result.now c.as_slice-2.ensures c.as_slice-3.result.now c.as_slice-3.ensures.value c.count_fields-wanted.new.frame c.count_fields-wanted.ensures.same c.count_fields-wanted.ensures.few c.count_fields-wanted.ensures.counts)
    c.count_fields-wanted.result c.count_fields-wanted.ensures.all
