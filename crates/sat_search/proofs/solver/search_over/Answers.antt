use Rattle.std.proofs.Common.{arith, ◌≡◌, ◌++◌, length, ℕ, ℤ, List, ap, sym, ◌∙◌, subst, refl, ◌<◌, ◌+◌, ◌∷◌, [], inl, inr, slice_index, length-append, Option, None, Vec}
use Rattle.std.specs.Global.{Global}
use Rattle.unit_propagation.proofs.Tables.{literal_lists_length}
use Rattle.clause_db.specs.declared.clause.LogLine.{LogLine}
use Rattle.clause_db.specs.Log.{literal_lists, results, IsDerived}
use Rattle.unit_propagation.specs.Quiet.{HasReasons, IsQuiet, IsQuietClause}
use Rattle.unit_propagation.specs.Status.{FitsVariables, Extends, IsOutcome}
use Rattle.unit_propagation.specs.Watching.{entries, IsWatched}
use Rattle.unit_propagation.specs.declared.watches.Watched.{Watched}
use Rattle.unit_propagation.proofs.Watchings.{watched_add, watched_more}
use Rattle.sat_search.specs.Learning.{IsSearching}
use Rattle.sat_search.proofs.Levels.{empty_at_zero, fits_false}
use Rattle.std.proofs.lemmas.Bool.{cases_lt}
use Rattle.clause_db.specs.Propagation.{StrengthensPropagation}
use Rattle.unit_propagation.proofs.Fits.{extends_length}
use Rattle.unit_propagation.proofs.Trails.{trail_fits}
use Rattle.std.specs.Prelude.{All}
use Rattle.std.proofs.lemmas.List.{get_or_append_left, append-nil}
use Rattle.clause_db.specs.Literal.{variable_of, IsOrdered}
use Rattle.sat_search.proofs.Steps.{searching_extended, each_push, not_refuted, fewer_conflicts_left, assignment_satisfies, fits_push, results_push}
use Rattle.sat_search.proofs.solver.search_over.Goals as goal

-- what a search keeps, after propagation over the lines as they are passed
propagated : (list : List (List ℤ)) (lines passed passed' : List LogLine) (old new : List ℤ) (starts starts' reasons reasons' : List ℕ) → IsSearching (list ++ results lines) old starts reasons → passed ≡ lines → passed' ≡ lines → Extends old new → starts' ≡ starts → HasReasons (list ++ results passed) new starts' reasons' → IsSearching (list ++ results passed') new starts' reasons'
propagated list lines passed passed' old new starts starts' reasons reasons' searching is is' extends same has =
    subst (λ (ls : List LogLine). IsSearching (list ++ results ls) new starts' reasons') (sym is')
    (subst (λ (s : List ℕ). IsSearching (list ++ results lines) new s reasons') (sym same)
    (searching_extended (list ++ results lines) old new starts reasons reasons' searching extends
    (subst (λ (s : List ℕ). HasReasons (list ++ results lines) new s reasons') same (subst (λ (ls : List LogLine). HasReasons (list ++ results ls) new starts' reasons') is has))))

quiet_first : (list more : List (List ℤ)) (trail : List ℤ) → IsQuiet trail (list ++ more) → IsQuiet trail list
quiet_first list more trail quiet k d h = subst (IsQuietClause trail) (get_or_append_left list more d k h) (quiet k d (let g = length-append list more in omega (arith, g, h)))

fits_first : (list more : List (List ℤ)) (n : ℕ) → FitsVariables n (list ++ more) → FitsVariables n list
fits_first list more n fits k d h = subst (λ c. IsOrdered c × All (λ l. (0 < variable_of l) × (variable_of l < n)) c) (get_or_append_left list more d k h) (fits k d (let g = length-append list more in omega (arith, g, h)))

pub propagate-requires-clause-fits : goal.propagate-requires-clause-fits
propagate-requires-clause-fits g c = subst (λ (ls : List LogLine). FitsVariables (length c.steps.trail.places.items) (literal_lists c.args.clauses.now.list.items ++ results ls)) (sym c.deref.ensures.value) c.steps.invariant.fits

pub propagate-requires-clause-reasons : goal.propagate-requires-clause-reasons
propagate-requires-clause-reasons g c = subst (λ (ls : List LogLine). HasReasons (literal_lists c.args.clauses.now.list.items ++ results ls) c.steps.trail.literals.items c.steps.trail.starts.items c.steps.trail.reasons.items) (sym c.deref.ensures.value) c.steps.invariant.searching.has_reasons

pub propagate-requires-clause-watched : goal.propagate-requires-clause-watched
propagate-requires-clause-watched g c =
    let trail = c.steps.trail in
    let w = c.steps.watches in
    subst (λ (ls : List LogLine). IsWatched (literal_lists c.args.clauses.now.list.items ++ results ls) trail.literals.items trail.starts.items (length trail.places.items) w.head w.pairs.items (entries w.lists.items) w.pending.items) (sym c.deref.ensures.value) c.steps.invariant.watched

pub propagate-requires-clause-all_known : goal.propagate-requires-clause-all_known
propagate-requires-clause-all_known g c =
    subst (λ (ls : List LogLine). length c.steps.watches.pairs.items ≡ length (literal_lists c.args.clauses.now.list.items ++ results ls)) (sym c.deref.ensures.value) c.steps.invariant.known

pub jump-requires-clause-watched : goal.jump-requires-clause-watched
jump-requires-clause-watched g c =
    let trail = c.propagate.new.trail in
    let w = c.propagate.new.self in
    subst (λ (ls : List LogLine). IsWatched (literal_lists c.args.clauses.now.list.items ++ results ls) trail.literals.items trail.starts.items (length trail.places.items) w.head w.pairs.items (entries w.lists.items) w.pending.items) (c.deref.ensures.value ∙ sym c.deref-in-Some-2.ensures.value) c.in_ok-conflict.ensures.watched

pub decide-requires-clause-watched : goal.decide-requires-clause-watched
decide-requires-clause-watched g c =
    let trail = c.propagate.new.trail in
    let w = c.propagate.new.self in
    subst (λ (ls : List LogLine). IsWatched (literal_lists c.args.clauses.now.list.items ++ results ls) trail.literals.items trail.starts.items (length trail.places.items) w.head w.pairs.items (entries w.lists.items) w.pending.items) (c.deref.ensures.value ∙ sym c.deref-in-None.ensures.value) c.in_ok-conflict.ensures.watched

pub decide-requires-clause-handled : goal.decide-requires-clause-handled
decide-requires-clause-handled g c = c.in_ok-conflict.ensures.handled c.in-None.is

pub learn-requires-clause-searching : goal.learn-requires-clause-searching
learn-requires-clause-searching g c =
    let e = c.in_ok-conflict.ensures in
    propagated (literal_lists c.args.clauses.now.list.items) c.steps.log.lines.items c.deref.result.now c.deref-in-Some.result.now c.steps.trail.literals.items c.propagate.new.trail.literals.items c.steps.trail.starts.items c.propagate.new.trail.starts.items c.steps.trail.reasons.items c.propagate.new.trail.reasons.items c.steps.invariant.searching c.deref.ensures.value c.deref-in-Some.ensures.value e.extends e.starts e.reasons_kept

pub jump-requires-clause-searching : goal.jump-requires-clause-searching
jump-requires-clause-searching g c =
    let e = c.in_ok-conflict.ensures in
    propagated (literal_lists c.args.clauses.now.list.items) c.steps.log.lines.items c.deref.result.now c.deref-in-Some-2.result.now c.steps.trail.literals.items c.propagate.new.trail.literals.items c.steps.trail.starts.items c.propagate.new.trail.starts.items c.steps.trail.reasons.items c.propagate.new.trail.reasons.items c.steps.invariant.searching c.deref.ensures.value c.deref-in-Some-2.ensures.value e.extends e.starts e.reasons_kept

pub decide-requires-clause-searching : goal.decide-requires-clause-searching
decide-requires-clause-searching g c =
    let e = c.in_ok-conflict.ensures in
    propagated (literal_lists c.args.clauses.now.list.items) c.steps.log.lines.items c.deref.result.now c.deref-in-None.result.now c.steps.trail.literals.items c.propagate.new.trail.literals.items c.steps.trail.starts.items c.propagate.new.trail.starts.items c.steps.trail.reasons.items c.propagate.new.trail.reasons.items c.steps.invariant.searching c.deref.ensures.value c.deref-in-None.ensures.value e.extends e.starts e.reasons_kept

pub steps-init : goal.steps-init
steps-init g c =
    let list : List (List ℤ) = literal_lists c.args.clauses.now.list.items in
    let n : ℕ = length c.in_ok-trail.trail.places.items in
    let none = c.new-2.ensures.items in
    let w = c.in_ok-watches.watches in
    let t = c.in_ok-trail.ensures in
    record {
      variables = t.variables;
      fits = subst (λ (ls : List LogLine). FitsVariables n (list ++ results ls)) (sym none) (subst (FitsVariables n) (sym (append-nil list)) (subst (λ m. FitsVariables m list) (sym t.variables) c.requires.fits));
      searching = record {
        has_reasons = λ p h. absurd (let e = ap length t.empty in omega (arith, e, h));
        quiet_before = λ k h. absurd (let e = ap length t.no_decision in omega (arith, e, h));
        started = λ k h. absurd (let e = ap length t.no_decision in omega (arith, e, h));
      };
      watched = rw (t.empty, t.no_decision, t.variables) (subst (λ (ls : List LogLine). IsWatched (list ++ results ls) [] [] (c.args.variables + 1) w.head w.pairs.items (entries w.lists.items) w.pending.items) (sym none) (subst (λ cs. IsWatched cs [] [] (c.args.variables + 1) w.head w.pairs.items (entries w.lists.items) w.pending.items) (sym (append-nil list)) c.in_ok-watches.ensures.watched));
      known = subst (λ (ls : List LogLine). length w.pairs.items ≡ length (list ++ results ls)) (sym none) (subst (λ cs. length w.pairs.items ≡ length cs) (sym (append-nil list)) (let long = literal_lists_length c.args.clauses.now.list.items in omega (arith, long, c.in_ok-watches.ensures.known)));
      log = λ k d h. absurd (let e = ap length none in omega (arith, e, h));
      strengthens = λ k d h. absurd (let e = ap length none in omega (arith, e, h));
      below = (let e = ap length none in omega (arith, e, c.requires.limit));
    }

pub returns-then-latest-eq0 : goal.returns-then-latest-eq0
returns-then-latest-eq0 g c =
    let list : List (List ℤ) = literal_lists c.args.clauses.now.list.items in
    let lines : List LogLine = c.steps.log.lines.items in
    let learnt = c.in_ok-learnt-in-Some.learnt in
    let e = c.in_ok-learnt-in-Some.ensures in
    let trail = c.propagate.new.trail in
    let derived = subst (λ (ls : List LogLine). IsDerived (list ++ results ls) learnt.line) c.deref-in-Some.ensures.value e.derived in
    rw c.in_ok-push_line-in-Some.ensures record {
      log = each_push IsDerived list lines learnt.line c.steps.invariant.log derived;
      empty_at_end = (lines, learnt.line, refl, empty_at_zero trail.literals.items trail.places.items trail.places_right learnt.line.result.literals.items learnt.line.result.ordered e.all_false learnt.latest.last learnt.latest.second e.latest c.if-latest-eq0.true);
    }

pub returns-then-len-limit : goal.returns-then-len-limit
returns-then-len-limit g c =
    let list : List (List ℤ) = literal_lists c.args.clauses.now.list.items in
    let lines : List LogLine = c.steps.log.lines.items in
    let learnt = c.in_ok-learnt-in-Some.learnt in
    let e = c.in_ok-learnt-in-Some.ensures in
    let p = c.in_ok-conflict.ensures in
    let trail = c.propagate.new.trail in
    let derived = subst (λ (ls : List LogLine). IsDerived (list ++ results ls) learnt.line) c.deref-in-Some.ensures.value e.derived in
    let some : 0 < length trail.starts.items = elim (cases_lt 0 (length trail.starts.items)) [
      | inl h ↦ h
      | inr h ↦ absurd (let w = e.latest.has_last (omega (arith, c.if-latest-eq0.false)) in let none = ap length (e.empty (omega (arith, h))) in omega (arith, w.1, none))
    ] in
    let strengthens = subst (λ (ls : List LogLine). StrengthensPropagation (list ++ results ls) learnt.line.result.literals.items) c.deref-in-Some.ensures.value (e.strengthens some) in
    let searching = propagated list lines c.deref.result.now lines c.steps.trail.literals.items trail.literals.items c.steps.trail.starts.items trail.starts.items c.steps.trail.reasons.items trail.reasons.items c.steps.invariant.searching c.deref.ensures.value refl p.extends p.starts p.reasons_kept in
    rw c.in_ok-push_line-in-Some-2.ensures record {
      log = each_push IsDerived list lines learnt.line c.steps.invariant.log derived;
      lines_of_limit = (let g = length-append lines (learnt.line ∷ []) in omega (arith, g, c.len.ensures, c.if-len-limit.true, c.steps.log.lines.ok.0));
      each_strengthens = each_push (λ cs line. StrengthensPropagation cs line.result.literals.items) list lines learnt.line c.steps.invariant.strengthens strengthens;
      not_refuted = not_refuted list (results lines) trail.literals.items trail.places.items trail.places_right (slice_index trail.starts.items 0) (searching.quiet_before 0 some);
    }

pub steps-smaller-in-Some : goal.steps-smaller-in-Some
steps-smaller-in-Some g c =
    let lines : List LogLine = c.steps.log.lines.items in
    let trail = c.jump.new.trail in
    let n : ℕ = length c.steps.trail.places.items in
    let same : length trail.places.items ≡ n = c.jump.ensures.variables ∙ c.propagate.ensures.variables in
    let more : length c.push_line-in-Some.new.log.lines.items ≡ length lines + 1 = ap length c.in_ok-push_line-in-Some-3.ensures ∙ (let g = length-append lines (c.in_ok-learnt-in-Some.learnt.line ∷ []) in omega (arith, g)) in
    let fits = trail_fits c.steps.trail.literals.items c.steps.trail.places.items c.steps.trail.places_right in
    rw (same, more) (fewer_conflicts_left c.args.limit (length lines) n (length c.steps.trail.literals.items) (length trail.literals.items) c.steps.invariant.below fits)

pub steps-preserved-in-Some : goal.steps-preserved-in-Some
steps-preserved-in-Some g c =
    let list : List (List ℤ) = literal_lists c.args.clauses.now.list.items in
    let lines : List LogLine = c.steps.log.lines.items in
    let i = c.steps.invariant in
    let learnt = c.in_ok-learnt-in-Some.learnt in
    let e = c.in_ok-learnt-in-Some.ensures in
    let p = c.in_ok-conflict.ensures in
    let trail = c.propagate.new.trail in
    let after = c.jump.new.trail in
    let items = c.in_ok-push_line-in-Some-3.ensures in
    let same : length after.places.items ≡ length c.steps.trail.places.items = c.jump.ensures.variables ∙ c.propagate.ensures.variables in
    let derived = subst (λ (ls : List LogLine). IsDerived (list ++ results ls) learnt.line) c.deref-in-Some.ensures.value e.derived in
    let some : 0 < length trail.starts.items = elim (cases_lt 0 (length trail.starts.items)) [
      | inl h ↦ h
      | inr h ↦ absurd (let w = e.latest.has_last (omega (arith, c.if-latest-eq0.false)) in let none = ap length (e.empty (omega (arith, h))) in omega (arith, w.1, none))
    ] in
    let strengthens = subst (λ (ls : List LogLine). StrengthensPropagation (list ++ results ls) learnt.line.result.literals.items) c.deref-in-Some.ensures.value (e.strengthens some) in
    let below = fits_false trail.literals.items trail.places.items trail.places_right learnt.line.result.literals.items e.all_false in
    let fits = fits_push (length after.places.items) (list ++ results lines) learnt.line.result.literals.items (subst (λ n. FitsVariables n (list ++ results lines)) (sym same) i.fits) learnt.line.result.ordered (λ k d h. ((learnt.line.result.in_range k d h).0, (let b = below k d h in omega (arith, b, c.jump.ensures.variables)))) in
    let w = c.jump.new.watches in
    let a = c.in_ok-add-in-Some.ensures in
    let all : List (List ℤ) = (list ++ results lines) ++ learnt.line.result.literals.items ∷ [] in
    let pairs_same = ap (λ (v : Vec (Option Watched) Global). length v.items) c.jump.ensures.known in
    let all_long = length-append (list ++ results lines) (learnt.line.result.literals.items ∷ []) in
    let old_known : length w.pairs.items ≡ length (list ++ results lines) = omega (arith, pairs_same, c.propagate.ensures.known, i.known) in
    let low : length w.pairs.items < length all = omega (arith, old_known, all_long) in
    let jumped : IsWatched (list ++ results lines) after.literals.items after.starts.items (length after.places.items) w.head w.pairs.items (entries w.lists.items) w.pending.items = subst (λ (ls : List LogLine). IsWatched (list ++ results ls) after.literals.items after.starts.items (length after.places.items) w.head w.pairs.items (entries w.lists.items) w.pending.items) c.deref-in-Some-2.ensures.value c.in_ok-jump-in-Some.ensures.watched in
    let watched : IsWatched all after.literals.items after.starts.items (length after.places.items) c.add.new.self.head c.add.new.self.pairs.items (entries c.add.new.self.lists.items) c.add.new.self.pending.items = rw (a.pairs, a.pending, a.lists, a.head) (watched_add all after.literals.items after.starts.items (length after.places.items) w.head w.pairs.items (entries w.lists.items) w.pending.items low (watched_more (list ++ results lines) (learnt.line.result.literals.items ∷ []) after.literals.items after.starts.items (length after.places.items) w.head w.pairs.items (entries w.lists.items) w.pending.items jumped)) in
    let known : length c.add.new.self.pairs.items ≡ length all = (let e2 = ap length a.pairs in let g2 = length-append w.pairs.items (None ∷ []) in omega (arith, e2, g2, old_known, all_long)) in
    rw items record {
      variables = same ∙ i.variables;
      fits = subst (FitsVariables (length after.places.items)) (sym (results_push lines learnt.line list)) fits;
      searching = subst (λ cs. IsSearching cs after.literals.items after.starts.items after.reasons.items) (sym (results_push lines learnt.line list)) (subst (λ (ls : List LogLine). IsSearching ((list ++ results ls) ++ learnt.line.result.literals.items ∷ []) after.literals.items after.starts.items after.reasons.items) c.deref-in-Some-2.ensures.value c.in_ok-jump-in-Some.ensures.searching);
      watched = subst (λ cs. IsWatched cs after.literals.items after.starts.items (length after.places.items) c.add.new.self.head c.add.new.self.pairs.items (entries c.add.new.self.lists.items) c.add.new.self.pending.items) (sym (results_push lines learnt.line list)) watched;
      known = subst (λ cs. length c.add.new.self.pairs.items ≡ length cs) (sym (results_push lines learnt.line list)) known;
      log = each_push IsDerived list lines learnt.line i.log derived;
      strengthens = each_push (λ cs line. StrengthensPropagation cs line.result.literals.items) list lines learnt.line i.strengthens strengthens;
      below = (let g = length-append lines (learnt.line ∷ []) in omega (arith, g, i.below, c.len.ensures, c.if-len-limit.false, c.steps.log.lines.ok.0));
    }

pub decide-requires-clause-quiet : goal.decide-requires-clause-quiet
decide-requires-clause-quiet g c =
    let list : List (List ℤ) = literal_lists c.args.clauses.now.list.items in
    let new : List ℤ = c.propagate.new.trail.literals.items in
    let quiet = subst (IsOutcome (list ++ results c.deref.result.now) new) c.in-None.is c.in_ok-conflict.ensures.outcome in
    subst (λ (ls : List LogLine). IsQuiet new (list ++ results ls)) (c.deref.ensures.value ∙ sym c.deref-in-None.ensures.value) quiet

pub returns-then-not-branch : goal.returns-then-not-branch
returns-then-not-branch g c =
    let list : List (List ℤ) = literal_lists c.args.clauses.now.list.items in
    let new : List ℤ = c.propagate.new.trail.literals.items in
    let trail = c.decide.new.trail in
    let d = c.in_ok-decide-in-None.ensures in
    let same = d.unchanged c.if-not-branch.true in
    let variables : length trail.places.items ≡ length c.steps.trail.places.items = c.decide.ensures.variables ∙ c.propagate.ensures.variables in
    let quiet = subst (IsOutcome (list ++ results c.deref.result.now) new) c.in-None.is c.in_ok-conflict.ensures.outcome in
    let quiet_list : IsQuiet trail.literals.items list = subst (λ (t : List ℤ). IsQuiet t list) (sym same) (quiet_first list (results c.deref.result.now) new quiet) in
    let fits_list = fits_first list (results c.steps.log.lines.items) (length trail.places.items) (subst (λ n. FitsVariables n (list ++ results c.steps.log.lines.items)) (sym variables) c.steps.invariant.fits) in
    (assignment_satisfies list trail.literals.items trail.places.items trail.places_right quiet_list fits_list (d.none_free c.if-not-branch.true) _ c.in_ok-values-in-None.ensures.says, omega (arith, c.in_ok-values-in-None.ensures.each_variable, variables, c.steps.invariant.variables), omega (arith, c.len-then-not-branch.ensures, c.steps.log.lines.ok.0, c.steps.invariant.below))

pub steps-smaller : goal.steps-smaller
steps-smaller g c =
    let trail = c.decide.new.trail in
    let same : length trail.places.items ≡ length c.steps.trail.places.items = c.decide.ensures.variables ∙ c.propagate.ensures.variables in
    let longer = c.in_ok-decide-in-None.ensures.longer c.if-not-branch.false in
    let grown = extends_length c.steps.trail.literals.items c.propagate.new.trail.literals.items c.in_ok-conflict.ensures.extends in
    let fits = trail_fits trail.literals.items trail.places.items trail.places_right in
    rw same (omega (arith, same, longer, grown, fits))

pub steps-preserved : goal.steps-preserved
steps-preserved g c =
    let list : List (List ℤ) = literal_lists c.args.clauses.now.list.items in
    let i = c.steps.invariant in
    let trail = c.decide.new.trail in
    let w = c.propagate.new.self in
    let same : length trail.places.items ≡ length c.steps.trail.places.items = c.decide.ensures.variables ∙ c.propagate.ensures.variables in
    record {
      variables = same ∙ i.variables;
      fits = subst (λ n. FitsVariables n (list ++ results c.steps.log.lines.items)) (sym same) i.fits;
      searching = subst (λ (ls : List LogLine). IsSearching (list ++ results ls) trail.literals.items trail.starts.items trail.reasons.items) c.deref-in-None.ensures.value c.in_ok-decide-in-None.ensures.searching;
      watched = subst (λ (ls : List LogLine). IsWatched (list ++ results ls) trail.literals.items trail.starts.items (length trail.places.items) w.head w.pairs.items (entries w.lists.items) w.pending.items) c.deref-in-None.ensures.value c.in_ok-decide-in-None.ensures.watched;
      known = c.propagate.ensures.known ∙ i.known;
      log = i.log;
      strengthens = i.strengthens;
      below = i.below;
    }
