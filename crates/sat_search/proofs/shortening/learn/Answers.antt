use Rattle.std.proofs.Common.{arith, ◌≡◌, ◌-◌, ◌++◌, ◌<◌, length, ℕ, ℤ, List, sym, subst}
use Rattle.std.specs.Prelude.{All, Contains}
use Rattle.chain_resolution.specs.Marked.{marked}
use Rattle.clause_db.specs.Literal.{variable_of, opposite}
use Rattle.clause_db.specs.Log.{literal_lists, results, ResolvesTo}
use Rattle.unit_propagation.specs.Quiet.{IsFalseClause}
use Rattle.sat_search.specs.Latest.{IsLatest}
use Rattle.sat_search.specs.Learning.{last_start}
use Rattle.sat_search.specs.Parts.{IsPartFrom}
use Rattle.sat_search.proofs.Chain.{learnt_strengthens}
use Rattle.sat_search.proofs.Levels.{fits_false}
use Rattle.sat_search.proofs.Parts.{part_all, part_empty}
use Rattle.sat_search.proofs.Behind.{still_behind, still_before}
use Rattle.sat_search.proofs.shortening.learn.Goals as goal

pub latest_of-latest-requires : goal.latest_of-latest-requires
latest_of-latest-requires c =
    let trail = c.args.trail.now in
    let places = trail.places.items in
    let clauses : List (List ℤ) = literal_lists c.args.clauses.now.list.items ++ results c.args.lines.now in
    let long : List ℤ = marked c.resolve_back.new.marks.table.items in
    let short : List ℤ = c.in_ok-result.result.literals.items in
    let is : short ≡ marked c.shorten.new.marks.table.items = c.in_ok-result.ensures in
    let e = c.in_ok-pivots.ensures in
    let s = c.in_ok-shorten.ensures in
    let part : IsPartFrom places c.level_bound-bound.result long short = subst (IsPartFrom places c.level_bound-bound.result long) (sym is) s.part in
    let all_false : IsFalseClause trail.literals.items short = part_all (λ l. Contains trail.literals.items (opposite l)) long short part.part e.all_false in
    subst (All (λ l. variable_of l < length places)) (sym c.deref-2.ensures.value) (fits_false trail.literals.items places trail.places_right short all_false)

pub returns-clause-derived : goal.returns-clause-derived
returns-clause-derived c =
    let trail = c.args.trail.now in
    let places = trail.places.items in
    let clauses : List (List ℤ) = literal_lists c.args.clauses.now.list.items ++ results c.args.lines.now in
    let long : List ℤ = marked c.resolve_back.new.marks.table.items in
    let short : List ℤ = c.in_ok-result.result.literals.items in
    let is : short ≡ marked c.shorten.new.marks.table.items = c.in_ok-result.ensures in
    let e = c.in_ok-pivots.ensures in
    let s = c.in_ok-shorten.ensures in
    let part : IsPartFrom places c.level_bound-bound.result long short = subst (IsPartFrom places c.level_bound-bound.result long) (sym is) s.part in
    let all_false : IsFalseClause trail.literals.items short = part_all (λ l. Contains trail.literals.items (opposite l)) long short part.part e.all_false in
    let chain = e.chain in
    record { start = chain.0; is_earlier = chain.1; chain = subst (ResolvesTo clauses chain.0 c.shorten.new.pivots.items) (sym is) (s.chain chain.0 chain.2) }

pub returns-clause-all_false : goal.returns-clause-all_false
returns-clause-all_false c =
    let trail = c.args.trail.now in
    let places = trail.places.items in
    let clauses : List (List ℤ) = literal_lists c.args.clauses.now.list.items ++ results c.args.lines.now in
    let long : List ℤ = marked c.resolve_back.new.marks.table.items in
    let short : List ℤ = c.in_ok-result.result.literals.items in
    let is : short ≡ marked c.shorten.new.marks.table.items = c.in_ok-result.ensures in
    let e = c.in_ok-pivots.ensures in
    let s = c.in_ok-shorten.ensures in
    let part : IsPartFrom places c.level_bound-bound.result long short = subst (IsPartFrom places c.level_bound-bound.result long) (sym is) s.part in
    let all_false : IsFalseClause trail.literals.items short = part_all (λ l. Contains trail.literals.items (opposite l)) long short part.part e.all_false in
    all_false

pub returns-clause-latest : goal.returns-clause-latest
returns-clause-latest c =
    let trail = c.args.trail.now in
    let places = trail.places.items in
    let latest = subst (λ xs. IsLatest places xs (length xs) c.latest_of-latest.result.last c.latest_of-latest.result.second) c.deref-2.ensures.value c.latest_of-latest.ensures in
    latest

pub returns-clause-empty : goal.returns-clause-empty
returns-clause-empty c none =
    let trail = c.args.trail.now in
    let places = trail.places.items in
    let clauses : List (List ℤ) = literal_lists c.args.clauses.now.list.items ++ results c.args.lines.now in
    let long : List ℤ = marked c.resolve_back.new.marks.table.items in
    let short : List ℤ = c.in_ok-result.result.literals.items in
    let is : short ≡ marked c.shorten.new.marks.table.items = c.in_ok-result.ensures in
    let e = c.in_ok-pivots.ensures in
    let s = c.in_ok-shorten.ensures in
    let part : IsPartFrom places c.level_bound-bound.result long short = subst (IsPartFrom places c.level_bound-bound.result long) (sym is) s.part in
    let all_false : IsFalseClause trail.literals.items short = part_all (λ l. Contains trail.literals.items (opposite l)) long short part.part e.all_false in
    part_empty short (λ l w. subst (λ xs. Contains xs l) (e.empty none) (part.part l w))

pub returns-clause-one_behind : goal.returns-clause-one_behind
returns-clause-one_behind c some =
    let trail = c.args.trail.now in
    let places = trail.places.items in
    let clauses : List (List ℤ) = literal_lists c.args.clauses.now.list.items ++ results c.args.lines.now in
    let long : List ℤ = marked c.resolve_back.new.marks.table.items in
    let short : List ℤ = c.in_ok-result.result.literals.items in
    let is : short ≡ marked c.shorten.new.marks.table.items = c.in_ok-result.ensures in
    let e = c.in_ok-pivots.ensures in
    let s = c.in_ok-shorten.ensures in
    let part : IsPartFrom places c.level_bound-bound.result long short = subst (IsPartFrom places c.level_bound-bound.result long) (sym is) s.part in
    let all_false : IsFalseClause trail.literals.items short = part_all (λ l. Contains trail.literals.items (opposite l)) long short part.part e.all_false in
    let latest = subst (λ xs. IsLatest places xs (length xs) c.latest_of-latest.result.last c.latest_of-latest.result.second) c.deref-2.ensures.value c.latest_of-latest.ensures in
    let ordered = c.in_ok-result.result.ordered in
    let bound = c.level_bound-bound.ensures.last some in
    let start : ℕ = last_start trail.starts.items in
    let behind = still_behind places long short c.level_bound-bound.result start c.latest_of-latest.result.last c.latest_of-latest.result.second ordered latest part bound (e.one_behind some) in
    let before = still_before places long short c.level_bound-bound.result start c.latest_of-latest.result.last c.latest_of-latest.result.second ordered latest part bound (e.one_behind some) in
    (behind, before)

pub returns-clause-strengthens : goal.returns-clause-strengthens
returns-clause-strengthens c some =
    let trail = c.args.trail.now in
    let places = trail.places.items in
    let clauses : List (List ℤ) = literal_lists c.args.clauses.now.list.items ++ results c.args.lines.now in
    let long : List ℤ = marked c.resolve_back.new.marks.table.items in
    let short : List ℤ = c.in_ok-result.result.literals.items in
    let is : short ≡ marked c.shorten.new.marks.table.items = c.in_ok-result.ensures in
    let e = c.in_ok-pivots.ensures in
    let s = c.in_ok-shorten.ensures in
    let part : IsPartFrom places c.level_bound-bound.result long short = subst (IsPartFrom places c.level_bound-bound.result long) (sym is) s.part in
    let all_false : IsFalseClause trail.literals.items short = part_all (λ l. Contains trail.literals.items (opposite l)) long short part.part e.all_false in
    let latest = subst (λ xs. IsLatest places xs (length xs) c.latest_of-latest.result.last c.latest_of-latest.result.second) c.deref-2.ensures.value c.latest_of-latest.ensures in
    let ordered = c.in_ok-result.result.ordered in
    let bound = c.level_bound-bound.ensures.last some in
    let start : ℕ = last_start trail.starts.items in
    let behind = still_behind places long short c.level_bound-bound.result start c.latest_of-latest.result.last c.latest_of-latest.result.second ordered latest part bound (e.one_behind some) in
    let before = still_before places long short c.level_bound-bound.result start c.latest_of-latest.result.last c.latest_of-latest.result.second ordered latest part bound (e.one_behind some) in
    let quiet = c.requires.searching.quiet_before (length trail.starts.items - 1) (omega (arith, some)) in
    learnt_strengthens clauses trail.literals.items places trail.places_right start quiet short all_false c.latest_of-latest.result.last c.latest_of-latest.result.second latest behind before
