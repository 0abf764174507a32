-- What holds while a file is read.
use Rattle.std.specs.Prelude.{All, map, fold}
use Rattle.std.proofs.Common.{◌≡◌, ℕ, ◌-◌, ◌+◌, ◌<◌, ◌≤◌, Bool, true, false, ◌&&◌, cond, List, [], ◌∷◌, ◌++◌, length, take, drop, Option, Some, None, Result, Ok, Err, refl, sym, ap, ◌∙◌, subst, arith, append_assoc}
use Rattle.std.proofs.lemmas.Bool.{both_ways}
use Rattle.std.proofs.lemmas.List.{append-nil, length-append, length-map, drop_all}
use Rattle.std.proofs.lemmas.List.Elements.{All-nil, All-append, All-map, All-weaker}
use Rattle.c_tokens.specs.declared.tokens.TokenClass.{TokenClass}
use Rattle.c_lexer.specs.declared.faults.Cause.{Cause}
use Rattle.c_lexer.specs.declared.faults.Cause.TheVariants as cause
use Rattle.c_lexer.specs.declared.faults.Fault.{Fault}
use Rattle.c_lexer.specs.declared.faults.Fault.TheVariants as fault
use Rattle.c_lexer.specs.declared.faults.Wrong.{Wrong}
use Rattle.c_lexer.specs.declared.pieces.Piece.{Piece}
use Rattle.c_lexer.specs.declared.spots.Spot.{Spot}
use Rattle.c_lexer.specs.declared.tokens.Place.{Place}
use Rattle.c_lexer.specs.declared.tokens.Token.{Token}
use Rattle.c_lexer.specs.Defines.{Definition, defined_as, BodiesStand}
use Rattle.c_lexer.specs.Lines.{line_end, ReadsLine, TakesLine}
use Rattle.c_lexer.specs.Pieces.{PieceStands, piece_of, text_between}
use Rattle.c_lexer.specs.Places.{place_after, ends_blank, spot_after, after_byte}
use Rattle.c_lexer.specs.Spells.{Point, start, begins_directive, met_at, standing_for, stood, given, Steps, item, directive, SpellsTo, end, step, Spells, max_tokens, IsStuck, item as stuck_item, directive as stuck_directive, many, IsRefused, IfRefused, IsFaultOf, IsOnlyFault, HasNoTokens, Goes}
use Rattle.c_lexer.specs.Starts.{begins_byte, StandsFirst, IsWrong, open_comment, bad_token}
use Rattle.c_lexer.specs.Texts.{StandsIn}
use Rattle.c_lexer.proofs.DefineLemmas.{body_stands}
use Rattle.c_lexer.proofs.LineLemmas.{reads_same, takes_same}
use Rattle.c_lexer.proofs.PlaceLemmas.{spot_between}
use Rattle.c_lexer.proofs.StartLemmas.{nothing_in_empty, same_first, wrong_nothing}

-- ---- one step

pub steps_same : {bytes : List ℕ} {from next other : Point} {first tokens : List Token} → Steps bytes from first next → Steps bytes from tokens other → (first ≡ tokens) × (next ≡ other)
steps_same (item no_hash n class is) (directive hash later takes) = absurd (both_ways _ no_hash hash)
steps_same (directive hash later takes) (item no_hash n class is) = absurd (both_ways _ no_hash hash)
steps_same {bytes = bytes} {from = from} (directive hash later takes) (directive too others takes_too) =
    let one = takes_same takes takes_too in
    (refl, ap (λ ds. record { at = line_end bytes from.at; defines = ds }) one)
steps_same {bytes = bytes} {from = from} (item no_hash n class is) (item too m kind is_too) =
    let one = same_first is is_too in
    (ap (given bytes from class) one.0 ∙ ap (λ k. given bytes from k m) one.1, ap (λ k. record { at = from.at + k; defines = from.defines }) one.0)

no_byte : (bytes : List ℕ) (at : ℕ) → length bytes ≤ at → begins_directive bytes at ≡ true → ⊥
no_byte bytes at over hash = ends (ends_blank (take at bytes)) (ap (λ text. ends_blank (take at bytes) && begins_byte 35 text) (sym (drop_all at bytes over)) ∙ hash)
  where
    ends : (b : Bool) → (b && false) ≡ true → ⊥
    ends true e = absurd (cc)
    ends false e = absurd (cc)

pub no_step_at_end : {bytes : List ℕ} {from next : Point} {first : List Token} → length bytes ≤ from.at → Steps bytes from first next → ⊥
no_step_at_end {bytes = bytes} {from = from} over (item no_hash n class is) = nothing_in_empty n class (subst (λ text. StandsFirst text n class) (drop_all from.at bytes over) is)
no_step_at_end {bytes = bytes} {from = from} over (directive hash later takes) = no_byte bytes from.at over hash

pub spells_more : {bytes : List ℕ} {stop from next : Point} {tokens first : List Token} → SpellsTo bytes stop from tokens → Steps bytes stop first next → SpellsTo bytes next from (tokens ++ first)
spells_more {bytes = bytes} {next = next} {first = first} end steps = subst (SpellsTo bytes next _) (append-nil first) (step next steps end)
spells_more {bytes = bytes} {from = from} {next = next} {first = first} (step {first = front} {later = later} on one rest) steps =
    subst (SpellsTo bytes next from) (sym (append_assoc front later first)) (step on one (spells_more rest steps))

-- ---- what is read so far

-- the rest of a file's tokens, after those read so far
pub record GoesOn (bytes : List ℕ) (point stop : Point) (tokens whole : List Token) : Type 0 where
  pub rest : List Token
  pub joined : whole ≡ tokens ++ rest
  pub spelled : SpellsTo bytes stop point rest

-- The bytes up to the point spell the tokens, and all that spells the file begins so.
pub record Reads (bytes : List ℕ) (point : Point) (tokens : List Token) : Type 0 where
  pub so_far : SpellsTo bytes point start tokens
  pub only : (stop : Point) (whole : List Token) → stop.at ≡ length bytes → SpellsTo bytes stop start whole → GoesOn bytes point stop tokens whole

pub reads_start : (bytes : List ℕ) → Reads bytes start []
reads_start bytes = record {
  so_far = end;
  only = λ stop whole last spelled. record { rest = whole; joined = refl; spelled = spelled };
}

goes_on : {bytes : List ℕ} {point stop next : Point} {first rest : List Token} → point.at < length bytes → stop.at ≡ length bytes → Steps bytes point first next → SpellsTo bytes stop point rest
    → GoesOn bytes next stop first rest
goes_on before last steps end = absurd (let wrong : ⊥ = omega (arith, before, last) in wrong)
goes_on {bytes = bytes} {stop = stop} {first = first} before last steps (step {first = front} {later = later} on one rest) =
    let same = steps_same one steps in
    record {
      rest = later;
      joined = ap (λ ts. ts ++ later) same.0;
      spelled = subst (λ p. SpellsTo bytes stop p later) same.1 rest;
    }

pub reads_step : (bytes : List ℕ) (point next : Point) (tokens first : List Token) → point.at < length bytes → Steps bytes point first next → Reads bytes point tokens
    → Reads bytes next (tokens ++ first)
reads_step bytes point next tokens first before steps reads = record {
  so_far = spells_more reads.so_far steps;
  only = λ stop whole last spelled.
      let r = reads.only stop whole last spelled in
      let on = goes_on before last steps r.spelled in
      record {
        rest = on.rest;
        joined = r.joined ∙ ap (λ ts. tokens ++ ts) on.joined ∙ sym (append_assoc tokens first on.rest);
        spelled = on.spelled;
      };
}

no_more : {bytes : List ℕ} {point stop : Point} {rest : List Token} → length bytes ≤ point.at → SpellsTo bytes stop point rest → rest ≡ []
no_more over end = refl
no_more over (step on one rest) = absurd (no_step_at_end over one)

pub reads_end : (bytes : List ℕ) (point : Point) (tokens : List Token) → point.at ≡ length bytes → Reads bytes point tokens → Spells bytes tokens
reads_end bytes point tokens last reads = record { stop = point; last = last; spelled = reads.so_far }

pub reads_only : (bytes : List ℕ) (point : Point) (tokens others : List Token) → length bytes ≤ point.at → Reads bytes point tokens → Spells bytes others → others ≡ tokens
reads_only bytes point tokens others over reads spells =
    let r = reads.only spells.stop others spells.last spells.spelled in
    r.joined ∙ ap (λ ts. tokens ++ ts) (no_more over r.spelled) ∙ append-nil tokens

-- ---- where nothing goes on

err_same : (new : Option Definition) (wrong : Wrong) → ◌≡◌ {A = Result (Option Definition) Wrong} (Ok new) (Err wrong) → ⊥
err_same new wrong e = absurd (cc)

stuck_many : {bytes : List ℕ} {from next : Point} {count : ℕ} {place : Place} {why : Cause} {first : List Token} → IsStuck bytes from count place why → Steps bytes from first next
    → max_tokens < count + length first
stuck_many (stuck_item no_hash wrong is) (item too n class stands) = absurd (wrong_nothing is n class stands)
stuck_many (stuck_item no_hash wrong is) (directive hash later takes) = absurd (both_ways _ no_hash hash)
stuck_many (stuck_directive hash wrong reads) (item no_hash n class stands) = absurd (both_ways _ no_hash hash)
stuck_many (stuck_directive hash wrong reads) (directive too later takes) = absurd (err_same takes.new wrong (reads_same takes.reads reads))
stuck_many {count = count} (many first on steps over) one = subst (λ ts. max_tokens < count + length ts) (steps_same steps one).0 over

nothing_more : {bytes : List ℕ} {point stop : Point} {rest : List Token} {place : Place} {why : Cause} (tokens : List Token) → point.at < length bytes → stop.at ≡ length bytes
    → IsStuck bytes point (length tokens) place why → SpellsTo bytes stop point rest → length (tokens ++ rest) ≤ max_tokens → ⊥
nothing_more tokens before last stuck end few = absurd (let wrong : ⊥ = omega (arith, before, last) in wrong)
nothing_more tokens before last stuck (step {first = first} {later = later} on one rest) few =
    let over = stuck_many stuck one in
    let inner = length-append first later in
    let outer = length-append tokens (first ++ later) in
    let wrong : ⊥ = omega (arith, over, inner, outer, few) in
    wrong

pub stuck_none : (bytes : List ℕ) (point : Point) (tokens whole : List Token) (place : Place) (why : Cause) → point.at < length bytes → Reads bytes point tokens
    → IsStuck bytes point (length tokens) place why → Spells bytes whole → length whole ≤ max_tokens → ⊥
stuck_none bytes point tokens whole place why before reads stuck spells few =
    let r = reads.only spells.stop whole spells.last spells.spelled in
    nothing_more tokens before spells.last stuck r.spelled (subst (λ ts. length ts ≤ max_tokens) r.joined few)

pub fault_none : (bytes : List ℕ) (point : Point) (tokens : List Token) → point.at < length bytes → Reads bytes point tokens → (why : Fault) → IfRefused (IsStuck bytes point (length tokens)) why
    → HasNoTokens bytes why
fault_none bytes point tokens before reads (fault.Refused place why) stuck = λ whole spells few. stuck_none bytes point tokens whole place why before reads stuck spells few
fault_none bytes point tokens before reads fault.Memory stuck = tt

pub fault_refused : (bytes : List ℕ) (point : Point) (tokens : List Token) → point.at < length bytes → length tokens ≤ max_tokens → Reads bytes point tokens → (why : Fault)
    → IfRefused (IsStuck bytes point (length tokens)) why → IsFaultOf bytes why
fault_refused bytes point tokens before few reads (fault.Refused place why) stuck = record {
  reached = point;
  tokens = tokens;
  within = before;
  spelled = reads.so_far;
  few = few;
  stuck = stuck;
}
fault_refused bytes point tokens before few reads fault.Memory stuck = tt

-- ---- where the tokens stand

pub stood_stand : (bytes : List ℕ) (ds : List Definition) (class : Option TokenClass) (first after : ℕ) → BodiesStand bytes ds → All (PieceStands bytes) (piece_of class first after)
    → All (PieceStands bytes) (stood bytes ds class first after)
stood_stand bytes ds None first after all stands = All-nil (PieceStands bytes)
stood_stand bytes ds (Some class) first after all stands = by (defined_as ds (text_between bytes first after)) refl
  where
    by : (found : Option (List Piece)) → defined_as ds (text_between bytes first after) ≡ found → All (PieceStands bytes) (standing_for found (piece_of (Some class) first after))
    by None e = stands
    by (Some body) e = body_stands bytes (text_between bytes first after) ds all body e

met_stands : (bytes : List ℕ) (place : Place) (piece : Piece) → PieceStands bytes piece → StandsIn bytes (met_at place piece)
met_stands bytes place piece is = record { some = is.some; within = is.within; class = is.class }

pub more_stand : (bytes : List ℕ) (place : Place) (tokens : List Token) (pieces : List Piece) → All (StandsIn bytes) tokens → All (PieceStands bytes) pieces
    → All (StandsIn bytes) (tokens ++ map (met_at place) pieces)
more_stand bytes place tokens pieces all stands =
    All-append (StandsIn bytes) tokens (map (met_at place) pieces) all
    (All-map (StandsIn bytes) (met_at place) pieces (All-weaker (PieceStands bytes) (λ piece. StandsIn bytes (met_at place piece)) (met_stands bytes place) pieces stands))

-- ---- all that holds

pub record Stands (bytes : List ℕ) (at : ℕ) (spot : Spot) (ds : List Definition) (tokens : List Token) : Type 0 where
  pub within : at ≤ length bytes
  pub spotted : spot ≡ spot_after (take at bytes)
  pub reads : Reads bytes (record { at = at; defines = ds }) tokens
  pub few : length tokens ≤ max_tokens
  pub bodies : BodiesStand bytes ds
  pub stand : All (StandsIn bytes) tokens

pub stands_start : (bytes : List ℕ) (ds : List Definition) (tokens : List Token) → ds ≡ [] → tokens ≡ []
    → Stands bytes 0 (record { place = record { line = 1; column = 1 }; blank = true }) ds tokens
stands_start bytes ds tokens none empty = record {
  within = omega arith;
  spotted = refl;
  reads = subst (λ ts. Reads bytes (record { at = 0; defines = ds }) ts) (sym empty) (subst (λ d. Reads bytes (record { at = 0; defines = d }) []) (sym none) (reads_start bytes));
  few = subst (λ ts. length ts ≤ max_tokens) (sym empty) (omega arith);
  bodies = subst (BodiesStand bytes) (sym none) (All-nil (λ d. All (PieceStands bytes) d.body));
  stand = subst (All (StandsIn bytes)) (sym empty) (All-nil (StandsIn bytes));
}

pub stands_step : (bytes : List ℕ) (at next : ℕ) (spot : Spot) (ds later : List Definition) (tokens more : List Token) → at < length bytes → Stands bytes at spot ds tokens
    → Goes bytes (record { at = at; defines = ds }) (record { at = next; defines = later }) tokens more → at < next → next ≤ length bytes → BodiesStand bytes later → length more ≤ max_tokens
    → All (StandsIn bytes) more → Stands bytes next (fold after_byte spot (take (next - at) (drop at bytes))) later more
stands_step bytes at next spot ds later tokens more before stands goes further within bodies few stand = record {
  within = within;
  spotted = ap (λ s. fold after_byte s (take (next - at) (drop at bytes))) stands.spotted ∙ spot_between bytes at next (omega (arith, further));
  reads = subst (λ ts. Reads bytes (record { at = next; defines = later }) ts) (sym goes.joined) (reads_step bytes _ _ tokens goes.first before goes.steps stands.reads);
  few = few;
  bodies = bodies;
  stand = stand;
}

-- ---- what stops a step

pub stuck_counted : (bytes : List ℕ) (from : Point) (count : ℕ) (why : Fault) → IfRefused (λ place cause. (n : ℕ) → IsStuck bytes from n place cause) why → IfRefused (IsStuck bytes from count) why
stuck_counted bytes from count (fault.Refused place why) stuck = stuck count
stuck_counted bytes from count fault.Memory stuck = tt

pub stuck_by_many : (bytes : List ℕ) (from next : Point) (count size : ℕ) (met : Place) (first : List Token) (why : Fault) → met ≡ place_after (take from.at bytes) → Steps bytes from first next
    → length first ≡ size → IfRefused (λ place c. (place ≡ met) × (c ≡ cause.TooManyTokens) × (max_tokens < count + size)) why → IfRefused (IsStuck bytes from count) why
stuck_by_many bytes from next count size met first (fault.Refused place why) placed steps counted (at, is, over) =
    let all : max_tokens < count + length first = omega (arith, over, counted) in
    subst (λ p. IsStuck bytes from count p why) (sym (at ∙ placed)) (subst (λ c. IsStuck bytes from count (place_after (take from.at bytes)) c) (sym is) (many first next steps all))
stuck_by_many bytes from next count size met first fault.Memory placed steps counted says = tt

-- ---- steps of the code

pub steps_plain : (bytes : List ℕ) (from : Point) (n : ℕ) (class : Option TokenClass) → begins_directive bytes from.at ≡ false → StandsFirst (drop from.at bytes) n class
    → Steps bytes from (given bytes from class n) (record { at = from.at + n; defines = from.defines })
steps_plain bytes from n class no_hash is = item no_hash n class is

pub stuck_plain : (bytes : List ℕ) (from : Point) (count : ℕ) (wrong : Wrong) → begins_directive bytes from.at ≡ false → IsWrong (drop from.at bytes) wrong
    → IsStuck bytes from count (place_after (take (from.at + wrong.offset) bytes)) wrong.cause
stuck_plain bytes from count wrong no_hash is = stuck_item no_hash wrong is

pub goes_plain : (bytes : List ℕ) (at n : ℕ) (class : Option TokenClass) (met : Place) (ds : List Definition) (tokens more : List Token) → met ≡ place_after (take at bytes)
    → begins_directive bytes at ≡ false → StandsFirst (drop at bytes) n class → more ≡ tokens ++ map (met_at met) (stood bytes ds class at (at + n))
    → Goes bytes (record { at = at; defines = ds }) (record { at = at + n; defines = ds }) tokens more
goes_plain bytes at n class met ds tokens more placed no_hash is added = record {
  first = given bytes (record { at = at; defines = ds }) class n;
  steps = item no_hash n class is;
  joined = added ∙ ap (λ p. tokens ++ map (met_at p) (stood bytes ds class at (at + n))) placed;
}

pub goes_line : (bytes : List ℕ) (at next : ℕ) (ds later : List Definition) (tokens : List Token) → next ≡ line_end bytes at → begins_directive bytes at ≡ true → TakesLine bytes at ds later
    → Goes bytes (record { at = at; defines = ds }) (record { at = next; defines = later }) tokens tokens
goes_line bytes at next ds later tokens ends hash takes = record {
  first = [];
  steps = subst (λ k. Steps bytes (record { at = at; defines = ds }) [] (record { at = k; defines = later })) (sym ends) (directive hash later takes);
  joined = sym (append-nil tokens);
}

-- ---- one refusal

wrong_same : {text : List ℕ} {wrong other : Wrong} → IsWrong text wrong → IsWrong text other → wrong ≡ other
wrong_same (open_comment is unclosed) (open_comment too never) = refl
wrong_same (open_comment is unclosed) (bad_token some too none) = absurd (cc)
wrong_same (bad_token some is none) (open_comment too unclosed) = absurd (cc)
wrong_same (bad_token some is none) (bad_token more too never) = refl

no_more_wrong : {bytes : List ℕ} {from next : Point} {first : List Token} (wrong : Wrong) → begins_directive bytes from.at ≡ false → IsWrong (drop from.at bytes) wrong → Steps bytes from first next → ⊥
no_more_wrong wrong no_hash is (item too n class stands) = wrong_nothing is n class stands
no_more_wrong wrong no_hash is (directive hash later takes) = both_ways _ no_hash hash

no_more_refused : {bytes : List ℕ} {from next : Point} {first : List Token} (wrong : Wrong) → begins_directive bytes from.at ≡ true → ReadsLine bytes from.defines from.at (Err wrong)
    → Steps bytes from first next → ⊥
no_more_refused wrong hash reads (item no_hash n class stands) = both_ways _ no_hash hash
no_more_refused wrong hash reads (directive too later takes) = err_same takes.new wrong (reads_same takes.reads reads)

told : (bytes : List ℕ) (at : ℕ) (wrong other : Wrong) → wrong ≡ other → (place_after (take (at + wrong.offset) bytes) ≡ place_after (take (at + other.offset) bytes)) × (wrong.cause ≡ other.cause)
told bytes at wrong other e = (ap (λ w. place_after (take (at + w.offset) bytes)) e, ap (λ w. w.cause) e)

errs_same : (wrong other : Wrong) → ◌≡◌ {A = Result (Option Definition) Wrong} (Err wrong) (Err other) → wrong ≡ other
errs_same wrong other e = cc

stuck_same : {bytes : List ℕ} {from : Point} {count number : ℕ} {place there : Place} {why cause : Cause} → IsStuck bytes from count place why → IsStuck bytes from number there cause
    → (place ≡ there) × (why ≡ cause)
stuck_same {bytes = bytes} {from = from} (stuck_item no_hash wrong is) (stuck_item too other is_too) = told bytes from.at wrong other (wrong_same is is_too)
stuck_same (stuck_item no_hash wrong is) (stuck_directive hash other reads) = absurd (both_ways _ no_hash hash)
stuck_same (stuck_item no_hash wrong is) (many first on steps over) = absurd (no_more_wrong wrong no_hash is steps)
stuck_same (stuck_directive hash wrong reads) (stuck_item no_hash other is) = absurd (both_ways _ no_hash hash)
stuck_same {bytes = bytes} {from = from} (stuck_directive hash wrong reads) (stuck_directive too other reads_too) =
    told bytes from.at wrong other (errs_same wrong other (reads_same reads reads_too))
stuck_same (stuck_directive hash wrong reads) (many first on steps over) = absurd (no_more_refused wrong hash reads steps)
stuck_same (many first on steps over) (stuck_item no_hash other is) = absurd (no_more_wrong other no_hash is steps)
stuck_same (many first on steps over) (stuck_directive hash other reads) = absurd (no_more_refused other hash reads steps)
stuck_same (many first on steps over) (many second on_too steps_too over_too) = (refl, refl)

-- of two ways from a point one goes on where the other ends
data Meets (bytes : List ℕ) (stop other : Point) (tokens others : List Token) : Type 0 where
  before : (rest : List Token) → others ≡ tokens ++ rest → SpellsTo bytes other stop rest → Meets bytes stop other tokens others
  behind : (rest : List Token) → tokens ≡ others ++ rest → SpellsTo bytes stop other rest → Meets bytes stop other tokens others

meets_step : {bytes : List ℕ} {stop other : Point} {tokens others : List Token} (first : List Token) → Meets bytes stop other tokens others → Meets bytes stop other (first ++ tokens) (first ++ others)
meets_step {tokens = tokens} first (before rest e spells) = before rest (ap (λ ts. first ++ ts) e ∙ sym (append_assoc first tokens rest)) spells
meets_step {others = others} first (behind rest e spells) = behind rest (ap (λ ts. first ++ ts) e ∙ sym (append_assoc first others rest)) spells

meets : {bytes : List ℕ} {stop other from : Point} {tokens others : List Token} → SpellsTo bytes stop from tokens → SpellsTo bytes other from others → Meets bytes stop other tokens others
meets {others = others} end way = before others refl way
meets {tokens = tokens} (step on one rest) end = behind tokens refl (step on one rest)
meets {bytes = bytes} {stop = stop} {other = other} (step {first = first} {later = later} on one rest) (step {first = second} {later = others} next too way) =
    let same = steps_same one too in
    let moved = subst (λ p. SpellsTo bytes other p others) (sym same.1) way in
    subst (λ ts. Meets bytes stop other (first ++ later) (ts ++ others)) same.0 (meets_step first (meets rest moved))

ends_there : {bytes : List ℕ} {point stop : Point} {rest : List Token} {place : Place} {why : Cause} (tokens : List Token) → IsStuck bytes point (length tokens) place why → SpellsTo bytes stop point rest
    → length (tokens ++ rest) ≤ max_tokens → stop ≡ point
ends_there tokens stuck end few = refl
ends_there tokens stuck (step {first = first} {later = later} on one rest) few =
    let over = stuck_many stuck one in
    let inner = length-append first later in
    let outer = length-append tokens (first ++ later) in
    let wrong : ⊥ = omega (arith, over, inner, outer, few) in
    absurd wrong

same_there : {bytes : List ℕ} {point other : Point} {count number : ℕ} {place there : Place} {why cause : Cause} → point ≡ other → IsStuck bytes point count place why
    → IsStuck bytes other number there cause → (place ≡ there) × (why ≡ cause)
same_there {bytes = bytes} {number = number} {there = there} {cause = cause} e stuck too = stuck_same stuck (subst (λ p. IsStuck bytes p number there cause) (sym e) too)

one_stop : {bytes : List ℕ} {point other : Point} {place there : Place} {why cause : Cause} (tokens others : List Token) → length tokens ≤ max_tokens → length others ≤ max_tokens
    → IsStuck bytes point (length tokens) place why → IsStuck bytes other (length others) there cause → Meets bytes point other tokens others → (place ≡ there) × (why ≡ cause)
one_stop tokens others few fewer stuck too (before rest e spells) =
    same_there (sym (ends_there tokens stuck spells (subst (λ ts. length ts ≤ max_tokens) e fewer))) stuck too
one_stop tokens others few fewer stuck too (behind rest e spells) =
    same_there (ends_there others too spells (subst (λ ts. length ts ≤ max_tokens) e few)) stuck too

refused_same : {bytes : List ℕ} {place there : Place} {why cause : Cause} → IsRefused bytes place why → IsRefused bytes there cause → (place ≡ there) × (why ≡ cause)
refused_same is too = one_stop is.tokens too.tokens is.few too.few is.stuck too.stuck (meets is.spelled too.spelled)

pub fault_only : (bytes : List ℕ) (why : Fault) → IsFaultOf bytes why → IsOnlyFault bytes why
fault_only bytes (fault.Refused place why) is = λ there cause too. refused_same too is
fault_only bytes fault.Memory is = tt
