-- A reader whose first bytes are appended, up to one more than a limit.
use Rattle.std.proofs.Common.{◌≡◌, ℕ, ◌+◌, ◌<◌, ◌≤◌, Option, Some, None, IfSome, List, [], ◌++◌, length, take, drop, refl, sym, ◌∙◌, ap, append-nil, append_assoc, length-append, subst, arith, ⊎_elim}
use Rattle.std.specs.Io.KnownBytes.{Consumes}
use Rattle.std.proofs.lemmas.List.{take-append-drop, take-take, drop_all, length-take-le}
use Rattle.std.proofs.lemmas.Bool.{cases_lt}
use Rattle.rvt_edge.specs.Desk.{AppendsAtMost}

-- these bytes were read, and as long as they are within the limit, no others
abbrev pub ReadSoFar : Option (List ℕ) → Option (List ℕ) → ℕ → List ℕ → Type 0
ReadSoFar before now limit done =
    IfSome before (λ all. (rest : List ℕ) × (all ≡ done ++ rest) × (length done ≤ limit → now ≡ Some rest))

-- bytes that stand behind others: those that were read
abbrev pub Read : Option (List ℕ) → Option (List ℕ) → ℕ → List ℕ → List ℕ → Type 0
Read before now limit old new = (done : List ℕ) × (new ≡ old ++ done) × ReadSoFar before now limit done

pub none_read : (before : Option (List ℕ)) (limit : ℕ) (old : List ℕ) → Read before before limit old old
none_read None limit old = ([], sym (append-nil old), tt)
none_read (Some all) limit old = ([], sym (append-nil old), (all, refl, λ _. refl))

consumed : (rest : List ℕ) (after : Option (List ℕ)) (chunk : List ℕ) → Consumes (Some rest) after chunk → (left : List ℕ) × (after ≡ Some left) × (rest ≡ chunk ++ left)
consumed rest None chunk k = absurd k
consumed rest (Some left) chunk k = (left, refl, k)

rejoined : (done chunk left : List ℕ) (taken : ℕ) → done ++ (chunk ++ left) ≡ (done ++ take taken chunk) ++ (drop taken chunk ++ left)
rejoined done chunk left taken =
    ap (λ c. done ++ (c ++ left)) (sym (take-append-drop taken chunk))
    ∙ ap (λ r. done ++ r) (append_assoc (take taken chunk) (drop taken chunk) left)
    ∙ sym (append_assoc done (take taken chunk) (drop taken chunk ++ left))

-- of a chunk that was read, the first bytes are taken, and all of it where that stays within the limit
chunk_read : (before now after : Option (List ℕ)) (limit : ℕ) (done chunk : List ℕ) (taken : ℕ) → length done ≤ limit
    → (taken < length chunk → limit < length done + taken)
    → ReadSoFar before now limit done → Consumes now after chunk → ReadSoFar before after limit (done ++ take taken chunk)
chunk_read None now after limit done chunk taken small over r k = tt
chunk_read (Some all) now after limit done chunk taken small over r k =
    let rest = r.0 in
    let parts = consumed rest after chunk (subst (λ o. Consumes o after chunk) (r.2 small) k) in
    let left = parts.0 in (
      drop taken chunk ++ left,
      r.1 ∙ ap (λ t. done ++ t) parts.2 ∙ rejoined done chunk left taken,
      λ within.
          ⊎_elim
          (λ less. let long = length-take-le taken chunk (omega (arith, less)) in absurd (omega (arith, over less, long, within, length-append done (take taken chunk))))
          (λ full. parts.1 ∙ ap (λ d. Some (d ++ left)) (sym (drop_all taken chunk full)))
          (cases_lt taken (length chunk)),
    )

pub more_read : (before now after : Option (List ℕ)) (limit : ℕ) (old new new' buffer : List ℕ) (count taken : ℕ)
    → length new ≤ length old + limit → count ≤ length buffer → taken ≤ count → (taken < count → length old + limit < length new + taken)
    → Read before now limit old new → Consumes now after (take count buffer) → new' ≡ new ++ take taken buffer → Read before after limit old new'
more_read before now after limit old new new' buffer count taken small room less over r k e =
    let done = r.0 in
    let long : length new ≡ length old + length done = ap length r.1 ∙ length-append old done in
    let chunk = take count buffer in
    let size : length chunk ≡ count = length-take-le count buffer room in
    let first : take taken chunk ≡ take taken buffer = take-take taken count buffer less in (
      done ++ take taken chunk,
      e ∙ ap (λ n. n ++ take taken buffer) r.1 ∙ append_assoc old done (take taken buffer) ∙ ap (λ t. old ++ (done ++ t)) (sym first),
      chunk_read before now after limit done chunk taken (omega (arith, long, small)) (λ s. omega (arith, long, over (omega (arith, s, size)))) r.2 k,
    )

pub read_appends : (before now : Option (List ℕ)) (limit : ℕ) (old new : List ℕ) (most : ℕ) → length new ≤ length old + most → Read before now limit old new → AppendsAtMost most old new
read_appends before now limit old new most small r =
    let long : length new ≡ length old + length r.0 = ap length r.1 ∙ length-append old r.0 in
    (r.0, omega (arith, long, small), r.1)
