use Rattle.std.proofs.Common.{◌≡◌, ◌+◌, ℕ, List, [], ◌∷◌, ◌++◌, cond, Option, Some, unwrap_or, sym, ap, ap₂, ◌∙◌, Bor}
use Rattle.std.specs.Str.{bytes_eq}
use Rattle.indexmap.specs.IndexMap.{get_by}
use Rattle.joint_objects.specs.declared.declarations.Declared.{Declared}
use Rattle.joint_objects.specs.Locals.{count_of}
use Rattle.joint_objects.specs.Counts.{locals_declared}
use Rattle.joint_objects.proofs.DeclarationLemmas.{counted}
use Rattle.joint_objects.proofs.declarations.declare_one.Goals as goal

pub returns-clause-counts : goal.returns-clause-counts
returns-clause-counts c = λ name.
    let key : Bor (List ℕ) = record { ref_ptr = (0, 0); now = name } in
    let one : Declared = record { local = c.args.local; before = c.count_in-before.result } in
    let before : c.count_in-before.result ≡ count_of c.args.local.now.name (locals_declared c.args.list.now.items) =
    c.count_in-before.ensures
    ∙ ap (λ (text : List ℕ). unwrap_or (get_by (λ (k : Bor (List ℕ)). bytes_eq text k.now) c.args.counts.now) 0) c.bytes.ensures
    ∙ c.requires c.args.local.now.name in
    counted c.args.list.now.items one name
    (get_by (λ (k : Bor (List ℕ)). bytes_eq name k.now) c.args.counts.now)
    (get_by (λ (k : Bor (List ℕ)). bytes_eq name k.now) c.insert.new.self)
    (c.in_ok-insert.ensures.updates.0 key
    ∙ ap₂ (λ (text : List ℕ) (n : ℕ). cond (bytes_eq text name) (Some n) (get_by (λ (k : Bor (List ℕ)). bytes_eq name k.now) c.args.counts.now)) c.bytes-2.ensures c.in_ok-count.ensures)
    (c.requires name) before
    ∙ ap (λ (xs : List Declared). count_of name (locals_declared xs)) (sym c.in_ok-push.ensures.items)

pub returns-clause-added : goal.returns-clause-added
returns-clause-added c =
    let before : c.count_in-before.result ≡ count_of c.args.local.now.name (locals_declared c.args.list.now.items) =
    c.count_in-before.ensures
    ∙ ap (λ (text : List ℕ). unwrap_or (get_by (λ (k : Bor (List ℕ)). bytes_eq text k.now) c.args.counts.now) 0) c.bytes.ensures
    ∙ c.requires c.args.local.now.name in
    c.in_ok-push.ensures.items ∙ ap (λ (n : ℕ). c.args.list.now.items ++ record { local = c.args.local; before = n } ∷ []) before
