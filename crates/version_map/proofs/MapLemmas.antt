-- The lines of a map, one after another.
use Rattle.std.proofs.Common.{◌≡◌, ℕ, ◌+◌, List, ◌∷◌, ◌∙◌, ap}
use Rattle.std.specs.Prelude.{Ok, Err, Option}
use Rattle.std.specs.Borrow.{Bor}
use Rattle.version_map.specs.declared.map.MapFault.{MapFault}
use Rattle.version_map.specs.declared.map.MapFault.TheVariants.{Refused, Memory}
use Rattle.version_map.specs.Texts.{parts, parts_behind}
use Rattle.version_map.specs.Maps.{Entries, Refusal, with_line, with_lines, go_on, IfRefused}

pub line_read : (said more : Entries) (before : ℕ) (text part : List ℕ) (rest : Option (Bor (List ℕ))) → parts 10 text ≡ part ∷ parts_behind 10 rest → with_line said (before + 1) part ≡ Ok more
    → with_lines said before (parts 10 text) ≡ with_lines more (before + 1) (parts_behind 10 rest)
line_read said more before text part rest cut read =
    ap (with_lines said before) cut ∙ ap (go_on (λ more. with_lines more (before + 1) (parts_behind 10 rest))) read

pub line_refused : (said : Entries) (refusal : Refusal) (before : ℕ) (text part : List ℕ) (rest : Option (Bor (List ℕ))) → parts 10 text ≡ part ∷ parts_behind 10 rest
    → with_line said (before + 1) part ≡ Err refusal → with_lines said before (parts 10 text) ≡ Err refusal
line_refused said refusal before text part rest cut refused =
    ap (with_lines said before) cut ∙ ap (go_on (λ more. with_lines more (before + 1) (parts_behind 10 rest))) refused

pub refused_so : {P Q : Refusal → Type 0} (fault : MapFault) → ((refusal : Refusal) → P refusal → Q refusal) → IfRefused P fault → IfRefused Q fault
refused_so (Refused line cause) so is = so (record { line = line; cause = cause }) is
refused_so Memory so is = tt
