-- The definition of a function, step by step.
use Rattle.std.proofs.Common.{◌≡◌, ℕ, true, ap, subst, sym, ◌∙◌}
use Rattle.rvt_tree.specs.Syntax as t
use Rattle.c_syntax.specs.Syntax as s
use Rattle.c_syntax.specs.declared.bases.Word.{Word}
use Rattle.expression_typing.specs.Entities.{QualifiedType}
use Rattle.expression_typing.specs.Progress.{Notes}
use Rattle.expression_typing.specs.Outcomes.{Made, Checking, go_on, and_then, give}
use Rattle.file_typing.specs.Blocks.{Block}
use Rattle.file_typing.specs.FileScope.{FileScope, Body}
use Rattle.file_typing.specs.FunctionDeclarators.{number_of_function, entry_of}
use Rattle.file_typing.specs.FunctionDefinitions.{Header, block_of_body, body_noted, defined_numbered, typed_body, typed_definition, typed_header, unless_defined}

module _ (file : FileScope) (type : QualifiedType) (word : Word) (params : s.Parameters) (body : s.Statement) where
  abbrev pub after_note : Header → Body → Checking FileScope
  after_note header body = give (defined_numbered word header body (number_of_function header.file word))

  abbrev pub after_body : Header → t.Statement → Checking FileScope
  after_body header made = and_then (body_noted made) (after_note header)

  abbrev pub after_new : Header → Checking FileScope
  after_new header = and_then (typed_body (block_of_body header) body) (after_body header)

  abbrev pub after_header : Header → Checking FileScope
  after_header header = and_then (unless_defined word (entry_of header.file (number_of_function header.file word) word)) (λ _. after_new header)

  module _ (header : Header) (n m : Notes) (headed : typed_header true file type word params n ≡ Made header m)
      (number : ℕ) (counted : number ≡ number_of_function header.file word)
      (new : unless_defined word (entry_of header.file number word) ≡ give tt)
      (block : Block) (behind : block_of_body header ≡ block) where
    new_one : unless_defined word (entry_of header.file (number_of_function header.file word) word) ≡ give tt
    new_one = subst (λ (k : ℕ). unless_defined word (entry_of header.file k word) ≡ give tt) counted new

    pub definition_new : typed_definition file type word params body n ≡ go_on (after_body header) (typed_body block body m)
    definition_new =
        ap (go_on after_header) headed
        ∙ ap (λ (rule : Checking (Unit {0})). go_on (λ _. after_new header) (rule m)) new_one
        ∙ ap (λ (b : Block). go_on (after_body header) (typed_body b body m)) behind

    pub definition_made : (made : t.Statement) (noted : Body) (m' m'' : Notes) (whole : FileScope)
        → typed_body block body m ≡ Made made m' → body_noted made m' ≡ Made noted m'' → whole ≡ defined_numbered word header noted number
        → typed_definition file type word params body n ≡ Made whole m''
    definition_made made noted m' m'' whole typed noting is =
        definition_new
        ∙ ap (go_on (after_body header)) typed
        ∙ ap (go_on (after_note header)) noting
        ∙ ap (λ (k : ℕ). Made (defined_numbered word header noted k) m'') (sym counted)
        ∙ ap (λ (f : FileScope). Made f m'') (sym is)
