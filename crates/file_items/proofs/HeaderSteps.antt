-- The header of a function, step by step.
use Rattle.std.proofs.Common.{◌≡◌, Bool, Option, ap, sym, ◌∙◌}
use Rattle.rvt_num.specs.declared.kinds.Kind.{Kind}
use Rattle.c_syntax.specs.Syntax as s
use Rattle.c_syntax.specs.declared.bases.Word.{Word}
use Rattle.expression_typing.specs.Entities.{QualifiedType, in_scope}
use Rattle.expression_typing.specs.Progress.{Notes}
use Rattle.expression_typing.specs.Outcomes.{Made, Checking, go_on, and_then, give, noting}
use Rattle.file_typing.specs.Blocks.{Block}
use Rattle.file_typing.specs.DeclaratorTypes.{result_kind}
use Rattle.file_typing.specs.FileScope.{FileScope, Interface}
use Rattle.file_typing.specs.FunctionDeclarators.{typed_parameters, parameters_noted, may_name_function, unless_unlike, function_declared}
use Rattle.file_typing.specs.FunctionDefinitions.{Header, header, outermost, typed_header}
use Rattle.file_typing.specs.FunctionNotes.{of_no_function}
use Rattle.file_items.specs.FunctionHeaders.{header_behind}

-- ---- behind the name

module _ (with_names : Bool) (file : FileScope) (result : Option Kind) (word : Word) (params : s.Parameters) where
  abbrev pub after_unlike : Interface → Block → Checking Header
  after_unlike interface block = and_then (unless_unlike word interface (in_scope file.names word.name)) (λ _. give (header word interface block file))

  abbrev pub after_parameters : Block → Checking Header
  after_parameters block = and_then parameters_noted (λ locals. after_unlike (record { params = locals; result = result }) block)

  module _ (n : Notes) (block : Block) (m : Notes) (declared : typed_parameters with_names (outermost file result) params n ≡ Made block m)
      (interface : Interface) (is : interface ≡ record { params = m.locals; result = result }) where
    pub behind_alike : header_behind with_names file result word params n ≡ after_unlike interface block m
    behind_alike = ap (go_on after_parameters) declared ∙ ap (λ (i : Interface). after_unlike i block m) (sym is)

    -- what the code makes of it
    pub behind_made : (made : FileScope) → made ≡ function_declared word interface file
        → unless_unlike word interface (in_scope file.names word.name) ≡ give tt
        → header_behind with_names file result word params n ≡ Made (record { file = made; block = block; interface = interface }) m
    behind_made made declares alike =
        behind_alike
        ∙ ap (λ (rule : Checking (Unit {0})). go_on (λ _. give (header word interface block file)) (rule m)) alike
        ∙ ap (λ (f : FileScope). Made (record { file = f; block = block; interface = interface }) m) (sym declares)

-- ---- the result and the name

module _ (with_names : Bool) (file : FileScope) (type : QualifiedType) (word : Word) (params : s.Parameters) where
  abbrev pub after_name : Option Kind → Checking Header
  after_name result = and_then (noting of_no_function) (λ _. header_behind with_names file result word params)

  abbrev pub after_kind : Option Kind → Checking Header
  after_kind result = and_then (may_name_function file word) (λ _. after_name result)

  module _ (n : Notes) (result : Option Kind) (kind : result_kind word.place type.named ≡ give result) where
    pub header_kind : typed_header with_names file type word params n ≡ after_kind result n
    header_kind = ap (λ (rule : Checking (Option Kind)). go_on after_kind (rule n)) kind

    pub header_named : may_name_function file word ≡ give tt → (ended : Notes) → ended ≡ of_no_function n
        → typed_header with_names file type word params n ≡ header_behind with_names file result word params ended
    header_named named ended ends =
        header_kind
        ∙ ap (λ (rule : Checking (Unit {0})). go_on (λ _. after_name result) (rule n)) named
        ∙ ap (λ (k : Notes). header_behind with_names file result word params k) (sym ends)
