use Rattle.std.proofs.Common.{◌≡◌, ◌∙◌, ◌+◌, ap, arith}
use Rattle.c_layout.specs.Sizes.{types_of, counted, limited, size_with, struct_in}
use Rattle.c_layout.proofs.Walks.{counted_next, type_read}
use Rattle.c_layout.proofs.sizes.count_fields.Goals as goal

pub fields-preserved : goal.fields-preserved
fields-preserved c =
    let next = c.fields.frame.next in
    let field = c.index-fields-frame.result in
    let here = type_read c.args.fields.now next field c.fields-test.true c.index-fields-frame.is in
    record {
      same = c.fields.invariant.same;
      few = let e : c.limited_to-frame.result ≡ limited (c.fields.frame.size + c.in-Ok.size) = c.limited_to-frame.ensures in omega (arith, e);
      counts = λ known agrees.
          let size = ap (λ f. size_with known f.1) c.index-fields-frame.is ∙ c.in-Ok.ensures.size known agrees in
          ap (λ n. counted known (record { number = c.fields.frame.number; next = next + 1; size = n }) (types_of c.args.fields.now)) c.limited_to-frame.ensures
          ∙ counted_next known c.fields.frame.size c.in-Ok.size next (types_of c.args.fields.now) field.1 here size
          ∙ c.fields.invariant.counts known agrees;
    }

pub returns-in-Err-clause-wants : goal.returns-in-Err-clause-wants
returns-in-Err-clause-wants c =
    let field = c.index-fields-frame.result in
    (c.fields.frame.next, field.1, type_read c.args.fields.now c.fields.frame.next field c.fields-test.true c.index-fields-frame.is, ap (λ f. struct_in f.1) c.index-fields-frame.is ∙ c.in-Err.ensures.wants)
