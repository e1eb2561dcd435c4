use Rattle.std.proofs.Common.{◌≢◌, arith}
use Rattle.ly_ere.proofs.QuotedLemmas.{quoted_escape, quoted_plain}
use Rattle.ly_ere.proofs.quoted.quoted_byte.Goals as goal

pub returns-in_ok-leading_escape-in-92-clause-byte : goal.returns-in_ok-leading_escape-in-92-clause-byte
returns-in_ok-leading_escape-in-92-clause-byte c =
    quoted_escape c.args.text.now c.in_ok-leading_escape-in-92.field-0.0 c.in_ok-leading_escape-in-92.field-0.1
    c.in-Some.ensures.item.3.0 (omega (arith, c.in-Some.ensures.item.3.1 0)) c.in_ok-leading_escape-in-92.ensures.escape

pub returns-in_default-byte-clause-byte : goal.returns-in_default-byte-clause-byte
returns-in_default-byte-clause-byte c =
    let quote : c.in-Some.field-0.now ≢ 34 = omega arith in
    let backslash : c.in-Some.field-0.now ≢ 92 = omega arith in
    let line : c.in-Some.field-0.now ≢ 10 = omega arith in
    quoted_plain c.args.text.now c.in-Some.field-0.now c.in-Some.ensures.item.3.0
    (c.in-Some.ensures.item.3.1 0) quote backslash line
