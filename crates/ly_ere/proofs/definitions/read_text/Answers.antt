use Rattle.std.proofs.Common.{ℕ, ◌<◌, List, ap, arith, length, length-drop}
use Rattle.std.specs.Prelude.{slice_range}
use Rattle.std.proofs.lemmas.Result.{err_from_is_err_and}
use Rattle.ly_base.proofs.EscapeLemmas.{whole_slice}
use Rattle.ly_ere.proofs.DefinitionLemmas.{no_front_text, text_behind}
use Rattle.ly_ere.proofs.definitions.read_text.Goals as goal

pub returns-in_err-re-clause-refused : goal.returns-in_err-re-clause-refused
returns-in_err-re-clause-refused c =
    let fault = err_from_is_err_and c.from_residual.result c.from_residual.ensures.1 in
    rw (fault.1, fault.2) (λ other. no_front_text c.args.names.now c.args.text.now (c.in_err-re.ensures.refused other))

-- where the text goes on
goes_on : (text : List ℕ) (n : ℕ) → 0 < length (slice_range text n (length text)) → n < length text
goes_on text n more = omega (arith, more, ap length (whole_slice n text), length-drop n text)

pub returns-in-Some-eq36-clause-refused : goal.returns-in-Some-eq36-clause-refused
returns-in-Some-eq36-clause-refused c _ = text_behind c.args.names.now c.args.text.now _ c.in_ok-re.length
    c.in_ok-re.ensures.ok (goes_on c.args.text.now c.in_ok-re.length (omega (arith, c.in-Some-eq36.ensures.item.3.0)))

pub returns-clause-refused : goal.returns-clause-refused
returns-clause-refused c _ = text_behind c.args.names.now c.args.text.now _ c.in_ok-re.length
    c.in_ok-re.ensures.ok (goes_on c.args.text.now c.in_ok-re.length (omega (arith, c.in-Some.ensures.item.3.0)))
