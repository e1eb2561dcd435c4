use Rattle.std.proofs.Common.{◌≡◌, ◌==◌, arith, rules, tests, subst, suc}
use Rattle.std.specs.Option.{option_copied}
use Rattle.std.proofs.lemmas.Iterator.Consumers.{nth_from_yields_List}
use Rattle.std.proofs.lemmas.Iterator.Splits.{YieldsList-from_slice_split}
use Rattle.ly_text_buffer.specs.NamedFile.{line_at}
use Rattle.ly_text_buffer.proofs.named_file.NamedFile.line.Goals as goal

pub returns : goal.returns
returns c =
    let bytes = c.args.self.now.bytes.now in
    let before = c.in_ok-before.before in
    let counted : suc before ≡ c.args.number = grind arith in
    subst (λ n. option_copied c.nth.result ≡ line_at bytes n) counted
    (nth_from_yields_List c.nth.result c.nth.new.self before c.nth.ensures.ran
    (YieldsList-from_slice_split _ (λ byte. byte == 10) bytes c.split.ensures.rest c.split.ensures.done
    c.split.ensures.closure (λ x r q k. search (rules, tests))))
