use Rattle.std.proofs.Common.{◌∙◌, sym}
use Rattle.std.proofs.lemmas.Str.{is_utf8-from_IsUtf8, IsUtf8-from_ascii}
use Rattle.ly_print.proofs.json.is_utf8_front.Goals as goal

pub returns-then-is_plain_block : goal.returns-then-is_plain_block
returns-then-is_plain_block c = let text = c.args.text.now in
    c.if-is_plain_block.true ∙ sym (is_utf8-from_IsUtf8 text (IsUtf8-from_ascii text c.if-is_plain_block.ensures))
