use Rattle.std.proofs.Common.{◌≡◌, ◌∙◌, ◌≤◌, ◌+◌, ◌-◌, ◌++◌, ◌∷◌, [], ℕ, List, ap, append_assoc, arith, drop, length}
use Rattle.std.proofs.Common.{length-take, sym, take}
use Rattle.std.proofs.lemmas.List.Sums.{prefix_len-le-length}
use Rattle.std.specs.List.{prefix_len}
use Rattle.ly_base.specs.Bytes.{double_quote}
use Rattle.ly_print.specs.Text.{escaped, escaped_byte, is_plain, quoted}
use Rattle.ly_print.proofs.BlockLemmas.{front_block, kept_by_block, plain_block}
use Rattle.ly_print.proofs.TextLemmas.{run_behind}
use Rattle.ly_print.proofs.room.put_short.Goals as goal

-- a run of plain bytes is within a block
in_block : (bytes : List ℕ) (run : ℕ) → run ≤ prefix_len (is_plain double_quote) (take 16 bytes) → run ≤ 16
in_block bytes run plain =
    omega (arith, plain, prefix_len-le-length (is_plain double_quote) (take 16 bytes), length-take 16 bytes)

-- what stands before a text that is quoted, the text, and the quote
all_quoted : (before label text : List ℕ)
    → ((before ++ label) ++ escaped double_quote text) ++ double_quote ∷ [] ≡ before ++ quoted label text
all_quoted before label text = append_assoc (before ++ label) (escaped double_quote text) (double_quote ∷ [])
    ∙ append_assoc before label (escaped double_quote text ++ double_quote ∷ [])

pub returns-then-text-lt-BLOCK-clause-kept : goal.returns-then-text-lt-BLOCK-clause-kept
returns-then-text-lt-BLOCK-clause-kept c none =
    ap (take c.args.at) c.put_block.ensures
    ∙ kept_by_block c.args.room.now c.in-Some.block.now c.args.at c.in-Some.ensures.block (omega (arith, c.requires))

pub returns-then-text-gt-SHORT-clause-kept : goal.returns-then-text-gt-SHORT-clause-kept
returns-then-text-gt-SHORT-clause-kept c none =
    ap (take c.args.at) c.put_block.ensures
    ∙ kept_by_block c.args.room.now c.in-Some.block.now c.args.at c.in-Some.ensures.block (omega (arith, c.requires))

pub put-requires : goal.put-requires
put-requires c =
    let bytes = c.text.inside.bytes.now in omega (
      arith,
      in_block bytes c.plain_run-run.result (omega (arith, c.plain_run-run.ensures)),
      c.if-text-run.true,
      c.requires,
      c.in-Some.ensures.short,
      c.len.ensures,
      c.put_block.auto.room,
      c.put_block-then-text-run.auto.room,
    )

pub returns-then-text-run-clause-within : goal.returns-then-text-run-clause-within
returns-then-text-run-clause-within c =
    let bytes = c.text.inside.bytes.now in omega (
      arith,
      in_block bytes c.plain_run-run.result (omega (arith, c.plain_run-run.ensures)),
      c.if-text-run.true,
      c.requires,
      c.in-Some.ensures.short,
      c.len.ensures,
      c.put.ensures.end,
    )

pub returns-then-text-run-clause-bytes : goal.returns-then-text-run-clause-bytes
returns-then-text-run-clause-bytes c =
    let label = c.args.label.now in
    let before = take c.args.at c.args.room.now in
    let bytes = c.text.inside.bytes.now in
    let labelled = c.args.at + c.len.result in
    let plain = escaped double_quote (take c.text.inside.count bytes) in
    c.put.ensures.byte
    ∙ ap (λ t. t ++ double_quote ∷ []) (ap (take (labelled + c.text.inside.count)) c.put_block-then-text-run.ensures
    ∙ plain_block c.put_block.new.room bytes labelled c.text.inside.count
    (omega (arith, c.if-text-lt-BLOCK.false))
    (omega (arith, c.requires, c.in-Some.ensures.short, c.len.ensures, c.put_block.auto.room))
    (omega (arith, c.if-text-run.true, c.plain_run-run.ensures))
    ∙ ap (λ n. take (c.args.at + n) c.put_block.new.room ++ plain) c.len.ensures
    ∙ ap (λ room. take (c.args.at + length label) room ++ plain) c.put_block.ensures
    ∙ ap (λ t. t ++ plain) (front_block c.args.room.now c.in-Some.block.now label c.args.at c.in-Some.ensures.block
    (omega (arith, c.requires)) c.in-Some.ensures.short c.in-Some.ensures.front)
    ∙ ap (λ t. (before ++ label) ++ escaped double_quote t) c.text.view_is)
    ∙ all_quoted before label c.args.text.now

pub returns-clause-bytes : goal.returns-clause-bytes
returns-clause-bytes c =
    let label = c.args.label.now in
    let before = take c.args.at c.args.room.now in
    let bytes = c.text.inside.bytes.now in
    let count = c.text.inside.count in
    let run = c.plain_run-run.result in
    let left = count - run in
    let labelled = c.args.at + c.len.result in
    let all : run + left ≡ count = omega (arith, c.if-text-run.false) in
    let plain = escaped double_quote (take run bytes) in
    let others = escaped double_quote (take left (take (length bytes - run) (drop run bytes))) in
    c.put-2.ensures.byte
    ∙ ap (λ t. t ++ double_quote ∷ []) (c.put_runs-end.ensures.bytes
    ∙ ap (λ t. t ++ others) (ap (take (labelled + run)) c.put_block-2.ensures
    ∙ plain_block c.put_block.new.room bytes labelled run
    (omega (arith, c.if-text-lt-BLOCK.false))
    (omega (arith, c.requires, c.in-Some.ensures.short, c.len.ensures, c.put_block.auto.room))
    (omega (arith, c.plain_run-run.ensures))
    ∙ ap (λ n. take (c.args.at + n) c.put_block.new.room ++ plain) c.len.ensures
    ∙ ap (λ room. take (c.args.at + length label) room ++ plain) c.put_block.ensures
    ∙ ap (λ t. t ++ plain) (front_block c.args.room.now c.in-Some.block.now label c.args.at c.in-Some.ensures.block
    (omega (arith, c.requires)) c.in-Some.ensures.short c.in-Some.ensures.front))
    ∙ run_behind (escaped_byte double_quote) (before ++ label) bytes run left
    ∙ ap (λ n. (before ++ label) ++ escaped double_quote (take n bytes)) all
    ∙ ap (λ t. (before ++ label) ++ escaped double_quote t) c.text.view_is)
    ∙ all_quoted before label c.args.text.now
