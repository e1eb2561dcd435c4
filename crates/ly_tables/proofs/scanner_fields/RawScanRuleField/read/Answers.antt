use Rattle.ly_tables.proofs.BeginningLemmas.{begun_as, begun_behind, begun_first, stopped}
use Rattle.ly_tables.proofs.ChainLemmas.{scan_rule_part, some_byte_then, some_number_then}
use Rattle.ly_tables.specs.Private.Found.{some_number}
use Rattle.ly_tables.specs.Ranges.{width_of}
use Rattle.ly_tables.proofs.scanner_fields.RawScanRuleField.read.Goals as goal

pub returns-in_err-kind-clause-truncated : goal.returns-in_err-kind-clause-truncated
returns-in_err-kind-clause-truncated c =
    let w = width_of c.args.version in
    let error = c.in_err-kind in let handed = c.from_residual in
    stopped handed.result error.field-0.0 handed.ensures.1 error.ensures.truncated (λ begun. begun_as (scan_rule_part w)
    (begun_first (λ v fit. some_number_then w (some_number_then w (some_byte_then (some_number w)))) begun))

pub returns-in_err-terminal-clause-truncated : goal.returns-in_err-terminal-clause-truncated
returns-in_err-terminal-clause-truncated c =
    let w = width_of c.args.version in
    let kind = c.in_ok-kind in let error = c.in_err-terminal in let handed = c.from_residual-in_err-terminal in
    stopped handed.result error.field-0.0 handed.ensures.1 error.ensures.truncated (λ begun. begun_as (scan_rule_part w)
    (begun_behind kind.kind _ kind.ensures.ok (begun_first (λ v fit. some_number_then w (some_byte_then (some_number
    w)))
    begun)))

pub returns-in_err-begin-clause-truncated : goal.returns-in_err-begin-clause-truncated
returns-in_err-begin-clause-truncated c =
    let w = width_of c.args.version in
    let kind = c.in_ok-kind in let terminal = c.in_ok-terminal in let error = c.in_err-begin in let handed =
    c.from_residual-in_err-begin in
    stopped handed.result error.field-0.0 handed.ensures.1 error.ensures.truncated (λ begun. begun_as (scan_rule_part w)
    (begun_behind kind.kind _ kind.ensures.ok (begun_behind terminal.terminal _ terminal.ensures.ok (begun_first (λ v
    fit. some_byte_then (some_number w)) begun))))

pub returns-in_err-cut-clause-truncated : goal.returns-in_err-cut-clause-truncated
returns-in_err-cut-clause-truncated c =
    let w = width_of c.args.version in
    let kind = c.in_ok-kind in let terminal = c.in_ok-terminal in let begin = c.in_ok-begin in let error =
    c.in_err-cut in let handed = c.from_residual-in_err-cut in
    stopped handed.result error.field-0.0 handed.ensures.1 error.ensures.truncated (λ begun. begun_as (scan_rule_part w)
    (begun_behind kind.kind _ kind.ensures.ok (begun_behind terminal.terminal _ terminal.ensures.ok (begun_behind
    begin.begin _ begin.ensures.ok (begun_first (λ v fit. some_number w) begun)))))

pub returns-in_err-len-clause-truncated : goal.returns-in_err-len-clause-truncated
returns-in_err-len-clause-truncated c =
    let kind = c.in_ok-kind in let terminal = c.in_ok-terminal in let begin = c.in_ok-begin in let cut = c.in_ok-cut
    in let error = c.in_err-len in let handed = c.from_residual-in_err-len in
    stopped handed.result error.field-0.0 handed.ensures.1 error.ensures.truncated (λ begun. begun_as (scan_rule_part
    (width_of c.args.version))
    (begun_behind kind.kind _ kind.ensures.ok (begun_behind terminal.terminal _ terminal.ensures.ok (begun_behind
    begin.begin _ begin.ensures.ok (begun_behind cut.cut _ cut.ensures.ok begun)))))
