use Rattle.std.proofs.Common.{map}
use Rattle.ly_tables.proofs.BeginningLemmas.{begun_as, begun_behind, begun_first, repeated_part, stopped}
use Rattle.ly_tables.proofs.ChainLemmas.{some_number_then, some_rows}
use Rattle.ly_tables.proofs.SectionLemmas.{named, some_names, symbols_apart, symbols_fit, symbols_part}
use Rattle.ly_tables.specs.RawSet.{Fits, IsString}
use Rattle.ly_tables.specs.Spelling.{number, string}
use Rattle.ly_tables.specs.Ranges.{width_of}
use Rattle.ly_tables.proofs.symbol_sections.read_symbols.Goals as goal

pub returns-in_err-terminal_count-clause-truncated : goal.returns-in_err-terminal_count-clause-truncated
returns-in_err-terminal_count-clause-truncated c =
    let w = width_of c.args.version in
    let error = c.in_err-terminal_count in let handed = c.from_residual in
    stopped handed.result error.field-0.0 handed.ensures.1 error.ensures.truncated (λ begun. begun_as (symbols_part w)
    (begun_first (λ v fit. some_number_then w (some_names w v)) begun))

pub returns-in_err-nonterminals-clause-truncated : goal.returns-in_err-nonterminals-clause-truncated
returns-in_err-nonterminals-clause-truncated c =
    let w = width_of c.args.version in
    let terminal_count = c.in_ok-terminal_count in let error = c.in_err-nonterminals in let handed =
    c.from_residual-in_err-nonterminals in
    stopped handed.result error.field-0.0 handed.ensures.1 error.ensures.truncated (λ begun. begun_as (symbols_part w)
    (begun_behind terminal_count.terminal_count _ terminal_count.ensures.ok (begun_first (λ v fit. some_names w
    terminal_count.terminal_count) begun)))

pub returns-in_err-terminals-clause-truncated : goal.returns-in_err-terminals-clause-truncated
returns-in_err-terminals-clause-truncated c =
    let w = width_of c.args.version in
    let terminal_count = c.in_ok-terminal_count in let nonterminals = c.in_ok-nonterminals in let error =
    c.in_err-terminals in let handed = c.from_residual-in_err-terminals in
    stopped handed.result error.field-0.0 handed.ensures.1 error.ensures.truncated (λ begun. begun_as (symbols_part w)
    (begun_behind terminal_count.terminal_count _ terminal_count.ensures.ok (begun_behind nonterminals.nonterminals _
    nonterminals.ensures.ok (begun_first (λ v fit. some_rows w 256) (begun_as (repeated_part IsString string
    terminal_count.terminal_count) begun)))))

pub returns-in_err-literals-clause-truncated : goal.returns-in_err-literals-clause-truncated
returns-in_err-literals-clause-truncated c =
    let w = width_of c.args.version in
    let terminal_count = c.in_ok-terminal_count in let nonterminals = c.in_ok-nonterminals in let terminals =
    c.in_ok-terminals in let error = c.in_err-literals in let handed = c.from_residual-in_err-literals in
    stopped handed.result error.field-0.0 handed.ensures.1 error.ensures.truncated (λ begun. begun_as (symbols_part w)
    (begun_behind terminal_count.terminal_count _ terminal_count.ensures.ok (begun_behind nonterminals.nonterminals _
    nonterminals.ensures.ok (begun_behind (map (λ name. name.items) terminals.terminals.items) _ (named
    terminals.terminals.items _ _ terminals.ensures.count terminals.ensures.fits terminals.ensures.ok) (begun_as
    (repeated_part (Fits w) (number w) 256) begun)))))

pub returns-clause-fits : goal.returns-clause-fits
returns-clause-fits c =
    let t = c.in_ok-terminal_count in let n = c.in_ok-nonterminals in let literals = c.in_ok-literals in
    let names = named c.in_ok-terminals.terminals.items _ _ c.in_ok-terminals.ensures.count
    c.in_ok-terminals.ensures.fits c.in_ok-terminals.ensures.ok in
    symbols_fit (width_of c.args.version) t.terminal_count n.nonterminals (map (λ name. name.items)
    c.in_ok-terminals.terminals.items)
    literals.literals.items t.ensures.ok.0 n.ensures.ok.0 names.0 (literals.ensures.count, literals.ensures.fits)

pub returns-clause-ok : goal.returns-clause-ok
returns-clause-ok c =
    let t = c.in_ok-terminal_count in let n = c.in_ok-nonterminals in let literals = c.in_ok-literals in
    let names = named c.in_ok-terminals.terminals.items _ _ c.in_ok-terminals.ensures.count
    c.in_ok-terminals.ensures.fits c.in_ok-terminals.ensures.ok in
    symbols_apart (width_of c.args.version) t.terminal_count n.nonterminals (map (λ name. name.items)
    c.in_ok-terminals.terminals.items)
    literals.literals.items literals.left.now names.0.0 t.ensures.ok.1 n.ensures.ok.1 names.1 literals.ensures.ok
