use Rattle.std.proofs.Common.{◌≡◌, ◌≢◌, ap, arith, length}
use Rattle.std.proofs.lemmas.Grind.{common_steps}
use Rattle.ly_tables.proofs.BeginningLemmas.{begun_behind, begun_first}
use Rattle.ly_tables.proofs.FileLemmas.{refused, some_parser, some_scanner, together_all, together_fit, together_is}
use Rattle.ly_tables.proofs.FileLemmas.{truncated}
use Rattle.ly_tables.specs.Private.RawParts.{together, parser_raw, scanner_raw, symbols_raw}
use Rattle.ly_tables.specs.Ranges.{width_of}
use Rattle.ly_tables.proofs.raw_reading.read_raw.Goals as goal

pub returns-in_err-symbols-clause-refused : goal.returns-in_err-symbols-clause-refused
returns-in_err-symbols-clause-refused c =
    let error = c.in_err-symbols in let handed = c.from_residual-in_err-symbols in
    refused c.args.bytes.now handed.result error.field-0.0 handed.ensures.1 error.ensures.truncated
    (λ begun. truncated c.in_ok-version.version c.in_ok-version.ensures.ok (begun_first (λ v fit. some_scanner (width_of
    c.in_ok-version.version)) begun))

pub returns-in_err-scanner-clause-refused : goal.returns-in_err-scanner-clause-refused
returns-in_err-scanner-clause-refused c =
    let error = c.in_err-scanner in let handed = c.from_residual-in_err-scanner in
    refused c.args.bytes.now handed.result error.field-0.0 handed.ensures.1 error.ensures.truncated
    (λ begun. truncated c.in_ok-version.version c.in_ok-version.ensures.ok (begun_behind (symbols_raw
    c.in_ok-symbols.symbols)
    c.in_ok-symbols.left.now (c.in_ok-symbols.ensures.fits, c.in_ok-symbols.ensures.ok)
    (begun_first (λ v fit. some_parser (width_of c.in_ok-version.version)) begun)))

pub returns-in_err-parser-clause-refused : goal.returns-in_err-parser-clause-refused
returns-in_err-parser-clause-refused c =
    let error = c.in_err-parser in let handed = c.from_residual-in_err-parser in
    refused c.args.bytes.now handed.result error.field-0.0 handed.ensures.1 error.ensures.truncated
    (λ begun. truncated c.in_ok-version.version c.in_ok-version.ensures.ok (begun_behind (symbols_raw
    c.in_ok-symbols.symbols)
    c.in_ok-symbols.left.now (c.in_ok-symbols.ensures.fits, c.in_ok-symbols.ensures.ok)
    (begun_behind (scanner_raw c.in_ok-scanner.scanner) c.in_ok-scanner.left.now
    (c.in_ok-scanner.ensures.fits, c.in_ok-scanner.ensures.ok) begun)))

pub returns-then-not-is_empty-clause-refused : goal.returns-then-not-is_empty-clause-refused
returns-then-not-is_empty-clause-refused c =
    let s = symbols_raw c.in_ok-symbols.symbols in let n = scanner_raw c.in_ok-scanner.scanner in
    let p = parser_raw c.in_ok-parser.parser in
    let some : length c.in_ok-parser.left.now ≢ 0 = grind (arith, common_steps) in (
      c.in_ok-version.version,
      together s n p,
      c.in_ok-parser.left.now,
      together_fit (width_of c.in_ok-version.version) s n p c.in_ok-symbols.ensures.fits c.in_ok-scanner.ensures.fits
          c.in_ok-parser.ensures.fits,
      (λ e. some (ap length e)),
      together_is c.in_ok-version.version s n p c.in_ok-parser.left.now c.in_ok-version.ensures.ok
          c.in_ok-symbols.ensures.ok
          c.in_ok-scanner.ensures.ok c.in_ok-parser.ensures.ok,
    )

pub returns-clause-spelled : goal.returns-clause-spelled
returns-clause-spelled c =
    let none : length c.in_ok-parser.left.now ≡ 0 = grind (arith, common_steps) in
    together_all c.in_ok-version.version (symbols_raw c.in_ok-symbols.symbols) (scanner_raw c.in_ok-scanner.scanner)
    (parser_raw c.in_ok-parser.parser) c.in_ok-parser.left.now none c.in_ok-version.ensures.ok
    c.in_ok-symbols.ensures.ok
    c.in_ok-scanner.ensures.ok c.in_ok-parser.ensures.ok
