use Rattle.std.proofs.Common.{◌≡◌, ◌∙◌, ◌++◌, ◌+◌, ◌*◌, ap, arith, codes, drop, get_or, rules, length}
use Rattle.std.proofs.Common.{None, sym, take}
use Rattle.std.specs.Int.{w16, to_be_bytes}
use Rattle.ly_tables.proofs.BeginningLemmas.{are_bytes}
use Rattle.ly_tables.proofs.FileLemmas.{version_found}
use Rattle.ly_tables.proofs.raw_reading.header.Goals as goal

pub returns-in-None-clause-refused : goal.returns-in-None-clause-refused
returns-in-None-clause-refused c =
    let bytes = c.args.bytes.now in
    let magic : take 4 bytes ≡ take (length bytes) (codes "LYTB") = search rules in
    let found = version_found bytes c.in-len6-up.len_at_least magic (are_bytes bytes c.type_inv.bytes) in
    let none : c.version_numbered.result ≡ None = search rules in
    let number : c.read_u16.result ≡ get_or bytes 4 0 * 256 + get_or bytes 5 0 = omega (arith, c.read_u16.ensures) in (
      c.read_u16.result,
      drop 6 bytes,
      omega (arith, (c.type_inv.bytes 4).fits, (c.type_inv.bytes 5).fits, number),
      c.version_numbered.ensures.none none,
      found ∙ ap (λ n. (codes "LYTB" ++ to_be_bytes w16 n) ++ drop 6 bytes) (sym number),
    )
