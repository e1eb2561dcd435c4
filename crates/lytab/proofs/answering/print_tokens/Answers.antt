use Rattle.std.proofs.Common.{refl, rules}
use Rattle.lytab.proofs.answering.print_tokens.Goals as goal

pub returns-in-Err-Lex-clause-refused : goal.returns-in-Err-Lex-clause-refused
returns-in-Err-Lex-clause-refused g c =
    let ensures = c.in-Err-Lex.ensures in
    rw c.of_files.ensures (
      (
        ensures.of_text _ (search rules),
        ensures.within _ (search rules),
        ensures.refused _ (search rules),
        ensures.heavy_pattern _ (search rules),
        ensures.none_light _ (search rules),
      ),
      refl,
    )
