-- An encoding of a level of a parser's stack.
use Rattle.std.specs.Prelude.{ℕ, refl}
use Rattle.std.specs.Coded.{Coded, code_by, coded×, coded_ℕ}
use Rattle.ly_parse.specs.Feeding.{Level}
use Rattle.ly_tree.specs.GrownCode.{term_code}
use Rattle.ly_tree.specs.Term.{Term}

abbrev pub level_code : Coded Level
level_code = code_by (ℕ × Term) (coded× coded_ℕ term_code) (λ l. (l.state, l.term))
    (λ p. record { state = p.0; term = p.1 }) (λ _. refl)
