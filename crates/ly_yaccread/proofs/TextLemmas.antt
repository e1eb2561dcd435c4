-- What a yacc file says is determined.
use Rattle.std.proofs.Common.{◌≡◌, ◌∙◌, ℕ, List, None, subst, sym}
use Rattle.ly_yaccread.specs.Declarations.{Declarations, Declaring, none_declared}
use Rattle.ly_yaccread.specs.File.{Written}
use Rattle.ly_yaccread.specs.Private.Read.{Says, file_at}
use Rattle.ly_yaccread.specs.Rules.{YaccRules, Ruling}
use Rattle.ly_yaccread.specs.Words.{Word, AreWordsOf}
use Rattle.ly_yaccread.specs.YaccText.{YaccText, YaccTextIsOne}
use Rattle.ly_yaccread.specs.declared.part.Part.TheVariants.{Declarations as in_declarations}
use Rattle.ly_yaccread.specs.declared.standing.Standing.{Standing}
use Rattle.ly_yaccread.proofs.DeclarationLemmas.{declarations_one}
use Rattle.ly_yaccread.proofs.RuleLemmas.{rules_one}
use Rattle.ly_yaccread.proofs.WordingLemmas.{wording_one}

-- what the declarations of a text say, and where its tokens stand among its words
abbrev pub declaring : {bytes : List ℕ} {w : Written} → YaccText bytes w → Declaring
declaring {w = w} t = record { preamble = w.preamble; tokens = t.tokens }

-- the words of a text say what it says
pub text_says : (bytes : List ℕ) (ws : List Word) (os : List ℕ) → AreWordsOf bytes ws os → (w : Written)
    (t : YaccText bytes w) → Says ws (declaring t) w.rules t.standings
text_says bytes ws os spelled w t =
    let same = wording_one _ in_declarations bytes t.words ws t.offsets os t.spelled spelled in
    record {
      behind = t.behind;
      declarations = subst (λ u. Declarations none_declared u (declaring t) t.behind) same.0 t.declarations;
      rules = t.rules;
    }

says_one : (ws : List Word) (d e : Declaring) (rs qs : List Ruling) (ss ts : List Standing) → Says ws d rs ss
    → Says ws e qs ts → (d ≡ e) × (rs ≡ qs) × (ss ≡ ts)
says_one ws d e rs qs ss ts a b =
    let one = declarations_one none_declared d e ws a.behind b.behind a.declarations b.declarations in
    let both = rules_one None b.behind rs qs ss ts (subst (λ u. YaccRules None u rs ss) one.1 a.rules) b.rules in
    (one.0, both.0, both.1)

-- a text that says something says what its words say
is_file_at : (bytes : List ℕ) (w : Written) (t : YaccText bytes w) → w ≡ file_at t.offsets (declaring t) w.rules
    t.standings
is_file_at bytes w t = λ i. record {
  preamble = w.preamble;
  rules = w.rules;
  token_offsets = t.tokens_stand i;
  rule_offsets = t.rules_stand i;
}

pub text_one : YaccTextIsOne
text_one bytes v w a b =
    let offsets = wording_one _ in_declarations bytes a.words b.words a.offsets b.offsets a.spelled b.spelled in
    let one = says_one a.words (declaring a) (declaring b) v.rules w.rules a.standings b.standings
    (text_says bytes a.words a.offsets a.spelled v a) (text_says bytes a.words a.offsets a.spelled w b) in
    is_file_at bytes v a
    ∙ (λ i. file_at (offsets.1 i) (one.0 i) (one.1 i) (one.2 i))
    ∙ sym (is_file_at bytes w b)
