-- A lex file has an action for each rule.
use Rattle.std.proofs.Common.{◌≡◌, ◌∙◌, ℕ, suc, List, [], ◌∷◌, ap, length, map, refl, sym}
use Rattle.std.proofs.lemmas.List.{length-map}
use Rattle.std.proofs.lemmas.Slice.Zip.{AllZip-long}
use Rattle.ly_ere.specs.Names.{Definition}
use Rattle.ly_ere.specs.declared.pattern.Rule.{Rule}
use Rattle.ly_join.specs.Joined.{Joined, Spec}
use Rattle.ly_join.specs.Scanning.{IsScanAction, acting_of, scanning_of}
use Rattle.ly_lexread.specs.Action.{AreEffects, Effect, Saying, effect_of, next, own}
use Rattle.ly_lexread.specs.Conditions.{Condition}
use Rattle.ly_lexread.specs.LexText.{LexText}
use Rattle.ly_lexread.specs.Rules.{Rules, end, rule, skip}
use Rattle.ly_lexread.specs.declared.file.LexFile.{LexFile}
use Rattle.ly_yaccread.specs.File.{Written}

rules_said : {cs : List Condition} {names : List Definition} {text : List ℕ} {rules : List Rule}
    {sayings : List Saying} {lefts : List ℕ} → Rules cs names text rules sayings lefts → length rules ≡ length sayings
rules_said (end text over) = refl
rules_said (skip text rest rules sayings lefts skips more) = rules_said more
rules_said (rule text rest r s rules sayings lefts before more) = ap suc (rules_said more)

sayings_done : (ss : List Saying) (es : List Effect) → AreEffects ss es → length ss ≡ length es
sayings_done [] [] h = refl
sayings_done [] (e ∷ es) h = absurd h
sayings_done (own d ∷ ss) [] h = absurd h
sayings_done (own d ∷ ss) (e ∷ es) h = ap suc (sayings_done ss es h.1)
sayings_done (next ∷ ss) [] h = absurd h
sayings_done (next ∷ ss) (e ∷ []) h = absurd h
sayings_done (next ∷ ss) (e ∷ f ∷ es) h = ap suc (sayings_done ss (f ∷ es) h.1)

-- and so has the specification that it is joined to
pub rules_act : (lex : List ℕ) (file : LexFile) (w : Written) (s : Spec) → LexText lex file
    → Joined (scanning_of file) w s → length file.rules.items ≡ length s.scanner
rules_act lex file w s text joined = rules_said text.rules
    ∙ sayings_done text.sayings (map effect_of file.actions.items) text.effects
    ∙ length-map file.actions.items effect_of ∙ sym (length-map file.actions.items acting_of)
    ∙ sym (AllZip-long (IsScanAction s.terminals) (map acting_of file.actions.items) s.scanner joined.scanner)
