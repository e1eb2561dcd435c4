-- A run over what has come of a text, token by token.
use Rattle.std.specs.Prelude.{◌≡◌, ℕ, ◌+◌, Bool, List, [], false, true, map, Result, Ok, Err}
use Rattle.ly_base.specs.Lexed.{Place, Token, place_after}
use Rattle.ly_base.specs.declared.lexeme.Lexeme.{Lexeme}
use Rattle.ly_feed.specs.Closed.{progress_of}
use Rattle.ly_feed.specs.SyntaxError.{verdict_of}
use Rattle.ly_feed.specs.Onward.{Onward, IsSettled, IsTokenAt}
use Rattle.ly_feed.specs.ScanPart.{ScanPart, condition_in, scanner_in}
use Rattle.ly_feed.specs.TableAnswer.{Progress}
use Rattle.ly_feed.specs.Verdict.{faulty, refused}
use Rattle.ly_feed.specs.Vocabularies.{constructor_in, name_in}
use Rattle.ly_feed.specs.declared.text_fault.TextFault.{TextFault}
use Rattle.ly_feed.specs.declared.text_fault.TextFault.TheVariants.{FaultyTables, OutOfMemory}
use Rattle.ly_feed.specs.declared.syntax_error.SyntaxError.{SyntaxError}
use Rattle.ly_feed.specs.declared.names.Names.{Names}
use Rattle.ly_feed.specs.declared.running.Halt.{Halt}
use Rattle.ly_feed.specs.declared.running.Halt.TheVariants.{At, Stopped}
use Rattle.ly_feed.specs.declared.running.Ended.{Ended}
use Rattle.ly_feed.specs.declared.running.Ended.TheVariants.{Accepted, Refused}
use Rattle.ly_pack.specs.Machine.{Machine}
use Rattle.ly_pack.specs.Values.{rule_from}
use Rattle.ly_parse.specs.declared.token_outcome.TokenOutcome.{TokenOutcome}
use Rattle.ly_parse.specs.declared.token_outcome.TokenOutcome.TheVariants.{Accepts, Over, Reads, Refuses}
use Rattle.ly_parse.specs.declared.token_outcome.TokenOutcome.TheVariants as answers
use Rattle.ly_parse.specs.Expected.{AreExpected}
use Rattle.ly_parse.specs.Feeding.{Feeds, done, states_on}
use Rattle.ly_parse.specs.Feeding as fed
use Rattle.ly_parse.specs.Parse.{IsTellable, Parse}
use Rattle.ly_scan.specs.Pieces.{IsUndecided}
use Rattle.ly_tree.specs.Costs.{IsBoundedBySize}
use Rattle.ly_tree.specs.Forest.{Grown, StandsFor}
use Rattle.ly_tree.specs.Shown.{Vocabulary}
use Rattle.ly_tree.specs.Term.{Term}

-- the words of names in memory
abbrev pub words_of : Names → Vocabulary
words_of n = record {
  terminal = name_in (map (λ name. name.items) n.terminals.now);
  constructor = constructor_in (map rule_from n.rules.now);
}

-- a lexeme has a token
abbrev pub HasToken : ScanPart → Place → Lexeme → Type 0
HasToken p q t = (token : Token ℕ) × IsTokenAt p q t token

-- What becomes of a lexeme: the run goes on behind it, whatever comes; or its token is refused, and a refusal can be
-- told; or the tables are at fault, whatever comes. The end alone is accepted. Want of memory says nothing.
abbrev pub IsTaken : Bool → ScanPart → Machine → Progress → Lexeme → Parse → TokenOutcome → Type 0
IsTaken ended p m w t r Reads = Onward ended p m w (progress_of (place_after (condition_in p) w.place t) r)
    × (r.over ≡ false)
IsTaken ended p m w t r Refuses = (token : Token ℕ) × IsTokenAt p w.place t token × Feeds m token w.stack fed.refused
    × (r.asked ≡ states_on w.stack) × (r.count ≡ w.count) × IsTellable r
IsTaken ended p m w t r answers.FaultyTables = IsSettled ended p m w faulty
IsTaken ended p m w t r answers.OutOfMemory = Unit {0}
IsTaken ended p m w t r Accepts = ⊥
IsTaken ended p m w t r Over = ⊥

-- the flaw names the token of a lexeme, the number behind those that a parse has read, and what is expected in its
-- place
abbrev pub IsRefusalAt : ScanPart → Place → Lexeme → Parse → SyntaxError → Type 0
IsRefusalAt p q t r syntax_error = (token : Token ℕ) × (ts : List ℕ) × IsTokenAt p q t token
    × AreExpected r.machine r.asked ts
    × (verdict_of syntax_error ≡ refused (r.count + 1) token ts)

-- a run halts at a place where the next match isn't decided, or at the end of the text
abbrev pub Halts : Bool → ScanPart → Place → Type 0
Halts true p q = q.rest ≡ []
Halts false p q = IsUndecided (scanner_in p) q

-- How far a run comes: to where it halts, the parse not being over; or something is wrong, or the tables are at fault,
-- whatever comes. Want of memory says nothing.
abbrev pub IsRunOn : Bool → ScanPart → Machine → Progress → Parse → Result Halt TextFault → Type 0
IsRunOn ended p m w r (Ok (At q)) = Onward ended p m w (progress_of q r) × Halts ended p q × (r.over ≡ false)
IsRunOn ended p m w r (Ok (Stopped syntax_error)) = IsSettled ended p m w (verdict_of syntax_error)
IsRunOn ended p m w r (Err FaultyTables) = IsSettled ended p m w faulty
IsRunOn ended p m w r (Err OutOfMemory) = Unit {0}
IsRunOn ended p m w r (Err _) = ⊥

-- the end as a token, where it stands at a byte
abbrev pub end_token : ℕ → Token ℕ
end_token at = record { terminal = 0; at = at; bytes = [] }

-- What a parse that isn't over does with the end of the text, which stands at a byte: it accepts it with a term that
-- the forest pays for, or refuses it, or the tables are at fault. Want of memory says nothing.
abbrev pub IsLast : Parse → ℕ → Grown → Result Ended TextFault → Type 0
IsLast s at forest (Ok (Accepted root)) = (d : Term) × Feeds s.machine (end_token at) s.stack (done d)
    × StandsFor forest root d × IsBoundedBySize forest d
IsLast s at forest (Ok (Refused syntax_error)) = (ts : _) × Feeds s.machine (end_token at) s.stack fed.refused
    × AreExpected s.machine (states_on s.stack) ts × (verdict_of syntax_error ≡ refused (s.count + 1) (end_token at) ts)
IsLast s at forest (Err FaultyTables) = Feeds s.machine (end_token at) s.stack fed.faulty
IsLast s at forest (Err OutOfMemory) = Unit {0}
IsLast s at forest (Err _) = ⊥
