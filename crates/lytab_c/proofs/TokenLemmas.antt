-- What is said of tokens over a text is put into blocks and told.
use Rattle.std.proofs.Common.{◌≡◌, ◌<◌, ◌≤◌, ◌+◌, ◌^◌, ◌++◌, ◌∷◌, [], ℕ, suc, List, ap, arith, drop, drop-cons, get_or}
use Rattle.std.proofs.Common.{inr, length, map, refl, subst, sym}
use Rattle.std.specs.Prelude.{◌≢◌, All, Err, IfOk, Ok, Result, Some}
use Rattle.std.proofs.lemmas.List.Elements.{All-cons, All-tail}
use Rattle.ly_drive.specs.Answering.{IsDriven}
use Rattle.ly_drive.specs.DriveFault.{drive_number}
use Rattle.ly_drive.specs.declared.fault.DriveFault.TheVariants.{Tables, Text}
use Rattle.ly_base.specs.Lexed as lexed
use Rattle.ly_feed.specs.SyntaxError.{token_of, verdict_of}
use Rattle.ly_feed.specs.TableAnswer.{end_of}
use Rattle.ly_feed.specs.declared.syntax_error.SyntaxError.{SyntaxError}
use Rattle.ly_feed.specs.declared.syntax_error.SyntaxError.TheVariants as syntax_errors
use Rattle.ly_feed.specs.declared.text_fault.TextFault.{TextFault}
use Rattle.ly_feed.specs.declared.text_fault.TextFault.TheVariants.{FaultyTables, OutOfMemory, Read, TooLong, Write}
use Rattle.ly_places.proofs.TokenLemmas.{same_extent}
use Rattle.ly_places.specs.Parsing.{IsParsedAs}
use Rattle.ly_places.specs.PlacedAnswer as answer
use Rattle.ly_places.specs.PlacedAnswer.{verdict_of as plain_of, PlacedVerdict}
use Rattle.ly_places.specs.TokenAnswer.{token_over, IsPlacedTokenVerdict, IsTokenOver, IsTokenVerdict}
use Rattle.ly_places.specs.declared.parsing.Parsed.{Parsed}
use Rattle.ly_places.specs.declared.parsing.Parsed.TheVariants as parsed
use Rattle.ly_places.specs.declared.placed_token.PlacedToken.{PlacedToken}
use Rattle.ly_tables.specs.Refusal.{IsRefusedAs}
use Rattle.ly_tables.specs.TableSet.{TableSet}
use Rattle.ly_tables.specs.declared.fault.TableFault.{TableFault}
use Rattle.ly_tables.specs.declared.fault.TableFault.TheVariants as file
use Rattle.lytab_c.specs.Parsing.{ParseBlocks}
use Rattle.lytab_c.specs.Private.Putting.{FitsSyntaxError, IsFaultTold}
use Rattle.lytab_c.specs.Private.TokenPutting.{AreTokensSaid, IsFaultOver, IsParsedOver}
use Rattle.lytab_c.specs.Reports.{TellsFault}
use Rattle.lytab_c.specs.Tokens.{given_over, placed_from, AreTokensParsed, IsFirstWrong, IsTokenFaultOf}
use Rattle.lytab_c.specs.declared.report.Report.{Report}
use Rattle.lytab_c.specs.declared.status.Status.{Status}
use Rattle.lytab_c.specs.declared.status.Status.TheVariants.{Done, Fault, Memory, Misused, Refused, Short}
use Rattle.lytab_c.specs.declared.caller_token.CallerToken.{CallerToken}

-- a fault that has a number is no want of memory
not_memory : (fault : TableFault) (number : ℕ) → drive_number (Tables fault) ≡ Some number → fault ≢ file.OutOfMemory
not_memory fault number is same =
    let off : drive_number (Tables file.OutOfMemory) ≡ Some number
    = subst (λ f. drive_number (Tables f) ≡ Some number) same is in cc

module _ (text : List ℕ) (tokens : List CallerToken) (old new : ParseBlocks) (report : Report) where
  -- a fault
  pub fault_said : (s : TableSet) (status : Status) (fault : TextFault) → IsFaultOver s text tokens fault
      → IsFaultTold (Text fault) report status → new ≡ old → AreTokensSaid s text tokens old new report status
  fault_said s Done fault is told kept = absurd told
  fault_said s Refused fault is told kept = absurd told
  fault_said s Fault fault is told kept = (Text fault, is, told, kept)
  fault_said s Memory fault is told kept = (told.1, kept)
  fault_said s Misused fault is told kept = absurd told
  fault_said s Short fault is told kept = absurd told

  -- a refused table file
  pub tables_refused : (tables : List ℕ) (status : Status) (fault : TableFault) → IsRefusedAs tables fault
      → IsFaultTold (Tables fault) report status → new ≡ old
      → AreTokensParsed tables text tokens old new report status
  tables_refused tables Done fault is told kept = absurd told
  tables_refused tables Refused fault is told kept = absurd told
  tables_refused tables Fault fault is told kept =
      (Tables fault, (not_memory fault told.0 told.1, is), told, kept)
  tables_refused tables Memory fault is told kept = (told.1, kept)
  tables_refused tables Misused fault is told kept = absurd told
  tables_refused tables Short fault is told kept = absurd told

  -- a fault on the tokens is told of the set that the file spells
  fault_of : (tables : List ℕ) (s : TableSet) (fault : TextFault) → IsDriven tables s
      → IsFaultOver s text tokens fault → TellsFault (Text fault) report
      → IsTokenFaultOf tables text tokens (Text fault)
  fault_of tables s FaultyTables driven is tells = (s, driven, is)
  fault_of tables s OutOfMemory driven is tells = absurd (let off = tells.1 in cc)
  fault_of tables s TooLong driven is tells = absurd is
  fault_of tables s Read driven is tells = absurd is
  fault_of tables s (Write written) driven is tells = absurd is

  -- what a set says is said by the table file that spells it
  pub file_said : (tables : List ℕ) (s : TableSet) (status : Status) → IsDriven tables s
      → AreTokensSaid s text tokens old new report status → AreTokensParsed tables text tokens old new report status
  file_said tables s Done driven said = (said.0, (s, driven, said.1), said.2, said.3, said.4)
  file_said tables s Refused driven said = (said.0, (s, driven, said.1), said.2, said.3, said.4)
  file_said tables s Fault driven (Text fault, is, tells, kept) =
      (Text fault, fault_of tables s fault driven is tells, tells, kept)
  file_said tables s Fault driven (Tables fault, is, tells, kept) = absurd is
  file_said tables s Memory driven said = said
  file_said tables s Misused driven said = (s, driven, said.0, said.1, said.2, said.3)
  file_said tables s Short driven said = (said.0, (s, driven, said.1), said.2, said.3, said.4)

-- what is found of tokens for a parser is found of the tokens that were given
pub parsed_over : (s : TableSet) (text : List ℕ) (tokens : List CallerToken) (placed : List PlacedToken)
    (r : Result Parsed TextFault) → placed ≡ map placed_from tokens
    → IfOk r (λ p. (v : PlacedVerdict) × IsPlacedTokenVerdict s text (map (token_over text) placed) v
    × IsParsedAs text v p) → IfOk r (IsParsedOver s text tokens)
parsed_over s text tokens placed (Err e) same told = tt
parsed_over s text tokens placed (Ok (parsed.Tree ps)) same (v, is, (t, accepted, parts)) = (
  t,
  subst (IsPlacedTokenVerdict s text (given_over text tokens)) accepted
      (subst (λ ts. IsPlacedTokenVerdict s text (map (token_over text) ts) v) same is),
  parts,
)
parsed_over s text tokens placed (Ok (parsed.Refused syntax_error)) same (v, is, plain) =
    by_verdict v syntax_error (subst (λ ts. IsPlacedTokenVerdict s text (map (token_over text) ts) v) same is) plain
  where
    by_verdict : (v : PlacedVerdict) (syntax_error : SyntaxError)
        → IsPlacedTokenVerdict s text (given_over text tokens) v
        → plain_of text v ≡ verdict_of syntax_error
        → IsTokenVerdict s text (given_over text tokens) (verdict_of syntax_error)
    by_verdict (answer.accepted t) (syntax_errors.Refused number token expected) is plain =
        absurd (let no : ⊥ = cc in no)
    by_verdict (answer.accepted t) (syntax_errors.NoRule byte) is plain = absurd (let no : ⊥ = cc in no)
    by_verdict (answer.refused k t ts) syntax_error is plain =
        subst (IsTokenVerdict s text (given_over text tokens)) plain is
    by_verdict (answer.unmatched byte) syntax_error is plain = absurd is
    by_verdict answer.faulty (syntax_errors.Refused number token expected) is plain = absurd (let no : ⊥ = cc in no)
    by_verdict answer.faulty (syntax_errors.NoRule byte) is plain = absurd (let no : ⊥ = cc in no)

-- The first wrong token, if there is one, stands among those from an index on.
pub record IsWrongFrom (terminals count i : ℕ) (tokens : List CallerToken) : Type 0 where
  pub wrong : (k : ℕ) → IsFirstWrong terminals count (drop i tokens) k → IsFirstWrong terminals count tokens (i + k)
  pub right : All (λ t. IsTokenOver terminals count (placed_from t)) (drop i tokens)
      → All (λ t. IsTokenOver terminals count (placed_from t)) tokens

module _ (terminals count i : ℕ) (tokens : List CallerToken) (d : CallerToken) (inside : i + 1 ≤ length tokens)
    (so_far : IsWrongFrom terminals count i tokens) where
  abbrev here : CallerToken
  here = get_or tokens i d

  split : drop i tokens ≡ here ∷ drop (suc i) tokens
  split = drop-cons tokens i d (omega (arith, inside))

  pub next_right : IsTokenOver terminals count (placed_from here) → IsWrongFrom terminals count (i + 1) tokens
  next_right is =
      let next : suc i ≡ i + 1 = omega arith in
      record {
        wrong = λ k wrong. subst (IsFirstWrong terminals count tokens)
            (let same : i + suc k ≡ i + 1 + k = omega arith in same)
            (so_far.wrong (suc k) (subst (λ ts. IsFirstWrong terminals count ts (suc k)) (sym split)
            (inr (is, k, refl, subst (λ n. IsFirstWrong terminals count (drop n tokens) k) (sym next) wrong))));
        right = λ are. so_far.right
            (subst (All (λ t. IsTokenOver terminals count (placed_from t))) (sym split)
            (All-cons (λ t. IsTokenOver terminals count (placed_from t)) here (drop (suc i) tokens) is
            (subst (λ n. All (λ t. IsTokenOver terminals count (placed_from t)) (drop n tokens)) (sym next) are)));
      }

-- Each token ends among so many bytes.
abbrev pub AllEndWithin : ℕ → List (lexed.Token ℕ) → Type 0
AllEndWithin count [] = Unit {0}
AllEndWithin count (t ∷ ts) = (t.at + length t.bytes ≤ count) × AllEndWithin count ts

one_within : (count : ℕ) (before : List (lexed.Token ℕ)) (t : lexed.Token ℕ) (behind : List (lexed.Token ℕ))
    → AllEndWithin count (before ++ t ∷ behind) → t.at + length t.bytes ≤ count
one_within count [] t behind h = h.0
one_within count (u ∷ us) t behind h = one_within count us t behind h.1

given_within : (terminals : ℕ) (text : List ℕ) (tokens : List CallerToken)
    → All (λ t. IsTokenOver terminals (length text) (placed_from t)) tokens
    → AllEndWithin (length text) (given_over text tokens ++ end_of text ∷ [])
given_within terminals text [] h = (omega arith, tt)
given_within terminals text (t ∷ ts) h =
    let first = h 0 t (omega arith) in
    let end = ap (λ e. e.end) (same_extent text (placed_from t) first.within) in
    let low : t.end ≤ length text = first.within.inside in (
      subst (λ n. n ≤ length text) (sym end) low,
      given_within terminals text ts (All-tail (λ u. IsTokenOver terminals (length text) (placed_from u)) t ts h),
    )

-- so a refused one does
pub token_syntax_error_fits : (s : TableSet) (text : List ℕ) (tokens : List CallerToken) (syntax_error : SyntaxError)
    → length text < 2 ^ 64
    → All (λ t. IsTokenOver (length s.terminals) (length text) (placed_from t)) tokens
    → IsTokenVerdict s text (given_over text tokens) (verdict_of syntax_error) → FitsSyntaxError syntax_error
token_syntax_error_fits s text tokens (syntax_errors.Refused number token expected) fits right is =
    let comes = is.1 in
    let within = one_within (length text) is.0 (token_of token) comes.behind
    (subst (AllEndWithin (length text)) comes.split (given_within (length s.terminals) text tokens right)) in
    omega (arith, within, fits)
token_syntax_error_fits s text tokens (syntax_errors.NoRule byte) fits right is = tt
