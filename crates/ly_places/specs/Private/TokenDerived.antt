-- The derivation of tokens over a text.
use Rattle.std.specs.Prelude.{◌≡◌, ℕ, ◌+◌, List, [], ◌++◌, Result, Ok, Err, Option, None, Some, false, length, map}
use Rattle.ly_base.specs.Lexed.{Token}
use Rattle.ly_base.specs.Trees.{Tree, yield_of}
use Rattle.ly_spans.specs.Spans.{span_of}
use Rattle.ly_feed.specs.SyntaxError.{verdict_of}
use Rattle.ly_feed.specs.TableAnswer.{end_of}
use Rattle.ly_feed.specs.Verdict.{accepted, faulty, refused}
use Rattle.ly_feed.specs.declared.syntax_error.SyntaxError.{SyntaxError}
use Rattle.ly_feed.specs.declared.running.Ended.{Ended}
use Rattle.ly_feed.specs.declared.running.Ended.TheVariants as ended
use Rattle.ly_feed.specs.declared.text_fault.TextFault.{TextFault}
use Rattle.ly_feed.specs.declared.text_fault.TextFault.TheVariants.{FaultyTables, OutOfMemory}
use Rattle.ly_pack.specs.Machine.{Machine}
use Rattle.ly_parse.specs.Expected.{AreExpected}
use Rattle.ly_parse.specs.Feeding as fed
use Rattle.ly_parse.specs.Feeding.{Feeds, states_on}
use Rattle.ly_parse.specs.Parse.{Parse}
use Rattle.ly_parse.specs.Reading.{ReadsTokens}
use Rattle.ly_parse.specs.Deriving.{Derives, shape_of_rule}
use Rattle.ly_places.specs.Shapes.{Fits, keeping_rule}
use Rattle.ly_places.specs.TokenAnswer.{ComesOf, IsTokenVerdict}
use Rattle.ly_places.specs.declared.derivation.Derivation.{Derivation}
use Rattle.ly_places.specs.declared.derivation.Derived.{Derived}
use Rattle.ly_places.specs.declared.derivation.Derived.TheVariants.{Accepted, Refused}
use Rattle.ly_tables.specs.TableSet.{TableSet, machine_of}
use Rattle.ly_tree.specs.Forest.{Grown, StandsFor}
use Rattle.ly_tree.specs.Term.{Term, build}

-- How far tables come with tokens: they read all of them, and the parse isn't over; or one is refused, or the tables
-- are at fault. Want of memory says nothing.
abbrev pub AreReadOver : Machine → List (Token ℕ) → Parse → Result (Option SyntaxError) TextFault → Type 0
AreReadOver m tokens q (Ok None) = ReadsTokens m [] tokens q.stack × (q.count ≡ length tokens) × (q.over ≡ false)
AreReadOver m tokens q (Ok (Some syntax_error)) = (before : List (Token ℕ)) × (t : Token ℕ) × (ts : List ℕ)
    × (c : ComesOf m tokens before t fed.refused) × AreExpected m (states_on c.last) ts
    × (verdict_of syntax_error ≡ refused (length before + 1) t ts)
AreReadOver m tokens q (Err FaultyTables) = (before : List (Token ℕ)) × (t : Token ℕ)
    × ComesOf m tokens before t fed.faulty
AreReadOver m tokens q (Err OutOfMemory) = Unit {0}
AreReadOver m tokens q (Err _) = ⊥

-- What a parse that isn't over does with the end of a text: it accepts it with a term that the forest has, or refuses
-- it, or the tables are at fault. Want of memory says nothing.
abbrev pub IsEndRead : Parse → List ℕ → Grown → Result Ended TextFault → Type 0
IsEndRead p text forest (Ok (ended.Accepted root)) = (d : Term)
    × Feeds p.machine (end_of text) p.stack (fed.done d) × StandsFor forest root d
IsEndRead p text forest (Ok (ended.Refused syntax_error)) = (ts : List ℕ)
    × Feeds p.machine (end_of text) p.stack fed.refused × AreExpected p.machine (states_on p.stack) ts
    × (verdict_of syntax_error ≡ refused (p.count + 1) (end_of text) ts)
IsEndRead p text forest (Err FaultyTables) = Feeds p.machine (end_of text) p.stack fed.faulty
IsEndRead p text forest (Err OutOfMemory) = Unit {0}
IsEndRead p text forest (Err _) = ⊥

-- A derivation of tokens in memory: where they stand, and the tree with which the tables accept them, as rules build it
-- that keep their bodies. It has the tokens behind some others (behind none, where the tables accept with one level on their stack), and their term is
-- what the set's rules build of it.
pub record IsDerivationOver (s : TableSet) (text : List ℕ) (tokens : List (Token ℕ)) (x : Derivation) : Type 0 where
  pub before : List (Token ℕ)
  pub tree : Tree
  pub derives : Derives (machine_of s) tokens (end_of text) tree
  pub yields : tokens ≡ before ++ yield_of tree
  pub fits : Fits s.rules tree
  pub says : IsTokenVerdict s text tokens (accepted (build (shape_of_rule s.rules) tree))
  pub extents : x.tokens.items ≡ map span_of tokens
  pub root : StandsFor x.forest x.root (build (shape_of_rule (map keeping_rule s.rules)) tree)

-- What is found of tokens over a text: a derivation, or what is wrong with them, or the tables are at fault. Want of
-- memory says nothing.
abbrev pub IsTokenDerived : TableSet → List ℕ → List (Token ℕ) → Result Derived TextFault → Type 0
IsTokenDerived s text tokens (Ok (Accepted x)) = IsDerivationOver s text tokens x
IsTokenDerived s text tokens (Ok (Refused syntax_error)) = IsTokenVerdict s text tokens (verdict_of syntax_error)
IsTokenDerived s text tokens (Err FaultyTables) = IsTokenVerdict s text tokens faulty
IsTokenDerived s text tokens (Err OutOfMemory) = Unit {0}
IsTokenDerived s text tokens (Err _) = ⊥
