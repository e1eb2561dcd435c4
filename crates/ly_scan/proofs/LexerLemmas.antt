-- A lexer over a text that comes in pieces.
use Rattle.std.proofs.Common.{◌≡◌, ℕ, List, ◌++◌, Option, Some, None, arith, false, is_some, subst, sym}
use Rattle.std.specs.Prelude.{Bool, IfSome, MatchOption}
use Rattle.ly_base.specs.Lexed.{Place, moved}
use Rattle.ly_scan.proofs.KnownWalkLemmas.{known_on}
use Rattle.ly_scan.proofs.MatcherLemmas.{not_ended}
use Rattle.ly_scan.specs.KnownWalks.{AreKnown, Known}
use Rattle.ly_scan.specs.Lexer.{Scanner}
use Rattle.ly_scan.specs.LoneBytes.{IsLoneAt}
use Rattle.ly_scan.specs.Matcher.{IsDecidedMatch, IsUnderway, StandsBehind, Underway}
use Rattle.ly_scan.specs.Lexers.{IsUnderwayAt, Lexer, scanner_of}
use Rattle.ly_scan.specs.Pieces.{IsUndecided, PassesOver, and_one, behind, none_yet}
use Rattle.ly_scan.specs.StateTable.{StandsIn, StateTable, ahead_at}
use Rattle.ly_scan.specs.Walk.{Walk}
use Rattle.ly_scan.specs.declared.matching.Match.{Match}
use Rattle.ly_scan.specs.declared.state_rows.RowStart.{RowStart}

-- what has become of a match behind some bytes: it is under way, or decided
abbrev pub Becomes : StateTable → ℕ → Bool → List ℕ → Option Match → Underway RowStart → Type 0
Becomes t condition line seen o u = MatchOption o
    (IsUnderway ((scanner_of t).walk condition line) (ahead_at t) (StandsIn t) seen u)
    (IsDecidedMatch ((scanner_of t).walk condition line) (scanner_of t).cut seen)

-- a match that all bytes at a place don't decide is under way
pub underway_at : (l : Lexer) (q : Place) (condition : ℕ) (line : Bool) (bytes : List ℕ) (o : Option Match)
    (u : Underway RowStart) → condition ≡ q.condition → line ≡ q.line → bytes ≡ q.rest
    → IsUndecided (scanner_of l.scanner) q → Becomes l.scanner condition line bytes o u → IsUnderwayAt l q u
underway_at l q condition line bytes o u conditions lines left still h =
    by_answer o (subst (λ w. Becomes l.scanner q.condition q.line w o u) left
    (subst (λ b. Becomes l.scanner q.condition b bytes o u) lines
    (subst (λ k. Becomes l.scanner k line bytes o u) conditions h)))
  where
    by_answer : (o : Option Match) → Becomes l.scanner q.condition q.line q.rest o u → IsUnderwayAt l q u
    by_answer None h = h
    by_answer (Some m) h = absurd (still h.some h.ended)

-- its walk may stand where it does
pub stands_at : (l : Lexer) (q : Place) (u : Underway RowStart) → IsUnderwayAt l q u → IfSome u.at (StandsIn l.scanner)
stands_at l q u h = by_place u.at h.there
  where
    by_place : (at : Option RowStart)
        → StandsBehind ((scanner_of l.scanner).walk q.condition q.line) (ahead_at l.scanner) (StandsIn l.scanner)
        q.rest at
        → IfSome at (StandsIn l.scanner)
    by_place None there = tt
    by_place (Some at) there = there.0

-- and isn't decided
pub undecided_at : (l : Lexer) (q : Place) (u : Underway RowStart) → IsUnderwayAt l q u
    → IsUndecided (scanner_of l.scanner) q
undecided_at l q u h = not_ended ((scanner_of l.scanner).walk q.condition q.line) (ahead_at l.scanner)
    (StandsIn l.scanner) q.rest u.at h.there

-- behind more bytes too, where they don't decide it
pub goes_on_at : (l : Lexer) (q : Place) (bytes : List ℕ) (o : Option Match) (u : Underway RowStart)
    → Becomes l.scanner q.condition q.line (q.rest ++ bytes) o u → is_some o ≡ false
    → IsUnderwayAt l (behind q bytes) u × IsUndecided (scanner_of l.scanner) (behind q bytes)
goes_on_at l q bytes None u h e = (h, undecided_at l (behind q bytes) u h)
goes_on_at l q bytes (Some m) u h e = absurd cc

-- one more lexeme of one byte is passed over
pub passes_one : (s : Scanner) (passed : List Bool) (p q r : Place) → PassesOver s passed p q → IsLoneAt s passed q
    → r ≡ moved q 1 None → PassesOver s passed p r
passes_one s passed p q r so_far one at = subst (PassesOver s passed p) (sym at)
    (and_one one.lexeme so_far one.stands one.one one.is_passed)

-- what is known at a place is known behind lexemes of one byte that are passed over
pub known_passed : (s : Scanner) (passed : List Bool) (ahead : ℕ → Walk) (ended : Bool) (known : Known) (q r : Place)
    → PassesOver s passed q r → AreKnown ahead ended q.rest known → AreKnown ahead ended r.rest known
known_passed s passed ahead ended known q r none_yet h = h
known_passed s passed ahead ended known q r (and_one {r = m} t on stands one is_passed) h =
    let some = stands.some in let within = stands.within in
    known_on ahead ended m.rest known 1 (omega (arith, some, within))
    (known_passed s passed ahead ended known q m on h)
