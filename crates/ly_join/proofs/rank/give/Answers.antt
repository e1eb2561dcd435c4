use Rattle.std.proofs.Common.{◌≡◌, ◌∙◌, ◌++◌, ◌∷◌, ◌+◌, [], ap, arith, List, map}
use Rattle.std.proofs.Common.{slice_set, Some, subst, sym, take, drop}
use Rattle.std.proofs.lemmas.List.{append_assoc}
use Rattle.std.proofs.lemmas.Option.{slice_get_within}
use Rattle.ly_join.specs.Precedences.{IsGivenTwice}
use Rattle.ly_join.specs.Private.Rules.{AreGiven}
use Rattle.ly_join.specs.Private.Tables.{terminal_of}
use Rattle.ly_join.specs.Terminals.{terminal_from, TerminalName}
use Rattle.ly_join.specs.declared.precedence.Precedence.{Precedence}
use Rattle.ly_join.proofs.GivenLemmas.{free_place, given_again, given_more}
use Rattle.ly_join.proofs.ListLemmas.{mapped_all, mapped_in, mapped_more, mapped_split, read_in}
use Rattle.ly_join.proofs.rank.give.Goals as goal

pub number-requires : goal.number-requires
number-requires c = c.requires.all (terminal_of c.symbol-item.result) (mapped_in terminal_of c.args.symbols.now
    c.symbol-item.result (read_in c.args.symbols.now c.loop-symbol.symbol-index c.symbol-item.result
    c.loop-symbol-test.true c.symbol-item.is))

pub returns-then-is_some-clause-fault : goal.returns-then-is_some-clause-fault
returns-then-is_some-clause-fault c = λ before given.
    let symbol = c.symbol-item.result in
    let at = c.loop-symbol.symbol-index in
    let ts = c.args.terminals.now in
    let p = c.args.precedence in
    let all : List (TerminalName × Precedence) = map (λ s. (terminal_of s, p)) c.args.symbols.now in
    let done = before ++ take at all in
    let back = drop (at + 1) all in
    let whole : before ++ all ≡ done ++ (terminal_of symbol, p) ∷ back
    = ap (λ xs. before ++ xs) (mapped_split (λ s. (terminal_of s, p)) c.args.symbols.now at symbol
    c.loop-symbol-test.true c.symbol-item.is)
    ∙ sym (append_assoc before (take at all) ((terminal_of symbol, p) ∷ back)) in
    let twice : IsGivenTwice (done ++ (terminal_of symbol, p) ∷ back) (terminal_of symbol)
    = given_again done ts c.loop-symbol.given c.number.result.0 (terminal_of symbol)
    (c.loop-symbol.invariant before given) c.number.ensures p back (sym c.is_some.ensures ∙ c.if-is_some.true) in
    subst (λ xs. IsGivenTwice xs (terminal_from c.in_ok-name_of.field-0)) (sym whole)
    (subst (IsGivenTwice (done ++ (terminal_of symbol, p) ∷ back)) (sym c.in_ok-name_of.ensures) twice)

pub bounds-given-at-in-loop-symbol : goal.bounds-given-at-in-loop-symbol
bounds-given-at-in-loop-symbol c =
    omega (
      arith,
      slice_get_within c.args.terminals.now c.number.result.0 (terminal_of c.symbol-item.result) c.number.ensures,
      c.requires.long,
      c.loop-symbol.auto.given,
    )

pub loop-symbol-preserved : goal.loop-symbol-preserved
loop-symbol-preserved c = λ before given.
    let symbol = c.symbol-item.result in
    let at = c.loop-symbol.symbol-index in
    let ts = c.args.terminals.now in
    let p = c.args.precedence in
    let all : List (TerminalName × Precedence) = map (λ s. (terminal_of s, p)) c.args.symbols.now in
    let more : before ++ take (at + 1) all ≡ (before ++ take at all) ++ (terminal_of symbol, p) ∷ []
    = ap (λ xs. before ++ xs) (mapped_more (λ s. (terminal_of s, p)) c.args.symbols.now at symbol
    c.loop-symbol-test.true c.symbol-item.is)
    ∙ sym (append_assoc before (take at all) ((terminal_of symbol, p) ∷ [])) in
    subst (λ xs. AreGiven xs ts (slice_set c.loop-symbol.given c.number.result.0 (Some p))) (sym more)
    (given_more (before ++ take at all) ts c.loop-symbol.given c.number.result.0 (terminal_of symbol)
    (c.loop-symbol.invariant before given) c.number.ensures p c.requires.once
    (free_place c.loop-symbol.given c.number.result.0 (sym c.is_some.ensures ∙ c.if-is_some.false)))

pub returns-clause-ok : goal.returns-clause-ok
returns-clause-ok c = λ before given.
    subst (λ xs. AreGiven (before ++ xs) c.args.terminals.now c.loop-symbol.given)
    (mapped_all (λ s. (terminal_of s, c.args.precedence)) c.args.symbols.now c.loop-symbol.symbol-index
    c.loop-symbol-test.false)
    (c.loop-symbol.invariant before given)
